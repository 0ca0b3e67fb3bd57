-- What the rounds of a search come to.
use Rattle.std.proofs.Common.{◌≡◌, ◌∙◌, ◌++◌, ◌&&◌, ◌==◌, not, ℕ, Bool, true, false, List, [], ◌∷◌, Option, Some, None, IfSome, length, take, drop, cond, refl}
use Rattle.std.proofs.Common.{sym, ap, ap₂, subst}
use Rattle.std.specs.List.{AllByRecursion, find}
use Rattle.std.specs.Option.{is_some, option_or}
use Rattle.std.proofs.lemmas.Bool.{eq-eqb}
use Rattle.std.proofs.lemmas.List.{take-append-drop}
use Rattle.std.proofs.lemmas.List.Folds.{find-append}
use Rattle.grid_core.specs.Diagram.{Diagram}
use Rattle.grid_moves.specs.Joining.{Equivalent}
use Rattle.quandle_core.specs.Quandle.{Table, IsQuandle}
use Rattle.colour_list.specs.Fits.{fits}
use Rattle.colour_list.specs.Listing.{colourings}
use Rattle.colour_laws.proofs.Counted.{equivalent_lengths}
use Rattle.quandle_core.specs.Names.{NamedQuandle}
use Rattle.verdict_core.specs.declared.verdict.Verdict.{Verdict}
use Rattle.quandle_core.proofs.Named.{named_is}
use Rattle.knot_text.specs.Printed.{HasQuandleText}
use Rattle.pair_verdict.specs.Separates.{separates, first_separating}
use Rattle.evidence_core.specs.declared.blocks.Block.{Block}
use Rattle.evidence_core.specs.declared.evidence.Evidence.{Evidence}
use Rattle.number_text.specs.declared.said.Said.{Said}
use Rattle.number_text.specs.declared.said.Said.TheVariants as said
use Rattle.number_search.specs.Told.{told_by_linking, told_by_blocks, told_apart}
use Rattle.seek_core.specs.Found.{IsEqualBy, IsVerdictBy, IsVerdictOn, IsFoundOn}
use Rattle.seek_core.specs.Pairs.{SeededPair}
use Rattle.seek_core.specs.Sizes.{smaller_blocks, larger_blocks, as_tried}
use Rattle.seek_core.proofs.LargerLast.{larger_last}

-- ---- no quandle separates diagrams that are joined

never_both : (a : Bool) → a && false ≡ false
never_both true = refl
never_both false = refl

joined_alike : (d e : Diagram) (t : Table) → IsQuandle t → Equivalent d e → separates d e t ≡ false
joined_alike d e t quandle joined =
    let counts : length (colourings t d) == length (colourings t e) ≡ true =
    eq-eqb (length (colourings t d)) (length (colourings t e)) (equivalent_lengths t quandle d e joined) in
    ap (λ (same : Bool). (fits t d && fits t e) && not same) counts ∙ never_both (fits t d && fits t e)

none_where_joined : (d e : Diagram) (qs : List NamedQuandle) → AllByRecursion HasQuandleText qs → Equivalent d e → first_separating d e qs ≡ None
none_where_joined d e [] texts joined = refl
none_where_joined d e (q ∷ qs) texts joined =
    ap (λ (b : Bool). cond b (Some q) (first_separating d e qs)) (joined_alike d e q.table (named_is q.name q.table texts.0.names) joined)
    ∙ none_where_joined d e qs texts.1 joined

equal_verdict : (d e : Diagram) (qs : List NamedQuandle) (v : Verdict) → AllByRecursion HasQuandleText qs → IsEqualBy d e v
    → IsVerdictBy d e (first_separating d e qs) v
equal_verdict d e qs v texts equal =
    subst (λ (q : Option NamedQuandle). IsVerdictBy d e q v) (sym (none_where_joined d e qs texts (equal.moves, equal.joins))) equal

-- ---- a verdict, in the last rounds

pub joined_verdict : (p : SeededPair) (qs : List NamedQuandle) (o : Option Verdict) → AllByRecursion HasQuandleText qs
    → IfSome o (λ v. IsEqualBy p.first p.second v) → is_some o ≡ true → IsVerdictOn p qs o
joined_verdict p qs None texts equal some = absurd cc
joined_verdict p qs (Some v) texts equal some = equal_verdict p.first p.second qs v texts equal

-- ---- all rounds: the first quandles, and the others behind them

parted : (d e : Diagram) (qs : List NamedQuandle) (n : ℕ)
    → first_separating d e qs ≡ option_or (first_separating d e (take n qs)) (first_separating d e (drop n qs))
parted d e qs n =
    ap (first_separating d e) (sym (take-append-drop n qs)) ∙ find-append (λ (q : NamedQuandle). separates d e q.table) (take n qs) (drop n qs)

whole_verdict : (d e : Diagram) (qs : List NamedQuandle) (n : ℕ) (q : Option NamedQuandle) (v : Verdict) → AllByRecursion HasQuandleText qs
    → first_separating d e (take n qs) ≡ q → IsVerdictBy d e q v → IsVerdictBy d e (first_separating d e qs) v
whole_verdict d e qs n (Some q) v texts front told =
    let whole = parted d e qs n ∙ ap (λ o. option_or o (first_separating d e (drop n qs))) front in
    subst (λ (r : Option NamedQuandle). IsVerdictBy d e r v) (sym whole) told
whole_verdict d e qs n None v texts front equal = equal_verdict d e qs v texts equal

pub front_found : (p : SeededPair) (qs front : List NamedQuandle) (n : ℕ) (blocks : List Block) (o : Option Said) → AllByRecursion HasQuandleText qs
    → front ≡ take n qs → IsFoundOn p front blocks o → is_some o ≡ true → IsFoundOn p qs blocks o
front_found p qs front n blocks None texts is found some = absurd cc
front_found p qs front n blocks (Some (said.Verdict v)) texts is found some =
    whole_verdict p.first p.second qs n (first_separating p.first p.second front) v texts (ap (first_separating p.first p.second) (sym is)) found
front_found p qs front n blocks (Some (said.Evidence x)) texts is found some = found

-- nothing is found in front
neither : (p : SeededPair) (qs : List NamedQuandle) (blocks : List Block) (o : Option Said) → IsFoundOn p qs blocks o → is_some o ≡ false
    → (first_separating p.first p.second qs ≡ None) × (told_apart p.first p.second p.seeds blocks ≡ None)
neither p qs blocks None found none = found
neither p qs blocks (Some (said.Verdict v)) found none = absurd cc
neither p qs blocks (Some (said.Evidence x)) found none = absurd cc

others_are : (d e : Diagram) (qs front others : List NamedQuandle) (n : ℕ) → front ≡ take n qs → others ≡ drop n qs → first_separating d e front ≡ None
    → first_separating d e others ≡ first_separating d e qs
others_are d e qs front others n is behind none =
    ap (first_separating d e) behind
    ∙ sym (ap (λ o. option_or o (first_separating d e (drop n qs))) (ap (first_separating d e) (sym is) ∙ none))
    ∙ sym (parted d e qs n)

pub later_verdict : (p : SeededPair) (qs front others : List NamedQuandle) (n : ℕ) (blocks : List Block) (o : Option Said)
    (later : Option Verdict) (v : Verdict)
    → front ≡ take n qs → others ≡ drop n qs → IsFoundOn p front blocks o → is_some o ≡ false
    → IsVerdictOn p others later → later ≡ Some v → IsVerdictBy p.first p.second (first_separating p.first p.second qs) v
later_verdict p qs front others n blocks o later v is behind found none told some =
    let nothing = neither p front blocks o found none in
    subst (λ (q : Option NamedQuandle). IsVerdictBy p.first p.second q v) (others_are p.first p.second qs front others n is behind nothing.0)
    (subst (λ (r : Option Verdict). IsVerdictOn p others r) some told)

pub nothing_later : (p : SeededPair) (qs front others : List NamedQuandle) (n : ℕ) (blocks : List Block) (o : Option Said) (later : Option Verdict)
    → front ≡ take n qs → others ≡ drop n qs → IsFoundOn p front blocks o → is_some o ≡ false → IsVerdictOn p others later → later ≡ None
    → (first_separating p.first p.second qs ≡ None) × (told_apart p.first p.second p.seeds blocks ≡ None)
nothing_later p qs front others n blocks o later is behind found none told last =
    let nothing = neither p front blocks o found none in
    let no_quandle : first_separating p.first p.second others ≡ None = subst (λ (r : Option Verdict). IsVerdictOn p others r) last told in
    (sym (others_are p.first p.second qs front others n is behind nothing.0) ∙ no_quandle, nothing.1)

-- ---- the last round: the larger blocks

pub found_before : (p : SeededPair) (qs : List NamedQuandle) (blocks : List Block) (o : Option Said) → IsFoundOn p qs (smaller_blocks blocks) o
    → is_some o ≡ true → IsFoundOn p qs (as_tried blocks) o
found_before p qs blocks None found some = absurd cc
found_before p qs blocks (Some (said.Verdict v)) found some = found
found_before p qs blocks (Some (said.Evidence x)) found some =
    larger_last p.first p.second p.seeds blocks
    ∙ ap (λ (e : Option Evidence). option_or e (told_by_blocks p.first p.second p.seeds (larger_blocks blocks))) found

-- where nothing is found before, the larger blocks have the say
larger_alone : (p : SeededPair) (qs : List NamedQuandle) (blocks : List Block) (o : Option Said) → IsFoundOn p qs (smaller_blocks blocks) o
    → is_some o ≡ false → told_apart p.first p.second p.seeds (as_tried blocks) ≡ told_by_blocks p.first p.second p.seeds (larger_blocks blocks)
larger_alone p qs blocks o found none =
    let nothing = neither p qs (smaller_blocks blocks) o found none in
    larger_last p.first p.second p.seeds blocks
    ∙ ap (λ (e : Option Evidence). option_or e (told_by_blocks p.first p.second p.seeds (larger_blocks blocks))) nothing.1

pub found_last : (p : SeededPair) (qs : List NamedQuandle) (blocks : List Block) (o : Option Said) (last : Option Evidence) (x : Evidence)
    → IsFoundOn p qs (smaller_blocks blocks) o → is_some o ≡ false → last ≡ told_by_blocks p.first p.second p.seeds (larger_blocks blocks)
    → last ≡ Some x → told_apart p.first p.second p.seeds (as_tried blocks) ≡ Some x
found_last p qs blocks o last x found none is some = larger_alone p qs blocks o found none ∙ sym is ∙ some

pub nothing_last : (p : SeededPair) (qs : List NamedQuandle) (blocks : List Block) (o : Option Said) (last : Option Evidence)
    → IsFoundOn p qs (smaller_blocks blocks) o → is_some o ≡ false → last ≡ told_by_blocks p.first p.second p.seeds (larger_blocks blocks)
    → last ≡ None → (first_separating p.first p.second qs ≡ None) × (told_apart p.first p.second p.seeds (as_tried blocks) ≡ None)
nothing_last p qs blocks o last found none is empty =
    let nothing = neither p qs (smaller_blocks blocks) o found none in
    (nothing.0, larger_alone p qs blocks o found none ∙ sym is ∙ empty)
