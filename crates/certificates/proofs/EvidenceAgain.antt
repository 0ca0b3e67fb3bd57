-- Lines of evidence that were printed are read again.
use Rattle.std.proofs.Common.{◌≡◌, ℕ, ◌≤◌, ◌<◌, ◌+◌, ◌==◌, ℤ, unsigned_abs, inl, inr, List, [], ◌∷◌, ◌++◌, length, map, true, false, Option, Some, None, Ok}
use Rattle.std.proofs.Common.{refl, ap, ap₂, subst, ◌∙◌, arith, codes, nat_lt}
use Rattle.std.specs.List.{AllByRecursion, list_any}
use Rattle.std.specs.Fmt.{decimal}
use Rattle.std.proofs.lemmas.Bool.{cases_lt, lt-ltb, le-ltb, or_from, eq-eqb}
use Rattle.arrayvec.specs.ArrayVec.{ArrayVec}
use Rattle.grid_core.specs.declared.grid.TheConstants.{MAX_SIZE}
use Rattle.quandle_core.specs.declared.operations.TheConstants.{MAX_LARGE_ORDER}
use Rattle.quandle_core.specs.Quandle.{Table}
use Rattle.cocycle_core.specs.ShadowCocycle.{ShadowCochain}
use Rattle.text_lines.specs.Lines.{Text, begins}
use Rattle.text_lines.specs.Spelled.{numbered}
use Rattle.text_items.specs.declared.reading.TheConstants.{MAX_NUMBER}
use Rattle.text_items.specs.Reading.{next_line, next_token, line_end, each_token}
use Rattle.text_items.specs.Numbers.{numbers_behind, low}
use Rattle.text_items.specs.Braids.{letter_of, is_long_letter}
use Rattle.knot_text.specs.Printed.{letter_token, name_tokens, table_lines}
use Rattle.knot_text.proofs.StepsAgain.{line_of, lines_before, IsShort, word_again, count_again, values_again, none_long}
use Rattle.knot_text.proofs.QuandleAgain.{quandle_within_again}
use Rattle.knot_text.proofs.VerdictAgain.{parted}
use Rattle.knot_text.proofs.LettersAgain.{letter_again}
use Rattle.knot_text.proofs.CocycleAgain.{cocycle_again}
use Rattle.evidence_core.specs.declared.shadows.Spelling.{Spelling}
use Rattle.evidence_core.specs.declared.shadows.Spelling.TheVariants as spelling
use Rattle.evidence_core.specs.declared.shadows.SpelledShadow.{SpelledShadow}
use Rattle.certificates.specs.Shadows.{shadow_lines_by, shadow_lines, HasShadowText}
use Rattle.certificates.proofs.ShadowAgain.{shadow_again}
use Rattle.evidence_core.specs.declared.blocks.LargeWeighing.{LargeWeighing}
use Rattle.evidence_core.specs.declared.blocks.LargeWeighing.TheVariants.{Strands, Regions}
use Rattle.evidence_core.specs.declared.blocks.Block.{Block}
use Rattle.evidence_core.specs.declared.evidence.Counted.{Counted}
use Rattle.evidence_core.specs.declared.evidence.Linked.{Linked}
use Rattle.evidence_core.specs.declared.evidence.Evidence.{Evidence}
use Rattle.evidence_core.specs.declared.evidence.Evidence.TheVariants.{Numbers, Linking}
use Rattle.number_text.specs.declared.evidence_items.TheConstants.{THIRD_VERSION}
use Rattle.number_text.specs.BlockCocycles.{cocycle_or_none}
use Rattle.number_text.specs.NumberLines.{seeds_at, numbers_line_at, seeded_numbers_item, components_at, linking_numbers_at, linked_item}
use Rattle.number_text.specs.EvidenceItems.{count_of, numbers_evidence, linking_evidence, evidence_at, head_at, evidence_item}
use Rattle.certificates.specs.Printed.{perhaps_cocycle, counted_lines, linked_lines, third_lines, HasPerhapsText, HasCountedText, HasLinkedText}
use Rattle.certificates.specs.Printed.{HasEvidenceText}

-- ---- seeds and numbers

low_same : (k : ℕ) → k ≤ 255 → low k ≡ k
low_same k few = elim (cases_lt k 255) [
  | inl below ↦ rw (lt-ltb k 255 below) refl
  | inr above ↦ let last : 255 ≡ k = omega (arith, few, above) in rw (le-ltb k 255 above) last
]

lows_same : (ks : List ℕ) → AllByRecursion (λ (s : ℕ). s ≤ 255) ks → map low ks ≡ ks
lows_same [] few = refl
lows_same (k ∷ ks) few = ap₂ (λ (x : ℕ) (xs : List ℕ). x ∷ xs) (low_same k few.0) (lows_same ks few.1)

pub bytes_short : (ks : List ℕ) → AllByRecursion (λ (s : ℕ). s ≤ 255) ks → AllByRecursion IsShort ks
bytes_short [] few = tt
bytes_short (k ∷ ks) few = (omega (arith, few.0), bytes_short ks few.1)

seeds_again : (n : ℕ) (seeds : ArrayVec ℕ) → length seeds.items ≤ MAX_SIZE → AllByRecursion (λ (s : ℕ). s ≤ 255) seeds.items
    → seeds_at (line_of n (codes "seeds" ∷ map decimal seeds.items)) ≡ Ok seeds
unfolding seeds_at numbers_behind
seeds_again n seeds few bytes =
    let short = bytes_short seeds.items bytes in
    let size : nat_lt MAX_SIZE (length seeds.items) ≡ false = le-ltb MAX_SIZE (length seeds.items) few in
    rw (
      word_again (codes "seeds") n (map decimal seeds.items),
      values_again n seeds.items short,
      size,
      none_long seeds.items short,
      lows_same seeds.items bytes,
    ) refl

numbers_again : (due n : ℕ) (ks : List ℕ) → length ks ≡ due → AllByRecursion IsShort ks
    → numbers_line_at due (line_of n (codes "numbers" ∷ map decimal ks)) ≡ Ok ks
unfolding numbers_line_at
numbers_again due n ks many few =
    let same : (length ks == due) ≡ true = eq-eqb (length ks) due many in
    rw (word_again (codes "numbers") n (map decimal ks), values_again n ks few, none_long ks few, same) refl

counted_again : (due n : ℕ) (c : Counted) (text : Text) → HasCountedText due c
    → seeded_numbers_item due (lines_before (numbered n (counted_lines c)) text) ≡ Ok (c, text)
unfolding seeded_numbers_item next_line
counted_again due n c text has =
    rw (seeds_again (n + 1) c.seeds has.few has.seeds, numbers_again due (n + 1 + 1) c.numbers has.many has.numbers) refl

-- ---- a block with its numbers

-- the first line of a shadow cocycle begins with its word, and with no other
shadow_begins : (said : Spelling) (t : ShadowCochain) (n : ℕ) (text : Text)
    → (begins (codes "weight") (lines_before (numbered n (shadow_lines_by said t)) text) ≡ false)
    × (begins (codes "shadow") (lines_before (numbered n (shadow_lines_by said t)) text) ≡ true)
shadow_begins spelling.Mochizuki t n text = (refl, refl)
shadow_begins spelling.Table t n text = (refl, refl)

by_shadow : (quandle : Table) (s : SpelledShadow) (n : ℕ) (text : Text) → HasShadowText quandle s
    → cocycle_or_none quandle (lines_before (numbered n (shadow_lines s)) text) ≡ Ok (Some (Regions s), text)
unfolding cocycle_or_none
by_shadow quandle s n text has =
    let first = shadow_begins s.spelling s.cocycle n text in
    rw (first.0, first.1, shadow_again quandle s n text has) refl

perhaps_again : (quandle : Table) (o : Option LargeWeighing) (n : ℕ) (text : Text) → HasPerhapsText quandle o → begins (codes "weight") text ≡ false
    → begins (codes "shadow") text ≡ false → cocycle_or_none quandle (lines_before (numbered n (perhaps_cocycle o)) text) ≡ Ok (o, text)
unfolding cocycle_or_none
perhaps_again quandle None n text has other also = rw (other, also) refl
perhaps_again quandle (Some (Strands w)) n text has other also =
    let t = lines_before (numbered n (perhaps_cocycle (Some (Strands w)))) text in
    let own : cocycle_or_none w.quandle t ≡ Ok (Some (Strands w), text) = rw (cocycle_again w n text has.cocycle has.few) refl in
    subst (λ (q : Table). cocycle_or_none q t ≡ Ok (Some (Strands w), text)) has.same own
perhaps_again quandle (Some (Regions s)) n text has other also = by_shadow quandle s n text has

block_again : (n : ℕ) (b : Block) (one two : Counted) (text : Text) → HasEvidenceText (Numbers b one two)
    → numbers_evidence (line_of n (name_tokens b.listed.name b.listed.table.order))
    (lines_before (numbered n (table_lines b.listed.name b.listed.table ++ (perhaps_cocycle b.cocycle ++ (counted_lines one ++ counted_lines two)))) text)
    ≡ Ok (Numbers b one two, text)
unfolding numbers_evidence
block_again n b one two text has =
    let line = line_of n (name_tokens b.listed.name b.listed.table.order) in
    let table = table_lines b.listed.name b.listed.table in
    let cocycle = perhaps_cocycle b.cocycle in
    let m = n + length table in
    let k = m + length cocycle in
    let j = k + length (counted_lines one) in
    let last = lines_before (numbered j (counted_lines two)) text in
    let both = lines_before (numbered k (counted_lines one)) last in
    let all = lines_before (numbered m cocycle) both in
    let text_is = parted n table (cocycle ++ (counted_lines one ++ counted_lines two)) text
    ∙ ap (lines_before (numbered n table)) (parted m cocycle (counted_lines one ++ counted_lines two) text
    ∙ ap (lines_before (numbered m cocycle)) (parted k (counted_lines one) (counted_lines two) text)) in
    let named = quandle_within_again MAX_LARGE_ORDER n b.listed.name b.listed.table all (omega arith) has.0.listed.names has.0.listed.factor in
    let weighed = perhaps_again b.listed.table b.cocycle m both has.0.cocycle refl refl in
    let first = counted_again (count_of b.cocycle) k one last has.1 in
    let second = counted_again (count_of b.cocycle) j two text has.2 in
    let read : numbers_evidence line (lines_before (numbered n table) all) ≡ Ok (Numbers b one two, text) = rw (named, weighed, first, second) refl in
    ap (numbers_evidence line) text_is ∙ read

-- ---- linking numbers

letters_again : (n : ℕ) (ls : List ℤ) → AllByRecursion (λ (a : ℤ). unsigned_abs a ≤ MAX_NUMBER) ls → each_token letter_of n (map letter_token ls) ≡ Ok ls
unfolding each_token
letters_again n [] few = refl
letters_again n (a ∷ ls) few = rw (letter_again a few.0, letters_again n ls few.1) refl

no_long_letter : (ls : List ℤ) → AllByRecursion (λ (a : ℤ). unsigned_abs a ≤ MAX_NUMBER) ls → list_any is_long_letter ls ≡ false
no_long_letter [] few = refl
no_long_letter (a ∷ ls) few =
    or_from (is_long_letter a) (list_any is_long_letter ls) (le-ltb MAX_NUMBER (unsigned_abs a) few.0) (no_long_letter ls few.1)

letters_line_again : (n : ℕ) (ls : List ℤ) → AllByRecursion (λ (a : ℤ). unsigned_abs a ≤ MAX_NUMBER) ls
    → linking_numbers_at (line_of n (codes "numbers" ∷ map letter_token ls)) ≡ Ok ls
unfolding linking_numbers_at
letters_line_again n ls few = rw (word_again (codes "numbers") n (map letter_token ls), letters_again n ls few, no_long_letter ls few) refl

components_again : (n k : ℕ) → k ≤ MAX_NUMBER → components_at (line_of n (codes "components" ∷ decimal k ∷ [])) ≡ Ok k
unfolding components_at
components_again n k few = rw (word_again (codes "components") n (decimal k ∷ []), count_again k n few) refl

linked_again : (n : ℕ) (l : Linked) (text : Text) → HasLinkedText l → linked_item (lines_before (numbered n (linked_lines l)) text) ≡ Ok (l, text)
unfolding linked_item next_line
linked_again n l text has =
    rw (components_again (n + 1) l.components has.components, letters_line_again (n + 1 + 1) l.numbers has.numbers) refl

links_again : (n : ℕ) (one two : Linked) (text : Text) → HasEvidenceText (Linking one two)
    → linking_evidence (line_of n []) (lines_before (numbered n (linked_lines one ++ linked_lines two)) text) ≡ Ok (Linking one two, text)
unfolding linking_evidence line_end
links_again n one two text has =
    let m = n + length (linked_lines one) in
    let behind = lines_before (numbered m (linked_lines two)) text in
    let read : linking_evidence (line_of n []) (lines_before (numbered n (linked_lines one)) behind) ≡ Ok (Linking one two, text) =
    rw (linked_again n one behind has.0, linked_again m two text has.1) refl in
    ap (linking_evidence (line_of n [])) (parted n (linked_lines one) (linked_lines two) text) ∙ read

-- ---- behind the head line

head_again : (n : ℕ) → head_at (line_of n (codes "certificate" ∷ decimal THIRD_VERSION ∷ [])) ≡ Ok tt
unfolding head_at
head_again n = rw (word_again (codes "certificate") n (decimal THIRD_VERSION ∷ []), count_again THIRD_VERSION n (omega arith)) refl

pub third_again : (n : ℕ) (evidence : Evidence) (text : Text) → HasEvidenceText evidence
    → evidence_item (lines_before (numbered n (third_lines evidence)) text) ≡ Ok (evidence, text)
unfolding evidence_item evidence_at next_line next_token
third_again n (Numbers b one two) text has =
    rw (head_again (n + 1), word_again (codes "different") (n + 1 + 1) (codes "numbers" ∷ name_tokens b.listed.name b.listed.table.order))
    (block_again (n + 1 + 1) b one two text has)
third_again n (Linking one two) text has =
    rw (head_again (n + 1), word_again (codes "different") (n + 1 + 1) (codes "linking" ∷ [])) (links_again (n + 1 + 1) one two text has)
