-- What blocks tell that are tried in two turns, the larger ones last.
use Rattle.std.proofs.Common.{◌≡◌, ◌∙◌, ◌++◌, ◌+◌, ◌<◌, ℕ, Bool, true, false, List, [], ◌∷◌, Option, Some, None, All, length, get_or, drop}
use Rattle.std.proofs.Common.{cond, not, refl, sym, ap}
use Rattle.std.specs.List.{find, filter}
use Rattle.std.specs.Option.{is_some, option_or, option_map}
use Rattle.std.proofs.lemmas.List.{drop_more}
use Rattle.std.proofs.lemmas.List.Folds.{find-append}
use Rattle.std.proofs.lemmas.List.Elements.{All-append, All-filter, filter-append}
use Rattle.grid_core.specs.Diagram.{Diagram}
use Rattle.evidence_core.specs.declared.blocks.Block.{Block}
use Rattle.evidence_core.specs.declared.evidence.Evidence.{Evidence}
use Rattle.certificates.specs.Printed.{HasBlockText}
use Rattle.number_search.specs.declared.seed_pair.SeedPair.{SeedPair}
use Rattle.number_search.specs.Told.{tells, first_telling, evidence_by, told_by_linking, told_by_blocks, told_apart}
use Rattle.seek_core.specs.Sizes.{is_larger, is_smaller, smaller_blocks, larger_blocks, as_tried}

-- ---- one list behind the other

first_mapped : (f : Block → Evidence) (a b : Option Block) → option_map f (option_or a b) ≡ option_or (option_map f a) (option_map f b)
first_mapped f None b = refl
first_mapped f (Some x) b = refl

told_by_both : (d e : Diagram) (s : SeedPair) (front behind : List Block)
    → told_by_blocks d e s (front ++ behind) ≡ option_or (told_by_blocks d e s front) (told_by_blocks d e s behind)
told_by_both d e s front behind =
    ap (option_map (evidence_by d e s)) (find-append (tells d e s) front behind)
    ∙ first_mapped (evidence_by d e s) (first_telling d e s front) (first_telling d e s behind)

or_again : (a b c : Option Evidence) → option_or a (option_or b c) ≡ option_or (option_or a b) c
or_again None b c = refl
or_again (Some x) b c = refl

pub larger_last : (d e : Diagram) (s : SeedPair) (blocks : List Block)
    → told_apart d e s (as_tried blocks) ≡ option_or (told_apart d e s (smaller_blocks blocks)) (told_by_blocks d e s (larger_blocks blocks))
larger_last d e s blocks =
    ap (option_or (told_by_linking d e)) (told_by_both d e s (smaller_blocks blocks) (larger_blocks blocks))
    ∙ or_again (told_by_linking d e) (told_by_blocks d e s (smaller_blocks blocks)) (told_by_blocks d e s (larger_blocks blocks))

-- blocks that have texts still have them
pub tried_texts : (blocks : List Block) → All HasBlockText blocks → All HasBlockText (as_tried blocks)
tried_texts blocks texts =
    All-append HasBlockText (smaller_blocks blocks) (larger_blocks blocks)
    (All-filter is_smaller HasBlockText blocks texts)
    (All-filter is_larger HasBlockText blocks texts)

-- ---- where none of both sizes tells, none of all does

past : (t : Bool) (b : Block) (few all : Option Block) → cond t (Some b) few ≡ None → (few ≡ None → all ≡ None) → cond t (Some b) all ≡ None
past true b few all none others = absurd cc
past false b few all none others = others none

none_of_all : (p : Block → Bool) (blocks : List Block) → find p (smaller_blocks blocks) ≡ None → find p (larger_blocks blocks) ≡ None
    → find p blocks ≡ None
none_of_all p [] small large = refl
none_of_all p (b ∷ blocks) small large = by (is_larger b) small large (none_of_all p blocks)
  where
    by : (t : Bool) → find p (cond (not t) (b ∷ smaller_blocks blocks) (smaller_blocks blocks)) ≡ None
        → find p (cond t (b ∷ larger_blocks blocks) (larger_blocks blocks)) ≡ None
        → (find p (smaller_blocks blocks) ≡ None → find p (larger_blocks blocks) ≡ None → find p blocks ≡ None)
        → cond (p b) (Some b) (find p blocks) ≡ None
    by true small large others = past (p b) b (find p (larger_blocks blocks)) (find p blocks) large (λ none. others small none)
    by false small large others = past (p b) b (find p (smaller_blocks blocks)) (find p blocks) small (λ none. others none large)

none_mapped : (f : Block → Evidence) (o : Option Block) → option_map f o ≡ None → o ≡ None
none_mapped f None none = refl
none_mapped f (Some b) none = absurd cc

neither_told : (a b : Option Evidence) → option_or a b ≡ None → (a ≡ None) × (b ≡ None)
neither_told None b none = (refl, none)
neither_told (Some x) b none = absurd cc

pub none_told : (d e : Diagram) (s : SeedPair) (blocks : List Block) → told_by_blocks d e s (as_tried blocks) ≡ None → told_by_blocks d e s blocks ≡ None
none_told d e s blocks none =
    let both = neither_told (told_by_blocks d e s (smaller_blocks blocks)) (told_by_blocks d e s (larger_blocks blocks))
    (sym (told_by_both d e s (smaller_blocks blocks) (larger_blocks blocks)) ∙ none) in
    ap (option_map (evidence_by d e s)) (none_of_all (tells d e s) blocks
    (none_mapped (evidence_by d e s) (first_telling d e s (smaller_blocks blocks)) both.0)
    (none_mapped (evidence_by d e s) (first_telling d e s (larger_blocks blocks)) both.1))

-- ---- one block after the other

-- what those blocks tell that pass a test, from a place on
abbrev told_from : Diagram → Diagram → SeedPair → (Block → Bool) → ℕ → List Block → Option Evidence
told_from d e s passes i blocks = told_by_blocks d e s (filter passes (drop i blocks))

one_more : (d e : Diagram) (s : SeedPair) (passes : Block → Bool) (blocks : List Block) (i : ℕ) (b : Block) → i < length blocks → b ≡ get_or blocks i b
    → told_from d e s passes i blocks ≡ option_or (told_by_blocks d e s (filter passes (b ∷ []))) (told_from d e s passes (i + 1) blocks)
one_more d e s passes blocks i b lt is =
    let now : drop i blocks ≡ b ∷ drop (i + 1) blocks = drop_more blocks i b lt ∙ ap (λ (x : Block). x ∷ drop (i + 1) blocks) (sym is) in
    ap (λ (bs : List Block). told_by_blocks d e s (filter passes bs)) now
    ∙ ap (told_by_blocks d e s) (filter-append passes (b ∷ []) (drop (i + 1) blocks))
    ∙ told_by_both d e s (filter passes (b ∷ [])) (filter passes (drop (i + 1) blocks))

pub one_tells : (d e : Diagram) (s : SeedPair) (passes : Block → Bool) (blocks : List Block) (i : ℕ) (b : Block) (o : Option Evidence)
    → i < length blocks → b ≡ get_or blocks i b → o ≡ told_by_blocks d e s (filter passes (b ∷ [])) → is_some o ≡ true
    → told_by_blocks d e s (filter passes (drop i blocks)) ≡ told_by_blocks d e s (filter passes blocks)
    → o ≡ told_by_blocks d e s (filter passes blocks)
one_tells d e s passes blocks i b None lt is one some so_far = absurd cc
one_tells d e s passes blocks i b (Some x) lt is one some so_far =
    sym (sym so_far ∙ one_more d e s passes blocks i b lt is ∙ ap (λ (p : Option Evidence). option_or p (told_from d e s passes (i + 1) blocks)) (sym one))
