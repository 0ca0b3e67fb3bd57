-- Blocks that were read have texts, and so has what is found by them.
use Rattle.std.proofs.Common.{◌≡◌, ◌≤◌, ◌++◌, ◌∙◌, ℕ, Bool, true, false, List, [], ◌∷◌, Option, Some, None, Ok, length, cond, refl, sym, subst, arith}
use Rattle.std.specs.List.{All, AllByRecursion}
use Rattle.std.specs.Option.{option_or, option_map}
use Rattle.std.proofs.lemmas.List.Elements.{All-from_recursion, All-append, recursion_from_All}
use Rattle.grid_core.specs.declared.grid.TheConstants.{MAX_SIZE}
use Rattle.grid_core.specs.Diagram.{Diagram, IsGrid}
use Rattle.colour_seeds.specs.declared.progress.Step.{Step}
use Rattle.colour_seeds.specs.Plan.{IsPlan, seed_columns}
use Rattle.colour_seeds.proofs.Seeds.{seeds_fit}
use Rattle.text_lines.specs.Lines.{text_of}
use Rattle.text_items.specs.declared.quandles.TheConstants.{MAX_QUANDLES}
use Rattle.text_items.specs.Reading.{◌>>=◌, text_end}
use Rattle.knot_text.proofs.Steady.{bind_ok, ok_is}
use Rattle.evidence_core.specs.declared.blocks.Block.{Block}
use Rattle.evidence_core.specs.declared.evidence.Evidence.{Evidence}
use Rattle.evidence_core.specs.declared.evidence.Evidence.TheVariants.{Linking}
use Rattle.number_text.specs.Blocks.{listed_blocks, blocks_in, blocks_of}
use Rattle.quandle_core.specs.declared.operations.TheConstants.{MAX_LARGE_ORDER}
use Rattle.evidence_core.specs.Links.{linked_of}
use Rattle.evidence_core.specs.Links.{are_same_links}
use Rattle.certificates.specs.Printed.{HasBlockText}
use Rattle.certificate_check.specs.Decision.{IsByWrittenBlock}
use Rattle.certificate_check.proofs.BlocksSay.{blocks_text}
use Rattle.number_search.specs.declared.seed_pair.SeedPair.{SeedPair}
use Rattle.number_search.specs.Told.{ArePlansOf, tells, first_telling, evidence_by, told_by_linking, told_by_blocks, told_apart}
use Rattle.seek_core.specs.Given.{more_blocks}

-- ---- what was read

given_texts : (bytes : List ℕ) (given : List Block) → blocks_of bytes ≡ Ok given → AllByRecursion HasBlockText given
unfolding blocks_in
given_texts bytes given is =
    let listed = bind_ok (listed_blocks MAX_LARGE_ORDER MAX_QUANDLES (text_of bytes)) (λ listed. text_end listed.1 >>= λ end. Ok listed.0) given is in
    let ended = bind_ok (text_end listed.0.1) (λ end. Ok listed.0.0) given listed.2 in
    subst (λ (bs : List Block). AllByRecursion HasBlockText bs) (ok_is listed.0.0 given ended.2)
    (blocks_text MAX_LARGE_ORDER MAX_QUANDLES (text_of bytes) listed.0.1 listed.0.0 (omega arith) listed.1)

pub more_texts : (before more all : List Block) (bytes : List ℕ) → All HasBlockText before → blocks_of bytes ≡ Ok more → all ≡ before ++ more
    → All HasBlockText all
more_texts before more all bytes texts read is =
    subst (λ (bs : List Block). All HasBlockText bs) (sym is)
    (All-append HasBlockText before more texts (All-from_recursion HasBlockText more (given_texts bytes more read)))

-- ---- what is found

few_seeds : (d : Diagram) (plan : List Step) → IsGrid d → IsPlan d plan → length (seed_columns plan) ≤ MAX_SIZE
few_seeds d plan grid is = seeds_fit d plan is.last grid is.leads

by_blocks : (d e : Diagram) (s : SeedPair) (given : List Block) (x : Evidence) → IsGrid d → IsGrid e → ArePlansOf d e s
    → AllByRecursion HasBlockText given → told_by_blocks d e s given ≡ Some x → IsByWrittenBlock x
by_blocks d e s [] x one two plans texts is = absurd cc
by_blocks d e s (b ∷ given) x one two plans texts is = by (tells d e s b) is (by_blocks d e s given x one two plans texts.1)
  where
    by : (t : Bool) → option_map (evidence_by d e s) (cond t (Some b) (first_telling d e s given)) ≡ Some x
        → (told_by_blocks d e s given ≡ Some x → IsByWrittenBlock x) → IsByWrittenBlock x
    by true is others =
        let found : evidence_by d e s b ≡ x = cc in
        subst (λ (y : Evidence). IsByWrittenBlock y) found (texts.0, few_seeds d s.first one plans.first, few_seeds e s.second two plans.second)
    by false is others = others is

by_linking : (d e : Diagram) (x : Evidence) → told_by_linking d e ≡ Some x → IsByWrittenBlock x
by_linking d e x is = by (are_same_links (linked_of d) (linked_of e)) is
  where
    by : (t : Bool) → cond t None (Some (Linking (linked_of d) (linked_of e))) ≡ Some x → IsByWrittenBlock x
    by true is = absurd cc
    by false is = let found : Linking (linked_of d) (linked_of e) ≡ x = cc in subst (λ (y : Evidence). IsByWrittenBlock y) found tt

pub by_written : (d e : Diagram) (s : SeedPair) (given : List Block) (x : Evidence) → IsGrid d → IsGrid e → ArePlansOf d e s → All HasBlockText given
    → told_apart d e s given ≡ Some x → IsByWrittenBlock x
by_written d e s given x one two plans texts is = by (told_by_linking d e) refl is
  where
    by : (o : Option Evidence) → told_by_linking d e ≡ o → option_or o (told_by_blocks d e s given) ≡ Some x → IsByWrittenBlock x
    by None none is = by_blocks d e s given x one two plans (recursion_from_All HasBlockText given texts) is
    by (Some y) some is = by_linking d e x (some ∙ is)
