use Rattle.std.proofs.Common.{◌≡◌, ◌∙◌, List, length, true, sym, subst}
use Rattle.std.specs.List.{All}
use Rattle.linking_core.specs.Component.{components}
use Rattle.linking_core.specs.Linking.{linking}
use Rattle.verdict_core.specs.declared.problem.ProblemText.{ProblemText}
use Rattle.verdict_core.specs.Diagrams.{grid_of}
use Rattle.knot_text.proofs.Steady.{ok_is}
use Rattle.evidence_core.specs.declared.blocks.Block.{Block}
use Rattle.number_check.specs.EvidenceHolds.{numbers_by}
use Rattle.number_search.specs.declared.seed_pair.SeedPair.{SeedPair}
use Rattle.number_search.specs.Told.{ArePlansOf, fits_both}
use Rattle.number_search.proofs.Held.{linking_agrees, blocks_agree}
use Rattle.seek_core.proofs.laws.what_was_tried_in_vain_no_numbers_tell_apart.Goals as goal

pub returns-clause-linking : goal.returns-clause-linking
returns-clause-linking c = λ bytes tried p vain read.
    subst (λ (q : ProblemText). (length (components (grid_of q.first)) ≡ length (components (grid_of q.second)))
    × (linking (grid_of q.first) ≡ linking (grid_of q.second)))
    (ok_is vain.problem p (sym vain.read ∙ read)) (linking_agrees (grid_of vain.problem.first) (grid_of vain.problem.second) vain.linking)

pub returns-clause-blocks : goal.returns-clause-blocks
returns-clause-blocks c = λ bytes blocks tried p vain read.
    subst (λ (q : ProblemText). (s : SeedPair) × ArePlansOf (grid_of q.first) (grid_of q.second) s
    × All (λ (b : Block). fits_both s b ≡ true → numbers_by b (grid_of q.first) ≡ numbers_by b (grid_of q.second)) blocks)
    (ok_is vain.problem p (sym vain.read ∙ read))
    (vain.seeds, vain.plans, blocks_agree (grid_of vain.problem.first) (grid_of vain.problem.second) vain.seeds blocks vain.in_vain)
