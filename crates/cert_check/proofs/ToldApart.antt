-- What a quandle tells apart is not equivalent.
use Rattle.std.proofs.Common.{◌∙◌, ap, sym, length, ℕ, List}
use Rattle.grid_core.specs.Diagram.{Diagram}
use Rattle.grid_moves.specs.Joining.{Equivalent}
use Rattle.quandle_core.specs.Quandle.{Table, IsQuandle}
use Rattle.colour_laws.proofs.Counted.{equivalent_lengths}
use Rattle.verdict_core.specs.Evidence.{TellsApart}

pub told_apart : (t : Table) (d e : Diagram) (one two : List (List ℕ)) → IsQuandle t → TellsApart t d e one two → Equivalent d e → ⊥
told_apart t d e one two quandle told equivalent =
    told.differ (ap (λ (z : List (List ℕ)). length z) told.first ∙ equivalent_lengths t quandle d e equivalent ∙ sym (ap (λ (z : List (List ℕ)). length z) told.second))
