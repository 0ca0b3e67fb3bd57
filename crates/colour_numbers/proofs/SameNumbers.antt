-- Equivalent diagrams have equal numbers.
use Rattle.std.proofs.Common.{◌≡◌, ℕ, [], ◌∷◌, Option, Some, None, ap}
use Rattle.grid_core.specs.Diagram.{Diagram}
use Rattle.grid_moves.specs.Joining.{Equivalent}
use Rattle.quandle_core.specs.Quandle.{Table, IsQuandle}
use Rattle.colour_laws.proofs.Counted.{equivalent_lengths}
use Rattle.colour_weights.proofs.Counted.{equivalent_weights}
use Rattle.colour_weights.proofs.ShadowCounted as shadows
use Rattle.evidence_core.specs.declared.blocks.LargeWeighing.{LargeWeighing}
use Rattle.evidence_core.specs.declared.blocks.LargeWeighing.TheVariants.{Strands, Regions}
use Rattle.colour_numbers.specs.Numbers.{numbers, IsCocycleOrNone}

pub same_numbers : (t : Table) (o : Option LargeWeighing) (d e : Diagram) → IsQuandle t → IsCocycleOrNone o → Equivalent d e → numbers t o d ≡ numbers t o e
same_numbers t None d e quandle none joined = ap (λ (n : ℕ). n ∷ []) (equivalent_lengths t quandle d e joined)
same_numbers t (Some (Strands w)) d e quandle cocycle joined = equivalent_weights w cocycle d e joined
same_numbers t (Some (Regions s)) d e quandle cocycle joined = shadows.equivalent_weights s.cocycle cocycle d e joined
