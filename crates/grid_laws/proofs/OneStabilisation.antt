-- A destabilisation undoes exactly one stabilisation.
use Rattle.std.proofs.Common.{◌≡◌, ◌<◌, ◌+◌, ◌∙◌, ℕ, arith, sym, subst}
use Rattle.grid_core.specs.declared.mark.Kind.{Kind}
use Rattle.grid_core.specs.declared.mark.Corner.{Corner}
use Rattle.grid_core.specs.Diagram.{Diagram, size, row_of}
use Rattle.grid_moves.specs.declared.step.Move.TheVariants.{Stabilise, Destabilise}
use Rattle.grid_moves.specs.Stabilisation.{Stabilises}
use Rattle.grid_moves.specs.BlockMarks.{block_kind, block_corner}
use Rattle.grid_moves.specs.Step.{Step}
use Rattle.grid_moves.proofs.Blocks.{block_made}
use Rattle.grid_moves.proofs.BlockTests.{block_kind_is, block_corner_is}
use Rattle.grid_moves.proofs.OneResult.{step_once}
use Rattle.grid_moves.proofs.Undone.{stabilise_back, destabilise_back}

pub undone_by : (c r : ℕ) (d e : Diagram) → Step d (Destabilise c r) e
    → (kind : Kind) × ((corner : Corner) × (Step e (Stabilise c kind corner) d × (row_of kind e c ≡ r)))
undone_by c r d e step =
    let back = destabilise_back c r d e step in
    let m = step.marks in
    let kind_is = block_kind_is c r m.kind m.corner d step.before m.columns (block_made c r m.kind m.corner e d step.after m.undone) in
    (block_kind d c r, (block_corner d c r, (back, subst (λ k. row_of k e c ≡ r) (sym kind_is) m.undone.marked.row)))

pub undoes : (c r : ℕ) (d e : Diagram) (kind : Kind) (corner : Corner) → Step e (Stabilise c kind corner) d → row_of kind e c ≡ r → Step d (Destabilise c r) e
undoes c r d e kind corner step row = subst (λ (z : ℕ). Step d (Destabilise c z) e) row (stabilise_back c kind corner e d step)

shape_of : (c r : ℕ) (d e : Diagram) (kind : Kind) (corner : Corner) → Step e (Stabilise c kind corner) d → row_of kind e c ≡ r
    → (block_kind d c r ≡ kind) × (block_corner d c r ≡ corner)
shape_of c r d e kind corner step row =
    let s : ℕ = step.marks.1.0 in
    let stab : Stabilises c kind corner s e d = step.marks.1.1 in
    let is : s ≡ r = sym stab.marked.row ∙ row in
    let block = block_made c r kind corner e d step.before (subst (λ (z : ℕ). Stabilises c kind corner z e d) is stab) in
    let inside : c + 1 < size d = omega (arith, stab.larger, stab.marked.inside) in
    (block_kind_is c r kind corner d step.after inside block, block_corner_is c r kind corner d step.after inside block)

pub one_stabilisation : (c r : ℕ) (d e f : Diagram) (kind kind' : Kind) (corner corner' : Corner) → Step e (Stabilise c kind corner) d → row_of kind e c ≡ r
    → Step f (Stabilise c kind' corner') d → row_of kind' f c ≡ r → (e ≡ f) × (kind ≡ kind') × (corner ≡ corner')
one_stabilisation c r d e f kind kind' corner corner' one row two row' =
    let a = shape_of c r d e kind corner one row in
    let b = shape_of c r d f kind' corner' two row' in
    (step_once d (Destabilise c r) e f (undoes c r d e kind corner one row) (undoes c r d f kind' corner' two row'), sym a.0 ∙ b.0, sym a.1 ∙ b.1)
