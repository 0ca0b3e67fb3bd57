-- The walker of a row.
use Rattle.std.proofs.Common.{◌<◌, ℕ, List, [], ◌∷◌, fold, arith}
use Rattle.std.specs.Prelude.{slice_index}
use Rattle.grid_core.specs.Diagram.{Diagram}
use Rattle.grid_core.specs.Parts.{ends, is_up}
use Rattle.colour_rows.specs.Walk.{passed}
use Rattle.colour_weights.specs.declared.walker.Walker.{Walker}
use Rattle.cocycle_core.specs.Cocycle.{Cochain}
use Rattle.colour_weights.specs.WalkSum.{stepped, walked}

-- the walker at each step
abbrev pub step_at : Cochain → Diagram → List ℕ → Walker → ℕ → Walker
step_at w d f at c = stepped w (is_up d c) at (slice_index f c)

-- sums stay below the modulus
sum_below : (w : Cochain) → 0 < w.modulus → (d : Diagram) (f cs : List ℕ) (at : Walker) → at.sum < w.modulus → (fold (step_at w d f) at cs).sum < w.modulus
sum_below w some d f [] at lt = lt
sum_below w some d f (c ∷ cs) at lt = sum_below w some d f cs (step_at w d f at c) (omega (arith, some))

pub walked_below : (w : Cochain) → 0 < w.modulus → (d : Diagram) (f : List ℕ) (r : ℕ) → (walked w d f r).sum < w.modulus
walked_below w some d f r = sum_below w some d f (passed d r) (record { colour = slice_index f (ends d r).low; sum = 0 }) some
