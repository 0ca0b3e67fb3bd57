use Rattle.std.proofs.Common.{◌≡◌, ◌<◌, ℕ, List, length, get_or}
use Rattle.code_grids.specs.Renaming.{AreInverse}
use Rattle.code_grids.proofs.same_code.put_places.Given as goal

abbrev pub invariant-loop-place : goal.invariant-loop-place
invariant-loop-place l = (length l.back ≡ length l.there)
    × ((wanted : List ℕ) → AreInverse (length l.there) l.there wanted → (j : ℕ) → j < l.place → get_or l.back (get_or l.there j 0) 0 ≡ j)
