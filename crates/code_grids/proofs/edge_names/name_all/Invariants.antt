use Rattle.std.proofs.Common.{◌<◌, ℕ, List, length}
use Rattle.code_grids.specs.Renaming.{AreInverse, IsSame, IsSameAt}
use Rattle.code_grids.proofs.edge_names.name_all.Given as goal

abbrev pub invariant-loop-k : goal.invariant-loop-k
invariant-loop-k l = AreInverse (length l.fn.there) l.there l.back
    × ((wanted wanted_back : List ℕ) → AreInverse (length l.fn.there) wanted wanted_back → IsSame wanted l.crossings l.ones l.twos
    → (j : ℕ) → j < l.k → IsSameAt l.there l.crossings l.ones l.twos j)
