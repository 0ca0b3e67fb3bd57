use Rattle.std.proofs.Common.{◌≡◌, ◌<◌, ◌+◌, ℕ, map, take}
use Rattle.code_rows.specs.Rows.{row_of_crossing}
use Rattle.code_text.specs.GaussSigns.{sign_by, positive_at}
use Rattle.code_text.proofs.gauss_signs.signed.Given as goal

abbrev pub invariant-loop-k : goal.invariant-loop-k
invariant-loop-k l =
    (map row_of_crossing l.found.items ≡ map row_of_crossing (take l.k l.crossings))
    × ((j : ℕ) → j < l.k → positive_at l.found.items j ≡ sign_by l.passages (j + 1) (positive_at l.crossings j))
