use Rattle.std.proofs.Common.{◌≡◌, ◌==◌, ◌++◌, map, take, drop, cond, min, max}
use Rattle.code_rows.proofs.code_map.unite.Given as goal

abbrev pub invariant-loop-place : goal.invariant-loop-place
invariant-loop-place l = l.numbers ≡ map (λ i. cond (i == max l.one l.other) (min l.one l.other) i) (take l.place l.fn.numbers) ++ drop l.place l.fn.numbers
