use Rattle.std.proofs.Common.{◌≡◌, ◌++◌, map, take, drop}
use Rattle.code_rows.specs.RowSigns.{replaced}
use Rattle.code_rows.proofs.row_signs.replace.Given as goal

abbrev pub invariant-loop-k : goal.invariant-loop-k
invariant-loop-k l = l.ties ≡ map (replaced l.from l.to l.turn) (take l.k l.fn.ties) ++ drop l.k l.fn.ties
