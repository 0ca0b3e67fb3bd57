use Rattle.std.proofs.Common.{◌≡◌, take, None}
use Rattle.std.specs.Prelude.{fold}
use Rattle.code_rows.proofs.Pairs.{seen}
use Rattle.code_rows.proofs.rows_fault.least_unpaired.Given as goal

abbrev pub invariant-loop-name : goal.invariant-loop-name
invariant-loop-name l = l.least ≡ fold (seen l.names) None (take l.name-index l.names)
