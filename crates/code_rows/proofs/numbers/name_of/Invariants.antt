use Rattle.std.proofs.Common.{◌≡◌, ◌<◌, ◌==◌, ℕ, false}
use Rattle.std.specs.Prelude.{slice_index}
use Rattle.code_rows.specs.Rows.{edge_number}
use Rattle.code_rows.proofs.numbers.name_of.Given as goal

abbrev pub invariant-loop-name : goal.invariant-loop-name
invariant-loop-name l = (j : ℕ) → j < l.name-index → (edge_number l.names (slice_index l.names j) == l.edge) ≡ false
