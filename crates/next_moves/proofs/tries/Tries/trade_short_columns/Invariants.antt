use Rattle.std.proofs.Common.{◌≤◌, ◌+◌, length}
use Rattle.std.specs.List.{range_with_len, flat_map}
use Rattle.grid_core.specs.Diagram.{size}
use Rattle.next_moves.specs.Tries.{column_trade_tries}
use Rattle.next_moves.specs.Extends.{Extends}
use Rattle.next_moves.proofs.tries.Tries.trade_short_columns.Given as goal

abbrev pub invariant-loop-c : goal.invariant-loop-c
invariant-loop-c l = record {
  offered : Extends l.self.diagram l.self.cap (flat_map (column_trade_tries (size l.self.diagram)) (range_with_len 0 l.c)) l.initial.list.items l.list.items;
  fits : length l.list.items ≤ length l.initial.list.items + l.c;
}
