use Rattle.std.proofs.Common.{◌≡◌, [], false}
use Rattle.std.specs.List.{list_any}
use Rattle.grid_core.specs.Diagram.{size}
use Rattle.grid_moves.specs.Joining.{JoinsWithin}
use Rattle.grid_moves.specs.Kinds.{is_destabilisation}
use Rattle.mono_simplify.specs.Simplified.{AreMonotonic}
use Rattle.mono_simplify.proofs.simplified.simplify_by.Given as goal

abbrev pub invariant-loop-moves : goal.invariant-loop-moves
invariant-loop-moves l =
    JoinsWithin (size l.grid) l.grid l.moves.items l.here × (list_any is_destabilisation l.moves.items ≡ false → (l.here ≡ l.grid) × (l.moves.items ≡ []))
    × AreMonotonic l.moves.items

abbrev pub decreases-loop-moves : goal.decreases-loop-moves
decreases-loop-moves l = size l.here
