use Rattle.std.proofs.Common.{◌≡◌, ◌<◌, ◌≤◌, length, slice_get, Some, Bool, true}
use Rattle.std.specs.List.{Contains}
use Rattle.grid_core.specs.Diagram.{Diagram, size}
use Rattle.grid_keys.specs.declared.key.Packed.{Packed}
use Rattle.grid_keys.specs.Key.{IsKeyOf}
use Rattle.next_moves.specs.Offers.{Leads}
use Rattle.grid_moves.specs.declared.step.Move.{Move}
use Rattle.mono_simplify.proofs.Monotonic.{HasExchanges, AreAll}
use Rattle.mono_simplify.specs.Ways.{keys_in}
use Rattle.mono_simplify.proofs.Ways.{Trails}
use Rattle.mono_simplify.proofs.way.way_to.Given as goal

abbrev pub invariant-loop-here : goal.invariant-loop-here
invariant-loop-here l =
    (l.here < length l.class)
    × Contains l.back.items l.fn.last.step
    × ((key : Packed) (member to : Diagram) → slice_get (keys_in l.class) l.place ≡ Some key → IsKeyOf key member → size member ≡ size l.grid
    → Leads member l.fn.last to → size to ≤ size l.grid → Trails l.grid l.class l.here l.back.items to)
    × ((kind : Move → Bool) → HasExchanges kind → kind l.fn.last.step ≡ true → AreAll kind l.back.items)

abbrev pub decreases-loop-here : goal.decreases-loop-here
decreases-loop-here l = l.here
