use Rattle.std.proofs.Common.{sym, subst, ◌++◌, ◌∷◌, ◌∙◌, [], append_assoc}
use Rattle.grid_core.specs.Diagram.{Diagram}
use Rattle.grid_moves.specs.Joining.{Joins}
use Rattle.grid_keys.specs.Shifts.{shift_moves}
use Rattle.meeting_walks.proofs.Spelled.{joined_on}
use Rattle.meeting_walks.proofs.spelling.push_path.Goals as goal

pub loop-place-preserved : goal.loop-place-preserved
loop-place-preserved c = λ d from.
    let next = c.in-Some.next in
    let old = c.loop-place.moves.items in
    let shifts = shift_moves next.shifts.0 next.shifts.1 in
    let more = shifts ++ next.step ∷ [] in
    joined_on old more c.push_to.new.moves.items d c.loop-place.here _ (c.in_ok-here.ensures.list ∙ append_assoc old shifts (next.step ∷ []))
    (c.loop-place.invariant d from) (subst (λ (e : Diagram). Joins c.loop-place.here more e) (sym c.in_ok-here.ensures.grid) c.in-Some.ensures)
