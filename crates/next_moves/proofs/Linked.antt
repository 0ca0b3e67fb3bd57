-- A link as a list of moves.
use Rattle.std.proofs.Common.{◌≡◌, ◌≤◌, ◌+◌, ◌++◌, ◌∷◌, ◌∙◌, [], ℕ, arith, sym, refl, ap, subst}
use Rattle.grid_core.specs.Diagram.{Diagram, IsGrid, size}
use Rattle.grid_moves.specs.Joining.{Joins, JoinsWithin}
use Rattle.grid_moves.proofs.Within.{within_append, within_joins, within_larger}
use Rattle.grid_keys.specs.Translation.{translate}
use Rattle.grid_keys.specs.Shifts.{shift_moves}
use Rattle.grid_keys.proofs.Translated.{size-translate}
use Rattle.grid_keys.proofs.Joined.{shifts_joined_within}
use Rattle.next_moves.specs.declared.links.Link.{Link}
use Rattle.next_moves.specs.Offers.{Leads}
use Rattle.next_moves.specs.Links.{link_moves}

pub link_joined_within : (d f : Diagram) (link : Link) (cap : ℕ) → IsGrid d → Leads d link f → size d ≤ cap → size f ≤ cap
    → JoinsWithin cap d (link_moves link) f
link_joined_within d f link cap grid led small same =
    let translated : Diagram = translate d link.before.0 link.before.1 in
    let moved = led.moved in
    let long : size translated ≡ size d = size-translate d link.before.0 link.before.1 led.columns in
    let form = led.form in
    let back : size f ≡ size moved = ap size (sym form.reached) ∙ size-translate moved link.after.0 link.after.1 form.columns in
    let first =
    within_larger (size d) cap (shift_moves link.before.0 link.before.1) d translated small
    (shifts_joined_within d link.before.0 link.before.1 grid led.columns led.rows) in
    let middle : JoinsWithin cap translated (link.step ∷ []) moved = (omega (arith, long, small), (moved, (led.step, (omega (arith, back, same), refl)))) in
    let last =
    within_larger (size moved) cap (shift_moves link.after.0 link.after.1) moved f (omega (arith, back, same))
    (subst (λ g. JoinsWithin (size moved) moved (shift_moves link.after.0 link.after.1) g) form.reached
    (shifts_joined_within moved link.after.0 link.after.1 led.step.after form.columns form.rows)) in
    within_append cap (shift_moves link.before.0 link.before.1 ++ link.step ∷ []) (shift_moves link.after.0 link.after.1) d moved f
    (within_append cap (shift_moves link.before.0 link.before.1) (link.step ∷ []) d translated moved first middle) last

pub link_joined : (d f : Diagram) (link : Link) → IsGrid d → Leads d link f → Joins d (link_moves link) f
link_joined d f link grid led =
    within_joins (size d + size f) (link_moves link) d f (link_joined_within d f link (size d + size f) grid led (omega arith) (omega arith))
