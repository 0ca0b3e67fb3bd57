use Rattle.std.proofs.Common.{◌++◌, ◌∙◌, ℕ, List, set, ap}
use Rattle.colour_list.specs.Level.{with_right}
use Rattle.colour_list.proofs.Edits.{pushed}
use Rattle.colour_list.proofs.level.push_each.Goals as goal

pub loop-colour-preserved : goal.loop-colour-preserved
loop-colour-preserved c =
    pushed (λ (a : ℕ). with_right c.args.quandle.now c.args.row.now
    (set c.args.colours.now c.args.row.now.left_end a)) c.args.next.now.items c.loop-colour.next.items c.extend_from_slice.new.self.items c.loop-colour.colour
    c.open.new.colours
    (c.in_ok-extend_from_slice.ensures.items ∙ ap (λ (ys : List (List ℕ)). c.loop-colour.next.items ++ ys) c.from_ref.ensures.value)
    c.open.ensures c.loop-colour.invariant
