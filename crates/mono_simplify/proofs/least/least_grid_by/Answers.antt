use Rattle.std.proofs.Common.{◌≡◌, List, subst, sym}
use Rattle.grid_core.specs.Diagram.{Diagram}
use Rattle.grid_moves.specs.declared.step.Move.{Move}
use Rattle.mono_simplify.specs.Ways.{keys_in}
use Rattle.mono_simplify.specs.Least.{FindsLeast}
use Rattle.mono_simplify.proofs.Seen.{seen_members, member_there, found_end}
use Rattle.mono_simplify.proofs.least.least_grid_by.Goals as goal

pub grid_of-requires : goal.grid_of-requires
grid_of-requires c =
    let members = seen_members c.args.grid.now c.args.budget (keys_in c.in_ok-seen.seen.class) c.in_ok-seen.seen.end c.size-size.ensures.grid
    c.in_ok-seen.ensures.seen in
    let m = member_there c.args.grid.now (keys_in c.in_ok-seen.seen.class) c.least_place-place.result c.key_at.result members c.key_at.ensures in
    (m.form, m.names)

pub returns : goal.returns
returns c =
    let d : Diagram = c.args.grid.now in
    let keys = keys_in c.in_ok-seen.seen.class in
    let place = c.least_place-place.result in
    let members = seen_members d c.args.budget keys c.in_ok-seen.seen.end c.size-size.ensures.grid c.in_ok-seen.ensures.seen in
    let m = member_there d keys place c.key_at.result members c.key_at.ensures in
    let is : c.grid_of.result ≡ m.form = c.grid_of.ensures m.form m.names in
    subst (λ (e : Diagram). FindsLeast d c.args.budget e c.from_vec.result c.in_ok-seen.seen.end) (sym is)
    (subst (λ (ms : List Move). FindsLeast d c.args.budget m.form ms c.in_ok-seen.seen.end) (sym c.from_vec.ensures) (record {
      joined = c.in_ok-moves.ensures.joined c.key_at.result m.form c.key_at.ensures m.names m.long;
      kept = c.in_ok-moves.ensures.exchanges;
      canonical = m.own;
      end = found_end d m.form c.args.budget place keys c.key_at.result c.in_ok-seen.seen.end c.size-size.ensures.grid c.in_ok-seen.ensures.seen
          c.least_place-place.ensures.least c.key_at.ensures m.names;
    }))
