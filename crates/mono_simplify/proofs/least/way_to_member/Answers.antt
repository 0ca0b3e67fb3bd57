use Rattle.std.proofs.Common.{◌<◌, arith}
use Rattle.mono_simplify.proofs.MemberWays.{first_way, later_way, later_exchange, later_parent}
use Rattle.mono_simplify.proofs.least.way_to_member.Goals as goal

pub returns-then-place-eq0-clause-joined : goal.returns-then-place-eq0-clause-joined
returns-then-place-eq0-clause-joined c = λ key member stands names long.
    first_way c.args.grid.now c.args.class.now c.args.place c.canonical-form.result c.new-moves.result.items c.push_shifts.new.list.items key member
    c.size-size.ensures.grid c.if-place-eq0.true c.requires.ways c.canonical-form.ensures.form c.new-moves.ensures.items
    c.in_ok-push_shifts.ensures.list stands names long

pub way_to-requires-clause-place : goal.way_to-requires-clause-place
way_to-requires-clause-place c =
    let above : 0 < c.args.place = omega (arith, c.if-place-eq0.false) in
    later_parent c.args.grid.now c.args.class.now c.args.place c.origin_at-origin.result c.origin_at-origin.ensures.0 above c.requires.place
    c.requires.ways c.origin_at-origin.ensures.1

pub returns-clause-exchanges : goal.returns-clause-exchanges
returns-clause-exchanges c =
    let above : 0 < c.args.place = omega (arith, c.if-place-eq0.false) in
    c.in_ok-moves.ensures.exchanges
    (later_exchange c.args.grid.now c.args.class.now c.args.place c.origin_at-origin.result c.origin_at-origin.ensures.0 above c.requires.ways
    c.origin_at-origin.ensures.1)

pub returns-clause-joined : goal.returns-clause-joined
returns-clause-joined c = λ key member stands names long.
    let above : 0 < c.args.place = omega (arith, c.if-place-eq0.false) in
    later_way c.args.grid.now c.args.class.now c.args.place c.origin_at-origin.result c.origin_at-origin.ensures.0 key c.in_ok-moves.moves.items
    member above c.requires.ways c.origin_at-origin.ensures.1 stands names c.in_ok-moves.ensures.joined
