use Rattle.std.proofs.Common.{◌+◌, arith, sym, take, get_or, subst, List, ℕ}
use Rattle.std.proofs.lemmas.Option.{slice_get-get_or}
use Rattle.grid_moves.specs.declared.step.Move.TheVariants.{ShiftColumns}
use Rattle.plain_jobs.specs.Jobs.Replay.{Carries}
use Rattle.plain_jobs.proofs.Along.{carries_more, joins_along}
use Rattle.plain_jobs.proofs.jobs.replay.carry_all.Goals as goal

pub loop-place-preserved : goal.loop-place-preserved
loop-place-preserved c =
    let start = c.args.start in
    let here = c.loop-place.here in
    let at = c.loop-place.place in
    let t = c.args.quandle.now in
    let moves = c.args.steps.now in
    let moved = c.in-Ok.ensures.moved in
    let so_far = c.loop-place.invariant.0 in
    let longer = carries_more t moves at (ShiftColumns 0) start.grid here.grid c.in-Ok.next start.colours.items here.colours.items (omega arith)
    so_far moved in (
      subst (λ (last : List ℕ). Carries t start.grid start.colours.items (take (at + 1) moves) c.in-Ok.next last) (sym c.carry.ensures.carried) longer,
      c.carry.ensures.colouring c.in-Ok.next moved,
    )

pub returns-in-Err-clause-stopped : goal.returns-in-Err-clause-stopped
returns-in-Err-clause-stopped c =
    let start = c.args.start in
    let here = c.loop-place.here in
    let at = c.loop-place.place in
    let moves = c.args.steps.now in
    record {
      here = here.grid;
      joined = joins_along c.args.quandle.now (take at moves) start.grid here.grid start.colours.items here.colours.items c.loop-place.invariant.0;
      move = get_or moves at (ShiftColumns 0);
      next = slice_get-get_or moves at (ShiftColumns 0) (omega arith);
      illegal = sym c.in-Err.ensures.fault;
    }
