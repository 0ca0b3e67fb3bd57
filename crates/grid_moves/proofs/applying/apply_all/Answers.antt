use Rattle.std.proofs.Common.{◌≡◌, arith, sym, take, get_or, subst}
use Rattle.std.proofs.lemmas.Option.{slice_get-get_or}
use Rattle.std.proofs.lemmas.List.{take_all}
use Rattle.grid_moves.specs.declared.step.Move.TheVariants.{ShiftColumns}
use Rattle.grid_moves.specs.Joining.{Joins, StopsAt}
use Rattle.grid_moves.proofs.Joined.{joins_more}
use Rattle.grid_moves.proofs.Stopped.{leads_only, stops_only}
use Rattle.grid_moves.proofs.applying.apply_all.Goals as goal

pub loop-place-preserved : goal.loop-place-preserved
loop-place-preserved c =
    joins_more c.args.steps.now c.loop-place.place (ShiftColumns 0) c.args.grid.now c.loop-place.here c.apply_in_place.new.grid
    (omega arith) c.loop-place.invariant c.in_default.ensures.moved

pub returns-clause-complete : goal.returns-clause-complete
returns-clause-complete c =
    let all : take c.loop-place.place c.args.steps.now ≡ c.args.steps.now = take_all c.loop-place.place c.args.steps.now (omega arith) in
    leads_only c.args.steps.now c.args.grid.now c.loop-place.here (subst (λ moves. Joins c.args.grid.now moves c.loop-place.here) all c.loop-place.invariant)

pub returns-in-Err-clause-complete : goal.returns-in-Err-clause-complete
returns-in-Err-clause-complete c =
    let stop : StopsAt c.args.grid.now c.args.steps.now c.loop-place.place c.in-Err.fault = record {
      here = c.loop-place.here;
      joined = c.loop-place.invariant;
      move = get_or c.args.steps.now c.loop-place.place (ShiftColumns 0);
      next = slice_get-get_or c.args.steps.now c.loop-place.place (ShiftColumns 0) (omega arith);
      illegal = sym c.in-Err.ensures.fault;
    } in
    stops_only c.args.steps.now c.args.grid.now c.loop-place.place c.in-Err.fault stop
