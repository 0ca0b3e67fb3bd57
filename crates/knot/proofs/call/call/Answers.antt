use Rattle.knot.proofs.call.call.Goals as goal

pub returns : goal.returns
returns g c = record {
  kept = c.run.new.ports.kept;
  ends = c.run.ensures.goes.ends;
  truth = c.run.ensures.goes.truth;
}
