use Rattle.grid_moves.proofs.destabilisation.destabilise.Goals as goal

pub set_rows-requires : goal.set_rows-requires
set_rows-requires c = rw (c.narrowed-crosses.ensures, c.narrowed-rings.ensures) c.in_ok-narrowing.ensures.step.after

pub returns-clause-moved : goal.returns-clause-moved
returns-clause-moved c = rw (c.set_rows.ensures, c.narrowed-crosses.ensures, c.narrowed-rings.ensures) c.in_ok-narrowing.ensures.step
