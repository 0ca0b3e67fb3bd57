use Rattle.std.proofs.Common.{◌<◌, ◌%◌, ap, arith, get_or, length, List, refl, subst, sym}
use Rattle.grid_moves.specs.declared.step.Move.TheVariants.{ShiftColumns}
use Rattle.search_jobs.specs.declared.candidates.Candidate.{Candidate}
use Rattle.search_jobs.specs.Walk.{Picks}
use Rattle.search_jobs.proofs.Picked.{some_candidates, listed_length, picked_from}
use Rattle.search_jobs.proofs.walk.picked.Goals as goal

pub nonzero_rem-place : goal.nonzero_rem-place
nonzero_rem-place c =
    omega (
      arith,
      some_candidates c.args.grid.now c.size-size.ensures.grid c.requires,
      listed_length c.args.grid.now c.candidates-list.result.items c.candidates-list.ensures,
      c.len.ensures.value,
    )

pub bounds-deref-place : goal.bounds-deref-place
bounds-deref-place c =
    let some : 0 < c.len.result = omega (
      arith,
      some_candidates c.args.grid.now c.size-size.ensures.grid c.requires,
      listed_length c.args.grid.now c.candidates-list.result.items c.candidates-list.ensures,
      c.len.ensures.value,
    ) in
    omega (arith, ap length c.deref.ensures.0)

pub returns : goal.returns
returns c =
    let some : 0 < c.len.result = omega (
      arith,
      some_candidates c.args.grid.now c.size-size.ensures.grid c.requires,
      listed_length c.args.grid.now c.candidates-list.result.items c.candidates-list.ensures,
      c.len.ensures.value,
    ) in
    subst (λ (xs : List Candidate). Picks c.args.grid.now c.args.word (get_or xs (c.args.word % c.len.result) (record { step = ShiftColumns 0 })).step)
    (sym c.deref.ensures.0)
    (picked_from c.args.grid.now c.args.word c.len.result (c.args.word % c.len.result) c.candidates-list.result.items
    (record { step = ShiftColumns 0 }) c.candidates-list.ensures c.len.ensures.value refl (omega (arith, some)))
