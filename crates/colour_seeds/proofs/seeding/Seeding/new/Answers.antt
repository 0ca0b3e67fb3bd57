use Rattle.std.proofs.Common.{◌<◌, ℕ, refl, arith}
use Rattle.std.proofs.lemmas.Bool.{both_ways}
use Rattle.std.proofs.lemmas.List.Elements.{All-from_get_or}
use Rattle.grid_core.specs.Diagram.{size}
use Rattle.colour_seeds.specs.Plan.{is_known, is_read, nothing}
use Rattle.colour_seeds.proofs.Ways.{IsSound, sound_leads, sound_nothing, known_closed, all_read}
use Rattle.colour_seeds.proofs.Seeds.{seeds_fit}
use Rattle.colour_seeds.proofs.seeding.Seeding.new.Goals as goal

pub returns-then-not-way-column-clause-fault : goal.returns-then-not-way-column-clause-fault
returns-then-not-way-column-clause-fault c =
    let d = c.args.grid.now in
    let g = c.in_ok-way.way.progress in
    let x = c.loop-column.column in
    let sound : IsSound c.args.grid.now c.in_ok-way.way.progress = sound_leads d nothing g c.in_ok-way.way.steps.items c.size-size.ensures.grid
    (sound_nothing d) c.in_ok-way.ensures.leads in
    let below : c.loop-column.column < size c.args.grid.now = omega (arith, c.size-column-end.ensures.size) in (
      All-from_get_or (λ s. s < size c.args.grid.now) c.args.seeds.now 0 (λ k lt. c.loop-seed.invariant k (omega arith)),
      below,
      λ settled. both_ways (is_known g x) c.if-not-way-column.true (settled (is_known g) (known_closed d g sound c.in_ok-way.ensures.stuck)
          c.in_ok-way.ensures.taken),
      λ b lt. c.in_ok-way.ensures.settled b (c.loop-column.invariant b lt),
    )

pub returns-clause-determine : goal.returns-clause-determine
returns-clause-determine c = record {
  columns = All-from_get_or (λ s. s < size c.args.grid.now) c.args.seeds.now 0 (λ k lt. c.loop-seed.invariant k (omega arith));
  all = λ x lt. c.in_ok-way.ensures.settled x (c.loop-column.invariant x (omega (arith, lt, c.size-column-end.ensures.size)));
}

pub returns-clause-plan : goal.returns-clause-plan
returns-clause-plan c =
    let d = c.args.grid.now in
    let g = c.in_ok-way.way.progress in
    let known = λ (x : ℕ) (lt : x < size c.args.grid.now). c.loop-column.invariant x (omega (arith, lt, c.size-column-end.ensures.size)) in
    record {
      last = g;
      leads = c.in_ok-way.ensures.leads;
      known = known;
      read = λ r lt. all_read d g c.size-size.ensures.grid c.in_ok-way.ensures.stuck known r lt (is_read g r) refl;
    }

pub invariant_of-result : goal.invariant_of-result
invariant_of-result c =
    seeds_fit c.args.grid.now c.in_ok-way.way.steps.items c.in_ok-way.way.progress c.size-size.ensures.grid c.in_ok-way.ensures.leads
