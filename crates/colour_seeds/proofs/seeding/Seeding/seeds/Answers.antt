use Rattle.std.proofs.Common.{◌<◌, ◌∙◌, ◌++◌, ◌∷◌, [], ℕ, List, length, sym, ap, arith}
use Rattle.std.proofs.lemmas.List.{take_all}
use Rattle.arrayvec.specs.ArrayVec.{ArrayVec}
use Rattle.grid_core.specs.declared.grid.TheConstants.{MAX_SIZE}
use Rattle.colour_seeds.specs.declared.progress.Step.{Step}
use Rattle.colour_seeds.specs.Plan.{seed_columns}
use Rattle.colour_seeds.proofs.Seeds.{seed_here, no_seed_here, seed_room, seeds_are}
use Rattle.colour_seeds.proofs.seeding.Seeding.seeds.Goals.{in-Seed, in_default}
use Rattle.colour_seeds.proofs.seeding.Seeding.seeds.Goals as goal

pub push-requires : goal.push-requires
push-requires c =
    let steps = c.args.self.now in
    let room = seed_room c.as_slice-step-items.result.now steps c.loop-step.step-index c.in-Seed.column _
    (c.as_slice-step-items.ensures.value ∙ c.self.view_is) c.loop-step-test.true c.in-Seed.is in
    let most = ap (λ (l : List Step). length (seed_columns l)) c.self.view_is in
    let here : length c.loop-step.seeds.items < MAX_SIZE = omega (arith, room, most, c.self.invariant, ap length c.loop-step.invariant) in
    (omega arith, here)

pub loop-step-preserved : goal.loop-step-preserved
loop-step-preserved c = elim c.match-step.branch [
  | in-Seed w ↦
      ap (λ (l : ArrayVec ℕ). l.items) w.seeds-is ∙ (w.push.ensures.items
      ∙ (ap (λ (l : List ℕ). l ++ w.in-Seed.column ∷ []) c.loop-step.invariant
      ∙ sym (seed_here c.as_slice-step-items.result.now c.args.self.now c.loop-step.step-index w.in-Seed.column _
      (c.as_slice-step-items.ensures.value ∙ c.self.view_is) c.loop-step-test.true w.in-Seed.is)))
  | in_default w ↦
      ap (λ (l : ArrayVec ℕ). l.items) w.seeds-is ∙ (c.loop-step.invariant
      ∙ sym (no_seed_here c.as_slice-step-items.result.now c.args.self.now c.loop-step.step-index _
      (c.as_slice-step-items.ensures.value ∙ c.self.view_is) c.loop-step-test.true w.in_default.not-Seed))
]

pub returns-clause-count : goal.returns-clause-count
returns-clause-count c =
    let same = ap length (c.as_slice-step-items.ensures.value ∙ c.self.view_is) in
    ap length (c.loop-step.invariant
    ∙ ap (λ (l : List Step). seed_columns l) (take_all c.loop-step.step-index c.args.self.now (omega (arith, same, c.loop-step-test.false))))
    ∙ seeds_are c.args.self.now
