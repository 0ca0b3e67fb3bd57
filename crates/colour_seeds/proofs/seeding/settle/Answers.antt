use Rattle.std.proofs.Common.{◌<◌, ◌∙◌, List, sym, subst}
use Rattle.colour_seeds.specs.declared.progress.Step.{Step}
use Rattle.colour_seeds.specs.declared.progress.SeedProgress.{SeedProgress}
use Rattle.colour_seeds.specs.Plan.{LeadsBySteps, progress_after, nothing}
use Rattle.colour_seeds.specs.Seeded.{Reaches}
use Rattle.colour_seeds.proofs.Ways.{step_next, leads_more, reaches_more, no_seed_more, unread}
use Rattle.colour_seeds.proofs.Seeds.{no_seed_column}
use Rattle.colour_seeds.proofs.seeding.settle.Goals as goal

pub with_step-requires : goal.with_step-requires
with_step-requires c =
    (step_next c.args.grid.now c.loop-step.way.steps.items c.loop-step.way.progress c.in-Some.step c.next_step.result c.size-size.ensures.grid
    c.loop-step.invariant.leads c.next_step.ensures c.in-Some.is).allowed

pub loop-step-smaller : goal.loop-step-smaller
loop-step-smaller c =
    subst (λ (h : SeedProgress). unread h < unread c.loop-step.way.progress) (sym c.in_ok-way.ensures.progress)
    (step_next c.args.grid.now c.loop-step.way.steps.items c.loop-step.way.progress c.in-Some.step c.next_step.result c.size-size.ensures.grid
    c.loop-step.invariant.leads c.next_step.ensures c.in-Some.is).falls

pub loop-step-preserved : goal.loop-step-preserved
loop-step-preserved c =
    let d = c.args.grid.now in
    let g = c.loop-step.way.progress in
    let s = c.in-Some.step in
    let next = step_next d c.loop-step.way.steps.items g s c.next_step.result c.size-size.ensures.grid c.loop-step.invariant.leads c.next_step.ensures
    c.in-Some.is in
    record {
      leads =
          subst (λ (h : SeedProgress). LeadsBySteps d nothing c.in_ok-way.way.steps.items h) (sym c.in_ok-way.ensures.progress)
          (subst (λ (steps : List Step). LeadsBySteps d nothing steps (progress_after d g s)) (sym c.in_ok-way.ensures.steps)
          (leads_more d nothing g c.loop-step.way.steps.items s c.loop-step.invariant.leads next.allowed));
      reaches =
          subst (Reaches d c.args.way.progress) (sym c.in_ok-way.ensures.progress)
          (reaches_more d c.args.way.progress g s next c.loop-step.invariant.reaches);
      seeds =
          no_seed_column c.loop-step.way.steps.items c.in_ok-way.way.steps.items s c.in_ok-way.ensures.steps next.no_seed ∙ c.loop-step.invariant.seeds;
      few =
          no_seed_more c.loop-step.way.steps.items c.in_ok-way.way.steps.items s c.in_ok-way.ensures.steps next.no_seed ∙ c.loop-step.invariant.few;
    }
