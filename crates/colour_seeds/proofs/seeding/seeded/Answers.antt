use Rattle.std.proofs.Common.{◌∙◌, inr, List, sym, subst}
use Rattle.std.proofs.lemmas.Result.{IfOk-weaker}
use Rattle.colour_seeds.specs.declared.progress.Step.{Step}
use Rattle.colour_seeds.specs.declared.progress.Step.TheVariants.{Seed}
use Rattle.colour_seeds.specs.declared.progress.SeedProgress.{SeedProgress}
use Rattle.colour_seeds.specs.Plan.{LeadsBySteps, progress_after, nothing}
use Rattle.colour_seeds.proofs.Ways.{leads_more}
use Rattle.colour_seeds.proofs.Seeds.{one_seed_column}
use Rattle.colour_seeds.proofs.seeding.seeded.Goals as goal

pub settle-requires : goal.settle-requires
settle-requires c =
    let d = c.args.grid.now in
    let g = c.args.way.progress in
    record {
      leads =
          subst (λ (h : SeedProgress). LeadsBySteps d nothing c.in_ok-begun.begun.steps.items h) (sym c.in_ok-begun.ensures.progress)
          (subst (λ (steps : List Step). LeadsBySteps d nothing steps (progress_after d g (Seed c.args.seed))) (sym c.in_ok-begun.ensures.steps)
          (leads_more d nothing g c.args.way.steps.items (Seed c.args.seed) c.requires.leads (c.requires.column, c.if-way-seed.false)));
    }

pub returns-clause-seeds : goal.returns-clause-seeds
returns-clause-seeds c =
    IfOk-weaker c.settle.result _ _
    (λ w same. inr (same ∙ one_seed_column c.args.way.steps.items c.in_ok-begun.begun.steps.items c.args.seed c.in_ok-begun.ensures.steps))
    c.settle.ensures.seeds
