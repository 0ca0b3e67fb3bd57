use Rattle.std.proofs.Common.{◌≡◌, ◌≤◌, List, true, get_or, refl, sym, subst, arith, rules}
use Rattle.std.specs.List.{All, Contains}
use Rattle.std.proofs.lemmas.Bool.{both_ways}
use Rattle.std.proofs.lemmas.List.Elements.{All-from_get_or}
use Rattle.colour_seeds.specs.declared.progress.Step.{Step}
use Rattle.colour_seeds.specs.Plan.{LeadsBySteps, nothing, is_known, seed_columns, seeds_in}
use Rattle.colour_seeds.proofs.Ways.{nothing_known}
use Rattle.colour_seeds.proofs.Seeds.{among_more}
use Rattle.colour_seeds.proofs.seeding.way_of.Goals as goal

pub loop-seed-init : goal.loop-seed-init
loop-seed-init c = record {
  leads = subst (λ (steps : List Step). LeadsBySteps c.args.grid.now nothing steps nothing) (sym c.new.ensures.items) refl;
  taken = λ k lt. absurd (omega arith);
  settled = λ x e. absurd (both_ways (is_known nothing x) (nothing_known x) e);
  among = subst (λ (steps : List Step). All (Contains c.args.seeds.now) (seed_columns steps)) (sym c.new.ensures.items) (λ k e lt. absurd (omega arith));
  few = subst (λ (steps : List Step). seeds_in steps ≤ 0) (sym c.new.ensures.items) (omega arith);
}

pub returns-clause-taken : goal.returns-clause-taken
returns-clause-taken c =
    All-from_get_or (λ s. is_known c.in_ok-last.last.progress s ≡ true) c.args.seeds.now 0
    (λ k lt. c.in_ok-last.ensures.reaches.keeps (get_or c.args.seeds.now k 0) (c.loop-seed.invariant.taken k (omega arith)))

pub returns-clause-settled : goal.returns-clause-settled
returns-clause-settled c =
    λ x e p closed has. c.in_ok-last.ensures.reaches.only p closed (λ y known. c.loop-seed.invariant.settled y known p closed has) x e

pub loop-seed-preserved : goal.loop-seed-preserved
loop-seed-preserved c = record {
  leads = c.in_ok-way.ensures.leads;
  taken = search rules;
  settled = search rules;
  among =
      among_more c.args.seeds.now (seed_columns c.loop-seed.way.steps.items) (seed_columns c.in_ok-way.way.steps.items) c.loop-seed.seed-index
      (get_or c.args.seeds.now c.loop-seed.seed-index 0) c.loop-seed-test.true refl c.loop-seed.invariant.among c.in_ok-way.ensures.seeds;
  few = search rules;
}

pub returns-clause-among : goal.returns-clause-among
returns-clause-among c =
    subst (All (Contains c.args.seeds.now)) (sym c.in_ok-last.ensures.seeds) c.loop-seed.invariant.among
