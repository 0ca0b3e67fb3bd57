use Rattle.std.proofs.Common.{◌≡◌, ◌≤◌, ◌^◌, rules, subst, true}
use Rattle.std.specs.Prelude.{nat_le, length}
use Rattle.quandle_core.specs.Quandle.{Table}
use Rattle.colour_seeds.specs.declared.counting.TheConstants.{MAX_CANDIDATES}
use Rattle.number_check.specs.EvidenceHolds.{table_by_block, choices_by}
use Rattle.number_check.proofs.Causes.{fits_there}
use Rattle.number_check.proofs.counts.settled_cause.Goals as goal

pub numbers_by-requires-clause-fits : goal.numbers_by-requires-clause-fits
numbers_by-requires-clause-fits c =
    let some : 1 ≤ (table_by_block c.args.block.now).order = subst (λ (t : Table). 1 ≤ t.order) c.colouring_quandle-quandle.ensures
    c.order-order.ensures.quandle.least in
    let narrow : nat_le ((table_by_block c.args.block.now).order ^ choices_by c.args.block.now (length c.args.said.now.seeds.now)) MAX_CANDIDATES ≡ true =
    search rules in
    fits_there c.args.block.now c.args.seeding.now (length c.args.said.now.seeds.now) some c.requires.few narrow
