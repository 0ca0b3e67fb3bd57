use Rattle.std.proofs.Common.{◌≤◌, ◌*◌, ◌^◌, ◌∙◌, ℕ, List, length, map, replicate, ap, sym, subst, arith}
use Rattle.std.specs.List.{All, range_with_len}
use Rattle.grid_core.specs.declared.grid.TheConstants.{MAX_SIZE}
use Rattle.quandle_core.specs.Quandle.{Table}
use Rattle.colour_seeds.specs.declared.progress.Step.{Step}
use Rattle.colour_seeds.specs.declared.counting.TheConstants.{MAX_CANDIDATES}
use Rattle.colour_seeds.specs.Plan.{seeds_in}
use Rattle.colour_seeds.specs.Leaves.{IsInside, leaves}
use Rattle.colour_numbers.specs.Tallies.{tallied}
use Rattle.colour_seeds.proofs.Settlings.{plan_inside, blank_colours}
use Rattle.colour_seeds.proofs.Tallying.{written}
use Rattle.colour_numbers.proofs.Tallying.{from_nothing, tallied_long, zeros_long, zeros_room}
use Rattle.colour_numbers.proofs.tally.tally_all.Goals as goal

pub tally_from-requires-clause-inside : goal.tally_from-requires-clause-inside
tally_from-requires-clause-inside g c =
    subst (All (IsInside c.args.grid.now)) (sym c.steps.ensures) (plan_inside c.args.grid.now c.args.seeding.now c.requires.plan)

pub tally_from-requires-clause-colours : goal.tally_from-requires-clause-colours
tally_from-requires-clause-colours g c =
    let order = ap (λ (t : Table). t.order) c.quandle.ensures in
    blank_colours MAX_SIZE (g.W.Weigher.quandle c.args.weigher.now).order (omega (arith, order, c.order-order.ensures.quandle.least))

pub tally_from-requires-clause-long : goal.tally_from-requires-clause-long
tally_from-requires-clause-long g c =
    zeros_long (g.W.Weigher.modulus c.args.weigher.now) c.as_mut_slice.result.now
    (c.as_mut_slice.ensures.value ∙ (c.in_ok-counts.ensures ∙ ap (λ (n : ℕ). map (λ (v : ℕ). 0) (range_with_len 0 n)) c.modulus.ensures))

pub tally_from-requires-clause-room : goal.tally_from-requires-clause-room
tally_from-requires-clause-room g c =
    let q = (g.W.Weigher.quandle c.args.weigher.now).order in
    let k = g.W.Weigher.choices c.args.weigher.now in
    zeros_room (g.W.Weigher.modulus c.args.weigher.now) c.as_mut_slice.result.now (q ^ seeds_in c.steps.result.now * k)
    (c.as_mut_slice.ensures.value ∙ (c.in_ok-counts.ensures ∙ ap (λ (n : ℕ). map (λ (v : ℕ). 0) (range_with_len 0 n)) c.modulus.ensures))
    (subst (λ (steps : List Step). q ^ seeds_in steps * k ≤ MAX_CANDIDATES) (sym c.steps.ensures) c.requires.few)

pub returns-clause-counts : goal.returns-clause-counts
returns-clause-counts g c =
    let w = c.args.weigher.now in
    let m = g.W.Weigher.modulus w in
    let often = g.W.Weigher.often w in
    let q = g.W.Weigher.quandle w in
    let d = c.args.grid.now in
    let counts = c.as_mut_slice.result.now in
    let are = c.as_mut_slice.ensures.value ∙ (c.in_ok-counts.ensures ∙ ap (λ (n : ℕ). map (λ (v : ℕ). 0) (range_with_len 0 n)) c.modulus.ensures) in
    let long = ap length c.tally_from.ensures ∙ tallied_long m often counts (leaves q d c.steps.result.now (replicate MAX_SIZE 0)) in
    let whole = zeros_long m counts are in
    let items = ap length c.as_mut_slice.ensures.value in
    written c.tally_from.new.counts c.in_ok-counts.counts.items c.in_ok-counts.counts.len (omega (arith, long, whole, items))
    (omega (arith, c.as_mut_slice.ensures.len, items))
    ∙ (c.tally_from.ensures
    ∙ (ap (λ (steps : List Step). tallied m often counts (leaves q d steps (replicate MAX_SIZE 0))) c.steps.ensures
    ∙ from_nothing m often counts (leaves q d c.args.seeding.now (replicate MAX_SIZE 0)) are))
