use Rattle.std.proofs.Common.{◌≡◌, ◌<◌, ◌*◌, ◌^◌, [], ◌∷◌, ◌∙◌, Bool, false, ℕ, List, length, set, sym, ap, subst, arith, rules}
use Rattle.std.specs.Prelude.{if◌then◌else◌}
use Rattle.std.specs.List.{flat_map}
use Rattle.grid_core.specs.declared.grid.TheConstants.{MAX_SIZE}
use Rattle.quandle_core.specs.Quandle.{Table}
use Rattle.colour_rows.specs.Colouring.{AreColours}
use Rattle.colour_list.specs.Level.{spread}
use Rattle.colour_seeds.specs.declared.progress.Step.{Step}
use Rattle.colour_seeds.specs.declared.progress.Step.TheVariants.{Seed}
use Rattle.colour_seeds.specs.Plan.{is_seed, seeds_in}
use Rattle.colour_seeds.specs.Leaves.{lists_after_step, leaves}
use Rattle.colour_numbers.specs.Tallies.{tallied}
use Rattle.colour_seeds.proofs.Settlings.{behind, first_is, no_seed_power, seed_colours, seed_power, spread_more}
use Rattle.colour_numbers.proofs.Tallying.{room_each, tallied_long, tallied_more, tallied_none}
use Rattle.colour_numbers.proofs.tally.Tally.+tally.Goals as goal

pub tally_each-loop-colour-init : goal.tally_each-loop-colour-init
tally_each-loop-colour-init g t c =
    let w = c.args.self.now.weigher.now in
    tallied_none (g.W.Weigher.modulus w) (g.W.Weigher.often w) c.args.counts.now c.requires.long

pub tally_each-tally_from-requires : goal.tally_each-tally_from-requires
tally_each-tally_from-requires g t c =
    let w = c.args.self.now.weigher.now in
    let q = g.W.Weigher.quandle w in
    let m = g.W.Weigher.modulus w in
    let often = g.W.Weigher.often w in
    let d = c.args.self.now.grid.now in
    let level = flat_map (leaves q d c.args.steps.now) (spread c.loop-colour.colour c.args.column c.args.colours.now) in
    let below : c.loop-colour.colour < q.order = omega (arith, c.order-colour-end.ensures.order, ap (λ (t : Table). t.order) c.quandle-quandle.ensures) in
    λ κs lives. (
      omega arith,
      (
        lives,
        (
          c.requires.rows,
          (
            c.requires.inside,
            (
              seed_colours q.order c.args.column c.loop-colour.colour c.args.colours.now below c.requires.colours,
              (
                ap length c.loop-colour.invariant ∙ tallied_long m often c.args.counts.now level,
                λ v lt. room_each m often (g.W.Weigher.choices w) (g.met.W.Weigher.few w) q d c.args.steps.now c.args.counts.now c.loop-colour.counts
                    c.args.column c.loop-colour.colour v c.args.colours.now lt below c.loop-colour.invariant (c.requires.room v lt),
              ),
            ),
          ),
        ),
      ),
    )

pub tally_each-loop-colour-preserved : goal.tally_each-loop-colour-preserved
tally_each-loop-colour-preserved g t c =
    let w = c.args.self.now.weigher.now in
    let m = g.W.Weigher.modulus w in
    let often = g.W.Weigher.often w in
    let s = leaves (g.W.Weigher.quandle w) c.args.self.now.grid.now c.args.steps.now in
    let n = c.loop-colour.colour in
    let f = c.args.colours.now in
    let x = c.args.column in
    c.tally_from.ensures
    ∙ (ap (λ (counts : List ℕ). tallied m often counts (s (set f x n))) c.loop-colour.invariant
    ∙ (tallied_more m often c.args.counts.now (flat_map s (spread n x f)) (s (set f x n))
    ∙ ap (tallied m often c.args.counts.now) (sym (spread_more s x n f))))

pub tally_from-tally_each-requires : goal.tally_from-tally_each-requires
tally_from-tally_each-requires g t c =
    let w = c.args.self.now.weigher.now in
    let q = g.W.Weigher.quandle w in
    let column = c.in-Some-seed.column in
    let is = first_is c.args.steps.now c.in-Some.rest.now c.in-Some.step.now (Seed column) c.in-Some.ensures.cases c.in-Some-seed.ensures.some in
    let rest = behind c.args.self.now.grid.now c.args.steps.now c.in-Some.rest.now (Seed column) is c.requires.inside in
    let shorter : length c.in-Some.rest.now < length c.args.steps.now = rest.shorter in
    let power = ap (λ (xs : List Step). q.order ^ seeds_in xs) is ∙ seed_power q.order column c.in-Some.rest.now in
    let room = ap (λ (n : ℕ). n * g.W.Weigher.choices w) power in λ κs lives. (
      omega arith,
      (lives, (c.requires.rows, (rest.inside, (c.requires.colours, (rest.here, (c.requires.long, λ v lt. omega (arith, c.requires.room v lt, room))))))),
    )

pub tally_from-tally_from-requires : goal.tally_from-tally_from-requires
tally_from-tally_from-requires g t c =
    let w = c.args.self.now.weigher.now in
    let q = g.W.Weigher.quandle w in
    let is : c.args.steps.now ≡ c.in-Some.step.now ∷ c.in-Some.rest.now = c.in-Some.ensures.cases.0 in
    let rest = behind c.args.self.now.grid.now c.args.steps.now c.in-Some.rest.now c.in-Some.step.now is c.requires.inside in
    let shorter : length c.in-Some.rest.now < length c.args.steps.now = rest.shorter in
    let none : is_seed c.in-Some.step.now ≡ false = search rules in
    let power = no_seed_power q.order c.args.steps.now c.in-Some.rest.now c.in-Some.step.now is none in
    let room = ap (λ (n : ℕ). n * g.W.Weigher.choices w) power in
    let colours : AreColours MAX_SIZE q.order c.passes.new.colours =
    subst (λ (t : Table). AreColours MAX_SIZE t.order c.passes.new.colours) c.quandle-quandle.ensures c.passes.ensures.colours in
    λ κs lives. (omega arith, (lives, (c.requires.rows, (rest.inside, (colours, (c.requires.long, λ v lt. omega (arith, c.requires.room v lt, room)))))))

pub tally_from-returns-else-passes : goal.tally_from-returns-else-passes
tally_from-returns-else-passes g t c =
    let w = c.args.self.now.weigher.now in
    let m = g.W.Weigher.modulus w in
    let often = g.W.Weigher.often w in
    let q = g.W.Weigher.quandle w in
    let d = c.args.self.now.grid.now in
    let f = c.args.colours.now in
    let s = c.in-Some.step.now in
    let rest = c.in-Some.rest.now in
    let none : is_seed s ≡ false = search rules in
    let made : lists_after_step q d s f ≡ [] =
    subst (λ (t : Table). lists_after_step t d s f ≡ []) c.quandle-quandle.ensures
    (c.passes.ensures.made none ∙ ap (λ (b : Bool). if b then c.passes.new.colours ∷ [] else []) c.if-passes.false) in
    tallied_none m often c.args.counts.now c.requires.long
    ∙ ap (tallied m often c.args.counts.now)
    (sym (ap (λ (xs : List Step). leaves q d xs f) c.in-Some.ensures.cases.0 ∙ ap (flat_map (leaves q d rest)) made))
