use Rattle.std.proofs.Common.{◌≡◌, ◌==◌, ◌∙◌, ℕ, false, sym, arith, below_more}
use Rattle.std.proofs.lemmas.Bool.{ne_eqb}
use Rattle.quandle_core.specs.Quandle.{Table, over}
use Rattle.quandle_core.proofs.LargeColumns.{back_found, back_missed}
use Rattle.quandle_core.proofs.large.back_entry.Goals as goal

pub returns-then-entry-x : goal.returns-then-entry-x
returns-then-entry-x c =
    let t : Table = record { order = c.args.order; entries = c.args.table.now } in
    back_found t c.requires.laws c.args.x c.args.y c.loop-z.z c.loop-z-test.true c.requires.place.1 (sym c.entry.ensures ∙ c.if-entry-x.true)

pub loop-z-preserved : goal.loop-z-preserved
loop-z-preserved c =
    let t : Table = record { order = c.args.order; entries = c.args.table.now } in
    below_more (λ (k : ℕ). (over t k c.args.y == c.args.x) ≡ false) c.loop-z.z c.loop-z.invariant
    (ne_eqb (over t c.loop-z.z c.args.y) c.args.x (λ e. c.if-entry-x.false (c.entry.ensures ∙ e)))

pub returns : goal.returns
returns c =
    let t : Table = record { order = c.args.order; entries = c.args.table.now } in
    sym (back_missed t c.requires.laws c.args.x c.args.y c.requires.place.0 c.requires.place.1 (λ k lt. c.loop-z.invariant k (omega arith)))
