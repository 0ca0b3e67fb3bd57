use Rattle.std.proofs.Common.{◌++◌, ◌∙◌, List, ℕ, ap}
use Rattle.quandle_core.specs.Quandle.{Table}
use Rattle.knot_text.proofs.LineTexts.{rows_more, row_line}
use Rattle.certificates.proofs.printed.push_values.Goals as goal

pub loop-x-preserved : goal.loop-x-preserved
loop-x-preserved c =
    let t : Table = record { order = c.args.cocycle.now.quandle.order; entries = c.args.cocycle.now.entries } in
    let row = row_line t c.loop-x.x c.as_slice.result.now (c.as_slice.ensures.value ∙ c.values_of.ensures) in
    let step = c.in_ok-push_number_line.ensures.text ∙ ap (λ (s : List ℕ). c.loop-x.out.items ++ s) row in
    rows_more t c.loop-x.x c.args.out.now.items c.loop-x.out.items c.push_number_line.new.out.items c.loop-x.invariant step
