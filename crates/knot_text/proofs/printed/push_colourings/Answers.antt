use Rattle.std.proofs.Common.{ℕ, map, subst}
use Rattle.std.specs.Fmt.{decimal}
use Rattle.arrayvec.specs.ArrayVec.{ArrayVec}
use Rattle.text_lines.specs.Spelled.{line_text}
use Rattle.text_lines.specs.Appended.{AppendsPart}
use Rattle.text_lines.proofs.Parts.{on_err, part_of_lines}
use Rattle.knot_text.proofs.printed.push_colourings.Goals as goal

pub returns-in_err-push_colour_line-clause-part : goal.returns-in_err-push_colour_line-clause-part
returns-in_err-push_colour_line-clause-part c =
    let out = c.loop-colours.out.items in
    let stands : ArrayVec ℕ → Type 0 = λ x. AppendsPart out c.push_colour_line.new.out.items (line_text (map decimal x.items)) in
    let part = subst stands c.colours-item.is c.in_err-push_colour_line.ensures.part in
    on_err c.from_residual.result _
    (part_of_lines (λ (x : ArrayVec ℕ). map decimal x.items) _ _ c.colours-item.result _ _ _ c.loop-colours-test.true c.loop-colours.invariant part)
