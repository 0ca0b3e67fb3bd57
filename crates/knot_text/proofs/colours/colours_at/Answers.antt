use Rattle.std.proofs.Common.{◌≡◌, false, true, Err, ap, sym, ◌∙◌, arith}
use Rattle.text_items.specs.declared.fault.TextFault.TheVariants.{Malformed}
use Rattle.colour_rows.specs.Colouring.{are_colours}
use Rattle.knot_text.proofs.ColoursLines.{colours_bad, colours_good}
use Rattle.knot_text.proofs.colours.colours_at.Goals as goal

pub returns-then-not-are_colours : goal.returns-then-not-are_colours
returns-then-not-are_colours c =
    let colours = c.in_ok-colours.colours in
    let test : are_colours c.args.width c.args.order colours.items ≡ false =
    sym (c.are_colours.ensures ∙ ap (are_colours c.args.width c.args.order) c.as_slice.ensures.value) ∙ c.if-not-are_colours.true in
    colours_bad colours c.args.width c.args.order c.args.line.now (omega arith) c.in_ok-colours.ensures test
    ∙ ap (λ n. Err (Malformed n)) (sym c.number-at.ensures)

pub returns : goal.returns
returns c =
    let colours = c.in_ok-colours.colours in
    let test : are_colours c.args.width c.args.order colours.items ≡ true =
    sym (c.are_colours.ensures ∙ ap (are_colours c.args.width c.args.order) c.as_slice.ensures.value) ∙ c.if-not-are_colours.false in
    colours_good colours c.args.width c.args.order c.args.line.now (omega arith) c.in_ok-colours.ensures test
