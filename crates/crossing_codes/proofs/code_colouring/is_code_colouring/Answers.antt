use Rattle.std.proofs.Common.{◌+◌, ◌&&◌, ◌∙◌, Bool, sym, ap}
use Rattle.std.specs.List.{list_all}
use Rattle.std.proofs.lemmas.Bool.{and_from}
use Rattle.std.proofs.lemmas.List.{take_all}
use Rattle.colour_rows.specs.Colouring.{are_colours}
use Rattle.crossing_codes.specs.declared.crossing.Crossing.{Crossing}
use Rattle.crossing_codes.specs.CodeColouring.{names_edges, agrees}
use Rattle.crossing_codes.proofs.code_colouring.is_code_colouring.Goals as goal

pub returns : goal.returns
returns c =
    let k = c.args.code.now in
    let t = c.args.quandle.now in
    let e = c.args.colours.now in
    let test : Crossing → Bool = λ x. names_edges k.edges x && agrees t e x in
    let items = c.as_slice-crossing-items.result.now in
    sym (and_from (are_colours (k.edges + k.loops) t.order e) (list_all test k.crossings)
    (sym (c.are_colours.ensures ∙ ap (λ n. are_colours (k.edges + k.loops) n e) c.order.ensures.order) ∙ c.if-not-are_colours.false)
    (ap (list_all test) (sym (take_all c.loop-crossing.crossing-index items c.loop-crossing-test.false ∙ c.as_slice-crossing-items.ensures))
    ∙ c.loop-crossing.invariant))
