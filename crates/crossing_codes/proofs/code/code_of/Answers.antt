use Rattle.std.proofs.Common.{◌≡◌, ◌≢◌, ◌∙◌, true, List, length, sym, ap, subst, arith}
use Rattle.std.specs.List.{All, AllPairs}
use Rattle.crossing_codes.specs.declared.passages.Passage.{Passage}
use Rattle.grid_core.specs.Diagram.{IsGrid, size}
use Rattle.quandle_core.specs.Bijection.{IsBijection}
use Rattle.colour_rows.specs.Colouring.{IsColouring}
use Rattle.crossing_codes.specs.declared.crossing.Code.{Code}
use Rattle.crossing_codes.specs.CodeColouring.{is_code_colouring}
use Rattle.crossing_codes.specs.EdgeColouring.{edge_colours}
use Rattle.crossing_codes.proofs.OneToOne.{one_to_one}
use Rattle.crossing_codes.specs.Layout.{HasNumbers}
use Rattle.crossing_codes.specs.Code.{code}
use Rattle.crossing_codes.proofs.Slots.{IsInside, few_passages, passages_inside, passages_differ}
use Rattle.crossing_codes.proofs.CodeSteps.{crossed_below, crossed_more, all_crossed, code_is}
use Rattle.crossing_codes.proofs.code.code_of.Goals as goal

pub numbers_of-numbers-requires-clause-few : goal.numbers_of-numbers-requires-clause-few
numbers_of-numbers-requires-clause-few c =
    let few = few_passages c.of-layout.result c.size-size.ensures.grid in
    let same = ap length (c.as_slice.ensures.value ∙ c.in_ok-route.ensures.passages) in
    omega (arith, few, same)

pub numbers_of-numbers-requires-clause-inside : goal.numbers_of-numbers-requires-clause-inside
numbers_of-numbers-requires-clause-inside c =
    subst (All IsInside) (sym (c.as_slice.ensures.value ∙ c.in_ok-route.ensures.passages)) (passages_inside c.of-layout.result c.size-size.ensures.grid)

pub numbers_of-numbers-requires-clause-apart : goal.numbers_of-numbers-requires-clause-apart
numbers_of-numbers-requires-clause-apart c =
    subst (λ (ps : List Passage). AllPairs (λ p z. p ≢ z) ps) (sym (c.as_slice.ensures.value ∙ c.in_ok-route.ensures.passages))
    (passages_differ c.of-layout.result c.size-size.ensures.grid)

pub push_crossings-requires : goal.push_crossings-requires
push_crossings-requires c =
    let d = c.of-layout.result in
    record {
      row = omega arith;
      after = c.as_slice-in-loop-row.ensures.value ∙ c.in_ok-route.ensures.after;
      numbers =
          subst (λ (ps : List Passage). HasNumbers ps c.numbers_of-numbers.result)
          (c.as_slice.ensures.value ∙ c.in_ok-route.ensures.passages) c.numbers_of-numbers.ensures;
    }

pub loop-row-preserved : goal.loop-row-preserved
loop-row-preserved c =
    crossed_more c.of-layout.result c.loop-row.row c.loop-row.found.items c.push_crossings.new.out.items c.loop-row.invariant c.in_ok-push_crossings.ensures

pub overflow_cast-result : goal.overflow_cast-result
overflow_cast-result c =
    let few = few_passages c.of-layout.result c.size-size.ensures.grid in
    let same = ap length c.in_ok-route.ensures.passages in
    omega (arith, few, same, c.len-2.ensures)

pub returns-clause-code : goal.returns-clause-code
returns-clause-code c =
    let d = c.of-layout.result in
    let whole : c.loop-row.row ≡ size d = omega arith in
    code_is d c.from_vec.result c.len-2.result c.in_ok-route.route.loops
    (c.from_vec.ensures ∙ (c.loop-row.invariant ∙ (ap (crossed_below d) whole ∙ all_crossed d)))
    (let same = ap length c.in_ok-route.ensures.passages in omega (arith, same, c.len-2.ensures))
    c.in_ok-route.ensures.loops
    ∙ ap code c.of-layout.ensures

pub returns-clause-colourings : goal.returns-clause-colourings
returns-clause-colourings c = λ t q.
    let d = c.of-layout.result in
    let whole : c.loop-row.row ≡ size d = omega arith in
    let is = code_is d c.from_vec.result c.len-2.result c.in_ok-route.route.loops
    (c.from_vec.ensures ∙ (c.loop-row.invariant ∙ (ap (crossed_below d) whole ∙ all_crossed d)))
    (let same = ap length c.in_ok-route.ensures.passages in omega (arith, same, c.len-2.ensures))
    c.in_ok-route.ensures.loops in
    let grid = subst IsGrid c.of-layout.ensures c.size-size.ensures.grid in
    subst (λ (x : Code). IsBijection (IsColouring t c.args.grid.now) (λ edges. is_code_colouring t x edges ≡ true) (edge_colours t c.args.grid.now))
    (sym (is ∙ ap code c.of-layout.ensures)) (one_to_one t c.args.grid.now q grid)
