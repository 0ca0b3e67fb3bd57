use Rattle.std.proofs.Common.{◌≡◌, ◌++◌, ◌∙◌, List, length, get_or, sym, ap, subst, arith}
use Rattle.std.specs.List.{All}
use Rattle.std.proofs.lemmas.Bool.{eqb-true, eqb-false}
use Rattle.crossing_codes.specs.declared.passages.Passage.{Passage}
use Rattle.crossing_codes.specs.Passages.{passages_from}
use Rattle.crossing_codes.specs.Layout.{HasCrossingNumber}
use Rattle.crossing_codes.specs.OnTheWay.{LiesIn}
use Rattle.crossing_codes.specs.Printed.{gauss_line, gauss_text}
use Rattle.crossing_codes.proofs.EdgeSteps.{round_inside}
use Rattle.crossing_codes.proofs.GaussSteps.{round_numbered, line_further, no_line_further, lines_done}
use Rattle.crossing_codes.proofs.printed.gauss_text.Goals as goal
use Rattle.crossing_codes.proofs.printed.gauss_text.Goals.{then-not-is_empty+in_ok-push_gauss_line, else-not-is_empty}

pub push_gauss_line-requires-clause-inside : goal.push_gauss_line-requires-clause-inside
push_gauss_line-requires-clause-inside c =
    let d = c.of-layout.result in
    let ss = c.as_slice-start-items.result.now in
    let i = c.loop-start.start-index in
    let round : c.as_slice.result.now ≡ passages_from d (get_or ss i 0) =
    c.as_slice.ensures.value ∙ (c.in_ok-push_round.ensures ∙ ap (λ (ps : List Passage). ps ++ passages_from d (get_or ss i 0)) c.clear.ensures.items) in
    subst (All (LiesIn d)) (sym round)
    (round_inside d c.size-size.ensures.grid ss i (c.as_slice-start-items.ensures.value ∙ c.starts-starts.ensures.starts) c.loop-start-test.true)

pub push_gauss_line-requires-clause-numbers : goal.push_gauss_line-requires-clause-numbers
push_gauss_line-requires-clause-numbers c =
    let d = c.of-layout.result in
    let ss = c.as_slice-start-items.result.now in
    let i = c.loop-start.start-index in
    let table = c.crossing_numbers-numbers.result in
    let round : c.as_slice.result.now ≡ passages_from d (get_or ss i 0) =
    c.as_slice.ensures.value ∙ (c.in_ok-push_round.ensures ∙ ap (λ (ps : List Passage). ps ++ passages_from d (get_or ss i 0)) c.clear.ensures.items) in
    subst (All (HasCrossingNumber d table)) (sym round)
    (round_numbered d c.size-size.ensures.grid table ss i c.crossing_numbers-numbers.ensures
    (c.as_slice-start-items.ensures.value ∙ c.starts-starts.ensures.starts) c.loop-start-test.true)

pub loop-start-preserved : goal.loop-start-preserved
loop-start-preserved c =
    let d = c.of-layout.result in
    let ss = c.as_slice-start-items.result.now in
    let i = c.loop-start.start-index in
    let s = get_or ss i 0 in
    let round : c.push_round.new.out.items ≡ passages_from d s =
    c.in_ok-push_round.ensures ∙ ap (λ (ps : List Passage). ps ++ passages_from d s) c.clear.ensures.items in
    let count = ap length round in
    elim c.if-not-is_empty.branch [
      | then-not-is_empty+in_ok-push_gauss_line w ↦
          let some : length (passages_from d s) ≡ 0 → ⊥ = λ e. eqb-false _ 0 (sym c.is_empty.ensures ∙ w.if-not-is_empty.true) (omega arith) in
          rw w.out-is (line_further d ss i c.loop-start.out.items w.push_gauss_line.new.out.items c.loop-start-test.true some c.loop-start.invariant
          (w.in_ok-push_gauss_line.ensures ∙ ap (λ (ps : List Passage). c.loop-start.out.items ++ gauss_line d ps) (w.as_slice.ensures.value ∙ round)))
      | else-not-is_empty w ↦
          let empty : length (passages_from d s) ≡ 0 = let e = eqb-true _ 0 (sym c.is_empty.ensures ∙ w.if-not-is_empty.false) in omega arith in
          rw w.out-is (no_line_further d ss i c.loop-start.out.items c.loop-start-test.true empty c.loop-start.invariant)
    ]

pub returns : goal.returns
returns c =
    c.loop-start.invariant
    ∙ (lines_done c.of-layout.result c.as_slice-start-items.result.now c.loop-start.start-index
    (c.as_slice-start-items.ensures.value ∙ c.starts-starts.ensures.starts) c.loop-start-test.false
    ∙ ap gauss_text c.of-layout.ensures)
