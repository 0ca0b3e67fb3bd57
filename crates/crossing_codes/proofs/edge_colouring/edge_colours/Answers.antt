use Rattle.std.proofs.Common.{◌≡◌, ◌<◌, ◌≤◌, ◌++◌, ◌∙◌, ℕ, List, length, get_or, sym, ap, subst, arith}
use Rattle.std.specs.List.{All}
use Rattle.std.proofs.lemmas.Bool.{eqb-true, eqb-false}
use Rattle.std.proofs.lemmas.List.Elements.{All-get_or}
use Rattle.grid_core.specs.declared.grid.TheConstants.{MAX_SIZE}
use Rattle.grid_core.specs.Diagram.{Diagram, size}
use Rattle.colour_rows.specs.Colouring.{IsColouring}
use Rattle.crossing_codes.specs.declared.passages.Passage.{Passage}
use Rattle.crossing_codes.specs.Passages.{passages_from}
use Rattle.crossing_codes.specs.EdgeColouring.{edge_colours}
use Rattle.crossing_codes.specs.OnTheWay.{LiesIn, on_the_way}
use Rattle.crossing_codes.proofs.EdgeSteps.{round_arrives, round_inside, edges_further, loop_further, no_loop_further, edges_done}
use Rattle.crossing_codes.proofs.edge_colouring.edge_colours.Goals as goal
use Rattle.crossing_codes.proofs.edge_colouring.edge_colours.Goals.{then-is_empty, else-is_empty}

pub push-requires : goal.push-requires
push-requires c =
    let few = c.loop-start.invariant.few in
    let fits : length c.as_slice-start-items.result.now ≤ MAX_SIZE = c.as_slice-start-items.ensures.fits in
    let room : length c.loop-start.loops.items < MAX_SIZE = omega arith in
    (omega arith, room)

pub push_edges-requires : goal.push_edges-requires
push_edges-requires c =
    let t = c.args.quandle.now in
    let d = c.of-layout.result in
    let f = c.as_slice-colours.result.now in
    let ss = c.as_slice-start-items.result.now in
    let i = c.loop-start.start-index in
    let colouring : IsColouring t d f =
    subst (λ (e : Diagram). IsColouring t e f) (sym c.of-layout.ensures)
    (subst (λ (xs : List ℕ). IsColouring t c.args.grid.now xs) (sym c.as_slice-colours.ensures.value) c.requires) in
    let long = colouring.colours_are.0 in
    let below = colouring.colours_are.1 in
    let start : get_or ss i 0 < size d =
    subst (λ (zs : List ℕ). get_or zs i 0 < size d) (sym c.as_slice-start-items.ensures.value)
    (c.starts-starts.ensures.inside i 0 (let n = ap length c.as_slice-start-items.ensures.value in omega arith)) in
    let are = c.as_slice-start-items.ensures.value ∙ c.starts-starts.ensures.starts in
    let round : c.as_slice.result.now ≡ passages_from d (get_or ss i 0) =
    c.as_slice.ensures.value ∙ (c.in_ok-push_round.ensures ∙ ap (λ (ps : List Passage). ps ++ passages_from d (get_or ss i 0)) c.clear.ensures.items) in
    record {
      colours = below;
      long = omega arith;
      colour = All-get_or (λ y. y < t.order) f (get_or ss i 0) 0 (omega arith) below;
      round = subst (All (LiesIn d)) (sym round) (round_inside d c.size-size.ensures.grid ss i are c.loop-start-test.true);
    }

pub loop-start-preserved : goal.loop-start-preserved
loop-start-preserved c =
    let t = c.args.quandle.now in
    let d = c.of-layout.result in
    let f = c.as_slice-colours.result.now in
    let ss = c.as_slice-start-items.result.now in
    let i = c.loop-start.start-index in
    let s = get_or ss i 0 in
    let before = c.loop-start.invariant in
    let few = before.few in
    let colouring : IsColouring t d f =
    subst (λ (e : Diagram). IsColouring t e f) (sym c.of-layout.ensures)
    (subst (λ (xs : List ℕ). IsColouring t c.args.grid.now xs) (sym c.as_slice-colours.ensures.value) c.requires) in
    let start : s < size d =
    subst (λ (zs : List ℕ). get_or zs i 0 < size d) (sym c.as_slice-start-items.ensures.value)
    (c.starts-starts.ensures.inside i 0 (let n = ap length c.as_slice-start-items.ensures.value in omega arith)) in
    let round : c.push_round.new.out.items ≡ passages_from d s =
    c.in_ok-push_round.ensures ∙ ap (λ (ps : List Passage). ps ++ passages_from d s) c.clear.ensures.items in
    let count = ap length round in
    let edges = c.in_ok-push_edges.ensures
    ∙ (ap (λ (ps : List Passage). c.loop-start.found.items ++ on_the_way t d f (get_or f s 0) ps) (c.as_slice.ensures.value ∙ round)
    ∙ ap (λ (es : List ℕ). c.loop-start.found.items ++ es) (round_arrives t d f c.size-size.ensures.grid c.order-order.ensures.quandle colouring s start)) in
    elim c.if-is_empty.branch [
      | then-is_empty w ↦
          let empty : length (passages_from d s) ≡ 0 = let e = eqb-true _ 0 (sym c.is_empty.ensures ∙ w.if-is_empty.true) in omega arith in
          record {
            edges = edges_further t d f ss i c.loop-start.found.items c.push_edges.new.out.items c.loop-start-test.true before.edges edges;
            loops =
                rw w.loops-is
                (loop_further d f ss i c.loop-start.loops.items w.push.new.self.items c.loop-start-test.true empty before.loops w.push.ensures.items);
            few = rw w.loops-is (let n = w.push.ensures.len in omega arith);
          }
      | else-is_empty w ↦
          let some : length (passages_from d s) ≡ 0 → ⊥ = λ e. eqb-false _ 0 (sym c.is_empty.ensures ∙ w.if-is_empty.false) (omega arith) in
          record {
            edges = edges_further t d f ss i c.loop-start.found.items c.push_edges.new.out.items c.loop-start-test.true before.edges edges;
            loops = rw w.loops-is (no_loop_further d f ss i c.loop-start.loops.items c.loop-start-test.true some before.loops);
            few = rw w.loops-is (omega arith);
          }
    ]

pub returns : goal.returns
returns c =
    let t = c.args.quandle.now in
    let d = c.of-layout.result in
    let f = c.as_slice-colours.result.now in
    c.in_ok-extend_from_slice.ensures.items
    ∙ (ap (λ (ys : List ℕ). c.loop-start.found.items ++ ys) c.as_slice-2.ensures.value
    ∙ (edges_done t d f c.as_slice-start-items.result.now c.loop-start.start-index c.loop-start.found.items c.loop-start.loops.items
    (c.as_slice-start-items.ensures.value ∙ c.starts-starts.ensures.starts) c.loop-start-test.false c.loop-start.invariant.edges c.loop-start.invariant.loops
    ∙ (ap (λ (e : Diagram). edge_colours t e f) c.of-layout.ensures ∙ ap (edge_colours t c.args.grid.now) c.as_slice-colours.ensures.value)))
