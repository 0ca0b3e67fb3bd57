use Rattle.std.proofs.Common.{◌≡◌, ◌≤◌, ◌+◌, ◌-◌, ◌++◌, ◌∙◌, ◌∷◌, [], ◌==◌, ℕ, List, length, take, get_or, map, true, false, sym, ap, arith}
use Rattle.std.specs.List.{flat_map, filter}
use Rattle.std.proofs.lemmas.Bool.{eq-eqb, ne_eqb}
use Rattle.std.proofs.lemmas.List.{take_more, length-append}
use Rattle.grid_core.specs.declared.grid.TheConstants.{MAX_SIZE}
use Rattle.crossing_codes.specs.Passages.{passages_from}
use Rattle.crossing_codes.specs.Edges.{leads_to, all_lead_to}
use Rattle.crossing_codes.specs.declared.edges.TheConstants.{MAX_SLOTS}
use Rattle.crossing_codes.proofs.RouteSteps.{round_more, few_so_far, few_loops, all_lead_more, loops_more}
use Rattle.crossing_codes.proofs.edges.Route.of.Goals as goal
use Rattle.crossing_codes.proofs.edges.Route.of.Goals.{then-count-eq0, else-count-eq0}

pub overflow_cast-before : goal.overflow_cast-before
overflow_cast-before c =
    let few : length c.loop-start.passages.items ≤ MAX_SLOTS =
    few_so_far c.args.layout.now c.size.ensures.grid c.as_slice-start-items.result.now c.loop-start.start-index c.loop-start.passages.items
    (c.as_slice-start-items.ensures.value ∙ c.starts-starts.ensures.starts) c.loop-start.invariant.passages in
    omega (arith, few, c.len-before.ensures)

pub overflow_cast-count : goal.overflow_cast-count
overflow_cast-count c =
    let d = c.args.layout.now in
    let ss = c.as_slice-start-items.result.now in
    let i = c.loop-start.start-index in
    let all =
    round_more (passages_from d) ss i c.loop-start.passages.items c.push_round.new.out.items c.loop-start-test.true c.loop-start.invariant.passages c.in_ok-push_round.ensures in
    let few : length c.push_round.new.out.items ≤ MAX_SLOTS =
    few_so_far d c.size.ensures.grid ss (i + 1) c.push_round.new.out.items (c.as_slice-start-items.ensures.value ∙ c.starts-starts.ensures.starts) all in
    omega (arith, few, c.len.ensures)

pub push_leads-requires : goal.push_leads-requires
push_leads-requires c =
    let d = c.args.layout.now in
    let ss = c.as_slice-start-items.result.now in
    let i = c.loop-start.start-index in
    let all =
    round_more (passages_from d) ss i c.loop-start.passages.items c.push_round.new.out.items c.loop-start-test.true c.loop-start.invariant.passages c.in_ok-push_round.ensures in
    let few : length c.push_round.new.out.items ≤ MAX_SLOTS =
    few_so_far d c.size.ensures.grid ss (i + 1) c.push_round.new.out.items (c.as_slice-start-items.ensures.value ∙ c.starts-starts.ensures.starts) all in
    let more = ap length c.in_ok-push_round.ensures in
    omega (arith, few, c.len.ensures, c.len-before.ensures, more, length-append c.loop-start.passages.items (passages_from d (get_or ss i 0)))

pub overflow_add-loops : goal.overflow_add-loops
overflow_add-loops c =
    let few : c.loop-start.loops ≤ MAX_SIZE =
    few_loops c.args.layout.now c.as_slice-start-items.result.now c.loop-start.start-index c.loop-start.loops c.as_slice-start-items.ensures.fits c.loop-start.invariant.loops in
    omega (arith, few)

pub loop-start-preserved : goal.loop-start-preserved
loop-start-preserved c =
    let d = c.args.layout.now in
    let g = passages_from d in
    let ss = c.as_slice-start-items.result.now in
    let i = c.loop-start.start-index in
    let s = get_or ss i 0 in
    let front = take i ss in
    let next : take (i + 1) ss ≡ front ++ s ∷ [] = take_more ss i 0 c.loop-start-test.true in
    let before = c.loop-start.invariant in
    let more = ap length c.in_ok-push_round.ensures in
    let n = length-append c.loop-start.passages.items (g s) in
    let b : c.len-before.result ≡ length (flat_map g front) = omega (arith, c.len-before.ensures, ap length before.passages) in
    let count : c.len.result - c.len-before.result ≡ length (g s) = omega (arith, c.len.ensures, c.len-before.ensures, more, n) in
    let leads : c.push_leads.new.after.items ≡ c.loop-start.after.items ++ leads_to (length (flat_map g front)) (length (g s)) =
    c.in_ok-push_leads.ensures
    ∙ (ap (λ (k : ℕ). c.loop-start.after.items ++ leads_to k (c.len.result - c.len-before.result)) b
    ∙ ap (λ (k : ℕ). c.loop-start.after.items ++ leads_to (length (flat_map g front)) k) count) in
    record {
      passages = round_more g ss i c.loop-start.passages.items c.push_round.new.out.items c.loop-start-test.true before.passages c.in_ok-push_round.ensures;
      after = leads ∙ (ap (λ (es : List ℕ). es ++ leads_to (length (flat_map g front)) (length (g s))) before.after
          ∙ (sym (all_lead_more g front s) ∙ ap (λ (zs : List ℕ). all_lead_to 0 (map (λ x. length (g x)) zs)) (sym next)));
      loops = elim c.if-count-eq0.branch [
        | then-count-eq0 w ↦
            let empty : (length (g s) == 0) ≡ true = eq-eqb (length (g s)) 0 (sym count ∙ w.if-count-eq0.true) in
            w.loops-is ∙
            (ap (λ (k : ℕ). k + 1) before.loops
            ∙ sym (ap (λ (zs : List ℕ). length (filter (λ x. length (g x) == 0) zs)) next ∙ loops_more g front s true empty))
        | else-count-eq0 w ↦
            let some : (length (g s) == 0) ≡ false = ne_eqb (length (g s)) 0 (λ e. w.if-count-eq0.false (count ∙ e)) in
            w.loops-is ∙
            (before.loops ∙ sym (ap (λ (zs : List ℕ). length (filter (λ x. length (g x) == 0) zs)) next ∙ (loops_more g front s false some ∙ omega arith)))
      ];
    }
