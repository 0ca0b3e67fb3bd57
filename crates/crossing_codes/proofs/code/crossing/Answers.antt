use Rattle.std.proofs.Common.{◌≡◌, ◌+◌, ◌<◌, ◌∙◌, ℕ, List, Bool, true, false, length, get_or, sym, ap, subst}
use Rattle.std.specs.Prelude.{if◌then◌else◌}
use Rattle.crossing_codes.specs.Passages.{through}
use Rattle.crossing_codes.specs.Edges.{edge_from, edge_to, edges_after}
use Rattle.crossing_codes.proofs.Crossings.{cell, IsCrossing}
use Rattle.crossing_codes.proofs.CodeSteps.{number_is, crossing_is}
use Rattle.crossing_codes.proofs.code.crossing.Goals as goal
use Rattle.crossing_codes.proofs.code.crossing.Goals.{then-positive, else-positive}

pub bounds-after-over : goal.bounds-after-over
bounds-after-over c =
    subst (λ (es : List ℕ). get_or c.args.numbers.now c.slot.result 0 < length es) (sym c.requires.after)
    (number_is c.args.layout.now c.size-size.ensures.grid c.args.numbers.now c.requires.numbers true c.args.column c.args.row c.slot.result c.requires.row
    (record { covered = c.requires.covers; across = c.requires.across }) c.slot.ensures.is).1

pub bounds-after-under : goal.bounds-after-under
bounds-after-under c =
    subst (λ (es : List ℕ). get_or c.args.numbers.now c.slot-2.result 0 < length es) (sym c.requires.after)
    (number_is c.args.layout.now c.size-size.ensures.grid c.args.numbers.now c.requires.numbers false c.args.column c.args.row c.slot-2.result c.requires.row
    (record { covered = c.requires.covers; across = c.requires.across }) c.slot-2.ensures.is).1

pub returns : goal.returns
returns c =
    let d = c.args.layout.now in
    let k = c.args.column in
    let r = c.args.row in
    let grid = c.size-size.ensures.grid in
    let x : IsCrossing d k r = record { covered = c.requires.covers; across = c.requires.across } in
    let numbers = c.args.numbers.now in
    let o = number_is d grid numbers c.requires.numbers true k r c.slot.result c.requires.row x c.slot.ensures.is in
    let u = number_is d grid numbers c.requires.numbers false k r c.slot-2.result c.requires.row x c.slot-2.ensures.is in
    let over = through true (cell k r) in
    let under = through false (cell k r) in
    let from : c.from.result + 1 ≡ edge_from d over = ap (λ (n : ℕ). n + 1) (c.from.ensures ∙ o.0) in
    let to : get_or c.args.after.now (get_or numbers c.slot.result 0) 0 ≡ edge_to d over =
    ap (λ (es : List ℕ). get_or es (get_or numbers c.slot.result 0) 0) c.requires.after ∙ ap (λ (n : ℕ). get_or (edges_after d) n 0) o.0 in
    let positive = c.is_positive-positive.result in
    let at : (b : Bool) → positive ≡ b → (m n : ℕ) → (if b then m else n) ≡ (if positive then m else n) = λ b e m n. ap (λ t. if t then m else n) (sym e) in
    crossing_is d k r (c.from-2.result + 1) c.if-positive.second.0
    (get_or c.args.after.now (get_or numbers c.slot-2.result 0) 0) c.if-positive.second.1 positive c.is_positive-positive.ensures
    (ap (λ (n : ℕ). n + 1) (c.from-2.ensures ∙ u.0))
    (elim c.if-positive.branch [
      | then-positive w ↦ ap (λ (p : ℕ × ℕ). p.0) w.second-is ∙ (to ∙ at true w.if-positive.true (edge_to d over) (edge_from d over))
      | else-positive w ↦ ap (λ (p : ℕ × ℕ). p.0) w.second-is ∙ (from ∙ at false w.if-positive.false (edge_to d over) (edge_from d over))
    ])
    (ap (λ (es : List ℕ). get_or es (get_or numbers c.slot-2.result 0) 0) c.requires.after ∙ ap (λ (n : ℕ). get_or (edges_after d) n 0) u.0)
    (elim c.if-positive.branch [
      | then-positive w ↦ ap (λ (p : ℕ × ℕ). p.1) w.second-is ∙ (from ∙ at true w.if-positive.true (edge_from d over) (edge_to d over))
      | else-positive w ↦ ap (λ (p : ℕ × ℕ). p.1) w.second-is ∙ (to ∙ at false w.if-positive.false (edge_from d over) (edge_to d over))
    ])
