use Rattle.std.proofs.Common.{◌∙◌, ◌+◌, ◌-◌, ◌*◌, ◌/◌, ◌%◌, ◌<◌, ℕ, List, length, sym, ap, subst, arith}
use Rattle.std.proofs.lemmas.List.FromFn.{length-map-range_with_len}
use Rattle.cocycle_core.proofs.Powers.{inside_of, quotient_at, quotient_below}
use Rattle.cocycle_core.specs.Formula.{quotient}
use Rattle.cocycle_core.proofs.formula.value_at.Goals as goal

pub bounds-quotients-place : goal.bounds-quotients-place
bounds-quotients-place c =
    let inside = inside_of c.args.p c.args.place (omega arith) c.requires.place in
    omega (
      arith,
      inside.2,
      ap (λ (xs : List ℕ). length xs) c.requires.quotients,
      length-map-range_with_len (λ k. quotient c.args.p (k / c.args.p) (k % c.args.p)) 0 (c.args.p * c.args.p),
    )

pub value-requires-clause-inside : goal.value-requires-clause-inside
value-requires-clause-inside c =
    let inside = inside_of c.args.p c.args.place (omega arith) c.requires.place in (
      inside.0,
      inside.1,
      subst (λ (q : ℕ). q < c.args.p) (sym (quotient_at c.args.p c.args.place c.args.quotients.now (omega arith) c.requires.quotients))
          (quotient_below c.args.p (c.args.place / c.args.p % c.args.p) (c.args.place % c.args.p) (omega arith)),
    )

pub returns : goal.returns
returns c =
    c.value.ensures.value
    ∙ ap (λ (q : ℕ). (c.args.place / c.args.p / c.args.p + (c.args.p - 1) * (c.args.place / c.args.p % c.args.p)) * q % c.args.p)
    (quotient_at c.args.p c.args.place c.args.quotients.now (omega arith) c.requires.quotients)
