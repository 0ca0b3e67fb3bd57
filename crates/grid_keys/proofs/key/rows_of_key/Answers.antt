use Rattle.std.proofs.Common.{◌≡◌, ◌%◌, ◌*◌, ◌/◌, ◌^◌, ◌∷◌, ◌++◌, [], ◌∙◌, ℕ, List, arith, ap, ap₂, length, sym}
use Rattle.std.specs.List.{range_with_len}
use Rattle.std.proofs.lemmas.List.{length-map}
use Rattle.std.proofs.lemmas.List.FromFn.{length-range_with_len}
use Rattle.grid_keys.specs.declared.key.TheConstants.{BITS_BEHIND_TOP}
use Rattle.grid_keys.specs.Key.{digit_at}
use Rattle.grid_keys.proofs.DigitsOnTop.{on_top, top_digit, next_on_top, first_on_top}
use Rattle.grid_keys.proofs.Numbers.{digits_more}
use Rattle.grid_keys.proofs.key.rows_of_key.Goals as goal
use Rattle.grid_keys.proofs.key.rows_of_key.Goals.{then-place-eq0, else-place-eq0, After-push}

pub push-requires : goal.push-requires
push-requires c = (
  omega arith,
  omega (
    arith,
    ap length c.loop-c.invariant.0,
    length-map (range_with_len 0 c.loop-c.c)
        (digit_at c.args.words.now),
    length-range_with_len 0 c.loop-c.c,
    c.requires,
  ),
)

stands_on_top : (c : After-push) → c.if-place-eq0.rest ≡ on_top c.args.words.now c.loop-c.c
stands_on_top c = elim c.if-place-eq0.branch [
  | then-place-eq0 w ↦ w.rest-is ∙ first_on_top c.args.words.now c.loop-c.c w.if-place-eq0.true
  | else-place-eq0 w ↦ w.rest-is ∙ c.loop-c.invariant.1 w.if-place-eq0.false
]

pub loop-c-preserved : goal.loop-c-preserved
loop-c-preserved c = (
  c.push.ensures.items ∙ ap₂ (λ (xs : List ℕ) (x : ℕ). xs ++ x ∷ []) c.loop-c.invariant.0
      (ap (λ (z : ℕ). z / 2 ^ BITS_BEHIND_TOP) (stands_on_top c) ∙ top_digit c.args.words.now c.loop-c.c)
      ∙ sym (digits_more (digit_at c.args.words.now) c.loop-c.c),
  λ inside. ap (λ (z : ℕ). z * 64 % 2 ^ 128) (stands_on_top c) ∙ next_on_top c.args.words.now c.loop-c.c inside,
)
