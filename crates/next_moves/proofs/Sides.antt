-- Neighbours on the circle, brought side by side.
use Rattle.std.proofs.Common.{◌≡◌, ◌≢◌, ◌<◌, ◌≤◌, ◌+◌, ◌-◌, ◌⊎◌, ◌∙◌, ℕ, cond, arith, sym, ap, ap₂, inl, inr}
use Rattle.std.proofs.lemmas.Bool.{cases_eq, eq-eqb, ne_eqb}
use Rattle.std.proofs.lemmas.Bool.Decides.{nat_tests}
use Rattle.grid_moves.specs.Shift.{shifted}
use Rattle.grid_keys.proofs.Translated.{origin, origin_cases, origin-shifted}
use Rattle.grid_moves.specs.declared.step.Move.{Move}
use Rattle.grid_moves.specs.declared.step.Move.TheVariants.{Destabilise}
use Rattle.next_moves.specs.Tries.{Try, shift_before, place_after_shift, try_destabilisation}
use Rattle.grid_canon.specs.ShortTrades.{next}
use Rattle.next_moves.specs.Blocks.{first_of_pair, one_if_at, one_if_above}

-- the last, or any other
pub shift_before_cases : (n c : ℕ) → c < n → ((c + 1 ≡ n) × (shift_before n c ≡ 1) × (place_after_shift n c ≡ n - 2) × (next n
    c ≡ 0)) ⊎ ((c + 1 < n) × (shift_before n c ≡ 0) × (place_after_shift n c ≡ c) × (next n c ≡ c + 1))
shift_before_cases n c lt = elim (cases_eq (c + 1) n) [
  | inl last ↦
      inl (
        last,
        ap (λ t. cond t 1 0) (eq-eqb (c + 1) n last),
        ap (λ t. cond t (n - 2) c) (eq-eqb (c + 1) n last),
        ap (λ t. cond t 0 (c + 1))
            (eq-eqb (c + 1) n last),
      )
  | inr other ↦
      inr (
        omega (arith, lt, other),
        ap (λ t. cond t 1 0) (ne_eqb (c + 1) n other),
        ap (λ t. cond t (n - 2) c)
            (ne_eqb (c + 1) n other),
        ap (λ t. cond t 0 (c + 1)) (ne_eqb (c + 1) n other),
      )
]

pub shift_before-below : (n c : ℕ) → 2 ≤ n → c < n → shift_before n c < n
shift_before-below n c least lt = elim (shift_before_cases n c lt) [ inl last ↦ omega (arith, last.1, least) | inr other ↦ omega (arith, other.1, least) ]

pub shift_before-le : (n c : ℕ) → 2 ≤ n → c < n → shift_before n c ≤ c
shift_before-le n c least lt = elim (shift_before_cases n c lt) [ inl last ↦ omega (arith, last.0, last.1, least) | inr other ↦ omega (arith, other.1) ]

pub place_after_shift_is : (n c : ℕ) → 2 ≤ n → c < n → place_after_shift n c ≡ c - shift_before n c
place_after_shift_is n c least lt = elim (shift_before_cases n c lt)
    [ inl last ↦ omega (arith, last.0, last.1, last.2, least) | inr other ↦ omega (arith, other.1, other.2) ]

pub place_after_shift-below : (n c : ℕ) → 2 ≤ n → c < n → place_after_shift n c + 1 < n
place_after_shift-below n c least lt = elim (shift_before_cases n c lt)
    [ inl last ↦ omega (arith, last.2, least) | inr other ↦ omega (arith, other.0, other.2) ]

pub next-below : (n c : ℕ) → c < n → next n c < n
next-below n c lt = elim (shift_before_cases n c lt) [ inl last ↦ omega (arith, last.3, lt) | inr other ↦ omega (arith, other.0, other.3) ]

-- where the two stood
pub first_origin : (n c : ℕ) → 2 ≤ n → c < n → origin n (shift_before n c) (place_after_shift n c) ≡ c
first_origin n c least lt =
    let cases =
    origin_cases n (shift_before n c) (place_after_shift n c) (shift_before-below n c least lt) (omega (arith, place_after_shift-below n c least lt)) in
    elim (shift_before_cases n c lt) [
      | inl last ↦ elim cases [
        | inl low ↦ omega (arith, last.0, last.1, last.2, least, low.1)
        | inr high ↦
            absurd (omega (arith, last.0, last.1, last.2, least, high.0))
      ]
      | inr other ↦ elim cases [ inl low ↦ omega (arith, other.1, other.2, low.1) | inr high ↦ absurd (omega (arith, other.0, other.1, other.2, high.0)) ]
    ]

pub second_origin : (n c : ℕ) → 2 ≤ n → c < n → origin n (shift_before n c) (place_after_shift n c + 1) ≡ next n c
second_origin n c least lt =
    let cases = origin_cases n (shift_before n c) (place_after_shift n c + 1) (shift_before-below n c least lt) (place_after_shift-below n c least lt) in
    elim (shift_before_cases n c lt) [
      | inl last ↦ elim cases [
        | inl low ↦ absurd (omega (arith, last.0, last.1, last.2, least, low.0))
        | inr high ↦
            omega (arith, last.0, last.1, last.2, last.3, least, high.1)
      ]
      | inr other ↦ elim cases [
        | inl low ↦ omega (arith, other.1, other.2, other.3, low.1)
        | inr high ↦
            absurd (omega (arith, other.0, other.1, other.2, high.0))
      ]
    ]

-- what comes to the first place or to the second one
pub from_first : (n c z : ℕ) → 2 ≤ n → c < n → z < n → shifted n (shift_before n c) z ≡ place_after_shift n c → z ≡ c
from_first n c z least lt lz e =
    sym (origin-shifted n (shift_before n c) z (shift_before-below n c least lt) lz) ∙ ap (λ (w : ℕ). origin n (shift_before n c) w) e
    ∙ first_origin n c least lt

pub from_second : (n c z : ℕ) → 2 ≤ n → c < n → z < n → shifted n (shift_before n c) z ≡ place_after_shift n c + 1 → z ≡ next n c
from_second n c z least lt lz e =
    sym (origin-shifted n (shift_before n c) z (shift_before-below n c least lt) lz) ∙ ap (λ (w : ℕ). origin n (shift_before n c) w) e
    ∙ second_origin n c least lt

-- two rows of a block
pub pair_of_rows : (n r x o : ℕ) → 3 ≤ n → r < n → (x ≡ r) ⊎ (x ≡ next n r) → (o ≡ r) ⊎ (o ≡ next n r) → x ≢ o → first_of_pair n x o ≡ r
pair_of_rows n r x o least lt ex eo ne = grind (arith, nat_tests)

-- a block by the shifts before it
pub block_made : (n c r a b : ℕ) → 2 ≤ n → c < n → r < n → a ≡ shift_before n c → b ≡ shift_before n r
    → ◌≡◌ {A = Try} (record { before = (a, b); step = Destabilise (c - a) (r - b) }) (try_destabilisation n c r)
block_made n c r a b least hc hr ea eb =
    ap₂ (λ (z w : ℕ). made z w (c - z) (r - w)) ea eb
    ∙ ap₂ (λ (z w : ℕ). made (shift_before n c) (shift_before n r) z w) (sym (place_after_shift_is n c least hc)) (sym (place_after_shift_is n r least hr))
  where
    made : ℕ → ℕ → ℕ → ℕ → Try
    made a b c r = record { before = (a, b); step = Destabilise c r }

-- an exchange or a slide by the shift before it
pub column_made : (step : ℕ → Move) (n c a q : ℕ) → a ≡ shift_before n c → q ≡ place_after_shift n c
    → ◌≡◌ {A = Try} (record { before = (a, 0); step = step q }) (record { before = (shift_before n c, 0); step = step (place_after_shift n c) })
column_made step n c a q ea eq = ap₂ (λ (z w : ℕ). made z w) ea eq
  where
    made : ℕ → ℕ → Try
    made a q = record { before = (a, 0); step = step q }

pub row_made : (step : ℕ → Move) (n r b q : ℕ) → b ≡ shift_before n r → q ≡ place_after_shift n r
    → ◌≡◌ {A = Try} (record { before = (0, b); step = step q }) (record { before = (0, shift_before n r); step = step (place_after_shift n r) })
row_made step n r b q eb eq = ap₂ (λ (z w : ℕ). made z w) eb eq
  where
    made : ℕ → ℕ → Try
    made b q = record { before = (0, b); step = step q }

-- at most one row is counted
pub passed_more : (a r : ℕ) → one_if_above a (r + 1) ≡ one_if_above a r + one_if_at a r
passed_more a r = grind (arith, nat_tests)

pub passed_le : (a r : ℕ) → one_if_above a r ≤ 1
passed_le a r = grind (arith, nat_tests)
