-- The rows that a line of Xs may have are each number below their number once.
use Rattle.std.proofs.Common.{◌≡◌, ◌<◌, ◌≤◌, ◌↔◌, ◌==◌, ◌∙◌, ℕ, List, [], ◌∷◌, Bool, true, false, not, length, get_or, take, nat_le, nat_lt, arith, refl, sym}
use Rattle.std.proofs.Common.{ap, inl, inr, zero-add}
use Rattle.std.specs.List.{AllByRecursion, list_all, list_any, range_with_len}
use Rattle.std.proofs.lemmas.Bool.{ltb-true, leb-true, cases_order, eq-eqb, and_parts, not-true}
use Rattle.std.proofs.lemmas.List.{get_or-take, length-take}
use Rattle.std.proofs.lemmas.List.Elements.{All-from_recursion}
use Rattle.std.proofs.lemmas.List.Folds.{list_any_at}
use Rattle.std.proofs.lemmas.List.FromFn.{get_or-range_with_len, length-range_with_len}
use Rattle.grid_core.specs.Diagram.{IsOneEach}
use Rattle.grid_core.specs.Fault.{is_repeated}
use Rattle.grid_core.proofs.OneEach.{IsApart, each_from_apart}
use Rattle.text_items.specs.Grids.{is_one_each, are_rows}
use Rattle.knot_text.proofs.GridAgain.{rows_are}

-- a row that stands in two columns is repeated in the later one
seen_again : (rows : List ℕ) (b c : ℕ) → b < c → c < length rows → get_or rows b 0 ≡ get_or rows c 0 → is_repeated rows c ≡ true
seen_again rows b c low lt e =
    list_any_at (λ r. r == get_or rows c 0) (take c rows) b 0 (omega (arith, length-take c rows, low, lt))
    (eq-eqb (get_or (take c rows) b 0) (get_or rows c 0) (get_or-take c rows b 0 low ∙ e))

-- so that some row is repeated
any_seen : (rows : List ℕ) (b c : ℕ) → b < c → c < length rows → get_or rows b 0 ≡ get_or rows c 0
    → list_any (λ c. is_repeated rows c) (range_with_len 0 (length rows)) ≡ true
any_seen rows b c low lt e =
    let n = length rows in
    let at : get_or (range_with_len 0 n) c 0 ≡ c = get_or-range_with_len 0 n c 0 lt ∙ zero-add c in
    list_any_at (λ k. is_repeated rows k) (range_with_len 0 n) c 0 (omega (arith, length-range_with_len 0 n, lt))
    (ap (λ (k : ℕ). is_repeated rows k) at ∙ seen_again rows b c low lt e)

rows_apart : (rows : List ℕ) → list_any (λ c. is_repeated rows c) (range_with_len 0 (length rows)) ≡ false → IsApart rows
rows_apart rows none i j hi hj e = elim (cases_order i j) [
  | inl is ↦ is
  | inr other ↦ elim other [
    | inl low ↦ absurd (let no : ◌≡◌ {A = Bool} true false = sym (any_seen rows i j low hj e) ∙ none in cc)
    | inr high ↦ absurd (let no : ◌≡◌ {A = Bool} true false = sym (any_seen rows j i high hi (sym e)) ∙ none in cc)
  ]
]

all_under : (n : ℕ) (rows : List ℕ) → list_all (λ r. nat_lt r n) rows ≡ true → AllByRecursion (λ r. r < n) rows
all_under n [] is = tt
all_under n (r ∷ rows) is =
    let h = and_parts (nat_lt r n) (list_all (λ r. nat_lt r n) rows) is in
    (ltb-true r n h.0, all_under n rows h.1)

rows_each : (rows : List ℕ) → are_rows rows ≡ true → (2 ≤ length rows) × IsOneEach (length rows) rows
rows_each rows is =
    let h = and_parts (nat_le 2 (length rows)) (is_one_each rows) is in
    let each =
    and_parts (list_all (λ r. nat_lt r (length rows)) rows) (not (list_any (λ c. is_repeated rows c) (range_with_len 0 (length rows)))) h.1 in (
      leb-true 2 (length rows) h.0,
      each_from_apart (length rows) rows refl (All-from_recursion (λ r. r < length rows) rows (all_under (length rows) rows each.0))
          (rows_apart rows (not-true (list_any (λ c. is_repeated rows c) (range_with_len 0 (length rows))) each.1)),
    )

pub rows_exactly : (rows : List ℕ) → are_rows rows ≡ true ↔ ((2 ≤ length rows) × IsOneEach (length rows) rows)
rows_exactly rows = (rows_each rows, λ good. rows_are rows good.0 good.1)
