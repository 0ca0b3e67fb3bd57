-- Neighbours that trade places keep the sum of the signs of one class of columns over another, pair by pair, where their own pair counts not.
use Rattle.std.proofs.Common.{◌≡◌, ◌<◌, ◌+◌, ◌∙◌, ℕ, ℤ, pos, arith, sym, refl, ap, subst, inl, inr, ◌⊎◌}
use Rattle.std.specs.Prelude.{Bool, true, false, nat_lt, ◌&&◌}
use Rattle.std.proofs.lemmas.Bool.{cases_eq, true≢false}
use Rattle.grid_core.specs.declared.mark.Kind.TheVariants.{Cross, Ring}
use Rattle.grid_core.specs.Diagram.{Diagram, size, row_of}
use Rattle.grid_core.specs.Parts.{column_of, column_span, ends}
use Rattle.grid_moves.specs.Renumbered.{unchanged}
use Rattle.grid_moves.specs.Exchange.{exchanged, MayExchange}
use Rattle.grid_moves.proofs.Exchanged.{exchanged-twice, exchanged-below}
use Rattle.linking_core.proofs.Sums.{total, where_true, where_zero}
use Rattle.linking_core.proofs.Forms.{has_row, columns_meet, by_columns, rows_meet, by_rows}
use Rattle.linking_core.proofs.Orders.{exchange_order, free_pairs}
use Rattle.linking_core.proofs.Renumberings.{IsRenumbering, columns_after, rows_after, twice_same}

pub exchange_renumbers : (n i : ℕ) → i + 1 < n → IsRenumbering n (exchanged i) (exchanged i)
exchange_renumbers n i lt = record {
  into = λ c within. exchanged-below i n c lt within;
  from = λ c within. exchanged-below i n c lt within;
  there = λ c within. exchanged-twice i c;
  again = λ c within. exchanged-twice i c;
}

either_zero : (t u : Bool) (z : ℤ) → z ≡ pos 0 → where_true t z ≡ where_true u z
either_zero t u z e = ap (where_true t) e ∙ (where_zero t ∙ (sym (where_zero u) ∙ ap (where_true u) (sym e)))

-- two numbers that trade places, where nothing hangs on their order
traded : (i p q : ℕ) (z : ℤ) → (p ≡ i → q ≡ i + 1 → z ≡ pos 0) → (p ≡ i + 1 → q ≡ i → z ≡ pos 0)
    → where_true (nat_lt (exchanged i p) (exchanged i q)) z ≡ where_true (nat_lt p q) z
traded i p q z one other = elim (cases_eq p i) [
  | inl at ↦ elim (cases_eq q (i + 1)) [
    | inl next ↦ either_zero (nat_lt (exchanged i p) (exchanged i q)) (nat_lt p q) z (one at next)
    | inr far ↦ kept (λ e f. far f) (λ e f. omega (arith, e, at))
  ]
  | inr away ↦ elim (cases_eq p (i + 1)) [
    | inl at ↦ elim (cases_eq q i) [
      | inl before ↦ either_zero (nat_lt (exchanged i p) (exchanged i q)) (nat_lt p q) z (other at before)
      | inr far ↦ kept (λ e f. away e) (λ e f. far f)
    ]
    | inr off ↦ kept (λ e f. away e) (λ e f. off e)
  ]
]
  where
    kept : (p ≡ i → q ≡ i + 1 → ⊥) → (p ≡ i + 1 → q ≡ i → ⊥) → where_true (nat_lt (exchanged i p) (exchanged i q)) z ≡ where_true (nat_lt p q) z
    kept no_one no_other = ap (λ (t : Bool). where_true t z) (exchange_order i p q no_one no_other)

-- a pair of columns or of rows whose order is of no account: it counts not, or its marks don't interleave
abbrev pub CountsNot : Bool → ℤ → Type 0
CountsNot t z = (t ≡ false) ⊎ (z ≡ pos 0)

traded_under : (t : Bool) (i p q : ℕ) (z : ℤ) → (p ≡ i → q ≡ i + 1 → CountsNot t z) → (p ≡ i + 1 → q ≡ i → CountsNot t z)
    → where_true t (where_true (nat_lt (exchanged i p) (exchanged i q)) z) ≡ where_true t (where_true (nat_lt p q) z)
traded_under false i p q z one other = refl
traded_under true i p q z one other = traded i p q z (λ at next. zero (one at next)) (λ at before. zero (other at before))
  where
    zero : CountsNot true z → z ≡ pos 0
    zero (inl not_so) = absurd (true≢false not_so)
    zero (inr is) = is

-- of two neighbours, one of each class, the order is of no account
pub record ColumnsTrade (d : Diagram) (i : ℕ) (a b : ℕ → Bool) : Type 0 where
  pub forth : CountsNot (b i && a (i + 1)) (columns_meet d (i + 1) i)
  pub back : CountsNot (b (i + 1) && a i) (columns_meet d i (i + 1))

pub record RowsTrade (d : Diagram) (i : ℕ) (a b : ℕ → Bool) : Type 0 where
  pub forth : CountsNot (has_row d b (i + 1) && has_row d a i) (rows_meet d i (i + 1))
  pub back : CountsNot (has_row d b i && has_row d a (i + 1)) (rows_meet d (i + 1) i)

pub columns_traded_sum : (d : Diagram) (i : ℕ) (a b : ℕ → Bool) → ColumnsTrade d i a b
    → total (size d) (λ q. total (size d) (λ c. where_true (b q && a c) (columns_after d (exchanged i) unchanged q c))) ≡ by_columns d a b
columns_traded_sum d i a b trade =
    twice_same (size d) (λ q c. where_true (b q && a c) (columns_after d (exchanged i) unchanged q c))
    (λ q c. where_true (b q && a c) (where_true (nat_lt q c) (columns_meet d c q))) (λ q c in_q in_c.
    traded_under (b q && a c) i q c (columns_meet d c q)
    (λ at next. moved_to q c i (i + 1) (sym at) (sym next) trade.forth)
    (λ at before. moved_to q c (i + 1) i (sym at) (sym before) trade.back))
  where
    moved_to : (q c p s : ℕ) → p ≡ q → s ≡ c → CountsNot (b p && a s) (columns_meet d s p) → CountsNot (b q && a c) (columns_meet d c q)
    moved_to q c p s e f counts =
        subst (λ (k : ℕ). CountsNot (b q && a k) (columns_meet d k q)) f (subst (λ (k : ℕ). CountsNot (b k && a s) (columns_meet d s k)) e counts)

pub rows_traded_sum : (d : Diagram) (i : ℕ) (a b : ℕ → Bool) → RowsTrade d i a b
    → total (size d) (λ r. total (size d) (λ s. where_true (has_row d b s && has_row d a r) (rows_after d unchanged (exchanged i) r s))) ≡ by_rows d a b
rows_traded_sum d i a b trade =
    twice_same (size d) (λ r s. where_true (has_row d b s && has_row d a r) (rows_after d unchanged (exchanged i) r s))
    (λ r s. where_true (has_row d b s && has_row d a r) (where_true (nat_lt r s) (rows_meet d r s))) (λ r s in_r in_s.
    traded_under (has_row d b s && has_row d a r) i r s (rows_meet d r s)
    (λ at next. moved_to r s i (i + 1) (sym at) (sym next) trade.forth)
    (λ at before. moved_to r s (i + 1) i (sym at) (sym before) trade.back))
  where
    moved_to : (r s p q : ℕ) → p ≡ r → q ≡ s → CountsNot (has_row d b q && has_row d a p) (rows_meet d p q)
        → CountsNot (has_row d b s && has_row d a r) (rows_meet d r s)
    moved_to r s p q e f counts =
        subst (λ (k : ℕ). CountsNot (has_row d b k && has_row d a r) (rows_meet d r k)) f
        (subst (λ (k : ℕ). CountsNot (has_row d b q && has_row d a k) (rows_meet d k q)) e counts)

-- what may be exchanged doesn't interleave
pub exchanged_columns_trade : (d : Diagram) (i : ℕ) → MayExchange (column_span d i) (column_span d (i + 1)) → (a b : ℕ → Bool) → ColumnsTrade d i a b
exchanged_columns_trade d i may a b =
    let free = free_pairs (row_of Cross d i) (row_of Ring d i) (row_of Cross d (i + 1)) (row_of Ring d (i + 1)) may in
    record { forth = inr free.1; back = inr free.0 }

pub exchanged_rows_trade : (d : Diagram) (i : ℕ) → MayExchange (ends d i) (ends d (i + 1)) → (a b : ℕ → Bool) → RowsTrade d i a b
exchanged_rows_trade d i may a b =
    let free = free_pairs (column_of Cross d i) (column_of Ring d i) (column_of Cross d (i + 1)) (column_of Ring d (i + 1)) may in
    record { forth = inr free.1; back = inr free.0 }
