-- The columns of a short grid, and its rows, as pairs of digits of two numbers.
use Rattle.std.proofs.Common.{◌≡◌, ◌≢◌, ◌<◌, ◌≤◌, ◌^◌, ◌∙◌, ℕ, arith, refl, sym, ap, ap₂, subst}
use Rattle.std.proofs.lemmas.Bool.Decides.{nat_tests}
use Rattle.std.specs.Option.{is_none}
use Rattle.grid_core.specs.declared.mark.Kind.{Kind}
use Rattle.grid_core.specs.declared.mark.Kind.TheVariants.{Cross, Ring}
use Rattle.grid_core.specs.declared.span.Span.{Span}
use Rattle.grid_core.specs.Diagram.{Diagram, IsOneEach, size, rows_of, row_of}
use Rattle.grid_core.specs.Span.{span, share_one_end}
use Rattle.grid_core.specs.Parts.{column_of, column_span, ends}
use Rattle.grid_core.proofs.Marks.{no_cell_twice, row_below, row_once, rows_each, column_mark}
use Rattle.grid_moves.specs.MoveFault.{exchange_fault}
use Rattle.grid_canon.specs.declared.digits.TheConstants.{SHORT_BASE}
use Rattle.grid_canon.specs.ShortGrid.{of_digits, IsShort}
use Rattle.grid_canon.specs.ShortTrades.{trades_of, next, ArePairs, digit_span}
use Rattle.grid_canon.proofs.NumbersOfDigits.{length-digits}
use Rattle.grid_canon.proofs.Guards.{digit_of}
use Rattle.grid_canon.proofs.Placed.{all_digits, next_below}
use Rattle.grid_canon.proofs.MarkedTrades.{same_trades}

next_other : (n c : ℕ) → 2 ≤ n → c < n → c ≢ next n c
next_other n c least lt e = absurd (other (next n c) refl)
  where
    other : (z : ℕ) → next n c ≡ z → ⊥
    other z is = grind (arith, nat_tests)

-- what is said of equal spans
same_spans : (n : ℕ) (f g : ℕ → Span) → ((c : ℕ) → c < n → f c ≡ g c) → trades_of n f ≡ trades_of n g
same_spans n f g same =
    same_trades n (λ c. is_none (exchange_fault (f c) (f (next n c)))) (λ c. share_one_end (f c) (f (next n c)))
    (λ c. is_none (exchange_fault (g c) (g (next n c)))) (λ c. share_one_end (g c) (g (next n c)))
    (λ c lt. ap₂ (λ s t. is_none (exchange_fault s t)) (same c lt) (same (next n c) (next_below n c lt)))
    (λ c lt. ap₂ (λ s t. share_one_end s t) (same c lt) (same (next n c) (next_below n c lt)))

module _ (n crosses rings : ℕ) (short : IsShort n crosses rings) where
  abbrev shown : Diagram
  shown = of_digits n crosses rings

  size-shown : size shown ≡ n
  size-shown = length-digits n crosses

  within : (c : ℕ) → c < n → c < size shown
  within c lt = omega (arith, lt, size-shown)

  least : 2 ≤ n
  least = omega (arith, short.grid.least, size-shown)

  abbrev number : Kind → ℕ
  number Cross = crosses
  number Ring = rings

  row_is : (kind : Kind) (c : ℕ) → row_of kind shown c ≡ digit_of n (number kind) c
  row_is Cross c = refl
  row_is Ring c = refl

  digit_below : (kind : Kind) (c : ℕ) → c < n → digit_of n (number kind) c < n
  digit_below kind c lt = omega (arith, row_is kind c, row_below shown short.grid kind c (within c lt), size-shown)

  rows_apart : (kind : Kind) (c : ℕ) → c < n → digit_of n (number kind) c ≢ digit_of n (number kind) (next n c)
  rows_apart kind c lt e =
      next_other n c least lt
      (row_once shown short.grid kind c (next n c) (within c lt) (within (next n c) (next_below n c lt)) (row_is kind c ∙ e ∙ sym (row_is kind (next n c))))

  pub column_pairs : ArePairs n crosses rings
  column_pairs = record {
    least = least;
    most = short.most;
    crosses_fit = short.crosses_fit;
    rings_fit = short.rings_fit;
    crosses_inside = all_digits n crosses n (digit_below Cross);
    rings_inside = all_digits n rings n (digit_below Ring);
    two_ends = λ c lt. no_cell_twice shown short.grid c (within c lt);
    crosses_apart = rows_apart Cross;
    rings_apart = rows_apart Ring;
  }

  pub columns_told : (d : Diagram) → shown ≡ d → trades_of n (digit_span n crosses rings) ≡ trades_of (size d) (column_span d)
  columns_told d is =
      ap (λ (z : ℕ). trades_of z (digit_span n crosses rings)) (sym size-shown) ∙ ap (λ (e : Diagram). trades_of (size e) (column_span e)) is

  pub each_row : (kind : Kind) → IsOneEach n (rows_of kind shown)
  each_row kind = subst (λ (z : ℕ). IsOneEach z (rows_of kind shown)) size-shown (rows_each shown kind short.grid)

  -- by row the column of a mark
  abbrev ArePlaces : Kind → ℕ → Type 0
  ArePlaces kind places = (c : ℕ) → c < n → digit_of n places (digit_of n (number kind) c) ≡ c

  place_is : (kind : Kind) (places r : ℕ) → ArePlaces kind places → r < n → digit_of n places r ≡ column_of kind shown r
  place_is kind places r known lt =
      let mark = column_mark shown short.grid kind r (within r lt) in
      ap (λ (z : ℕ). digit_of n places z) (sym mark.row ∙ row_is kind (column_of kind shown r))
      ∙ known (column_of kind shown r) (omega (arith, mark.inside, size-shown))

  column_below : (kind : Kind) (r : ℕ) → r < n → column_of kind shown r < n
  column_below kind r lt = omega (arith, (column_mark shown short.grid kind r (within r lt)).inside, size-shown)

  columns_apart : (kind : Kind) (r : ℕ) → r < n → column_of kind shown r ≢ column_of kind shown (next n r)
  columns_apart kind r lt e =
      next_other n r least lt
      (sym (column_mark shown short.grid kind r (within r lt)).row ∙ ap (λ (z : ℕ). row_of kind shown z) e
      ∙ (column_mark shown short.grid kind (next n r) (within (next n r) (next_below n r lt))).row)

  two_columns : (r : ℕ) → r < n → column_of Cross shown r ≢ column_of Ring shown r
  two_columns r lt e =
      let cross = column_mark shown short.grid Cross r (within r lt) in
      let ring = column_mark shown short.grid Ring r (within r lt) in
      no_cell_twice shown short.grid (column_of Cross shown r) cross.inside (cross.row ∙ sym ring.row ∙ ap (λ (z : ℕ). row_of Ring shown z) (sym e))

  places_apart : (kind : Kind) (places r : ℕ) → ArePlaces kind places → r < n → digit_of n places r ≢ digit_of n places (next n r)
  places_apart kind places r known lt e =
      columns_apart kind r lt (sym (place_is kind places r known lt) ∙ e ∙ place_is kind places (next n r) known (next_below n r lt))

  module _ (px po : ℕ) (x_fits : px < SHORT_BASE ^ n) (o_fits : po < SHORT_BASE ^ n) (x_known : ArePlaces Cross px) (o_known : ArePlaces Ring po) where
    pub row_pairs : ArePairs n px po
    row_pairs = record {
      least = least;
      most = short.most;
      crosses_fit = x_fits;
      rings_fit = o_fits;
      crosses_inside = all_digits n px n (λ r lt. omega (arith, place_is Cross px r x_known lt, column_below Cross r lt));
      rings_inside = all_digits n po n (λ r lt. omega (arith, place_is Ring po r o_known lt, column_below Ring r lt));
      two_ends = λ r lt e. two_columns r lt (sym (place_is Cross px r x_known lt) ∙ e ∙ place_is Ring po r o_known lt);
      crosses_apart = λ r. places_apart Cross px r x_known;
      rings_apart = λ r. places_apart Ring po r o_known;
    }

    pub rows_told : (d : Diagram) → shown ≡ d → trades_of n (digit_span n px po) ≡ trades_of (size d) (ends d)
    rows_told d is =
        same_spans n (digit_span n px po) (ends shown) (λ r lt. ap₂ (λ (z w : ℕ). span z w) (place_is Cross px r x_known lt) (place_is Ring po r o_known lt))
        ∙ ap (λ (z : ℕ). trades_of z (ends shown)) (sym size-shown) ∙ ap (λ (e : Diagram). trades_of (size e) (ends e)) is
