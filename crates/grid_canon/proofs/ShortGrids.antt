-- Short grids from their numbers, wider ones, and their keys.
use Rattle.std.proofs.Common.{◌≡◌, ◌<◌, ◌≤◌, ◌+◌, ◌-◌, ◌*◌, ◌^◌, ◌∙◌, ℕ, suc, List, drop, length, map, get_or, take, arith, sym, ap, ap₂, subst}
use Rattle.std.specs.List.{All, insert, remove}
use Rattle.std.proofs.Math.Nat.{pow-le-pow_right}
use Rattle.std.proofs.lemmas.List.{length-map}
use Rattle.std.proofs.lemmas.List.Elements.{All-append, All-drop, All-map, All-take}
use Rattle.std.proofs.lemmas.List.Edits.{length-insert, length-remove}
use Rattle.grid_core.specs.Diagram.{Diagram, IsGrid, size}
use Rattle.grid_core.specs.Places.{lifted, lowered}
use Rattle.grid_core.proofs.Gaps.{lifted-below}
use Rattle.grid_core.proofs.OneEach.{each_below}
use Rattle.grid_moves.specs.declared.stabilisation.Widening.{Widening}
use Rattle.grid_moves.specs.Widening.{widened}
use Rattle.grid_moves.specs.declared.destabilisation.Narrowing.{Narrowing}
use Rattle.grid_moves.specs.Narrowing.{narrowed}
use Rattle.grid_moves.specs.Exchange.{exchanged}
use Rattle.grid_canon.specs.declared.digits.TheConstants.{GUARD, SHORT_BASE, MAX_SHORT_SIZE}
use Rattle.grid_canon.specs.Digits.{short_number, digits}
use Rattle.grid_canon.specs.ShortGrid.{of_digits, IsShort}
use Rattle.grid_canon.proofs.ShortNumbers.{AreShortDigits, short_number-below}
use Rattle.grid_canon.proofs.Guards.{exchanged_sum}
use Rattle.grid_canon.proofs.NumbersOfDigits.{length-digits, short_number-digits, digits-short_number}
use Rattle.grid_canon.proofs.CutNumbers.{rows_digits}

abbrev pair : List ℕ → List ℕ → Diagram
pair x o = record { x = x; o = o }

-- a grid of few columns is that of the numbers of its rows
pub read_digits : (n value : ℕ) (rows : List ℕ) → length rows ≡ n → AreShortDigits rows → value ≡ short_number rows → digits n value ≡ rows
read_digits n value rows long all is = ap₂ digits (sym long) is ∙ digits-short_number rows all

pub digits_fit : (n value : ℕ) (rows : List ℕ) → length rows ≡ n → AreShortDigits rows → value ≡ short_number rows → value < SHORT_BASE ^ n
digits_fit n value rows long all is =
    subst (λ (z : ℕ). z < SHORT_BASE ^ n) (sym is) (subst (λ (z : ℕ). short_number rows < SHORT_BASE ^ z) long (short_number-below rows all))

pub short_from : (d : Diagram) (n crosses rings : ℕ) → IsGrid d → size d ≡ n → n ≤ MAX_SHORT_SIZE → crosses ≡ short_number d.x → rings ≡ short_number d.o
    → (of_digits n crosses rings ≡ d) × IsShort n crosses rings
short_from d n crosses rings grid columns most ex eo =
    let ax : AreShortDigits d.x = rows_digits (size d) d.x (omega (arith, columns, most)) (each_below (size d) d.x grid.crosses) in
    let ao : AreShortDigits d.o = rows_digits (size d) d.o (omega (arith, columns, most)) (each_below (size d) d.o grid.rings) in
    let is : of_digits n crosses rings ≡ d =
    ap₂ (λ x o. pair x o) (read_digits n crosses d.x columns ax ex) (read_digits n rings d.o (grid.same ∙ columns) ao eo) in (
      is,
      record {
        most = most;
        crosses_fit = digits_fit n crosses d.x columns ax ex;
        rings_fit = digits_fit n rings d.o (grid.same ∙ columns) ao eo;
        grid = subst IsGrid (sym is) grid;
      },
    )

-- the rows of a list, some of them one higher
pub record IsLifted (n row value : ℕ) (rows : List ℕ) : Type 0 where
  pub fits : value < SHORT_BASE ^ n
  pub list : digits n value ≡ map (lifted row) rows

pub lifted_known : (n row value : ℕ) (rows : List ℕ) → length rows ≡ n → n < MAX_SHORT_SIZE → row ≤ n → All (λ r. r < n) rows
    → value ≡ short_number (map (lifted row) rows) → IsLifted n row value rows
lifted_known n row value rows long most le inside is =
    let count : length (map (lifted row) rows) ≡ n = length-map rows (lifted row) ∙ long in
    let all : AreShortDigits (map (lifted row) rows) =
    All-map (λ digit. digit < SHORT_BASE) (lifted row) rows (λ k d lt. omega (arith, lifted-below row (get_or rows k d) n (inside k d lt) le, most)) in
    record {
      fits = digits_fit n value (map (lifted row) rows) count all is;
      list = read_digits n value (map (lifted row) rows) count all is;
    }

pub widened_number : (n row value place wide : ℕ) (rows : List ℕ) → IsLifted n row value rows → wide ≡ short_number (insert (digits n value) place row)
    → wide ≡ short_number (insert (map (lifted row) rows) place row)
widened_number n row value place wide rows known is = is ∙ ap (λ zs. short_number (insert zs place row)) known.list

pub size-widened : (w : Widening) (d : Diagram) → w.crosses ≤ size d → size (widened w d) ≡ size d + 1
size-widened w d le =
    length-insert (map (lifted w.row) d.x) w.crosses w.row (omega (arith, length-map d.x (lifted w.row), le))
    ∙ ap (λ (z : ℕ). z + 1) (length-map d.x (lifted w.row))

-- two rows that exchange their numbers, in a word of 64 bits
pub exchanged_sums : (n row value first third : ℕ) → n < MAX_SHORT_SIZE → value < SHORT_BASE ^ n → row + 1 < n → All (λ r. r < n) (digits n value)
    → first ≡ short_number (map (lifted row) (digits n value)) → third ≡ short_number (map (lifted (row + 2)) (digits n value))
    → (value < 2 ^ 62) × (first + third < 2 ^ 63)
exchanged_sums n row value first third most low lt inside e1 e3 =
    let f = lifted_known n row first (digits n value) (length-digits n value) most (omega (arith, lt)) inside e1 in
    let t = lifted_known n (row + 2) third (digits n value) (length-digits n value) most (omega (arith, lt)) inside e3 in
    let word = pow-le-pow_right {n = SHORT_BASE} (omega arith) {i = n} {j = MAX_SHORT_SIZE} (omega (arith, most)) in
    (omega (arith, low, word), omega (arith, f.fits, t.fits, word))

pub record IsExchanged (n row value first second third : ℕ) : Type 0 where
  pub sum : value + (first + third) ≡ short_number (map (exchanged row) (digits n value)) + 2 * second
  pub twice : 2 * second < 2 ^ 64

pub exchanged_word : (n row value first second third : ℕ) → n < MAX_SHORT_SIZE → value < SHORT_BASE ^ n → row + 1 < n → All (λ r. r < n) (digits n value)
    → first ≡ short_number (map (lifted row) (digits n value)) → second ≡ short_number (map (lifted (row + 1)) (digits n value))
    → third ≡ short_number (map (lifted (row + 2)) (digits n value)) → IsExchanged n row value first second third
exchanged_word n row value first second third most low lt inside e1 e2 e3 =
    let rows : List ℕ = digits n value in
    let s = lifted_known n (row + 1) second rows (length-digits n value) most (omega (arith, lt)) inside e2 in
    let word = pow-le-pow_right {n = SHORT_BASE} (omega arith) {i = n} {j = MAX_SHORT_SIZE} (omega (arith, most)) in
    record {
      sum = omega (arith, exchanged_sum row rows, short_number-digits n value low, e1, e2, e3);
      twice = omega (arith, s.fits, word);
    }

-- the rows of a list without one of its places
pub record IsRemoved (n place value : ℕ) (rows : List ℕ) : Type 0 where
  pub fits : value < SHORT_BASE ^ (n - 1)
  pub list : digits (n - 1) value ≡ remove rows place
  pub inside : All (λ r. r < GUARD) (digits (n - 1) value)

pub removed_known : (n place value : ℕ) (rows : List ℕ) → length rows ≡ n → n ≤ MAX_SHORT_SIZE → place < n → All (λ r. r < n) rows
    → value ≡ short_number (remove rows place) → IsRemoved n place value rows
removed_known n place value rows long most lt inside is =
    let count : length (remove rows place) ≡ n - 1 = omega (arith, length-remove rows place (omega (arith, lt, long)), long) in
    let within : All (λ r. r < n) (remove rows place) =
    All-append (λ r. r < n) (take place rows) (drop (suc place) rows) (All-take (λ r. r < n) place rows inside) (All-drop (λ r. r < n) (suc place) rows inside) in
    let all : AreShortDigits (remove rows place) = λ k d lt. omega (arith, within k d lt, most) in
    let list : digits (n - 1) value ≡ remove rows place = read_digits (n - 1) value (remove rows place) count all is in
    record {
      fits = digits_fit (n - 1) value (remove rows place) count all is;
      list = list;
      inside = subst (λ zs. All (λ r. r < GUARD) zs) (sym list) (λ k d lt. omega (arith, within k d lt, most));
    }

pub size-narrowed : (w : Narrowing) (d : Diagram) → w.crosses < size d → size (narrowed w d) ≡ size d - 1
size-narrowed w d lt =
    length-map (remove d.x w.crosses) (lowered w.row)
    ∙ (let count : length (remove d.x w.crosses) ≡ size d - 1 = omega (arith, length-remove d.x w.crosses lt) in count)
