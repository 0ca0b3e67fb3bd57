-- Numbers that were cut down to 255 are below an order exactly where they were before, and are then the same.
use Rattle.std.proofs.Common.{◌≡◌, ℕ, ◌<◌, ◌≤◌, ◌==◌, ◌&&◌, not, List, [], ◌∷◌, length, map, Bool, true, false, Ok, Err, refl, sym, ap, ap₂, ◌∙◌, arith, nat_lt}
use Rattle.std.specs.List.{list_all, list_any}
use Rattle.std.proofs.lemmas.Bool.{and_parts, ltb-true, ltb-false, ne_eqb, eqb-true}
use Rattle.std.proofs.lemmas.Bool.Decides.{nat_tests}
use Rattle.std.proofs.lemmas.List.{length-map, take_all}
use Rattle.grid_core.specs.declared.grid.TheConstants.{MAX_SIZE}
use Rattle.text_lines.specs.Lines.{NumberedLine}
use Rattle.text_items.specs.declared.fault.TextFault.TheVariants.{Malformed, Limit}
use Rattle.text_items.specs.declared.numbers.Kept.{Kept}
use Rattle.text_items.specs.Reading.{word}
use Rattle.text_items.specs.NumberLists.{line_numbers, is_long}
use Rattle.text_items.specs.Numbers.{numbers_behind, numbers_below, low, Tells, KeepsRead, CutsRead, are_kept_below}

low_below : (v q : ℕ) → q ≤ 255 → nat_lt (low v) q ≡ nat_lt v q
low_below v q most = grind (arith, nat_tests)

low_same : (v q : ℕ) → q ≤ 255 → nat_lt v q ≡ true → low v ≡ v
low_same v q most is = let lt = ltb-true v q is in grind (arith, nat_tests)

pub all_low : (q : ℕ) (vs : List ℕ) → q ≤ 255 → list_all (λ v. nat_lt v q) (map low vs) ≡ list_all (λ v. nat_lt v q) vs
all_low q [] most = refl
all_low q (v ∷ vs) most = ap₂ (λ (a b : Bool). a && b) (low_below v q most) (all_low q vs most)

pub same_low : (q : ℕ) (vs : List ℕ) → q ≤ 255 → list_all (λ v. nat_lt v q) vs ≡ true → map low vs ≡ vs
same_low q [] most all = refl
same_low q (v ∷ vs) most all =
    let h = and_parts (nat_lt v q) (list_all (λ v. nat_lt v q) vs) all in
    ap₂ (λ (a : ℕ) (rest : List ℕ). a ∷ rest) (low_same v q most h.0) (same_low q vs most h.1)

-- all numbers of a short line are kept
first_all : (kept : Kept) (values : List ℕ) → Tells kept values → length values ≤ MAX_SIZE → kept.first.items ≡ map low values
first_all kept values tells short = tells.first ∙ take_all MAX_SIZE (map low values) (omega (arith, length-map values low, short))

abbrev are_below : List ℕ → ℕ → ℕ → Bool
are_below values width order = (length values == width) && list_all (λ v. nat_lt v order) values

-- all numbers of a line, cut down, are so many and below the order where they were before
cut_test : (width order : ℕ) (values row : List ℕ) → order ≤ 255 → row ≡ map low values → are_below row width order ≡ are_below values width order
cut_test width order values row most cut =
    ap (λ (vs : List ℕ). (length vs == width) && list_all (λ v. nat_lt v order) vs) cut
    ∙ ap₂ (λ (n : ℕ) (b : Bool). (n == width) && b) (length-map values low) (all_low order values most)

below_by : (kept : Kept) (values : List ℕ) (width order : ℕ) → width ≤ MAX_SIZE → order ≤ 255 → Tells kept values → (t : Bool) → kept.more ≡ t
    → are_kept_below kept width order ≡ are_below values width order
below_by kept values width order fits most tells true is =
    let long : MAX_SIZE < length values = ltb-true MAX_SIZE (length values) (sym tells.more ∙ is) in
    let other : (length values == width) ≡ false = ne_eqb (length values) width (λ e. omega (arith, e, long, fits)) in
    rw (is, other) refl
below_by kept values width order fits most tells false is =
    let short : length values ≤ MAX_SIZE = ltb-false MAX_SIZE (length values) (sym tells.more ∙ is) in
    let same = first_all kept values tells short in
    let one : are_kept_below kept width order ≡ ((length kept.first.items == width) && list_all (λ v. nat_lt v order) kept.first.items) = rw is refl in
    one ∙ cut_test width order values kept.first.items most same

below_test : (kept : Kept) (values : List ℕ) (width order : ℕ) → width ≤ MAX_SIZE → order ≤ 255 → Tells kept values
    → are_kept_below kept width order ≡ are_below values width order
below_test kept values width order fits most tells = below_by kept values width order fits most tells kept.more refl

-- ---- numbers behind a word

pub behind_good : (kept : Kept) (expected : List ℕ) (line rest : NumberedLine) → word expected line ≡ Ok rest → KeepsRead (Tells kept) (line_numbers rest)
    → kept.more ≡ false → kept.long ≡ false → CutsRead kept.first (numbers_behind expected line)
unfolding numbers_behind
behind_good kept expected line rest named read more long =
    let values = read.values in
    let few : nat_lt MAX_SIZE (length values) ≡ false = sym read.tells.more ∙ more in
    let test : list_any is_long values ≡ false = sym read.tells.long ∙ long in
    record {
      values = values;
      is = rw (named, read.is, few, test) refl;
      cut = first_all kept values read.tells (ltb-false MAX_SIZE (length values) few);
    }

-- ---- so many numbers below an order

pub below_long : (kept : Kept) (width order : ℕ) (line : NumberedLine) → KeepsRead (Tells kept) (line_numbers line) → kept.long ≡ true
    → numbers_below width order line ≡ Err (Limit line.number)
unfolding numbers_below
below_long kept width order line read long =
    let test : list_any is_long read.values ≡ true = sym read.tells.long ∙ long in
    rw (read.is, test) refl

pub below_bad : (kept : Kept) (width order : ℕ) (line : NumberedLine) → width ≤ MAX_SIZE → order ≤ 255 → KeepsRead (Tells kept) (line_numbers line)
    → kept.long ≡ false → are_kept_below kept width order ≡ false → numbers_below width order line ≡ Err (Malformed line.number)
unfolding numbers_below
below_bad kept width order line fits most read long bad =
    let test : list_any is_long read.values ≡ false = sym read.tells.long ∙ long in
    let content : are_below read.values width order ≡ false = sym (below_test kept read.values width order fits most read.tells) ∙ bad in
    rw (read.is, test, content) refl

pub width_bad : (width order : ℕ) (line : NumberedLine) (values : List ℕ) → line_numbers line ≡ Ok values → list_any is_long values ≡ false
    → (length values == width) ≡ false → numbers_below width order line ≡ Err (Malformed line.number)
unfolding numbers_below
width_bad width order line values read long other = rw (read, long, other) refl

pub row_bad : (width order : ℕ) (line : NumberedLine) (values row : List ℕ) → order ≤ 255 → line_numbers line ≡ Ok values → list_any is_long values ≡ false
    → row ≡ map low values → are_below row width order ≡ false → numbers_below width order line ≡ Err (Malformed line.number)
unfolding numbers_below
row_bad width order line values row most read long cut content =
    let before : are_below values width order ≡ false = sym (cut_test width order values row most cut) ∙ content in
    rw (read, long, before) refl

pub row_good : (width order : ℕ) (line : NumberedLine) (values row : List ℕ) → order ≤ 255 → line_numbers line ≡ Ok values → list_any is_long values ≡ false
    → row ≡ map low values → are_below row width order ≡ true → numbers_below width order line ≡ Ok row
unfolding numbers_below
row_good width order line values row most read long cut content =
    let before : are_below values width order ≡ true = sym (cut_test width order values row most cut) ∙ content in
    let parts = and_parts (length values == width) (list_all (λ v. nat_lt v order) values) before in
    let one : numbers_below width order line ≡ Ok values = rw (read, long, before) refl in
    one ∙ ap (λ (vs : List ℕ). Ok vs) (sym (cut ∙ same_low order values most parts.1))

record GoodLine (kept : Kept) (width order : ℕ) (line : NumberedLine) : Type 0 where
  is : numbers_below width order line ≡ Ok kept.first.items
  len : length kept.first.items ≡ width

good_line : (kept : Kept) (width order : ℕ) (line : NumberedLine) → width ≤ MAX_SIZE → order ≤ 255 → KeepsRead (Tells kept) (line_numbers line)
    → kept.long ≡ false
    → are_kept_below kept width order ≡ true → GoodLine kept width order line
unfolding numbers_below
good_line kept width order line fits most read long good =
    let values = read.values in
    let test : list_any is_long values ≡ false = sym read.tells.long ∙ long in
    let content : are_below values width order ≡ true = sym (below_test kept values width order fits most read.tells) ∙ good in
    let parts = and_parts (length values == width) (list_all (λ v. nat_lt v order) values) content in
    let len : length values ≡ width = eqb-true (length values) width parts.0 in
    let same : kept.first.items ≡ values = first_all kept values read.tells (omega (arith, len, fits)) ∙ same_low order values most parts.1 in
    let one : numbers_below width order line ≡ Ok values = rw (read.is, test, content) refl in
    record { is = one ∙ ap (λ (vs : List ℕ). Ok vs) (sym same); len = ap (λ (vs : List ℕ). length vs) same ∙ len }

pub below_good : (kept : Kept) (width order : ℕ) (line : NumberedLine) → width ≤ MAX_SIZE → order ≤ 255 → KeepsRead (Tells kept) (line_numbers line)
    → kept.long ≡ false → are_kept_below kept width order ≡ true → numbers_below width order line ≡ Ok kept.first.items
below_good kept width order line fits most read long good = (good_line kept width order line fits most read long good).is

pub below_len : (kept : Kept) (width order : ℕ) → are_kept_below kept width order ≡ true → length kept.first.items ≡ width
below_len kept width order good =
    let h = and_parts (not kept.more) ((length kept.first.items == width) && list_all (λ v. nat_lt v order) kept.first.items) good in
    eqb-true (length kept.first.items) width (and_parts (length kept.first.items == width) (list_all (λ v. nat_lt v order) kept.first.items) h.1).0
