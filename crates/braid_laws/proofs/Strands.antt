-- The colours of the open columns: where the new column has the colour that a letter makes, they are the letter's image.
use Rattle.std.proofs.Common.{◌≡◌, ◌+◌, ◌∷◌, ◌++◌, ◌∙◌, ℕ, ℤ, pos, negsuc, List, length, arith, sym, ap, ap₂}
use Rattle.std.proofs.lemmas.List.{map-append, length-map}
use Rattle.quandle_core.specs.Quandle.{Table, over, back}
use Rattle.braid_core.specs.Braid.{IsLetter}
use Rattle.braid_core.specs.Action.{IsTuple, colour_at, with_pair, letter_action, action}
use Rattle.braid_core.specs.Action as acts
use Rattle.braid_laws.proofs.Pairs.{low_at, high_at, pair_positive, pair_negative}
use Rattle.braid_closure.specs.declared.columns.Column.{Column}
use Rattle.braid_closure.specs.Columns.{begun, ended, open_columns}
use Rattle.braid_closure.specs.Closure.{positive_columns, negative_columns, after_letter}
use Rattle.braid_closure.proofs.Positions.{Pair, pair_open, positive_is, negative_is, open_append, open_here}
use Rattle.braid_closure.proofs.Stages.{IsStage, letter_pair}
use Rattle.braid_laws.proofs.Walked.{colours_of}

-- the colours of the open columns, from left to right
abbrev pub open_colours : (ℕ → ℕ) → List Column → List ℕ
open_colours colour columns = colours_of colour (open_columns columns)

-- the colour that a letter makes
abbrev pub new_colour : Table → List ℕ → ℤ → ℕ
new_colour t xs (pos k) = over t (colour_at xs (k + 1)) (colour_at xs k)
new_colour t xs (negsuc n) = back t (colour_at xs (n + 1)) (colour_at xs (n + 1 + 1))

-- a letter on a list with its pair in the midst
pub record Mid (k : ℕ) (xs left : List ℕ) (y z : ℕ) (right : List ℕ) : Type 0 where
  pub is : xs ≡ left ++ y ∷ z ∷ right
  pub before : length left + 1 ≡ k

pub mid_low : (k : ℕ) (xs left : List ℕ) (y z : ℕ) (right : List ℕ) → Mid k xs left y z right → colour_at xs k ≡ y
mid_low k xs left y z right mid = ap (λ (zs : List ℕ). colour_at zs k) mid.is ∙ low_at k left y z right mid.before

pub mid_high : (k : ℕ) (xs left : List ℕ) (y z : ℕ) (right : List ℕ) → Mid k xs left y z right → colour_at xs (k + 1) ≡ z
mid_high k xs left y z right mid = ap (λ (zs : List ℕ). colour_at zs (k + 1)) mid.is ∙ high_at k left y z right mid.before

mid_positive : (t : Table) (k : ℕ) (xs left : List ℕ) (y z : ℕ) (right : List ℕ) → Mid k xs left y z right
    → acts.positive t k xs ≡ left ++ over t z y ∷ y ∷ right
mid_positive t k xs left y z right mid = ap (acts.positive t k) mid.is ∙ pair_positive t k left y z right mid.before

mid_negative : (t : Table) (k : ℕ) (xs left : List ℕ) (y z : ℕ) (right : List ℕ) → Mid k xs left y z right
    → acts.negative t k xs ≡ left ++ z ∷ back t y z ∷ right
mid_negative t k xs left y z right mid = ap (acts.negative t k) mid.is ∙ pair_negative t k left y z right mid.before

-- the colours of the open columns around a pair, before and after a letter
pub open_mid : (colour : ℕ → ℕ) (k : ℕ) (columns : List Column) (pair : Pair k columns)
    → Mid k (open_colours colour columns) (open_colours colour pair.left) (colour pair.first.x) (colour pair.second.x) (open_colours colour pair.right)
open_mid colour k columns pair = record {
  is =
      ap (colours_of colour) (pair_open k columns pair)
      ∙ map-append (λ (c : Column). colour c.x) (open_columns pair.left) (pair.first ∷ pair.second ∷ open_columns pair.right);
  before = ap (λ (n : ℕ). n + 1) (length-map (open_columns pair.left) (λ (c : Column). colour c.x)) ∙ pair.before;
}

open_positive : (colour : ℕ → ℕ) (k r : ℕ) (columns : List Column) (pair : Pair k columns)
    → open_colours colour (positive_columns k r columns) ≡ open_colours colour pair.left ++ colour r ∷ colour pair.first.x ∷ open_colours colour pair.right
open_positive colour k r columns pair =
    ap (open_colours colour) (positive_is k r columns pair)
    ∙ (ap (colours_of colour) (open_append pair.left (begun r ∷ pair.first ∷ (pair.between ++ ended r pair.second ∷ pair.right))
    ∙ ap (λ (zs : List Column). open_columns pair.left ++ begun r ∷ zs) (open_here pair.first (pair.between ++ ended r pair.second ∷ pair.right) pair.first_open
    ∙ ap (λ (zs : List Column). pair.first ∷ zs) (open_append pair.between (ended r pair.second ∷ pair.right)
    ∙ ap (λ (zs : List Column). zs ++ open_columns pair.right) pair.none_between)))
    ∙ map-append (λ (c : Column). colour c.x) (open_columns pair.left) (begun r ∷ pair.first ∷ open_columns pair.right))

open_negative : (colour : ℕ → ℕ) (k r : ℕ) (columns : List Column) (pair : Pair k columns)
    → open_colours colour (negative_columns k r columns) ≡ open_colours colour pair.left ++ colour pair.second.x ∷ colour r ∷ open_colours colour pair.right
open_negative colour k r columns pair =
    ap (open_colours colour) (negative_is k r columns pair)
    ∙ (ap (colours_of colour) (open_append pair.left (ended r pair.first ∷ (pair.between ++ pair.second ∷ begun r ∷ pair.right))
    ∙ ap (λ (zs : List Column). open_columns pair.left ++ zs) (open_append pair.between (pair.second ∷ begun r ∷ pair.right)
    ∙ (ap (λ (zs : List Column). zs ++ open_columns (pair.second ∷ begun r ∷ pair.right)) pair.none_between
    ∙ open_here pair.second (begun r ∷ pair.right) pair.second_open)))
    ∙ map-append (λ (c : Column). colour c.x) (open_columns pair.left) (pair.second ∷ begun r ∷ open_columns pair.right))

-- where the new column has the colour that the letter makes, the open columns' colours are the letter's image
pub letter_tuple : (t : Table) (colour : ℕ → ℕ) (m r e : ℕ) (a : ℤ) (columns : List Column) → IsLetter m a → IsStage m m r e columns
    → colour r ≡ new_colour t (open_colours colour columns) a → open_colours colour (after_letter a r columns) ≡ letter_action t (open_colours colour columns) a
letter_tuple t colour m r e (pos k) columns letter stage is =
    let pair = letter_pair m k r e columns stage letter.least letter.most in
    let mid = open_mid colour k columns pair in
    let xs = open_colours colour columns in
    let ys = open_colours colour pair.left in
    let zs = open_colours colour pair.right in
    open_positive colour k r columns pair
    ∙ (ap (λ (z : ℕ). ys ++ z ∷ colour pair.first.x ∷ zs)
    (is ∙ ap₂ (over t) (mid_high k xs ys (colour pair.first.x) (colour pair.second.x) zs mid)
    (mid_low k xs ys (colour pair.first.x) (colour pair.second.x) zs mid))
    ∙ sym (mid_positive t k xs ys (colour pair.first.x) (colour pair.second.x) zs mid))
letter_tuple t colour m r e (negsuc n) columns letter stage is =
    let most = letter.most in
    let pair = letter_pair m (n + 1) r e columns stage (omega arith) (omega arith) in
    let mid = open_mid colour (n + 1) columns pair in
    let xs = open_colours colour columns in
    let ys = open_colours colour pair.left in
    let zs = open_colours colour pair.right in
    open_negative colour (n + 1) r columns pair
    ∙ (ap (λ (z : ℕ). ys ++ colour pair.second.x ∷ z ∷ zs)
    (is ∙ ap₂ (back t) (mid_low (n + 1) xs ys (colour pair.first.x) (colour pair.second.x) zs mid)
    (mid_high (n + 1) xs ys (colour pair.first.x) (colour pair.second.x) zs mid))
    ∙ sym (mid_negative t (n + 1) xs ys (colour pair.first.x) (colour pair.second.x) zs mid))
