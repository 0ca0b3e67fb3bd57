-- A walk told by the columns that cover its row is the walk along the list of coloured columns.
use Rattle.std.proofs.Common.{◌≡◌, ◌∙◌, ◌<◌, ◌+◌, ◌-◌, ℕ, zero, suc, List, ◌∷◌, length, fold, ap, ap₂, sym, refl, subst, arith, inl, inr, cond, All}
use Rattle.std.specs.Prelude.{Bool, true, false, ◌==◌, ◌&&◌, ◌||◌, slice_index, nat_lt, filter}
use Rattle.std.specs.List.{range_with_len}
use Rattle.std.proofs.lemmas.Bool.{cases_Bool, eqb-true, eq-eqb, cond-true, cond-false}
use Rattle.std.proofs.lemmas.Bool.Decides.{nat_tests}
use Rattle.std.proofs.lemmas.List.Elements.{All-get_or}
use Rattle.grid_core.specs.Diagram.{Diagram, IsGrid, size}
use Rattle.grid_core.specs.Span.{span, lies_within}
use Rattle.grid_core.specs.Parts.{ends, covers, is_up}
use Rattle.quandle_core.specs.Quandle.{Table, IsQuandle}
use Rattle.colour_rows.specs.Walk.{under, walk, closes}
use Rattle.colour_rows.specs.Colouring.{IsColouring}
use Rattle.colour_laws.proofs.ColumnLists.{Column, walk_on}
use Rattle.colour_laws.proofs.ColumnLists as lists
use Rattle.colour_laws.proofs.ColouredColumns.{act, columns, IsColouringByColumns}
use Rattle.colour_laws.proofs.Tables.{act_inside, act_below}
use Rattle.colour_laws.proofs.ByIndex.{coloured_at, columns_from, columns_next}
use Rattle.colour_laws.proofs.RowEnds.{AreEnds, are_ends}

-- a column covers a row, told by its two marks in any order
pub covers_same : (x o r : ℕ) → ((nat_lt x r && nat_lt r o) || (nat_lt o r && nat_lt r x)) ≡ lies_within (span x o) r
covers_same x o r = grind (arith, nat_tests)

-- what a column does to the walk of a row, in both words
pub under_same : (t : Table) (d : Diagram) (f : List ℕ) (r i a : ℕ) → slice_index f i < t.order → a < t.order
    → lists.under (act t) r (coloured_at i d.x d.o f) a ≡ cond (covers d i r) (under t d f a i) a
under_same t d f r i a ly la =
    ap₂ (λ b c. cond b c a) (covers_same (slice_index d.x i) (slice_index d.o i) r) (act_inside t (is_up d i) (slice_index f i) a ly la)

-- what is known of a diagram with a colour below the order for each column
pub record HasColours (t : Table) (d : Diagram) (f : List ℕ) : Type 0 where
  pub rings : length d.o ≡ length d.x
  pub size : length f ≡ length d.x
  pub below : All (λ y. y < t.order) f

pub colour_below : (t : Table) (d : Diagram) (f : List ℕ) → HasColours t d f → (i : ℕ) → i < length d.x → slice_index f i < t.order
colour_below t d f has i lt = All-get_or (λ y. y < t.order) f i 0 (omega (arith, has.size, lt)) has.below

-- one column more on the chain of a walk
pub chain_step : (t : Table) (d : Diagram) (f : List ℕ) (i a : ℕ) (rest : List ℕ) (b : Bool)
    → fold (under t d f) a (cond b (i ∷ rest) rest) ≡ fold (under t d f) (cond b (under t d f a i) a) rest
chain_step t d f i a rest true = refl
chain_step t d f i a rest false = refl

-- from a place between the ends on
walk_between : (t : Table) → IsQuandle t → (d : Diagram) (f : List ℕ) → HasColours t d f → (r : ℕ) → AreEnds d r → (m i a : ℕ) → i + m ≡ (ends d r).high
    → (ends d r).low < i → a < t.order
    → walk_on (act t) r a (columns_from i d.x d.o f) ≡ (fold (under t d f) a (filter (λ c. covers d c r) (range_with_len i m)) == slice_index f (ends d r).high)
walk_between t q d f has r known zero i a e low la =
    let at : i ≡ (ends d r).high = omega (arith, e) in
    ap (walk_on (act t) r a) (columns_next i d.x d.o f has.rings has.size (omega (arith, at, known.within)))
    ∙ (cond-true (lists.ends r (coloured_at i d.x d.o f)) (a == slice_index f i)
    (walk_on (act t) r (lists.under (act t) r (coloured_at i d.x d.o f) a) (columns_from (suc i) d.x d.o f))
    (subst (λ (j : ℕ). lists.ends r (coloured_at j d.x d.o f) ≡ true) (sym at) known.right)
    ∙ ap (λ j. a == slice_index f j) at)
walk_between t q d f has r known (suc m) i a e low la =
    let lt : i < length d.x = omega (arith, e, known.within) in
    let apart : lists.ends r (coloured_at i d.x d.o f) ≡ false = known.others i lt (λ k. omega (arith, k, low)) (λ k. omega (arith, k, e)) in
    let y : slice_index f i < t.order = colour_below t d f has i lt in
    let b : ℕ = lists.under (act t) r (coloured_at i d.x d.o f) a in
    let same : lists.under (act t) r (coloured_at i d.x d.o f) a ≡ cond (covers d i r) (under t d f a i) a = under_same t d f r i a y la in
    let lb : lists.under (act t) r (coloured_at i d.x d.o f) a < t.order = elim (cases_Bool (lists.covers r (coloured_at i d.x d.o f))) [
      | inl c ↦ subst (λ (z : ℕ). z < t.order) (sym (cond-true (lists.covers r (coloured_at i d.x d.o f)) (act t (is_up d i) (slice_index f i) a) a c))
          (act_below t q (is_up d i) (slice_index f i) a la)
      | inr c ↦ subst (λ (z : ℕ). z < t.order) (sym (cond-false (lists.covers r (coloured_at i d.x d.o f)) (act t (is_up d i) (slice_index f i) a) a c)) la
    ] in
    ap (walk_on (act t) r a) (columns_next i d.x d.o f has.rings has.size lt)
    ∙ (cond-false (lists.ends r (coloured_at i d.x d.o f)) (a == slice_index f i)
    (walk_on (act t) r (lists.under (act t) r (coloured_at i d.x d.o f) a) (columns_from (suc i) d.x d.o f)) apart
    ∙ (walk_between t q d f has r known m (suc i) (lists.under (act t) r (coloured_at i d.x d.o f) a) (omega (arith, e)) (omega (arith, low)) lb
    ∙ ap (λ z. z == slice_index f (ends d r).high)
    (ap₂ (λ z j. fold (under t d f) z (filter (λ c. covers d c r) (range_with_len j m))) same (let k : suc i ≡ i + 1 = omega arith in k)
    ∙ sym (chain_step t d f i a (filter (λ c. covers d c r) (range_with_len (i + 1) m)) (covers d i r)))))

-- up to the left end nothing happens
walk_to_left : (p : Bool → ℕ → ℕ → ℕ) (d : Diagram) (f : List ℕ) → length d.o ≡ length d.x → length f ≡ length d.x → (r : ℕ) → AreEnds d r → (k i : ℕ)
    → i + k ≡ (ends d r).low
    → lists.walk p r (columns_from i d.x d.o f) ≡ walk_on p r (slice_index f (ends d r).low) (columns_from (suc (ends d r).low) d.x d.o f)
walk_to_left p d f rings size r known zero i e =
    let at : i ≡ (ends d r).low = omega (arith, e) in
    ap (lists.walk p r) (columns_next i d.x d.o f rings size (omega (arith, at, known.ordered, known.within)))
    ∙ (cond-true (lists.ends r (coloured_at i d.x d.o f)) (walk_on p r (slice_index f i) (columns_from (suc i) d.x d.o f))
    (lists.walk p r (columns_from (suc i) d.x d.o f))
    (subst (λ (j : ℕ). lists.ends r (coloured_at j d.x d.o f) ≡ true) (sym at) known.left)
    ∙ ap (λ j. walk_on p r (slice_index f j) (columns_from (suc j) d.x d.o f)) at)
walk_to_left p d f rings size r known (suc k) i e =
    let lt : i < length d.x = omega (arith, e, known.ordered, known.within) in
    let apart : lists.ends r (coloured_at i d.x d.o f) ≡ false = known.others i lt (λ h. omega (arith, h, e)) (λ h. omega (arith, h, e, known.ordered)) in
    ap (lists.walk p r) (columns_next i d.x d.o f rings size lt)
    ∙ (cond-false (lists.ends r (coloured_at i d.x d.o f)) (walk_on p r (slice_index f i) (columns_from (suc i) d.x d.o f))
    (lists.walk p r (columns_from (suc i) d.x d.o f)) apart
    ∙ walk_to_left p d f rings size r known k (suc i) (omega (arith, e)))

-- the whole walk
pub walk_same : (t : Table) → IsQuandle t → (d : Diagram) (f : List ℕ) → HasColours t d f → (r : ℕ) → AreEnds d r
    → lists.walk (act t) r (columns d.x d.o f) ≡ closes t d f r
walk_same t q d f has r known =
    let from : ℕ = (ends d r).low in
    let la : slice_index f (ends d r).low < t.order = colour_below t d f has (ends d r).low (omega (arith, known.ordered, known.within)) in
    walk_to_left (act t) d f has.rings has.size r known (ends d r).low 0 (omega arith)
    ∙ (walk_between t q d f has r known ((ends d r).high - (ends d r).low - 1) (suc (ends d r).low) (slice_index f (ends d r).low)
    (omega (arith, known.ordered)) (omega arith) la
    ∙ ap (λ j. fold (under t d f) (slice_index f (ends d r).low) (filter (λ c. covers d c r) (range_with_len j ((ends d r).high - (ends d r).low - 1)))
    == slice_index f (ends d r).high)
    (let k : suc (ends d r).low ≡ (ends d r).low + 1 = omega arith in k))

-- a colouring, in both words
pub by_columns : (t : Table) → IsQuandle t → (d : Diagram) → IsGrid d → (f : List ℕ) → IsColouring t d f → IsColouringByColumns t d f
by_columns t q d grid f colouring =
    let has : HasColours t d f = record { rings = grid.same; size = colouring.colours_are.0; below = colouring.colours_are.1 } in
    record {
      size = colouring.colours_are.0;
      below = colouring.colours_are.1;
      walks = λ r lt. walk_same t q d f has r (are_ends d grid r lt) ∙ eq-eqb (walk t d f r) (slice_index f (ends d r).high) (colouring.rows r lt);
    }

pub from_columns : (t : Table) → IsQuandle t → (d : Diagram) → IsGrid d → (f : List ℕ) → IsColouringByColumns t d f → IsColouring t d f
from_columns t q d grid f colouring =
    let has : HasColours t d f = record { rings = grid.same; size = colouring.size; below = colouring.below } in
    record {
      colours_are = (colouring.size, colouring.below);
      rows = λ r lt. eqb-true (walk t d f r) (slice_index f (ends d r).high) (sym (walk_same t q d f has r (are_ends d grid r lt)) ∙ colouring.walks r lt);
    }
