-- Connected quandles (Joyce 1982): those whose inner automorphisms take each colour to each other.
use Rattle.std.specs.Prelude.{◌≡◌, ◌<◌, ◌==◌, ℕ, Bool, true, count_by, slice_index}
use Rattle.grid_core.specs.Diagram.{Diagram}
use Rattle.quandle_core.specs.Quandle.{Table, over, back}
use Rattle.colour_list.specs.Listing.{colourings}

-- with a colour x, the set has x ▷ y and x ◁ y for each colour y
pub record IsStableSet (t : Table) (p : ℕ → Bool) : Type 0 where
  pub over_stays : (x y : ℕ) → x < t.order → y < t.order → p x ≡ true → p (over t x y) ≡ true
  pub back_stays : (x y : ℕ) → x < t.order → y < t.order → p x ≡ true → p (back t x y) ≡ true

-- operations lead from each colour to each other: each such set that has one colour has all
abbrev pub IsConnected : Table → Type 0
IsConnected t = (p : ℕ → Bool) → IsStableSet t p → (x z : ℕ) → x < t.order → z < t.order → p x ≡ true → p z ≡ true

-- how many colourings give column c the colour a
abbrev pub coloured_so : Table → Diagram → ℕ → ℕ → ℕ
coloured_so t d c a = count_by (λ f. slice_index f c == a) (colourings t d)
