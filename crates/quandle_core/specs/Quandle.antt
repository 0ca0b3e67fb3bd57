-- Finite quandles (Joyce 1982), also called distributive groupoids (Matveev 1982).
use Rattle.std.specs.Prelude.{◌≡◌, ◌<◌, ◌≤◌, ◌+◌, ◌*◌, ◌==◌, ℕ, List, length, slice_index}
use Rattle.std.specs.List.{range_with_len, position_or_len}

-- the table of an operation on the numbers below the order, row by row
pub record Table : Type 0 where
  pub order : ℕ
  pub entries : List ℕ

-- x ▷ y, which stands in row x and column y
abbrev pub over : Table → ℕ → ℕ → ℕ
over t x y = slice_index t.entries (x * t.order + y)

-- x ◁ y, the first z with z ▷ y = x
abbrev pub back : Table → ℕ → ℕ → ℕ
back t x y = position_or_len (λ z. over t z y == x) (range_with_len 0 t.order)

-- a table with the three laws of a quandle
pub record IsQuandle (t : Table) : Type 0 where
  pub least : 1 ≤ t.order
  pub square : length t.entries ≡ t.order * t.order
  pub within : (x y : ℕ) → x < t.order → y < t.order → over t x y < t.order
  -- x ▷ x = x
  pub idempotent : (x : ℕ) → x < t.order → over t x x ≡ x
  -- for each y, x ↦ x ▷ y is a bijection, whose inverse is x ↦ x ◁ y
  pub back_within : (x y : ℕ) → x < t.order → y < t.order → back t x y < t.order
  pub over_back : (x y : ℕ) → x < t.order → y < t.order → over t (back t x y) y ≡ x
  pub back_over : (x y : ℕ) → x < t.order → y < t.order → back t (over t x y) y ≡ x
  -- (x ▷ y) ▷ z = (x ▷ z) ▷ (y ▷ z)
  pub distributive : (x y z : ℕ) → x < t.order → y < t.order → z < t.order → over t (over t x y) z ≡ over t (over t x z) (over t y z)
