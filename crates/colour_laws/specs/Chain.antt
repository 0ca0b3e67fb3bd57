-- Chains of columns that a strand passes under, from left to right.
use Rattle.std.specs.Prelude.{ℕ, Bool, List, fold}
use Rattle.quandle_core.specs.Quandle.{Table}
use Rattle.colour_rows.specs.Walk.{passed_rightward}

-- what colour x becomes under a chain of columns, each told by its direction (true: up) and its colour
abbrev pub follow : Table → List (Bool × ℕ) → ℕ → ℕ
follow t chain x = fold (λ y (column : Bool × ℕ). passed_rightward t column.0 y column.1) x chain
