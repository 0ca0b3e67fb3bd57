-- Moves that keep the size and give columns and rows new numbers.
use Rattle.std.specs.Prelude.{◌≡◌, ℕ}
use Rattle.grid_core.specs.declared.mark.Kind.{Kind}
use Rattle.grid_core.specs.Diagram.{Diagram, HasMark, size}

-- each mark (kind, c, r) becomes the mark (kind, new_column c, new_row r)
pub record Renumbered (new_column new_row : ℕ → ℕ) (d e : Diagram) : Type 0 where
  pub same_size : size e ≡ size d
  pub marks : (kind : Kind) (c r : ℕ) → HasMark d kind c r → HasMark e kind (new_column c) (new_row r)

-- the number stays as it was
abbrev pub unchanged : ℕ → ℕ
unchanged c = c
