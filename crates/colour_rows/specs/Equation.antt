-- A row read off its diagram once: its ends, and the columns that it passes under with their directions.
use Rattle.std.specs.Prelude.{ℕ, ◌+◌, ◌-◌, List, map, filter, fold, reverse, slice_index}
use Rattle.std.specs.List.{range_with_len}
use Rattle.grid_core.specs.Diagram.{Diagram}
use Rattle.grid_core.specs.Parts.{covers, is_up, ends}
use Rattle.quandle_core.specs.Quandle.{Table}
use Rattle.colour_rows.specs.Walk.{passed_rightward, passed_leftward}
use Rattle.colour_rows.specs.declared.equation.Pass.{Pass}

pub record Equation : Type 0 where
  pub left_end : ℕ
  pub right_end : ℕ
  pub passes : List Pass

-- the columns strictly between two that cover row r
abbrev pub passes : Diagram → ℕ → ℕ → ℕ → List Pass
passes d r from to = map (λ c. record { column = c; up = is_up d c }) (filter (λ c. covers d c r) (range_with_len (from + 1) (to - from - 1)))

-- the equation of row r
abbrev pub equation : Diagram → ℕ → Equation
equation d r = record { left_end = (ends d r).low; right_end = (ends d r).high; passes = passes d r (ends d r).low (ends d r).high }

-- the walk from the left end's colour, and the walk taken backwards from the right end's colour
abbrev pub walk_of : Table → Equation → List ℕ → ℕ
walk_of t e colours = fold (λ x (p : Pass). passed_rightward t p.up x (slice_index colours p.column)) (slice_index colours e.left_end) e.passes

abbrev pub walk_back_of : Table → Equation → List ℕ → ℕ
walk_back_of t e colours = fold (λ x (p : Pass). passed_leftward t p.up x (slice_index colours p.column)) (slice_index colours e.right_end) (reverse e.passes)
