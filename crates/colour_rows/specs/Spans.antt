-- The spans of a diagram's columns as two lists, as the masks over columns read them.
use Rattle.std.specs.Prelude.{ℕ, List}
use Rattle.grid_core.specs.Diagram.{Diagram}
use Rattle.grid_core.specs.Parts.{column_lows, column_highs}

-- by column, the row of the lower mark and the row of the higher one
pub record ColumnSpans : Type 0 where
  pub lows : List ℕ
  pub highs : List ℕ

abbrev pub spans_of : Diagram → ColumnSpans
spans_of d = record { lows = column_lows d; highs = column_highs d }
