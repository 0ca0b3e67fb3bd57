-- Slides of neighbours that touch: of two columns that share exactly one row, or two rows that share exactly one column.
use Rattle.std.specs.Prelude.{◌≡◌, ◌<◌, ◌+◌, ℕ, true, false}
use Rattle.grid_core.specs.declared.span.Span.{Span}
use Rattle.grid_core.specs.Diagram.{Diagram, size}
use Rattle.grid_core.specs.Span.{share_an_end, share_both_ends}
use Rattle.grid_core.specs.Parts.{column_span, ends}
use Rattle.grid_moves.specs.Renumbered.{Renumbered, unchanged}
use Rattle.grid_moves.specs.Exchange.{exchanged}

-- three different ends: one end of one is an end of the other, and the other two differ
pub record MaySlide (s t : Span) : Type 0 where
  pub shared : share_an_end s t ≡ true
  pub not_both : share_both_ends s t ≡ false

-- columns c and c + 1 trade their numbers
pub record SlidesColumns (c : ℕ) (d e : Diagram) : Type 0 where
  pub inside : c + 1 < size d
  pub may_slide : MaySlide (column_span d c) (column_span d (c + 1))
  pub renumbered : Renumbered (exchanged c) unchanged d e

-- rows r and r + 1 trade their numbers
pub record SlidesRows (r : ℕ) (d e : Diagram) : Type 0 where
  pub inside : r + 1 < size d
  pub may_slide : MaySlide (ends d r) (ends d (r + 1))
  pub renumbered : Renumbered unchanged (exchanged r) d e
