-- Exchanges of neighbours whose marks do not interleave (Cromwell 1995, Dynnikov 2006).
use Rattle.std.specs.Prelude.{◌≡◌, ◌<◌, ◌+◌, ◌==◌, ◌||◌, ℕ, true, false, if◌then◌else◌}
use Rattle.grid_core.specs.declared.span.Span.{Span}
use Rattle.grid_core.specs.Diagram.{Diagram, size}
use Rattle.grid_core.specs.Span.{share_an_end, are_disjoint, are_nested}
use Rattle.grid_core.specs.Parts.{column_span, ends}
use Rattle.grid_moves.specs.Renumbered.{Renumbered, unchanged}

-- the new number of c when i and i + 1 trade their numbers
abbrev pub exchanged : ℕ → ℕ → ℕ
exchanged i c = if c == i then i + 1 else if c == i + 1 then i else c

-- four different ends, and the intervals are disjoint or strictly nested
pub record MayExchange (s t : Span) : Type 0 where
  pub different : share_an_end s t ≡ false
  pub placed : (are_disjoint s t || are_nested s t) ≡ true

-- columns c and c + 1 trade their numbers
pub record ExchangesColumns (c : ℕ) (d e : Diagram) : Type 0 where
  pub inside : c + 1 < size d
  pub may_exchange : MayExchange (column_span d c) (column_span d (c + 1))
  pub renumbered : Renumbered (exchanged c) unchanged d e

-- rows r and r + 1 trade their numbers
pub record ExchangesRows (r : ℕ) (d e : Diagram) : Type 0 where
  pub inside : r + 1 < size d
  pub may_exchange : MayExchange (ends d r) (ends d (r + 1))
  pub renumbered : Renumbered unchanged (exchanged r) d e
