-- The components of a link, as classes of the columns of a grid diagram.
-- Columns and rows that meet at a mark are parts of one strand, so a component is what chains of columns join in which each shares a row with the next.
use Rattle.std.specs.Prelude.{◌≡◌, ◌<◌, ◌==◌, ℕ, zero, suc, List, [], ◌∷◌, map, filter, slice_index, if◌then◌else◌}
use Rattle.std.specs.List.{range_with_len}
use Rattle.grid_core.specs.declared.mark.Kind.{Kind}
use Rattle.grid_core.specs.declared.span.Span.{Span}
use Rattle.grid_core.specs.Diagram.{Diagram, HasMark, size}
use Rattle.grid_core.specs.Span.{span}
use Rattle.grid_core.specs.Parts.{ends}

-- a mark of column b and a mark of column c stand in one row
pub record ShareARow (d : Diagram) (b c : ℕ) : Type 0 where
  pub row : ℕ
  pub one : Kind
  pub other : Kind
  pub of_first : HasMark d one b row
  pub of_second : HasMark d other c row

-- the columns of the chain lead from b to c, each sharing a row with the next
abbrev pub IsChain : Diagram → ℕ → List ℕ → ℕ → Type 0
IsChain d b [] c = (b < size d) × (b ≡ c)
IsChain d b (a ∷ chain) c = ShareARow d b a × IsChain d a chain c

-- two columns are of one component: a chain leads from one to the other
abbrev pub OfOneComponent : Diagram → ℕ → ℕ → Type 0
OfOneComponent d b c = (chain : List ℕ) × IsChain d b chain c

-- two components become one: of their two numbers, which are the ends of the interval, the lesser stays
abbrev pub united : Span → List ℕ → List ℕ
united both numbers = map (λ i. if i == both.high then both.low else i) numbers

-- the components of the two ends of a row become one
abbrev pub united_at : Diagram → ℕ → List ℕ → List ℕ
united_at d r numbers = united (span (slice_index numbers (ends d r).low) (slice_index numbers (ends d r).high)) numbers

-- the number of each column's component, when only the rows below h join columns
abbrev pub component_numbers_below : Diagram → ℕ → List ℕ
component_numbers_below d zero = range_with_len 0 (size d)
component_numbers_below d (suc r) = united_at d r (component_numbers_below d r)

-- the number of the component of column c, with all rows joining columns: by a law, the least column that a chain joins to c
abbrev pub component_number : Diagram → ℕ → ℕ
component_number d c = slice_index (component_numbers_below d (size d)) c

-- the number of the component of row r, which is that of its ends
abbrev pub row_component_number : Diagram → ℕ → ℕ
row_component_number d r = component_number d (ends d r).low

-- the numbers of all components, in ascending order
abbrev pub components : Diagram → List ℕ
components d = filter (λ c. component_number d c == c) (range_with_len 0 (size d))
