-- Slides of neighbours.
use Rattle.std.proofs.Common.{Bool, true, false, cond, Option, Some, None, ◌≡◌, ◌<◌, ◌+◌, ℕ, refl}
use Rattle.grid_core.specs.declared.span.Span.{Span}
use Rattle.grid_core.specs.Diagram.{Diagram, IsGrid, size}
use Rattle.grid_core.specs.Span.{share_an_end, share_both_ends}
use Rattle.grid_core.specs.Parts.{column_span, ends}
use Rattle.grid_moves.specs.declared.step.Move.TheVariants.{SlideColumns, SlideRows}
use Rattle.grid_moves.specs.declared.step.MoveFault.{MoveFault}
use Rattle.grid_moves.specs.declared.step.MoveFault.TheVariants.{Touching, Apart}
use Rattle.grid_moves.specs.Slide.{MaySlide}
use Rattle.grid_moves.specs.MoveFault.{slide_fault}
use Rattle.grid_moves.specs.Step.{Step}
use Rattle.grid_moves.specs.Exchanged.{columns_exchanged, rows_exchanged}
use Rattle.grid_moves.proofs.Exchanged.{columns_exchanged-grid, rows_exchanged-grid, columns_exchanged-renumbered, rows_exchanged-renumbered}

may_slide_by : (a b : Bool) → cond a (Some Touching) (cond b None (Some Apart)) ≡ None → (a ≡ false) × (b ≡ true)
may_slide_by true b e = absurd (let no : ◌≡◌ {A = Option MoveFault} (Some Touching) None = e in cc)
may_slide_by false true e = (refl, refl)
may_slide_by false false e = absurd (let no : ◌≡◌ {A = Option MoveFault} (Some Apart) None = e in cc)

pub slide_allowed : (s t : Span) → slide_fault s t ≡ None → MaySlide s t
slide_allowed s t e =
    let both = may_slide_by (share_both_ends s t) (share_an_end s t) e in
    record { shared = both.1; not_both = both.0 }

-- the diagrams are those of an exchange
pub columns_slid-step : (c : ℕ) (d : Diagram) → IsGrid d → c + 1 < size d → slide_fault (column_span d c) (column_span d (c + 1)) ≡ None
    → Step d (SlideColumns c) (columns_exchanged c d)
columns_slid-step c d grid inside free = record {
  before = grid;
  after = columns_exchanged-grid c d grid inside;
  marks = record {
    inside = inside;
    may_slide = slide_allowed (column_span d c) (column_span d (c + 1)) free;
    renumbered = columns_exchanged-renumbered c d grid inside;
  };
}

pub rows_slid-step : (r : ℕ) (d : Diagram) → IsGrid d → r + 1 < size d → slide_fault (ends d r) (ends d (r + 1)) ≡ None
    → Step d (SlideRows r) (rows_exchanged r d)
rows_slid-step r d grid inside free = record {
  before = grid;
  after = rows_exchanged-grid r d grid inside;
  marks = record {
    inside = inside;
    may_slide = slide_allowed (ends d r) (ends d (r + 1)) free;
    renumbered = rows_exchanged-renumbered r d grid;
  };
}
