-- The colours of the columns from those of their strands, and the other way.
use Rattle.std.proofs.Common.{◌≡◌, ◌<◌, ◌∙◌, ℕ, List, not, All, arith}
use Rattle.std.specs.List.{range_with_len}
use Rattle.std.proofs.lemmas.List.Elements.{All-weaker, All-filter}
use Rattle.std.proofs.lemmas.List.FromFn.{get_or-range_with_len, length-range_with_len}
use Rattle.grid_core.specs.Diagram.{Diagram, size}
use Rattle.grid_core.specs.Parts.{is_up}
use Rattle.quandle_core.specs.Quandle.{Table, IsQuandle, over, back}
use Rattle.quandle_core.specs.Colours.{AreColours}
use Rattle.colour_rows.proofs.Walks.{Undoes, undo_there, undo_back, undo_stays, fold_keeps}
use Rattle.grid_braid.specs.Strands.{down_columns}
use Rattle.grid_braid.specs.Feet.{passed_under, strand_colours}
use Rattle.grid_braid.specs.Columns.{passed_back, column_colours}
use Rattle.grid_braid.proofs.Behind.{behind_length, behind_undone, behind_stays}

-- passing under a strand and passing back
pub passes_undo : (t : Table) → IsQuandle t → (n c : ℕ) → c < n → Undoes (AreColours n t.order) (passed_under t) (passed_back t) c
passes_undo t q n c lt = record {
  to = λ ys at. (behind_length (back t) ys c ∙ at.0, behind_stays (back t) t.order q.back_within ys c (omega (arith, at.0)) at.1);
  fro = λ ys at. (behind_length (over t) ys c ∙ at.0, behind_stays (over t) t.order q.within ys c (omega (arith, at.0)) at.1);
  there = λ ys at. behind_undone (back t) (over t) t.order q.over_back ys c (omega (arith, at.0)) at.1;
  back = λ ys at. behind_undone (over t) (back t) t.order q.back_over ys c (omega (arith, at.0)) at.1;
}

pub downs_inside : (d : Diagram) → All (λ c. c < size d) (down_columns d)
downs_inside d =
    All-filter (λ c. not (is_up d c)) (λ c. c < size d) (range_with_len 0 (size d))
    (λ k e lt. let is = get_or-range_with_len 0 (size d) k e (omega (arith, length-range_with_len 0 (size d))) in
    omega (arith, length-range_with_len 0 (size d)))

passes_all : (t : Table) → IsQuandle t → (d : Diagram) → All (Undoes (AreColours (size d) t.order) (passed_under t) (passed_back t)) (down_columns d)
passes_all t q d = All-weaker (λ c. c < size d) (Undoes (AreColours (size d) t.order) (passed_under t) (passed_back t)) (λ c lt. passes_undo t q (size d) c lt)
    (down_columns d) (downs_inside d)

pub strand_stays : (t : Table) → IsQuandle t → (d : Diagram) (f : List ℕ) → AreColours (size d) t.order f → AreColours (size d) t.order (strand_colours t d f)
strand_stays t q d f at =
    fold_keeps (passed_under t) (AreColours (size d) t.order) (down_columns d)
    (All-weaker (λ c. c < size d) (λ c. (ys : List ℕ) → AreColours (size d) t.order ys → AreColours (size d) t.order (passed_under t ys c))
    (λ c lt. (passes_undo t q (size d) c lt).to) (down_columns d) (downs_inside d))
    f at

pub column_stays : (t : Table) → IsQuandle t → (d : Diagram) (ys : List ℕ) → AreColours (size d) t.order ys
    → AreColours (size d) t.order (column_colours t d ys)
column_stays t q d ys at = undo_stays (AreColours (size d) t.order) (passed_under t) (passed_back t) (down_columns d) (passes_all t q d) ys at

pub column_strands : (t : Table) → IsQuandle t → (d : Diagram) (ys : List ℕ) → AreColours (size d) t.order ys → strand_colours t d (column_colours t d ys) ≡ ys
column_strands t q d ys at = undo_back (AreColours (size d) t.order) (passed_under t) (passed_back t) (down_columns d) (passes_all t q d) ys at

pub strand_columns : (t : Table) → IsQuandle t → (d : Diagram) (f : List ℕ) → AreColours (size d) t.order f → column_colours t d (strand_colours t d f) ≡ f
strand_columns t q d f at = undo_there (AreColours (size d) t.order) (passed_under t) (passed_back t) (down_columns d) (passes_all t q d) f at
