-- A step has one result, and is there exactly where the move has no fault.
use Rattle.std.proofs.Common.{◌≡◌, ◌<◌, ◌+◌, ◌∙◌, ◌||◌, ◌&&◌, ◌==◌, ℕ, Bool, true, false, cond, nat_lt, arith, sym, refl, ap, Option, Some, None, Result, Ok}
use Rattle.std.proofs.Common.{Err, OnOk}
use Rattle.std.specs.Result.{result_err}
use Rattle.std.proofs.lemmas.Bool.{lt-ltb, eq-eqb, ltb-true, eqb-true, and_parts, and_from, cond-true, cond-false}
use Rattle.grid_core.specs.declared.grid.TheConstants.{MAX_SIZE}
use Rattle.grid_core.specs.declared.mark.Kind.{Kind}
use Rattle.grid_core.specs.declared.mark.Corner.{Corner}
use Rattle.grid_core.specs.declared.span.Span.{Span}
use Rattle.grid_core.specs.Diagram.{Diagram, IsGrid, size}
use Rattle.grid_core.specs.Span.{share_an_end, are_disjoint, are_nested, share_both_ends}
use Rattle.grid_core.specs.Parts.{column_span, ends}
use Rattle.grid_core.specs.Corners.{corner_row}
use Rattle.grid_moves.specs.declared.step.Move.{Move}
use Rattle.grid_moves.specs.declared.step.Move.TheVariants.{ShiftColumns, ShiftRows, ExchangeColumns, ExchangeRows, SlideColumns, SlideRows, Stabilise}
use Rattle.grid_moves.specs.declared.step.Move.TheVariants.{Destabilise}
use Rattle.grid_moves.specs.declared.step.MoveFault.{MoveFault}
use Rattle.grid_moves.specs.declared.step.MoveFault.TheVariants.{Range, Touching, Interleaved, Block, Full, Apart}
use Rattle.grid_moves.specs.Renumbered.{unchanged}
use Rattle.grid_moves.specs.Shift.{shifted}
use Rattle.grid_moves.specs.Exchange.{exchanged, MayExchange}
use Rattle.grid_moves.specs.Exchanged.{columns_exchanged, rows_exchanged}
use Rattle.grid_moves.specs.Slide.{MaySlide}
use Rattle.grid_moves.specs.Stabilisation.{Stabilises}
use Rattle.grid_moves.specs.Destabilisation.{Destabilises, marks_in_block}
use Rattle.grid_moves.specs.DoubleRows.{column_in_new_row}
use Rattle.grid_moves.specs.Step.{Step, Moves}
use Rattle.grid_moves.specs.MoveFault.{first_move_fault, shift_fault, exchange_fault, slide_fault, block_fault}
use Rattle.grid_moves.proofs.Renumbering.{unchanged-permutes, renumbered_once}
use Rattle.grid_moves.proofs.Exchanged.{exchanged-permutes, columns_exchanged-step, rows_exchanged-step}
use Rattle.grid_moves.proofs.Slid.{columns_slid-step, rows_slid-step}
use Rattle.grid_moves.proofs.Shifted.{shifted-permutes, columns_shifted, rows_shifted, columns_shifted-step, rows_shifted-step}
use Rattle.grid_moves.proofs.Widened.{widened_along, widened_from_stabilises}
use Rattle.grid_moves.proofs.WidenedGrids.{widened_once, narrowed_once}
use Rattle.grid_moves.proofs.Stabilised.{stabilised, column_in_new_row-le, stabilised-step}
use Rattle.grid_moves.proofs.Blocks.{block_made, double_row_is, column_in_double_row_is}
use Rattle.grid_moves.proofs.Destabilised.{destabilised, destabilised-step}

stabilised_once : (c : ℕ) (kind : Kind) (corner : Corner) (r s : ℕ) (d e f : Diagram) → IsGrid d → IsGrid e → IsGrid f → Stabilises c kind corner r d e
    → Stabilises c kind corner s d f → e ≡ f
stabilised_once c kind corner r s d e f grid ge gf one two =
    let same : r ≡ s = sym one.marked.row ∙ two.marked.row in
    let we = widened_from_stabilises c kind corner r d e grid one in
    let wf = widened_from_stabilises c kind corner s d f grid two in
    widened_once (column_in_new_row c kind corner) (r + corner_row corner) d e f
    (λ k. omega (arith, column_in_new_row-le c kind corner k (size d) one.marked.inside, one.larger)) ge gf we
    (widened_along (column_in_new_row c kind corner) (column_in_new_row c kind corner) (s + corner_row corner) (r + corner_row corner) d f (λ k. refl)
    (ap (λ (z : ℕ). z + corner_row corner) (sym same)) wf)

destabilised_once : (c r : ℕ) (d e f : Diagram) → IsGrid e → IsGrid f → Destabilises c r d e → Destabilises c r d f → e ≡ f
destabilised_once c r d e f ge gf one two =
    let be = block_made c r one.kind one.corner e d ge one.undone in
    let bf = block_made c r two.kind two.corner f d gf two.undone in
    narrowed_once (column_in_new_row c one.kind one.corner) (column_in_new_row c two.kind two.corner) (r + corner_row one.corner)
    (r + corner_row two.corner) e f d
    (λ k. sym (column_in_double_row_is c r one.kind one.corner d be k) ∙ column_in_double_row_is c r two.kind two.corner d bf k)
    (sym (double_row_is c r one.kind one.corner d be) ∙ double_row_is c r two.kind two.corner d bf)
    ge gf
    (widened_from_stabilises c one.kind one.corner r e d ge one.undone)
    (widened_from_stabilises c two.kind two.corner r f d gf two.undone)

moves_once : (move : Move) (d e f : Diagram) → IsGrid d → IsGrid e → IsGrid f → Moves move d e → Moves move d f → e ≡ f
moves_once (ShiftColumns k) d e f g ge gf a b =
    renumbered_once (shifted (size d) k) unchanged d e f (shifted-permutes (size d) k a.least a.most) ge gf a.renumbered b.renumbered
moves_once (ShiftRows k) d e f g ge gf a b = renumbered_once unchanged (shifted (size d) k) d e f (unchanged-permutes (size d)) ge gf a.renumbered b.renumbered
moves_once (ExchangeColumns c) d e f g ge gf a b =
    renumbered_once (exchanged c) unchanged d e f (exchanged-permutes c (size d) a.inside) ge gf a.renumbered b.renumbered
moves_once (ExchangeRows r) d e f g ge gf a b = renumbered_once unchanged (exchanged r) d e f (unchanged-permutes (size d)) ge gf a.renumbered b.renumbered
moves_once (SlideColumns c) d e f g ge gf a b =
    renumbered_once (exchanged c) unchanged d e f (exchanged-permutes c (size d) a.inside) ge gf a.renumbered b.renumbered
moves_once (SlideRows r) d e f g ge gf a b = renumbered_once unchanged (exchanged r) d e f (unchanged-permutes (size d)) ge gf a.renumbered b.renumbered
moves_once (Stabilise c kind corner) d e f g ge gf a b = stabilised_once c kind corner a.1.0 b.1.0 d e f g ge gf a.1.1 b.1.1
moves_once (Destabilise c r) d e f g ge gf a b = destabilised_once c r d e f ge gf a b

pub step_once : (d : Diagram) (move : Move) (e f : Diagram) → Step d move e → Step d move f → e ≡ f
step_once d move e f one two = moves_once move d e f one.before one.after two.after one.marks two.marks

-- a step is legal
shift_legal : (n k : ℕ) → 0 < k → k < n → shift_fault n k ≡ None
shift_legal n k least most = cond-true (nat_lt 0 k && nat_lt k n) None (Some Range) (and_from (nat_lt 0 k) (nat_lt k n) (lt-ltb 0 k least) (lt-ltb k n most))

exchange_legal : (s t : Span) → MayExchange s t → exchange_fault s t ≡ None
exchange_legal s t free =
    cond-false (share_an_end s t) (Some Touching) (cond (are_disjoint s t || are_nested s t) None (Some Interleaved)) free.different
    ∙ cond-true (are_disjoint s t || are_nested s t) None (Some Interleaved) free.placed

slide_legal : (s t : Span) → MaySlide s t → slide_fault s t ≡ None
slide_legal s t free =
    cond-false (share_both_ends s t) (Some Touching) (cond (share_an_end s t) None (Some Apart)) free.not_both
    ∙ cond-true (share_an_end s t) None (Some Apart) free.shared

moves_legal : (move : Move) (d e : Diagram) → Moves move d e → first_move_fault d move ≡ None
moves_legal (ShiftColumns k) d e a = shift_legal (size d) k a.least a.most
moves_legal (ShiftRows k) d e a = shift_legal (size d) k a.least a.most
moves_legal (ExchangeColumns c) d e a =
    cond-true (nat_lt (c + 1) (size d)) (exchange_fault (column_span d c) (column_span d (c + 1))) (Some Range) (lt-ltb (c + 1) (size d) a.inside)
    ∙ exchange_legal (column_span d c) (column_span d (c + 1)) a.may_exchange
moves_legal (ExchangeRows r) d e a =
    cond-true (nat_lt (r + 1) (size d)) (exchange_fault (ends d r) (ends d (r + 1))) (Some Range) (lt-ltb (r + 1) (size d) a.inside)
    ∙ exchange_legal (ends d r) (ends d (r + 1)) a.may_exchange
moves_legal (SlideColumns c) d e a =
    cond-true (nat_lt (c + 1) (size d)) (slide_fault (column_span d c) (column_span d (c + 1))) (Some Range) (lt-ltb (c + 1) (size d) a.inside)
    ∙ slide_legal (column_span d c) (column_span d (c + 1)) a.may_slide
moves_legal (SlideRows r) d e a =
    cond-true (nat_lt (r + 1) (size d)) (slide_fault (ends d r) (ends d (r + 1))) (Some Range) (lt-ltb (r + 1) (size d) a.inside)
    ∙ slide_legal (ends d r) (ends d (r + 1)) a.may_slide
moves_legal (Stabilise c kind corner) d e a =
    cond-true (nat_lt c (size d)) (cond (nat_lt (size d) MAX_SIZE) None (Some Full)) (Some Range) (lt-ltb c (size d) a.1.1.marked.inside)
    ∙ cond-true (nat_lt (size d) MAX_SIZE) None (Some Full) (lt-ltb (size d) MAX_SIZE a.0)
moves_legal (Destabilise c r) d e a =
    cond-true (nat_lt (c + 1) (size d) && nat_lt (r + 1) (size d)) (block_fault (marks_in_block d c r)) (Some Range)
    (and_from (nat_lt (c + 1) (size d)) (nat_lt (r + 1) (size d)) (lt-ltb (c + 1) (size d) a.columns) (lt-ltb (r + 1) (size d) a.rows))
    ∙ cond-true (marks_in_block d c r == 3) None (Some (Block (marks_in_block d c r))) (eq-eqb (marks_in_block d c r) 3 a.three)

pub step_legal : (d : Diagram) (move : Move) (e : Diagram) → Step d move e → first_move_fault d move ≡ None
step_legal d move e step = moves_legal move d e step.marks

-- a legal move leads somewhere
kept_open : (b : Bool) (o : Option MoveFault) (fault : MoveFault) → cond b o (Some fault) ≡ None → (b ≡ true) × (o ≡ None)
kept_open true o fault e = (refl, e)
kept_open false o fault e = absurd (let no : ◌≡◌ {A = Option MoveFault} (Some fault) None = e in cc)

-- the list form of each move
abbrev pub moved : Move → Diagram → Diagram
moved (ShiftColumns k) d = columns_shifted k d
moved (ShiftRows k) d = rows_shifted k d
moved (ExchangeColumns c) d = columns_exchanged c d
moved (ExchangeRows r) d = rows_exchanged r d
moved (SlideColumns c) d = columns_exchanged c d
moved (SlideRows r) d = rows_exchanged r d
moved (Stabilise c kind corner) d = stabilised c kind corner d
moved (Destabilise c r) d = destabilised c d

pub moved_step : (d : Diagram) (move : Move) → IsGrid d → first_move_fault d move ≡ None → Step d move (moved move d)
moved_step d (ShiftColumns k) grid e =
    let ok = and_parts (nat_lt 0 k) (nat_lt k (size d)) (kept_open (nat_lt 0 k && nat_lt k (size d)) None Range e).0 in
    columns_shifted-step k d grid (ltb-true 0 k ok.0) (ltb-true k (size d) ok.1)
moved_step d (ShiftRows k) grid e =
    let ok = and_parts (nat_lt 0 k) (nat_lt k (size d)) (kept_open (nat_lt 0 k && nat_lt k (size d)) None Range e).0 in
    rows_shifted-step k d grid (ltb-true 0 k ok.0) (ltb-true k (size d) ok.1)
moved_step d (ExchangeColumns c) grid e =
    let ok = kept_open (nat_lt (c + 1) (size d)) (exchange_fault (column_span d c) (column_span d (c + 1))) Range e in
    columns_exchanged-step c d grid (ltb-true (c + 1) (size d) ok.0) ok.1
moved_step d (ExchangeRows r) grid e =
    let ok = kept_open (nat_lt (r + 1) (size d)) (exchange_fault (ends d r) (ends d (r + 1))) Range e in
    rows_exchanged-step r d grid (ltb-true (r + 1) (size d) ok.0) ok.1
moved_step d (SlideColumns c) grid e =
    let ok = kept_open (nat_lt (c + 1) (size d)) (slide_fault (column_span d c) (column_span d (c + 1))) Range e in
    columns_slid-step c d grid (ltb-true (c + 1) (size d) ok.0) ok.1
moved_step d (SlideRows r) grid e =
    let ok = kept_open (nat_lt (r + 1) (size d)) (slide_fault (ends d r) (ends d (r + 1))) Range e in
    rows_slid-step r d grid (ltb-true (r + 1) (size d) ok.0) ok.1
moved_step d (Stabilise c kind corner) grid e =
    let ok = kept_open (nat_lt c (size d)) (cond (nat_lt (size d) MAX_SIZE) None (Some Full)) Range e in
    let room = kept_open (nat_lt (size d) MAX_SIZE) None Full ok.1 in
    stabilised-step c kind corner d grid (ltb-true c (size d) ok.0) (ltb-true (size d) MAX_SIZE room.0)
moved_step d (Destabilise c r) grid e =
    let ok = kept_open (nat_lt (c + 1) (size d) && nat_lt (r + 1) (size d)) (block_fault (marks_in_block d c r)) Range e in
    let inside = and_parts (nat_lt (c + 1) (size d)) (nat_lt (r + 1) (size d)) ok.0 in
    let three = kept_open (marks_in_block d c r == 3) None (Block (marks_in_block d c r)) ok.1 in
    destabilised-step c r d grid (ltb-true (c + 1) (size d) inside.0) (ltb-true (r + 1) (size d) inside.1) (eqb-true (marks_in_block d c r) 3 three.0)

pub step_exists : (d : Diagram) (move : Move) → IsGrid d → first_move_fault d move ≡ None → (e : Diagram) × Step d move e
step_exists d move grid e = (moved move d, moved_step d move grid e)

-- so the result of a step is the list form
pub step_moved : (d : Diagram) (move : Move) (e : Diagram) → Step d move e → e ≡ moved move d
step_moved d move e step = step_once d move e (moved move d) step (moved_step d move step.before (step_legal d move e step))

-- who makes the result of each step, or answers the fault, leaves what each step leads to
pub answers_in_place : {A : Type 0} (d : Diagram) (move : Move) (answer : Result A MoveFault) (f : Diagram) → result_err answer ≡ first_move_fault d move
    → OnOk answer (Step d move f) → (e : Diagram) → Step d move e → f ≡ e
answers_in_place d move (Ok x) f fault moved e step = step_once d move f e moved step
answers_in_place d move (Err z) f fault moved e step = absurd (let no : ◌≡◌ {A = Option MoveFault} (Some z) None = fault ∙ step_legal d move e step in cc)
