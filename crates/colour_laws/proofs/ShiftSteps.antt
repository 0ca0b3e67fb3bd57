-- Shifts: from the step and the table to the lists of the laws.
use Rattle.std.proofs.Common.{◌≡◌, ◌∙◌, ◌<◌, ◌≤◌, ◌+◌, ◌-◌, ◌*◌, ◌%◌, ℕ, List, length, take, drop, ap, sym, arith, inl, inr}
use Rattle.std.specs.Prelude.{slice_index}
use Rattle.std.proofs.lemmas.Nat.{mod-mul-add}
use Rattle.std.proofs.Math.Nat.{mod-eq_of_lt}
use Rattle.std.proofs.lemmas.List.{length-drop, get_or_append_left, get_or-append_right, get_or-drop, get_or-take}
use Rattle.std.proofs.lemmas.Bool.{cases_lt}
use Rattle.grid_core.specs.Diagram.{Diagram, size}
use Rattle.grid_moves.specs.declared.step.Move.TheVariants.{ShiftColumns}
use Rattle.grid_moves.specs.Step.{Step}
use Rattle.grid_moves.proofs.OneResult.{step_moved}
use Rattle.quandle_core.specs.Quandle.{Table, IsQuandle}
use Rattle.colour_rows.specs.Colouring.{IsColouring}
use Rattle.quandle_core.specs.Bijection.{IsBijection}
use Rattle.colour_laws.specs.Carried.{carried, columns_shifted}
use Rattle.colour_laws.proofs.ColouredColumns.{turned}
use Rattle.colour_laws.proofs.ColumnShifts as lists
use Rattle.colour_laws.proofs.ByIndex.{is_by_column}
use Rattle.colour_laws.proofs.Bijections.{bijection_from}

-- the turned list, place by place
turned_place : (k : ℕ) (c : List ℕ) (i : ℕ) → k ≤ length c → i < length c → slice_index (turned k c) i ≡ slice_index c ((i + k) % length c)
turned_place k c i le lt = elim (cases_lt i (length c - k)) [
  | inl l ↦
      get_or_append_left (drop k c) (take k c) 0 i (omega (arith, length-drop k c)) ∙ get_or-drop k c i 0
      ∙ ap (slice_index c) (let e : k + i ≡ i + k = omega arith in e ∙ sym (mod-eq_of_lt (let s : i + k < length c = omega arith in s)))
  | inr g ↦
      let turn : (i + k) % length c ≡ i - (length c - k) = ap (λ m. m % length c) (let e : i + k ≡ 1 * length c + (i - (length c - k)) = omega arith in e)
      ∙ mod-mul-add 1 (length c) (i - (length c - k)) (omega arith) in
      get_or-append_right (drop k c) (take k c) (length c - k) i 0 (length-drop k c) g ∙ get_or-take k c (i - (length c - k)) 0 (omega arith)
      ∙ ap (slice_index c) (sym turn)
]

pub turned_is : (k : ℕ) (d : Diagram) (c : List ℕ) → k ≤ size d → length c ≡ size d → turned k c ≡ columns_shifted k d c
turned_is k d c le e =
    is_by_column (size d) (λ i. slice_index c ((i + k) % size d)) (turned k c) (lists.length_turned k c ∙ e)
    (λ i lt. turned_place k c i (omega (arith, e)) (omega (arith, e)) ∙ ap (λ m. slice_index c ((i + k) % m)) e)

pub shift_of_columns : (t : Table) → IsQuandle t → (d e : Diagram) (k : ℕ) → Step d (ShiftColumns k) e
    → IsBijection (IsColouring t d) (IsColouring t e) (carried t d (ShiftColumns k))
shift_of_columns t q d e k step =
    let is = step_moved d (ShiftColumns k) e step in
    let most = step.marks.most in
    bijection_from t q d e step.before step.after (turned k) (turned (size d - k)) (carried t d (ShiftColumns k))
    (lists.columns_shifted t q d e step.before step.after k (omega (arith, most)) (ap (λ (f : Diagram). f.x) is) (ap (λ (f : Diagram). f.o) is))
    (λ c colouring. turned_is k d c (omega (arith, most)) colouring.size)
