-- A list in the making: what is written, the shifts that are not, and the moves that are left.
use Rattle.std.proofs.Common.{◌≡◌, ◌<◌, ◌≤◌, ◌+◌, ◌%◌, ◌++◌, ◌∷◌, [], ◌∙◌, ℕ, false, List, length, drop, get_or, arith, sym, ap, subst, append_assoc}
use Rattle.std.proofs.lemmas.List.{drop_more, drop_all}
use Rattle.grid_core.specs.declared.grid.TheConstants.{MAX_SIZE}
use Rattle.grid_core.specs.Diagram.{Diagram, IsGrid, size}
use Rattle.grid_moves.specs.declared.step.Move.{Move}
use Rattle.grid_moves.specs.declared.step.Move.TheVariants.{ShiftColumns, ShiftRows}
use Rattle.grid_moves.specs.Joining.{Joins}
use Rattle.grid_moves.specs.SizeAfter.{size_after}
use Rattle.grid_moves.specs.Step.{Step}
use Rattle.grid_moves.specs.Kinds.{is_shift}
use Rattle.grid_laws.proofs.Sizes.{step_size}
use Rattle.grid_canon.specs.declared.tidying.Run.{Run}
use Rattle.grid_keys.specs.Shifts.{shift_moves}
use Rattle.grid_canon.specs.Tidied.{tidied}
use Rattle.grid_canon.proofs.TidiedRuns.{run_ended}

-- the shifts that are not written yet are round the circle of so many columns
pub record IsRun (run : Run) : Type 0 where
  pub columns : run.columns < run.size
  pub rows : run.rows < run.size

-- the first i moves have led to a diagram of the run's size, from where the others lead on
pub record IsInMaking (first : Diagram) (steps : List Move) (i : ℕ) (list : List Move) (run : Run) : Type 0 where
  pub here : Diagram
  pub end : Diagram
  pub left : Joins here (drop i steps) end
  pub size_is : size here ≡ run.size
  pub run_is : IsRun run
  pub tidied_is : list ++ tidied run.size run.columns run.rows (drop i steps) ≡ tidied (size first) 0 0 steps

pub making_starts : (first : Diagram) (steps list : List Move) (n : ℕ) → IsGrid first → ((e : Diagram) × Joins first steps e) → list ≡ [] → n ≡ size first
    → IsInMaking first steps 0 list (record { size = n; columns = 0; rows = 0 })
making_starts first steps list n grid joined empty is = record {
  here = first;
  end = joined.0;
  left = joined.1;
  size_is = sym is;
  run_is = record { columns = omega (arith, grid.least, is); rows = omega (arith, grid.least, is) };
  tidied_is = ap (λ (ms : List Move). ms ++ tidied n 0 0 steps) empty ∙ ap (λ (z : ℕ). tidied z 0 0 steps) is;
}

-- the next move
pub next_step : (first : Diagram) (steps : List Move) (i : ℕ) (list : List Move) (run : Run) (z : Move) → i < length steps → IsInMaking first steps i list run
    → (d : Diagram) × ((e : Diagram) × (Step d (get_or steps i z) e × (size d ≡ run.size)))
next_step first steps i list run z lt made =
    let left = subst (λ ms. Joins made.here ms made.end) (drop_more steps i z lt) made.left in
    (made.here, (left.0, (left.1.0, made.size_is)))

pub making_more : (first : Diagram) (steps : List Move) (i : ℕ) (list new : List Move) (run next : Run) (z : Move) → i < length steps
    → IsInMaking first steps i list run → IsRun next → next.size ≡ size_after (get_or steps i z) run.size
    → ((rest : List Move) → new ++ tidied next.size next.columns next.rows rest ≡ list ++ tidied run.size run.columns run.rows (get_or steps i z ∷ rest))
    → IsInMaking first steps (i + 1) new next
making_more first steps i list new run next z lt made is_run long is =
    let more = drop_more steps i z lt in
    let left = subst (λ ms. Joins made.here ms made.end) more made.left in
    record {
      here = left.0;
      end = made.end;
      left = left.1.1;
      size_is =
          step_size (get_or steps i z) made.here left.0 left.1.0 ∙ ap (λ (n : ℕ). size_after (get_or steps i z) n) made.size_is ∙ sym long;
      run_is = is_run;
      tidied_is = is (drop (i + 1) steps) ∙ ap (λ ms. list ++ tidied run.size run.columns run.rows ms) (sym more) ∙ made.tidied_is;
    }

-- no move is left, and the shifts are written
pub making_ends : (first : Diagram) (steps : List Move) (i : ℕ) (list new : List Move) (run : Run) → length steps < i + 1 → IsInMaking first steps i list run
    → new ≡ list ++ shift_moves run.columns run.rows → new ≡ tidied (size first) 0 0 steps
making_ends first steps i list new run le made more =
    more
    ∙ ap (λ ms. list ++ tidied run.size run.columns run.rows ms) (sym (drop_all i steps (omega (arith, le))))
    ∙ made.tidied_is

-- ---- one more move

-- the move can be made on a diagram of so many columns
abbrev pub IsLegalOn : Move → ℕ → Type 0
IsLegalOn move n = (d : Diagram) × ((e : Diagram) × (Step d move e × (size d ≡ n)))

pub legal_most : (move : Move) (n : ℕ) → IsLegalOn move n → n ≤ MAX_SIZE
legal_most move n legal = omega (arith, legal.1.1.0.before.most, legal.1.1.1)

pub legal_after : (move : Move) (n : ℕ) → IsLegalOn move n → 0 < size_after move n
legal_after move n legal =
    omega (arith, legal.1.1.0.after.least, step_size move legal.0 legal.1.0 legal.1.1.0, ap (λ (z : ℕ). size_after move z) legal.1.1.1)

pub columns_below : (k n : ℕ) (move : Move) → IsLegalOn move n → move ≡ ShiftColumns k → k < n
columns_below k n move legal is =
    let step : Step legal.0 (ShiftColumns k) legal.1.0 = subst (λ m. Step legal.0 m legal.1.0) is legal.1.1.0 in
    omega (arith, step.marks.most, legal.1.1.1)

pub rows_below : (k n : ℕ) (move : Move) → IsLegalOn move n → move ≡ ShiftRows k → k < n
rows_below k n move legal is =
    let step : Step legal.0 (ShiftRows k) legal.1.0 = subst (λ m. Step legal.0 m legal.1.0) is legal.1.1.0 in
    omega (arith, step.marks.most, legal.1.1.1)

-- a shift is added
pub columns_added : (list : List Move) (n a b k sum : ℕ) (move : Move) (rest : List Move) → move ≡ ShiftColumns k → sum ≡ (a + k) % n
    → list ++ tidied n sum b rest ≡ list ++ tidied n a b (move ∷ rest)
columns_added list n a b k sum move rest is added =
    ap (λ (z : ℕ). list ++ tidied n z b rest) added ∙ ap (λ (m : Move). list ++ tidied n a b (m ∷ rest)) (sym is)

pub rows_added : (list : List Move) (n a b k sum : ℕ) (move : Move) (rest : List Move) → move ≡ ShiftRows k → sum ≡ (b + k) % n
    → list ++ tidied n a sum rest ≡ list ++ tidied n a b (move ∷ rest)
rows_added list n a b k sum move rest is added =
    ap (λ (z : ℕ). list ++ tidied n a z rest) added ∙ ap (λ (m : Move). list ++ tidied n a b (m ∷ rest)) (sym is)

-- any other move is written behind the shifts
regrouped : (list shifts new : List Move) (move : Move) (behind : List Move) → new ≡ list ++ shifts ++ move ∷ []
    → new ++ behind ≡ list ++ (shifts ++ move ∷ behind)
regrouped list shifts new move behind is =
    ap (λ (ms : List Move). ms ++ behind) is
    ∙ append_assoc (list ++ shifts) (move ∷ []) behind
    ∙ append_assoc list shifts (move ∷ behind)

pub other_written : (list middle new : List Move) (n a b after : ℕ) (move : Move) (rest : List Move) → is_shift move ≡ false
    → middle ≡ list ++ shift_moves a b → new ≡ middle ++ move ∷ [] → after ≡ size_after move n
    → new ++ tidied after 0 0 rest ≡ list ++ tidied n a b (move ∷ rest)
other_written list middle new n a b after move rest none first second long =
    ap (λ (z : ℕ). new ++ tidied z 0 0 rest) long
    ∙ regrouped list (shift_moves a b) new move (tidied (size_after move n) 0 0 rest) (second ∙ ap (λ (ms : List Move). ms ++ move ∷ []) first)
    ∙ ap (λ (ms : List Move). list ++ ms) (sym (run_ended n a b move rest none))
