-- What a run of shifts in a list becomes.
use Rattle.std.proofs.Common.{◌≡◌, ◌+◌, ◌%◌, ◌++◌, ◌∷◌, [], ◌∙◌, ℕ, Bool, true, false, List, arith, sym, refl, ap, ap₂}
use Rattle.std.specs.List.{list_all}
use Rattle.std.proofs.Math.Nat.{mod-add-mod, zero-mod}
use Rattle.grid_moves.specs.declared.step.Move.{Move}
use Rattle.grid_moves.specs.declared.step.Move.TheVariants.{ShiftColumns, ShiftRows, ExchangeColumns, ExchangeRows, SlideColumns, SlideRows, Stabilise}
use Rattle.grid_moves.specs.declared.step.Move.TheVariants.{Destabilise}
use Rattle.grid_moves.specs.SizeAfter.{size_after}
use Rattle.grid_moves.specs.Kinds.{is_shift}
use Rattle.grid_keys.specs.Shifts.{shift_moves}
use Rattle.grid_canon.specs.Tidied.{tidied, column_sum, row_sum}

no : {A : Type 0} → false ≡ true → A
no e = absurd (let never : ◌≡◌ {A = Bool} false true = e in cc)

-- one more shift of columns, or of rows
one_more : (n a k s : ℕ) → ((a % n + k) % n ≡ (a + k) % n) × ((a + k + s) % n ≡ (a + (k + s)) % n)
one_more n a k s = (mod-add-mod a n k, ap (λ (z : ℕ). z % n) (let e : a + k + s ≡ a + (k + s) = omega arith in e))

-- the shifts that stand before a run are added up with it
pub run_written : (n a b : ℕ) (run : List Move) → list_all is_shift run ≡ true
    → tidied n (a % n) (b % n) run ≡ shift_moves ((a + column_sum run) % n) ((b + row_sum run) % n)
run_written n a b [] shifts =
    ap₂ (λ (x y : ℕ). shift_moves (x % n) (y % n)) (let e : a ≡ a + 0 = omega arith in e) (let e : b ≡ b + 0 = omega arith in e)
run_written n a b (ShiftColumns k ∷ run) shifts =
    let more = one_more n a k (column_sum run) in
    ap (λ (z : ℕ). tidied n z (b % n) run) more.0 ∙ run_written n (a + k) b run shifts
    ∙ ap (λ (z : ℕ). shift_moves z ((b + row_sum run) % n)) more.1
run_written n a b (ShiftRows k ∷ run) shifts =
    let more = one_more n b k (row_sum run) in
    ap (λ (z : ℕ). tidied n (a % n) z run) more.0 ∙ run_written n a (b + k) run shifts
    ∙ ap (λ (z : ℕ). shift_moves ((a + column_sum run) % n) z) more.1
run_written n a b (ExchangeColumns c ∷ run) shifts = no shifts
run_written n a b (ExchangeRows r ∷ run) shifts = no shifts
run_written n a b (SlideColumns c ∷ run) shifts = no shifts
run_written n a b (SlideRows r ∷ run) shifts = no shifts
run_written n a b (Stabilise c kind corner ∷ run) shifts = no shifts
run_written n a b (Destabilise c r ∷ run) shifts = no shifts

-- a move that is no shift ends a run
pub run_ended : (n a b : ℕ) (move : Move) (moves : List Move) → is_shift move ≡ false
    → tidied n a b (move ∷ moves) ≡ shift_moves a b ++ move ∷ tidied (size_after move n) 0 0 moves
run_ended n a b (ShiftColumns k) moves other = no (sym other)
run_ended n a b (ShiftRows k) moves other = no (sym other)
run_ended n a b (ExchangeColumns c) moves other = refl
run_ended n a b (ExchangeRows r) moves other = refl
run_ended n a b (SlideColumns c) moves other = refl
run_ended n a b (SlideRows r) moves other = refl
run_ended n a b (Stabilise c kind corner) moves other = refl
run_ended n a b (Destabilise c r) moves other = refl

-- what stands behind a run
abbrev ended : ℕ → Move → List Move → ℕ → ℕ → List Move
ended n move moves x y = shift_moves x y ++ move ∷ tidied (size_after move n) 0 0 moves

pub run_then : (n a b : ℕ) (run moves : List Move) (move : Move) → list_all is_shift run ≡ true → is_shift move ≡ false
    → tidied n (a % n) (b % n) (run ++ move ∷ moves) ≡ ended n move moves ((a + column_sum run) % n) ((b + row_sum run) % n)
run_then n a b [] moves move shifts other =
    run_ended n (a % n) (b % n) move moves other
    ∙ ap₂ (λ (x y : ℕ). ended n move moves (x % n) (y % n)) (let e : a ≡ a + 0 = omega arith in e) (let e : b ≡ b + 0 = omega arith in e)
run_then n a b (ShiftColumns k ∷ run) moves move shifts other =
    let more = one_more n a k (column_sum run) in
    ap (λ (z : ℕ). tidied n z (b % n) (run ++ move ∷ moves)) more.0 ∙ run_then n (a + k) b run moves move shifts other
    ∙ ap (λ (z : ℕ). ended n move moves z ((b + row_sum run) % n)) more.1
run_then n a b (ShiftRows k ∷ run) moves move shifts other =
    let more = one_more n b k (row_sum run) in
    ap (λ (z : ℕ). tidied n (a % n) z (run ++ move ∷ moves)) more.0 ∙ run_then n a (b + k) run moves move shifts other
    ∙ ap (λ (z : ℕ). ended n move moves ((a + column_sum run) % n) z) more.1
run_then n a b (ExchangeColumns c ∷ run) moves move shifts other = no shifts
run_then n a b (ExchangeRows r ∷ run) moves move shifts other = no shifts
run_then n a b (SlideColumns c ∷ run) moves move shifts other = no shifts
run_then n a b (SlideRows r ∷ run) moves move shifts other = no shifts
run_then n a b (Stabilise c kind corner ∷ run) moves move shifts other = no shifts
run_then n a b (Destabilise c r ∷ run) moves move shifts other = no shifts

-- with none before it
from_none : (n : ℕ) (moves : List Move) → tidied n 0 0 moves ≡ tidied n (0 % n) (0 % n) moves
from_none n moves = ap₂ (λ (x y : ℕ). tidied n x y moves) (sym (zero-mod n)) (sym (zero-mod n))

none_before : (s : ℕ) → 0 + s ≡ s
none_before s = omega arith

pub run_alone : (n : ℕ) (run : List Move) → list_all is_shift run ≡ true → tidied n 0 0 run ≡ shift_moves (column_sum run % n) (row_sum run % n)
run_alone n run shifts =
    from_none n run ∙ run_written n 0 0 run shifts
    ∙ ap₂ (λ (x y : ℕ). shift_moves (x % n) (y % n)) (none_before (column_sum run)) (none_before (row_sum run))

pub run_first : (n : ℕ) (run moves : List Move) (move : Move) → list_all is_shift run ≡ true → is_shift move ≡ false
    → tidied n 0 0 (run ++ move ∷ moves) ≡ shift_moves (column_sum run % n) (row_sum run % n) ++ move ∷ tidied (size_after move n) 0 0 moves
run_first n run moves move shifts other =
    from_none n (run ++ move ∷ moves) ∙ run_then n 0 0 run moves move shifts other
    ∙ ap₂ (λ (x y : ℕ). ended n move moves (x % n) (y % n)) (none_before (column_sum run)) (none_before (row_sum run))
