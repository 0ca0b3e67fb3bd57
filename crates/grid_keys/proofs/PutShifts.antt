-- What stands in a list where some of the shifts found no memory.
use Rattle.std.proofs.Common.{◌≡◌, ◌<◌, ◌++◌, ℕ, zero, suc, List, length, reverse, arith, refl, sym, subst}
use Rattle.std.proofs.Common.{Result, OnErr}
use Rattle.grid_moves.specs.declared.step.Move.{Move}
use Rattle.grid_moves.specs.PutsPart.{PutsPart}
use Rattle.grid_moves.proofs.PutParts.{part_none, part_ahead, last_behind}
use Rattle.grid_keys.specs.Shifts.{needed_column_shift, needed_row_shift, shift_moves}

some_columns : (k : ℕ) → 0 < k → 0 < length (needed_column_shift k)
some_columns zero lt = absurd (omega (arith, lt))
some_columns (suc k) lt = omega arith

some_rows : (k : ℕ) → 0 < k → 0 < length (needed_row_shift k)
some_rows zero lt = absurd (omega (arith, lt))
some_rows (suc k) lt = omega arith

pub no_columns : (k : ℕ) (old new : List Move) → 0 < k → new ≡ old → PutsPart old new (needed_column_shift k)
no_columns k old new some same = part_none old new (needed_column_shift k) same (some_columns k some)

pub no_rows : (k : ℕ) (old new : List Move) → 0 < k → new ≡ old → PutsPart old new (needed_row_shift k)
no_rows k old new some same = part_none old new (needed_row_shift k) same (some_rows k some)

-- the last one first
shifts_back : (a b : ℕ) → reverse (shift_moves a b) ≡ needed_row_shift b ++ needed_column_shift a
shifts_back zero zero = refl
shifts_back zero (suc b) = refl
shifts_back (suc a) zero = refl
shifts_back (suc a) (suc b) = refl

pub shifts_ahead : (a b : ℕ) (old new : List Move) → PutsPart old new (needed_column_shift a) → PutsPart old new (shift_moves a b)
shifts_ahead a b old new part = part_ahead old new (needed_column_shift a) (needed_row_shift b) part

pub shifts_last : {T E : Type 0} (r : Result T E) (a b : ℕ) (old mid new : List Move) → mid ≡ old ++ needed_column_shift a
    → OnErr r (PutsPart mid new (needed_row_shift b))
    → OnErr r (PutsPart old new (shift_moves a b))
shifts_last r a b old mid new before part = last_behind r old mid new (needed_column_shift a) (needed_row_shift b) before part

pub back_ahead : (a b : ℕ) (old new : List Move) → PutsPart old new (needed_row_shift b) → PutsPart old new (reverse (shift_moves a b))
back_ahead a b old new part =
    subst (λ (ms : List Move). PutsPart old new ms) (sym (shifts_back a b)) (part_ahead old new (needed_row_shift b) (needed_column_shift a) part)

pub back_last : {T E : Type 0} (r : Result T E) (a b : ℕ) (old mid new : List Move) → mid ≡ old ++ needed_row_shift b
    → OnErr r (PutsPart mid new (needed_column_shift a))
    → OnErr r (PutsPart old new (reverse (shift_moves a b)))
back_last r a b old mid new before part =
    subst (λ (ms : List Move). OnErr r (PutsPart old new ms)) (sym (shifts_back a b))
    (last_behind r old mid new (needed_row_shift b) (needed_column_shift a) before part)
