-- Tidy lists of moves: of shifts that stand side by side there are two at most, the one of columns before the one of rows.
use Rattle.std.specs.Prelude.{◌&&◌, ◌||◌, not, Bool, true, List, [], ◌∷◌, Option, Some, None}
use Rattle.grid_moves.specs.declared.step.Move.{Move}
use Rattle.grid_moves.specs.Kinds.{is_shift, is_column_shift, is_row_shift}

-- a shift of columns may not follow directly on a shift, and a shift of rows not directly on one of rows; the first move may be any
abbrev pub may_follow : Option Move → Move → Bool
may_follow None move = true
may_follow (Some before) move = not ((is_column_shift move && is_shift before) || (is_row_shift move && is_row_shift before))

-- each move may follow on the one before it, the first on this one
abbrev pub are_tidy_behind : Option Move → List Move → Bool
are_tidy_behind before [] = true
are_tidy_behind before (move ∷ moves) = may_follow before move && are_tidy_behind (Some move) moves

abbrev pub is_tidy : List Move → Bool
is_tidy moves = are_tidy_behind None moves
