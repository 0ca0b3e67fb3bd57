use Rattle.std.proofs.Common.{◌≡◌, ◌≢◌, ◌%◌, map}
use Rattle.std.specs.List.{range_with_len}
use Rattle.grid_keys.specs.declared.key.TheConstants.{WORD_COLUMNS}
use Rattle.grid_keys.specs.Key.{digit_at}
use Rattle.grid_keys.proofs.DigitsOnTop.{on_top}
use Rattle.grid_keys.proofs.key.rows_of_key.Given as goal

-- the rows so far, and of a word that is not read to its end the digits that are left, moved up
abbrev pub invariant-loop-c : goal.invariant-loop-c
invariant-loop-c l =
    (l.rows.items ≡ map (digit_at l.words) (range_with_len 0 l.c)) × (l.c % WORD_COLUMNS ≢ 0 → l.rest ≡ on_top l.words l.c)
