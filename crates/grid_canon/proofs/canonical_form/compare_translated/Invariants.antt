use Rattle.std.proofs.Common.{◌≡◌, ◌<◌, ℕ, slice_index, length}
use Rattle.grid_keys.specs.Translation.{translated_rows}
use Rattle.grid_canon.proofs.canonical_form.compare_translated.Given as goal

abbrev pub invariant-loop-c : goal.invariant-loop-c
invariant-loop-c l =
    (k : ℕ) → k < l.c → slice_index (translated_rows (length l.rows) l.near l.near_by l.rows) k ≡ slice_index
    (translated_rows (length l.rows) l.far l.far_by l.rows) k
