-- What private code promises of a part of the columns. No public clause cites it.
use Rattle.std.specs.Prelude.{ℕ, Bool, map}
use Rattle.std.specs.List.{range_with_len}
use Rattle.std.specs.Simd.Lanes.{mask_l}

-- the mask of the n columns from `at` on, the first of them at bit 0
unfoldable pub mask_of : (ℕ → Bool) → ℕ → ℕ → ℕ
mask_of test at n = mask_l (map test (range_with_len at n))
