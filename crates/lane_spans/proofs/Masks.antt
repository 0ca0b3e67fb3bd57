-- The mask of a part of the columns: one column more in front, a block more in front, its bound and its bits.
use Rattle.std.proofs.Common.{◌≡◌, ◌∙◌, ap, ap₂, refl, sym, ℕ, zero, suc, ◌+◌, ◌-◌, ◌*◌, ◌^◌, ◌<◌, ◌≤◌, ◌∷◌, length, map, get_or, Bool, true, false, cond, inl}
use Rattle.std.proofs.Common.{inr, ◌==◌, arith, mul_assoc}
use Rattle.std.specs.List.{range_with_len}
use Rattle.std.specs.Simd.Lanes.{mask_l}
use Rattle.std.proofs.lemmas.Simd.{bit_mask_l, mask_l-lt}
use Rattle.std.proofs.Math.Nat.{pow-succ'}
use Rattle.std.proofs.Math.Pow.{pow_mono}
use Rattle.std.proofs.lemmas.Bool.{cases_lt}
use Rattle.std.proofs.lemmas.List.{get_or-map, get_or_past}
use Rattle.std.proofs.lemmas.List.FromFn.{get_or-range_with_len, length-range_with_len}
use mir.Val.{bool_byte}
use Rattle.lane_spans.specs.Columns.{has_bit}
use Rattle.lane_spans.specs.Partial.{mask_of}

-- tests that agree on a range
pub same_tests : (f g : ℕ → Bool) (at n : ℕ) → ((c : ℕ) → at ≤ c → c < at + n → f c ≡ g c) → map f (range_with_len at n) ≡ map g (range_with_len at n)
same_tests f g at zero h = refl
same_tests f g at (suc n) h =
    ap₂ (λ b bs. b ∷ bs) (h at (omega arith) (omega arith)) (same_tests f g (at + 1) n (λ c le lt. h c (omega arith) (omega arith)))

-- tests of a range that begins one later
pub later_tests : {A : Type 0} (f : ℕ → A) (at n : ℕ) → map f (range_with_len (at + 1) n) ≡ map (λ c. f (c + 1)) (range_with_len at n)
later_tests f at zero = refl
later_tests f at (suc n) = ap (λ bs. f (at + 1) ∷ bs) (later_tests f (at + 1) n)

pub count_tests : (f : ℕ → Bool) (at n : ℕ) → length (map f (range_with_len at n)) ≡ n
count_tests f at zero = refl
count_tests f at (suc n) = let more = count_tests f (at + 1) n in omega (arith, more)

-- the mask of some columns is below 2 to their number
pub mask_of-lt : (f : ℕ → Bool) (at n : ℕ) → mask_of f at n < 2 ^ n
unfolding mask_of
mask_of-lt f at n = rw count_tests at (mask_l-lt (map f (range_with_len at n)))

pub mask_of-small : (f : ℕ → Bool) (at n : ℕ) → n ≤ 64 → mask_of f at n < 2 ^ 64
mask_of-small f at n le = omega (arith, mask_of-lt f at n, pow_mono le)

-- the first k columns, and those behind them
pub mask_of-split : (f : ℕ → Bool) (at k n : ℕ) → mask_of f at (k + n) ≡ mask_of f at k + 2 ^ k * mask_of f (at + k) n
unfolding mask_of
mask_of-split f at zero n =
    let count : zero + n ≡ n = omega arith in
    let place : at + zero ≡ at = omega arith in
    ap (mask_of f at) count ∙ omega (arith, ap (λ m. mask_of f m n) place)
mask_of-split f at (suc k) n =
    let more = mask_of-split f (at + 1) k n in
    let count : suc k + n ≡ suc (k + n) = omega arith in
    let place : (at + 1) + k ≡ at + suc k = omega arith in
    let rest = mask_of f (at + suc k) n in
    let twice : 2 ^ suc k * rest ≡ 2 * (2 ^ k * rest) = ap (λ p. p * rest) (pow-succ' 2 k) ∙ mul_assoc 2 (2 ^ k) rest in
    let moved : 2 ^ k * mask_of f ((at + 1) + k) n ≡ 2 ^ k * rest = ap (λ m. 2 ^ k * mask_of f m n) place in
    ap (mask_of f at) count ∙ omega (arith, more, twice, moved)

-- the mask of no column
pub mask_of-none : (f : ℕ → Bool) (n : ℕ) → mask_of f n (n - n) ≡ 0
unfolding mask_of
mask_of-none f n =
    let count : n - n ≡ 0 = omega arith in
    ap (λ m. mask_l (map f (range_with_len n m))) count

-- a bit as a number
pub bit_is : (b : Bool) → bool_byte b ≡ cond b 1 0
bit_is true = refl
bit_is false = refl

-- one column more in front
pub mask_of-column : (f : ℕ → Bool) (at next n bit rest : ℕ) → at < n → next ≡ at + 1 → bit ≡ cond (f at) 1 0 → rest ≡ mask_of f next (n - next)
    → bit + 2 * rest ≡ mask_of f at (n - at)
unfolding mask_of
mask_of-column f at next n bit rest lt one is behind =
    let count : n - at ≡ suc (n - (at + 1)) = omega arith in
    ap₂ (λ b r. b + 2 * r) is (behind ∙ ap (λ m. mask_l (map f (range_with_len m (n - m)))) one) ∙ ap (λ m. mask_l (map f (range_with_len at m))) (sym count)

-- a block of k columns more in front
pub mask_of-block : (f : ℕ → Bool) (at k next n block rest : ℕ) → next ≤ n → next ≡ at + k → block ≡ mask_of f at k → rest ≡ mask_of f next (n - next)
    → block + 2 ^ k * rest ≡ mask_of f at (n - at)
mask_of-block f at k next n block rest le more is behind =
    let count : n - at ≡ k + (n - (at + k)) = omega arith in
    ap₂ (λ b r. b + 2 ^ k * r) is (behind ∙ ap (λ m. mask_of f m (n - m)) more) ∙ sym (ap (mask_of f at) count ∙ mask_of-split f at k (n - (at + k)))

bits_of_all : (f : ℕ → Bool) (n c : ℕ) → (n ≤ c → f c ≡ false) → has_bit (mask_of f 0 n) c ≡ f c
unfolding mask_of
bits_of_all f n c past =
    let tests = map f (range_with_len 0 n) in
    let front : 0 + c ≡ c = omega arith in
    ap (λ b. b == 1) (bit_mask_l tests c) ∙ back (get_or tests c false) ∙ elim (cases_lt c n) [
      | inl lt ↦ get_or-map f (range_with_len 0 n) c 0 false (omega (arith, length-range_with_len 0 n)) ∙ ap f (get_or-range_with_len 0 n c 0 lt ∙ front)
      | inr ge ↦ get_or_past tests c false (omega (arith, count_tests f 0 n)) ∙ sym (past ge)
    ]
  where
    back : (b : Bool) → ((cond b 1 0) == 1) ≡ b
    back true = refl
    back false = refl

-- all columns: bit c is the test of column c, which fails where c is no column
pub mask_of-bits : (f : ℕ → Bool) (n at mask c : ℕ) → at ≡ 0 → mask ≡ mask_of f at (n - at) → (n ≤ c → f c ≡ false) → has_bit mask c ≡ f c
mask_of-bits f n at mask c none is past =
    let count : n - at ≡ n = omega arith in
    ap (λ m. has_bit m c) (is ∙ ap₂ (mask_of f) none count) ∙ bits_of_all f n c past
