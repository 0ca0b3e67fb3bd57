-- What the kernels compute lane by lane, as the tests of the columns.
use Rattle.std.proofs.Common.{◌≡◌, ◌∙◌, ap, ap₂, refl, sym, ℕ, zero, suc, ◌+◌, ◌^◌, ◌%◌, ◌<◌, ◌≤◌, List, [], ◌∷◌, length, map, get_or, Bool, true, false, cond}
use Rattle.std.proofs.Common.{◌&&◌, ◌||◌, nat_lt, replicate, bit_and, bit_or, arith}
use Rattle.std.specs.List.{range_with_len}
use Rattle.std.specs.Simd.Lanes.{zip2, mask_l}
use Rattle.std.proofs.lemmas.Simd.{length-chunk, pick_l-range_with_len, zip2-map, mask_l-mod}
use Rattle.std.proofs.lemmas.Bool.Decides.{nat_tests}
use Rattle.std.proofs.Math.Nat.{mod-eq_of_lt}
use lib.Lanes.{chunk, top}
use Rattle.lane_spans.specs.Span.{may_trade_places, lies_strictly_between}
use Rattle.lane_spans.specs.Columns.{lane_covers, trades, neighbour_column, span_at, AreSpans}
use Rattle.lane_spans.specs.Partial.{mask_of}
use Rattle.lane_spans.proofs.Masks.{same_tests, later_tests, count_tests}

-- what a comparison leaves in a lane of eight bits
abbrev flag : Bool → ℕ
flag b = cond b 255 0

abbrev below : ℕ → ℕ → ℕ
below a b = flag (nat_lt a b)

flag-top : (a : Bool) → top 7 (flag a) ≡ a
flag-top true = refl
flag-top false = refl

flag-and : (a b : Bool) → bit_and (flag a) (flag b) ≡ flag (a && b)
flag-and true true = refl
flag-and true false = refl
flag-and false true = refl
flag-and false false = refl

flag-or : (a b : Bool) → bit_or (flag a) (flag b) ≡ flag (a || b)
flag-or true true = refl
flag-or true false = refl
flag-or false true = refl
flag-or false false = refl

-- a load, as a read of each column
loaded : (xs : List ℕ) (at n : ℕ) → at + n ≤ length xs → chunk at n xs ≡ map (λ c. get_or xs c 0) (range_with_len at n)
loaded xs at n le = sym (pick_l-range_with_len 0 xs at n le)

-- a load from one column later on, as a read of each column's neighbour
loaded_later : (xs : List ℕ) (at n : ℕ) → (at + 1) + n ≤ length xs → chunk (at + 1) n xs ≡ map (λ c. get_or xs (c + 1) 0) (range_with_len at n)
loaded_later xs at n le = loaded xs (at + 1) n le ∙ later_tests (λ c. get_or xs c 0) at n

-- the bits of tests of a block
masked : (f : ℕ → Bool) (at n : ℕ) (bs : List Bool) → n ≤ 64 → bs ≡ map f (range_with_len at n) → mask_l bs % 2 ^ 64 ≡ mask_of f at n
unfolding mask_of
masked f at n bs le same =
    ap (λ b. mask_l b % 2 ^ 64) same ∙ mask_l-mod (map f (range_with_len at n)) 64 (omega (arith, count_tests f at n))

-- both comparisons with the row
covering_tests : (row n : ℕ) (xs ys : List ℕ) → length xs ≡ n → length ys ≡ n
    → map (top 7) (zip2 bit_and (zip2 below xs (replicate n row)) (zip2 below (replicate n row) ys))
    ≡ zip2 (λ low high. nat_lt low row && nat_lt row high) xs ys
covering_tests row n [] ys p q = refl
covering_tests row zero (x ∷ xs) ys p q = absurd (omega (arith, p))
covering_tests row (suc n) (x ∷ xs) [] p q = absurd (omega (arith, q))
covering_tests row (suc n) (x ∷ xs) (y ∷ ys) p q =
    ap₂ (λ t ts. t ∷ ts) (ap (top 7) (flag-and (nat_lt x row) (nat_lt row y)) ∙ flag-top (nat_lt x row && nat_lt row y))
    (covering_tests row n xs ys (omega (arith, p)) (omega (arith, q)))

-- the mask that the kernel of `covering_mask` makes of n columns from `at` on
pub covering_lanes : (lo hi : List ℕ) (row at n : ℕ) → length lo ≡ length hi → at + n ≤ length lo → n ≤ 64
    → mask_l (map (top 7) (zip2 bit_and (zip2 below (chunk at n lo) (replicate n row)) (zip2 below (replicate n row) (chunk at n hi)))) % 2 ^ 64
    ≡ mask_of (lane_covers lo hi row) at n
covering_lanes lo hi row at n same le small =
    let test : (ℕ → ℕ → Bool) = λ low high. nat_lt low row && nat_lt row high in
    let high : at + n ≤ length hi = omega arith in
    let lanes = covering_tests row n (chunk at n lo) (chunk at n hi) (length-chunk at n lo le) (length-chunk at n hi high) in
    let reads = ap₂ (zip2 test) (loaded lo at n le) (loaded hi at n high) ∙ zip2-map test (λ c. get_or lo c 0) (λ c. get_or hi c 0) (range_with_len at n) in
    masked (lane_covers lo hi row) at n _ small (lanes ∙ reads ∙ same_tests _ (lane_covers lo hi row) at n (λ c from to. inside c (omega arith)))
  where
    inside : (c : ℕ) → c < length lo → (nat_lt (get_or lo c 0) row && nat_lt row (get_or hi c 0)) ≡ lane_covers lo hi row c
    inside c lt = grind (arith, nat_tests)

-- of the spans from l to h and from l' to h' one lies wholly below, above, inside or round the other
abbrev clear : ℕ → ℕ → ℕ → ℕ → Bool
clear l h l' h' = (nat_lt h l' || nat_lt h' l) || ((nat_lt l l' && nat_lt h' h) || (nat_lt l' l && nat_lt h h'))

-- then they may trade places, where each has its low end below its high one
pub free : (l h l' h' : ℕ) → l < h → l' < h' → clear l h l' h' ≡ may_trade_places (record { low = l; high = h }) (record { low = l'; high = h' })
free l h l' h' p q = grind (arith, nat_tests)

-- the same of the spans of a column and its neighbour
pub free_of_next : (lo hi : List ℕ) (c d : ℕ) → c < length lo → d ≡ neighbour_column (length lo) c → get_or lo c 0 < get_or hi c 0
    → get_or lo d 0 < get_or hi d 0
    → clear (get_or lo c 0) (get_or hi c 0) (get_or lo d 0) (get_or hi d 0) ≡ trades lo hi c
free_of_next lo hi c d column next one other =
    let is_column : nat_lt c (length lo) ≡ true = grind (arith, nat_tests) in
    free (get_or lo c 0) (get_or hi c 0) (get_or lo d 0) (get_or hi d 0) one other
    ∙ ap₂ (λ t e. t && may_trade_places (span_at lo hi c) (span_at lo hi e)) (sym is_column) next

exchange_lane : (l h l' h' : ℕ)
    → top 7 (bit_or (bit_or (below h l') (below h' l)) (bit_or (bit_and (below l l') (below h' h)) (bit_and (below l' l) (below h h')))) ≡ clear l h l' h'
exchange_lane l h l' h' = simp (flag-and, flag-or, flag-top)

-- all the comparisons of low ends, high ends and the neighbours' ends
abbrev exchange_vector : List ℕ → List ℕ → List ℕ → List ℕ → List ℕ
exchange_vector ls hs ls' hs' =
    zip2 bit_or (zip2 bit_or (zip2 below hs ls') (zip2 below hs' ls))
    (zip2 bit_or (zip2 bit_and (zip2 below ls ls') (zip2 below hs' hs)) (zip2 bit_and (zip2 below ls' ls) (zip2 below hs hs')))

exchange_tests : (l h l' h' : ℕ → ℕ) (cs : List ℕ)
    → map (top 7) (exchange_vector (map l cs) (map h cs) (map l' cs) (map h' cs)) ≡ map (λ c. clear (l c) (h c) (l' c) (h' c)) cs
exchange_tests l h l' h' [] = refl
exchange_tests l h l' h' (c ∷ cs) = ap₂ (λ b bs. b ∷ bs) (exchange_lane (l c) (h c) (l' c) (h' c)) (exchange_tests l h l' h' cs)

-- the mask that the kernel of `exchange_mask` makes of n columns from `at` on, behind which there is one more
pub exchange_lanes : (lo hi : List ℕ) (at n : ℕ) → length lo ≡ length hi → at + n < length lo → n ≤ 64 → AreSpans lo hi
    → mask_l (map (top 7) (exchange_vector (chunk at n lo) (chunk at n hi) (chunk (at + 1) n lo) (chunk (at + 1) n hi))) % 2 ^ 64 ≡ mask_of (trades lo hi) at n
exchange_lanes lo hi at n same lt small spans =
    let lows = loaded lo at n (omega arith) in
    let highs = loaded hi at n (omega arith) in
    let next_lows = loaded_later lo at n (omega arith) in
    let next_highs = loaded_later hi at n (omega arith) in
    let cs = range_with_len at n in
    let reads = ap₂ (λ (ls hs : List ℕ). exchange_vector ls hs (chunk (at + 1) n lo) (chunk (at + 1) n hi)) lows highs
    ∙ ap₂ (λ (ls hs : List ℕ). exchange_vector (map (λ c. get_or lo c 0) cs) (map (λ c. get_or hi c 0) cs) ls hs) next_lows next_highs in
    let lanes = exchange_tests (λ c. get_or lo c 0) (λ c. get_or hi c 0) (λ c. get_or lo (c + 1) 0) (λ c. get_or hi (c + 1) 0) (range_with_len at n) in
    masked (trades lo hi) at n _ small (ap (map (top 7)) reads ∙ lanes ∙ same_tests _ (trades lo hi) at n (λ c from to. inside c (omega arith)))
  where
    inside : (c : ℕ) → c + 1 < length lo → clear (get_or lo c 0) (get_or hi c 0) (get_or lo (c + 1) 0) (get_or hi (c + 1) 0) ≡ trades lo hi c
    inside c before = free_of_next lo hi c (c + 1) (omega arith) (sym (mod-eq_of_lt before)) (spans c (omega arith)) (spans (c + 1) (omega arith))

-- what is no column covers no row, and trades with none
pub covers_past : (lo hi : List ℕ) (row c : ℕ) → length lo ≤ c → lane_covers lo hi row c ≡ false
covers_past lo hi row c le =
    let past : nat_lt c (length lo) ≡ false = grind (arith, nat_tests) in
    ap (λ t. t && lies_strictly_between row (span_at lo hi c)) past

pub trades_past : (lo hi : List ℕ) (c : ℕ) → length lo ≤ c → trades lo hi c ≡ false
trades_past lo hi c le =
    let past : nat_lt c (length lo) ≡ false = grind (arith, nat_tests) in
    ap (λ t. t && may_trade_places (span_at lo hi c) (span_at lo hi (neighbour_column (length lo) c))) past
