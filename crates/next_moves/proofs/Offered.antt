-- How many of the tries are offered: of each number one exchange or slide of columns and one of rows, two destabilisations and eight stabilisations.
use Rattle.std.proofs.Common.{◌⊎◌, ◌≡◌, ◌<◌, ◌≤◌, ◌+◌, ◌*◌, ◌++◌, ◌∷◌, ◌∙◌, [], ℕ, zero, suc, List, Bool, false, cond, filter, map, length, arith, sym, ap, inl}
use Rattle.std.proofs.Common.{inr, add-one}
use Rattle.std.specs.List.{range_with_len, flat_map}
use Rattle.std.proofs.lemmas.Bool.{cases_eq}
use Rattle.std.proofs.lemmas.Bool.Decides.{nat_tests}
use Rattle.std.proofs.lemmas.List.{length-append}
use Rattle.std.proofs.lemmas.List.Elements.{filter-append}
use Rattle.std.proofs.lemmas.List.Sums.{length-filter, count_by-le-length}
use Rattle.grid_core.specs.Diagram.{Diagram, IsGrid, size}
use Rattle.next_moves.specs.Tries.{Try, try_column_exchange, try_column_slide, column_trade_tries, try_row_exchange, try_row_slide, row_trade_tries}
use Rattle.next_moves.specs.Tries.{try_destabilisation, block_tries, stabilisation_tries, trade_tries, all_block_tries, all_stabilisation_tries}
use Rattle.next_moves.specs.Offers.{is_offered}
use Rattle.grid_canon.specs.ShortTrades.{next}
use Rattle.next_moves.specs.Blocks.{row_of_both, one_if_at, one_if_above}
use Rattle.next_moves.proofs.Extended.{map_range_more, flat_map_range_more}
use Rattle.next_moves.proofs.Sides.{passed_more, passed_le}
use Rattle.next_moves.proofs.BlockRows.{no_other_block}
use Rattle.next_moves.proofs.Trades.{columns_once, rows_once}

-- what passes is not more than what is tested
kept_le : {A : Type 0} (p : A → Bool) (xs : List A) → length (filter p xs) ≤ length xs
kept_le p xs = omega (arith, length-filter p xs, count_by-le-length p xs)

kept_append : {A : Type 0} (p : A → Bool) (xs ys : List A) → length (filter p (xs ++ ys)) ≡ length (filter p xs) + length (filter p ys)
kept_append p xs ys = ap length (filter-append p xs ys) ∙ length-append (filter p xs) (filter p ys)

-- as many at most for each number
kept_each : {A : Type 0} (p : A → Bool) (f : ℕ → List A) (b n : ℕ) → ((c : ℕ) → c < n → length (filter p (f c)) ≤ b)
    → length (filter p (flat_map f (range_with_len 0 n))) ≤ n * b
kept_each p f b zero each = omega arith
kept_each p f b (suc m) each =
    omega (
      arith,
      kept_each p f b m (λ c lt. each c (omega (arith, lt))),
      each m (omega arith),
      kept_append p (flat_map f (range_with_len 0 m))
          (f m),
      ap (λ ts. length (filter p ts)) (ap (λ (z : ℕ). flat_map f (range_with_len 0 z)) (sym (add-one m)) ∙ flat_map_range_more f m),
    )

-- the blocks of one column
none_kept : {A : Type 0} (p : A → Bool) (t : A) → p t ≡ false → length (filter p (t ∷ [])) ≡ 0
none_kept p t e = ap (λ b. length (cond b (t ∷ []) [])) e

counted_itself : (r : ℕ) → one_if_at r r ≡ 1
counted_itself r = grind (arith, nat_tests)

block_counted : (d : Diagram) (cap c r : ℕ) → IsGrid d → c < size d → r < size d
    → length (filter (is_offered d cap) (try_destabilisation (size d) c r ∷ [])) ≤ one_if_at (row_of_both d c) r + one_if_at (row_of_both d (next (size d) c)) r
block_counted d cap c r grid hc hr =
    let most = kept_le (is_offered d cap) (try_destabilisation (size d) c r ∷ []) in
    elim (cases_eq r (row_of_both d c)) [
      | inl near ↦ omega (arith, most, ap (λ (z : ℕ). one_if_at z r) (sym near) ∙ counted_itself r)
      | inr other ↦ elim (cases_eq r (row_of_both d (next (size d) c))) [
        | inl far ↦ omega (arith, most, ap (λ (z : ℕ). one_if_at z r) (sym far) ∙ counted_itself r)
        | inr neither ↦ omega (arith, none_kept (is_offered d cap) (try_destabilisation (size d) c r) (no_other_block d cap c r grid hc hr other neither))
      ]
    ]

blocks_passed : (d : Diagram) (cap c m : ℕ) → IsGrid d → c < size d → m ≤ size d
    → length (filter (is_offered d cap) (map (try_destabilisation (size d) c) (range_with_len 0 m)))
    ≤ one_if_above (row_of_both d c) m + one_if_above (row_of_both d (next (size d) c)) m
blocks_passed d cap c zero grid hc le = omega arith
blocks_passed d cap c (suc m) grid hc le =
    let p = is_offered d cap in
    let f = try_destabilisation (size d) c in
    let near : ℕ = row_of_both d c in
    let far : ℕ = row_of_both d (next (size d) c) in
    let one : suc m ≡ m + 1 = omega arith in
    omega (
      arith,
      blocks_passed d cap c m grid hc (omega (arith, le)),
      block_counted d cap c m grid hc (omega (arith, le)),
      kept_append p (map f (range_with_len 0 m)) (f m ∷ []),
      ap (λ ts. length (filter p ts)) (ap (λ (z : ℕ). map f (range_with_len 0 z)) one ∙ map_range_more f m),
      ap (one_if_above near) one ∙ passed_more near m,
      ap (one_if_above far) one ∙ passed_more far m,
    )

pub blocks_offered : (d : Diagram) (cap : ℕ) → IsGrid d → length (filter (is_offered d cap) (all_block_tries (size d))) ≤ 2 * size d
blocks_offered d cap grid =
    omega (
      arith,
      kept_each (is_offered d cap) (block_tries (size d)) 2 (size d) (λ c hc.
          omega (
            arith,
            blocks_passed d cap c (size d) grid hc (omega arith),
            passed_le (row_of_both d c) (size d),
            passed_le
                (row_of_both d (next (size d) c)) (size d),
          )),
    )

-- of two tries of which one is not offered
one_kept : (d : Diagram) (cap : ℕ) (s t : Try) → (is_offered d cap s ≡ false) ⊎ (is_offered d cap t ≡ false)
    → length (filter (is_offered d cap) (s ∷ t ∷ [])) ≤ 1
one_kept d cap s t once =
    let p = is_offered d cap in
    let both = kept_append p (s ∷ []) (t ∷ []) in
    elim once [
      | inl e ↦ omega (arith, both, none_kept p s e, kept_le p (t ∷ []))
      | inr e ↦ omega (arith, both, none_kept p t e, kept_le p (s ∷ []))
    ]

pub trades_offered : (d : Diagram) (cap : ℕ) → length (filter (is_offered d cap) (trade_tries (size d))) ≤ 2 * size d
trades_offered d cap =
    let n : ℕ = size d in
    let p = is_offered d cap in
    omega (
      arith,
      kept_append p (flat_map (column_trade_tries n) (range_with_len 0 n)) (flat_map (row_trade_tries n) (range_with_len 0 n)),
      kept_each p (column_trade_tries n) 1 n (λ c lt. one_kept d cap (try_column_exchange n c) (try_column_slide n c) (columns_once d cap n c)),
      kept_each p (row_trade_tries n) 1 n (λ r lt. one_kept d cap (try_row_exchange n r) (try_row_slide n r) (rows_once d cap n r)),
    )

pub stabilisations_offered : (d : Diagram) (cap : ℕ) → length (filter (is_offered d cap) (all_stabilisation_tries (size d))) ≤ 8 * size d
stabilisations_offered d cap =
    omega (arith, kept_each (is_offered d cap) stabilisation_tries 8 (size d) (λ c hc. kept_le (is_offered d cap) (stabilisation_tries c)))
