-- The parts in which tries stand.
use Rattle.std.proofs.Common.{◌≡◌, ◌≤◌, ◌+◌, ◌∙◌, ◌++◌, ◌∷◌, [], inl, inr, ℕ, List, map, arith, ap, sym, refl}
use Rattle.std.specs.Prelude.{AllPairs}
use Rattle.std.specs.List.{range_with_len}
use Rattle.grid_core.specs.declared.mark.Kind.TheVariants.{Cross, Ring}
use Rattle.grid_core.specs.Corners.{corners}
use Rattle.grid_moves.specs.declared.step.Move.{Move}
use Rattle.grid_moves.specs.MoveLists.{stabilisation, stabilisations}
use Rattle.crossing_codes.proofs.Members.{Has, has_either, of_map, of_flat_map}
use Rattle.crossing_codes.proofs.Ordered.{Ordered, ordered_append, all_pairs}
use Rattle.next_moves.specs.Tries.{Try, tries, column_trade_tries, all_column_trade_tries, row_trade_tries, all_row_trade_tries, trade_tries}
use Rattle.next_moves.specs.Tries.{try_destabilisation, block_tries, all_block_tries, unshifted, stabilisation_tries, all_stabilisation_tries}
use Rattle.text_laws.specs.Parts.{part}

-- all tries of a list stand in this part
abbrev AreIn : ℕ → List Try → Type 0
AreIn k list = (x : Try) → Has list x → part x.step ≡ k

-- no earlier part stands behind a later one
abbrev NotBehind : Try → Try → Type 0
NotBehind s t = part s.step ≤ part t.step

one_part : (k : ℕ) (list : List Try) → AreIn k list → Ordered NotBehind list
one_part k [] all = tt
one_part k (x ∷ list) all =
    (λ y has. omega (arith, all x (inl refl), all y (inr has)), one_part k list (λ y has. all y (inr has)))

two_parts : (j k : ℕ) (xs ys : List Try) → j ≤ k → AreIn j xs → AreIn k ys → (x y : Try) → Has xs x → Has ys y → NotBehind x y
two_parts j k xs ys le by_j by_k x y in_xs in_ys = omega (arith, le, by_j x in_xs, by_k y in_ys)

columns_in : (n : ℕ) → AreIn 0 (all_column_trade_tries n)
columns_in n x has = let at = of_flat_map (column_trade_tries n) (range_with_len 0 n) x has in by at.0 at.2
  where
    by : (c : ℕ) → Has (column_trade_tries n c) x → part x.step ≡ 0
    by c (inl e) = ap (λ (t : Try). part t.step) (sym e)
    by c (inr (inl e)) = ap (λ (t : Try). part t.step) (sym e)
    by c (inr (inr none)) = absurd none

rows_in : (n : ℕ) → AreIn 1 (all_row_trade_tries n)
rows_in n x has = let at = of_flat_map (row_trade_tries n) (range_with_len 0 n) x has in by at.0 at.2
  where
    by : (r : ℕ) → Has (row_trade_tries n r) x → part x.step ≡ 1
    by r (inl e) = ap (λ (t : Try). part t.step) (sym e)
    by r (inr (inl e)) = ap (λ (t : Try). part t.step) (sym e)
    by r (inr (inr none)) = absurd none

blocks_in : (n : ℕ) → AreIn 2 (all_block_tries n)
blocks_in n x has =
    let at = of_flat_map (block_tries n) (range_with_len 0 n) x has in
    let made = of_map (try_destabilisation n at.0) (range_with_len 0 n) x at.2 in
    ap (λ (t : Try). part t.step) (sym made.2)

stabilisations_in : (n : ℕ) → AreIn 3 (all_stabilisation_tries n)
stabilisations_in n x has =
    let at = of_flat_map stabilisation_tries (range_with_len 0 n) x has in
    let made = of_map unshifted (stabilisations at.0) x at.2 in
    ap (λ (t : Try). part t.step) (sym made.2) ∙ by at.0 made.0 made.1
  where
    by : (c : ℕ) (move : Move) → Has (stabilisations c) move → part move ≡ 3
    by c move has = elim (has_either (map (stabilisation c Cross) corners) (map (stabilisation c Ring) corners) move has) [
      | inl cross ↦ ap part (sym (of_map (stabilisation c Cross) corners move cross).2)
      | inr ring ↦ ap part (sym (of_map (stabilisation c Ring) corners move ring).2)
    ]

pub tries_in_order : (n : ℕ) → AllPairs (λ (s t : Try). part s.step ≤ part t.step) (tries n)
tries_in_order n =
    let columns = all_column_trade_tries n in
    let rows = all_row_trade_tries n in
    let blocks = all_block_tries n in
    let wider = all_stabilisation_tries n in
    all_pairs NotBehind (tries n)
    (ordered_append NotBehind (columns ++ rows ++ blocks) wider
    (ordered_append NotBehind (columns ++ rows) blocks
    (ordered_append NotBehind columns rows (one_part 0 columns (columns_in n)) (one_part 1 rows (rows_in n))
    (two_parts 0 1 columns rows (omega arith) (columns_in n) (rows_in n)))
    (one_part 2 blocks (blocks_in n))
    (λ x y in_front behind. omega (arith, low x in_front, blocks_in n y behind)))
    (one_part 3 wider (stabilisations_in n))
    (λ x y in_front behind. omega (arith, lower x in_front, stabilisations_in n y behind)))
  where
    low : (x : Try) → Has (trade_tries n) x → part x.step ≤ 1
    low x has = elim (has_either (all_column_trade_tries n) (all_row_trade_tries n) x has) [
      | inl column ↦ omega (arith, columns_in n x column)
      | inr row ↦ omega (arith, rows_in n x row)
    ]

    lower : (x : Try) → Has (trade_tries n ++ all_block_tries n) x → part x.step ≤ 2
    lower x has =
        elim (has_either (trade_tries n) (all_block_tries n) x has) [
          | inl trade ↦ omega (arith, low x trade)
          | inr block ↦ omega (arith, blocks_in n x block)
        ]
