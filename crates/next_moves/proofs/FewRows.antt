-- Of the blocks of a column and the next one, those of one row, or of two rows, are all that are offered.
use Rattle.std.proofs.Common.{◌≡◌, ◌≢◌, ◌<◌, ◌≤◌, ◌∷◌, ◌++◌, ◌∙◌, ◌⊎◌, [], ℕ, zero, suc, List, Bool, false, cond, map, filter, arith, sym, refl, ap, subst, inl}
use Rattle.std.proofs.Common.{inr, add-one, append-nil}
use Rattle.std.specs.List.{range_with_len}
use Rattle.std.proofs.lemmas.Bool.{lt-ltb, le-ltb, cases_order}
use Rattle.std.proofs.lemmas.List.{map-append}
use Rattle.std.proofs.lemmas.List.Elements.{filter-append}
use Rattle.grid_core.specs.Diagram.{Diagram, IsGrid, size}
use Rattle.next_moves.specs.declared.links.Offer.{Offer}
use Rattle.next_moves.specs.Tries.{Try, try_destabilisation, block_tries}
use Rattle.next_moves.specs.Offers.{is_offered}
use Rattle.grid_canon.specs.ShortTrades.{next}
use Rattle.next_moves.specs.Blocks.{row_of_both, if_below}
use Rattle.next_moves.specs.Extends.{Extends}
use Rattle.next_moves.proofs.Extended.{map_range_more, extends_none}
use Rattle.next_moves.proofs.BlockRows.{no_other_block}

pub below_is : (n r : ℕ) → r < n → if_below n r ≡ r ∷ []
below_is n r lt = ap (λ b. cond b (r ∷ []) []) (lt-ltb r n lt)

pub below_none : (n r : ℕ) → n ≤ r → if_below n r ≡ []
below_none n r le = ap (λ b. cond b (r ∷ []) []) (le-ltb r n le)

-- the first m tries keep what those of some rows keep
abbrev KeepsAll : (Try → Bool) → (ℕ → Try) → ℕ → List ℕ → Type 0
KeepsAll p f m rows = filter p (map f (range_with_len 0 m)) ≡ filter p (map f rows)

first_more : (p : Try → Bool) (f : ℕ → Try) (m : ℕ)
    → filter p (map f (range_with_len 0 (suc m))) ≡ filter p (map f (range_with_len 0 m)) ++ filter p (f m ∷ [])
first_more p f m =
    ap (λ (z : ℕ). filter p (map f (range_with_len 0 z))) (sym (add-one m)) ∙ ap (λ ts. filter p ts) (map_range_more f m)
    ∙ filter-append p (map f (range_with_len 0 m)) (f m ∷ [])

with_one : (p : Try → Bool) (f : ℕ → Try) (m : ℕ) (rows : List ℕ) → KeepsAll p f m rows → KeepsAll p f (suc m) (rows ++ m ∷ [])
with_one p f m rows kept =
    first_more p f m ∙ ap (λ ts. ts ++ filter p (f m ∷ [])) kept ∙ sym (filter-append p (map f rows) (f m ∷ []))
    ∙ ap (λ ts. filter p ts) (sym (map-append f rows (m ∷ [])))

without : (p : Try → Bool) (f : ℕ → Try) (m : ℕ) (rows : List ℕ) → KeepsAll p f m rows → p (f m) ≡ false → KeepsAll p f (suc m) rows
without p f m rows kept none =
    first_more p f m ∙ ap (λ b. filter p (map f (range_with_len 0 m)) ++ cond b (f m ∷ []) []) none ∙ append-nil (filter p (map f (range_with_len 0 m))) ∙ kept

to_rows : (p : Try → Bool) (f : ℕ → Try) (m : ℕ) (rows others : List ℕ) → rows ≡ others → KeepsAll p f m rows → KeepsAll p f m others
to_rows p f m rows others same kept = subst (λ rs. KeepsAll p f m rs) same kept

-- a row that is not m stands below m + 1 where it stands below m
same_below : (m r : ℕ) → r ≢ m → if_below m r ≡ if_below (suc m) r
same_below m r other = elim (cases_order r m) [
  | inl e ↦ absurd (other e)
  | inr order ↦ elim order [
    | inl lt ↦ below_is m r lt ∙ sym (below_is (suc m) r (omega (arith, lt)))
    | inr gt ↦ below_none m r (omega (arith, gt)) ∙ sym (below_none (suc m) r (omega (arith, gt)))
  ]
]

one_kept : (p : Try → Bool) (f : ℕ → Try) (a m : ℕ) → ((r : ℕ) → r < m → r ≢ a → p (f r) ≡ false) → KeepsAll p f m (if_below m a)
one_kept p f a zero none = to_rows p f 0 [] (if_below 0 a) (sym (below_none 0 a (omega arith))) refl
one_kept p f a (suc m) none =
    let before : KeepsAll p f m (if_below m a) = one_kept p f a m (λ r lt other. none r (omega (arith, lt)) other) in
    elim (cases_order a m) [
      | inl e ↦
          to_rows p f (suc m) ([] ++ m ∷ []) (if_below (suc m) a) (ap (λ (z : ℕ). z ∷ []) (sym e) ∙ sym (below_is (suc m) a (omega (arith, e))))
          (with_one p f m [] (to_rows p f m (if_below m a) [] (below_none m a (omega (arith, e))) before))
      | inr order ↦
          let other : a ≢ m = λ e. apart e order in
          to_rows p f (suc m) (if_below m a) (if_below (suc m) a) (same_below m a other)
          (without p f m (if_below m a) before (none m (omega arith) (λ e. other (sym e))))
    ]
  where
    apart : a ≡ m → (a < m) ⊎ (m < a) → ⊥
    apart e (inl lt) = omega (arith, e, lt)
    apart e (inr gt) = omega (arith, e, gt)

two_kept : (p : Try → Bool) (f : ℕ → Try) (a b m : ℕ) → a < b → ((r : ℕ) → r < m → r ≢ a → r ≢ b → p (f r) ≡ false)
    → KeepsAll p f m (if_below m a ++ if_below m b)
two_kept p f a b zero less none =
    to_rows p f 0 [] (if_below 0 a ++ if_below 0 b)
    (sym (ap (λ rs. rs ++ if_below 0 b) (below_none 0 a (omega arith)) ∙ below_none 0 b (omega arith))) refl
two_kept p f a b (suc m) less none =
    let before : KeepsAll p f m (if_below m a ++ if_below m b) = two_kept p f a b m less (λ r lt not_a not_b. none r (omega (arith, lt)) not_a not_b) in
    elim (cases_order a m) [
      | inl e ↦
          to_rows p f (suc m) ([] ++ m ∷ []) (if_below (suc m) a ++ if_below (suc m) b)
          (ap (λ (z : ℕ). z ∷ []) (sym e)
          ∙ sym (ap (λ rs. if_below (suc m) a ++ rs) (below_none (suc m) b (omega (arith, e, less))) ∙ append-nil (if_below (suc m) a)
          ∙ below_is (suc m) a (omega (arith, e))))
          (with_one p f m [] (to_rows p f m (if_below m a ++ if_below m b) []
          (ap (λ rs. rs ++ if_below m b) (below_none m a (omega (arith, e))) ∙ below_none m b (omega (arith, e, less))) before))
      | inr order ↦ elim (cases_order b m) [
        | inl e ↦
            to_rows p f (suc m) (if_below m a ++ m ∷ []) (if_below (suc m) a ++ if_below (suc m) b)
            (ap (λ rs. rs ++ m ∷ []) (same_below m a (apart a order))
            ∙ ap (λ rs. if_below (suc m) a ++ rs) (ap (λ (z : ℕ). z ∷ []) (sym e) ∙ sym (below_is (suc m) b (omega (arith, e)))))
            (with_one p f m (if_below m a) (to_rows p f m (if_below m a ++ if_below m b) (if_below m a)
            (ap (λ rs. if_below m a ++ rs) (below_none m b (omega (arith, e))) ∙ append-nil (if_below m a)) before))
        | inr second ↦
            to_rows p f (suc m) (if_below m a ++ if_below m b) (if_below (suc m) a ++ if_below (suc m) b)
            (ap (λ rs. rs ++ if_below m b) (same_below m a (apart a order)) ∙ ap (λ rs. if_below (suc m) a ++ rs) (same_below m b (apart b second)))
            (without p f m (if_below m a ++ if_below m b) before
            (none m (omega arith) (λ e. apart a order (sym e)) (λ e. apart b second (sym e))))
      ]
    ]
  where
    apart : (r : ℕ) → (r < m) ⊎ (m < r) → r ≢ m
    apart r (inl lt) e = omega (arith, e, lt)
    apart r (inr gt) e = omega (arith, e, gt)

-- lists of tries of which the same are offered
extends_same : (d : Diagram) (cap : ℕ) (s t : List Try) (a b : List Offer) → filter (is_offered d cap) t ≡ filter (is_offered d cap) s → Extends d cap s a b
    → Extends d cap t a b
extends_same d cap s t a b same one = record {
  more = one.more;
  is = one.is;
  offers = record { order = one.offers.order ∙ sym same; leads = one.offers.leads };
}

module _ (d : Diagram) (cap c : ℕ) (grid : IsGrid d) (lt : c < size d) where
  pub one_row : (a : ℕ) (old new : List Offer) → a ≡ row_of_both d c → a ≡ row_of_both d (next (size d) c)
      → Extends d cap (map (try_destabilisation (size d) c) (if_below (size d) a)) old new → Extends d cap (block_tries (size d) c) old new
  one_row a old new near far one =
      extends_same d cap (map (try_destabilisation (size d) c) (if_below (size d) a)) (block_tries (size d) c) old new
      (one_kept (is_offered d cap) (try_destabilisation (size d) c) a (size d)
      (λ r hr other. no_other_block d cap c r grid lt hr (λ e. other (e ∙ sym near)) (λ e. other (e ∙ sym far)))) one

  pub two_rows : (a b : ℕ) (old new : List Offer) → a < b
      → ((r : ℕ) → r ≢ a → r ≢ b → (r ≢ row_of_both d c) × (r ≢ row_of_both d (next (size d) c)))
      → Extends d cap (map (try_destabilisation (size d) c) (if_below (size d) a ++ if_below (size d) b)) old new
      → Extends d cap (block_tries (size d) c) old new
  two_rows a b old new less others both =
      extends_same d cap (map (try_destabilisation (size d) c) (if_below (size d) a ++ if_below (size d) b)) (block_tries (size d) c) old new
      (two_kept (is_offered d cap) (try_destabilisation (size d) c) a b (size d) less
      (λ r hr not_a not_b.
      let neither = others r not_a not_b in
      no_other_block d cap c r grid lt hr neither.0 neither.1)) both

  pub no_rows : (old : List Offer) → ((r : ℕ) → r < size d → is_offered d cap (try_destabilisation (size d) c r) ≡ false)
      → Extends d cap (block_tries (size d) c) old old
  no_rows old none =
      extends_same d cap [] (block_tries (size d) c) old old
      (one_kept (is_offered d cap) (try_destabilisation (size d) c) (size d) (size d) (λ r hr other. none r hr)
      ∙ ap (λ rs. filter (is_offered d cap) (map (try_destabilisation (size d) c) rs)) (below_none (size d) (size d) (omega arith)))
      (extends_none d cap old old refl)
