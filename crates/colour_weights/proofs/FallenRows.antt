-- A shift of the rows by one keeps the weight. All between the ends of the lowest row is carried along by the action of that row's colour,
-- so the term of each crossing there changes by the cocycle law: by what both strands gain under that row, on either side of each other.
-- So what a row's sum changes by is what the columns gain there at the height above the row, less what they gain at the height below it.
use Rattle.std.proofs.Common.{◌≡◌, ◌≢◌, ◌∙◌, ◌<◌, ◌+◌, ℕ, suc, List, [], ◌∷◌, map, ap, ap₂, sym, refl, arith, inl, inr, cond, subst}
use Rattle.std.specs.Prelude.{Bool, true, false, nat_lt, ◌==◌}
use Rattle.std.proofs.Math.Bool.{not}
use Rattle.std.proofs.lemmas.Bool.{eq-eqb, eqb-true, false≢true, cases_Bool, cases_order, lt-ltb, le-ltb}
use Rattle.colour_laws.proofs.ColumnLists.{Acts, Column, ends, xs_in, os_in, crossed, crosses, rises, dropped, lowered_on, relabel, recolour}
use Rattle.colour_laws.proofs.Actions.{carried}
use Rattle.colour_laws.proofs.Rows.{cross, ring, apart, side, ends_apart, on_at}
use Rattle.colour_laws.proofs.Level.{xs_here, xs_not_here, os_here, os_not_here}
use Rattle.colour_laws.proofs.DroppedColumns.{dropped_zero, dropped_other, lt_dropped, lt_dropped_zero, ends_dropped, crosses_left}
use Rattle.colour_laws.proofs.Relabel.{lt_tests}
use Rattle.colour_laws.proofs.ShiftRows.{left_end}
use Rattle.cocycle_core.proofs.Mod.{Same}
use Rattle.colour_weights.proofs.ModSums.{plain, turn, by_one}
use Rattle.colour_weights.proofs.RowSums.{Weighs, gained, gains, beside, sum_on, sum_row}
use Rattle.colour_weights.proofs.RowSteps.{right_height, left_height}
use Rattle.colour_weights.proofs.Over.{over_on, over_all}

-- a row s + 1 that falls to row s, of a grid of n rows
module _ (k : ℕ) (p : Bool → ℕ → ℕ → ℕ) (G : Bool → ℕ → ℕ → ℕ → ℕ) (acts : Acts p) (w : Weighs k p G) (n s : ℕ) (lt : suc s < n) where
  -- a column, and the columns behind the left end of the lowest row, after the shift
  abbrev fallen : Column → Column
  fallen = relabel (dropped n)

  abbrev fallen_on : Bool → ℕ → List Column → List Column
  fallen_on = lowered_on p n

  -- what becomes of a colour under a column before the shift, what it gains there, and what the row's walk gains: before and after
  abbrev way_was : Column → ℕ → ℕ
  way_was = crosses p (suc s)

  abbrev gain_was : Column → ℕ → ℕ → ℕ
  gain_was = gains G (suc s)

  abbrev gain_now : Column → ℕ → ℕ → ℕ
  gain_now = gains G s

  abbrev sum_was : ℕ → ℕ → List Column → ℕ
  sum_was = sum_on p G (suc s) (suc s)

  abbrev sum_now : ℕ → ℕ → List Column → ℕ
  sum_now = sum_on p G s s

  abbrev row_was : ℕ → List Column → ℕ
  row_was = sum_row p G (suc s) (suc s)

  abbrev row_now : ℕ → List Column → ℕ
  row_now = sum_row p G s s

  -- what the columns between the ends gain, where the row's walk runs to a mark of kind e: what comes in, and what goes out
  abbrev come : Bool → ℕ → Bool → (u v : ℕ) → List Column → ℕ
  come d a e u v cs = over_on p G true d a (left_height e (suc s)) v cs + over_on p G false d a (right_height e (suc s)) u cs

  abbrev gone : Bool → ℕ → Bool → (u v : ℕ) → List Column → ℕ
  gone d a e u v cs = over_on p G true d a (right_height e (suc s)) u cs + over_on p G false d a (left_height e (suc s)) v cs

  abbrev all_come : Bool → (u v : ℕ) → List Column → ℕ
  all_come e u v cs = over_all p G true (left_height e (suc s)) v cs + over_all p G false (right_height e (suc s)) u cs

  abbrev all_gone : Bool → (u v : ℕ) → List Column → ℕ
  all_gone e u v cs = over_all p G true (right_height e (suc s)) u cs + over_all p G false (left_height e (suc s)) v cs

  -- a column with its X in the lowest row: it gains what it did, and then what the down action of its colour gains
  pub flip_cross : (m : Bool) (y v u : ℕ) → Same k (gained G false m y v u) (gained G true m y v u + G false y (crossed p true m y v) (crossed p true m y u))
  flip_cross true y v u = plain (omega arith)
  flip_cross false y v u = turn (w.up_down y v u)

  pub flip_ring : (l : Bool) (y v u : ℕ) → Same k (gained G l false y v u) (gained G l true y v u + G true y (crossed p l true y v) (crossed p l true y u))
  flip_ring true y v u = plain (omega arith)
  flip_ring false y v u = turn (w.down_up y v u)

  pub flipped_cross : (c : Column) (v u : ℕ) → c.x ≡ 0 → c.o ≢ 0
      → Same k (gain_now (fallen c) v u) (gain_was c v u + G false c.y (way_was c v) (way_was c u))
  flipped_cross c v u e m =
      let tests = lt_dropped_zero n s c.x lt e in
      let new : gain_now (fallen c) v u ≡ gained G false (nat_lt c.o (suc s)) c.y v u = ap₂ (λ l z. gained G l z c.y v u) tests.0 (lt_dropped n s c.o m) in
      let old : gain_was c v u ≡ gained G true (nat_lt c.o (suc s)) c.y v u = ap (λ l. gained G l (nat_lt c.o (suc s)) c.y v u) tests.1 in
      let way : G false c.y (way_was c v) (way_was c u) ≡ G false c.y (crossed p true (nat_lt c.o (suc s)) c.y v) (crossed p true (nat_lt c.o (suc s)) c.y u) =
      ap (λ l. G false c.y (crossed p l (nat_lt c.o (suc s)) c.y v) (crossed p l (nat_lt c.o (suc s)) c.y u)) tests.1 in
      by_one (flip_cross (nat_lt c.o (suc s)) c.y v u) (omega (arith, new, old, way))

  pub flipped_ring : (c : Column) (v u : ℕ) → c.o ≡ 0 → c.x ≢ 0
      → Same k (gain_now (fallen c) v u) (gain_was c v u + G true c.y (way_was c v) (way_was c u))
  flipped_ring c v u e m =
      let tests = lt_dropped_zero n s c.o lt e in
      let new : gain_now (fallen c) v u ≡ gained G (nat_lt c.x (suc s)) false c.y v u = ap₂ (λ l z. gained G l z c.y v u) (lt_dropped n s c.x m) tests.0 in
      let old : gain_was c v u ≡ gained G (nat_lt c.x (suc s)) true c.y v u = ap (λ z. gained G (nat_lt c.x (suc s)) z c.y v u) tests.1 in
      let way : G true c.y (way_was c v) (way_was c u) ≡ G true c.y (crossed p (nat_lt c.x (suc s)) true c.y v) (crossed p (nat_lt c.x (suc s)) true c.y u) =
      ap (λ z. G true c.y (crossed p (nat_lt c.x (suc s)) z c.y v) (crossed p (nat_lt c.x (suc s)) z c.y u)) tests.1 in
      by_one (flip_ring (nat_lt c.x (suc s)) c.y v u) (omega (arith, new, old, way))

  -- the way of a column: its marks stay in order where neither is in the lowest row, and else it turns
  pub rises_kept : (c : Column) → c.x ≢ 0 → c.o ≢ 0 → rises (fallen c) ≡ rises c
  rises_kept c u m =
      let x = dropped_other n c.x u in
      let o = dropped_other n c.o m in
      let low_x : 0 < c.x = some c.x u in
      let low_o : 0 < c.o = some c.o m in
      lt_tests c.x c.o (dropped n c.x) (dropped n c.o) (λ l. omega (arith, x, o, low_x, low_o, l)) (λ l. omega (arith, x, o, low_x, low_o, l))
    where
      some : (a : ℕ) → a ≢ 0 → 0 < a
      some a n = elim (cases_order a 0) [
        | inl e ↦ absurd (n e)
        | inr (inl l) ↦ absurd (omega arith)
        | inr (inr l) ↦ l
      ]

  pub beside_kept : (d : Bool) (a : ℕ) (c : Column) (u : ℕ) → c.x ≢ 0 → c.o ≢ 0 → beside p (recolour (fallen c) (p d a c.y)) (p d a u) ≡ p d a (beside p c u)
  beside_kept d a c u n m = ap (λ b. cond b (p true (p d a c.y) (p d a u)) (p d a u)) (rises_kept c n m) ∙ by_way (rises c)
    where
      by_way : (b : Bool) → cond b (p true (p d a c.y) (p d a u)) (p d a u) ≡ p d a (cond b (p true c.y u) u)
      by_way true = sym (carried p acts d true a c.y u)
      by_way false = refl

  -- a column with one mark in the lowest row and one in row s + 1: of kind e in the lowest row
  pub turns : (c : Column) → ends (suc s) c ≡ true → c.x ≡ 0 → (rises c ≡ true) × (rises (fallen c) ≡ false)
  turns c end e =
      let o : c.o ≡ suc s = elim (cases_Bool (c.o == suc s)) [
        | inl g ↦ eqb-true c.o (suc s) g
        | inr g ↦ absurd (false≢true (sym (ends_apart (suc s) c (λ h. absurd (omega (arith, h, e))) (λ h. false≢true (sym g ∙ eq-eqb c.o (suc s) h))) ∙ end))
      ] in
      let x' = dropped_zero n c.x e in
      let o' = dropped_other n c.o (λ h. absurd (omega (arith, h, o))) in
      (lt-ltb c.x c.o (omega (arith, e, o)), le-ltb (dropped n c.x) (dropped n c.o) (omega (arith, x', o', o, lt)))

  pub turns_ring : (c : Column) → ends (suc s) c ≡ true → c.o ≡ 0 → (rises c ≡ false) × (rises (fallen c) ≡ true)
  turns_ring c end e =
      let x : c.x ≡ suc s = elim (cases_Bool (c.x == suc s)) [
        | inl g ↦ eqb-true c.x (suc s) g
        | inr g ↦ absurd (false≢true (sym (ends_apart (suc s) c (λ h. false≢true (sym g ∙ eq-eqb c.x (suc s) h)) (λ h. absurd (omega (arith, h, e)))) ∙ end))
      ] in
      let o' = dropped_zero n c.o e in
      let x' = dropped_other n c.x (λ h. absurd (omega (arith, h, x))) in
      (le-ltb c.x c.o (omega (arith, e)), lt-ltb (dropped n c.x) (dropped n c.o) (omega (arith, x', o', x, lt)))

  -- the left end of the lowest row, where row s + 1 begins at it too
  pub left_beside : (c : Column) → ends 0 c ≡ true → ends (suc s) c ≡ true → (u : ℕ) → beside p (fallen c) u ≡ p (not (rises c)) c.y (beside p c u)
  left_beside c first end u = elim (side 0 c) [
    | cross f ↦ let way = turns c end f in rw (way.0, way.1) (sym (acts.up_down c.y u))
    | ring m f ↦ let way = turns_ring c end f in rw (way.0, way.1) refl
    | apart m o ↦ absurd (false≢true (sym (ends_apart 0 c m o) ∙ first))
  ]

  -- its right end
  pub right_beside : (d : Bool) (c : Column) (cs : List Column) → ends 0 c ≡ true → ends (suc s) c ≡ true
      → xs_in 0 (c ∷ cs) ≡ crosses_left d → os_in 0 (c ∷ cs) ≡ crosses_left (not d) → (u : ℕ) → beside p (fallen c) (p d c.y u) ≡ beside p c u
  right_beside true c cs first end ex eo u = elim (side 0 c) [
    | cross f ↦ let way = turns c end f in rw (way.0, way.1) refl
    | ring m f ↦ absurd (omega (arith, os_here 0 c cs f, eo))
    | apart m o ↦ absurd (false≢true (sym (ends_apart 0 c m o) ∙ first))
  ]
  right_beside false c cs first end ex eo u = elim (side 0 c) [
    | cross f ↦ absurd (omega (arith, xs_here 0 c cs f, ex))
    | ring m f ↦ let way = turns_ring c end f in rw (way.0, way.1) (acts.down_up c.y u)
    | apart m o ↦ absurd (false≢true (sym (ends_apart 0 c m o) ∙ first))
  ]

  -- the right end of the lowest row, behind an action in direction d: it gains what it did, and then what the action in the other direction gains
  pub right_gain : (d : Bool) (c : Column) (cs : List Column) → ends 0 c ≡ true
      → xs_in 0 (c ∷ cs) ≡ crosses_left d → os_in 0 (c ∷ cs) ≡ crosses_left (not d) → (v u : ℕ)
      → Same k (gain_now (fallen c) v u) (gain_was c v u + G (not d) c.y (way_was c v) (way_was c u))
  right_gain true c cs e ex eo v u = elim (side 0 c) [
    | cross f ↦ flipped_cross c v u f (λ g. omega (arith, os_here 0 c cs g, eo))
    | ring m f ↦ absurd (omega (arith, os_here 0 c cs f, eo))
    | apart m o ↦ absurd (false≢true (sym (ends_apart 0 c m o) ∙ e))
  ]
  right_gain false c cs e ex eo v u = elim (side 0 c) [
    | cross f ↦ absurd (omega (arith, xs_here 0 c cs f, ex))
    | ring m f ↦ flipped_ring c v u f m
    | apart m o ↦ absurd (false≢true (sym (ends_apart 0 c m o) ∙ e))
  ]

  -- its left end
  pub left_gain : (c : Column) (cs : List Column) → ends 0 c ≡ true → on_at p 0 0 c.y cs ≡ true
      → xs_in 0 (c ∷ cs) ≡ 1 → os_in 0 (c ∷ cs) ≡ 1 → (v u : ℕ)
      → Same k (gain_now (fallen c) v u) (gain_was c v u + G (not (rises c)) c.y (way_was c v) (way_was c u))
  left_gain c cs e on ex eo v u = elim (side 0 c) [
    | cross f ↦
        let known = left_end p acts n s lt c cs e on ex eo in
        let m : c.o ≢ 0 = λ g. both_here f g known.crosses known.rings in
        let up : rises c ≡ true = elim (cases_order c.o 0) [
          | inl g ↦ absurd (m g)
          | inr (inl l) ↦ absurd (omega arith)
          | inr (inr l) ↦ lt-ltb c.x c.o (omega arith)
        ] in
        subst (λ (b : Bool). Same k (gain_now (fallen c) v u) (gain_was c v u + G (not b) c.y (way_was c v) (way_was c u))) (sym up) (flipped_cross c v u f m)
    | ring m f ↦
        let down : rises c ≡ false = le-ltb c.x c.o (omega arith) in
        subst (λ (b : Bool). Same k (gain_now (fallen c) v u) (gain_was c v u + G (not b) c.y (way_was c v) (way_was c u))) (sym down) (flipped_ring c v u f m)
    | apart m o ↦ absurd (false≢true (sym (ends_apart 0 c m o) ∙ e))
  ]
    where
      one_left : (d : Bool) → crosses_left d + crosses_left (not d) ≡ 1
      one_left true = refl
      one_left false = refl

      both_here : c.x ≡ 0 → c.o ≡ 0 → xs_in 0 cs ≡ crosses_left (not (rises c)) → os_in 0 cs ≡ crosses_left (not (not (rises c))) → ⊥
      both_here f g a b = omega (arith, xs_here 0 c cs f, os_here 0 c cs g, ex, eo, a, b, one_left (not (rises c)))

  -- columns without a mark in the lowest row
  pub sum_on_dropped : (a u : ℕ) (cs : List Column) → xs_in 0 cs ≡ 0 → os_in 0 cs ≡ 0 → sum_now a u (map fallen cs) ≡ sum_was a u cs
  sum_on_dropped a u [] ex eo = refl
  sum_on_dropped a u (c ∷ cs) ex eo = elim (side 0 c) [
    | cross e ↦ absurd (omega (arith, xs_here 0 c cs e))
    | ring m e ↦ absurd (omega (arith, os_here 0 c cs e))
    | apart m o ↦
        let rest = sum_on_dropped (way_was c a) (way_was c u) cs (sym (xs_not_here 0 c cs m) ∙ ex) (sym (os_not_here 0 c cs o) ∙ eo) in
        let gain : gain_now (fallen c) a u ≡ gain_was c a u = ap₂ (λ l m. gained G l m c.y a u) (lt_dropped n s c.x m) (lt_dropped n s c.o o) in
        let way : (b : ℕ) → crosses p s (fallen c) b ≡ way_was c b = λ b. ap₂ (λ l m. crossed p l m c.y b) (lt_dropped n s c.x m) (lt_dropped n s c.o o) in
        ap₂ (λ t b. cond t 0 b) (ends_dropped n s lt c)
        (ap₂ (λ g b. g + b) gain (ap₂ (λ b v. sum_now b v (map fallen cs)) (way a) (way u) ∙ rest))
  ]

  pub sum_row_dropped : (u : ℕ) (cs : List Column) → xs_in 0 cs ≡ 0 → os_in 0 cs ≡ 0 → row_now u (map fallen cs) ≡ row_was u cs
  sum_row_dropped u [] ex eo = refl
  sum_row_dropped u (c ∷ cs) ex eo = elim (side 0 c) [
    | cross e ↦ absurd (omega (arith, xs_here 0 c cs e))
    | ring m e ↦ absurd (omega (arith, os_here 0 c cs e))
    | apart m o ↦
        let ex' : xs_in 0 cs ≡ 0 = sym (xs_not_here 0 c cs m) ∙ ex in
        let eo' : os_in 0 cs ≡ 0 = sym (os_not_here 0 c cs o) ∙ eo in
        let start : beside p (fallen c) u ≡ beside p c u = ap (λ b. cond b (p true c.y u) u) (rises_kept c m o) in
        let way : crosses p s (fallen c) u ≡ way_was c u = ap₂ (λ l m. crossed p l m c.y u) (lt_dropped n s c.x m) (lt_dropped n s c.o o) in
        ap₂ (λ t b. cond t b (row_now (crosses p s (fallen c) u) (map fallen cs))) (ends_dropped n s lt c)
        (ap (λ b. sum_now c.y b (map fallen cs)) start ∙ sum_on_dropped c.y (beside p c u) cs ex' eo')
        ∙ ap (λ b. cond (ends (suc s) c) (sum_was c.y (beside p c u) cs) b)
        (ap (λ b. row_now b (map fallen cs)) way ∙ sum_row_dropped (way_was c u) cs ex' eo')
  ]
