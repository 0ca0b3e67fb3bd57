-- A shift of the rows by one: a row that ends, or begins, between the ends of the lowest row.
use Rattle.std.proofs.Common.{◌≡◌, ◌≢◌, ◌∙◌, ◌<◌, ◌+◌, ℕ, suc, List, [], ◌∷◌, map, ap, ap₂, sym, arith, inl, inr, subst}
use Rattle.std.specs.Prelude.{Bool, true, false, nat_lt}
use Rattle.std.proofs.Math.Bool.{not}
use Rattle.std.proofs.lemmas.Bool.{eqb-true, false≢true, cases_Bool}
use Rattle.colour_laws.proofs.ColumnLists.{Acts, Column, ends, xs_in, os_in, crossed, crosses, dropped, lowered_on, relabel, recolour}
use Rattle.colour_laws.proofs.Actions.{crossed_carried, crossed_carries, crossed_fixed, undo}
use Rattle.colour_laws.proofs.Rows.{on_at, row_at, row_end, row_apart, on_end, on_apart}
use Rattle.colour_laws.proofs.Level.{xs_not_here, os_not_here}
use Rattle.colour_laws.proofs.DroppedColumns.{lt_dropped, ends_dropped, crosses_dropped, flipped_right, crosses_lowest, crosses_left}
use Rattle.colour_laws.proofs.LoweredMarks.{lowered_on_end, lowered_on_apart}
use Rattle.cocycle_core.proofs.Mod.{Same}
use Rattle.colour_weights.proofs.Ways.{rightward, rightward_end, rightward_apart}
use Rattle.colour_weights.proofs.Marks.{mark, marks, marks_here, marks_later, other_mark, IsLeftOf, left_of, left_kind, no_end}
use Rattle.colour_weights.proofs.ModSums.{plain, turn, by_one, by_two, by_five}
use Rattle.colour_weights.proofs.RowSums.{Weighs, before, after, gained, gains, beside, sum_on, sum_row}
use Rattle.colour_weights.proofs.Gains.{there_back, gained_carried, gained_carries, gained_own}
use Rattle.colour_weights.proofs.RowSteps.{sum_on_end, sum_on_apart, sum_row_end, sum_row_apart, right_height, left_height, left_right, left_left, right_meet}
use Rattle.colour_weights.proofs.Over.{over_term, over_on, over_all, over_on_end, over_on_apart, over_on_sides, over_right, over_left, over_right_end}
use Rattle.colour_weights.proofs.Over.{over_left_end, span_parts, no_more}
use Rattle.colour_weights.proofs.FallenRows.{beside_kept, right_beside, right_gain, sum_on_dropped, sum_row_dropped}

-- a row s + 1 that falls to row s, of a grid of n rows
module _ (k : ℕ) (p : Bool → ℕ → ℕ → ℕ) (G : Bool → ℕ → ℕ → ℕ → ℕ) (acts : Acts p) (w : Weighs k p G) (n s : ℕ) (lt : suc s < n) where
  -- a column, and the columns behind the left end of the lowest row, after the shift
  abbrev fallen : Column → Column
  fallen = relabel (dropped n)

  abbrev fallen_on : Bool → ℕ → List Column → List Column
  fallen_on = lowered_on p n

  -- what becomes of a colour under a column before the shift, what it gains there, and what the row's walk gains: before and after
  abbrev way_was : Column → ℕ → ℕ
  way_was = crosses p (suc s)

  abbrev gain_was : Column → ℕ → ℕ → ℕ
  gain_was = gains G (suc s)

  abbrev gain_now : Column → ℕ → ℕ → ℕ
  gain_now = gains G s

  abbrev sum_was : ℕ → ℕ → List Column → ℕ
  sum_was = sum_on p G (suc s) (suc s)

  abbrev sum_now : ℕ → ℕ → List Column → ℕ
  sum_now = sum_on p G s s

  abbrev row_was : ℕ → List Column → ℕ
  row_was = sum_row p G (suc s) (suc s)

  abbrev row_now : ℕ → List Column → ℕ
  row_now = sum_row p G s s

  -- what the columns between the ends gain, where the row's walk runs to a mark of kind e: what comes in, and what goes out
  abbrev come : Bool → ℕ → Bool → (u v : ℕ) → List Column → ℕ
  come d a e u v cs = over_on p G true d a (left_height e (suc s)) v cs + over_on p G false d a (right_height e (suc s)) u cs

  abbrev gone : Bool → ℕ → Bool → (u v : ℕ) → List Column → ℕ
  gone d a e u v cs = over_on p G true d a (right_height e (suc s)) u cs + over_on p G false d a (left_height e (suc s)) v cs

  abbrev all_come : Bool → (u v : ℕ) → List Column → ℕ
  all_come e u v cs = over_all p G true (left_height e (suc s)) v cs + over_all p G false (right_height e (suc s)) u cs

  abbrev all_gone : Bool → (u v : ℕ) → List Column → ℕ
  all_gone e u v cs = over_all p G true (right_height e (suc s)) u cs + over_all p G false (left_height e (suc s)) v cs

  -- between the ends of the lowest row, on the way at the old colour v and region u to a mark of kind e
  pub mid_sum_on : (d : Bool) (a : ℕ) (cs : List Column) → on_at p 0 0 a cs ≡ true
      → xs_in 0 cs ≡ crosses_left d → os_in 0 cs ≡ crosses_left (not d)
      → (v u : ℕ) → on_at p (suc s) (suc s) v cs ≡ true → (e : Bool) → marks e (suc s) cs ≡ 1 → marks (not e) (suc s) cs ≡ 0
      → Same k (sum_now (p d a v) (p d a u) (fallen_on d a cs) + G d a v u + come d a e u (p false v u) cs) (sum_was v u cs + gone d a e u (p false v u) cs)
  mid_sum_on d a [] low ex eo v u on e one none = absurd (false≢true on)
  mid_sum_on d a (c ∷ cs) low ex eo v u on e one none = elim (cases_Bool (ends 0 c)) [
    | inl last ↦
        let is = lowered_on_end p n d a c cs last in
        let same : a ≡ c.y = eqb-true a c.y (sym (on_end p 0 0 a c cs last) ∙ low) in
        let nothing : (f : Bool) (h b : ℕ) → over_on p G f d a h b (c ∷ cs) ≡ 0 = λ f h b. over_on_end p G f d a h b c cs last in
        let all_nothing : come d a e u (p false v u) (c ∷ cs) ≡ gone d a e u (p false v u) (c ∷ cs) =
        omega (
          arith,
          nothing true (left_height e (suc s)) (p false v u),
          nothing false (right_height e (suc s)) u,
          nothing true (right_height e (suc s)) u,
          nothing false (left_height e (suc s)) (p false v u),
        ) in
        elim (cases_Bool (ends (suc s) c)) [
          | inl end ↦
              let at : v ≡ c.y = eqb-true v c.y (sym (on_end p (suc s) (suc s) v c cs end) ∙ on) in
              let new : sum_now (p d a v) (p d a u) (fallen_on d a (c ∷ cs)) ≡ 0 =
              ap (sum_now (p d a v) (p d a u)) is ∙ sum_on_end p G s s (p d a v) (p d a u) (fallen c) (map fallen cs) (ends_dropped n s lt c ∙ end) in
              let own : Same k (G d a v u) 0 = subst (λ (b : ℕ). Same k (G d a b u) 0) (same ∙ sym at) (w.own d a u) in
              by_one own (omega (arith, new, all_nothing, sum_on_end p G (suc s) (suc s) v u c cs end))
          | inr end ↦
              let l : Bool = nat_lt c.x (suc s) in
              let m : Bool = nat_lt c.o (suc s) in
              let over : (b : ℕ) → way_was c (p d c.y b) ≡ p d c.y (way_was c b) = λ b.
              crossed_carries p acts d (nat_lt c.x (suc s)) (nat_lt c.o (suc s)) c.y c.y b
              ∙ ap (λ z. p d z (way_was c b)) (crossed_fixed p acts (nat_lt c.x (suc s)) (nat_lt c.o (suc s)) c.y) in
              let back : (b : ℕ) → crosses p s (fallen c) (p d a b) ≡ way_was c b = λ b.
              (flipped_right p acts n s lt d c cs last ex eo (p d a b)).0 ∙ ap (λ z. p (not d) c.y (way_was c (p d z b))) same
              ∙ ap (p (not d) c.y) (over b) ∙ undo p acts d c.y (way_was c b) in
              let parts = flipped_right p acts n s lt d c cs last ex eo (p d a v) in
              let new : sum_now (p d a v) (p d a u) (fallen_on d a (c ∷ cs)) ≡ gain_now (fallen c) (p d a v) (p d a u)
              + sum_was (way_was c v) (way_was c u) cs =
              ap (sum_now (p d a v) (p d a u)) is
              ∙ sum_on_apart p G s s (p d a v) (p d a u) (fallen c) (map fallen cs) (ends_dropped n s lt c ∙ end)
              ∙ ap₂ (λ b z. gain_now (fallen c) (p d a v) (p d a u) + sum_now b z (map fallen cs)) (back v) (back u)
              ∙ ap (λ b. gain_now (fallen c) (p d a v) (p d a u) + b) (sum_on_dropped k p G acts w n s lt (way_was c v) (way_was c u) cs parts.1 parts.2) in
              -- what the right end gains now, and gained
              let flipped = right_gain k p G acts w n s lt d c cs last ex eo (p d c.y v) (p d c.y u) in
              let turned : G (not d) c.y (way_was c (p d c.y v)) (way_was c (p d c.y u)) ≡ G (not d) c.y (p d c.y (way_was c v)) (p d c.y (way_was c u)) =
              ap₂ (λ b z. G (not d) c.y b z) (over v) (over u) in
              let carried = gained_carries k p G acts w d (nat_lt c.x (suc s)) (nat_lt c.o (suc s)) c.y c.y v u in
              let fixed : G d (crossed p (nat_lt c.x (suc s)) (nat_lt c.o (suc s)) c.y c.y) (way_was c v) (way_was c u) ≡ G d c.y (way_was c v) (way_was c u) =
              ap (λ b. G d b (way_was c v) (way_was c u)) (crossed_fixed p acts (nat_lt c.x (suc s)) (nat_lt c.o (suc s)) c.y) in
              let own = λ (b : ℕ). gained_own k p G acts w (nat_lt c.x (suc s)) (nat_lt c.o (suc s)) c.y b in
              let cancelled = there_back k p G acts w d c.y (way_was c v) (way_was c u) in
              let gain : Same k (gain_now (fallen c) (p d c.y v) (p d c.y u) + G d c.y v u) (gain_was c v u) =
              by_five flipped carried cancelled (turn (own (before p d c.y v u))) (own (after p d c.y v u)) (omega (arith, turned, fixed)) in
              let gain' : Same k (gain_now (fallen c) (p d a v) (p d a u) + G d a v u) (gain_was c v u) =
              subst (λ (b : ℕ). Same k (gain_now (fallen c) (p d b v) (p d b u) + G d b v u) (gain_was c v u)) (sym same) gain in
              by_one gain' (omega (arith, new, all_nothing, sum_on_apart p G (suc s) (suc s) v u c cs end))
        ]
    | inr mid ↦
        let x : c.x ≢ 0 = no_end true 0 c mid in
        let o : c.o ≢ 0 = no_end false 0 c mid in
        let is = lowered_on_apart p n d a c cs mid in
        let low' : on_at p 0 0 a cs ≡ true = sym (on_apart p 0 0 a c cs mid ∙ ap (λ b. on_at p 0 0 b cs) (crosses_lowest p c a)) ∙ low in
        elim (cases_Bool (ends (suc s) c)) [
          | inl end ↦
              let r : ℕ = suc s in
              let at : v ≡ c.y = eqb-true v c.y (sym (on_end p (suc s) (suc s) v c cs end) ∙ on) in
              let new : sum_now (p d a v) (p d a u) (fallen_on d a (c ∷ cs)) ≡ 0 =
              ap (sum_now (p d a v) (p d a u)) is
              ∙ sum_on_end p G s s (p d a v) (p d a u) (recolour (fallen c) (p d a c.y)) (fallen_on d a cs) (ends_dropped n s lt c ∙ end) in
              let not_other : mark (not e) c ≢ suc s = λ h. absurd (omega (arith, marks_here (not e) (suc s) c cs h, none)) in
              let kind : mark e c ≡ suc s = other_mark e (suc s) c end not_other in
              let more = no_more e (suc s) cs (omega (arith, marks_here e (suc s) c cs kind, one)) (sym (marks_later (not e) (suc s) c cs not_other) ∙ none) in
              let meet : crosses p (left_height e (suc s)) c (p false v u) ≡ crosses p (right_height e (suc s)) c u =
              ap (λ b. crosses p (left_height e (suc s)) c (p false b u)) at ∙ sym (right_meet p acts e (suc s) c kind not_other u) in
              let rest : (f : Bool) → over_on p G f d a (left_height e (suc s)) (crosses p (left_height e (suc s)) c (p false v u)) cs
              ≡ over_on p G f d a (right_height e (suc s)) (crosses p (right_height e (suc s)) c u) cs = λ f.
              ap (λ b. over_on p G f d a (left_height e (suc s)) b cs) meet
              ∙ over_on_sides p G f d a e (suc s) (crosses p (right_height e (suc s)) c u) cs more.0 more.1 in
              let term = over_right_end p G acts d a e (suc s) u c kind not_other in
              let here : (f : Bool) → over_term p G f d a (nat_lt c.x (left_height e (suc s))) (nat_lt c.o (left_height e (suc s))) c.y (p false v u)
              ≡ over_term p G f d a (nat_lt c.x (left_height e (suc s))) (nat_lt c.o (left_height e (suc s))) c.y (p false c.y u) = λ f.
              ap (λ b. over_term p G f d a (nat_lt c.x (left_height e (suc s))) (nat_lt c.o (left_height e (suc s))) c.y (p false b u)) at in
              let value : G d a v u ≡ G d a c.y u = ap (λ b. G d a b u) at in
              plain (omega (
                arith,
                new,
                sum_on_end p G (suc s) (suc s) v u c cs end,
                over_on_apart p G true d a (left_height e (suc s)) (p false v u) c cs mid,
                over_on_apart p G false d a (right_height e (suc s)) u c cs mid,
                over_on_apart p G true d a (right_height e (suc s)) u c cs mid,
                over_on_apart p G false d a (left_height e (suc s)) (p false v u) c cs mid,
                rest true,
                rest false,
                here true,
                here false,
                term,
                value,
              ))
          | inr end ↦
              let not_x : c.x ≢ suc s = no_end true (suc s) c end in
              let not_o : c.o ≢ suc s = no_end false (suc s) c end in
              let l : Bool = nat_lt c.x (suc s) in
              let on' = sym (on_apart p (suc s) (suc s) v c cs end) ∙ on in
              let rest = mid_sum_on d a cs low' (sym (xs_not_here 0 c cs x) ∙ ex) (sym (os_not_here 0 c cs o) ∙ eo) (way_was c v) (way_was c u) on' e
              (sym (marks_later e (suc s) c cs (no_end e (suc s) c end)) ∙ one) (sym (marks_later (not e) (suc s) c cs (no_end (not e) (suc s) c end))
              ∙ none) in
              let way : (b : ℕ) → crosses p s (recolour (fallen c) (p d a c.y)) (p d a b) ≡ p d a (way_was c b) = λ b.
              crosses_dropped p n s c (p d a c.y) (p d a b) x o ∙ sym (crossed_carried p acts d (nat_lt c.x (suc s)) (nat_lt c.o (suc s)) a c.y b) in
              let gain : gain_now (recolour (fallen c) (p d a c.y)) (p d a v) (p d a u)
              ≡ gained G (nat_lt c.x (suc s)) (nat_lt c.o (suc s)) (p d a c.y) (p d a v)
              (p d a u) =
              ap₂ (λ l m. gained G l m (p d a c.y) (p d a v) (p d a u)) (lt_dropped n s c.x x) (lt_dropped n s c.o o) in
              let new : sum_now (p d a v) (p d a u) (fallen_on d a (c ∷ cs))
              ≡ gained G (nat_lt c.x (suc s)) (nat_lt c.o (suc s)) (p d a c.y) (p d a v) (p d a u)
              + sum_now (p d a (way_was c v)) (p d a (way_was c u)) (fallen_on d a cs) =
              ap (sum_now (p d a v) (p d a u)) is
              ∙ sum_on_apart p G s s (p d a v) (p d a u) (recolour (fallen c) (p d a c.y)) (fallen_on d a cs) (ends_dropped n s lt c ∙ end)
              ∙ ap₂ (λ g b. g + b) gain (ap₂ (λ b z. sum_now b z (fallen_on d a cs)) (way v) (way u)) in
              let goes : way_was c (p false v u) ≡ p false (way_was c v) (way_was c u) =
              crossed_carries p acts false (nat_lt c.x (suc s)) (nat_lt c.o (suc s)) c.y v u in
              let left : (f : Bool) → over_on p G f d a (left_height e (suc s)) (p false v u) (c ∷ cs) ≡ over_term p G f d a (nat_lt c.x (suc s))
              (nat_lt c.o (suc s)) c.y (p false v u) + over_on p G f d a (left_height e (suc s)) (p false (way_was c v) (way_was c u)) cs = λ f.
              over_left p G f d a e (suc s) (p false v u) c cs mid not_x not_o
              ∙ ap (λ b. over_term p G f d a (nat_lt c.x (suc s)) (nat_lt c.o (suc s)) c.y (p false v u)
              + over_on p G f d a (left_height e (suc s)) b cs) goes in
              by_two (turn (gained_carried k p G acts w d (nat_lt c.x (suc s)) (nat_lt c.o (suc s)) a c.y v u)) rest
              (omega (
                arith,
                new,
                sum_on_apart p G (suc s) (suc s) v u c cs end,
                left true,
                left false,
                over_right p G true d a e (suc s) u c cs mid not_x not_o,
                over_right p G false d a e (suc s) u c cs mid not_x not_o,
                span_parts (nat_lt c.x (suc s)) (nat_lt c.o (suc s)) (G d a c.y u) (G d a c.y (p true c.y (p false v u))),
                span_parts (nat_lt c.x (suc s)) (nat_lt c.o (suc s)) (G d a c.y (p false v u)) (G d a c.y (p true c.y u)),
              ))
        ]
  ]

  -- at a left end between the ends of the lowest row
  pub mid_left : (d : Bool) (a : ℕ) (c : Column) (cs : List Column) (u : ℕ) → ends 0 c ≡ false → on_at p 0 0 a cs ≡ true
      → xs_in 0 cs ≡ crosses_left d → os_in 0 cs ≡ crosses_left (not d) → on_at p (suc s) (suc s) c.y cs ≡ true → (e : Bool) → IsLeftOf (suc s) c cs e
      → Same k (sum_now (p d a c.y) (p d a (beside p c u)) (fallen_on d a cs) + come d a e u u (c ∷ cs)) (sum_was c.y (beside p c u) cs
      + gone d a e u u (c ∷ cs))
  mid_left d a c cs u mid low ex eo on e known =
      let right : (f : Bool) → over_on p G f d a (right_height e (suc s)) u (c ∷ cs) ≡ over_term p G f d a (nat_lt c.x (right_height e (suc s)))
      (nat_lt c.o (right_height e (suc s))) c.y u + over_on p G f d a (right_height e (suc s)) (beside p c u) cs = λ f.
      over_on_apart p G f d a (right_height e (suc s)) u c cs mid
      ∙ ap (λ b. over_term p G f d a (nat_lt c.x (right_height e (suc s))) (nat_lt c.o (right_height e (suc s))) c.y u + over_on p G f d a
      (right_height e (suc s)) b cs) (left_right p acts e (suc s) c known.here known.not_here u) in
      let left : (f : Bool) → over_on p G f d a (left_height e (suc s)) u (c ∷ cs) ≡ over_term p G f d a (nat_lt c.x (left_height e (suc s)))
      (nat_lt c.o (left_height e (suc s))) c.y u + over_on p G f d a (left_height e (suc s)) (p false c.y (beside p c u)) cs = λ f.
      over_on_apart p G f d a (left_height e (suc s)) u c cs mid
      ∙ ap (λ b. over_term p G f d a (nat_lt c.x (left_height e (suc s))) (nat_lt c.o (left_height e (suc s))) c.y u + over_on p G f d a
      (left_height e (suc s)) b cs) (left_left p acts e (suc s) c known.here known.not_here u) in
      by_one (mid_sum_on d a cs low ex eo c.y (beside p c u) on e known.one known.none)
      (omega (arith, right true, right false, left true, left false, over_left_end p G d a e (suc s) u c known.here known.not_here))

  -- a row that begins between the ends of the lowest row, or behind them
  pub mid_sum_row : (d : Bool) (a : ℕ) (cs : List Column) → on_at p 0 0 a cs ≡ true
      → xs_in 0 cs ≡ crosses_left d → os_in 0 cs ≡ crosses_left (not d)
      → row_at p (suc s) (suc s) cs ≡ true → xs_in (suc s) cs ≡ 1 → os_in (suc s) cs ≡ 1 → (u : ℕ)
      → Same k (row_now (p d a u) (fallen_on d a cs) + come d a (rightward (suc s) cs) u u cs) (row_was u cs + gone d a (rightward (suc s) cs) u u cs)
  mid_sum_row d a [] low ex eo row one_x one_o u = absurd (false≢true row)
  mid_sum_row d a (c ∷ cs) low ex eo row one_x one_o u = elim (cases_Bool (ends 0 c)) [
    | inl last ↦
        let e : Bool = rightward (suc s) (c ∷ cs) in
        let nothing : (f : Bool) (h b : ℕ) → over_on p G f d a h b (c ∷ cs) ≡ 0 = λ f h b. over_on_end p G f d a h b c cs last in
        let all_nothing : (e : Bool) → come d a e u u (c ∷ cs) ≡ gone d a e u u (c ∷ cs) = λ e.
        omega (
          arith,
          nothing true (left_height e (suc s)) u,
          nothing false (right_height e (suc s)) u,
          nothing true (right_height e (suc s)) u,
          nothing false (left_height e (suc s)) u,
        ) in
        let same : a ≡ c.y = eqb-true a c.y (sym (on_end p 0 0 a c cs last) ∙ low) in
        let parts = flipped_right p acts n s lt d c cs last ex eo (p d a u) in
        let is : row_now (p d a u) (fallen_on d a (c ∷ cs)) ≡ row_now (p d a u) (fallen c ∷ map fallen cs) = ap (row_now (p d a u))
        (lowered_on_end p n d a c cs last) in
        let row_same : row_now (p d a u) (fallen c ∷ map fallen cs) ≡ row_was u (c ∷ cs) = elim (cases_Bool (ends (suc s) c)) [
          | inl end ↦
              let start : beside p (fallen c) (p d a u) ≡ beside p c u =
              ap (λ b. beside p (fallen c) (p d b u)) same ∙ right_beside k p G acts w n s lt d c cs last end ex eo u in
              sum_row_end p G s s (p d a u) (fallen c) (map fallen cs) (ends_dropped n s lt c ∙ end)
              ∙ ap (λ b. sum_now c.y b (map fallen cs)) start ∙ sum_on_dropped k p G acts w n s lt c.y (beside p c u) cs parts.1 parts.2
              ∙ sym (sum_row_end p G (suc s) (suc s) u c cs end)
          | inr end ↦
              let over : way_was c (p d c.y u) ≡ p d c.y (way_was c u) =
              crossed_carries p acts d (nat_lt c.x (suc s)) (nat_lt c.o (suc s)) c.y c.y u
              ∙ ap (λ z. p d z (way_was c u)) (crossed_fixed p acts (nat_lt c.x (suc s)) (nat_lt c.o (suc s)) c.y) in
              let back : crosses p s (fallen c) (p d a u) ≡ way_was c u =
              parts.0 ∙ ap (λ z. p (not d) c.y (way_was c (p d z u))) same ∙ ap (p (not d) c.y) over ∙ undo p acts d c.y (way_was c u) in
              sum_row_apart p G s s (p d a u) (fallen c) (map fallen cs) (ends_dropped n s lt c ∙ end)
              ∙ ap (λ b. row_now b (map fallen cs)) back ∙ sum_row_dropped k p G acts w n s lt (way_was c u) cs parts.1 parts.2
              ∙ sym (sum_row_apart p G (suc s) (suc s) u c cs end)
        ] in
        plain (omega (arith, is, row_same, all_nothing (rightward (suc s) (c ∷ cs))))
    | inr mid ↦
        let x : c.x ≢ 0 = no_end true 0 c mid in
        let o : c.o ≢ 0 = no_end false 0 c mid in
        let low' : on_at p 0 0 a cs ≡ true = sym (on_apart p 0 0 a c cs mid ∙ ap (λ b. on_at p 0 0 b cs) (crosses_lowest p c a)) ∙ low in
        let ex' = sym (xs_not_here 0 c cs x) ∙ ex in
        let eo' = sym (os_not_here 0 c cs o) ∙ eo in
        let is = lowered_on_apart p n d a c cs mid in
        elim (cases_Bool (ends (suc s) c)) [
          | inl end ↦
              let on = sym (row_end p (suc s) (suc s) c cs end) ∙ row in
              let new : row_now (p d a u) (fallen_on d a (c ∷ cs)) ≡ sum_now (p d a c.y) (p d a (beside p c u)) (fallen_on d a cs) =
              ap (row_now (p d a u)) is
              ∙ sum_row_end p G s s (p d a u) (recolour (fallen c) (p d a c.y)) (fallen_on d a cs) (ends_dropped n s lt c ∙ end)
              ∙ ap (λ b. sum_now (p d a c.y) b (fallen_on d a cs)) (beside_kept k p G acts w n s lt d a c u x o) in
              elim (left_kind p (suc s) (suc s) c cs end on one_x one_o) [
                | left_of e known ↦
                    let found = mid_left d a c cs u mid low' ex' eo' on e known in
                    let way : rightward (suc s) (c ∷ cs) ≡ e = rightward_end (suc s) c cs end ∙ known.way in
                    subst (λ (b : Bool). Same k (row_now (p d a u) (fallen_on d a (c ∷ cs)) + come d a b u u (c ∷ cs)) (row_was u (c ∷ cs)
                    + gone d a b u u (c ∷ cs))) (sym way)
                    (by_one found (omega (arith, new, sum_row_end p G (suc s) (suc s) u c cs end)))
              ]
          | inr end ↦
              let not_x : c.x ≢ suc s = no_end true (suc s) c end in
              let not_o : c.o ≢ suc s = no_end false (suc s) c end in
              let rest = mid_sum_row d a cs low' ex' eo' (sym (row_apart p (suc s) (suc s) c cs end) ∙ row)
              (sym (xs_not_here (suc s) c cs not_x) ∙ one_x) (sym (os_not_here (suc s) c cs not_o) ∙ one_o) (way_was c u) in
              let way : crosses p s (recolour (fallen c) (p d a c.y)) (p d a u) ≡ p d a (way_was c u) =
              crosses_dropped p n s c (p d a c.y) (p d a u) x o ∙ sym (crossed_carried p acts d (nat_lt c.x (suc s)) (nat_lt c.o (suc s)) a c.y u) in
              let new : row_now (p d a u) (fallen_on d a (c ∷ cs)) ≡ row_now (p d a (way_was c u)) (fallen_on d a cs) =
              ap (row_now (p d a u)) is
              ∙ sum_row_apart p G s s (p d a u) (recolour (fallen c) (p d a c.y)) (fallen_on d a cs) (ends_dropped n s lt c ∙ end)
              ∙ ap (λ b. row_now b (fallen_on d a cs)) way in
              let e : Bool = rightward (suc s) cs in
              subst (λ (b : Bool). Same k (row_now (p d a u) (fallen_on d a (c ∷ cs)) + come d a b u u (c ∷ cs)) (row_was u (c ∷ cs) + gone d a b u u (c ∷ cs)))
              (sym (rightward_apart (suc s) c cs end))
              (by_one rest (omega (
                arith,
                new,
                sum_row_apart p G (suc s) (suc s) u c cs end,
                over_left p G true d a (rightward (suc s) cs) (suc s) u c cs mid not_x not_o,
                over_left p G false d a (rightward (suc s) cs) (suc s) u c cs mid not_x not_o,
                over_right p G true d a (rightward (suc s) cs) (suc s) u c cs mid not_x not_o,
                over_right p G false d a (rightward (suc s) cs) (suc s) u c cs mid not_x not_o,
              )))
        ]
  ]
