-- A shift of the rows by one: all rows but the lowest.
use Rattle.std.proofs.Common.{◌≡◌, ◌≢◌, ◌∙◌, ◌<◌, ◌+◌, ℕ, suc, List, [], ◌∷◌, ap, ap₂, sym, arith, inl, inr, cond, subst}
use Rattle.std.specs.Prelude.{Bool, true, false, nat_lt}
use Rattle.std.proofs.Math.Bool.{not}
use Rattle.std.proofs.lemmas.Bool.{eqb-true, false≢true, cases_Bool}
use Rattle.colour_laws.proofs.ColumnLists.{Acts, Column, ends, xs_in, os_in, crosses, rises, dropped, lowered, lowered_on, relabel}
use Rattle.colour_laws.proofs.Actions.{crossed_carries}
use Rattle.colour_laws.proofs.Rows.{on_at, row_at, row_end, row_apart, on_end, on_apart, crosses_above}
use Rattle.colour_laws.proofs.Level.{xs_not_here, os_not_here}
use Rattle.colour_laws.proofs.DroppedColumns.{lt_dropped, ends_dropped, crosses_dropped}
use Rattle.colour_laws.proofs.LoweredMarks.{lowered_end, lowered_apart}
use Rattle.colour_laws.proofs.ShiftRows.{left_end}
use Rattle.cocycle_core.proofs.Mod.{Same}
use Rattle.colour_weights.proofs.Ways.{rightward, rightward_end, rightward_apart}
use Rattle.colour_weights.proofs.Marks.{mark, marks, marks_here, marks_later, other_mark, left_of, left_kind, no_end}
use Rattle.colour_weights.proofs.ModSums.{plain, turn, by_one, by_two}
use Rattle.colour_weights.proofs.RowSums.{Weighs, gained, gains, beside, sum_on, sum_row}
use Rattle.colour_weights.proofs.RowSteps.{sum_on_end, sum_on_apart, sum_row_end, sum_row_apart, right_height, left_height, left_right, left_left, right_meet}
use Rattle.colour_weights.proofs.Over.{over_on, over_all, over_all_end, over_all_apart, over_on_sides, over_all_sides, no_more}
use Rattle.colour_weights.proofs.FallenRows.{rises_kept, left_beside, left_gain}
use Rattle.colour_weights.proofs.FallenBetween.{mid_sum_on, mid_sum_row}

-- a row s + 1 that falls to row s, of a grid of n rows
module _ (k : ℕ) (p : Bool → ℕ → ℕ → ℕ) (G : Bool → ℕ → ℕ → ℕ → ℕ) (acts : Acts p) (w : Weighs k p G) (n s : ℕ) (lt : suc s < n) where
  -- a column, and the columns behind the left end of the lowest row, after the shift
  abbrev fallen : Column → Column
  fallen = relabel (dropped n)

  abbrev fallen_on : Bool → ℕ → List Column → List Column
  fallen_on = lowered_on p n

  -- what becomes of a colour under a column before the shift, what it gains there, and what the row's walk gains: before and after
  abbrev way_was : Column → ℕ → ℕ
  way_was = crosses p (suc s)

  abbrev gain_was : Column → ℕ → ℕ → ℕ
  gain_was = gains G (suc s)

  abbrev gain_now : Column → ℕ → ℕ → ℕ
  gain_now = gains G s

  abbrev sum_was : ℕ → ℕ → List Column → ℕ
  sum_was = sum_on p G (suc s) (suc s)

  abbrev sum_now : ℕ → ℕ → List Column → ℕ
  sum_now = sum_on p G s s

  abbrev row_was : ℕ → List Column → ℕ
  row_was = sum_row p G (suc s) (suc s)

  abbrev row_now : ℕ → List Column → ℕ
  row_now = sum_row p G s s

  -- what the columns between the ends gain, where the row's walk runs to a mark of kind e: what comes in, and what goes out
  abbrev come : Bool → ℕ → Bool → (u v : ℕ) → List Column → ℕ
  come d a e u v cs = over_on p G true d a (left_height e (suc s)) v cs + over_on p G false d a (right_height e (suc s)) u cs

  abbrev gone : Bool → ℕ → Bool → (u v : ℕ) → List Column → ℕ
  gone d a e u v cs = over_on p G true d a (right_height e (suc s)) u cs + over_on p G false d a (left_height e (suc s)) v cs

  abbrev all_come : Bool → (u v : ℕ) → List Column → ℕ
  all_come e u v cs = over_all p G true (left_height e (suc s)) v cs + over_all p G false (right_height e (suc s)) u cs

  abbrev all_gone : Bool → (u v : ℕ) → List Column → ℕ
  all_gone e u v cs = over_all p G true (right_height e (suc s)) u cs + over_all p G false (left_height e (suc s)) v cs

  -- where row s + 1 has no mark in a column, both heights do the same
  all_left : (f e : Bool) (u : ℕ) (c : Column) (cs : List Column) → ends 0 c ≡ false → c.x ≢ suc s → c.o ≢ suc s
      → over_all p G f (left_height e (suc s)) u (c ∷ cs) ≡ over_all p G f (left_height e (suc s)) (way_was c u) cs
  all_left f true u c cs first x o = over_all_apart p G f (suc (suc s)) u c cs first
      ∙ ap (λ b. over_all p G f (suc (suc s)) b cs) (crosses_above p (suc s) c u x o)
  all_left f false u c cs first x o = over_all_apart p G f (suc s) u c cs first

  all_right : (f e : Bool) (u : ℕ) (c : Column) (cs : List Column) → ends 0 c ≡ false → c.x ≢ suc s → c.o ≢ suc s
      → over_all p G f (right_height e (suc s)) u (c ∷ cs) ≡ over_all p G f (right_height e (suc s)) (way_was c u) cs
  all_right f true u c cs first x o = all_left f false u c cs first x o
  all_right f false u c cs first x o = all_left f true u c cs first x o

  all_left_end : (f e : Bool) (u : ℕ) (c : Column) (cs : List Column) → ends 0 c ≡ true → c.x ≢ suc s → c.o ≢ suc s
      → over_all p G f (left_height e (suc s)) u (c ∷ cs) ≡ over_on p G f (not (rises c)) c.y (left_height e (suc s)) (way_was c u) cs
  all_left_end f true u c cs first x o =
      over_all_end p G f (suc (suc s)) u c cs first ∙ ap (λ b. over_on p G f (not (rises c)) c.y (suc (suc s)) b cs) (crosses_above p (suc s) c u x o)
  all_left_end f false u c cs first x o = over_all_end p G f (suc s) u c cs first

  all_right_end : (f e : Bool) (u : ℕ) (c : Column) (cs : List Column) → ends 0 c ≡ true → c.x ≢ suc s → c.o ≢ suc s
      → over_all p G f (right_height e (suc s)) u (c ∷ cs) ≡ over_on p G f (not (rises c)) c.y (right_height e (suc s)) (way_was c u) cs
  all_right_end f true u c cs first x o = all_left_end f false u c cs first x o
  all_right_end f false u c cs first x o = all_left_end f true u c cs first x o

  -- on the way from the left of both ends of the lowest row to a mark of kind e
  whole_sum_on : (cs : List Column) → row_at p 0 0 cs ≡ true → xs_in 0 cs ≡ 1 → os_in 0 cs ≡ 1
      → (v u : ℕ) → on_at p (suc s) (suc s) v cs ≡ true → (e : Bool) → marks e (suc s) cs ≡ 1 → marks (not e) (suc s) cs ≡ 0
      → Same k (sum_now v u (lowered p n cs) + all_come e u (p false v u) cs) (sum_was v u cs + all_gone e u (p false v u) cs)
  whole_sum_on [] low ex eo v u on e one none = absurd (false≢true on)
  whole_sum_on (c ∷ cs) low ex eo v u on e one none = elim (cases_Bool (ends (suc s) c)) [
    | inl end ↦
        let at : v ≡ c.y = eqb-true v c.y (sym (on_end p (suc s) (suc s) v c cs end) ∙ on) in
        let not_other : mark (not e) c ≢ suc s = λ h. absurd (omega (arith, marks_here (not e) (suc s) c cs h, none)) in
        let kind : mark e c ≡ suc s = other_mark e (suc s) c end not_other in
        let more = no_more e (suc s) cs (omega (arith, marks_here e (suc s) c cs kind, one)) (sym (marks_later (not e) (suc s) c cs not_other) ∙ none) in
        let meet : crosses p (left_height e (suc s)) c (p false v u) ≡ crosses p (right_height e (suc s)) c u =
        ap (λ b. crosses p (left_height e (suc s)) c (p false b u)) at ∙ sym (right_meet p acts e (suc s) c kind not_other u) in
        let sides : (f : Bool) → over_all p G f (left_height e (suc s)) (p false v u) (c ∷ cs) ≡ over_all p G f (right_height e (suc s)) u (c ∷ cs) = λ f.
        ap₂ (λ a b. cond (ends 0 c) a b)
        (ap (λ b. over_on p G f (not (rises c)) c.y (left_height e (suc s)) b cs) meet
        ∙ over_on_sides p G f (not (rises c)) c.y e (suc s) (crosses p (right_height e (suc s)) c u) cs more.0 more.1)
        (ap (λ b. over_all p G f (left_height e (suc s)) b cs) meet
        ∙ over_all_sides p G f e (suc s) (crosses p (right_height e (suc s)) c u) cs more.0 more.1) in
        let new : sum_now v u (lowered p n (c ∷ cs)) ≡ 0 =
        sum_on_end p G s s v u (fallen c) (cond (ends 0 c) (fallen_on (not (rises c)) c.y cs) (lowered p n cs)) (ends_dropped n s lt c ∙ end) in
        plain (omega (arith, new, sides true, sides false, sum_on_end p G (suc s) (suc s) v u c cs end))
    | inr end ↦
        let not_x : c.x ≢ suc s = no_end true (suc s) c end in
        let not_o : c.o ≢ suc s = no_end false (suc s) c end in
        let on' = sym (on_apart p (suc s) (suc s) v c cs end) ∙ on in
        let one' = sym (marks_later e (suc s) c cs (no_end e (suc s) c end)) ∙ one in
        let none' = sym (marks_later (not e) (suc s) c cs (no_end (not e) (suc s) c end)) ∙ none in
        let goes : way_was c (p false v u) ≡ p false (way_was c v) (way_was c u) =
        crossed_carries p acts false (nat_lt c.x (suc s)) (nat_lt c.o (suc s)) c.y v u in
        elim (cases_Bool (ends 0 c)) [
          | inl first ↦
              let low' : on_at p 0 0 c.y cs ≡ true = sym (row_end p 0 0 c cs first) ∙ low in
              let known = left_end p acts n s lt c cs first low' ex eo in
              let rest = mid_sum_on k p G acts w n s lt (not (rises c)) c.y cs low' known.crosses known.rings (way_was c v) (way_was c u) on' e one' none' in
              let new : sum_now v u (lowered p n (c ∷ cs)) ≡ gain_now (fallen c) v u + sum_now (p (not (rises c)) c.y (way_was c v))
              (p (not (rises c)) c.y (way_was c u)) (fallen_on (not (rises c)) c.y cs) =
              ap (sum_now v u) (lowered_end p n c cs first)
              ∙ sum_on_apart p G s s v u (fallen c) (fallen_on (not (rises c)) c.y cs) (ends_dropped n s lt c ∙ end)
              ∙ ap₂ (λ b z. gain_now (fallen c) v u + sum_now b z (fallen_on (not (rises c)) c.y cs)) (known.acted v) (known.acted u) in
              let left : (f : Bool) → over_all p G f (left_height e (suc s)) (p false v u) (c ∷ cs) ≡ over_on p G f (not (rises c)) c.y (left_height e (suc s))
              (p false (way_was c v) (way_was c u)) cs = λ f.
              all_left_end f e (p false v u) c cs first not_x not_o ∙ ap (λ b. over_on p G f (not (rises c)) c.y (left_height e (suc s)) b cs) goes in
              by_two rest (left_gain k p G acts w n s lt c cs first low' ex eo v u)
              (omega (
                arith,
                new,
                left true,
                left false,
                all_right_end true e u c cs first not_x not_o,
                all_right_end false e u c cs first not_x not_o,
                sum_on_apart p G (suc s) (suc s) v u c cs end,
              ))
          | inr first ↦
              let x : c.x ≢ 0 = no_end true 0 c first in
              let o : c.o ≢ 0 = no_end false 0 c first in
              let rest = whole_sum_on cs (sym (row_apart p 0 0 c cs first) ∙ low) (sym (xs_not_here 0 c cs x) ∙ ex) (sym (os_not_here 0 c cs o) ∙ eo)
              (way_was c v) (way_was c u) on' e one' none' in
              let way : (b : ℕ) → crosses p s (fallen c) b ≡ way_was c b = λ b. crosses_dropped p n s c c.y b x o in
              let new : sum_now v u (lowered p n (c ∷ cs)) ≡ gain_was c v u + sum_now (way_was c v) (way_was c u) (lowered p n cs) =
              ap (sum_now v u) (lowered_apart p n c cs first)
              ∙ sum_on_apart p G s s v u (fallen c) (lowered p n cs) (ends_dropped n s lt c ∙ end)
              ∙ ap₂ (λ g b. g + b) (ap₂ (λ l m. gained G l m c.y v u) (lt_dropped n s c.x x) (lt_dropped n s c.o o))
              (ap₂ (λ b z. sum_now b z (lowered p n cs)) (way v) (way u)) in
              let left : (f : Bool) → over_all p G f (left_height e (suc s)) (p false v u) (c ∷ cs) ≡ over_all p G f (left_height e (suc s))
              (p false (way_was c v) (way_was c u)) cs = λ f.
              all_left f e (p false v u) c cs first not_x not_o ∙ ap (λ b. over_all p G f (left_height e (suc s)) b cs) goes in
              by_one rest (omega (
                arith,
                new,
                left true,
                left false,
                all_right true e u c cs first not_x not_o,
                all_right false e u c cs first not_x not_o,
                sum_on_apart p G (suc s) (suc s) v u c cs end,
              ))
        ]
  ]

  -- each row but the lowest
  pub whole_sum_row : (cs : List Column) → row_at p 0 0 cs ≡ true → xs_in 0 cs ≡ 1 → os_in 0 cs ≡ 1
      → row_at p (suc s) (suc s) cs ≡ true → xs_in (suc s) cs ≡ 1 → os_in (suc s) cs ≡ 1 → (u : ℕ)
      → Same k (row_now u (lowered p n cs) + all_come (rightward (suc s) cs) u u cs) (row_was u cs + all_gone (rightward (suc s) cs) u u cs)
  whole_sum_row [] low ex eo row one_x one_o u = absurd (false≢true row)
  whole_sum_row (c ∷ cs) low ex eo row one_x one_o u = elim (cases_Bool (ends (suc s) c)) [
    | inl end ↦
        let on = sym (row_end p (suc s) (suc s) c cs end) ∙ row in
        elim (left_kind p (suc s) (suc s) c cs end on one_x one_o) [
          | left_of e known ↦
              let way : rightward (suc s) (c ∷ cs) ≡ e = rightward_end (suc s) c cs end ∙ known.way in
              let right = left_right p acts e (suc s) c known.here known.not_here u in
              let left = left_left p acts e (suc s) c known.here known.not_here u in
              subst (λ (b : Bool). Same k (row_now u (lowered p n (c ∷ cs)) + all_come b u u (c ∷ cs)) (row_was u (c ∷ cs) + all_gone b u u (c ∷ cs))) (sym way)
              (elim (cases_Bool (ends 0 c)) [
                | inl first ↦
                    let low' : on_at p 0 0 c.y cs ≡ true = sym (row_end p 0 0 c cs first) ∙ low in
                    let known' = left_end p acts n s lt c cs first low' ex eo in
                    let rest = mid_sum_on k p G acts w n s lt (not (rises c)) c.y cs low' known'.crosses known'.rings c.y
                    (beside p c u) on e known.one known.none in
                    let new : row_now u (lowered p n (c ∷ cs)) ≡ sum_now (p (not (rises c)) c.y c.y) (p (not (rises c)) c.y (beside p c u))
                    (fallen_on (not (rises c)) c.y cs) =
                    ap (row_now u) (lowered_end p n c cs first)
                    ∙ sum_row_end p G s s u (fallen c) (fallen_on (not (rises c)) c.y cs) (ends_dropped n s lt c ∙ end)
                    ∙ ap₂ (λ b z. sum_now b z (fallen_on (not (rises c)) c.y cs)) (sym (acts.fixed (not (rises c)) c.y))
                    (left_beside k p G acts w n s lt c first end u) in
                    let lefts : (f : Bool) → over_all p G f (left_height e (suc s)) u (c ∷ cs) ≡ over_on p G f (not (rises c)) c.y (left_height e (suc s))
                    (p false c.y (beside p c u)) cs = λ f.
                    over_all_end p G f (left_height e (suc s)) u c cs first ∙ ap (λ b. over_on p G f (not (rises c)) c.y (left_height e (suc s)) b cs) left in
                    let rights : (f : Bool) → over_all p G f (right_height e (suc s)) u (c ∷ cs) ≡ over_on p G f (not (rises c)) c.y (right_height e (suc s))
                    (beside p c u) cs = λ f.
                    over_all_end p G f (right_height e (suc s)) u c cs first
                    ∙ ap (λ b. over_on p G f (not (rises c)) c.y (right_height e (suc s)) b cs) right in
                    by_two rest (turn (w.own (not (rises c)) c.y (beside p c u)))
                    (omega (arith, new, lefts true, lefts false, rights true, rights false, sum_row_end p G (suc s) (suc s) u c cs end))
                | inr first ↦
                    let x : c.x ≢ 0 = no_end true 0 c first in
                    let o : c.o ≢ 0 = no_end false 0 c first in
                    let rest = whole_sum_on cs (sym (row_apart p 0 0 c cs first) ∙ low) (sym (xs_not_here 0 c cs x) ∙ ex) (sym (os_not_here 0 c cs o)
                    ∙ eo) c.y (beside p c u) on e known.one known.none in
                    let start : beside p (fallen c) u ≡ beside p c u = ap (λ b. cond b (p true c.y u) u) (rises_kept k p G acts w n s lt c x o) in
                    let new : row_now u (lowered p n (c ∷ cs)) ≡ sum_now c.y (beside p c u) (lowered p n cs) =
                    ap (row_now u) (lowered_apart p n c cs first) ∙ sum_row_end p G s s u (fallen c) (lowered p n cs) (ends_dropped n s lt c ∙ end)
                    ∙ ap (λ b. sum_now c.y b (lowered p n cs)) start in
                    let lefts : (f : Bool) → over_all p G f (left_height e (suc s)) u (c ∷ cs) ≡ over_all p G f (left_height e (suc s))
                    (p false c.y (beside p c u)) cs = λ f.
                    over_all_apart p G f (left_height e (suc s)) u c cs first ∙ ap (λ b. over_all p G f (left_height e (suc s)) b cs) left in
                    let rights : (f : Bool) → over_all p G f (right_height e (suc s)) u (c ∷ cs) ≡ over_all p G f (right_height e (suc s)) (beside p c u) cs =
                    λ f.
                    over_all_apart p G f (right_height e (suc s)) u c cs first ∙ ap (λ b. over_all p G f (right_height e (suc s)) b cs) right in
                    by_one rest (omega (arith, new, lefts true, lefts false, rights true, rights false, sum_row_end p G (suc s) (suc s) u c cs end))
              ])
        ]
    | inr end ↦
        let not_x : c.x ≢ suc s = no_end true (suc s) c end in
        let not_o : c.o ≢ suc s = no_end false (suc s) c end in
        let row' = sym (row_apart p (suc s) (suc s) c cs end) ∙ row in
        let one_x' = sym (xs_not_here (suc s) c cs not_x) ∙ one_x in
        let one_o' = sym (os_not_here (suc s) c cs not_o) ∙ one_o in
        let b : Bool = rightward (suc s) cs in
        subst (λ (b : Bool). Same k (row_now u (lowered p n (c ∷ cs)) + all_come b u u (c ∷ cs)) (row_was u (c ∷ cs) + all_gone b u u (c ∷ cs)))
        (sym (rightward_apart (suc s) c cs end))
        (elim (cases_Bool (ends 0 c)) [
          | inl first ↦
              let low' : on_at p 0 0 c.y cs ≡ true = sym (row_end p 0 0 c cs first) ∙ low in
              let left = left_end p acts n s lt c cs first low' ex eo in
              let rest = mid_sum_row k p G acts w n s lt (not (rises c)) c.y cs low' left.crosses left.rings row' one_x' one_o' (way_was c u) in
              let new : row_now u (lowered p n (c ∷ cs)) ≡ row_now (p (not (rises c)) c.y (way_was c u)) (fallen_on (not (rises c)) c.y cs) =
              ap (row_now u) (lowered_end p n c cs first)
              ∙ sum_row_apart p G s s u (fallen c) (fallen_on (not (rises c)) c.y cs) (ends_dropped n s lt c ∙ end)
              ∙ ap (λ b. row_now b (fallen_on (not (rises c)) c.y cs)) (left.acted u) in
              by_one rest (omega (
                arith,
                new,
                all_left_end true (rightward (suc s) cs) u c cs first not_x not_o,
                all_left_end false (rightward (suc s) cs) u c cs first not_x not_o,
                all_right_end true (rightward (suc s) cs) u c cs first not_x not_o,
                all_right_end false (rightward (suc s) cs) u c cs first not_x not_o,
                sum_row_apart p G (suc s) (suc s) u c cs end,
              ))
          | inr first ↦
              let x : c.x ≢ 0 = no_end true 0 c first in
              let o : c.o ≢ 0 = no_end false 0 c first in
              let rest = whole_sum_row cs (sym (row_apart p 0 0 c cs first) ∙ low) (sym (xs_not_here 0 c cs x) ∙ ex) (sym (os_not_here 0 c cs o)
              ∙ eo) row' one_x' one_o' (way_was c u) in
              let new : row_now u (lowered p n (c ∷ cs)) ≡ row_now (way_was c u) (lowered p n cs) =
              ap (row_now u) (lowered_apart p n c cs first) ∙ sum_row_apart p G s s u (fallen c) (lowered p n cs) (ends_dropped n s lt c ∙ end)
              ∙ ap (λ b. row_now b (lowered p n cs)) (crosses_dropped p n s c c.y u x o) in
              by_one rest (omega (
                arith,
                new,
                all_left true (rightward (suc s) cs) u c cs first not_x not_o,
                all_left false (rightward (suc s) cs) u c cs first not_x not_o,
                all_right true (rightward (suc s) cs) u c cs first not_x not_o,
                all_right false (rightward (suc s) cs) u c cs first not_x not_o,
                sum_row_apart p G (suc s) (suc s) u c cs end,
              ))
        ])
  ]
