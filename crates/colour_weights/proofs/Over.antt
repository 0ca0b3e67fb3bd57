-- The lowest row is lifted over the columns between its ends: what these columns gain under it at each height, those that go down and those that go up.
use Rattle.std.proofs.Common.{◌≡◌, ◌≢◌, ◌∙◌, ◌+◌, ℕ, suc, List, [], ◌∷◌, ap, ap₂, sym, refl, arith, inl, inr, cond}
use Rattle.std.specs.Prelude.{Bool, true, false, nat_lt, if◌then◌else◌}
use Rattle.std.proofs.Math.Bool.{not}
use Rattle.std.proofs.lemmas.Bool.{cond-true, cond-false, cases_Bool, cases_order, lt-ltb, le-ltb}
use Rattle.colour_laws.proofs.ColumnLists.{Acts, Column, ends, xs_in, os_in, crosses, rises, IsInside}
use Rattle.colour_laws.proofs.Rows.{cross, ring, apart, side, test_above, crosses_above}
use Rattle.colour_laws.proofs.Level.{xs_here, xs_not_here, os_here, os_not_here}
use Rattle.colour_weights.proofs.Marks.{mark, marks, marks_crosses, marks_rings, no_end}
use Rattle.colour_weights.proofs.RowSums.{span, beside}
use Rattle.colour_weights.proofs.RowSteps.{right_height, left_height, low, high, stands}

-- no mark in row r
pub no_more : (e : Bool) (r : ℕ) (cs : List Column) → marks e r cs ≡ 0 → marks (not e) r cs ≡ 0 → (xs_in r cs ≡ 0) × (os_in r cs ≡ 0)
no_more true r cs a b = (sym (marks_crosses r cs) ∙ a, sym (marks_rings r cs) ∙ b)
no_more false r cs a b = (sym (marks_crosses r cs) ∙ b, sym (marks_rings r cs) ∙ a)

-- what a column of colour y gains under an action of colour a in direction d, where it goes down (true) or up (false):
-- u is the colour of the region on its left, and the region on its right-hand side counts
abbrev pub over_term : (p : Bool → ℕ → ℕ → ℕ) (G : Bool → ℕ → ℕ → ℕ → ℕ) → Bool → Bool → ℕ → Bool → Bool → ℕ → ℕ → ℕ
over_term p G true d a l m y u = span l m (G d a y u) 0
over_term p G false d a l m y u = span l m 0 (G d a y (p true y u))

-- all columns up to the right end of the lowest row, at height h
abbrev pub over_on : (p : Bool → ℕ → ℕ → ℕ) (G : Bool → ℕ → ℕ → ℕ → ℕ) → Bool → Bool → ℕ → ℕ → ℕ → List Column → ℕ
over_on p G f d a h u [] = 0
over_on p G f d a h u (c ∷ cs) =
    if ends 0 c then 0 else over_term p G f d a (nat_lt c.x h) (nat_lt c.o h) c.y u + over_on p G f d a h (crosses p h c u) cs

-- all columns between its ends: the direction of the action is told by its left end, down where that goes up
abbrev pub over_all : (p : Bool → ℕ → ℕ → ℕ) (G : Bool → ℕ → ℕ → ℕ → ℕ) → Bool → ℕ → ℕ → List Column → ℕ
over_all p G f h u [] = 0
over_all p G f h u (c ∷ cs) = if ends 0 c then over_on p G f (not (rises c)) c.y h (crosses p h c u) cs else over_all p G f h (crosses p h c u) cs

-- two parts of a term by direction
pub span_parts : (l m : Bool) (f r : ℕ) → span l m f r ≡ span l m f 0 + span l m 0 r
span_parts true true f r = omega arith
span_parts true false f r = omega arith
span_parts false true f r = omega arith
span_parts false false f r = omega arith

module _ (p : Bool → ℕ → ℕ → ℕ) (G : Bool → ℕ → ℕ → ℕ → ℕ) where
  pub over_on_end : (f d : Bool) (a h u : ℕ) (c : Column) (cs : List Column) → ends 0 c ≡ true → over_on p G f d a h u (c ∷ cs) ≡ 0
  over_on_end f d a h u c cs e =
      cond-true (ends 0 c) 0 (over_term p G f d a (nat_lt c.x h) (nat_lt c.o h) c.y u + over_on p G f d a h (crosses p h c u) cs) e

  pub over_on_apart : (f d : Bool) (a h u : ℕ) (c : Column) (cs : List Column) → ends 0 c ≡ false
      → over_on p G f d a h u (c ∷ cs) ≡ over_term p G f d a (nat_lt c.x h) (nat_lt c.o h) c.y u + over_on p G f d a h (crosses p h c u) cs
  over_on_apart f d a h u c cs e =
      cond-false (ends 0 c) 0 (over_term p G f d a (nat_lt c.x h) (nat_lt c.o h) c.y u + over_on p G f d a h (crosses p h c u) cs) e

  pub over_all_end : (f : Bool) (h u : ℕ) (c : Column) (cs : List Column) → ends 0 c ≡ true
      → over_all p G f h u (c ∷ cs) ≡ over_on p G f (not (rises c)) c.y h (crosses p h c u) cs
  over_all_end f h u c cs e = cond-true (ends 0 c) (over_on p G f (not (rises c)) c.y h (crosses p h c u) cs) (over_all p G f h (crosses p h c u) cs) e

  pub over_all_apart : (f : Bool) (h u : ℕ) (c : Column) (cs : List Column) → ends 0 c ≡ false
      → over_all p G f h u (c ∷ cs) ≡ over_all p G f h (crosses p h c u) cs
  over_all_apart f h u c cs e = cond-false (ends 0 c) (over_on p G f (not (rises c)) c.y h (crosses p h c u) cs) (over_all p G f h (crosses p h c u) cs) e

  -- columns without a mark in row r gain the same below it and above it
  over_on_clear : (f d : Bool) (a r u : ℕ) (cs : List Column) → xs_in r cs ≡ 0 → os_in r cs ≡ 0 → over_on p G f d a (suc r) u cs ≡ over_on p G f d a r u cs
  over_on_clear f d a r u [] ex eo = refl
  over_on_clear f d a r u (c ∷ cs) ex eo = elim (side r c) [
    | cross e ↦ absurd (omega (arith, xs_here r c cs e))
    | ring n e ↦ absurd (omega (arith, os_here r c cs e))
    | apart n m ↦
        ap (λ s. cond (ends 0 c) 0 s)
        (ap₂ (λ g s. g + s) (ap₂ (λ l m. over_term p G f d a l m c.y u) (test_above c.x r n) (test_above c.o r m))
        (ap (λ b. over_on p G f d a (suc r) b cs) (crosses_above p r c u n m)
        ∙ over_on_clear f d a r (crosses p r c u) cs (sym (xs_not_here r c cs n) ∙ ex) (sym (os_not_here r c cs m) ∙ eo)))
  ]

  over_all_clear : (f : Bool) (r u : ℕ) (cs : List Column) → xs_in r cs ≡ 0 → os_in r cs ≡ 0 → over_all p G f (suc r) u cs ≡ over_all p G f r u cs
  over_all_clear f r u [] ex eo = refl
  over_all_clear f r u (c ∷ cs) ex eo = elim (side r c) [
    | cross e ↦ absurd (omega (arith, xs_here r c cs e))
    | ring n e ↦ absurd (omega (arith, os_here r c cs e))
    | apart n m ↦
        let ex' : xs_in r cs ≡ 0 = sym (xs_not_here r c cs n) ∙ ex in
        let eo' : os_in r cs ≡ 0 = sym (os_not_here r c cs m) ∙ eo in
        ap₂ (λ s t. cond (ends 0 c) s t)
        (ap (λ b. over_on p G f (not (rises c)) c.y (suc r) b cs) (crosses_above p r c u n m)
        ∙ over_on_clear f (not (rises c)) c.y r (crosses p r c u) cs ex' eo')
        (ap (λ b. over_all p G f (suc r) b cs) (crosses_above p r c u n m) ∙ over_all_clear f r (crosses p r c u) cs ex' eo')
  ]

  pub over_on_sides : (f d : Bool) (a : ℕ) (e : Bool) (r u : ℕ) (cs : List Column) → xs_in r cs ≡ 0 → os_in r cs ≡ 0
      → over_on p G f d a (left_height e r) u cs ≡ over_on p G f d a (right_height e r) u cs
  over_on_sides f d a true r u cs ex eo = over_on_clear f d a r u cs ex eo
  over_on_sides f d a false r u cs ex eo = sym (over_on_clear f d a r u cs ex eo)

  pub over_all_sides : (f e : Bool) (r u : ℕ) (cs : List Column) → xs_in r cs ≡ 0 → os_in r cs ≡ 0
      → over_all p G f (left_height e r) u cs ≡ over_all p G f (right_height e r) u cs
  over_all_sides f true r u cs ex eo = over_all_clear f r u cs ex eo
  over_all_sides f false r u cs ex eo = sym (over_all_clear f r u cs ex eo)

  -- a column without a mark in row r
  pub over_right : (f d : Bool) (a : ℕ) (e : Bool) (r u : ℕ) (c : Column) (cs : List Column) → ends 0 c ≡ false → c.x ≢ r → c.o ≢ r
      → over_on p G f d a (right_height e r) u (c ∷ cs) ≡ over_term p G f d a (nat_lt c.x r) (nat_lt c.o r) c.y u
      + over_on p G f d a (right_height e r) (crosses p r c u) cs
  over_right f d a true r u c cs first n m = over_on_apart f d a r u c cs first
  over_right f d a false r u c cs first n m =
      over_on_apart f d a (suc r) u c cs first
      ∙ ap₂ (λ g s. g + s) (ap₂ (λ l m. over_term p G f d a l m c.y u) (test_above c.x r n) (test_above c.o r m))
      (ap (λ b. over_on p G f d a (suc r) b cs) (crosses_above p r c u n m))

  pub over_left : (f d : Bool) (a : ℕ) (e : Bool) (r u : ℕ) (c : Column) (cs : List Column) → ends 0 c ≡ false → c.x ≢ r → c.o ≢ r
      → over_on p G f d a (left_height e r) u (c ∷ cs) ≡ over_term p G f d a (nat_lt c.x r) (nat_lt c.o r) c.y u
      + over_on p G f d a (left_height e r) (crosses p r c u) cs
  over_left f d a true r u c cs first n m = over_right f d a false r u c cs first n m
  over_left f d a false r u c cs first n m = over_right f d a true r u c cs first n m

  -- where no column is there nothing is gained: at the highest height, and at the height above the lowest row
  none_below : (f d : Bool) (a y u : ℕ) → over_term p G f d a true true y u ≡ 0
  none_below true d a y u = refl
  none_below false d a y u = refl

  none_above : (f d : Bool) (a y u : ℕ) → over_term p G f d a false false y u ≡ 0
  none_above true d a y u = refl
  none_above false d a y u = refl

  over_on_top : (f d : Bool) (a n u : ℕ) (cs : List Column) → IsInside n cs → over_on p G f d a n u cs ≡ 0
  over_on_top f d a n u [] inside = refl
  over_on_top f d a n u (c ∷ cs) inside = elim (cases_Bool (ends 0 c)) [
    | inl e ↦ over_on_end f d a n u c cs e
    | inr e ↦
        over_on_apart f d a n u c cs e
        ∙ ap₂ (λ g s. g + s) (ap₂ (λ l m. over_term p G f d a l m c.y u) (lt-ltb c.x n inside.0) (lt-ltb c.o n inside.1) ∙ none_below f d a c.y u)
        (over_on_top f d a n (crosses p n c u) cs inside.2)
  ]

  pub over_all_top : (f : Bool) (n u : ℕ) (cs : List Column) → IsInside n cs → over_all p G f n u cs ≡ 0
  over_all_top f n u [] inside = refl
  over_all_top f n u (c ∷ cs) inside = elim (cases_Bool (ends 0 c)) [
    | inl e ↦ over_all_end f n u c cs e ∙ over_on_top f (not (rises c)) c.y n (crosses p n c u) cs inside.2
    | inr e ↦ over_all_apart f n u c cs e ∙ over_all_top f n (crosses p n c u) cs inside.2
  ]

  not_first : (x : ℕ) → x ≢ 0 → nat_lt x 1 ≡ false
  not_first x n = elim (cases_order x 0) [
    | inl e ↦ absurd (n e)
    | inr (inl l) ↦ absurd (omega arith)
    | inr (inr l) ↦ le-ltb x 1 (omega arith)
  ]

  over_on_first : (f d : Bool) (a u : ℕ) (cs : List Column) → over_on p G f d a 1 u cs ≡ 0
  over_on_first f d a u [] = refl
  over_on_first f d a u (c ∷ cs) = elim (cases_Bool (ends 0 c)) [
    | inl e ↦ over_on_end f d a 1 u c cs e
    | inr e ↦
        over_on_apart f d a 1 u c cs e
        ∙ ap₂ (λ g s. g + s) (ap₂ (λ l m. over_term p G f d a l m c.y u) (not_first c.x (no_end true 0 c e)) (not_first c.o (no_end false 0 c e))
        ∙ none_above f d a c.y u)
        (over_on_first f d a (crosses p 1 c u) cs)
  ]

  pub over_all_first : (f : Bool) (u : ℕ) (cs : List Column) → over_all p G f 1 u cs ≡ 0
  over_all_first f u [] = refl
  over_all_first f u (c ∷ cs) = elim (cases_Bool (ends 0 c)) [
    | inl e ↦ over_all_end f 1 u c cs e ∙ over_on_first f (not (rises c)) c.y (crosses p 1 c u) cs
    | inr e ↦ over_all_apart f 1 u c cs e ∙ over_all_first f (crosses p 1 c u) cs
  ]

  -- a column with its mark of kind e in row r, of the strand's colour, with the region u on the strand's right-hand side: one term
  pub over_right_end : Acts p → (d : Bool) (a : ℕ) (e : Bool) (r u : ℕ) (c : Column) → mark e c ≡ r → mark (not e) c ≢ r
      → over_term p G true d a (nat_lt c.x (left_height e r)) (nat_lt c.o (left_height e r)) c.y (p false c.y u)
      + over_term p G false d a (nat_lt c.x (right_height e r)) (nat_lt c.o (right_height e r)) c.y u + G d a c.y u
      ≡ over_term p G true d a (nat_lt c.x (right_height e r)) (nat_lt c.o (right_height e r)) c.y u
      + over_term p G false d a (nat_lt c.x (left_height e r)) (nat_lt c.o (left_height e r)) c.y (p false c.y u)
  over_right_end acts d a true r u c f n = elim (stands true r c f n) [
    | low b o b' o' up ↦ rw (b, o, b', o') (omega arith)
    | high b o b' o' up ↦ rw (b, o, b', o', acts.down_up c.y u) (omega arith)
  ]
  over_right_end acts d a false r u c f n = elim (stands false r c f n) [
    | low b o b' o' up ↦ rw (b, o, b', o', acts.down_up c.y u) (omega arith)
    | high b o b' o' up ↦ rw (b, o, b', o') (omega arith)
  ]

  -- and at a left end of a row that runs to a mark of kind e
  pub over_left_end : (d : Bool) (a : ℕ) (e : Bool) (r u : ℕ) (c : Column) → mark (not e) c ≡ r → mark e c ≢ r
      → over_term p G true d a (nat_lt c.x (left_height e r)) (nat_lt c.o (left_height e r)) c.y u
      + over_term p G false d a (nat_lt c.x (right_height e r)) (nat_lt c.o (right_height e r)) c.y u
      ≡ over_term p G true d a (nat_lt c.x (right_height e r)) (nat_lt c.o (right_height e r)) c.y u
      + over_term p G false d a (nat_lt c.x (left_height e r)) (nat_lt c.o (left_height e r)) c.y u + G d a c.y (beside p c u)
  over_left_end d a true r u c f n = elim (stands false r c f n) [
    | low b o b' o' up ↦ rw (b, o, b', o', up) (omega arith)
    | high b o b' o' up ↦ rw (b, o, b', o', up) (omega arith)
  ]
  over_left_end d a false r u c f n = elim (stands true r c f n) [
    | low b o b' o' up ↦ rw (b, o, b', o', up) (omega arith)
    | high b o b' o' up ↦ rw (b, o, b', o', up) (omega arith)
  ]
