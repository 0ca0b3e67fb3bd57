-- Rows r and r + 1 trade places, where the lower one has its ends between those of the upper one, or the two lie side by side; they may share a column.
-- What the upper row's sum changes by is what the lower row's sum changes by with the regions on the upper row's two sides.
use Rattle.std.proofs.Common.{◌≡◌, ◌≢◌, ◌∙◌, ◌+◌, ◌⊎◌, ℕ, suc, List, [], ◌∷◌, ap, ap₂, sym, refl, arith, inl, inr, subst, cond}
use Rattle.std.specs.Prelude.{Bool, true, false, nat_lt, if◌then◌else◌}
use Rattle.std.proofs.Math.Bool.{not}
use Rattle.std.proofs.lemmas.Bool.{cases_Bool, eqb-true, cond-true, cond-false, false≢true}
use Rattle.colour_laws.proofs.ColumnLists.{Acts, Column, ends, xs_in, os_in, crossed, crosses, relabel, swapped}
use Rattle.colour_laws.proofs.Actions.{crossed_carries, undo}
use Rattle.colour_laws.proofs.Rows.{on_at, on_end, on_apart, crosses_above}
use Rattle.colour_laws.proofs.Level.{xs_not_here, os_not_here}
use Rattle.colour_laws.proofs.RowSlides.{marks_end}
use Rattle.cocycle_core.proofs.Mod.{Same}
use Rattle.colour_weights.proofs.Marks.{mark, marks, marks_here, marks_later, other_mark, IsLeftOf, no_end}
use Rattle.colour_weights.proofs.ModSums.{plain, turn, by_one, by_two}
use Rattle.colour_weights.proofs.RowSums.{Weighs, before, after, gains, beside, sum_on, sum_row}
use Rattle.colour_weights.proofs.Gains.{gained_carries}
use Rattle.colour_weights.proofs.RowSteps.{sum_on_end, sum_on_apart, sum_row_end, sum_row_apart, gains_above, left_right, left_left, right_meet}
use Rattle.colour_weights.proofs.Over.{no_more}
use Rattle.colour_weights.proofs.WeightedLevel.{end_gain, end_crosses, start_gain, start_crosses, crossed_before, crossed_after}
use Rattle.colour_weights.proofs.Relabelled.{sum_turned, turned_end, turned_apart, sum_on_clear, turned_clear, turned_above}
use Rattle.colour_weights.proofs.Relabelled.{swapped_order, swapped_up, swapped_down}

-- the next mark of row r stands before that of row s, or in the same column
abbrev pub is_first : ℕ → ℕ → List Column → Bool
is_first r s [] = false
is_first r s (c ∷ cs) = if ends r c then true else if ends s c then false else is_first r s cs

-- behind the left end of row s: row r ends before row s does, or with it, or begins behind it, or with its end
abbrev pub is_within : ℕ → ℕ → List Column → Bool
is_within r s [] = false
is_within r s (c ∷ cs) = if ends s c then true else if ends r c then is_first r s cs else is_within r s cs

-- row r has its ends between those of row s, or the two lie side by side
abbrev pub is_inner : ℕ → ℕ → List Column → Bool
is_inner r s [] = false
is_inner r s (c ∷ cs) = if ends r c then is_first r s cs else if ends s c then is_within r s cs else is_inner r s cs

module _ (k : ℕ) (p : Bool → ℕ → ℕ → ℕ) (G : Bool → ℕ → ℕ → ℕ → ℕ) (acts : Acts p) (w : Weighs k p G) (r : ℕ) where
  -- columns with no mark in row r, at the height above both rows
  pub way_top : (c : Column) (a : ℕ) → ends r c ≡ false → ends (suc r) c ≡ false → crosses p (suc (suc r)) c a ≡ crosses p r c a
  way_top c a e f =
      crosses_above p (suc r) c a (no_end true (suc r) c f) (no_end false (suc r) c f)
      ∙ crosses_above p r c a (no_end true r c e) (no_end false r c e)

  pub way_mid : (c : Column) (a : ℕ) → ends r c ≡ false → crosses p (suc r) c a ≡ crosses p r c a
  way_mid c a e = crosses_above p r c a (no_end true r c e) (no_end false r c e)

  pub gain_top : (c : Column) (a u : ℕ) → ends r c ≡ false → ends (suc r) c ≡ false → gains G (suc (suc r)) c a u ≡ gains G r c a u
  gain_top c a u e f =
      gains_above p G (suc r) c a u (no_end true (suc r) c f) (no_end false (suc r) c f) ∙ gains_above p G r c a u (no_end true r c e) (no_end false r c e)

  pub gain_mid : (c : Column) (a u : ℕ) → ends r c ≡ false → gains G (suc r) c a u ≡ gains G r c a u
  gain_mid c a u e = gains_above p G r c a u (no_end true r c e) (no_end false r c e)

  -- the rows before and after
  abbrev low_was : ℕ → List Column → ℕ
  low_was u cs = sum_row p G r r u cs

  abbrev low_now : ℕ → List Column → ℕ
  low_now u cs = sum_turned p G (swapped r) (suc (suc r)) r u cs

  abbrev top_was : ℕ → List Column → ℕ
  top_was u cs = sum_row p G (suc r) (suc r) u cs

  abbrev top_now : ℕ → List Column → ℕ
  top_now u cs = sum_turned p G (swapped r) r (suc r) u cs

  -- the steps of is_first, is_within and is_inner
  pub first_here : (t : ℕ) (c : Column) (cs : List Column) → ends r c ≡ true → is_first r t (c ∷ cs) ≡ true
  first_here t c cs e = cond-true (ends r c) true (cond (ends t c) false (is_first r t cs)) e

  pub first_not : (c : Column) (cs : List Column) → ends r c ≡ false → ends (suc r) c ≡ true → is_first r (suc r) (c ∷ cs) ≡ true → ⊥
  first_not c cs e f first =
      false≢true (sym (cond-false (ends r c) true (cond (ends (suc r) c) false (is_first r (suc r) cs)) e
      ∙ cond-true (ends (suc r) c) false (is_first r (suc r) cs) f)
      ∙ first)

  pub first_later : (c : Column) (cs : List Column) → ends r c ≡ false → ends (suc r) c ≡ false → is_first r (suc r) (c ∷ cs) ≡ true
      → is_first r (suc r) cs ≡ true
  first_later c cs e f first =
      sym (cond-false (ends r c) true (cond (ends (suc r) c) false (is_first r (suc r) cs)) e ∙ cond-false (ends (suc r) c) false (is_first r (suc r) cs) f)
      ∙ first

  -- up to its right end the lower row passes no column of the upper one
  pub sum_first : (a u : ℕ) (cs : List Column) → is_first r (suc r) cs ≡ true → sum_on p G (suc (suc r)) r a u cs ≡ sum_on p G r r a u cs
  sum_first a u [] first = refl
  sum_first a u (c ∷ cs) first = elim (cases_Bool (ends r c)) [
    | inl e ↦ sum_on_end p G (suc (suc r)) r a u c cs e ∙ sym (sum_on_end p G r r a u c cs e)
    | inr e ↦ elim (cases_Bool (ends (suc r) c)) [
      | inl f ↦ absurd (first_not c cs e f first)
      | inr f ↦
          sum_on_apart p G (suc (suc r)) r a u c cs e
          ∙ ap₂ (λ g s. g + s) (gain_top c a u e f)
          (ap₂ (λ m n. sum_on p G (suc (suc r)) r m n cs) (way_top c a e f) (way_top c u e f)
          ∙ sum_first (crosses p r c a) (crosses p r c u) cs (first_later c cs e f first))
          ∙ sym (sum_on_apart p G r r a u c cs e)
    ]
  ]

  -- both rows are on their way, the lower one at colour a behind an action in direction d, and the upper one at colour v and region u when it is below
  abbrev AreOn : Bool → (a v u : ℕ) → List Column → Type 0
  AreOn d a v u cs =
      Same k (G d a v u + sum_on p G (suc r) (suc r) (p d a v) (p d a u) cs + sum_on p G r r a (before p d a v u) cs)
      (sum_on p G r (suc r) v u cs + sum_on p G r r a (after p d a v u) cs)

  pub on_end_alone : (d : Bool) (a v u : ℕ) (c : Column) (cs : List Column) → ends r c ≡ true → ends (suc r) c ≡ false → a ≡ c.y → mark (not d) c ≡ r
      → mark d c ≢ r → xs_in r cs ≡ 0 → os_in r cs ≡ 0 → AreOn d a v u (c ∷ cs)
  on_end_alone d a v u c cs e f same kind n ex eo =
      let end : Same k (G d a v u + gains G (suc r) c (p d a v) (p d a u)) (gains G r c v u) =
      subst (λ (b : ℕ). Same k (G d b v u + gains G (suc r) c (p d b v) (p d b u)) (gains G r c v u)) (sym same) (end_gain k p G acts w d r c kind n v u) in
      let goes : (m : ℕ) → crosses p (suc r) c (p d a m) ≡ crosses p r c m = λ m.
      ap (λ b. crosses p (suc r) c (p d b m)) same ∙ end_crosses k p G acts w d r c kind n m in
      let rest : sum_on p G (suc r) (suc r) (crosses p (suc r) c (p d a v)) (crosses p (suc r) c (p d a u)) cs
      ≡ sum_on p G r (suc r) (crosses p r c v) (crosses p r c u) cs =
      ap₂ (λ m n. sum_on p G (suc r) (suc r) m n cs) (goes v) (goes u) ∙ sum_on_clear p G r (suc r) (crosses p r c v) (crosses p r c u) cs ex eo in
      by_one end (omega (
        arith,
        rest,
        sum_on_apart p G (suc r) (suc r) (p d a v) (p d a u) c cs f,
        sum_on_apart p G r (suc r) v u c cs f,
        sum_on_end p G r r a (before p d a v u) c cs e,
        sum_on_end p G r r a (after p d a v u) c cs e,
      ))

  pub both_on : (d : Bool) (a v u : ℕ) (cs : List Column) → is_first r (suc r) cs ≡ true → on_at p r r a cs ≡ true → on_at p (suc r) (suc r) (p d a v) cs ≡ true
      → marks (not d) r cs ≡ 1 → marks d r cs ≡ 0 → AreOn d a v u cs
  both_on d a v u [] first low top one none = absurd (false≢true first)
  both_on d a v u (c ∷ cs) first low top one none = elim (cases_Bool (ends r c)) [
    | inl e ↦
        let same : a ≡ c.y = eqb-true a c.y (sym (on_end p r r a c cs e) ∙ low) in
        let n : mark d c ≢ r = λ h. absurd (omega (arith, marks_here d r c cs h, none)) in
        let kind : mark (not d) c ≡ r = turned_mark d c e n in
        elim (cases_Bool (ends (suc r) c)) [
          | inl f ↦
              let far : p d a v ≡ c.y = eqb-true (p d a v) c.y (sym (on_end p (suc r) (suc r) (p d a v) c cs f) ∙ top) in
              let at : v ≡ a = sym (undo p acts d a v) ∙ ap (p (not d) a) (far ∙ sym same) ∙ acts.fixed (not d) a in
              let own : Same k (G d a v u) 0 = subst (λ (b : ℕ). Same k (G d a b u) 0) (sym at) (w.own d a u) in
              by_one own (omega (
                arith,
                sum_on_end p G (suc r) (suc r) (p d a v) (p d a u) c cs f,
                sum_on_end p G r (suc r) v u c cs f,
                sum_on_end p G r r a (before p d a v u) c cs e,
                sum_on_end p G r r a (after p d a v u) c cs e,
              ))
          | inr f ↦
              let more = rest_clear d c cs kind n one none in
              on_end_alone d a v u c cs e f same kind n more.0 more.1
        ]
    | inr e ↦ elim (cases_Bool (ends (suc r) c)) [
      | inl f ↦ absurd (first_not c cs e f first)
      | inr f ↦
          let way : (b : ℕ) → crosses p (suc r) c (p d a b) ≡ p d (crosses p r c a) (crosses p r c b) = λ b.
          way_mid c (p d a b) e ∙ crossed_carries p acts d (nat_lt c.x r) (nat_lt c.o r) c.y a b in
          let rest = both_on d (crosses p r c a) (crosses p r c v) (crosses p r c u) cs (first_later c cs e f first) (sym (on_apart p r r a c cs e) ∙ low)
          (ap (λ b. on_at p (suc r) (suc r) b cs) (sym (way v)) ∙ sym (on_apart p (suc r) (suc r) (p d a v) c cs f) ∙ top)
          (sym (marks_later (not d) r c cs (no_end (not d) r c e)) ∙ one) (sym (marks_later d r c cs (no_end d r c e)) ∙ none) in
          let law = gained_carries k p G acts w d (nat_lt c.x r) (nat_lt c.o r) c.y a v u in
          let top_step : sum_on p G (suc r) (suc r) (p d a v) (p d a u) (c ∷ cs) ≡ gains G r c (p d a v) (p d a u) + sum_on p G (suc r) (suc r)
          (p d (crosses p r c a) (crosses p r c v)) (p d (crosses p r c a) (crosses p r c u)) cs =
          sum_on_apart p G (suc r) (suc r) (p d a v) (p d a u) c cs f
          ∙ ap₂ (λ g s. g + s) (gain_mid c (p d a v) (p d a u) e) (ap₂ (λ m n. sum_on p G (suc r) (suc r) m n cs) (way v) (way u)) in
          let one_step : sum_on p G r r a (before p d a v u) (c ∷ cs) ≡ gains G r c a (before p d a v u) + sum_on p G r r (crosses p r c a)
          (before p d (crosses p r c a) (crosses p r c v) (crosses p r c u)) cs =
          sum_on_apart p G r r a (before p d a v u) c cs e
          ∙ ap (λ b. gains G r c a (before p d a v u) + sum_on p G r r (crosses p r c a) b cs)
          (crossed_before k p G acts w d (nat_lt c.x r) (nat_lt c.o r) c.y a v u) in
          let two_step : sum_on p G r r a (after p d a v u) (c ∷ cs) ≡ gains G r c a (after p d a v u) + sum_on p G r r (crosses p r c a)
          (after p d (crosses p r c a) (crosses p r c v) (crosses p r c u)) cs =
          sum_on_apart p G r r a (after p d a v u) c cs e
          ∙ ap (λ b. gains G r c a (after p d a v u) + sum_on p G r r (crosses p r c a) b cs)
          (crossed_after k p G acts w d (nat_lt c.x r) (nat_lt c.o r) c.y a v u) in
          by_two law rest (omega (arith, top_step, one_step, two_step, sum_on_apart p G r (suc r) v u c cs f))
    ]
  ]
    where
      turned_mark : (d : Bool) (c : Column) → ends r c ≡ true → mark d c ≢ r → mark (not d) c ≡ r
      turned_mark true c e n = other_mark false r c e n
      turned_mark false c e n = other_mark true r c e n

      rest_clear : (d : Bool) (c : Column) (cs : List Column) → mark (not d) c ≡ r → mark d c ≢ r → marks (not d) r (c ∷ cs) ≡ 1 → marks d r (c ∷ cs) ≡ 0
          → (xs_in r cs ≡ 0) × (os_in r cs ≡ 0)
      rest_clear true c cs kind n one none =
          no_more true r cs (sym (marks_later true r c cs n) ∙ none) (omega (arith, marks_here false r c cs kind, one))
      rest_clear false c cs kind n one none =
          no_more true r cs (omega (arith, marks_here true r c cs kind, one)) (sym (marks_later false r c cs n) ∙ none)

  -- the regions below and above a strand at colour v whose right-hand side is below (true) or above (false), where u is the region there
  abbrev below : Bool → ℕ → ℕ → ℕ
  below e v u = cond e u (p false v u)

  abbrev above : Bool → ℕ → ℕ → ℕ
  above e v u = cond e (p false v u) u

  pub below_crossed : (e l m : Bool) (y v u : ℕ) → crossed p l m y (below e v u) ≡ below e (crossed p l m y v) (crossed p l m y u)
  below_crossed true l m y v u = refl
  below_crossed false l m y v u = crossed_carries p acts false l m y v u

  pub above_crossed : (e l m : Bool) (y v u : ℕ) → crossed p l m y (above e v u) ≡ above e (crossed p l m y v) (crossed p l m y u)
  above_crossed true l m y v u = crossed_carries p acts false l m y v u
  above_crossed false l m y v u = refl

  -- behind a left end in row t, and behind a right end
  pub left_below : (e : Bool) (t : ℕ) (c : Column) → mark (not e) c ≡ t → mark e c ≢ t → (u : ℕ) → crosses p t c u ≡ below e c.y (beside p c u)
  left_below true t c f n u = left_right p acts true t c f n u
  left_below false t c f n u = left_left p acts false t c f n u

  pub left_above : (e : Bool) (t : ℕ) (c : Column) → mark (not e) c ≡ t → mark e c ≢ t → (u : ℕ) → crosses p (suc t) c u ≡ above e c.y (beside p c u)
  left_above true t c f n u = left_left p acts true t c f n u
  left_above false t c f n u = left_right p acts false t c f n u

  pub ends_meet : (e : Bool) (t : ℕ) (c : Column) → mark e c ≡ t → mark (not e) c ≢ t → (u : ℕ)
      → crosses p t c (below e c.y u) ≡ crosses p (suc t) c (above e c.y u)
  ends_meet true t c f n u = right_meet p acts true t c f n u
  ends_meet false t c f n u = sym (right_meet p acts false t c f n u)

  -- a right end of one row that is the left end of the other: the regions on the right-hand side agree, since the column turns
  pub shared_right : (e : Bool) (c : Column) → mark e c ≡ suc r → mark (not e) c ≡ r → (u : ℕ)
      → beside p c (below e c.y u) ≡ beside p (relabel (swapped r) c) (above e c.y u)
  shared_right true c f g u = let way = swapped_down r c g f in rw (way.0, way.1) (sym (acts.down_up c.y u))
  shared_right false c f g u = let way = swapped_up r c g f in rw (way.0, way.1) (acts.down_up c.y u)

  pub shared_left : (e : Bool) (c : Column) → mark e c ≡ r → mark (not e) c ≡ suc r → (u : ℕ)
      → beside p c (above e c.y u) ≡ beside p (relabel (swapped r) c) (below e c.y u)
  shared_left true c f g u = let way = swapped_up r c f g in rw (way.0, way.1) (acts.down_up c.y u)
  shared_left false c f g u = let way = swapped_down r c f g in rw (way.0, way.1) (sym (acts.down_up c.y u))

  pub kept_beside : (c : Column) → (ends r c ≡ false) ⊎ (ends (suc r) c ≡ false) → (u : ℕ) → beside p (relabel (swapped r) c) u ≡ beside p c u
  kept_beside c out u = ap (λ b. cond b (p true c.y u) u) (elim out [
    | inl e ↦ swapped_order r c (λ f g. no_end true r c e f) (λ f g. no_end false r c e f)
    | inr e ↦ swapped_order r c (λ f g. no_end false (suc r) c e g) (λ f g. no_end true (suc r) c e g)
  ])

  -- the lower row, where the upper one is done: it doesn't matter where that was
  pub low_same : (u : ℕ) (cs : List Column) → xs_in (suc r) cs ≡ 0 → os_in (suc r) cs ≡ 0 → low_now u cs ≡ low_was u cs
  low_same u cs ex eo = turned_clear p G (swapped r) (suc r) r u cs ex eo ∙ turned_above p G (swapped r) r u cs ∙ kept u cs ex eo
    where
      kept : (u : ℕ) (cs : List Column) → xs_in (suc r) cs ≡ 0 → os_in (suc r) cs ≡ 0 → sum_turned p G (swapped r) r r u cs ≡ sum_row p G r r u cs
      kept u [] ex eo = refl
      kept u (c ∷ cs) ex eo =
          let f : ends (suc r) c ≡ false = no_mark_in (suc r) c cs ex eo in
          let later = later_clear (suc r) c cs f ex eo in
          elim (cases_Bool (ends r c)) [
            | inl e ↦
                turned_end p G (swapped r) r r u c cs e ∙ ap (λ b. sum_on p G r r c.y b cs) (kept_beside c (inr f) u) ∙ sym (sum_row_end p G r r u c cs e)
            | inr e ↦
                turned_apart p G (swapped r) r r u c cs e ∙ kept (crosses p r c u) cs later.0 later.1 ∙ sym (sum_row_apart p G r r u c cs e)
          ]
        where
          no_mark_in : (t : ℕ) (c : Column) (cs : List Column) → xs_in t (c ∷ cs) ≡ 0 → os_in t (c ∷ cs) ≡ 0 → ends t c ≡ false
          no_mark_in t c cs ex eo = elim (cases_Bool (ends t c)) [
            | inl e ↦ absurd (omega (arith, marks_end t c cs e, ex, eo))
            | inr e ↦ e
          ]

          later_clear : (t : ℕ) (c : Column) (cs : List Column) → ends t c ≡ false → xs_in t (c ∷ cs) ≡ 0 → os_in t (c ∷ cs) ≡ 0
              → (xs_in t cs ≡ 0) × (os_in t cs ≡ 0)
          later_clear t c cs e ex eo = (sym (xs_not_here t c cs (no_end true t c e)) ∙ ex, sym (os_not_here t c cs (no_end false t c e)) ∙ eo)

  -- the upper row, where the lower one is done
  pub top_same : (u : ℕ) (cs : List Column) → xs_in r cs ≡ 0 → os_in r cs ≡ 0 → top_now u cs ≡ top_was u cs
  top_same u [] ex eo = refl
  top_same u (c ∷ cs) ex eo =
      let e : ends r c ≡ false = elim (cases_Bool (ends r c)) [
        | inl e ↦ absurd (omega (arith, marks_end r c cs e, ex, eo))
        | inr e ↦ e
      ] in
      let ex' : xs_in r cs ≡ 0 = sym (xs_not_here r c cs (no_end true r c e)) ∙ ex in
      let eo' : os_in r cs ≡ 0 = sym (os_not_here r c cs (no_end false r c e)) ∙ eo in
      elim (cases_Bool (ends (suc r) c)) [
        | inl f ↦
            turned_end p G (swapped r) r (suc r) u c cs f ∙ ap (λ b. sum_on p G r (suc r) c.y b cs) (kept_beside c (inl e) u)
            ∙ sym (sum_on_clear p G r (suc r) c.y (beside p c u) cs ex' eo') ∙ sym (sum_row_end p G (suc r) (suc r) u c cs f)
        | inr f ↦
            turned_apart p G (swapped r) r (suc r) u c cs f ∙ top_same (crosses p r c u) cs ex' eo'
            ∙ ap (λ b. top_was b cs) (sym (way_mid c u e)) ∙ sym (sum_row_apart p G (suc r) (suc r) u c cs f)
      ]

  -- the two together: each sum counts as its row runs
  abbrev ArePaired : (low_way top_way : Bool) → (low now top top' : ℕ) → Type 0
  ArePaired b t low now top top' = Same k (cond b low now + cond t top top') (cond b now low + cond t top' top)

  pub paired_equal : (b t : Bool) (low now top top' : ℕ) → now ≡ low → top' ≡ top → ArePaired b t low now top top'
  paired_equal true true low now top top' e f = plain (omega (arith, e, f))
  paired_equal true false low now top top' e f = plain (omega (arith, e, f))
  paired_equal false true low now top top' e f = plain (omega (arith, e, f))
  paired_equal false false low now top top' e f = plain (omega (arith, e, f))

  -- the lower row begins inside the upper one, or with it
  pub begun : (e t : Bool) (c : Column) (cs : List Column) → IsLeftOf r c cs e → is_first r (suc r) cs ≡ true → on_at p r r c.y cs ≡ true
      → (v u : ℕ) → on_at p (suc r) (suc r) (crosses p (suc r) c v) cs ≡ true
      → ArePaired e t (sum_on p G r r c.y (beside p c (below t v u)) cs) (sum_on p G r r c.y (beside p c (above t v u)) cs)
      (gains G (suc r) c v u + sum_on p G (suc r) (suc r) (crosses p (suc r) c v) (crosses p (suc r) c u) cs)
      (gains G r c v u + sum_on p G r (suc r) (crosses p r c v) (crosses p r c u) cs)
  begun true t c cs known first low v u top =
      let v' : ℕ = crosses p r c v in
      let u' : ℕ = crosses p r c u in
      let found = both_on false c.y (crosses p r c v) (crosses p r c u) cs first low
      (ap (λ b. on_at p (suc r) (suc r) b cs) (sym (start_crosses k p G acts w false r c known.here known.not_here v)) ∙ top) known.one known.none in
      let start = start_gain k p G acts w false r c known.here known.not_here v u in
      let now : (m : ℕ) → crosses p r c m ≡ beside p c m = λ m. left_right p acts true r c known.here known.not_here m in
      let one : sum_on p G r r c.y (before p false c.y (crosses p r c v) (crosses p r c u)) cs ≡ sum_on p G r r c.y (beside p c u) cs =
      ap (λ b. sum_on p G r r c.y b cs) (now u) in
      let two : sum_on p G r r c.y (after p false c.y (crosses p r c v) (crosses p r c u)) cs ≡ sum_on p G r r c.y (beside p c (p false v u)) cs =
      ap (λ b. sum_on p G r r c.y b cs) (sym (crossed_carries p acts false (nat_lt c.x r) (nat_lt c.o r) c.y v u) ∙ now (p false v u)) in
      let up : sum_on p G (suc r) (suc r) (crosses p (suc r) c v) (crosses p (suc r) c u) cs
      ≡ sum_on p G (suc r) (suc r) (p false c.y (crosses p r c v)) (p false c.y (crosses p r c u)) cs =
      ap₂ (λ m n. sum_on p G (suc r) (suc r) m n cs) (start_crosses k p G acts w false r c known.here known.not_here v)
      (start_crosses k p G acts w false r c known.here known.not_here u) in
      by_side t (by_two found (turn start) (omega (arith, one, two, up)))
    where
      by_side : (t : Bool)
          → Same k (gains G (suc r) c v u + sum_on p G (suc r) (suc r) (crosses p (suc r) c v) (crosses p (suc r) c u) cs
          + sum_on p G r r c.y (beside p c u) cs)
          (gains G r c v u + sum_on p G r (suc r) (crosses p r c v) (crosses p r c u) cs + sum_on p G r r c.y (beside p c (p false v u)) cs)
          → ArePaired true t (sum_on p G r r c.y (beside p c (below t v u)) cs) (sum_on p G r r c.y (beside p c (above t v u)) cs)
          (gains G (suc r) c v u + sum_on p G (suc r) (suc r) (crosses p (suc r) c v) (crosses p (suc r) c u) cs)
          (gains G r c v u + sum_on p G r (suc r) (crosses p r c v) (crosses p r c u) cs)
      by_side true same = by_one same (omega arith)
      by_side false same = by_one (turn same) (omega arith)
  begun false t c cs known first low v u top =
      let found = both_on true c.y (crosses p r c v) (crosses p r c u) cs first low
      (ap (λ b. on_at p (suc r) (suc r) b cs) (sym (start_crosses k p G acts w true r c known.here known.not_here v)) ∙ top) known.one known.none in
      let start = start_gain k p G acts w true r c known.here known.not_here v u in
      let now : (m : ℕ) → p true c.y (crosses p r c m) ≡ beside p c m = λ m.
      ap (p true c.y) (left_left p acts false r c known.here known.not_here m) ∙ acts.down_up c.y (beside p c m) in
      let one : sum_on p G r r c.y (before p true c.y (crosses p r c v) (crosses p r c u)) cs ≡ sum_on p G r r c.y (beside p c (p false v u)) cs =
      ap (λ b. sum_on p G r r c.y b cs)
      (ap (p true c.y) (sym (crossed_carries p acts false (nat_lt c.x r) (nat_lt c.o r) c.y v u)) ∙ now (p false v u)) in
      let two : sum_on p G r r c.y (after p true c.y (crosses p r c v) (crosses p r c u)) cs ≡ sum_on p G r r c.y (beside p c u) cs =
      ap (λ b. sum_on p G r r c.y b cs) (now u) in
      let up : sum_on p G (suc r) (suc r) (crosses p (suc r) c v) (crosses p (suc r) c u) cs
      ≡ sum_on p G (suc r) (suc r) (p true c.y (crosses p r c v)) (p true c.y (crosses p r c u)) cs =
      ap₂ (λ m n. sum_on p G (suc r) (suc r) m n cs) (start_crosses k p G acts w true r c known.here known.not_here v)
      (start_crosses k p G acts w true r c known.here known.not_here u) in
      by_side t (by_two found (turn start) (omega (arith, one, two, up)))
    where
      by_side : (t : Bool)
          → Same k (gains G (suc r) c v u + sum_on p G (suc r) (suc r) (crosses p (suc r) c v) (crosses p (suc r) c u) cs
          + sum_on p G r r c.y (beside p c (p false v u)) cs)
          (gains G r c v u + sum_on p G r (suc r) (crosses p r c v) (crosses p r c u) cs + sum_on p G r r c.y (beside p c u) cs)
          → ArePaired false t (sum_on p G r r c.y (beside p c (below t v u)) cs) (sum_on p G r r c.y (beside p c (above t v u)) cs)
          (gains G (suc r) c v u + sum_on p G (suc r) (suc r) (crosses p (suc r) c v) (crosses p (suc r) c u) cs)
          (gains G r c v u + sum_on p G r (suc r) (crosses p r c v) (crosses p r c u) cs)
      by_side true same = by_one same (omega arith)
      by_side false same = by_one (turn same) (omega arith)
