-- Rows r and r + 1 trade places: all cases of where they begin and end.
use Rattle.std.proofs.Common.{◌≡◌, ◌≢◌, ◌∙◌, ◌+◌, ℕ, suc, List, [], ◌∷◌, ap, ap₂, sym, arith, inl, inr, subst, cond}
use Rattle.std.specs.Prelude.{Bool, true, false, nat_lt, ◌==◌}
use Rattle.std.proofs.Math.Bool.{not}
use Rattle.std.proofs.lemmas.Bool.{cases_Bool, eq-eqb, ne_eqb, eqb-true, cond-true, cond-false, false≢true}
use Rattle.colour_laws.proofs.ColumnLists.{Acts, Column, ends, xs_in, os_in, crosses, relabel, swapped}
use Rattle.colour_laws.proofs.Rows.{on_at, row_at, row_end, row_apart, on_end, on_apart}
use Rattle.colour_laws.proofs.Level.{xs_not_here, os_not_here}
use Rattle.cocycle_core.proofs.Mod.{Same}
use Rattle.colour_weights.proofs.Ways.{rightward, rightward_end, rightward_apart}
use Rattle.colour_weights.proofs.Marks.{mark, marks, marks_here, marks_later, other_mark, IsLeftOf, left_of, left_kind, no_end}
use Rattle.colour_weights.proofs.ModSums.{turn, by_one, by_two}
use Rattle.colour_weights.proofs.RowSums.{Weighs, before, after, gains, beside, sum_on, sum_row}
use Rattle.colour_weights.proofs.RowSteps.{sum_on_end, sum_on_apart, sum_row_end, sum_row_apart}
use Rattle.colour_weights.proofs.Over.{no_more}
use Rattle.colour_weights.proofs.Relabelled.{sum_turned, turned_end, turned_apart, sum_on_clear, sum_on_above, swapped_up, swapped_down}
use Rattle.colour_weights.proofs.PairedRows.{is_first, is_within, is_inner, way_top, way_mid, gain_mid, first_not, first_later, sum_first, both_on}
use Rattle.colour_weights.proofs.PairedRows.{below_crossed, above_crossed, left_below, left_above, ends_meet, shared_right, shared_left, kept_beside, low_same}
use Rattle.colour_weights.proofs.PairedRows.{top_same, paired_equal, begun}

module _ (k : ℕ) (p : Bool → ℕ → ℕ → ℕ) (G : Bool → ℕ → ℕ → ℕ → ℕ) (acts : Acts p) (w : Weighs k p G) (r : ℕ) where
  abbrev low_was : ℕ → List Column → ℕ
  low_was u cs = sum_row p G r r u cs

  abbrev low_now : ℕ → List Column → ℕ
  low_now u cs = sum_turned p G (swapped r) (suc (suc r)) r u cs

  abbrev top_was : ℕ → List Column → ℕ
  top_was u cs = sum_row p G (suc r) (suc r) u cs

  abbrev top_now : ℕ → List Column → ℕ
  top_now u cs = sum_turned p G (swapped r) r (suc r) u cs

  abbrev AreOn : Bool → (a v u : ℕ) → List Column → Type 0
  AreOn d a v u cs =
      Same k (G d a v u + sum_on p G (suc r) (suc r) (p d a v) (p d a u) cs + sum_on p G r r a (before p d a v u) cs)
      (sum_on p G r (suc r) v u cs + sum_on p G r r a (after p d a v u) cs)

  abbrev below : Bool → ℕ → ℕ → ℕ
  below e v u = cond e u (p false v u)

  abbrev above : Bool → ℕ → ℕ → ℕ
  above e v u = cond e (p false v u) u

  abbrev ArePaired : (low_way top_way : Bool) → (low now top top' : ℕ) → Type 0
  ArePaired b t low now top top' = Same k (cond b low now + cond t top top') (cond b now low + cond t top' top)

  -- the upper row is on its way at colour v, with region u on its right-hand side, and the lower one has not begun k p G acts w r
  paired_within : (t : Bool) (v u : ℕ) (cs : List Column) → is_within r (suc r) cs ≡ true → row_at p r r cs ≡ true → xs_in r cs ≡ 1 → os_in r cs ≡ 1
      → on_at p (suc r) (suc r) v cs ≡ true → marks t (suc r) cs ≡ 1 → marks (not t) (suc r) cs ≡ 0
      → ArePaired (rightward r cs) t (low_was (below t v u) cs) (low_now (above t v u) cs) (sum_on p G (suc r) (suc r) v u cs) (sum_on p G r (suc r) v u cs)
  paired_within t v u [] within row ex eo top one none = absurd (false≢true within)
  paired_within t v u (c ∷ cs) within row ex eo top one none = elim (cases_Bool (ends (suc r) c)) [
    | inl f ↦
        let at : v ≡ c.y = eqb-true v c.y (sym (on_end p (suc r) (suc r) v c cs f) ∙ top) in
        let not_other : mark (not t) c ≢ suc r = λ h. absurd (omega (arith, marks_here (not t) (suc r) c cs h, none)) in
        let kind : mark t c ≡ suc r = other_mark t (suc r) c f not_other in
        let more = no_more t (suc r) cs (omega (arith, marks_here t (suc r) c cs kind, one)) (sym (marks_later (not t) (suc r) c cs not_other) ∙ none) in
        let lower_region : (z : ℕ) → below t v z ≡ below t c.y z = λ z. ap (λ b. below t b z) at in
        let upper_region : (z : ℕ) → above t v z ≡ above t c.y z = λ z. ap (λ b. above t b z) at in
        let top_none : sum_on p G r (suc r) v u (c ∷ cs) ≡ sum_on p G (suc r) (suc r) v u (c ∷ cs) =
        sum_on_end p G r (suc r) v u c cs f ∙ sym (sum_on_end p G (suc r) (suc r) v u c cs f) in
        elim (cases_Bool (ends r c)) [
          | inl e ↦
              let other : mark (not t) c ≡ r = shared_mark t c e kind in
              let now : low_now (above t v u) (c ∷ cs) ≡ low_was (below t v u) (c ∷ cs) =
              turned_end p G (swapped r) (suc (suc r)) r (above t v u) c cs e
              ∙ ap (λ b. sum_on p G (suc (suc r)) r c.y b cs)
              (ap (beside p (relabel (swapped r) c)) (upper_region u) ∙ sym (shared_right k p G acts w r t c kind other u)
              ∙ ap (beside p c) (sym (lower_region u)))
              ∙ sum_on_clear p G (suc r) r c.y (beside p c (below t v u)) cs more.0 more.1
              ∙ sum_on_above p G r c.y (beside p c (below t v u)) cs
              ∙ sym (sum_row_end p G r r (below t v u) c cs e) in
              paired_equal k p G acts w r (rightward r (c ∷ cs)) t (low_was (below t v u) (c ∷ cs)) (low_now (above t v u) (c ∷ cs))
              (sum_on p G (suc r) (suc r) v u (c ∷ cs)) (sum_on p G r (suc r) v u (c ∷ cs)) now top_none
          | inr e ↦
              let meet : crosses p (suc (suc r)) c (above t v u) ≡ crosses p r c (below t v u) =
              ap (crosses p (suc (suc r)) c) (upper_region u) ∙ sym (ends_meet k p G acts w r t (suc r) c kind not_other u)
              ∙ ap (crosses p (suc r) c) (sym (lower_region u)) ∙ way_mid k p G acts w r c (below t v u) e in
              let now : low_now (above t v u) (c ∷ cs) ≡ low_was (below t v u) (c ∷ cs) =
              turned_apart p G (swapped r) (suc (suc r)) r (above t v u) c cs e
              ∙ ap (λ b. low_now b cs) meet ∙ low_same k p G acts w r (crosses p r c (below t v u)) cs more.0 more.1
              ∙ sym (sum_row_apart p G r r (below t v u) c cs e) in
              paired_equal k p G acts w r (rightward r (c ∷ cs)) t (low_was (below t v u) (c ∷ cs)) (low_now (above t v u) (c ∷ cs))
              (sum_on p G (suc r) (suc r) v u (c ∷ cs)) (sum_on p G r (suc r) v u (c ∷ cs)) now top_none
        ]
    | inr f ↦ elim (cases_Bool (ends r c)) [
      | inl e ↦
          let first : is_first r (suc r) cs ≡ true =
          sym (cond-false (ends (suc r) c) true (cond (ends r c) (is_first r (suc r) cs) (is_within r (suc r) cs)) f
          ∙ cond-true (ends r c) (is_first r (suc r) cs) (is_within r (suc r) cs) e) ∙ within in
          let low = sym (row_end p r r c cs e) ∙ row in
          elim (left_kind p r r c cs e low ex eo) [
            | left_of way known ↦
                let is : rightward r (c ∷ cs) ≡ way = rightward_end r c cs e ∙ known.way in
                let found = begun k p G acts w r way t c cs known first low v u (sym (on_apart p (suc r) (suc r) v c cs f) ∙ top) in
                let was : low_was (below t v u) (c ∷ cs) ≡ sum_on p G r r c.y (beside p c (below t v u)) cs = sum_row_end p G r r (below t v u) c cs e in
                let now : low_now (above t v u) (c ∷ cs) ≡ sum_on p G r r c.y (beside p c (above t v u)) cs =
                turned_end p G (swapped r) (suc (suc r)) r (above t v u) c cs e
                ∙ ap (λ b. sum_on p G (suc (suc r)) r c.y b cs) (kept_beside k p G acts w r c (inr f) (above t v u))
                ∙ sum_first k p G acts w r c.y (beside p c (above t v u)) cs first in
                let one' = sum_on_apart p G (suc r) (suc r) v u c cs f in
                let two' = sum_on_apart p G r (suc r) v u c cs f in
                subst (λ (b : Bool). ArePaired b t (low_was (below t v u) (c ∷ cs)) (low_now (above t v u) (c ∷ cs))
                (sum_on p G (suc r) (suc r) v u (c ∷ cs)) (sum_on p G r (suc r) v u (c ∷ cs))) (sym is)
                (paired_as way t was now one' two' found)
          ]
      | inr e ↦
          let within' : is_within r (suc r) cs ≡ true =
          sym (cond-false (ends (suc r) c) true (cond (ends r c) (is_first r (suc r) cs) (is_within r (suc r) cs)) f
          ∙ cond-false (ends r c) (is_first r (suc r) cs) (is_within r (suc r) cs) e) ∙ within in
          let x : c.x ≢ r = no_end true r c e in
          let o : c.o ≢ r = no_end false r c e in
          let rest = paired_within t (crosses p r c v) (crosses p r c u) cs within' (sym (row_apart p r r c cs e) ∙ row) (sym (xs_not_here r c cs x) ∙ ex)
          (sym (os_not_here r c cs o) ∙ eo)
          (ap (λ b. on_at p (suc r) (suc r) b cs) (sym (way_mid k p G acts w r c v e)) ∙ sym (on_apart p (suc r) (suc r) v c cs f) ∙ top)
          (sym (marks_later t (suc r) c cs (no_end t (suc r) c f)) ∙ one) (sym (marks_later (not t) (suc r) c cs (no_end (not t) (suc r) c f)) ∙ none) in
          let was : low_was (below t v u) (c ∷ cs) ≡ low_was (below t (crosses p r c v) (crosses p r c u)) cs =
          sum_row_apart p G r r (below t v u) c cs e ∙ ap (λ b. low_was b cs) (below_crossed k p G acts w r t (nat_lt c.x r) (nat_lt c.o r) c.y v u) in
          let now : low_now (above t v u) (c ∷ cs) ≡ low_now (above t (crosses p r c v) (crosses p r c u)) cs =
          turned_apart p G (swapped r) (suc (suc r)) r (above t v u) c cs e
          ∙ ap (λ b. low_now b cs) (way_top k p G acts w r c (above t v u) e f ∙ above_crossed k p G acts w r t (nat_lt c.x r) (nat_lt c.o r) c.y v u) in
          let one' : sum_on p G (suc r) (suc r) v u (c ∷ cs) ≡ gains G r c v u + sum_on p G (suc r) (suc r) (crosses p r c v) (crosses p r c u) cs =
          sum_on_apart p G (suc r) (suc r) v u c cs f
          ∙ ap₂ (λ g s. g + s) (gain_mid k p G acts w r c v u e) (ap₂ (λ m n. sum_on p G (suc r) (suc r) m n cs) (way_mid k p G acts w r c v e)
          (way_mid k p G acts w r c u e)) in
          let two' = sum_on_apart p G r (suc r) v u c cs f in
          subst (λ (b : Bool). ArePaired b t (low_was (below t v u) (c ∷ cs)) (low_now (above t v u) (c ∷ cs))
          (sum_on p G (suc r) (suc r) v u (c ∷ cs)) (sum_on p G r (suc r) v u (c ∷ cs))) (sym (rightward_apart r c cs e))
          (paired_more (rightward r cs) t (gains G r c v u) _ _ _ _ was now one' two' rest)
    ]
  ]
    where
      shared_mark : (t : Bool) (c : Column) → ends r c ≡ true → mark t c ≡ suc r → mark (not t) c ≡ r
      shared_mark true c e kind = other_mark false r c e (λ h. absurd (omega (arith, h, kind)))
      shared_mark false c e kind = other_mark true r c e (λ h. absurd (omega (arith, h, kind)))

      paired_as : (b t : Bool) {low now top top' l n m m' : ℕ} → l ≡ low → n ≡ now → m ≡ top → m' ≡ top' → ArePaired b t low now top top'
          → ArePaired b t l n m m'
      paired_as true true a b c d same = by_one same (omega (arith, a, b, c, d))
      paired_as true false a b c d same = by_one same (omega (arith, a, b, c, d))
      paired_as false true a b c d same = by_one same (omega (arith, a, b, c, d))
      paired_as false false a b c d same = by_one same (omega (arith, a, b, c, d))

      paired_more : (b t : Bool) (g low now top top' : ℕ) {l n m m' : ℕ} → l ≡ low → n ≡ now → m ≡ g + top → m' ≡ g + top'
          → ArePaired b t low now top top' → ArePaired b t l n m m'
      paired_more true true g low now top top' a b c d same = by_one same (omega (arith, a, b, c, d))
      paired_more true false g low now top top' a b c d same = by_one same (omega (arith, a, b, c, d))
      paired_more false true g low now top top' a b c d same = by_one same (omega (arith, a, b, c, d))
      paired_more false false g low now top top' a b c d same = by_one same (omega (arith, a, b, c, d))

  -- the lower row is on its way, and the upper one begins behind it, or with its end: nothing changes
  top_behind : (e : Bool) (a u : ℕ) (cs : List Column) → is_first r (suc r) cs ≡ true → on_at p r r a cs ≡ true → marks e r cs ≡ 1 → marks (not e) r cs ≡ 0
      → top_now (below e a u) cs ≡ top_was (above e a u) cs
  top_behind e a u [] first low one none = absurd (false≢true first)
  top_behind e a u (c ∷ cs) first low one none = elim (cases_Bool (ends r c)) [
    | inl h ↦
        let at : a ≡ c.y = eqb-true a c.y (sym (on_end p r r a c cs h) ∙ low) in
        let not_other : mark (not e) c ≢ r = λ g. absurd (omega (arith, marks_here (not e) r c cs g, none)) in
        let kind : mark e c ≡ r = other_mark e r c h not_other in
        let more = no_more e r cs (omega (arith, marks_here e r c cs kind, one)) (sym (marks_later (not e) r c cs not_other) ∙ none) in
        let lower_region : below e a u ≡ below e c.y u = ap (λ b. below e b u) at in
        let upper_region : above e a u ≡ above e c.y u = ap (λ b. above e b u) at in
        elim (cases_Bool (ends (suc r) c)) [
          | inl f ↦
              let other : mark (not e) c ≡ suc r = shared_mark e c f kind in
              turned_end p G (swapped r) r (suc r) (below e a u) c cs f
              ∙ ap (λ b. sum_on p G r (suc r) c.y b cs)
              (ap (beside p (relabel (swapped r) c)) lower_region ∙ sym (shared_left k p G acts w r e c kind other u) ∙ ap (beside p c) (sym upper_region))
              ∙ sym (sum_on_clear p G r (suc r) c.y (beside p c (above e a u)) cs more.0 more.1)
              ∙ sym (sum_row_end p G (suc r) (suc r) (above e a u) c cs f)
          | inr f ↦
              let meet : crosses p r c (below e a u) ≡ crosses p (suc r) c (above e a u) =
              ap (crosses p r c) lower_region ∙ ends_meet k p G acts w r e r c kind not_other u ∙ ap (crosses p (suc r) c) (sym upper_region) in
              turned_apart p G (swapped r) r (suc r) (below e a u) c cs f ∙ ap (λ b. top_now b cs) meet
              ∙ top_same k p G acts w r (crosses p (suc r) c (above e a u)) cs more.0 more.1 ∙ sym (sum_row_apart p G (suc r) (suc r) (above e a u) c cs f)
        ]
    | inr h ↦ elim (cases_Bool (ends (suc r) c)) [
      | inl f ↦ absurd (first_not k p G acts w r c cs h f first)
      | inr f ↦
          let rest = top_behind e (crosses p r c a) (crosses p r c u) cs (first_later k p G acts w r c cs h f first) (sym (on_apart p r r a c cs h) ∙ low)
          (sym (marks_later e r c cs (no_end e r c h)) ∙ one) (sym (marks_later (not e) r c cs (no_end (not e) r c h)) ∙ none) in
          turned_apart p G (swapped r) r (suc r) (below e a u) c cs f
          ∙ ap (λ b. top_now b cs) (below_crossed k p G acts w r e (nat_lt c.x r) (nat_lt c.o r) c.y a u) ∙ rest
          ∙ ap (λ b. top_was b cs) (sym (way_mid k p G acts w r c (above e a u) h ∙ above_crossed k p G acts w r e (nat_lt c.x r) (nat_lt c.o r) c.y a u))
          ∙ sym (sum_row_apart p G (suc r) (suc r) (above e a u) c cs f)
    ]
  ]
    where
      shared_mark : (e : Bool) (c : Column) → ends (suc r) c ≡ true → mark e c ≡ r → mark (not e) c ≡ suc r
      shared_mark true c f kind = other_mark false (suc r) c f (λ h. absurd (omega (arith, h, kind)))
      shared_mark false c f kind = other_mark true (suc r) c f (λ h. absurd (omega (arith, h, kind)))

  -- the whole
  pub paired : (u : ℕ) (cs : List Column) → is_inner r (suc r) cs ≡ true → row_at p r r cs ≡ true → xs_in r cs ≡ 1 → os_in r cs ≡ 1
      → row_at p (suc r) (suc r) cs ≡ true → xs_in (suc r) cs ≡ 1 → os_in (suc r) cs ≡ 1
      → ArePaired (rightward r cs) (rightward (suc r) cs) (low_was u cs) (low_now u cs) (top_was u cs) (top_now u cs)
  paired u [] inner row ex eo row' ex' eo' = absurd (false≢true inner)
  paired u (c ∷ cs) inner row ex eo row' ex' eo' = elim (cases_Bool (ends r c)) [
    | inl e ↦
        let first : is_first r (suc r) cs ≡ true =
        sym (cond-true (ends r c) (is_first r (suc r) cs) (cond (ends (suc r) c) (is_within r (suc r) cs) (is_inner r (suc r) cs)) e) ∙ inner in
        let low = sym (row_end p r r c cs e) ∙ row in
        elim (left_kind p r r c cs e low ex eo) [
          | left_of way known ↦
              let is : rightward r (c ∷ cs) ≡ way = rightward_end r c cs e ∙ known.way in
              elim (cases_Bool (ends (suc r) c)) [
                | inl f ↦
                    let top = sym (row_end p (suc r) (suc r) c cs f) ∙ row' in
                    subst (λ (b : Bool). ArePaired b (rightward (suc r) (c ∷ cs)) (low_was u (c ∷ cs)) (low_now u (c ∷ cs)) (top_was u (c ∷ cs))
                    (top_now u (c ∷ cs)))
                    (sym is)
                    (subst (λ (t : Bool). ArePaired way t (low_was u (c ∷ cs)) (low_now u (c ∷ cs)) (top_was u (c ∷ cs)) (top_now u (c ∷ cs)))
                    (sym (rightward_end (suc r) c cs f))
                    (with_both way c cs known e f first low top u))
                | inr f ↦
                    let was : low_was u (c ∷ cs) ≡ sum_on p G r r c.y (beside p c u) cs = sum_row_end p G r r u c cs e in
                    let now : low_now u (c ∷ cs) ≡ low_was u (c ∷ cs) =
                    turned_end p G (swapped r) (suc (suc r)) r u c cs e
                    ∙ ap (λ b. sum_on p G (suc (suc r)) r c.y b cs) (kept_beside k p G acts w r c (inr f) u)
                    ∙ sum_first k p G acts w r c.y (beside p c u) cs first ∙ sym was in
                    let top_is : top_now u (c ∷ cs) ≡ top_was u (c ∷ cs) =
                    turned_apart p G (swapped r) r (suc r) u c cs f
                    ∙ ap (λ b. top_now b cs) (left_below k p G acts w r way r c known.here known.not_here u)
                    ∙ top_behind way c.y (beside p c u) cs first low known.one known.none
                    ∙ ap (λ b. top_was b cs) (sym (left_above k p G acts w r way r c known.here known.not_here u))
                    ∙ sym (sum_row_apart p G (suc r) (suc r) u c cs f) in
                    paired_equal k p G acts w r (rightward r (c ∷ cs)) (rightward (suc r) (c ∷ cs)) (low_was u (c ∷ cs)) (low_now u (c ∷ cs))
                    (top_was u (c ∷ cs))
                    (top_now u (c ∷ cs)) now top_is
              ]
        ]
    | inr e ↦
        let x : c.x ≢ r = no_end true r c e in
        let o : c.o ≢ r = no_end false r c e in
        let later = sym (row_apart p r r c cs e) ∙ row in
        elim (cases_Bool (ends (suc r) c)) [
          | inl f ↦
              let within : is_within r (suc r) cs ≡ true =
              sym (cond-false (ends r c) (is_first r (suc r) cs) (cond (ends (suc r) c) (is_within r (suc r) cs) (is_inner r (suc r) cs)) e
              ∙ cond-true (ends (suc r) c) (is_within r (suc r) cs) (is_inner r (suc r) cs) f) ∙ inner in
              let top = sym (row_end p (suc r) (suc r) c cs f) ∙ row' in
              elim (left_kind p (suc r) (suc r) c cs f top ex' eo') [
                | left_of way known ↦
                    let is : rightward (suc r) (c ∷ cs) ≡ way = rightward_end (suc r) c cs f ∙ known.way in
                    let found = paired_within way c.y (beside p c u) cs within later (sym (xs_not_here r c cs x) ∙ ex) (sym (os_not_here r c cs o) ∙ eo) top
                    known.one known.none in
                    let was : low_was u (c ∷ cs) ≡ low_was (below way c.y (beside p c u)) cs =
                    sum_row_apart p G r r u c cs e
                    ∙ ap (λ b. low_was b cs) (sym (way_mid k p G acts w r c u e) ∙ left_below k p G acts w r way (suc r) c known.here known.not_here u) in
                    let now : low_now u (c ∷ cs) ≡ low_now (above way c.y (beside p c u)) cs =
                    turned_apart p G (swapped r) (suc (suc r)) r u c cs e
                    ∙ ap (λ b. low_now b cs) (left_above k p G acts w r way (suc r) c known.here known.not_here u) in
                    let top_is : top_was u (c ∷ cs) ≡ sum_on p G (suc r) (suc r) c.y (beside p c u) cs = sum_row_end p G (suc r) (suc r) u c cs f in
                    let top_new : top_now u (c ∷ cs) ≡ sum_on p G r (suc r) c.y (beside p c u) cs =
                    turned_end p G (swapped r) r (suc r) u c cs f ∙ ap (λ b. sum_on p G r (suc r) c.y b cs) (kept_beside k p G acts w r c (inl e) u) in
                    subst (λ (b : Bool). ArePaired b (rightward (suc r) (c ∷ cs)) (low_was u (c ∷ cs)) (low_now u (c ∷ cs)) (top_was u (c ∷ cs))
                    (top_now u (c ∷ cs)))
                    (sym (rightward_apart r c cs e))
                    (subst (λ (t : Bool). ArePaired (rightward r cs) t (low_was u (c ∷ cs)) (low_now u (c ∷ cs)) (top_was u (c ∷ cs)) (top_now u (c ∷ cs)))
                    (sym is)
                    (paired_as (rightward r cs) way was now top_is top_new found))
              ]
          | inr f ↦
              let inner' : is_inner r (suc r) cs ≡ true =
              sym (cond-false (ends r c) (is_first r (suc r) cs) (cond (ends (suc r) c) (is_within r (suc r) cs) (is_inner r (suc r) cs)) e
              ∙ cond-false (ends (suc r) c) (is_within r (suc r) cs) (is_inner r (suc r) cs) f) ∙ inner in
              let x' : c.x ≢ suc r = no_end true (suc r) c f in
              let o' : c.o ≢ suc r = no_end false (suc r) c f in
              let found = paired (crosses p r c u) cs inner' later (sym (xs_not_here r c cs x) ∙ ex) (sym (os_not_here r c cs o) ∙ eo)
              (sym (row_apart p (suc r) (suc r) c cs f) ∙ row') (sym (xs_not_here (suc r) c cs x') ∙ ex') (sym (os_not_here (suc r) c cs o') ∙ eo') in
              let was : low_was u (c ∷ cs) ≡ low_was (crosses p r c u) cs = sum_row_apart p G r r u c cs e in
              let now : low_now u (c ∷ cs) ≡ low_now (crosses p r c u) cs =
              turned_apart p G (swapped r) (suc (suc r)) r u c cs e ∙ ap (λ b. low_now b cs) (way_top k p G acts w r c u e f) in
              let top_is : top_was u (c ∷ cs) ≡ top_was (crosses p r c u) cs =
              sum_row_apart p G (suc r) (suc r) u c cs f ∙ ap (λ b. top_was b cs) (way_mid k p G acts w r c u e) in
              let top_new : top_now u (c ∷ cs) ≡ top_now (crosses p r c u) cs = turned_apart p G (swapped r) r (suc r) u c cs f in
              subst (λ (b : Bool). ArePaired b (rightward (suc r) (c ∷ cs)) (low_was u (c ∷ cs)) (low_now u (c ∷ cs)) (top_was u (c ∷ cs)) (top_now u (c ∷ cs)))
              (sym (rightward_apart r c cs e))
              (subst (λ (t : Bool). ArePaired (rightward r cs) t (low_was u (c ∷ cs)) (low_now u (c ∷ cs)) (top_was u (c ∷ cs)) (top_now u (c ∷ cs)))
              (sym (rightward_apart (suc r) c cs f))
              (paired_as (rightward r cs) (rightward (suc r) cs) was now top_is top_new found))
        ]
  ]
    where
      paired_as : (b t : Bool) {low now top top' l n m m' : ℕ} → l ≡ low → n ≡ now → m ≡ top → m' ≡ top' → ArePaired b t low now top top'
          → ArePaired b t l n m m'
      paired_as true true a b c d same = by_one same (omega (arith, a, b, c, d))
      paired_as true false a b c d same = by_one same (omega (arith, a, b, c, d))
      paired_as false true a b c d same = by_one same (omega (arith, a, b, c, d))
      paired_as false false a b c d same = by_one same (omega (arith, a, b, c, d))

      -- both begin in one column, which turns
      with_both : (e : Bool) (c : Column) (cs : List Column) → IsLeftOf r c cs e → ends r c ≡ true → ends (suc r) c ≡ true → is_first r (suc r) cs ≡ true
          → on_at p r r c.y cs ≡ true → on_at p (suc r) (suc r) c.y cs ≡ true → (u : ℕ)
          → ArePaired e (c.o == suc r) (low_was u (c ∷ cs)) (low_now u (c ∷ cs)) (top_was u (c ∷ cs)) (top_now u (c ∷ cs))
      with_both true c cs known e f first low top u =
          let cross : c.x ≡ suc r = other_mark true (suc r) c f (λ h. absurd (omega (arith, h, known.here))) in
          let way = swapped_down r c known.here cross in
          let t : (c.o == suc r) ≡ false = ne_eqb c.o (suc r) (λ h. absurd (omega (arith, h, known.here))) in
          let same : beside p c u ≡ u = ap (λ b. cond b (p true c.y u) u) way.0 in
          let new : beside p (relabel (swapped r) c) u ≡ p true c.y u = ap (λ b. cond b (p true c.y u) u) way.1 in
          let found = both_on k p G acts w r false c.y c.y (p true c.y u) cs first low
          (ap (λ b. on_at p (suc r) (suc r) b cs) (acts.fixed false c.y) ∙ top) known.one known.none in
          let back : p false c.y (p true c.y u) ≡ u = acts.up_down c.y u in
          let was : low_was u (c ∷ cs) ≡ sum_on p G r r c.y u cs = sum_row_end p G r r u c cs e ∙ ap (λ b. sum_on p G r r c.y b cs) same in
          let now : low_now u (c ∷ cs) ≡ sum_on p G r r c.y (p true c.y u) cs =
          turned_end p G (swapped r) (suc (suc r)) r u c cs e ∙ ap (λ b. sum_on p G (suc (suc r)) r c.y b cs) new
          ∙ sum_first k p G acts w r c.y (p true c.y u) cs first in
          let top_is : top_was u (c ∷ cs) ≡ sum_on p G (suc r) (suc r) (p false c.y c.y) (p false c.y (p true c.y u)) cs =
          sum_row_end p G (suc r) (suc r) u c cs f
          ∙ ap₂ (λ m n. sum_on p G (suc r) (suc r) m n cs) (sym (acts.fixed false c.y)) (same ∙ sym back) in
          let top_new : top_now u (c ∷ cs) ≡ sum_on p G r (suc r) c.y (p true c.y u) cs =
          turned_end p G (swapped r) r (suc r) u c cs f ∙ ap (λ b. sum_on p G r (suc r) c.y b cs) new in
          let last : sum_on p G r r c.y (p false c.y (p true c.y u)) cs ≡ sum_on p G r r c.y u cs = ap (λ b. sum_on p G r r c.y b cs) back in
          subst (λ (b : Bool). ArePaired true b (low_was u (c ∷ cs)) (low_now u (c ∷ cs)) (top_was u (c ∷ cs)) (top_now u (c ∷ cs))) (sym t)
          (by_two (turn found) (w.own false c.y (p true c.y u)) (omega (arith, was, now, top_is, top_new, last)))
      with_both false c cs known e f first low top u =
          let ring : c.o ≡ suc r = other_mark false (suc r) c f (λ h. absurd (omega (arith, h, known.here))) in
          let way = swapped_up r c known.here ring in
          let t : (c.o == suc r) ≡ true = eq-eqb c.o (suc r) ring in
          let same : beside p c u ≡ p true c.y u = ap (λ b. cond b (p true c.y u) u) way.0 in
          let new : beside p (relabel (swapped r) c) u ≡ u = ap (λ b. cond b (p true c.y u) u) way.1 in
          let found = both_on k p G acts w r true c.y c.y u cs first low (ap (λ b. on_at p (suc r) (suc r) b cs) (acts.fixed true c.y)
          ∙ top) known.one known.none in
          let back : p true c.y (p false c.y u) ≡ u = acts.down_up c.y u in
          let was : low_was u (c ∷ cs) ≡ sum_on p G r r c.y (p true c.y u) cs = sum_row_end p G r r u c cs e ∙ ap (λ b. sum_on p G r r c.y b cs) same in
          let now : low_now u (c ∷ cs) ≡ sum_on p G r r c.y u cs =
          turned_end p G (swapped r) (suc (suc r)) r u c cs e ∙ ap (λ b. sum_on p G (suc (suc r)) r c.y b cs) new ∙ sum_first k p G acts w r c.y u cs first in
          let top_is : top_was u (c ∷ cs) ≡ sum_on p G (suc r) (suc r) (p true c.y c.y) (p true c.y u) cs =
          sum_row_end p G (suc r) (suc r) u c cs f ∙ ap₂ (λ m n. sum_on p G (suc r) (suc r) m n cs) (sym (acts.fixed true c.y)) same in
          let top_new : top_now u (c ∷ cs) ≡ sum_on p G r (suc r) c.y u cs =
          turned_end p G (swapped r) r (suc r) u c cs f ∙ ap (λ b. sum_on p G r (suc r) c.y b cs) new in
          let last : sum_on p G r r c.y (p true c.y (p false c.y u)) cs ≡ sum_on p G r r c.y u cs = ap (λ b. sum_on p G r r c.y b cs) back in
          subst (λ (b : Bool). ArePaired false b (low_was u (c ∷ cs)) (low_now u (c ∷ cs)) (top_was u (c ∷ cs)) (top_now u (c ∷ cs))) (sym t)
          (by_two found (turn (w.own true c.y u)) (omega (arith, was, now, top_is, top_new, last)))
