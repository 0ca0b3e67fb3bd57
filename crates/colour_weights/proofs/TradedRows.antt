-- Exchanges and slides of neighbouring rows.
use Rattle.std.proofs.Common.{◌≡◌, ◌≢◌, ◌∙◌, ◌<◌, ◌≤◌, ◌+◌, ◌⊎◌, ℕ, zero, suc, List, [], ◌∷◌, map, ap, ap₂, sym, refl, arith, inl, inr, subst, cond}
use Rattle.std.specs.Prelude.{Bool, true, false}
use Rattle.std.proofs.lemmas.Bool.{cases_Bool, cases_lt, cond-true, cond-false, false≢true}
use Rattle.colour_laws.proofs.ColumnLists.{Acts, Column, ends, xs_in, os_in, crosses, rises, relabel, up_to, between, IsTogether, swapped, IsColoured}
use Rattle.colour_laws.proofs.ColouredColumns.{HasBoth}
use Rattle.colour_laws.proofs.Rows.{ends_apart, on_at, row_at, row_end, row_apart, on_apart, row_walk}
use Rattle.colour_laws.proofs.Level.{xs_here, xs_not_here, os_here, os_not_here}
use Rattle.colour_laws.proofs.Relabel.{ends_relabel, eq_lower, eq_upper, eq_other, lt_lower, lt_upper, lt_other}
use Rattle.colour_laws.proofs.ExchangeRows.{up_to_end, up_to_apart, between_end, between_apart}
use Rattle.colour_laws.proofs.RowExchanges.{columns_twice}
use Rattle.colour_laws.proofs.RowSlides.{marks_end, marks_rest, marks_both, both_sym}
use Rattle.colour_laws.proofs.RowSlides as slides
use Rattle.cocycle_core.proofs.Mod.{Same, same_plus}
use Rattle.colour_weights.proofs.RowCounts.{total, total_same, total_plus}
use Rattle.colour_weights.proofs.Ways.{rightward, rightward_relabel}
use Rattle.colour_weights.proofs.Marks.{IsLeftOf, left_of, left_kind, no_end}
use Rattle.colour_weights.proofs.ModSums.{plain, turn, by_one}
use Rattle.colour_weights.proofs.RowSums.{Weighs, sum_row, right_part, left_part, HaveSameWeight}
use Rattle.colour_weights.proofs.Totals.{kept}
use Rattle.colour_weights.proofs.Relabelled.{sum_turned, sum_row_relabel, turned_kept, swapped_order}
use Rattle.colour_weights.proofs.PairedRows.{is_first, is_within, is_inner}
use Rattle.colour_weights.proofs.PairedSums.{paired}

-- the steps of the tests
first_here : (r s : ℕ) (c : Column) (cs : List Column) → ends r c ≡ true → is_first r s (c ∷ cs) ≡ true
first_here r s c cs e = cond-true (ends r c) true (cond (ends s c) false (is_first r s cs)) e

first_later : (r s : ℕ) (c : Column) (cs : List Column) → ends r c ≡ false → ends s c ≡ false → is_first r s (c ∷ cs) ≡ is_first r s cs
first_later r s c cs e f = cond-false (ends r c) true (cond (ends s c) false (is_first r s cs)) e ∙ cond-false (ends s c) false (is_first r s cs) f

within_end : (r s : ℕ) (c : Column) (cs : List Column) → ends s c ≡ true → is_within r s (c ∷ cs) ≡ true
within_end r s c cs f = cond-true (ends s c) true (cond (ends r c) (is_first r s cs) (is_within r s cs)) f

within_begun : (r s : ℕ) (c : Column) (cs : List Column) → ends s c ≡ false → ends r c ≡ true → is_within r s (c ∷ cs) ≡ is_first r s cs
within_begun r s c cs f e =
    cond-false (ends s c) true (cond (ends r c) (is_first r s cs) (is_within r s cs)) f ∙ cond-true (ends r c) (is_first r s cs) (is_within r s cs) e

within_later : (r s : ℕ) (c : Column) (cs : List Column) → ends s c ≡ false → ends r c ≡ false → is_within r s (c ∷ cs) ≡ is_within r s cs
within_later r s c cs f e =
    cond-false (ends s c) true (cond (ends r c) (is_first r s cs) (is_within r s cs)) f ∙ cond-false (ends r c) (is_first r s cs) (is_within r s cs) e

inner_own : (r s : ℕ) (c : Column) (cs : List Column) → ends r c ≡ true → is_inner r s (c ∷ cs) ≡ is_first r s cs
inner_own r s c cs e = cond-true (ends r c) (is_first r s cs) (cond (ends s c) (is_within r s cs) (is_inner r s cs)) e

inner_other : (r s : ℕ) (c : Column) (cs : List Column) → ends r c ≡ false → ends s c ≡ true → is_inner r s (c ∷ cs) ≡ is_within r s cs
inner_other r s c cs e f =
    cond-false (ends r c) (is_first r s cs) (cond (ends s c) (is_within r s cs) (is_inner r s cs)) e
    ∙ cond-true (ends s c) (is_within r s cs) (is_inner r s cs) f

inner_later : (r s : ℕ) (c : Column) (cs : List Column) → ends r c ≡ false → ends s c ≡ false → is_inner r s (c ∷ cs) ≡ is_inner r s cs
inner_later r s c cs e f =
    cond-false (ends r c) (is_first r s cs) (cond (ends s c) (is_within r s cs) (is_inner r s cs)) e
    ∙ cond-false (ends s c) (is_within r s cs) (is_inner r s cs) f

-- of two rows on their way one ends first, or both end in one column
first_either : (p : Bool → ℕ → ℕ → ℕ) (h r s a : ℕ) (cs : List Column) → on_at p h r a cs ≡ true → (is_first r s cs ≡ true) ⊎ (is_first s r cs ≡ true)
first_either p h r s a [] on = absurd (false≢true on)
first_either p h r s a (c ∷ cs) on = elim (cases_Bool (ends r c)) [
  | inl e ↦ inl (first_here r s c cs e)
  | inr e ↦ elim (cases_Bool (ends s c)) [
    | inl f ↦ inr (first_here s r c cs f)
    | inr f ↦ elim (first_either p h r s (crosses p h c a) cs (sym (on_apart p h r a c cs e) ∙ on)) [
      | inl g ↦ inl (first_later r s c cs e f ∙ g)
      | inr g ↦ inr (first_later s r c cs f e ∙ g)
    ]
  ]
]

-- a mark of row s left of the next mark of row r
first_of_mark : (r s : ℕ) (cs : List Column) → 1 ≤ xs_in s (up_to r cs) + os_in s (up_to r cs) → is_first s r cs ≡ true
first_of_mark r s [] some = absurd (omega (arith, some))
first_of_mark r s (c ∷ cs) some = elim (cases_Bool (ends s c)) [
  | inl f ↦ first_here s r c cs f
  | inr f ↦ elim (cases_Bool (ends r c)) [
    | inl e ↦
        let none : up_to r (c ∷ cs) ≡ [] = up_to_end r c cs e in
        absurd (omega (arith, some, ap (xs_in s) none, ap (os_in s) none))
    | inr e ↦
        let more : up_to r (c ∷ cs) ≡ c ∷ up_to r cs = up_to_apart r c cs e in
        first_later s r c cs f e ∙ first_of_mark r s cs
        (omega (
          arith,
          some,
          ap (xs_in s) more ∙ xs_not_here s c (up_to r cs) (no_end true s c f),
          ap (os_in s) more ∙ os_not_here s c (up_to r cs) (no_end false s c f),
        ))
  ]
]

-- behind the left end of row r, where both marks of row s are left of its right end or neither is
within_of : (p : Bool → ℕ → ℕ → ℕ) (r s a : ℕ) (cs : List Column) → on_at p r r a cs ≡ true → row_at p s s cs ≡ true → xs_in s cs ≡ 1 → os_in s cs ≡ 1
    → xs_in s (up_to r cs) ≡ os_in s (up_to r cs) → is_within s r cs ≡ true
within_of p r s a [] on row ex eo together = absurd (false≢true on)
within_of p r s a (c ∷ cs) on row ex eo together = elim (cases_Bool (ends r c)) [
  | inl e ↦ within_end s r c cs e
  | inr e ↦
      let more : up_to r (c ∷ cs) ≡ c ∷ up_to r cs = up_to_apart r c cs e in
      let same : xs_in s (c ∷ up_to r cs) ≡ os_in s (c ∷ up_to r cs) = sym (ap (xs_in s) more) ∙ together ∙ ap (os_in s) more in
      elim (cases_Bool (ends s c)) [
        | inl f ↦ elim (left_kind p s s c cs f (sym (row_end p s s c cs f) ∙ row) ex eo) [
          | left_of way known ↦ within_begun s r c cs e f ∙ first_of_mark r s cs (some way known same)
        ]
        | inr f ↦
            let x = no_end true s c f in
            let o = no_end false s c f in
            within_later s r c cs e f ∙ within_of p r s (crosses p r c a) cs (sym (on_apart p r r a c cs e) ∙ on) (sym (row_apart p s s c cs f) ∙ row)
            (sym (xs_not_here s c cs x) ∙ ex) (sym (os_not_here s c cs o) ∙ eo)
            (sym (xs_not_here s c (up_to r cs) x) ∙ same ∙ os_not_here s c (up_to r cs) o)
      ]
]
  where
    some : (way : Bool) → IsLeftOf s c cs way → xs_in s (c ∷ up_to r cs) ≡ os_in s (c ∷ up_to r cs) → 1 ≤ xs_in s (up_to r cs) + os_in s (up_to r cs)
    some true known same = omega (arith, same, xs_not_here s c (up_to r cs) known.not_here, os_here s c (up_to r cs) known.here)
    some false known same = omega (arith, same, xs_here s c (up_to r cs) known.here, os_not_here s c (up_to r cs) known.not_here)

-- rows that may be exchanged
pub inner_of_together : (p : Bool → ℕ → ℕ → ℕ) (r s : ℕ) (cs : List Column) → row_at p r r cs ≡ true → xs_in r cs ≡ 1 → os_in r cs ≡ 1
    → row_at p s s cs ≡ true → xs_in s cs ≡ 1 → os_in s cs ≡ 1
    → IsTogether r s cs → IsTogether s r cs → (is_inner r s cs ≡ true) ⊎ (is_inner s r cs ≡ true)
inner_of_together p r s [] row ex eo row' ex' eo' one two = absurd (false≢true row)
inner_of_together p r s (c ∷ cs) row ex eo row' ex' eo' one two = elim (cases_Bool (ends r c)) [
  | inl e ↦
      let on = sym (row_end p r r c cs e) ∙ row in
      elim (cases_Bool (ends s c)) [
        | inl f ↦ elim (first_either p r r s c.y cs on) [
          | inl g ↦ inl (inner_own r s c cs e ∙ g)
          | inr g ↦ inr (inner_own s r c cs f ∙ g)
        ]
        | inr f ↦
            let found : between r (c ∷ cs) ≡ up_to r cs = between_end r c cs e in
            inr (inner_other s r c cs f e ∙ within_of p r s c.y cs on (sym (row_apart p s s c cs f) ∙ row')
            (sym (xs_not_here s c cs (no_end true s c f)) ∙ ex') (sym (os_not_here s c cs (no_end false s c f)) ∙ eo')
            (sym (ap (xs_in s) found) ∙ one ∙ ap (os_in s) found))
      ]
  | inr e ↦
      let x = no_end true r c e in
      let o = no_end false r c e in
      let later = sym (row_apart p r r c cs e) ∙ row in
      elim (cases_Bool (ends s c)) [
        | inl f ↦
            let found : between s (c ∷ cs) ≡ up_to s cs = between_end s c cs f in
            inl (inner_other r s c cs e f ∙ within_of p s r c.y cs (sym (row_end p s s c cs f) ∙ row') later
            (sym (xs_not_here r c cs x) ∙ ex) (sym (os_not_here r c cs o) ∙ eo)
            (sym (ap (xs_in r) found) ∙ two ∙ ap (os_in r) found))
        | inr f ↦
            let further : between r (c ∷ cs) ≡ between r cs = between_apart r c cs e in
            let further' : between s (c ∷ cs) ≡ between s cs = between_apart s c cs f in
            elim (inner_of_together p r s cs later (sym (xs_not_here r c cs x) ∙ ex) (sym (os_not_here r c cs o) ∙ eo)
            (sym (row_apart p s s c cs f) ∙ row') (sym (xs_not_here s c cs (no_end true s c f)) ∙ ex') (sym (os_not_here s c cs (no_end false s c f)) ∙ eo')
            (sym (ap (xs_in s) further) ∙ one ∙ ap (os_in s) further) (sym (ap (xs_in r) further') ∙ two ∙ ap (os_in r) further')) [
              | inl g ↦ inl (inner_later r s c cs e f ∙ g)
              | inr g ↦ inr (inner_later s r c cs f e ∙ g)
            ]
      ]
]

-- behind the left end of row r, which ends in a column with a mark of row s
first_shared : (r s : ℕ) (cs : List Column) → HasBoth r s cs → slides.marks r cs ≤ 1 → is_first s r cs ≡ true
first_shared r s [] both few = absurd both
first_shared r s (c ∷ cs) both few = elim (cases_Bool (ends s c)) [
  | inl f ↦ first_here s r c cs f
  | inr f ↦ elim both [
    | inl h ↦ absurd (false≢true (sym f ∙ h.1))
    | inr h ↦ elim (cases_Bool (ends r c)) [
      | inl e ↦ absurd (omega (arith, marks_end r c cs e, few, marks_both r s cs h))
      | inr e ↦ first_later s r c cs f e ∙ first_shared r s cs h (omega (arith, marks_rest r c cs, few))
    ]
  ]
]

within_shared : (r s : ℕ) (cs : List Column) → HasBoth r s cs → slides.marks r cs ≤ 1 → is_within s r cs ≡ true
within_shared r s [] both few = absurd both
within_shared r s (c ∷ cs) both few = elim (cases_Bool (ends r c)) [
  | inl e ↦ within_end s r c cs e
  | inr e ↦ elim both [
    | inl h ↦ absurd (false≢true (sym e ∙ h.0))
    | inr h ↦
        let fewer : slides.marks r cs ≤ 1 = omega (arith, marks_rest r c cs, few) in
        elim (cases_Bool (ends s c)) [
          | inl f ↦ within_begun s r c cs e f ∙ first_shared r s cs h fewer
          | inr f ↦ within_later s r c cs e f ∙ within_shared r s cs h fewer
        ]
  ]
]

-- rows that share a column
pub inner_of_both : (p : Bool → ℕ → ℕ → ℕ) (r s : ℕ) (cs : List Column) → row_at p r r cs ≡ true → slides.marks r cs ≤ 2 → slides.marks s cs ≤ 2
    → HasBoth r s cs → (is_inner r s cs ≡ true) ⊎ (is_inner s r cs ≡ true)
inner_of_both p r s [] row few few' both = absurd both
inner_of_both p r s (c ∷ cs) row few few' both = elim (cases_Bool (ends r c)) [
  | inl e ↦ elim (cases_Bool (ends s c)) [
    | inl f ↦ elim (first_either p r r s c.y cs (sym (row_end p r r c cs e) ∙ row)) [
      | inl g ↦ inl (inner_own r s c cs e ∙ g)
      | inr g ↦ inr (inner_own s r c cs f ∙ g)
    ]
    | inr f ↦ elim both [
      | inl h ↦ absurd (false≢true (sym f ∙ h.1))
      | inr h ↦ inr (inner_other s r c cs f e ∙ within_shared r s cs h (omega (arith, marks_end r c cs e, few)))
    ]
  ]
  | inr e ↦ elim both [
    | inl h ↦ absurd (false≢true (sym e ∙ h.0))
    | inr h ↦ elim (cases_Bool (ends s c)) [
      | inl f ↦ inl (inner_other r s c cs e f ∙ within_shared s r cs (both_sym r s cs h) (omega (arith, marks_end s c cs f, few')))
      | inr f ↦ elim (inner_of_both p r s cs (sym (row_apart p r r c cs e) ∙ row) (omega (arith, marks_rest r c cs, few))
          (omega (arith, marks_rest s c cs, few')) h) [
            | inl g ↦ inl (inner_later r s c cs e f ∙ g)
            | inr g ↦ inr (inner_later s r c cs f e ∙ g)
          ]
    ]
  ]
]

-- under the exchanged numbers the two rows have traded their parts
first_swapped : (r : ℕ) (cs : List Column) → is_first r (suc r) (map (relabel (swapped r)) cs) ≡ is_first (suc r) r cs
first_swapped r [] = refl
first_swapped r (c ∷ cs) =
    ap₂ (λ a b. cond a true b) (ends_relabel (swapped r) (suc r) r (eq_lower r) c)
    (ap₂ (λ a b. cond a false b) (ends_relabel (swapped r) r (suc r) (eq_upper r) c) (first_swapped r cs))

cond_same : (b b' s s' t t' : Bool) → b ≡ b' → s ≡ s' → t ≡ t' → cond b s t ≡ cond b' s' t'
cond_same b b' s s' t t' e f g = ap₂ (λ (x : Bool) (y : Bool). cond x y t) e f ∙ ap (λ (z : Bool). cond b' s' z) g

within_swapped : (r : ℕ) (cs : List Column) → is_within r (suc r) (map (relabel (swapped r)) cs) ≡ is_within (suc r) r cs
within_swapped r [] = refl
within_swapped r (c ∷ cs) =
    ap₂ (λ a b. cond a true b) (ends_relabel (swapped r) r (suc r) (eq_upper r) c)
    (cond_same _ _ _ _ _ _ (ends_relabel (swapped r) (suc r) r (eq_lower r) c) (first_swapped r cs) (within_swapped r cs))

inner_swapped : (r : ℕ) (cs : List Column) → is_inner r (suc r) (map (relabel (swapped r)) cs) ≡ is_inner (suc r) r cs
inner_swapped r [] = refl
inner_swapped r (c ∷ cs) =
    cond_same _ _ _ _ _ _ (ends_relabel (swapped r) (suc r) r (eq_lower r) c) (first_swapped r cs)
    (cond_same _ _ _ _ _ _ (ends_relabel (swapped r) r (suc r) (eq_upper r) c) (within_swapped r cs) (inner_swapped r cs))

-- totals that are the same but for two neighbours, which are the same together
total_paired : (k r n : ℕ) (f g : ℕ → ℕ) → suc r < n → ((q : ℕ) → q < n → q ≢ r → q ≢ suc r → Same k (f q) (g q))
    → Same k (f r + f (suc r)) (g r + g (suc r)) → Same k (total f n) (total g n)
total_paired k r zero f g lt each pair = absurd (omega arith)
total_paired k r (suc m) f g lt each pair = elim (cases_lt (suc r) m) [
  | inl l ↦
      same_plus k (total f m) (total g m) (f m) (g m)
      (total_paired k r m f g l (λ q below. each q (omega arith)) pair) (each m (omega arith) (λ e. omega arith) (λ e. omega arith))
  | inr h ↦
      let at : m ≡ suc r = omega arith in
      let low = total_same k f g r (λ q below. each q (omega arith) (λ e. omega arith) (λ e. omega arith)) in
      subst (λ (t : ℕ). Same k (total f (suc t)) (total g (suc t))) (sym at)
      (by_one (same_plus k (total f r) (total g r) (f r + f (suc r)) (g r + g (suc r)) low pair) (omega arith))
]

module _ (k : ℕ) (p : Bool → ℕ → ℕ → ℕ) (G : Bool → ℕ → ℕ → ℕ → ℕ) (acts : Acts p) (w : Weighs k p G) where
  -- the sums of the two rows, by parts
  by_parts : (b t : Bool) (low now top top' : ℕ) → Same k (cond b low now + cond t top top') (cond b now low + cond t top' top)
      → Same k (cond b low 0 + cond t 0 top' + (cond t top 0 + cond b 0 now)) (cond t top' 0 + cond b 0 low + (cond b now 0 + cond t 0 top))
  by_parts true true low now top top' same = by_one same (omega arith)
  by_parts true false low now top top' same = by_one same (omega arith)
  by_parts false true low now top top' same = by_one same (omega arith)
  by_parts false false low now top top' same = by_one same (omega arith)

  paired_weight : (u n r : ℕ) (cs : List Column) → suc r < n → is_inner r (suc r) cs ≡ true → IsColoured p n cs
      → HaveSameWeight k p G u n cs n (map (relabel (swapped r)) cs)
  paired_weight u n r cs high inner coloured =
      let lt : r < n = omega arith in
      let low : row_at p r r cs ≡ true = sym (row_walk p r cs) ∙ coloured.walks r lt in
      let top : row_at p (suc r) (suc r) cs ≡ true = sym (row_walk p (suc r) cs) ∙ coloured.walks (suc r) high in
      let both = paired k p G acts w r u cs inner low (coloured.crosses r lt) (coloured.rings r lt) top (coloured.crosses (suc r) high)
      (coloured.rings (suc r) high) in
      let way_low : rightward r (map (relabel (swapped r)) cs) ≡ rightward (suc r) cs = rightward_relabel (swapped r) (suc r) r (eq_lower r) cs in
      let way_top : rightward (suc r) (map (relabel (swapped r)) cs) ≡ rightward r cs = rightward_relabel (swapped r) r (suc r) (eq_upper r) cs in
      let sum_low : sum_row p G r r u (map (relabel (swapped r)) cs) ≡ sum_turned p G (swapped r) r (suc r) u cs =
      sum_row_relabel p G (swapped r) r (suc r) r r (eq_lower r) (lt_lower r) u cs in
      let sum_top : sum_row p G (suc r) (suc r) u (map (relabel (swapped r)) cs) ≡ sum_turned p G (swapped r) (suc (suc r)) r u cs =
      sum_row_relabel p G (swapped r) (suc (suc r)) r (suc r) (suc r) (eq_upper r) (lt_upper r) u cs in
      let parts = by_parts (rightward r cs) (rightward (suc r) cs) (sum_row p G r r u cs) (sum_turned p G (swapped r) (suc (suc r)) r u cs)
      (sum_row p G (suc r) (suc r) u cs) (sum_turned p G (swapped r) r (suc r) u cs) both in
      let rows = total_paired k r n (λ q. right_part p G u q cs + left_part p G u q (map (relabel (swapped r)) cs))
      (λ q. right_part p G u q (map (relabel (swapped r)) cs) + left_part p G u q cs) high
      (λ q below n m. kept k p G u q q cs (map (relabel (swapped r)) cs) (rightward_relabel (swapped r) q q (eq_other r q n m) cs)
      (plain (sym (sum_row_relabel p G (swapped r) q q q q (eq_other r q n m) (λ x z. lt_other r q n m x) u cs
      ∙ turned_kept p G (swapped r) q q (order q n m) u cs))))
      (by_one parts (omega (
        arith,
        ap₂ (λ b s. cond b 0 s) way_low sum_low,
        ap₂ (λ b s. cond b s 0) way_low sum_low,
        ap₂ (λ b s. cond b 0 s) way_top sum_top,
        ap₂ (λ b s. cond b s 0) way_top sum_top,
      ))) in
      by_one rows (omega (
        arith,
        total_plus (λ q. right_part p G u q cs) (λ q. left_part p G u q (map (relabel (swapped r)) cs)) n,
        total_plus (λ q. right_part p G u q (map (relabel (swapped r)) cs)) (λ q. left_part p G u q cs) n,
      ))
    where
      order : (q : ℕ) → q ≢ r → q ≢ suc r → (c : Column) → ends q c ≡ true → rises (relabel (swapped r) c) ≡ rises c
      order q n m c e = swapped_order r c
          (λ f g. false≢true (sym (ends_apart q c (λ h. n (sym h ∙ f)) (λ h. m (sym h ∙ g))) ∙ e))
          (λ f g. false≢true (sym (ends_apart q c (λ h. m (sym h ∙ g)) (λ h. n (sym h ∙ f))) ∙ e))

  -- rows r and r + 1 trade places
  pub rows_traded_weight : (u n r : ℕ) (cs : List Column) → suc r < n → (is_inner r (suc r) cs ≡ true) ⊎ (is_inner (suc r) r cs ≡ true)
      → IsColoured p n cs → IsColoured p n (map (relabel (swapped r)) cs)
      → HaveSameWeight k p G u n cs n (map (relabel (swapped r)) cs)
  rows_traded_weight u n r cs high inner old new = elim inner [
    | inl low ↦ paired_weight u n r cs high low old
    | inr top ↦
        turn (subst (λ (ds : List Column). HaveSameWeight k p G u n (map (relabel (swapped r)) cs) n ds) (columns_twice r cs)
        (paired_weight u n r (map (relabel (swapped r)) cs) high (inner_swapped r cs ∙ top) new))
  ]
