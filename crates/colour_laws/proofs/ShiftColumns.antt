-- A shift of the columns carries each colouring to one of the shifted grid.
use Rattle.std.proofs.Common.{append-nil, append_assoc, ◌≡◌, ◌≢◌, ◌∙◌, ◌≤◌, ◌+◌, ◌++◌, ℕ, List, [], ◌∷◌, ap, sym, arith, inl, inr}
use Rattle.std.specs.Prelude.{Bool, true, nat_lt, ◌==◌}
use Rattle.std.proofs.lemmas.Bool.{eq-eqb, eqb-true, false≢true, cases_Bool}
use Rattle.colour_laws.proofs.ColumnLists.{Acts, Column, ends, xs_in, os_in, crosses, level, IsColoured}
use Rattle.colour_laws.proofs.Actions.{crossed_fixed}
use Rattle.colour_laws.proofs.Rows.{cross, ring, apart, side, ends_cross, ends_ring, ends_apart, on_at, row_at, row_end, row_apart, on_end, on_apart, row_walk}
use Rattle.colour_laws.proofs.Level.{xs_here, xs_not_here, os_here, os_not_here, level_holds}

-- columns behind the right end change nothing
pub on_more : (p : Bool → ℕ → ℕ → ℕ) (h r a : ℕ) (cs ds : List Column) → on_at p h r a cs ≡ true → on_at p h r a (cs ++ ds) ≡ true
on_more p h r a [] ds on = absurd (false≢true on)
on_more p h r a (c ∷ cs) ds on = elim (cases_Bool (ends r c)) [
  | inl e ↦ on_end p h r a c (cs ++ ds) e ∙ sym (on_end p h r a c cs e) ∙ on
  | inr e ↦ on_apart p h r a c (cs ++ ds) e ∙ on_more p h r (crosses p h c a) cs ds (sym (on_apart p h r a c cs e) ∙ on)
]

pub row_more : (p : Bool → ℕ → ℕ → ℕ) (h r : ℕ) (cs ds : List Column) → row_at p h r cs ≡ true → row_at p h r (cs ++ ds) ≡ true
row_more p h r [] ds row = absurd (false≢true row)
row_more p h r (c ∷ cs) ds row = elim (cases_Bool (ends r c)) [
  | inl e ↦ row_end p h r c (cs ++ ds) e ∙ on_more p h r c.y cs ds (sym (row_end p h r c cs e) ∙ row)
  | inr e ↦ row_apart p h r c (cs ++ ds) e ∙ row_more p h r cs ds (sym (row_apart p h r c cs e) ∙ row)
]

-- from the left end, over columns without a mark in the row, to a right end that stands behind them
to_last : (p : Bool → ℕ → ℕ → ℕ) (r a : ℕ) (cs : List Column) (last : Column) → xs_in r cs ≡ 0 → os_in r cs ≡ 0 → ends r last ≡ true
    → level p r cs a ≡ last.y → on_at p r r a (cs ++ last ∷ []) ≡ true
to_last p r a [] last ex eo e way = on_end p r r a last [] e ∙ eq-eqb a last.y way
to_last p r a (c ∷ cs) last ex eo e way = elim (side r c) [
  | cross f ↦ absurd (omega (arith, xs_here r c cs f))
  | ring n f ↦ absurd (omega (arith, os_here r c cs f))
  | apart n m ↦
      on_apart p r r a c (cs ++ last ∷ []) (ends_apart r c n m)
      ∙ to_last p r (crosses p r c a) cs last (sym (xs_not_here r c cs n) ∙ ex) (sym (os_not_here r c cs m) ∙ eo) e way
]

-- the left end goes to the right of all columns: what was the right end is now the left one
turned_end : (p : Bool → ℕ → ℕ → ℕ) → Acts p → (r a : ℕ) (cs : List Column) (last : Column) → on_at p r r a cs ≡ true → xs_in r cs + os_in r cs ≤ 1
    → ends r last ≡ true
    → level p r cs a ≡ last.y → row_at p r r (cs ++ last ∷ []) ≡ true
turned_end p acts r a [] last on few e way = absurd (false≢true on)
turned_end p acts r a (c ∷ cs) last on few e way =
    let at_end : ends r c ≡ true → xs_in r cs ≡ 0 → os_in r cs ≡ 0 → row_at p r r ((c ∷ cs) ++ last ∷ []) ≡ true = λ f ex eo.
    let same : a ≡ c.y = eqb-true a c.y (sym (on_end p r r a c cs f) ∙ on) in
    let kept : crosses p r c a ≡ c.y = rw same (crossed_fixed p acts (nat_lt c.x r) (nat_lt c.o r) c.y) in
    row_end p r r c (cs ++ last ∷ []) f ∙ to_last p r c.y cs last ex eo e (sym (ap (λ w. level p r cs w) kept) ∙ way) in
    elim (side r c) [
      | cross f ↦ elim (cases_Bool (c.o == r)) [
        | inl k ↦
            let k' : c.o ≡ r = eqb-true c.o r k in
            at_end (ends_cross r c f) (omega (arith, xs_here r c cs f, os_here r c cs k')) (omega (arith, xs_here r c cs f, os_here r c cs k'))
        | inr k ↦
            let k' : c.o ≢ r = λ g. false≢true (sym k ∙ eq-eqb c.o r g) in
            at_end (ends_cross r c f) (omega (arith, xs_here r c cs f, os_not_here r c cs k')) (omega (arith, xs_here r c cs f, os_not_here r c cs k'))
      ]
      | ring n f ↦ at_end (ends_ring r c f) (omega (arith, xs_not_here r c cs n, os_here r c cs f)) (omega (arith, xs_not_here r c cs n, os_here r c cs f))
      | apart n m ↦
          row_apart p r r c (cs ++ last ∷ []) (ends_apart r c n m)
          ∙ turned_end p acts r (crosses p r c a) cs last (sym (on_apart p r r a c cs (ends_apart r c n m)) ∙ on)
          (omega (arith, xs_not_here r c cs n, os_not_here r c cs m, few)) e way
    ]

-- one column goes from the left end to the right end
pub turned_row : (p : Bool → ℕ → ℕ → ℕ) → Acts p → (r : ℕ) (c : Column) (cs : List Column) → row_at p r r (c ∷ cs) ≡ true → xs_in r (c ∷ cs) ≡ 1
    → os_in r (c ∷ cs) ≡ 1
    → level p r (c ∷ cs) c.y ≡ c.y → row_at p r r (cs ++ c ∷ []) ≡ true
turned_row p acts r c cs row ex eo way =
    let at_end : ends r c ≡ true → xs_in r cs + os_in r cs ≤ 1 → row_at p r r (cs ++ c ∷ []) ≡ true = λ f few.
    turned_end p acts r c.y cs c (sym (row_end p r r c cs f) ∙ row) few f
    (sym (ap (λ w. level p r cs w) (crossed_fixed p acts (nat_lt c.x r) (nat_lt c.o r) c.y)) ∙ way) in
    elim (side r c) [
      | cross f ↦ elim (cases_Bool (c.o == r)) [
        | inl k ↦ at_end (ends_cross r c f) (omega (arith, xs_here r c cs f, os_here r c cs (eqb-true c.o r k)))
        | inr k ↦ at_end (ends_cross r c f) (omega (arith, xs_here r c cs f, os_not_here r c cs (λ g. false≢true (sym k ∙ eq-eqb c.o r g))))
      ]
      | ring n f ↦ at_end (ends_ring r c f) (omega (arith, xs_not_here r c cs n, os_here r c cs f))
      | apart n m ↦ row_more p r r cs (c ∷ []) (sym (row_apart p r r c cs (ends_apart r c n m)) ∙ row)
    ]

pub xs_append : (r : ℕ) (cs ds : List Column) → xs_in r (cs ++ ds) ≡ xs_in r cs + xs_in r ds
xs_append r [] ds = omega arith
xs_append r (c ∷ cs) ds = elim (cases_Bool (c.x == r)) [
  | inl e ↦ omega (arith, xs_here r c (cs ++ ds) (eqb-true c.x r e), xs_here r c cs (eqb-true c.x r e), xs_append r cs ds)
  | inr e ↦
      let n : c.x ≢ r = λ f. false≢true (sym e ∙ eq-eqb c.x r f) in
      omega (arith, xs_not_here r c (cs ++ ds) n, xs_not_here r c cs n, xs_append r cs ds)
]

pub os_append : (r : ℕ) (cs ds : List Column) → os_in r (cs ++ ds) ≡ os_in r cs + os_in r ds
os_append r [] ds = omega arith
os_append r (c ∷ cs) ds = elim (cases_Bool (c.o == r)) [
  | inl e ↦ omega (arith, os_here r c (cs ++ ds) (eqb-true c.o r e), os_here r c cs (eqb-true c.o r e), os_append r cs ds)
  | inr e ↦
      let n : c.o ≢ r = λ f. false≢true (sym e ∙ eq-eqb c.o r f) in
      omega (arith, os_not_here r c (cs ++ ds) n, os_not_here r c cs n, os_append r cs ds)
]

-- the shift by one
pub turned_once : (p : Bool → ℕ → ℕ → ℕ) → Acts p → (n : ℕ) (c : Column) (cs : List Column) → IsColoured p n (c ∷ cs) → IsColoured p n (cs ++ c ∷ [])
turned_once p acts n c cs coloured = record {
  crosses = λ r lt. omega (arith, xs_append r cs (c ∷ []), xs_append r (c ∷ []) cs, coloured.crosses r lt);
  rings = λ r lt. omega (arith, os_append r cs (c ∷ []), os_append r (c ∷ []) cs, coloured.rings r lt);
  walks = λ r lt. row_walk p r (cs ++ c ∷ []) ∙ turned_row p acts r c cs (sym (row_walk p r (c ∷ cs)) ∙ coloured.walks r lt) (coloured.crosses r lt)
      (coloured.rings r lt)
      (level_holds p acts n (c ∷ cs) coloured r (omega arith) c.y);
}

-- a front part goes behind the rest
pub turned_parts : (p : Bool → ℕ → ℕ → ℕ) → Acts p → (n : ℕ) (cs ds : List Column) → IsColoured p n (cs ++ ds) → IsColoured p n (ds ++ cs)
turned_parts p acts n [] ds coloured = rw append-nil coloured
turned_parts p acts n (c ∷ cs) ds coloured =
    let once : IsColoured p n ((cs ++ ds) ++ c ∷ []) = turned_once p acts n c (cs ++ ds) coloured in
    let moved : IsColoured p n (cs ++ (ds ++ c ∷ [])) = rw append_assoc at once in
    let rest : IsColoured p n ((ds ++ c ∷ []) ++ cs) = turned_parts p acts n cs (ds ++ c ∷ []) moved in
    rw append_assoc at rest
