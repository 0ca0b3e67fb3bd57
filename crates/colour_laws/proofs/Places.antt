-- From the columns of a row's marks to the columns between its ends.
use Rattle.std.proofs.Common.{◌≡◌, ◌≢◌, ◌∙◌, ◌<◌, ◌≤◌, ℕ, suc, List, [], ◌∷◌, map, ap, sym, refl, arith, inl, inr, cond}
use Rattle.std.specs.Prelude.{Bool, true, false, ◌==◌, ◌⊎◌}
use Rattle.std.proofs.lemmas.Bool.{cond-true, cond-false, cases_Bool, cases_eq, eq-eqb, ne_eqb, false≢true}
use Rattle.grid_core.specs.Diagram.{Diagram}
use Rattle.colour_laws.proofs.ColumnLists.{Column, ends, xs_in, os_in, up_to, between, IsNested, IsDisjoint, IsTogether}
use Rattle.colour_laws.proofs.ColouredColumns.{xs_of, os_of, place, IsMarked, across}
use Rattle.colour_laws.proofs.Rows.{cross, ring, apart, side, ends_cross, ends_ring, ends_apart, row_at, row_end, row_apart}
use Rattle.colour_laws.proofs.Level.{xs_here, xs_not_here, os_here, os_not_here, on_clear}
use Rattle.colour_laws.proofs.ExchangeRows.{up_to_end, up_to_apart, between_end, between_apart}

pub place_here : (r m : ℕ) (ms : List ℕ) → m ≡ r → place r (m ∷ ms) ≡ 0
place_here r m ms e =
    let t : (m == r) ≡ true = eq-eqb m r e in
    rw t refl

pub place_later : (r m : ℕ) (ms : List ℕ) → m ≢ r → place r (m ∷ ms) ≡ suc (place r ms)
place_later r m ms n =
    let t : (m == r) ≡ false = ne_eqb m r n in
    rw t (omega arith)

-- how many columns have their mark, as f reads it, in row s
abbrev marks_in : (Column → ℕ) → ℕ → List Column → ℕ
marks_in f s [] = 0
marks_in f s (c ∷ cs) = cond (f c == s) (suc (marks_in f s cs)) (marks_in f s cs)

xs_are : (s : ℕ) (cs : List Column) → xs_in s cs ≡ marks_in (λ (c : Column). c.x) s cs
xs_are s [] = refl
xs_are s (c ∷ cs) = ap (λ m. cond (c.x == s) (suc m) m) (xs_are s cs)

os_are : (s : ℕ) (cs : List Column) → os_in s cs ≡ marks_in (λ (c : Column). c.o) s cs
os_are s [] = refl
os_are s (c ∷ cs) = ap (λ m. cond (c.o == s) (suc m) m) (os_are s cs)

m_here : (f : Column → ℕ) (s : ℕ) (c : Column) (cs : List Column) → f c ≡ s → marks_in f s (c ∷ cs) ≡ suc (marks_in f s cs)
m_here f s c cs e = cond-true (f c == s) (suc (marks_in f s cs)) (marks_in f s cs) (eq-eqb (f c) s e)

m_later : (f : Column → ℕ) (s : ℕ) (c : Column) (cs : List Column) → f c ≢ s → marks_in f s (c ∷ cs) ≡ marks_in f s cs
m_later f s c cs n = cond-false (f c == s) (suc (marks_in f s cs)) (marks_in f s cs) (ne_eqb (f c) s n)

-- the columns of the ends of row r
abbrev first_end : ℕ → List Column → ℕ
first_end r [] = 0
first_end r (c ∷ cs) = cond (ends r c) 0 (suc (first_end r cs))

abbrev second_end : ℕ → List Column → ℕ
second_end r [] = 0
second_end r (c ∷ cs) = cond (ends r c) (suc (first_end r cs)) (suc (second_end r cs))

first_here : (r : ℕ) (c : Column) (cs : List Column) → ends r c ≡ true → first_end r (c ∷ cs) ≡ 0
first_here r c cs e = cond-true (ends r c) 0 (suc (first_end r cs)) e

first_later : (r : ℕ) (c : Column) (cs : List Column) → ends r c ≡ false → first_end r (c ∷ cs) ≡ suc (first_end r cs)
first_later r c cs e = cond-false (ends r c) 0 (suc (first_end r cs)) e

second_here : (r : ℕ) (c : Column) (cs : List Column) → ends r c ≡ true → second_end r (c ∷ cs) ≡ suc (first_end r cs)
second_here r c cs e = cond-true (ends r c) (suc (first_end r cs)) (suc (second_end r cs)) e

second_later : (r : ℕ) (c : Column) (cs : List Column) → ends r c ≡ false → second_end r (c ∷ cs) ≡ suc (second_end r cs)
second_later r c cs e = cond-false (ends r c) (suc (first_end r cs)) (suc (second_end r cs)) e

-- a part has no more
few_up : (f : Column → ℕ) (r s : ℕ) (cs : List Column) → marks_in f s (up_to r cs) ≤ marks_in f s cs
few_up f r s [] = omega arith
few_up f r s (c ∷ cs) =
    let rest = few_up f r s cs in
    elim (cases_Bool (ends r c)) [
      | inl e ↦ let is = up_to_end r c cs e in rw is (omega arith)
      | inr e ↦
          let is = up_to_apart r c cs e in
          rw is (elim (cases_eq (f c) s) [
            | inl h ↦ omega (arith, m_here f s c cs h, m_here f s c (up_to r cs) h, rest)
            | inr h ↦ omega (arith, m_later f s c cs h, m_later f s c (up_to r cs) h, rest)
          ])
    ]

few_mid : (f : Column → ℕ) (r s : ℕ) (cs : List Column) → marks_in f s (between r cs) ≤ marks_in f s cs
few_mid f r s [] = omega arith
few_mid f r s (c ∷ cs) =
    let rest = few_mid f r s cs in
    let up = few_up f r s cs in
    elim (cases_Bool (ends r c)) [
      | inl e ↦
          let is = between_end r c cs e in
          rw is (elim (cases_eq (f c) s) [ inl h ↦ omega (arith, m_here f s c cs h, up) | inr h ↦ omega (arith, m_later f s c cs h, up) ])
      | inr e ↦
          let is = between_apart r c cs e in
          rw is (elim (cases_eq (f c) s) [ inl h ↦ omega (arith, m_here f s c cs h, rest) | inr h ↦ omega (arith, m_later f s c cs h, rest) ])
    ]

-- a mark left of the next mark in row r
up_in : (f : Column → ℕ) (r s : ℕ) (cs : List Column) → marks_in f s cs ≡ 1 → place s (map f cs) < first_end r cs → marks_in f s (up_to r cs) ≡ 1
up_in f r s [] one lt = absurd (omega (arith, one))
up_in f r s (c ∷ cs) one lt = elim (cases_Bool (ends r c)) [
  | inl e ↦ absurd (omega (arith, lt, first_here r c cs e))
  | inr e ↦
      let is = up_to_apart r c cs e in
      rw is (elim (cases_eq (f c) s) [
        | inl h ↦ omega (arith, m_here f s c cs h, m_here f s c (up_to r cs) h, few_up f r s cs, one)
        | inr h ↦ m_later f s c (up_to r cs) h
            ∙ up_in f r s cs (sym (m_later f s c cs h) ∙ one) (omega (arith, lt, first_later r c cs e, place_later s (f c) (map f cs) h))
      ])
]

-- or not left of it
up_out : (f : Column → ℕ) (r s : ℕ) (cs : List Column) → first_end r cs ≤ place s (map f cs) → marks_in f s (up_to r cs) ≡ 0
up_out f r s [] le = refl
up_out f r s (c ∷ cs) le = elim (cases_Bool (ends r c)) [
  | inl e ↦ let is = up_to_end r c cs e in rw is refl
  | inr e ↦
      let is = up_to_apart r c cs e in
      rw is (elim (cases_eq (f c) s) [
        | inl h ↦ absurd (omega (arith, le, first_later r c cs e, place_here s (f c) (map f cs) h))
        | inr h ↦ m_later f s c (up_to r cs) h ∙ up_out f r s cs (omega (arith, le, first_later r c cs e, place_later s (f c) (map f cs) h))
      ])
]

-- a mark strictly between the ends of row r
mid_in : (f : Column → ℕ) (r s : ℕ) (cs : List Column) → marks_in f s cs ≡ 1 → first_end r cs < place s (map f cs) → place s (map f cs) < second_end r cs
    → marks_in f s (between r cs) ≡ 1
mid_in f r s [] one low high = absurd (omega (arith, one))
mid_in f r s (c ∷ cs) one low high = elim (cases_eq (f c) s) [
  | inl h ↦ absurd (omega (arith, low, place_here s (f c) (map f cs) h))
  | inr h ↦
      let one' = sym (m_later f s c cs h) ∙ one in
      let later = place_later s (f c) (map f cs) h in
      elim (cases_Bool (ends r c)) [
        | inl e ↦ let is = between_end r c cs e in rw is (up_in f r s cs one' (omega (arith, high, second_here r c cs e, later)))
        | inr e ↦ let is = between_apart r c cs e in
            rw is (mid_in f r s cs one' (omega (arith, low, first_later r c cs e, later)) (omega (arith, high, second_later r c cs e, later)))
      ]
]

-- or outside
mid_low : (f : Column → ℕ) (r s : ℕ) (cs : List Column) → marks_in f s cs ≡ 1 → place s (map f cs) ≤ first_end r cs → marks_in f s (between r cs) ≡ 0
mid_low f r s [] one le = refl
mid_low f r s (c ∷ cs) one le = elim (cases_eq (f c) s) [
  | inl h ↦
      let none : marks_in f s cs ≡ 0 = omega (arith, m_here f s c cs h, one) in
      elim (cases_Bool (ends r c)) [
        | inl e ↦ let is = between_end r c cs e in rw is (omega (arith, none, few_up f r s cs))
        | inr e ↦ let is = between_apart r c cs e in rw is (omega (arith, none, few_mid f r s cs))
      ]
  | inr h ↦
      let later = place_later s (f c) (map f cs) h in
      elim (cases_Bool (ends r c)) [
        | inl e ↦ absurd (omega (arith, le, later, first_here r c cs e))
        | inr e ↦ let is = between_apart r c cs e in rw is (mid_low f r s cs (sym (m_later f s c cs h) ∙ one) (omega (arith, le, later, first_later r c cs e)))
      ]
]

mid_high : (f : Column → ℕ) (r s : ℕ) (cs : List Column) → second_end r cs ≤ place s (map f cs) → marks_in f s (between r cs) ≡ 0
mid_high f r s [] le = refl
mid_high f r s (c ∷ cs) le = elim (cases_Bool (ends r c)) [
  | inl e ↦
      let is = between_end r c cs e in
      rw is (elim (cases_eq (f c) s) [
        | inl h ↦ absurd (omega (arith, le, second_here r c cs e, place_here s (f c) (map f cs) h))
        | inr h ↦ up_out f r s cs (omega (arith, le, second_here r c cs e, place_later s (f c) (map f cs) h))
      ])
  | inr e ↦
      let is = between_apart r c cs e in
      rw is (elim (cases_eq (f c) s) [
        | inl h ↦ absurd (omega (arith, le, second_later r c cs e, place_here s (f c) (map f cs) h))
        | inr h ↦ mid_high f r s cs (omega (arith, le, second_later r c cs e, place_later s (f c) (map f cs) h))
      ])
]

-- the ends of a row are its marks' columns
first_ring : (r : ℕ) (cs : List Column) → xs_in r cs ≡ 0 → first_end r cs ≡ place r (os_of cs)
first_ring r [] ex = refl
first_ring r (c ∷ cs) ex = elim (side r c) [
  | cross e ↦ absurd (omega (arith, xs_here r c cs e))
  | ring n e ↦ first_here r c cs (ends_ring r c e) ∙ sym (place_here r c.o (os_of cs) e)
  | apart n m ↦ first_later r c cs (ends_apart r c n m) ∙ ap suc (first_ring r cs (sym (xs_not_here r c cs n) ∙ ex)) ∙ sym (place_later r c.o (os_of cs) m)
]

first_cross : (r : ℕ) (cs : List Column) → os_in r cs ≡ 0 → first_end r cs ≡ place r (xs_of cs)
first_cross r [] eo = refl
first_cross r (c ∷ cs) eo = elim (side r c) [
  | cross e ↦ first_here r c cs (ends_cross r c e) ∙ sym (place_here r c.x (xs_of cs) e)
  | ring n e ↦ absurd (omega (arith, os_here r c cs e))
  | apart n m ↦ first_later r c cs (ends_apart r c n m) ∙ ap suc (first_cross r cs (sym (os_not_here r c cs m) ∙ eo)) ∙ sym (place_later r c.x (xs_of cs) n)
]

in_order : (r : ℕ) (cs : List Column) → first_end r cs ≤ second_end r cs
in_order r [] = omega arith
in_order r (c ∷ cs) = elim (cases_Bool (ends r c)) [
  | inl e ↦ omega (arith, first_here r c cs e)
  | inr e ↦ omega (arith, first_later r c cs e, second_later r c cs e, in_order r cs)
]

-- one way round or the other
abbrev AreEnds : ℕ → List Column → Type 0
AreEnds r cs =
    ((first_end r cs ≡ place r (xs_of cs)) × (second_end r cs ≡ place r (os_of cs)))
    ⊎ ((first_end r cs ≡ place r (os_of cs)) × (second_end r cs ≡ place r (xs_of cs)))

ends_of : (p : Bool → ℕ → ℕ → ℕ) (r : ℕ) (cs : List Column) → row_at p r r cs ≡ true → xs_in r cs ≡ 1 → os_in r cs ≡ 1 → AreEnds r cs
ends_of p r [] row ex eo = absurd (false≢true row)
ends_of p r (c ∷ cs) row ex eo = elim (side r c) [
  | cross e ↦
      let is = ends_cross r c e in
      let ex' : xs_in r cs ≡ 0 = omega (arith, xs_here r c cs e) in
      let on = sym (row_end p r r c cs is) ∙ row in
      let n : c.o ≢ r = λ f. false≢true (sym (on_clear p r r c.y cs ex' (omega (arith, os_here r c cs f))) ∙ on) in
      inl (
        first_here r c cs is ∙ sym (place_here r c.x (xs_of cs) e),
        second_here r c cs is ∙ ap suc (first_ring r cs ex') ∙ sym (place_later r c.o (os_of cs) n),
      )
  | ring n e ↦
      let is = ends_ring r c e in
      let eo' : os_in r cs ≡ 0 = omega (arith, os_here r c cs e) in
      inr (
        first_here r c cs is ∙ sym (place_here r c.o (os_of cs) e),
        second_here r c cs is ∙ ap suc (first_cross r cs eo') ∙ sym (place_later r c.x (xs_of cs) n),
      )
  | apart n m ↦
      let is = ends_apart r c n m in
      let rest = ends_of p r cs (sym (row_apart p r r c cs is) ∙ row) (sym (xs_not_here r c cs n) ∙ ex) (sym (os_not_here r c cs m) ∙ eo) in
      let px = place_later r c.x (xs_of cs) n in
      let po = place_later r c.o (os_of cs) m in
      elim rest [
        | inl h ↦ inl (first_later r c cs is ∙ ap suc h.0 ∙ sym px, second_later r c cs is ∙ ap suc h.1 ∙ sym po)
        | inr h ↦ inr (first_later r c cs is ∙ ap suc h.0 ∙ sym po, second_later r c cs is ∙ ap suc h.1 ∙ sym px)
      ]
]

-- rows whose intervals are nested or disjoint are together
pub together : (p : Bool → ℕ → ℕ → ℕ) (g : Diagram) (r s : ℕ) (cs : List Column) → IsMarked g cs → row_at p r r cs ≡ true → xs_in r cs ≡ 1 → os_in r cs ≡ 1
    → xs_in s cs ≡ 1 → os_in s cs ≡ 1
    → IsNested (across r g) (across s g) ⊎ (IsNested (across s g) (across r g) ⊎ IsDisjoint (across r g) (across s g)) → IsTogether r s cs
together p g r s cs marked row ex eo ex' eo' tradable =
    let mx : marks_in (λ (c : Column). c.x) s cs ≡ 1 = sym (xs_are s cs) ∙ ex' in
    let mo : marks_in (λ (c : Column). c.o) s cs ≡ 1 = sym (os_are s cs) ∙ eo' in
    let rx : place r (xs_of cs) ≡ place r g.x = ap (place r) marked.crosses in
    let ro : place r (os_of cs) ≡ place r g.o = ap (place r) marked.rings in
    let sx : place s (xs_of cs) ≡ place s g.x = ap (place s) marked.crosses in
    let so : place s (os_of cs) ≡ place s g.o = ap (place s) marked.rings in
    let f : Column → ℕ = λ c. c.x in
    let both_in : first_end r cs < place s (xs_of cs) → place s (xs_of cs) < second_end r cs → first_end r cs < place s (os_of cs)
    → place s (os_of cs) < second_end r cs → IsTogether r s cs = λ a b c d.
    xs_are s (between r cs) ∙ mid_in (λ (c : Column). c.x) r s cs mx a b ∙ sym (os_are s (between r cs) ∙ mid_in (λ (c : Column). c.o) r s cs mo c d) in
    let x_out : (place s (xs_of cs) ≤ first_end r cs) ⊎ (second_end r cs ≤ place s (xs_of cs)) → xs_in s (between r cs) ≡ 0 = λ out.
    xs_are s (between r cs) ∙ elim out [ inl l ↦ mid_low (λ (c : Column). c.x) r s cs mx l | inr l ↦ mid_high (λ (c : Column). c.x) r s cs l ] in
    let o_out : (place s (os_of cs) ≤ first_end r cs) ⊎ (second_end r cs ≤ place s (os_of cs)) → os_in s (between r cs) ≡ 0 = λ out.
    os_are s (between r cs) ∙ elim out [ inl l ↦ mid_low (λ (c : Column). c.o) r s cs mo l | inr l ↦ mid_high (λ (c : Column). c.o) r s cs l ] in
    elim (ends_of p r cs row ex eo) [
      | inl h ↦ elim tradable [
        | inl (inl k) ↦ both_in (omega (arith, h, k)) (omega (arith, h, k)) (omega (arith, h, k)) (omega (arith, h, k))
        | inl (inr k) ↦ absurd (omega (arith, h, k, in_order r cs))
        | inr (inl (inl k)) ↦ x_out (inl (omega (arith, h, k))) ∙ sym (o_out (inr (omega (arith, h, k))))
        | inr (inl (inr k)) ↦ x_out (inr (omega (arith, h, k))) ∙ sym (o_out (inl (omega (arith, h, k))))
        | inr (inr (inl k)) ↦ x_out (inr (omega (arith, h, k))) ∙ sym (o_out (inr (omega (arith, h, k))))
        | inr (inr (inr k)) ↦ x_out (inl (omega (arith, h, k))) ∙ sym (o_out (inl (omega (arith, h, k))))
      ]
      | inr h ↦ elim tradable [
        | inl (inl k) ↦ absurd (omega (arith, h, k, in_order r cs))
        | inl (inr k) ↦ both_in (omega (arith, h, k)) (omega (arith, h, k)) (omega (arith, h, k)) (omega (arith, h, k))
        | inr (inl (inl k)) ↦ x_out (inl (omega (arith, h, k))) ∙ sym (o_out (inr (omega (arith, h, k))))
        | inr (inl (inr k)) ↦ x_out (inr (omega (arith, h, k))) ∙ sym (o_out (inl (omega (arith, h, k))))
        | inr (inr (inl k)) ↦ x_out (inr (omega (arith, h, k))) ∙ sym (o_out (inr (omega (arith, h, k))))
        | inr (inr (inr k)) ↦ x_out (inl (omega (arith, h, k))) ∙ sym (o_out (inl (omega (arith, h, k))))
      ]
    ]
