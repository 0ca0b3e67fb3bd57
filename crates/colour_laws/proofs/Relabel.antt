-- Rows under other numbers.
use Rattle.std.proofs.Common.{◌≡◌, ◌≢◌, ◌∙◌, ◌<◌, ℕ, suc, List, [], ◌∷◌, map, ap, ap₂, sym, refl, arith, inl, inr, cond}
use Rattle.std.specs.Prelude.{Bool, true, nat_lt, ◌==◌, ◌||◌}
use Rattle.std.proofs.lemmas.Bool.{eq-eqb, ne_eqb, lt-ltb, le-ltb, cond-true, cond-false, cases_eq, cases_lt, cases_order, cases_Bool}
use Rattle.colour_laws.proofs.ColumnLists.{Column, ends, xs_in, os_in, crossed, crosses, relabel, swapped}
use Rattle.colour_laws.proofs.Rows.{cross, ring, apart, side, ends_cross, ends_ring, ends_apart, on_at, row_at, row_end, row_apart, on_end, on_apart}

pub ends_relabel : (f : ℕ → ℕ) (r r' : ℕ) → ((x : ℕ) → (f x == r') ≡ (x == r)) → (c : Column) → ends r' (relabel f c) ≡ ends r c
ends_relabel f r r' same c = ap₂ (λ a b. a || b) (same c.x) (same c.o)

pub xs_relabel : (f : ℕ → ℕ) (r r' : ℕ) → ((x : ℕ) → (f x == r') ≡ (x == r)) → (cs : List Column) → xs_in r' (map (relabel f) cs) ≡ xs_in r cs
xs_relabel f r r' same [] = refl
xs_relabel f r r' same (c ∷ cs) = ap₂ (λ t n. cond t (suc n) n) (same c.x) (xs_relabel f r r' same cs)

pub os_relabel : (f : ℕ → ℕ) (r r' : ℕ) → ((x : ℕ) → (f x == r') ≡ (x == r)) → (cs : List Column) → os_in r' (map (relabel f) cs) ≡ os_in r cs
os_relabel f r r' same [] = refl
os_relabel f r r' same (c ∷ cs) = ap₂ (λ t n. cond t (suc n) n) (same c.o) (os_relabel f r r' same cs)

pub on_relabel : (p : Bool → ℕ → ℕ → ℕ) (f : ℕ → ℕ) (h r h' r' : ℕ) → ((x : ℕ) → (f x == r') ≡ (x == r)) → ((x : ℕ) → x ≢ r → nat_lt (f x) h' ≡ nat_lt x h)
    → (a : ℕ) (cs : List Column) → on_at p h' r' a (map (relabel f) cs) ≡ on_at p h r a cs
on_relabel p f h r h' r' same below a [] = refl
on_relabel p f h r h' r' same below a (c ∷ cs) =
    let tests = ends_relabel f r r' same c in
    let at_end : ends r c ≡ true → on_at p h' r' a (map (relabel f) (c ∷ cs)) ≡ on_at p h r a (c ∷ cs) = λ e.
    on_end p h' r' a (relabel f c) (map (relabel f) cs) (tests ∙ e) ∙ sym (on_end p h r a c cs e) in
    elim (side r c) [
      | cross e ↦ at_end (ends_cross r c e)
      | ring n e ↦ at_end (ends_ring r c e)
      | apart n m ↦
          on_apart p h' r' a (relabel f c) (map (relabel f) cs) (tests ∙ ends_apart r c n m)
          ∙ ap₂ (λ l k. on_at p h' r' (crossed p l k c.y a) (map (relabel f) cs)) (below c.x n) (below c.o m)
          ∙ on_relabel p f h r h' r' same below (crosses p h c a) cs
          ∙ sym (on_apart p h r a c cs (ends_apart r c n m))
    ]

-- a row whose marks and whose strands' sides are the same under other numbers has the same walk
pub row_relabel : (p : Bool → ℕ → ℕ → ℕ) (f : ℕ → ℕ) (h r h' r' : ℕ) → ((x : ℕ) → (f x == r') ≡ (x == r)) → ((x : ℕ) → x ≢ r → nat_lt (f x) h' ≡ nat_lt x h)
    → (cs : List Column) → row_at p h' r' (map (relabel f) cs) ≡ row_at p h r cs
row_relabel p f h r h' r' same below [] = refl
row_relabel p f h r h' r' same below (c ∷ cs) =
    let tests = ends_relabel f r r' same c in
    elim (cases_Bool (ends r c)) [
      | inl e ↦
          row_end p h' r' (relabel f c) (map (relabel f) cs) (tests ∙ e) ∙ on_relabel p f h r h' r' same below c.y cs ∙ sym (row_end p h r c cs e)
      | inr e ↦
          row_apart p h' r' (relabel f c) (map (relabel f) cs) (tests ∙ e) ∙ row_relabel p f h r h' r' same below cs ∙ sym (row_apart p h r c cs e)
    ]

-- tests that say the same
pub eq_tests : (x r x' r' : ℕ) → (x ≡ r → x' ≡ r') → (x' ≡ r' → x ≡ r) → (x' == r') ≡ (x == r)
eq_tests x r x' r' go back = elim (cases_eq x r) [
  | inl e ↦ eq-eqb x' r' (go e) ∙ sym (eq-eqb x r e)
  | inr n ↦ ne_eqb x' r' (λ e. n (back e)) ∙ sym (ne_eqb x r n)
]

pub lt_tests : (x h x' h' : ℕ) → (x < h → x' < h') → (x' < h' → x < h) → nat_lt x' h' ≡ nat_lt x h
lt_tests x h x' h' go back = elim (cases_lt x h) [
  | inl l ↦ lt-ltb x' h' (go l) ∙ sym (lt-ltb x h l)
  | inr g ↦ elim (cases_lt x' h') [
    | inl l ↦ absurd (omega (arith, back l, g))
    | inr g' ↦ le-ltb x' h' g' ∙ sym (le-ltb x h g)
  ]
]

-- where two neighbouring rows trade places
pub data Traded (r x : ℕ) : Type 0 where
  lower : x ≡ r → swapped r x ≡ suc r → Traded r x
  upper : x ≡ suc r → swapped r x ≡ r → Traded r x
  other : x ≢ r → x ≢ suc r → swapped r x ≡ x → Traded r x

pub traded : (r x : ℕ) → Traded r x
traded r x = elim (cases_eq x r) [
  | inl e ↦ lower e (cond-true (x == r) (suc r) (cond (x == suc r) r x) (eq-eqb x r e))
  | inr n ↦
      let first : swapped r x ≡ cond (x == suc r) r x = cond-false (x == r) (suc r) (cond (x == suc r) r x) (ne_eqb x r n) in
      elim (cases_eq x (suc r)) [
        | inl e ↦ upper e (first ∙ cond-true (x == suc r) r x (eq-eqb x (suc r) e))
        | inr m ↦ other n m (first ∙ cond-false (x == suc r) r x (ne_eqb x (suc r) m))
      ]
]

pub eq_lower : (r x : ℕ) → (swapped r x == r) ≡ (x == suc r)
eq_lower r x = elim (traded r x) [
  | lower e is ↦ eq_tests x (suc r) (swapped r x) r (λ f. omega arith) (λ f. omega arith)
  | upper e is ↦ eq_tests x (suc r) (swapped r x) r (λ f. omega arith) (λ f. omega arith)
  | other n m is ↦ eq_tests x (suc r) (swapped r x) r (λ f. absurd (m f)) (λ f. absurd (n (sym is ∙ f)))
]

pub eq_upper : (r x : ℕ) → (swapped r x == suc r) ≡ (x == r)
eq_upper r x = elim (traded r x) [
  | lower e is ↦ eq_tests x r (swapped r x) (suc r) (λ f. omega arith) (λ f. omega arith)
  | upper e is ↦ eq_tests x r (swapped r x) (suc r) (λ f. omega arith) (λ f. omega arith)
  | other n m is ↦ eq_tests x r (swapped r x) (suc r) (λ f. absurd (n f)) (λ f. absurd (m (sym is ∙ f)))
]

pub eq_other : (r s : ℕ) → s ≢ r → s ≢ suc r → (x : ℕ) → (swapped r x == s) ≡ (x == s)
eq_other r s u v x = elim (traded r x) [
  | lower e is ↦ eq_tests x s (swapped r x) s (λ f. absurd (u (sym f ∙ e))) (λ f. absurd (v (sym f ∙ is)))
  | upper e is ↦ eq_tests x s (swapped r x) s (λ f. absurd (v (sym f ∙ e))) (λ f. absurd (u (sym f ∙ is)))
  | other n m is ↦ eq_tests x s (swapped r x) s (λ f. is ∙ f) (λ f. sym is ∙ f)
]

-- the upper of the two rows, moved down, has below it what was below both
pub lt_lower : (r x : ℕ) → x ≢ suc r → nat_lt (swapped r x) r ≡ nat_lt x r
lt_lower r x n = elim (traded r x) [
  | lower e is ↦ lt_tests x r (swapped r x) r (λ f. omega arith) (λ f. omega arith)
  | upper e is ↦ absurd (n e)
  | other u v is ↦ lt_tests x r (swapped r x) r (λ f. omega arith) (λ f. omega arith)
]

-- the lower of the two, moved up, has below it what was below the height above both
pub lt_upper : (r x : ℕ) → x ≢ r → nat_lt (swapped r x) (suc r) ≡ nat_lt x (suc (suc r))
lt_upper r x n = elim (traded r x) [
  | lower e is ↦ absurd (n e)
  | upper e is ↦ lt_tests x (suc (suc r)) (swapped r x) (suc r) (λ f. omega arith) (λ f. omega arith)
  | other u v is ↦ lt_tests x (suc (suc r)) (swapped r x) (suc r) (λ f. elim (cases_order x (suc r)) [
    | inl e ↦ absurd (v e)
    | inr (inl l) ↦ omega arith
    | inr (inr l) ↦ omega arith
  ]) (λ f. omega arith)
]

pub lt_other : (r s : ℕ) → s ≢ r → s ≢ suc r → (x : ℕ) → nat_lt (swapped r x) s ≡ nat_lt x s
lt_other r s u v x = elim (traded r x) [
  | lower e is ↦ lt_tests x s (swapped r x) s (λ f. elim (cases_eq s (suc r)) [
    | inl k ↦ absurd (v k)
    | inr k ↦ elim (cases_order s (suc r)) [ inl e' ↦ absurd (k e') | inr (inl l) ↦ omega arith | inr (inr l) ↦ omega arith ]
  ]) (λ f. omega arith)
  | upper e is ↦ lt_tests x s (swapped r x) s (λ f. omega arith) (λ f. elim (cases_order s (suc r)) [
    | inl k ↦ absurd (v k)
    | inr (inl l) ↦ omega arith
    | inr (inr l) ↦ omega arith
  ])
  | other n m is ↦ lt_tests x s (swapped r x) s (λ f. omega arith) (λ f. omega arith)
]

pub swapped_twice : (r x : ℕ) → swapped r (swapped r x) ≡ x
swapped_twice r x = elim (traded r x) [
  | lower e is ↦ elim (traded r (swapped r x)) [
    | lower f g ↦ absurd (omega arith)
    | upper f g ↦ g ∙ sym e
    | other n m g ↦ absurd (m is)
  ]
  | upper e is ↦ elim (traded r (swapped r x)) [
    | lower f g ↦ g ∙ sym e
    | upper f g ↦ absurd (omega arith)
    | other n m g ↦ absurd (n is)
  ]
  | other n m is ↦ ap (swapped r) is ∙ is
]
