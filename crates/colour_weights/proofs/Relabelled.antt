-- The weighted sum of a row under other numbers of the rows.
use Rattle.std.proofs.Common.{◌≡◌, ◌≢◌, ◌∙◌, ◌<◌, ◌+◌, ℕ, suc, List, [], ◌∷◌, map, ap, ap₂, sym, refl, arith, inl, inr, cond}
use Rattle.std.specs.Prelude.{Bool, true, false, ◌==◌, nat_lt, if◌then◌else◌}
use Rattle.std.proofs.lemmas.Bool.{cases_Bool, cases_order, lt-ltb, le-ltb, false≢true}
use Rattle.colour_laws.proofs.ColumnLists.{Column, ends, xs_in, os_in, crossed, crosses, rises, relabel, swapped}
use Rattle.colour_laws.proofs.Rows.{cross, ring, apart, side, ends_cross, ends_ring, ends_apart, crosses_above}
use Rattle.colour_laws.proofs.Level.{xs_here, xs_not_here, os_here, os_not_here}
use Rattle.colour_laws.proofs.Relabel.{ends_relabel, lower, upper, other, traded, lt_tests}
use Rattle.colour_weights.proofs.RowSums.{gained, gains, beside, sum_on, sum_row}
use Rattle.colour_weights.proofs.RowSteps.{sum_on_end, sum_on_apart, sum_row_end, sum_row_apart, gains_above}

-- the weighted sum of a row whose left end has its marks under other numbers
abbrev pub sum_turned : (p : Bool → ℕ → ℕ → ℕ) (G : Bool → ℕ → ℕ → ℕ → ℕ) → (ℕ → ℕ) → ℕ → ℕ → ℕ → List Column → ℕ
sum_turned p G f h r u [] = 0
sum_turned p G f h r u (c ∷ cs) = if ends r c then sum_on p G h r c.y (beside p (relabel f c) u) cs else sum_turned p G f h r (crosses p h c u) cs

module _ (p : Bool → ℕ → ℕ → ℕ) (G : Bool → ℕ → ℕ → ℕ → ℕ) where
  pub turned_end : (f : ℕ → ℕ) (h r u : ℕ) (c : Column) (cs : List Column) → ends r c ≡ true
      → sum_turned p G f h r u (c ∷ cs) ≡ sum_on p G h r c.y (beside p (relabel f c) u) cs
  turned_end f h r u c cs e = ap (λ b. cond b (sum_on p G h r c.y (beside p (relabel f c) u) cs) (sum_turned p G f h r (crosses p h c u) cs)) e

  pub turned_apart : (f : ℕ → ℕ) (h r u : ℕ) (c : Column) (cs : List Column) → ends r c ≡ false
      → sum_turned p G f h r u (c ∷ cs) ≡ sum_turned p G f h r (crosses p h c u) cs
  turned_apart f h r u c cs e = ap (λ b. cond b (sum_on p G h r c.y (beside p (relabel f c) u) cs) (sum_turned p G f h r (crosses p h c u) cs)) e

  pub sum_on_relabel : (f : ℕ → ℕ) (h r h' r' : ℕ) → ((x : ℕ) → (f x == r') ≡ (x == r)) → ((x : ℕ) → x ≢ r → nat_lt (f x) h' ≡ nat_lt x h)
      → (a u : ℕ) (cs : List Column) → sum_on p G h' r' a u (map (relabel f) cs) ≡ sum_on p G h r a u cs
  sum_on_relabel f h r h' r' same below a u [] = refl
  sum_on_relabel f h r h' r' same below a u (c ∷ cs) =
      let tests = ends_relabel f r r' same c in
      let at_end : ends r c ≡ true → sum_on p G h' r' a u (map (relabel f) (c ∷ cs)) ≡ sum_on p G h r a u (c ∷ cs) = λ e.
      sum_on_end p G h' r' a u (relabel f c) (map (relabel f) cs) (tests ∙ e) ∙ sym (sum_on_end p G h r a u c cs e) in
      elim (side r c) [
        | cross e ↦ at_end (ends_cross r c e)
        | ring n e ↦ at_end (ends_ring r c e)
        | apart n m ↦
            sum_on_apart p G h' r' a u (relabel f c) (map (relabel f) cs) (tests ∙ ends_apart r c n m)
            ∙ ap₂ (λ l k. gained G l k c.y a u + sum_on p G h' r' (crossed p l k c.y a) (crossed p l k c.y u) (map (relabel f) cs)) (below c.x n) (below c.o m)
            ∙ ap (λ s. gains G h c a u + s) (sum_on_relabel f h r h' r' same below (crosses p h c a) (crosses p h c u) cs)
            ∙ sym (sum_on_apart p G h r a u c cs (ends_apart r c n m))
      ]

  pub sum_row_relabel : (f : ℕ → ℕ) (h r h' r' : ℕ) → ((x : ℕ) → (f x == r') ≡ (x == r)) → ((x : ℕ) → x ≢ r → nat_lt (f x) h' ≡ nat_lt x h)
      → (u : ℕ) (cs : List Column) → sum_row p G h' r' u (map (relabel f) cs) ≡ sum_turned p G f h r u cs
  sum_row_relabel f h r h' r' same below u [] = refl
  sum_row_relabel f h r h' r' same below u (c ∷ cs) =
      let tests = ends_relabel f r r' same c in
      let at_end : ends r c ≡ true → sum_row p G h' r' u (map (relabel f) (c ∷ cs)) ≡ sum_turned p G f h r u (c ∷ cs) = λ e.
      sum_row_end p G h' r' u (relabel f c) (map (relabel f) cs) (tests ∙ e)
      ∙ sum_on_relabel f h r h' r' same below c.y (beside p (relabel f c) u) cs ∙ sym (turned_end f h r u c cs e) in
      elim (side r c) [
        | cross e ↦ at_end (ends_cross r c e)
        | ring n e ↦ at_end (ends_ring r c e)
        | apart n m ↦
            sum_row_apart p G h' r' u (relabel f c) (map (relabel f) cs) (tests ∙ ends_apart r c n m)
            ∙ ap₂ (λ l k. sum_row p G h' r' (crossed p l k c.y u) (map (relabel f) cs)) (below c.x n) (below c.o m)
            ∙ sum_row_relabel f h r h' r' same below (crosses p h c u) cs
            ∙ sym (turned_apart f h r u c cs (ends_apart r c n m))
      ]

  -- where the left end's marks stay in order
  pub turned_kept : (f : ℕ → ℕ) (h r : ℕ) → ((c : Column) → ends r c ≡ true → rises (relabel f c) ≡ rises c) → (u : ℕ) (cs : List Column)
      → sum_turned p G f h r u cs ≡ sum_row p G h r u cs
  turned_kept f h r order u [] = refl
  turned_kept f h r order u (c ∷ cs) = elim (cases_Bool (ends r c)) [
    | inl e ↦
        turned_end f h r u c cs e ∙ ap (λ b. sum_on p G h r c.y (cond b (p true c.y u) u) cs) (order c e) ∙ sym (sum_row_end p G h r u c cs e)
    | inr e ↦ turned_apart f h r u c cs e ∙ turned_kept f h r order (crosses p h c u) cs ∙ sym (sum_row_apart p G h r u c cs e)
  ]

  -- columns without a mark in row t are passed alike below it and above it
  pub sum_on_clear : (t r a u : ℕ) (cs : List Column) → xs_in t cs ≡ 0 → os_in t cs ≡ 0 → sum_on p G (suc t) r a u cs ≡ sum_on p G t r a u cs
  sum_on_clear t r a u [] ex eo = refl
  sum_on_clear t r a u (c ∷ cs) ex eo = elim (side t c) [
    | cross e ↦ absurd (omega (arith, xs_here t c cs e))
    | ring n e ↦ absurd (omega (arith, os_here t c cs e))
    | apart n m ↦
        ap (λ s. cond (ends r c) 0 s) (ap₂ (λ g s. g + s) (gains_above p G t c a u n m)
        (ap₂ (λ a b. sum_on p G (suc t) r a b cs) (crosses_above p t c a n m) (crosses_above p t c u n m)
        ∙ sum_on_clear t r (crosses p t c a) (crosses p t c u) cs (sym (xs_not_here t c cs n) ∙ ex) (sym (os_not_here t c cs m) ∙ eo)))
  ]

  pub turned_clear : (f : ℕ → ℕ) (t r u : ℕ) (cs : List Column) → xs_in t cs ≡ 0 → os_in t cs ≡ 0 → sum_turned p G f (suc t) r u cs ≡ sum_turned p G f t r u cs
  turned_clear f t r u [] ex eo = refl
  turned_clear f t r u (c ∷ cs) ex eo = elim (side t c) [
    | cross e ↦ absurd (omega (arith, xs_here t c cs e))
    | ring n e ↦ absurd (omega (arith, os_here t c cs e))
    | apart n m ↦
        let ex' : xs_in t cs ≡ 0 = sym (xs_not_here t c cs n) ∙ ex in
        let eo' : os_in t cs ≡ 0 = sym (os_not_here t c cs m) ∙ eo in
        ap₂ (λ s z. cond (ends r c) s z) (sum_on_clear t r c.y (beside p (relabel f c) u) cs ex' eo')
        (ap (λ b. sum_turned p G f (suc t) r b cs) (crosses_above p t c u n m) ∙ turned_clear f t r (crosses p t c u) cs ex' eo')
  ]

  -- a row is passed alike at the height above it
  pub sum_on_above : (r a u : ℕ) (cs : List Column) → sum_on p G (suc r) r a u cs ≡ sum_on p G r r a u cs
  sum_on_above r a u [] = refl
  sum_on_above r a u (c ∷ cs) = elim (side r c) [
    | cross e ↦ sum_on_end p G (suc r) r a u c cs (ends_cross r c e) ∙ sym (sum_on_end p G r r a u c cs (ends_cross r c e))
    | ring n e ↦ sum_on_end p G (suc r) r a u c cs (ends_ring r c e) ∙ sym (sum_on_end p G r r a u c cs (ends_ring r c e))
    | apart n m ↦
        ap (λ s. cond (ends r c) 0 s) (ap₂ (λ g s. g + s) (gains_above p G r c a u n m)
        (ap₂ (λ a b. sum_on p G (suc r) r a b cs) (crosses_above p r c a n m) (crosses_above p r c u n m)
        ∙ sum_on_above r (crosses p r c a) (crosses p r c u) cs))
  ]

  pub turned_above : (f : ℕ → ℕ) (r u : ℕ) (cs : List Column) → sum_turned p G f (suc r) r u cs ≡ sum_turned p G f r r u cs
  turned_above f r u [] = refl
  turned_above f r u (c ∷ cs) = elim (cases_Bool (ends r c)) [
    | inl e ↦
        turned_end f (suc r) r u c cs e ∙ sum_on_above r c.y (beside p (relabel f c) u) cs ∙ sym (turned_end f r r u c cs e)
    | inr e ↦ elim (side r c) [
      | cross g ↦ absurd (false≢true (sym e ∙ ends_cross r c g))
      | ring n g ↦ absurd (false≢true (sym e ∙ ends_ring r c g))
      | apart n m ↦
          turned_apart f (suc r) r u c cs e ∙ ap (λ b. sum_turned p G f (suc r) r b cs) (crosses_above p r c u n m)
          ∙ turned_above f r (crosses p r c u) cs ∙ sym (turned_apart f r r u c cs e)
    ]
  ]

-- rows r and r + 1 trade places: marks stay in order but for those of a column that has one in each
swapped_less : (r x o : ℕ) → x < o → (x ≡ r → o ≡ suc r → ⊥) → swapped r x < swapped r o
swapped_less r x o l never = elim (traded r x) [
  | lower e is ↦ elim (traded r o) [
    | lower f is' ↦ absurd (omega arith)
    | upper f is' ↦ absurd (never e f)
    | other n m is' ↦ elim (cases_order o (suc r)) [ inl g ↦ absurd (m g) | inr (inl g) ↦ absurd (omega arith) | inr (inr g) ↦ omega arith ]
  ]
  | upper e is ↦ elim (traded r o) [
    | lower f is' ↦ absurd (omega arith)
    | upper f is' ↦ absurd (omega arith)
    | other n m is' ↦ omega arith
  ]
  | other n m is ↦ elim (traded r o) [
    | lower f is' ↦ omega arith
    | upper f is' ↦ elim (cases_order x r) [ inl g ↦ absurd (n g) | inr (inl g) ↦ omega arith | inr (inr g) ↦ absurd (omega arith) ]
    | other n' m' is' ↦ omega arith
  ]
]

pub swapped_order : (r : ℕ) (c : Column) → (c.x ≡ r → c.o ≡ suc r → ⊥) → (c.o ≡ r → c.x ≡ suc r → ⊥) → rises (relabel (swapped r) c) ≡ rises c
swapped_order r c up down = lt_tests c.x c.o (swapped r c.x) (swapped r c.o) (λ l. swapped_less r c.x c.o l up) (λ l. elim (cases_order c.x c.o) [
  | inl e ↦ absurd (omega (arith, l, ap (swapped r) e))
  | inr (inl g) ↦ g
  | inr (inr g) ↦ absurd (omega (arith, l, swapped_less r c.o c.x g down))
])

pub swapped_up : (r : ℕ) (c : Column) → c.x ≡ r → c.o ≡ suc r → (rises c ≡ true) × (rises (relabel (swapped r) c) ≡ false)
swapped_up r c e f = elim (traded r c.x) [
  | lower g is ↦ elim (traded r c.o) [
    | lower g' is' ↦ absurd (omega arith)
    | upper g' is' ↦ (lt-ltb c.x c.o (omega arith), le-ltb (swapped r c.x) (swapped r c.o) (omega arith))
    | other n m is' ↦ absurd (m f)
  ]
  | upper g is ↦ absurd (omega arith)
  | other n m is ↦ absurd (n e)
]

pub swapped_down : (r : ℕ) (c : Column) → c.o ≡ r → c.x ≡ suc r → (rises c ≡ false) × (rises (relabel (swapped r) c) ≡ true)
swapped_down r c e f = elim (traded r c.o) [
  | lower g is ↦ elim (traded r c.x) [
    | lower g' is' ↦ absurd (omega arith)
    | upper g' is' ↦ (le-ltb c.x c.o (omega arith), lt-ltb (swapped r c.x) (swapped r c.o) (omega arith))
    | other n m is' ↦ absurd (m f)
  ]
  | upper g is ↦ absurd (omega arith)
  | other n m is ↦ absurd (n e)
]
