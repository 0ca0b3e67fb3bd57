-- An exchange of neighbouring rows keeps each colouring.
use Rattle.std.proofs.Common.{◌≡◌, ◌∙◌, ◌<◌, ◌≤◌, ◌+◌, ℕ, suc, List, [], ◌∷◌, map, ap, sym, refl, arith, inl, inr, subst}
use Rattle.std.specs.Prelude.{Bool, true, false, ◌==◌}
use Rattle.std.proofs.lemmas.Bool.{cond-true, cond-false, false≢true, cases_Bool, cases_eq, cases_order}
use Rattle.colour_laws.proofs.ColumnLists.{Acts, Column, ends, xs_in, os_in, crosses, level, relabel, up_to, between, IsTogether, swapped, IsColoured}
use Rattle.colour_laws.proofs.Rows.{cross, ring, apart, side, ends_apart, on_at, row_at, row_end, row_apart, on_end, on_apart, row_above, row_walk}
use Rattle.colour_laws.proofs.Level.{xs_here, xs_not_here, os_here, os_not_here, level_clear, on_clear, passed}
use Rattle.colour_laws.proofs.Relabel.{xs_relabel, os_relabel, row_relabel, eq_lower, eq_upper, eq_other, lt_lower, lt_upper, lt_other}

-- the walk of a row hangs on the columns between its ends alone
on_same : (p : Bool → ℕ → ℕ → ℕ) (h h' r : ℕ) (cs : List Column) (v v' : ℕ) → level p h (up_to r cs) v ≡ level p h' (up_to r cs) v'
    → on_at p h r v cs ≡ on_at p h' r v' cs
on_same p h h' r [] v v' e = refl
on_same p h h' r (c ∷ cs) v v' e = elim (cases_Bool (ends r c)) [
  | inl f ↦
      let none : up_to r (c ∷ cs) ≡ [] = cond-true (ends r c) [] (c ∷ up_to r cs) f in
      let e' : v ≡ v' = rw none at e in
      on_end p h r v c cs f ∙ ap (λ w. w == c.y) e' ∙ sym (on_end p h' r v' c cs f)
  | inr f ↦
      let more : up_to r (c ∷ cs) ≡ c ∷ up_to r cs = cond-false (ends r c) [] (c ∷ up_to r cs) f in
      let e' : level p h (up_to r cs) (crosses p h c v) ≡ level p h' (up_to r cs) (crosses p h' c v') = rw more at e in
      on_apart p h r v c cs f ∙ on_same p h h' r cs (crosses p h c v) (crosses p h' c v') e' ∙ sym (on_apart p h' r v' c cs f)
]

pub row_same : (p : Bool → ℕ → ℕ → ℕ) (h h' r : ℕ) (cs : List Column) → ((v : ℕ) → level p h (between r cs) v ≡ level p h' (between r cs) v)
    → row_at p h r cs ≡ row_at p h' r cs
row_same p h h' r [] e = refl
row_same p h h' r (c ∷ cs) e = elim (cases_Bool (ends r c)) [
  | inl f ↦
      let found : between r (c ∷ cs) ≡ up_to r cs = cond-true (ends r c) (up_to r cs) (between r cs) f in
      let e' : level p h (up_to r cs) c.y ≡ level p h' (up_to r cs) c.y = subst (λ (ds : List Column). level p h ds c.y ≡ level p h' ds c.y) found (e c.y) in
      row_end p h r c cs f ∙ on_same p h h' r cs c.y c.y e' ∙ sym (row_end p h' r c cs f)
  | inr f ↦
      let further : between r (c ∷ cs) ≡ between r cs = cond-false (ends r c) (up_to r cs) (between r cs) f in
      row_apart p h r c cs f
      ∙ row_same p h h' r cs (λ v. subst (λ (ds : List Column). level p h ds v ≡ level p h' ds v) further (e v))
      ∙ sym (row_apart p h' r c cs f)
]

pub up_to_end : (r : ℕ) (c : Column) (cs : List Column) → ends r c ≡ true → up_to r (c ∷ cs) ≡ []
up_to_end r c cs e = cond-true (ends r c) [] (c ∷ up_to r cs) e

pub up_to_apart : (r : ℕ) (c : Column) (cs : List Column) → ends r c ≡ false → up_to r (c ∷ cs) ≡ c ∷ up_to r cs
up_to_apart r c cs e = cond-false (ends r c) [] (c ∷ up_to r cs) e

pub between_end : (r : ℕ) (c : Column) (cs : List Column) → ends r c ≡ true → between r (c ∷ cs) ≡ up_to r cs
between_end r c cs e = cond-true (ends r c) (up_to r cs) (between r cs) e

pub between_apart : (r : ℕ) (c : Column) (cs : List Column) → ends r c ≡ false → between r (c ∷ cs) ≡ between r cs
between_apart r c cs e = cond-false (ends r c) (up_to r cs) (between r cs) e

-- marks of row s in one column
xs_one : (s : ℕ) (c : Column) (cs : List Column) → xs_in s (c ∷ cs) ≡ xs_in s (c ∷ []) + xs_in s cs
xs_one s c cs = elim (cases_eq c.x s) [
  | inl e ↦ omega (arith, xs_here s c cs e, xs_here s c [] e)
  | inr n ↦ omega (arith, xs_not_here s c cs n, xs_not_here s c [] n)
]

os_one : (s : ℕ) (c : Column) (cs : List Column) → os_in s (c ∷ cs) ≡ os_in s (c ∷ []) + os_in s cs
os_one s c cs = elim (cases_eq c.o s) [
  | inl e ↦ omega (arith, os_here s c cs e, os_here s c [] e)
  | inr n ↦ omega (arith, os_not_here s c cs n, os_not_here s c [] n)
]

-- a part has no more marks than the whole
few_up_to : (r s : ℕ) (cs : List Column) → (xs_in s (up_to r cs) ≤ xs_in s cs) × (os_in s (up_to r cs) ≤ os_in s cs)
few_up_to r s [] = (omega arith, omega arith)
few_up_to r s (c ∷ cs) = elim (cases_Bool (ends r c)) [
  | inl e ↦
      let is = up_to_end r c cs e in
      (rw is (omega arith), rw is (omega arith))
  | inr e ↦
      let is = up_to_apart r c cs e in
      let rest = few_up_to r s cs in
      (rw is (omega (arith, xs_one s c cs, xs_one s c (up_to r cs), rest)), rw is (omega (arith, os_one s c cs, os_one s c (up_to r cs), rest)))
]

pub few_between : (r s : ℕ) (cs : List Column) → (xs_in s (between r cs) ≤ xs_in s cs) × (os_in s (between r cs) ≤ os_in s cs)
few_between r s [] = (omega arith, omega arith)
few_between r s (c ∷ cs) = elim (cases_Bool (ends r c)) [
  | inl e ↦
      let is = between_end r c cs e in
      let rest = few_up_to r s cs in
      (rw is (omega (arith, xs_one s c cs, rest)), rw is (omega (arith, os_one s c cs, rest)))
  | inr e ↦
      let is = between_apart r c cs e in
      let rest = few_between r s cs in
      (rw is (omega (arith, xs_one s c cs, rest)), rw is (omega (arith, os_one s c cs, rest)))
]

row_clear : (p : Bool → ℕ → ℕ → ℕ) (h r : ℕ) (cs : List Column) → xs_in r cs ≡ 0 → os_in r cs ≡ 0 → row_at p h r cs ≡ false
row_clear p h r [] ex eo = refl
row_clear p h r (c ∷ cs) ex eo = elim (side r c) [
  | cross e ↦ absurd (omega (arith, xs_here r c cs e))
  | ring n e ↦ absurd (omega (arith, os_here r c cs e))
  | apart n m ↦ row_apart p h r c cs (ends_apart r c n m) ∙ row_clear p h r cs (sym (xs_not_here r c cs n) ∙ ex) (sym (os_not_here r c cs m) ∙ eo)
]

-- row s, whose marks all stand left of the next mark in row r, has the same walk there
on_within : (p : Bool → ℕ → ℕ → ℕ) (h r s a : ℕ) (cs : List Column) → on_at p h s a cs ≡ true → xs_in s cs ≡ xs_in s (up_to r cs)
    → os_in s cs ≡ os_in s (up_to r cs)
    → on_at p h s a (up_to r cs) ≡ true
on_within p h r s a [] on ex eo = on
on_within p h r s a (c ∷ cs) on ex eo = elim (cases_Bool (ends r c)) [
  | inl e ↦
      let is = up_to_end r c cs e in
      let ex' : xs_in s (c ∷ cs) ≡ 0 = rw is at ex in
      let eo' : os_in s (c ∷ cs) ≡ 0 = rw is at eo in
      absurd (false≢true (sym (on_clear p h s a (c ∷ cs) ex' eo') ∙ on))
  | inr e ↦
      let is = up_to_apart r c cs e in
      let ex' : xs_in s (c ∷ cs) ≡ xs_in s (c ∷ up_to r cs) = rw is at ex in
      let eo' : os_in s (c ∷ cs) ≡ os_in s (c ∷ up_to r cs) = rw is at eo in
      rw is (elim (cases_Bool (ends s c)) [
        | inl f ↦ on_end p h s a c (up_to r cs) f ∙ sym (on_end p h s a c cs f) ∙ on
        | inr f ↦
            on_apart p h s a c (up_to r cs) f
            ∙ on_within p h r s (crosses p h c a) cs (sym (on_apart p h s a c cs f) ∙ on)
            (omega (arith, ex', xs_one s c cs, xs_one s c (up_to r cs))) (omega (arith, eo', os_one s c cs, os_one s c (up_to r cs)))
      ])
]

row_within : (p : Bool → ℕ → ℕ → ℕ) (h r s : ℕ) (cs : List Column) → row_at p h s cs ≡ true → xs_in s cs ≡ xs_in s (up_to r cs)
    → os_in s cs ≡ os_in s (up_to r cs)
    → row_at p h s (up_to r cs) ≡ true
row_within p h r s [] row ex eo = row
row_within p h r s (c ∷ cs) row ex eo = elim (cases_Bool (ends r c)) [
  | inl e ↦
      let is = up_to_end r c cs e in
      let ex' : xs_in s (c ∷ cs) ≡ 0 = rw is at ex in
      let eo' : os_in s (c ∷ cs) ≡ 0 = rw is at eo in
      absurd (false≢true (sym (row_clear p h s (c ∷ cs) ex' eo') ∙ row))
  | inr e ↦
      let is = up_to_apart r c cs e in
      let ex' : xs_in s (c ∷ cs) ≡ xs_in s (c ∷ up_to r cs) = rw is at ex in
      let eo' : os_in s (c ∷ cs) ≡ os_in s (c ∷ up_to r cs) = rw is at eo in
      let ex'' : xs_in s cs ≡ xs_in s (up_to r cs) = omega (arith, ex', xs_one s c cs, xs_one s c (up_to r cs)) in
      let eo'' : os_in s cs ≡ os_in s (up_to r cs) = omega (arith, eo', os_one s c cs, os_one s c (up_to r cs)) in
      rw is (elim (cases_Bool (ends s c)) [
        | inl f ↦ row_end p h s c (up_to r cs) f ∙ on_within p h r s c.y cs (sym (row_end p h s c cs f) ∙ row) ex'' eo''
        | inr f ↦ row_apart p h s c (up_to r cs) f ∙ row_within p h r s cs (sym (row_apart p h s c cs f) ∙ row) ex'' eo''
      ])
]

-- a column without marks of row s
no_marks : (s : ℕ) (c : Column) → xs_in s (c ∷ []) ≡ 0 → os_in s (c ∷ []) ≡ 0 → ends s c ≡ false
no_marks s c ex eo = elim (side s c) [
  | cross e ↦ absurd (omega (arith, xs_here s c [] e))
  | ring n e ↦ absurd (omega (arith, os_here s c [] e))
  | apart n m ↦ ends_apart s c n m
]

-- row s, whose marks all stand between the ends of row r, has the same walk there
pub row_between : (p : Bool → ℕ → ℕ → ℕ) (h r s : ℕ) (cs : List Column) → row_at p h s cs ≡ true → xs_in s cs ≡ xs_in s (between r cs)
    → os_in s cs ≡ os_in s (between r cs)
    → row_at p h s (between r cs) ≡ true
row_between p h r s [] row ex eo = row
row_between p h r s (c ∷ cs) row ex eo = elim (cases_Bool (ends r c)) [
  | inl e ↦
      let is = between_end r c cs e in
      let ex' : xs_in s (c ∷ cs) ≡ xs_in s (up_to r cs) = rw is at ex in
      let eo' : os_in s (c ∷ cs) ≡ os_in s (up_to r cs) = rw is at eo in
      let few = few_up_to r s cs in
      let f = no_marks s c (omega (arith, ex', few, xs_one s c cs)) (omega (arith, eo', few, os_one s c cs)) in
      rw is (row_within p h r s cs (sym (row_apart p h s c cs f) ∙ row) (omega (arith, ex', few, xs_one s c cs)) (omega (arith, eo', few, os_one s c cs)))
  | inr e ↦
      let is = between_apart r c cs e in
      let ex' : xs_in s (c ∷ cs) ≡ xs_in s (between r cs) = rw is at ex in
      let eo' : os_in s (c ∷ cs) ≡ os_in s (between r cs) = rw is at eo in
      let few = few_between r s cs in
      let f = no_marks s c (omega (arith, ex', few, xs_one s c cs)) (omega (arith, eo', few, os_one s c cs)) in
      rw is (row_between p h r s cs (sym (row_apart p h s c cs f) ∙ row) (omega (arith, ex', few, xs_one s c cs)) (omega (arith, eo', few, os_one s c cs)))
]

-- a row passes another row whose ends stand both between its own ends or both outside
pub level_between : (p : Bool → ℕ → ℕ → ℕ) → Acts p → (r s : ℕ) (cs : List Column) → row_at p s s cs ≡ true → xs_in s cs ≡ 1 → os_in s cs ≡ 1
    → IsTogether r s cs
    → (v : ℕ) → level p (suc s) (between r cs) v ≡ level p s (between r cs) v
level_between p acts r s cs row ex eo together v =
    let few = few_between r s cs in
    elim (cases_eq (xs_in s (between r cs)) 0) [
      | inl none ↦ level_clear p s (between r cs) none (sym together ∙ none) v
      | inr some ↦
          let one : xs_in s (between r cs) ≡ 1 = elim (cases_order (xs_in s (between r cs)) 1) [
            | inl e ↦ e
            | inr (inl l) ↦ absurd (some (omega arith))
            | inr (inr l) ↦ absurd (omega (arith, few))
          ] in
          passed p acts s (between r cs) (row_between p s r s cs row (ex ∙ sym one) (eo ∙ sym (sym together ∙ one))) one (sym together ∙ one) v
    ]

-- an exchange of rows r and r + 1
pub rows_exchanged : (p : Bool → ℕ → ℕ → ℕ) → Acts p → (n r : ℕ) (cs : List Column) → suc r < n → IsTogether r (suc r) cs → IsTogether (suc r) r cs
    → IsColoured p n cs → IsColoured p n (map (relabel (swapped r)) cs)
rows_exchanged p acts n r cs inside up down coloured =
    let lt : r < n = omega arith in
    let low : row_at p r r cs ≡ true = sym (row_walk p r cs) ∙ coloured.walks r lt in
    let high : row_at p (suc r) (suc r) cs ≡ true = sym (row_walk p (suc r) cs) ∙ coloured.walks (suc r) inside in
    let new_low : row_at p r r (map (relabel (swapped r)) cs) ≡ true =
    row_relabel p (swapped r) r (suc r) r r (eq_lower r) (lt_lower r) cs
    ∙ sym (row_same p (suc r) r (suc r) cs (level_between p acts (suc r) r cs low (coloured.crosses r lt) (coloured.rings r lt) down))
    ∙ high in
    let new_high : row_at p (suc r) (suc r) (map (relabel (swapped r)) cs) ≡ true =
    row_relabel p (swapped r) (suc (suc r)) r (suc r) (suc r) (eq_upper r) (lt_upper r) cs
    ∙ row_same p (suc (suc r)) (suc r) r cs (level_between p acts r (suc r) cs high (coloured.crosses (suc r) inside) (coloured.rings (suc r) inside) up)
    ∙ row_above p r cs ∙ low in
    record {
      crosses = λ s below. elim (cases_eq s r) [
        | inl e ↦ rw e (xs_relabel (swapped r) (suc r) r (eq_lower r) cs ∙ coloured.crosses (suc r) inside)
        | inr u ↦ elim (cases_eq s (suc r)) [
          | inl e ↦ rw e (xs_relabel (swapped r) r (suc r) (eq_upper r) cs ∙ coloured.crosses r lt)
          | inr v ↦ xs_relabel (swapped r) s s (eq_other r s u v) cs ∙ coloured.crosses s below
        ]
      ];
      rings = λ s below. elim (cases_eq s r) [
        | inl e ↦ rw e (os_relabel (swapped r) (suc r) r (eq_lower r) cs ∙ coloured.rings (suc r) inside)
        | inr u ↦ elim (cases_eq s (suc r)) [
          | inl e ↦ rw e (os_relabel (swapped r) r (suc r) (eq_upper r) cs ∙ coloured.rings r lt)
          | inr v ↦ os_relabel (swapped r) s s (eq_other r s u v) cs ∙ coloured.rings s below
        ]
      ];
      walks = λ s below. row_walk p s (map (relabel (swapped r)) cs) ∙ elim (cases_eq s r) [
        | inl e ↦ rw e new_low
        | inr u ↦ elim (cases_eq s (suc r)) [
          | inl e ↦ rw e new_high
          | inr v ↦ row_relabel p (swapped r) s s s s (eq_other r s u v) (λ x n. lt_other r s u v x) cs ∙ sym (row_walk p s cs) ∙ coloured.walks s below
        ]
      ];
    }
