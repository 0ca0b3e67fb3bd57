-- A shift of the rows by one is a change of colours and then of marks: what it makes of the marks of each row.
use Rattle.std.proofs.Common.{◌≡◌, ◌∙◌, ◌<◌, ◌-◌, ℕ, suc, List, [], ◌∷◌, map, ap, ap₂, sym, refl, inl, inr, cond, subst}
use Rattle.std.specs.Prelude.{Bool, true, false, ◌==◌}
use Rattle.std.proofs.Math.Bool.{not}
use Rattle.std.proofs.lemmas.Bool.{cond-true, cond-false, cases_Bool}
use Rattle.colour_laws.proofs.ColumnLists.{Column, ends, xs_in, os_in, rises, IsInside, dropped, lowered, lowered_on, recoloured, recoloured_on, relabel}
use Rattle.colour_laws.proofs.ColumnLists.{recolour}
use Rattle.colour_laws.proofs.Relabel.{xs_relabel, os_relabel}
use Rattle.colour_laws.proofs.DroppedColumns.{eq_dropped, eq_dropped_top}

pub lowered_on_end : (p : Bool → ℕ → ℕ → ℕ) (n : ℕ) (d : Bool) (a : ℕ) (c : Column) (cs : List Column) → ends 0 c ≡ true
    → lowered_on p n d a (c ∷ cs) ≡ map (relabel (dropped n)) (c ∷ cs)
lowered_on_end p n d a c cs e =
    cond-true (ends 0 c) (map (relabel (dropped n)) (c ∷ cs)) (recolour (relabel (dropped n) c) (p d a c.y) ∷ lowered_on p n d a cs) e

pub lowered_on_apart : (p : Bool → ℕ → ℕ → ℕ) (n : ℕ) (d : Bool) (a : ℕ) (c : Column) (cs : List Column) → ends 0 c ≡ false
    → lowered_on p n d a (c ∷ cs) ≡ recolour (relabel (dropped n) c) (p d a c.y) ∷ lowered_on p n d a cs
lowered_on_apart p n d a c cs e =
    cond-false (ends 0 c) (map (relabel (dropped n)) (c ∷ cs)) (recolour (relabel (dropped n) c) (p d a c.y) ∷ lowered_on p n d a cs) e

pub lowered_end : (p : Bool → ℕ → ℕ → ℕ) (n : ℕ) (c : Column) (cs : List Column) → ends 0 c ≡ true
    → lowered p n (c ∷ cs) ≡ relabel (dropped n) c ∷ lowered_on p n (not (rises c)) c.y cs
lowered_end p n c cs e = ap (λ ds. relabel (dropped n) c ∷ ds) (cond-true (ends 0 c) (lowered_on p n (not (rises c)) c.y cs) (lowered p n cs) e)

pub lowered_apart : (p : Bool → ℕ → ℕ → ℕ) (n : ℕ) (c : Column) (cs : List Column) → ends 0 c ≡ false
    → lowered p n (c ∷ cs) ≡ relabel (dropped n) c ∷ lowered p n cs
lowered_apart p n c cs e = ap (λ ds. relabel (dropped n) c ∷ ds) (cond-false (ends 0 c) (lowered_on p n (not (rises c)) c.y cs) (lowered p n cs) e)

lowered_on_is : (p : Bool → ℕ → ℕ → ℕ) (n : ℕ) (d : Bool) (a : ℕ) (cs : List Column)
    → lowered_on p n d a cs ≡ map (relabel (dropped n)) (recoloured_on p d a cs)
lowered_on_is p n d a [] = refl
lowered_on_is p n d a (c ∷ cs) = elim (cases_Bool (ends 0 c)) [
  | inl e ↦ lowered_on_end p n d a c cs e
      ∙ ap (map (relabel (dropped n))) (sym (cond-true (ends 0 c) (c ∷ cs) (recolour c (p d a c.y) ∷ recoloured_on p d a cs) e))
  | inr e ↦
      lowered_on_apart p n d a c cs e ∙ ap (λ ds. recolour (relabel (dropped n) c) (p d a c.y) ∷ ds) (lowered_on_is p n d a cs)
      ∙ ap (map (relabel (dropped n))) (sym (cond-false (ends 0 c) (c ∷ cs) (recolour c (p d a c.y) ∷ recoloured_on p d a cs) e))
]

-- the shift is a change of colours and then of marks
pub lowered_is : (p : Bool → ℕ → ℕ → ℕ) (n : ℕ) (cs : List Column) → lowered p n cs ≡ map (relabel (dropped n)) (recoloured p not cs)
lowered_is p n [] = refl
lowered_is p n (c ∷ cs) = elim (cases_Bool (ends 0 c)) [
  | inl e ↦
      lowered_end p n c cs e ∙ ap (λ ds. relabel (dropped n) c ∷ ds) (lowered_on_is p n (not (rises c)) c.y cs)
      ∙ ap (λ ds. map (relabel (dropped n)) (c ∷ ds)) (sym (cond-true (ends 0 c) (recoloured_on p (not (rises c)) c.y cs) (recoloured p not cs) e))
  | inr e ↦
      lowered_apart p n c cs e ∙ ap (λ ds. relabel (dropped n) c ∷ ds) (lowered_is p n cs)
      ∙ ap (λ ds. map (relabel (dropped n)) (c ∷ ds)) (sym (cond-false (ends 0 c) (recoloured_on p (not (rises c)) c.y cs) (recoloured p not cs) e))
]

pub recoloured_on_end : (p : Bool → ℕ → ℕ → ℕ) (d : Bool) (a : ℕ) (c : Column) (cs : List Column) → ends 0 c ≡ true → recoloured_on p d a (c ∷ cs) ≡ c ∷ cs
recoloured_on_end p d a c cs e = cond-true (ends 0 c) (c ∷ cs) (recolour c (p d a c.y) ∷ recoloured_on p d a cs) e

pub recoloured_on_apart : (p : Bool → ℕ → ℕ → ℕ) (d : Bool) (a : ℕ) (c : Column) (cs : List Column) → ends 0 c ≡ false
    → recoloured_on p d a (c ∷ cs) ≡ recolour c (p d a c.y) ∷ recoloured_on p d a cs
recoloured_on_apart p d a c cs e = cond-false (ends 0 c) (c ∷ cs) (recolour c (p d a c.y) ∷ recoloured_on p d a cs) e

-- the marks stay
xs_recoloured_on : (p : Bool → ℕ → ℕ → ℕ) (d : Bool) (a r : ℕ) (cs : List Column)
    → (xs_in r (recoloured_on p d a cs) ≡ xs_in r cs) × (os_in r (recoloured_on p d a cs) ≡ os_in r cs)
xs_recoloured_on p d a r [] = (refl, refl)
xs_recoloured_on p d a r (c ∷ cs) =
    let rest = xs_recoloured_on p d a r cs in
    elim (cases_Bool (ends 0 c)) [
      | inl e ↦ (ap (xs_in r) (recoloured_on_end p d a c cs e), ap (os_in r) (recoloured_on_end p d a c cs e))
      | inr e ↦ (
        ap (xs_in r) (recoloured_on_apart p d a c cs e) ∙ ap (λ m. cond (c.x == r) (suc m) m) rest.0,
        ap (os_in r) (recoloured_on_apart p d a c cs e) ∙ ap (λ m. cond (c.o == r) (suc m) m) rest.1,
      )
    ]

xs_recoloured : (p : Bool → ℕ → ℕ → ℕ) (turn : Bool → Bool) (r : ℕ) (cs : List Column)
    → (xs_in r (recoloured p turn cs) ≡ xs_in r cs) × (os_in r (recoloured p turn cs) ≡ os_in r cs)
xs_recoloured p turn r [] = (refl, refl)
xs_recoloured p turn r (c ∷ cs) =
    let rest = xs_recoloured p turn r cs in
    let mid = xs_recoloured_on p (turn (rises c)) c.y r cs in
    elim (cases_Bool (ends 0 c)) [
      | inl e ↦
          let is = cond-true (ends 0 c) (recoloured_on p (turn (rises c)) c.y cs) (recoloured p turn cs) e in
          (ap (λ m. cond (c.x == r) (suc m) m) (ap (xs_in r) is ∙ mid.0), ap (λ m. cond (c.o == r) (suc m) m) (ap (os_in r) is ∙ mid.1))
      | inr e ↦
          let is = cond-false (ends 0 c) (recoloured_on p (turn (rises c)) c.y cs) (recoloured p turn cs) e in
          (ap (λ m. cond (c.x == r) (suc m) m) (ap (xs_in r) is ∙ rest.0), ap (λ m. cond (c.o == r) (suc m) m) (ap (os_in r) is ∙ rest.1))
    ]

-- marks in the new top row
marks_top : (n : ℕ) (cs : List Column) → IsInside n cs
    → (xs_in (n - 1) (map (relabel (dropped n)) cs) ≡ xs_in 0 cs) × (os_in (n - 1) (map (relabel (dropped n)) cs) ≡ os_in 0 cs)
marks_top n [] inside = (refl, refl)
marks_top n (c ∷ cs) inside =
    let rest = marks_top n cs inside.2 in
    (ap₂ (λ t m. cond t (suc m) m) (eq_dropped_top n c.x inside.0) rest.0, ap₂ (λ t m. cond t (suc m) m) (eq_dropped_top n c.o inside.1) rest.1)

inside_recoloured_on : (p : Bool → ℕ → ℕ → ℕ) (n : ℕ) (d : Bool) (a : ℕ) (cs : List Column) → IsInside n cs → IsInside n (recoloured_on p d a cs)
inside_recoloured_on p n d a [] inside = tt
inside_recoloured_on p n d a (c ∷ cs) inside = elim (cases_Bool (ends 0 c)) [
  | inl e ↦ subst (IsInside n) (sym (recoloured_on_end p d a c cs e)) inside
  | inr e ↦ subst (IsInside n) (sym (recoloured_on_apart p d a c cs e)) (inside.0, inside.1, inside_recoloured_on p n d a cs inside.2)
]

pub inside_recoloured : (p : Bool → ℕ → ℕ → ℕ) (n : ℕ) (turn : Bool → Bool) (cs : List Column) → IsInside n cs → IsInside n (recoloured p turn cs)
inside_recoloured p n turn [] inside = tt
inside_recoloured p n turn (c ∷ cs) inside = (
  inside.0,
  inside.1,
  elim (cases_Bool (ends 0 c)) [
    | inl e ↦ subst (IsInside n) (sym (cond-true (ends 0 c) (recoloured_on p (turn (rises c)) c.y cs) (recoloured p turn cs) e))
        (inside_recoloured_on p n (turn (rises c)) c.y cs inside.2)
    | inr e ↦ subst (IsInside n) (sym (cond-false (ends 0 c) (recoloured_on p (turn (rises c)) c.y cs) (recoloured p turn cs) e))
        (inside_recoloured p n turn cs inside.2)
  ],
)

-- marks of the shifted grid
pub marks_lowered : (p : Bool → ℕ → ℕ → ℕ) (n s : ℕ) (cs : List Column) → suc s < n
    → (xs_in s (lowered p n cs) ≡ xs_in (suc s) cs) × (os_in s (lowered p n cs) ≡ os_in (suc s) cs)
marks_lowered p n s cs lt = (
  ap (xs_in s) (lowered_is p n cs) ∙ xs_relabel (dropped n) (suc s) s (eq_dropped n s lt) (recoloured p not cs) ∙ (xs_recoloured p not (suc s) cs).0,
  ap (os_in s) (lowered_is p n cs) ∙ os_relabel (dropped n) (suc s) s (eq_dropped n s lt) (recoloured p not cs) ∙ (xs_recoloured p not (suc s) cs).1,
)

pub marks_lowered_top : (p : Bool → ℕ → ℕ → ℕ) (n : ℕ) (cs : List Column) → IsInside n cs
    → (xs_in (n - 1) (lowered p n cs) ≡ xs_in 0 cs) × (os_in (n - 1) (lowered p n cs) ≡ os_in 0 cs)
marks_lowered_top p n cs inside =
    let top = marks_top n (recoloured p not cs) (inside_recoloured p n not cs inside) in (
      ap (xs_in (n - 1)) (lowered_is p n cs) ∙ top.0 ∙ (xs_recoloured p not 0 cs).0,
      ap (os_in (n - 1)) (lowered_is p n cs) ∙ top.1 ∙ (xs_recoloured p not 0 cs).1,
    )
