-- A shift of the rows by one, column by column: where the marks go, and what a column does to a colour that passes under it.
use Rattle.std.proofs.Common.{◌≡◌, ◌≢◌, ◌∙◌, ◌<◌, ◌-◌, ℕ, suc, List, [], ◌∷◌, map, ap, ap₂, sym, refl, arith, inl, inr, cond}
use Rattle.std.specs.Prelude.{Bool, true, false, nat_lt, ◌==◌, ◌||◌}
use Rattle.std.proofs.Math.Bool.{not}
use Rattle.std.proofs.lemmas.Bool.{cond-true, cond-false, eq-eqb, ne_eqb, false≢true, cases_Bool, cases_eq, cases_order, lt-ltb, le-ltb}
use Rattle.colour_laws.proofs.ColumnLists.{Acts, Column, ends, xs_in, os_in, crossed, crosses, dropped, relabel, recolour}
use Rattle.colour_laws.proofs.Actions.{undo}
use Rattle.colour_laws.proofs.Rows.{cross, ring, apart, side, ends_apart, on_at, row_at}
use Rattle.colour_laws.proofs.Level.{xs_here, xs_not_here, os_here, os_not_here}
use Rattle.colour_laws.proofs.Relabel.{eq_tests, lt_tests}

pub dropped_zero : (n x : ℕ) → x ≡ 0 → dropped n x ≡ n - 1
dropped_zero n x e = cond-true (x == 0) (n - 1) (x - 1) (eq-eqb x 0 e)

pub dropped_other : (n x : ℕ) → x ≢ 0 → dropped n x ≡ x - 1
dropped_other n x m = cond-false (x == 0) (n - 1) (x - 1) (ne_eqb x 0 m)

-- old row s + 1 is new row s
pub eq_dropped : (n s : ℕ) → suc s < n → (x : ℕ) → (dropped n x == s) ≡ (x == suc s)
eq_dropped n s lt x = elim (cases_eq x 0) [
  | inl e ↦ let is = dropped_zero n x e in eq_tests x (suc s) (dropped n x) s (λ f. absurd (omega arith)) (λ f. absurd (omega arith))
  | inr m ↦ let is = dropped_other n x m in elim (cases_order x 0) [
    | inl e ↦ absurd (m e)
    | inr (inl l) ↦ absurd (omega arith)
    | inr (inr l) ↦ eq_tests x (suc s) (dropped n x) s (λ f. omega arith) (λ f. omega arith)
  ]
]

-- a mark that is not in the lowest row stays on its side
pub lt_dropped : (n s x : ℕ) → x ≢ 0 → nat_lt (dropped n x) s ≡ nat_lt x (suc s)
lt_dropped n s x m = let is = dropped_other n x m in elim (cases_order x 0) [
  | inl e ↦ absurd (m e)
  | inr (inl l) ↦ absurd (omega arith)
  | inr (inr l) ↦ lt_tests x (suc s) (dropped n x) s (λ f. omega arith) (λ f. omega arith)
]

-- a mark in the lowest row goes from below the row to above it
pub lt_dropped_zero : (n s x : ℕ) → suc s < n → x ≡ 0 → (nat_lt (dropped n x) s ≡ false) × (nat_lt x (suc s) ≡ true)
lt_dropped_zero n s x lt e = let is = dropped_zero n x e in (le-ltb (dropped n x) s (omega arith), lt-ltb x (suc s) (omega arith))

-- a test of the lowest row is one of the top row
pub eq_dropped_top : (n x : ℕ) → x < n → (dropped n x == n - 1) ≡ (x == 0)
eq_dropped_top n x lt = elim (cases_eq x 0) [
  | inl e ↦ let is = dropped_zero n x e in eq_tests x 0 (dropped n x) (n - 1) (λ f. is) (λ f. e)
  | inr m ↦ let is = dropped_other n x m in elim (cases_order x 0) [
    | inl e ↦ absurd (m e)
    | inr (inl l) ↦ absurd (omega arith)
    | inr (inr l) ↦ eq_tests x 0 (dropped n x) (n - 1) (λ f. absurd (m f)) (λ f. absurd (omega arith))
  ]
]

pub ends_dropped : (n s : ℕ) → suc s < n → (c : Column) → ends s (relabel (dropped n) c) ≡ ends (suc s) c
ends_dropped n s lt c = ap₂ (λ a b. a || b) (eq_dropped n s lt c.x) (eq_dropped n s lt c.o)

-- a column without a mark in the lowest row does the same
pub crosses_dropped : (p : Bool → ℕ → ℕ → ℕ) (n s : ℕ) (c : Column) (y a : ℕ) → c.x ≢ 0 → c.o ≢ 0
    → crosses p s (recolour (relabel (dropped n) c) y) a ≡ crossed p (nat_lt c.x (suc s)) (nat_lt c.o (suc s)) y a
crosses_dropped p n s c y a u v = ap₂ (λ l m. crossed p l m y a) (lt_dropped n s c.x u) (lt_dropped n s c.o v)

-- a column with its X in the lowest row: what it did, and then the down action of its colour
pub flipped_cross : (p : Bool → ℕ → ℕ → ℕ) → Acts p → (n s : ℕ) → suc s < n → (c : Column) (a : ℕ) → c.x ≡ 0 → c.o ≢ 0
    → crosses p s (relabel (dropped n) c) a ≡ p false c.y (crosses p (suc s) c a)
flipped_cross p acts n s lt c a e u =
    let tests = lt_dropped_zero n s c.x lt e in
    let new : nat_lt (dropped n c.x) s ≡ false = tests.0 in
    let old : nat_lt c.x (suc s) ≡ true = tests.1 in
    elim (cases_Bool (nat_lt c.o (suc s))) [
      | inl b ↦
          let b' : nat_lt (dropped n c.o) s ≡ true = lt_dropped n s c.o u ∙ b in
          ap₂ (λ l m. crossed p l m c.y a) new b' ∙ ap (p false c.y) (sym (ap₂ (λ l m. crossed p l m c.y a) old b))
      | inr b ↦
          let b' : nat_lt (dropped n c.o) s ≡ false = lt_dropped n s c.o u ∙ b in
          ap₂ (λ l m. crossed p l m c.y a) new b' ∙ sym (acts.up_down c.y a) ∙ ap (p false c.y) (sym (ap₂ (λ l m. crossed p l m c.y a) old b))
    ]

pub flipped_ring : (p : Bool → ℕ → ℕ → ℕ) → Acts p → (n s : ℕ) → suc s < n → (c : Column) (a : ℕ) → c.o ≡ 0 → c.x ≢ 0
    → crosses p s (relabel (dropped n) c) a ≡ p true c.y (crosses p (suc s) c a)
flipped_ring p acts n s lt c a e u =
    let tests = lt_dropped_zero n s c.o lt e in
    let new : nat_lt (dropped n c.o) s ≡ false = tests.0 in
    let old : nat_lt c.o (suc s) ≡ true = tests.1 in
    elim (cases_Bool (nat_lt c.x (suc s))) [
      | inl b ↦
          let b' : nat_lt (dropped n c.x) s ≡ true = lt_dropped n s c.x u ∙ b in
          ap₂ (λ l m. crossed p l m c.y a) b' new ∙ ap (p true c.y) (sym (ap₂ (λ l m. crossed p l m c.y a) b old))
      | inr b ↦
          let b' : nat_lt (dropped n c.x) s ≡ false = lt_dropped n s c.x u ∙ b in
          ap₂ (λ l m. crossed p l m c.y a) b' new ∙ sym (acts.down_up c.y a) ∙ ap (p true c.y) (sym (ap₂ (λ l m. crossed p l m c.y a) b old))
    ]

-- columns without a mark in the lowest row
pub on_dropped : (p : Bool → ℕ → ℕ → ℕ) (n s : ℕ) → suc s < n → (a : ℕ) (cs : List Column) → xs_in 0 cs ≡ 0 → os_in 0 cs ≡ 0
    → on_at p s s a (map (relabel (dropped n)) cs) ≡ on_at p (suc s) (suc s) a cs
on_dropped p n s lt a [] ex eo = refl
on_dropped p n s lt a (c ∷ cs) ex eo = elim (side 0 c) [
  | cross e ↦ absurd (omega (arith, xs_here 0 c cs e))
  | ring u e ↦ absurd (omega (arith, os_here 0 c cs e))
  | apart u v ↦
      let ex' : xs_in 0 cs ≡ 0 = sym (xs_not_here 0 c cs u) ∙ ex in
      let eo' : os_in 0 cs ≡ 0 = sym (os_not_here 0 c cs v) ∙ eo in
      ap₂ (λ t k. cond t (a == c.y) k) (ends_dropped n s lt c)
      (ap (λ b. on_at p s s b (map (relabel (dropped n)) cs)) (crosses_dropped p n s c c.y a u v) ∙ on_dropped p n s lt (crosses p (suc s) c a) cs ex' eo')
]

pub row_dropped : (p : Bool → ℕ → ℕ → ℕ) (n s : ℕ) → suc s < n → (cs : List Column) → xs_in 0 cs ≡ 0 → os_in 0 cs ≡ 0
    → row_at p s s (map (relabel (dropped n)) cs) ≡ row_at p (suc s) (suc s) cs
row_dropped p n s lt [] ex eo = refl
row_dropped p n s lt (c ∷ cs) ex eo = elim (side 0 c) [
  | cross e ↦ absurd (omega (arith, xs_here 0 c cs e))
  | ring u e ↦ absurd (omega (arith, os_here 0 c cs e))
  | apart u v ↦
      let ex' : xs_in 0 cs ≡ 0 = sym (xs_not_here 0 c cs u) ∙ ex in
      let eo' : os_in 0 cs ≡ 0 = sym (os_not_here 0 c cs v) ∙ eo in
      ap₂ (λ t k. cond t k (row_at p s s (map (relabel (dropped n)) cs))) (ends_dropped n s lt c) (on_dropped p n s lt c.y cs ex' eo')
      ∙ ap (λ k. cond (ends (suc s) c) (on_at p (suc s) (suc s) c.y cs) k) (row_dropped p n s lt cs ex' eo')
]

-- how many marks of the lowest row are still to come behind its left end, whose action goes in direction d
abbrev pub crosses_left : Bool → ℕ
crosses_left true = 1
crosses_left false = 0

pub same_tests : (p : Bool → ℕ → ℕ → ℕ) → Acts p → (d : Bool) (a v y : ℕ) → (p d a v == p d a y) ≡ (v == y)
same_tests p acts d a v y = eq_tests v y (p d a v) (p d a y) (λ e. ap (p d a) e) (λ e. sym (undo p acts d a v) ∙ ap (p (not d) a) e ∙ undo p acts d a y)

-- the right end of the lowest row does what it did, and then undoes the action
pub flipped_right : (p : Bool → ℕ → ℕ → ℕ) → Acts p → (n s : ℕ) → suc s < n → (d : Bool) (c : Column) (cs : List Column) → ends 0 c ≡ true
    → xs_in 0 (c ∷ cs) ≡ crosses_left d → os_in 0 (c ∷ cs) ≡ crosses_left (not d) → (v : ℕ)
    → (crosses p s (relabel (dropped n) c) v ≡ p (not d) c.y (crosses p (suc s) c v)) × (xs_in 0 cs ≡ 0) × (os_in 0 cs ≡ 0)
flipped_right p acts n s lt true c cs e ex eo v = elim (side 0 c) [
  | cross f ↦
      let u : c.o ≢ 0 = λ g. omega (arith, os_here 0 c cs g) in
      (flipped_cross p acts n s lt c v f u, omega (arith, xs_here 0 c cs f), sym (os_not_here 0 c cs u) ∙ eo)
  | ring u f ↦ absurd (omega (arith, os_here 0 c cs f))
  | apart u w ↦ absurd (false≢true (sym (ends_apart 0 c u w) ∙ e))
]
flipped_right p acts n s lt false c cs e ex eo v = elim (side 0 c) [
  | cross f ↦ absurd (omega (arith, xs_here 0 c cs f))
  | ring u f ↦ (flipped_ring p acts n s lt c v f u, sym (xs_not_here 0 c cs u) ∙ ex, omega (arith, os_here 0 c cs f))
  | apart u w ↦ absurd (false≢true (sym (ends_apart 0 c u w) ∙ e))
]

-- a column without a mark in the lowest row leaves colours there as they are
pub crosses_lowest : (p : Bool → ℕ → ℕ → ℕ) (c : Column) (a : ℕ) → crosses p 0 c a ≡ a
crosses_lowest p c a =
    let e : nat_lt c.x 0 ≡ false = le-ltb c.x 0 (omega arith) in
    let f : nat_lt c.o 0 ≡ false = le-ltb c.o 0 (omega arith) in
    rw (e, f) refl
