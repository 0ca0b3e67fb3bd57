-- The walk of a row, step by step.
use Rattle.std.proofs.Common.{◌≡◌, ◌≢◌, ◌∙◌, ℕ, suc, List, [], ◌∷◌, ap, ap₂, sym, refl, arith, inl, inr, ltb}
use Rattle.std.specs.Prelude.{Bool, true, false, nat_lt, ◌==◌, if◌then◌else◌}
use Rattle.std.proofs.lemmas.Bool.{cond-true, cond-false, ne_eqb, eq-eqb, cases_eq, cases_order, lt-ltb, le-ltb, or_from, or_left, or_right}
use Rattle.colour_laws.proofs.ColumnLists.{Column, ends, under, walk, walk_on, crossed, crosses}

-- where a column stands to a row
pub data Side (r : ℕ) (c : Column) : Type 0 where
  cross : c.x ≡ r → Side r c
  ring : c.x ≢ r → c.o ≡ r → Side r c
  apart : c.x ≢ r → c.o ≢ r → Side r c

pub side : (r : ℕ) (c : Column) → Side r c
side r c = elim (cases_eq c.x r) [
  | inl e ↦ cross e
  | inr n ↦ elim (cases_eq c.o r) [ inl e ↦ ring n e | inr m ↦ apart n m ]
]

pub ends_cross : (r : ℕ) (c : Column) → c.x ≡ r → ends r c ≡ true
ends_cross r c e = or_left (c.x == r) (c.o == r) (eq-eqb c.x r e)

pub ends_ring : (r : ℕ) (c : Column) → c.o ≡ r → ends r c ≡ true
ends_ring r c e = or_right (c.x == r) (c.o == r) (eq-eqb c.o r e)

pub ends_apart : (r : ℕ) (c : Column) → c.x ≢ r → c.o ≢ r → ends r c ≡ false
ends_apart r c n m = or_from (c.x == r) (c.o == r) (ne_eqb c.x r n) (ne_eqb c.o r m)

-- the walk of a row whose strands are passed at a height of its own: the rows' walks are those with h = r, and also those with h = r + 1
abbrev pub on_at : (Bool → ℕ → ℕ → ℕ) → ℕ → ℕ → ℕ → List Column → Bool
on_at p h r a [] = false
on_at p h r a (c ∷ cs) = if ends r c then a == c.y else on_at p h r (crosses p h c a) cs

abbrev pub row_at : (Bool → ℕ → ℕ → ℕ) → ℕ → ℕ → List Column → Bool
row_at p h r [] = false
row_at p h r (c ∷ cs) = if ends r c then on_at p h r c.y cs else row_at p h r cs

pub row_end : (p : Bool → ℕ → ℕ → ℕ) (h r : ℕ) (c : Column) (cs : List Column) → ends r c ≡ true → row_at p h r (c ∷ cs) ≡ on_at p h r c.y cs
row_end p h r c cs e = cond-true (ends r c) (on_at p h r c.y cs) (row_at p h r cs) e

pub row_apart : (p : Bool → ℕ → ℕ → ℕ) (h r : ℕ) (c : Column) (cs : List Column) → ends r c ≡ false → row_at p h r (c ∷ cs) ≡ row_at p h r cs
row_apart p h r c cs e = cond-false (ends r c) (on_at p h r c.y cs) (row_at p h r cs) e

pub on_end : (p : Bool → ℕ → ℕ → ℕ) (h r a : ℕ) (c : Column) (cs : List Column) → ends r c ≡ true → on_at p h r a (c ∷ cs) ≡ (a == c.y)
on_end p h r a c cs e = cond-true (ends r c) (a == c.y) (on_at p h r (crosses p h c a) cs) e

pub on_apart : (p : Bool → ℕ → ℕ → ℕ) (h r a : ℕ) (c : Column) (cs : List Column) → ends r c ≡ false → on_at p h r a (c ∷ cs) ≡ on_at p h r (crosses p h c a) cs
on_apart p h r a c cs e = cond-false (ends r c) (a == c.y) (on_at p h r (crosses p h c a) cs) e

-- a column without a mark in row r does the same below it, in it and above it
pub under_crosses : (p : Bool → ℕ → ℕ → ℕ) (r : ℕ) (c : Column) (a : ℕ) → c.x ≢ r → c.o ≢ r → under p r c a ≡ crosses p r c a
under_crosses p r c a n m = elim (cases_order c.x r) [
  | inl e ↦ absurd (n e)
  | inr (inl u) ↦ elim (cases_order c.o r) [
    | inl e ↦ absurd (m e)
    | inr (inl v) ↦
        let e : ltb c.x r ≡ true = lt-ltb c.x r u in
        let e' : ltb r c.x ≡ false = le-ltb r c.x (omega arith) in
        let f : ltb c.o r ≡ true = lt-ltb c.o r v in
        let f' : ltb r c.o ≡ false = le-ltb r c.o (omega arith) in
        rw (e, f, e', f') refl
    | inr (inr v) ↦
        let e : ltb c.x r ≡ true = lt-ltb c.x r u in
        let e' : ltb r c.x ≡ false = le-ltb r c.x (omega arith) in
        let f : ltb c.o r ≡ false = le-ltb c.o r (omega arith) in
        let f' : ltb r c.o ≡ true = lt-ltb r c.o v in
        let g : ltb c.x c.o ≡ true = lt-ltb c.x c.o (omega arith) in
        rw (e, f, f', g) refl
  ]
  | inr (inr u) ↦ elim (cases_order c.o r) [
    | inl e ↦ absurd (m e)
    | inr (inl v) ↦
        let e : ltb c.x r ≡ false = le-ltb c.x r (omega arith) in
        let e' : ltb r c.x ≡ true = lt-ltb r c.x u in
        let f : ltb c.o r ≡ true = lt-ltb c.o r v in
        let g : ltb c.x c.o ≡ false = le-ltb c.x c.o (omega arith) in
        rw (e, f, e', g) refl
    | inr (inr v) ↦
        let e : ltb c.x r ≡ false = le-ltb c.x r (omega arith) in
        let f : ltb c.o r ≡ false = le-ltb c.o r (omega arith) in
        rw (e, f) refl
  ]
]

pub test_above : (x r : ℕ) → x ≢ r → nat_lt x (suc r) ≡ nat_lt x r
test_above x r n = elim (cases_order x r) [
  | inl e ↦ absurd (n e)
  | inr (inl u) ↦ lt-ltb x (suc r) (omega arith) ∙ sym (lt-ltb x r u)
  | inr (inr u) ↦ le-ltb x (suc r) (omega arith) ∙ sym (le-ltb x r (omega arith))
]

pub crosses_above : (p : Bool → ℕ → ℕ → ℕ) (r : ℕ) (c : Column) (a : ℕ) → c.x ≢ r → c.o ≢ r → crosses p (suc r) c a ≡ crosses p r c a
crosses_above p r c a n m = ap₂ (λ l k. crossed p l k c.y a) (test_above c.x r n) (test_above c.o r m)

pub on_walk : (p : Bool → ℕ → ℕ → ℕ) (r a : ℕ) (cs : List Column) → walk_on p r a cs ≡ on_at p r r a cs
on_walk p r a [] = refl
on_walk p r a (c ∷ cs) = elim (side r c) [
  | cross e ↦ rw (ends_cross r c e) refl
  | ring n e ↦ rw (ends_ring r c e) refl
  | apart n m ↦ rw (ends_apart r c n m, under_crosses p r c a n m) (on_walk p r (crosses p r c a) cs)
]

pub row_walk : (p : Bool → ℕ → ℕ → ℕ) (r : ℕ) (cs : List Column) → walk p r cs ≡ row_at p r r cs
row_walk p r [] = refl
row_walk p r (c ∷ cs) = elim (side r c) [
  | cross e ↦ rw (ends_cross r c e) (on_walk p r c.y cs)
  | ring n e ↦ rw (ends_ring r c e) (on_walk p r c.y cs)
  | apart n m ↦ rw (ends_apart r c n m) (row_walk p r cs)
]

pub on_above : (p : Bool → ℕ → ℕ → ℕ) (r a : ℕ) (cs : List Column) → on_at p (suc r) r a cs ≡ on_at p r r a cs
on_above p r a [] = refl
on_above p r a (c ∷ cs) = elim (side r c) [
  | cross e ↦ on_end p (suc r) r a c cs (ends_cross r c e) ∙ sym (on_end p r r a c cs (ends_cross r c e))
  | ring n e ↦ on_end p (suc r) r a c cs (ends_ring r c e) ∙ sym (on_end p r r a c cs (ends_ring r c e))
  | apart n m ↦
      on_apart p (suc r) r a c cs (ends_apart r c n m) ∙ ap (λ b. on_at p (suc r) r b cs) (crosses_above p r c a n m)
      ∙ on_above p r (crosses p r c a) cs ∙ sym (on_apart p r r a c cs (ends_apart r c n m))
]

pub row_above : (p : Bool → ℕ → ℕ → ℕ) (r : ℕ) (cs : List Column) → row_at p (suc r) r cs ≡ row_at p r r cs
row_above p r [] = refl
row_above p r (c ∷ cs) = elim (side r c) [
  | cross e ↦ row_end p (suc r) r c cs (ends_cross r c e) ∙ on_above p r c.y cs ∙ sym (row_end p r r c cs (ends_cross r c e))
  | ring n e ↦ row_end p (suc r) r c cs (ends_ring r c e) ∙ on_above p r c.y cs ∙ sym (row_end p r r c cs (ends_ring r c e))
  | apart n m ↦ row_apart p (suc r) r c cs (ends_apart r c n m) ∙ row_above p r cs ∙ sym (row_apart p r r c cs (ends_apart r c n m))
]
