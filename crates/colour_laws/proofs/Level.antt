-- The level fact: passing a row leaves what all columns do together as it is.
use Rattle.std.proofs.Common.{◌≡◌, ◌≢◌, ◌∙◌, ◌≤◌, ℕ, suc, zero, List, [], ◌∷◌, ap, sym, refl, arith, inl, inr}
use Rattle.std.specs.Prelude.{Bool, true, false, nat_lt, ◌==◌}
use Rattle.std.proofs.lemmas.Bool.{cond-true, cond-false, ne_eqb, eq-eqb, eqb-true, cases_order, lt-ltb, le-ltb, false≢true}
use Rattle.colour_laws.proofs.ColumnLists.{Acts, Column, xs_in, os_in, crosses, level, IsColoured}
use Rattle.colour_laws.proofs.Actions.{crossed_carries}
use Rattle.colour_laws.proofs.Rows.{cross, ring, apart, side, ends_cross, ends_ring, ends_apart, on_at, row_at, row_end, row_apart, on_end, on_apart}
use Rattle.colour_laws.proofs.Rows.{crosses_above, row_walk}

-- counts of marks, column by column
pub xs_here : (r : ℕ) (c : Column) (cs : List Column) → c.x ≡ r → xs_in r (c ∷ cs) ≡ suc (xs_in r cs)
xs_here r c cs e = cond-true (c.x == r) (suc (xs_in r cs)) (xs_in r cs) (eq-eqb c.x r e)

pub xs_not_here : (r : ℕ) (c : Column) (cs : List Column) → c.x ≢ r → xs_in r (c ∷ cs) ≡ xs_in r cs
xs_not_here r c cs n = cond-false (c.x == r) (suc (xs_in r cs)) (xs_in r cs) (ne_eqb c.x r n)

pub os_here : (r : ℕ) (c : Column) (cs : List Column) → c.o ≡ r → os_in r (c ∷ cs) ≡ suc (os_in r cs)
os_here r c cs e = cond-true (c.o == r) (suc (os_in r cs)) (os_in r cs) (eq-eqb c.o r e)

pub os_not_here : (r : ℕ) (c : Column) (cs : List Column) → c.o ≢ r → os_in r (c ∷ cs) ≡ os_in r cs
os_not_here r c cs n = cond-false (c.o == r) (suc (os_in r cs)) (os_in r cs) (ne_eqb c.o r n)

-- columns without a mark in row r do the same above it as below it
pub level_clear : (p : Bool → ℕ → ℕ → ℕ) (r : ℕ) (cs : List Column) → xs_in r cs ≡ 0 → os_in r cs ≡ 0 → (v : ℕ) → level p (suc r) cs v ≡ level p r cs v
level_clear p r [] ex eo v = refl
level_clear p r (c ∷ cs) ex eo v = elim (side r c) [
  | cross e ↦ absurd (omega (arith, xs_here r c cs e))
  | ring n e ↦ absurd (omega (arith, os_here r c cs e))
  | apart n m ↦
      ap (λ w. level p (suc r) cs w) (crosses_above p r c v n m)
      ∙ level_clear p r cs (sym (xs_not_here r c cs n) ∙ ex) (sym (os_not_here r c cs m) ∙ eo) (crosses p r c v)
]

-- a row that has begun needs an end
pub on_clear : (p : Bool → ℕ → ℕ → ℕ) (h r a : ℕ) (cs : List Column) → xs_in r cs ≡ 0 → os_in r cs ≡ 0 → on_at p h r a cs ≡ false
on_clear p h r a [] ex eo = refl
on_clear p h r a (c ∷ cs) ex eo = elim (side r c) [
  | cross e ↦ absurd (omega (arith, xs_here r c cs e))
  | ring n e ↦ absurd (omega (arith, os_here r c cs e))
  | apart n m ↦ on_apart p h r a c cs (ends_apart r c n m) ∙ on_clear p h r (crosses p h c a) cs (sym (xs_not_here r c cs n) ∙ ex)
      (sym (os_not_here r c cs m) ∙ eo)
]

-- tests of a mark that is in row r, and of one that is not
pub test_in : (x r : ℕ) → x ≡ r → (nat_lt x (suc r) ≡ true) × (nat_lt x r ≡ false)
test_in x r e = (lt-ltb x (suc r) (omega arith), le-ltb x r (omega arith))

-- behind the X of row r, at colour a: an up action of that colour stands between the two levels
pub behind_cross : (p : Bool → ℕ → ℕ → ℕ) → Acts p → (r a : ℕ) (cs : List Column) → on_at p r r a cs ≡ true → xs_in r cs ≡ 0 → os_in r cs ≡ 1
    → (v : ℕ) → level p (suc r) cs (p true a v) ≡ level p r cs v
behind_cross p acts r a [] on ex eo v = absurd (false≢true on)
behind_cross p acts r a (c ∷ cs) on ex eo v = elim (side r c) [
  | cross e ↦ absurd (omega (arith, xs_here r c cs e))
  | ring n e ↦
      let same : a ≡ c.y = eqb-true a c.y (sym (on_end p r r a c cs (ends_ring r c e)) ∙ on) in
      let rest = level_clear p r cs (sym (xs_not_here r c cs n) ∙ ex) (omega (arith, os_here r c cs e)) in
      let tests = test_in c.o r e in
      let high : nat_lt c.o (suc r) ≡ true = tests.0 in
      let low : nat_lt c.o r ≡ false = tests.1 in
      elim (cases_order c.x r) [
        | inl f ↦ absurd (n f)
        | inr (inl u) ↦
            let one : nat_lt c.x (suc r) ≡ true = lt-ltb c.x (suc r) (omega arith) in
            let two : nat_lt c.x r ≡ true = lt-ltb c.x r u in
            rw (high, low, one, two, same) (rest (p true c.y v))
        | inr (inr u) ↦
            let one : nat_lt c.x (suc r) ≡ false = le-ltb c.x (suc r) (omega arith) in
            let two : nat_lt c.x r ≡ false = le-ltb c.x r (omega arith) in
            rw (high, low, one, two, same, acts.up_down c.y v) (rest v)
      ]
  | apart n m ↦
      let on' = sym (on_apart p r r a c cs (ends_apart r c n m)) ∙ on in
      ap (λ w. level p (suc r) cs w) (crosses_above p r c (p true a v) n m ∙ crossed_carries p acts true (nat_lt c.x r) (nat_lt c.o r) c.y a v)
      ∙ behind_cross p acts r (crosses p r c a) cs on' (sym (xs_not_here r c cs n) ∙ ex) (sym (os_not_here r c cs m) ∙ eo) (crosses p r c v)
]

-- behind the O of row r: a down action
pub behind_ring : (p : Bool → ℕ → ℕ → ℕ) → Acts p → (r a : ℕ) (cs : List Column) → on_at p r r a cs ≡ true → xs_in r cs ≡ 1 → os_in r cs ≡ 0
    → (v : ℕ) → level p (suc r) cs (p false a v) ≡ level p r cs v
behind_ring p acts r a [] on ex eo v = absurd (false≢true on)
behind_ring p acts r a (c ∷ cs) on ex eo v = elim (side r c) [
  | cross e ↦ elim (cases_order c.o r) [
    | inl f ↦ absurd (omega (arith, os_here r c cs f))
    | inr (inl u) ↦
        let same : a ≡ c.y = eqb-true a c.y (sym (on_end p r r a c cs (ends_cross r c e)) ∙ on) in
        let n : c.o ≢ r = λ f. omega arith in
        let rest = level_clear p r cs (omega (arith, xs_here r c cs e)) (sym (os_not_here r c cs n) ∙ eo) in
        let tests = test_in c.x r e in
        let high : nat_lt c.x (suc r) ≡ true = tests.0 in
        let low : nat_lt c.x r ≡ false = tests.1 in
        let one : nat_lt c.o (suc r) ≡ true = lt-ltb c.o (suc r) (omega arith) in
        let two : nat_lt c.o r ≡ true = lt-ltb c.o r u in
        rw (high, low, one, two, same) (rest (p false c.y v))
    | inr (inr u) ↦
        let same : a ≡ c.y = eqb-true a c.y (sym (on_end p r r a c cs (ends_cross r c e)) ∙ on) in
        let n : c.o ≢ r = λ f. omega arith in
        let rest = level_clear p r cs (omega (arith, xs_here r c cs e)) (sym (os_not_here r c cs n) ∙ eo) in
        let tests = test_in c.x r e in
        let high : nat_lt c.x (suc r) ≡ true = tests.0 in
        let low : nat_lt c.x r ≡ false = tests.1 in
        let one : nat_lt c.o (suc r) ≡ false = le-ltb c.o (suc r) (omega arith) in
        let two : nat_lt c.o r ≡ false = le-ltb c.o r (omega arith) in
        rw (high, low, one, two, same, acts.down_up c.y v) (rest v)
  ]
  | ring n e ↦ absurd (omega (arith, os_here r c cs e))
  | apart n m ↦
      let on' = sym (on_apart p r r a c cs (ends_apart r c n m)) ∙ on in
      ap (λ w. level p (suc r) cs w) (crosses_above p r c (p false a v) n m ∙ crossed_carries p acts false (nat_lt c.x r) (nat_lt c.o r) c.y a v)
      ∙ behind_ring p acts r (crosses p r c a) cs on' (sym (xs_not_here r c cs n) ∙ ex) (sym (os_not_here r c cs m) ∙ eo) (crosses p r c v)
]

-- passing a row whose walk is right leaves the whole level as it is
pub passed : (p : Bool → ℕ → ℕ → ℕ) → Acts p → (r : ℕ) (cs : List Column) → row_at p r r cs ≡ true → xs_in r cs ≡ 1 → os_in r cs ≡ 1
    → (v : ℕ) → level p (suc r) cs v ≡ level p r cs v
passed p acts r [] row ex eo v = absurd (false≢true row)
passed p acts r (c ∷ cs) row ex eo v = elim (side r c) [
  | cross e ↦
      let on : on_at p r r c.y cs ≡ true = sym (row_end p r r c cs (ends_cross r c e)) ∙ row in
      let ex' : xs_in r cs ≡ 0 = omega (arith, xs_here r c cs e) in
      let tests = test_in c.x r e in
      let high : nat_lt c.x (suc r) ≡ true = tests.0 in
      let low : nat_lt c.x r ≡ false = tests.1 in
      elim (cases_order c.o r) [
        | inl f ↦ absurd (false≢true (sym (on_clear p r r c.y cs ex' (omega (arith, os_here r c cs f))) ∙ on))
        | inr (inl u) ↦
            let n : c.o ≢ r = λ f. omega arith in
            let rest = behind_cross p acts r c.y cs on ex' (sym (os_not_here r c cs n) ∙ eo) (p false c.y v) in
            let one : nat_lt c.o (suc r) ≡ true = lt-ltb c.o (suc r) (omega arith) in
            let two : nat_lt c.o r ≡ true = lt-ltb c.o r u in
            rw (high, low, one, two) (ap (λ w. level p (suc r) cs w) (sym (acts.down_up c.y v)) ∙ rest)
        | inr (inr u) ↦
            let n : c.o ≢ r = λ f. omega arith in
            let rest = behind_cross p acts r c.y cs on ex' (sym (os_not_here r c cs n) ∙ eo) v in
            let one : nat_lt c.o (suc r) ≡ false = le-ltb c.o (suc r) (omega arith) in
            let two : nat_lt c.o r ≡ false = le-ltb c.o r (omega arith) in
            rw (high, low, one, two) rest
      ]
  | ring n e ↦
      let on : on_at p r r c.y cs ≡ true = sym (row_end p r r c cs (ends_ring r c e)) ∙ row in
      let eo' : os_in r cs ≡ 0 = omega (arith, os_here r c cs e) in
      let ex' : xs_in r cs ≡ 1 = sym (xs_not_here r c cs n) ∙ ex in
      let tests = test_in c.o r e in
      let high : nat_lt c.o (suc r) ≡ true = tests.0 in
      let low : nat_lt c.o r ≡ false = tests.1 in
      elim (cases_order c.x r) [
        | inl f ↦ absurd (n f)
        | inr (inl u) ↦
            let rest = behind_ring p acts r c.y cs on ex' eo' (p true c.y v) in
            let one : nat_lt c.x (suc r) ≡ true = lt-ltb c.x (suc r) (omega arith) in
            let two : nat_lt c.x r ≡ true = lt-ltb c.x r u in
            rw (high, low, one, two) (ap (λ w. level p (suc r) cs w) (sym (acts.up_down c.y v)) ∙ rest)
        | inr (inr u) ↦
            let rest = behind_ring p acts r c.y cs on ex' eo' v in
            let one : nat_lt c.x (suc r) ≡ false = le-ltb c.x (suc r) (omega arith) in
            let two : nat_lt c.x r ≡ false = le-ltb c.x r (omega arith) in
            rw (high, low, one, two) rest
      ]
  | apart n m ↦
      ap (λ w. level p (suc r) cs w) (crosses_above p r c v n m)
      ∙ passed p acts r cs (sym (row_apart p r r c cs (ends_apart r c n m)) ∙ row) (sym (xs_not_here r c cs n) ∙ ex) (sym (os_not_here r c cs m) ∙ eo)
      (crosses p r c v)
]

pub level_none : (p : Bool → ℕ → ℕ → ℕ) (cs : List Column) (v : ℕ) → level p 0 cs v ≡ v
level_none p [] v = refl
level_none p (c ∷ cs) v =
    let e : nat_lt c.x 0 ≡ false = le-ltb c.x 0 (omega arith) in
    let f : nat_lt c.o 0 ≡ false = le-ltb c.o 0 (omega arith) in
    rw (e, f) (level_none p cs v)

-- the level fact
pub level_holds : (p : Bool → ℕ → ℕ → ℕ) → Acts p → (n : ℕ) (cs : List Column) → IsColoured p n cs → (h : ℕ) → h ≤ n → (v : ℕ) → level p h cs v ≡ v
level_holds p acts n cs coloured zero below v = level_none p cs v
level_holds p acts n cs coloured (suc h) below v =
    passed p acts h cs (sym (row_walk p h cs) ∙ coloured.walks h (omega arith)) (coloured.crosses h (omega arith)) (coloured.rings h (omega arith)) v
    ∙ level_holds p acts n cs coloured h (omega arith) v
