-- A stabilisation: each row's walk, and the new row's.
use Rattle.std.proofs.Common.{◌≡◌, ◌≢◌, ◌∙◌, ◌<◌, ℕ, zero, suc, List, [], ◌∷◌, map, ap, ap₂, sym, refl, arith, inl, inr, subst, cond}
use Rattle.std.specs.Prelude.{Bool, true, false, nat_lt, ◌==◌, ◌⊎◌, ◌||◌}
use Rattle.std.proofs.lemmas.Bool.{cond-true, cond-false, cases_Bool, cases_eq, cases_order, eq-eqb, ne_eqb, lt-ltb, le-ltb, or_from, or_left, or_right}
use Rattle.colour_laws.proofs.ColumnLists.{Acts, Column, ends, crossed, crosses, relabel, corner_row, raised, short, long, with_block, IsMarkAt}
use Rattle.colour_laws.proofs.Actions.{crossed_fixed}
use Rattle.colour_laws.proofs.Rows.{ends_cross, ends_ring, on_at, row_at, row_end, row_apart, on_end, on_apart}
use Rattle.colour_laws.proofs.Relabel.{eq_tests, lt_tests, on_relabel, row_relabel}
use Rattle.colour_laws.proofs.ShiftRows.{on_front, row_front}
use Rattle.colour_laws.proofs.ExchangeColumns.{crossed_none}

-- the block's two rows
pub two_rows : (r : ℕ) (high : Bool) → ((raised r high r ≡ r) × (corner_row r high ≡ suc r)) ⊎ ((raised r high r ≡ suc r) × (corner_row r high ≡ r))
two_rows r high =
    let a : nat_lt r r ≡ false = le-ltb r r (omega arith) in
    let b : (r == r) ≡ true = eq-eqb r r refl in
    let is : raised r high r ≡ cond high r (suc r) = rw (a, b) refl in
    rows high is
  where
    rows : (t : Bool) → raised r high r ≡ cond high r (suc r)
        → ((raised r high r ≡ r) × (corner_row r high ≡ suc r)) ⊎ ((raised r high r ≡ suc r) × (corner_row r high ≡ r))
    rows t is = elim (cases_Bool high) [
      | inl e ↦ inl (is ∙ cond-true high r (suc r) e, cond-true high (suc r) r e)
      | inr e ↦ inr (is ∙ cond-false high r (suc r) e, cond-false high (suc r) r e)
    ]

-- where a row goes
pub data Lifts (r : ℕ) (high : Bool) (x : ℕ) : Type 0 where
  under : x < r → raised r high x ≡ x → Lifts r high x
  level_with : x ≡ r → Lifts r high x
  above : r < x → raised r high x ≡ suc x → Lifts r high x

pub lifts : (r : ℕ) (high : Bool) (x : ℕ) → Lifts r high x
lifts r high x = elim (cases_order x r) [
  | inl e ↦ level_with e
  | inr (inl l) ↦ under l (cond-true (nat_lt x r) x (cond (x == r) (cond high r (suc r)) (suc x)) (lt-ltb x r l))
  | inr (inr l) ↦ above l (cond-false (nat_lt x r) x (cond (x == r) (cond high r (suc r)) (suc x)) (le-ltb x r (omega arith))
      ∙ cond-false (x == r) (cond high r (suc r)) (suc x) (ne_eqb x r (λ e. omega arith)))
]

-- the order of rows stays
pub raised_less : (r : ℕ) (high : Bool) (x s : ℕ) → x < s → raised r high x < raised r high s
raised_less r high x s l = elim (lifts r high x) [
  | under a e ↦ elim (lifts r high s) [
    | under b f ↦ omega arith
    | level_with b ↦ elim (two_rows r high) [ inl t ↦ omega (arith, t, ap (raised r high) b) | inr t ↦ omega (arith, t, ap (raised r high) b) ]
    | above b f ↦ omega arith
  ]
  | level_with a ↦ elim (lifts r high s) [
    | under b f ↦ absurd (omega arith)
    | level_with b ↦ absurd (omega arith)
    | above b f ↦ elim (two_rows r high) [ inl t ↦ omega (arith, t, ap (raised r high) a) | inr t ↦ omega (arith, t, ap (raised r high) a) ]
  ]
  | above a e ↦ elim (lifts r high s) [
    | under b f ↦ absurd (omega arith)
    | level_with b ↦ absurd (omega arith)
    | above b f ↦ omega arith
  ]
]

pub raised_lt : (r : ℕ) (high : Bool) (x s : ℕ) → nat_lt (raised r high x) (raised r high s) ≡ nat_lt x s
raised_lt r high x s = lt_tests x s (raised r high x) (raised r high s) (λ l. raised_less r high x s l) (λ l. elim (cases_order x s) [
  | inl e ↦ absurd (omega (arith, l, ap (raised r high) e))
  | inr (inl k) ↦ k
  | inr (inr k) ↦ absurd (omega (arith, l, raised_less r high s x k))
])

pub raised_eq : (r : ℕ) (high : Bool) (s x : ℕ) → (raised r high x == raised r high s) ≡ (x == s)
raised_eq r high s x = eq_tests x s (raised r high x) (raised r high s) (λ e. ap (raised r high) e) (λ e. elim (cases_order x s) [
  | inl f ↦ f
  | inr (inl k) ↦ absurd (omega (arith, e, raised_less r high x s k))
  | inr (inr k) ↦ absurd (omega (arith, e, raised_less r high s x k))
])

-- no old row goes to the corner's row
pub raised_corner : (r : ℕ) (high : Bool) (x : ℕ) → raised r high x ≢ corner_row r high
raised_corner r high x = λ e. elim (two_rows r high) [
  | inl t ↦ elim (lifts r high x) [
    | under a f ↦ omega (arith, t, e)
    | level_with a ↦ omega (arith, t, e, ap (raised r high) a)
    | above a f ↦ omega (arith, t, e)
  ]
  | inr t ↦ elim (lifts r high x) [
    | under a f ↦ omega (arith, t, e)
    | level_with a ↦ omega (arith, t, e, ap (raised r high) a)
    | above a f ↦ omega (arith, t, e)
  ]
]

-- for every other row the corner's row is where row r was
corner_lt : (r : ℕ) (high : Bool) (s : ℕ) → s ≢ r → nat_lt (corner_row r high) (raised r high s) ≡ nat_lt r s
corner_lt r high s n = lt_tests r s (corner_row r high) (raised r high s)
    (λ l. elim (lifts r high s) [
      | under a f ↦ absurd (omega arith)
      | level_with a ↦ absurd (n a)
      | above a f ↦ elim (two_rows r high) [ inl t ↦ omega (arith, t) | inr t ↦ omega (arith, t) ]
    ])
    (λ l. elim (lifts r high s) [
      | under a f ↦ elim (two_rows r high) [ inl t ↦ absurd (omega (arith, t, l)) | inr t ↦ absurd (omega (arith, t, l)) ]
      | level_with a ↦ absurd (n a)
      | above a f ↦ a
    ])

corner_ne : (r : ℕ) (high : Bool) (s : ℕ) → (corner_row r high == raised r high s) ≡ false
corner_ne r high s = ne_eqb (corner_row r high) (raised r high s) (λ e. raised_corner r high s (sym e))

-- two lists that walks of two rows cannot tell apart
pub record IsLike (p : Bool → ℕ → ℕ → ℕ) (r' r : ℕ) (cs' cs : List Column) : Type 0 where
  pub on : (a : ℕ) → on_at p r' r' a cs' ≡ on_at p r r a cs
  pub row : row_at p r' r' cs' ≡ row_at p r r cs

-- a column meets its own colour where the walk had it before
pub crossed_meets : (p : Bool → ℕ → ℕ → ℕ) → Acts p → (l m : Bool) (y a : ℕ) → (crossed p l m y a == y) ≡ (a == y)
crossed_meets p acts true true y a = refl
crossed_meets p acts true false y a =
    eq_tests a y (p true y a) y (λ e. ap (p true y) e ∙ acts.fixed true y) (λ e. sym (acts.up_down y a) ∙ ap (p false y) e ∙ acts.fixed false y)
crossed_meets p acts false true y a =
    eq_tests a y (p false y a) y (λ e. ap (p false y) e ∙ acts.fixed false y) (λ e. sym (acts.down_up y a) ∙ ap (p true y) e ∙ acts.fixed true y)
crossed_meets p acts false false y a = refl

-- what the block's columns are to an old row other than r
pub record IsElsewhere (r' s : ℕ) (sh lo c : Column) : Type 0 where
  pub short_apart : ends r' sh ≡ false
  pub short_idle : nat_lt sh.x r' ≡ nat_lt sh.o r'
  pub long_ends : ends r' lo ≡ ends s c
  pub long_x : nat_lt lo.x r' ≡ nat_lt c.x s
  pub long_o : nat_lt lo.o r' ≡ nat_lt c.o s
  pub colour : lo.y ≡ c.y

-- and to row r
pub record IsHere (r' r : ℕ) (sh lo c : Column) : Type 0 where
  pub short_ends : ends r' sh ≡ true
  pub long_apart : ends r' lo ≡ false
  pub old_ends : ends r c ≡ true
  pub short_colour : sh.y ≡ c.y
  pub long_colour : lo.y ≡ c.y

skip_short : (p : Bool → ℕ → ℕ → ℕ) (r' s : ℕ) (sh lo c : Column) → IsElsewhere r' s sh lo c → (cs : List Column) → IsLike p r' r' (sh ∷ cs) cs
skip_short p r' s sh lo c e cs = record {
  on = λ a. on_apart p r' r' a sh cs e.short_apart ∙ ap (λ b. on_at p r' r' b cs) (crossed_none p (nat_lt sh.x r') (nat_lt sh.o r') sh.y a e.short_idle);
  row = row_apart p r' r' sh cs e.short_apart;
}

keep_long : (p : Bool → ℕ → ℕ → ℕ) (r' s : ℕ) (sh lo c : Column) → IsElsewhere r' s sh lo c → (cs' cs : List Column) → IsLike p r' s cs' cs
    → IsLike p r' s (lo ∷ cs') (c ∷ cs)
keep_long p r' s sh lo c e cs' cs rest =
    let acts_so : (a : ℕ) → crosses p r' lo a ≡ crosses p s c a = λ a.
    ap₂ (λ l m. crossed p l m lo.y a) e.long_x e.long_o ∙ ap (λ y. crossed p (nat_lt c.x s) (nat_lt c.o s) y a) e.colour in
    record {
      on = λ a. on_front p s s r' r' a a c lo cs cs' e.long_ends (ap (λ y. a == y) e.colour) (ap (λ b. on_at p r' r' b cs') (acts_so a)
          ∙ rest.on (crosses p s c a));
      row = row_front p s s r' r' c lo cs cs' e.long_ends (ap (λ b. on_at p r' r' b cs') e.colour ∙ rest.on c.y) rest.row;
    }

-- the block against the old column, in another row
pub elsewhere : (p : Bool → ℕ → ℕ → ℕ) (right : Bool) (r' s : ℕ) (sh lo c : Column) → IsElsewhere r' s sh lo c → (cs' cs : List Column) → IsLike p r' s cs' cs
    → IsLike p r' s (cond right (lo ∷ sh ∷ cs') (sh ∷ lo ∷ cs')) (c ∷ cs)
elsewhere p true r' s sh lo c e cs' cs rest =
    let skip = skip_short p r' s sh lo c e cs' in
    keep_long p r' s sh lo c e (sh ∷ cs') cs (record { on = λ a. skip.on a ∙ rest.on a; row = skip.row ∙ rest.row })
elsewhere p false r' s sh lo c e cs' cs rest =
    let skip = skip_short p r' s sh lo c e (lo ∷ cs') in
    let keep = keep_long p r' s sh lo c e cs' cs rest in
    record { on = λ a. skip.on a ∙ keep.on a; row = skip.row ∙ keep.row }

-- and in row r
pub at_mark : (p : Bool → ℕ → ℕ → ℕ) → Acts p → (right : Bool) (r' r : ℕ) (sh lo c : Column) → IsHere r' r sh lo c → (cs' cs : List Column)
    → IsLike p r' r cs' cs
    → IsLike p r' r (cond right (lo ∷ sh ∷ cs') (sh ∷ lo ∷ cs')) (c ∷ cs)
at_mark p acts true r' r sh lo c e cs' cs rest = record {
  on = λ a. on_apart p r' r' a lo (sh ∷ cs') e.long_apart ∙ on_end p r' r' (crosses p r' lo a) sh cs' e.short_ends
      ∙ ap₂ (λ y z. crossed p (nat_lt lo.x r') (nat_lt lo.o r') y a == z) e.long_colour e.short_colour
      ∙ crossed_meets p acts (nat_lt lo.x r') (nat_lt lo.o r') c.y a ∙ sym (on_end p r r a c cs e.old_ends);
  row = row_apart p r' r' lo (sh ∷ cs') e.long_apart ∙ row_end p r' r' sh cs' e.short_ends ∙ ap (λ b. on_at p r' r' b cs') e.short_colour ∙ rest.on c.y
      ∙ sym (row_end p r r c cs e.old_ends);
}
at_mark p acts false r' r sh lo c e cs' cs rest = record {
  on = λ a. on_end p r' r' a sh (lo ∷ cs') e.short_ends ∙ ap (λ y. a == y) e.short_colour ∙ sym (on_end p r r a c cs e.old_ends);
  row = row_end p r' r' sh (lo ∷ cs') e.short_ends ∙ on_apart p r' r' sh.y lo cs' e.long_apart
      ∙ ap (λ b. on_at p r' r' b cs') (ap₂ (λ y z. crossed p (nat_lt lo.x r') (nat_lt lo.o r') y z) e.long_colour e.short_colour
      ∙ crossed_fixed p acts (nat_lt lo.x r') (nat_lt lo.o r') c.y)
      ∙ rest.on c.y ∙ sym (row_end p r r c cs e.old_ends);
}

pub or_tests : (a b c d : Bool) → a ≡ c → b ≡ d → (a || b) ≡ (c || d)
or_tests a b c d e f = ap₂ (λ x y. x || y) e f

-- the block's columns are so
pub there : (mark : Bool) (high : Bool) (r s : ℕ) (c : Column) (cs : List Column) → IsMarkAt mark r zero (c ∷ cs) → s ≢ r
    → IsElsewhere (raised r high s) s (short mark high r c) (long mark high r c) c
there true high r s c cs at n =
    let old : (c.x == s) ≡ false = ne_eqb c.x s (λ e. n (sym e ∙ at.0)) in
    let now : (corner_row r high == raised r high s) ≡ (c.x == s) = corner_ne r high s ∙ sym old in
    let far : (raised r high r == raised r high s) ≡ false = raised_eq r high s r ∙ ne_eqb r s (λ e. n (sym e)) in
    record {
      short_apart = or_from (raised r high r == raised r high s) (corner_row r high == raised r high s) far (corner_ne r high s);
      short_idle = raised_lt r high r s ∙ sym (corner_lt r high s n);
      long_ends = or_tests (corner_row r high == raised r high s) (raised r high c.o == raised r high s) (c.x == s) (c.o == s) now (raised_eq r high s c.o);
      long_x = corner_lt r high s n ∙ ap (λ x. nat_lt x s) (sym at.0);
      long_o = raised_lt r high c.o s;
      colour = refl;
    }
there false high r s c cs at n =
    let old : (c.o == s) ≡ false = ne_eqb c.o s (λ e. n (sym e ∙ at.0)) in
    let now : (corner_row r high == raised r high s) ≡ (c.o == s) = corner_ne r high s ∙ sym old in
    let far : (raised r high r == raised r high s) ≡ false = raised_eq r high s r ∙ ne_eqb r s (λ e. n (sym e)) in
    record {
      short_apart = or_from (corner_row r high == raised r high s) (raised r high r == raised r high s) (corner_ne r high s) far;
      short_idle = corner_lt r high s n ∙ sym (raised_lt r high r s);
      long_ends = or_tests (raised r high c.x == raised r high s) (corner_row r high == raised r high s) (c.x == s) (c.o == s) (raised_eq r high s c.x) now;
      long_x = raised_lt r high c.x s;
      long_o = corner_lt r high s n ∙ ap (λ x. nat_lt x s) (sym at.0);
      colour = refl;
    }

pub here : (mark : Bool) (high : Bool) (r : ℕ) (c : Column) (cs : List Column) → IsMarkAt mark r zero (c ∷ cs)
    → IsHere (raised r high r) r (short mark high r c) (long mark high r c) c
here true high r c cs at = record {
  short_ends = or_left (raised r high r == raised r high r) (corner_row r high == raised r high r) (eq-eqb (raised r high r) (raised r high r) refl);
  long_apart =
      or_from (corner_row r high == raised r high r) (raised r high c.o == raised r high r) (corner_ne r high r) (raised_eq r high r c.o ∙ ne_eqb c.o r at.1);
  old_ends = ends_cross r c at.0;
  short_colour = refl;
  long_colour = refl;
}
here false high r c cs at = record {
  short_ends = or_right (corner_row r high == raised r high r) (raised r high r == raised r high r) (eq-eqb (raised r high r) (raised r high r) refl);
  long_apart =
      or_from (raised r high c.x == raised r high r) (corner_row r high == raised r high r) (raised_eq r high r c.x ∙ ne_eqb c.x r at.1) (corner_ne r high r);
  old_ends = ends_ring r c at.0;
  short_colour = refl;
  long_colour = refl;
}

relabelled : (p : Bool → ℕ → ℕ → ℕ) (high : Bool) (r s : ℕ) (cs : List Column) → IsLike p (raised r high s) s (map (relabel (raised r high)) cs) cs
relabelled p high r s cs = record {
  on = λ a. on_relabel p (raised r high) s s (raised r high s) (raised r high s) (raised_eq r high s) (λ x n. raised_lt r high x s) a cs;
  row = row_relabel p (raised r high) s s (raised r high s) (raised r high s) (raised_eq r high s) (λ x n. raised_lt r high x s) cs;
}

-- each old row has the same walk
pub with_block_rows : (p : Bool → ℕ → ℕ → ℕ) → Acts p → (mark right high : Bool) (r k : ℕ) (cs : List Column) → IsMarkAt mark r k cs → (s : ℕ)
    → IsLike p (raised r high s) s (with_block mark right high r k cs) cs
with_block_rows p acts mark right high r k [] at s = record { on = λ a. refl; row = refl }
with_block_rows p acts mark right high r zero (c ∷ cs) at s = elim (cases_eq s r) [
  | inl e ↦ subst (λ (s : ℕ). IsLike p (raised r high s) s (with_block mark right high r zero (c ∷ cs)) (c ∷ cs)) (sym e)
      (at_mark p acts right (raised r high r) r (short mark high r c) (long mark high r c) c (here mark high r c cs at) (map (relabel (raised r high)) cs) cs
      (relabelled p high r r cs))
  | inr n ↦ elsewhere p right (raised r high s) s (short mark high r c) (long mark high r c) c (there mark high r s c cs at n)
      (map (relabel (raised r high)) cs) cs (relabelled p high r s cs)
]
with_block_rows p acts mark right high r (suc k) (c ∷ cs) at s =
    let rest = with_block_rows p acts mark right high r k cs at s in
    let same : ends (raised r high s) (relabel (raised r high) c) ≡ ends s c =
    or_tests (raised r high c.x == raised r high s) (raised r high c.o == raised r high s) (c.x == s) (c.o == s) (raised_eq r high s c.x)
    (raised_eq r high s c.o) in
    record {
      on = λ a. on_front p s s (raised r high s) (raised r high s) a a c (relabel (raised r high) c) cs (with_block mark right high r k cs) same refl
          (ap₂ (λ l m. on_at p (raised r high s) (raised r high s) (crossed p l m c.y a) (with_block mark right high r k cs)) (raised_lt r high c.x s)
          (raised_lt r high c.o s) ∙ rest.on (crosses p s c a));
      row =
          row_front p s s (raised r high s) (raised r high s) c (relabel (raised r high) c) cs (with_block mark right high r k cs) same (rest.on c.y) rest.row;
    }
