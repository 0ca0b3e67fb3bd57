-- An exchange of neighbouring columns, nested or disjoint.
use Rattle.std.proofs.Common.{◌≡◌, ◌≢◌, ◌∙◌, ◌<◌, ◌++◌, ℕ, List, [], ◌∷◌, ap, ap₂, sym, refl, arith, inl, inr, cond}
use Rattle.std.specs.Prelude.{Bool, true, false, nat_lt, ◌==◌, ◌⊎◌}
use Rattle.std.proofs.Math.Bool.{not}
use Rattle.std.proofs.lemmas.Bool.{true≢false, false≢true, cases_Bool, cases_lt, lt-ltb, le-ltb}
use Rattle.colour_laws.proofs.ColumnLists.{Acts, Column, ends, walk, crossed, crosses, IsNested, IsDisjoint, recolour, rises}
use Rattle.colour_laws.proofs.Actions.{crossed_carried, undo}
use Rattle.colour_laws.proofs.Rows.{ends_apart, on_at, row_at, row_end, row_apart, on_end, on_apart, row_walk}
use Rattle.colour_laws.proofs.Relabel.{eq_tests}

-- two ends of the list that a walk cannot tell apart
pub record IsAlike (p : Bool → ℕ → ℕ → ℕ) (h r : ℕ) (cs ds : List Column) : Type 0 where
  pub on : (a : ℕ) → on_at p h r a cs ≡ on_at p h r a ds
  pub row : row_at p h r cs ≡ row_at p h r ds

pub alike_behind : (p : Bool → ℕ → ℕ → ℕ) (h r : ℕ) (front cs ds : List Column) → IsAlike p h r cs ds → IsAlike p h r (front ++ cs) (front ++ ds)
alike_behind p h r [] cs ds alike = alike
alike_behind p h r (c ∷ front) cs ds alike =
    let rest = alike_behind p h r front cs ds alike in
    record {
      on = λ a. ap (λ t. cond (ends r c) (a == c.y) t) (rest.on (crosses p h c a));
      row = ap₂ (λ t s. cond (ends r c) t s) (rest.on c.y) rest.row;
    }

-- a column that does nothing in row r
pub record IsIdle (r : ℕ) (c : Column) : Type 0 where
  pub cross : c.x ≢ r
  pub ring : c.o ≢ r
  pub same : nat_lt c.x r ≡ nat_lt c.o r

-- a column that covers row r in direction d
pub record IsOver (d : Bool) (r : ℕ) (c : Column) : Type 0 where
  pub cross : c.x ≢ r
  pub ring : c.o ≢ r
  pub below : nat_lt c.x r ≡ d
  pub above : nat_lt c.o r ≡ not d

pub crossed_none : (p : Bool → ℕ → ℕ → ℕ) (l m : Bool) (y a : ℕ) → l ≡ m → crossed p l m y a ≡ a
crossed_none p true true y a e = refl
crossed_none p true false y a e = absurd (true≢false e)
crossed_none p false true y a e = absurd (false≢true e)
crossed_none p false false y a e = refl

crossed_one : (p : Bool → ℕ → ℕ → ℕ) (d : Bool) (y a : ℕ) → crossed p d (not d) y a ≡ p d y a
crossed_one p true y a = refl
crossed_one p false y a = refl

pub crosses_over : (p : Bool → ℕ → ℕ → ℕ) (d : Bool) (r : ℕ) (c : Column) (a : ℕ) → IsOver d r c → crosses p r c a ≡ p d c.y a
crosses_over p d r c a over = ap₂ (λ l m. crossed p l m c.y a) over.below over.above ∙ crossed_one p d c.y a

-- a column that does nothing in row r trades places with its neighbour
alike_idle : (p : Bool → ℕ → ℕ → ℕ) (r : ℕ) (u v : Column) (y : ℕ) (rest : List Column) → IsIdle r v → IsAlike p r r (u ∷ v ∷ rest) (recolour v y ∷ u ∷ rest)
alike_idle p r u v y rest idle =
    let f : ends r v ≡ false = ends_apart r v idle.cross idle.ring in
    let skip : (a : ℕ) → on_at p r r a (v ∷ rest) ≡ on_at p r r a rest = λ a. on_apart p r r a v rest f
    ∙ ap (λ b. on_at p r r b rest) (crossed_none p (nat_lt v.x r) (nat_lt v.o r) v.y a idle.same) in
    record {
      on = λ a. ap (λ t. cond (ends r u) (a == u.y) t) (skip (crosses p r u a))
          ∙ sym (on_apart p r r a (recolour v y) (u ∷ rest) f
          ∙ ap (λ b. on_at p r r b (u ∷ rest)) (crossed_none p (nat_lt v.x r) (nat_lt v.o r) y a idle.same));
      row = ap₂ (λ t s. cond (ends r u) t s) (skip u.y) (row_apart p r r v rest f) ∙ sym (row_apart p r r (recolour v y) (u ∷ rest) f);
    }

-- a column moves from the right of a column that covers the row to its left: its colour y there is what that column made into its colour here
alike_over : (p : Bool → ℕ → ℕ → ℕ) → Acts p → (d : Bool) (r : ℕ) (u v : Column) (y : ℕ) (rest : List Column) → IsOver d r u → v.y ≡ p d u.y y
    → IsAlike p r r (u ∷ v ∷ rest) (recolour v y ∷ u ∷ rest)
alike_over p acts d r u v y rest over colour =
    let f : ends r u ≡ false = ends_apart r u over.cross over.ring in
    let pass : (a : ℕ) (cs : List Column) → on_at p r r a (u ∷ cs) ≡ on_at p r r (p d u.y a) cs = λ a cs. on_apart p r r a u cs f
    ∙ ap (λ b. on_at p r r b cs) (crosses_over p d r u a over) in
    elim (cases_Bool (ends r v)) [
      | inl e ↦ record {
        on = λ a. pass a (v ∷ rest) ∙ on_end p r r (p d u.y a) v rest e
            ∙ eq_tests a y (p d u.y a) v.y (λ same. ap (p d u.y) same ∙ sym colour) (λ same. sym (undo p acts d u.y a) ∙ ap (p (not d) u.y) (same ∙ colour)
            ∙ undo p acts d u.y y)
            ∙ sym (on_end p r r a (recolour v y) (u ∷ rest) e);
        row = row_apart p r r u (v ∷ rest) f ∙ row_end p r r v rest e ∙ ap (λ b. on_at p r r b rest) colour ∙ sym (pass y rest)
            ∙ sym (row_end p r r (recolour v y) (u ∷ rest) e);
      }
      | inr e ↦ record {
        on = λ a. pass a (v ∷ rest) ∙ on_apart p r r (p d u.y a) v rest e
            ∙ ap (λ b. on_at p r r b rest) (ap (λ z. crossed p (nat_lt v.x r) (nat_lt v.o r) z (p d u.y a)) colour
            ∙ sym (crossed_carried p acts d (nat_lt v.x r) (nat_lt v.o r) u.y y a))
            ∙ sym (pass (crosses p r (recolour v y) a) rest) ∙ sym (on_apart p r r a (recolour v y) (u ∷ rest) e);
        row = row_apart p r r u (v ∷ rest) f ∙ row_apart p r r v rest e ∙ sym (row_apart p r r u rest f) ∙ sym (row_apart p r r (recolour v y) (u ∷ rest) e);
      }
    ]

-- tests of a number above or below a row
test_high : (x r : ℕ) → r < x → nat_lt x r ≡ false
test_high x r l = le-ltb x r (omega arith)

-- at each row the inner column does nothing, or the outer column covers the row
pub nested_at : (u v : Column) → IsNested u v → (r : ℕ) → IsIdle r v ⊎ IsOver (rises u) r u
nested_at u v nested r = elim nested [
  | inl up ↦
      let d : rises u ≡ true = lt-ltb u.x u.o (omega (arith, up)) in
      let over : u.x < r → r < u.o → IsIdle r v ⊎ IsOver (rises u) r u = λ low high.
      let below : nat_lt u.x r ≡ rises u = lt-ltb u.x r low ∙ sym d in
      let above : nat_lt u.o r ≡ not (rises u) = test_high u.o r high ∙ ap not (sym d) in
      inr (record { cross = λ e. omega arith; ring = λ e. omega arith; below = below; above = above }) in
      elim (cases_lt r v.x) [
        | inl a ↦ elim (cases_lt r v.o) [
          | inl b ↦ inl (record { cross = λ e. omega arith; ring = λ e. omega arith; same = test_high v.x r a ∙ sym (test_high v.o r b) })
          | inr b ↦ over (omega (arith, up)) (omega (arith, up))
        ]
        | inr a ↦ elim (cases_lt v.x r) [
          | inl a' ↦ elim (cases_lt v.o r) [
            | inl b ↦ inl (record { cross = λ e. omega arith; ring = λ e. omega arith; same = lt-ltb v.x r a' ∙ sym (lt-ltb v.o r b) })
            | inr b ↦ over (omega (arith, up)) (omega (arith, up))
          ]
          | inr a' ↦ over (omega (arith, up)) (omega (arith, up))
        ]
      ]
  | inr down ↦
      let d : rises u ≡ false = le-ltb u.x u.o (omega (arith, down)) in
      let over : u.o < r → r < u.x → IsIdle r v ⊎ IsOver (rises u) r u = λ low high.
      let below : nat_lt u.x r ≡ rises u = test_high u.x r high ∙ sym d in
      let above : nat_lt u.o r ≡ not (rises u) = lt-ltb u.o r low ∙ ap not (sym d) in
      inr (record { cross = λ e. omega arith; ring = λ e. omega arith; below = below; above = above }) in
      elim (cases_lt r v.x) [
        | inl a ↦ elim (cases_lt r v.o) [
          | inl b ↦ inl (record { cross = λ e. omega arith; ring = λ e. omega arith; same = test_high v.x r a ∙ sym (test_high v.o r b) })
          | inr b ↦ over (omega (arith, down)) (omega (arith, down))
        ]
        | inr a ↦ elim (cases_lt v.x r) [
          | inl a' ↦ elim (cases_lt v.o r) [
            | inl b ↦ inl (record { cross = λ e. omega arith; ring = λ e. omega arith; same = lt-ltb v.x r a' ∙ sym (lt-ltb v.o r b) })
            | inr b ↦ over (omega (arith, down)) (omega (arith, down))
          ]
          | inr a' ↦ over (omega (arith, down)) (omega (arith, down))
        ]
      ]
]

-- both marks on one side of the row
idle_low : (r : ℕ) (c : Column) → c.x < r → c.o < r → IsIdle r c
idle_low r c a b = record { cross = λ e. omega arith; ring = λ e. omega arith; same = lt-ltb c.x r a ∙ sym (lt-ltb c.o r b) }

idle_high : (r : ℕ) (c : Column) → r < c.x → r < c.o → IsIdle r c
idle_high r c a b = record { cross = λ e. omega arith; ring = λ e. omega arith; same = test_high c.x r a ∙ sym (test_high c.o r b) }

-- of two disjoint columns one does nothing in the row
pub disjoint_at : (u v : Column) → IsDisjoint u v → (r : ℕ) → IsIdle r v ⊎ IsIdle r u
disjoint_at u v disjoint r = elim disjoint [
  | inl low ↦ elim (cases_lt u.x r) [
    | inl a ↦ elim (cases_lt u.o r) [
      | inl b ↦ inr (idle_low r u a b)
      | inr b ↦ inl (idle_high r v (omega (arith, low)) (omega (arith, low)))
    ]
    | inr a ↦ inl (idle_high r v (omega (arith, low)) (omega (arith, low)))
  ]
  | inr high ↦ elim (cases_lt v.x r) [
    | inl a ↦ elim (cases_lt v.o r) [
      | inl b ↦ inl (idle_low r v a b)
      | inr b ↦ inr (idle_high r u (omega (arith, high)) (omega (arith, high)))
    ]
    | inr a ↦ inr (idle_high r u (omega (arith, high)) (omega (arith, high)))
  ]
]

-- an inner column that goes from the right of the outer one to its left: the same walks, in each row
pub nested_walks : (p : Bool → ℕ → ℕ → ℕ) → Acts p → (front : List Column) (u v : Column) (y : ℕ) (rest : List Column) → IsNested u v → v.y ≡ p (rises u) u.y y
    → (r : ℕ) → walk p r (front ++ u ∷ v ∷ rest) ≡ walk p r (front ++ recolour v y ∷ u ∷ rest)
nested_walks p acts front u v y rest nested colour r =
    let alike : IsAlike p r r (u ∷ v ∷ rest) (recolour v y ∷ u ∷ rest) = elim (nested_at u v nested r) [
      | inl idle ↦ alike_idle p r u v y rest idle
      | inr over ↦ alike_over p acts (rises u) r u v y rest over colour
    ] in
    row_walk p r (front ++ u ∷ v ∷ rest) ∙ (alike_behind p r r front (u ∷ v ∷ rest) (recolour v y ∷ u ∷ rest) alike).row
    ∙ sym (row_walk p r (front ++ recolour v y ∷ u ∷ rest))

-- disjoint columns
pub disjoint_walks : (p : Bool → ℕ → ℕ → ℕ) → (front : List Column) (u v : Column) (rest : List Column) → IsDisjoint u v
    → (r : ℕ) → walk p r (front ++ u ∷ v ∷ rest) ≡ walk p r (front ++ v ∷ u ∷ rest)
disjoint_walks p front u v rest disjoint r =
    let alike : row_at p r r (front ++ u ∷ v ∷ rest) ≡ row_at p r r (front ++ v ∷ u ∷ rest) = elim (disjoint_at u v disjoint r) [
      | inl idle ↦ (alike_behind p r r front (u ∷ v ∷ rest) (v ∷ u ∷ rest) (alike_idle p r u v v.y rest idle)).row
      | inr idle ↦ sym (alike_behind p r r front (v ∷ u ∷ rest) (u ∷ v ∷ rest) (alike_idle p r v u u.y rest idle)).row
    ] in
    row_walk p r (front ++ u ∷ v ∷ rest) ∙ alike ∙ sym (row_walk p r (front ++ v ∷ u ∷ rest))
