-- Exchanges, as bijections of colourings.
use Rattle.std.proofs.Common.{append_assoc, ◌≡◌, ◌∙◌, ◌<◌, ◌++◌, ℕ, zero, suc, List, [], ◌∷◌, length, ap, sym, refl, arith, inl, inr, subst, cond}
use Rattle.std.specs.Prelude.{Bool, true, false, ◌⊎◌, nat_lt, ◌&&◌}
use Rattle.std.specs.List.{All}
use Rattle.std.proofs.Math.Bool.{not}
use Rattle.std.proofs.lemmas.List.{length-map}
use Rattle.std.proofs.lemmas.List.Elements.{All-cons}
use Rattle.std.proofs.lemmas.Bool.{cond-true, cond-false, lt-ltb, le-ltb, and_from, and_left, and_right, or_from, or_left, or_right}
use Rattle.grid_core.specs.Diagram.{Diagram, IsGrid}
use Rattle.colour_laws.proofs.ColumnLists.{Acts, Column, rises, covers, walk, IsNested, IsDisjoint, recolour}
use Rattle.quandle_core.specs.Quandle.{Table, IsQuandle}
use Rattle.colour_laws.proofs.ColouredColumns.{act, columns, xs_of, os_of, ys_of, IsColouringByColumns, AreInverse, IsMarked, neighbours_traded, encloses}
use Rattle.colour_laws.proofs.ColouredColumns.{pair_traded, columns_traded, IsTradable, IsTradableAt, traded_colours}
use Rattle.colour_laws.proofs.Actions.{undo, redo}
use Rattle.colour_laws.proofs.Tables.{act_acts, act_below}
use Rattle.colour_laws.proofs.ExchangeColumns.{nested_walks, disjoint_walks}
use Rattle.colour_laws.proofs.Marked.{IsCarried, bijection_of, columns_marked}

-- a column lies over a row
covers_true : (r : ℕ) (c : Column) → ((c.x < r) × (r < c.o)) ⊎ ((c.o < r) × (r < c.x)) → covers r c ≡ true
covers_true r c over = elim over [
  | inl h ↦ or_left (nat_lt c.x r && nat_lt r c.o) (nat_lt c.o r && nat_lt r c.x) (and_from (nat_lt c.x r) (nat_lt r c.o) (lt-ltb c.x r h.0) (lt-ltb r c.o h.1))
  | inr h ↦ or_right (nat_lt c.x r && nat_lt r c.o) (nat_lt c.o r && nat_lt r c.x)
      (and_from (nat_lt c.o r) (nat_lt r c.x) (lt-ltb c.o r h.0) (lt-ltb r c.x h.1))
]

covers_below : (r : ℕ) (c : Column) → r < c.x → r < c.o → covers r c ≡ false
covers_below r c a b = or_from (nat_lt c.x r && nat_lt r c.o) (nat_lt c.o r && nat_lt r c.x)
    (and_left (nat_lt c.x r) (nat_lt r c.o) (le-ltb c.x r (omega arith))) (and_left (nat_lt c.o r) (nat_lt r c.x) (le-ltb c.o r (omega arith)))

covers_above : (r : ℕ) (c : Column) → c.x < r → c.o < r → covers r c ≡ false
covers_above r c a b = or_from (nat_lt c.x r && nat_lt r c.o) (nat_lt c.o r && nat_lt r c.x)
    (and_right (nat_lt c.x r) (nat_lt r c.o) (le-ltb r c.o (omega arith))) (and_right (nat_lt c.o r) (nat_lt r c.x) (le-ltb r c.x (omega arith)))

encloses_nested : (u v : Column) → IsNested u v → encloses u v ≡ true
encloses_nested u v nested = and_from (covers v.x u) (covers v.o u)
    (covers_true v.x u (elim nested [ inl h ↦ inl (h.0, h.2) | inr h ↦ inr (h.0, h.2) ]))
    (covers_true v.o u (elim nested [ inl h ↦ inl (h.1, h.3) | inr h ↦ inr (h.1, h.3) ]))

-- an inner column does not enclose its outer one
encloses_inner : (u v : Column) → IsNested v u → encloses u v ≡ false
encloses_inner u v nested = elim nested [
  | inl h ↦ and_left (covers v.x u) (covers v.o u) (covers_below v.x u (omega (arith, h)) (omega (arith, h)))
  | inr h ↦ and_left (covers v.x u) (covers v.o u) (covers_above v.x u (omega (arith, h)) (omega (arith, h)))
]

encloses_disjoint : (u v : Column) → IsDisjoint u v → encloses u v ≡ false
encloses_disjoint u v disjoint = elim disjoint [
  | inl h ↦ and_left (covers v.x u) (covers v.o u) (covers_above v.x u (omega (arith, h)) (omega (arith, h)))
  | inr h ↦ and_left (covers v.x u) (covers v.o u) (covers_below v.x u (omega (arith, h)) (omega (arith, h)))
]

pub disjoint_sym : (u v : Column) → IsDisjoint u v → IsDisjoint v u
disjoint_sym u v disjoint = elim disjoint [ inl h ↦ inr h | inr h ↦ inl h ]

-- what the exchange makes of the pair, in each case
pub pair_outer : (p : Bool → ℕ → ℕ → ℕ) (u v : Column) (rest : List Column) → IsNested u v
    → pair_traded p u v rest ≡ recolour v (p (not (rises u)) u.y v.y) ∷ u ∷ rest
pair_outer p u v rest nested =
    let e : encloses u v ≡ true = encloses_nested u v nested in
    cond-true (encloses u v) (recolour v (p (not (rises u)) u.y v.y) ∷ u ∷ rest)
    (cond (encloses v u) (v ∷ recolour u (p (rises v) v.y u.y) ∷ rest) (v ∷ u ∷ rest)) e

pub pair_inner : (p : Bool → ℕ → ℕ → ℕ) (u v : Column) (rest : List Column) → IsNested v u
    → pair_traded p u v rest ≡ v ∷ recolour u (p (rises v) v.y u.y) ∷ rest
pair_inner p u v rest nested =
    cond-false (encloses u v) (recolour v (p (not (rises u)) u.y v.y) ∷ u ∷ rest)
    (cond (encloses v u) (v ∷ recolour u (p (rises v) v.y u.y) ∷ rest) (v ∷ u ∷ rest)) (encloses_inner u v nested)
    ∙ cond-true (encloses v u) (v ∷ recolour u (p (rises v) v.y u.y) ∷ rest) (v ∷ u ∷ rest) (encloses_nested v u nested)

pub pair_disjoint : (p : Bool → ℕ → ℕ → ℕ) (u v : Column) (rest : List Column) → IsDisjoint u v → pair_traded p u v rest ≡ v ∷ u ∷ rest
pair_disjoint p u v rest disjoint =
    cond-false (encloses u v) (recolour v (p (not (rises u)) u.y v.y) ∷ u ∷ rest)
    (cond (encloses v u) (v ∷ recolour u (p (rises v) v.y u.y) ∷ rest) (v ∷ u ∷ rest)) (encloses_disjoint u v disjoint)
    ∙ cond-false (encloses v u) (v ∷ recolour u (p (rises v) v.y u.y) ∷ rest) (v ∷ u ∷ rest) (encloses_disjoint v u (disjoint_sym u v disjoint))

-- the walks are the same
pair_walks : (p : Bool → ℕ → ℕ → ℕ) → Acts p → (front : List Column) (u v : Column) (rest : List Column) → IsTradable zero (u ∷ v ∷ rest) → (r : ℕ)
    → walk p r (front ++ pair_traded p u v rest) ≡ walk p r (front ++ u ∷ v ∷ rest)
pair_walks p acts front u v rest tradable r = elim tradable [
  | inl nested ↦
      ap (λ l. walk p r (front ++ l)) (pair_outer p u v rest nested)
      ∙ sym (nested_walks p acts front u v (p (not (rises u)) u.y v.y) rest nested (sym (redo p acts (rises u) u.y v.y)) r)
  | inr (inl nested) ↦
      ap (λ l. walk p r (front ++ l)) (pair_inner p u v rest nested)
      ∙ nested_walks p acts front v (recolour u (p (rises v) v.y u.y)) u.y rest (elim nested [ inl h ↦ inl h | inr h ↦ inr h ]) refl r
  | inr (inr disjoint) ↦
      ap (λ l. walk p r (front ++ l)) (pair_disjoint p u v rest disjoint) ∙ sym (disjoint_walks p front u v rest disjoint r)
]

traded_walks : (p : Bool → ℕ → ℕ → ℕ) → Acts p → (front : List Column) (c : ℕ) (cs : List Column) → IsTradable c cs → (r : ℕ)
    → walk p r (front ++ columns_traded p c cs) ≡ walk p r (front ++ cs)
traded_walks p acts front zero [] tradable r = absurd tradable
traded_walks p acts front zero (u ∷ []) tradable r = absurd tradable
traded_walks p acts front zero (u ∷ v ∷ rest) tradable r = pair_walks p acts front u v rest tradable r
traded_walks p acts front (suc c) [] tradable r = absurd tradable
traded_walks p acts front (suc c) (u ∷ cs) tradable r =
    ap (walk p r) (sym (append_assoc front (u ∷ []) (columns_traded p c cs))) ∙ traded_walks p acts (front ++ u ∷ []) c cs tradable r
    ∙ ap (walk p r) (append_assoc front (u ∷ []) cs)

-- twice gives the columns back
pair_twice : (p : Bool → ℕ → ℕ → ℕ) → Acts p → (u v : Column) (rest : List Column) → IsTradable zero (u ∷ v ∷ rest)
    → columns_traded p zero (pair_traded p u v rest) ≡ u ∷ v ∷ rest
pair_twice p acts u v rest tradable = elim tradable [
  | inl nested ↦
      ap (columns_traded p zero) (pair_outer p u v rest nested)
      ∙ pair_inner p (recolour v (p (not (rises u)) u.y v.y)) u rest (elim nested [ inl h ↦ inl h | inr h ↦ inr h ])
      ∙ ap (λ y. u ∷ recolour v y ∷ rest) (redo p acts (rises u) u.y v.y)
  | inr (inl nested) ↦
      ap (columns_traded p zero) (pair_inner p u v rest nested)
      ∙ pair_outer p v (recolour u (p (rises v) v.y u.y)) rest (elim nested [ inl h ↦ inl h | inr h ↦ inr h ])
      ∙ ap (λ y. recolour u y ∷ v ∷ rest) (undo p acts (rises v) v.y u.y)
  | inr (inr disjoint) ↦ ap (columns_traded p zero) (pair_disjoint p u v rest disjoint) ∙ pair_disjoint p v u rest (disjoint_sym u v disjoint)
]

traded_twice : (p : Bool → ℕ → ℕ → ℕ) → Acts p → (c : ℕ) (cs : List Column) → IsTradable c cs → columns_traded p c (columns_traded p c cs) ≡ cs
traded_twice p acts zero [] tradable = absurd tradable
traded_twice p acts zero (u ∷ []) tradable = absurd tradable
traded_twice p acts zero (u ∷ v ∷ rest) tradable = pair_twice p acts u v rest tradable
traded_twice p acts (suc c) [] tradable = absurd tradable
traded_twice p acts (suc c) (u ∷ cs) tradable = ap (λ l. u ∷ l) (traded_twice p acts c cs tradable)

-- the marks trade places
pub traded_xs : (p : Bool → ℕ → ℕ → ℕ) (c : ℕ) (cs : List Column) → IsTradable c cs → xs_of (columns_traded p c cs) ≡ neighbours_traded c (xs_of cs)
traded_xs p zero [] tradable = refl
traded_xs p zero (u ∷ []) tradable = refl
traded_xs p zero (u ∷ v ∷ rest) tradable = elim tradable [
  | inl nested ↦ ap xs_of (pair_outer p u v rest nested)
  | inr (inl nested) ↦ ap xs_of (pair_inner p u v rest nested)
  | inr (inr disjoint) ↦ ap xs_of (pair_disjoint p u v rest disjoint)
]
traded_xs p (suc c) [] tradable = refl
traded_xs p (suc c) (u ∷ rest) tradable = ap (λ l. u.x ∷ l) (traded_xs p c rest tradable)

pub traded_os : (p : Bool → ℕ → ℕ → ℕ) (c : ℕ) (cs : List Column) → IsTradable c cs → os_of (columns_traded p c cs) ≡ neighbours_traded c (os_of cs)
traded_os p zero [] tradable = refl
traded_os p zero (u ∷ []) tradable = refl
traded_os p zero (u ∷ v ∷ rest) tradable = elim tradable [
  | inl nested ↦ ap os_of (pair_outer p u v rest nested)
  | inr (inl nested) ↦ ap os_of (pair_inner p u v rest nested)
  | inr (inr disjoint) ↦ ap os_of (pair_disjoint p u v rest disjoint)
]
traded_os p (suc c) [] tradable = refl
traded_os p (suc c) (u ∷ rest) tradable = ap (λ l. u.o ∷ l) (traded_os p c rest tradable)

-- colours stay colours
traded_below : (t : Table) → IsQuandle t → (c : ℕ) (cs : List Column) → IsTradable c cs → All (λ m. m < t.order) (ys_of cs)
    → All (λ m. m < t.order) (ys_of (columns_traded (act t) c cs))
traded_below t q zero [] tradable all = all
traded_below t q zero (u ∷ []) tradable all = all
traded_below t q zero (u ∷ v ∷ rest) tradable all =
    let one : u.y < t.order = all 0 0 (omega arith) in
    let two : v.y < t.order = all 1 0 (omega arith) in
    let more : All (λ m. m < t.order) (ys_of rest) = λ k d lt. all (suc (suc k)) d (omega arith) in
    elim tradable [
      | inl nested ↦ subst (λ (l : List Column). All (λ m. m < t.order) (ys_of l)) (sym (pair_outer (act t) u v rest nested))
          (All-cons (λ m. m < t.order) (act t (not (rises u)) u.y v.y) (u.y ∷ ys_of rest) (act_below t q (not (rises u)) u.y v.y two)
          (All-cons (λ m. m < t.order) u.y (ys_of rest) one more))
      | inr (inl nested) ↦ subst (λ (l : List Column). All (λ m. m < t.order) (ys_of l)) (sym (pair_inner (act t) u v rest nested))
          (All-cons (λ m. m < t.order) v.y (act t (rises v) v.y u.y ∷ ys_of rest) two
          (All-cons (λ m. m < t.order) (act t (rises v) v.y u.y) (ys_of rest) (act_below t q (rises v) v.y u.y one) more))
      | inr (inr disjoint) ↦ subst (λ (l : List Column). All (λ m. m < t.order) (ys_of l)) (sym (pair_disjoint (act t) u v rest disjoint))
          (All-cons (λ m. m < t.order) v.y (u.y ∷ ys_of rest) two (All-cons (λ m. m < t.order) u.y (ys_of rest) one more))
    ]
traded_below t q (suc c) [] tradable all = all
traded_below t q (suc c) (u ∷ rest) tradable all =
    All-cons (λ m. m < t.order) u.y (ys_of (columns_traded (act t) c rest)) (all 0 0 (omega arith))
    (traded_below t q c rest tradable (λ k d lt. all (suc k) d (omega arith)))

-- the rule on marks holds whatever the colours
tradable_columns : (c : ℕ) (xs os ys : List ℕ) → length os ≡ length xs → length ys ≡ length xs → IsTradableAt c xs os → IsTradable c (columns xs os ys)
tradable_columns zero [] os ys e f tradable = tradable
tradable_columns zero (x ∷ []) os ys e f tradable = absurd tradable
tradable_columns zero (x ∷ z ∷ xs) [] ys e f tradable = absurd tradable
tradable_columns zero (x ∷ z ∷ xs) (o ∷ []) ys e f tradable = absurd tradable
tradable_columns zero (x ∷ z ∷ xs) (o ∷ w ∷ os) [] e f tradable = absurd (omega (arith, f))
tradable_columns zero (x ∷ z ∷ xs) (o ∷ w ∷ os) (y ∷ []) e f tradable = absurd (omega (arith, f))
tradable_columns zero (x ∷ z ∷ xs) (o ∷ w ∷ os) (y ∷ v ∷ ys) e f tradable = tradable
tradable_columns (suc c) [] os ys e f tradable = tradable
tradable_columns (suc c) (x ∷ xs) [] ys e f tradable = absurd tradable
tradable_columns (suc c) (x ∷ xs) (o ∷ os) [] e f tradable = absurd (omega (arith, f))
tradable_columns (suc c) (x ∷ xs) (o ∷ os) (y ∷ ys) e f tradable = tradable_columns c xs os ys (omega (arith, e)) (omega (arith, f)) tradable

-- and it holds again afterwards
tradable_again : (c : ℕ) (xs os : List ℕ) → IsTradableAt c xs os → IsTradableAt c (neighbours_traded c xs) (neighbours_traded c os)
tradable_again zero [] os tradable = tradable
tradable_again zero (x ∷ []) os tradable = absurd tradable
tradable_again zero (x ∷ z ∷ xs) [] tradable = absurd tradable
tradable_again zero (x ∷ z ∷ xs) (o ∷ []) tradable = absurd tradable
tradable_again zero (x ∷ z ∷ xs) (o ∷ w ∷ os) tradable = elim tradable [
  | inl h ↦ inr (inl h)
  | inr (inl h) ↦ inl h
  | inr (inr h) ↦ inr (inr (elim h [ inl k ↦ inr k | inr k ↦ inl k ]))
]
tradable_again (suc c) [] os tradable = tradable
tradable_again (suc c) (x ∷ xs) [] tradable = absurd tradable
tradable_again (suc c) (x ∷ xs) (o ∷ os) tradable = tradable_again c xs os tradable

pub traded_marks_twice : (c : ℕ) (xs : List ℕ) → neighbours_traded c (neighbours_traded c xs) ≡ xs
traded_marks_twice zero [] = refl
traded_marks_twice zero (x ∷ []) = refl
traded_marks_twice zero (x ∷ z ∷ xs) = refl
traded_marks_twice (suc c) [] = refl
traded_marks_twice (suc c) (x ∷ xs) = ap (λ l. x ∷ l) (traded_marks_twice c xs)

pub length_traded : (c : ℕ) (xs : List ℕ) → length (neighbours_traded c xs) ≡ length xs
length_traded zero [] = refl
length_traded zero (x ∷ []) = refl
length_traded zero (x ∷ z ∷ xs) = refl
length_traded (suc c) [] = refl
length_traded (suc c) (x ∷ xs) = ap suc (length_traded c xs)

-- the rule, for columns that carry a grid's marks
pub tradable_marked : (g : Diagram) (c : ℕ) (cs : List Column) → IsGrid g → IsMarked g cs → IsTradableAt c g.x g.o → IsTradable c cs
tradable_marked g c cs grid marked tradable =
    let n : length (ys_of cs) ≡ length g.x = length-map cs (λ (l : Column). l.y) ∙ sym (length-map cs (λ (l : Column). l.x)) ∙ ap length marked.crosses in
    subst (IsTradable c) (columns_marked g cs marked) (tradable_columns c g.x g.o (ys_of cs) grid.same n tradable)

-- an exchange of columns
pub columns_exchanged : (t : Table) → IsQuandle t → (g h : Diagram) → IsGrid g → IsGrid h → (c : ℕ) → IsTradableAt c g.x g.o → h.x ≡ neighbours_traded c g.x
    → h.o ≡ neighbours_traded c g.o
    → AreInverse (IsColouringByColumns t g) (IsColouringByColumns t h) (traded_colours t c g) (traded_colours t c h)
columns_exchanged t q g h grid grid' c tradable hx ho =
    let acts = act_acts t q in
    let size : length h.x ≡ length g.x = ap length hx ∙ length_traded c g.x in
    let tradable' : IsTradableAt c h.x h.o = subst (λ (xs : List ℕ). IsTradableAt c xs h.o) (sym hx)
    (subst (λ (os : List ℕ). IsTradableAt c (neighbours_traded c g.x) os) (sym ho) (tradable_again c g.x g.o tradable)) in
    let gx : neighbours_traded c h.x ≡ g.x = ap (neighbours_traded c) hx ∙ traded_marks_twice c g.x in
    let go : neighbours_traded c h.o ≡ g.o = ap (neighbours_traded c) ho ∙ traded_marks_twice c g.o in
    let carried : IsCarried t g h (columns_traded (act t) c) (columns_traded (act t) c) = record {
      goes = λ cs marked.
          let able = tradable_marked g c cs grid marked tradable in
          record {
            crosses = traded_xs (act t) c cs able ∙ ap (neighbours_traded c) marked.crosses ∙ sym hx;
            rings =
                traded_os (act t) c cs able ∙ ap (neighbours_traded c) marked.rings ∙ sym ho;
          };
      comes = λ ds marked.
          let able = tradable_marked h c ds grid' marked tradable' in
          record {
            crosses = traded_xs (act t) c ds able ∙ ap (neighbours_traded c) marked.crosses ∙ gx;
            rings =
                traded_os (act t) c ds able ∙ ap (neighbours_traded c) marked.rings ∙ go;
          };
      walks = λ cs marked coloured r lt. traded_walks (act t) acts [] c cs (tradable_marked g c cs grid marked tradable) r
          ∙ coloured.walks r (omega (arith, lt, size));
      walks_back = λ ds marked coloured r lt. traded_walks (act t) acts [] c ds (tradable_marked h c ds grid' marked tradable') r
          ∙ coloured.walks r (omega (arith, lt, size));
      below = λ cs marked all. traded_below t q c cs (tradable_marked g c cs grid marked tradable) all;
      below_back = λ ds marked all. traded_below t q c ds (tradable_marked h c ds grid' marked tradable') all;
      there = λ cs marked coloured. traded_twice (act t) acts c cs (tradable_marked g c cs grid marked tradable);
      again = λ ds marked coloured. traded_twice (act t) acts c ds (tradable_marked h c ds grid' marked tradable');
    } in
    bijection_of t g h (columns_traded (act t) c) (columns_traded (act t) c) grid grid' carried
