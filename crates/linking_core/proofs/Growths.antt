-- The columns and rows of a diagram after a stabilisation, and its components.
use Rattle.std.proofs.Common.{◌≡◌, ◌≢◌, ◌<◌, ◌+◌, ◌∙◌, ◌⊎◌, ℕ, arith, sym, subst, refl, ap, inl, inr}
use Rattle.std.specs.Prelude.{nat_lt}
use Rattle.std.proofs.lemmas.Bool.{cases_eq}
use Rattle.std.proofs.lemmas.Bool.Decides.{nat_tests}
use Rattle.grid_core.specs.declared.mark.Kind.{Kind}
use Rattle.grid_core.specs.declared.mark.Kind.TheVariants.{Cross, Ring}
use Rattle.grid_core.specs.Diagram.{Diagram, IsGrid, HasMark, size, row_of, other}
use Rattle.grid_core.specs.Parts.{column_of}
use Rattle.grid_core.specs.Places.{lifted, lowered}
use Rattle.grid_core.proofs.Gaps.{lifted-below}
use Rattle.grid_core.proofs.Marks.{column_mark}
use Rattle.grid_moves.proofs.Widened.{Widened, kinds}
use Rattle.grid_moves.proofs.WidenedGrids.{Beside, column_from}
use Rattle.linking_core.specs.Component.{component_number}
use Rattle.linking_core.proofs.ComponentNumbers.{component_shared}
use Rattle.linking_core.proofs.Corresponding.{Corresponds}

-- e is d with a new row q beside row r, and with a new column for each kind beside column c, whose mark of this kind stands in row r
pub record Grows (kind : Kind) (place : Kind → ℕ) (c r q : ℕ) (d e : Diagram) : Type 0 where
  pub wide : Widened place q d e
  pub beside : Beside c place
  pub near : (q ≡ r) ⊎ (q ≡ r + 1)
  pub marked : HasMark d kind c r

-- the column that holds two of the block's marks, and the column of the third
abbrev pub fresh : Kind → (Kind → ℕ) → ℕ
fresh kind place = place (other kind)

abbrev pub twin : Kind → (Kind → ℕ) → ℕ
twin kind place = place kind

pub fresh_twin : (kind : Kind) (place : Kind → ℕ) (c : ℕ) → Beside c place
    → ((fresh kind place ≡ c) × (twin kind place ≡ c + 1)) ⊎ ((fresh kind place ≡ c + 1) × (twin kind place ≡ c))
fresh_twin kind place c beside = from (place (other kind)) (place kind) (beside.near (other kind)) (beside.near kind) (apart kind)
  where
    apart : (k : Kind) → place (other k) ≢ place k
    apart Cross e = beside.apart (sym e)
    apart Ring e = beside.apart e

    from : (x y : ℕ) → (x ≡ c) ⊎ (x ≡ c + 1) → (y ≡ c) ⊎ (y ≡ c + 1) → x ≢ y → ((x ≡ c) × (y ≡ c + 1)) ⊎ ((x ≡ c + 1) × (y ≡ c))
    from x y at_x at_y ne = elim at_x [
      | inl ex ↦ elim at_y [ inl ey ↦ absurd (ne (ex ∙ sym ey)) | inr ey ↦ inl (ex, ey) ]
      | inr ex ↦ elim at_y [ inl ey ↦ inr (ex, ey) | inr ey ↦ absurd (ne (ex ∙ sym ey)) ]
    ]

-- numbers beside c
beside_back : (c p b : ℕ) → (p ≡ c) ⊎ (p ≡ c + 1) → lowered c (lifted p b) ≡ b
beside_back c p b near = grind (arith, nat_tests)

beside_low : (c p : ℕ) → (p ≡ c) ⊎ (p ≡ c + 1) → lowered c p ≡ c
beside_low c p near = grind (arith, nat_tests)

beside_own : (c p o : ℕ) → ((p ≡ c) × (o ≡ c + 1)) ⊎ ((p ≡ c + 1) × (o ≡ c)) → lifted p c ≡ o
beside_own c p o pair = grind (arith, nat_tests)

beside_far : (c p o b : ℕ) → ((p ≡ c) × (o ≡ c + 1)) ⊎ ((p ≡ c + 1) × (o ≡ c)) → b ≢ c → lifted o b ≡ lifted p b
beside_far c p o b pair ne = grind (arith, nat_tests)

turned_pair : (c p o : ℕ) → ((p ≡ c) × (o ≡ c + 1)) ⊎ ((p ≡ c + 1) × (o ≡ c)) → ((o ≡ c) × (p ≡ c + 1)) ⊎ ((o ≡ c + 1) × (p ≡ c))
turned_pair c p o pair = elim pair [ inl is ↦ inr (is.1, is.0) | inr is ↦ inl (is.1, is.0) ]

pub twin_column : (kind : Kind) (place : Kind → ℕ) (c : ℕ) → Beside c place → lifted (fresh kind place) c ≡ twin kind place
twin_column kind place c beside = beside_own c (fresh kind place) (twin kind place) (fresh_twin kind place c beside)

pub fresh_column : (kind : Kind) (place : Kind → ℕ) (c : ℕ) → Beside c place → lifted (twin kind place) c ≡ fresh kind place
fresh_column kind place c beside =
    beside_own c (twin kind place) (fresh kind place) (turned_pair c (fresh kind place) (twin kind place) (fresh_twin kind place c beside))

pub far_column : (kind : Kind) (place : Kind → ℕ) (c b : ℕ) → Beside c place → b ≢ c → lifted (twin kind place) b ≡ lifted (fresh kind place) b
far_column kind place c b beside ne = beside_far c (fresh kind place) (twin kind place) b (fresh_twin kind place c beside) ne

-- a row of e from a row of d: the row's own new number, or the new row beside row r
pub data IsNear (r q s t : ℕ) : Type 0 where
  moved : t ≡ lifted q s → IsNear r q s t
  beside : s ≡ r → t ≡ q → IsNear r q s t

pub near_order : (r q s t s' t' : ℕ) → (q ≡ r) ⊎ (q ≡ r + 1) → IsNear r q s s' → IsNear r q t t' → s ≢ t → nat_lt s' t' ≡ nat_lt s t
near_order r q s t s' t' near (moved es) (moved et) ne = grind (arith, nat_tests)
near_order r q s t s' t' near (moved es) (beside et eq) ne = grind (arith, nat_tests)
near_order r q s t s' t' near (beside es eq) (moved et) ne = grind (arith, nat_tests)
near_order r q s t s' t' near (beside es eq) (beside et fq) ne = absurd (ne (es ∙ sym et))

-- the rows of the marks in each old column, at its new place, and in the column that is new
pub near_row : (kind : Kind) (place : Kind → ℕ) (c r q : ℕ) (d e : Diagram) → Grows kind place c r q d e → (k : Kind) (b : ℕ) → b < size d
    → IsNear r q (row_of k d b) (row_of k e (lifted (fresh kind place) b))
near_row kind place c r q d e grows k b lt = elim (kinds kind k) [
  | inr far ↦ moved (subst (λ (z : Kind). row_of z e (lifted (fresh kind place) b) ≡ lifted q (row_of z d b)) (sym far) (grows.wide.kept (other kind) b lt))
  | inl own ↦ subst (λ (z : Kind). IsNear r q (row_of z d b) (row_of z e (lifted (fresh kind place) b))) (sym own) (elim (cases_eq b c) [
    | inl is ↦ beside (ap (row_of kind d) is ∙ grows.marked.row)
        (ap (λ (a : ℕ). row_of kind e (lifted (fresh kind place) a)) is ∙ (ap (row_of kind e) (twin_column kind place c grows.beside) ∙ grows.wide.fresh kind))
    | inr ne ↦ moved (ap (row_of kind e) (sym (far_column kind place c b grows.beside ne)) ∙ grows.wide.kept kind b lt)
  ])
]

pub near_fresh : (kind : Kind) (place : Kind → ℕ) (c r q : ℕ) (d e : Diagram) → Grows kind place c r q d e → (k : Kind)
    → IsNear r q r (row_of k e (fresh kind place))
near_fresh kind place c r q d e grows k = elim (kinds kind k) [
  | inr far ↦ beside refl (ap (λ (z : Kind). row_of z e (fresh kind place)) far ∙ grows.wide.fresh (other kind))
  | inl own ↦ moved (ap (λ (z : Kind). row_of z e (fresh kind place)) own
      ∙ (ap (row_of kind e) (sym (fresh_column kind place c grows.beside)) ∙ (grows.wide.kept kind c grows.marked.inside ∙ ap (lifted q) grows.marked.row)))
]

place_below : (kind : Kind) (place : Kind → ℕ) (c r q : ℕ) (d e : Diagram) → Grows kind place c r q d e → (k : Kind) → place k < size e
place_below kind place c r q d e grows k = let lt = grows.marked.inside in elim (grows.beside.near k) [
  | inl is ↦ omega (arith, is, grows.wide.larger)
  | inr is ↦ omega (arith, is, grows.wide.larger)
]

-- the two columns of the block share the new row
block_joined : (kind : Kind) (place : Kind → ℕ) (c r q : ℕ) (d e : Diagram) → IsGrid e → Grows kind place c r q d e
    → component_number e (fresh kind place) ≡ component_number e (twin kind place)
block_joined kind place c r q d e grid' grows =
    component_shared e grid' (fresh kind place) (twin kind place) (record {
      row = q;
      one = other kind;
      other = kind;
      of_first = record { inside = place_below kind place c r q d e grows (other kind); row = grows.wide.fresh (other kind) };
      of_second = record { inside = place_below kind place c r q d e grows kind; row = grows.wide.fresh kind };
    })

pub fresh_component : (kind : Kind) (place : Kind → ℕ) (c r q : ℕ) (d e : Diagram) → IsGrid e → Grows kind place c r q d e
    → component_number e (fresh kind place) ≡ component_number e (lifted (fresh kind place) c)
fresh_component kind place c r q d e grid' grows =
    block_joined kind place c r q d e grid' grows ∙ ap (component_number e) (sym (twin_column kind place c grows.beside))

-- the column to which a mark of an old column goes is of the component of the old column's new place
by_kind : (kind : Kind) (place : Kind → ℕ) (c r q : ℕ) (d e : Diagram) → IsGrid e → Grows kind place c r q d e → (k : Kind) (b : ℕ)
    → component_number e (lifted (place k) b) ≡ component_number e (lifted (fresh kind place) b)
by_kind kind place c r q d e grid' grows k b = elim (kinds kind k) [
  | inr far ↦ ap (λ (z : Kind). component_number e (lifted (place z) b)) far
  | inl own ↦ ap (λ (z : Kind). component_number e (lifted (place z) b)) own ∙ (elim (cases_eq b c) [
    | inl is ↦ ap (λ (a : ℕ). component_number e (lifted (twin kind place) a)) is
        ∙ (ap (component_number e) (fresh_column kind place c grows.beside)
        ∙ (fresh_component kind place c r q d e grid' grows ∙ sym (ap (λ (a : ℕ). component_number e (lifted (fresh kind place) a)) is)))
    | inr ne ↦ ap (component_number e) (far_column kind place c b grows.beside ne)
  ])
]

-- where a mark of e comes from
origin : (kind : Kind) (place : Kind → ℕ) (c r q : ℕ) (d e : Diagram) → Grows kind place c r q d e → (k : Kind) (a t : ℕ) → HasMark e k a t
    → (k' : Kind) × HasMark d k' (lowered c a) (lowered r t)
origin kind place c r q d e grows k a t mark = elim (column_from place q d e grows.wide k (place_below kind place c r q d e grows k) a mark.inside) [
  | inl new ↦
      let column : lowered c a ≡ c = ap (lowered c) new ∙ beside_low c (place k) (grows.beside.near k) in
      let row : lowered r t ≡ r = ap (lowered r) (sym mark.row ∙ (ap (row_of k e) new ∙ grows.wide.fresh k)) ∙ beside_low r q grows.near in
      (kind, record { inside = omega (arith, column, grows.marked.inside); row = ap (row_of kind d) column ∙ (grows.marked.row ∙ sym row) })
  | inr old ↦
      let column : lowered c a ≡ old.0 = ap (lowered c) (sym old.2) ∙ beside_back c (place k) old.0 (grows.beside.near k) in
      let row : lowered r t ≡ row_of k d old.0 =
      ap (lowered r) (sym mark.row ∙ (ap (row_of k e) (sym old.2) ∙ grows.wide.kept k old.0 old.1)) ∙ beside_back r q (row_of k d old.0) grows.near in
      (k, record { inside = omega (arith, column, old.1); row = ap (row_of k d) column ∙ sym row })
]

pub growth_corresponds : (kind : Kind) (place : Kind → ℕ) (c r q : ℕ) (d e : Diagram) → IsGrid d → IsGrid e → Grows kind place c r q d e
    → Corresponds d e (lifted (fresh kind place)) (lowered c)
growth_corresponds kind place c r q d e grid grid' grows = record {
  into = λ b lt.
      let p = place_below kind place c r q d e grows (other kind) in
      let in' = lifted-below (fresh kind place) b (size d) lt (omega (arith, p, grows.wide.larger)) in
      omega (arith, in', grows.wide.larger);
  from = λ b lt. lowered_inside b (omega (arith, lt, grows.wide.larger));
  keeps = λ s lt.
      sym (by_kind kind place c r q d e grid' grows Cross (column_of Cross d s))
      ∙ (component_shared e grid' (lifted (place Cross) (column_of Cross d s)) (lifted (place Ring) (column_of Ring d s)) (record {
        row = lifted q s;
        one = Cross;
        other = Ring;
        of_first = new_mark Cross s lt;
        of_second = new_mark Ring s lt;
      })
      ∙ by_kind kind place c r q d e grid' grows Ring (column_of Ring d s));
  returns = λ t lt.
      let one = origin kind place c r q d e grows Cross (column_of Cross e t) t (column_mark e grid' Cross t lt) in
      let two = origin kind place c r q d e grows Ring (column_of Ring e t) t (column_mark e grid' Ring t lt) in
      component_shared d grid (lowered c (column_of Cross e t)) (lowered c (column_of Ring e t))
      (record { row = lowered r t; one = one.0; other = two.0; of_first = one.1; of_second = two.1 });
  there = λ b lt. ap (component_number d) (beside_back c (fresh kind place) b (grows.beside.near (other kind)));
  again = λ b lt. elim (cases_eq b (fresh kind place)) [
    | inl is ↦
        ap (λ (a : ℕ). component_number e (lifted (fresh kind place) a)) (ap (lowered c) is ∙ beside_low c (fresh kind place) (grows.beside.near (other kind)))
        ∙ (sym (fresh_component kind place c r q d e grid' grows) ∙ sym (ap (component_number e) is))
    | inr ne ↦ ap (component_number e) (lifted_again b ne)
  ];
}
  where
    lowered_inside : (b : ℕ) → b < size d + 1 → lowered c b < size d
    lowered_inside b lt = let in' = grows.marked.inside in grind (arith, nat_tests)

    new_mark : (k : Kind) (s : ℕ) → s < size d → HasMark e k (lifted (place k) (column_of k d s)) (lifted q s)
    new_mark k s lt =
        let old = column_mark d grid k s lt in
        let p = place_below kind place c r q d e grows k in
        let in' = lifted-below (place k) (column_of k d s) (size d) old.inside (omega (arith, p, grows.wide.larger)) in
        record { inside = omega (arith, in', grows.wide.larger); row = grows.wide.kept k (column_of k d s) old.inside ∙ ap (lifted q) old.row }

    again_at : (b p : ℕ) → (p ≡ c) ⊎ (p ≡ c + 1) → b ≢ p → lifted p (lowered c b) ≡ b
    again_at b p near ne = grind (arith, nat_tests)

    lifted_again : (b : ℕ) → b ≢ fresh kind place → lifted (fresh kind place) (lowered c b) ≡ b
    lifted_again b ne = again_at b (fresh kind place) (grows.beside.near (other kind)) ne
