-- The numbers of components: each is the least column that chains join to a column.
use Rattle.std.proofs.Common.{◌≡◌, ◌≢◌, ◌<◌, ◌≤◌, ◌+◌, ◌++◌, ◌∷◌, ◌∙◌, ◌⊎◌, ◌==◌, [], ℕ, zero, suc, List, length, arith, sym, subst, refl, ap, inl, inr, cond}
use Rattle.std.specs.Prelude.{Bool, slice_index}
use Rattle.std.specs.List.{range_with_len}
use Rattle.std.proofs.lemmas.Bool.{cases_eq, eq-eqb, ne_eqb}
use Rattle.std.proofs.lemmas.List.{length-map, get_or-map}
use Rattle.std.proofs.lemmas.List.FromFn.{length-range_with_len, get_or-range_with_len}
use Rattle.grid_core.specs.declared.mark.Kind.{Kind}
use Rattle.grid_core.specs.declared.mark.Kind.TheVariants.{Cross, Ring}
use Rattle.grid_core.specs.Diagram.{Diagram, IsGrid, size}
use Rattle.grid_core.specs.Span.{span}
use Rattle.grid_core.specs.Parts.{column_of, ends}
use Rattle.grid_core.proofs.Marks.{column_mark, column_is, mark_below}
use Rattle.linking_core.specs.Component.{ShareARow, IsChain, OfOneComponent, united_at, component_numbers_below, component_number, row_component_number}
use Rattle.linking_core.proofs.Spans.{AreEnds, span_ends}

-- what becomes of a number when two components become one
abbrev unite : ℕ → ℕ → ℕ → ℕ
unite low high i = cond (i == high) low i

unite_high : (low high i : ℕ) → i ≡ high → unite low high i ≡ low
unite_high low high i is = ap (λ (t : Bool). cond t low i) (eq-eqb i high is)

unite_other : (low high i : ℕ) → i ≢ high → unite low high i ≡ i
unite_other low high i ne = ap (λ (t : Bool). cond t low i) (ne_eqb i high ne)

unite_le : (low high i : ℕ) → low ≤ high → unite low high i ≤ i
unite_le low high i le = elim (cases_eq i high) [
  | inl is ↦ let e = unite_high low high i is in omega (arith, e)
  | inr ne ↦ let e = unite_other low high i ne in omega (arith, e)
]

unite_low : (low high : ℕ) → unite low high low ≡ low
unite_low low high = elim (cases_eq low high) [
  | inl is ↦ unite_high low high low is
  | inr ne ↦ unite_other low high low ne
]

-- both numbers become the lesser
unite_both : (a b low high : ℕ) → AreEnds a b low high → (unite low high a ≡ low) × (unite low high b ≡ low)
unite_both a b low high are = elim are.either [
  | inl is ↦ (ap (unite low high) (sym is.0) ∙ unite_low low high, unite_high low high b (sym is.1))
  | inr is ↦ (unite_high low high a (sym is.1), ap (unite low high) (sym is.0) ∙ unite_low low high)
]

-- the columns of the two marks of a row
pub mark_columns : (d : Diagram) → IsGrid d → (r : ℕ) → r < size d → (column_of Cross d r < size d) × (column_of Ring d r < size d)
mark_columns d grid r lt = ((column_mark d grid Cross r lt).inside, (column_mark d grid Ring r lt).inside)

pub ends_inside : (d : Diagram) → IsGrid d → (r : ℕ) → r < size d → ((ends d r).low < size d) × ((ends d r).high < size d)
ends_inside d grid r lt =
    let inside = mark_columns d grid r lt in
    let are = span_ends (column_of Cross d r) (column_of Ring d r) in
    elim are.either [
      | inl is ↦ (omega (arith, inside.0, is.0), omega (arith, inside.1, is.1))
      | inr is ↦ (omega (arith, inside.1, is.0), omega (arith, inside.0, is.1))
    ]

-- a list of numbers of components, when the rows below h join columns
record IsNumbering (d : Diagram) (h : ℕ) (numbers : List ℕ) : Type 0 where
  long : length numbers ≡ size d
  least : (c : ℕ) → c < size d → slice_index numbers c ≤ c
  fixed : (c : ℕ) → c < size d → slice_index numbers (slice_index numbers c) ≡ slice_index numbers c
  rows : (r : ℕ) → r < h → slice_index numbers (column_of Cross d r) ≡ slice_index numbers (column_of Ring d r)

at_first : (d : Diagram) → IsNumbering d 0 (component_numbers_below d 0)
at_first d = record {
  long = length-range_with_len 0 (size d);
  least = λ c lt. omega (arith, get_or-range_with_len 0 (size d) c 0 lt);
  fixed = λ c lt. ap (slice_index (range_with_len 0 (size d))) (own c lt);
  rows = λ r lt. absurd (omega (arith, lt));
}
  where
    own : (c : ℕ) → c < size d → slice_index (range_with_len 0 (size d)) c ≡ c
    own c lt = get_or-range_with_len 0 (size d) c 0 lt ∙ (let e : 0 + c ≡ c = omega arith in e)

-- the row's ends, their numbers, and the numbers after the row
abbrev low_at : Diagram → ℕ → List ℕ → ℕ
low_at d r numbers = (span (slice_index numbers (ends d r).low) (slice_index numbers (ends d r).high)).low

abbrev high_at : Diagram → ℕ → List ℕ → ℕ
high_at d r numbers = (span (slice_index numbers (ends d r).low) (slice_index numbers (ends d r).high)).high

united_index : (d : Diagram) (r : ℕ) (numbers : List ℕ) (c : ℕ) → c < length numbers
    → slice_index (united_at d r numbers) c ≡ unite (low_at d r numbers) (high_at d r numbers) (slice_index numbers c)
united_index d r numbers c lt = get_or-map (λ i. unite (low_at d r numbers) (high_at d r numbers) i) numbers c 0 0 lt

numbers_ends : (d : Diagram) (r : ℕ) (numbers : List ℕ)
    → AreEnds (slice_index numbers (ends d r).low) (slice_index numbers (ends d r).high) (low_at d r numbers) (high_at d r numbers)
numbers_ends d r numbers = span_ends (slice_index numbers (ends d r).low) (slice_index numbers (ends d r).high)

-- the lesser number is the number of one of the row's ends
low_number : (d : Diagram) → IsGrid d → (r : ℕ) → r < size d → (numbers : List ℕ) → (c : ℕ) × (c < size d) × (low_at d r numbers ≡ slice_index numbers c)
low_number d grid r lt numbers =
    let inside = ends_inside d grid r lt in
    elim (numbers_ends d r numbers).either [
      | inl is ↦ ((ends d r).low, inside.0, is.0)
      | inr is ↦ ((ends d r).high, inside.1, is.0)
    ]

one_row_more : (d : Diagram) → IsGrid d → (h : ℕ) → h < size d → (numbers : List ℕ) → IsNumbering d h numbers → IsNumbering d (suc h) (united_at d h numbers)
one_row_more d grid h lt numbers old = record {
  long = length-map numbers (λ i. unite l m i) ∙ old.long;
  least = λ c within.
      let at = index c within in
      let smaller = unite_le l m (slice_index numbers c) (numbers_ends d h numbers).le in
      let before = old.least c within in
      omega (arith, at, smaller, before);
  fixed = λ c within. fixed_at c within (cases_eq (slice_index numbers c) m);
  rows = λ r below. elim (cases_eq r h) [
    | inl is ↦ subst (λ (s : ℕ). slice_index (united_at d h numbers) (column_of Cross d s) ≡ slice_index (united_at d h numbers) (column_of Ring d s))
        (sym is) own_row
    | inr ne ↦
        let inside = mark_columns d grid r (omega (arith, ne, below, lt)) in
        index (column_of Cross d r) inside.0 ∙ (ap (unite l m) (old.rows r (omega (arith, ne, below))) ∙ sym (index (column_of Ring d r) inside.1))
  ];
}
  where
    l : ℕ
    l = low_at d h numbers

    m : ℕ
    m = high_at d h numbers

    index : (c : ℕ) → c < size d → slice_index (united_at d h numbers) c ≡ unite l m (slice_index numbers c)
    index c within = united_index d h numbers c (omega (arith, within, old.long))

    low_fixed : slice_index numbers l ≡ l
    low_fixed =
        let from = low_number d grid h lt numbers in
        ap (slice_index numbers) from.2 ∙ (old.fixed from.0 from.1 ∙ sym from.2)

    low_inside : l < size d
    low_inside =
        let from = low_number d grid h lt numbers in
        let le = old.least from.0 from.1 in
        omega (arith, from.1, from.2, le)

    low_stays : slice_index (united_at d h numbers) l ≡ l
    low_stays = index l low_inside ∙ (ap (unite l m) low_fixed ∙ unite_low l m)

    fixed_at : (c : ℕ) → c < size d → (slice_index numbers c ≡ m) ⊎ (slice_index numbers c ≢ m)
        → slice_index (united_at d h numbers) (slice_index (united_at d h numbers) c) ≡ slice_index (united_at d h numbers) c
    fixed_at c within cases = elim cases [
      | inl is ↦
          let e : slice_index (united_at d h numbers) c ≡ l = index c within ∙ unite_high l m (slice_index numbers c) is in
          ap (slice_index (united_at d h numbers)) e ∙ (low_stays ∙ sym e)
      | inr ne ↦
          let e : slice_index (united_at d h numbers) c ≡ slice_index numbers c = index c within ∙ unite_other l m (slice_index numbers c) ne in
          let le = old.least c within in
          ap (slice_index (united_at d h numbers)) e ∙ (index (slice_index numbers c) (omega (arith, le, within))
          ∙ (ap (unite l m) (old.fixed c within) ∙ (unite_other l m (slice_index numbers c) ne ∙ sym e)))
    ]

    own_row : slice_index (united_at d h numbers) (column_of Cross d h) ≡ slice_index (united_at d h numbers) (column_of Ring d h)
    own_row =
        let inside = mark_columns d grid h lt in
        let both = unite_both (slice_index numbers (ends d h).low) (slice_index numbers (ends d h).high) l m (numbers_ends d h numbers) in
        index (column_of Cross d h) inside.0 ∙ (elim (span_ends (column_of Cross d h) (column_of Ring d h)).either [
          | inl is ↦ ap (λ (c : ℕ). unite l m (slice_index numbers c)) (sym is.0)
              ∙ (both.0 ∙ (sym both.1 ∙ ap (λ (c : ℕ). unite l m (slice_index numbers c)) is.1))
          | inr is ↦ ap (λ (c : ℕ). unite l m (slice_index numbers c)) (sym is.1)
              ∙ (both.1 ∙ (sym both.0 ∙ ap (λ (c : ℕ). unite l m (slice_index numbers c)) is.0))
        ] ∙ sym (index (column_of Ring d h) inside.1))

numbering : (d : Diagram) → IsGrid d → (h : ℕ) → h ≤ size d → IsNumbering d h (component_numbers_below d h)
numbering d grid zero le = at_first d
numbering d grid (suc h) le = one_row_more d grid h (omega arith) (component_numbers_below d h) (numbering d grid h (omega arith))

-- the number of a component is a column of it, its own number, and no greater than a column of it
pub component_le : (d : Diagram) → IsGrid d → (c : ℕ) → c < size d → component_number d c ≤ c
component_le d grid c lt = (numbering d grid (size d) (omega arith)).least c lt

pub component_fixed : (d : Diagram) → IsGrid d → (c : ℕ) → c < size d → component_number d (component_number d c) ≡ component_number d c
component_fixed d grid c lt = (numbering d grid (size d) (omega arith)).fixed c lt

pub component_below : (d : Diagram) → IsGrid d → (c : ℕ) → c < size d → component_number d c < size d
component_below d grid c lt = let le = component_le d grid c lt in omega (arith, le)

pub component_rows : (d : Diagram) → IsGrid d → (r : ℕ) → r < size d → component_number d (column_of Cross d r) ≡ component_number d (column_of Ring d r)
component_rows d grid r lt = (numbering d grid (size d) (omega arith)).rows r lt

-- the marks of a row, of whatever kinds, are of one component
of_kinds : (d : Diagram) → IsGrid d → (r : ℕ) → r < size d → (one other : Kind)
    → component_number d (column_of one d r) ≡ component_number d (column_of other d r)
of_kinds d grid r lt Cross Cross = refl
of_kinds d grid r lt Cross Ring = component_rows d grid r lt
of_kinds d grid r lt Ring Cross = sym (component_rows d grid r lt)
of_kinds d grid r lt Ring Ring = refl

pub component_shared : (d : Diagram) → IsGrid d → (b c : ℕ) → ShareARow d b c → component_number d b ≡ component_number d c
component_shared d grid b c share =
    ap (component_number d) (sym (column_is d grid share.one b share.row share.of_first))
    ∙ (of_kinds d grid share.row (mark_below d grid share.one b share.row share.of_first) share.one share.other
    ∙ ap (component_number d) (column_is d grid share.other c share.row share.of_second))

-- an equivalence of columns that joins the two ends of each row
pub record JoinsRows (d : Diagram) (R : ℕ → ℕ → Type 0) : Type 0 where
  pub same : (c : ℕ) → c < size d → R c c
  pub back : (b c : ℕ) → R b c → R c b
  pub after : (a b c : ℕ) → R a b → R b c → R a c
  pub rows : (r : ℕ) → r < size d → R (column_of Cross d r) (column_of Ring d r)

joined_ends : (d : Diagram) (R : ℕ → ℕ → Type 0) → JoinsRows d R → (r : ℕ) → r < size d → R (ends d r).low (ends d r).high
joined_ends d R joins r lt = elim (span_ends (column_of Cross d r) (column_of Ring d r)).either [
  | inl is ↦ subst (λ (a : ℕ). R a (ends d r).high) (sym is.0) (subst (R (column_of Cross d r)) (sym is.1) (joins.rows r lt))
  | inr is ↦ subst (λ (a : ℕ). R a (ends d r).high) (sym is.0)
      (subst (R (column_of Ring d r)) (sym is.1) (joins.back (column_of Cross d r) (column_of Ring d r) (joins.rows r lt)))
]

-- it joins the two numbers that become one at a row
joined_numbers : (d : Diagram) (R : ℕ → ℕ → Type 0) → IsGrid d → JoinsRows d R → (r : ℕ) → r < size d → (numbers : List ℕ)
    → ((c : ℕ) → c < size d → R (slice_index numbers c) c) → R (low_at d r numbers) (high_at d r numbers)
joined_numbers d R grid joins r lt numbers old =
    let inside = ends_inside d grid r lt in
    let low = slice_index numbers (ends d r).low in
    let high = slice_index numbers (ends d r).high in
    let forth : R low high = joins.after low (ends d r).low high (old (ends d r).low inside.0)
    (joins.after (ends d r).low (ends d r).high high (joined_ends d R joins r lt) (joins.back high (ends d r).high (old (ends d r).high inside.1))) in
    elim (numbers_ends d r numbers).either [
      | inl is ↦ subst (λ (a : ℕ). R a (high_at d r numbers)) (sym is.0) (subst (R low) (sym is.1) forth)
      | inr is ↦ subst (λ (a : ℕ). R a (high_at d r numbers)) (sym is.0) (subst (R high) (sym is.1) (joins.back low high forth))
    ]

related_below : (d : Diagram) (R : ℕ → ℕ → Type 0) → IsGrid d → JoinsRows d R → (h : ℕ) → h ≤ size d → (c : ℕ) → c < size d
    → R (slice_index (component_numbers_below d h) c) c
related_below d R grid joins zero le c lt =
    subst (λ (b : ℕ). R b c) (sym (get_or-range_with_len 0 (size d) c 0 lt ∙ (let e : 0 + c ≡ c = omega arith in e))) (joins.same c lt)
related_below d R grid joins (suc h) le c lt =
    let old = λ (b : ℕ) (within : b < size d). related_below d R grid joins h (omega arith) b within in
    let long = (numbering d grid h (omega arith)).long in
    let at = united_index d h (component_numbers_below d h) c (omega (arith, lt, long)) in
    elim (cases_eq (slice_index (component_numbers_below d h) c) (high_at d h (component_numbers_below d h))) [
      | inl is ↦ subst (λ (b : ℕ). R b c) (sym (at ∙ unite_high (low_at d h (component_numbers_below d h)) (high_at d h (component_numbers_below d h))
          (slice_index (component_numbers_below d h) c) is))
          (joins.after (low_at d h (component_numbers_below d h)) (high_at d h (component_numbers_below d h)) c
          (joined_numbers d R grid joins h (omega arith) (component_numbers_below d h) old) (subst (λ (b : ℕ). R b c) is (old c lt)))
      | inr ne ↦ subst (λ (b : ℕ). R b c) (sym (at ∙ unite_other (low_at d h (component_numbers_below d h)) (high_at d h (component_numbers_below d h))
          (slice_index (component_numbers_below d h) c) ne)) (old c lt)
    ]

-- every such equivalence joins a column to the number of its component
pub related : (d : Diagram) (R : ℕ → ℕ → Type 0) → IsGrid d → JoinsRows d R → (c : ℕ) → c < size d → R (component_number d c) c
related d R grid joins c lt = related_below d R grid joins (size d) (omega arith) c lt

-- what is the same at both ends of each row is the same along a component
pub same_along : (d : Diagram) → IsGrid d → (h : ℕ → ℕ) → ((r : ℕ) → r < size d → h (column_of Cross d r) ≡ h (column_of Ring d r)) → (b c : ℕ)
    → b < size d → c < size d → component_number d b ≡ component_number d c → h b ≡ h c
same_along d grid h rows b c in_b in_c same =
    let joins : JoinsRows d (λ a b. h a ≡ h b) = record { same = λ c lt. refl; back = λ b c e. sym e; after = λ a b c e f. e ∙ f; rows = rows } in
    sym (related d (λ a b. h a ≡ h b) grid joins b in_b) ∙ (ap h same ∙ related d (λ a b. h a ≡ h b) grid joins c in_c)

-- chains
chain_after : (d : Diagram) (a b c : ℕ) (one two : List ℕ) → IsChain d a one b → IsChain d b two c → IsChain d a (one ++ two) c
chain_after d a b c [] two here rest = subst (λ (z : ℕ). IsChain d z two c) (sym here.1) rest
chain_after d a b c (z ∷ one) two link rest = (link.0, chain_after d z b c one two link.1 rest)

joined_after : (d : Diagram) (a b c : ℕ) → OfOneComponent d a b → OfOneComponent d b c → OfOneComponent d a c
joined_after d a b c one two = (one.0 ++ two.0, chain_after d a b c one.0 two.0 one.1 two.1)

shared_back : (d : Diagram) (b c : ℕ) → ShareARow d b c → ShareARow d c b
shared_back d b c share = record { row = share.row; one = share.other; other = share.one; of_first = share.of_second; of_second = share.of_first }

joined_once : (d : Diagram) (b c : ℕ) → ShareARow d b c → OfOneComponent d b c
joined_once d b c share = (c ∷ [], (share, (share.of_second.inside, refl)))

joined_back : (d : Diagram) (b c : ℕ) (chain : List ℕ) → IsChain d b chain c → OfOneComponent d c b
joined_back d b c [] here = ([], (omega (arith, here.0, here.1), sym here.1))
joined_back d b c (a ∷ chain) link = joined_after d c a b (joined_back d a c chain link.1) (joined_once d a b (shared_back d b a link.0))

pub chains_join_rows : (d : Diagram) → IsGrid d → JoinsRows d (OfOneComponent d)
chains_join_rows d grid = record {
  same = λ c lt. ([], (lt, refl));
  back = λ b c joined. joined_back d b c joined.0 joined.1;
  after = joined_after d;
  rows = λ r lt. joined_once d (column_of Cross d r) (column_of Ring d r)
      (record { row = r; one = Cross; other = Ring; of_first = column_mark d grid Cross r lt; of_second = column_mark d grid Ring r lt });
}

chain_component : (d : Diagram) → IsGrid d → (b c : ℕ) (chain : List ℕ) → IsChain d b chain c → component_number d b ≡ component_number d c
chain_component d grid b c [] here = ap (component_number d) here.1
chain_component d grid b c (a ∷ chain) link = component_shared d grid b a link.0 ∙ chain_component d grid a c chain link.1

pub joined_component : (d : Diagram) → IsGrid d → (b c : ℕ) → OfOneComponent d b c → component_number d b ≡ component_number d c
joined_component d grid b c joined = chain_component d grid b c joined.0 joined.1

pub component_joined : (d : Diagram) → IsGrid d → (c : ℕ) → c < size d → OfOneComponent d (component_number d c) c
component_joined d grid c lt = related d (OfOneComponent d) grid (chains_join_rows d grid) c lt

pub same_component_joined : (d : Diagram) → IsGrid d → (b c : ℕ) → b < size d → c < size d → component_number d b ≡ component_number d c → OfOneComponent d b c
same_component_joined d grid b c in_b in_c same =
    let from_b = component_joined d grid b in_b in
    joined_after d b (component_number d b) c (joined_back d (component_number d b) b from_b.0 from_b.1)
    (subst (λ (z : ℕ). OfOneComponent d z c) (sym same) (component_joined d grid c in_c))

-- a chain begins in the diagram
chain_begins : (d : Diagram) (b c : ℕ) (chain : List ℕ) → IsChain d b chain c → b < size d
chain_begins d b c [] here = here.0
chain_begins d b c (a ∷ chain) link = link.0.of_first.inside

pub component_least : (d : Diagram) → IsGrid d → (b c : ℕ) → OfOneComponent d b c → component_number d c ≤ b
component_least d grid b c joined =
    let same = joined_component d grid b c joined in
    let le = component_le d grid b (chain_begins d b c joined.0 joined.1) in
    omega (arith, same, le)

-- a row is of the component of each of its ends
pub row_component_is : (d : Diagram) → IsGrid d → (r : ℕ) → r < size d
    → (row_component_number d r ≡ component_number d (column_of Cross d r)) × (row_component_number d r ≡ component_number d (column_of Ring d r))
row_component_is d grid r lt =
    let same = component_rows d grid r lt in
    elim (span_ends (column_of Cross d r) (column_of Ring d r)).either [
      | inl is ↦ (ap (component_number d) is.0, ap (component_number d) is.0 ∙ same)
      | inr is ↦ (ap (component_number d) is.0 ∙ sym same, ap (component_number d) is.0)
    ]

pub row_component_by_kind : (d : Diagram) → IsGrid d → (kind : Kind) (r : ℕ) → r < size d → row_component_number d r ≡ component_number d (column_of kind d r)
row_component_by_kind d grid Cross r lt = (row_component_is d grid r lt).0
row_component_by_kind d grid Ring r lt = (row_component_is d grid r lt).1

-- there is a number for each column, of any two lists
pub numbers_long : (d : Diagram) (h : ℕ) → length (component_numbers_below d h) ≡ size d
numbers_long d zero = length-range_with_len 0 (size d)
numbers_long d (suc h) = length-map (component_numbers_below d h)
    (λ i. unite (low_at d h (component_numbers_below d h)) (high_at d h (component_numbers_below d h)) i) ∙ numbers_long d h
