-- The passages of a component are the crossings that one meets as one follows its strand from cell to cell.
use Rattle.std.proofs.Common.{◌≡◌, ◌≢◌, ◌<◌, ◌≤◌, ◌+◌, ◌-◌, ◌++◌, ◌∷◌, ◌∙◌, ◌&&◌, ◌⊎◌, [], inl, inr, ℕ, zero, suc, Bool, true, false, cond}
use Rattle.std.proofs.Common.{List, length, map, reverse, get_or, refl, sym, ap, ap₂, subst, arith, append-nil}
use Rattle.std.specs.Prelude.{nat_lt, if◌then◌else◌}
use Rattle.std.specs.List.{range_with_len, filter, flat_map}
use Rattle.std.proofs.lemmas.Bool.{cases_lt, eq-eqb, ne_eqb, lt-ltb, le-ltb, and_from, and_right}
use Rattle.std.proofs.lemmas.List.{reverse-append, nil_from_length}
use Rattle.std.proofs.lemmas.List.Elements.{filter-append}
use Rattle.colour_rows.proofs.Ranges.{range_longer}
use Rattle.grid_core.specs.declared.mark.Kind.TheVariants.{Cross, Ring}
use Rattle.grid_core.specs.declared.span.Span.{Span}
use Rattle.grid_core.specs.Diagram.{Diagram, IsGrid, size, row_of}
use Rattle.grid_core.specs.Span.{span, lies_within}
use Rattle.grid_core.specs.Parts.{column_of, column_span, covers, ends}
use Rattle.grid_core.specs.Crossing.{crosses}
use Rattle.grid_core.proofs.Marks.{row_below, column_mark, column_is, mark_at, no_cell_twice}
use Rattle.grid_core.proofs.Ends.{span_low, span_high}
use Rattle.crossing_codes.specs.declared.passages.Passage.{Passage}
use Rattle.crossing_codes.specs.Components.{next_column, column_after, round_length}
use Rattle.crossing_codes.specs.Passages.{as_met, along_column, along_row, along, passages_from}
use Rattle.crossing_codes.specs.StrandPlaces.{on_column, on_row, toward, next_place, place_after, met_after, at_cross}
use Rattle.crossing_codes.proofs.ColumnsAfter.{after_below, round_is}
use Rattle.crossing_codes.proofs.Crossings.{between}

-- from one place to another one meets these crossings
pub record Way (d : Diagram) (p : Passage) (ps : List Passage) (q : Passage) : Type 0 where
  pub steps : ℕ
  pub comes : place_after d steps p ≡ q
  pub meets : met_after d steps p ≡ ps

place_add : (d : Diagram) (j k : ℕ) (p : Passage) → place_after d (j + k) p ≡ place_after d k (place_after d j p)
place_add d zero k p =
    let e : zero + k ≡ k = omega arith in
    ap (λ (i : ℕ). place_after d i p) e
place_add d (suc j) k p =
    let e : suc j + k ≡ suc (j + k) = omega arith in
    ap (λ (i : ℕ). place_after d i p) e ∙ place_add d j k (next_place d p)

met_step : (d : Diagram) (q : Passage) (b : Bool) (k : ℕ) (ps qs : List Passage) → met_after d k q ≡ ps ++ qs
    → cond b (q ∷ met_after d k q) (met_after d k q) ≡ cond b (q ∷ ps) ps ++ qs
met_step d q true k ps qs e = ap (λ (zs : List Passage). q ∷ zs) e
met_step d q false k ps qs e = e

met_add : (d : Diagram) (j k : ℕ) (p : Passage) → met_after d (j + k) p ≡ met_after d j p ++ met_after d k (place_after d j p)
met_add d zero k p =
    let e : zero + k ≡ k = omega arith in
    ap (λ (i : ℕ). met_after d i p) e
met_add d (suc j) k p =
    let e : suc j + k ≡ suc (j + k) = omega arith in
    let q = next_place d p in
    ap (λ (i : ℕ). met_after d i p) e
    ∙ met_step d q (crosses d q.column q.row) (j + k) (met_after d j q) (met_after d k (place_after d j q)) (met_add d j k q)

pub way_then : (d : Diagram) (p q r : Passage) (ps qs : List Passage) → Way d p ps q → Way d q qs r → Way d p (ps ++ qs) r
way_then d p q r ps qs one two = record {
  steps = one.steps + two.steps;
  comes = place_add d one.steps two.steps p ∙ (ap (place_after d two.steps) one.comes ∙ two.comes);
  meets =
      met_add d one.steps two.steps p
      ∙ ap₂ (λ (xs ys : List Passage). xs ++ ys) one.meets (ap (met_after d two.steps) one.comes ∙ two.meets);
}

-- a turn in a cell without a crossing
turns : (d : Diagram) (p q : Passage) → next_place d p ≡ q → crosses d q.column q.row ≡ false → Way d p [] q
turns d p q is none = record {
  steps = 1;
  comes = is;
  meets =
      ap (λ (z : Passage). if crosses d z.column z.row then z ∷ [] else []) is
      ∙ ap (λ (b : Bool). cond {A = List Passage} b (q ∷ []) []) none;
}

-- a straight piece of the strand: the places f, of which the last is at b
record Straight (d : Diagram) (f : ℕ → Passage) (b : ℕ) (test : ℕ → Bool) : Type 0 where
  pub next : (k : ℕ) → k ≢ b → next_place d (f k) ≡ f (toward k b)
  pub is : (k : ℕ) → crosses d (f k).column (f k).row ≡ test k

abbrev keep : (ℕ → Bool) → ℕ → ℕ → List ℕ
keep test a n = filter test (range_with_len a n)

kept_first : (f : ℕ → Passage) (k : ℕ) (b : Bool) (ks : List ℕ) → cond b (f k ∷ map f ks) (map f ks) ≡ map f (cond b (k ∷ ks) ks)
kept_first f k true ks = refl
kept_first f k false ks = refl

-- what is met on the way through one place more
one_more : (d : Diagram) (f : ℕ → Passage) (b : ℕ) (test : ℕ → Bool) → Straight d f b test → (r k n : ℕ) (ks : List ℕ)
    → r ≢ b → toward r b ≡ k → met_after d n (f k) ≡ map f ks → met_after d (suc n) (f r) ≡ map f (cond (test k) (k ∷ ks) ks)
one_more d f b test straight r k n ks away to meets =
    let next : next_place d (f r) ≡ f k = straight.next r away ∙ ap f to in
    ap (λ (q : Passage). if crosses d q.column q.row then q ∷ met_after d n q else met_after d n q) next
    ∙ (ap₂ (λ (t : Bool) (zs : List Passage). cond t (f k ∷ zs) zs) (straight.is k) meets
    ∙ kept_first f k (test k) ks)

one_nearer : (d : Diagram) (f : ℕ → Passage) (b : ℕ) (test : ℕ → Bool) → Straight d f b test → (r k n : ℕ)
    → r ≢ b → toward r b ≡ k → place_after d n (f k) ≡ f b → place_after d (suc n) (f r) ≡ f b
one_nearer d f b test straight r k n away to comes = ap (place_after d n) (straight.next r away ∙ ap f to) ∙ comes

toward_up : (a b : ℕ) → a < b → toward a b ≡ a + 1
toward_up a b lt = ap (λ (t : Bool). cond t (a + 1) (a - 1)) (lt-ltb a b lt)

toward_down : (a b : ℕ) → b ≤ a → toward a b ≡ a - 1
toward_down a b le = ap (λ (t : Bool). cond t (a + 1) (a - 1)) (le-ltb a b le)

up_way : (d : Diagram) (f : ℕ → Passage) (b : ℕ) (test : ℕ → Bool) → Straight d f b test → (n r : ℕ) → r + n ≡ b
    → (place_after d n (f r) ≡ f b) × (met_after d n (f r) ≡ map f (keep test (r + 1) n))
up_way d f b test straight zero r e = (ap f (let same : r ≡ b = omega arith in same), refl)
up_way d f b test straight (suc n) r e =
    let rest = up_way d f b test straight n (r + 1) (omega arith) in
    let to = toward_up r b (omega arith) in (
      one_nearer d f b test straight r (r + 1) n (λ same. omega arith) to rest.0,
      one_more d f b test straight r (r + 1) n (keep test (r + 1 + 1) n) (λ same. omega arith) to rest.1,
    )

reverse_more : (test : ℕ → Bool) (b n k : ℕ) → k ≡ b + n → (t : Bool) → test k ≡ t
    → cond (test k) (k ∷ reverse (keep test b n)) (reverse (keep test b n)) ≡ reverse (keep test b (suc n))
reverse_more test b n k is t t_is =
    let ks = keep test b n in
    let longer : keep test b (suc n) ≡ ks ++ cond (test k) (k ∷ []) [] =
    ap (filter test) (ap (range_with_len b) (let e : suc n ≡ n + 1 = omega arith in e)
    ∙ (range_longer b n ∙ ap (λ (z : ℕ). range_with_len b n ++ z ∷ []) (sym is)))
    ∙ filter-append test (range_with_len b n) (k ∷ []) in
    by (test k) ks ∙ sym (ap reverse longer)
  where
    by : (t : Bool) (ks : List ℕ) → cond t (k ∷ reverse ks) (reverse ks) ≡ reverse (ks ++ cond t (k ∷ []) [])
    by true ks = sym (reverse-append ks (k ∷ []))
    by false ks = ap reverse (sym (append-nil ks))

down_way : (d : Diagram) (f : ℕ → Passage) (b : ℕ) (test : ℕ → Bool) → Straight d f b test → (n r : ℕ) → r ≡ b + n
    → (place_after d n (f r) ≡ f b) × (met_after d n (f r) ≡ map f (reverse (keep test b n)))
down_way d f b test straight zero r e = (ap f (let same : r ≡ b = omega arith in same), refl)
down_way d f b test straight (suc n) r e =
    let rest = down_way d f b test straight n (b + n) refl in
    let to : toward r b ≡ b + n = toward_down r b (omega arith) ∙ omega arith in (
      one_nearer d f b test straight r (b + n) n (λ same. omega arith) to rest.0,
      one_more d f b test straight r (b + n) n (reverse (keep test b n)) (λ same. omega arith) to rest.1
          ∙ ap (map f) (reverse_more test b n (b + n) refl (test (b + n)) refl),
    )

-- of two tests that agree at the numbers of a range the same are kept
keep_same : (p q : ℕ → Bool) (a n : ℕ) → ((k : ℕ) → a ≤ k → k < a + n → p k ≡ q k) → keep p a n ≡ keep q a n
keep_same p q a zero each = refl
keep_same p q a (suc n) each =
    ap₂ (λ (b : Bool) (ks : List ℕ). cond b (a ∷ ks) ks) (each a (omega arith) (omega arith))
    (keep_same p q (a + 1) n (λ k from to. each k (omega arith) (omega arith)))

-- without the end, which is no crossing
keep_but_last : (p : ℕ → Bool) (a n b : ℕ) → a + n ≡ b → p b ≡ false → keep p a (n + 1) ≡ keep p a n
keep_but_last p a n b is none =
    ap (filter p) (range_longer a n ∙ ap (λ (z : ℕ). range_with_len a n ++ z ∷ []) is)
    ∙ (filter-append p (range_with_len a n) (b ∷ [])
    ∙ (ap (λ (t : Bool). keep p a n ++ cond {A = List ℕ} t (b ∷ []) []) none ∙ append-nil (keep p a n)))

keep_but_first : (p : ℕ → Bool) (b n : ℕ) → p b ≡ false → keep p b (suc n) ≡ keep p (b + 1) n
keep_but_first p b n none = ap (λ (t : Bool). cond t (b ∷ keep p (b + 1) n) (keep p (b + 1) n)) none

-- the whole piece, from a to b
straight_way : (d : Diagram) (f : ℕ → Passage) (a b : ℕ) (test inner : ℕ → Bool) → Straight d f b test → a ≢ b → test b ≡ false
    → ((k : ℕ) → (span a b).low < k → k < (span a b).high → test k ≡ inner k)
    → Way d (f a) (map f (as_met (nat_lt a b) (between inner (span a b)))) (f b)
straight_way d f a b test inner straight away none each = elim (cases_lt a b) [
  | inl up ↦
      let n = b - a in
      let s : span a b ≡ record { low = a; high = b } =
      ap (λ (t : Bool). cond {A = Span} t (record { low = a; high = b }) (record { low = b; high = a })) (lt-ltb a b up) in
      let way = up_way d f b test straight n a (omega arith) in
      let kept : keep test (a + 1) n ≡ between inner (span a b) =
      ap (keep test (a + 1)) (let e : n ≡ b - a - 1 + 1 = omega arith in e)
      ∙ (keep_but_last test (a + 1) (b - a - 1) b (omega arith) none
      ∙ (keep_same test inner (a + 1) (b - a - 1)
      (λ k from to. each k (let l = ap (λ (z : Span). z.low) s in omega arith) (let h = ap (λ (z : Span). z.high) s in omega arith))
      ∙ sym (ap (between inner) s))) in
      record {
        steps = n;
        comes = way.0;
        meets = way.1 ∙ ap (map f) (kept ∙ sym (ap (λ (t : Bool). as_met t (between inner (span a b))) (lt-ltb a b up)));
      }
  | inr least ↦
      let n = a - b in
      let s : span a b ≡ record { low = b; high = a } =
      ap (λ (t : Bool). cond {A = Span} t (record { low = a; high = b }) (record { low = b; high = a })) (le-ltb a b least) in
      let way = down_way d f b test straight n a (omega arith) in
      let some : b < a = omega (arith, away) in
      let kept : keep test b n ≡ between inner (span a b) =
      ap (keep test b) (let e : n ≡ suc (a - b - 1) = omega arith in e)
      ∙ (keep_but_first test b (a - b - 1) none
      ∙ (keep_same test inner (b + 1) (a - b - 1)
      (λ k from to. each k (let l = ap (λ (z : Span). z.low) s in omega arith) (let h = ap (λ (z : Span). z.high) s in omega arith))
      ∙ sym (ap (between inner) s))) in
      record {
        steps = n;
        comes = way.0;
        meets = way.1 ∙ ap (map f) (ap reverse kept ∙ sym (ap (λ (t : Bool). as_met t (between inner (span a b))) (le-ltb a b least)));
      }
]

-- no crossing stands at a mark
at_end : (s : Span) (k : ℕ) → (k ≤ s.low) ⊎ (s.high ≤ k) → lies_within s k ≡ false
at_end s k (inl low) = ap (λ (b : Bool). b && nat_lt k s.high) (le-ltb s.low k low)
at_end s k (inr high) = and_right (nat_lt s.low k) (nat_lt k s.high) (le-ltb k s.high high)

within : (s : Span) (k : ℕ) → s.low < k → k < s.high → lies_within s k ≡ true
within s k from to = and_from (nat_lt s.low k) (nat_lt k s.high) (lt-ltb s.low k from) (lt-ltb k s.high to)

span_end : (a b k : ℕ) → (k ≡ a) ⊎ (k ≡ b) → lies_within (span a b) k ≡ false
span_end a b k which =
    let low = span_low a b in
    let high = span_high a b in
    elim (cases_lt a b) [
      | inl lt ↦ elim which [ inl e ↦ at_end (span a b) k (inl (omega arith)) | inr e ↦ at_end (span a b) k (inr (omega arith)) ]
      | inr le ↦ elim which [ inl e ↦ at_end (span a b) k (inr (omega arith)) | inr e ↦ at_end (span a b) k (inl (omega arith)) ]
    ]

no_crossing_at_end : (d : Diagram) (c r : ℕ) → (r ≡ row_of Cross d c) ⊎ (r ≡ row_of Ring d c) → crosses d c r ≡ false
no_crossing_at_end d c r which = ap (λ (b : Bool). b && lies_within (ends d r) c) (span_end (row_of Cross d c) (row_of Ring d c) r which)

-- along a column
column_straight : (d : Diagram) (c : ℕ) → Straight d (on_column c) (row_of Ring d c) (crosses d c)
column_straight d c = record {
  next = λ k away. ap (λ (b : Bool). cond b (on_row c k) (on_column c (toward k (row_of Ring d c)))) (ne_eqb k (row_of Ring d c) away);
  is = λ k. refl;
}

column_way : (d : Diagram) → IsGrid d → (c : ℕ) → c < size d → Way d (at_cross d c) (along_column d c) (on_column c (row_of Ring d c))
column_way d grid c lt =
    straight_way d (on_column c) (row_of Cross d c) (row_of Ring d c) (crosses d c) (λ r. lies_within (ends d r) c) (column_straight d c)
    (no_cell_twice d grid c lt) (no_crossing_at_end d c (row_of Ring d c) (inr refl))
    (λ k from to. ap (λ (b : Bool). b && lies_within (ends d k) c) (within (column_span d c) k from to))

-- and along a row
row_straight : (d : Diagram) (r : ℕ) → Straight d (λ c. on_row c r) (column_of Cross d r) (λ c. crosses d c r)
row_straight d r = record {
  next = λ k away. ap (λ (b : Bool). cond b (on_column k r) (on_row (toward k (column_of Cross d r)) r)) (ne_eqb k (column_of Cross d r) away);
  is = λ k. refl;
}

span_swapped : (a b : ℕ) → a ≢ b → span a b ≡ span b a
span_swapped a b away = elim (cases_lt a b) [
  | inl lt ↦
      ap (λ (t : Bool). cond {A = Span} t (record { low = a; high = b }) (record { low = b; high = a })) (lt-ltb a b lt)
      ∙ sym (ap (λ (t : Bool). cond {A = Span} t (record { low = b; high = a }) (record { low = a; high = b })) (le-ltb b a (omega arith)))
  | inr le ↦
      ap (λ (t : Bool). cond {A = Span} t (record { low = a; high = b }) (record { low = b; high = a })) (le-ltb a b le)
      ∙ sym (ap (λ (t : Bool). cond {A = Span} t (record { low = b; high = a }) (record { low = a; high = b })) (lt-ltb b a (omega (arith, away))))
]

and_true : (b : Bool) → (b && true) ≡ b
and_true true = refl
and_true false = refl

row_way : (d : Diagram) → IsGrid d → (r : ℕ) → r < size d → Way d (on_row (column_of Ring d r) r) (along_row d r) (on_row (column_of Cross d r) r)
row_way d grid r lt =
    let o = column_of Ring d r in
    let x = column_of Cross d r in
    let ring = column_mark d grid Ring r lt in
    let cross = column_mark d grid Cross r lt in
    let away : o ≢ x = λ e. no_cell_twice d grid x cross.inside (cross.row ∙ (sym ring.row ∙ ap (row_of Ring d) e)) in
    let swapped : span o x ≡ ends d r = span_swapped o x away in
    let way = straight_way d (λ c. on_row c r) o x (λ c. crosses d c r) (λ c. covers d c r) (row_straight d r) away
    (no_crossing_at_end d x r (inl (sym cross.row)))
    (λ k from to.
    let inside : lies_within (ends d r) k ≡ true = ap (λ (s : Span). lies_within s k) (sym swapped) ∙ within (span o x) k from to in
    ap (λ (b : Bool). covers d k r && b) inside ∙ and_true (covers d k r)) in
    subst (λ (s : Span). Way d (on_row o r) (map (λ c. on_row c r) (as_met (nat_lt o x) (between (λ c. covers d c r) s))) (on_row x r)) swapped way

-- along a column and the row of its O, into the next column
along_way : (d : Diagram) → IsGrid d → (c : ℕ) → c < size d → Way d (at_cross d c) (along d c) (at_cross d (next_column d c))
along_way d grid c lt =
    let r = row_of Ring d c in
    let below = row_below d grid Ring c lt in
    let next = next_column d c in
    let cross = column_mark d grid Cross r below in
    let ring : column_of Ring d r ≡ c = column_is d grid Ring c r (mark_at d Ring c lt) in
    let into_row = turns d (on_column c r) (on_row c r)
    (ap (λ (b : Bool). cond b (on_row c r) (on_column c (toward r r))) (eq-eqb r r refl)) (no_crossing_at_end d c r (inr refl)) in
    let into_column = turns d (on_row next r) (on_column next r)
    (ap (λ (b : Bool). cond b (on_column next r) (on_row (toward next next) r)) (eq-eqb next next refl)) (no_crossing_at_end d next r (inl (sym cross.row))) in
    let row = subst (λ (z : ℕ). Way d (on_row z r) (along_row d r) (on_row next r)) ring (row_way d grid r below) in
    subst (λ (z : ℕ). Way d (at_cross d c) (along d c) (on_column next z)) (sym cross.row)
    (way_then d (at_cross d c) (on_column c r) (on_column next r) (along_column d c) (along_row d r) (column_way d grid c lt)
    (way_then d (on_column c r) (on_row c r) (on_column next r) [] (along_row d r) into_row
    (subst (λ (ps : List Passage). Way d (on_row c r) ps (on_column next r)) (append-nil (along_row d r))
    (way_then d (on_row c r) (on_row next r) (on_column next r) (along_row d r) [] row into_column))))

-- through n columns of a strand, from the j-th on
columns_way : (d : Diagram) → IsGrid d → (s : ℕ) → s < size d → (n j m : ℕ) → j + n ≡ m
    → Way d (at_cross d (column_after d j s)) (flat_map (along d) (map (λ k. column_after d k s) (range_with_len j n))) (at_cross d (column_after d m s))
columns_way d grid s lt zero j m e =
    record { steps = 0; comes = ap (λ (k : ℕ). at_cross d (column_after d k s)) (let same : j ≡ m = omega arith in same); meets = refl }
columns_way d grid s lt (suc n) j m e =
    let c = column_after d j s in
    way_then d (at_cross d c) (at_cross d (column_after d (j + 1) s)) (at_cross d (column_after d m s)) (along d c)
    (flat_map (along d) (map (λ k. column_after d k s) (range_with_len (j + 1) n)))
    (subst (λ (k : ℕ). Way d (at_cross d c) (along d c) (at_cross d (column_after d k s))) (let one : suc j ≡ j + 1 = omega arith in one)
    (along_way d grid c (after_below d grid j s lt)))
    (columns_way d grid s lt n (j + 1) m (omega arith))

-- once round
pub round_way : (d : Diagram) → IsGrid d → (s : ℕ) → s < size d → Way d (at_cross d s) (passages_from d s) (at_cross d s)
round_way d grid s lt =
    let n = round_length d s in
    subst (λ (c : ℕ). Way d (at_cross d s) (passages_from d s) (at_cross d c)) (round_is d grid s lt).back
    (columns_way d grid s lt n 0 n (omega arith))

-- from one place to another without a crossing between
pub record Leads (d : Diagram) (p q : Passage) : Type 0 where
  pub between : ℕ
  pub comes : place_after d (between + 1) p ≡ q
  pub clear : met_after d between p ≡ []

-- a way with crossings leads to the first of them, and on
record First (d : Diagram) (n : ℕ) (p q : Passage) (rest : List Passage) : Type 0 where
  pub leads : Leads d p q
  pub behind : ℕ
  pub meets : met_after d behind q ≡ rest
  pub comes : place_after d behind q ≡ place_after d n p

first_met : (d : Diagram) (n : ℕ) (p q : Passage) (rest : List Passage) → met_after d n p ≡ q ∷ rest → First d n p q rest
first_met d zero p q rest e = absurd (let no : ◌≡◌ {A = List Passage} [] (q ∷ rest) = e in cc)
first_met d (suc n) p q rest e = by (crosses d (next_place d p).column (next_place d p).row) refl (λ later. first_met d n (next_place d p) q rest later)
  where
    by : (b : Bool) → crosses d (next_place d p).column (next_place d p).row ≡ b
        → (met_after d n (next_place d p) ≡ q ∷ rest → First d n (next_place d p) q rest) → First d (suc n) p q rest
    by true is later =
        let z = next_place d p in
        let both : ◌≡◌ {A = List Passage} (z ∷ met_after d n z) (q ∷ rest) =
        sym (ap (λ (b : Bool). cond b (z ∷ met_after d n z) (met_after d n z)) is) ∙ e in
        let here : z ≡ q = cc in
        let more : met_after d n z ≡ rest = cc in
        record {
          leads = record { between = 0; comes = here; clear = refl };
          behind = n;
          meets = ap (met_after d n) (sym here) ∙ more;
          comes = ap (place_after d n) (sym here);
        }
    by false is later =
        let z = next_place d p in
        let none = λ (k : ℕ). ap (λ (b : Bool). cond b (z ∷ met_after d k z) (met_after d k z)) is in
        let rest_of = later (sym (none n) ∙ e) in
        let k = rest_of.leads.between in
        record {
          leads = record {
            between = k + 1;
            comes = ap (λ (i : ℕ). place_after d i p) (let s : k + 1 + 1 ≡ suc (k + 1) = omega arith in s) ∙ rest_of.leads.comes;
            clear = ap (λ (i : ℕ). met_after d i p) (let s : k + 1 ≡ suc k = omega arith in s) ∙ (none k ∙ rest_of.leads.clear);
          };
          behind = rest_of.behind;
          meets = rest_of.meets;
          comes = rest_of.comes;
        }

way_leads : (d : Diagram) (p q e : Passage) (rest : List Passage) → Way d p (q ∷ rest) e → Leads d p q × Way d q rest e
way_leads d p q e rest way =
    let first = first_met d way.steps p q rest way.meets in
    (first.leads, record { steps = first.behind; comes = first.comes ∙ way.comes; meets = first.meets })

-- each passage leads to the one that follows it on the way
pub each_leads : (d : Diagram) (p e : Passage) (ps : List Passage) → Way d p ps e → (i : ℕ) (z : Passage) → suc i < length ps
    → Leads d (get_or ps i z) (get_or ps (suc i) z)
each_leads d p e [] way i z lt = absurd (omega arith)
each_leads d p e (q ∷ []) way i z lt = absurd (omega arith)
each_leads d p e (q ∷ r ∷ ps) way zero z lt = (way_leads d q r e ps (way_leads d p q e (r ∷ ps) way).1).0
each_leads d p e (q ∷ r ∷ ps) way (suc i) z lt = each_leads d q e (r ∷ ps) (way_leads d p q e (r ∷ ps) way).1 i z (omega arith)

-- and the last one to the end
last_way : (d : Diagram) (p e : Passage) (ps : List Passage) → Way d p ps e → (i : ℕ) (z : Passage) → i + 1 ≡ length ps → Way d (get_or ps i z) [] e
last_way d p e [] way i z is = absurd (omega arith)
last_way d p e (q ∷ ps) way zero z is =
    subst (λ (zs : List Passage). Way d q zs e) (nil_from_length ps (omega arith)) (way_leads d p q e ps way).1
last_way d p e (q ∷ ps) way (suc i) z is = last_way d q e ps (way_leads d p q e ps way).1 i z (omega arith)

clear_then : (d : Diagram) (p q r : Passage) → Way d p [] q → Leads d q r → Leads d p r
clear_then d p q r way leads =
    let k = leads.between in
    record {
      between = way.steps + k;
      comes =
          ap (λ (i : ℕ). place_after d i p) (let s : way.steps + k + 1 ≡ way.steps + (k + 1) = omega arith in s)
          ∙ (place_add d way.steps (k + 1) p ∙ (ap (place_after d (k + 1)) way.comes ∙ leads.comes));
      clear = met_add d way.steps k p ∙ ap₂ (λ (xs ys : List Passage). xs ++ ys) way.meets (ap (met_after d k) way.comes ∙ leads.clear);
    }

pub first_leads : (d : Diagram) (p e : Passage) (ps : List Passage) → Way d p ps e → (z : Passage) → 0 < length ps → Leads d p (get_or ps 0 z)
first_leads d p e [] way z some = absurd (omega arith)
first_leads d p e (q ∷ ps) way z some = (way_leads d p q e ps way).0

pub round_leads : (d : Diagram) → IsGrid d → (s i : ℕ) (z : Passage) → s < size d → i < length (passages_from d s)
    → Leads d (get_or (passages_from d s) i z) (get_or (passages_from d s) (if nat_lt (i + 1) (length (passages_from d s)) then i + 1 else 0) z)
round_leads d grid s i z inside lt =
    let ps = passages_from d s in
    let n = length ps in
    let way = round_way d grid s inside in
    let start = at_cross d s in
    elim (cases_lt (i + 1) n) [
      | inl more ↦
          subst (λ (k : ℕ). Leads d (get_or ps i z) (get_or ps k z)) (sym (ap (λ (t : Bool). cond t (i + 1) 0) (lt-ltb (i + 1) n more)))
          (subst (λ (k : ℕ). Leads d (get_or ps i z) (get_or ps k z)) (let e : suc i ≡ i + 1 = omega arith in e)
          (each_leads d start start ps way i z (omega arith)))
      | inr last ↦
          subst (λ (k : ℕ). Leads d (get_or ps i z) (get_or ps k z)) (sym (ap (λ (t : Bool). cond t (i + 1) 0) (le-ltb (i + 1) n last)))
          (clear_then d (get_or ps i z) start (get_or ps 0 z) (last_way d start start ps way i z (omega arith))
          (first_leads d start start ps way z (omega arith)))
    ]
