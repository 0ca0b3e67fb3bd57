-- The exchange of columns: from the step and the table to the lists of the laws.
use Rattle.std.proofs.Common.{◌≡◌, ◌≢◌, ◌∙◌, ◌<◌, ◌+◌, ℕ, zero, suc, List, [], ◌∷◌, length, ap, ap₂, sym, refl, subst, arith, inl, inr, cond, add-one}
use Rattle.std.specs.Prelude.{Bool, true, false, slice_index, nat_lt, ◌⊎◌, ◌==◌, ◌&&◌}
use Rattle.std.proofs.Math.Bool.{not}
use Rattle.std.proofs.lemmas.List.Elements.{All-get_or}
use Rattle.std.proofs.lemmas.Bool.{cases_eq, lt-ltb, le-ltb, and_from, and_left, and_right, eq-eqb, ne_eqb, cond-true, cond-false}
use Rattle.std.proofs.lemmas.Bool.Decides.{nat_tests}
use Rattle.grid_core.specs.declared.mark.Kind.{Kind}
use Rattle.grid_core.specs.declared.mark.Kind.TheVariants.{Cross, Ring}
use Rattle.grid_core.specs.Diagram.{Diagram, IsGrid, size, row_of}
use Rattle.grid_core.specs.Span.{span}
use Rattle.grid_core.specs.Parts.{is_up}
use Rattle.grid_core.proofs.Marks.{mark_at}
use Rattle.grid_core.proofs.Ends.{span_low, span_high}
use Rattle.grid_moves.specs.declared.step.Move.TheVariants.{ExchangeColumns}
use Rattle.grid_moves.specs.Renumbered.{Renumbered, unchanged}
use Rattle.grid_moves.specs.Exchange.{exchanged}
use Rattle.grid_moves.specs.Step.{Step}
use Rattle.quandle_core.specs.Quandle.{Table, IsQuandle}
use Rattle.colour_rows.specs.Walk.{passed_rightward, passed_leftward}
use Rattle.colour_rows.specs.Colouring.{IsColouring}
use Rattle.quandle_core.specs.Bijection.{IsBijection}
use Rattle.colour_laws.specs.Carried.{carried, colours_exchanged, is_nested_in, gone_left, gone_right}
use Rattle.colour_laws.proofs.ColumnLists.{Column}
use Rattle.colour_laws.proofs.ColouredColumns.{IsColouringByColumns, act, columns, ys_of, IsTradableAt, neighbours_traded, columns_traded, pair_traded}
use Rattle.colour_laws.proofs.ColouredColumns.{traded_colours}
use Rattle.colour_laws.proofs.Exchanges.{pair_outer, pair_inner, pair_disjoint}
use Rattle.colour_laws.proofs.Exchanges as lists
use Rattle.colour_laws.proofs.Marked.{ys_of_columns}
use Rattle.colour_laws.proofs.Tables.{act_inside}
use Rattle.colour_laws.proofs.ByIndex.{coloured_at, is_by_column}
use Rattle.colour_laws.proofs.ByPlaces.{column_at, traded_at, tradable_at}
use Rattle.colour_laws.proofs.ExchangeSteps.{AreFree, are_free}
use Rattle.colour_laws.proofs.Bijections.{bijection_from}

-- the colours after the exchange, place by place, where a and b are those of the pair
record IsTraded (c n : ℕ) (ys zs : List ℕ) (a b : ℕ) : Type 0 where
  left : slice_index zs c ≡ a
  right : slice_index zs (suc c) ≡ b
  others : (i : ℕ) → i < n → i ≢ c → i ≢ suc c → slice_index zs i ≡ slice_index ys i

traded_place : (p : Bool → ℕ → ℕ → ℕ) (c : ℕ) (xs os ys : List ℕ) → suc c < length xs → length os ≡ length xs → length ys ≡ length xs → (a b : ℕ)
    → ((rest : List Column) → ys_of (pair_traded p (coloured_at c xs os ys) (coloured_at (suc c) xs os ys) rest) ≡ a ∷ b ∷ ys_of rest)
    → IsTraded c (length xs) ys (ys_of (columns_traded p c (columns xs os ys))) a b
traded_place p c [] os ys lt e f a b pair = absurd (omega (arith, lt))
traded_place p c (x ∷ xs) [] ys lt e f a b pair = absurd (omega (arith, e))
traded_place p c (x ∷ xs) (o ∷ os) [] lt e f a b pair = absurd (omega (arith, f))
traded_place p zero (x ∷ []) (o ∷ os) (y ∷ ys) lt e f a b pair = absurd (omega (arith, lt))
traded_place p zero (x ∷ z ∷ xs) (o ∷ []) (y ∷ ys) lt e f a b pair = absurd (omega (arith, e))
traded_place p zero (x ∷ z ∷ xs) (o ∷ w ∷ os) (y ∷ []) lt e f a b pair = absurd (omega (arith, f))
traded_place p zero (x ∷ z ∷ xs) (o ∷ w ∷ os) (y ∷ v ∷ ys) lt e f a b pair =
    let is = pair (columns xs os ys) ∙ ap (λ l. a ∷ b ∷ l) (ys_of_columns xs os ys (omega (arith, e)) (omega (arith, f))) in
    record {
      left = ap (λ l. slice_index l 0) is;
      right = ap (λ l. slice_index l 1) is;
      others = λ i at n m. ap (λ l. slice_index l i) is ∙ beyond i n m;
    }
  where
    beyond : (i : ℕ) → i ≢ 0 → i ≢ 1 → slice_index (a ∷ b ∷ ys) i ≡ slice_index (y ∷ v ∷ ys) i
    beyond zero n m = absurd (n refl)
    beyond (suc zero) n m = absurd (m refl)
    beyond (suc (suc i)) n m = refl
traded_place p (suc c) (x ∷ xs) (o ∷ os) (y ∷ ys) lt e f a b pair =
    let more = traded_place p c xs os ys (omega (arith, lt)) (omega (arith, e)) (omega (arith, f)) a b pair in
    record { left = more.left; right = more.right; others = λ i at n m. rest more i at n m }
  where
    rest : IsTraded c (length xs) ys (ys_of (columns_traded p c (columns xs os ys))) a b → (i : ℕ) → i < length (x ∷ xs) → i ≢ suc c → i ≢ suc (suc c)
        → slice_index (y ∷ ys_of (columns_traded p c (columns xs os ys))) i ≡ slice_index (y ∷ ys) i
    rest more zero at n m = refl
    rest more (suc i) at n m = more.others i (omega (arith, at)) (λ h. n (ap suc h)) (λ h. m (ap suc h))

-- nested or not, by the table's test
inside : (a b c d : ℕ) → ((c < a) × (c < b) × (a < d) × (b < d)) ⊎ ((d < a) × (d < b) × (a < c) × (b < c))
    → (nat_lt (span c d).low (span a b).low && nat_lt (span a b).high (span c d).high) ≡ true
inside a b c d nested =
    let la = span_low a b in
    let ha = span_high a b in
    let lc = span_low c d in
    let hc = span_high c d in
    and_from (nat_lt (span c d).low (span a b).low) (nat_lt (span a b).high (span c d).high)
    (lt-ltb (span c d).low (span a b).low (elim nested [ inl h ↦ omega (arith, h) | inr h ↦ omega (arith, h) ]))
    (lt-ltb (span a b).high (span c d).high (elim nested [ inl h ↦ omega (arith, h) | inr h ↦ omega (arith, h) ]))

-- an outer column does not lie within the inner one
around : (a b c d : ℕ) → ((a < c) × (a < d) × (c < b) × (d < b)) ⊎ ((b < c) × (b < d) × (c < a) × (d < a))
    → (nat_lt (span c d).low (span a b).low && nat_lt (span a b).high (span c d).high) ≡ false
around a b c d nested =
    let la = span_low a b in
    let lc = span_low c d in
    and_left (nat_lt (span c d).low (span a b).low) (nat_lt (span a b).high (span c d).high)
    (le-ltb (span c d).low (span a b).low (elim nested [ inl h ↦ omega (arith, h) | inr h ↦ omega (arith, h) ]))

apart : (a b c d : ℕ) → ((a < c) × (a < d) × (b < c) × (b < d)) ⊎ ((c < a) × (c < b) × (d < a) × (d < b))
    → (nat_lt (span c d).low (span a b).low && nat_lt (span a b).high (span c d).high) ≡ false
apart a b c d disjoint =
    let la = span_low a b in
    let ha = span_high a b in
    let lc = span_low c d in
    let hc = span_high c d in
    elim disjoint [
      | inl h ↦ and_left (nat_lt (span c d).low (span a b).low) (nat_lt (span a b).high (span c d).high)
          (le-ltb (span c d).low (span a b).low (omega (arith, h)))
      | inr h ↦ and_right (nat_lt (span c d).low (span a b).low) (nat_lt (span a b).high (span c d).high)
          (le-ltb (span a b).high (span c d).high (omega (arith, h)))
    ]

-- on colours the actions are the table's operations
pub fro_same : (t : Table) (up : Bool) (a y : ℕ) → a < t.order → y < t.order → act t (not up) a y ≡ passed_leftward t up y a
fro_same t true a y la ly = act_inside t false a y la ly
fro_same t false a y la ly = act_inside t true a y la ly

forth_same : (t : Table) (up : Bool) (a y : ℕ) → a < t.order → y < t.order → act t up a y ≡ passed_rightward t up y a
forth_same t true a y la ly = act_inside t true a y la ly
forth_same t false a y la ly = act_inside t false a y la ly

pair_is : (t : Table) (d : Diagram) (f : List ℕ) (c : ℕ) → slice_index f c < t.order → slice_index f (c + 1) < t.order
    → AreFree (coloured_at c d.x d.o f) (coloured_at (c + 1) d.x d.o f) → (rest : List Column)
    → ys_of (pair_traded (act t) (coloured_at c d.x d.o f) (coloured_at (c + 1) d.x d.o f) rest) ≡ gone_left t d f c ∷ gone_right t d f c ∷ ys_of rest
pair_is t d f c la lb free rest =
    let u = coloured_at c d.x d.o f in
    let v = coloured_at (c + 1) d.x d.o f in
    elim free [
      | inl nested ↦
          let first : is_nested_in d (c + 1) c ≡ true = inside v.x v.o u.x u.o nested in
          let second : is_nested_in d c (c + 1) ≡ false = around u.x u.o v.x v.o nested in
          ap ys_of (pair_outer (act t) (coloured_at c d.x d.o f) (coloured_at (c + 1) d.x d.o f) rest nested)
          ∙ ap₂ (λ y z. y ∷ z ∷ ys_of rest)
          (fro_same t (is_up d c) (slice_index f c) (slice_index f (c + 1)) la lb
          ∙ sym (cond-true (is_nested_in d (c + 1) c) (passed_leftward t (is_up d c) (slice_index f (c + 1)) (slice_index f c)) (slice_index f (c + 1)) first))
          (sym (cond-false (is_nested_in d c (c + 1)) (passed_rightward t (is_up d (c + 1)) (slice_index f c) (slice_index f (c + 1)))
          (slice_index f c) second))
      | inr (inl nested) ↦
          let first : is_nested_in d (c + 1) c ≡ false = around v.x v.o u.x u.o nested in
          let second : is_nested_in d c (c + 1) ≡ true = inside u.x u.o v.x v.o nested in
          ap ys_of (pair_inner (act t) (coloured_at c d.x d.o f) (coloured_at (c + 1) d.x d.o f) rest nested)
          ∙ ap₂ (λ y z. y ∷ z ∷ ys_of rest)
          (sym (cond-false (is_nested_in d (c + 1) c) (passed_leftward t (is_up d c) (slice_index f (c + 1)) (slice_index f c)) (slice_index f (c + 1)) first))
          (forth_same t (is_up d (c + 1)) (slice_index f (c + 1)) (slice_index f c) lb la
          ∙ sym (cond-true (is_nested_in d c (c + 1)) (passed_rightward t (is_up d (c + 1)) (slice_index f c) (slice_index f (c + 1)))
          (slice_index f c) second))
      | inr (inr disjoint) ↦
          let first : is_nested_in d (c + 1) c ≡ false = apart v.x v.o u.x u.o (elim disjoint [ inl h ↦ inr h | inr h ↦ inl h ]) in
          let second : is_nested_in d c (c + 1) ≡ false = apart u.x u.o v.x v.o disjoint in
          ap ys_of (pair_disjoint (act t) (coloured_at c d.x d.o f) (coloured_at (c + 1) d.x d.o f) rest disjoint)
          ∙ ap₂ (λ y z. y ∷ z ∷ ys_of rest)
          (sym (cond-false (is_nested_in d (c + 1) c) (passed_leftward t (is_up d c) (slice_index f (c + 1)) (slice_index f c)) (slice_index f (c + 1)) first))
          (sym (cond-false (is_nested_in d c (c + 1)) (passed_rightward t (is_up d (c + 1)) (slice_index f c) (slice_index f (c + 1)))
          (slice_index f c) second))
    ]

-- the exchange, place by place
pub exchanged_is : (t : Table) (d : Diagram) (c : ℕ) → c + 1 < size d → IsGrid d → AreFree (coloured_at c d.x d.o []) (coloured_at (c + 1) d.x d.o [])
    → (f : List ℕ) → IsColouringByColumns t d f → length (traded_colours t c d f) ≡ size d
    → traded_colours t c d f ≡ colours_exchanged t c d f
exchanged_is t d c lt grid free f colouring long =
    let colour : (i : ℕ) → i < size d → slice_index f i < t.order = λ i at. All-get_or (λ y. y < t.order) f i 0
    (omega (arith, colouring.size, at)) colouring.below in
    let next : c + 1 ≡ suc c = add-one c in
    let free' : AreFree (coloured_at c d.x d.o f) (coloured_at (c + 1) d.x d.o f) = elim free [
      | inl h ↦ inl (elim h [ inl k ↦ inl k | inr k ↦ inr k ])
      | inr (inl h) ↦ inr (inl (elim h [ inl k ↦ inl k | inr k ↦ inr k ]))
      | inr (inr h) ↦ inr (inr (elim h [ inl k ↦ inl k | inr k ↦ inr k ]))
    ] in
    let pair = pair_is t d f c (colour c (omega (arith, lt))) (colour (c + 1) lt) free' in
    let traded = traded_place (act t) c d.x d.o f (omega (arith, lt)) grid.same colouring.size (gone_left t d f c) (gone_right t d f c)
    (λ rest. ap (λ k. ys_of (pair_traded (act t) (coloured_at c d.x d.o f) (coloured_at k d.x d.o f) rest)) (sym next) ∙ pair rest) in
    let new : ℕ → ℕ = λ i. cond (i == c) (gone_left t d f c) (cond (i == c + 1) (gone_right t d f c) (slice_index f i)) in
    is_by_column (size d) (λ i. cond (i == c) (gone_left t d f c) (cond (i == c + 1) (gone_right t d f c) (slice_index f i))) (traded_colours t c d f)
    long
    (λ i at. elim (cases_eq i c) [
      | inl e ↦ ap (slice_index (traded_colours t c d f)) e ∙ traded.left
          ∙ sym (cond-true (i == c) (gone_left t d f c) (cond (i == c + 1) (gone_right t d f c) (slice_index f i)) (eq-eqb i c e))
      | inr n ↦ elim (cases_eq i (c + 1)) [
        | inl e ↦
            ap (slice_index (traded_colours t c d f)) (e ∙ next) ∙ traded.right
            ∙ sym (cond-false (i == c) (gone_left t d f c) (cond (i == c + 1) (gone_right t d f c) (slice_index f i)) (ne_eqb i c n)
            ∙ cond-true (i == c + 1) (gone_right t d f c) (slice_index f i) (eq-eqb i (c + 1) e))
        | inr m ↦
            traded.others i at n (λ e. m (e ∙ sym next))
            ∙ sym (cond-false (i == c) (gone_left t d f c) (cond (i == c + 1) (gone_right t d f c) (slice_index f i)) (ne_eqb i c n)
            ∙ cond-false (i == c + 1) (gone_right t d f c) (slice_index f i) (ne_eqb i (c + 1) m))
      ]
    ])

-- a mark after the exchange
pub moved_row : (c : ℕ) (d e : Diagram) → Renumbered (exchanged c) unchanged d e → (kind : Kind) (b k : ℕ) → b < size d → exchanged c b ≡ k
    → row_of kind e k ≡ row_of kind d b
moved_row c d e renumbered kind b k lt is = ap (row_of kind e) (sym is) ∙ (renumbered.marks kind b (row_of kind d b) (mark_at d kind b lt)).row

pub to_right : (c : ℕ) → exchanged c c ≡ suc c
to_right c = grind (arith, nat_tests)

pub to_left : (c : ℕ) → exchanged c (suc c) ≡ c
to_left c = grind (arith, nat_tests)

pub stays : (c i : ℕ) → i ≢ c → i ≢ suc c → exchanged c i ≡ i
stays c i n m = grind (arith, nat_tests, n, m)

-- the lists of marks after two columns traded their numbers
pub marks_traded : (c : ℕ) (d e : Diagram) → IsGrid d → IsGrid e → c + 1 < size d → Renumbered (exchanged c) unchanged d e
    → (e.x ≡ neighbours_traded c d.x) × (e.o ≡ neighbours_traded c d.o)
marks_traded c d e grid grid' lt moved = (
  traded_at c e.x d.x (omega (arith, lt)) moved.same_size
      (moved_row c d e moved Cross (suc c) c (omega (arith, lt)) (to_left c)) (moved_row c d e moved Cross c (suc c) (omega (arith, lt)) (to_right c))
      (λ i at n m. moved_row c d e moved Cross i i at (stays c i n m)),
  traded_at c e.o d.o (omega (arith, lt, grid.same)) (grid'.same ∙ moved.same_size ∙ sym grid.same)
      (moved_row c d e moved Ring (suc c) c (omega (arith, lt)) (to_left c)) (moved_row c d e moved Ring c (suc c) (omega (arith, lt)) (to_right c))
      (λ i at n m. moved_row c d e moved Ring i i (omega (arith, at, grid.same)) (stays c i n m)),
)

pub exchange_of_columns : (t : Table) → IsQuandle t → (d e : Diagram) (c : ℕ) → Step d (ExchangeColumns c) e
    → IsBijection (IsColouring t d) (IsColouring t e) (carried t d (ExchangeColumns c))
exchange_of_columns t q d e c step =
    let grid = step.before in
    let grid' = step.after in
    let moved = step.marks.renumbered in
    let lt : c + 1 < size d = step.marks.inside in
    let free : AreFree (coloured_at c d.x d.o []) (coloured_at (c + 1) d.x d.o []) =
    are_free (slice_index d.x c) (slice_index d.o c) (slice_index d.x (c + 1)) (slice_index d.o (c + 1)) 0 0 step.marks.may_exchange in
    let next : c + 1 ≡ suc c = add-one c in
    let tradable : IsTradableAt c d.x d.o = tradable_at c d.x d.o (omega (arith, lt)) grid.same
    (subst (λ (k : ℕ). AreFree (column_at c d.x d.o) (column_at k d.x d.o)) next free) in
    let marks = marks_traded c d e grid grid' lt moved in
    let inverse = lists.columns_exchanged t q d e grid grid' c tradable marks.0 marks.1 in
    bijection_from t q d e grid grid' (traded_colours t c d) (traded_colours t c e) (carried t d (ExchangeColumns c)) inverse
    (λ f colouring. exchanged_is t d c lt grid free f colouring ((inverse.goes f colouring).size ∙ moved.same_size))
