-- The exchanges and slides of neighbours round the circle, legal or not by the spans of the diagram as it is.
use Rattle.std.proofs.Common.{◌≡◌, ◌<◌, ◌≤◌, ◌+◌, ◌%◌, ◌∙◌, ◌&&◌, ◌||◌, ℕ, List, Bool, true, false, cond, not, nat_lt, Option, Some, None, map, set, length}
use Rattle.std.proofs.Common.{get_or, subst, arith, zero-add, sym, refl, ap, ap₂, ◌≢◌, inl, inr}
use Rattle.std.specs.Prelude.{slice_index}
use Rattle.std.specs.List.{range_with_len}
use Rattle.std.specs.Option.{is_none}
use Rattle.std.proofs.lemmas.Bool.{lt-ltb, cases_eq}
use Rattle.std.proofs.lemmas.List.{get_or-set_same, get_or-set_other}
use Rattle.std.proofs.lemmas.Bool.Decides.{nat_tests}
use Rattle.std.proofs.lemmas.List.FromFn.{get_or-map-range_with_len, length-map-range_with_len}
use Rattle.grid_core.specs.declared.mark.Kind.{Kind}
use Rattle.grid_core.specs.declared.mark.Kind.TheVariants.{Cross, Ring}
use Rattle.grid_core.specs.declared.span.Span.{Span}
use Rattle.grid_core.specs.Diagram.{Diagram, IsGrid, size, row_of}
use Rattle.grid_core.specs.Span.{span, share_an_end, share_both_ends, share_one_end, are_disjoint, are_nested}
use Rattle.grid_core.specs.Parts.{column_span, column_of, ends, column_lows, column_highs, row_lows, row_highs}
use Rattle.grid_laws.proofs.ListedSpans.{span_at_place}
use Rattle.grid_core.proofs.Marks.{row_below, no_cell_twice, column_mark, column_is}
use Rattle.grid_moves.specs.declared.step.MoveFault.{MoveFault}
use Rattle.grid_moves.specs.declared.step.MoveFault.TheVariants.{Range, Touching, Interleaved, Apart}
use Rattle.grid_moves.specs.MoveFault.{exchange_fault, slide_fault}
use Rattle.grid_moves.specs.Shift.{shifted}
use Rattle.grid_keys.specs.Translation.{translate}
use Rattle.grid_canon.specs.ShortTrades.{Trades, trades_of, next}
use Rattle.grid_keys.proofs.Translated.{origin, shifted-origin, size-translate, row_of-translate}
use Rattle.grid_keys.proofs.Joined.{unshifted}
use Rattle.lane_spans.specs.Span.{Span as Lane, may_trade_places}
use Rattle.lane_spans.specs.Columns.{span_at, trades, neighbour_column, AreSpans}
use Rattle.next_moves.specs.Tries.{shift_before, place_after_shift, try_column_exchange, try_column_slide, try_row_exchange, try_row_slide}
use Rattle.next_moves.specs.Offers.{is_legal}
use Rattle.next_moves.proofs.Sides.{shift_before-below, place_after_shift-below, next-below, first_origin, second_origin, shift_before_cases}
use Rattle.next_moves.proofs.TranslatedMoves.{column_of-translate}
use Rattle.std.proofs.Math.Nat.{mod-eq_of_lt, mod_self}

-- what is asked of two neighbours on the translate, is asked of the two as they stand round the circle
asked : (F : Span → Span → Option MoveFault) (s t s' t' : Span) (p n : ℕ) → p < n → s ≡ s' → t ≡ t'
    → is_none (cond (nat_lt p n) (F s t) (Some Range)) ≡ is_none (F s' t')
asked F s t s' t' p n lt e f = ap (λ b. is_none (cond b (F s t) (Some Range))) (lt-ltb p n lt) ∙ ap₂ (λ u v. is_none (F u v)) e f

module _ (d : Diagram) (c : ℕ) (grid : IsGrid d) (lt : c < size d) where
  abbrev shift : ℕ
  shift = shift_before (size d) c

  abbrev place : ℕ
  place = place_after_shift (size d) c

  shift_inside : shift < size d
  shift_inside = shift_before-below (size d) c grid.least lt

  place_inside : place + 1 < size d
  place_inside = place_after_shift-below (size d) c grid.least lt

  some : 0 < size d
  some = omega (arith, grid.least)

  next_inside : next (size d) c < size d
  next_inside = next-below (size d) c lt

  column_at : (k q : ℕ) → k < size d → q < size d → origin (size d) shift k ≡ q → column_span (translate d shift 0) k ≡ column_span d q
  column_at k q hk hq e = ap₂ (λ (z w : ℕ). span z w) (by Cross) (by Ring)
    where
      by : (kind : Kind) → row_of kind (translate d shift 0) k ≡ row_of kind d q
      by kind =
          row_of-translate d shift 0 grid shift_inside kind k hk ∙ ap (λ (z : ℕ). shifted (size d) 0 (row_of kind d z)) e
          ∙ unshifted (size d) (row_of kind d q) (row_below d grid kind q hq)

  columns_asked : (F : Span → Span → Option MoveFault)
      → is_none (cond (nat_lt (place + 1) (size (translate d shift 0)))
      (F (column_span (translate d shift 0) place) (column_span (translate d shift 0) (place + 1))) (Some Range))
      ≡ is_none (F (column_span d c) (column_span d (next (size d) c)))
  columns_asked F =
      asked F (column_span (translate d shift 0) place) (column_span (translate d shift 0) (place + 1)) (column_span d c)
      (column_span d (next (size d) c)) (place + 1) (size (translate d shift 0)) (omega (arith, place_inside, size-translate d shift 0 shift_inside))
      (column_at place c (omega (arith, place_inside)) lt (first_origin (size d) c grid.least lt))
      (column_at (place + 1) (next (size d) c) place_inside next_inside (second_origin (size d) c grid.least lt))

  row_at : (k q : ℕ) → k < size d → q < size d → origin (size d) shift k ≡ q → ends (translate d 0 shift) k ≡ ends d q
  row_at k q hk hq e = ap₂ (λ (z w : ℕ). span z w) (by Cross) (by Ring)
    where
      stands : k ≡ shifted (size d) shift q
      stands = sym (shifted-origin (size d) shift k shift_inside hk) ∙ ap (λ (z : ℕ). shifted (size d) shift z) e

      by : (kind : Kind) → column_of kind (translate d 0 shift) k ≡ column_of kind d q
      by kind =
          ap (λ (z : ℕ). column_of kind (translate d 0 shift) z) stands ∙ column_of-translate d 0 shift grid some shift_inside kind q hq
          ∙ unshifted (size d) (column_of kind d q) (column_mark d grid kind q hq).inside

  rows_asked : (F : Span → Span → Option MoveFault)
      → is_none
      (cond (nat_lt (place + 1) (size (translate d 0 shift))) (F (ends (translate d 0 shift) place) (ends (translate d 0 shift) (place + 1))) (Some Range))
      ≡ is_none (F (ends d c) (ends d (next (size d) c)))
  rows_asked F =
      asked F (ends (translate d 0 shift) place) (ends (translate d 0 shift) (place + 1)) (ends d c) (ends d (next (size d) c)) (place + 1)
      (size (translate d 0 shift)) (omega (arith, place_inside, size-translate d 0 shift some))
      (row_at place c (omega (arith, place_inside)) lt (first_origin (size d) c grid.least lt))
      (row_at (place + 1) (next (size d) c) place_inside next_inside (second_origin (size d) c grid.least lt))

-- the exchange
exchange_test : (touch clear : Bool) → is_none (cond touch (Some Touching) (cond clear None (Some Interleaved))) ≡ (not touch && clear)
exchange_test true clear = refl
exchange_test false true = refl
exchange_test false false = refl

-- the slide
slide_test : (both touch : Bool) → is_none (cond both (Some Touching) (cond touch None (Some Apart))) ≡ (touch && not both)
slide_test true true = refl
slide_test true false = refl
slide_test false true = refl
slide_test false false = refl

abbrev lane : Span → Lane
lane s = record { low = s.low; high = s.high }

same_lanes : (p q s t : ℕ) → p < q → s < t
    → may_trade_places (record { low = p; high = q }) (record { low = s; high = t })
    ≡ (not (share_an_end (record { low = p; high = q }) (record { low = s; high = t }))
    && (are_disjoint (record { low = p; high = q }) (record { low = s; high = t })
    || are_nested (record { low = p; high = q }) (record { low = s; high = t })))
same_lanes p q s t lp ls = grind (arith, nat_tests)

may_trade : (s t : Span) → s.low < s.high → t.low < t.high → may_trade_places (lane s) (lane t) ≡ is_none (exchange_fault s t)
may_trade s t hs ht = same_lanes s.low s.high t.low t.high hs ht ∙ sym (exchange_test (share_an_end s t) (are_disjoint s t || are_nested s t))

-- a span has two ends
two_ends : (x o : ℕ) → (x ≡ o → ⊥) → (span x o).low < (span x o).high
two_ends x o ne = by (nat_lt x o) refl
  where
    by : (b : Bool) → nat_lt x o ≡ b → (span x o).low < (span x o).high
    by b e = grind (arith, nat_tests)

pub column_has_two_ends : (d : Diagram) (c : ℕ) → IsGrid d → c < size d → (column_span d c).low < (column_span d c).high
column_has_two_ends d c grid lt = two_ends (row_of Cross d c) (row_of Ring d c) (no_cell_twice d grid c lt)

pub row_has_two_ends : (d : Diagram) (r : ℕ) → IsGrid d → r < size d → (ends d r).low < (ends d r).high
row_has_two_ends d r grid lt = two_ends (column_of Cross d r) (column_of Ring d r) (λ e.
    let cross = column_mark d grid Cross r lt in
    let ring = column_mark d grid Ring r lt in
    no_cell_twice d grid (column_of Cross d r) cross.inside (cross.row ∙ sym ring.row ∙ ap (λ (z : ℕ). row_of Ring d z) (sym e)))

-- the next one, by both words
next_is : (n c : ℕ) → c < n → neighbour_column n c ≡ next n c
next_is n c lt = elim (shift_before_cases n c lt) [
  | inl last ↦ ap (λ (z : ℕ). z % n) last.0 ∙ mod_self n ∙ sym last.3
  | inr other ↦ mod-eq_of_lt other.0 ∙ sym other.3
]

-- lists of spans, and what they say at one place
listed : (f : ℕ → Span) (n c : ℕ) → c < n
    → span_at (map (λ k. (f k).low) (range_with_len 0 n)) (map (λ k. (f k).high) (range_with_len 0 n)) c ≡ lane (f c)
listed f n c lt = sym (ap (λ (s : Span). lane s) (span_at_place f n c lt))

listed_trades : (f : ℕ → Span) (n c : ℕ) → c < n → next n c < n → (f c).low < (f c).high → (f (next n c)).low < (f (next n c)).high
    → trades (map (λ k. (f k).low) (range_with_len 0 n)) (map (λ k. (f k).high) (range_with_len 0 n)) c ≡ is_none (exchange_fault (f c) (f (next n c)))
listed_trades f n c lt far near_ends far_ends =
    let lows : List ℕ = map (λ k. (f k).low) (range_with_len 0 n) in
    let highs : List ℕ = map (λ k. (f k).high) (range_with_len 0 n) in
    let long : length lows ≡ n = length-map-range_with_len (λ k. (f k).low) 0 n in
    let inside : c < length lows = omega (arith, long, lt) in
    let second : span_at lows highs (neighbour_column (length lows) c) ≡ lane (f (next n c)) =
    ap (λ (z : ℕ). span_at lows highs (neighbour_column z c)) long ∙ ap (λ (z : ℕ). span_at lows highs z) (next_is n c lt) ∙ listed f n (next n c) far in
    ap (λ b. b && may_trade_places (span_at lows highs c) (span_at lows highs (neighbour_column (length lows) c))) (lt-ltb c (length lows) inside)
    ∙ ap₂ (λ u v. may_trade_places u v) (listed f n c lt) second ∙ may_trade (f c) (f (next n c)) near_ends far_ends

listed_spans : (f : ℕ → Span) (n : ℕ) → ((c : ℕ) → c < n → (f c).low < (f c).high)
    → AreSpans (map (λ k. (f k).low) (range_with_len 0 n)) (map (λ k. (f k).high) (range_with_len 0 n))
listed_spans f n all c inside =
    let lt : c < n = omega (arith, inside, length-map-range_with_len (λ k. (f k).low) 0 n) in
    omega (
      arith,
      all c lt,
      get_or-map-range_with_len (λ k. (f k).low) 0 n c c 0 lt (zero-add c),
      get_or-map-range_with_len (λ k. (f k).high) 0 n c c 0 lt (zero-add c),
    )

pub columns_are_spans : (d : Diagram) → IsGrid d → AreSpans (column_lows d) (column_highs d)
columns_are_spans d grid = listed_spans (λ c. column_span d c) (size d) (λ c lt. column_has_two_ends d c grid lt)

pub rows_are_spans : (d : Diagram) → IsGrid d → AreSpans (row_lows d) (row_highs d)
rows_are_spans d grid = listed_spans (λ r. ends d r) (size d) (λ r lt. row_has_two_ends d r grid lt)

pub column_lane : (d : Diagram) (c : ℕ) → c < size d → span_at (column_lows d) (column_highs d) c ≡ lane (column_span d c)
column_lane d c lt = listed (λ k. column_span d k) (size d) c lt

pub row_lane : (d : Diagram) (r : ℕ) → r < size d → span_at (row_lows d) (row_highs d) r ≡ lane (ends d r)
row_lane d r lt = listed (λ k. ends d k) (size d) r lt

-- columns trade places by their lanes where their exchange is legal
pub column_trades_by_lanes : (d : Diagram) (c : ℕ) → IsGrid d → c < size d
    → trades (column_lows d) (column_highs d) c ≡ is_legal d (try_column_exchange (size d) c)
column_trades_by_lanes d c grid lt =
    let far = next-below (size d) c lt in
    listed_trades (λ k. column_span d k) (size d) c lt far (column_has_two_ends d c grid lt) (column_has_two_ends d (next (size d) c) grid far)
    ∙ sym (columns_asked d c grid lt exchange_fault)

pub row_trades_by_lanes : (d : Diagram) (r : ℕ) → IsGrid d → r < size d
    → trades (row_lows d) (row_highs d) r ≡ is_legal d (try_row_exchange (size d) r)
row_trades_by_lanes d r grid lt =
    let far = next-below (size d) r lt in
    listed_trades (λ k. ends d k) (size d) r lt far (row_has_two_ends d r grid lt) (row_has_two_ends d (next (size d) r) grid far)
    ∙ sym (rows_asked d r grid lt exchange_fault)

-- and they slide where they have one end in common
pub column_slides : (d : Diagram) (c : ℕ) → IsGrid d → c < size d
    → is_legal d (try_column_slide (size d) c) ≡ share_one_end (column_span d c) (column_span d (next (size d) c))
column_slides d c grid lt =
    let s : Span = column_span d c in
    let t : Span = column_span d (next (size d) c) in
    columns_asked d c grid lt slide_fault ∙ slide_test (share_both_ends s t) (share_an_end s t)

pub row_slides : (d : Diagram) (r : ℕ) → IsGrid d → r < size d
    → is_legal d (try_row_slide (size d) r) ≡ share_one_end (ends d r) (ends d (next (size d) r))
row_slides d r grid lt =
    let s : Span = ends d r in
    let t : Span = ends d (next (size d) r) in
    rows_asked d r grid lt slide_fault ∙ slide_test (share_both_ends s t) (share_an_end s t)

-- what the trades of a short grid tell of one neighbour
pub record AreTold (trades : Trades) (c : ℕ) (may_exchange may_slide : Bool) : Type 0 where
  pub exchange_inside : c < length trades.exchange
  pub exchange : get_or trades.exchange c false ≡ may_exchange
  pub slide_inside : c < length trades.slide
  pub slide : get_or trades.slide c false ≡ may_slide

told_of : (spans : ℕ → Span) (n c : ℕ) → c < n
    → AreTold (trades_of n spans) c (is_none (exchange_fault (spans c) (spans (next n c)))) (share_one_end (spans c) (spans (next n c)))
told_of spans n c lt =
    let exchange : ℕ → Bool = λ k. is_none (exchange_fault (spans k) (spans (next n k))) in
    let slide : ℕ → Bool = λ k. share_one_end (spans k) (spans (next n k)) in
    record {
      exchange_inside = omega (arith, lt, length-map-range_with_len exchange 0 n);
      exchange = get_or-map-range_with_len exchange 0 n c c false lt (zero-add c);
      slide_inside = omega (arith, lt, length-map-range_with_len slide 0 n);
      slide = get_or-map-range_with_len slide 0 n c c false lt (zero-add c);
    }

pub columns_told : (d : Diagram) (c : ℕ) (trades : Trades) → trades ≡ trades_of (size d) (column_span d) → IsGrid d → c < size d
    → AreTold trades c (is_legal d (try_column_exchange (size d) c)) (is_legal d (try_column_slide (size d) c))
columns_told d c trades is grid lt =
    let told =
    subst (λ (t : Trades). AreTold t c (is_none (exchange_fault (column_span d c) (column_span d (next (size d) c))))
    (share_one_end (column_span d c) (column_span d (next (size d) c)))) (sym is) (told_of (column_span d) (size d) c lt) in
    record {
      exchange_inside = told.exchange_inside;
      exchange = told.exchange ∙ sym (columns_asked d c grid lt exchange_fault);
      slide_inside = told.slide_inside;
      slide = told.slide ∙ sym (column_slides d c grid lt);
    }

pub rows_told : (d : Diagram) (r : ℕ) (trades : Trades) → trades ≡ trades_of (size d) (ends d) → IsGrid d → r < size d
    → AreTold trades r (is_legal d (try_row_exchange (size d) r)) (is_legal d (try_row_slide (size d) r))
rows_told d r trades is grid lt =
    let told =
    subst (λ (t : Trades). AreTold t r (is_none (exchange_fault (ends d r) (ends d (next (size d) r))))
    (share_one_end (ends d r) (ends d (next (size d) r)))) (sym is) (told_of (ends d) (size d) r lt) in
    record {
      exchange_inside = told.exchange_inside;
      exchange = told.exchange ∙ sym (rows_asked d r grid lt exchange_fault);
      slide_inside = told.slide_inside;
      slide = told.slide ∙ sym (row_slides d r grid lt);
    }

-- two neighbours touch once by the lists where their spans do
listed_touch : (f : ℕ → Span) (n c : ℕ) (lows highs : List ℕ) → lows ≡ map (λ k. (f k).low) (range_with_len 0 n)
    → highs ≡ map (λ k. (f k).high) (range_with_len 0 n) → c < n → next n c < n
    → share_one_end (record { low = slice_index lows c; high = slice_index highs c })
    (record { low = slice_index lows (next n c); high = slice_index highs (next n c) }) ≡ share_one_end (f c) (f (next n c))
listed_touch f n c lows highs el eh lt far = ap₂ (λ s t. share_one_end s t) (at c lt) (at (next n c) far)
  where
    made : ℕ → ℕ → Span
    made z w = record { low = z; high = w }

    at : (k : ℕ) → k < n → made (slice_index lows k) (slice_index highs k) ≡ f k
    at k hk =
        ap₂ (λ (us vs : List ℕ). made (slice_index us k) (slice_index vs k)) el eh ∙ sym (span_at_place f n k hk)

pub columns_touch : (d : Diagram) (c m : ℕ) (lows highs : List ℕ) → m ≡ size d → lows ≡ column_lows d → highs ≡ column_highs d → c < size d
    → share_one_end (record { low = slice_index lows c; high = slice_index highs c })
    (record { low = slice_index lows (next m c); high = slice_index highs (next m c) })
    ≡ share_one_end (column_span d c) (column_span d (next (size d) c))
columns_touch d c m lows highs size_is el eh lt =
    ap (λ (z : ℕ). share_one_end (record { low = slice_index lows c; high = slice_index highs c })
    (record { low = slice_index lows (next z c); high = slice_index highs (next z c) })) size_is
    ∙ listed_touch (λ k. column_span d k) (size d) c lows highs el eh lt (next-below (size d) c lt)

pub rows_touch : (d : Diagram) (r m : ℕ) (lows highs : List ℕ) → m ≡ size d → lows ≡ row_lows d → highs ≡ row_highs d → r < size d
    → share_one_end (record { low = slice_index lows r; high = slice_index highs r })
    (record { low = slice_index lows (next m r); high = slice_index highs (next m r) })
    ≡ share_one_end (ends d r) (ends d (next (size d) r))
rows_touch d r m lows highs size_is el eh lt =
    ap (λ (z : ℕ). share_one_end (record { low = slice_index lows r; high = slice_index highs r })
    (record { low = slice_index lows (next z r); high = slice_index highs (next z r) })) size_is
    ∙ listed_touch (λ k. ends d k) (size d) r lows highs el eh lt (next-below (size d) r lt)

-- the column of a mark is put down at its row
pub column_put : (d : Diagram) (kind : Kind) (c : ℕ) (columns : List ℕ) → IsGrid d → c < size d → size d ≤ length columns
    → ((r : ℕ) → r < size d → column_of kind d r < c → slice_index columns r ≡ column_of kind d r) → (r : ℕ) → r < size d
    → column_of kind d r < c + 1 → slice_index (set columns (row_of kind d c) c) r ≡ column_of kind d r
column_put d kind c columns grid lt long known r hr below = elim (cases_eq r (row_of kind d c)) [
  | inl e ↦
      ap (λ (z : ℕ). slice_index (set columns (row_of kind d c) c) z) e
      ∙ get_or-set_same columns (row_of kind d c) c 0 (omega (arith, row_below d grid kind c lt, long))
      ∙ sym (column_is d grid kind c r (record { inside = lt; row = sym e }))
  | inr other ↦
      get_or-set_other columns (row_of kind d c) r c 0 other
      ∙ known r hr (earlier (column_of kind d r) below
      (λ same. other (sym (column_mark d grid kind r hr).row ∙ ap (λ (z : ℕ). row_of kind d z) same)))
]
  where
    earlier : (k : ℕ) → k < c + 1 → k ≢ c → k < c
    earlier k le ne = omega (arith, le, ne)
