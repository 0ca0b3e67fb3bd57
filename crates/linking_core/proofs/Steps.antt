-- Each kind of move keeps the number of components and the list of linking numbers.
use Rattle.std.proofs.Common.{◌≡◌, ◌≢◌, ◌<◌, ◌+◌, ◌-◌, ◌∷◌, ◌∙◌, ◌==◌, [], ℕ, List, length, sym, ap}
use Rattle.std.proofs.lemmas.Bool.{eqb-true}
use Rattle.grid_core.specs.declared.mark.Kind.{Kind}
use Rattle.grid_core.specs.declared.mark.Corner.{Corner}
use Rattle.grid_core.specs.Diagram.{Diagram, IsGrid, size, row_of}
use Rattle.grid_core.specs.Corners.{corner_row}
use Rattle.grid_core.specs.Places.{lifted, lowered}
use Rattle.grid_core.proofs.Marks.{mark_at}
use Rattle.grid_moves.specs.declared.step.Move.{Move}
use Rattle.grid_moves.specs.declared.step.Move.TheVariants.{ShiftColumns, ShiftRows, ExchangeColumns, ExchangeRows, SlideColumns, SlideRows}
use Rattle.grid_moves.specs.declared.step.Move.TheVariants.{Stabilise, Destabilise}
use Rattle.grid_moves.specs.Renumbered.{Renumbered, unchanged}
use Rattle.grid_moves.specs.Shift.{shifted, ShiftsColumns, ShiftsRows}
use Rattle.grid_moves.specs.Exchange.{exchanged, ExchangesColumns, ExchangesRows}
use Rattle.grid_moves.specs.Slide.{SlidesColumns, SlidesRows}
use Rattle.grid_moves.specs.Stabilisation.{Stabilises}
use Rattle.grid_moves.specs.DoubleRows.{column_in_new_row}
use Rattle.grid_moves.specs.Step.{Step}
use Rattle.grid_moves.specs.Joining.{Joins, Equivalent}
use Rattle.grid_moves.proofs.Widened.{widened_from_stabilises, above_small, near_low}
use Rattle.grid_moves.proofs.Stabilised.{columns_in_new_row-beside}
use Rattle.linking_core.specs.Component.{component_number, components}
use Rattle.linking_core.specs.Linking.{linking}
use Rattle.linking_core.proofs.Shuffles.{Member}
use Rattle.linking_core.proofs.Forms.{IsClosed, by_crossings, columns_from_crossings, rows_from_crossings}
use Rattle.linking_core.proofs.ComponentNumbers.{component_rows, component_shared}
use Rattle.linking_core.proofs.Signs.{is_of, linking_by_crossings}
use Rattle.linking_core.proofs.Corresponding.{Corresponds, named, same_name, class_moved, as_many, equal_lists}
use Rattle.linking_core.proofs.Renumberings.{IsRenumbering, AreMoved, unchanged_renumbers, renumbered_corresponds, columns_moved, rows_moved}
use Rattle.linking_core.proofs.ShiftSums.{shift_renumbers, columns_shifted_sum, rows_shifted_sum}
use Rattle.linking_core.proofs.TradeSums.{ColumnsTrade, RowsTrade, exchange_renumbers, columns_traded_sum, rows_traded_sum}
use Rattle.linking_core.proofs.TradeSums.{exchanged_columns_trade, exchanged_rows_trade}
use Rattle.linking_core.proofs.Slides.{slid_columns_trade, slid_rows_trade}
use Rattle.linking_core.proofs.Growths.{Grows, fresh, growth_corresponds, fresh_component}
use Rattle.linking_core.proofs.GrowthSums.{AreDisjoint, growth_sum}

-- as many components, and the same list of linking numbers
pub record AreAlike (d e : Diagram) : Type 0 where
  pub number : length (components e) ≡ length (components d)
  pub list : linking e ≡ linking d

alike_back : (d e : Diagram) → AreAlike d e → AreAlike e d
alike_back d e alike = record { number = sym alike.number; list = sym alike.list }

-- a component is a class that holds both ends of a row or neither
pub closed : (d : Diagram) → IsGrid d → (i : ℕ) → IsClosed d (is_of d i)
closed d grid i r lt = ap (λ (k : ℕ). k == i) (component_rows d grid r lt)

-- corresponding components have equal sums
record HaveEqualSums (d e : Diagram) (forth : ℕ → ℕ) : Type 0 where
  equal : (i j : ℕ) → Member i (components d) → Member j (components d) → i ≢ j
      → by_crossings e (is_of e (named e forth i)) (is_of e (named e forth j)) ≡ by_crossings d (is_of d i) (is_of d j)

alike_by_sums : (d e : Diagram) → IsGrid d → IsGrid e → (forth back : ℕ → ℕ) → Corresponds d e forth back → HaveEqualSums d e forth → AreAlike d e
alike_by_sums d e grid grid' forth back corr sums = record {
  number = as_many d e grid grid' forth back corr;
  list = equal_lists d e grid grid' forth back corr (λ i j at_i at_j ne.
      linking_by_crossings e grid' (named e forth i) (named e forth j) (λ same. ne (same_name d e grid' forth back corr i j at_i at_j same))
      ∙ (sums.equal i j at_i at_j ne ∙ sym (linking_by_crossings d grid i j ne)));
}

-- classes that a renumbering moves
moved : (d e : Diagram) → IsGrid d → IsGrid e → (forth back : ℕ → ℕ) → Corresponds d e forth back → (i : ℕ) → Member i (components d)
    → AreMoved (size d) forth (is_of d i) (is_of e (named e forth i))
moved d e grid grid' forth back corr i at = record { same = class_moved d e grid grid' forth back corr i at }

columns_shift : (k : ℕ) (d e : Diagram) → IsGrid d → IsGrid e → ShiftsColumns k d e → AreAlike d e
columns_shift k d e grid grid' shift = alike_by_sums d e grid grid' f back corr (record {
  equal = λ i j at_i at_j ne.
      columns_from_crossings e grid' (is_of e (named e f i)) (is_of e (named e f j)) (closed e grid' (named e f j))
      ∙ (columns_moved f back unchanged d e turn shift.renumbered (is_of d i) (is_of d j) (is_of e (named e f i)) (is_of e (named e f j))
      (moved d e grid grid' f back corr i at_i) (moved d e grid grid' f back corr j at_j)
      ∙ (columns_shifted_sum d grid k shift.most (is_of d i) (is_of d j) (closed d grid i) (closed d grid j)
      ∙ sym (columns_from_crossings d grid (is_of d i) (is_of d j) (closed d grid j))));
})
  where
    f : ℕ → ℕ
    f = shifted (size d) k

    back : ℕ → ℕ
    back = shifted (size d) (size d - k)

    turn : IsRenumbering (size d) f back
    turn = shift_renumbers (size d) k shift.least shift.most

    corr : Corresponds d e f back
    corr = renumbered_corresponds f back unchanged unchanged d e grid grid' turn (unchanged_renumbers (size d)) shift.renumbered

rows_shift : (k : ℕ) (d e : Diagram) → IsGrid d → IsGrid e → ShiftsRows k d e → AreAlike d e
rows_shift k d e grid grid' shift = alike_by_sums d e grid grid' unchanged unchanged corr (record {
  equal = λ i j at_i at_j ne.
      columns_from_crossings e grid' (is_of e (named e unchanged i)) (is_of e (named e unchanged j)) (closed e grid' (named e unchanged j))
      ∙ (columns_moved unchanged unchanged (shifted (size d) k) d e (unchanged_renumbers (size d)) shift.renumbered (is_of d i) (is_of d j)
      (is_of e (named e unchanged i)) (is_of e (named e unchanged j)) (moved d e grid grid' unchanged unchanged corr i at_i)
      (moved d e grid grid' unchanged unchanged corr j at_j)
      ∙ (rows_shifted_sum d grid k shift.most (is_of d i) (is_of d j)
      ∙ sym (columns_from_crossings d grid (is_of d i) (is_of d j) (closed d grid j))));
})
  where
    corr : Corresponds d e unchanged unchanged
    corr = renumbered_corresponds unchanged unchanged (shifted (size d) k) (shifted (size d) (size d - k)) d e grid grid' (unchanged_renumbers (size d))
        (shift_renumbers (size d) k shift.least shift.most) shift.renumbered

-- neighbours trade places, and where one is of each component their order is of no account
columns_trade : (c : ℕ) (d e : Diagram) → IsGrid d → IsGrid e → c + 1 < size d → Renumbered (exchanged c) unchanged d e
    → ((i j : ℕ) → i ≢ j → ColumnsTrade d c (is_of d i) (is_of d j)) → AreAlike d e
columns_trade c d e grid grid' inside renumbered trade = alike_by_sums d e grid grid' (exchanged c) (exchanged c) corr (record {
  equal = λ i j at_i at_j ne.
      columns_from_crossings e grid' (is_of e (named e (exchanged c) i)) (is_of e (named e (exchanged c) j)) (closed e grid' (named e (exchanged c) j))
      ∙ (columns_moved (exchanged c) (exchanged c) unchanged d e turn renumbered (is_of d i) (is_of d j)
      (is_of e (named e (exchanged c) i)) (is_of e (named e (exchanged c) j))
      (moved d e grid grid' (exchanged c) (exchanged c) corr i at_i) (moved d e grid grid' (exchanged c) (exchanged c) corr j at_j)
      ∙ (columns_traded_sum d c (is_of d i) (is_of d j) (trade i j ne)
      ∙ sym (columns_from_crossings d grid (is_of d i) (is_of d j) (closed d grid j))));
})
  where
    turn : IsRenumbering (size d) (exchanged c) (exchanged c)
    turn = exchange_renumbers (size d) c inside

    corr : Corresponds d e (exchanged c) (exchanged c)
    corr = renumbered_corresponds (exchanged c) (exchanged c) unchanged unchanged d e grid grid' turn (unchanged_renumbers (size d)) renumbered

rows_trade : (r : ℕ) (d e : Diagram) → IsGrid d → IsGrid e → r + 1 < size d → Renumbered unchanged (exchanged r) d e
    → ((i j : ℕ) → i ≢ j → RowsTrade d r (is_of d i) (is_of d j)) → AreAlike d e
rows_trade r d e grid grid' inside renumbered trade = alike_by_sums d e grid grid' unchanged unchanged corr (record {
  equal = λ i j at_i at_j ne.
      rows_from_crossings e grid' (is_of e (named e unchanged i)) (is_of e (named e unchanged j)) (closed e grid' (named e unchanged i))
      ∙ (rows_moved unchanged (exchanged r) (exchanged r) d e grid grid' turn renumbered (is_of d i) (is_of d j)
      (is_of e (named e unchanged i)) (is_of e (named e unchanged j))
      (moved d e grid grid' unchanged unchanged corr i at_i) (moved d e grid grid' unchanged unchanged corr j at_j)
      ∙ (rows_traded_sum d r (is_of d i) (is_of d j) (trade i j ne)
      ∙ sym (rows_from_crossings d grid (is_of d i) (is_of d j) (closed d grid i))));
})
  where
    turn : IsRenumbering (size d) (exchanged r) (exchanged r)
    turn = exchange_renumbers (size d) r inside

    corr : Corresponds d e unchanged unchanged
    corr = renumbered_corresponds unchanged unchanged (exchanged r) (exchanged r) d e grid grid' (unchanged_renumbers (size d)) turn renumbered

columns_exchange : (c : ℕ) (d e : Diagram) → IsGrid d → IsGrid e → ExchangesColumns c d e → AreAlike d e
columns_exchange c d e grid grid' exchange =
    columns_trade c d e grid grid' exchange.inside exchange.renumbered (λ i j ne. exchanged_columns_trade d c exchange.may_exchange (is_of d i) (is_of d j))

rows_exchange : (r : ℕ) (d e : Diagram) → IsGrid d → IsGrid e → ExchangesRows r d e → AreAlike d e
rows_exchange r d e grid grid' exchange =
    rows_trade r d e grid grid' exchange.inside exchange.renumbered (λ i j ne. exchanged_rows_trade d r exchange.may_exchange (is_of d i) (is_of d j))

columns_slide : (c : ℕ) (d e : Diagram) → IsGrid d → IsGrid e → SlidesColumns c d e → AreAlike d e
columns_slide c d e grid grid' slide = columns_trade c d e grid grid' slide.inside slide.renumbered (slid_columns_trade d c grid slide.inside slide.may_slide)

rows_slide : (r : ℕ) (d e : Diagram) → IsGrid d → IsGrid e → SlidesRows r d e → AreAlike d e
rows_slide r d e grid grid' slide = rows_trade r d e grid grid' slide.inside slide.renumbered (slid_rows_trade d r grid slide.inside slide.may_slide)

-- different components share no row
disjoint : (d : Diagram) → IsGrid d → (i j : ℕ) → i ≢ j → AreDisjoint d (is_of d i) (is_of d j)
disjoint d grid i j ne = record {
  rows = λ p q in_p in_q of_i of_j k k' same. ne
      (sym (eqb-true (component_number d p) i of_i)
      ∙ (component_shared d grid p q (record { row = row_of k d p; one = k; other = k'; of_first = mark_at d k p in_p; of_second = record { inside = in_q; row = sym same } })
      ∙ eqb-true (component_number d q) j of_j));
}

growth : (c : ℕ) (kind : Kind) (corner : Corner) (r : ℕ) (d e : Diagram) → IsGrid d → IsGrid e → Stabilises c kind corner r d e → AreAlike d e
growth c kind corner r d e grid grid' stab = alike_by_sums d e grid grid' forth (lowered c) corr (record {
  equal = λ i j at_i at_j ne.
      columns_from_crossings e grid' (is_of e (named e forth i)) (is_of e (named e forth j)) (closed e grid' (named e forth j))
      ∙ (growth_sum kind place c r (r + corner_row corner) d e grid grows (is_of d i) (is_of d j) (is_of e (named e forth i)) (is_of e (named e forth j))
      (disjoint d grid i j ne)
      (class_moved d e grid grid' forth (lowered c) corr i at_i) (class_moved d e grid grid' forth (lowered c) corr j at_j) (own i at_i) (own j at_j)
      ∙ sym (columns_from_crossings d grid (is_of d i) (is_of d j) (closed d grid j)));
})
  where
    place : Kind → ℕ
    place = column_in_new_row c kind corner

    grows : Grows kind place c r (r + corner_row corner) d e
    grows = record {
      wide = widened_from_stabilises c kind corner r d e grid stab;
      beside = columns_in_new_row-beside c kind corner;
      near = near_low r (corner_row corner) (above_small corner);
      marked = stab.marked;
    }

    forth : ℕ → ℕ
    forth = lifted (fresh kind place)

    corr : Corresponds d e forth (lowered c)
    corr = growth_corresponds kind place c r (r + corner_row corner) d e grid grid' grows

    own : (i : ℕ) → Member i (components d) → is_of e (named e forth i) (fresh kind place) ≡ is_of d i c
    own i at = ap (λ (k : ℕ). k == named e forth i) (fresh_component kind place c r (r + corner_row corner) d e grid' grows)
        ∙ class_moved d e grid grid' forth (lowered c) corr i at c stab.marked.inside

-- every move
pub step_alike : (d e : Diagram) (move : Move) → Step d move e → AreAlike d e
step_alike d e (ShiftColumns k) step = columns_shift k d e step.before step.after step.marks
step_alike d e (ShiftRows k) step = rows_shift k d e step.before step.after step.marks
step_alike d e (ExchangeColumns c) step = columns_exchange c d e step.before step.after step.marks
step_alike d e (ExchangeRows r) step = rows_exchange r d e step.before step.after step.marks
step_alike d e (SlideColumns c) step = columns_slide c d e step.before step.after step.marks
step_alike d e (SlideRows r) step = rows_slide r d e step.before step.after step.marks
step_alike d e (Stabilise c kind corner) step = growth c kind corner step.marks.1.0 d e step.before step.after step.marks.1.1
step_alike d e (Destabilise c r) step = alike_back e d (growth c step.marks.kind step.marks.corner r e d step.after step.before step.marks.undone)

joined_alike : (moves : List Move) (d e : Diagram) → Joins d moves e → AreAlike d e
joined_alike [] d e same = record { number = ap (λ (f : Diagram). length (components f)) (sym same); list = ap linking (sym same) }
joined_alike (move ∷ moves) d e joined =
    let one = step_alike d joined.0 move joined.1.0 in
    let rest = joined_alike moves joined.0 e joined.1.1 in
    record { number = rest.number ∙ one.number; list = rest.list ∙ one.list }

pub equivalent_alike : (d e : Diagram) → Equivalent d e → AreAlike d e
equivalent_alike d e equivalent = joined_alike equivalent.0 d e equivalent.1
