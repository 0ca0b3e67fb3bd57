-- What parts two regions: a row does between its ends alone.
use Rattle.std.proofs.Common.{◌≡◌, ◌≢◌, ◌∙◌, ◌<◌, ◌≤◌, ◌+◌, ◌-◌, ℕ, zero, suc, List, [], ◌∷◌, fold, ap, ap₂, sym, refl, subst, arith, cond}
use Rattle.std.specs.Prelude.{Bool, true, false, slice_index, filter, nat_lt, nat_le, ◌&&◌}
use Rattle.std.specs.List.{range_with_len}
use Rattle.std.proofs.Math.Bool.{not}
use Rattle.std.proofs.lemmas.Bool.{ltb-true, ltb-false, le-ltb, false≢true}
use Rattle.std.proofs.lemmas.Bool.Decides.{nat_tests}
use Rattle.std.proofs.lemmas.List.Elements.{All-cons, All-nil}
use Rattle.grid_core.specs.declared.mark.Kind.TheVariants.{Cross, Ring}
use Rattle.grid_core.specs.Diagram.{Diagram, IsGrid, size}
use Rattle.grid_core.specs.Parts.{column_of, ends, covers, is_up, is_rightward}
use Rattle.grid_core.specs.Span.{span, lies_within}
use Rattle.grid_core.proofs.Marks.{column_mark, no_cell_twice, row_below}
use Rattle.grid_core.proofs.Ends.{span_low, span_high}
use Rattle.quandle_core.specs.Quandle.{Table, IsQuandle, over}
use Rattle.colour_rows.specs.Walk.{under, passed_rightward, walk_to}
use Rattle.colour_rows.specs.Colouring.{IsColouring}
use Rattle.colour_laws.specs.Level.{covers_height}
use Rattle.colour_laws.proofs.ByIndex.{coloured_at}
use Rattle.colour_laws.proofs.Facts.{sliding}
use Rattle.colour_laws.proofs.RowEnds.{AreEnds, are_ends}
use Rattle.colour_laws.proofs.Walks.{HasColours, colour_below, chain_step}
use Rattle.colour_weights.specs.Region.{region, height_beside, height_across}
use Rattle.colour_weights.proofs.Longer.{fold_longer}
use Rattle.colour_weights.proofs.ByColumns.{apart_marks}
use Rattle.colour_weights.proofs.ShadowCarried.{colours_of}
use Rattle.colour_weights.proofs.ShadowCrossingSums.{apart_height, left_height, filter_range, region_next, rightward_below}

-- colours stay colours along a range of columns
pub fold_below : (t : Table) → IsQuandle t → (d : Diagram) (f : List ℕ) → HasColours t d f → (p : ℕ → Bool) (a m v : ℕ) → a + m ≤ size d → v < t.order
    → fold (under t d f) v (filter p (range_with_len a m)) < t.order
fold_below t q d f has p a zero v le lv = lv
fold_below t q d f has p a (suc m) v le lv =
    let ly : slice_index f a < t.order = colour_below t d f has a (omega (arith, le)) in
    subst (λ (z : ℕ). z < t.order) (sym (chain_step t d f a v (filter p (range_with_len (a + 1) m)) (p a)))
    (fold_below t q d f has p (a + 1) m (cond (p a) (under t d f v a) v) (omega (arith, le)) (by_test (p a) ly))
  where
    by_test : (b : Bool) → slice_index f a < t.order → cond b (under t d f v a) v < t.order
    by_test true ly = rightward_below t q (is_up d a) v (slice_index f a) lv ly
    by_test false ly = lv

-- a left end covers the height on the row's left-hand side where it goes down
far_height : (x o r : ℕ) (b : Bool) → x ≢ o → (b ≡ true → o ≡ r) → (b ≡ false → x ≡ r)
    → (nat_lt (span x o).low (cond b (r + 1) r) && nat_le (cond b (r + 1) r) (span x o).high) ≡ not (nat_lt x o)
far_height x o r true n ring cross = let e : o ≡ r = ring refl in grind (arith, nat_tests, n, e)
far_height x o r false n ring cross = let e : x ≡ r = cross refl in grind (arith, nat_tests, n, e)

-- the marks of a row at its two ends
record EndMarks (d : Diagram) (r : ℕ) : Type 0 where
  low_ring : is_rightward d r ≡ true → slice_index d.o (ends d r).low ≡ r
  low_cross : is_rightward d r ≡ false → slice_index d.x (ends d r).low ≡ r
  high_cross : is_rightward d r ≡ true → slice_index d.x (ends d r).high ≡ r
  high_ring : is_rightward d r ≡ false → slice_index d.o (ends d r).high ≡ r

end_marks : (d : Diagram) → IsGrid d → (r : ℕ) → r < size d → EndMarks d r
end_marks d grid r lt =
    let at_x = column_mark d grid Cross r lt in
    let at_o = column_mark d grid Ring r lt in
    let low = span_low (column_of Cross d r) (column_of Ring d r) in
    let high = span_high (column_of Cross d r) (column_of Ring d r) in
    record {
      low_ring = λ e.
          let l = ltb-true (column_of Ring d r) (column_of Cross d r) e in
          let is : (ends d r).low ≡ column_of Ring d r = omega (arith, low, l) in
          ap (slice_index d.o) is ∙ at_o.row;
      low_cross = λ e.
          let l = ltb-false (column_of Ring d r) (column_of Cross d r) e in
          let is : (ends d r).low ≡ column_of Cross d r = omega (arith, low, l) in
          ap (slice_index d.x) is ∙ at_x.row;
      high_cross = λ e.
          let l = ltb-true (column_of Ring d r) (column_of Cross d r) e in
          let is : (ends d r).high ≡ column_of Cross d r = omega (arith, high, l) in
          ap (slice_index d.x) is ∙ at_x.row;
      high_ring = λ e.
          let l = ltb-false (column_of Ring d r) (column_of Cross d r) e in
          let is : (ends d r).high ≡ column_of Ring d r = omega (arith, high, l) in
          ap (slice_index d.o) is ∙ at_o.row;
    }

-- a column that is no end of the row covers the heights on its two sides alike
both_heights : (d : Diagram) (f : List ℕ) (r i : ℕ) → AreEnds d r → i < size d → i ≢ (ends d r).low → i ≢ (ends d r).high
    → (covers_height d (height_beside d r) i ≡ covers d i r) × (covers_height d (height_across d r) i ≡ covers d i r)
both_heights d f r i known inside n m =
    let marks = apart_marks r (coloured_at i d.x d.o f) (known.others i inside n m) in (
      apart_height (slice_index d.x i) (slice_index d.o i) r (is_rightward d r) marks.0 marks.1,
      other (is_rightward d r) marks.0 marks.1,
    )
  where
    other : (b : Bool) → slice_index d.x i ≢ r → slice_index d.o i ≢ r
        → (nat_lt (span (slice_index d.x i) (slice_index d.o i)).low (cond b (r + 1) r)
        && nat_le (cond b (r + 1) r) (span (slice_index d.x i) (slice_index d.o i)).high)
        ≡ lies_within (span (slice_index d.x i) (slice_index d.o i)) r
    other true n m = apart_height (slice_index d.x i) (slice_index d.o i) r false n m
    other false n m = apart_height (slice_index d.x i) (slice_index d.o i) r true n m

-- the regions before column c on both sides of row r are parted by the row's strand there
abbrev pub IsParted : Table → Diagram → List ℕ → ℕ → ℕ → ℕ → Type 0
IsParted t d f u r c = region t d f u (height_across d r) c ≡ over t (region t d f u (height_beside d r) c) (walk_to t d f r c)

-- passing a strand and then a column is the same as passing the column and then the strand, where this has passed under it
carried : (t : Table) → IsQuandle t → (up : Bool) (v x y : ℕ) → v < t.order → x < t.order → y < t.order
    → passed_rightward t up (over t v x) y ≡ over t (passed_rightward t up v y) (passed_rightward t up x y)
carried t q up v x y lv lx ly =
    let is_colour : Bool × ℕ → Type 0 = λ (column : Bool × ℕ). column.1 < t.order in
    sliding t q false ((up, y) ∷ []) x v (All-cons is_colour (up, y) [] ly (All-nil is_colour)) lx lv

module _ (t : Table) (q : IsQuandle t) (d : Diagram) (grid : IsGrid d) (f : List ℕ) (has : HasColours t d f) (u : ℕ) (lu : u < t.order)
    (r : ℕ) (lr : r < size d) (known : AreEnds d r) where
  region_below : (h c : ℕ) → c ≤ size d → region t d f u h c < t.order
  region_below h c le = fold_below t q d f has (covers_height d h) 0 c u (omega (arith, le)) lu

  strand_below : (c : ℕ) → c ≤ size d → walk_to t d f r c < t.order
  strand_below c le =
      fold_below t q d f has (λ b. covers d b r) ((ends d r).low + 1) (c - (ends d r).low - 1) (slice_index f (ends d r).low)
      (omega (arith, le, known.ordered, known.within)) (colour_below t d f has (ends d r).low (omega (arith, known.ordered, known.within)))

  strand_next : (c : ℕ) → (ends d r).low < c → walk_to t d f r (c + 1) ≡ cond (covers d c r) (under t d f (walk_to t d f r c) c) (walk_to t d f r c)
  strand_next c lt =
      let longer : c + 1 - (ends d r).low - 1 ≡ c - (ends d r).low - 1 + 1 = omega (arith, lt) in
      let place : (ends d r).low + 1 + (c - (ends d r).low - 1) ≡ c = omega (arith, lt) in
      ap (λ n. fold (under t d f) (slice_index f (ends d r).low) (filter (λ b. covers d b r) (range_with_len ((ends d r).low + 1) n))) longer
      ∙ (fold_longer (under t d f) (slice_index f (ends d r).low) (λ b. covers d b r) ((ends d r).low + 1) (c - (ends d r).low - 1)
      ∙ ap (λ i. cond (covers d i r) (under t d f (walk_to t d f r c) i) (walk_to t d f r c)) place)

  -- up to the left end nothing parts them
  not_begun : (c : ℕ) → c ≤ (ends d r).low → region t d f u (height_across d r) c ≡ region t d f u (height_beside d r) c
  not_begun c le =
      ap (fold (under t d f) u) (filter_range (covers_height d (height_across d r)) (covers_height d (height_beside d r)) 0 c (λ i lt.
      let both = both_heights d f r i known (omega (arith, lt, le, known.ordered, known.within)) (λ e. omega (arith, lt, le, e))
      (λ e. omega (arith, lt, le, e, known.ordered)) in
      both.1 ∙ sym both.0))

  -- behind the left end its strand does
  first : IsParted t d f u r ((ends d r).low + 1)
  first =
      let inside : (ends d r).low < size d = omega (arith, known.ordered, known.within) in
      let marks = end_marks d grid r lr in
      let apart = no_cell_twice d grid (ends d r).low inside in
      let ly : slice_index f (ends d r).low < t.order = colour_below t d f has (ends d r).low inside in
      let near : covers_height d (height_beside d r) (ends d r).low ≡ is_up d (ends d r).low =
      left_height (slice_index d.x (ends d r).low) (slice_index d.o (ends d r).low) r (is_rightward d r) apart marks.low_ring marks.low_cross in
      let far : covers_height d (height_across d r) (ends d r).low ≡ not (is_up d (ends d r).low) =
      far_height (slice_index d.x (ends d r).low) (slice_index d.o (ends d r).low) r (is_rightward d r) apart marks.low_ring marks.low_cross in
      let before = not_begun (ends d r).low (omega arith) in
      let none : (ends d r).low + 1 - (ends d r).low - 1 ≡ 0 = omega arith in
      let strand : walk_to t d f r ((ends d r).low + 1) ≡ slice_index f (ends d r).low =
      ap (λ n. fold (under t d f) (slice_index f (ends d r).low) (filter (λ b. covers d b r) (range_with_len ((ends d r).low + 1) n))) none in
      let one : region t d f u (height_across d r) ((ends d r).low + 1)
      ≡ cond (not (is_up d (ends d r).low)) (under t d f (region t d f u (height_beside d r) (ends d r).low) (ends d r).low)
      (region t d f u (height_beside d r) (ends d r).low) =
      region_next t d f u (height_across d r) (ends d r).low ∙ ap₂ (λ b v. cond b (under t d f v (ends d r).low) v) far before in
      let two : region t d f u (height_beside d r) ((ends d r).low + 1)
      ≡ cond (is_up d (ends d r).low) (under t d f (region t d f u (height_beside d r) (ends d r).low) (ends d r).low)
      (region t d f u (height_beside d r) (ends d r).low) =
      region_next t d f u (height_beside d r) (ends d r).low ∙ ap (λ b. cond b (under t d f (region t d f u (height_beside d r) (ends d r).low)
      (ends d r).low) (region t d f u (height_beside d r) (ends d r).low)) near in
      one ∙ (by_way (is_up d (ends d r).low) (region t d f u (height_beside d r) (ends d r).low) (slice_index f (ends d r).low)
      (region_below (height_beside d r) (ends d r).low (omega (arith, inside))) ly
      ∙ ap₂ (λ v x. over t v x) (sym two) (sym strand))
    where
      by_way : (up : Bool) (v y : ℕ) → v < t.order → y < t.order
          → cond (not up) (passed_rightward t up v y) v ≡ over t (cond up (passed_rightward t up v y) v) y
      by_way true v y lv ly = sym (q.over_back v y lv ly)
      by_way false v y lv ly = refl

  further : (c : ℕ) → (ends d r).low < c → c < (ends d r).high → IsParted t d f u r c → IsParted t d f u r (c + 1)
  further c low high parted =
      let inside : c < size d = omega (arith, high, known.within) in
      let both = both_heights d f r c known inside (λ e. omega (arith, e, low)) (λ e. omega (arith, e, high)) in
      region_next t d f u (height_across d r) c
      ∙ (ap (λ b. cond b (under t d f (region t d f u (height_across d r) c) c) (region t d f u (height_across d r) c)) both.1
      ∙ (by_test (covers d c r) parted (region_below (height_beside d r) c (omega (arith, inside))) (strand_below c (omega (arith, inside)))
      (colour_below t d f has c inside)
      ∙ ap₂ (λ v x. over t v x)
      (sym (region_next t d f u (height_beside d r) c
      ∙ ap (λ b. cond b (under t d f (region t d f u (height_beside d r) c) c) (region t d f u (height_beside d r) c)) both.0))
      (sym (strand_next c low))))
    where
      by_test : (b : Bool) → IsParted t d f u r c → region t d f u (height_beside d r) c < t.order → walk_to t d f r c < t.order → slice_index f c < t.order
          → cond b (under t d f (region t d f u (height_across d r) c) c) (region t d f u (height_across d r) c)
          ≡ over t (cond b (under t d f (region t d f u (height_beside d r) c) c) (region t d f u (height_beside d r) c))
          (cond b (under t d f (walk_to t d f r c) c) (walk_to t d f r c))
      by_test true parted lv lx ly =
          ap (λ v. under t d f v c) parted
          ∙ carried t q (is_up d c) (region t d f u (height_beside d r) c) (walk_to t d f r c) (slice_index f c) lv lx ly
      by_test false parted lv lx ly = parted

  pub parted : (n c : ℕ) → (ends d r).low + 1 + n ≡ c → c ≤ (ends d r).high → IsParted t d f u r c
  parted zero c e le = let at : (ends d r).low + 1 ≡ c = omega (arith, e) in subst (λ (i : ℕ). IsParted t d f u r i) at first
  parted (suc n) c e le =
      let at : (ends d r).low + 1 + n + 1 ≡ c = omega (arith, e) in
      subst (λ (i : ℕ). IsParted t d f u r i) at
      (further ((ends d r).low + 1 + n) (omega arith) (omega (arith, e, le)) (parted n ((ends d r).low + 1 + n) refl (omega (arith, e, le))))

  -- behind the right end nothing does
  ended : walk_to t d f r (ends d r).high ≡ slice_index f (ends d r).high
      → region t d f u (height_across d r) ((ends d r).high + 1) ≡ region t d f u (height_beside d r) ((ends d r).high + 1)
  ended closes =
      let marks = end_marks d grid r lr in
      let apart = no_cell_twice d grid (ends d r).high known.within in
      let ly : slice_index f (ends d r).high < t.order = colour_below t d f has (ends d r).high known.within in
      let last = parted ((ends d r).high - (ends d r).low - 1) (ends d r).high (omega (arith, known.ordered)) (omega arith) in
      let heights = right_heights (is_rightward d r) apart marks.high_cross marks.high_ring in
      region_next t d f u (height_across d r) (ends d r).high
      ∙ (ap₂ (λ b v. cond b (under t d f v (ends d r).high) v) heights.1 (last ∙ ap (over t (region t d f u (height_beside d r) (ends d r).high)) closes)
      ∙ (by_way (is_up d (ends d r).high) (region t d f u (height_beside d r) (ends d r).high) (slice_index f (ends d r).high)
      (region_below (height_beside d r) (ends d r).high (omega (arith, known.within))) ly
      ∙ sym (region_next t d f u (height_beside d r) (ends d r).high
      ∙ ap (λ b. cond b (under t d f (region t d f u (height_beside d r) (ends d r).high) (ends d r).high)
      (region t d f u (height_beside d r) (ends d r).high)) heights.0)))
    where
      by_way : (up : Bool) (v y : ℕ) → v < t.order → y < t.order
          → cond up (passed_rightward t up (over t v y) y) (over t v y) ≡ cond (not up) (passed_rightward t up v y) v
      by_way true v y lv ly = q.back_over v y lv ly
      by_way false v y lv ly = refl

      right_heights : (b : Bool) → slice_index d.x (ends d r).high ≢ slice_index d.o (ends d r).high → (b ≡ true → slice_index d.x (ends d r).high ≡ r)
          → (b ≡ false → slice_index d.o (ends d r).high ≡ r)
          → (covers_height d (cond b r (r + 1)) (ends d r).high ≡ not (is_up d (ends d r).high))
          × (covers_height d (cond b (r + 1) r) (ends d r).high ≡ is_up d (ends d r).high)
      right_heights true n cross ring = (
        far_height (slice_index d.x (ends d r).high) (slice_index d.o (ends d r).high) r false n (λ e. absurd (false≢true e)) (λ e. cross refl),
        left_height (slice_index d.x (ends d r).high) (slice_index d.o (ends d r).high) r false n (λ e. absurd (false≢true e)) (λ e. cross refl),
      )
      right_heights false n cross ring = (
        far_height (slice_index d.x (ends d r).high) (slice_index d.o (ends d r).high) r true n (λ e. ring refl) (λ e. absurd (false≢true (sym e))),
        left_height (slice_index d.x (ends d r).high) (slice_index d.o (ends d r).high) r true n (λ e. ring refl) (λ e. absurd (false≢true (sym e))),
      )

  pub behind : walk_to t d f r (ends d r).high ≡ slice_index f (ends d r).high → (n c : ℕ) → (ends d r).high + 1 + n ≡ c → c ≤ size d
      → region t d f u (height_across d r) c ≡ region t d f u (height_beside d r) c
  behind closes zero c e le =
      let at : (ends d r).high + 1 ≡ c = omega (arith, e) in
      subst (λ (i : ℕ). region t d f u (height_across d r) i ≡ region t d f u (height_beside d r) i) at (ended closes)
  behind closes (suc n) c e le =
      let at : (ends d r).high + 1 + n + 1 ≡ c = omega (arith, e) in
      let both = both_heights d f r ((ends d r).high + 1 + n) known (omega (arith, e, le)) (λ i. omega (arith, i, known.ordered)) (λ i. omega (arith, i)) in
      subst (λ (i : ℕ). region t d f u (height_across d r) i ≡ region t d f u (height_beside d r) i) at
      (region_next t d f u (height_across d r) ((ends d r).high + 1 + n)
      ∙ (ap₂ (λ b v. cond b (under t d f v ((ends d r).high + 1 + n)) v) (both.1 ∙ sym both.0)
      (behind closes n ((ends d r).high + 1 + n) refl (omega (arith, e, le)))
      ∙ sym (region_next t d f u (height_beside d r) ((ends d r).high + 1 + n))))

-- in the order of the heights
by_height : (t : Table) (d : Diagram) (f : List ℕ) (u r c : ℕ) → region t d f u (height_across d r) c ≡ region t d f u (height_beside d r) c
    → region t d f u (r + 1) c ≡ region t d f u r c
by_height t d f u r c = by_way (is_rightward d r)
  where
    by_way : (b : Bool) → region t d f u (cond b (r + 1) r) c ≡ region t d f u (cond b r (r + 1)) c → region t d f u (r + 1) c ≡ region t d f u r c
    by_way true e = e
    by_way false e = sym e

pub between_ends : (t : Table) (d : Diagram) (f : List ℕ) (u r c : ℕ) → IsQuandle t → IsGrid d → IsColouring t d f → u < t.order → r < size d
    → (ends d r).low < c → c ≤ (ends d r).high → IsParted t d f u r c
between_ends t d f u r c q grid colouring lu lr low high =
    parted t q d grid f (colours_of t d grid f colouring) u lu r lr (are_ends d grid r lr) (c - (ends d r).low - 1) c (omega (arith, low)) high

pub before_begin : (t : Table) (d : Diagram) (f : List ℕ) (u r c : ℕ) → IsQuandle t → IsGrid d → IsColouring t d f → u < t.order → r < size d
    → c ≤ (ends d r).low → region t d f u (r + 1) c ≡ region t d f u r c
before_begin t d f u r c q grid colouring lu lr le =
    by_height t d f u r c (not_begun t q d grid f (colours_of t d grid f colouring) u lu r lr (are_ends d grid r lr) c le)

pub behind_end : (t : Table) (d : Diagram) (f : List ℕ) (u r c : ℕ) → IsQuandle t → IsGrid d → IsColouring t d f → u < t.order → r < size d
    → (ends d r).high < c → c ≤ size d → region t d f u (r + 1) c ≡ region t d f u r c
behind_end t d f u r c q grid colouring lu lr high le =
    by_height t d f u r c (behind t q d grid f (colours_of t d grid f colouring) u lu r lr (are_ends d grid r lr) (colouring.rows r lr)
    (c - (ends d r).high - 1) c (omega (arith, high)) le)

none_passes : (p : ℕ → Bool) (n : ℕ) → ((c : ℕ) → c < n → p c ≡ false) → filter p (range_with_len 0 n) ≡ []
none_passes p n fails = filter_range p (λ c. false) 0 n (λ c lt. fails c (omega (arith, lt))) ∙ none (range_with_len 0 n)
  where
    none : (cs : List ℕ) → filter (λ (c : ℕ). false) cs ≡ []
    none [] = refl
    none (c ∷ cs) = none cs

-- no column lies below all rows, and none above them
pub below_all : (t : Table) (d : Diagram) (f : List ℕ) (u c : ℕ) → region t d f u 0 c ≡ u
below_all t d f u c = ap (fold (under t d f) u) (none_passes (covers_height d 0) c (λ i lt. low (slice_index d.x i) (slice_index d.o i)))
  where
    low : (x o : ℕ) → (nat_lt (span x o).low 0 && nat_le 0 (span x o).high) ≡ false
    low x o = grind (arith, nat_tests)

pub above_all : (t : Table) (d : Diagram) (f : List ℕ) (u c : ℕ) → IsGrid d → c ≤ size d → region t d f u (size d) c ≡ u
above_all t d f u c grid le =
    ap (fold (under t d f) u) (none_passes (covers_height d (size d)) c (λ i lt.
    let inside : i < size d = omega (arith, lt, le) in
    high (slice_index d.x i) (slice_index d.o i) (row_below d grid Cross i inside) (row_below d grid Ring i inside)))
  where
    high : (x o : ℕ) → x < size d → o < size d → (nat_lt (span x o).low (size d) && nat_le (size d) (span x o).high) ≡ false
    high x o lx lo = grind (arith, nat_tests, lx, lo)
