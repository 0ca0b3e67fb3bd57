-- The passages along some columns of a strand, one after another.
use Rattle.std.proofs.Common.{◌≡◌, ◌<◌, ◌≤◌, ◌+◌, ◌-◌, ◌++◌, ◌∙◌, ◌∷◌, ℕ, zero, suc, List, get_or, fold, refl, sym, ap, ap₂, subst, arith}
use Rattle.std.specs.List.{range_with_len, flat_map}
use Rattle.std.proofs.lemmas.List.{append-nil}
use Rattle.std.proofs.lemmas.List.Concat.{flat_map-append}
use Rattle.std.proofs.lemmas.List.Folds.{flat_map-map}
use Rattle.std.proofs.lemmas.List.Sums.{fold-append}
use Rattle.grid_core.specs.declared.mark.Kind.TheVariants.{Ring}
use Rattle.grid_core.specs.Diagram.{Diagram, IsGrid, size, row_of}
use Rattle.grid_core.specs.Parts.{column_of, is_up}
use Rattle.grid_core.proofs.Marks.{row_below, column_is}
use Rattle.quandle_core.specs.Quandle.{Table, IsQuandle}
use Rattle.colour_rows.specs.Colouring.{IsColouring}
use Rattle.crossing_codes.specs.declared.passages.Passage.{Passage}
use Rattle.crossing_codes.specs.Components.{next_column, column_after, round_length}
use Rattle.crossing_codes.specs.Passages.{as_met, passed_over, along_column, along_row, along, passages_from}
use Rattle.crossing_codes.specs.OnTheWay.{passing}
use Rattle.crossing_codes.proofs.ColumnsAfter.{after_below, after_add, round_is}
use Rattle.crossing_codes.proofs.RowWalks.{Scans, scans_append, column_scans, column_keeps, coloured_from, row_run}

pub range_split : (a m n : ℕ) → range_with_len a (m + n) ≡ range_with_len a m ++ range_with_len (a + m) n
range_split a zero n =
    let e : zero + n ≡ n = omega arith in
    let f : a ≡ a + zero = omega arith in ap (range_with_len a) e ∙ ap (λ (i : ℕ). range_with_len i n) f
range_split a (suc m) n =
    let e : suc m + n ≡ suc (m + n) = omega arith in
    let f : a + 1 + m ≡ a + suc m = omega arith in
    ap (range_with_len a) e ∙ ap (λ xs. a ∷ xs) (range_split (a + 1) m n ∙ ap (λ (i : ℕ). range_with_len (a + 1) m ++ range_with_len i n) f)

-- the passages along m columns of the strand through s, from the a-th on
abbrev pub legs : Diagram → ℕ → ℕ → ℕ → List Passage
legs d s a m = flat_map (λ k. along d (column_after d k s)) (range_with_len a m)

pub round_legs : (d : Diagram) (s : ℕ) → passages_from d s ≡ legs d s 0 (round_length d s)
round_legs d s = flat_map-map (along d) (λ k. column_after d k s) (range_with_len 0 (round_length d s))

pub legs_split : (d : Diagram) (s a m n : ℕ) → legs d s a (m + n) ≡ legs d s a m ++ legs d s (a + m) n
legs_split d s a m n =
    ap (flat_map (λ k. along d (column_after d k s))) (range_split a m n)
    ∙ flat_map-append (λ k. along d (column_after d k s)) (range_with_len a m) (range_with_len (a + m) n)

pub legs_more : (d : Diagram) (s a m : ℕ) → legs d s a (suc m) ≡ legs d s a m ++ along d (column_after d (a + m) s)
legs_more d s a m =
    let e : suc m ≡ m + 1 = omega arith in
    ap (legs d s a) e ∙ (legs_split d s a m 1 ∙ ap (λ ps. legs d s a m ++ ps) (append-nil (along d (column_after d (a + m) s))))

-- those of the strand through a later column
pub legs_shift : (d : Diagram) (s i a m : ℕ) → legs d (column_after d i s) a m ≡ legs d s (a + i) m
legs_shift d s i a zero = refl
legs_shift d s i a (suc m) =
    let e : a + 1 + i ≡ a + i + 1 = omega arith in
    ap₂ (λ (ps qs : List Passage). ps ++ qs) (ap (along d) (sym (after_add d a i s))) (legs_shift d s i (a + 1) m ∙ ap (λ (j : ℕ). legs d s j m) e)

-- once round
pub legs_wrap : (d : Diagram) (s n : ℕ) → column_after d n s ≡ s → (a m : ℕ) → legs d s (a + n) m ≡ legs d s a m
legs_wrap d s n back a m = sym (legs_shift d s n a m) ∙ ap (λ (z : ℕ). legs d z a m) back

-- the passages of a component from a later column on: the rest of the round, and then those before it
pub turned_round : (d : Diagram) → IsGrid d → (s i : ℕ) → s < size d → i ≤ round_length d s
    → legs d (column_after d i s) 0 (round_length d s) ≡ legs d s i (round_length d s - i) ++ legs d s 0 i
turned_round d grid s i lt most =
    let n = round_length d s in
    let whole : n ≡ n - i + i = omega arith in
    let on : i + (n - i) ≡ 0 + n = omega arith in
    legs_shift d s i 0 n
    ∙ (let e : 0 + i ≡ i = omega arith in ap (λ (j : ℕ). legs d s j n) e)
    ∙ (ap (legs d s i) whole
    ∙ (legs_split d s i (n - i) i
    ∙ ap (λ ps. legs d s i (n - i) ++ ps) (ap (λ (j : ℕ). legs d s j i) on ∙ legs_wrap d s n (round_is d grid s lt).back 0 i)))

-- a colouring, followed along a column and the row of its O
pub record Follows (t : Table) (d : Diagram) (f : List ℕ) (x y : ℕ) (ps : List Passage) : Type 0 where
  pub scans : Scans t d f x ps
  pub ends : fold (passing t d f) x ps ≡ y

pub along_follows : (t : Table) (d : Diagram) (f : List ℕ) → IsGrid d → IsQuandle t → IsColouring t d f → (c : ℕ) → c < size d
    → Follows t d f (get_or f c 0) (get_or f (next_column d c) 0) (along d c)
along_follows t d f grid q colouring c lt =
    let r = row_of Ring d c in
    let below = row_below d grid Ring c lt in
    let itself : column_of Ring d r ≡ c = column_is d grid Ring c r (record { inside = lt; row = refl }) in
    let run = row_run t d f r grid (coloured_from t d f q colouring.colours_are) below (colouring.rows r below) in
    let x = get_or f c 0 in
    let first = get_or f (column_of Ring d r) 0 in
    let same : first ≡ x = ap (λ k. get_or f k 0) itself in
    let kept : fold (passing t d f) x (along_column d c) ≡ x = column_keeps t d f c x (as_met (is_up d c) (passed_over d c)) in
    record {
      scans = scans_append t d f x (along_column d c) (along_row d r) (column_scans t d f c (as_met (is_up d c) (passed_over d c)))
          (subst (λ y. Scans t d f y (along_row d r)) (sym (kept ∙ sym same)) run.scans);
      ends = fold-append (passing t d f) x (along_column d c) (along_row d r) ∙ (ap (λ y. fold (passing t d f) y (along_row d r)) (kept ∙ sym same) ∙ run.ends);
    }

pub legs_follow : (t : Table) (d : Diagram) (f : List ℕ) → IsGrid d → IsQuandle t → IsColouring t d f → (s m : ℕ) → s < size d
    → Follows t d f (get_or f s 0) (get_or f (column_after d m s) 0) (legs d s 0 m)
legs_follow t d f grid q colouring s zero lt = record { scans = tt; ends = refl }
legs_follow t d f grid q colouring s (suc m) lt =
    let so_far = legs_follow t d f grid q colouring s m lt in
    let e : 0 + m ≡ m = omega arith in
    let more = along_follows t d f grid q colouring (column_after d m s) (after_below d grid m s lt) in
    let split : legs d s 0 (suc m) ≡ legs d s 0 m ++ along d (column_after d m s) =
    legs_more d s 0 m ∙ ap (λ (j : ℕ). legs d s 0 m ++ along d (column_after d j s)) e in
    record {
      scans = subst (λ ps. Scans t d f (get_or f s 0) ps) (sym split)
          (scans_append t d f (get_or f s 0) (legs d s 0 m) (along d (column_after d m s)) so_far.scans
          (subst (λ y. Scans t d f y (along d (column_after d m s))) (sym so_far.ends) more.scans));
      ends =
          ap (fold (passing t d f) (get_or f s 0)) split
          ∙ (fold-append (passing t d f) (get_or f s 0) (legs d s 0 m) (along d (column_after d m s))
          ∙ (ap (λ y. fold (passing t d f) y (along d (column_after d m s))) so_far.ends ∙ more.ends));
    }

-- and all the way round
pub round_follows : (t : Table) (d : Diagram) (f : List ℕ) → IsGrid d → IsQuandle t → IsColouring t d f → (s : ℕ) → s < size d
    → Follows t d f (get_or f s 0) (get_or f s 0) (passages_from d s)
round_follows t d f grid q colouring s lt =
    let run = legs_follow t d f grid q colouring s (round_length d s) lt in
    let home : get_or f (column_after d (round_length d s) s) 0 ≡ get_or f s 0 = ap (λ k. get_or f k 0) (round_is d grid s lt).back in
    subst (λ ps. Follows t d f (get_or f s 0) (get_or f s 0) ps) (sym (round_legs d s))
    (subst (λ y. Follows t d f (get_or f s 0) y (legs d s 0 (round_length d s))) home run)
