-- Colours along a column and along a row: the walk of a row, taken in the direction of its strand.
use Rattle.std.proofs.Common.{◌≡◌, ◌<◌, ◌≤◌, ◌+◌, ◌-◌, ◌++◌, ◌∙◌, ◌∷◌, [], inl, inr, ℕ, zero, suc, Bool, true, false, cond, List, length}
use Rattle.std.proofs.Common.{map, take, reverse, get_or, fold, refl, sym, ap, subst, arith}
use Rattle.std.specs.Prelude.{if◌then◌else◌}
use Rattle.std.specs.List.{range_with_len, filter}
use Rattle.std.proofs.lemmas.Bool.{cases_Bool, ltb-true, ltb-false}
use Rattle.std.proofs.lemmas.List.{reverse-append}
use Rattle.std.proofs.lemmas.List.Elements.{filter-append, All-get_or}
use Rattle.std.proofs.lemmas.List.Sums.{fold-append}
use Rattle.grid_core.specs.declared.mark.Kind.TheVariants.{Cross, Ring}
use Rattle.grid_core.specs.Diagram.{Diagram, IsGrid, size}
use Rattle.grid_core.specs.Parts.{column_of, covers, is_up, is_rightward}
use Rattle.grid_core.proofs.OneEach.{range_more}
use Rattle.quandle_core.specs.Quandle.{Table, IsQuandle, over, back}
use Rattle.colour_rows.specs.Walk.{under, passed, walk, walk_to}
use Rattle.colour_rows.specs.Colouring.{AreColours}
use Rattle.grid_core.proofs.Ends.{left, right, has_ends, span_low, span_high}
use Rattle.colour_rows.proofs.Walks.{past, turn_stays, return_stays, turn_return}
use Rattle.crossing_codes.specs.declared.passages.Passage.{Passage}
use Rattle.crossing_codes.specs.Passages.{through, as_met, along_row}
use Rattle.crossing_codes.specs.EdgeColouring.{arriving}
use Rattle.crossing_codes.specs.OnTheWay.{passing}
use Rattle.crossing_codes.proofs.Members.{Has, of_filter, of_range}
use Rattle.crossing_codes.proofs.Crossings.{cell}
use Rattle.quandle_core.proofs.Accepted.{apart_in_column}

-- from colour x on, the strand comes to each passage with the colour that it has so far
abbrev pub Scans : Table → Diagram → List ℕ → ℕ → List Passage → Type 0
Scans t d f x [] = Unit {0}
Scans t d f x (p ∷ ps) = (arriving t d f p ≡ x) × Scans t d f (passing t d f x p) ps

pub scans_append : (t : Table) (d : Diagram) (f : List ℕ) (x : ℕ) (ps qs : List Passage) → Scans t d f x ps
    → Scans t d f (fold (passing t d f) x ps) qs → Scans t d f x (ps ++ qs)
scans_append t d f x [] qs a b = b
scans_append t d f x (p ∷ ps) qs a b = (a.0, scans_append t d f (passing t d f x p) ps qs a.1 b)

pub scans_at : (t : Table) (d : Diagram) (f : List ℕ) (x : ℕ) (ps : List Passage) (k : ℕ) (z : Passage) → Scans t d f x ps → k < length ps
    → arriving t d f (get_or ps k z) ≡ fold (passing t d f) x (take k ps)
scans_at t d f x [] k z a lt = absurd (omega arith)
scans_at t d f x (p ∷ ps) zero z a lt = a.0
scans_at t d f x (p ∷ ps) (suc k) z a lt = scans_at t d f (passing t d f x p) ps k z a.1 (omega arith)

-- along a column the colour stays
pub column_scans : (t : Table) (d : Diagram) (f : List ℕ) (c : ℕ) (rows : List ℕ) → Scans t d f (get_or f c 0) (map (λ r. through true (cell c r)) rows)
column_scans t d f c [] = tt
column_scans t d f c (r ∷ rows) = (refl, column_scans t d f c rows)

pub column_keeps : (t : Table) (d : Diagram) (f : List ℕ) (c x : ℕ) (rows : List ℕ) → fold (passing t d f) x (map (λ r. through true (cell c r)) rows) ≡ x
column_keeps t d f c x [] = refl
column_keeps t d f c x (r ∷ rows) = column_keeps t d f c x rows

-- colours below the order
pub record Coloured (t : Table) (d : Diagram) (f : List ℕ) : Type 0 where
  pub quandle : IsQuandle t
  pub below : (c : ℕ) → c < size d → get_or f c 0 < t.order

pub coloured_from : (t : Table) (d : Diagram) (f : List ℕ) → IsQuandle t → AreColours (size d) t.order f → Coloured t d f
coloured_from t d f q colours = record {
  quandle = q;
  below = λ c lt. All-get_or (λ y. y < t.order) f c 0 (let n = colours.0 in omega arith) colours.1;
}

once_back : (t : Table) → IsQuandle t → (x z y : ℕ) → x < t.order → z < t.order → y < t.order → back t x y ≡ back t z y → x ≡ z
once_back t q x z y hx hz hy e = sym (q.over_back x y hx hy) ∙ (ap (λ w. over t w y) e ∙ q.over_back z y hz hy)

once_by : (t : Table) → IsQuandle t → (above rightward up : Bool) (x z y : ℕ) → x < t.order → z < t.order → y < t.order
    → (if above then x else (if rightward then (if up then back t x y else over t x y) else (if up then over t x y else back t x y)))
    ≡ (if above then z else (if rightward then (if up then back t z y else over t z y) else (if up then over t z y else back t z y)))
    → x ≡ z
once_by t q true r u x z y hx hz hy e = e
once_by t q false true true x z y hx hz hy e = once_back t q x z y hx hz hy e
once_by t q false true false x z y hx hz hy e = apart_in_column t q x z y hx hz hy e
once_by t q false false true x z y hx hz hy e = apart_in_column t q x z y hx hz hy e
once_by t q false false false x z y hx hz hy e = once_back t q x z y hx hz hy e

stays_by : (t : Table) → IsQuandle t → (above rightward up : Bool) (x y : ℕ) → x < t.order → y < t.order
    → (if above then x else (if rightward then (if up then back t x y else over t x y) else (if up then over t x y else back t x y))) < t.order
stays_by t q true r u x y hx hy = hx
stays_by t q false true u x y hx hy = turn_stays t q u x y hx hy
stays_by t q false false u x y hx hy = return_stays t q u x y hx hy

pub passing_stays : (t : Table) (d : Diagram) (f : List ℕ) → Coloured t d f → (x : ℕ) (p : Passage) → p.column < size d → x < t.order
    → passing t d f x p < t.order
passing_stays t d f c x p inside at = stays_by t c.quandle p.over (is_rightward d p.row) (is_up d p.column) x (get_or f p.column 0) at (c.below p.column inside)

pub passing_once : (t : Table) (d : Diagram) (f : List ℕ) → Coloured t d f → (x z : ℕ) (p : Passage) → p.column < size d → x < t.order → z < t.order
    → passing t d f x p ≡ passing t d f z p → x ≡ z
passing_once t d f c x z p inside hx hz e =
    once_by t c.quandle p.over (is_rightward d p.row) (is_up d p.column) x z (get_or f p.column 0) hx hz (c.below p.column inside) e

pub run_once : (t : Table) (d : Diagram) (f : List ℕ) → Coloured t d f → (x z : ℕ) (ps : List Passage)
    → ((p : Passage) → Has ps p → p.column < size d) → x < t.order → z < t.order → fold (passing t d f) x ps ≡ fold (passing t d f) z ps → x ≡ z
run_once t d f c x z [] inside hx hz e = e
run_once t d f c x z (p ∷ ps) inside hx hz e =
    let here = inside p (inl refl) in
    passing_once t d f c x z p here hx hz
    (run_once t d f c (passing t d f x p) (passing t d f z p) ps (λ q h. inside q (inr h)) (passing_stays t d f c x p here hx)
    (passing_stays t d f c z p here hz) e)

fold_stays : (t : Table) (d : Diagram) (f : List ℕ) → Coloured t d f → (cs : List ℕ) → ((k : ℕ) → Has cs k → k < size d) → (x : ℕ) → x < t.order
    → fold (under t d f) x cs < t.order
fold_stays t d f c [] inside x at = at
fold_stays t d f c (k ∷ cs) inside x at =
    fold_stays t d f c cs (λ i h. inside i (inr h)) (under t d f x k) (turn_stays t c.quandle (is_up d k) x (get_or f k 0) at (c.below k (inside k (inl refl))))

pub walk_to_stays : (t : Table) (d : Diagram) (f : List ℕ) → Coloured t d f → (r a : ℕ) → left d r < size d → a ≤ size d → walk_to t d f r a < t.order
walk_to_stays t d f c r a start most =
    fold_stays t d f c (filter (λ b. covers d b r) (range_with_len (left d r + 1) (a - left d r - 1)))
    (λ k h. let m = of_range (left d r + 1) (a - left d r - 1) k
    (of_filter (λ b. covers d b r) (range_with_len (left d r + 1) (a - left d r - 1)) k h).0 in omega arith)
    (get_or f (left d r) 0) (c.below (left d r) start)

-- the walk one column further
pub walk_step : (t : Table) (d : Diagram) (f : List ℕ) (r a : ℕ) → left d r < a
    → walk_to t d f r (a + 1) ≡ (if covers d a r then under t d f (walk_to t d f r a) a else walk_to t d f r a)
walk_step t d f r a after =
    let m = a - left d r - 1 in
    let x = get_or f (left d r) 0 in
    let longer : a + 1 - left d r - 1 ≡ suc m = omega arith in
    let last : left d r + 1 + m ≡ a = omega arith in
    let p : ℕ → Bool = λ b. covers d b r in
    let cs = filter p (range_with_len (left d r + 1) m) in
    ap (λ (n : ℕ). fold (under t d f) x (filter p (range_with_len (left d r + 1) n))) longer
    ∙ (ap (λ (bs : List ℕ). fold (under t d f) x (filter p bs)) (range_more m (left d r + 1) ∙ ap (λ (b : ℕ). range_with_len (left d r + 1) m ++ b ∷ []) last)
    ∙ (ap (fold (under t d f) x) (filter-append p (range_with_len (left d r + 1) m) (a ∷ []))
    ∙ (fold-append (under t d f) x cs (filter p (a ∷ []))
    ∙ one (covers d a r) (fold (under t d f) x cs))))
  where
    one : (b : Bool) (w : ℕ) → fold (under t d f) w (cond b (a ∷ []) []) ≡ (if b then under t d f w a else w)
    one true w = refl
    one false w = refl

-- the passages of row r under the columns among m from a on
abbrev pub unders : Diagram → ℕ → List ℕ → List Passage
unders d r cs = map (λ c. through false (cell c r)) cs

-- to the right
right_scans : (t : Table) (d : Diagram) (f : List ℕ) (r : ℕ) → is_rightward d r ≡ true → (m a : ℕ) → left d r < a
    → Scans t d f (walk_to t d f r a) (unders d r (filter (λ b. covers d b r) (range_with_len a m))) × (fold (passing t d f) (walk_to t d f r a) (unders d r (filter (λ b. covers d b r) (range_with_len a m))) ≡ walk_to t d f r (a + m))
right_scans t d f r rightward zero a after = (tt, let e : a ≡ a + 0 = omega arith in ap (walk_to t d f r) e)
right_scans t d f r rightward (suc m) a after =
    let further : a + 1 + m ≡ a + suc m = omega arith in
    by (covers d a r) refl (right_scans t d f r rightward m (a + 1) (omega arith)) (walk_step t d f r a after) further
  where
    rest : List ℕ
    rest = filter (λ b. covers d b r) (range_with_len (a + 1) m)

    by : (b : Bool) → covers d a r ≡ b
        → Scans t d f (walk_to t d f r (a + 1)) (unders d r rest) × (fold (passing t d f) (walk_to t d f r (a + 1)) (unders d r rest) ≡ walk_to t d f r (a + 1 + m))
        → walk_to t d f r (a + 1) ≡ (if covers d a r then under t d f (walk_to t d f r a) a else walk_to t d f r a)
        → a + 1 + m ≡ a + suc m
        → Scans t d f (walk_to t d f r a) (unders d r (cond (covers d a r) (a ∷ rest) rest)) × (fold (passing t d f) (walk_to t d f r a) (unders d r (cond (covers d a r) (a ∷ rest) rest)) ≡ walk_to t d f r (a + suc m))
    by true is later next further =
        let w = walk_to t d f r a in
        let after : passing t d f w (through false (cell a r)) ≡ walk_to t d f r (a + 1) =
        ap (λ b. if b then under t d f w a else past t d f w a) rightward ∙ sym (next ∙ ap (λ b. if b then under t d f w a else w) is) in
        rw is (
          (ap (λ b. if b then w else under t d f w a) rightward, subst (λ x. Scans t d f x (unders d r rest)) (sym after) later.0),
          ap (λ x. fold (passing t d f) x (unders d r rest)) after ∙ (later.1 ∙ ap (walk_to t d f r) further),
        )
    by false is later next further =
        let same : walk_to t d f r (a + 1) ≡ walk_to t d f r a = next ∙ ap (λ b. if b then under t d f (walk_to t d f r a) a else walk_to t d f r a) is in
        rw is (
          subst (λ x. Scans t d f x (unders d r rest)) same later.0,
          ap (λ x. fold (passing t d f) x (unders d r rest)) (sym same) ∙ (later.1 ∙ ap (walk_to t d f r) further),
        )

-- to the left
left_scans : (t : Table) (d : Diagram) (f : List ℕ) (r : ℕ) → is_rightward d r ≡ false → Coloured t d f → left d r < size d → (m a : ℕ) → left d r < a
    → a + m ≤ size d
    → Scans t d f (walk_to t d f r (a + m)) (unders d r (reverse (filter (λ b. covers d b r) (range_with_len a m)))) × (fold (passing t d f) (walk_to t d f r (a + m)) (unders d r (reverse (filter (λ b. covers d b r) (range_with_len a m)))) ≡ walk_to t d f r a)
left_scans t d f r leftward c start zero a after most = (tt, let e : a + 0 ≡ a = omega arith in ap (walk_to t d f r) e)
left_scans t d f r leftward c start (suc m) a after most =
    let p : ℕ → Bool = λ b. covers d b r in
    let split : reverse (filter p (range_with_len a (suc m))) ≡ reverse (cond (p (a + m)) ((a + m) ∷ []) []) ++ reverse (filter p (range_with_len a m)) =
    ap (λ (bs : List ℕ). reverse (filter p bs)) (range_more m a)
    ∙ (ap (λ (bs : List ℕ). reverse bs) (filter-append p (range_with_len a m) ((a + m) ∷ []))
    ∙ reverse-append (filter p (range_with_len a m)) (cond (p (a + m)) ((a + m) ∷ []) [])) in
    let further : a + m + 1 ≡ a + suc m = omega arith in
    let within : walk_to t d f r (a + m) < t.order = walk_to_stays t d f c r (a + m) start (omega arith) in
    subst (λ (bs : List ℕ). Scans t d f
    (walk_to t d f r (a + suc m)) (unders d r bs) × (fold (passing t d f) (walk_to t d f r (a + suc m)) (unders d r bs) ≡ walk_to t d f r a)) (sym split)
    (by (covers d (a + m) r) (left_scans t d f r leftward c start m a after (omega arith))
    (sym (ap (walk_to t d f r) further) ∙ walk_step t d f r (a + m) (omega arith))
    (turn_return t c.quandle (is_up d (a + m)) (walk_to t d f r (a + m)) (get_or f (a + m) 0) within (c.below (a + m) (omega arith))))
  where
    rest : List ℕ
    rest = filter (λ b. covers d b r) (range_with_len a m)

    by : (b : Bool)
        → Scans t d f (walk_to t d f r (a + m)) (unders d r (reverse rest)) × (fold (passing t d f) (walk_to t d f r (a + m)) (unders d r (reverse rest)) ≡ walk_to t d f r a)
        → walk_to t d f r (a + suc m) ≡ (if b then under t d f (walk_to t d f r (a + m)) (a + m) else walk_to t d f r (a + m))
        → past t d f (under t d f (walk_to t d f r (a + m)) (a + m)) (a + m) ≡ walk_to t d f r (a + m)
        → Scans t d f (walk_to t d f r (a + suc m)) (unders d r (reverse (cond b ((a + m) ∷ []) []) ++ reverse rest)) × (fold (passing t d f) (walk_to t d f r (a + suc m)) (unders d r (reverse (cond b ((a + m) ∷ []) []) ++ reverse rest)) ≡ walk_to t d f r a)
    by true later next undone =
        let w = walk_to t d f r (a + m) in
        let before : passing t d f (walk_to t d f r (a + suc m)) (through false (cell (a + m) r)) ≡ w =
        ap (λ b. if b then under t d f (walk_to t d f r (a + suc m)) (a + m) else past t d f (walk_to t d f r (a + suc m)) (a + m)) leftward
        ∙ (ap (λ x. past t d f x (a + m)) next ∙ undone) in (
          (ap (λ b. if b then w else under t d f w (a + m)) leftward ∙ sym next, subst (λ x. Scans t d f x (unders d r (reverse rest))) (sym before) later.0),
          ap (λ x. fold (passing t d f) x (unders d r (reverse rest))) before ∙ later.1,
        )
    by false later next undone = (
      subst (λ x. Scans t d f x (unders d r (reverse rest))) (sym next) later.0,
      ap (λ x. fold (passing t d f) x (unders d r (reverse rest))) next ∙ later.1,
    )

-- the ends of a row in the direction of its strand
record Runs (d : Diagram) (r : ℕ) (from to : ℕ) : Type 0 where
  from_is : column_of Ring d r ≡ from
  to_is : column_of Cross d r ≡ to

runs_right : (d : Diagram) (r : ℕ) → is_rightward d r ≡ true → Runs d r (left d r) (right d r)
runs_right d r e =
    let lt = ltb-true (column_of Ring d r) (column_of Cross d r) e in
    let low = span_low (column_of Cross d r) (column_of Ring d r) in
    let high = span_high (column_of Cross d r) (column_of Ring d r) in
    record { from_is = omega arith; to_is = omega arith }

runs_left : (d : Diagram) (r : ℕ) → is_rightward d r ≡ false → Runs d r (right d r) (left d r)
runs_left d r e =
    let le = ltb-false (column_of Ring d r) (column_of Cross d r) e in
    let low = span_low (column_of Cross d r) (column_of Ring d r) in
    let high = span_high (column_of Cross d r) (column_of Ring d r) in
    record { from_is = omega arith; to_is = omega arith }

walk_begins : (t : Table) (d : Diagram) (f : List ℕ) (r : ℕ) → walk_to t d f r (left d r + 1) ≡ get_or f (left d r) 0
walk_begins t d f r =
    let e : left d r + 1 - left d r - 1 ≡ 0 = omega arith in
    ap (λ (n : ℕ). fold (under t d f) (get_or f (left d r) 0) (filter (λ b. covers d b r) (range_with_len (left d r + 1) n))) e

-- the walk of a row, taken in the direction of its strand
pub record RowRun (t : Table) (d : Diagram) (f : List ℕ) (r x y : ℕ) : Type 0 where
  pub scans : Scans t d f x (along_row d r)
  pub ends : fold (passing t d f) x (along_row d r) ≡ y

row_right : (t : Table) (d : Diagram) (f : List ℕ) (r : ℕ) → IsGrid d → r < size d → is_rightward d r ≡ true
    → RowRun t d f r (get_or f (left d r) 0) (walk t d f r)
row_right t d f r grid lt rightward =
    let ends = has_ends d grid r lt in
    let ordered = ends.ordered in
    let m = right d r - left d r - 1 in
    let whole : left d r + 1 + m ≡ right d r = omega arith in
    let run = right_scans t d f r rightward m (left d r + 1) (omega arith) in
    let same : along_row d r ≡ unders d r (passed d r) = ap (λ b. unders d r (as_met b (passed d r))) rightward in
    record {
      scans =
          subst (λ ps. Scans t d f (get_or f (left d r) 0) ps) (sym same) (subst (λ x. Scans t d f x (unders d r (passed d r))) (walk_begins t d f r) run.0);
      ends =
          ap (fold (passing t d f) (get_or f (left d r) 0)) same
          ∙ (ap (λ x. fold (passing t d f) x (unders d r (passed d r))) (sym (walk_begins t d f r)) ∙ (run.1 ∙ ap (walk_to t d f r) whole));
    }

row_left : (t : Table) (d : Diagram) (f : List ℕ) (r : ℕ) → IsGrid d → Coloured t d f → r < size d → is_rightward d r ≡ false
    → RowRun t d f r (walk t d f r) (get_or f (left d r) 0)
row_left t d f r grid c lt leftward =
    let ends = has_ends d grid r lt in
    let ordered = ends.ordered in
    let within = ends.within in
    let m = right d r - left d r - 1 in
    let whole : left d r + 1 + m ≡ right d r = omega arith in
    let run = left_scans t d f r leftward c (omega arith) m (left d r + 1) (omega arith) (omega arith) in
    let same : along_row d r ≡ unders d r (reverse (passed d r)) = ap (λ b. unders d r (as_met b (passed d r))) leftward in
    record {
      scans =
          subst (λ ps. Scans t d f (walk t d f r) ps) (sym same)
          (subst (λ x. Scans t d f x (unders d r (reverse (passed d r)))) (ap (walk_to t d f r) whole) run.0);
      ends =
          ap (fold (passing t d f) (walk t d f r)) same
          ∙ (ap (λ x. fold (passing t d f) x (unders d r (reverse (passed d r)))) (sym (ap (walk_to t d f r) whole)) ∙ (run.1 ∙ walk_begins t d f r));
    }

-- where the walk closes, the strand goes from the colour of the O's column to that of the X's
pub row_run : (t : Table) (d : Diagram) (f : List ℕ) (r : ℕ) → IsGrid d → Coloured t d f → r < size d → walk t d f r ≡ get_or f (right d r) 0
    → RowRun t d f r (get_or f (column_of Ring d r) 0) (get_or f (column_of Cross d r) 0)
row_run t d f r grid c lt closes = elim (cases_Bool (is_rightward d r)) [
  | inl rightward ↦
      let e = runs_right d r rightward in
      rw (e.from_is, e.to_is, ← closes) (row_right t d f r grid lt rightward)
  | inr leftward ↦
      let e = runs_left d r leftward in
      rw (e.from_is, e.to_is, ← closes) (row_left t d f r grid c lt leftward)
]

-- and the other way round
pub row_closes : (t : Table) (d : Diagram) (f : List ℕ) (r : ℕ) → IsGrid d → Coloured t d f → r < size d
    → ((p : Passage) → Has (along_row d r) p → p.column < size d)
    → fold (passing t d f) (get_or f (column_of Ring d r) 0) (along_row d r) ≡ get_or f (column_of Cross d r) 0 → walk t d f r ≡ get_or f (right d r) 0
row_closes t d f r grid c lt inside e =
    let ends = has_ends d grid r lt in
    let ordered = ends.ordered in
    let within = ends.within in
    elim (cases_Bool (is_rightward d r)) [
      | inl rightward ↦
          let run = row_right t d f r grid lt rightward in
          let at = runs_right d r rightward in
          sym run.ends ∙ (ap (λ k. fold (passing t d f) (get_or f k 0) (along_row d r)) (sym at.from_is) ∙ (e ∙ ap (λ k. get_or f k 0) at.to_is))
      | inr leftward ↦
          let run = row_left t d f r grid c lt leftward in
          let at = runs_left d r leftward in
          run_once t d f c (walk t d f r) (get_or f (right d r) 0) (along_row d r) inside
          (walk_to_stays t d f c r (right d r) (omega arith) (omega arith)) (c.below (right d r) within)
          (run.ends ∙ (ap (λ k. get_or f k 0) (sym at.to_is) ∙ (sym e ∙ ap (λ k. fold (passing t d f) (get_or f k 0) (along_row d r)) at.from_is)))
    ]
