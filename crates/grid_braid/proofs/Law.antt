-- The colours at the feet: a bijection from the colourings to the fixed points of the word's action.
use Rattle.std.proofs.Common.{◌≡◌, ◌<◌, ◌≤◌, ◌+◌, ◌∷◌, ◌++◌, ◌∙◌, [], ℕ, zero, suc, List, Bool, true, false, not, cond, All, length, get_or}
use Rattle.std.proofs.Common.{map, filter, take, arith, sym, refl, ap, ap₂, subst, length-append}
use Rattle.std.specs.List.{range_with_len}
use Rattle.std.proofs.lemmas.List.{length-map, take_more, take_all, map-append, append-nil, ext_get_or}
use Rattle.std.proofs.lemmas.List.Elements.{All-get_or, All-from_get_or, filter-append}
use Rattle.std.proofs.lemmas.List.FromFn.{length-map-range_with_len, get_or-map-range_with_len}
use Rattle.std.specs.Str.{bytes_eq}
use Rattle.std.proofs.lemmas.Slice.Eq.{bytes_eq-Decides}
use Rattle.std.proofs.lemmas.Bool.{not-false}
use Rattle.grid_core.specs.Diagram.{Diagram, IsGrid, size}
use Rattle.grid_core.specs.Parts.{is_up}
use Rattle.quandle_core.specs.Quandle.{Table, IsQuandle}
use Rattle.quandle_core.specs.Colours.{AreColours}
use Rattle.quandle_core.specs.Bijection.{IsBijection}
use Rattle.colour_rows.specs.Colouring.{IsColouring}
use Rattle.braid_core.specs.Action.{action}
use Rattle.braid_core.specs.FixedPoints.{IsFixedPoint}
use Rattle.grid_braid.specs.Strands.{strands_at, down_columns}
use Rattle.grid_braid.specs.Word.{letters_below, word_of_diagram}
use Rattle.grid_braid.specs.Feet.{strand_colours, at_feet}
use Rattle.grid_braid.specs.Sweep.{downs_before, laid, swept}
use Rattle.grid_braid.specs.Columns.{column_colours}
use Rattle.grid_braid.proofs.Ranges.{map_range, all_passing}
use Rattle.grid_braid.proofs.Turns.{strand_long, strand_colour, colour_below}
use Rattle.grid_braid.proofs.Walked.{Turned}
use Rattle.grid_braid.proofs.Closed.{row_arrives, row_closes}
use Rattle.grid_braid.proofs.Followed.{Arrives, followed, lowest_strands, highest_strands, same_arrivals}
use Rattle.grid_braid.proofs.Unwound.{strand_stays, column_stays, column_strands, strand_columns}
use Rattle.grid_braid.proofs.Swept.{swept_stays, feet_return, swept_arrives}
use Rattle.grid_core.proofs.OneEach.{range_next}

abbrev read : List ℕ → ℕ → ℕ
read ys c = get_or ys c 0

-- the strands of a colouring arrive
colouring_arrives : (t : Table) → IsQuandle t → (d : Diagram) → IsGrid d → (f : List ℕ) → IsColouring t d f → Arrives t d (read (strand_colours t d f))
colouring_arrives t q d grid f c = λ r lt.
    row_arrives t q d grid f c.colours_are.1 (read (strand_colours t d f)) (λ k inside. strand_colour t d f c.colours_are.0 k inside) r lt (c.rows r lt)

pub feet_colours : (t : Table) → IsQuandle t → (d : Diagram) (f : List ℕ) → AreColours (size d) t.order f
    → AreColours (length (down_columns d)) t.order (at_feet t d f)
feet_colours t q d f at =
    let e = strand_stays t q d f at in (
      length-map (down_columns d) (read (strand_colours t d f)),
      all_passing (λ c. not (is_up d c)) (λ y. y < t.order) (read (strand_colours t d f)) 0 (size d)
          (λ c least most passes. All-get_or (λ y. y < t.order) (strand_colours t d f) c 0 (omega (arith, e.0)) e.1),
    )

-- at each height the strands have the colours that the word has made of the feet
pub strands_follow : (t : Table) → IsQuandle t → (d : Diagram) → IsGrid d → (f : List ℕ) → IsColouring t d f → (h : ℕ) → h ≤ size d
    → map (read (strand_colours t d f)) (strands_at d h) ≡ action t (letters_below d h) (at_feet t d f)
strands_follow t q d grid f c h le =
    let e = read (strand_colours t d f) in
    sym (ap (λ (cs : List ℕ). action t (letters_below d h) (map e cs)) (sym (lowest_strands d)) ∙ followed t d grid e (colouring_arrives t q d grid f c) h le)

pub feet_fixed : (t : Table) → IsQuandle t → (d : Diagram) → IsGrid d → (f : List ℕ) → IsColouring t d f → IsFixedPoint t (word_of_diagram d) (at_feet t d f)
feet_fixed t q d grid f c = record {
  tuple = feet_colours t q d f c.colours_are;
  fixed = sym (strands_follow t q d grid f c (size d) (omega arith)) ∙ ap (map (read (strand_colours t d f))) (highest_strands d grid);
}

-- two colourings with the same feet are one
pub feet_single : (t : Table) → IsQuandle t → (d : Diagram) → IsGrid d → (f g : List ℕ) → IsColouring t d f → IsColouring t d g
    → at_feet t d f ≡ at_feet t d g → f ≡ g
feet_single t q d grid f g cf cg same =
    sym (strand_columns t q d f cf.colours_are)
    ∙ (ap (column_colours t d)
    (ext_get_or 0 (strand_colours t d f) (strand_colours t d g) (strand_long t d f cf.colours_are.0 ∙ sym (strand_long t d g cg.colours_are.0))
    (λ c lt. same_arrivals t d grid (read (strand_colours t d f)) (read (strand_colours t d g)) (colouring_arrives t q d grid f cf)
    (colouring_arrives t q d grid g cg) same c (omega (arith, strand_long t d f cf.colours_are.0))))
    ∙ strand_columns t q d g cg.colours_are)

-- the feet, laid on the down columns, are read back there
counted : (p : ℕ → Bool) (tuple : List ℕ) (n : ℕ) → length (filter p (range_with_len 0 n)) ≤ length tuple
    → map (λ c. get_or tuple (length (filter p (range_with_len 0 c))) 0) (filter p (range_with_len 0 n)) ≡ take (length (filter p (range_with_len 0 n))) tuple
counted p tuple zero le = refl
counted p tuple (suc n) le =
    let front = filter p (range_with_len 0 n) in
    let f = λ (c : ℕ). get_or tuple (length (filter p (range_with_len 0 c))) 0 in
    let split = ap (λ (k : ℕ). filter p (range_with_len 0 k)) (let e : suc n ≡ n + 1 = omega arith in e)
    ∙ (ap (filter p) (range_next n) ∙ filter-append p (range_with_len 0 n) (n ∷ [])) in
    subst (λ (zs : List ℕ). map f zs ≡ take (length zs) tuple) (sym split)
    (by_test (p n) (filter p (range_with_len 0 n)) refl (subst (λ (zs : List ℕ). length zs ≤ length tuple) split le) (λ less. counted p tuple n less))
  where
    by_test : (b : Bool) (front : List ℕ) → front ≡ filter p (range_with_len 0 n) → length (front ++ cond b (n ∷ []) []) ≤ length tuple
        → (length front ≤ length tuple → map (λ c. get_or tuple (length (filter p (range_with_len 0 c))) 0) front ≡ take (length front) tuple)
        → map (λ c. get_or tuple (length (filter p (range_with_len 0 c))) 0) (front ++ cond b (n ∷ []) []) ≡ take (length (front ++ cond b (n ∷ []) [])) tuple
    by_test true front is le before =
        let long = length-append front (n ∷ []) in
        map-append (λ c. get_or tuple (length (filter p (range_with_len 0 c))) 0) front (n ∷ [])
        ∙ (ap₂ (λ (us : List ℕ) (k : ℕ). us ++ get_or tuple k 0 ∷ []) (before (omega arith)) (ap length (sym is))
        ∙ (sym (take_more tuple (length front) 0 (omega arith)) ∙ ap (λ (k : ℕ). take k tuple) (sym long)))
    by_test false front is le before =
        ap (map (λ c. get_or tuple (length (filter p (range_with_len 0 c))) 0)) (append-nil front)
        ∙ (before (subst (λ (zs : List ℕ). length zs ≤ length tuple) (append-nil front) le)
        ∙ ap (λ (zs : List ℕ). take (length zs) tuple) (sym (append-nil front)))

laid_at : (d : Diagram) (tuple : List ℕ) (c : ℕ) → c < size d → get_or (laid d tuple) c 0 ≡ cond (is_up d c) 0 (get_or tuple (length (downs_before d c)) 0)
laid_at d tuple c lt = get_or-map-range_with_len (λ k. cond (is_up d k) 0 (get_or tuple (length (downs_before d k)) 0)) 0 (size d) c c 0 lt (omega arith)

pub laid_read : (d : Diagram) (tuple : List ℕ) → length tuple ≡ length (down_columns d) → map (read (laid d tuple)) (down_columns d) ≡ tuple
laid_read d tuple long =
    map_range (λ c. not (is_up d c)) (read (laid d tuple)) (λ c. get_or tuple (length (downs_before d c)) 0) 0 (size d)
    (λ c least most passes. laid_at d tuple c (omega arith) ∙ down (is_up d c) c passes)
    ∙ (counted (λ c. not (is_up d c)) tuple (size d) (omega arith) ∙ take_all (length (down_columns d)) tuple (omega arith))
  where
    down : (b : Bool) (c : ℕ) → not b ≡ true → cond b 0 (get_or tuple (length (downs_before d c)) 0) ≡ get_or tuple (length (downs_before d c)) 0
    down true c passes = absurd (let never : ◌≡◌ {A = Bool} false true = passes in cc)
    down false c passes = refl

pub laid_colours : (t : Table) → IsQuandle t → (d : Diagram) (tuple : List ℕ) → All (λ y. y < t.order) tuple → AreColours (size d) t.order (laid d tuple)
laid_colours t q d tuple below =
    let long = length-map-range_with_len (λ k. cond (is_up d k) 0 (get_or tuple (length (downs_before d k)) 0)) 0 (size d) in (
      long,
      All-from_get_or (λ y. y < t.order) (laid d tuple) 0
          (λ c lt. subst (λ (y : ℕ). y < t.order) (sym (laid_at d tuple c (omega arith))) (each (is_up d c) c)),
    )
  where
    each : (b : Bool) (c : ℕ) → cond b 0 (get_or tuple (length (downs_before d c)) 0) < t.order
    each true c = let least = q.least in omega arith
    each false c = colour_below t q tuple below (length (downs_before d c))

-- what the sweep makes of the feet at the down columns is what the word's action makes of them
abbrev pub arrived : Table → Diagram → List ℕ → List ℕ
arrived t d tuple = swept t d (laid d tuple) (size d)

pub feet_acted : (t : Table) (d : Diagram) → IsGrid d → (tuple : List ℕ) → length tuple ≡ length (down_columns d)
    → action t (word_of_diagram d).letters tuple ≡ map (read (arrived t d tuple)) (down_columns d)
feet_acted t d grid tuple long =
    ap (action t (word_of_diagram d).letters) (sym (laid_read d tuple long))
    ∙ feet_return t d grid (laid d tuple) (length-map-range_with_len (λ k. cond (is_up d k) 0 (get_or tuple (length (downs_before d k)) 0)) 0 (size d))

-- where these are the feet again, the columns have a colouring with them
pub feet_coloured : (t : Table) → IsQuandle t → (d : Diagram) → IsGrid d → (tuple : List ℕ) → AreColours (length (down_columns d)) t.order tuple
    → map (read (arrived t d tuple)) (down_columns d) ≡ tuple
    → IsColouring t d (column_colours t d (arrived t d tuple)) × (at_feet t d (column_colours t d (arrived t d tuple)) ≡ tuple)
feet_coloured t q d grid tuple at back =
    let start = laid_colours t q d tuple at.1 in
    let ys = arrived t d tuple in
    let at_y = swept_stays t q d grid (laid d tuple) start (size d) (omega arith) in
    let f = column_colours t d ys in
    let at_f = column_stays t q d ys at_y in
    let is = column_strands t q d ys at_y in
    let turned : Turned t d f (read ys) = λ c lt. ap (λ (zs : List ℕ). get_or zs c 0) (sym is) ∙ strand_colour t d f at_f.0 c lt in
    let arrives = swept_arrives t d grid (laid d tuple) start.0 (back ∙ sym (laid_read d tuple at.0)) in (
      record {
        colours_are = at_f;
        rows = λ r lt. row_closes t q d grid f (omega (arith, at_f.0)) at_f.1 (read ys) turned r lt (arrives r lt);
      },
      ap (λ (zs : List ℕ). map (read zs) (down_columns d)) is ∙ back,
    )

pub feet_bijection : (t : Table) → IsQuandle t → (d : Diagram) → IsGrid d → IsBijection (IsColouring t d) (IsFixedPoint t (word_of_diagram d)) (at_feet t d)
feet_bijection t q d grid = record {
  into = feet_fixed t q d grid;
  onto = λ tuple fixed.
      let made = feet_coloured t q d grid tuple fixed.tuple (sym (feet_acted t d grid tuple fixed.tuple.0) ∙ fixed.fixed) in
      (column_colours t d (arrived t d tuple), made.0, made.1);
  one = feet_single t q d grid;
}

-- what the test of two lists tells
pub lists_same : (b : Bool) (xs ys : List ℕ) → b ≡ not (bytes_eq xs ys) → b ≡ false → xs ≡ ys
lists_same b xs ys test is = (bytes_eq-Decides xs ys).0 (not-false (bytes_eq xs ys) (sym test ∙ is))

pub lists_differ : (b : Bool) (xs ys : List ℕ) → b ≡ not (bytes_eq xs ys) → b ≡ true → xs ≡ ys → ⊥
lists_differ b xs ys test is same =
    let never : ◌≡◌ {A = Bool} true false = sym is ∙ (test ∙ ap not ((bytes_eq-Decides xs ys).1 same)) in
    absurd (cc)
