-- Building a code from tables.
use Rattle.std.proofs.Common.{◌≡◌, ◌<◌, ◌+◌, ◌++◌, ◌∙◌, ◌∷◌, [], ℕ, Bool, true, false, List, length, map, get_or, refl, sym, ap, arith, append-nil}
use Rattle.std.specs.Prelude.{if◌then◌else◌}
use Rattle.std.specs.List.{range_with_len, flat_map}
use Rattle.std.proofs.lemmas.List.{map-append}
use Rattle.grid_core.specs.Diagram.{Diagram, IsGrid, size}
use Rattle.grid_core.specs.Crossing.{is_positive}
use Rattle.std.proofs.lemmas.List.Concat.{flat_map-append}
use Rattle.colour_rows.specs.Walk.{passed}
use Rattle.colour_rows.proofs.Ranges.{range_longer}
use Rattle.crossing_codes.specs.declared.crossing.Crossing.{Crossing}
use Rattle.crossing_codes.specs.declared.crossing.Code.{Code}
use Rattle.crossing_codes.specs.Passages.{through, crossings, passages}
use Rattle.crossing_codes.specs.Edges.{place, edges_after, edge_from, edge_to, loops}
use Rattle.crossing_codes.specs.Layout.{slot, HasNumbers}
use Rattle.crossing_codes.specs.Code.{crossing, code}
use Rattle.crossing_codes.proofs.Crossings.{cell, IsCrossing}
use Rattle.crossing_codes.proofs.AllPassages.{stands_at}
use Rattle.crossing_codes.proofs.Placed.{length_after}

-- the number in a passage's slot is its place
pub number_is : (d : Diagram) → IsGrid d → (numbers : List ℕ) → HasNumbers (passages d) numbers → (over : Bool) (c r k : ℕ) → r < size d
    → IsCrossing d c r → k ≡ slot (through over (cell c r))
    → (get_or numbers k 0 ≡ place d (through over (cell c r))) × (get_or numbers k 0 < length (edges_after d))
number_is d grid numbers has over c r k lt x is =
    let at = stands_at d grid over c r lt x in
    let p = through over (cell c r) in
    let number : get_or numbers k 0 ≡ place d p = ap (λ (i : ℕ). get_or numbers i 0) is ∙ has (place d p) p at.within (at.stands p) in
    (number, omega (arith, number, at.within, length_after d))

-- a crossing from its parts
pub crossing_is : (d : Diagram) (c r first second third fourth : ℕ) (positive : Bool) → positive ≡ is_positive d c r
    → first ≡ edge_from d (through false (cell c r))
    → second ≡ (if positive then edge_to d (through true (cell c r)) else edge_from d (through true (cell c r)))
    → third ≡ edge_to d (through false (cell c r)) → fourth ≡ (if positive then edge_from d (through true (cell c r)) else edge_to d (through true (cell c r)))
    → (let x : Crossing = record { first = first; second = second; third = third; fourth = fourth; positive = positive } in x) ≡ crossing d (cell c r)
crossing_is d c r first second third fourth positive ep e1 e2 e3 e4 =
    let from = edge_from d (through true (cell c r)) in
    let to = edge_to d (through true (cell c r)) in
    ap (λ (k : ℕ). let x : Crossing = record { first = k; second = second; third = third; fourth = fourth; positive = positive } in x) e1
    ∙ (ap (λ (k : ℕ). let x : Crossing = record {
      first = edge_from d
          (through false (cell c r));
      second = k;
      third = third;
      fourth = fourth;
      positive = positive;
    } in x) e2
    ∙ (ap (λ (k : ℕ). let x : Crossing = record {
      first = edge_from d
          (through false (cell c r));
      second = if positive then to else from;
      third = k;
      fourth = fourth;
      positive = positive;
    } in x) e3
    ∙ (ap (λ (k : ℕ). let x : Crossing = record {
      first = edge_from d (through false (cell c r));
      second = if positive then to else from;
      third = edge_to d
          (through false (cell c r));
      fourth = k;
      positive = positive;
    } in x) e4
    ∙ ap (λ (b : Bool). let x : Crossing = record {
      first = edge_from d (through false (cell c r));
      second = if b then to else from;
      third = edge_to d
          (through false (cell c r));
      fourth = if b then from else to;
      positive = b;
    } in x) ep)))

-- a function of each element of joined lists
pub map_joined : {A B C : Type 0} (f : B → C) (g : A → List B) (xs : List A) → map f (flat_map g xs) ≡ flat_map (λ x. map f (g x)) xs
map_joined f g [] = refl
map_joined f g (x ∷ xs) = map-append f (g x) (flat_map g xs) ∙ ap (λ ys. map f (g x) ++ ys) (map_joined f g xs)

pub map_twice : {A B C : Type 0} (f : B → C) (g : A → B) (xs : List A) → map f (map g xs) ≡ map (λ x. f (g x)) xs
map_twice f g [] = refl
map_twice f g (x ∷ xs) = ap (λ ys. f (g x) ∷ ys) (map_twice f g xs)

flat_map_agree : {A B : Type 0} (f g : A → List B) (xs : List A) → ((x : A) → f x ≡ g x) → flat_map f xs ≡ flat_map g xs
flat_map_agree f g [] same = refl
flat_map_agree f g (x ∷ xs) same = ap (λ ys. ys ++ flat_map f xs) (same x) ∙ ap (λ ys. g x ++ ys) (flat_map_agree f g xs same)

-- the crossings of the lowest rows
abbrev pub crossed_below : Diagram → ℕ → List Crossing
crossed_below d n = flat_map (λ r. map (λ c. crossing d (cell c r)) (passed d r)) (range_with_len 0 n)

pub all_crossed : (d : Diagram) → crossed_below d (size d) ≡ map (crossing d) (crossings d)
all_crossed d = sym (map_joined (crossing d) (λ r. map (λ c. cell c r) (passed d r)) (range_with_len 0 (size d))
    ∙ flat_map_agree (λ r. map (crossing d) (map (λ c. cell c r) (passed d r))) (λ r. map (λ c. crossing d (cell c r)) (passed d r))
    (range_with_len 0 (size d)) (λ r. map_twice (crossing d) (λ c. cell c r) (passed d r)))

pub crossed_more : (d : Diagram) (n : ℕ) (found longer : List Crossing) → found ≡ crossed_below d n
    → longer ≡ found ++ map (λ c. crossing d (cell c n)) (passed d n) → longer ≡ crossed_below d (n + 1)
crossed_more d n found longer so_far more =
    let row : ℕ → List Crossing = λ r. map (λ c. crossing d (cell c r)) (passed d r) in
    let same : 0 + n ≡ n = omega arith in
    more ∙ (ap (λ (xs : List Crossing). xs ++ row n) so_far
    ∙ (ap (λ (xs : List Crossing). crossed_below d n ++ xs) (sym (append-nil (row n)))
    ∙ (sym (flat_map-append row (range_with_len 0 n) (n ∷ []))
    ∙ ap (flat_map row) (ap (λ (k : ℕ). range_with_len 0 n ++ k ∷ []) (sym same) ∙ sym (range_longer 0 n)))))

-- the whole code
pub code_is : (d : Diagram) (found : List Crossing) (edges loop_count : ℕ) → found ≡ map (crossing d) (crossings d) → edges ≡ length (passages d)
    → loop_count ≡ length (loops d)
    → (let x : Code = record { crossings = found; edges = edges; loops = loop_count } in x) ≡ code d
code_is d found edges loop_count e1 e2 e3 =
    ap (λ (xs : List Crossing). let x : Code = record { crossings = xs; edges = edges; loops = loop_count } in x) e1
    ∙ (ap (λ (n : ℕ). let x : Code = record { crossings = map (crossing d) (crossings d); edges = n; loops = loop_count } in x) e2
    ∙ ap (λ (n : ℕ). let x : Code = record { crossings = map (crossing d) (crossings d); edges = length (passages d); loops = n } in x) e3)
