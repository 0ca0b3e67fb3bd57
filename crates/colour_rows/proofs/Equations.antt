-- The equation of a row says what the walk says.
use Rattle.std.proofs.Common.{◌≡◌, ◌<◌, ◌+◌, ◌-◌, ◌++◌, ◌∙◌, ℕ, List, [], ◌∷◌, Bool, true, false, cond, length, map, take, get_or, reverse, refl, sym, ap}
use Rattle.std.proofs.Common.{arith, fold, All}
use Rattle.std.specs.List.{range_with_len, filter}
use Rattle.std.proofs.lemmas.List.{map-append, reverse-append, get_or-reverse, length-reverse}
use Rattle.std.proofs.lemmas.List.Sums.{fold_more}
use Rattle.std.proofs.lemmas.List.Elements.{filter-append, All-map, All-filter}
use Rattle.std.proofs.lemmas.List.FromFn.{get_or-range_with_len, length-range_with_len}
use Rattle.grid_core.specs.Diagram.{Diagram}
use Rattle.grid_core.specs.Parts.{covers, is_up}
use Rattle.grid_core.proofs.Ends.{left, right}
use Rattle.colour_rows.proofs.Ranges.{range_longer}
use Rattle.quandle_core.specs.Quandle.{Table}
use Rattle.colour_rows.specs.declared.equation.Pass.{Pass}
use Rattle.colour_rows.specs.Walk.{passed, walk, passed_rightward, passed_leftward}
use Rattle.colour_rows.proofs.Walks.{walk_back}
use Rattle.colour_rows.specs.Equation.{equation, passes, walk_of, walk_back_of}

fold-map : {A B C : Type 0} (f : C → B → C) (h : A → B) (xs : List A) (a : C) → fold f a (map h xs) ≡ fold (λ x c. f x (h c)) a xs
fold-map f h [] a = refl
fold-map f h (x ∷ xs) a = fold-map f h xs (f a (h x))

reverse-map : {A B : Type 0} (h : A → B) (xs : List A) → reverse (map h xs) ≡ map h (reverse xs)
reverse-map h [] = refl
reverse-map h (x ∷ xs) =
    reverse-append (h x ∷ []) (map h xs)
    ∙ (ap (λ ys. ys ++ h x ∷ []) (reverse-map h xs) ∙ (sym (map-append h (reverse xs) (x ∷ [])) ∙ ap (map h) (sym (reverse-append (x ∷ []) xs))))

abbrev pub pass_of : Diagram → ℕ → Pass
pass_of d c = record { column = c; up = is_up d c }

pub walk_same : (t : Table) (d : Diagram) (f : List ℕ) (r : ℕ) → walk_of t (equation d r) f ≡ walk t d f r
walk_same t d f r = fold-map (λ x (p : Pass). passed_rightward t p.up x (get_or f p.column 0)) (pass_of d) (passed d r) (get_or f (left d r) 0)

pub walk_back_same : (t : Table) (d : Diagram) (f : List ℕ) (r : ℕ) → walk_back_of t (equation d r) f ≡ walk_back t d f r
walk_back_same t d f r =
    ap (fold (λ x (p : Pass). passed_leftward t p.up x (get_or f p.column 0)) (get_or f (right d r) 0)) (reverse-map (pass_of d) (passed d r))
    ∙ fold-map (λ x (p : Pass). passed_leftward t p.up x (get_or f p.column 0)) (pass_of d) (reverse (passed d r)) (get_or f (right d r) 0)

pub pass_map : (d : Diagram) (c : ℕ) (t : Bool) → map (pass_of d) (cond t (c ∷ []) []) ≡ cond t (pass_of d c ∷ []) []
pass_map d c true = refl
pass_map d c false = refl

-- one column more between the ends
pub passes_more : (d : Diagram) (r from to : ℕ) → from < to → passes d r from (to + 1) ≡ passes d r from to ++ cond (covers d to r) (pass_of d to ∷ []) []
passes_more d r from to lt =
    let short = range_with_len (from + 1) (to - from - 1) in
    let longer : to + 1 - from - 1 ≡ to - from - 1 + 1 = omega arith in
    let last : from + 1 + (to - from - 1) ≡ to = omega arith in
    ap (λ (n : ℕ). map (pass_of d) (filter (λ c. covers d c r) (range_with_len (from + 1) n))) longer
    ∙ (ap (λ (cs : List ℕ). map (pass_of d) (filter (λ c. covers d c r) cs)) (range_longer (from + 1) (to - from - 1))
    ∙ (ap (λ (c : ℕ). map (pass_of d) (filter (λ c. covers d c r) (short ++ c ∷ []))) last
    ∙ (ap (map (pass_of d)) (filter-append (λ c. covers d c r) short (to ∷ []))
    ∙ (map-append (pass_of d) (filter (λ c. covers d c r) short) (filter (λ c. covers d c r) (to ∷ []))
    ∙ ap (λ ps. map (pass_of d) (filter (λ c. covers d c r) short) ++ ps) (pass_map d to (covers d to r))))))

-- each column passed stands left of the right end
pub passes_below : (d : Diagram) (r from to : ℕ) → All (λ (p : Pass). p.column < to) (passes d r from to)
passes_below d r from to =
    let between : All (λ c. c < to) (range_with_len (from + 1) (to - from - 1)) =
    λ i e lt. let short : i < to - from - 1 = omega (arith, lt, length-range_with_len (from + 1) (to - from - 1)) in
    let is = get_or-range_with_len (from + 1) (to - from - 1) i e short in omega arith in
    All-map (λ (p : Pass). p.column < to) (pass_of d) (filter (λ c. covers d c r) (range_with_len (from + 1) (to - from - 1)))
    (All-filter (λ c. covers d c r) (λ c. c < to) (range_with_len (from + 1) (to - from - 1)) between)

-- a step of the walk taken backwards: the list is read from its end
pub back_step : (t : Table) (f : List ℕ) (ps list : List Pass) (i from x y : ℕ) (p : Pass) → list ≡ ps → i < length list
    → x ≡ fold (λ x (p : Pass). passed_leftward t p.up x (get_or f p.column 0)) from (take i (reverse ps))
    → y ≡ passed_leftward t (get_or list (length list - 1 - i) p).up x (get_or f (get_or list (length list - 1 - i) p).column 0)
    → y ≡ fold (λ x (p : Pass). passed_leftward t p.up x (get_or f p.column 0)) from (take (i + 1) (reverse ps))
back_step t f ps list i from x y d list_is lt x_is y_is =
    let p = get_or list (length list - 1 - i) d in
    let same_length = ap length list_is in
    let at : i < length ps = omega arith in
    let reversed = length-reverse ps in
    let p_is : p ≡ get_or (reverse ps) i d = ap (λ (l : List Pass). get_or l (length l - 1 - i) d) list_is ∙ sym (get_or-reverse ps i d at) in
    y_is
    ∙ (ap (λ (z : ℕ). passed_leftward t p.up z (get_or f p.column 0)) x_is
    ∙ (ap (λ (q : Pass). passed_leftward t q.up (fold (λ x (p : Pass). passed_leftward t p.up x (get_or f p.column 0)) from (take i (reverse ps)))
    (get_or f q.column 0)) p_is
    ∙ sym (fold_more (λ x (p : Pass). passed_leftward t p.up x (get_or f p.column 0)) from (reverse ps) i d (omega arith))))
