-- What a candidate is, and that a word always picks one.
use Rattle.std.proofs.Common.{◌≡◌, ◌<◌, ◌≤◌, ◌-◌, ◌%◌, ◌∷◌, ◌++◌, ◌∙◌, ◌&&◌, [], ℕ, zero, suc, List, Bool, true, nat_le, map, get_or}
use Rattle.std.proofs.Common.{length, slice_get, Option, Some, None, arith, sym, refl, ap, subst}
use Rattle.std.specs.List.{range_with_len, flat_map, Contains}
use Rattle.std.specs.Option.{is_none, option_map}
use Rattle.std.proofs.lemmas.Bool.{leb-true}
use Rattle.std.proofs.lemmas.Bool.Decides.{nat_tests}
use Rattle.std.proofs.lemmas.List.{length-map}
use Rattle.std.proofs.lemmas.List.Elements.{Contains-append_left}
use Rattle.std.proofs.lemmas.Option.{slice_get-map, slice_get-get_or}
use Rattle.grid_core.specs.Diagram.{Diagram, IsGrid, size}
use Rattle.grid_moves.specs.declared.step.Move.{Move}
use Rattle.grid_moves.specs.declared.step.Move.TheVariants.{ShiftColumns}
use Rattle.grid_moves.specs.declared.step.MoveFault.{MoveFault}
use Rattle.grid_moves.specs.MoveFault.{first_move_fault, shift_fault}
use Rattle.grid_moves.specs.Step.{Step}
use Rattle.grid_moves.specs.SizeAfter.{size_after}
use Rattle.grid_laws.proofs.Sizes.{step_size}
use Rattle.next_moves.proofs.Members.{contains_filter, filter_contains, contains_first}
use Rattle.search_jobs.specs.declared.walk.TheConstants.{LARGEST}
use Rattle.search_jobs.specs.declared.candidates.Candidate.{Candidate}
use Rattle.grid_moves.specs.MoveLists.{all_but_slides, column_shift, row_shift, column_exchange, row_exchange, destabilisations, stabilisations}
use Rattle.search_jobs.specs.Candidates.{is_candidate, candidate_moves}
use Rattle.search_jobs.specs.Listed.{steps_of}
use Rattle.search_jobs.specs.Walk.{Picks}

-- a candidate is legal, and its result is not too large
none_both : (fault : Option MoveFault) (b : Bool) → (is_none fault && b) ≡ true → (fault ≡ None) × (b ≡ true)
none_both None b is = (refl, is)
none_both (Some fault) b is = cc

pub candidate_legal : (d : Diagram) (move : Move) → Contains (candidate_moves d) move → first_move_fault d move ≡ None
candidate_legal d move c =
    (none_both (first_move_fault d move) (nat_le (size_after move (size d)) LARGEST) (filter_contains (is_candidate d) (all_but_slides (size d)) move c).1).0

pub candidate_fault : (d : Diagram) (move : Move) (fault : MoveFault) → Contains (candidate_moves d) move → Some fault ≡ first_move_fault d move → ⊥
candidate_fault d move fault c found =
    let none : Some fault ≡ None = found ∙ candidate_legal d move c in
    cc

pub candidate_small : (d : Diagram) (move : Move) (e : Diagram) → Contains (candidate_moves d) move → Step d move e → size e ≤ LARGEST
candidate_small d move e c step =
    let fits = leb-true (size_after move (size d)) LARGEST (none_both (first_move_fault d move) (nat_le (size_after move (size d)) LARGEST)
    (filter_contains (is_candidate d) (all_but_slides (size d)) move c).1).1 in
    omega (arith, fits, step_size move d e step)

-- the shift of columns by 1 is tried first, and it is a candidate
shifts_by_one : (n k : ℕ) → n ≡ suc k → Contains (map column_shift (range_with_len 1 n)) (ShiftColumns 1)
shifts_by_one n k e = subst (λ (m : ℕ). Contains (map column_shift (range_with_len 1 m)) (ShiftColumns 1)) (sym e)
    (contains_first (ShiftColumns 1) (map column_shift (range_with_len 2 k)))

tried_first : (n : ℕ) → 2 ≤ n → Contains (all_but_slides n) (ShiftColumns 1)
tried_first n least =
    let a : List Move = map column_shift (range_with_len 1 (n - 1)) in
    let b : List Move = map row_shift (range_with_len 1 (n - 1)) in
    let c : List Move = map column_exchange (range_with_len 0 (n - 1)) in
    let d : List Move = map row_exchange (range_with_len 0 (n - 1)) in
    let e : List Move = flat_map (destabilisations n) (range_with_len 0 (n - 1)) in
    let f : List Move = flat_map stabilisations (range_with_len 0 n) in
    let move : Move = ShiftColumns 1 in
    Contains-append_left (a ++ b ++ c ++ d ++ e) f move
    (Contains-append_left (a ++ b ++ c ++ d) e move
    (Contains-append_left (a ++ b ++ c) d move
    (Contains-append_left (a ++ b) c move
    (Contains-append_left a b move (shifts_by_one (n - 1) (n - 2) (omega arith))))))

shift_is_candidate : (d : Diagram) → 2 ≤ size d → size d ≤ LARGEST → is_candidate d (ShiftColumns 1) ≡ true
shift_is_candidate d least most = by (size d) least most
  where
    by : (n : ℕ) → 2 ≤ n → n ≤ LARGEST → (is_none (shift_fault n 1) && nat_le n LARGEST) ≡ true
    by n lo hi = grind (arith, nat_tests)

pub a_candidate : (d : Diagram) → IsGrid d → size d ≤ LARGEST → Contains (candidate_moves d) (ShiftColumns 1)
a_candidate d grid most =
    contains_filter (is_candidate d) (all_but_slides (size d)) (ShiftColumns 1) (tried_first (size d) grid.least) (shift_is_candidate d grid.least most)

pub some_candidates : (d : Diagram) → IsGrid d → size d ≤ LARGEST → 0 < length (candidate_moves d)
some_candidates d grid most = let c = a_candidate d grid most in omega (arith, c.1)

-- what is listed is picked
pub listed_length : (d : Diagram) (list : List Candidate) → steps_of list ≡ candidate_moves d → length list ≡ length (candidate_moves d)
listed_length d list is = sym (length-map list (λ (c : Candidate). c.step)) ∙ ap length is

picked_at : (list : List Candidate) (moves : List Move) (i : ℕ) (blank : Candidate) → steps_of list ≡ moves → i < length list
    → slice_get moves i ≡ Some (get_or list i blank).step
picked_at list moves i blank is lt =
    ap (λ xs. slice_get xs i) (sym is) ∙ slice_get-map (λ (c : Candidate). c.step) list i
    ∙ ap (λ o. option_map (λ (c : Candidate). c.step) o) (slice_get-get_or list i blank lt)

pub picked_from : (d : Diagram) (w n i : ℕ) (list : List Candidate) (blank : Candidate) → steps_of list ≡ candidate_moves d → n ≡ length list → i ≡ w % n
    → i < n → Picks d w (get_or list i blank).step
picked_from d w n i list blank is count place lt =
    let whole : n ≡ length (candidate_moves d) = count ∙ listed_length d list is in
    ap (λ (k : ℕ). slice_get (candidate_moves d) k) (ap (λ (k : ℕ). w % k) (sym whole) ∙ sym place)
    ∙ picked_at list (candidate_moves d) i blank is (omega (arith, lt, count))

-- what is picked is a candidate
get_contains : (xs : List Move) (i : ℕ) (x : Move) → slice_get xs i ≡ Some x → Contains xs x
get_contains [] i x is = cc
get_contains (y ∷ ys) zero x is = (0, omega arith, cc)
get_contains (y ∷ ys) (suc i) x is = let c = get_contains ys i x is in (suc c.0, omega (arith, c.1), c.2)

pub pick_contained : (d : Diagram) (w : ℕ) (move : Move) → Picks d w move → Contains (candidate_moves d) move
pick_contained d w move picks = get_contains (candidate_moves d) (w % length (candidate_moves d)) move picks
