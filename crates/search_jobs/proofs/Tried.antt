-- Each legal move is tried, so the candidates are the moves that lead to a diagram that is not too large.
use Rattle.std.proofs.Common.{[], ◌∷◌, ◌≡◌, ◌<◌, ◌≤◌, ◌+◌, ◌-◌, ◌++◌, ◌∙◌, ◌&&◌, ℕ, List, Bool, true, false, cond, nat_le, nat_lt, map}
use Rattle.std.proofs.Common.{Option, Some, None, arith, refl, ap, ◌↔◌}
use Rattle.std.specs.List.{All, range_with_len, flat_map, Contains}
use Rattle.std.specs.Option.{is_none}
use Rattle.std.proofs.lemmas.Bool.{le-leb, and_parts, ltb-true}
use Rattle.std.proofs.lemmas.List.Elements.{All-append, All-nil, All-cons, All-contains, Contains-append_left, Contains-append_right}
use Rattle.std.proofs.lemmas.List.FromFn.{length-range_with_len, get_or-range_with_len}
use Rattle.grid_core.specs.declared.mark.Kind.{Kind}
use Rattle.grid_core.specs.declared.mark.Kind.TheVariants.{Cross, Ring}
use Rattle.grid_core.specs.declared.mark.Corner.{Corner}
use Rattle.grid_core.specs.Diagram.{Diagram, IsGrid, size}
use Rattle.grid_moves.specs.declared.step.Move.{Move}
use Rattle.grid_moves.specs.declared.step.Move.TheVariants.{ShiftColumns, ShiftRows, ExchangeColumns, ExchangeRows, SlideColumns, SlideRows}
use Rattle.grid_moves.specs.declared.step.Move.TheVariants.{Stabilise, Destabilise}
use Rattle.grid_moves.specs.declared.step.MoveFault.{MoveFault}
use Rattle.grid_moves.specs.declared.step.MoveFault.TheVariants.{Range}
use Rattle.grid_moves.specs.MoveFault.{first_move_fault, shift_fault}
use Rattle.grid_moves.specs.Step.{Step}
use Rattle.grid_moves.proofs.OneResult.{step_exists, step_legal}
use Rattle.grid_keys.proofs.LeastTranslates.{map_contains, flat_map_contains, range_contains}
use Rattle.grid_core.specs.Corners.{corners}
use Rattle.grid_laws.proofs.CornerList.{corner_listed}
use Rattle.grid_moves.specs.SizeAfter.{size_after}
use Rattle.grid_laws.proofs.Sizes.{step_size}
use Rattle.next_moves.proofs.Members.{contains_filter, filter_contains}
use Rattle.search_jobs.specs.declared.walk.TheConstants.{LARGEST}
use Rattle.grid_moves.specs.Kinds.{is_slide}
use Rattle.grid_moves.specs.MoveLists.{all_but_slides, column_shift, row_shift, column_exchange, row_exchange, destabilisation}
use Rattle.grid_moves.specs.MoveLists.{destabilisations, stabilisation, stabilisations}
use Rattle.search_jobs.specs.Candidates.{is_candidate, candidate_moves}
use Rattle.search_jobs.proofs.Picked.{candidate_legal, candidate_small}

range_contains_from : (a n k : ℕ) → a ≤ k → k < a + n → Contains (range_with_len a n) k
range_contains_from a n k le lt =
    let place : k - a < n = omega (arith, le, lt) in
    let sum : a + (k - a) ≡ k = omega (arith, le) in
    (k - a, omega (arith, place, length-range_with_len a n), get_or-range_with_len a n (k - a) k place ∙ sum)

-- a test that must hold where there is no fault
passed_test : (test : Bool) (fault : Option MoveFault) → cond test fault (Some Range) ≡ None → test ≡ true
passed_test true fault none = refl
passed_test false fault none = cc

between : (k n : ℕ) → shift_fault n k ≡ None → (0 < k) × (k < n)
between k n legal =
    let inside = and_parts (nat_lt 0 k) (nat_lt k n) (by (nat_lt 0 k && nat_lt k n) legal) in
    (ltb-true 0 k inside.0, ltb-true k n inside.1)
  where
    by : (test : Bool) → cond {A = Option MoveFault} test None (Some Range) ≡ None → test ≡ true
    by test none = passed_test test None none

-- the six parts of the list of tries
module _ (n : ℕ) where
  abbrev column_shifts : List Move
  column_shifts = map column_shift (range_with_len 1 (n - 1))

  abbrev row_shifts : List Move
  row_shifts = map row_shift (range_with_len 1 (n - 1))

  abbrev column_exchanges : List Move
  column_exchanges = map column_exchange (range_with_len 0 (n - 1))

  abbrev row_exchanges : List Move
  row_exchanges = map row_exchange (range_with_len 0 (n - 1))

  abbrev blocks : List Move
  blocks = flat_map (destabilisations n) (range_with_len 0 (n - 1))

  abbrev marks : List Move
  marks = flat_map stabilisations (range_with_len 0 n)

  tried_column_shift : (k : ℕ) → 0 < k → k < n → Contains (all_but_slides n) (ShiftColumns k)
  tried_column_shift k some lt =
      Contains-append_left (column_shifts ++ row_shifts ++ column_exchanges ++ row_exchanges ++ blocks) marks (ShiftColumns k)
      (Contains-append_left (column_shifts ++ row_shifts ++ column_exchanges ++ row_exchanges) blocks (ShiftColumns k)
      (Contains-append_left (column_shifts ++ row_shifts ++ column_exchanges) row_exchanges (ShiftColumns k)
      (Contains-append_left (column_shifts ++ row_shifts) column_exchanges (ShiftColumns k)
      (Contains-append_left column_shifts row_shifts (ShiftColumns k)
      (map_contains column_shift (range_with_len 1 (n - 1)) k (range_contains_from 1 (n - 1) k (omega arith) (omega arith)))))))

  tried_row_shift : (k : ℕ) → 0 < k → k < n → Contains (all_but_slides n) (ShiftRows k)
  tried_row_shift k some lt =
      Contains-append_left (column_shifts ++ row_shifts ++ column_exchanges ++ row_exchanges ++ blocks) marks (ShiftRows k)
      (Contains-append_left (column_shifts ++ row_shifts ++ column_exchanges ++ row_exchanges) blocks (ShiftRows k)
      (Contains-append_left (column_shifts ++ row_shifts ++ column_exchanges) row_exchanges (ShiftRows k)
      (Contains-append_left (column_shifts ++ row_shifts) column_exchanges (ShiftRows k)
      (Contains-append_right column_shifts row_shifts (ShiftRows k)
      (map_contains row_shift (range_with_len 1 (n - 1)) k (range_contains_from 1 (n - 1) k (omega arith) (omega arith)))))))

  tried_column_exchange : (c : ℕ) → c + 1 < n → Contains (all_but_slides n) (ExchangeColumns c)
  tried_column_exchange c lt =
      Contains-append_left (column_shifts ++ row_shifts ++ column_exchanges ++ row_exchanges ++ blocks) marks (ExchangeColumns c)
      (Contains-append_left (column_shifts ++ row_shifts ++ column_exchanges ++ row_exchanges) blocks (ExchangeColumns c)
      (Contains-append_left (column_shifts ++ row_shifts ++ column_exchanges) row_exchanges (ExchangeColumns c)
      (Contains-append_right (column_shifts ++ row_shifts) column_exchanges (ExchangeColumns c)
      (map_contains column_exchange (range_with_len 0 (n - 1)) c (range_contains (n - 1) c (omega arith))))))

  tried_row_exchange : (r : ℕ) → r + 1 < n → Contains (all_but_slides n) (ExchangeRows r)
  tried_row_exchange r lt =
      Contains-append_left (column_shifts ++ row_shifts ++ column_exchanges ++ row_exchanges ++ blocks) marks (ExchangeRows r)
      (Contains-append_left (column_shifts ++ row_shifts ++ column_exchanges ++ row_exchanges) blocks (ExchangeRows r)
      (Contains-append_right (column_shifts ++ row_shifts ++ column_exchanges) row_exchanges (ExchangeRows r)
      (map_contains row_exchange (range_with_len 0 (n - 1)) r (range_contains (n - 1) r (omega arith)))))

  tried_block : (c r : ℕ) → c + 1 < n → r + 1 < n → Contains (all_but_slides n) (Destabilise c r)
  tried_block c r column row =
      Contains-append_left (column_shifts ++ row_shifts ++ column_exchanges ++ row_exchanges ++ blocks) marks (Destabilise c r)
      (Contains-append_right (column_shifts ++ row_shifts ++ column_exchanges ++ row_exchanges) blocks (Destabilise c r)
      (flat_map_contains (destabilisations n) (range_with_len 0 (n - 1)) c (Destabilise c r) (range_contains (n - 1) c (omega arith))
      (map_contains (destabilisation c) (range_with_len 0 (n - 1)) r (range_contains (n - 1) r (omega arith)))))

  tried_mark : (c : ℕ) (kind : Kind) (corner : Corner) → c < n → Contains (all_but_slides n) (Stabilise c kind corner)
  tried_mark c kind corner lt =
      Contains-append_right (column_shifts ++ row_shifts ++ column_exchanges ++ row_exchanges ++ blocks) marks (Stabilise c kind corner)
      (flat_map_contains stabilisations (range_with_len 0 n) c (Stabilise c kind corner) (range_contains n c lt) (of_kind kind))
    where
      of_kind : (kind : Kind) → Contains (stabilisations c) (Stabilise c kind corner)
      of_kind Cross = Contains-append_left (map (stabilisation c Cross) corners) (map (stabilisation c Ring) corners) (Stabilise c Cross corner)
          (map_contains (stabilisation c Cross) corners corner (corner_listed corner))
      of_kind Ring = Contains-append_right (map (stabilisation c Cross) corners) (map (stabilisation c Ring) corners) (Stabilise c Ring corner)
          (map_contains (stabilisation c Ring) corners corner (corner_listed corner))

legal_tried : (d : Diagram) (move : Move) → is_slide move ≡ false → first_move_fault d move ≡ None → Contains (all_but_slides (size d)) move
legal_tried d (ShiftColumns k) six legal = let inside = between k (size d) legal in tried_column_shift (size d) k inside.0 inside.1
legal_tried d (ShiftRows k) six legal = let inside = between k (size d) legal in tried_row_shift (size d) k inside.0 inside.1
legal_tried d (ExchangeColumns c) six legal = tried_column_exchange (size d) c (ltb-true (c + 1) (size d) (passed_test (nat_lt (c + 1) (size d)) _ legal))
legal_tried d (ExchangeRows r) six legal = tried_row_exchange (size d) r (ltb-true (r + 1) (size d) (passed_test (nat_lt (r + 1) (size d)) _ legal))
legal_tried d (SlideColumns c) six legal = absurd (let none : true ≡ false = six in cc)
legal_tried d (SlideRows r) six legal = absurd (let none : true ≡ false = six in cc)
legal_tried d (Stabilise c kind corner) six legal = tried_mark (size d) c kind corner (ltb-true c (size d) (passed_test (nat_lt c (size d)) _ legal))
legal_tried d (Destabilise c r) six legal =
    let inside = and_parts (nat_lt (c + 1) (size d)) (nat_lt (r + 1) (size d)) (passed_test (nat_lt (c + 1) (size d) && nat_lt (r + 1) (size d)) _ legal) in
    tried_block (size d) c r (ltb-true (c + 1) (size d) inside.0) (ltb-true (r + 1) (size d) inside.1)

small_candidate : (d : Diagram) (move : Move) (e : Diagram) → is_slide move ≡ false → Step d move e → size e ≤ LARGEST → Contains (candidate_moves d) move
small_candidate d move e six step small =
    let legal = step_legal d move e step in
    let fits : nat_le (size_after move (size d)) LARGEST ≡ true = le-leb (size_after move (size d)) LARGEST (omega (arith, small, step_size move d e step)) in
    contains_filter (is_candidate d) (all_but_slides (size d)) move (legal_tried d move six legal)
    (ap (λ (fault : Option MoveFault). is_none fault && nat_le (size_after move (size d)) LARGEST) legal ∙ fits)

-- no slide is tried
abbrev IsNoSlide : Move → Type 0
IsNoSlide move = is_slide move ≡ false

all_mapped : {A : Type 0} (f : A → Move) (xs : List A) → ((x : A) → IsNoSlide (f x)) → All IsNoSlide (map f xs)
all_mapped f [] each = All-nil IsNoSlide
all_mapped f (x ∷ xs) each = All-cons IsNoSlide (f x) (map f xs) (each x) (all_mapped f xs each)

all_flat : (f : ℕ → List Move) (xs : List ℕ) → ((x : ℕ) → All IsNoSlide (f x)) → All IsNoSlide (flat_map f xs)
all_flat f [] each = All-nil IsNoSlide
all_flat f (x ∷ xs) each = All-append IsNoSlide (f x) (flat_map f xs) (each x) (all_flat f xs each)

slides_are_left_out : (n : ℕ) → All IsNoSlide (all_but_slides n)
slides_are_left_out n =
    All-append IsNoSlide (column_shifts n ++ row_shifts n ++ column_exchanges n ++ row_exchanges n ++ blocks n) (marks n)
    (All-append IsNoSlide (column_shifts n ++ row_shifts n ++ column_exchanges n ++ row_exchanges n) (blocks n)
    (All-append IsNoSlide (column_shifts n ++ row_shifts n ++ column_exchanges n) (row_exchanges n)
    (All-append IsNoSlide (column_shifts n ++ row_shifts n) (column_exchanges n)
    (All-append IsNoSlide (column_shifts n) (row_shifts n) (all_mapped column_shift (range_with_len 1 (n - 1)) (λ k. refl))
    (all_mapped row_shift (range_with_len 1 (n - 1)) (λ k. refl)))
    (all_mapped column_exchange (range_with_len 0 (n - 1)) (λ c. refl)))
    (all_mapped row_exchange (range_with_len 0 (n - 1)) (λ r. refl)))
    (all_flat (destabilisations n) (range_with_len 0 (n - 1)) (λ c. all_mapped (destabilisation c) (range_with_len 0 (n - 1)) (λ r. refl))))
    (all_flat stabilisations (range_with_len 0 n) (λ c.
    All-append IsNoSlide (map (stabilisation c Cross) corners) (map (stabilisation c Ring) corners)
    (all_mapped (stabilisation c Cross) corners (λ corner. refl)) (all_mapped (stabilisation c Ring) corners (λ corner. refl))))

no_slide : (d : Diagram) (move : Move) → Contains (candidate_moves d) move → is_slide move ≡ false
no_slide d move among = All-contains IsNoSlide (all_but_slides (size d)) move (slides_are_left_out (size d))
    (filter_contains (is_candidate d) (all_but_slides (size d)) move among).0

pub candidates_are : (d : Diagram) (move : Move) → IsGrid d
    → Contains (candidate_moves d) move ↔ ((is_slide move ≡ false) × ((e : Diagram) × (Step d move e × (size e ≤ LARGEST))))
candidates_are d move grid = (
  λ among. (let made = step_exists d move grid (candidate_legal d move among) in
      (no_slide d move among, (made.0, (made.1, candidate_small d move made.0 among made.1)))),
  λ leads. small_candidate d move leads.1.0 leads.0 leads.1.1.0 leads.1.1.1,
)
