-- Lists of moves, tidied: they are tidy, and lead where the given ones lead, within the same cap.
use Rattle.std.proofs.Common.{◌≡◌, ◌<◌, ◌≤◌, ◌+◌, ◌-◌, ◌%◌, ◌++◌, ◌∷◌, [], ◌∙◌, ◌&&◌, ◌||◌, not, ℕ, zero, suc, Bool, true, false, List, Option, Some, None}
use Rattle.std.proofs.Common.{arith, sym, refl, ap, ap₂, subst, append-nil}
use Rattle.std.specs.List.{filter}
use Rattle.std.proofs.Math.Bool.{and-false}
use Rattle.std.proofs.lemmas.Bool.{and_from, not-true}
use Rattle.std.proofs.lemmas.List.Elements.{filter-append}
use Rattle.grid_core.specs.declared.grid.TheConstants.{MAX_SIZE}
use Rattle.grid_core.specs.Diagram.{Diagram, IsGrid, size}
use Rattle.grid_moves.specs.declared.step.Move.{Move}
use Rattle.grid_moves.specs.declared.step.Move.TheVariants.{ShiftColumns, ShiftRows, ExchangeColumns, ExchangeRows, SlideColumns, SlideRows, Stabilise}
use Rattle.grid_moves.specs.declared.step.Move.TheVariants.{Destabilise}
use Rattle.grid_moves.specs.Joining.{Joins, JoinsWithin}
use Rattle.grid_moves.specs.SizeAfter.{size_after}
use Rattle.grid_moves.specs.Step.{Step}
use Rattle.grid_moves.specs.Kinds.{is_shift, is_column_shift, is_row_shift}
use Rattle.grid_moves.specs.Tidy.{may_follow, are_tidy_behind, is_tidy}
use Rattle.grid_moves.proofs.OneResult.{step_once}
use Rattle.grid_laws.proofs.Sizes.{step_size}
use Rattle.grid_moves.proofs.Within.{within_append, within_joins, within_larger, joins_within_most}
use Rattle.grid_keys.specs.Shifts.{shift_moves}
use Rattle.grid_canon.specs.Tidied.{tidied}
use Rattle.grid_keys.specs.Translation.{translate}
use Rattle.grid_keys.proofs.Translated.{origin-below, size-translate, translate-grid, translate-translate}
use Rattle.grid_keys.proofs.Joined.{translate_none, at_origin, column_shift_step, row_shift_step, shifts_joined_within}

-- ---- tidy

-- no shift stands before
abbrev free : Option Move → Bool
free None = true
free (Some before) = not (is_shift before)

no_row_shift : (move : Move) → is_shift move ≡ false → is_row_shift move ≡ false
no_row_shift (ShiftColumns k) none = refl
no_row_shift (ShiftRows k) none = absurd (let no : ◌≡◌ {A = Bool} true false = none in cc)
no_row_shift (ExchangeColumns c) none = refl
no_row_shift (ExchangeRows r) none = refl
no_row_shift (SlideColumns c) none = refl
no_row_shift (SlideRows r) none = refl
no_row_shift (Stabilise c kind corner) none = refl
no_row_shift (Destabilise c r) none = refl

-- behind what is no shift any move may follow
may_begin : (before : Option Move) (move : Move) → free before ≡ true → may_follow before move ≡ true
may_begin None move is = refl
may_begin (Some last) move is =
    let none : is_shift last ≡ false = not-true (is_shift last) is in
    ap₂ (λ (p q : Bool). not ((is_column_shift move && p) || (is_row_shift move && q))) none (no_row_shift last none)
    ∙ ap₂ (λ (p q : Bool). not (p || q)) (and-false (is_column_shift move)) (and-false (is_row_shift move))

-- what is no shift may follow on any move
may_end : (before : Option Move) (move : Move) → is_shift move ≡ false → may_follow before move ≡ true
may_end None move none = refl
may_end (Some last) move none =
    ap₂ (λ (p q : Bool). not ((p && is_shift last) || (q && is_row_shift last))) (no_column_shift move none) (no_row_shift move none)
  where
    no_column_shift : (move : Move) → is_shift move ≡ false → is_column_shift move ≡ false
    no_column_shift (ShiftColumns k) none = absurd (let no : ◌≡◌ {A = Bool} true false = none in cc)
    no_column_shift (ShiftRows k) none = refl
    no_column_shift (ExchangeColumns c) none = refl
    no_column_shift (ExchangeRows r) none = refl
    no_column_shift (SlideColumns c) none = refl
    no_column_shift (SlideRows r) none = refl
    no_column_shift (Stabilise c kind corner) none = refl
    no_column_shift (Destabilise c r) none = refl

-- the tail of a list is tidy behind any move
abbrev IsTidyBehindAny : List Move → Type 0
IsTidyBehindAny moves = (before : Option Move) → are_tidy_behind before moves ≡ true

-- the shifts of a translate before such a tail
shifts_tidy : (a b : ℕ) (before : Option Move) (moves : List Move) → free before ≡ true → IsTidyBehindAny moves
    → are_tidy_behind before (shift_moves a b ++ moves) ≡ true
shifts_tidy zero zero before moves is rest = rest before
shifts_tidy zero (suc b) before moves is rest =
    and_from (may_follow before (ShiftRows (suc b))) (are_tidy_behind (Some (ShiftRows (suc b))) moves) (may_begin before (ShiftRows (suc b)) is)
    (rest (Some (ShiftRows (suc b))))
shifts_tidy (suc a) zero before moves is rest =
    and_from (may_follow before (ShiftColumns (suc a))) (are_tidy_behind (Some (ShiftColumns (suc a))) moves) (may_begin before (ShiftColumns (suc a)) is)
    (rest (Some (ShiftColumns (suc a))))
shifts_tidy (suc a) (suc b) before moves is rest =
    and_from (may_follow before (ShiftColumns (suc a))) (are_tidy_behind (Some (ShiftColumns (suc a))) (ShiftRows (suc b) ∷ moves))
    (may_begin before (ShiftColumns (suc a)) is) (rest (Some (ShiftRows (suc b))))

move_tidy : (move : Move) (moves : List Move) → is_shift move ≡ false → are_tidy_behind (Some move) moves ≡ true → IsTidyBehindAny (move ∷ moves)
move_tidy move moves none rest = λ before. and_from (may_follow before move) (are_tidy_behind (Some move) moves) (may_end before move none) rest

pub tidied_tidy : (moves : List Move) (n a b : ℕ) (before : Option Move) → free before ≡ true → are_tidy_behind before (tidied n a b moves) ≡ true
tidied_tidy [] n a b before is =
    ap (λ (ms : List Move). are_tidy_behind before ms) (sym (append-nil (shift_moves a b))) ∙ shifts_tidy a b before [] is (λ last. refl)
tidied_tidy (ShiftColumns k ∷ moves) n a b before is = tidied_tidy moves n ((a + k) % n) b before is
tidied_tidy (ShiftRows k ∷ moves) n a b before is = tidied_tidy moves n a ((b + k) % n) before is
tidied_tidy (ExchangeColumns c ∷ moves) n a b before is =
    shifts_tidy a b before (ExchangeColumns c ∷ tidied n 0 0 moves) is
    (move_tidy (ExchangeColumns c) (tidied n 0 0 moves) refl (tidied_tidy moves n 0 0 (Some (ExchangeColumns c)) refl))
tidied_tidy (ExchangeRows r ∷ moves) n a b before is =
    shifts_tidy a b before (ExchangeRows r ∷ tidied n 0 0 moves) is
    (move_tidy (ExchangeRows r) (tidied n 0 0 moves) refl (tidied_tidy moves n 0 0 (Some (ExchangeRows r)) refl))
tidied_tidy (SlideColumns c ∷ moves) n a b before is =
    shifts_tidy a b before (SlideColumns c ∷ tidied n 0 0 moves) is
    (move_tidy (SlideColumns c) (tidied n 0 0 moves) refl (tidied_tidy moves n 0 0 (Some (SlideColumns c)) refl))
tidied_tidy (SlideRows r ∷ moves) n a b before is =
    shifts_tidy a b before (SlideRows r ∷ tidied n 0 0 moves) is
    (move_tidy (SlideRows r) (tidied n 0 0 moves) refl (tidied_tidy moves n 0 0 (Some (SlideRows r)) refl))
tidied_tidy (Stabilise c kind corner ∷ moves) n a b before is =
    shifts_tidy a b before (Stabilise c kind corner ∷ tidied (n + 1) 0 0 moves) is
    (move_tidy (Stabilise c kind corner) (tidied (n + 1) 0 0 moves) refl (tidied_tidy moves (n + 1) 0 0 (Some (Stabilise c kind corner)) refl))
tidied_tidy (Destabilise c r ∷ moves) n a b before is =
    shifts_tidy a b before (Destabilise c r ∷ tidied (n - 1) 0 0 moves) is
    (move_tidy (Destabilise c r) (tidied (n - 1) 0 0 moves) refl (tidied_tidy moves (n - 1) 0 0 (Some (Destabilise c r)) refl))

-- ---- what else is written

abbrev is_other : Move → Bool
is_other move = not (is_shift move)

no_others : (a b : ℕ) → filter is_other (shift_moves a b) ≡ []
no_others zero zero = refl
no_others zero (suc b) = refl
no_others (suc a) zero = refl
no_others (suc a) (suc b) = refl

behind_shifts : (a b : ℕ) (moves others : List Move) → filter is_other moves ≡ others → filter is_other (shift_moves a b ++ moves) ≡ others
behind_shifts a b moves others is =
    filter-append is_other (shift_moves a b) moves ∙ ap₂ (λ (xs ys : List Move). xs ++ ys) (no_others a b) is

-- the moves that are no shifts stay, in order
pub others_kept : (moves : List Move) (n a b : ℕ)
    → filter (λ (move : Move). not (is_shift move)) (tidied n a b moves) ≡ filter (λ (move : Move). not (is_shift move)) moves
others_kept [] n a b = no_others a b
others_kept (ShiftColumns k ∷ moves) n a b = others_kept moves n ((a + k) % n) b
others_kept (ShiftRows k ∷ moves) n a b = others_kept moves n a ((b + k) % n)
others_kept (ExchangeColumns c ∷ moves) n a b =
    behind_shifts a b (ExchangeColumns c ∷ tidied n 0 0 moves) _ (ap (λ (ms : List Move). ExchangeColumns c ∷ ms) (others_kept moves n 0 0))
others_kept (ExchangeRows r ∷ moves) n a b =
    behind_shifts a b (ExchangeRows r ∷ tidied n 0 0 moves) _ (ap (λ (ms : List Move). ExchangeRows r ∷ ms) (others_kept moves n 0 0))
others_kept (SlideColumns c ∷ moves) n a b =
    behind_shifts a b (SlideColumns c ∷ tidied n 0 0 moves) _ (ap (λ (ms : List Move). SlideColumns c ∷ ms) (others_kept moves n 0 0))
others_kept (SlideRows r ∷ moves) n a b =
    behind_shifts a b (SlideRows r ∷ tidied n 0 0 moves) _ (ap (λ (ms : List Move). SlideRows r ∷ ms) (others_kept moves n 0 0))
others_kept (Stabilise c kind corner ∷ moves) n a b =
    behind_shifts a b (Stabilise c kind corner ∷ tidied (n + 1) 0 0 moves) _
    (ap (λ (ms : List Move). Stabilise c kind corner ∷ ms) (others_kept moves (n + 1) 0 0))
others_kept (Destabilise c r ∷ moves) n a b =
    behind_shifts a b (Destabilise c r ∷ tidied (n - 1) 0 0 moves) _ (ap (λ (ms : List Move). Destabilise c r ∷ ms) (others_kept moves (n - 1) 0 0))

-- ---- where it leads

-- a shift of a translate is a translate
columns_taken : (d f : Diagram) (a b k : ℕ) → IsGrid d → a < size d → b < size d → Step (translate d a b) (ShiftColumns k) f
    → (f ≡ translate d ((a + k) % size d) b) × (k < size d)
columns_taken d f a b k grid ha hb step =
    let t : Diagram = translate d a b in
    let long : size t ≡ size d = size-translate d a b ha in
    let most : k < size d = omega (arith, step.marks.most, long) in (
      step_once t (ShiftColumns k) f (translate t k 0) step (column_shift_step t k (translate-grid d a b grid ha hb) step.marks.least step.marks.most)
          ∙ translate-translate d a b k 0 grid ha hb most (omega (arith, grid.least))
          ∙ ap (λ (z : ℕ). translate d ((a + k) % size d) z) (at_origin (size d) b hb),
      most,
    )

rows_taken : (d f : Diagram) (a b k : ℕ) → IsGrid d → a < size d → b < size d → Step (translate d a b) (ShiftRows k) f
    → (f ≡ translate d a ((b + k) % size d)) × (k < size d)
rows_taken d f a b k grid ha hb step =
    let t : Diagram = translate d a b in
    let long : size t ≡ size d = size-translate d a b ha in
    let most : k < size d = omega (arith, step.marks.most, long) in (
      step_once t (ShiftRows k) f (translate t 0 k) step (row_shift_step t k (translate-grid d a b grid ha hb) step.marks.least step.marks.most)
          ∙ translate-translate d a b 0 k grid ha hb (omega (arith, grid.least)) most
          ∙ ap (λ (z : ℕ). translate d z ((b + k) % size d)) (at_origin (size d) a ha),
      most,
    )

-- a move that is no shift, behind the shifts to the translate on which it is made
written_within : (cap : ℕ) (move : Move) (moves : List Move) (d f e : Diagram) (a b : ℕ) → IsGrid d → a < size d → b < size d
    → size (translate d a b) ≤ cap → Step (translate d a b) move f → JoinsWithin cap f moves e
    → JoinsWithin cap d (shift_moves a b ++ move ∷ moves) e
written_within cap move moves d f e a b grid ha hb small step rest =
    let le : size d ≤ cap = omega (arith, small, size-translate d a b ha) in
    within_append cap (shift_moves a b) (move ∷ moves) d (translate d a b) e
    (within_larger (size d) cap (shift_moves a b) d (translate d a b) le (shifts_joined_within d a b grid ha hb)) (small, (f, (step, rest)))

-- from where a move that is no shift has led, given the same for the moves behind it
no_shift_within : (cap n : ℕ) (move : Move) (moves : List Move) (d e : Diagram) (a b : ℕ) → IsGrid d → a < size d → b < size d → size_after move (size d) ≡ n
    → (joined : JoinsWithin cap (translate d a b) (move ∷ moves) e)
    → (0 < size joined.1.0 → JoinsWithin cap (translate joined.1.0 0 0) moves e → JoinsWithin cap joined.1.0 (tidied (size joined.1.0) 0 0 moves) e)
    → JoinsWithin cap d (shift_moves a b ++ move ∷ tidied n 0 0 moves) e
no_shift_within cap n move moves d e a b grid ha hb is joined again =
    let f : Diagram = joined.1.0 in
    let step = joined.1.1.0 in
    let long : size f ≡ n =
    step_size move (translate d a b) f step ∙ ap (λ (z : ℕ). size_after move z) (size-translate d a b ha) ∙ is in
    let some : 0 < size f = omega (arith, step.after.least) in
    let rest : JoinsWithin cap f (tidied (size f) 0 0 moves) e =
    again some (subst (λ g. JoinsWithin cap g moves e) (sym (translate_none f step.after)) joined.1.1.1) in
    written_within cap move (tidied n 0 0 moves) d f e a b grid ha hb joined.0 step (subst (λ (z : ℕ). JoinsWithin cap f (tidied z 0 0 moves) e) long rest)

pub tidied_within : (cap : ℕ) (moves : List Move) (d e : Diagram) (a b : ℕ) → IsGrid d → a < size d → b < size d
    → JoinsWithin cap (translate d a b) moves e → JoinsWithin cap d (tidied (size d) a b moves) e
tidied_within cap [] d e a b grid ha hb joined =
    let le : size d ≤ cap = omega (arith, joined.0, size-translate d a b ha) in
    within_larger (size d) cap (shift_moves a b) d e le
    (subst (λ t. JoinsWithin (size d) d (shift_moves a b) t) joined.1 (shifts_joined_within d a b grid ha hb))
tidied_within cap (ShiftColumns k ∷ moves) d e a b grid ha hb joined =
    let taken = columns_taken d joined.1.0 a b k grid ha hb joined.1.1.0 in
    tidied_within cap moves d e ((a + k) % size d) b grid (origin-below (size d) k a taken.1 ha) hb
    (subst (λ g. JoinsWithin cap g moves e) taken.0 joined.1.1.1)
tidied_within cap (ShiftRows k ∷ moves) d e a b grid ha hb joined =
    let taken = rows_taken d joined.1.0 a b k grid ha hb joined.1.1.0 in
    tidied_within cap moves d e a ((b + k) % size d) grid ha (origin-below (size d) k b taken.1 hb)
    (subst (λ g. JoinsWithin cap g moves e) taken.0 joined.1.1.1)
tidied_within cap (ExchangeColumns c ∷ moves) d e a b grid ha hb joined =
    no_shift_within cap (size d) (ExchangeColumns c) moves d e a b grid ha hb refl joined
    (λ some from. tidied_within cap moves joined.1.0 e 0 0 joined.1.1.0.after some some from)
tidied_within cap (ExchangeRows r ∷ moves) d e a b grid ha hb joined =
    no_shift_within cap (size d) (ExchangeRows r) moves d e a b grid ha hb refl joined
    (λ some from. tidied_within cap moves joined.1.0 e 0 0 joined.1.1.0.after some some from)
tidied_within cap (SlideColumns c ∷ moves) d e a b grid ha hb joined =
    no_shift_within cap (size d) (SlideColumns c) moves d e a b grid ha hb refl joined
    (λ some from. tidied_within cap moves joined.1.0 e 0 0 joined.1.1.0.after some some from)
tidied_within cap (SlideRows r ∷ moves) d e a b grid ha hb joined =
    no_shift_within cap (size d) (SlideRows r) moves d e a b grid ha hb refl joined
    (λ some from. tidied_within cap moves joined.1.0 e 0 0 joined.1.1.0.after some some from)
tidied_within cap (Stabilise c kind corner ∷ moves) d e a b grid ha hb joined =
    no_shift_within cap (size d + 1) (Stabilise c kind corner) moves d e a b grid ha hb refl joined
    (λ some from. tidied_within cap moves joined.1.0 e 0 0 joined.1.1.0.after some some from)
tidied_within cap (Destabilise c r ∷ moves) d e a b grid ha hb joined =
    no_shift_within cap (size d - 1) (Destabilise c r) moves d e a b grid ha hb refl joined
    (λ some from. tidied_within cap moves joined.1.0 e 0 0 joined.1.1.0.after some some from)

-- ---- from a grid

pub tidied_from : (cap : ℕ) (moves : List Move) (d e : Diagram) → IsGrid d → JoinsWithin cap d moves e → JoinsWithin cap d (tidied (size d) 0 0 moves) e
tidied_from cap moves d e grid joined =
    let some : 0 < size d = omega (arith, grid.least) in
    tidied_within cap moves d e 0 0 grid some some (subst (λ g. JoinsWithin cap g moves e) (sym (translate_none d grid)) joined)

pub tidied_joins : (moves : List Move) (d e : Diagram) → IsGrid d → Joins d moves e → Joins d (tidied (size d) 0 0 moves) e
tidied_joins moves d e grid joined =
    within_joins MAX_SIZE (tidied (size d) 0 0 moves) d e (tidied_from MAX_SIZE moves d e grid (joins_within_most moves d e grid joined))

pub tidied_is_tidy : (moves : List Move) (n : ℕ) → is_tidy (tidied n 0 0 moves) ≡ true
tidied_is_tidy moves n = tidied_tidy moves n 0 0 None refl
