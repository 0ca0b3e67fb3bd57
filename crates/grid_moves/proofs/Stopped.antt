-- A list of moves leads to one diagram, or stops at one place.
use Rattle.std.proofs.Common.{◌≡◌, ◌∙◌, ◌⊎◌, inl, inr, ◌∷◌, [], ℕ, zero, suc, List, Option, Some, None, Result, Ok, Err, take, slice_get, refl, sym, subst, ap}
use Rattle.std.proofs.Common.{ap₂}
use Rattle.grid_core.specs.Diagram.{Diagram, IsGrid}
use Rattle.grid_moves.specs.declared.step.Move.{Move}
use Rattle.grid_moves.specs.declared.step.MoveFault.{MoveFault}
use Rattle.grid_moves.specs.Step.{Step}
use Rattle.grid_moves.specs.MoveFault.{first_move_fault}
use Rattle.grid_moves.specs.Joining.{Joins, StopsAt}
use Rattle.grid_moves.proofs.OneResult.{step_once, step_legal, moved, moved_step}

pub joins_once : (moves : List Move) (d e f : Diagram) → Joins d moves e → Joins d moves f → e ≡ f
joins_once [] d e f one two = sym one ∙ two
joins_once (move ∷ moves) d e f one two =
    joins_once moves one.0 e f one.1.1 (subst (λ z. Joins z moves f) (step_once d move two.0 one.0 two.1.0 one.1.0) two.1.1)

-- a legal first move has no fault
legal_first : (d e here : Diagram) (first move : Move) (fault : MoveFault) → Step d first e → d ≡ here → ◌≡◌ {A = Option Move} (Some first) (Some move)
    → first_move_fault here move ≡ Some fault → ⊥
legal_first d e here first move fault step at is illegal =
    let same : first ≡ move = cc in
    let none : first_move_fault here move ≡ None = ap₂ (λ z m. first_move_fault z m) (sym at) (sym same) ∙ step_legal d first e step in
    let no : ◌≡◌ {A = Option MoveFault} None (Some fault) = sym none ∙ illegal in
    cc

stopped : (moves : List Move) (place : ℕ) (d e here : Diagram) (move : Move) (fault : MoveFault) → Joins d (take place moves) here
    → slice_get moves place ≡ Some move → first_move_fault here move ≡ Some fault → Joins d moves e → ⊥
stopped [] place d e here move fault joined next illegal whole = let no : ◌≡◌ {A = Option Move} None (Some move) = next in cc
stopped (first ∷ moves) zero d e here move fault joined next illegal whole = legal_first d whole.0 here first move fault whole.1.0 joined next illegal
stopped (first ∷ moves) (suc place) d e here move fault joined next illegal whole =
    stopped moves place joined.0 e here move fault joined.1.1 next illegal
    (subst (λ z. Joins z moves e) (step_once d first whole.0 joined.0 whole.1.0 joined.1.0) whole.1.1)

pub not_both : (moves : List Move) (d e : Diagram) (place : ℕ) (fault : MoveFault) → StopsAt d moves place fault → Joins d moves e → ⊥
not_both moves d e place fault stop whole = stopped moves place d e stop.here stop.move fault stop.joined stop.next stop.illegal whole

stops_same : (moves : List Move) (place place' : ℕ) (d here here' : Diagram) (move move' : Move) (fault fault' : MoveFault) → Joins d (take place moves) here
    → slice_get moves place ≡ Some move → first_move_fault here move ≡ Some fault → Joins d (take place' moves) here' → slice_get moves place' ≡ Some move'
    → first_move_fault here' move' ≡ Some fault' → (place ≡ place') × (fault ≡ fault')
stops_same [] place place' d here here' move move' fault fault' joined next illegal joined' next' illegal' =
    absurd (let no : ◌≡◌ {A = Option Move} None (Some move) = next in cc)
stops_same (first ∷ moves) zero zero d here here' move move' fault fault' joined next illegal joined' next' illegal' =
    let same : ◌≡◌ {A = Option Move} (Some move) (Some move') = sym next ∙ next' in
    let moved : move ≡ move' = cc in
    let faults : ◌≡◌ {A = Option MoveFault} (Some fault) (Some fault') =
    sym illegal ∙ ap₂ (λ z m. first_move_fault z m) (sym joined ∙ joined') moved ∙ illegal' in
    let one : fault ≡ fault' = cc in
    (refl, one)
stops_same (first ∷ moves) zero (suc place') d here here' move move' fault fault' joined next illegal joined' next' illegal' =
    absurd (legal_first d joined'.0 here first move fault joined'.1.0 joined next illegal)
stops_same (first ∷ moves) (suc place) zero d here here' move move' fault fault' joined next illegal joined' next' illegal' =
    absurd (legal_first d joined.0 here' first move' fault' joined.1.0 joined' next' illegal')
stops_same (first ∷ moves) (suc place) (suc place') d here here' move move' fault fault' joined next illegal joined' next' illegal' =
    let rest =
    stops_same moves place place' joined.0 here here' move move' fault fault' joined.1.1 next illegal
    (subst (λ z. Joins z (take place' moves) here') (step_once d first joined'.0 joined.0 joined'.1.0 joined.1.0) joined'.1.1) next' illegal' in
    (ap (λ (z : ℕ). suc z) rest.0, rest.1)

pub stops_once : (moves : List Move) (d : Diagram) (place place' : ℕ) (fault fault' : MoveFault) → StopsAt d moves place fault → StopsAt d moves place' fault'
    → (place ≡ place') × (fault ≡ fault')
stops_once moves d place place' fault fault' one two =
    stops_same moves place place' d one.here two.here one.move two.move fault fault' one.joined one.next one.illegal two.joined two.next two.illegal

-- a list goes on to its end, or stops
some_or_none : {X : Type 0} (o : Option X) → (o ≡ None) ⊎ ((x : X) × (o ≡ Some x))
some_or_none None = inl refl
some_or_none (Some x) = inr (x, refl)

pub joins_or_stops : (moves : List Move) (d : Diagram) → IsGrid d
    → ((e : Diagram) × Joins d moves e) ⊎ ((place : ℕ) × ((fault : MoveFault) × StopsAt d moves place fault))
joins_or_stops [] d grid = inl (d, refl)
joins_or_stops (move ∷ moves) d grid = elim (some_or_none (first_move_fault d move)) [
  | inl legal ↦
      let step = moved_step d move grid legal in
      elim (joins_or_stops moves (moved move d) step.after) [
        | inl on ↦ inl (on.0, (moved move d, (step, on.1)))
        | inr stop ↦ inr (suc stop.0, (stop.1.0, later move moves d stop.0 stop.1.0 step stop.1.1))
      ]
  | inr illegal ↦ inr (zero, (illegal.0, record { here = d; joined = refl; move = move; next = refl; illegal = illegal.1 }))
]
  where
    later : (move : Move) (moves : List Move) (d : Diagram) (place : ℕ) (fault : MoveFault) → Step d move (moved move d)
        → StopsAt (moved move d) moves place fault → StopsAt d (move ∷ moves) (suc place) fault
    later move moves d place fault step stop = record {
      here = stop.here;
      joined = (moved move d, (step, stop.joined));
      move = stop.move;
      next = stop.next;
      illegal = stop.illegal;
    }

-- the answer where a list leads, and where it stops
pub leads_only : (moves : List Move) (d f : Diagram) → Joins d moves f → (e : Diagram) → Joins d moves e
    → ◌≡◌ {A = Result Diagram (ℕ × MoveFault)} (Ok f) (Ok e)
leads_only moves d f one e two = ap (λ z. Ok z) (joins_once moves d f e one two)

pub stops_only : (moves : List Move) (d : Diagram) (place : ℕ) (fault : MoveFault) → StopsAt d moves place fault → (e : Diagram) → Joins d moves e
    → ◌≡◌ {A = Result Diagram (ℕ × MoveFault)} (Err (place, fault)) (Ok e)
stops_only moves d place fault stop e joined = absurd (not_both moves d e place fault stop joined)
