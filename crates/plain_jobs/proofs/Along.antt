-- Colours carried by one move more.
use Rattle.std.proofs.Common.{◌≡◌, ◌<◌, ◌+◌, ◌++◌, ℕ, List, [], ◌∷◌, length, take, get_or, subst, sym, refl, ap, ◌∙◌}
use Rattle.std.proofs.lemmas.List.{take_more}
use Rattle.grid_core.specs.Diagram.{Diagram}
use Rattle.grid_moves.specs.declared.step.Move.{Move}
use Rattle.grid_moves.specs.Step.{Step}
use Rattle.grid_moves.specs.Joining.{Joins}
use Rattle.grid_moves.proofs.OneResult.{step_once}
use Rattle.quandle_core.specs.Quandle.{Table, IsQuandle}
use Rattle.colour_rows.specs.Colouring.{IsColouring}
use Rattle.colour_laws.proofs.Steps.{step_carries}
use Rattle.colour_laws.specs.Carried.{carried}
use Rattle.plain_jobs.specs.Jobs.Replay.{Carries}

carries_push : (t : Table) (moves : List Move) (move : Move) (d e f : Diagram) (colours last : List ℕ)
    → Carries t d colours moves e last → Step e move f → Carries t d colours (moves ++ move ∷ []) f (carried t e move last)
carries_push t [] move d e f colours last c step =
    (f, (subst (λ g. Step g move f) (sym c.0) step, (refl, ap (λ g. carried t g move colours) c.0 ∙ ap (carried t e move) c.1)))
carries_push t (m ∷ moves) move d e f colours last c step =
    (c.0, (c.1.0, carries_push t moves move c.0 e f (carried t d m colours) last c.1.1 step))

pub carries_more : (t : Table) (moves : List Move) (k : ℕ) (z : Move) (d e f : Diagram) (colours last : List ℕ)
    → k < length moves → Carries t d colours (take k moves) e last → Step e (get_or moves k z) f
    → Carries t d colours (take (k + 1) moves) f (carried t e (get_or moves k z) last)
carries_more t moves k z d e f colours last lt c step =
    rw (take_more moves k z lt) (carries_push t (take k moves) (get_or moves k z) d e f colours last c step)

-- the diagrams on the way are joined by the moves
pub joins_along : (t : Table) (moves : List Move) (d e : Diagram) (colours last : List ℕ) → Carries t d colours moves e last → Joins d moves e
joins_along t [] d e colours last c = c.0
joins_along t (m ∷ moves) d e colours last c = (c.0, (c.1.0, joins_along t moves c.0 e (carried t d m colours) last c.1.1))

-- what is carried is one diagram and one list of colours
pub carries_once : (t : Table) (moves : List Move) (d e f : Diagram) (colours last other : List ℕ)
    → Carries t d colours moves e last → Carries t d colours moves f other → (e ≡ f) × (last ≡ other)
carries_once t [] d e f colours last other one two = (sym one.0 ∙ two.0, sym one.1 ∙ two.1)
carries_once t (m ∷ moves) d e f colours last other one two =
    let same : two.0 ≡ one.0 = step_once d m two.0 one.0 two.1.0 one.1.0 in
    carries_once t moves one.0 e f (carried t d m colours) last other one.1.1 (subst (λ g. Carries t g (carried t d m colours) moves f other) same two.1.1)

-- moves that join carry any colours
pub carried_along : (t : Table) (moves : List Move) (d e : Diagram) (colours : List ℕ) → Joins d moves e → (last : List ℕ) × Carries t d colours moves e last
carried_along t [] d e colours joined = (colours, (joined, refl))
carried_along t (m ∷ moves) d e colours joined =
    let rest = carried_along t moves joined.0 e (carried t d m colours) joined.1.1 in
    (rest.0, (joined.0, (joined.1.0, rest.1)))

-- a colouring is carried to a colouring
pub colouring_along : (t : Table) (moves : List Move) (d e : Diagram) (colours last : List ℕ) → IsQuandle t → Carries t d colours moves e last
    → IsColouring t d colours → IsColouring t e last
colouring_along t [] d e colours last q c is = subst (IsColouring t e) c.1 (subst (λ f. IsColouring t f colours) c.0 is)
colouring_along t (m ∷ moves) d e colours last q c is =
    colouring_along t moves c.0 e (carried t d m colours) last q c.1.1 ((step_carries t q d c.0 m c.1.0).into colours is)
