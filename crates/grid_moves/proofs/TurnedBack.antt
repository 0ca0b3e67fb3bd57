-- Lists of moves, undone.
use Rattle.std.proofs.Common.{◌≡◌, ◌∙◌, ap, refl, sym, subst, ℕ, zero, suc, ◌+◌, ◌<◌, ◌≤◌, List, [], ◌∷◌, ◌++◌, length, get_or, take, reverse, None, arith}
use Rattle.std.proofs.lemmas.List.{take_more, reverse-append, length-append}
use Rattle.grid_core.specs.Diagram.{Diagram, size}
use Rattle.grid_moves.specs.declared.step.Move.{Move}
use Rattle.grid_moves.specs.Inverse.{inverse_of}
use Rattle.grid_moves.specs.Step.{Step}
use Rattle.grid_moves.specs.MoveFault.{first_move_fault}
use Rattle.grid_moves.specs.Joining.{Joins, JoinsWithin}
use Rattle.grid_moves.proofs.OneResult.{step_once, step_legal}
use Rattle.grid_moves.proofs.Undone.{step_undone}
use Rattle.grid_moves.proofs.Joined.{joins_push}
use Rattle.grid_moves.proofs.Stopped.{joins_once}
use Rattle.grid_moves.proofs.Within.{within_append, within_start}
use Rattle.grid_moves.specs.Undoing.{Undone}

-- moves that are undone join
pub undone_joins : (moves back : List Move) (d e : Diagram) → Undone d moves e back → Joins d moves e
undone_joins [] back d e undone = undone.0
undone_joins (move ∷ moves) back d e (f, (rest, (step, undone, is))) = (f, (step, undone_joins moves rest f e undone))

-- moves that join are undone by some list, which is as long
pub undone_by : (moves : List Move) (d e : Diagram) → Joins d moves e → (back : List Move) × (Undone d moves e back × (length back ≡ length moves))
undone_by [] d e joined = ([], ((joined, refl), refl))
undone_by (move ∷ moves) d e (f, (step, joined)) =
    let (rest, (undone, long)) = undone_by moves f e joined in
    (rest ++ inverse_of d move ∷ [], ((f, (rest, (step, undone, refl))), omega (arith, long, length-append rest (inverse_of d move ∷ []))))

-- one move more, and what leads back from it first
undone_push : (moves back : List Move) (d e f : Diagram) (move : Move) → Undone d moves e back → Step e move f
    → Undone d (moves ++ move ∷ []) f (inverse_of e move ∷ back)
undone_push [] back d e f move undone step = (
  f,
  (
    [],
    (
      subst (λ z. Step z move f) (sym undone.0) step,
      (refl, refl),
      ap (λ (z : Diagram). inverse_of z move ∷ back) (sym undone.0)
          ∙ ap (λ (ms : List Move). inverse_of d move ∷ ms) undone.1,
    ),
  ),
)
undone_push (first ∷ moves) back d e f move (g, (rest, (begun, undone, is))) step =
    (g, (inverse_of e move ∷ rest, (begun, undone_push moves rest g e f move undone step, ap (λ (ms : List Move). inverse_of e move ∷ ms) is)))

pub undone_more : (moves : List Move) (k : ℕ) (z : Move) (d here next : Diagram) (list after : List Move) (inverse : Move) → k < length moves
    → Undone d (take k moves) here (reverse list) → Step here (get_or moves k z) next → inverse ≡ inverse_of here (get_or moves k z)
    → after ≡ list ++ inverse ∷ [] → Undone d (take (k + 1) moves) next (reverse after)
undone_more moves k z d here next list after inverse lt undone step home is =
    let inverse' : Move = inverse_of here (get_or moves k z) in
    let turned : reverse after ≡ inverse' ∷ reverse list = ap reverse is ∙ reverse-append list (inverse ∷ []) ∙ ap (λ (m : Move). m ∷ reverse list) home in
    subst (λ (ms : List Move). Undone d (take (k + 1) moves) next ms) (sym turned)
    (subst (λ (ms : List Move). Undone d ms next (inverse' ∷ reverse list)) (sym (take_more moves k z lt))
    (undone_push (take k moves) (reverse list) d here next (get_or moves k z) undone step))

-- of moves that join, each is legal where it stands
pub legal_there : (moves : List Move) (k : ℕ) (z : Move) (d e here : Diagram) (back : List Move) → k < length moves → Undone d (take k moves) here back
    → Joins d moves e → first_move_fault here (get_or moves k z) ≡ None
legal_there [] k z d e here back lt undone joined = absurd (omega arith)
legal_there (move ∷ moves) zero z d e here back lt undone joined =
    subst (λ (there : Diagram). first_move_fault there move ≡ None) undone.0 (step_legal d move joined.0 joined.1.0)
legal_there (move ∷ moves) (suc k) z d e here back lt (f, (rest, (step, undone, is))) joined =
    legal_there moves k z f e here rest (omega arith) undone
    (subst (λ (there : Diagram). Joins there moves e) (step_once d move joined.0 f joined.1.0 step) joined.1.1)

-- what is undone leads where the moves lead
pub undone_there : (moves back : List Move) (d e f : Diagram) → Undone d moves e back → Joins d moves f → Undone d moves f back
undone_there moves back d e f undone joined =
    subst (λ (there : Diagram). Undone d moves there back) (joins_once moves d e f (undone_joins moves back d e undone) joined) undone

-- and back
pub undone_back : (moves back : List Move) (d e : Diagram) → Undone d moves e back → Joins e back d
undone_back [] back d e undone = subst (λ (ms : List Move). Joins e ms d) (sym undone.1) (sym undone.0)
undone_back (move ∷ moves) back d e (f, (rest, (step, undone, is))) =
    subst (λ (ms : List Move). Joins e ms d) (sym is)
    (joins_push rest (inverse_of d move) e f d (undone_back moves rest f e undone) (step_undone d move f step))

-- moves that stay within a cap do so on the way back
pub undone_within : (cap : ℕ) (moves back : List Move) (d e : Diagram) → JoinsWithin cap d moves e → Undone d moves e back → JoinsWithin cap e back d
undone_within cap [] back d e joined undone =
    subst (λ (ms : List Move). JoinsWithin cap e ms d) (sym undone.1) (subst (λ z. size z ≤ cap) joined.1 joined.0, sym joined.1)
undone_within cap (move ∷ moves) back d e joined (f, (rest, (step, undone, is))) =
    let onward : JoinsWithin cap f moves e =
    subst (λ (there : Diagram). JoinsWithin cap there moves e) (step_once d move joined.1.0 f joined.1.1.0 step) joined.1.1.1 in
    subst (λ (ms : List Move). JoinsWithin cap e ms d) (sym is)
    (within_append cap rest (inverse_of d move ∷ []) e f d (undone_within cap moves rest f e onward undone)
    (within_start cap moves f e onward, (d, (step_undone d move f step, (joined.0, refl)))))
