-- Lists of moves, made longer and joined end to end.
use Rattle.std.proofs.Common.{◌<◌, ◌+◌, ◌++◌, ◌∷◌, [], ℕ, List, length, take, get_or, sym, refl, subst}
use Rattle.std.proofs.lemmas.List.{take_more}
use Rattle.grid_core.specs.Diagram.{Diagram}
use Rattle.grid_moves.specs.declared.step.Move.{Move}
use Rattle.grid_moves.specs.Step.{Step}
use Rattle.grid_moves.specs.Joining.{Joins}

-- one more move at the end
pub joins_push : (moves : List Move) (move : Move) (d e f : Diagram) → Joins d moves e → Step e move f → Joins d (moves ++ move ∷ []) f
joins_push [] move d e f same step = (f, (subst (λ z. Step z move f) (sym same) step, refl))
joins_push (first ∷ moves) move d e f joined step = (joined.0, (joined.1.0, joins_push moves move joined.0 e f joined.1.1 step))

pub joins_more : (moves : List Move) (k : ℕ) (z : Move) (d e f : Diagram) → k < length moves → Joins d (take k moves) e → Step e (get_or moves k z) f
    → Joins d (take (k + 1) moves) f
joins_more moves k z d e f lt joined step = rw (take_more moves k z lt) (joins_push (take k moves) (get_or moves k z) d e f joined step)

-- one list after another
pub joins_append : (front back : List Move) (d e f : Diagram) → Joins d front e → Joins e back f → Joins d (front ++ back) f
joins_append [] back d e f same joined = subst (λ z. Joins z back f) (sym same) joined
joins_append (move ∷ front) back d e f one two = (one.0, (one.1.0, joins_append front back one.0 e f one.1.1 two))

-- and a list that is cut in two
pub joins_split : (front back : List Move) (d e : Diagram) → Joins d (front ++ back) e → (f : Diagram) × (Joins d front f × Joins f back e)
joins_split [] back d e joined = (d, (refl, joined))
joins_split (move ∷ front) back d e joined =
    let rest = joins_split front back joined.0 e joined.1.1 in
    (rest.0, ((joined.0, (joined.1.0, rest.1.0)), rest.1.1))
