-- Lists of moves that stay within a cap.
use Rattle.std.proofs.Common.{◌≤◌, ◌++◌, ◌∷◌, [], ℕ, List, arith, refl, sym, subst}
use Rattle.grid_core.specs.declared.grid.TheConstants.{MAX_SIZE}
use Rattle.grid_core.specs.Diagram.{Diagram, IsGrid, size}
use Rattle.grid_moves.specs.declared.step.Move.{Move}
use Rattle.grid_moves.specs.Joining.{Joins, JoinsWithin, Equivalent, WithinCap}
use Rattle.grid_moves.proofs.Equivalence.{step_back}

pub joins_grid : (moves : List Move) (d e : Diagram) → IsGrid d → Joins d moves e → IsGrid e
joins_grid [] d e grid same = subst (λ z. IsGrid z) same grid
joins_grid (move ∷ moves) d e grid joined = joins_grid moves joined.0 e joined.1.0.after joined.1.1

pub within_start : (cap : ℕ) (moves : List Move) (d e : Diagram) → JoinsWithin cap d moves e → size d ≤ cap
within_start cap [] d e joined = joined.0
within_start cap (move ∷ moves) d e joined = joined.0

pub within_joins : (cap : ℕ) (moves : List Move) (d e : Diagram) → JoinsWithin cap d moves e → Joins d moves e
within_joins cap [] d e joined = joined.1
within_joins cap (move ∷ moves) d e joined = (joined.1.0, (joined.1.1.0, within_joins cap moves joined.1.0 e joined.1.1.1))

pub within_append : (cap : ℕ) (front back : List Move) (d e f : Diagram) → JoinsWithin cap d front e → JoinsWithin cap e back f
    → JoinsWithin cap d (front ++ back) f
within_append cap [] back d e f one two = subst (λ z. JoinsWithin cap z back f) (sym one.1) two
within_append cap (move ∷ front) back d e f one two = (one.0, (one.1.0, (one.1.1.0, within_append cap front back one.1.0 e f one.1.1.1 two)))

within_back : (cap : ℕ) (moves : List Move) (d e : Diagram) → JoinsWithin cap d moves e → WithinCap e d cap
within_back cap [] d e joined = ([], (subst (λ z. size z ≤ cap) joined.1 joined.0, sym joined.1))
within_back cap (move ∷ moves) d e joined =
    let f : Diagram = joined.1.0 in
    let last = step_back move d f joined.1.1.0 in
    let rest = within_back cap moves f e joined.1.1.1 in
    (rest.0 ++ last.0 ∷ [], within_append cap rest.0 (last.0 ∷ []) e f d rest.1 (within_start cap moves f e joined.1.1.1, (d, (last.1, (joined.0, refl)))))

pub within_cap_back : (d e : Diagram) (cap : ℕ) → WithinCap d e cap → WithinCap e d cap
within_cap_back d e cap same = within_back cap same.0 d e same.1

pub within_cap_after : (d e f : Diagram) (cap : ℕ) → WithinCap d e cap → WithinCap e f cap → WithinCap d f cap
within_cap_after d e f cap one two = (one.0 ++ two.0, within_append cap one.0 two.0 d e f one.1 two.1)

pub within_cap_equivalent : (d e : Diagram) (cap : ℕ) → WithinCap d e cap → Equivalent d e
within_cap_equivalent d e cap same = (same.0, within_joins cap same.0 d e same.1)

pub within_cap_same : (d : Diagram) (cap : ℕ) → size d ≤ cap → WithinCap d d cap
within_cap_same d cap le = ([], (le, refl))

-- where a list of moves ends is within its cap
pub within_end : (cap : ℕ) (moves : List Move) (d e : Diagram) → JoinsWithin cap d moves e → size e ≤ cap
within_end cap [] d e joined = subst (λ g. size g ≤ cap) joined.1 joined.0
within_end cap (move ∷ moves) d e joined = within_end cap moves joined.1.0 e joined.1.1.1

-- a list within a cap is one within a larger cap
pub within_larger : (cap more : ℕ) (moves : List Move) (d e : Diagram) → cap ≤ more → JoinsWithin cap d moves e → JoinsWithin more d moves e
within_larger cap more [] d e le joined = (omega (arith, le, joined.0), joined.1)
within_larger cap more (move ∷ moves) d e le joined =
    (omega (arith, le, joined.0), (joined.1.0, (joined.1.1.0, within_larger cap more moves joined.1.0 e le joined.1.1.1)))

-- each list from a grid is within the greatest size
pub joins_within_most : (moves : List Move) (d e : Diagram) → IsGrid d → Joins d moves e → JoinsWithin MAX_SIZE d moves e
joins_within_most [] d e grid joined = (grid.most, joined)
joins_within_most (move ∷ moves) d e grid joined =
    (grid.most, (joined.0, (joined.1.0, joins_within_most moves joined.0 e joined.1.0.after joined.1.1)))
