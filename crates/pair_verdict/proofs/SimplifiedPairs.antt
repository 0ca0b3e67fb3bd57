-- The simplified diagrams of a problem stand for the given ones within its cap.
use Rattle.std.proofs.Common.{◌≡◌, ◌≤◌, ◌++◌, ◌∙◌, ℕ, List, ap, sym, subst, append_assoc}
use Rattle.grid_core.specs.Diagram.{Diagram, size}
use Rattle.grid_moves.specs.declared.step.Move.{Move}
use Rattle.grid_moves.specs.Joining.{Joins, JoinsWithin, WithinCap}
use Rattle.grid_moves.specs.Undoing.{Undone}
use Rattle.grid_moves.proofs.TurnedBack.{undone_within}
use Rattle.grid_moves.proofs.Within.{within_joins, within_end, within_append, within_larger}
use Rattle.mono_simplify.specs.declared.simplified.Simplified.{Simplified}
use Rattle.mono_simplify.specs.declared.simplified.SimpleEnd.{SimpleEnd}
use Rattle.mono_simplify.specs.Simplified.{Simplifies}
use Rattle.search_book.specs.declared.problem.Problem.{Problem}
use Rattle.pair_verdict.specs.Searched.{AreSimplified, IsWholeList}

-- ---- one diagram

pub simplified_within : (d e : Diagram) (budget cap : ℕ) (moves : List Move) (why : SimpleEnd)
    → size d ≤ cap → Simplifies d budget e moves why → JoinsWithin cap d moves e
simplified_within d e budget cap moves why fits is = within_larger (size d) cap moves d e fits is.joined

pub simplified_small : (d e : Diagram) (budget cap : ℕ) (moves : List Move) (why : SimpleEnd)
    → size d ≤ cap → Simplifies d budget e moves why → size e ≤ cap
simplified_small d e budget cap moves why fits is = within_end cap moves d e (simplified_within d e budget cap moves why fits is)

-- ---- both diagrams of a problem

pub first_within : (p : Problem) (one two : Simplified) → AreSimplified p one two → size p.first ≤ p.cap → JoinsWithin p.cap p.first one.moves one.grid
first_within p one two are fits = simplified_within p.first one.grid p.budget p.cap one.moves one.end fits are.first

pub second_within : (p : Problem) (one two : Simplified) → AreSimplified p one two → size p.second ≤ p.cap → JoinsWithin p.cap p.second two.moves two.grid
second_within p one two are fits = simplified_within p.second two.grid p.budget p.cap two.moves two.end fits are.second

pub first_stands : (p : Problem) (one two : Simplified) → AreSimplified p one two → size p.first ≤ p.cap → WithinCap p.first one.grid p.cap
first_stands p one two are fits = (one.moves, first_within p one two are fits)

pub second_stands : (p : Problem) (one two : Simplified) → AreSimplified p one two → size p.second ≤ p.cap → WithinCap p.second two.grid p.cap
second_stands p one two are fits = (two.moves, second_within p one two are fits)

pub first_small : (p : Problem) (one two : Simplified) → AreSimplified p one two → size p.first ≤ p.cap → size one.grid ≤ p.cap
first_small p one two are fits = simplified_small p.first one.grid p.budget p.cap one.moves one.end fits are.first

pub second_small : (p : Problem) (one two : Simplified) → AreSimplified p one two → size p.second ≤ p.cap → size two.grid ≤ p.cap
second_small p one two are fits = simplified_small p.second two.grid p.budget p.cap two.moves two.end fits are.second

-- ---- the whole list

-- the second simplification's moves can be made, so they can be undone
pub second_moves : (p : Problem) (one two : Simplified) → AreSimplified p one two → Joins p.second two.moves two.grid
second_moves p one two are = within_joins (size p.second) two.moves p.second two.grid are.second.joined

-- a list written so joins the given diagrams within the cap
pub whole_joins : (p : Problem) (one two : Simplified) (between list : List Move) → AreSimplified p one two
    → size p.first ≤ p.cap → size p.second ≤ p.cap → JoinsWithin p.cap one.grid between two.grid
    → IsWholeList p one two between list → JoinsWithin p.cap p.first list p.second
whole_joins p one two between list are first_fits second_fits joined whole =
    let back = whole.back in
    let home : JoinsWithin p.cap two.grid back p.second =
    undone_within p.cap two.moves back p.second two.grid (second_within p one two are second_fits) whole.undone in
    subst (λ (moves : List Move). JoinsWithin p.cap p.first moves p.second) (sym whole.is)
    (within_append p.cap one.moves (between ++ back) p.first one.grid p.second (first_within p one two are first_fits)
    (within_append p.cap between back one.grid two.grid p.second joined home))

-- they stand in this slice
pub slice_joins : (p : Problem) (one two : Simplified) (slice : List Move) → AreSimplified p one two → slice ≡ two.moves
    → (e : Diagram) × Joins p.second slice e
slice_joins p one two slice are all = (two.grid, subst (λ (moves : List Move). Joins p.second moves two.grid) (sym all) (second_moves p one two are))

abbrev pub WritesUndone : Diagram → List Move → List Move → List Move → Type 0
WritesUndone d slice old list = (e : Diagram) → Joins d slice e → (back : List Move) × (Undone d slice e back × (list ≡ old ++ back))

-- what was written behind the first moves and the list between
pub whole_written : (p : Problem) (one two : Simplified) (between slice old list : List Move) → AreSimplified p one two
    → slice ≡ two.moves → old ≡ one.moves ++ between → WritesUndone p.second slice old list → IsWholeList p one two between list
whole_written p one two between slice old list are all front written =
    let written_of : WritesUndone p.second two.moves old list =
    subst (λ (moves : List Move). WritesUndone p.second moves old list) all written in
    let last = written_of two.grid (second_moves p one two are) in
    record {
      back = last.0;
      undone = last.1.0;
      is = last.1.1 ∙ ap (λ (moves : List Move). moves ++ last.0) front ∙ append_assoc one.moves between last.0;
    }
