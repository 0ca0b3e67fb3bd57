-- What is searched for a list of moves that joins two diagrams: both are simplified first, and the search joins what they came to.
use Rattle.std.specs.Prelude.{◌≡◌, ◌++◌, List}
use Rattle.grid_moves.specs.declared.step.Move.{Move}
use Rattle.grid_moves.specs.Undoing.{Undone}
use Rattle.mono_simplify.specs.declared.simplified.Simplified.{Simplified}
use Rattle.mono_simplify.specs.Simplified.{Simplifies}
use Rattle.search_book.specs.declared.problem.Problem.{Problem}

-- each of the two diagrams, simplified with the budget of the problem
pub record AreSimplified (p : Problem) (one two : Simplified) : Type 0 where
  pub first : Simplifies p.first p.budget one.grid one.moves one.end
  pub second : Simplifies p.second p.budget two.grid two.moves two.end

-- the problem of the search: the simplified diagrams, within the same cap and with the same budget
abbrev pub searched : Problem → Simplified → Simplified → Problem
searched p one two = record { first = one.grid; second = two.grid; cap = p.cap; budget = p.budget }

-- the first simplification's moves, then a list between the simplified diagrams, then the second simplification's moves undone
pub record IsWholeList (p : Problem) (one two : Simplified) (between list : List Move) : Type 0 where
  pub back : List Move
  pub undone : Undone p.second two.moves two.grid back
  pub is : list ≡ one.moves ++ (between ++ back)
