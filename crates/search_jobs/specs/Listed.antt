-- A list of candidates in the making; only private clauses and proofs cite this file.
use Rattle.std.specs.Prelude.{◌≡◌, ◌++◌, List, map, filter}
use Rattle.grid_core.specs.Diagram.{Diagram}
use Rattle.grid_moves.specs.declared.step.Move.{Move}
use Rattle.search_jobs.specs.declared.candidates.Candidate.{Candidate}
use Rattle.search_jobs.specs.Candidates.{is_candidate}

-- the moves of a list
abbrev pub steps_of : List Candidate → List Move
steps_of list = map (λ (c : Candidate). c.step) list

-- the new list is the old one, followed by those of the moves that are candidates
abbrev pub Adds : Diagram → List Move → List Candidate → List Candidate → Type 0
Adds d moves old new = steps_of new ≡ steps_of old ++ filter (is_candidate d) moves
