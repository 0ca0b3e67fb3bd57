use Rattle.std.proofs.Common.{◌≡◌, ◌≤◌, ◌-◌, ◌++◌, List, vec_len, vec_capacity}
use Rattle.grid_core.specs.Diagram.{Diagram, size}
use Rattle.grid_moves.specs.declared.step.Move.{Move}
use Rattle.search_jobs.specs.declared.walk.TheConstants.{TURNS, LARGEST}
use Rattle.grid_core.specs.Trefoils.{right_trefoil}
use Rattle.search_jobs.specs.Walk.{seed_words, generator_words, Walks}
use Rattle.search_jobs.proofs.walk.sample_walk.Given as goal

abbrev pub invariant-loop-turn : goal.invariant-loop-turn
invariant-loop-turn l = record {
  small : size l.here ≤ LARGEST;
  room : TURNS ≤ vec_capacity l.moves;
  count : vec_len l.moves ≡ l._turn;
  -- whatever walk the words that are left make from here, the moves before it make it a walk of all words
  walked : (rest : List Move) (last : Diagram) → Walks l.here (generator_words (TURNS - l._turn) l.generator) rest last
      → Walks right_trefoil (seed_words l.seed) (l.moves.items ++ rest) last;
}
