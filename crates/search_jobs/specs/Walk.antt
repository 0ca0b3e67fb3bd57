-- Walks of candidates from the right trefoil, picked by the words of a seed.
use Rattle.std.specs.Prelude.{◌≡◌, ◌%◌, ℕ, zero, suc, List, [], ◌∷◌, length, slice_get, Some}
use Rattle.rand_pcg.specs.Lcg.{Lcg, started, increment_of}
use Rattle.rand_pcg.specs.Pcg.{multiplier_64, pcg32}
use Rattle.grid_core.specs.Diagram.{Diagram}
use Rattle.grid_moves.specs.declared.step.Move.{Move}
use Rattle.grid_moves.specs.Step.{Step}
use Rattle.search_jobs.specs.declared.walk.TheConstants.{TURNS, STREAM}
use Rattle.search_jobs.specs.Candidates.{candidate_moves}

-- the generator of a seed, before its first word
abbrev pub generator_of : ℕ → Lcg
generator_of seed = started 64 multiplier_64 seed (increment_of 64 STREAM)

-- the next n words of a generator
unfoldable pub generator_words : ℕ → Lcg → List ℕ
generator_words zero g = []
generator_words (suc n) g = (pcg32 g).0 ∷ generator_words n (pcg32 g).1

-- the words of a seed, one for each turn
abbrev pub seed_words : ℕ → List ℕ
seed_words seed = generator_words TURNS (generator_of seed)

-- of the candidates on d, the word picks the one at the place w mod their number
abbrev pub Picks : Diagram → ℕ → Move → Type 0
Picks d w move = slice_get (candidate_moves d) (w % length (candidate_moves d)) ≡ Some move

-- from d to e, each move is the one that its word picks on the diagram where it is made
abbrev pub Walks : Diagram → List ℕ → List Move → Diagram → Type 0
Walks d [] [] e = d ≡ e
Walks d (w ∷ words) (move ∷ moves) e = Picks d w move × ((f : Diagram) × (Step d move f × Walks f words moves e))
Walks d [] (move ∷ moves) e = ⊥
Walks d (w ∷ words) [] e = ⊥
