use Rattle.std.proofs.Common.{◌≡◌, ◌-◌, ◌++◌, replicate}
use Rattle.grid_keys.specs.declared.key.TheConstants.{WORDS}
use Rattle.grid_keys.specs.Key.{filled, words}
use Rattle.grid_keys.proofs.key.words_of.Given as goal

abbrev pub invariant-loop-place : goal.invariant-loop-place
invariant-loop-place l = l.words ≡ words l.place (filled l.rows) ++ replicate (WORDS - l.place) 0
