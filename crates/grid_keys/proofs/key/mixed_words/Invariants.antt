use Rattle.std.proofs.Common.{◌≡◌, fold, take}
use Rattle.grid_keys.specs.Key.{mixed}
use Rattle.grid_keys.proofs.key.mixed_words.Given as goal

abbrev pub invariant-loop-word : goal.invariant-loop-word
invariant-loop-word l = l.sum ≡ fold mixed 0 (take l.word-index l.words)
