use Rattle.std.proofs.Common.{◌∙◌, ℕ, get_or, ap, sym}
use Rattle.grid_keys.specs.Key.{mixed}
use Rattle.grid_keys.proofs.Words.{folded_more}
use Rattle.grid_keys.proofs.key.mixed_words.Goals as goal

pub loop-word-preserved : goal.loop-word-preserved
loop-word-preserved c =
    c.mixed-sum.ensures ∙ ap (λ (z : ℕ). mixed z (get_or c.args.words.now c.loop-word.word-index 0)) c.loop-word.invariant
    ∙ sym (folded_more mixed 0 c.args.words.now c.loop-word.word-index c.loop-word-test.true)
