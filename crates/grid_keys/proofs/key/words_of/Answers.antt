use Rattle.grid_keys.proofs.Words.{word_more}
use Rattle.grid_keys.proofs.key.words_of.Goals as goal

pub loop-place-preserved : goal.loop-place-preserved
loop-place-preserved c =
    word_more c.args.rows.now c.loop-place.words c.loop-place.place c.word_at.result c.loop-place-test.true c.loop-place.invariant c.word_at.ensures
