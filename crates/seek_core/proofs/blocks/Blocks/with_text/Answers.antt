use Rattle.seek_core.proofs.GivenTexts.{more_texts}
use Rattle.seek_core.proofs.blocks.Blocks.with_text.Goals as goal

pub invariant_of-result : goal.invariant_of-result
invariant_of-result c = more_texts c.self.inside.list.items c.in_ok-more.more c.push_all.new.list.items c.args.bytes.now c.self.invariant c.in_ok-more.ensures
    c.in_ok-push_all.ensures
