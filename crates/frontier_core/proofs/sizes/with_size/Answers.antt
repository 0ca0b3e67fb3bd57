use Rattle.std.proofs.lemmas.Nat.Bits.{bit_at_set_same, bit_at_set_other}
use mir.Syntax.{w128}
use Rattle.frontier_core.proofs.sizes.with_size.Goals as goal

pub returns-clause-set : goal.returns-clause-set
returns-clause-set c = bit_at_set_same w128 c.args.mask c.args.size c.requires

pub returns-clause-others : goal.returns-clause-others
returns-clause-others c = bit_at_set_other w128 c.args.mask c.args.size c.requires
