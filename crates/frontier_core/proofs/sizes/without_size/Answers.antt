use Rattle.std.proofs.lemmas.Nat.Bits.{bit_at_clear_same, bit_at_clear_other}
use mir.Syntax.{w128}
use Rattle.frontier_core.proofs.sizes.without_size.Goals as goal

pub returns-clause-cleared : goal.returns-clause-cleared
returns-clause-cleared c = bit_at_clear_same w128 c.args.mask c.args.size c.requires

pub returns-clause-others : goal.returns-clause-others
returns-clause-others c = bit_at_clear_other w128 c.args.mask c.args.size c.requires
