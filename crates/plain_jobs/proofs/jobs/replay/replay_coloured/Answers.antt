use Rattle.std.proofs.Common.{rules}
use Rattle.colour_rows.proofs.Colourings.{coloured}
use Rattle.plain_jobs.proofs.jobs.replay.replay_coloured.Goals as goal

pub carry_all-requires : goal.carry_all-requires
carry_all-requires c = coloured c.quandle-2.result.now c.args.grid c.args.colours.items (search rules)
