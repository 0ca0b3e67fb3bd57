use Rattle.std.proofs.Common.{◌≡◌, ◌∙◌, arith, rules}
use Rattle.colour_laws.proofs.ColouredColumns.{turned}
use Rattle.colour_laws.proofs.ShiftSteps.{turned_is}
use Rattle.colour_laws.proofs.blocks.shift_columns.Goals as goal

pub returns : goal.returns
returns c =
    let items : c.try_extend_from_slice-2.new.self.items ≡ turned c.args.k c.args.colours.now.items = search rules in
    items ∙ turned_is c.args.k c.args.grid.now c.args.colours.now.items (omega arith) c.requires.colours
