use Rattle.std.proofs.Common.{◌≡◌, ◌∙◌, rules, get_or}
use Rattle.std.specs.List.{insert}
use Rattle.colour_laws.proofs.Edited.{inserted_is}
use Rattle.colour_laws.proofs.blocks.stabilise.Goals as goal

pub returns : goal.returns
returns c =
    let items : c.insert.new.self.items ≡ insert c.args.colours.now.items c.args.column (get_or c.args.colours.now.items c.args.column 0) = search rules in
    items ∙ inserted_is c.args.column c.args.grid.now c.args.colours.now.items c.requires.inside c.requires.colours
