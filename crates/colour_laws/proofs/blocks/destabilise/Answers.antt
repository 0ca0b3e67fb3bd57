use Rattle.std.proofs.Common.{◌≡◌, ◌+◌, ◌∙◌, rules}
use Rattle.std.specs.List.{remove}
use Rattle.colour_laws.proofs.Edited.{removed_is}
use Rattle.colour_laws.proofs.blocks.destabilise.Goals as goal

pub returns : goal.returns
returns c =
    let items : c.remove.new.self.items ≡ remove c.args.colours.now.items (c.args.column + 1) = search rules in
    items ∙ removed_is c.args.column c.args.grid.now c.args.colours.now.items c.requires.inside c.requires.colours
