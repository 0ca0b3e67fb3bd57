use Rattle.std.proofs.Common.{◌∙◌, arith, ap, subst, sym}
use Rattle.grid_core.specs.Diagram.{IsGrid}
use Rattle.grid_keys.specs.Key.{size_of}
use Rattle.grid_keys.proofs.Keys.{read_lists}
use Rattle.grid_keys.proofs.key.grid_of.Goals as goal

pub rows_of_key-requires : goal.rows_of_key-requires
rows_of_key-requires c = omega (arith, ap size_of c.requires.1.key, c.requires.1.grid.most)

pub of_rows-requires : goal.of_rows-requires
of_rows-requires c =
    let known = c.requires.1 in
    subst IsGrid
    (read_lists c.requires.0 c.args.key c.rows_of_key.result.items c.rows_of_key-2.result.items known.grid known.key c.rows_of_key.ensures
    c.rows_of_key-2.ensures) known.grid

pub returns : goal.returns
returns c = λ d known.
    c.of_rows.ensures
    ∙ sym (read_lists d c.args.key c.rows_of_key.result.items c.rows_of_key-2.result.items known.grid known.key c.rows_of_key.ensures
    c.rows_of_key-2.ensures)
