use Rattle.grid_keys.proofs.Translated.{translate-grid}
use Rattle.grid_keys.proofs.translation.translate.Goals as goal

pub of_rows-requires : goal.of_rows-requires
of_rows-requires c =
    rw (c.pushed_rows.ensures, c.pushed_rows-2.ensures, c.rows.ensures.rows, c.rows-2.ensures.rows, c.size-size.ensures.size)
    (translate-grid c.args.grid.now c.args.columns c.args.rows c.size-size.ensures.grid c.requires.of_columns c.requires.of_rows)
