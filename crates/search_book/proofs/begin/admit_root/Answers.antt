use Rattle.std.proofs.Common.{sym}
use Rattle.search_book.proofs.begin.admit_root.Goals as goal

pub admit-requires-clause-fits : goal.admit-requires-clause-fits
admit-requires-clause-fits c =
    record { diagram = c.args.form.now.grid; within = c.requires.within; named = sym c.pack.ensures }
