use Rattle.grid_canon.proofs.Making.{legal_most, columns_below, rows_below, columns_added, rows_added}
use Rattle.grid_canon.proofs.tidying.taken.Goals as goal

pub round-requires-clause-most : goal.round-requires-clause-most
round-requires-clause-most c = legal_most c.args.step c.args.run.size c.requires.legal

pub round-requires-clause-other : goal.round-requires-clause-other
round-requires-clause-other c = columns_below c.in-ShiftColumns.k c.args.run.size c.args.step c.requires.legal c.in-ShiftColumns.is

pub round-requires-in-ShiftRows-clause-most : goal.round-requires-in-ShiftRows-clause-most
round-requires-in-ShiftRows-clause-most c = legal_most c.args.step c.args.run.size c.requires.legal

pub round-requires-in-ShiftRows-clause-other : goal.round-requires-in-ShiftRows-clause-other
round-requires-in-ShiftRows-clause-other c = rows_below c.in-ShiftRows.k c.args.run.size c.args.step c.requires.legal c.in-ShiftRows.is

pub returns-in-ShiftColumns-clause-list : goal.returns-in-ShiftColumns-clause-list
returns-in-ShiftColumns-clause-list c = λ rest.
    columns_added c.args.list.now.items c.args.run.size c.args.run.columns c.args.run.rows c.in-ShiftColumns.k c.round.result c.args.step rest
    c.in-ShiftColumns.is c.round.ensures

pub returns-in-ShiftRows-clause-list : goal.returns-in-ShiftRows-clause-list
returns-in-ShiftRows-clause-list c = λ rest.
    rows_added c.args.list.now.items c.args.run.size c.args.run.columns c.args.run.rows c.in-ShiftRows.k c.round-in-ShiftRows.result c.args.step rest
    c.in-ShiftRows.is c.round-in-ShiftRows.ensures
