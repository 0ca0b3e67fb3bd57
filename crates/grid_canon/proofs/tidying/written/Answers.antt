use Rattle.grid_canon.proofs.Making.{legal_most, legal_after, other_written}
use Rattle.std.proofs.Common.{arith}
use Rattle.grid_canon.proofs.tidying.written.Goals as goal

pub size_after-requires-clause-least : goal.size_after-requires-clause-least
size_after-requires-clause-least c = omega (arith, c.requires.legal.1.1.0.before.least, c.requires.legal.1.1.1)

pub size_after-requires-clause-most : goal.size_after-requires-clause-most
size_after-requires-clause-most c = legal_most c.args.step c.args.run.size c.requires.legal

pub returns-clause-columns : goal.returns-clause-columns
returns-clause-columns c = omega (arith, legal_after c.args.step c.args.run.size c.requires.legal, c.size_after.ensures)

pub returns-clause-rows : goal.returns-clause-rows
returns-clause-rows c = omega (arith, legal_after c.args.step c.args.run.size c.requires.legal, c.size_after.ensures)

pub returns-clause-list : goal.returns-clause-list
returns-clause-list c = λ rest.
    other_written c.args.list.now.items c.push_shifts.new.list.items c.push.new.self.items c.args.run.size c.args.run.columns c.args.run.rows c.size_after.result
    c.args.step rest c.requires.other c.in_ok-push_shifts.ensures.list c.in_ok-push.ensures.items c.size_after.ensures
