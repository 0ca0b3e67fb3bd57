use Rattle.std.proofs.Common.{◌≡◌, ◌-◌, ◌++◌}
use Rattle.meeting_walks.specs.Reached.{forms_back, way_back}
use Rattle.meeting_walks.proofs.table.Table.way_back.Given as goal

abbrev pub invariant-loop-form : goal.invariant-loop-form
invariant-loop-form l = l.way.items ++ forms_back (l.count - l._form) l.self.entries.entries l.number ≡ way_back l.self.entries.entries l.from
