use Rattle.std.proofs.Common.{◌++◌, take}
use Rattle.seek_parts.specs.Parts.{ArePartsOf, diagrams_due, quandles_due}
use Rattle.seek_parts.proofs.parts.Parts.read_all.Given as goal

abbrev pub invariant-loop-path : goal.invariant-loop-path
invariant-loop-path g l =
    ArePartsOf (g.F.Texts.told l.files) (diagrams_due l.asked.diagrams ++ quandles_due (take l.path-index l.asked.quandles.items)) l.self.texts
