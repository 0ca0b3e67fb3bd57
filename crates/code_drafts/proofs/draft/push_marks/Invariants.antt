use Rattle.code_drafts.specs.Drawn.{HasMore}
use Rattle.code_drafts.proofs.draft.push_marks.Given as goal

abbrev pub invariant-loop-column : goal.invariant-loop-column
invariant-loop-column l = HasMore l.column 0 l.fn.draft l.draft
