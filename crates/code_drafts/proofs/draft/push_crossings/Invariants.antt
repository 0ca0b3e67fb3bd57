use Rattle.code_drafts.specs.Drawn.{HasMore}
use Rattle.code_drafts.proofs.draft.push_crossings.Given as goal

abbrev pub invariant-loop-v : goal.invariant-loop-v
invariant-loop-v l = HasMore 0 l.v l.fn.draft l.draft
