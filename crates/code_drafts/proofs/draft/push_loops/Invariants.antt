use Rattle.std.proofs.Common.{◌*◌}
use Rattle.code_drafts.specs.Drawn.{HasMore}
use Rattle.code_drafts.proofs.draft.push_loops.Given as goal

abbrev pub invariant-loop : goal.invariant-loop
invariant-loop l = HasMore (2 * l.counter) 0 l.fn.draft l.draft
