use Rattle.std.proofs.Common.{arith, codes}
use Rattle.std.specs.Fmt.{decimal}
use Rattle.plain_jobs.proofs.Compared.{spaced_ends}
use Rattle.plain_jobs.proofs.jobs.weights.wide_line.Goals as goal

pub returns-clause-apart : goal.returns-clause-apart
returns-clause-apart c =
    spaced_ends c.new-out.result.items (codes "wide ") (decimal c.from.result) c.push_paired.new.out.items c.from-bottoms.result (omega arith)
    c.in_ok-push_paired.ensures.text
