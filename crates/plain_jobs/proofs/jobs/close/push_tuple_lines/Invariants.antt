use Rattle.std.proofs.Common.{◌≡◌, ◌++◌, map, take}
use Rattle.std.specs.Fmt.{decimal}
use Rattle.braid_core.specs.FixedPoints.{tuples_of}
use Rattle.text_lines.specs.Spelled.{lines_text}
use Rattle.plain_jobs.proofs.jobs.close.push_tuple_lines.Given as goal

abbrev pub invariant-loop-tuple : goal.invariant-loop-tuple
invariant-loop-tuple l = l.out.items ≡ l.fn.out.items ++ lines_text (map (λ xs. map decimal xs) (tuples_of (take l.tuple-index l.tuples)))
