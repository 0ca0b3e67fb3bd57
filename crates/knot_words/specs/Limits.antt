-- How many bytes the input of a job may have.
use Rattle.std.specs.Prelude.{if◌then◌else◌, ℕ, List, [], Bool, Option, Some, None, is_some}
use Rattle.knot_ports.specs.declared.limits.TheConstants.{MAX_INPUT, MAX_CERTIFICATE}
use Rattle.knot_words.specs.declared.job.PlainJob.TheVariants.{Check}
use Rattle.knot_words.specs.declared.job.Job.{Job}
use Rattle.knot_words.specs.declared.job.Job.TheVariants.{Sample, Plain}

-- the most bytes that an input may have; `sample` has no input
abbrev pub limit_of : Job → Option ℕ
limit_of (Plain Check) = Some MAX_CERTIFICATE
limit_of Sample = None
limit_of job = Some MAX_INPUT

abbrev pub has_input : Job → Bool
has_input job = is_some (limit_of job)

-- of the bytes that a source has, those that are for the job
abbrev pub part_for : Job → List ℕ → List ℕ
part_for job bytes = if has_input job then bytes else []
