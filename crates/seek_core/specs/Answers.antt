-- What is answered to an input, and how a call ends that writes it.
use Rattle.std.specs.Prelude.{◌≡◌, ◌<◌, ◌⊎◌, ℕ, List, Option, None, count_by, length, Ok, Err}
use Rattle.std.specs.Io.KnownBytes.{Keeps, Appends}
use Rattle.knot_ports.specs.Sink.{AppendsFront}
use Rattle.text_items.specs.declared.fault.TextFault.TheVariants as bad
use Rattle.verdict_text.specs.Problems.{problem_of}
use Rattle.knot_ports.specs.declared.status.Status.{Status}
use Rattle.knot_ports.specs.declared.status.Status.TheVariants as status
use Rattle.knot_ports.specs.declared.limits.TheConstants.{MAX_INPUT}
use Rattle.verdict_core.specs.declared.problem.ProblemText.{ProblemText}
use Rattle.verdict_core.specs.Diagrams.{grid_of, column_count}
use Rattle.pair_verdict.specs.Separates.{first_separating}
use Rattle.evidence_core.specs.declared.blocks.Block.{Block}
use Rattle.certificate_check.specs.Decision.{IsDecision}
use Rattle.number_search.specs.declared.seed_pair.SeedPair.{SeedPair}
use Rattle.number_search.specs.Told.{ArePlansOf, fits_both, told_by_linking, told_by_blocks}
use Rattle.seek_core.specs.declared.answer.Tried.{Tried}
use Rattle.seek_core.specs.declared.answer.Answer.{Answer}
use Rattle.seek_core.specs.declared.answer.Answer.TheVariants as answer
use Rattle.seek_core.specs.declared.ending.Ending.{Ending}
use Rattle.seek_core.specs.declared.ending.Ending.TheVariants as ending
use Rattle.seek_core.specs.Candidates.{candidate_quandles}

-- ---- answers

-- the bytes are a problem whose diagrams have so many columns. Their linking numbers agree, these quandles were tried on them, and none of these
-- separates them
pub record QuandlesTriedInVain (bytes : List ℕ) (tried : Tried) : Type 0 where
  pub problem : ProblemText
  pub read : problem_of bytes ≡ Ok problem
  pub wide : tried.columns ≡ (column_count problem.first, column_count problem.second)
  pub linking : told_by_linking (grid_of problem.first) (grid_of problem.second) ≡ None
  pub quandles : tried.quandles ≡ candidate_quandles (grid_of problem.first) (grid_of problem.second) problem.quandles
  pub in_vain : first_separating (grid_of problem.first) (grid_of problem.second) tried.quandles ≡ None

-- so many of the blocks fit plans of both diagrams of a problem, and none of these tells the diagrams apart
pub record BlocksTriedInVain (bytes : List ℕ) (blocks : List Block) (tried : Tried) : Type 0 where
  pub problem : ProblemText
  pub read : problem_of bytes ≡ Ok problem
  pub seeds : SeedPair
  pub plans : ArePlansOf (grid_of problem.first) (grid_of problem.second) seeds
  pub fitting : tried.blocks ≡ count_by (fits_both seeds) blocks
  pub in_vain : told_by_blocks (grid_of problem.first) (grid_of problem.second) seeds blocks ≡ None

-- a text decides the input; what is said to have been tried was, in vain; and a line is called bad where it is the first bad one
abbrev pub IsTrueAnswer : List ℕ → List Block → Answer → Type 0
IsTrueAnswer bytes blocks (answer.Decided text) = IsDecision bytes text
IsTrueAnswer bytes blocks (answer.NotFound tried) = QuandlesTriedInVain bytes tried × BlocksTriedInVain bytes blocks tried
IsTrueAnswer bytes blocks (answer.Malformed line) = problem_of bytes ≡ Err (bad.Malformed line)
IsTrueAnswer bytes blocks (answer.Limit line) = problem_of bytes ≡ Err (bad.Limit line)

-- ---- endings

-- a text that decides the input was written, whole
abbrev pub WritesDecision : List ℕ → Option (List ℕ) → Option (List ℕ) → Type 0
WritesDecision bytes before after = (text : List ℕ) × (IsDecision bytes text × Appends before after text)

-- how a call ended, and what it left in the sink: a text that decides the input where it is done, a front of one where the sink failed, and
-- nothing else
abbrev pub EndsRun : List ℕ → Option (List ℕ) → Option (List ℕ) → Ending → Type 0
EndsRun bytes before after ending.Done = WritesDecision bytes before after
EndsRun bytes before after (ending.NotFound tried) = QuandlesTriedInVain bytes tried × Keeps before after
EndsRun bytes before after (ending.Malformed line) = (problem_of bytes ≡ Err (bad.Malformed line)) × Keeps before after
EndsRun bytes before after (ending.Limit line) = (problem_of bytes ≡ Err (bad.Limit line)) × Keeps before after
EndsRun bytes before after ending.TooLong = (MAX_INPUT < length bytes) × Keeps before after
EndsRun bytes before after ending.WriteFault = (text : List ℕ) × (IsDecision bytes text × AppendsFront before after text)
EndsRun bytes before after ending.OutOfMemory = Keeps before after

-- what a call comes to whose input is too long
abbrev pub EndsTooLong : Ending → Type 0
EndsTooLong e = (e ≡ ending.TooLong) ⊎ (e ≡ ending.OutOfMemory)

-- the exit status of the program, which has the number of knot's status of that name
abbrev pub ending_status : Ending → Status
ending_status ending.Done = status.Done
ending_status (ending.NotFound tried) = status.Unknown
ending_status (ending.Malformed line) = status.Malformed
ending_status (ending.Limit line) = status.Limit
ending_status ending.TooLong = status.Limit
ending_status ending.WriteFault = status.WriteFault
ending_status ending.OutOfMemory = status.OutOfMemory
