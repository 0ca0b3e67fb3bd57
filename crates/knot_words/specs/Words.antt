-- Which command lines are taken and what they ask for, by `clap`'s meaning of one simple command: a job, and four options
-- with whole numbers.
use Rattle.std.specs.Prelude.{◌≡◌, ◌≢◌, ◌≤◌, ℕ, pos, List, [], true, Option, Some, option_map, codes}
use Rattle.clap.specs.Walk.{Rule, Text, first_of, one_of}
use Rattle.clap.specs.Simple.{App, new_app, new_rule, with_rule, matches_of}
use Rattle.clap.specs.Faults.{fault_of}
use Rattle.clap.specs.declared.builder.action.ArgAction.TheVariants.{Set}
use Rattle.clap.specs.declared.builder.value_parser.ValueParser.TheVariants as parser
use Rattle.knot_words.specs.declared.words.TheConstants.{MAX_BUDGET}
use Rattle.knot_words.specs.declared.words.Asked.{Asked}
use Rattle.knot_words.specs.declared.job.Job.{Job}
use Rattle.knot_words.specs.declared.job.Job.TheVariants.{Decide, Simplify, Least, Sample, Plain}
use Rattle.knot_words.specs.declared.job.PlainJob.{PlainJob}
use Rattle.knot_words.specs.declared.job.PlainJob.TheVariants.{Check, Replay, Colour, Close, Code, Braid, Linking, Braidcheck, Weights, Numbers, Grid}
use Rattle.knot_words.specs.OptionNumbers.{number_rule, workers_rule, seed_rule, number_of_text}

-- ---- the command

-- the job, which must be named
abbrev pub job_rule : Rule
job_rule = record (new_rule (codes "job")) { required = true; action = Some Set }

abbrev pub budget_rule : Rule
budget_rule = number_rule (codes "budget") (parser.Signed (pos 2) (pos MAX_BUDGET)) (codes "20000")

abbrev pub spare_rule : Rule
spare_rule = number_rule (codes "spare") (parser.Signed (pos 0) (pos 4)) (codes "1")

abbrev pub knot_app : App
knot_app =
    with_rule (with_rule (with_rule (with_rule (with_rule (new_app (codes "knot")) job_rule) workers_rule) budget_rule) spare_rule) seed_rule

-- ---- what words ask for

-- `clap` takes the words: they have no fault
abbrev pub AreTaken : List Text → Type 0
AreTaken words = fault_of knot_app words ≡ []

-- the word for the job
abbrev pub job_given : List Text → Option Text
job_given words = first_of (codes "job") (matches_of knot_app words)

-- the number of an option: what the words give, else its default
abbrev pub number_given : Text → List Text → Option ℕ
number_given name words = option_map number_of_text (one_of name (matches_of knot_app words))

-- how a job is called
abbrev pub plain_word : PlainJob → Text
plain_word Check = codes "check"
plain_word Replay = codes "replay"
plain_word Colour = codes "colour"
plain_word Close = codes "close"
plain_word Code = codes "code"
plain_word Braid = codes "braid"
plain_word Linking = codes "linking"
plain_word Braidcheck = codes "braidcheck"
plain_word Weights = codes "weights"
plain_word Numbers = codes "numbers"
plain_word Grid = codes "grid"

abbrev pub job_word : Job → Text
job_word Decide = codes "decide"
job_word Simplify = codes "simplify"
job_word Least = codes "least"
job_word Sample = codes "sample"
job_word (Plain job) = plain_word job

-- the words are taken, and ask for this job with these numbers
pub record Asks (words : List Text) (asked : Asked) : Type 0 where
  pub taken : AreTaken words
  pub job : job_given words ≡ Some (job_word asked.job)
  pub workers : number_given (codes "workers") words ≡ Some asked.workers
  pub budget : number_given (codes "budget") words ≡ Some asked.budget
  pub spare : number_given (codes "spare") words ≡ Some asked.spare
  pub seed : number_given (codes "seed") words ≡ Some asked.seed

-- the words are refused, or their job is none that there is
abbrev pub AsksNothing : List Text → Type 0
AsksNothing words = AreTaken words → (job : Job) → job_given words ≢ Some (job_word job)

-- each number lies between its bounds; a seed has 64 bits and no other bound
pub record IsWithinBounds (asked : Asked) : Type 0 where
  pub workers : (1 ≤ asked.workers) × (asked.workers ≤ 64)
  pub budget : (2 ≤ asked.budget) × (asked.budget ≤ MAX_BUDGET)
  pub spare : asked.spare ≤ 4
