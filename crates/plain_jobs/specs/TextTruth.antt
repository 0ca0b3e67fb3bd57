-- What the texts of plain jobs are worth that have the status `Done`.
use Rattle.std.specs.Prelude.{◌≡◌, ℕ, List, Ok}
use Rattle.grid_moves.specs.Joining.{Equivalent}
use Rattle.verdict_core.specs.declared.diagrams.Diagram.{Diagram}
use Rattle.verdict_core.specs.Diagrams.{grid_of}
use Rattle.knot_text.specs.Pairs.{pair_of}
use Rattle.knot_text.specs.declared.braid_checks.BraidCheckText.{BraidCheckText}
use Rattle.knot_text.specs.BraidChecks.{braidcheck_of}
use Rattle.number_text.specs.declared.weighed.WeighedText.{WeighedText}
use Rattle.number_text.specs.Weighed.{weighed_of}
use Rattle.code_text.specs.TextGrid.{IsTrueDrawing}
use Rattle.check_job.specs.CertificateTruth.{IsCertificate}
use Rattle.knot_words.specs.declared.job.PlainJob.{PlainJob}
use Rattle.knot_words.specs.declared.job.PlainJob.TheVariants.{Check, Linking, Braidcheck, Weights, Grid}
use Rattle.plain_jobs.specs.Comparison.{EndsDifferent}
use Rattle.plain_jobs.specs.EquallyMany.{HaveEquallyMany}

-- ---- two diagrams that were compared

-- the bytes are two diagrams, and where the text says that their linking numbers differ, no list of moves joins them
pub record IsTrueLinking (bytes text : List ℕ) : Type 0 where
  pub first : Diagram
  pub second : Diagram
  pub read : pair_of bytes ≡ Ok (first, second)
  pub apart : EndsDifferent text → Equivalent (grid_of first) (grid_of second) → ⊥

-- the bytes are two diagrams, a quandle and a cocycle of it, and where the text says that the weights of their colourings differ,
-- no list of moves joins the diagrams
pub record IsTrueWeighing (bytes text : List ℕ) : Type 0 where
  pub input : WeighedText
  pub read : weighed_of bytes ≡ Ok input
  pub apart : EndsDifferent text → Equivalent (grid_of input.first) (grid_of input.second) → ⊥

-- ---- two braids between which steps were accepted

-- the bytes are two braids and steps between them, and no quandle tells the braids apart by how many fixed points and colourings it has
pub record IsBraidCertificate (bytes : List ℕ) : Type 0 where
  pub input : BraidCheckText
  pub read : braidcheck_of bytes ≡ Ok input
  pub alike : HaveEquallyMany input.first input.second

-- ---- each job

-- what a job's text with `Done` says of its input is true: of `check`, which accepts a verdict, evidence by numbers or a table, `linking` and
-- `weights`, which compare two diagrams, `braidcheck`, which accepts steps between two braids, and `grid`, which draws a code. The others claim nothing
abbrev pub IsTrueText : PlainJob → List ℕ → List ℕ → Type 0
IsTrueText Check bytes text = IsCertificate bytes
IsTrueText Linking bytes text = IsTrueLinking bytes text
IsTrueText Braidcheck bytes text = IsBraidCertificate bytes
IsTrueText Weights bytes text = IsTrueWeighing bytes text
IsTrueText Grid bytes text = IsTrueDrawing bytes text
IsTrueText job bytes text = Unit {0}
