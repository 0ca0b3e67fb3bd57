-- What a search for a verdict on two diagrams comes to: IsSearchOf of the whole search, IsFoundOn of its rounds by quandles, blocks and walks,
-- IsVerdictOn of those without blocks, IsEqualBy of a walk. IsVerdictBy is what a verdict has to be in all rounds.
use Rattle.std.specs.Prelude.{◌≡◌, true, List, Option, Some, None, count_by}
use Rattle.grid_core.specs.Diagram.{Diagram}
use Rattle.grid_moves.specs.declared.step.Move.{Move}
use Rattle.grid_moves.specs.Joining.{Joins}
use Rattle.grid_moves.specs.Tidy.{is_tidy}
use Rattle.verdict_core.specs.declared.problem.ProblemText.{ProblemText}
use Rattle.verdict_core.specs.declared.verdict.Verdict.{Verdict}
use Rattle.verdict_core.specs.declared.verdict.Verdict.TheVariants.{Equal}
use Rattle.verdict_core.specs.Diagrams.{grid_of}
use Rattle.quandle_core.specs.Names.{NamedQuandle}
use Rattle.pair_verdict.specs.Separates.{first_separating, IsDifferentBy}
use Rattle.evidence_core.specs.declared.blocks.Block.{Block}
use Rattle.evidence_core.specs.declared.evidence.Evidence.{Evidence}
use Rattle.number_text.specs.declared.said.Said.{Said}
use Rattle.number_text.specs.declared.said.Said.TheVariants as said
use Rattle.number_search.specs.declared.seed_pair.SeedPair.{SeedPair}
use Rattle.number_search.specs.Told.{ArePlansOf, fits_both, told_apart}
use Rattle.seek_core.specs.declared.finding.SearchOutcome.{SearchOutcome}
use Rattle.seek_core.specs.Candidates.{candidate_quandles}
use Rattle.seek_core.specs.Pairs.{SeededPair}
use Rattle.seek_core.specs.Sizes.{as_tried}

-- the verdict `equal`, with a tidy list of moves that joins the diagrams
pub record IsEqualBy (d e : Diagram) (v : Verdict) : Type 0 where
  pub moves : List Move
  pub verdict : v ≡ Equal moves
  pub joins : Joins d moves e
  pub tidy : is_tidy moves ≡ true

-- a verdict is `different` by the first quandle that separates the diagrams, and where none does, it is `equal`
abbrev pub IsVerdictBy : Diagram → Diagram → Option NamedQuandle → Verdict → Type 0
IsVerdictBy d e (Some q) v = IsDifferentBy d e q v
IsVerdictBy d e None v = IsEqualBy d e v

-- a verdict on a pair of diagrams, by the first of these quandles that separates them, or by moves; or none, only where none of them separates them
abbrev pub IsVerdictOn : SeededPair → List NamedQuandle → Option Verdict → Type 0
IsVerdictOn p quandles (Some v) = IsVerdictBy p.first p.second (first_separating p.first p.second quandles) v
IsVerdictOn p quandles None = first_separating p.first p.second quandles ≡ None

-- what is found of a pair of diagrams is such a verdict, or evidence by numbers: by linking numbers or, where these agree, by the first of these
-- blocks that tells. Nothing is found only where no quandle separates them, and there is no evidence by numbers
abbrev pub IsFoundOn : SeededPair → List NamedQuandle → List Block → Option Said → Type 0
IsFoundOn p quandles blocks (Some (said.Verdict v)) = IsVerdictBy p.first p.second (first_separating p.first p.second quandles) v
IsFoundOn p quandles blocks (Some (said.Evidence x)) = told_apart p.first p.second p.seeds blocks ≡ Some x
IsFoundOn p quandles blocks None = (first_separating p.first p.second quandles ≡ None) × (told_apart p.first p.second p.seeds blocks ≡ None)

-- what a search on the diagrams and the quandles of a problem tried and found, where so many of the blocks fit plans of both diagrams, and blocks
-- are tried in the order of `as_tried`
pub record IsSearchOf (p : ProblemText) (blocks : List Block) (s : SearchOutcome) : Type 0 where
  pub quandles : s.quandles.items ≡ candidate_quandles (grid_of p.first) (grid_of p.second) p.quandles
  pub seeds : SeedPair
  pub plans : ArePlansOf (grid_of p.first) (grid_of p.second) seeds
  pub fitting : s.blocks ≡ count_by (fits_both seeds) blocks
  pub found : IsFoundOn (record { first = grid_of p.first; second = grid_of p.second; seeds = seeds }) s.quandles.items (as_tried blocks) s.said
