-- What it means that a value is written in a text, where it is read: the printed lines of the value stand there, token for token.
use Rattle.std.specs.Prelude.{◌≡◌, ◌≤◌, ◌⊎◌, ℕ, pos, List, [], ◌∷◌, ◌++◌, codes, length, map, Option, Some, None}
use Rattle.std.specs.List.{AllByRecursion, flat_map, range_with_len}
use Rattle.std.specs.Fmt.{decimal}
use Rattle.arrayvec.specs.ArrayVec.{ArrayVec}
use Rattle.braid_core.specs.Braid.{IsBraid}
use Rattle.braid_moves.specs.declared.step.BraidMove.{BraidMove}
use Rattle.braid_moves.specs.declared.step.BraidMove.TheVariants.{Insert}
use Rattle.colour_rows.specs.Colouring.{AreColours}
use Rattle.cocycle_core.specs.Cocycle.{Cochain, IsCocycle, value}
use Rattle.quandle_core.specs.Quandle.{Table}
use Rattle.text_lines.specs.Lines.{NumberedLine, Text, text_of}
use Rattle.verdict_core.specs.declared.verdict.Verdict.{Verdict}
use Rattle.text_items.specs.declared.quandles.TheConstants.{MAX_QUANDLES}
use Rattle.verdict_text.specs.declared.verdicts.Version.{Version}
use Rattle.verdict_core.specs.declared.diagrams.Diagram.{Diagram}
use Rattle.verdict_core.specs.declared.problem.ProblemText.{ProblemText}
use Rattle.knot_text.specs.declared.shapes.ReplayText.{ReplayText}
use Rattle.knot_text.specs.declared.shapes.ColourText.{ColourText}
use Rattle.knot_text.specs.declared.shapes.CloseText.{CloseText}
use Rattle.knot_text.specs.declared.braid_checks.BraidCheckText.{BraidCheckText}
use Rattle.text_items.specs.declared.modulus.TheConstants.{MAX_MODULUS}
use Rattle.knot_text.specs.declared.weights.WeightText.{WeightText}
use Rattle.quandle_core.specs.Names.{NamedQuandle}
use Rattle.text_items.specs.Quandles.{or_built_in}
use Rattle.knot_text.specs.Printed.{moves_lines, HaveMovesText, quandle_lines, HasQuandleText, version_lines, HasVersionText, braid_lines}
use Rattle.knot_text.specs.Printed.{diagram_lines, HasDiagramText, colours_lines, step_tokens, steps_head, HaveStepsText}
use Rattle.verdict_core.specs.Diagrams.{column_count}

-- the tokens of each line
abbrev pub tokens_by_line : List NumberedLine → List (List (List ℕ))
tokens_by_line lines = map (λ (line : NumberedLine). line.tokens) lines

-- the front of the text is these printed lines, and the rest is all that stands behind them
pub record StandInFront (printed : List (List (List ℕ))) (text rest : Text) : Type 0 where
  pub front : List NumberedLine
  pub lines : text.lines ≡ front ++ rest.lines
  pub tokens : tokens_by_line front ≡ printed
  pub ending : rest.ending ≡ text.ending

-- ---- steps, of which one has two spellings

-- the letter 0 is inserted, and written with a `-`
pub record InsertsMinusZero (tokens : List (List ℕ)) (step : BraidMove) : Type 0 where
  pub place : ℕ
  pub inserts : step ≡ Insert place (pos 0)
  pub minus : tokens ≡ codes "insert" ∷ decimal place ∷ codes "-0" ∷ []

-- the tokens of a line say this step
abbrev pub SaysStep : List (List ℕ) → BraidMove → Type 0
SaysStep tokens step = (tokens ≡ step_tokens step) ⊎ InsertsMinusZero tokens step

-- each line says its step, in order, and there are as many
abbrev pub SaySteps : List (List (List ℕ)) → List BraidMove → Type 0
SaySteps [] [] = Unit {0}
SaySteps (tokens ∷ lines) (step ∷ steps) = SaysStep tokens step × SaySteps lines steps
SaySteps lines steps = ⊥

-- the lines are how many steps there are, and these steps
abbrev pub AreStepsLines : List (List (List ℕ)) → List BraidMove → Type 0
AreStepsLines [] steps = ⊥
AreStepsLines (head ∷ lines) steps = (head ≡ steps_head steps) × SaySteps lines steps

-- the front of the text is lines of these steps, and the rest is all that stands behind them
pub record StepsInFront (steps : List BraidMove) (text rest : Text) : Type 0 where
  pub lines : List (List (List ℕ))
  pub say : AreStepsLines lines steps
  pub there : StandInFront lines text rest

-- ---- whole texts: the lines of their items in order, and no others

-- what the bytes say: the tokens of each line that is not skipped
abbrev pub said_by : List ℕ → List (List (List ℕ))
said_by bytes = tokens_by_line (text_of bytes).lines

-- these quandles are listed; where there are none, the built-in list stands for them
pub record AreListed (listed quandles : List NamedQuandle) : Type 0 where
  pub few : length listed ≤ MAX_QUANDLES
  pub each : AllByRecursion HasQuandleText listed
  pub stand : quandles ≡ or_built_in listed

-- the lines of listed quandles
abbrev pub listed_lines : List NamedQuandle → List (List (List ℕ))
listed_lines listed = flat_map (quandle_lines (codes "quandle")) listed

-- two diagrams and the quandles that are listed
pub record HasProblemText (listed : List NamedQuandle) (p : ProblemText) : Type 0 where
  pub first : HasDiagramText p.first
  pub second : HasDiagramText p.second
  pub quandles : AreListed listed p.quandles

-- the lines of a problem in which these quandles are listed
abbrev pub problem_lines : List NamedQuandle → ProblemText → List (List (List ℕ))
problem_lines listed p = diagram_lines p.first ++ (diagram_lines p.second ++ listed_lines listed)

-- the lines are a text of the problem
abbrev pub IsProblemText : List (List (List ℕ)) → ProblemText → Type 0
IsProblemText lines p = (listed : List NamedQuandle) × HasProblemText listed p × (lines ≡ problem_lines listed p)

-- the lines are a text of the problem and a verdict on its two diagrams, of either version
abbrev pub IsCheckText : List (List (List ℕ)) → ProblemText → Verdict → Type 0
IsCheckText lines p v =
    (listed : List NamedQuandle) × HasProblemText listed p
    × ((version : Version) × HasVersionText version (column_count p.first) (column_count p.second) v
    × (lines ≡ problem_lines listed p ++ version_lines version v))

-- a quandle, and a colour for each of so many columns, or nothing
abbrev pub given_lines : Option (NamedQuandle × ArrayVec ℕ) → List (List (List ℕ))
given_lines None = []
given_lines (Some given) = quandle_lines (codes "quandle") given.0 ++ colours_lines given.1

-- what is given has a text
abbrev pub HasGivenText : ℕ → Option (NamedQuandle × ArrayVec ℕ) → Type 0
HasGivenText width None = Unit {0}
HasGivenText width (Some given) = HasQuandleText given.0 × AreColours width given.0.table.order given.1.items

-- a diagram, moves, and perhaps a quandle and colours
pub record HasReplayText (r : ReplayText) : Type 0 where
  pub diagram : HasDiagramText r.diagram
  pub moves : HaveMovesText r.moves
  pub colours : HasGivenText (column_count r.diagram) r.colours

-- the lines of a replay
abbrev pub replay_lines : ReplayText → List (List (List ℕ))
replay_lines r = diagram_lines r.diagram ++ (moves_lines (codes "moves") r.moves ++ given_lines r.colours)

-- a diagram and the quandles that are listed
abbrev pub IsColourText : List (List (List ℕ)) → ColourText → Type 0
IsColourText lines c =
    (listed : List NamedQuandle) × HasDiagramText c.diagram × AreListed listed c.quandles × (lines ≡ diagram_lines c.diagram ++ listed_lines listed)

-- a braid and the quandles that are listed
abbrev pub IsCloseText : List (List (List ℕ)) → CloseText → Type 0
IsCloseText lines c =
    (listed : List NamedQuandle) × IsBraid c.braid × AreListed listed c.quandles × (lines ≡ braid_lines c.braid ++ listed_lines listed)

-- two diagrams
abbrev pub IsPairText : List (List (List ℕ)) → Diagram × Diagram → Type 0
IsPairText lines p = HasDiagramText p.0 × HasDiagramText p.1 × (lines ≡ diagram_lines p.0 ++ diagram_lines p.1)

-- two braids, and steps
pub record HasBraidCheckText (i : BraidCheckText) : Type 0 where
  pub first : IsBraid i.first
  pub second : IsBraid i.second
  pub steps : HaveStepsText i.steps

-- the lines are a text of two braids and steps
abbrev pub IsBraidCheckText : List (List (List ℕ)) → BraidCheckText → Type 0
IsBraidCheckText lines i =
    (said : List (List (List ℕ))) × HasBraidCheckText i × AreStepsLines said i.steps
    × (lines ≡ braid_lines i.first ++ (braid_lines i.second ++ said))

-- row x of the table of a cocycle: the numbers φ(x, 0) to φ(x, q-1)
abbrev pub value_tokens : Cochain → ℕ → List (List ℕ)
value_tokens w x = map (λ y. decimal (value w x y)) (range_with_len 0 w.quandle.order)

-- the rows of the table of a cocycle
abbrev pub value_lines : Cochain → List (List (List ℕ))
value_lines w = map (value_tokens w) (range_with_len 0 w.quandle.order)

-- the modulus of a cocycle, and its table
abbrev pub cocycle_lines : Cochain → List (List (List ℕ))
cocycle_lines w = (codes "weight" ∷ decimal w.modulus ∷ []) ∷ value_lines w

-- a cocycle of the quandle, whose modulus is within its limit
pub record HasCocycleText (quandle : Table) (w : Cochain) : Type 0 where
  pub cocycle : IsCocycle w
  pub same : w.quandle ≡ quandle
  pub few : w.modulus ≤ MAX_MODULUS

-- two diagrams, a quandle and a cocycle of it
pub record HasWeightText (w : WeightText) : Type 0 where
  pub first : HasDiagramText w.first
  pub second : HasDiagramText w.second
  pub listed : HasQuandleText w.listed
  pub cocycle : HasCocycleText w.listed.table w.cocycle

-- the lines of two diagrams, a quandle and a cocycle of it
abbrev pub weight_lines : WeightText → List (List (List ℕ))
weight_lines w = diagram_lines w.first ++ (diagram_lines w.second ++ (quandle_lines (codes "quandle") w.listed ++ cocycle_lines w.cocycle))
