-- The job `replay`: moves on a diagram are answered by the last diagram, perhaps with the colours that the moves carry to it.
use Rattle.std.specs.Prelude.{◌≡◌, ◌⊎◌, ℕ, List, [], ◌∷◌, ◌++◌, Option, Some, None, true, false, codes, map}
use Rattle.std.specs.Fmt.{decimal}
use Rattle.arrayvec.specs.ArrayVec.{ArrayVec}
use Rattle.grid_core.specs.Diagram.{Diagram}
use Rattle.grid_moves.specs.declared.step.Move.{Move}
use Rattle.grid_moves.specs.declared.step.MoveFault.{MoveFault}
use Rattle.grid_moves.specs.Joining.{Joins, StopsAt}
use Rattle.grid_moves.specs.Step.{Step}
use Rattle.quandle_core.specs.Quandle.{Table}
use Rattle.colour_rows.specs.Colouring.{is_colouring}
use Rattle.colour_laws.specs.Carried.{carried}
use Rattle.text_lines.specs.Spelled.{line_text}
use Rattle.knot_text.specs.declared.shapes.ReplayText.{ReplayText}
use Rattle.quandle_core.specs.Names.{NamedQuandle}
use Rattle.knot_text.specs.Printed.{grid_text}
use Rattle.verdict_core.specs.Diagrams.{grid_of}
use Rattle.reply_text.specs.declared.reply.PlainReply.{PlainReply}
use Rattle.reply_text.specs.Lines.{illegal_step_tokens}
use Rattle.reply_text.specs.Reply.{done, rejected}

-- the moves, one after another, lead from d to e and carry these colours of d to those of e
abbrev pub Carries : Table → Diagram → List ℕ → List Move → Diagram → List ℕ → Type 0
Carries t d colours [] e last = (d ≡ e) × (colours ≡ last)
Carries t d colours (move ∷ moves) e last = (f : Diagram) × (Step d move f × Carries t f (carried t d move colours) moves e last)

-- a diagram, and a line of its colours
abbrev pub coloured_text : Diagram → List ℕ → List ℕ
coloured_text d colours = grid_text d ++ line_text (codes "colours" ∷ map decimal colours)

-- the last diagram, where all moves are legal
pub record ReplaysMoves (d : Diagram) (moves : List Move) (reply : PlainReply) : Type 0 where
  pub last : Diagram
  pub joins : Joins d moves last
  pub is : reply ≡ done (grid_text last)

-- with colours, the last diagram and the colours that were carried to it
pub record ReplaysColoured (d : Diagram) (moves : List Move) (q : NamedQuandle) (colours : List ℕ) (reply : PlainReply) : Type 0 where
  pub last : Diagram
  pub last_colours : List ℕ
  pub carries : Carries q.table d colours moves last last_colours
  pub is : reply ≡ done (coloured_text last last_colours)

-- and the first move that is not legal, where there is one
pub record Stops (d : Diagram) (moves : List Move) (reply : PlainReply) : Type 0 where
  pub place : ℕ
  pub fault : MoveFault
  pub stops : StopsAt d moves place fault
  pub is : reply ≡ rejected (illegal_step_tokens place fault)

-- colours that are no colouring are rejected before any move is made
pub record Miscoloured (d : Diagram) (q : NamedQuandle) (colours : List ℕ) (reply : PlainReply) : Type 0 where
  pub none : is_colouring q.table d colours ≡ false
  pub is : reply ≡ rejected (codes "colours" ∷ [])

pub record Coloured (d : Diagram) (moves : List Move) (q : NamedQuandle) (colours : List ℕ) (reply : PlainReply) : Type 0 where
  pub colouring : is_colouring q.table d colours ≡ true
  pub answer : ReplaysColoured d moves q colours reply ⊎ Stops d moves reply

abbrev pub AnswersMoves : Diagram → List Move → Option (NamedQuandle × ArrayVec ℕ) → PlainReply → Type 0
AnswersMoves d moves None reply = ReplaysMoves d moves reply ⊎ Stops d moves reply
AnswersMoves d moves (Some (q, colours)) reply = Miscoloured d q colours.items reply ⊎ Coloured d moves q colours.items reply

abbrev pub AnswersReplay : ReplayText → PlainReply → Type 0
AnswersReplay input reply = AnswersMoves (grid_of input.diagram) input.moves input.colours reply
