-- The job `least`: a diagram alone is answered by the least one that shifts and exchanges reach, the moves that lead there, and whether
-- the whole class was seen.
use Rattle.std.specs.Prelude.{◌≡◌, ◌≤◌, ℕ, List, [], ◌∷◌, ◌++◌, codes, Ok}
use Rattle.std.specs.Fmt.{decimal}
use Rattle.grid_core.specs.Diagram.{Diagram as Marks}
use Rattle.text_lines.specs.Lines.{Text, text_of}
use Rattle.text_lines.specs.Spelled.{line_text}
use Rattle.text_items.specs.Grids.{grid_item}
use Rattle.mono_simplify.specs.declared.least.LeastEnd.{LeastEnd}
use Rattle.mono_simplify.specs.declared.least.LeastEnd.TheVariants.{Whole, Spent}
use Rattle.mono_simplify.specs.declared.least.LeastGrid.{LeastGrid}
use Rattle.mono_simplify.specs.Least.{FindsLeast}
use Rattle.verdict_core.specs.declared.diagrams.Diagram.{Diagram}
use Rattle.verdict_core.specs.Diagrams.{grid_of}
use Rattle.knot_text.specs.Printed.{grid_text, moves_text}
use Rattle.reply_text.specs.declared.reply.PlainReply.{PlainReply}
use Rattle.reply_text.specs.Reply.{done}
use Rattle.knot_words.specs.declared.words.TheConstants.{MAX_BUDGET}

-- the whole class was seen; or the budget was spent, which is this number of members
abbrev pub least_end_line : LeastEnd → List ℕ
least_end_line Whole = line_text (codes "whole" ∷ [])
least_end_line (Spent members) = line_text (codes "spent" ∷ decimal members ∷ [])

-- the least diagram, the moves that lead to it, and whether the whole class was seen
abbrev pub least_text : LeastGrid → List ℕ
least_text l = grid_text l.grid ++ (moves_text l.moves ++ least_end_line l.end)

-- the least of the diagram's class, with this budget
pub record AnswersLeast (budget : ℕ) (input : Diagram) (reply : PlainReply) : Type 0 where
  pub least : LeastGrid
  pub finds : FindsLeast (grid_of input) budget least.grid least.moves least.end
  pub is : reply ≡ done (least_text least)

-- the text answers the diagram with a budget that may be asked for. It begins with the two lines of g, and its last line is `whole`
pub record TellsWhole (input : Diagram) (text : List ℕ) (g : Marks) : Type 0 where
  pub budget : ℕ
  pub bounded : budget ≤ MAX_BUDGET
  pub answer : AnswersLeast budget input (done text)
  pub rest : Text
  pub begins : grid_item (text_of text) ≡ Ok (g, rest)
  pub front : List ℕ
  pub ends : text ≡ front ++ line_text (codes "whole" ∷ [])
