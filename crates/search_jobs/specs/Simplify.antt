-- The job `simplify`: a diagram alone is answered by what it is simplified to, the moves that lead there, and why no more was done.
use Rattle.std.specs.Prelude.{◌≡◌, ℕ, List, [], ◌∷◌, ◌++◌, codes}
use Rattle.std.specs.Fmt.{decimal}
use Rattle.text_lines.specs.Spelled.{line_text}
use Rattle.mono_simplify.specs.declared.simplified.SimpleEnd.{SimpleEnd}
use Rattle.mono_simplify.specs.declared.simplified.SimpleEnd.TheVariants.{Irreducible, Spent}
use Rattle.mono_simplify.specs.declared.simplified.Simplified.{Simplified}
use Rattle.mono_simplify.specs.Simplified.{Simplifies}
use Rattle.verdict_core.specs.declared.diagrams.Diagram.{Diagram}
use Rattle.verdict_core.specs.Diagrams.{grid_of}
use Rattle.knot_text.specs.Printed.{grid_text, moves_text}
use Rattle.reply_text.specs.declared.reply.PlainReply.{PlainReply}
use Rattle.reply_text.specs.Reply.{done}

-- no destabilisation can be reached by shifts and exchanges; or the budget was spent, which is this number of members
abbrev pub end_line : SimpleEnd → List ℕ
end_line Irreducible = line_text (codes "irreducible" ∷ [])
end_line (Spent members) = line_text (codes "spent" ∷ decimal members ∷ [])

-- the simplified diagram, the moves that lead to it, and why no more was done
abbrev pub simplified_text : Simplified → List ℕ
simplified_text s = grid_text s.grid ++ (moves_text s.moves ++ end_line s.end)

-- the diagram, simplified with this budget
pub record AnswersSimplify (budget : ℕ) (input : Diagram) (reply : PlainReply) : Type 0 where
  pub simplified : Simplified
  pub simplifies : Simplifies (grid_of input) budget simplified.grid simplified.moves simplified.end
  pub is : reply ≡ done (simplified_text simplified)
