-- The job `code`: a diagram alone is answered by its crossing code.
use Rattle.std.specs.Prelude.{◌≡◌, ℕ, List, ◌++◌}
use Rattle.grid_core.specs.Diagram.{Diagram as Marks}
use Rattle.crossing_codes.specs.Code.{code}
use Rattle.crossing_codes.specs.Printed.{pd_text, gauss_text}
use Rattle.verdict_core.specs.declared.diagrams.Diagram.{Diagram}
use Rattle.verdict_core.specs.Diagrams.{grid_of}
use Rattle.reply_text.specs.declared.reply.PlainReply.{PlainReply}
use Rattle.reply_text.specs.Reply.{done}

-- the planar diagram code, and the signed Gauss code of each component that has a crossing
abbrev pub code_text : Marks → List ℕ
code_text d = pd_text (code d) ++ gauss_text d

abbrev pub AnswersCode : Diagram → PlainReply → Type 0
AnswersCode input reply = reply ≡ done (code_text (grid_of input))
