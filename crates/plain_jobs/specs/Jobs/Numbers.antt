-- The job `numbers`: a diagram and blocks are answered by the numbers of its colourings.
use Rattle.std.specs.Prelude.{◌≡◌, ℕ, List}
use Rattle.verdict_core.specs.Diagrams.{grid_of}
use Rattle.number_text.specs.declared.numbered.NumbersText.{NumbersText}
use Rattle.certificates.specs.Lines.{IsNumbersText}
use Rattle.reply_text.specs.declared.reply.PlainReply.{PlainReply}
use Rattle.reply_text.specs.Reply.{done}

-- the text of the numbers by some plan of the diagram
pub record AnswersNumbers (input : NumbersText) (reply : PlainReply) : Type 0 where
  pub text : List ℕ
  pub numbers : IsNumbersText (grid_of input.diagram) input.blocks text
  pub is : reply ≡ done text
