-- The job `grid`: the text of a code is answered by a grid diagram of it, or by why none is answered.
use Rattle.std.specs.Prelude.{◌≡◌, ◌<◌, ℕ, List, [], ◌∷◌, codes, Result, Ok, Err}
use Rattle.std.specs.Fmt.{decimal}
use Rattle.grid_core.specs.Diagram.{Diagram}
use Rattle.grid_core.specs.declared.grid.TheConstants.{MAX_SIZE}
use Rattle.text_lines.specs.Spelled.{line_text}
use Rattle.knot_text.specs.Printed.{grid_text}
use Rattle.code_rows.specs.declared.rows_fault.RowsFault.{RowsFault}
use Rattle.code_rows.specs.declared.rows_fault.RowsFault.TheVariants as fault
use Rattle.code_text.specs.declared.code_reading.CodeText.{CodeText}
use Rattle.code_text.specs.declared.refusal.TextRefusal.{TextRefusal}
use Rattle.code_text.specs.declared.refusal.TextRefusal.TheVariants.{Rows, Gauss, Columns, Lost}
use Rattle.code_text.specs.TextGrid.{IsAnswer}
use Rattle.knot_ports.specs.declared.status.Status.TheVariants as status
use Rattle.reply_text.specs.declared.reply.PlainReply.{PlainReply}
use Rattle.reply_text.specs.Reply.{plain_reply, done, rejected}

-- why rows are no code; edges are told by their names
abbrev pub rows_fault_tokens : RowsFault → List (List ℕ)
rows_fault_tokens fault.Empty = codes "empty" ∷ []
rows_fault_tokens (fault.Edge name) = codes "edge" ∷ decimal name ∷ []
rows_fault_tokens (fault.Direction name) = codes "direction" ∷ decimal name ∷ []
rows_fault_tokens fault.Plane = codes "plane" ∷ []

-- how many columns a diagram takes that are more than it may have
abbrev pub columns_reply : ℕ → PlainReply
columns_reply columns = plain_reply status.Limit (line_text (codes "limit" ∷ codes "columns" ∷ decimal columns ∷ []))

abbrev pub refused_reply : TextRefusal → PlainReply
refused_reply (Rows fault) = rejected (rows_fault_tokens fault)
refused_reply Gauss = rejected (codes "gauss" ∷ [])
refused_reply (Columns columns) = columns_reply columns
refused_reply Lost = rejected (codes "drawing" ∷ [])

abbrev pub drawn_reply : Result Diagram TextRefusal → PlainReply
drawn_reply (Ok d) = done (grid_text d)
drawn_reply (Err refusal) = refused_reply refusal

-- a diagram of the code, or why none is answered
pub record AnswersGrid (input : CodeText) (reply : PlainReply) : Type 0 where
  pub answer : Result Diagram TextRefusal
  pub is_true : IsAnswer input answer
  pub is : reply ≡ drawn_reply answer

-- the reply tells more columns than a diagram may have
abbrev pub IsTooWide : PlainReply → Type 0
IsTooWide reply = (columns : ℕ) × (MAX_SIZE < columns) × (reply ≡ columns_reply columns)
