-- The lines of rulings on tables, as tokens, which are printed with one space between them.
use Rattle.std.specs.Prelude.{ℕ, List, [], ◌∷◌, codes}
use Rattle.std.specs.Fmt.{decimal}
use Rattle.text_lines.specs.Spelled.{line_text}
use Rattle.reply_text.specs.Lines.{why_tokens, rejected_line}
use Rattle.table_check.specs.declared.cause.ClassCause.{ClassCause}
use Rattle.table_check.specs.declared.cause.ClassCause.TheVariants.{Outside, Unsettled, Wide, Numbers}
use Rattle.table_check.specs.declared.cause.TableCause.{TableCause}
use Rattle.table_check.specs.declared.cause.TableCause.TheVariants as cause
use Rattle.table_check.specs.declared.cause.TableRuling.{TableRuling}
use Rattle.table_check.specs.declared.cause.TableRuling.TheVariants.{Accepted, Rejected}

-- why what is said of a class isn't shown
abbrev pub class_tokens : ClassCause → List (List ℕ)
class_tokens (Outside column) = codes "outside" ∷ decimal column ∷ []
class_tokens (Unsettled column) = codes "unsettled" ∷ decimal column ∷ []
class_tokens (Wide block) = codes "wide" ∷ decimal block ∷ []
class_tokens (Numbers block place) = codes "numbers" ∷ decimal block ∷ decimal place ∷ []

-- why a table does not hold
abbrev pub table_tokens : TableCause → List (List ℕ)
table_tokens (cause.Class at why) = codes "class" ∷ decimal at ∷ class_tokens why
table_tokens (cause.Same first second) = codes "classes" ∷ decimal first ∷ decimal second ∷ codes "same" ∷ []
table_tokens (cause.Row at why) = codes "row" ∷ decimal at ∷ why_tokens why

abbrev pub table_ruling_line : TableRuling → List ℕ
table_ruling_line Accepted = line_text (codes "accepted" ∷ [])
table_ruling_line (Rejected why) = rejected_line (table_tokens why)
