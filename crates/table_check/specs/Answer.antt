-- A table of knots is answered by the ruling on it.
use Rattle.std.specs.Prelude.{◌≡◌, ℕ, List, Ok}
use Rattle.table_check.specs.declared.tables.KnotTable.{KnotTable}
use Rattle.table_check.specs.Tables.{knot_table_of, RowsHaveClasses}
use Rattle.table_check.specs.declared.cause.TableRuling.{TableRuling}
use Rattle.table_check.specs.declared.cause.TableRuling.TheVariants.{Accepted, Rejected}
use Rattle.table_check.specs.TableHolds.{RowsJoined, ClassesApart, RowsApart}
use Rattle.table_check.specs.Ruling.{RulesOnTable}
use Rattle.reply_text.specs.declared.reply.PlainReply.{PlainReply}
use Rattle.reply_text.specs.Reply.{plain_reply}
use Rattle.knot_ports.specs.declared.status.Status.{Status}
use Rattle.knot_ports.specs.declared.status.Status.TheVariants as status
use Rattle.table_check.specs.Lines.{table_ruling_line}

abbrev pub table_ruling_status : TableRuling → Status
table_ruling_status Accepted = status.Done
table_ruling_status (Rejected cause) = status.Rejected

-- the ruling on a table
pub record AnswersTable (table : KnotTable) (reply : PlainReply) : Type 0 where
  pub ruling : TableRuling
  pub rules : RulesOnTable table ruling
  pub is : reply ≡ plain_reply (table_ruling_status ruling) (table_ruling_line ruling)

-- what a table claims is true: each row has a class, rows of one class are joined by moves, and no list of moves joins the diagrams or the rows
-- of two, unless these are left open
pub record IsTrueTable (table : KnotTable) : Type 0 where
  pub known : RowsHaveClasses table
  pub joined : RowsJoined table
  pub classes : ClassesApart table
  pub apart : RowsApart table

-- the bytes are a table, and what it claims is true
pub record IsTableCertificate (bytes : List ℕ) : Type 0 where
  pub table : KnotTable
  pub read : knot_table_of bytes ≡ Ok table
  pub is_true : IsTrueTable table
