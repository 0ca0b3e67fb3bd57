-- What a checker of tables answers.
use Rattle.table_check.specs.declared.tables.KnotTable.{KnotTable}
use Rattle.table_check.specs.declared.cause.TableRuling.{TableRuling}
use Rattle.table_check.specs.declared.cause.TableRuling.TheVariants.{Accepted, Rejected}
use Rattle.table_check.specs.TableHolds.{TableHolds}
use Rattle.table_check.specs.Cause.{IsTableCause}

-- a table is accepted where it holds, else rejected for the first cause
abbrev pub RulesOnTable : KnotTable → TableRuling → Type 0
RulesOnTable t Accepted = TableHolds t
RulesOnTable t (Rejected why) = IsTableCause t why
