-- The state of a book.
use Rattle.std.specs.Prelude.{List, Option}
use Rattle.search_book.specs.declared.problem.Problem.{Problem}
use Rattle.search_book.specs.declared.entry.Entry.{Entry}
use Rattle.search_book.specs.declared.event.End.{End}
use Rattle.search_book.specs.declared.event.Event.{Event}

-- a problem, the entries by their ids, the events so far, and the end where there is one
pub record State : Type 0 where
  pub problem : Problem
  pub entries : List Entry
  pub history : List Event
  pub end : Option End
