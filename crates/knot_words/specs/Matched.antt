-- What a parse leaves to the functions that read its matches. No public clause cites it.
use Rattle.std.specs.Prelude.{◌≡◌, Option, Some, Result}
use Rattle.clap.specs.Built.{IsParsedFrom}
use Rattle.clap.specs.Matches.{ReadsOne, found_of, one_text}
use Rattle.clap.specs.Simple.{App, app_of}
use Rattle.clap.specs.Walk.{Text, first_of, rows_of}
use Rattle.clap.specs.declared.builder.command.Command.{Command}
use Rattle.clap.specs.declared.parser.matches.ArgMatches.{ArgMatches}

-- the matches come of a parse that succeeded, by a command with these rules
pub record AreMatchesBy (app : App) (matches : ArgMatches) : Type 0 where
  pub command : Command
  pub rules : app_of command ≡ app
  pub parsed : IsParsedFrom command matches

-- the text of this name
abbrev pub HasText : ArgMatches → Text → Text → Type 0
HasText matches name text = first_of name (rows_of (found_of matches)) ≡ Some text

-- what a getter of this name answers, by how its type reads a text
abbrev pub IsReadAs : {T E : Type 0} → (Text → Result T E → Type 0) → ArgMatches → Text → Option T → Type 0
IsReadAs gives matches name r = (t : Text) → one_text (found_of matches) name ≡ Some t → ReadsOne gives t r
