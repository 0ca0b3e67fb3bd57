-- What the functions that read the matches of a parse find. No public clause cites it.
use Rattle.std.specs.Prelude.{Option, Some, None, codes, ℕ, List}
use Rattle.clap.specs.Matches.{found_of, one_text}
use Rattle.clap.specs.Walk.{Text}
use Rattle.clap.specs.declared.parser.matches.ArgMatches.{ArgMatches}
use Rattle.seek_words.specs.Words.{Named, AreNamedBy, AreNone, IsNumberBy}
use Rattle.seek_words.specs.declared.asked.Numbers.{Numbers}
use Rattle.seek_words.specs.declared.given.Diagrams.{Diagrams}
use Rattle.seek_words.specs.declared.given.Way.{Way}
use Rattle.seek_words.specs.declared.given.Way.TheVariants.{File, Braid, Code}

-- the argument by which a diagram is given so
abbrev pub way_name : Way → Text
way_name File = codes "FILE"
way_name Braid = codes "braid"
way_name Code = codes "pd"

-- diagrams that are named so, or that there are none
abbrev pub FindsNamed : List Named → Option Diagrams → Type 0
FindsNamed all (Some diagrams) = AreNamedBy all diagrams
FindsNamed all None = AreNone all

-- the number that a text spells, or that it spells none
abbrev pub FindsNumber : ℕ → Option Text → Option ℕ → Type 0
FindsNumber k given (Some n) = IsNumberBy k given n
FindsNumber k given None = (n : ℕ) → IsNumberBy k given n → ⊥

-- the number of this name, below 2 ^ k
abbrev pub HasNumber : ℕ → ArgMatches → Text → ℕ → Type 0
HasNumber k matches name n = IsNumberBy k (one_text (found_of matches) name) n

pub record AreGivenNumbers (matches : ArgMatches) (n : Numbers) : Type 0 where
  pub seed : HasNumber 64 matches (codes "seed") n.seed
  pub steps : HasNumber 64 matches (codes "steps") n.steps
  pub room : HasNumber 32 matches (codes "room") n.room
  pub workers : HasNumber 32 matches (codes "workers") n.workers

-- the numbers of the options, or that one of them has none
abbrev pub FindsNumbers : ArgMatches → Option Numbers → Type 0
FindsNumbers matches (Some numbers) = AreGivenNumbers matches numbers
FindsNumbers matches None = (numbers : Numbers) → AreGivenNumbers matches numbers → ⊥
