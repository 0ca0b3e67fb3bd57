-- What the words of a command line ask of the seeker, by `clap`'s meaning of one simple command: two lists, the files among them, and options.
use Rattle.std.specs.Prelude.{◌≡◌, ◌≢◌, ◌⊎◌, ◌++◌, ◌+◌, ◌<◌, ◌≤◌, ◌^◌, ◌-◌, ℕ, Bool, true, false, List, [], ◌∷◌, Option, Some, None, if◌then◌else◌}
use Rattle.std.specs.Prelude.{codes, pos, map, count_by, option_map, unwrap_or}
use Rattle.std.specs.Str.{bytes_eq}
use Rattle.std.specs.Str.Parse.{IsNumeral, without_leading_plus}
use Rattle.clap.specs.Walk.{Row, Rule, Text, first_of, one_of, all_of}
use Rattle.clap.specs.Simple.{App, new_app, new_rule, on_top, with_rule, matches_of}
use Rattle.clap.specs.Faults.{fault_of}
use Rattle.clap.specs.Kinds.{IsAmong}
use Rattle.clap.specs.declared.error.kind.ErrorKind.{ErrorKind}
use Rattle.clap.specs.declared.error.kind.ErrorKind.TheVariants.{DisplayHelp, DisplayVersion}
use Rattle.clap.specs.declared.builder.action.ArgAction.TheVariants.{Set, SetTrue, Append}
use Rattle.clap.specs.declared.builder.value_parser.ValueParser.TheVariants as parser
use Rattle.knot_words.specs.OptionNumbers.{number_of_text, number_rule, seed_rule, workers_rule}
use Rattle.seek_words.specs.declared.asked.Asked.{Asked}
use Rattle.seek_words.specs.declared.given.Given.{Given}
use Rattle.seek_words.specs.declared.given.Given.TheVariants.{File, Braid, Code}
use Rattle.seek_words.specs.declared.given.Diagrams.{Diagrams}
use Rattle.seek_words.specs.declared.given.Diagrams.TheVariants.{Problem, Pair}
use Rattle.seek_words.specs.declared.asked.Talk.{Talk}
use Rattle.seek_words.specs.declared.asked.Talk.TheVariants.{Quiet, Terminal, Progress}

-- ---- the command

-- the files of the diagrams, at most two
abbrev pub files_rule : Rule
files_rule = record (new_rule (codes "FILE")) {
  action = Some Append;
  range = Some (record { start_inclusive = 0; end_inclusive = 2 });
}

-- an option with a text, which may be given as often as is wanted
abbrev pub list_rule : Text → Rule
list_rule name = record (new_rule name) { long = Some name; action = Some Append; value_names = 1 }

-- an option with a text, which may be given once
abbrev pub text_rule : Text → Rule
text_rule name = record (new_rule name) { long = Some name; action = Some Set; value_names = 1 }

-- an option whose value has a name in the help
abbrev pub with_value_name : Rule → Rule
with_value_name rule = record rule { value_names = 1 }

-- an option without a value
abbrev pub flag_rule : Text → Rule
flag_rule name = record (new_rule name) { long = Some name; action = Some SetTrue }

-- the command has a version to tell
abbrev pub versioned : App → App
versioned a = on_top (λ s. record s { has_version = true }) a

abbrev pub with_inputs : App → App
with_inputs a =
    with_rule (with_rule (with_rule (with_rule (with_rule (with_rule (with_rule a files_rule) (list_rule (codes "braid"))) (list_rule (codes "pd")))
    (list_rule (codes "quandles"))) (list_rule (codes "weights"))) (flag_rule (codes "no-weights"))) (text_rule (codes "out"))

abbrev pub steps_rule : Rule
steps_rule = number_rule (codes "steps") (parser.Unsigned 0 (2 ^ 64 - 1)) (codes "8000000")

abbrev pub room_rule : Rule
room_rule = number_rule (codes "room") (parser.Signed (pos 0) (pos 4294967295)) (codes "524288")

abbrev pub with_bounds : App → App
with_bounds a =
    with_rule (with_rule (with_rule (with_rule a (with_value_name seed_rule)) (with_value_name steps_rule)) (with_value_name room_rule))
    (with_value_name workers_rule)

abbrev pub seek_app : App
seek_app = with_rule (with_rule (with_bounds (with_inputs (versioned (new_app (codes "seek"))))) (flag_rule (codes "progress"))) (flag_rule (codes "quiet"))

-- ---- what words ask for

-- a diagram as words give it: the name of the argument, and its text
pub record Named : Type 0 where
  pub way : Text
  pub text : Text

abbrev pub named : Given → Named
named (File path) = record { way = codes "FILE"; text = path.now }
named (Braid word) = record { way = codes "braid"; text = word.now }
named (Code path) = record { way = codes "pd"; text = path.now }

-- those that the words give by this argument
abbrev pub named_by : Text → List Row → List Named
named_by way rows = map (λ text. record { way = way; text = text }) (unwrap_or (all_of way rows) [])

abbrev pub all_named : List Row → List Named
all_named rows = named_by (codes "FILE") rows ++ named_by (codes "braid") rows ++ named_by (codes "pd") rows

-- the diagrams are those that the words give: two, or a problem in a file, which is standard input where they give none. Two that are given
-- the same way stand in the order of the words; that of two others is left open
abbrev pub AreNamedBy : List Named → Diagrams → Type 0
AreNamedBy all (Problem one) =
    ((all ≡ named one ∷ []) × ((named one).way ≡ codes "FILE"))
    ⊎ ((all ≡ []) × (named one ≡ record { way = codes "FILE"; text = codes "-" }))
AreNamedBy all (Pair first second) =
    (all ≡ named first ∷ named second ∷ [])
    ⊎ ((all ≡ named second ∷ named first ∷ []) × ((named first).way ≢ (named second).way))

-- there are too few or too many for that, or a single one that is no file
abbrev pub AreNone : List Named → Type 0
AreNone all = (diagrams : Diagrams) → AreNamedBy all diagrams → ⊥

-- what is told on standard error, by what the words give of `--quiet` and `--progress`, of which the first decides
pub record IsTalkBy (quiet progress : Option Text) (talk : Talk) : Type 0 where
  pub silent : quiet ≡ Some (codes "true") → talk ≡ Quiet
  pub told : quiet ≢ Some (codes "true") → progress ≡ Some (codes "true") → talk ≡ Progress
  pub plain : quiet ≢ Some (codes "true") → progress ≢ Some (codes "true") → talk ≡ Terminal

-- which files of quandles with cocycles are asked for, by what the words give of `--no-weights` and `--weights`, of which the first decides
pub record AreWeightsBy (none : Option Text) (given files : List Text) : Type 0 where
  pub dropped : none ≡ Some (codes "true") → files ≡ []
  pub kept : none ≢ Some (codes "true") → files ≡ given

-- the text that is given spells this number below 2 ^ k, in decimal digits, with a plus before them or without
pub record IsNumberBy (k : ℕ) (given : Option Text) (n : ℕ) : Type 0 where
  pub text : Text
  pub is : given ≡ Some text
  pub numeral : IsNumeral 10 (without_leading_plus text)
  pub number : number_of_text text ≡ n
  pub most : n < 2 ^ k

-- the options have these numbers
pub record AreNumbersBy (rows : List Row) (seed steps room workers : ℕ) : Type 0 where
  pub of_seed : IsNumberBy 64 (one_of (codes "seed") rows) seed
  pub of_steps : IsNumberBy 64 (one_of (codes "steps") rows) steps
  pub of_room : IsNumberBy 32 (one_of (codes "room") rows) room
  pub of_workers : IsNumberBy 32 (one_of (codes "workers") rows) workers

-- the file that is written, by what the words give of `--out`: `-` is standard output, as no file is
abbrev pub file_written : Option Text → Option Text
file_written None = None
file_written (Some path) = if bytes_eq path (codes "-") then None else Some path

-- these matches ask for this: what the words give of each option, and else its default
pub record AsksBy (rows : List Row) (asked : Asked) : Type 0 where
  pub diagrams : AreNamedBy (all_named rows) asked.diagrams
  pub quandles : map (λ s. s.now) asked.quandles.items ≡ unwrap_or (all_of (codes "quandles") rows) []
  pub weights : AreWeightsBy (one_of (codes "no-weights") rows) (unwrap_or (all_of (codes "weights") rows) []) (map (λ s. s.now) asked.weights.items)
  pub out : option_map (λ s. s.now) asked.out ≡ file_written (first_of (codes "out") rows)
  pub numbers : AreNumbersBy rows asked.seed asked.steps asked.room asked.workers
  pub talk : IsTalkBy (one_of (codes "quiet") rows) (one_of (codes "progress") rows) asked.talk

-- ---- standard input

-- the path of standard input
abbrev pub is_input : Text → Bool
is_input path = bytes_eq path (codes "-")

-- what is given is read from there
abbrev pub is_input_given : Given → Bool
is_input_given (File path) = is_input path.now
is_input_given (Braid word) = false
is_input_given (Code path) = is_input path.now

abbrev pub diagram_inputs : Diagrams → ℕ
diagram_inputs (Problem one) = if is_input_given one then 1 else 0
diagram_inputs (Pair first second) = (if is_input_given first then 1 else 0) + (if is_input_given second then 1 else 0)

-- for how many of the files that are asked for standard input is read
abbrev pub inputs_read : Asked → ℕ
inputs_read asked = diagram_inputs asked.diagrams
    + (count_by (λ s. is_input s.now) asked.quandles.items + count_by (λ s. is_input s.now) asked.weights.items)

-- ---- the words

-- `clap` takes the words: they have no fault
abbrev pub AreTakenBySeek : List Text → Type 0
AreTakenBySeek words = fault_of seek_app words ≡ []

-- the words are taken, and ask for this, by which standard input is read once at most
pub record AsksOfSeek (words : List Text) (asked : Asked) : Type 0 where
  pub taken : AreTakenBySeek words
  pub by : AsksBy (matches_of seek_app words) asked
  pub once : inputs_read asked ≤ 1

-- ---- what words are answered with by `clap`

-- an error that is the help or the version
abbrev pub IsHelpOrVersion : ErrorKind → Type 0
IsHelpOrVersion k = (k ≡ DisplayHelp) ⊎ (k ≡ DisplayVersion)

-- `clap` refuses the words: they have a fault that is neither the help nor the version
abbrev pub AreRefused : List Text → Type 0
AreRefused words = (k : ErrorKind) × (IsAmong k (fault_of seek_app words) × (IsHelpOrVersion k → ⊥))

-- the words ask for the help or the version
abbrev pub AskForText : List Text → Type 0
AskForText words = IsAmong DisplayHelp (fault_of seek_app words) ⊎ IsAmong DisplayVersion (fault_of seek_app words)

-- ---- what words ask for nothing

-- by what these matches ask for standard input is read more than once
pub record ReadsTwice (rows : List Row) : Type 0 where
  pub asked : Asked
  pub asks : AsksBy rows asked
  pub twice : 1 < inputs_read asked

-- these matches name another number of diagrams, or an option has no number, or standard input would be read twice
abbrev pub AsksNothingBy : List Row → Type 0
AsksNothingBy rows =
    AreNone (all_named rows)
    ⊎ (((seed steps room workers : ℕ) → AreNumbersBy rows seed steps room workers → ⊥) ⊎ ReadsTwice rows)

-- `clap` refuses the words, or takes them, and what they ask for is nothing that can be done
abbrev pub AsksNothingOfSeek : List Text → Type 0
AsksNothingOfSeek words = AreRefused words ⊎ (AreTakenBySeek words × AsksNothingBy (matches_of seek_app words))
