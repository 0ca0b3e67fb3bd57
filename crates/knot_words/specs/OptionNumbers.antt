-- Words as texts, and options with whole numbers: what the command lines of `knot` and of `seek` have in common.
use Rattle.std.specs.Prelude.{◌^◌, ◌-◌, ℕ, pos, List, [], ◌∷◌, map, Some, codes, string_bytes, String}
use Rattle.std.specs.Str.Parse.{digits_value, without_leading_plus}
use Rattle.std.specs.declared.alloc.Global.{Global}
use Rattle.clap.specs.Walk.{Rule, Text}
use Rattle.clap.specs.Simple.{new_rule}
use Rattle.clap.specs.declared.builder.action.ArgAction.TheVariants.{Set}
use Rattle.clap.specs.declared.builder.value_parser.ValueParser.{ValueParser}
use Rattle.clap.specs.declared.builder.value_parser.ValueParser.TheVariants as parser

-- the words as texts; the first is the program's name
abbrev pub texts_of : List (String Global) → List Text
texts_of words = map (λ w. string_bytes w) words

-- the number that a text of digits spells, with a plus before them or without. A minus is taken before zeros alone, where `clap`
-- reads it as a number, and counts as one digit more, of value 0
abbrev pub number_of_text : Text → ℕ
number_of_text text = digits_value 10 (without_leading_plus text)

-- an option with a whole number: its parser, and its default where it is not given
abbrev pub number_rule : Text → ValueParser → Text → Rule
number_rule name how default = record (new_rule name) {
  long = Some name;
  action = Some Set;
  parser = Some how;
  defaults = default ∷ [];
}

abbrev pub workers_rule : Rule
workers_rule = number_rule (codes "workers") (parser.Signed (pos 1) (pos 64)) (codes "1")

-- the seed is any number of 64 bits
abbrev pub seed_rule : Rule
seed_rule = number_rule (codes "seed") (parser.Unsigned 0 (2 ^ 64 - 1)) (codes "1")
