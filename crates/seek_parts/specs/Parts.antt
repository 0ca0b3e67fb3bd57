-- The parts of an input, by what the words give.
use Rattle.std.specs.Prelude.{◌≡◌, ◌++◌, ℕ, Bool, true, false, List, [], ◌∷◌, Option, IfSome, Ok, codes, map}
use Rattle.std.specs.Borrow.{Bor}
use Rattle.std.specs.List.{AllZip}
use Rattle.text_lines.specs.Lines.{text_of}
use Rattle.code_text.specs.TextGrid.{IsTrueDrawing}
use Rattle.seek_faults.specs.Alone.{one_diagram}
use Rattle.seek_words.specs.declared.asked.Asked.{Asked}
use Rattle.seek_words.specs.declared.given.Given.{Given}
use Rattle.seek_words.specs.declared.given.Given.TheVariants.{File, Braid, Code}
use Rattle.seek_words.specs.declared.given.Diagrams.{Diagrams}
use Rattle.seek_words.specs.declared.given.Diagrams.TheVariants.{Problem, Pair}

-- what is held of an input: the bytes of each part, and what it is called in messages
pub record HeldParts : Type 0 where
  pub texts : List (List ℕ)
  pub names : List (List ℕ)

-- what is told of the file of each path, if anything
abbrev pub Told : Type 0
Told = List ℕ → Option (List ℕ)

-- the bytes are those of what is given: of a file those that are told of it, of a braid its line, of a code a diagram of what is told of
-- its file
abbrev pub IsTextOf : Told → Given → List ℕ → Type 0
IsTextOf told (File path) bytes = IfSome (told path.now) (λ text. bytes ≡ text)
IsTextOf told (Braid word) bytes = bytes ≡ codes "braid " ++ word.now
IsTextOf told (Code path) bytes = IfSome (told path.now) (λ text. IsTrueDrawing text bytes)

-- the text is one diagram and no more, by the first words of its lines
abbrev pub IsOneDiagram : List ℕ → Type 0
IsOneDiagram bytes = one_diagram (text_of bytes).lines ≡ Ok tt

-- a part that is due: what is given for it, and whether it is one of two, so that it has to be one diagram
pub record Due : Type 0 where
  pub given : Given
  pub is_one : Bool

pub record IsPartOf (told : Told) (due : Due) (bytes : List ℕ) : Type 0 where
  pub text : IsTextOf told due.given bytes
  pub one : due.is_one ≡ true → IsOneDiagram bytes

-- one part for each that is due, in this order
abbrev pub ArePartsOf : Told → List Due → List (List ℕ) → Type 0
ArePartsOf told dues texts = AllZip (IsPartOf told) dues texts

-- the diagrams, in the order of the words
abbrev pub diagrams_due : Diagrams → List Due
diagrams_due (Problem one) = record { given = one; is_one = false } ∷ []
diagrams_due (Pair first second) = record { given = first; is_one = true } ∷ record { given = second; is_one = true } ∷ []

abbrev pub quandle_due : Bor (List ℕ) → Due
quandle_due path = record { given = File path; is_one = false }

abbrev pub quandles_due : List (Bor (List ℕ)) → List Due
quandles_due paths = map quandle_due paths

-- all that is asked for: the diagrams, and behind them the files of quandles
abbrev pub all_due : Asked → List Due
all_due asked = diagrams_due asked.diagrams ++ quandles_due asked.quandles.items

-- a part that is due was put behind the others
pub record AddsPartOf (told : Told) (due : Due) (old new : List (List ℕ)) : Type 0 where
  pub bytes : List ℕ
  pub is : IsPartOf told due bytes
  pub behind : new ≡ old ++ bytes ∷ []
