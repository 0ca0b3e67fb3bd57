-- What it means that a reader takes lines from the front alone, and fails at the first bad line.
use Rattle.std.specs.Prelude.{◌≡◌, ◌⊎◌, ℕ, List, ◌∷◌, ◌++◌, Result, Ok, Err, IsOk}
use Rattle.text_lines.specs.Lines.{NumberedLine, Text}
use Rattle.text_items.specs.declared.fault.TextFault.{TextFault}
use Rattle.text_items.specs.declared.fault.TextFault.TheVariants.{Malformed, Limit}

-- the text of these lines, which ends at line `ending`
abbrev pub lines_then : List NumberedLine → ℕ → Text
lines_then lines ending = record { lines = lines; ending = ending }

-- the text with further lines behind it, and where it then ends
abbrev pub with_lines_behind : Text → List NumberedLine → ℕ → Text
with_lines_behind text more ending = lines_then (text.lines ++ more) ending

-- what is read is read whatever lines stand behind, and these are left too
abbrev pub IsStable : {A : Type 0} → (Text → Result (A × Text) TextFault) → Type 0
IsStable {A} read =
    (text : Text) (value : A) (rest : Text) → read text ≡ Ok (value, rest) → (more : List NumberedLine) (ending : ℕ)
    → read (with_lines_behind text more ending) ≡ Ok (value, with_lines_behind rest more ending)

-- the fault names line n
abbrev pub NamesLine : TextFault → ℕ → Type 0
NamesLine fault n = (fault ≡ Malformed n) ⊎ (fault ≡ Limit n)

-- a text of these lines alone has no bad line: it is read, or something is still due where it ends
abbrev pub AreGood : {A : Type 0} → (Text → Result A TextFault) → List NumberedLine → Type 0
AreGood read lines = (ending : ℕ) → IsOk (read (lines_then lines ending)) ⊎ (read (lines_then lines ending) ≡ Err (Malformed ending))

-- the fault is that of this line: it names it, the lines before are good, and whatever stands behind it changes nothing
pub record IsFirstBad {A : Type 0} (read : Text → Result A TextFault) (front : List NumberedLine) (line : NumberedLine) (fault : TextFault) : Type 0 where
  pub names : NamesLine fault line.number
  pub good : AreGood read front
  pub decided : (behind : List NumberedLine) (ending : ℕ) → read (lines_then (front ++ line ∷ behind) ending) ≡ Err fault

-- a line of the text is the first bad one, and this is its fault
pub record FailsAtLine {A : Type 0} (read : Text → Result A TextFault) (text : Text) (fault : TextFault) : Type 0 where
  pub front : List NumberedLine
  pub line : NumberedLine
  pub behind : List NumberedLine
  pub lines : text.lines ≡ front ++ line ∷ behind
  pub first : IsFirstBad read front line fault

-- all lines are good, and something is due where the text ends
pub record FailsAtEnd {A : Type 0} (read : Text → Result A TextFault) (text : Text) (fault : TextFault) : Type 0 where
  pub names : fault ≡ Malformed text.ending
  pub due : (ending : ℕ) → read (lines_then text.lines ending) ≡ Err (Malformed ending)

-- each fault is that of the first bad line, or of the end where no line is bad
abbrev pub FailsFirst : {A : Type 0} → (Text → Result A TextFault) → Type 0
FailsFirst read = (text : Text) (fault : TextFault) → read text ≡ Err fault → FailsAtLine read text fault ⊎ FailsAtEnd read text fault
