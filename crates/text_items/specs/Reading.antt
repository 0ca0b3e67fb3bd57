-- Reading from the front of a text, line by line, and of a line, token by token: a value and what is left, or the first fault.
use Rattle.std.specs.Prelude.{◌≡◌, ℕ, zero, suc, List, [], ◌∷◌, Option, Some, None, Result, Ok, Err, nat_le, if◌then◌else◌}
use Rattle.std.specs.Str.{bytes_eq}
use Rattle.text_lines.specs.Lines.{NumberedLine, Text}
use Rattle.text_lines.specs.NumberTokens.{number_of}
use Rattle.text_items.specs.declared.reading.TheConstants.{MAX_NUMBER}
use Rattle.text_items.specs.declared.fault.TextFault.{TextFault}
use Rattle.text_items.specs.declared.fault.TextFault.TheVariants.{Malformed, Limit, OutOfMemory}

-- what is read next, where nothing failed before
infixl 10 ◌>>=◌
abbrev pub ◌>>=◌ : {A B : Type 0} → Result A TextFault → (A → Result B TextFault) → Result B TextFault
(Ok x) >>= f = f x
(Err e) >>= f = Err e

-- a call ended with this fault, which is that of the definition; of want of memory nothing is said
abbrev pub Fails : {Y : Type 0} → TextFault → Result Y TextFault → Type 0
Fails OutOfMemory read = Unit {0}
Fails (Malformed n) read = read ≡ Err (Malformed n)
Fails (Limit n) read = read ≡ Err (Limit n)

-- what a call returned, seen by view, is what the definition answers
abbrev pub Gives : {X Y : Type 0} → (X → Y) → Result X TextFault → Result Y TextFault → Type 0
Gives view (Ok x) read = read ≡ Ok (view x)
Gives view (Err e) read = Fails e read

-- ---- lines

-- the first of the lines, and those behind it; a fault at the line behind the text where there are none
abbrev pub line_among : List NumberedLine → ℕ → Result (NumberedLine × Text) TextFault
line_among [] ending = Err (Malformed ending)
line_among (line ∷ lines) ending = Ok (line, record { lines = lines; ending = ending })

-- the line that is due
unfoldable pub next_line : Text → Result (NumberedLine × Text) TextFault
next_line text = line_among text.lines text.ending

-- there is no line, or a fault at the first
abbrev pub no_line_among : List NumberedLine → Result (Unit {0}) TextFault
no_line_among [] = Ok tt
no_line_among (line ∷ lines) = Err (Malformed line.number)

-- nothing stands behind
unfoldable pub text_end : Text → Result (Unit {0}) TextFault
text_end text = no_line_among text.lines

-- so many of these, one behind the other
unfoldable pub in_turn : {A : Type 0} → (Text → Result (A × Text) TextFault) → ℕ → Text → Result (List A × Text) TextFault
in_turn item zero text = Ok ([], text)
in_turn item (suc count) text = do
  first ← item text
  others ← in_turn item count first.1
  Ok (first.0 ∷ others.0, others.1)

-- ---- tokens of a line

-- the first of the tokens of line n, and what is left of the line; a fault where there are none
abbrev pub token_among : ℕ → List (List ℕ) → Result (List ℕ × NumberedLine) TextFault
token_among n [] = Err (Malformed n)
token_among n (token ∷ tokens) = Ok (token, record { number = n; tokens = tokens })

-- the token that is due
unfoldable pub next_token : NumberedLine → Result (List ℕ × NumberedLine) TextFault
next_token line = token_among line.number line.tokens

-- line n has no token left, or a fault
abbrev pub no_token_among : ℕ → List (List ℕ) → Result NumberedLine TextFault
no_token_among n [] = Ok (record { number = n; tokens = [] })
no_token_among n (token ∷ tokens) = Err (Malformed n)

-- no token is left
unfoldable pub line_end : NumberedLine → Result NumberedLine TextFault
line_end line = no_token_among line.number line.tokens

-- the token that is due, which must be this word
unfoldable pub word : List ℕ → NumberedLine → Result NumberedLine TextFault
word expected line = do
  token ← next_token line
  if bytes_eq token.0 expected then Ok token.1 else Err (Malformed line.number)

-- what is there, or a fault of line n where nothing is
abbrev pub or_malformed : {A : Type 0} → ℕ → Option A → Result A TextFault
or_malformed n None = Err (Malformed n)
or_malformed n (Some x) = Ok x

-- a number of any size
unfoldable pub number : NumberedLine → Result (ℕ × NumberedLine) TextFault
number line = do
  token ← next_token line
  value ← or_malformed line.number (number_of token.0)
  Ok (value, token.1)

-- a number, and no token behind it
unfoldable pub last_number : NumberedLine → Result (ℕ × NumberedLine) TextFault
last_number line = do
  value ← number line
  end ← line_end value.1
  Ok (value.0, end)

-- a number of line n that exceeds a limit where it is above the most
abbrev pub at_most : ℕ → ℕ → ℕ → Result ℕ TextFault
at_most most n value = if nat_le value most then Ok value else Err (Limit n)

-- a number of lines, which ends its line
unfoldable pub last_count : NumberedLine → Result ℕ TextFault
last_count line = do
  value ← last_number line
  at_most MAX_NUMBER value.1.number value.0

-- ---- all tokens of a line

-- the tokens of line n, each as it is read alone
unfoldable pub each_token : {A : Type 0} → (List ℕ → Option A) → ℕ → List (List ℕ) → Result (List A) TextFault
each_token read n [] = Ok []
each_token read n (token ∷ tokens) = do
  first ← or_malformed n (read token)
  others ← each_token read n tokens
  Ok (first ∷ others)
