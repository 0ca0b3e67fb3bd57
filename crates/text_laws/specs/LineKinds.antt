-- What a line has to be, by its kind, apart from reading: its form, its limits and its content. The first of them that fails decides.
use Rattle.std.specs.Prelude.{◌≡◌, ◌+◌, ◌*◌, ℕ, ◌==◌, ◌&&◌, ◌||◌, not, Bool, true, false, List, [], ◌∷◌, codes, length, map, Option, Some, None, Result, Ok}
use Rattle.std.specs.Prelude.{Err}
use Rattle.std.specs.Prelude.{is_none, nat_le, nat_lt, if◌then◌else◌}
use Rattle.std.specs.List.{list_all, list_any}
use Rattle.std.specs.Str.{bytes_eq}
use Rattle.std.specs.Str.Parse.{digits_value}
use Rattle.grid_core.specs.declared.grid.TheConstants.{MAX_SIZE}
use Rattle.grid_core.specs.Fault.{first_grid_fault}
use Rattle.quandle_core.specs.declared.quandle.TheConstants.{MAX_ORDER}
use Rattle.quandle_core.specs.Tables.{is_unit}
use Rattle.colour_rows.specs.Colouring.{are_colours}
use Rattle.braid_core.specs.declared.braid.TheConstants.{MAX_STRANDS}
use Rattle.text_lines.specs.declared.numbers.TheConstants.{MAX_DIGITS}
use Rattle.text_items.specs.declared.reading.TheConstants.{MAX_NUMBER, MAX_PLACE, MAX_LETTER}
use Rattle.text_lines.specs.Lines.{NumberedLine, starts}
use Rattle.text_lines.specs.NumberTokens.{is_number}
use Rattle.text_items.specs.declared.fault.TextFault.{TextFault}
use Rattle.text_items.specs.declared.fault.TextFault.TheVariants.{Malformed, Limit}
use Rattle.verdict_text.specs.declared.verdicts.TheConstants.{TIDY_VERSION}
use Rattle.text_items.specs.declared.modulus.TheConstants.{MAX_MODULUS}
use Rattle.text_items.specs.Grids.{are_rows}

-- of the tokens of a line: they have the form; they exceed a limit; they say what can be
pub record LineKind : Type 0 where
  pub form : List (List ℕ) → Bool
  pub over : List (List ℕ) → Bool
  pub content : List (List ℕ) → Bool

abbrev pub fault_by : Bool → Bool → Bool → ℕ → Option TextFault
fault_by form over content n =
    if form then (if over then Some (Limit n) else if content then None else Some (Malformed n)) else Some (Malformed n)

-- the fault of a line of this kind: malformed by its form, over a limit, or malformed by its content
abbrev pub kind_fault : LineKind → NumberedLine → Option TextFault
kind_fault kind line = fault_by (kind.form line.tokens) (kind.over line.tokens) (kind.content line.tokens) line.number

abbrev pub read_fault : {A : Type 0} → Result A TextFault → Option TextFault
read_fault (Ok x) = None
read_fault (Err fault) = Some fault

-- each line is refused by what its kind asks for, and else it is read
abbrev pub FailsByKind : {A : Type 0} → LineKind → (NumberedLine → Result A TextFault) → Type 0
FailsByKind kind read = (line : NumberedLine) → read_fault (read line) ≡ kind_fault kind line

-- ---- lines of numbers

-- more digits than a number may have
abbrev pub is_overlong : List ℕ → Bool
is_overlong token = nat_lt MAX_DIGITS (length token)

-- the number that a token writes
abbrev pub worth : List ℕ → ℕ
worth token = digits_value 10 token

-- a word and numbers
abbrev pub is_row : List ℕ → List (List ℕ) → Bool
is_row word [] = false
is_row word (token ∷ tokens) = bytes_eq token word && list_all is_number tokens

-- the numbers behind the word
abbrev pub row_values : List (List ℕ) → List ℕ
row_values [] = []
row_values (token ∷ tokens) = map worth tokens

-- too many numbers, or one of too many digits
abbrev pub is_row_over : List (List ℕ) → Bool
is_row_over [] = false
is_row_over (token ∷ tokens) = nat_lt MAX_SIZE (length tokens) || list_any is_overlong tokens

abbrev pub row_kind : List ℕ → (List ℕ → Bool) → LineKind
row_kind word content = record {
  form = λ tokens. is_row word tokens;
  over = λ tokens. is_row_over tokens;
  content = λ tokens. content (row_values tokens);
}

-- the rows of the Xs; those of the Os behind them; and the colours of a replay
abbrev pub x_kind : LineKind
x_kind = row_kind (codes "x") (λ rows. are_rows rows)

abbrev pub o_kind : List ℕ → LineKind
o_kind x = row_kind (codes "o") (λ rows. is_none (first_grid_fault x rows))

abbrev pub colours_kind : ℕ → ℕ → LineKind
colours_kind width order = row_kind (codes "colours") (λ colours. are_colours width order colours)

-- a line of a table or of a list: so many numbers below the order
abbrev pub below_kind : ℕ → ℕ → LineKind
below_kind width order = record {
  form = λ tokens. list_all is_number tokens;
  over = λ tokens. list_any is_overlong tokens;
  content = λ tokens. are_colours width order (map worth tokens);
}

-- ---- lines of words and numbers

-- what each token of a line has to be, in order
abbrev pub Form : Type 0
Form = List (List ℕ → Bool)

abbrev pub has_form : Form → List (List ℕ) → Bool
has_form [] [] = true
has_form (test ∷ tests) (token ∷ tokens) = test token && has_form tests tokens
has_form tests tokens = false

-- one of these words
abbrev pub one_of : List (List ℕ) → List ℕ → Bool
one_of words token = list_any (λ word. bytes_eq token word) words

-- a number that is larger than that
abbrev pub is_above : ℕ → List ℕ → Bool
is_above most token = is_number token && nat_lt most (worth token)

-- a line of one of these forms, no number of which may be larger than that; it has no content
abbrev pub worded_kind : List Form → ℕ → LineKind
worded_kind forms most = record {
  form = λ tokens. list_any (λ form. has_form form tokens) forms;
  over = λ tokens. list_any (λ token. is_above most token) tokens;
  content = λ tokens. true;
}

-- ---- move lines

abbrev pub is_move : List ℕ → Bool
is_move = one_of (codes "shift" ∷ codes "exchange" ∷ codes "slide" ∷ [])

abbrev pub is_axis : List ℕ → Bool
is_axis = one_of (codes "columns" ∷ codes "rows" ∷ [])

abbrev pub is_kind : List ℕ → Bool
is_kind = one_of (codes "x" ∷ codes "o" ∷ [])

abbrev pub is_corner : List ℕ → Bool
is_corner = one_of (codes "lowleft" ∷ codes "lowright" ∷ codes "highleft" ∷ codes "highright" ∷ [])

abbrev pub move_forms : List Form
move_forms =
    (is_move ∷ is_axis ∷ is_number ∷ []) ∷
    (one_of (codes "stabilise" ∷ []) ∷ is_number ∷ is_kind ∷ is_corner ∷ []) ∷
    (one_of (codes "destabilise" ∷ []) ∷ is_number ∷ is_number ∷ []) ∷ []

-- whether a move is legal is no part of the text
abbrev pub move_kind : LineKind
move_kind = worded_kind move_forms MAX_PLACE

-- ---- step lines

-- a number above the greatest place
abbrev pub is_over_place : List ℕ → Bool
is_over_place token = nat_lt MAX_PLACE (worth token)

-- a letter without its `-`
abbrev pub without_sign : List ℕ → List ℕ
without_sign [] = []
without_sign (b ∷ bs) = if b == 45 then bs else b ∷ bs

-- a number, or a `-` directly followed by a number
abbrev pub is_letter : List ℕ → Bool
is_letter token = is_number (without_sign token)

-- a letter whose absolute value is above the greatest
abbrev pub is_over_letter : List ℕ → Bool
is_over_letter token = nat_lt MAX_LETTER (worth (without_sign token))

-- a step that is told by one place
abbrev pub is_placed : List ℕ → Bool
is_placed name = bytes_eq name (codes "far") || bytes_eq name (codes "triple") || bytes_eq name (codes "cancel") || bytes_eq name (codes "turn")

-- `shrink` alone; a step and its place, or `grow` and a sign; `insert` with a place and a letter
abbrev pub is_step : List (List ℕ) → Bool
is_step (name ∷ []) = bytes_eq name (codes "shrink")
is_step (name ∷ token ∷ []) =
    (is_placed name && is_number token) || (bytes_eq name (codes "grow") && (bytes_eq token (codes "plus") || bytes_eq token (codes "minus")))
is_step (name ∷ place ∷ letter ∷ []) = bytes_eq name (codes "insert") && (is_number place && is_letter letter)
is_step tokens = false

-- a place or a letter that is too large
abbrev pub is_step_over : List (List ℕ) → Bool
is_step_over (name ∷ token ∷ []) = is_placed name && is_over_place token
is_step_over (name ∷ place ∷ letter ∷ []) = is_over_place place || is_over_letter letter
is_step_over tokens = false

-- whether a step is legal is no part of the text
abbrev pub step_kind : LineKind
step_kind = record {
  form = λ tokens. is_step tokens;
  over = λ tokens. is_step_over tokens;
  content = λ tokens. true;
}

-- ---- the line of a braid

-- the word, the number of strands, and letters
abbrev pub is_braid : List (List ℕ) → Bool
is_braid (word ∷ strands ∷ letters) = bytes_eq word (codes "braid") && (is_number strands && list_all is_letter letters)
is_braid tokens = false

-- too many strands, a letter of too many digits, or a closure that is larger than a grid
abbrev pub is_braid_over : List (List ℕ) → Bool
is_braid_over (word ∷ strands ∷ letters) =
    nat_lt MAX_STRANDS (worth strands)
    || (list_any (λ letter. is_overlong (without_sign letter)) letters || nat_lt MAX_SIZE (length letters + 2 * worth strands))
is_braid_over tokens = false

-- a letter from 1 to m - 1, or its negative
abbrev pub is_letter_of : ℕ → List ℕ → Bool
is_letter_of m letter = nat_le 1 (worth (without_sign letter)) && nat_lt (worth (without_sign letter)) m

-- one strand or more, and letters of its strands
abbrev pub says_braid : List (List ℕ) → Bool
says_braid (word ∷ strands ∷ letters) = nat_le 1 (worth strands) && list_all (is_letter_of (worth strands)) letters
says_braid tokens = false

abbrev pub braid_kind : LineKind
braid_kind = record {
  form = λ tokens. is_braid tokens;
  over = λ tokens. is_braid_over tokens;
  content = λ tokens. says_braid tokens;
}

-- ---- names of quandles

abbrev pub name_forms : List Form
name_forms =
    (one_of (codes "trivial" ∷ codes "dihedral" ∷ codes "table" ∷ []) ∷ is_number ∷ []) ∷
    (one_of (codes "tetrahedral" ∷ []) ∷ []) ∷
    (one_of (codes "alexander" ∷ []) ∷ is_number ∷ is_number ∷ []) ∷ []

abbrev pub is_name : List (List ℕ) → Bool
is_name tokens = list_any (λ form. has_form form tokens) name_forms

-- an order above the greatest, or a second number of too many digits
abbrev pub is_name_over : List (List ℕ) → Bool
is_name_over (family ∷ order ∷ []) = nat_lt MAX_ORDER (worth order)
is_name_over (family ∷ order ∷ factor ∷ []) = nat_lt MAX_ORDER (worth order) || is_overlong factor
is_name_over tokens = false

-- an order of at least 1, and a factor below it that has an inverse
abbrev pub says_quandle : List (List ℕ) → Bool
says_quandle (family ∷ order ∷ []) = nat_le 1 (worth order)
says_quandle (family ∷ order ∷ factor ∷ []) = nat_le 1 (worth order) && (nat_lt (worth factor) (worth order) && is_unit (worth order) (worth factor))
says_quandle tokens = true

abbrev pub name_kind : LineKind
name_kind = record {
  form = λ tokens. is_name tokens;
  over = λ tokens. is_name_over tokens;
  content = λ tokens. says_quandle tokens;
}

-- the tokens behind the first
abbrev pub others : List (List ℕ) → List (List ℕ)
others [] = []
others (token ∷ tokens) = tokens

-- ---- move lines of a tidy list

abbrev pub says_shift : List (List ℕ) → Bool
says_shift tokens = starts (codes "shift") tokens

-- a shift of columns, or one of rows
abbrev pub says_shift_of : List ℕ → List (List ℕ) → Bool
says_shift_of axis tokens = says_shift tokens && starts axis (others tokens)

-- behind the tokens of the move line before it, if there is one: no shift of columns behind a shift, and none of rows behind one of rows
abbrev pub tidy_kind : List (List ℕ) → LineKind
tidy_kind before = record {
  form = move_kind.form;
  over = move_kind.over;
  content = λ tokens. not ((says_shift_of (codes "columns") tokens && says_shift before)
      || (says_shift_of (codes "rows") tokens && says_shift_of (codes "rows") before));
}

-- this word, and what is of that kind
abbrev pub behind_word : List ℕ → LineKind → LineKind
behind_word word kind = record {
  form = λ tokens. starts word tokens && kind.form (others tokens);
  over = λ tokens. kind.over (others tokens);
  content = λ tokens. kind.content (others tokens);
}

-- one quandle more than a text may have: a line of the form exceeds a limit, whatever it says
abbrev pub surplus_kind : LineKind
surplus_kind = behind_word (codes "quandle") (record {
  form = λ tokens. is_name tokens;
  over = λ tokens. true;
  content = λ tokens. true;
})

-- ---- lines that begin an item

-- a word and a number, of which there is a most
abbrev pub counted_kind : List ℕ → ℕ → LineKind
counted_kind word most = worded_kind ((one_of (word ∷ []) ∷ is_number ∷ []) ∷ []) most

-- the number of the version whose lists are tidy
abbrev pub says_version : List (List ℕ) → Bool
says_version (word ∷ version ∷ tokens) = worth version == TIDY_VERSION
says_version tokens = false

abbrev pub certificate_kind : LineKind
certificate_kind = record {
  form = (counted_kind (codes "certificate") MAX_NUMBER).form;
  over = (counted_kind (codes "certificate") MAX_NUMBER).over;
  content = λ tokens. says_version tokens;
}

-- the modulus of a cocycle is at least 2
abbrev pub says_modulus : List (List ℕ) → Bool
says_modulus (word ∷ modulus ∷ []) = nat_le 2 (worth modulus)
says_modulus tokens = true

abbrev pub modulus_kind : LineKind
modulus_kind = record {
  form = (counted_kind (codes "weight") MAX_MODULUS).form;
  over = (counted_kind (codes "weight") MAX_MODULUS).over;
  content = λ tokens. says_modulus tokens;
}

-- `unknown budget` and a number, or `unknown exhausted` and two
abbrev pub unknown_forms : List Form
unknown_forms =
    (one_of (codes "unknown" ∷ []) ∷ one_of (codes "budget" ∷ []) ∷ is_number ∷ []) ∷
    (one_of (codes "unknown" ∷ []) ∷ one_of (codes "exhausted" ∷ []) ∷ is_number ∷ is_number ∷ []) ∷ []

abbrev pub unknown_kind : LineKind
unknown_kind = worded_kind unknown_forms MAX_NUMBER
