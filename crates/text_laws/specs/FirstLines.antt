-- What an item fails by: its first line, else what this line asks for behind it.
use Rattle.std.specs.Prelude.{◌≡◌, ◌-◌, ℕ, zero, suc, ◌&&◌, Bool, true, false, List, [], ◌∷◌, ◌++◌, codes, map, Option, Some, None, Result, Ok, Err}
use Rattle.std.specs.Prelude.{if◌then◌else◌}
use Rattle.std.specs.List.{list_any}
use Rattle.std.specs.Str.{bytes_eq}
use Rattle.text_lines.specs.Lines.{NumberedLine, Text, starts}
use Rattle.text_items.specs.declared.fault.TextFault.{TextFault}
use Rattle.text_items.specs.declared.fault.TextFault.TheVariants.{Malformed}
use Rattle.text_items.specs.Quandles.{table_item}
use Rattle.text_laws.specs.LineKinds.{LineKind, kind_fault, read_fault, worth, others, below_kind, tidy_kind}

-- the number behind the word
abbrev pub count : List (List ℕ) → ℕ
count (word ∷ token ∷ tokens) = worth token
count tokens = 0

abbrev pub or_later : Option TextFault → Option TextFault → Option TextFault
or_later None later = later
or_later (Some fault) later = Some fault

-- the line, and the text behind it
abbrev pub on_top : NumberedLine → Text → Text
on_top line text = record { lines = line ∷ text.lines; ending = text.ending }

-- an item that begins with a line of this kind has the fault of this line, else that of what its tokens ask for behind it
abbrev pub BeginsBy : {A : Type 0} → LineKind → (List (List ℕ) → Text → Option TextFault) → (Text → Result A TextFault) → Type 0
BeginsBy kind behind item =
    (line : NumberedLine) (text : Text) → read_fault (item (on_top line text)) ≡ or_later (kind_fault kind line) (behind line.tokens text)

-- an item that begins with a line with this word in front has its fault by this kind, else that of what its tokens ask for behind it
abbrev pub BeginsWith : {A : Type 0} → List ℕ → LineKind → (List (List ℕ) → Text → Option TextFault) → (Text → Result A TextFault) → Type 0
BeginsWith word kind behind item =
    (line : NumberedLine) (text : Text) → starts word line.tokens ≡ true
    → read_fault (item (on_top line text)) ≡ or_later (kind_fault kind line) (behind line.tokens text)

-- an item whose first line begins with this word has the fault of this line, where the line has one
abbrev pub FailsWith : {A : Type 0} → List ℕ → LineKind → (Text → Result A TextFault) → Type 0
FailsWith word kind item =
    (line : NumberedLine) (text : Text) (fault : TextFault) → starts word line.tokens ≡ true → kind_fault kind line ≡ Some fault
    → read_fault (item (on_top line text)) ≡ Some fault

-- an item that begins with another word, or none, has the fault of its line by this kind, else that of what its tokens ask for behind it
abbrev pub BeginsElse : {A : Type 0} → List ℕ → LineKind → (List (List ℕ) → Text → Option TextFault) → (Text → Result A TextFault) → Type 0
BeginsElse word kind behind item =
    (line : NumberedLine) (text : Text) → starts word line.tokens ≡ false
    → read_fault (item (on_top line text)) ≡ or_later (kind_fault kind line) (behind line.tokens text)

-- an item whose first line begins with none of these words is malformed there
abbrev pub FailsElse : {A : Type 0} → List (List ℕ) → (Text → Result A TextFault) → Type 0
FailsElse words item =
    (line : NumberedLine) (text : Text) → list_any (λ word. starts word line.tokens) words ≡ false
    → read_fault (item (on_top line text)) ≡ Some (Malformed line.number)

-- the lines of a table, behind the name that asks for them
abbrev pub table_fault : List (List ℕ) → Text → Option TextFault
table_fault (family ∷ order ∷ []) text = if bytes_eq family (codes "table") then read_fault (table_item (worth order) text) else None
table_fault tokens text = None

-- ---- lines of one kind

-- the fault of so many lines of this kind: that of the first that has one; of a line that is missing, that of the place where the text ends
abbrev pub fault_among : LineKind → ℕ → List NumberedLine → ℕ → Option TextFault
fault_among kind zero lines ending = None
fault_among kind (suc count) [] ending = Some (Malformed ending)
fault_among kind (suc count) (line ∷ lines) ending = or_later (kind_fault kind line) (fault_among kind count lines ending)

abbrev pub lines_fault : LineKind → ℕ → Text → Option TextFault
lines_fault kind count text = fault_among kind count text.lines text.ending

-- the fault of so many move lines of a tidy list, each by its kind behind the tokens of the one before it
abbrev pub tidy_among : List (List ℕ) → ℕ → List NumberedLine → ℕ → Option TextFault
tidy_among before zero lines ending = None
tidy_among before (suc count) [] ending = Some (Malformed ending)
tidy_among before (suc count) (line ∷ lines) ending = or_later (kind_fault (tidy_kind before) line) (tidy_among line.tokens count lines ending)

abbrev pub tidy_fault : ℕ → Text → Option TextFault
tidy_fault count text = tidy_among [] count text.lines text.ending

-- ---- tables

-- the last line of a table, behind these entries: the test of all entries is part of its content
abbrev pub last_kind : ℕ → ℕ → (List ℕ → Bool) → List ℕ → LineKind
last_kind width order test entries = record {
  form = (below_kind width order).form;
  over = (below_kind width order).over;
  content = λ tokens. (below_kind width order).content tokens && test (entries ++ map worth tokens);
}

-- the fault of so many lines, and one more, which is the last of the table
abbrev pub table_among : ℕ → ℕ → (List ℕ → Bool) → List ℕ → ℕ → List NumberedLine → ℕ → Option TextFault
table_among width order test entries zero lines ending = fault_among (last_kind width order test entries) 1 lines ending
table_among width order test entries (suc count) [] ending = Some (Malformed ending)
table_among width order test entries (suc count) (line ∷ lines) ending =
    or_later (kind_fault (below_kind width order) line) (table_among width order test (entries ++ map worth line.tokens) count lines ending)

-- the fault of a table of so many lines, of as many numbers below the order; there is one line at least
abbrev pub rows_fault : ℕ → ℕ → (List ℕ → Bool) → Text → Option TextFault
rows_fault width order test text = table_among width order test [] (width - 1) text.lines text.ending

-- ---- one item behind the other

-- the fault of an item, else that of what comes next
abbrev pub item_then : {A : Type 0} → Result (A × Text) TextFault → (A → Text → Option TextFault) → Option TextFault
item_then (Ok item) next = next item.0 item.1
item_then (Err fault) next = Some fault

-- the line of a quandle that is named behind another word
abbrev pub as_quandle : NumberedLine → NumberedLine
as_quandle line = record { number = line.number; tokens = codes "quandle" ∷ others line.tokens }

abbrev pub surplus_among : List NumberedLine → Option TextFault
surplus_among [] = None
surplus_among (line ∷ lines) = Some (Malformed line.number)

-- a line that stands where nothing may stand
abbrev pub end_fault : Text → Option TextFault
end_fault text = surplus_among text.lines
