-- Lines of rows read one behind the other, as a loop does.
use Rattle.std.proofs.Common.{◌≡◌, ℕ, List, [], ◌∷◌, true, false, Ok, refl}
use Rattle.std.specs.Prelude.{filter}
use Rattle.text_lines.specs.Lines.{NumberedLine, Text}
use Rattle.text_items.specs.declared.fault.TextFault.{TextFault}
use Rattle.text_items.specs.declared.fault.TextFault.TheVariants as fault
use Rattle.text_items.specs.Reading.{Fails}
use Rattle.code_rows.specs.declared.row.CodeRow.{CodeRow}
use Rattle.code_text.specs.RowLines.{says_something, with_rows, are_behind, rows_among, rows_from}

-- of the tokens that say something, the first
pub said_first : (tokens rest : List (List ℕ)) (token : List ℕ) → tokens ≡ token ∷ rest → says_something token ≡ true
    → filter says_something tokens ≡ token ∷ filter says_something rest
said_first tokens rest token is says = rw (is, says) refl

-- and where the first token says nothing
pub unsaid_first : (tokens rest : List (List ℕ)) (token : List ℕ) → tokens ≡ token ∷ rest → says_something token ≡ false
    → filter says_something tokens ≡ filter says_something rest
unsaid_first tokens rest token is says = rw (is, says) refl

-- a text whose first line is this
abbrev pub line_then : NumberedLine → Text → Text
line_then line rest = record { lines = line ∷ rest.lines; ending = rest.ending }

-- one line more
pub rows_more : (most : ℕ) (before rows : List CodeRow) (line : NumberedLine) (rest : Text) → are_behind (line_then line rest) ≡ false
    → with_rows most before line ≡ Ok rows → rows_from most before (line_then line rest) ≡ rows_from most rows rest
unfolding rows_from
rows_more most before rows line rest behind read = rw (behind, read) refl

-- a bad line
pub rows_fail : (most : ℕ) (before : List CodeRow) (e : TextFault) (line : NumberedLine) (rest : Text) → are_behind (line_then line rest) ≡ false
    → Fails e (with_rows most before line) → Fails e (rows_from most before (line_then line rest))
unfolding rows_from
rows_fail most before fault.OutOfMemory line rest behind read = tt
rows_fail most before (fault.Malformed n) line rest behind read = rw (behind, read) refl
rows_fail most before (fault.Limit n) line rest behind read = rw (behind, read) refl

-- a line that stands behind the rows
pub rows_end : (most : ℕ) (before : List CodeRow) (lines : List NumberedLine) (ending : ℕ) → are_behind (record { lines = lines; ending = ending }) ≡ true
    → rows_among most before lines ending ≡ Ok (before, record { lines = lines; ending = ending })
rows_end most before [] ending behind = refl
rows_end most before (line ∷ lines) ending behind = rw behind refl

pub rows_behind : (most : ℕ) (before : List CodeRow) (text : Text) → are_behind text ≡ true → rows_from most before text ≡ Ok (before, text)
unfolding rows_from
rows_behind most before text behind = rows_end most before text.lines text.ending behind

-- no line is left
pub rows_done : (most : ℕ) (before : List CodeRow) (text : Text) → text.lines ≡ [] → rows_from most before text ≡ Ok (before, text)
unfolding rows_from
rows_done most before text none = by text.lines none
  where
    by : (lines : List NumberedLine) → lines ≡ [] → rows_among most before lines text.ending ≡ Ok (before, record { lines = lines; ending = text.ending })
    by [] is = refl
    by (line ∷ lines) is = absurd (let wrong = is in cc)
