-- Signed Gauss lines: for each component that has a crossing its passages in order, each over or under, with the number and the sign
-- of its crossing.
use Rattle.std.specs.Prelude.{ℕ, ◌-◌, ◌==◌, Bool, true, false, List, [], ◌∷◌, ◌++◌, codes, take, drop, length}
use Rattle.std.specs.Prelude.{Option, Some, None, Result, Ok, Err, nat_lt, if◌then◌else◌}
use Rattle.std.specs.List.{list_any}
use Rattle.std.specs.Str.{bytes_eq}
use Rattle.text_lines.specs.Lines.{NumberedLine, Text, starts}
use Rattle.text_lines.specs.NumberTokens.{number_of}
use Rattle.text_items.specs.declared.fault.TextFault.{TextFault}
use Rattle.text_items.specs.declared.fault.TextFault.TheVariants.{Malformed, Limit}
use Rattle.text_items.specs.Reading.{◌>>=◌, word, each_token}
use Rattle.code_rows.specs.declared.code_fault.TheConstants.{MAX_CROSSINGS}
use Rattle.code_text.specs.declared.gauss_lines.GaussPassage.{GaussPassage}

-- O for over, U for under
abbrev pub over_of : ℕ → Option Bool
over_of b = if b == 79 then Some true else if b == 85 then Some false else None

-- + for a positive sign, - for a negative one
abbrev pub sign_of : List ℕ → Option Bool
sign_of bytes = if bytes_eq bytes (codes "+") then Some true else if bytes_eq bytes (codes "-") then Some false else None

-- the passage of three parts, if each is one
abbrev pub passage_by : Option Bool → Option ℕ → Option Bool → Option GaussPassage
passage_by (Some over) (Some crossing) (Some positive) = Some (record { over = over; crossing = crossing; positive = positive })
passage_by over crossing positive = None

-- the letter, the number and the sign, with nothing between them
abbrev pub passage_of : List ℕ → Option GaussPassage
passage_of [] = None
passage_of (kind ∷ rest) = passage_by (over_of kind) (number_of (take (length rest - 1) rest)) (sign_of (drop (length rest - 1) rest))

-- the number of a passage is above those of crossings
abbrev pub is_beyond : GaussPassage → Bool
is_beyond p = nat_lt MAX_CROSSINGS p.crossing

-- the passages of a line, of which there is at least one: form, then limits
abbrev pub some_passages : ℕ → List GaussPassage → Result (List GaussPassage) TextFault
some_passages n [] = Err (Malformed n)
some_passages n (p ∷ ps) = if list_any is_beyond (p ∷ ps) then Err (Limit n) else Ok (p ∷ ps)

-- `gauss`, and the passages of a component
unfoldable pub walk_at : NumberedLine → Result (List GaussPassage) TextFault
walk_at line = do
  rest ← word (codes "gauss") line
  passages ← each_token passage_of rest.number rest.tokens
  some_passages rest.number passages

-- the passages of all lines up to the first that doesn't begin with `gauss`, behind what was read before
abbrev pub walks_among : List (List GaussPassage) → List NumberedLine → ℕ → Result (List (List GaussPassage) × Text) TextFault
walks_among before [] ending = Ok (before, record { lines = []; ending = ending })
walks_among before (line ∷ lines) ending =
    if starts (codes "gauss") line.tokens then (walk_at line >>= λ walk. walks_among (before ++ walk ∷ []) lines ending)
    else Ok (before, record { lines = line ∷ lines; ending = ending })

-- the Gauss lines that are next in a text, behind what was read before
unfoldable pub walks_from : List (List GaussPassage) → Text → Result (List (List GaussPassage) × Text) TextFault
walks_from before text = walks_among before text.lines text.ending
