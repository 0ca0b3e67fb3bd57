-- Worked texts of codes, by computing.
use Rattle.std.proofs.Common.{◌≡◌, refl, [], ◌∷◌, codes, Bool, true, false, Ok, Err}
use Rattle.code_rows.specs.declared.row.CodeRow.{CodeRow}
use Rattle.crossing_codes.specs.declared.crossing.Crossing.{Crossing}
use Rattle.text_items.specs.declared.fault.TextFault.TheVariants.{Malformed, Limit}
use Rattle.code_text.specs.declared.gauss_lines.GaussPassage.{GaussPassage}
use Rattle.code_text.specs.GaussCheck.{is_gauss_of}
use Rattle.text_items.specs.Reading.{each_token, word, last_number, number, line_end, next_token, next_line, text_end}
use Rattle.code_text.specs.RowLines.{with_rows, rows_from}
use Rattle.code_text.specs.GaussLines.{walk_at, walks_from}
use Rattle.code_text.specs.CodeReading.{counted_item, perhaps_counted, rows_item, code_in, code_text_of}

-- a kink, as it is pasted, and with all that may stand around it
abbrev kink : CodeRow
kink = record { first = 1; second = 1; third = 2; fourth = 2 }

pasted : code_text_of (codes "PD[X[1,1,2,2]]\n") ≡ Ok (record { rows = kink ∷ []; loops = 0; walks = [] })
unfolding code_in rows_item perhaps_counted counted_item rows_from with_rows walks_from walk_at each_token word
    last_number number line_end next_token next_line text_end
pasted = refl

abbrev through : Bool → GaussPassage
through over = record { over = over; crossing = 1; positive = true }

with_lines : code_text_of (codes "crossings 1\n(1 1 2 2)\nloops 3\ngauss O1+ U1+\n")
    ≡ Ok (record { rows = kink ∷ []; loops = 3; walks = (through true ∷ through false ∷ []) ∷ [] })
unfolding code_in rows_item perhaps_counted counted_item rows_from with_rows walks_from walk_at each_token word
    last_number number line_end next_token next_line text_end
with_lines = refl

too_few : code_text_of (codes "crossings 2\n1 1 2 2\nloops 0\n") ≡ Err (Malformed 3)
unfolding code_in rows_item perhaps_counted counted_item rows_from with_rows walks_from walk_at each_token word
    last_number number line_end next_token next_line text_end
too_few = refl

three_numbers : code_text_of (codes "1 1 2 2\n1 2 3\n") ≡ Err (Malformed 2)
unfolding code_in rows_item perhaps_counted counted_item rows_from with_rows walks_from walk_at each_token word
    last_number number line_end next_token next_line text_end
three_numbers = refl

ten_digits : code_text_of (codes "1 1 2 1000000000") ≡ Err (Limit 1)
unfolding code_in rows_item perhaps_counted counted_item rows_from with_rows walks_from walk_at each_token word
    last_number number line_end next_token next_line text_end
ten_digits = refl

lines_alone : code_text_of (codes "gauss O1+ U1+\n") ≡ Err (Malformed 1)
unfolding code_in rows_item perhaps_counted counted_item rows_from with_rows walks_from walk_at each_token word
    last_number number line_end next_token next_line text_end
lines_alone = refl

-- the lines of the kink, and such as have another sign, or a passage twice
abbrev crossing : Crossing
crossing = record { first = 1; second = 1; third = 2; fourth = 2; positive = true }

its_own : is_gauss_of (crossing ∷ []) ((through true ∷ through false ∷ []) ∷ []) ≡ true
its_own = refl

another_sign : is_gauss_of (record crossing { positive = false } ∷ []) ((through true ∷ through false ∷ []) ∷ []) ≡ false
another_sign = refl

one_way_twice : is_gauss_of (crossing ∷ []) ((through true ∷ through true ∷ []) ∷ []) ≡ false
one_way_twice = refl
