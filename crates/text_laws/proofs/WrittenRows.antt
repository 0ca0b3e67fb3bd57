-- Printed lines and texts that were compared by hand.
use Rattle.std.proofs.Common.{◌≡◌, pos, negsuc, [], ◌∷◌, codes, refl, Err, arith, true, false}
use Rattle.std.specs.Fmt.{decimal}
use Rattle.std.proofs.lemmas.Fmt.{decimal_digit}
use Rattle.grid_core.specs.declared.mark.Kind.TheVariants.{Cross, Ring}
use Rattle.grid_core.specs.declared.mark.Corner.TheVariants.{LowLeft, LowRight, HighLeft, HighRight}
use Rattle.grid_moves.specs.declared.step.Move.TheVariants.{ShiftColumns, ShiftRows, ExchangeColumns, ExchangeRows, SlideColumns, SlideRows}
use Rattle.grid_moves.specs.declared.step.Move.TheVariants.{Stabilise, Destabilise}
use Rattle.quandle_core.specs.Tables.{trivial, dihedral, tetrahedral, alexander}
use Rattle.braid_moves.specs.declared.step.BraidMove.TheVariants.{Far, Triple, Cancel, Insert, Turn, Grow, Shrink}
use Rattle.text_lines.specs.Spelled.{lines_text}
use Rattle.text_items.specs.declared.fault.TextFault.TheVariants.{Malformed}
use Rattle.quandle_core.specs.declared.names.QuandleName.TheVariants as name
use Rattle.verdict_core.specs.declared.verdict.Verdict.TheVariants.{Equal, Different, UnknownBudget, UnknownExhausted}
use Rattle.quandle_core.specs.Names.{called}
use Rattle.text_items.specs.Reading.{next_line, next_token, line_end, word, number, last_number, last_count, in_turn, each_token}
use Rattle.text_items.specs.Numbers.{numbers_behind}
use Rattle.text_items.specs.Grids.{x_at, o_at, grid_item}
use Rattle.verdict_text.specs.Moves.{kind_at, corner_at, stabilise, exchange, move_at, next_move, moves_item}
use Rattle.verdict_text.specs.Diagrams.{diagram_item}
use Rattle.knot_text.specs.Shapes.{replay_in, replay_of}
use Rattle.knot_text.specs.Printed.{grid_lines, braid_lines, moves_text, steps_text, quandle_text, colours_text, version_text}
use Rattle.verdict_text.specs.declared.verdicts.Version.TheVariants.{Plain, Tidy}
use Rattle.knot_text.specs.WrittenThere.{said_by, cocycle_lines}

zero_is : decimal 0 ≡ codes "0"
zero_is = decimal_digit 0 (omega arith)

one_is : decimal 1 ≡ codes "1"
one_is = decimal_digit 1 (omega arith)

two_is : decimal 2 ≡ codes "2"
two_is = decimal_digit 2 (omega arith)

three_is : decimal 3 ≡ codes "3"
three_is = decimal_digit 3 (omega arith)

five_is : decimal 5 ≡ codes "5"
five_is = decimal_digit 5 (omega arith)

six_is : decimal 6 ≡ codes "6"
six_is = decimal_digit 6 (omega arith)

-- blanks, a remark, a carriage return and a last line without its feed say nothing
layout : said_by (codes "# two columns\n x 0\t1 \r\n\no 1 0") ≡ grid_lines (record { x = 0 ∷ 1 ∷ []; o = 1 ∷ 0 ∷ [] })
layout = rw (zero_is, one_is) refl

braid : lines_text (braid_lines (record { strands = 3; letters = pos 1 ∷ negsuc 1 ∷ [] })) ≡ codes "braid 3 1 -2\n"
braid = rw (three_is, one_is, two_is) refl

lone_strand : lines_text (braid_lines (record { strands = 1; letters = [] })) ≡ codes "braid 1\n"
lone_strand = rw one_is refl

coloured : quandle_text (called (name.Trivial 2) (trivial 2)) ≡ codes "quandle trivial 2\n"
coloured = rw two_is refl

colours : colours_text (record { items = 0 ∷ 1 ∷ [] }) ≡ codes "colours 0 1\n"
colours = rw (zero_is, one_is) refl

-- each word of a move
moves_of_one_size : moves_text (ShiftColumns 1 ∷ ShiftRows 2 ∷ ExchangeColumns 0 ∷ ExchangeRows 3 ∷ SlideColumns 2 ∷ SlideRows 1 ∷ [])
    ≡ codes "moves 6\nshift columns 1\nshift rows 2\nexchange columns 0\nexchange rows 3\nslide columns 2\nslide rows 1\n"
moves_of_one_size = rw (six_is, zero_is, one_is, two_is, three_is) refl

moves_between_sizes : moves_text
    (Stabilise 0 Cross LowLeft ∷ Stabilise 1 Ring LowRight ∷ Stabilise 2 Cross HighLeft ∷ Stabilise 3 Ring HighRight ∷ Destabilise 2 3 ∷ [])
    ≡ codes "moves 5\nstabilise 0 x lowleft\nstabilise 1 o lowright\nstabilise 2 x highleft\nstabilise 3 o highright\ndestabilise 2 3\n"
moves_between_sizes = rw (five_is, zero_is, one_is, two_is, three_is) refl

-- each word of a quandle, of a cocycle and of a verdict
dihedral_named : quandle_text (called (name.Dihedral 3) (dihedral 3)) ≡ codes "quandle dihedral 3\n"
dihedral_named = rw three_is refl

tetrahedral_named : quandle_text (called name.Tetrahedral tetrahedral) ≡ codes "quandle tetrahedral\n"
tetrahedral_named = refl

alexander_named : quandle_text (called (name.Alexander 3 2) (alexander 3 2)) ≡ codes "quandle alexander 3 2\n"
alexander_named = rw (three_is, two_is) refl

tabled : quandle_text (called name.Table (record { order = 2; entries = 0 ∷ 0 ∷ 1 ∷ 1 ∷ [] })) ≡ codes "quandle table 2\n0 0\n1 1\n"
tabled = rw (two_is, zero_is, one_is) refl

weighed : lines_text (cocycle_lines (record { quandle = trivial 2; modulus = 3; entries = 0 ∷ 1 ∷ 2 ∷ 0 ∷ [] })) ≡ codes "weight 3\n0 1\n2 0\n"
weighed = rw (three_is, zero_is, one_is, two_is) refl

equal_said : version_text Tidy (Equal (ShiftRows 2 ∷ [])) ≡ codes "certificate 2\nequal 1\nshift rows 2\n"
equal_said = rw (one_is, two_is) refl

different_said : version_text Plain (Different (called (name.Dihedral 3) (dihedral 3)) (record { items = 0 ∷ 1 ∷ [] } ∷ []) [])
    ≡ codes "different dihedral 3\nlist 1\n0 1\nlist 0\n"
different_said = rw (three_is, zero_is, one_is) refl

budget_said : version_text Plain (UnknownBudget 3) ≡ codes "unknown budget 3\n"
budget_said = rw three_is refl

exhausted_said : version_text Plain (UnknownExhausted 5 2) ≡ codes "unknown exhausted 5 2\n"
exhausted_said = rw (five_is, two_is) refl

some_steps : steps_text (Far 2 ∷ Triple 0 ∷ Cancel 1 ∷ []) ≡ codes "steps 3\nfar 2\ntriple 0\ncancel 1\n"
some_steps = rw (three_is, two_is, zero_is, one_is) refl

further_steps : steps_text (Insert 2 (negsuc 0) ∷ Turn 2 ∷ Grow true ∷ []) ≡ codes "steps 3\ninsert 2 -1\nturn 2\ngrow plus\n"
further_steps = rw (three_is, two_is, one_is) refl

last_steps : steps_text (Grow false ∷ Shrink ∷ []) ≡ codes "steps 2\ngrow minus\nshrink\n"
last_steps = rw two_is refl

-- a word behind the move
one_word_more : replay_of (codes "x 0 1\no 1 0\nmoves 1\nstabilise 0 x lowleft please\n") ≡ Err (Malformed 4)
unfolding replay_in diagram_item grid_item x_at o_at numbers_behind each_token word next_token next_line moves_item last_count last_number number
    line_end in_turn next_move move_at stabilise kind_at corner_at
one_word_more = refl

-- a word that is no axis
no_axis : replay_of (codes "x 0 1\no 1 0\nmoves 1\nexchange diagonals 1\n") ≡ Err (Malformed 4)
unfolding replay_in diagram_item grid_item x_at o_at numbers_behind each_token word next_token next_line moves_item last_count last_number number
    line_end in_turn next_move move_at exchange
no_axis = refl
