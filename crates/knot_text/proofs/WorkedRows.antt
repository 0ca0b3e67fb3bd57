-- Texts that were read by hand.
use Rattle.std.proofs.Common.{◌≡◌, ℕ, zero, suc, ◌+◌, pos, negsuc, List, [], ◌∷◌, ◌++◌, codes, refl, Ok, Err, Some, None}
use Rattle.grid_core.specs.declared.grid.TheConstants.{MAX_SIZE}
use Rattle.grid_core.specs.declared.mark.Kind.TheVariants.{Cross}
use Rattle.grid_core.specs.declared.mark.Corner.TheVariants.{LowLeft}
use Rattle.grid_moves.specs.declared.step.Move.TheVariants.{Stabilise, Destabilise}
use Rattle.text_items.specs.declared.fault.TextFault.TheVariants.{Malformed, Limit}
use Rattle.verdict_core.specs.declared.diagrams.Diagram.TheVariants.{Grid, Braid}
use Rattle.verdict_core.specs.declared.verdict.Verdict.TheVariants.{UnknownExhausted}
use Rattle.quandle_core.specs.Tables.{trivial}
use Rattle.quandle_core.specs.declared.names.QuandleName.TheVariants as name
use Rattle.quandle_core.specs.Names.{called}
use Rattle.text_items.specs.Quandles.{built_in}
use Rattle.text_items.specs.Reading.{next_line, text_end, in_turn, next_token, line_end, word, number, last_number, last_count, each_token}
use Rattle.text_items.specs.Numbers.{numbers_below, numbers_behind}
use Rattle.text_items.specs.Grids.{x_at, o_at, grid_item}
use Rattle.text_items.specs.Braids.{braid_at, braid_item}
use Rattle.knot_text.specs.Colours.{colours_at, colours_item, coloured_item, coloured}
use Rattle.verdict_text.specs.Moves.{last_place, shift, kind_at, corner_at, stabilise, destabilise, move_at, next_move, moves_item}
use Rattle.verdict_text.specs.Moves.{tidy_move_at, tidy_move, tidy_moves}
use Rattle.text_items.specs.Quandles.{written_at, table_row, table_rows, table_item, quandle_at, quandle_item, quandles, quandle_list}
use Rattle.verdict_text.specs.Verdicts.{equal_at, exhausted_at, unknown_at, unknown_item, verdict_of}
use Rattle.verdict_text.specs.Verdicts.{version_at, tidy_item, plain_item, versioned_item, verdict_item}
use Rattle.verdict_text.specs.Diagrams.{diagram_item}
use Rattle.verdict_text.specs.Problems.{problem_item, problem_in, check_in, problem_of}
use Rattle.knot_text.specs.Shapes.{replay_in, close_in, lone_diagram_in}
use Rattle.verdict_text.specs.Problems.{check_of}
use Rattle.knot_text.specs.Shapes.{replay_of, close_of, lone_diagram_of}

-- ---- grids: no line, one number, a number twice, both marks in a cell

nothing : problem_of [] ≡ Err (Malformed 1)
unfolding problem_in problem_item diagram_item grid_item next_line
nothing = refl

one_column : problem_of (codes "x 0\no 0\n") ≡ Err (Malformed 1)
unfolding problem_in problem_item diagram_item grid_item x_at numbers_behind each_token word next_token next_line
one_column = refl

number_twice : problem_of (codes "x 0 1 1\no 1 0 2\n") ≡ Err (Malformed 1)
unfolding problem_in problem_item diagram_item grid_item x_at numbers_behind each_token word next_token next_line
number_twice = refl

one_cell : problem_of (codes "x 0 1 2\no 1 0 2\n") ≡ Err (Malformed 2)
unfolding problem_in problem_item diagram_item grid_item x_at o_at numbers_behind each_token word next_token next_line
one_cell = refl

-- a number with a leading 0 is malformed, and one of ten digits exceeds a limit, although it lies outside too
leading_zero : problem_of (codes "x 0 01\no 1 0\n") ≡ Err (Malformed 1)
unfolding problem_in problem_item diagram_item grid_item x_at numbers_behind each_token word next_token next_line
leading_zero = refl

ten_digits : problem_of (codes "x 0 1000000000\no 1 0\n") ≡ Err (Limit 1)
unfolding problem_in problem_item diagram_item grid_item x_at numbers_behind each_token word next_token next_line
ten_digits = refl

form_first : problem_of (codes "x 1000000000 a\n") ≡ Err (Malformed 1)
unfolding problem_in problem_item diagram_item grid_item x_at numbers_behind each_token word next_token next_line
form_first = refl

-- ---- braids: the form of the whole line before its limits, and the limits before its content

braid_read : close_of (codes "braid 3 1 -2\n") ≡ Ok (record { braid = record { strands = 3; letters = pos 1 ∷ negsuc 1 ∷ [] }; quandles = built_in })
unfolding close_in braid_item braid_at each_token word number next_token next_line quandle_list quandles text_end
braid_read = refl

lone_braid : lone_diagram_of (codes "braid 1") ≡ Ok (Braid (record { strands = 1; letters = [] }))
unfolding lone_diagram_in diagram_item braid_item braid_at each_token word number next_token next_line text_end
lone_braid = refl

lone_grid : lone_diagram_of (codes "x 0 1\no 1 0\n") ≡ Ok (Grid (record { x = 0 ∷ 1 ∷ []; o = 1 ∷ 0 ∷ [] }))
unfolding lone_diagram_in diagram_item grid_item x_at o_at numbers_behind each_token word next_token next_line text_end
lone_grid = refl

sign_alone : close_of (codes "braid 9 1 - 1\n") ≡ Err (Malformed 1)
unfolding close_in braid_item braid_at each_token word number next_token next_line
sign_alone = refl

nine_strands : close_of (codes "braid 9 -0\n") ≡ Err (Limit 1)
unfolding close_in braid_item braid_at each_token word number next_token next_line
nine_strands = refl

long_letter : close_of (codes "braid 2 2 -1000000000\n") ≡ Err (Limit 1)
unfolding close_in braid_item braid_at each_token word number next_token next_line
long_letter = refl

letter_zero : close_of (codes "braid 2 -0\n") ≡ Err (Malformed 1)
unfolding close_in braid_item braid_at each_token word number next_token next_line
letter_zero = refl

letter_of_the_strands : close_of (codes "braid 2 1 -2\n") ≡ Err (Malformed 1)
unfolding close_in braid_item braid_at each_token word number next_token next_line
letter_of_the_strands = refl

-- so many letters that each say 1
abbrev ones : ℕ → List ℕ
ones zero = []
ones (suc n) = codes " 1" ++ ones n

no_strands : close_of (codes "braid 0" ++ ones MAX_SIZE ++ codes "\n") ≡ Err (Malformed 1)
unfolding close_in braid_item braid_at each_token word number next_token next_line
no_strands = refl

no_strands_and_no_room : close_of (codes "braid 0" ++ ones (MAX_SIZE + 1) ++ codes "\n") ≡ Err (Limit 1)
unfolding close_in braid_item braid_at each_token word number next_token next_line
no_strands_and_no_room = refl

-- ---- colours behind their quandle, for as many columns as the closure of the braid has

coloured_read : replay_of (codes "braid 1 \nmoves 0\nquandle trivial 2\ncolours 0 1\n")
    ≡ Ok (record {
      diagram = Braid (record { strands = 1; letters = [] });
      moves = [];
      colours = Some (
        called (name.Trivial 2)
            (trivial 2),
        record { items = 0 ∷ 1 ∷ [] },
      );
    })
unfolding replay_in diagram_item braid_item braid_at each_token word number next_token next_line moves_item last_count last_number line_end
    in_turn coloured coloured_item quandle_item quandle_at written_at colours_item colours_at numbers_behind text_end
coloured_read = refl

colours_alone : replay_of (codes "x 0 1\no 1 0\nmoves 0\ncolours 0 1\n") ≡ Err (Malformed 4)
unfolding replay_in diagram_item grid_item x_at o_at each_token word number next_token next_line moves_item last_count last_number line_end
    in_turn coloured numbers_behind text_end
colours_alone = refl

one_colour_too_few : replay_of (codes "x 0 1\no 1 0\nmoves 0\nquandle trivial 2\ncolours 0\n") ≡ Err (Malformed 5)
unfolding replay_in diagram_item grid_item x_at o_at each_token word number next_token next_line moves_item last_count last_number line_end
    in_turn coloured coloured_item quandle_item quandle_at written_at colours_item colours_at numbers_behind
one_colour_too_few = refl

-- ---- moves, with a remark and blanks between them

replayed : replay_of (codes "x 0 1\no 1 0\nmoves 2\n# two\n stabilise 0 x\tlowleft\r\ndestabilise 0 0")
    ≡ Ok (record { diagram = Grid (record { x = 0 ∷ 1 ∷ []; o = 1 ∷ 0 ∷ [] }); moves = Stabilise 0 Cross LowLeft ∷ Destabilise 0 0 ∷ []; colours = None })
unfolding replay_in diagram_item grid_item x_at o_at numbers_behind each_token word next_token next_line moves_item last_count last_number
    number line_end in_turn next_move move_at stabilise kind_at corner_at destabilise coloured text_end
replayed = refl

large_place : replay_of (codes "x 0 1\no 1 0\nmoves 1\nshift rows 256\n") ≡ Err (Limit 4)
unfolding replay_in diagram_item grid_item x_at o_at numbers_behind each_token word next_token next_line moves_item last_count last_number
    number line_end in_turn next_move move_at shift last_place
large_place = refl

move_wanting : replay_of (codes "x 0 1\no 1 0\nmoves 1\n#\n") ≡ Err (Malformed 5)
unfolding replay_in diagram_item grid_item x_at o_at numbers_behind each_token word next_token next_line moves_item last_count last_number
    number line_end in_turn next_move
move_wanting = refl

-- ---- quandles: the third law, and a line that is too short with a number that is too long

third_law : problem_of (codes "x 0 1\no 1 0\nx 0 1\no 1 0\nquandle table 3\n0 2 0\n2 1 1\n1 0 2\n") ≡ Err (Malformed 8)
unfolding problem_in problem_item diagram_item grid_item x_at o_at numbers_behind each_token numbers_below word next_token next_line
    last_number number line_end quandle_list quandles quandle_item quandle_at written_at table_item table_rows table_row
third_law = refl

short_and_long : problem_of (codes "x 0 1\no 1 0\nx 0 1\no 1 0\nquandle table 3\n0 1000000000\n") ≡ Err (Limit 6)
unfolding problem_in problem_item diagram_item grid_item x_at o_at numbers_behind each_token numbers_below word next_token next_line
    last_number number line_end quandle_list quandles quandle_item quandle_at written_at table_item table_rows table_row
short_and_long = refl

-- ---- verdicts

exhausted : check_of (codes "x 0 1\no 1 0\nx 0 1\no 1 0\nunknown exhausted 5 2\n")
    ≡ Ok (
      record {
        first = Grid (record { x = 0 ∷ 1 ∷ []; o = 1 ∷ 0 ∷ [] });
        second = Grid
            (record { x = 0 ∷ 1 ∷ []; o = 1 ∷ 0 ∷ [] });
        quandles = built_in;
      },
      UnknownExhausted 5 2,
    )
unfolding check_in problem_item diagram_item grid_item x_at o_at numbers_behind each_token word next_token next_line last_number number
    line_end quandle_list quandles verdict_item versioned_item plain_item verdict_of unknown_item unknown_at exhausted_at text_end
exhausted = refl

-- of the second version the second shift of rows may not stand behind the first
untidy : check_of (codes "x 0 1\no 1 0\nx 1 0\no 0 1\ncertificate 2\nequal 3\nshift rows 1\nshift rows 1\nshift rows 1\n") ≡ Err (Malformed 8)
unfolding check_in problem_item diagram_item grid_item x_at o_at numbers_behind each_token word next_token next_line last_number last_count
    number line_end quandle_list quandles verdict_item versioned_item tidy_item version_at verdict_of equal_at tidy_moves tidy_move
    tidy_move_at move_at shift last_place
untidy = refl
