-- Texts of two braids and steps that were read by hand.
use Rattle.std.proofs.Common.{◌≡◌, pos, negsuc, [], ◌∷◌, codes, true, false, refl, Ok, Err}
use Rattle.braid_moves.specs.declared.step.BraidMove.TheVariants.{Far, Triple, Cancel, Insert, Turn, Grow, Shrink}
use Rattle.text_items.specs.declared.fault.TextFault.TheVariants.{Malformed, Limit}
use Rattle.text_items.specs.Reading.{next_line, text_end, in_turn, next_token, line_end, word, number, last_number, last_count, each_token}
use Rattle.text_items.specs.Braids.{braid_at, braid_item}
use Rattle.verdict_text.specs.Moves.{last_place}
use Rattle.knot_text.specs.BraidSteps.{last_letter, insert, grow, shrink, step_at, braid_step_item, steps_item}
use Rattle.knot_text.specs.BraidChecks.{braidcheck_in, braidcheck_of}

trefoil_steps : braidcheck_of (codes "braid 3 2 1 2 1\n\nbraid 2 1 1 1\nsteps 3\ntriple 0\n\tturn  2\r\nshrink\n")
    ≡ Ok (record {
      first = record { strands = 3; letters = pos 2 ∷ pos 1 ∷ pos 2 ∷ pos 1 ∷ [] };
      second = record { strands = 2; letters = pos 1 ∷ pos 1 ∷ pos 1 ∷ [] };
      steps = Triple 0 ∷ Turn 2 ∷ Shrink ∷ [];
    })
unfolding braidcheck_in braid_item braid_at each_token word number next_token next_line steps_item last_count last_number line_end in_turn
    braid_step_item step_at last_place shrink text_end
trefoil_steps = refl

each_step : braidcheck_of (codes "braid 1\nbraid 1\nsteps 6\nfar 255\ncancel 0\ninsert 255 -127\ninsert 0 -0\ngrow plus\ngrow minus")
    ≡ Ok (record {
      first = record { strands = 1; letters = [] };
      second = record { strands = 1; letters = [] };
      steps = Far 255 ∷ Cancel 0 ∷ Insert 255 (negsuc 126) ∷ Insert 0 (pos 0) ∷ Grow true ∷ Grow false ∷ [];
    })
unfolding braidcheck_in braid_item braid_at each_token word number next_token next_line steps_item last_count last_number line_end in_turn
    braid_step_item step_at last_place insert last_letter grow text_end
each_step = refl

-- the limits of a place and of a letter, behind the form of the whole line
large_place : braidcheck_of (codes "braid 1\nbraid 1\nsteps 1\nturn 256\n") ≡ Err (Limit 4)
unfolding braidcheck_in braid_item braid_at each_token word number next_token next_line steps_item last_count last_number line_end in_turn
    braid_step_item step_at last_place
large_place = refl

large_letter : braidcheck_of (codes "braid 1\nbraid 1\nsteps 1\ninsert 0 -128\n") ≡ Err (Limit 4)
unfolding braidcheck_in braid_item braid_at each_token word number next_token next_line steps_item last_count last_number line_end in_turn
    braid_step_item step_at insert last_letter
large_letter = refl

form_before_limits : braidcheck_of (codes "braid 1\nbraid 1\nsteps 1\ninsert 256 -\n") ≡ Err (Malformed 4)
unfolding braidcheck_in braid_item braid_at each_token word number next_token next_line steps_item last_count last_number line_end in_turn
    braid_step_item step_at insert last_letter
form_before_limits = refl

step_wanting : braidcheck_of (codes "braid 1\nbraid 1\nsteps 2\ngrow plus\n") ≡ Err (Malformed 5)
unfolding braidcheck_in braid_item braid_at each_token word number next_token next_line steps_item last_count last_number line_end in_turn
    braid_step_item step_at grow
step_wanting = refl

step_too_many : braidcheck_of (codes "braid 1\nbraid 1\nsteps 0\nshrink\n") ≡ Err (Malformed 4)
unfolding braidcheck_in braid_item braid_at each_token word number next_token next_line steps_item last_count last_number line_end in_turn text_end
step_too_many = refl
