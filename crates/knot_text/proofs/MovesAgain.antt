-- Moves that were printed are read again.
use Rattle.std.proofs.Common.{◌≡◌, ℕ, ◌≤◌, ◌+◌, List, [], ◌∷◌, length, map, Ok, refl, arith, codes, Option, Some, true}
use Rattle.std.proofs.lemmas.Bool.{and_parts}
use Rattle.std.specs.List.{AllByRecursion}
use Rattle.std.specs.Fmt.{decimal}
use Rattle.grid_core.specs.declared.mark.Kind.{Kind}
use Rattle.grid_core.specs.declared.mark.Kind.TheVariants.{Cross, Ring}
use Rattle.grid_core.specs.declared.mark.Corner.{Corner}
use Rattle.grid_core.specs.declared.mark.Corner.TheVariants.{LowLeft, LowRight, HighLeft, HighRight}
use Rattle.grid_moves.specs.declared.step.Move.{Move}
use Rattle.grid_moves.specs.declared.step.Move.TheVariants.{ShiftColumns, ShiftRows, ExchangeColumns, ExchangeRows, SlideColumns, SlideRows}
use Rattle.grid_moves.specs.declared.step.Move.TheVariants.{Stabilise, Destabilise}
use Rattle.text_lines.specs.Lines.{Text}
use Rattle.text_lines.specs.Spelled.{numbered}
use Rattle.text_items.specs.declared.reading.TheConstants.{MAX_PLACE}
use Rattle.text_items.specs.Reading.{next_line, next_token, line_end}
use Rattle.grid_moves.specs.Tidy.{may_follow, are_tidy_behind}
use Rattle.verdict_text.specs.Moves.{last_place, shift, exchange, slide, kind_at, corner_at, stabilise, destabilise}
use Rattle.verdict_text.specs.Moves.{move_at, next_move, move_lines, tidy_move_at, tidy_move, tidy_moves, moves_item}
use Rattle.knot_text.specs.Printed.{kind_word, corner_word, move_tokens, moves_lines, HasMoveText, HaveMovesText}
use Rattle.knot_text.proofs.StepsAgain.{line_of, lines_before, word_again, number_again, last_again, most_again, count_again, turns_again}

pub place_again : (k n : ℕ) → k ≤ MAX_PLACE → last_place (line_of n (decimal k ∷ [])) ≡ Ok k
unfolding last_place
place_again k n few = rw (last_again k n (omega arith), most_again MAX_PLACE n k few) refl

kind_again : (kind : Kind) (n : ℕ) (tokens : List (List ℕ)) → kind_at (line_of n (kind_word kind ∷ tokens)) ≡ Ok (kind, line_of n tokens)
unfolding kind_at next_token
kind_again Cross n tokens = refl
kind_again Ring n tokens = refl

corner_again : (corner : Corner) (n : ℕ) (tokens : List (List ℕ)) → corner_at (line_of n (corner_word corner ∷ tokens)) ≡ Ok (corner, line_of n tokens)
unfolding corner_at next_token
corner_again LowLeft n tokens = refl
corner_again LowRight n tokens = refl
corner_again HighLeft n tokens = refl
corner_again HighRight n tokens = refl

stabilise_again : (c n : ℕ) (kind : Kind) (corner : Corner) → c ≤ MAX_PLACE
    → stabilise (line_of n (decimal c ∷ kind_word kind ∷ corner_word corner ∷ [])) ≡ Ok (Stabilise c kind corner)
unfolding stabilise line_end
stabilise_again c n kind corner few =
    rw (
      number_again c n (kind_word kind ∷ corner_word corner ∷ []) (omega arith),
      kind_again kind n
          (corner_word corner ∷ []),
      corner_again corner n [],
      most_again MAX_PLACE n c few,
    ) refl

destabilise_again : (c r n : ℕ) → c ≤ MAX_PLACE → r ≤ MAX_PLACE → destabilise (line_of n (decimal c ∷ decimal r ∷ [])) ≡ Ok (Destabilise c r)
unfolding destabilise
destabilise_again c r n few low =
    rw (number_again c n (decimal r ∷ []) (omega arith), last_again r n (omega arith), most_again MAX_PLACE n c few, most_again MAX_PLACE n r low) refl

move_again : (n : ℕ) (move : Move) → HasMoveText move → move_at (line_of n (move_tokens move)) ≡ Ok move
unfolding move_at shift exchange slide next_token
move_again n (ShiftColumns k) few = rw (place_again k n few) refl
move_again n (ShiftRows k) few = rw (place_again k n few) refl
move_again n (ExchangeColumns c) few = rw (place_again c n few) refl
move_again n (ExchangeRows r) few = rw (place_again r n few) refl
move_again n (SlideColumns c) few = rw (place_again c n few) refl
move_again n (SlideRows r) few = rw (place_again r n few) refl
move_again n (Stabilise c kind corner) few = stabilise_again c n kind corner few
move_again n (Destabilise c r) few = destabilise_again c r n few.0 few.1

next_again : (k : ℕ) (move : Move) (rest : Text) → HasMoveText move → next_move (lines_before (line_of (k + 1) (move_tokens move) ∷ []) rest) ≡ Ok (move, rest)
unfolding next_move next_line
next_again k move rest fits = rw (move_again (k + 1) move fits) refl

pub move_lines_again : (n : ℕ) (moves : List Move) (text : Text) → AllByRecursion HasMoveText moves
    → move_lines (length moves) (lines_before (numbered n (map move_tokens moves)) text) ≡ Ok (moves, text)
move_lines_again n moves text fits = turns_again next_move move_tokens HasMoveText n moves text next_again fits

tidy_again : (before : Option Move) (k : ℕ) (move : Move) (rest : Text) → HasMoveText move → may_follow before move ≡ true
    → tidy_move before (lines_before (line_of (k + 1) (move_tokens move) ∷ []) rest) ≡ Ok (move, rest)
unfolding tidy_move tidy_move_at next_line
tidy_again before k move rest fits may = rw (move_again (k + 1) move fits, may) refl

pub tidy_moves_again : (before : Option Move) (n : ℕ) (moves : List Move) (text : Text) → AllByRecursion HasMoveText moves
    → are_tidy_behind before moves ≡ true
    → tidy_moves before (length moves) (lines_before (numbered n (map move_tokens moves)) text) ≡ Ok (moves, text)
unfolding tidy_moves
tidy_moves_again before n [] text fits tidy = refl
tidy_moves_again before n (x ∷ xs) text fits tidy =
    let parts = and_parts (may_follow before x) (are_tidy_behind (Some x) xs) tidy in
    let one = tidy_again before n x (lines_before (numbered (n + 1) (map move_tokens xs)) text) fits.0 parts.0 in
    let others = tidy_moves_again (Some x) (n + 1) xs text fits.1 parts.1 in
    rw (one, others) refl

pub moves_again : (n : ℕ) (moves : List Move) (text : Text) → HaveMovesText moves
    → moves_item (lines_before (numbered n (moves_lines (codes "moves") moves)) text) ≡ Ok (moves, text)
unfolding moves_item next_line
moves_again n moves text fits =
    let w = word_again (codes "moves") (n + 1) (decimal (length moves) ∷ []) in
    rw (w, count_again (length moves) (n + 1) fits.count, move_lines_again (n + 1) moves text fits.each) refl
