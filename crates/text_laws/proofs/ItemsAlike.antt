-- Each item is read in the same way from texts of the same tokens.
use Rattle.std.proofs.Common.{ℕ, zero, suc, ◌-◌, ◌==◌, ◌&&◌, ◌||◌, List, [], ◌∷◌, ◌++◌, length, Option, Some, None, Result, Ok, refl, codes, nat_le, nat_lt}
use Rattle.std.specs.Prelude.{is_none}
use Rattle.std.specs.List.{list_all, list_any}
use Rattle.std.specs.Str.{bytes_eq}
use Rattle.colour_list.specs.declared.limits.TheConstants.{MAX_COLOURINGS}
use Rattle.colour_rows.specs.Colouring.{are_colours}
use Rattle.grid_core.specs.declared.grid.TheConstants.{MAX_SIZE}
use Rattle.grid_core.specs.Fault.{first_grid_fault}
use Rattle.braid_core.specs.Braid.{Word}
use Rattle.braid_core.specs.Fault.{first_word_fault as word_fault}
use Rattle.grid_moves.specs.declared.step.Move.{Move}
use Rattle.grid_moves.specs.declared.step.Move.TheVariants.{ShiftColumns, ShiftRows, ExchangeColumns, ExchangeRows, SlideColumns, SlideRows}
use Rattle.quandle_core.specs.declared.quandle.TheConstants.{MAX_ORDER}
use Rattle.quandle_core.specs.Fault.{first_fault_within}
use Rattle.text_lines.specs.Lines.{Text}
use Rattle.text_lines.specs.NumberTokens.{number_of}
use Rattle.text_items.specs.declared.fault.TextFault.{TextFault}
use Rattle.text_items.specs.declared.reading.TheConstants.{MAX_NUMBER, MAX_PLACE}
use Rattle.text_items.specs.declared.quandles.TheConstants.{MAX_QUANDLES}
use Rattle.text_items.specs.declared.quandles.Written.{Written}
use Rattle.text_items.specs.declared.quandles.Written.TheVariants as written
use Rattle.text_items.specs.Reading.{◌>>=◌, next_token, line_end, word, or_malformed, number, last_number, last_count, at_most, each_token, in_turn}
use Rattle.text_items.specs.NumberLists.{is_long}
use Rattle.text_items.specs.Numbers.{numbers_behind, numbers_below}
use Rattle.text_items.specs.Grids.{are_rows, x_at, o_at, grid_item}
use Rattle.text_items.specs.Braids.{letter_of, exceeds, braid_of, braid_at, braid_item}
use Rattle.verdict_text.specs.Moves.{last_place, one_place, shift, exchange, slide, kind_at, corner_at, stabilise, destabilise, move_at, next_move, moves_item}
use Rattle.verdict_text.specs.Moves.{on_axis}
use Rattle.verdict_text.specs.Moves.{tidy_move_at, tidy_move, tidy_moves}
use Rattle.text_items.specs.Quandles.{with_order, alexander_at, tetrahedral_at, written_at, is_over, meant, table_row, table_rows}
use Rattle.text_items.specs.Quandles.{table_item, quandle_of, quandle_at, quandle_item, surplus_quandle, quandles, quandle_list}
use Rattle.knot_text.specs.Colours.{colours_at, colours_item, coloured_item, coloured}
use Rattle.verdict_text.specs.Verdicts.{moves_of, equal_at, colour_line, list_item, different_at, budget_at, exhausted_at, unknown_at, unknown_item}
use Rattle.verdict_text.specs.Verdicts.{verdict_of, version_at, tidy_item, plain_item, versioned_item}
use Rattle.verdict_text.specs.declared.verdicts.TheConstants.{TIDY_VERSION}
use Rattle.verdict_text.specs.declared.verdicts.Version.{Version}
use Rattle.verdict_text.specs.declared.verdicts.Version.TheVariants.{Plain, Tidy}
use Rattle.grid_moves.specs.declared.step.Move.{Move}
use Rattle.grid_moves.specs.Tidy.{may_follow}
use Rattle.knot_text.proofs.StepsAgain.{line_of}
use Rattle.text_laws.proofs.Alike.{Alike, alike_ok, alike_err, alike_if, Same, SameLine, SameRest, SameText, SameLeft, same_bind, line_bind}
use Rattle.text_laws.proofs.Alike.{rest_bind, text_bind, next_bind, begins_alike}

-- ---- steps in a line

pub token_alike : (ts : List (List ℕ)) (n m : ℕ) → Alike SameRest (next_token (line_of n ts)) (next_token (line_of m ts))
unfolding next_token
token_alike [] n m = alike_err
token_alike (t ∷ ts) n m = alike_ok (refl, refl)

pub end_alike : (ts : List (List ℕ)) (n m : ℕ) → Alike SameLine (line_end (line_of n ts)) (line_end (line_of m ts))
unfolding line_end
end_alike [] n m = alike_ok refl
end_alike (t ∷ ts) n m = alike_err

pub word_alike : (w : List ℕ) (ts : List (List ℕ)) (n m : ℕ) → Alike SameLine (word w (line_of n ts)) (word w (line_of m ts))
unfolding word
word_alike w ts n m = rest_bind _ _ (token_alike ts n m) (λ t us i j. alike_if (bytes_eq t w) (alike_ok refl) alike_err)

pub some_alike : {A : Type 0} (o : Option A) (n m : ℕ) → Alike Same (or_malformed n o) (or_malformed m o)
some_alike None n m = alike_err
some_alike (Some x) n m = alike_ok refl

pub number_alike : (ts : List (List ℕ)) (n m : ℕ) → Alike SameRest (number (line_of n ts)) (number (line_of m ts))
unfolding number
number_alike ts n m = rest_bind _ _ (token_alike ts n m) (λ t us i j. same_bind (some_alike (number_of t) n m) (λ v. alike_ok (refl, refl)))

pub last_alike : (ts : List (List ℕ)) (n m : ℕ) → Alike SameRest (last_number (line_of n ts)) (last_number (line_of m ts))
unfolding last_number
last_alike ts n m = rest_bind _ _ (number_alike ts n m) (λ v us i j. line_bind _ _ (end_alike us i j) (λ vs k l. alike_ok (refl, refl)))

pub most_alike : (most value n m : ℕ) → Alike Same (at_most most n value) (at_most most m value)
most_alike most value n m = alike_if (nat_le value most) (alike_ok refl) alike_err

pub count_alike : (ts : List (List ℕ)) (n m : ℕ) → Alike Same (last_count (line_of n ts)) (last_count (line_of m ts))
unfolding last_count
count_alike ts n m = rest_bind _ _ (last_alike ts n m) (λ v us i j. most_alike MAX_NUMBER v i j)

each_alike : {A : Type 0} (read : List ℕ → Option A) (ts : List (List ℕ)) (n m : ℕ) → Alike Same (each_token read n ts) (each_token read m ts)
unfolding each_token
each_alike read [] n m = alike_ok refl
each_alike read (t ∷ ts) n m = same_bind (some_alike (read t) n m) (λ v. same_bind (each_alike read ts n m) (λ vs. alike_ok refl))

behind_alike : (w : List ℕ) (ts : List (List ℕ)) (n m : ℕ) → Alike Same (numbers_behind w (line_of n ts)) (numbers_behind w (line_of m ts))
unfolding numbers_behind
behind_alike w ts n m = line_bind _ _ (word_alike w ts n m) (λ us i j. same_bind (each_alike number_of us i j)
    (λ vs. alike_if (nat_lt MAX_SIZE (length vs) || list_any is_long vs) alike_err (alike_ok refl)))

pub below_alike : (width order : ℕ) (ts : List (List ℕ)) (n m : ℕ)
    → Alike Same (numbers_below width order (line_of n ts)) (numbers_below width order (line_of m ts))
unfolding numbers_below
below_alike width order ts n m = same_bind (each_alike number_of ts n m)
    (λ vs. alike_if (list_any is_long vs) alike_err (alike_if ((length vs == width) && list_all (λ v. nat_lt v order) vs) (alike_ok refl) alike_err))

-- ---- grids, braids and colours

x_alike : (ts : List (List ℕ)) (n m : ℕ) → Alike Same (x_at (line_of n ts)) (x_at (line_of m ts))
unfolding x_at
x_alike ts n m = same_bind (behind_alike (codes "x") ts n m) (λ rows. alike_if (are_rows rows) (alike_ok refl) alike_err)

o_alike : (x : List ℕ) (ts : List (List ℕ)) (n m : ℕ) → Alike Same (o_at x (line_of n ts)) (o_at x (line_of m ts))
unfolding o_at
o_alike x ts n m = same_bind (behind_alike (codes "o") ts n m) (λ rows. alike_if (is_none (first_grid_fault x rows)) (alike_ok refl) alike_err)

pub grid_alike : (t u : Text) → SameText t u → Alike SameLeft (grid_item t) (grid_item u)
unfolding grid_item
grid_alike t u same = next_bind _ _ _ _ same (λ ts n m v w behind. same_bind (x_alike ts n m)
    (λ x. next_bind _ _ _ _ behind (λ us i j p q left. same_bind (o_alike x us i j) (λ d. alike_ok (refl, left)))))

braid_of_alike : (b : Word) (n m : ℕ) → Alike Same (braid_of n b) (braid_of m b)
braid_of_alike b n m = alike_if (exceeds b) alike_err (alike_if (is_none (word_fault b)) (alike_ok refl) alike_err)

braid_at_alike : (ts : List (List ℕ)) (n m : ℕ) → Alike Same (braid_at (line_of n ts)) (braid_at (line_of m ts))
unfolding braid_at
braid_at_alike ts n m = line_bind _ _ (word_alike (codes "braid") ts n m)
    (λ us i j. rest_bind _ _ (number_alike us i j) (λ s vs k l. same_bind (each_alike letter_of vs k l)
    (λ ls. braid_of_alike (record { strands = s; letters = ls }) n m)))

pub braid_alike : (t u : Text) → SameText t u → Alike SameLeft (braid_item t) (braid_item u)
unfolding braid_item
braid_alike t u same = next_bind _ _ _ _ same (λ ts n m v w behind. same_bind (braid_at_alike ts n m) (λ b. alike_ok (refl, behind)))

colours_at_alike : (width order : ℕ) (ts : List (List ℕ)) (n m : ℕ) → Alike Same (colours_at width order (line_of n ts)) (colours_at width order (line_of m ts))
unfolding colours_at
colours_at_alike width order ts n m = same_bind (behind_alike (codes "colours") ts n m) (λ cs. alike_if (are_colours width order cs) (alike_ok refl) alike_err)

pub colours_alike : (width order : ℕ) (t u : Text) → SameText t u → Alike SameLeft (colours_item width order t) (colours_item width order u)
unfolding colours_item
colours_alike width order t u same =
    next_bind _ _ _ _ same (λ ts n m v w behind. same_bind (colours_at_alike width order ts n m) (λ c. alike_ok (refl, behind)))

-- ---- moves

place_alike : (ts : List (List ℕ)) (n m : ℕ) → Alike Same (last_place (line_of n ts)) (last_place (line_of m ts))
unfolding last_place
place_alike ts n m = rest_bind _ _ (last_alike ts n m) (λ v us i j. most_alike MAX_PLACE v i j)

pub one_alike : {A : Type 0} (make : ℕ → A) (ts : List (List ℕ)) (n m : ℕ) → Alike Same (one_place make (line_of n ts)) (one_place make (line_of m ts))
one_alike make ts n m = same_bind (place_alike ts n m) (λ k. alike_ok refl)

axis_alike : (columns rows : ℕ → Move) (ts : List (List ℕ)) (n m : ℕ)
    → Alike Same (on_axis columns rows (line_of n ts)) (on_axis columns rows (line_of m ts))
axis_alike columns rows ts n m = rest_bind _ _ (token_alike ts n m) (λ t us i j.
    alike_if (bytes_eq t (codes "columns")) (one_alike columns us i j) (alike_if (bytes_eq t (codes "rows")) (one_alike rows us i j) alike_err))

shift_alike : (ts : List (List ℕ)) (n m : ℕ) → Alike Same (shift (line_of n ts)) (shift (line_of m ts))
unfolding shift
shift_alike ts n m = axis_alike (λ k. ShiftColumns k) (λ k. ShiftRows k) ts n m

exchange_alike : (ts : List (List ℕ)) (n m : ℕ) → Alike Same (exchange (line_of n ts)) (exchange (line_of m ts))
unfolding exchange
exchange_alike ts n m = axis_alike (λ c. ExchangeColumns c) (λ r. ExchangeRows r) ts n m

slide_alike : (ts : List (List ℕ)) (n m : ℕ) → Alike Same (slide (line_of n ts)) (slide (line_of m ts))
unfolding slide
slide_alike ts n m = axis_alike (λ c. SlideColumns c) (λ r. SlideRows r) ts n m

kind_alike : (ts : List (List ℕ)) (n m : ℕ) → Alike SameRest (kind_at (line_of n ts)) (kind_at (line_of m ts))
unfolding kind_at
kind_alike ts n m = rest_bind _ _ (token_alike ts n m) (λ t us i j. alike_if (bytes_eq t (codes "x")) (alike_ok (refl, refl))
    (alike_if (bytes_eq t (codes "o")) (alike_ok (refl, refl)) alike_err))

corner_alike : (ts : List (List ℕ)) (n m : ℕ) → Alike SameRest (corner_at (line_of n ts)) (corner_at (line_of m ts))
unfolding corner_at
corner_alike ts n m = rest_bind _ _ (token_alike ts n m) (λ t us i j.
    alike_if (bytes_eq t (codes "lowleft")) (alike_ok (refl, refl)) (alike_if (bytes_eq t (codes "lowright")) (alike_ok (refl, refl))
    (alike_if (bytes_eq t (codes "highleft")) (alike_ok (refl, refl)) (alike_if (bytes_eq t (codes "highright")) (alike_ok (refl, refl)) alike_err))))

stabilise_alike : (ts : List (List ℕ)) (n m : ℕ) → Alike Same (stabilise (line_of n ts)) (stabilise (line_of m ts))
unfolding stabilise
stabilise_alike ts n m =
    rest_bind _ _ (number_alike ts n m) (λ c us i j. rest_bind _ _ (kind_alike us i j) (λ kind vs k l. rest_bind _ _ (corner_alike vs k l) (λ corner ws a b.
    line_bind _ _ (end_alike ws a b) (λ xs p q. same_bind (most_alike MAX_PLACE c p q) (λ place. alike_ok refl)))))

destabilise_alike : (ts : List (List ℕ)) (n m : ℕ) → Alike Same (destabilise (line_of n ts)) (destabilise (line_of m ts))
unfolding destabilise
destabilise_alike ts n m = rest_bind _ _ (number_alike ts n m)
    (λ c us i j. rest_bind _ _ (last_alike us i j) (λ r vs k l. same_bind (most_alike MAX_PLACE c k l)
    (λ left. same_bind (most_alike MAX_PLACE r k l) (λ low. alike_ok refl))))

move_alike : (ts : List (List ℕ)) (n m : ℕ) → Alike Same (move_at (line_of n ts)) (move_at (line_of m ts))
unfolding move_at
move_alike ts n m = rest_bind _ _ (token_alike ts n m) (λ t us i j.
    alike_if (bytes_eq t (codes "shift")) (shift_alike us i j) (alike_if (bytes_eq t (codes "exchange")) (exchange_alike us i j)
    (alike_if (bytes_eq t (codes "slide")) (slide_alike us i j)
    (alike_if (bytes_eq t (codes "stabilise")) (stabilise_alike us i j) (alike_if (bytes_eq t (codes "destabilise")) (destabilise_alike us i j) alike_err)))))

next_move_alike : (t u : Text) → SameText t u → Alike SameLeft (next_move t) (next_move u)
unfolding next_move
next_move_alike t u same = next_bind _ _ _ _ same (λ ts n m v w behind. same_bind (move_alike ts n m) (λ move. alike_ok (refl, behind)))

pub turns_alike : {A : Type 0} (item : Text → Result (A × Text) TextFault) → ((t u : Text) → SameText t u → Alike SameLeft (item t) (item u))
    → (count : ℕ) (t u : Text) → SameText t u → Alike SameLeft (in_turn item count t) (in_turn item count u)
unfolding in_turn
turns_alike item each zero t u same = alike_ok (refl, same)
turns_alike item each (suc count) t u same =
    text_bind _ _ (each t u same) (λ first v w behind. text_bind _ _ (turns_alike item each count v w behind) (λ others p q left. alike_ok (refl, left)))

tidy_at_alike : (before : Option Move) (ts : List (List ℕ)) (n m : ℕ) → Alike Same (tidy_move_at before (line_of n ts)) (tidy_move_at before (line_of m ts))
unfolding tidy_move_at
tidy_at_alike before ts n m = same_bind (move_alike ts n m) (λ move. alike_if (may_follow before move) (alike_ok refl) alike_err)

tidy_moves_alike : (before : Option Move) (count : ℕ) (t u : Text) → SameText t u → Alike SameLeft (tidy_moves before count t) (tidy_moves before count u)
unfolding tidy_moves tidy_move
tidy_moves_alike before zero t u same = alike_ok (refl, same)
tidy_moves_alike before (suc count) t u same =
    text_bind _ _ (next_bind _ _ _ _ same (λ ts n m v w behind. same_bind (tidy_at_alike before ts n m) (λ move. alike_ok (refl, behind))))
    (λ first v w behind. text_bind _ _ (tidy_moves_alike (Some first) count v w behind) (λ others p q left. alike_ok (refl, left)))

pub moves_alike : (t u : Text) → SameText t u → Alike SameLeft (moves_item t) (moves_item u)
unfolding moves_item
moves_alike t u same = next_bind _ _ _ _ same (λ ts n m v w behind. line_bind _ _ (word_alike (codes "moves") ts n m)
    (λ us i j. same_bind (count_alike us i j) (λ count. turns_alike next_move next_move_alike count v w behind)))

-- ---- quandles

order_alike : (make : ℕ → Written) (ts : List (List ℕ)) (n m : ℕ) → Alike SameRest (with_order make (line_of n ts)) (with_order make (line_of m ts))
order_alike make ts n m = rest_bind _ _ (last_alike ts n m) (λ k us i j. alike_ok (refl, refl))

alexander_alike : (ts : List (List ℕ)) (n m : ℕ) → Alike SameRest (alexander_at (line_of n ts)) (alexander_at (line_of m ts))
unfolding alexander_at
alexander_alike ts n m = rest_bind _ _ (number_alike ts n m) (λ k us i j. rest_bind _ _ (last_alike us i j) (λ a vs p q. alike_ok (refl, refl)))

tetrahedral_alike : (ts : List (List ℕ)) (n m : ℕ) → Alike SameRest (tetrahedral_at (line_of n ts)) (tetrahedral_at (line_of m ts))
unfolding tetrahedral_at
tetrahedral_alike ts n m = line_bind _ _ (end_alike ts n m) (λ us i j. alike_ok (refl, refl))

written_alike : (ts : List (List ℕ)) (n m : ℕ) → Alike SameRest (written_at (line_of n ts)) (written_at (line_of m ts))
unfolding written_at
written_alike ts n m = rest_bind _ _ (token_alike ts n m) (λ t us i j.
    alike_if (bytes_eq t (codes "trivial")) (order_alike (λ k. written.Trivial k) us i j)
    (alike_if (bytes_eq t (codes "dihedral")) (order_alike (λ k. written.Dihedral k) us i j)
    (alike_if (bytes_eq t (codes "tetrahedral")) (tetrahedral_alike us i j) (alike_if (bytes_eq t (codes "alexander")) (alexander_alike us i j)
    (alike_if (bytes_eq t (codes "table")) (order_alike (λ k. written.Table k) us i j) alike_err)))))

row_alike : (order bound : ℕ) (t u : Text) → SameText t u → Alike SameLeft (table_row order bound t) (table_row order bound u)
unfolding table_row
row_alike order bound t u same = next_bind _ _ _ _ same (λ ts n m v w behind. same_bind (below_alike order bound ts n m) (λ row. alike_ok (refl, behind)))

pub rows_alike : (order bound count : ℕ) (t u : Text) → SameText t u
    → Alike SameLeft (table_rows order bound count t) (table_rows order bound count u)
unfolding table_rows
rows_alike order bound zero t u same = alike_ok (refl, same)
rows_alike order bound (suc count) t u same = text_bind _ _ (row_alike order bound t u same) (λ row v w behind.
    text_bind _ _ (rows_alike order bound count v w behind) (λ rows p q left. alike_ok (refl, left)))

table_alike : (order : ℕ) (t u : Text) → SameText t u → Alike SameLeft (table_item order t) (table_item order u)
unfolding table_item
table_alike order t u same = text_bind _ _ (rows_alike order order (order - 1) t u same)
    (λ front v w behind. next_bind _ _ _ _ behind (λ ts n m p q left. same_bind (below_alike order order ts n m) (λ row.
    alike_if (is_none (first_fault_within order (record { order = order; entries = front ++ row }))) (alike_ok (refl, left)) alike_err)))

untabled_alike : (w : Written) (n m : ℕ) (t u : Text) → SameText t u
    → Alike SameLeft (or_malformed n (meant w) >>= λ q. Ok (q, t)) (or_malformed m (meant w) >>= λ q. Ok (q, u))
untabled_alike w n m t u same = same_bind (some_alike (meant w) n m) (λ q. alike_ok (refl, same))

of_alike : (w : Written) (n m : ℕ) (t u : Text) → SameText t u → Alike SameLeft (quandle_of n w t) (quandle_of m w u)
of_alike (written.Trivial k) n m t u same = untabled_alike (written.Trivial k) n m t u same
of_alike (written.Dihedral k) n m t u same = untabled_alike (written.Dihedral k) n m t u same
of_alike written.Tetrahedral n m t u same = untabled_alike written.Tetrahedral n m t u same
of_alike (written.Alexander k a) n m t u same = untabled_alike (written.Alexander k a) n m t u same
of_alike (written.Table order) n m t u same = alike_if (nat_le 1 order) (table_alike order t u same) alike_err

quandle_at_alike : (most : ℕ) (ts : List (List ℕ)) (n m : ℕ) (t u : Text) → SameText t u
    → Alike SameLeft (quandle_at most (line_of n ts) t) (quandle_at most (line_of m ts) u)
unfolding quandle_at
quandle_at_alike most ts n m t u same = rest_bind _ _ (written_alike ts n m) (λ w us i j. alike_if (is_over most w) alike_err (of_alike w i j t u same))

pub quandle_alike : (t u : Text) → SameText t u → Alike SameLeft (quandle_item t) (quandle_item u)
unfolding quandle_item
quandle_alike t u same =
    next_bind _ _ _ _ same (λ ts n m v w behind. line_bind _ _ (word_alike (codes "quandle") ts n m) (λ us i j. quandle_at_alike MAX_ORDER us i j v w behind))

surplus_alike : (t u : Text) → SameText t u → Alike SameLeft (surplus_quandle t) (surplus_quandle u)
unfolding surplus_quandle
surplus_alike t u same = next_bind _ _ _ _ same (λ ts n m v w behind. line_bind _ _ (word_alike (codes "quandle") ts n m)
    (λ us i j. rest_bind _ _ (written_alike us i j) (λ w vs k l. alike_err)))

quandles_alike : (room : ℕ) (t u : Text) → SameText t u → Alike SameLeft (quandles room t) (quandles room u)
unfolding quandles
quandles_alike zero t u same = begins_alike (codes "quandle") t u same (surplus_alike t u same) (alike_ok (refl, same))
quandles_alike (suc room) t u same = begins_alike (codes "quandle") t u same
    (text_bind _ _ (quandle_alike t u same) (λ first v w behind. text_bind _ _ (quandles_alike room v w behind) (λ others p q left. alike_ok (refl, left))))
    (alike_ok (refl, same))

pub list_alike : (t u : Text) → SameText t u → Alike SameLeft (quandle_list t) (quandle_list u)
unfolding quandle_list
list_alike t u same = text_bind _ _ (quandles_alike MAX_QUANDLES t u same) (λ listed v w behind. alike_ok (refl, behind))

pub coloured_alike : (width : ℕ) (t u : Text) → SameText t u → Alike SameLeft (coloured width t) (coloured width u)
unfolding coloured coloured_item
coloured_alike width t u same = begins_alike (codes "quandle") t u same
    (text_bind _ _ (text_bind _ _ (quandle_alike t u same) (λ q v w behind. text_bind _ _ (colours_alike width q.table.order v w behind)
    (λ c p s left. alike_ok (refl, left)))) (λ given v w behind. alike_ok (refl, behind))) (alike_ok (refl, same))

-- ---- verdicts

colour_line_alike : (width order : ℕ) (t u : Text) → SameText t u → Alike SameLeft (colour_line width order t) (colour_line width order u)
unfolding colour_line
colour_line_alike width order t u same =
    next_bind _ _ _ _ same (λ ts n m v w behind. same_bind (below_alike width order ts n m) (λ cs. alike_ok (refl, behind)))

lists_alike : (width order : ℕ) (t u : Text) → SameText t u → Alike SameLeft (list_item width order t) (list_item width order u)
unfolding list_item
lists_alike width order t u same =
    next_bind _ _ _ _ same (λ ts n m v w behind. line_bind _ _ (word_alike (codes "list") ts n m) (λ us i j. rest_bind _ _ (last_alike us i j) (λ count vs k l.
    same_bind (most_alike MAX_COLOURINGS count k l) (λ few. turns_alike (colour_line width order) (colour_line_alike width order) few v w behind))))

moves_of_alike : (version : Version) (count : ℕ) (t u : Text) → SameText t u → Alike SameLeft (moves_of version count t) (moves_of version count u)
moves_of_alike Plain count t u same = turns_alike next_move next_move_alike count t u same
moves_of_alike Tidy count t u same = tidy_moves_alike None count t u same

equal_alike : (version : Version) (ts : List (List ℕ)) (n m : ℕ) (t u : Text) → SameText t u
    → Alike SameLeft (equal_at version (line_of n ts) t) (equal_at version (line_of m ts) u)
unfolding equal_at
equal_alike version ts n m t u same =
    same_bind (count_alike ts n m) (λ count. text_bind _ _ (moves_of_alike version count t u same) (λ moves v w behind. alike_ok (refl, behind)))

different_alike : (one two : ℕ) (ts : List (List ℕ)) (n m : ℕ) (t u : Text) → SameText t u
    → Alike SameLeft (different_at one two (line_of n ts) t) (different_at one two (line_of m ts) u)
unfolding different_at
different_alike one two ts n m t u same = text_bind _ _ (quandle_at_alike MAX_ORDER ts n m t u same)
    (λ q v w behind. text_bind _ _ (lists_alike one q.table.order v w behind)
    (λ first p s left. text_bind _ _ (lists_alike two q.table.order p s left) (λ second x y rest. alike_ok (refl, rest))))

unknown_alike : (ts : List (List ℕ)) (n m : ℕ) → Alike Same (unknown_at (line_of n ts)) (unknown_at (line_of m ts))
unfolding unknown_at budget_at exhausted_at
unknown_alike ts n m = rest_bind _ _ (token_alike ts n m) (λ t us i j.
    alike_if (bytes_eq t (codes "budget")) (same_bind (count_alike us i j) (λ budget. alike_ok refl))
    (alike_if (bytes_eq t (codes "exhausted")) (rest_bind _ _ (number_alike us i j)
    (λ cap vs k l. rest_bind _ _ (last_alike vs k l) (λ admitted ws p q. same_bind (most_alike MAX_NUMBER cap p q)
    (λ most. same_bind (most_alike MAX_NUMBER admitted p q) (λ entries. alike_ok refl))))) alike_err))

unknown_item_alike : (ts : List (List ℕ)) (n m : ℕ) (t u : Text) → SameText t u → Alike SameLeft (unknown_item (line_of n ts) t) (unknown_item (line_of m ts) u)
unfolding unknown_item
unknown_item_alike ts n m t u same = same_bind (unknown_alike ts n m) (λ v. alike_ok (refl, same))

verdict_of_alike : (version : Version) (one two : ℕ) (t u : Text) → SameText t u
    → Alike SameLeft (verdict_of version one two t) (verdict_of version one two u)
unfolding verdict_of
verdict_of_alike version one two t u same = next_bind _ _ _ _ same (λ ts n m v w behind. rest_bind _ _ (token_alike ts n m) (λ kind us i j.
    alike_if (bytes_eq kind (codes "equal")) (equal_alike version us i j v w behind)
    (alike_if (bytes_eq kind (codes "different")) (different_alike one two us i j v w behind)
    (alike_if (bytes_eq kind (codes "unknown")) (unknown_item_alike us i j v w behind) alike_err))))

version_alike : (ts : List (List ℕ)) (n m : ℕ) → Alike Same (version_at (line_of n ts)) (version_at (line_of m ts))
unfolding version_at
version_alike ts n m = line_bind _ _ (word_alike (codes "certificate") ts n m) (λ us i j. same_bind (count_alike us i j) (λ version.
    alike_if (version == TIDY_VERSION) (alike_ok refl) alike_err))

tidy_item_alike : (one two : ℕ) (t u : Text) → SameText t u → Alike SameLeft (tidy_item one two t) (tidy_item one two u)
unfolding tidy_item
tidy_item_alike one two t u same = next_bind _ _ _ _ same (λ ts n m v w behind. same_bind (version_alike ts n m) (λ head.
    text_bind _ _ (verdict_of_alike Tidy one two v w behind) (λ verdict p q left. alike_ok (refl, left))))

plain_item_alike : (one two : ℕ) (t u : Text) → SameText t u → Alike SameLeft (plain_item one two t) (plain_item one two u)
unfolding plain_item
plain_item_alike one two t u same = text_bind _ _ (verdict_of_alike Plain one two t u same) (λ verdict p q left. alike_ok (refl, left))

pub versioned_alike : (one two : ℕ) (t u : Text) → SameText t u → Alike SameLeft (versioned_item one two t) (versioned_item one two u)
unfolding versioned_item
versioned_alike one two t u same = begins_alike (codes "certificate") t u same (tidy_item_alike one two t u same) (plain_item_alike one two t u same)
