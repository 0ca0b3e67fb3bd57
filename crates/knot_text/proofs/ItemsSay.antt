-- A grid, a braid, moves and colours that were read are written there.
use Rattle.std.proofs.lemmas.Bool.{and_from}
use Rattle.std.proofs.Common.{◌≡◌, ℕ, zero, suc, ◌≤◌, ◌==◌, ◌||◌, ℤ, List, [], ◌∷◌, ◌++◌, length, map, Bool, true, false, cond, Option}
use Rattle.std.proofs.Common.{Some, None, Result, Ok, Err, refl, sym, ap, ap₂, subst, ◌∙◌, arith, codes, nat_lt, add-one, neg_ℤ}
use Rattle.std.proofs.Common.{unsigned_abs}
use Rattle.std.specs.Prelude.{is_none, pos}
use Rattle.std.specs.Option.{option_map}
use Rattle.std.specs.List.{AllByRecursion, list_any}
use Rattle.std.specs.Str.{bytes_eq}
use Rattle.std.specs.Fmt.{decimal}
use Rattle.std.proofs.lemmas.Bool.{eqb-true, ltb-false, or_parts}
use Rattle.std.proofs.lemmas.List.Elements.{recursion_from_All}
use Rattle.arrayvec.specs.ArrayVec.{ArrayVec}
use Rattle.grid_core.specs.declared.mark.Kind.{Kind}
use Rattle.grid_core.specs.declared.mark.Kind.TheVariants.{Cross, Ring}
use Rattle.grid_core.specs.declared.mark.Corner.{Corner}
use Rattle.grid_core.specs.declared.mark.Corner.TheVariants.{LowLeft, LowRight, HighLeft, HighRight}
use Rattle.grid_core.specs.declared.grid.TheConstants.{MAX_SIZE}
use Rattle.grid_core.specs.declared.fault.GridFault.{GridFault}
use Rattle.grid_core.specs.Diagram.{Diagram as Marks, IsGrid}
use Rattle.grid_core.specs.Fault.{first_grid_fault}
use Rattle.grid_core.proofs.Accepted.{accepted_lists}
use Rattle.braid_core.specs.declared.braid.TheConstants.{MAX_STRANDS}
use Rattle.braid_core.specs.declared.fault.BraidFault.{BraidFault}
use Rattle.braid_core.specs.Braid.{Word, IsLetter, IsBraid}
use Rattle.braid_core.specs.Fault.{first_word_fault as word_fault}
use Rattle.braid_core.proofs.Accepted.{none_braid}
use Rattle.braid_closure.specs.Closure.{closure_size}
use Rattle.colour_rows.specs.Colouring.{AreColours, are_colours}
use Rattle.colour_rows.proofs.Colourings.{colours_from}
use Rattle.grid_moves.specs.declared.step.Move.{Move}
use Rattle.grid_moves.specs.declared.step.Move.TheVariants.{ShiftColumns, ShiftRows, ExchangeColumns, ExchangeRows, SlideColumns, SlideRows}
use Rattle.grid_moves.specs.declared.step.Move.TheVariants.{Stabilise, Destabilise}
use Rattle.text_lines.specs.Lines.{NumberedLine, Text}
use Rattle.text_lines.specs.NumberTokens.{number_of}
use Rattle.text_items.specs.declared.fault.TextFault.{TextFault}
use Rattle.text_items.specs.declared.reading.TheConstants.{MAX_NUMBER, MAX_PLACE}
use Rattle.text_items.specs.Reading.{◌>>=◌, next_line, in_turn, each_token}
use Rattle.text_items.specs.Grids.{x_at, o_at, grid_item, are_rows}
use Rattle.text_items.specs.Braids.{letter_of, is_long_letter, exceeds, braid_of, braid_at, braid_item}
use Rattle.verdict_text.specs.Moves.{last_place, one_place, shift, exchange, slide, kind_at, corner_at, stabilise, destabilise, move_at, on_axis}
use Rattle.verdict_text.specs.Moves.{next_move, move_lines, tidy_move_at, tidy_move, tidy_moves, moves_item}
use Rattle.grid_moves.specs.Tidy.{may_follow, are_tidy_behind, is_tidy}
use Rattle.knot_text.specs.Colours.{colours_at, colours_item}
use Rattle.knot_text.specs.Printed.{rows_tokens, grid_lines, kind_word, corner_word, move_tokens, moves_lines, HasMoveText, HaveMovesText}
use Rattle.knot_text.specs.Printed.{letter_token, braid_lines, colours_lines}
use Rattle.knot_text.specs.WrittenThere.{StandInFront}
use Rattle.knot_text.proofs.Says.{Says, says_ok, says_err, says_bind, says_if, says_more, no_lines_in_front, in_front_of, in_front_is, IsNext, next_says}
use Rattle.knot_text.proofs.LineSays.{IsFirst, next_token_says, HasNone, line_end_says, is_word, word_says, or_malformed_says}
use Rattle.knot_text.proofs.LineSays.{IsNumberFirst, number_says, IsNumberAlone, last_number_says, at_most_says, last_count_says, spelled}
use Rattle.knot_text.proofs.LineSays.{AreBehind, numbers_behind_says}

-- the value has this, and its printed lines stand in front of the rest
abbrev pub IsWritten : {A : Type 0} → (A → Type 0) → (A → List (List (List ℕ))) → Text → A × Text → Type 0
IsWritten Has lines text x = Has x.0 × StandInFront (lines x.0) text x.1

-- a value of one line
abbrev pub IsLine : {A : Type 0} → (A → Type 0) → (A → List (List ℕ)) → NumberedLine → A → Type 0
IsLine Has tokens line x = Has x × (line.tokens ≡ tokens x)

pub line_says : {A : Type 0} (Has : A → Type 0) (tokens : A → List (List ℕ)) (g : NumberedLine → Result A TextFault)
    → ((line : NumberedLine) → Says (g line) (IsLine Has tokens line))
    → (text : Text) → Says (next_line text >>= λ line. g line.0 >>= λ x. Ok (x, line.1)) (IsWritten Has (λ x. tokens x ∷ []) text)
line_says Has tokens g says text = says_bind (IsNext text) (next_says text) (λ line there.
    says_bind (IsLine Has tokens line.0) (says line.0) (λ x is.
    says_ok (x, line.1) (is.0, in_front_is (ap (λ (ts : List (List ℕ)). ts ∷ []) is.1) there)))

-- so many of one line each
pub record AreWritten {A : Type 0} (Has : A → Type 0) (tokens : A → List (List ℕ)) (many : ℕ) (text : Text) (x : List A × Text) : Type 0 where
  pub count : length x.0 ≡ many
  pub each : AllByRecursion Has x.0
  pub there : StandInFront (map tokens x.0) text x.1

pub turns_say : {A : Type 0} (Has : A → Type 0) (tokens : A → List (List ℕ)) (item : Text → Result (A × Text) TextFault)
    → ((text : Text) → Says (item text) (IsWritten Has (λ x. tokens x ∷ []) text))
    → (count : ℕ) (text : Text) → Says (in_turn item count text) (AreWritten Has tokens count text)
unfolding in_turn
turns_say Has tokens item says zero text = says_ok ([], text) (record { count = refl; each = tt; there = no_lines_in_front text })
turns_say Has tokens item says (suc count) text = says_bind (IsWritten Has (λ x. tokens x ∷ []) text) (says text) (λ first is.
    says_bind (AreWritten Has tokens count first.1) (turns_say Has tokens item says count first.1) (λ others are.
    says_ok (first.0 ∷ others.0, others.1) (record { count = ap suc are.count; each = (is.0, are.each); there = in_front_of is.1 are.there })))

-- ---- grids

x_says : (line : NumberedLine) → Says (x_at line) (λ x. line.tokens ≡ rows_tokens (codes "x") x)
unfolding x_at
x_says line = says_bind (AreBehind (codes "x") line) (numbers_behind_says (codes "x") line) (λ rows is.
    says_if (are_rows rows) (λ good. says_ok rows is.tokens) (λ bad. says_err))

-- the Os of these Xs
record IsGridLine (x : List ℕ) (line : NumberedLine) (d : Marks) : Type 0 where
  grid : IsGrid d
  same : d.x ≡ x
  tokens : line.tokens ≡ rows_tokens (codes "o") d.o

o_by : (x rows : List ℕ) (line : NumberedLine) (e : TextFault) (f : Option GridFault) → first_grid_fault x rows ≡ f → line.tokens ≡ rows_tokens (codes "o") rows
    → Says (cond (is_none f) (Ok (record { x = x; o = rows })) (Err e)) (IsGridLine x line)
o_by x rows line e (Some fault) is tokens = says_err
o_by x rows line e None is tokens = says_ok (record { x = x; o = rows }) (record { grid = accepted_lists x rows is; same = refl; tokens = tokens })

o_says : (x : List ℕ) (line : NumberedLine) → Says (o_at x line) (IsGridLine x line)
unfolding o_at
o_says x line =
    says_bind (AreBehind (codes "o") line) (numbers_behind_says (codes "o") line) (λ rows is. o_by x rows line _ (first_grid_fault x rows) refl is.tokens)

pub grid_says : (text : Text) → Says (grid_item text) (IsWritten IsGrid grid_lines text)
unfolding grid_item
grid_says text = says_bind (IsNext text) (next_says text) (λ first there.
    says_bind (λ (x : List ℕ). first.0.tokens ≡ rows_tokens (codes "x") x) (x_says first.0) (λ x crosses.
    says_bind (IsNext first.1) (next_says first.1) (λ second behind.
    says_bind (IsGridLine x second.0) (o_says x second.0) (λ d rings.
    let one = crosses ∙ ap (rows_tokens (codes "x")) (sym rings.same) in
    says_ok (d, second.1) (rings.grid, in_front_is (ap₂ (λ (ts us : List (List ℕ)). ts ∷ us ∷ []) one rings.tokens) (in_front_of there behind))))))

-- ---- braids

-- a letter that is not 0 has one spelling
negative_by : (bs : List ℕ) (o : Option ℕ) → number_of bs ≡ o → (a : ℤ) → option_map (λ k. neg_ℤ (pos k)) o ≡ Some a → unsigned_abs a ≤ MAX_NUMBER
    → 1 ≤ unsigned_abs a → 45 ∷ bs ≡ letter_token a
negative_by bs None is a e few some = absurd cc
negative_by bs (Some zero) is a e few some =
    let same : pos 0 ≡ a = cc in
    absurd (omega (arith, subst (λ (z : ℤ). 1 ≤ unsigned_abs z) (sym same) some))
negative_by bs (Some (suc k)) is a e few some =
    let same : neg_ℤ (pos (suc k)) ≡ a = cc in
    let low : suc k ≤ MAX_NUMBER = subst (λ (z : ℤ). unsigned_abs z ≤ MAX_NUMBER) (sym same) few in
    ap (λ (ds : List ℕ). 45 ∷ ds) (spelled bs (suc k) is low ∙ ap decimal (sym (add-one k))) ∙ ap letter_token same

pub positive_by : (t : List ℕ) (o : Option ℕ) → number_of t ≡ o → (a : ℤ) → option_map (λ k. pos k) o ≡ Some a
    → unsigned_abs a ≤ MAX_NUMBER → t ≡ letter_token a
positive_by t None is a e few = absurd cc
positive_by t (Some k) is a e few =
    let same : pos k ≡ a = cc in
    let low : k ≤ MAX_NUMBER = subst (λ (z : ℤ). unsigned_abs z ≤ MAX_NUMBER) (sym same) few in
    spelled t k is low ∙ ap letter_token same

letter_by : (b : ℕ) (bs : List ℕ) (t : Bool) → (b == 45) ≡ t → (a : ℤ)
    → cond t (option_map (λ k. neg_ℤ (pos k)) (number_of bs)) (option_map (λ k. pos k) (number_of (b ∷ bs))) ≡ Some a
    → unsigned_abs a ≤ MAX_NUMBER → 1 ≤ unsigned_abs a → b ∷ bs ≡ letter_token a
letter_by b bs true sign a e few some = ap (λ (c : ℕ). c ∷ bs) (eqb-true b 45 sign) ∙ negative_by bs (number_of bs) refl a e few some
letter_by b bs false sign a e few some = positive_by (b ∷ bs) (number_of (b ∷ bs)) refl a e few

pub letter_spelled : (t : List ℕ) (a : ℤ) → letter_of t ≡ Some a → unsigned_abs a ≤ MAX_NUMBER → 1 ≤ unsigned_abs a → t ≡ letter_token a
letter_spelled [] a e few some = absurd cc
letter_spelled (b ∷ bs) a e few some = letter_by b bs (b == 45) refl a e few some

-- letters of few digits, none of them 0
abbrev AreSpelled : List (List ℕ) → List ℤ → Type 0
AreSpelled tokens ls = list_any is_long_letter ls ≡ false → AllByRecursion (λ (a : ℤ). 1 ≤ unsigned_abs a) ls → tokens ≡ map letter_token ls

each_letter_says : (n : ℕ) (tokens : List (List ℕ)) → Says (each_token letter_of n tokens) (AreSpelled tokens)
unfolding each_token
each_letter_says n [] = says_ok [] (λ few some. refl)
each_letter_says n (t ∷ ts) = says_bind (λ (a : ℤ). letter_of t ≡ Some a) (or_malformed_says n (letter_of t)) (λ a reads.
    says_bind (AreSpelled ts) (each_letter_says n ts) (λ ls is.
    says_ok (a ∷ ls) (λ few some.
    let both = or_parts (is_long_letter a) (list_any is_long_letter ls) few in
    ap₂ (λ (s : List ℕ) (ss : List (List ℕ)). s ∷ ss) (letter_spelled t a reads (ltb-false MAX_NUMBER (unsigned_abs a) both.0) some.0) (is both.1 some.1))))

not_zero : (m : ℕ) (ls : List ℤ) → AllByRecursion (IsLetter m) ls → AllByRecursion (λ (a : ℤ). 1 ≤ unsigned_abs a) ls
not_zero m [] all = tt
not_zero m (a ∷ ls) all = (all.0.least, not_zero m ls all.1)

abbrev braid_tokens : Word → List (List ℕ)
braid_tokens b = codes "braid" ∷ decimal b.strands ∷ map letter_token b.letters

-- what the line says, if its letters are those of a braid
record IsBraidLine (line : NumberedLine) (b : Word) : Type 0 where
  strands : b.strands ≤ MAX_NUMBER → list_any is_long_letter b.letters ≡ false → AllByRecursion (λ (a : ℤ). 1 ≤ unsigned_abs a) b.letters
      → line.tokens ≡ braid_tokens b

braid_by : (line : NumberedLine) (b : Word) (n : ℕ) (f : Option BraidFault) → word_fault b ≡ f → IsBraidLine line b → exceeds b ≡ false → (e : TextFault)
    → Says (cond (is_none f) (Ok b) (Err e)) (IsLine IsBraid braid_tokens line)
braid_by line b n (Some fault) is there within e = says_err
braid_by line b n None is there within e =
    let braid = none_braid b is in
    let a = or_parts (nat_lt MAX_STRANDS b.strands) (list_any is_long_letter b.letters || nat_lt MAX_SIZE (closure_size b)) within in
    let c = or_parts (list_any is_long_letter b.letters) (nat_lt MAX_SIZE (closure_size b)) a.1 in
    says_ok b (
      braid,
      there.strands (omega (arith, braid.most)) c.0
          (not_zero b.strands b.letters (recursion_from_All (IsLetter b.strands) b.letters braid.crossings)),
    )

braid_of_says : (line : NumberedLine) (b : Word) → IsBraidLine line b → Says (braid_of line.number b) (IsLine IsBraid braid_tokens line)
braid_of_says line b there = says_if (exceeds b) (λ over. says_err) (λ within. braid_by line b line.number (word_fault b) refl there within _)

braid_at_says : (line : NumberedLine) → Says (braid_at line) (IsLine IsBraid braid_tokens line)
unfolding braid_at
braid_at_says line = says_bind (λ (rest : NumberedLine). line.tokens ≡ codes "braid" ∷ rest.tokens) (word_says (codes "braid") line) (λ rest named.
    says_bind (IsNumberFirst rest.tokens) (number_says rest) (λ m count.
    says_bind (AreSpelled m.1.tokens) (each_letter_says m.1.number m.1.tokens) (λ ls spelt.
    braid_of_says line (record { strands = m.0; letters = ls }) (record {
      strands = λ few short some.
          named ∙ ap (λ (ts : List (List ℕ)). codes "braid" ∷ ts) (count few ∙ ap (λ (ts : List (List ℕ)). decimal m.0 ∷ ts) (spelt short some));
    }))))

pub braid_says : (text : Text) → Says (braid_item text) (IsWritten IsBraid braid_lines text)
unfolding braid_item
braid_says text = line_says IsBraid braid_tokens braid_at braid_at_says text

-- ---- moves

pub place_says : (line : NumberedLine) → Says (last_place line) (λ k. (k ≤ MAX_PLACE) × (line.tokens ≡ decimal k ∷ []))
unfolding last_place
place_says line = says_bind (IsNumberAlone line.tokens) (last_number_says line) (λ v is.
    says_more (λ k few. (few.1, is (omega (arith, few.0, few.1)) ∙ ap (λ (j : ℕ). decimal j ∷ []) few.0)) (at_most_says MAX_PLACE v.1.number v.0))

-- a move of the tokens behind these words
abbrev IsMoveBehind : List (List ℕ) → List (List ℕ) → Move → Type 0
IsMoveBehind words tokens move = HasMoveText move × (words ++ tokens ≡ move_tokens move)

-- a move with one place, behind two words of which the second is the next token
record MovesAlong (name axis : List ℕ) (make : ℕ → Move) : Type 0 where
  fits : (k : ℕ) → k ≤ MAX_PLACE → HasMoveText (make k)
  tokens : (k : ℕ) → name ∷ axis ∷ decimal k ∷ [] ≡ move_tokens (make k)

one_says : (name axis : List ℕ) (make : ℕ → Move) → MovesAlong name axis make → (tokens : List (List ℕ)) (t : List ℕ × NumberedLine)
    → IsFirst tokens t → t.0 ≡ axis → Says (one_place make t.1) (IsMoveBehind (name ∷ []) tokens)
one_says name axis make along tokens t is same = says_bind (λ (k : ℕ). (k ≤ MAX_PLACE) × (t.1.tokens ≡ decimal k ∷ [])) (place_says t.1) (λ k place.
    says_ok (make k) (
      along.fits k place.0,
      ap (λ (ts : List (List ℕ)). name ∷ ts) (is ∙ ap₂ (λ (s : List ℕ) (ts : List (List ℕ)). s ∷ ts) same place.1)
          ∙ along.tokens k,
    ))

along_says : (name : List ℕ) (columns rows : ℕ → Move) → MovesAlong name (codes "columns") columns → MovesAlong name (codes "rows") rows
    → (line : NumberedLine) → Says (on_axis columns rows line) (IsMoveBehind (name ∷ []) line.tokens)
along_says name columns rows first second line = says_bind (IsFirst line.tokens) (next_token_says line) (λ t is.
    says_if (bytes_eq t.0 (codes "columns"))
    (λ same. one_says name (codes "columns") columns first line.tokens t is (is_word t.0 (codes "columns") same)) (λ other.
    says_if (bytes_eq t.0 (codes "rows"))
    (λ same. one_says name (codes "rows") rows second line.tokens t is (is_word t.0 (codes "rows") same)) (λ none. says_err)))

shift_says : (line : NumberedLine) → Says (shift line) (IsMoveBehind (codes "shift" ∷ []) line.tokens)
unfolding shift
shift_says line =
    along_says (codes "shift") (λ k. ShiftColumns k) (λ k. ShiftRows k) (record { fits = λ k few. few; tokens = λ k. refl })
    (record { fits = λ k few. few; tokens = λ k. refl }) line

exchange_says : (line : NumberedLine) → Says (exchange line) (IsMoveBehind (codes "exchange" ∷ []) line.tokens)
unfolding exchange
exchange_says line =
    along_says (codes "exchange") (λ c. ExchangeColumns c) (λ r. ExchangeRows r) (record { fits = λ k few. few; tokens = λ k. refl })
    (record { fits = λ k few. few; tokens = λ k. refl }) line

slide_says : (line : NumberedLine) → Says (slide line) (IsMoveBehind (codes "slide" ∷ []) line.tokens)
unfolding slide
slide_says line =
    along_says (codes "slide") (λ c. SlideColumns c) (λ r. SlideRows r) (record { fits = λ k few. few; tokens = λ k. refl })
    (record { fits = λ k few. few; tokens = λ k. refl }) line

abbrev IsKindFirst : List (List ℕ) → Kind × NumberedLine → Type 0
IsKindFirst tokens k = tokens ≡ kind_word k.0 ∷ k.1.tokens

kind_says : (line : NumberedLine) → Says (kind_at line) (IsKindFirst line.tokens)
unfolding kind_at
kind_says line = says_bind (IsFirst line.tokens) (next_token_says line) (λ t is.
    let word_first = λ (w : List ℕ) (same : bytes_eq t.0 w ≡ true). is ∙ ap (λ (s : List ℕ). s ∷ t.1.tokens) (is_word t.0 w same) in
    says_if (bytes_eq t.0 (codes "x")) (λ same. says_ok (Cross, t.1) (word_first (codes "x") same)) (λ other.
    says_if (bytes_eq t.0 (codes "o")) (λ same. says_ok (Ring, t.1) (word_first (codes "o") same)) (λ none. says_err)))

abbrev IsCornerFirst : List (List ℕ) → Corner × NumberedLine → Type 0
IsCornerFirst tokens c = tokens ≡ corner_word c.0 ∷ c.1.tokens

corner_says : (line : NumberedLine) → Says (corner_at line) (IsCornerFirst line.tokens)
unfolding corner_at
corner_says line = says_bind (IsFirst line.tokens) (next_token_says line) (λ t is.
    let word_first = λ (w : List ℕ) (same : bytes_eq t.0 w ≡ true). is ∙ ap (λ (s : List ℕ). s ∷ t.1.tokens) (is_word t.0 w same) in
    says_if (bytes_eq t.0 (codes "lowleft")) (λ same. says_ok (LowLeft, t.1) (word_first (codes "lowleft") same)) (λ low.
    says_if (bytes_eq t.0 (codes "lowright")) (λ same. says_ok (LowRight, t.1) (word_first (codes "lowright") same)) (λ right.
    says_if (bytes_eq t.0 (codes "highleft")) (λ same. says_ok (HighLeft, t.1) (word_first (codes "highleft") same)) (λ high.
    says_if (bytes_eq t.0 (codes "highright")) (λ same. says_ok (HighRight, t.1) (word_first (codes "highright") same)) (λ none. says_err)))))

stabilise_says : (line : NumberedLine) → Says (stabilise line) (IsMoveBehind (codes "stabilise" ∷ []) line.tokens)
unfolding stabilise
stabilise_says line = says_bind (IsNumberFirst line.tokens) (number_says line) (λ column first.
    says_bind (IsKindFirst column.1.tokens) (kind_says column.1) (λ kind second.
    says_bind (IsCornerFirst kind.1.tokens) (corner_says kind.1) (λ corner third.
    says_bind (HasNone corner.1.tokens) (line_end_says corner.1) (λ end none.
    says_bind (λ (k : ℕ). (column.0 ≡ k) × (k ≤ MAX_PLACE)) (at_most_says MAX_PLACE end.number column.0) (λ place few.
    let behind : column.1.tokens ≡ kind_word kind.0 ∷ corner_word corner.0 ∷ [] =
    second ∙ ap (λ (ts : List (List ℕ)). kind_word kind.0 ∷ ts) (third ∙ ap (λ (ts : List (List ℕ)). corner_word corner.0 ∷ ts) none.0) in
    let all : line.tokens ≡ decimal place ∷ kind_word kind.0 ∷ corner_word corner.0 ∷ [] =
    first (omega (arith, few.0, few.1)) ∙ ap₂ (λ (k : ℕ) (ts : List (List ℕ)). decimal k ∷ ts) few.0 behind in
    says_ok (Stabilise place kind.0 corner.0) (few.1, ap (λ (ts : List (List ℕ)). codes "stabilise" ∷ ts) all))))))

destabilise_says : (line : NumberedLine) → Says (destabilise line) (IsMoveBehind (codes "destabilise" ∷ []) line.tokens)
unfolding destabilise
destabilise_says line = says_bind (IsNumberFirst line.tokens) (number_says line) (λ column first.
    says_bind (IsNumberAlone column.1.tokens) (last_number_says column.1) (λ row second.
    says_bind (λ (k : ℕ). (column.0 ≡ k) × (k ≤ MAX_PLACE)) (at_most_says MAX_PLACE row.1.number column.0) (λ left few.
    says_bind (λ (k : ℕ). (row.0 ≡ k) × (k ≤ MAX_PLACE)) (at_most_says MAX_PLACE row.1.number row.0) (λ low small.
    let behind : column.1.tokens ≡ decimal low ∷ [] = second (omega (arith, small.0, small.1)) ∙ ap (λ (k : ℕ). decimal k ∷ []) small.0 in
    let all : line.tokens ≡ decimal left ∷ decimal low ∷ [] =
    first (omega (arith, few.0, few.1)) ∙ ap₂ (λ (k : ℕ) (ts : List (List ℕ)). decimal k ∷ ts) few.0 behind in
    says_ok (Destabilise left low) ((few.1, small.1), ap (λ (ts : List (List ℕ)). codes "destabilise" ∷ ts) all)))))

-- behind the name of a move
behind_says : (name : List ℕ) (line : NumberedLine) (t : List ℕ × NumberedLine) {r : Result Move TextFault} → IsFirst line.tokens t
    → bytes_eq t.0 name ≡ true → Says r (IsMoveBehind (name ∷ []) t.1.tokens) → Says r (IsLine HasMoveText move_tokens line)
behind_says name line t is same says = says_more (λ move there. (there.0, is ∙ ap (λ (s : List ℕ). s ∷ t.1.tokens) (is_word t.0 name same) ∙ there.1)) says

pub move_says : (line : NumberedLine) → Says (move_at line) (IsLine HasMoveText move_tokens line)
unfolding move_at
move_says line = says_bind (IsFirst line.tokens) (next_token_says line) (λ t is.
    says_if (bytes_eq t.0 (codes "shift")) (λ same. behind_says (codes "shift") line t is same (shift_says t.1)) (λ a.
    says_if (bytes_eq t.0 (codes "exchange")) (λ same. behind_says (codes "exchange") line t is same (exchange_says t.1)) (λ b.
    says_if (bytes_eq t.0 (codes "slide")) (λ same. behind_says (codes "slide") line t is same (slide_says t.1)) (λ c.
    says_if (bytes_eq t.0 (codes "stabilise")) (λ same. behind_says (codes "stabilise") line t is same (stabilise_says t.1)) (λ d.
    says_if (bytes_eq t.0 (codes "destabilise")) (λ same. behind_says (codes "destabilise") line t is same (destabilise_says t.1)) (λ e. says_err))))))

next_move_says : (text : Text) → Says (next_move text) (IsWritten HasMoveText (λ move. move_tokens move ∷ []) text)
unfolding next_move
next_move_says text = line_says HasMoveText move_tokens move_at move_says text

-- so many moves behind the line that counts them
pub counted_moves_say : (name : List ℕ) (line : NumberedLine × Text) (text : Text) (count : ℕ) → IsNext text line → count ≤ MAX_NUMBER
    → line.0.tokens ≡ name ∷ decimal count ∷ []
    → Says (move_lines count line.1) (IsWritten HaveMovesText (moves_lines name) text)
counted_moves_say name line text count there few tokens = says_more (λ moves are. (
  record { count = omega (arith, are.count, few); each = are.each },
  in_front_of (in_front_is (ap (λ (ts : List (List ℕ)). ts ∷ []) (tokens ∙ ap (λ (k : ℕ). name ∷ decimal k ∷ []) (sym are.count))) there) are.there,
))
    (turns_say HasMoveText move_tokens next_move next_move_says count line.1)

-- likewise of a tidy list
abbrev pub HaveTidyText : List Move → Type 0
HaveTidyText moves = HaveMovesText moves × (is_tidy moves ≡ true)

-- so many moves, each of which may follow on the one before it
record AreTidyMoves (before : Option Move) (many : ℕ) (text : Text) (x : List Move × Text) : Type 0 where
  count : length x.0 ≡ many
  each : AllByRecursion HasMoveText x.0
  tidy : are_tidy_behind before x.0 ≡ true
  there : StandInFront (map move_tokens x.0) text x.1

-- a move line that may follow
pub record IsTidyLine (before : Option Move) (line : NumberedLine) (move : Move) : Type 0 where
  pub written : IsLine HasMoveText move_tokens line move
  may : may_follow before move ≡ true

pub tidy_at_says : (before : Option Move) (line : NumberedLine) → Says (tidy_move_at before line) (IsTidyLine before line)
unfolding tidy_move_at
tidy_at_says before line = says_bind (IsLine HasMoveText move_tokens line) (move_says line) (λ move is.
    says_if (may_follow before move) (λ may. says_ok move (record { written = is; may = may })) (λ other. says_err))

tidy_moves_say : (before : Option Move) (count : ℕ) (text : Text) → Says (tidy_moves before count text) (AreTidyMoves before count text)
unfolding tidy_moves tidy_move
tidy_moves_say before zero text = says_ok ([], text) (record { count = refl; each = tt; tidy = refl; there = no_lines_in_front text })
tidy_moves_say before (suc count) text =
    says_bind (λ (first : Move × Text). IsWritten HasMoveText (λ x. move_tokens x ∷ []) text first × (may_follow before first.0 ≡ true))
    (says_bind (IsNext text) (next_says text) (λ line there.
    says_bind (IsTidyLine before line.0) (tidy_at_says before line.0) (λ x is.
    says_ok (x, line.1) ((is.written.0, in_front_is (ap (λ (ts : List (List ℕ)). ts ∷ []) is.written.1) there), is.may))))
    (λ first is.
    says_bind (AreTidyMoves (Some first.0) count first.1) (tidy_moves_say (Some first.0) count first.1) (λ others are.
    says_ok (first.0 ∷ others.0, others.1) (record {
      count = ap suc are.count;
      each = (is.0.0, are.each);
      tidy = and_from (may_follow before first.0) (are_tidy_behind (Some first.0) others.0) is.1 are.tidy;
      there = in_front_of is.0.1 are.there;
    })))

pub counted_tidy_say : (name : List ℕ) (line : NumberedLine × Text) (text : Text) (count : ℕ) → IsNext text line → count ≤ MAX_NUMBER
    → line.0.tokens ≡ name ∷ decimal count ∷ []
    → Says (tidy_moves None count line.1) (IsWritten HaveTidyText (moves_lines name) text)
counted_tidy_say name line text count there few tokens = says_more (λ moves are. (
  (record { count = omega (arith, are.count, few); each = are.each }, are.tidy),
  in_front_of (in_front_is (ap (λ (ts : List (List ℕ)). ts ∷ []) (tokens ∙ ap (λ (k : ℕ). name ∷ decimal k ∷ []) (sym are.count))) there) are.there,
))
    (tidy_moves_say None count line.1)

pub moves_say : (text : Text) → Says (moves_item text) (IsWritten HaveMovesText (moves_lines (codes "moves")) text)
unfolding moves_item
moves_say text = says_bind (IsNext text) (next_says text) (λ line there.
    says_bind (λ (rest : NumberedLine). line.0.tokens ≡ codes "moves" ∷ rest.tokens) (word_says (codes "moves") line.0) (λ rest named.
    says_bind (λ (k : ℕ). (k ≤ MAX_NUMBER) × (rest.tokens ≡ decimal k ∷ [])) (last_count_says rest) (λ count is.
    counted_moves_say (codes "moves") line text count there is.0 (named ∙ ap (λ (ts : List (List ℕ)). codes "moves" ∷ ts) is.1))))

-- ---- colours

abbrev colours_tokens : ArrayVec ℕ → List (List ℕ)
colours_tokens c = codes "colours" ∷ map decimal c.items

colours_at_says : (width order : ℕ) (line : NumberedLine)
    → Says (colours_at width order line) (IsLine (λ c. AreColours width order c.items) colours_tokens line)
unfolding colours_at
colours_at_says width order line = says_bind (AreBehind (codes "colours") line) (numbers_behind_says (codes "colours") line) (λ cs is.
    says_if (are_colours width order cs) (λ fits. says_ok (record { items = cs }) (colours_from width order cs fits, is.tokens)) (λ other. says_err))

pub colours_say : (width order : ℕ) (text : Text) → Says (colours_item width order text) (IsWritten (λ c. AreColours width order c.items) colours_lines text)
unfolding colours_item
colours_say width order text = line_says (λ c. AreColours width order c.items) colours_tokens (colours_at width order) (colours_at_says width order) text
