-- The text of a grid, of a braid, of moves, of steps and of a verdict, apart from reading: lines of tokens with one space between them.
use Rattle.std.specs.Prelude.{◌<◌, ◌≤◌, ◌+◌, ℕ, ℤ, pos, negsuc, unsigned_abs, Bool, true, false}
use Rattle.std.specs.Prelude.{List, [], ◌∷◌, ◌++◌, codes, length, map}
use Rattle.std.specs.List.{AllByRecursion, range_with_len}
use Rattle.std.specs.Fmt.{decimal}
use Rattle.arrayvec.specs.ArrayVec.{ArrayVec}
use Rattle.grid_core.specs.declared.mark.Kind.{Kind}
use Rattle.grid_core.specs.declared.mark.Kind.TheVariants.{Cross, Ring}
use Rattle.grid_core.specs.declared.mark.Corner.{Corner}
use Rattle.grid_core.specs.declared.mark.Corner.TheVariants.{LowLeft, LowRight, HighLeft, HighRight}
use Rattle.grid_core.specs.Diagram.{Diagram as Marks, IsGrid}
use Rattle.braid_core.specs.Braid.{Word, IsBraid}
use Rattle.braid_moves.specs.declared.step.BraidMove.{BraidMove}
use Rattle.braid_moves.specs.declared.step.BraidMove.TheVariants.{Far, Triple, Cancel, Insert, Turn, Grow, Shrink}
use Rattle.grid_moves.specs.declared.step.Move.{Move}
use Rattle.grid_moves.specs.declared.step.Move.TheVariants.{ShiftColumns, ShiftRows, ExchangeColumns, ExchangeRows, SlideColumns, SlideRows}
use Rattle.grid_moves.specs.declared.step.Move.TheVariants.{Stabilise, Destabilise}
use Rattle.quandle_core.specs.declared.quandle.TheConstants.{MAX_ORDER}
use Rattle.quandle_core.specs.Quandle.{Table, over}
use Rattle.colour_list.specs.declared.limits.TheConstants.{MAX_COLOURINGS}
use Rattle.colour_rows.specs.Colouring.{AreColours}
use Rattle.text_lines.specs.Spelled.{lines_text}
use Rattle.text_items.specs.declared.reading.TheConstants.{MAX_NUMBER, MAX_PLACE, MAX_LETTER}
use Rattle.quandle_core.specs.declared.names.QuandleName.{QuandleName}
use Rattle.quandle_core.specs.declared.names.QuandleName.TheVariants as name
use Rattle.verdict_core.specs.declared.diagrams.Diagram.{Diagram}
use Rattle.verdict_core.specs.declared.diagrams.Diagram.TheVariants.{Grid, Braid}
use Rattle.verdict_core.specs.declared.verdict.Verdict.{Verdict}
use Rattle.verdict_core.specs.declared.verdict.Verdict.TheVariants.{Equal, Different, UnknownBudget, UnknownExhausted}
use Rattle.quandle_core.specs.Names.{NamedQuandle, NamesWithin}
use Rattle.verdict_core.specs.Evidence.{IsTidyVerdict}
use Rattle.verdict_text.specs.declared.verdicts.TheConstants.{TIDY_VERSION}
use Rattle.verdict_text.specs.declared.verdicts.Version.{Version}
use Rattle.verdict_text.specs.declared.verdicts.Version.TheVariants.{Plain, Tidy}

-- ---- grids

-- a letter and the rows by column
abbrev pub rows_tokens : List ℕ → List ℕ → List (List ℕ)
rows_tokens letter rows = letter ∷ map decimal rows

-- the two lines of a grid
abbrev pub grid_lines : Marks → List (List (List ℕ))
grid_lines d = rows_tokens (codes "x") d.x ∷ rows_tokens (codes "o") d.o ∷ []

-- the text of a grid
abbrev pub grid_text : Marks → List ℕ
grid_text d = lines_text (grid_lines d)

-- ---- braids, and words of any length

-- a letter in decimal, with a `-` in front of it where it is negative
abbrev pub letter_token : ℤ → List ℕ
letter_token (pos k) = decimal k
letter_token (negsuc k) = codes "-" ++ decimal (k + 1)

-- the one line of a braid
abbrev pub braid_lines : Word → List (List (List ℕ))
braid_lines b = (codes "braid" ∷ decimal b.strands ∷ map letter_token b.letters) ∷ []

-- the text of a braid
abbrev pub braid_text : Word → List ℕ
braid_text b = lines_text (braid_lines b)

-- ---- moves

-- the word of a kind of mark
abbrev pub kind_word : Kind → List ℕ
kind_word Cross = codes "x"
kind_word Ring = codes "o"

-- the word of a corner of a block
abbrev pub corner_word : Corner → List ℕ
corner_word LowLeft = codes "lowleft"
corner_word LowRight = codes "lowright"
corner_word HighLeft = codes "highleft"
corner_word HighRight = codes "highright"

-- the line of a move
abbrev pub move_tokens : Move → List (List ℕ)
move_tokens (ShiftColumns k) = codes "shift" ∷ codes "columns" ∷ decimal k ∷ []
move_tokens (ShiftRows k) = codes "shift" ∷ codes "rows" ∷ decimal k ∷ []
move_tokens (ExchangeColumns c) = codes "exchange" ∷ codes "columns" ∷ decimal c ∷ []
move_tokens (ExchangeRows r) = codes "exchange" ∷ codes "rows" ∷ decimal r ∷ []
move_tokens (SlideColumns c) = codes "slide" ∷ codes "columns" ∷ decimal c ∷ []
move_tokens (SlideRows r) = codes "slide" ∷ codes "rows" ∷ decimal r ∷ []
move_tokens (Stabilise c kind corner) = codes "stabilise" ∷ decimal c ∷ kind_word kind ∷ corner_word corner ∷ []
move_tokens (Destabilise c r) = codes "destabilise" ∷ decimal c ∷ decimal r ∷ []

-- a word with how many moves there are, and a line for each
abbrev pub moves_lines : List ℕ → List Move → List (List (List ℕ))
moves_lines word moves = (word ∷ decimal (length moves) ∷ []) ∷ map move_tokens moves

-- the text of moves
abbrev pub moves_text : List Move → List ℕ
moves_text moves = lines_text (moves_lines (codes "moves") moves)

-- the numbers of a move are small enough, as they are in every move of the program
abbrev pub HasMoveText : Move → Type 0
HasMoveText (ShiftColumns k) = k ≤ MAX_PLACE
HasMoveText (ShiftRows k) = k ≤ MAX_PLACE
HasMoveText (ExchangeColumns c) = c ≤ MAX_PLACE
HasMoveText (ExchangeRows r) = r ≤ MAX_PLACE
HasMoveText (SlideColumns c) = c ≤ MAX_PLACE
HasMoveText (SlideRows r) = r ≤ MAX_PLACE
HasMoveText (Stabilise c kind corner) = c ≤ MAX_PLACE
HasMoveText (Destabilise c r) = (c ≤ MAX_PLACE) × (r ≤ MAX_PLACE)

-- the numbers of all moves are small enough, and there are few enough moves
pub record HaveMovesText (moves : List Move) : Type 0 where
  pub count : length moves ≤ MAX_NUMBER
  pub each : AllByRecursion HasMoveText moves

-- ---- steps between braids

-- the sign of a new crossing
abbrev pub sign_word : Bool → List ℕ
sign_word true = codes "plus"
sign_word false = codes "minus"

-- the line of a step
abbrev pub step_tokens : BraidMove → List (List ℕ)
step_tokens (Far p) = codes "far" ∷ decimal p ∷ []
step_tokens (Triple p) = codes "triple" ∷ decimal p ∷ []
step_tokens (Cancel p) = codes "cancel" ∷ decimal p ∷ []
step_tokens (Insert p a) = codes "insert" ∷ decimal p ∷ letter_token a ∷ []
step_tokens (Turn k) = codes "turn" ∷ decimal k ∷ []
step_tokens (Grow positive) = codes "grow" ∷ sign_word positive ∷ []
step_tokens Shrink = codes "shrink" ∷ []

-- the line that says how many steps there are
abbrev pub steps_head : List BraidMove → List (List ℕ)
steps_head steps = codes "steps" ∷ decimal (length steps) ∷ []

-- the line that says how many steps there are, and a line for each
abbrev pub steps_lines : List BraidMove → List (List (List ℕ))
steps_lines steps = steps_head steps ∷ map step_tokens steps

-- the text of steps
abbrev pub steps_text : List BraidMove → List ℕ
steps_text steps = lines_text (steps_lines steps)

-- the place and the letter of a step are small enough
abbrev pub HasStepText : BraidMove → Type 0
HasStepText (Far p) = p ≤ MAX_PLACE
HasStepText (Triple p) = p ≤ MAX_PLACE
HasStepText (Cancel p) = p ≤ MAX_PLACE
HasStepText (Insert p a) = (p ≤ MAX_PLACE) × (unsigned_abs a ≤ MAX_LETTER)
HasStepText (Turn k) = k ≤ MAX_PLACE
HasStepText (Grow positive) = Unit {0}
HasStepText Shrink = Unit {0}

-- the places and the letters of all steps are small enough, and there are few enough steps
pub record HaveStepsText (steps : List BraidMove) : Type 0 where
  pub count : length steps ≤ MAX_NUMBER
  pub each : AllByRecursion HasStepText steps

-- ---- quandles

-- the name of a quandle of this order
abbrev pub name_tokens : QuandleName → ℕ → List (List ℕ)
name_tokens (name.Trivial n) order = codes "trivial" ∷ decimal n ∷ []
name_tokens (name.Dihedral n) order = codes "dihedral" ∷ decimal n ∷ []
name_tokens name.Tetrahedral order = codes "tetrahedral" ∷ []
name_tokens (name.Alexander n a) order = codes "alexander" ∷ decimal n ∷ decimal a ∷ []
name_tokens name.Table order = codes "table" ∷ decimal order ∷ []

-- row x of a table: the numbers x ▷ 0 to x ▷ n-1
abbrev pub row_tokens : Table → ℕ → List (List ℕ)
row_tokens t x = map (λ y. decimal (over t x y)) (range_with_len 0 t.order)

-- the lines behind a name, which `table` alone has
abbrev pub table_lines : QuandleName → Table → List (List (List ℕ))
table_lines name.Table t = map (row_tokens t) (range_with_len 0 t.order)
table_lines other t = []

-- what stands behind the word of a quandle that is given by its table: `table` with the order, and the lines
abbrev pub table_behind : Table → List ℕ
table_behind t = (codes " table " ++ (decimal t.order ++ codes "\n")) ++ lines_text (table_lines name.Table t)

-- a word with the name, and the lines of a table
abbrev pub quandle_lines : List ℕ → NamedQuandle → List (List (List ℕ))
quandle_lines word q = (word ∷ name_tokens q.name q.table.order) ∷ table_lines q.name q.table

-- the text of a quandle item
abbrev pub quandle_text : NamedQuandle → List ℕ
quandle_text q = lines_text (quandle_lines (codes "quandle") q)

-- the factor of an Alexander quandle is below its order
abbrev pub HasFactor : QuandleName → Type 0
HasFactor (name.Alexander n a) = a < n
HasFactor other = Unit {0}

-- the name gives the quandle, whose order is at most the first number where it is by a table
pub record HasQuandleTextWithin (most : ℕ) (q : NamedQuandle) : Type 0 where
  pub names : NamesWithin most q.name q.table
  pub factor : HasFactor q.name

-- the name gives the quandle, whose order is at most MAX_ORDER
abbrev pub HasQuandleText : NamedQuandle → Type 0
HasQuandleText = HasQuandleTextWithin MAX_ORDER

-- ---- verdicts

-- `list` with how many there are, and a line of colours for each
abbrev pub list_lines : List (ArrayVec ℕ) → List (List (List ℕ))
list_lines lists = (codes "list" ∷ decimal (length lists) ∷ []) ∷ map (λ (c : ArrayVec ℕ). map decimal c.items) lists

-- the lines of a verdict, but for a head line
abbrev pub verdict_lines : Verdict → List (List (List ℕ))
verdict_lines (Equal moves) = moves_lines (codes "equal") moves
verdict_lines (Different q first second) = quandle_lines (codes "different") q ++ (list_lines first ++ list_lines second)
verdict_lines (UnknownBudget budget) = (codes "unknown" ∷ codes "budget" ∷ decimal budget ∷ []) ∷ []
verdict_lines (UnknownExhausted cap admitted) = (codes "unknown" ∷ codes "exhausted" ∷ decimal cap ∷ decimal admitted ∷ []) ∷ []

-- the line that stands before a verdict whose list of moves is tidy
abbrev pub head_tokens : List (List ℕ)
head_tokens = codes "certificate" ∷ decimal TIDY_VERSION ∷ []

-- a verdict of a version
abbrev pub version_lines : Version → Verdict → List (List (List ℕ))
version_lines Plain v = verdict_lines v
version_lines Tidy v = head_tokens ∷ verdict_lines v

-- the text of a verdict of a version
abbrev pub version_text : Version → Verdict → List ℕ
version_text version v = lines_text (version_lines version v)

-- few enough lists, each of so many colours below the order
pub record HasListText (width order : ℕ) (lists : List (ArrayVec ℕ)) : Type 0 where
  pub count : length lists ≤ MAX_COLOURINGS
  pub each : AllByRecursion (λ (c : ArrayVec ℕ). AreColours width order c.items) lists

-- the verdict has a text behind two diagrams with so many columns
abbrev pub HasVerdictText : ℕ → ℕ → Verdict → Type 0
HasVerdictText one two (Equal moves) = HaveMovesText moves
HasVerdictText one two (Different q first second) = HasQuandleText q × HasListText one q.table.order first × HasListText two q.table.order second
HasVerdictText one two (UnknownBudget budget) = budget ≤ MAX_NUMBER
HasVerdictText one two (UnknownExhausted cap admitted) = (cap ≤ MAX_NUMBER) × (admitted ≤ MAX_NUMBER)

-- the verdict has a text of this version behind two diagrams with so many columns
abbrev pub HasVersionText : Version → ℕ → ℕ → Verdict → Type 0
HasVersionText Plain one two v = HasVerdictText one two v
HasVersionText Tidy one two v = HasVerdictText one two v × IsTidyVerdict v

-- ---- diagrams

-- the lines of a diagram
abbrev pub diagram_lines : Diagram → List (List (List ℕ))
diagram_lines (Grid d) = grid_lines d
diagram_lines (Braid b) = braid_lines b

-- the diagram is a grid, or a braid
abbrev pub HasDiagramText : Diagram → Type 0
HasDiagramText (Grid d) = IsGrid d
HasDiagramText (Braid b) = IsBraid b

-- ---- colours

-- the line of colours by column
abbrev pub colours_lines : ArrayVec ℕ → List (List (List ℕ))
colours_lines c = (codes "colours" ∷ map decimal c.items) ∷ []

-- the text of colours
abbrev pub colours_text : ArrayVec ℕ → List ℕ
colours_text c = lines_text (colours_lines c)
