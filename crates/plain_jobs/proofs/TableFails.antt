-- A certificate fails at its first bad line, whether it is one of a table or of what is said of two diagrams.
use Rattle.std.proofs.Common.{◌≡◌, ◌==◌, ◌&&◌, ◌∙◌, inl, inr, ℕ, zero, suc, List, [], ◌∷◌, length, Bool, true, false, cond, Option, Some, None, Result, Ok, Err}
use Rattle.std.proofs.Common.{refl, ap, codes, nat_lt}
use Rattle.std.specs.Prelude.{IsOk}
use Rattle.arrayvec.specs.ArrayVec.{ArrayVec}
use Rattle.cocycle_core.specs.Cocycle.{Cochain}
use Rattle.quandle_core.specs.declared.operations.TheConstants.{MAX_LARGE_ORDER}
use Rattle.text_lines.specs.Lines.{NumberedLine, Text, first_starts}
use Rattle.quandle_core.specs.Names.{NamedQuandle}
use Rattle.verdict_core.specs.declared.diagrams.Diagram.{Diagram}
use Rattle.verdict_core.specs.declared.problem.ProblemText.{ProblemText}
use Rattle.grid_moves.specs.declared.step.Move.{Move}
use Rattle.text_items.specs.declared.fault.TextFault.{TextFault}
use Rattle.text_items.specs.declared.quandles.TheConstants.{MAX_QUANDLES}
use Rattle.text_items.specs.declared.reading.TheConstants.{MAX_NUMBER}
use Rattle.text_items.specs.Reading.{◌>>=◌, in_turn, next_line, word, number, last_number, last_count, at_most, text_end}
use Rattle.text_items.specs.Quandles.{quandle_at, large_quandle_item}
use Rattle.verdict_text.specs.Cocycles.{cocycle_item}
use Rattle.verdict_text.specs.Diagrams.{diagram_item}
use Rattle.verdict_text.specs.Moves.{moves_item}
use Rattle.knot_text.specs.FirstBadLine.{lines_then, FailsFirst}
use Rattle.knot_text.proofs.Steady.{Anywhere, Steady, then_read, then_steady, pure_steady, same_steady, turns_steady}
use Rattle.knot_text.proofs.AtLine.{At, at_ok, at_malformed, at_bind, at_cond, at_same, line_alone, word_at, word_keeps, number_at, number_keeps}
use Rattle.knot_text.proofs.AtLine.{last_number_at, last_number_keeps, last_count_at, at_most_at}
use Rattle.knot_text.proofs.ItemsAtLine.{word_count_at}
use Rattle.knot_text.proofs.ItemsSteady.{line_then, line_then_two, go, go_steady, plan, plan_at, flat_quandle, moves_steady}
use Rattle.knot_text.proofs.WeightsFail.{cocycle_steady}
use Rattle.knot_text.proofs.Choices.{by_next, choice, IsDue, IsOfNextLine, choice_steady, choice_fails, by_next_fails, same_fails}
use Rattle.knot_text.proofs.FirstFault.{anywhere_seen, then_fails, end_fails}
use Rattle.knot_text.proofs.ShapesFail.{diagram_steady}
use Rattle.evidence_core.specs.declared.shadows.SpelledShadow.{SpelledShadow}
use Rattle.number_text.specs.Shadows.{shadow_item}
use Rattle.certificates.proofs.ShadowSteady.{shadow_steady}
use Rattle.certificates.proofs.EvidenceFails.{seeds_at_at, numbers_at_at, said_fails}
use Rattle.number_text.specs.declared.said.Said.{Said}
use Rattle.number_text.specs.Said.{said_in}
use Rattle.evidence_core.specs.declared.blocks.LargeWeighing.{LargeWeighing}
use Rattle.evidence_core.specs.declared.blocks.LargeWeighing.TheVariants.{Strands, Regions}
use Rattle.evidence_core.specs.declared.blocks.Block.{Block}
use Rattle.number_text.specs.BlockCocycles.{cocycle_or_none}
use Rattle.number_text.specs.NumberLines.{seeds_at, numbers_line_at}
use Rattle.number_text.specs.EvidenceItems.{count_of}
use Rattle.number_text.specs.Blocks.{block_item}
use Rattle.table_check.specs.declared.class_items.Class.{Class}
use Rattle.table_check.specs.declared.row_items.OpenPair.{OpenPair}
use Rattle.table_check.specs.declared.row_items.KnotRow.{KnotRow}
use Rattle.table_check.specs.declared.tables.KnotTable.{KnotTable}
use Rattle.table_check.specs.declared.tables.TheConstants.{FOURTH_VERSION}
use Rattle.table_check.specs.Tables.{how_many, blocks_item, numbers_item, wide_item, count_item, counts_item, class_item, classes_item}
use Rattle.table_check.specs.Tables.{pair_at, pair_item, left_item, class_at, row_item, knot_rows_item, starts_table, fourth_at, table_in}
use Rattle.check_job.specs.Input.{as_pair, as_table, certificate_in}

-- ---- a line, and what follows it

abbrev given : {A : Type 0} → A → Text → Result (A × Text) TextFault
given x text = Ok (x, text)

flat_rest : {A B : Type 0} (s : Result A TextFault) (text : Text) (k : A → Text → Result B TextFault)
    → (s >>= λ x. k x text) ≡ ((s >>= λ x. given x text) >>= λ y. k y.0 y.1)
flat_rest (Ok x) text k = refl
flat_rest (Err e) text k = refl

flat_line : {A B : Type 0} (r : Result (NumberedLine × Text) TextFault) (g : NumberedLine → Result A TextFault) (k : A → Text → Result B TextFault)
    → (r >>= λ line. g line.0 >>= λ x. k x line.1) ≡ ((r >>= λ line. g line.0 >>= λ x. given x line.1) >>= λ y. k y.0 y.1)
flat_line (Ok line) g k = flat_rest (g line.0) line.1 k
flat_line (Err e) g k = refl

pub line_fails : {A B : Type 0} (g : NumberedLine → Result A TextFault) (k : A → Text → Result B TextFault) → ((line : NumberedLine) → At line.number (g line))
    → ((a : A) → FailsFirst (k a)) → FailsFirst (λ text. next_line text >>= λ line. g line.0 >>= λ x. k x line.1)
line_fails g k at fails =
    let first = λ (text : Text). next_line text >>= λ line. g line.0 >>= λ x. given x line.1 in
    same_fails (then_read first k) (λ text. next_line text >>= λ line. g line.0 >>= λ x. k x line.1) (λ text. flat_line (next_line text) g k)
    (then_fails Anywhere first k anywhere_seen (line_alone g at) fails)

counted_line_at : (w : List ℕ) (line : NumberedLine) → At line.number (word w line >>= last_count)
unfolding last_count
counted_line_at w line = word_count_at w MAX_NUMBER line

how_many_steady : (w : List ℕ) → Steady Anywhere (how_many w)
unfolding how_many
how_many_steady w = line_then_two (word w) last_count (λ count text. Ok (count, text)) (counted_line_at w) (λ count. pure_steady count)

-- ---- a block, and what stands behind it

flat_quandle_word : (most : ℕ) (s : Result NumberedLine TextFault) (text : Text)
    → (s >>= λ rest. quandle_at most rest text) ≡ (s >>= λ rest. plan most rest >>= λ p. go p text)
flat_quandle_word most (Ok rest) text = flat_quandle most rest text
flat_quandle_word most (Err e) text = refl

flat_quandle_line : (most : ℕ) (r : Result (NumberedLine × Text) TextFault)
    → (r >>= λ line. word (codes "quandle") line.0 >>= λ rest. quandle_at most rest line.1)
    ≡ (r >>= λ line. word (codes "quandle") line.0 >>= λ rest. plan most rest >>= λ p. go p line.1)
flat_quandle_line most (Ok line) = flat_quandle_word most (word (codes "quandle") line.0) line.1
flat_quandle_line most (Err e) = refl

quandle_line_at : (most : ℕ) (line : NumberedLine) → At line.number (word (codes "quandle") line >>= plan most)
quandle_line_at most line = at_bind (word_at (codes "quandle") line) (λ rest e. at_same ((word_keeps (codes "quandle") line).of rest e) (plan_at most rest))

large_quandle_steady : (most : ℕ) → Steady Anywhere (large_quandle_item most)
unfolding large_quandle_item
large_quandle_steady most =
    same_steady Anywhere (λ text. next_line text >>= λ line. word (codes "quandle") line.0 >>= λ rest. plan most rest >>= λ p. go p line.1)
    (large_quandle_item most)
    (λ text. flat_quandle_line most (next_line text))
    (line_then_two (word (codes "quandle")) (plan most) go (quandle_line_at most) go_steady)

abbrev block_with : NamedQuandle → Option LargeWeighing → Block
block_with q o = record { listed = q; cocycle = o }

-- behind a quandle stands a cocycle of either kind, or none
abbrev strands_then : {B : Type 0} → NamedQuandle → (Block → Text → Result B TextFault) → Text → Result B TextFault
strands_then q k text = cocycle_item q.table text >>= λ w. k (block_with q (Some (Strands w.0))) w.1

abbrev regions_then : {B : Type 0} → NamedQuandle → (Block → Text → Result B TextFault) → Text → Result B TextFault
regions_then q k text = shadow_item q.table text >>= λ s. k (block_with q (Some (Regions s.0))) s.1

abbrev quandle_then : {B : Type 0} → NamedQuandle → (Block → Text → Result B TextFault) → Text → Result B TextFault
quandle_then q k text =
    choice (codes "weight") (strands_then q k) (choice (codes "shadow") (regions_then q k) (k (block_with q None))) text

flat_strands : {B : Type 0} (q : NamedQuandle) (k : Block → Text → Result B TextFault) (s : Result (Cochain × Text) TextFault)
    → (((s >>= λ w. given (Some (Strands w.0)) w.1) >>= λ c. given (block_with q c.0) c.1) >>= λ b. k b.0 b.1)
    ≡ (s >>= λ w. k (block_with q (Some (Strands w.0))) w.1)
flat_strands q k (Ok w) = refl
flat_strands q k (Err e) = refl

flat_regions : {B : Type 0} (q : NamedQuandle) (k : Block → Text → Result B TextFault) (s : Result (SpelledShadow × Text) TextFault)
    → (((s >>= λ w. given (Some (Regions w.0)) w.1) >>= λ c. given (block_with q c.0) c.1) >>= λ b. k b.0 b.1)
    ≡ (s >>= λ w. k (block_with q (Some (Regions w.0))) w.1)
flat_regions q k (Ok s) = refl
flat_regions q k (Err e) = refl

flat_behind : {B : Type 0} (q : NamedQuandle) (text : Text) (k : Block → Text → Result B TextFault)
    → ((cocycle_or_none q.table text >>= λ c. given (block_with q c.0) c.1) >>= λ b. k b.0 b.1) ≡ quandle_then q k text
unfolding cocycle_or_none
flat_behind {B} q text k = by (first_starts (codes "weight") text.lines) (first_starts (codes "shadow") text.lines)
  where
    by : (t u : Bool)
        → ((cond t (cocycle_item q.table text >>= λ w. given (Some (Strands w.0)) w.1)
        (cond u (shadow_item q.table text >>= λ s. given (Some (Regions s.0)) s.1) (given None text)) >>= λ c. given (block_with q c.0) c.1) >>= λ b. k b.0 b.1)
        ≡ cond t (strands_then q k text) (cond u (regions_then q k text) (k (block_with q None) text))
    by true u = flat_strands q k (cocycle_item q.table text)
    by false true = flat_regions q k (shadow_item q.table text)
    by false false = refl

flat_block : {B : Type 0} (r : Result (NamedQuandle × Text) TextFault) (k : Block → Text → Result B TextFault)
    → ((r >>= λ q. cocycle_or_none q.0.table q.1 >>= λ c. given (block_with q.0 c.0) c.1) >>= λ b. k b.0 b.1) ≡ (r >>= λ q. quandle_then q.0 k q.1)
flat_block (Ok q) k = flat_behind q.0 q.1 k
flat_block (Err e) k = refl

quandle_then_fails : {B : Type 0} (q : NamedQuandle) (k : Block → Text → Result B TextFault) → ((b : Block) → FailsFirst (k b)) → FailsFirst (quandle_then q k)
quandle_then_fails q k fails =
    choice_fails (codes "weight") (strands_then q k) (choice (codes "shadow") (regions_then q k) (k (block_with q None)))
    (then_fails Anywhere (cocycle_item q.table) (λ w text. k (block_with q (Some (Strands w))) text) anywhere_seen (cocycle_steady q.table)
    (λ w. fails (block_with q (Some (Strands w)))))
    (choice_fails (codes "shadow") (regions_then q k) (k (block_with q None))
    (then_fails Anywhere (shadow_item q.table) (λ s text. k (block_with q (Some (Regions s))) text) anywhere_seen (shadow_steady q.table)
    (λ s. fails (block_with q (Some (Regions s)))))
    (fails (block_with q None)))

pub block_fails : {B : Type 0} (most : ℕ) (k : Block → Text → Result B TextFault) → ((b : Block) → FailsFirst (k b))
    → FailsFirst (λ text. block_item most text >>= λ b. k b.0 b.1)
unfolding block_item
block_fails most k fails =
    same_fails (then_read (large_quandle_item most) (λ q. quandle_then q k)) (λ text. block_item most text >>= λ b. k b.0 b.1)
    (λ text. flat_block (large_quandle_item most text) k)
    (then_fails Anywhere (large_quandle_item most) (λ q. quandle_then q k) anywhere_seen (large_quandle_steady most) (λ q. quandle_then_fails q k fails))

-- so many blocks
flat_others : {B : Type 0} (first : Block) (s : Result (List Block × Text) TextFault) (k : List Block → Text → Result B TextFault)
    → ((s >>= λ others. given (first ∷ others.0) others.1) >>= λ bs. k bs.0 bs.1) ≡ (s >>= λ others. k (first ∷ others.0) others.1)
flat_others first (Ok others) k = refl
flat_others first (Err e) k = refl

flat_turns : {B : Type 0} (item : Text → Result (Block × Text) TextFault) (count : ℕ) (r : Result (Block × Text) TextFault)
    (k : List Block → Text → Result B TextFault)
    → ((r >>= λ first. in_turn item count first.1 >>= λ others. given (first.0 ∷ others.0) others.1) >>= λ bs. k bs.0 bs.1)
    ≡ (r >>= λ first. in_turn item count first.1 >>= λ others. k (first.0 ∷ others.0) others.1)
flat_turns item count (Ok first) k = flat_others first.0 (in_turn item count first.1) k
flat_turns item count (Err e) k = refl

abbrev turns_then : {B : Type 0} → ℕ → ℕ → (List Block → Text → Result B TextFault) → Text → Result B TextFault
turns_then most count k text = in_turn (block_item most) count text >>= λ bs. k bs.0 bs.1

turns_fail : {B : Type 0} (most count : ℕ) (k : List Block → Text → Result B TextFault) → ((bs : List Block) → FailsFirst (k bs))
    → FailsFirst (turns_then most count k)
unfolding in_turn
turns_fail most zero k fails = fails []
turns_fail most (suc count) k fails =
    same_fails (λ text. block_item most text >>= λ first. turns_then most count (λ others. k (first.0 ∷ others)) first.1) (turns_then most (suc count) k)
    (λ text. flat_turns (block_item most) count (block_item most text) k)
    (block_fails most (λ first. turns_then most count (λ others. k (first ∷ others)))
    (λ first. turns_fail most count (λ others. k (first ∷ others)) (λ others. fails (first ∷ others))))

-- the number of blocks, and the blocks
abbrev few_line : NumberedLine → Result ℕ TextFault
few_line line = word (codes "blocks") line >>= λ rest. last_number rest >>= λ count. at_most MAX_QUANDLES count.1.number count.0

flat_few : {B : Type 0} (s : Result ℕ TextFault) (text : Text) (k : List Block → Text → Result B TextFault)
    → ((s >>= λ few. in_turn (block_item MAX_LARGE_ORDER) few text) >>= λ bs. k bs.0 bs.1) ≡ (s >>= λ few. turns_then MAX_LARGE_ORDER few k text)
flat_few (Ok few) text k = refl
flat_few (Err e) text k = refl

flat_count : {B : Type 0} (s : Result (ℕ × NumberedLine) TextFault) (text : Text) (k : List Block → Text → Result B TextFault)
    → ((s >>= λ count. at_most MAX_QUANDLES count.1.number count.0 >>= λ few. in_turn (block_item MAX_LARGE_ORDER) few text) >>= λ bs. k bs.0 bs.1)
    ≡ ((s >>= λ count. at_most MAX_QUANDLES count.1.number count.0) >>= λ few. turns_then MAX_LARGE_ORDER few k text)
flat_count (Ok count) text k = flat_few (at_most MAX_QUANDLES count.1.number count.0) text k
flat_count (Err e) text k = refl

flat_word : {B : Type 0} (s : Result NumberedLine TextFault) (text : Text) (k : List Block → Text → Result B TextFault)
    → ((s >>= λ rest. last_number rest >>= λ count. at_most MAX_QUANDLES count.1.number count.0 >>= λ few. in_turn (block_item MAX_LARGE_ORDER) few text)
    >>= λ bs. k bs.0 bs.1)
    ≡ ((s >>= λ rest. last_number rest >>= λ count. at_most MAX_QUANDLES count.1.number count.0) >>= λ few. turns_then MAX_LARGE_ORDER few k text)
flat_word (Ok rest) text k = flat_count (last_number rest) text k
flat_word (Err e) text k = refl

flat_blocks : {B : Type 0} (r : Result (NumberedLine × Text) TextFault) (k : List Block → Text → Result B TextFault)
    → ((r >>= λ line. word (codes "blocks") line.0 >>= λ rest. last_number rest >>= λ count. at_most MAX_QUANDLES count.1.number count.0
    >>= λ few. in_turn (block_item MAX_LARGE_ORDER) few line.1) >>= λ bs. k bs.0 bs.1)
    ≡ (r >>= λ line. few_line line.0 >>= λ few. turns_then MAX_LARGE_ORDER few k line.1)
flat_blocks (Ok line) k = flat_word (word (codes "blocks") line.0) line.1 k
flat_blocks (Err e) k = refl

blocks_fail : {B : Type 0} (k : List Block → Text → Result B TextFault) → ((bs : List Block) → FailsFirst (k bs))
    → FailsFirst (λ text. blocks_item text >>= λ bs. k bs.0 bs.1)
unfolding blocks_item
blocks_fail k fails =
    same_fails (λ text. next_line text >>= λ line. few_line line.0 >>= λ few. turns_then MAX_LARGE_ORDER few k line.1)
    (λ text. blocks_item text >>= λ bs. k bs.0 bs.1) (λ text. flat_blocks (next_line text) k)
    (line_fails few_line (λ few. turns_then MAX_LARGE_ORDER few k) (word_count_at (codes "blocks") MAX_QUANDLES)
    (λ few. turns_fail MAX_LARGE_ORDER few k fails))

-- ---- classes

numbers_steady : (due : ℕ) → Steady Anywhere (numbers_item due)
unfolding numbers_item
numbers_steady due =
    line_then (numbers_line_at due) (λ list text. Ok (Some list, text)) (numbers_at_at due) (λ list. pure_steady (Some list))

wide_steady : Steady Anywhere wide_item
unfolding wide_item
wide_steady = line_then_two (word (codes "wide")) last_count (λ seeds text. Ok (None, text)) (counted_line_at (codes "wide")) (λ seeds. pure_steady None)

wide_due : IsDue wide_item
unfolding wide_item next_line
wide_due ending = refl

numbers_due : (due : ℕ) → IsDue (numbers_item due)
unfolding numbers_item next_line
numbers_due due ending = refl

count_steady : (due : ℕ) → Steady Anywhere (count_item due)
unfolding count_item
count_steady due = choice_steady (codes "wide") wide_item (numbers_item due) wide_due (numbers_due due) wide_steady (numbers_steady due)

counts_steady : (blocks : List Block) → Steady Anywhere (counts_item blocks)
unfolding counts_item
counts_steady [] = pure_steady []
counts_steady (block ∷ blocks) =
    then_steady Anywhere (count_item (count_of block.cocycle)) (λ first text. counts_item blocks text >>= λ others. Ok (first ∷ others.0, others.1))
    (count_steady (count_of block.cocycle))
    (λ first. then_steady Anywhere (counts_item blocks) (λ others text. Ok (first ∷ others, text)) (counts_steady blocks)
    (λ others. pure_steady (first ∷ others)))

abbrev class_with : Diagram → ArrayVec ℕ → List (Option (List ℕ)) → Class
class_with d seeds counts = record { diagram = d; seeds = seeds; counts = counts }

class_steady : (blocks : List Block) → Steady Anywhere (class_item blocks)
unfolding class_item
class_steady blocks =
    then_steady Anywhere diagram_item
    (λ d text. next_line text >>= λ line. seeds_at line.0 >>= λ seeds. counts_item blocks line.1 >>= λ counts. Ok (class_with d seeds counts.0, counts.1))
    diagram_steady
    (λ d. line_then seeds_at (λ seeds text. counts_item blocks text >>= λ counts. Ok (class_with d seeds counts.0, counts.1)) seeds_at_at
    (λ seeds. then_steady Anywhere (counts_item blocks) (λ counts text. Ok (class_with d seeds counts, text)) (counts_steady blocks)
    (λ counts. pure_steady (class_with d seeds counts))))

classes_steady : (blocks : List Block) → Steady Anywhere (classes_item blocks)
unfolding classes_item
classes_steady blocks =
    then_steady Anywhere (how_many (codes "classes")) (λ count text. in_turn (class_item blocks) count text) (how_many_steady (codes "classes"))
    (λ count. turns_steady (class_item blocks) count (class_steady blocks))

-- ---- pairs that are left open

pair_at_at : (classes : ℕ) (line : NumberedLine) → At line.number (pair_at classes line)
unfolding pair_at
pair_at_at classes line =
    at_bind (word_at (codes "classes") line) (λ rest e.
    let at_rest = (word_keeps (codes "classes") line).of rest e in
    at_bind (at_same at_rest (number_at rest)) (λ first f.
    let at_first = (number_keeps rest).of first f ∙ at_rest in
    at_bind (at_same at_first (last_number_at first.1)) (λ second g.
    let at_second = (last_number_keeps first.1).of second g ∙ at_first in
    at_bind (at_same at_second (at_most_at MAX_NUMBER second.1.number first.0)) (λ low h.
    at_bind (at_same at_second (at_most_at MAX_NUMBER second.1.number second.0)) (λ high k.
    at_cond (nat_lt low high && nat_lt high classes) at_ok at_malformed)))))

pair_steady : (classes : ℕ) → Steady Anywhere (pair_item classes)
unfolding pair_item
pair_steady classes = line_alone (pair_at classes) (pair_at_at classes)

left_steady : (classes : ℕ) → Steady Anywhere (left_item classes)
unfolding left_item
left_steady classes =
    then_steady Anywhere (how_many (codes "open")) (λ count text. in_turn (pair_item classes) count text) (how_many_steady (codes "open"))
    (λ count. turns_steady (pair_item classes) count (pair_steady classes))

-- ---- rows

class_at_at : (classes : ℕ) (line : NumberedLine) → At line.number (class_at classes line)
unfolding class_at
class_at_at classes line =
    at_bind (word_at (codes "class") line) (λ rest e.
    at_bind (at_same ((word_keeps (codes "class") line).of rest e) (last_count_at rest)) (λ class f. at_cond (nat_lt class classes) at_ok at_malformed))

abbrev row_with : Diagram → ℕ → List Move → KnotRow
row_with d class moves = record { diagram = d; class = class; moves = moves }

row_steady : (classes : ℕ) → Steady Anywhere (row_item classes)
unfolding row_item
row_steady classes =
    then_steady Anywhere diagram_item
    (λ d text. next_line text >>= λ line. class_at classes line.0 >>= λ class. moves_item line.1 >>= λ moves. Ok (row_with d class moves.0, moves.1))
    diagram_steady
    (λ d. line_then (class_at classes) (λ class text. moves_item text >>= λ moves. Ok (row_with d class moves.0, moves.1)) (class_at_at classes)
    (λ class. then_steady Anywhere moves_item (λ moves text. Ok (row_with d class moves, text)) moves_steady
    (λ moves. pure_steady (row_with d class moves))))

rows_steady : (classes : ℕ) → Steady Anywhere (knot_rows_item classes)
unfolding knot_rows_item
rows_steady classes =
    then_steady Anywhere (how_many (codes "rows")) (λ count text. in_turn (row_item classes) count text) (how_many_steady (codes "rows"))
    (λ count. turns_steady (row_item classes) count (row_steady classes))

-- ---- a table

fourth_at_at : (line : NumberedLine) → At line.number (fourth_at line)
unfolding fourth_at
fourth_at_at line =
    at_bind (word_at (codes "certificate") line) (λ rest e.
    at_bind (at_same ((word_keeps (codes "certificate") line).of rest e) (last_count_at rest))
    (λ version f. at_cond (version == FOURTH_VERSION) at_ok at_malformed))

abbrev table_with : List Block → List Class → List OpenPair → List KnotRow → KnotTable
table_with blocks classes left rows = record { blocks = blocks; classes = classes; left = left; rows = rows }

abbrev from_rows : List Block → List Class → List OpenPair → Text → Result KnotTable TextFault
from_rows blocks classes left text = knot_rows_item (length classes) text >>= λ rows. text_end rows.1 >>= λ end. Ok (table_with blocks classes left rows.0)

abbrev from_left : List Block → List Class → Text → Result KnotTable TextFault
from_left blocks classes text = left_item (length classes) text >>= λ left. from_rows blocks classes left.0 left.1

abbrev from_classes : List Block → Text → Result KnotTable TextFault
from_classes blocks text = classes_item blocks text >>= λ classes. from_left blocks classes.0 classes.1

from_rows_fails : (blocks : List Block) (classes : List Class) (left : List OpenPair) → FailsFirst (from_rows blocks classes left)
from_rows_fails blocks classes left =
    then_fails Anywhere (knot_rows_item (length classes)) (λ rows text. text_end text >>= λ end. Ok (table_with blocks classes left rows)) anywhere_seen
    (rows_steady (length classes)) (λ rows. end_fails (table_with blocks classes left rows))

from_left_fails : (blocks : List Block) (classes : List Class) → FailsFirst (from_left blocks classes)
from_left_fails blocks classes =
    then_fails Anywhere (left_item (length classes)) (λ left text. from_rows blocks classes left text) anywhere_seen (left_steady (length classes))
    (λ left. from_rows_fails blocks classes left)

from_classes_fails : (blocks : List Block) → FailsFirst (from_classes blocks)
from_classes_fails blocks =
    then_fails Anywhere (classes_item blocks) (λ classes text. from_left blocks classes text) anywhere_seen (classes_steady blocks)
    (λ classes. from_left_fails blocks classes)

pub table_fails : FailsFirst table_in
unfolding table_in
table_fails =
    line_fails fourth_at (λ version text. blocks_item text >>= λ blocks. from_classes blocks.0 blocks.1) fourth_at_at
    (λ version. blocks_fail (λ blocks text. from_classes blocks text) from_classes_fails)

-- ---- a certificate

mapped_err : {A B : Type 0} (f : A → B) (r : Result A TextFault) (fault : TextFault) → r ≡ Err fault → (r >>= λ x. Ok (f x)) ≡ Err fault
mapped_err f r fault is = ap (λ s. s >>= λ x. Ok (f x)) is

mapped_ok : {A B : Type 0} (f : A → B) (r : Result A TextFault) → IsOk r → IsOk (r >>= λ x. Ok (f x))
mapped_ok f (Ok x) is = refl
mapped_ok f (Err e) is = absurd cc

from_mapped : {A B : Type 0} (f : A → B) (r : Result A TextFault) (fault : TextFault) → (r >>= λ x. Ok (f x)) ≡ Err fault → r ≡ Err fault
from_mapped f (Ok x) fault is = absurd cc
from_mapped f (Err e) fault is = let same : e ≡ fault = cc in ap (λ (y : TextFault). Err y) same

map_fails : {A B : Type 0} (f : A → B) (read : Text → Result A TextFault) → FailsFirst read → FailsFirst (λ text. read text >>= λ x. Ok (f x))
map_fails f read fails text fault is = elim (fails text fault (from_mapped f (read text) fault is)) [
  | inl bad ↦ inl (record {
    front = bad.front;
    line = bad.line;
    behind = bad.behind;
    lines = bad.lines;
    first = record {
      names = bad.first.names;
      good = λ e. elim (bad.first.good e) [
        | inl ok ↦ inl (mapped_ok f (read (lines_then bad.front e)) ok)
        | inr due ↦ inr (mapped_err f (read (lines_then bad.front e)) _ due)
      ];
      decided = λ behind e. mapped_err f (read _) fault (bad.first.decided behind e);
    };
  })
  | inr end ↦ inr (record { names = end.names; due = λ e. mapped_err f (read (lines_then text.lines e)) _ (end.due e) })
]

table_of_next : IsOfNextLine starts_table
table_of_next [] ys zs line = refl
table_of_next (x ∷ xs) ys zs line = refl

pub certificate_fails : FailsFirst certificate_in
certificate_fails =
    by_next_fails starts_table (λ text. as_table (table_in text)) (λ text. as_pair (said_in text)) table_of_next refl
    (map_fails (λ (table : KnotTable). inr table) table_in table_fails) (map_fails (λ (pair : ProblemText × Said). inl pair) said_in said_fails)
