-- A text of a diagram and blocks, and one of blocks alone, fails at its first bad line.
use Rattle.std.proofs.Common.{◌≡◌, ℕ, zero, suc, List, [], ◌∷◌, Bool, true, false, cond, Result, Ok, Err, refl, codes}
use Rattle.quandle_core.specs.declared.operations.TheConstants.{MAX_LARGE_ORDER}
use Rattle.text_lines.specs.Lines.{NumberedLine, Text, first_starts}
use Rattle.verdict_core.specs.declared.diagrams.Diagram.{Diagram}
use Rattle.text_items.specs.declared.fault.TextFault.{TextFault}
use Rattle.text_items.specs.declared.fault.TextFault.TheVariants.{Limit}
use Rattle.text_items.specs.declared.quandles.TheConstants.{MAX_QUANDLES}
use Rattle.text_items.specs.declared.quandles.Written.{Written}
use Rattle.text_items.specs.Reading.{◌>>=◌, next_line, word, text_end}
use Rattle.text_items.specs.Quandles.{written_at}
use Rattle.verdict_text.specs.Diagrams.{diagram_item}
use Rattle.knot_text.specs.FirstBadLine.{FailsFirst}
use Rattle.knot_text.proofs.Steady.{Anywhere}
use Rattle.knot_text.proofs.AtLine.{At, at_limit, at_bind, at_same, word_at, word_keeps}
use Rattle.knot_text.proofs.ItemsAtLine.{written_at_at}
use Rattle.knot_text.proofs.Choices.{choice, choice_fails, same_fails}
use Rattle.knot_text.proofs.FirstFault.{anywhere_seen, then_fails, end_fails}
use Rattle.knot_text.proofs.ShapesFail.{diagram_steady}
use Rattle.evidence_core.specs.declared.blocks.Block.{Block}
use Rattle.number_text.specs.declared.numbered.NumbersText.{NumbersText}
use Rattle.number_text.specs.Blocks.{block_item, surplus_block, listed_blocks, built_in_if_none, blocks_or_built_in, blocks_in}
use Rattle.number_text.specs.Numbered.{numbers_in}
use Rattle.plain_jobs.proofs.TableFails.{line_fails, block_fails}

abbrev given : List Block → Text → Result (List Block × Text) TextFault
given bs text = Ok (bs, text)

-- ---- one block too many

abbrev too_many : ℕ → Result (List Block) TextFault
too_many n = Err (Limit n)

abbrev too_many_read : ℕ → Result (List Block × Text) TextFault
too_many_read n = Err (Limit n)

abbrev surplus_block_line : NumberedLine → Result (List Block) TextFault
surplus_block_line line = word (codes "quandle") line >>= λ rest. written_at rest >>= λ name. too_many line.number

surplus_block_at : (line : NumberedLine) → At line.number (surplus_block_line line)
surplus_block_at line =
    at_bind (word_at (codes "quandle") line) (λ rest e.
    at_bind (at_same ((word_keeps (codes "quandle") line).of rest e) (written_at_at rest)) (λ name g. at_limit))

flat_name : {B : Type 0} (n : ℕ) (s : Result (Written × NumberedLine) TextFault) (text : Text) (k : List Block → Text → Result B TextFault)
    → ((s >>= λ name. too_many_read n) >>= λ bs. k bs.0 bs.1) ≡ ((s >>= λ name. too_many n) >>= λ bs. k bs text)
flat_name n (Ok name) text k = refl
flat_name n (Err e) text k = refl

flat_word : {B : Type 0} (n : ℕ) (s : Result NumberedLine TextFault) (text : Text) (k : List Block → Text → Result B TextFault)
    → ((s >>= λ rest. written_at rest >>= λ name. too_many_read n) >>= λ bs. k bs.0 bs.1)
    ≡ ((s >>= λ rest. written_at rest >>= λ name. too_many n) >>= λ bs. k bs text)
flat_word n (Ok rest) text k = flat_name n (written_at rest) text k
flat_word n (Err e) text k = refl

flat_surplus : {B : Type 0} (r : Result (NumberedLine × Text) TextFault) (k : List Block → Text → Result B TextFault)
    → ((r >>= λ line. word (codes "quandle") line.0 >>= λ rest. written_at rest >>= λ name. too_many_read line.0.number) >>= λ bs. k bs.0 bs.1)
    ≡ (r >>= λ line. surplus_block_line line.0 >>= λ bs. k bs line.1)
flat_surplus (Ok line) k = flat_word line.0.number (word (codes "quandle") line.0) line.1 k
flat_surplus (Err e) k = refl

abbrev surplus_then : {B : Type 0} → (List Block → Text → Result B TextFault) → Text → Result B TextFault
surplus_then k text = surplus_block text >>= λ bs. k bs.0 bs.1

surplus_fails : {B : Type 0} (k : List Block → Text → Result B TextFault) → ((bs : List Block) → FailsFirst (k bs)) → FailsFirst (surplus_then k)
unfolding surplus_block
surplus_fails k fails =
    same_fails (λ text. next_line text >>= λ line. surplus_block_line line.0 >>= λ bs. k bs line.1) (surplus_then k) (λ text. flat_surplus (next_line text) k)
    (line_fails surplus_block_line k surplus_block_at fails)

-- ---- blocks up to the first line behind one that does not begin with `quandle`

abbrev listed_then : {B : Type 0} → ℕ → ℕ → (List Block → Text → Result B TextFault) → Text → Result B TextFault
listed_then most room k text = listed_blocks most room text >>= λ bs. k bs.0 bs.1

abbrev first_then : {B : Type 0} → ℕ → ℕ → (List Block → Text → Result B TextFault) → Text → Result B TextFault
first_then most room k text = block_item most text >>= λ first. listed_then most room (λ others. k (first.0 ∷ others)) first.1

flat_others : {B : Type 0} (first : Block) (s : Result (List Block × Text) TextFault) (k : List Block → Text → Result B TextFault)
    → ((s >>= λ others. given (first ∷ others.0) others.1) >>= λ bs. k bs.0 bs.1) ≡ (s >>= λ others. k (first ∷ others.0) others.1)
flat_others first (Ok others) k = refl
flat_others first (Err e) k = refl

flat_first : {B : Type 0} (most room : ℕ) (r : Result (Block × Text) TextFault) (k : List Block → Text → Result B TextFault)
    → ((r >>= λ first. listed_blocks most room first.1 >>= λ others. given (first.0 ∷ others.0) others.1) >>= λ bs. k bs.0 bs.1)
    ≡ (r >>= λ first. listed_then most room (λ others. k (first.0 ∷ others)) first.1)
flat_first most room (Ok first) k = flat_others first.0 (listed_blocks most room first.1) k
flat_first most room (Err e) k = refl

flat_none : {B : Type 0} (most : ℕ) (k : List Block → Text → Result B TextFault) (text : Text)
    → listed_then most zero k text ≡ choice (codes "quandle") (surplus_then k) (k []) text
unfolding listed_blocks
flat_none {B} most k text = by (first_starts (codes "quandle") text.lines)
  where
    by : (t : Bool) → (cond t (surplus_block text) (given [] text) >>= λ bs. k bs.0 bs.1) ≡ cond t (surplus_then k text) (k [] text)
    by true = refl
    by false = refl

flat_some : {B : Type 0} (most room : ℕ) (k : List Block → Text → Result B TextFault) (text : Text)
    → listed_then most (suc room) k text ≡ choice (codes "quandle") (first_then most room k) (k []) text
unfolding listed_blocks
flat_some {B} most room k text = by (first_starts (codes "quandle") text.lines)
  where
    by : (t : Bool)
        → (cond t (block_item most text >>= λ first. listed_blocks most room first.1 >>= λ others. given (first.0 ∷ others.0) others.1) (given [] text)
        >>= λ bs. k bs.0 bs.1) ≡ cond t (first_then most room k text) (k [] text)
    by true = flat_first most room (block_item most text) k
    by false = refl

list_fails : {B : Type 0} (most room : ℕ) (k : List Block → Text → Result B TextFault) → ((bs : List Block) → FailsFirst (k bs))
    → FailsFirst (listed_then most room k)
list_fails most zero k fails =
    same_fails (choice (codes "quandle") (surplus_then k) (k [])) (listed_then most zero k) (flat_none most k)
    (choice_fails (codes "quandle") (surplus_then k) (k []) (surplus_fails k fails) (fails []))
list_fails most (suc room) k fails =
    same_fails (choice (codes "quandle") (first_then most room k) (k [])) (listed_then most (suc room) k) (flat_some most room k)
    (choice_fails (codes "quandle") (first_then most room k) (k [])
    (block_fails most (λ first. listed_then most room (λ others. k (first ∷ others)))
    (λ first. list_fails most room (λ others. k (first ∷ others)) (λ others. fails (first ∷ others))))
    (fails []))

-- ---- whole texts

abbrev numbers_text : Diagram → List Block → NumbersText
numbers_text d bs = record { diagram = d; blocks = bs }

abbrev ended : Diagram → List Block → Text → Result NumbersText TextFault
ended d bs text = text_end text >>= λ end. Ok (numbers_text d bs)

flat_built_in : {B : Type 0} (s : Result (List Block × Text) TextFault) (k : List Block → Text → Result B TextFault)
    → ((s >>= λ listed. given (built_in_if_none listed.0) listed.1) >>= λ bs. k bs.0 bs.1) ≡ (s >>= λ listed. k (built_in_if_none listed.0) listed.1)
flat_built_in (Ok listed) k = refl
flat_built_in (Err e) k = refl

behind_diagram_fails : (d : Diagram) → FailsFirst (λ text. blocks_or_built_in text >>= λ listed. ended d listed.0 listed.1)
unfolding blocks_or_built_in
behind_diagram_fails d =
    same_fails (listed_then MAX_LARGE_ORDER MAX_QUANDLES (λ bs. ended d (built_in_if_none bs)))
    (λ text. blocks_or_built_in text >>= λ listed. ended d listed.0 listed.1)
    (λ text. flat_built_in (listed_blocks MAX_LARGE_ORDER MAX_QUANDLES text) (ended d))
    (list_fails MAX_LARGE_ORDER MAX_QUANDLES (λ bs. ended d (built_in_if_none bs)) (λ bs. end_fails (numbers_text d (built_in_if_none bs))))

pub numbers_fail : FailsFirst numbers_in
unfolding numbers_in
numbers_fail =
    then_fails Anywhere diagram_item (λ d text. blocks_or_built_in text >>= λ listed. ended d listed.0 listed.1) anywhere_seen diagram_steady
    behind_diagram_fails

pub blocks_fail : FailsFirst blocks_in
unfolding blocks_in
blocks_fail = list_fails MAX_LARGE_ORDER MAX_QUANDLES (λ bs text. text_end text >>= λ end. Ok bs) (λ bs. end_fails bs)
