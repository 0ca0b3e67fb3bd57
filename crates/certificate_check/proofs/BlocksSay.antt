-- A block that was read has a text, and so has the block of evidence that was read.
use Rattle.std.proofs.Common.{◌≡◌, ◌≤◌, ℕ, zero, suc, List, [], ◌∷◌, Bool, true, false, cond, Option, Some, None, Ok, Err, ap, codes, arith}
use Rattle.std.specs.List.{AllByRecursion}
use Rattle.std.specs.Str.{bytes_eq}
use Rattle.quandle_core.specs.declared.operations.TheConstants.{MAX_LARGE_ORDER}
use Rattle.quandle_core.specs.Quandle.{Table, IsQuandle}
use Rattle.text_lines.specs.Lines.{NumberedLine, Text, begins, text_of}
use Rattle.verdict_core.specs.declared.problem.ProblemText.{ProblemText}
use Rattle.quandle_core.specs.Names.{NamedQuandle}
use Rattle.quandle_core.proofs.Named.{named_within, named_wider}
use Rattle.text_items.specs.Reading.{◌>>=◌, next_line, next_token, line_end, word, text_end}
use Rattle.text_items.specs.Quandles.{written_at, large_quandle_item}
use Rattle.knot_text.specs.Printed.{HasQuandleTextWithin}
use Rattle.knot_text.specs.WrittenThere.{cocycle_lines, HasCocycleText}
use Rattle.verdict_text.specs.Problems.{problem_item, check_of}
use Rattle.knot_text.proofs.Steady.{bind_ok, ok_is}
use Rattle.knot_text.proofs.Says.{Says, says_ok, says_err, says_bind, says_if, says_more}
use Rattle.knot_text.proofs.ItemsSay.{IsWritten}
use Rattle.knot_text.proofs.QuandleSays.{IsQuandleAt, quandle_at_says}
use Rattle.knot_text.proofs.CocycleSays.{cocycle_says}
use Rattle.certificates.specs.Shadows.{HasShadowText}
use Rattle.certificates.proofs.Earlier.{anything}
use Rattle.certificates.proofs.ShadowSays.{shadow_says}
use Rattle.evidence_core.specs.declared.blocks.LargeWeighing.TheVariants.{Strands, Regions}
use Rattle.evidence_core.specs.declared.blocks.Block.{Block}
use Rattle.evidence_core.specs.declared.evidence.Evidence.{Evidence}
use Rattle.evidence_core.specs.declared.evidence.Evidence.TheVariants.{Numbers, Linking}
use Rattle.number_text.specs.Blocks.{block_item, surplus_block, listed_blocks}
use Rattle.number_text.specs.BlockCocycles.{cocycle_or_none}
use Rattle.number_text.specs.NumberLines.{seeded_numbers_item, linked_item}
use Rattle.number_text.specs.EvidenceItems.{count_of, numbers_evidence, linking_evidence, evidence_at, head_at, evidence_item}
use Rattle.number_text.specs.declared.said.Said.{Said}
use Rattle.number_text.specs.declared.said.Said.TheVariants as said
use Rattle.number_text.specs.Said.{evidence_follows, evidence_in, evidence_of, with_verdict, said_of}
use Rattle.certificates.specs.Printed.{HasPerhapsText, HasBlockText}

perhaps_says : (quandle : Table) (text : Text) → IsQuandle quandle → Says (cocycle_or_none quandle text) (λ x. HasPerhapsText quandle x.0)
unfolding cocycle_or_none
perhaps_says quandle text is = says_if (begins (codes "weight") text)
    (λ some. says_bind (IsWritten (HasCocycleText quandle) cocycle_lines text) (cocycle_says quandle text is)
    (λ w written. says_ok (Some (Strands w.0), w.1) written.0))
    (λ other. says_if (begins (codes "shadow") text)
    (λ some. says_bind (λ x. HasShadowText quandle x.0) (shadow_says quandle text is) (λ s has. says_ok (Some (Regions s.0), s.1) has))
    (λ none. says_ok (None, text) tt))

-- what has a text within a bound has one as a block's quandle
block_named : (most : ℕ) (q : NamedQuandle) → most ≤ MAX_LARGE_ORDER → HasQuandleTextWithin most q → HasQuandleTextWithin MAX_LARGE_ORDER q
block_named most q few has = record { names = named_wider most MAX_LARGE_ORDER q.name q.table few has.names; factor = has.factor }

quandle_says : (most : ℕ) (text : Text) → most ≤ MAX_LARGE_ORDER → Says (large_quandle_item most text) (λ x. HasQuandleTextWithin MAX_LARGE_ORDER x.0)
unfolding large_quandle_item
quandle_says most text few = says_bind (λ x. Unit {0}) (anything (next_line text)) (λ line there.
    says_bind (λ x. Unit {0}) (anything (word (codes "quandle") line.0)) (λ rest named.
    says_more (λ q is. block_named most q.0 few is.text) (quandle_at_says most (omega (arith, few)) rest line.1)))

block_says : (most : ℕ) (text : Text) → most ≤ MAX_LARGE_ORDER → Says (block_item most text) (λ x. HasBlockText x.0)
unfolding block_item
block_says most text few = says_bind (λ x. HasQuandleTextWithin MAX_LARGE_ORDER x.0) (quandle_says most text few) (λ q named.
    says_bind (λ x. HasPerhapsText q.0.table x.0) (perhaps_says q.0.table q.1 (named_within MAX_LARGE_ORDER q.0.name q.0.table named.names)) (λ w cocycle.
    says_ok (record { listed = q.0; cocycle = w.0 }, w.1) (record { listed = named; cocycle = cocycle })))

surplus_says : (text : Text) → Says (surplus_block text) (λ x. AllByRecursion HasBlockText x.0)
unfolding surplus_block
surplus_says text = says_bind (λ x. Unit {0}) (anything (next_line text)) (λ line there.
    says_bind (λ x. Unit {0}) (anything (word (codes "quandle") line.0)) (λ rest named.
    says_bind (λ x. Unit {0}) (anything (written_at rest)) (λ name is. says_err)))

blocks_say : (most : ℕ) → most ≤ MAX_LARGE_ORDER → (room : ℕ) (text : Text) → Says (listed_blocks most room text) (λ x. AllByRecursion HasBlockText x.0)
unfolding listed_blocks
blocks_say most few zero text = says_if (begins (codes "quandle") text) (λ more. surplus_says text) (λ none. says_ok ([], text) tt)
blocks_say most few (suc room) text = says_if (begins (codes "quandle") text) (λ more.
    says_bind (λ x. HasBlockText x.0) (block_says most text few) (λ first has.
    says_bind (λ x. AllByRecursion HasBlockText x.0) (blocks_say most few room first.1) (λ others each. says_ok (first.0 ∷ others.0, others.1) (has, each))))
    (λ none. says_ok ([], text) tt)

pub block_text : (most : ℕ) (text rest : Text) (b : Block) → most ≤ MAX_LARGE_ORDER → block_item most text ≡ Ok (b, rest) → HasBlockText b
block_text most text rest b few read = (block_says most text few).of (b, rest) read

pub blocks_text : (most room : ℕ) (text rest : Text) (bs : List Block) → most ≤ MAX_LARGE_ORDER → listed_blocks most room text ≡ Ok (bs, rest)
    → AllByRecursion HasBlockText bs
blocks_text most room text rest bs few read = (blocks_say most few room text).of (bs, rest) read

-- ---- evidence

-- the block of evidence, if it is by one, has a text
abbrev pub HasBlock : Evidence → Type 0
HasBlock (Numbers b one two) = HasBlockText b
HasBlock (Linking one two) = Unit {0}

numbers_say : (line : NumberedLine) (text : Text) → Says (numbers_evidence line text) (λ x. HasBlock x.0)
unfolding numbers_evidence
numbers_say line text = says_bind (IsQuandleAt MAX_LARGE_ORDER line.tokens text) (quandle_at_says MAX_LARGE_ORDER (omega arith) line text) (λ q named.
    says_bind (λ x. HasPerhapsText q.0.table x.0) (perhaps_says q.0.table q.1 (named_within MAX_LARGE_ORDER q.0.name q.0.table named.text.names)) (λ w cocycle.
    says_bind (λ x. Unit {0}) (anything (seeded_numbers_item (count_of w.0) w.1)) (λ first one.
    says_bind (λ x. Unit {0}) (anything (seeded_numbers_item (count_of w.0) first.1)) (λ second two.
    says_ok (Numbers (record { listed = q.0; cocycle = w.0 }) first.0 second.0, second.1) (record { listed = named.text; cocycle = cocycle })))))

linking_says : (line : NumberedLine) (text : Text) → Says (linking_evidence line text) (λ x. HasBlock x.0)
unfolding linking_evidence
linking_says line text = says_bind (λ x. Unit {0}) (anything (line_end line)) (λ end ended.
    says_bind (λ x. Unit {0}) (anything (linked_item text)) (λ first one.
    says_bind (λ x. Unit {0}) (anything (linked_item first.1)) (λ second two. says_ok (Linking first.0 second.0, second.1) tt)))

evidence_says : (line : NumberedLine) (text : Text) → Says (evidence_at line text) (λ x. HasBlock x.0)
unfolding evidence_at
evidence_says line text = says_bind (λ x. Unit {0}) (anything (word (codes "different") line)) (λ rest named.
    says_bind (λ x. Unit {0}) (anything (next_token rest)) (λ kind token.
    says_if (bytes_eq kind.0 (codes "numbers")) (λ numbers. numbers_say kind.1 text) (λ others.
    says_if (bytes_eq kind.0 (codes "linking")) (λ linking. linking_says kind.1 text) (λ none. says_err))))

third_says : (text : Text) → Says (evidence_item text) (λ x. HasBlock x.0)
unfolding evidence_item
third_says text = says_bind (λ x. Unit {0}) (anything (next_line text)) (λ head there.
    says_bind (λ x. Unit {0}) (anything (head_at head.0)) (λ version is.
    says_bind (λ x. Unit {0}) (anything (next_line head.1)) (λ line behind. evidence_says line.0 line.1)))

-- ---- what is said

abbrev HasBlockSaid : Said → Type 0
HasBlockSaid (said.Verdict verdict) = Unit {0}
HasBlockSaid (said.Evidence evidence) = HasBlock evidence

third_in_says : (text : Text) → Says (evidence_in text) (λ x. HasBlockSaid x.1)
unfolding evidence_in
third_in_says text = says_bind (λ x. Unit {0}) (anything (problem_item text)) (λ problem is.
    says_bind (λ x. HasBlock x.0) (third_says problem.1) (λ evidence has.
    says_bind (λ x. Unit {0}) (anything (text_end evidence.1)) (λ end ended. says_ok (problem.0, said.Evidence evidence.0) has)))

pub said_block : (bytes : List ℕ) (p : ProblemText) (evidence : Evidence) → said_of bytes ≡ Ok (p, said.Evidence evidence) → HasBlock evidence
said_block bytes p evidence read = by (evidence_follows (problem_item (text_of bytes))) read
  where
    by : (t : Bool) → cond t (evidence_of bytes) (with_verdict (check_of bytes)) ≡ Ok (p, said.Evidence evidence) → HasBlock evidence
    by true is = (third_in_says (text_of bytes)).of (p, said.Evidence evidence) is
    by false is =
        let b = bind_ok (check_of bytes) (λ check. Ok (check.0, said.Verdict check.1)) (p, said.Evidence evidence) is in
        let no : said.Verdict b.0.1 ≡ said.Evidence evidence =
        ap (λ (y : ProblemText × Said). y.1) (ok_is (b.0.0, said.Verdict b.0.1) (p, said.Evidence evidence) b.2) in
        absurd cc
