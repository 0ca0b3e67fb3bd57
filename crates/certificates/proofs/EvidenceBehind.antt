-- Printed evidence is read back from its bytes, also behind a problem.
use Rattle.std.proofs.Common.{◌≡◌, ℕ, ◌+◌, List, [], ◌++◌, length, true, false, Result, Ok, refl, sym, ap, ap₂, ◌∙◌, append_assoc, codes}
use Rattle.std.specs.Fmt.{decimal, digits}
use Rattle.std.proofs.lemmas.List.{append-nil}
use Rattle.text_lines.specs.Lines.{NumberedLine, Text, first_starts, line_count, are_whole_lines, text_from, text_of}
use Rattle.text_lines.specs.Spelled.{numbered}
use Rattle.knot_text.proofs.LastFeed.{feed_added, feed_ends}
use Rattle.knot_text.proofs.Written.{lines_read}
use Rattle.knot_text.proofs.Parted.{text_lines_parted, text_ending_parted}
use Rattle.text_items.specs.declared.fault.TextFault.{TextFault}
use Rattle.text_items.specs.Reading.{◌>>=◌, text_end}
use Rattle.verdict_core.specs.declared.problem.ProblemText.{ProblemText}
use Rattle.verdict_text.specs.Problems.{problem_item, problem_in, problem_of}
use Rattle.knot_text.specs.FirstBadLine.{lines_then, with_lines_behind}
use Rattle.knot_text.proofs.ReadBack.{no_lines, at_end}
use Rattle.knot_text.proofs.Steady.{bind_ok, ok_is}
use Rattle.knot_text.proofs.StepsAgain.{lines_before}
use Rattle.knot_text.proofs.ShapesFail.{problem_stable}
use Rattle.evidence_core.specs.declared.evidence.Evidence.{Evidence}
use Rattle.number_text.specs.declared.evidence_items.TheConstants.{THIRD_VERSION}
use Rattle.number_text.specs.EvidenceItems.{evidence_item}
use Rattle.number_text.specs.declared.said.Said.{Said}
use Rattle.number_text.specs.declared.said.Said.TheVariants as said
use Rattle.number_text.specs.Said.{starts_evidence, evidence_follows, evidence_in, evidence_of, said_of}
use Rattle.certificates.specs.Printed.{third_lines, third_text, HasEvidenceText}
use Rattle.certificates.proofs.EvidenceAgain.{third_again}
use Rattle.certificates.proofs.EvidenceWords.{third_words}

pub evidence_read : (n : ℕ) (evidence : Evidence) (more : List ℕ) → HasEvidenceText evidence
    → evidence_item (text_from n (third_text evidence ++ more)) ≡ Ok (evidence, text_from (n + length (third_lines evidence)) more)
evidence_read n evidence more has =
    ap evidence_item (lines_read n (third_lines evidence) more (third_words evidence has))
    ∙ third_again n evidence (text_from (n + length (third_lines evidence)) more) has

-- ---- behind a problem

-- alone it has its own lines
alone : (n : ℕ) (evidence : Evidence) → HasEvidenceText evidence
    → text_from n (third_text evidence) ≡ lines_before (numbered n (third_lines evidence)) (text_from (n + length (third_lines evidence)) [])
alone n evidence has =
    ap (text_from n) (sym (append-nil (third_text evidence))) ∙ lines_read n (third_lines evidence) [] (third_words evidence has)

no_quandle : (n : ℕ) (evidence : Evidence) → HasEvidenceText evidence → first_starts (codes "quandle") (text_from n (third_text evidence)).lines ≡ false
no_quandle n evidence has = ap (λ (t : Text). first_starts (codes "quandle") t.lines) (alone n evidence has)

-- so its first line is that of the third version
third_token : decimal THIRD_VERSION ≡ codes "3"
unfolding digits
third_token = refl

third_first : (n : ℕ) (evidence : Evidence) (text : Text) → starts_evidence (lines_before (numbered n (third_lines evidence)) text).lines ≡ true
third_first n evidence text = rw third_token refl

third_there : (n : ℕ) (evidence : Evidence) → HasEvidenceText evidence → starts_evidence (text_from n (third_text evidence)).lines ≡ true
third_there n evidence has =
    ap (λ (t : Text). starts_evidence t.lines) (alone n evidence has) ∙ third_first n evidence (text_from (n + length (third_lines evidence)) [])

-- and is read to its end
abbrev ended : ProblemText → Evidence × Text → Result (ProblemText × Said) TextFault
ended problem evidence = text_end evidence.1 >>= λ end. Ok (problem, said.Evidence evidence.0)

abbrev behind_problem : ProblemText × Text → Result (ProblemText × Said) TextFault
behind_problem problem = evidence_item problem.1 >>= λ evidence. ended problem.0 evidence

to_the_end : (n : ℕ) (problem : ProblemText) (evidence : Evidence) → HasEvidenceText evidence
    → behind_problem (problem, text_from n (third_text evidence)) ≡ Ok (problem, said.Evidence evidence)
to_the_end n problem evidence has =
    let k = n + length (third_lines evidence) in
    let read : evidence_item (text_from n (third_text evidence)) ≡ Ok (evidence, text_from k []) =
    ap (λ (bytes : List ℕ). evidence_item (text_from n bytes)) (sym (append-nil (third_text evidence))) ∙ evidence_read n evidence [] has in
    let last : ended problem (evidence, text_from k []) ≡ Ok (problem, said.Evidence evidence) =
    ap (λ r. r >>= λ end. Ok (problem, said.Evidence evidence)) (at_end k) in
    ap (λ r. r >>= λ w. ended problem w) read ∙ last

whole_third : (text : Text) (problem : ProblemText) (tail : Text) → problem_item text ≡ Ok (problem, tail) → evidence_in text ≡ behind_problem (problem, tail)
unfolding evidence_in
whole_third text problem tail item = ap (λ r. r >>= λ p. behind_problem p) item

said_third : (bytes : List ℕ) (problem : ProblemText) (tail : Text) → problem_item (text_of bytes) ≡ Ok (problem, tail) → starts_evidence tail.lines ≡ true
    → said_of bytes ≡ evidence_of bytes
said_third bytes problem tail item third =
    let has : evidence_follows (problem_item (text_of bytes)) ≡ true = ap evidence_follows item ∙ third in
    rw has refl

pub evidence_behind : (bytes : List ℕ) (problem : ProblemText) (evidence : Evidence) → are_whole_lines bytes ≡ true → problem_of bytes ≡ Ok problem
    → HasEvidenceText evidence → said_of (bytes ++ third_text evidence) ≡ Ok (problem, said.Evidence evidence)
unfolding problem_in
evidence_behind bytes problem evidence whole is has =
    let all = bytes ++ third_text evidence in
    let q = bind_ok (problem_item (text_of bytes)) (λ x. text_end x.1 >>= λ end. Ok x.0) problem is in
    let rest = q.0.1 in
    let e = bind_ok (text_end rest) (λ end. Ok q.0.0) problem q.2 in
    let same : q.0.0 ≡ problem = ok_is q.0.0 problem e.2 in
    let none = no_lines rest e.0 e.1 in
    let m = 0 + line_count bytes in
    let tail = text_from m (third_text evidence) in
    let text : text_of all ≡ with_lines_behind (text_of bytes) tail.lines tail.ending =
    ap₂ lines_then (text_lines_parted 0 bytes (third_text evidence) whole) (text_ending_parted 0 bytes (third_text evidence) whole) in
    let behind : with_lines_behind rest tail.lines tail.ending ≡ tail = ap (λ (ls : List NumberedLine). lines_then (ls ++ tail.lines) tail.ending) none in
    let item : problem_item (text_of all) ≡ Ok (problem, tail) =
    ap problem_item text ∙ problem_stable (text_of bytes) q.0.0 rest q.1 tail.lines tail.ending (no_quandle m evidence has)
    ∙ ap₂ (λ (x : ProblemText) (t : Text). Ok (x, t)) same behind in
    said_third all problem tail item (third_there m evidence has) ∙ whole_third (text_of all) problem tail item ∙ to_the_end m problem evidence has

-- the same with a line feed between, where the last line of the problem lacks one
pub evidence_behind_feed : (bytes : List ℕ) (problem : ProblemText) (evidence : Evidence) → are_whole_lines bytes ≡ false → problem_of bytes ≡ Ok problem
    → HasEvidenceText evidence → said_of (bytes ++ (codes "\n" ++ third_text evidence)) ≡ Ok (problem, said.Evidence evidence)
evidence_behind_feed bytes problem evidence lacks is has =
    let same : problem_of (bytes ++ codes "\n") ≡ Ok problem = ap problem_in (feed_added 0 bytes lacks) ∙ is in
    ap said_of (sym (append_assoc bytes (codes "\n") (third_text evidence))) ∙ evidence_behind (bytes ++ codes "\n") problem evidence (feed_ends bytes) same has
