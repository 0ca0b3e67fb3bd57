-- Texts of the first and the second version are read as before.
use Rattle.std.proofs.Common.{◌≡◌, ◌∙◌, ℕ, List, [], ◌∷◌, Bool, true, false, cond, Result, Ok, Err, refl, sym, ap, codes}
use Rattle.std.specs.Str.{bytes_eq}
use Rattle.std.proofs.lemmas.Bool.{and_parts}
use Rattle.std.proofs.lemmas.Slice.Eq.{bytes_eq-Decides}
use Rattle.text_lines.specs.Lines.{NumberedLine, Text, text_of}
use Rattle.text_items.specs.declared.fault.TextFault.{TextFault}
use Rattle.text_items.specs.declared.fault.TextFault.TheVariants.{Malformed}
use Rattle.text_items.specs.Reading.{◌>>=◌, next_line, next_token, number, line_end, last_number, last_count, word, text_end}
use Rattle.verdict_core.specs.Diagrams.{column_count}
use Rattle.verdict_core.specs.declared.problem.ProblemText.{ProblemText}
use Rattle.verdict_core.specs.declared.verdict.Verdict.{Verdict}
use Rattle.verdict_text.specs.Verdicts.{version_at, tidy_item, versioned_item, verdict_item}
use Rattle.verdict_text.specs.Problems.{problem_item, check_in, check_of}
use Rattle.knot_text.proofs.Steady.{bind_ok, ok_is}
use Rattle.knot_text.proofs.Says.{Says, says_ok, says_bind}
use Rattle.number_text.specs.EvidenceItems.{evidence_item}
use Rattle.number_text.specs.declared.said.Said.{Said}
use Rattle.number_text.specs.declared.said.Said.TheVariants as said
use Rattle.number_text.specs.Said.{is_evidence_head, starts_evidence, evidence_follows, evidence_in, evidence_of, with_verdict, said_of}

pub as_before : (bytes : List ℕ) → evidence_follows (problem_item (text_of bytes)) ≡ false → said_of bytes ≡ with_verdict (check_of bytes)
as_before bytes none = rw none refl

-- the line `certificate 3` is no head line of the second version
not_second : (n : ℕ) → version_at (record { number = n; tokens = codes "certificate" ∷ codes "3" ∷ [] }) ≡ Err (Malformed n)
unfolding version_at word next_token last_count last_number number line_end
not_second n = refl

verdict_fails : (one two n ending : ℕ) (lines : List NumberedLine)
    → verdict_item one two (record { lines = record { number = n; tokens = codes "certificate" ∷ codes "3" ∷ [] } ∷ lines; ending = ending })
    ≡ Err (Malformed n)
unfolding verdict_item versioned_item tidy_item next_line
verdict_fails one two n ending lines = rw (not_second n) refl

third_tokens : (tokens : List (List ℕ)) → is_evidence_head tokens ≡ true → tokens ≡ codes "certificate" ∷ codes "3" ∷ []
third_tokens [] is = absurd cc
third_tokens (word ∷ []) is = absurd cc
third_tokens (word ∷ version ∷ []) is =
    let both = and_parts (bytes_eq word (codes "certificate")) (bytes_eq version (codes "3")) is in
    let first : word ≡ codes "certificate" = (bytes_eq-Decides word (codes "certificate")).0 both.0 in
    let second : version ≡ codes "3" = (bytes_eq-Decides version (codes "3")).0 both.1 in
    rw (first, second) refl
third_tokens (word ∷ version ∷ token ∷ tokens) is = absurd cc

third_fails : (one two : ℕ) (text : Text) → starts_evidence text.lines ≡ true → (x : Verdict × Text) → verdict_item one two text ≡ Ok x → ⊥
third_fails one two text is x read = by text.lines refl is
  where
    by : (lines : List NumberedLine) → text.lines ≡ lines → starts_evidence lines ≡ true → ⊥
    by [] lines_are is = absurd cc
    by (line ∷ lines) lines_are is =
        let tokens = third_tokens line.tokens is in
        let whole : text ≡ record { lines = record { number = line.number; tokens = codes "certificate" ∷ codes "3" ∷ [] } ∷ lines; ending = text.ending } =
        rw (lines_are, tokens) refl in
        let no : Err (Malformed line.number) ≡ Ok x = sym (verdict_fails one two line.number text.ending lines)
        ∙ sym (ap (verdict_item one two) whole) ∙ read in
        cc

-- a text that has been read has no third version
none_third : (r : Result (ProblemText × Text) TextFault) (p : ProblemText × Verdict)
    → (r >>= λ problem. verdict_item (column_count problem.0.first) (column_count problem.0.second) problem.1 >>= λ verdict. text_end verdict.1
    >>= λ end. Ok (problem.0, verdict.0)) ≡ Ok p
    → evidence_follows r ≡ false
none_third (Err e) p read = refl
none_third (Ok problem) p read =
    by (starts_evidence problem.1.lines) refl (verdict_item (column_count problem.0.first) (column_count problem.0.second) problem.1) refl read
  where
    by : (t : Bool) → starts_evidence problem.1.lines ≡ t → (v : Result (Verdict × Text) TextFault)
        → verdict_item (column_count problem.0.first) (column_count problem.0.second) problem.1 ≡ v
        → (v >>= λ verdict. text_end verdict.1 >>= λ end. Ok (problem.0, verdict.0)) ≡ Ok p → starts_evidence problem.1.lines ≡ false
    by false is v v_is read = is
    by true is (Ok x) v_is read = absurd (third_fails (column_count problem.0.first) (column_count problem.0.second) problem.1 is x v_is)
    by true is (Err e) v_is read = absurd cc

check_has_none : (text : Text) (p : ProblemText × Verdict) → check_in text ≡ Ok p → evidence_follows (problem_item text) ≡ false
unfolding check_in
check_has_none text p read = none_third (problem_item text) p read

pub read_so : (bytes : List ℕ) (problem : ProblemText) (verdict : Verdict) → check_of bytes ≡ Ok (problem, verdict)
    → said_of bytes ≡ Ok (problem, said.Verdict verdict)
read_so bytes problem verdict read =
    as_before bytes (check_has_none (text_of bytes) (problem, verdict) read) ∙ ap with_verdict read

-- ---- and what is read as a verdict was read so

-- behind the line `certificate 3` stands no verdict
abbrev IsNoVerdict : Said → Type 0
IsNoVerdict (said.Verdict verdict) = ⊥
IsNoVerdict (said.Evidence evidence) = Unit {0}

pub anything : {A : Type 0} (r : Result A TextFault) → Says r (λ x. Unit {0})
anything r = record { of = λ x is. tt }

third_says : (text : Text) → Says (evidence_in text) (λ x. IsNoVerdict x.1)
unfolding evidence_in
third_says text = says_bind (λ x. Unit {0}) (anything (problem_item text)) (λ problem is.
    says_bind (λ x. Unit {0}) (anything (evidence_item problem.1)) (λ evidence has.
    says_bind (λ x. Unit {0}) (anything (text_end evidence.1)) (λ end ended. says_ok (problem.0, said.Evidence evidence.0) tt)))

same_said : (a b : ProblemText) (v w : Verdict) → ◌≡◌ {A = ProblemText × Said} (a, said.Verdict v) (b, said.Verdict w)
    → ◌≡◌ {A = Result (ProblemText × Verdict) TextFault} (Ok (a, v)) (Ok (b, w))
same_said a b v w is =
    let first : a ≡ b = ap (λ (x : ProblemText × Said). x.0) is in
    let both : said.Verdict v ≡ said.Verdict w = ap (λ (x : ProblemText × Said). x.1) is in
    let second : v ≡ w = cc in
    rw (first, second) refl

pub was_read_so : (bytes : List ℕ) (problem : ProblemText) (verdict : Verdict) → said_of bytes ≡ Ok (problem, said.Verdict verdict)
    → check_of bytes ≡ Ok (problem, verdict)
was_read_so bytes problem verdict read = by (evidence_follows (problem_item (text_of bytes))) read
  where
    by : (t : Bool) → cond t (evidence_of bytes) (with_verdict (check_of bytes)) ≡ Ok (problem, said.Verdict verdict) → check_of bytes ≡ Ok (problem, verdict)
    by true is = absurd ((third_says (text_of bytes)).of (problem, said.Verdict verdict) is)
    by false is =
        let b = bind_ok (check_of bytes) (λ check. Ok (check.0, said.Verdict check.1)) (problem, said.Verdict verdict) is in
        b.1 ∙ same_said b.0.0 problem b.0.1 verdict (ok_is (b.0.0, said.Verdict b.0.1) (problem, said.Verdict verdict) b.2)
