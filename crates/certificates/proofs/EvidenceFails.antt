-- What is said of two diagrams fails at its first bad line.
use Rattle.std.proofs.Common.{◌≡◌, ◌==◌, ◌∙◌, ◌⊎◌, inl, inr, ℕ, ℤ, List, [], ◌∷◌, ◌++◌, length, map, Bool, true, false, cond, Option, Some, None, Result, Ok}
use Rattle.std.proofs.Common.{Err, refl, sym, ap, codes}
use Rattle.std.specs.List.{list_any}
use Rattle.std.specs.Str.{bytes_eq}
use Rattle.arrayvec.specs.ArrayVec.{ArrayVec}
use Rattle.cocycle_core.specs.Cocycle.{Cochain}
use Rattle.quandle_core.specs.declared.operations.TheConstants.{MAX_LARGE_ORDER}
use Rattle.text_lines.specs.Lines.{NumberedLine, Text, first_starts}
use Rattle.quandle_core.specs.Names.{NamedQuandle}
use Rattle.verdict_core.specs.Diagrams.{column_count}
use Rattle.verdict_core.specs.declared.problem.ProblemText.{ProblemText}
use Rattle.verdict_core.specs.declared.verdict.Verdict.{Verdict}
use Rattle.text_items.specs.declared.fault.TextFault.{TextFault}
use Rattle.text_items.specs.declared.fault.TextFault.TheVariants.{Malformed}
use Rattle.text_items.specs.declared.reading.TheConstants.{MAX_NUMBER}
use Rattle.text_items.specs.Reading.{◌>>=◌, next_line, next_token, line_end, word, last_count, text_end}
use Rattle.text_items.specs.NumberLists.{line_numbers, is_long}
use Rattle.text_items.specs.Numbers.{numbers_behind, low}
use Rattle.text_items.specs.Braids.{letters, letter_of, is_long_letter}
use Rattle.verdict_text.specs.Cocycles.{cocycle_item}
use Rattle.text_items.specs.Quandles.{quandle_at}
use Rattle.verdict_text.specs.Verdicts.{verdict_item}
use Rattle.verdict_text.specs.Problems.{problem_item, check_in}
use Rattle.knot_text.specs.FirstBadLine.{FailsFirst}
use Rattle.knot_text.proofs.Steady.{Anywhere, Steady, then_read, then_steady, pure_steady, same_steady}
use Rattle.knot_text.proofs.AtLine.{At, at_ok, at_malformed, at_limit, at_bind, at_cond, at_same, word_at, word_keeps, last_count_at, line_end_at}
use Rattle.knot_text.proofs.AtLine.{numbers_at as each_number_at, tokens_at}
use Rattle.knot_text.proofs.ItemsAtLine.{numbers_behind_at, chosen_at, word_count_at}
use Rattle.knot_text.proofs.ItemsSteady.{line_then, Plan, go, go_steady, plan, plan_at, flat_quandle, flat_choice, verdict_steady}
use Rattle.knot_text.proofs.WeightsFail.{cocycle_steady}
use Rattle.knot_text.proofs.Choices.{by_next, choice, IsDue, IsOfNextLine, choice_steady, by_next_fails, same_fails}
use Rattle.knot_text.proofs.QuandlesSteady.{AtOther, other_seen}
use Rattle.knot_text.proofs.FirstFault.{anywhere_seen, then_fails, end_fails}
use Rattle.knot_text.proofs.ShapesFail.{problem_steady}
use Rattle.evidence_core.specs.declared.shadows.SpelledShadow.{SpelledShadow}
use Rattle.number_text.specs.Shadows.{shadow_item}
use Rattle.certificates.proofs.ShadowSteady.{shadow_steady}
use Rattle.evidence_core.specs.declared.blocks.LargeWeighing.{LargeWeighing}
use Rattle.evidence_core.specs.declared.blocks.LargeWeighing.TheVariants.{Strands, Regions}
use Rattle.evidence_core.specs.declared.blocks.Block.{Block}
use Rattle.evidence_core.specs.declared.evidence.Counted.{Counted}
use Rattle.evidence_core.specs.declared.evidence.Linked.{Linked}
use Rattle.evidence_core.specs.declared.evidence.Evidence.{Evidence}
use Rattle.evidence_core.specs.declared.evidence.Evidence.TheVariants.{Numbers, Linking}
use Rattle.number_text.specs.declared.evidence_items.TheConstants.{THIRD_VERSION}
use Rattle.number_text.specs.BlockCocycles.{cocycle_or_none}
use Rattle.number_text.specs.NumberLines.{seeds_at, numbers_line_at, seeded_numbers_item, components_at, linking_numbers_at, linked_item}
use Rattle.number_text.specs.EvidenceItems.{count_of, numbers_evidence, linking_evidence, evidence_at, head_at, evidence_item}
use Rattle.number_text.specs.declared.said.Said.{Said}
use Rattle.number_text.specs.declared.said.Said.TheVariants as said
use Rattle.number_text.specs.Said.{is_evidence_head, starts_evidence, evidence_follows, evidence_in, with_verdict, said_in}

-- ---- lines of numbers

pub seeds_at_at : (line : NumberedLine) → At line.number (seeds_at line)
unfolding seeds_at
seeds_at_at line = at_bind (numbers_behind_at (codes "seeds") line) (λ values e. at_ok)

pub numbers_at_at : (count : ℕ) (line : NumberedLine) → At line.number (numbers_line_at count line)
unfolding numbers_line_at
numbers_at_at count line =
    at_bind (word_at (codes "numbers") line) (λ rest e. at_same ((word_keeps (codes "numbers") line).of rest e)
    (at_bind (each_number_at rest) (λ values f. at_cond (list_any is_long values) at_limit (at_cond (length values == count) at_ok at_malformed))))

abbrev counted_with : ArrayVec ℕ → List ℕ → Counted
counted_with seeds list = record { seeds = seeds; numbers = list }

counted_steady : (count : ℕ) → Steady Anywhere (seeded_numbers_item count)
unfolding seeded_numbers_item
counted_steady count =
    line_then seeds_at (λ seeds text. next_line text >>= λ two. numbers_line_at count two.0 >>= λ list. Ok (counted_with seeds list, two.1)) seeds_at_at
    (λ seeds. line_then (numbers_line_at count) (λ list text. Ok (counted_with seeds list, text)) (numbers_at_at count)
    (λ list. pure_steady (counted_with seeds list)))

components_at_at : (line : NumberedLine) → At line.number (components_at line)
unfolding components_at last_count
components_at_at line = word_count_at (codes "components") MAX_NUMBER line

letters_at_at : (line : NumberedLine) → At line.number (linking_numbers_at line)
unfolding linking_numbers_at
letters_at_at line =
    at_bind (word_at (codes "numbers") line) (λ rest e. at_same ((word_keeps (codes "numbers") line).of rest e)
    (at_bind (tokens_at letter_of rest.number rest.tokens) (λ values f. at_cond (list_any is_long_letter values) at_limit at_ok)))

abbrev linked_with : ℕ → List ℤ → Linked
linked_with count list = record { components = count; numbers = list }

linked_steady : Steady Anywhere linked_item
unfolding linked_item
linked_steady =
    line_then components_at (λ count text. next_line text >>= λ two. linking_numbers_at two.0 >>= λ list. Ok (linked_with count list, two.1)) components_at_at
    (λ count. line_then linking_numbers_at (λ list text. Ok (linked_with count list, text)) letters_at_at (λ list. pure_steady (linked_with count list)))

-- ---- the numbers of both diagrams, behind a quandle

abbrev block_with : NamedQuandle → Option LargeWeighing → Block
block_with q o = record { listed = q; cocycle = o }

abbrev both_counted : NamedQuandle → Option LargeWeighing → Text → Result (Evidence × Text) TextFault
both_counted q o text =
    seeded_numbers_item (count_of o) text >>= λ first. seeded_numbers_item (count_of o) first.1 >>= λ second. Ok
    (Numbers (block_with q o) first.0 second.0, second.1)

both_steady : (q : NamedQuandle) (o : Option LargeWeighing) → Steady Anywhere (both_counted q o)
both_steady q o =
    then_steady Anywhere (seeded_numbers_item (count_of o))
    (λ first text. seeded_numbers_item (count_of o) text >>= λ second. Ok (Numbers (block_with q o) first second.0, second.1)) (counted_steady (count_of o))
    (λ first. then_steady Anywhere (seeded_numbers_item (count_of o)) (λ second text. Ok (Numbers (block_with q o) first second, text))
    (counted_steady (count_of o))
    (λ second. pure_steady (Numbers (block_with q o) first second)))

-- behind a cocycle of either kind, or none
abbrev weighed : NamedQuandle → Text → Result (Evidence × Text) TextFault
weighed q text = cocycle_item q.table text >>= λ w. both_counted q (Some (Strands w.0)) w.1

abbrev shaded : NamedQuandle → Text → Result (Evidence × Text) TextFault
shaded q text = shadow_item q.table text >>= λ s. both_counted q (Some (Regions s.0)) s.1

weighed_steady : (q : NamedQuandle) → Steady Anywhere (weighed q)
weighed_steady q =
    then_steady Anywhere (cocycle_item q.table) (λ w text. both_counted q (Some (Strands w)) text) (cocycle_steady q.table)
    (λ w. both_steady q (Some (Strands w)))

shaded_steady : (q : NamedQuandle) → Steady Anywhere (shaded q)
shaded_steady q =
    then_steady Anywhere (shadow_item q.table) (λ s text. both_counted q (Some (Regions s)) text) (shadow_steady q.table)
    (λ s. both_steady q (Some (Regions s)))

weighed_due : (q : NamedQuandle) → IsDue (weighed q)
unfolding cocycle_item next_line
weighed_due q ending = refl

shaded_due : (q : NamedQuandle) → IsDue (shaded q)
unfolding shadow_item next_line
shaded_due q ending = refl

alone_due : (q : NamedQuandle) → IsDue (both_counted q None)
unfolding seeded_numbers_item next_line
alone_due q ending = refl

abbrev behind_quandle : NamedQuandle → Text → Result (Evidence × Text) TextFault
behind_quandle q text = cocycle_or_none q.table text >>= λ w. both_counted q w.0 w.1

-- without a 2-cocycle
abbrev others : NamedQuandle → Text → Result (Evidence × Text) TextFault
others q text = choice (codes "shadow") (shaded q) (both_counted q None) text

others_steady : (q : NamedQuandle) → Steady Anywhere (others q)
others_steady q =
    choice_steady (codes "shadow") (shaded q) (both_counted q None) (shaded_due q) (alone_due q) (shaded_steady q) (both_steady q None)

others_due : (q : NamedQuandle) → IsDue (others q)
others_due q ending = alone_due q ending

abbrev as_strands : Result (Cochain × Text) TextFault → Result (Option LargeWeighing × Text) TextFault
as_strands r = r >>= λ w. Ok (Some (Strands w.0), w.1)

abbrev as_regions : Result (SpelledShadow × Text) TextFault → Result (Option LargeWeighing × Text) TextFault
as_regions r = r >>= λ s. Ok (Some (Regions s.0), s.1)

flat_strands : (q : NamedQuandle) (r : Result (Cochain × Text) TextFault)
    → (as_strands r >>= λ w. both_counted q w.0 w.1) ≡ (r >>= λ w. both_counted q (Some (Strands w.0)) w.1)
flat_strands q (Ok w) = refl
flat_strands q (Err e) = refl

flat_regions : (q : NamedQuandle) (r : Result (SpelledShadow × Text) TextFault)
    → (as_regions r >>= λ w. both_counted q w.0 w.1) ≡ (r >>= λ s. both_counted q (Some (Regions s.0)) s.1)
flat_regions q (Ok s) = refl
flat_regions q (Err e) = refl

behind_is : (q : NamedQuandle) (text : Text) → behind_quandle q text ≡ choice (codes "weight") (weighed q) (others q) text
unfolding cocycle_or_none
behind_is q text = by (first_starts (codes "weight") text.lines) (first_starts (codes "shadow") text.lines)
  where
    by : (t u : Bool)
        → (cond t (as_strands (cocycle_item q.table text)) (cond u (as_regions (shadow_item q.table text)) (Ok (None, text))) >>= λ w. both_counted q w.0 w.1)
        ≡ cond t (weighed q text) (cond u (shaded q text) (both_counted q None text))
    by true u = flat_strands q (cocycle_item q.table text)
    by false true = flat_regions q (shadow_item q.table text)
    by false false = refl

behind_steady : (q : NamedQuandle) → Steady Anywhere (behind_quandle q)
behind_steady q =
    same_steady Anywhere (choice (codes "weight") (weighed q) (others q)) (behind_quandle q) (behind_is q)
    (choice_steady (codes "weight") (weighed q) (others q) (weighed_due q) (others_due q) (weighed_steady q) (others_steady q))

-- ---- evidence

-- what its first line leads to: a quandle, or linking numbers
abbrev Branch : Type 0
Branch = Plan ⊎ Unit {0}

abbrev both_linked : Text → Result (Evidence × Text) TextFault
both_linked text = linked_item text >>= λ first. linked_item first.1 >>= λ second. Ok (Linking first.0 second.0, second.1)

abbrev take_branch : Branch → Text → Result (Evidence × Text) TextFault
take_branch (inl p) text = go p text >>= λ q. behind_quandle q.0 q.1
take_branch (inr u) text = both_linked text

branch_steady : (c : Branch) → Steady Anywhere (take_branch c)
branch_steady (inl p) = then_steady Anywhere (go p) (λ q text. behind_quandle q text) (go_steady p) behind_steady
branch_steady (inr u) =
    then_steady Anywhere linked_item (λ first text. linked_item text >>= λ second. Ok (Linking first second.0, second.1)) linked_steady
    (λ first. then_steady Anywhere linked_item (λ second text. Ok (Linking first second, text)) linked_steady (λ second. pure_steady (Linking first second)))

abbrev branches : List ℕ → NumberedLine → Result Branch TextFault
branches t rest =
    cond (bytes_eq t (codes "numbers")) (plan MAX_LARGE_ORDER rest >>= λ p. Ok (inl p))
    (cond (bytes_eq t (codes "linking")) (line_end rest >>= λ end. Ok (inr tt)) (Err (Malformed rest.number)))

abbrev branch : NumberedLine → Result Branch TextFault
branch line = word (codes "different") line >>= λ rest. next_token rest >>= λ kind. branches kind.0 kind.1

branch_at : (line : NumberedLine) → At line.number (branch line)
branch_at line =
    at_bind (word_at (codes "different") line) (λ rest e. at_same ((word_keeps (codes "different") line).of rest e)
    (chosen_at branches rest (λ t last. at_cond (bytes_eq t (codes "numbers")) (at_bind (plan_at MAX_LARGE_ORDER last) (λ p f. at_ok))
    (at_cond (bytes_eq t (codes "linking")) (at_bind (line_end_at last) (λ end f. at_ok)) at_malformed))))

flat_planned : (s : Result Plan TextFault) (text : Text)
    → ((s >>= λ p. go p text) >>= λ q. behind_quandle q.0 q.1) ≡ ((s >>= λ p. Ok (inl p)) >>= λ c. take_branch c text)
flat_planned (Ok p) text = refl
flat_planned (Err e) text = refl

flat_numbers : (rest : NumberedLine) (text : Text) → numbers_evidence rest text ≡ ((plan MAX_LARGE_ORDER rest >>= λ p. Ok (inl p)) >>= λ c. take_branch c text)
unfolding numbers_evidence
flat_numbers rest text = ap (λ r. r >>= λ q. behind_quandle q.0 q.1) (flat_quandle MAX_LARGE_ORDER rest text) ∙ flat_planned (plan MAX_LARGE_ORDER rest) text

flat_ended : (s : Result NumberedLine TextFault) (text : Text)
    → (s >>= λ end. both_linked text) ≡ ((s >>= λ end. Ok (inr tt)) >>= λ c. take_branch c text)
flat_ended (Ok end) text = refl
flat_ended (Err e) text = refl

flat_linking : (rest : NumberedLine) (text : Text) → linking_evidence rest text ≡ ((line_end rest >>= λ end. Ok (inr tt)) >>= λ c. take_branch c text)
unfolding linking_evidence
flat_linking rest text = flat_ended (line_end rest) text

flat_kind : (s : Result (List ℕ × NumberedLine) TextFault) (text : Text)
    → (s >>= λ kind. cond (bytes_eq kind.0 (codes "numbers")) (numbers_evidence kind.1 text)
    (cond (bytes_eq kind.0 (codes "linking")) (linking_evidence kind.1 text) (Err (Malformed kind.1.number))))
    ≡ ((s >>= λ kind. branches kind.0 kind.1) >>= λ c. take_branch c text)
flat_kind (Err e) text = refl
flat_kind (Ok kind) text =
    let f = λ (c : Branch). take_branch c text in
    flat_choice (bytes_eq kind.0 (codes "numbers")) (numbers_evidence kind.1 text)
    (cond (bytes_eq kind.0 (codes "linking")) (linking_evidence kind.1 text) (Err (Malformed kind.1.number))) (plan MAX_LARGE_ORDER kind.1 >>= λ p. Ok (inl p))
    (cond (bytes_eq kind.0 (codes "linking")) (line_end kind.1 >>= λ end. Ok (inr tt)) (Err (Malformed kind.1.number))) f (flat_numbers kind.1 text)
    (flat_choice (bytes_eq kind.0 (codes "linking")) (linking_evidence kind.1 text) (Err (Malformed kind.1.number)) (line_end kind.1 >>= λ end. Ok (inr tt))
    (Err (Malformed kind.1.number)) f (flat_linking kind.1 text) refl)

flat_named : (s : Result NumberedLine TextFault) (text : Text)
    → (s >>= λ rest. next_token rest >>= λ kind. cond (bytes_eq kind.0 (codes "numbers")) (numbers_evidence kind.1 text)
    (cond (bytes_eq kind.0 (codes "linking")) (linking_evidence kind.1 text) (Err (Malformed kind.1.number))))
    ≡ ((s >>= λ rest. next_token rest >>= λ kind. branches kind.0 kind.1) >>= λ c. take_branch c text)
flat_named (Ok rest) text = flat_kind (next_token rest) text
flat_named (Err e) text = refl

flat_evidence : (line : NumberedLine) (text : Text) → evidence_at line text ≡ (branch line >>= λ c. take_branch c text)
unfolding evidence_at
flat_evidence line text = flat_named (word (codes "different") line) text

flat_line : (r : Result (NumberedLine × Text) TextFault)
    → (r >>= λ line. evidence_at line.0 line.1) ≡ (r >>= λ line. branch line.0 >>= λ c. take_branch c line.1)
flat_line (Ok line) = flat_evidence line.0 line.1
flat_line (Err e) = refl

evidence_steady : Steady Anywhere (λ text. next_line text >>= λ line. evidence_at line.0 line.1)
evidence_steady =
    same_steady Anywhere (λ text. next_line text >>= λ line. branch line.0 >>= λ c. take_branch c line.1)
    (λ text. next_line text >>= λ line. evidence_at line.0 line.1)
    (λ text. flat_line (next_line text)) (line_then branch take_branch branch_at branch_steady)

head_at_at : (line : NumberedLine) → At line.number (head_at line)
unfolding head_at
head_at_at line =
    at_bind (word_at (codes "certificate") line) (λ rest e.
    at_bind (at_same ((word_keeps (codes "certificate") line).of rest e) (last_count_at rest))
    (λ version f. at_cond (version == THIRD_VERSION) at_ok at_malformed))

pub third_steady : Steady Anywhere evidence_item
unfolding evidence_item
third_steady = line_then head_at (λ version text. next_line text >>= λ line. evidence_at line.0 line.1) head_at_at (λ version. evidence_steady)

-- ---- what is said

abbrev third_end : ProblemText → Text → Result (ProblemText × Said) TextFault
third_end p text = evidence_item text >>= λ evidence. text_end evidence.1 >>= λ end. Ok (p, said.Evidence evidence.0)

abbrev verdict_end : ProblemText → Text → Result (ProblemText × Said) TextFault
verdict_end p text =
    verdict_item (column_count p.first) (column_count p.second) text >>= λ verdict. text_end verdict.1 >>= λ end. Ok (p, said.Verdict verdict.0)

-- behind a problem
abbrev said_end : ProblemText → Text → Result (ProblemText × Said) TextFault
said_end p text = by_next starts_evidence (third_end p) (verdict_end p) text

flat_end : (s : Result (Unit {0}) TextFault) (p : ProblemText) (v : Verdict)
    → with_verdict (s >>= λ end. Ok (p, v)) ≡ (s >>= λ end. Ok (p, said.Verdict v))
flat_end (Ok end) p v = refl
flat_end (Err e) p v = refl

flat_judged : (s : Result (Verdict × Text) TextFault) (p : ProblemText)
    → with_verdict (s >>= λ verdict. text_end verdict.1 >>= λ end. Ok (p, verdict.0))
    ≡ (s >>= λ verdict. text_end verdict.1 >>= λ end. Ok (p, said.Verdict verdict.0))
flat_judged (Ok verdict) p = flat_end (text_end verdict.1) p verdict.0
flat_judged (Err e) p = refl

flat_said : (r : Result (ProblemText × Text) TextFault)
    → cond (evidence_follows r) (r >>= λ problem. third_end problem.0 problem.1)
    (with_verdict (r >>= λ problem. verdict_item (column_count problem.0.first) (column_count problem.0.second) problem.1
    >>= λ verdict. text_end verdict.1 >>= λ end. Ok (problem.0, verdict.0)))
    ≡ (r >>= λ problem. said_end problem.0 problem.1)
flat_said (Err e) = refl
flat_said (Ok problem) =
    ap (λ v. cond (starts_evidence problem.1.lines) (third_end problem.0 problem.1) v)
    (flat_judged (verdict_item (column_count problem.0.first) (column_count problem.0.second) problem.1) problem.0)

said_is : (text : Text) → said_in text ≡ then_read problem_item said_end text
unfolding evidence_in check_in
said_is text = flat_said (problem_item text)

third_of_next : IsOfNextLine starts_evidence
third_of_next [] ys zs line = refl
third_of_next (x ∷ xs) ys zs line = refl

end_of_said : (p : ProblemText) → FailsFirst (said_end p)
end_of_said p =
    by_next_fails starts_evidence (third_end p) (verdict_end p) third_of_next refl
    (then_fails Anywhere evidence_item (λ evidence text. text_end text >>= λ end. Ok (p, said.Evidence evidence)) anywhere_seen third_steady
    (λ evidence. end_fails (p, said.Evidence evidence)))
    (then_fails Anywhere (verdict_item (column_count p.first) (column_count p.second))
    (λ verdict text. text_end text >>= λ end. Ok (p, said.Verdict verdict)) anywhere_seen
    (verdict_steady (column_count p.first) (column_count p.second)) (λ verdict. end_fails (p, said.Verdict verdict)))

pub said_fails : FailsFirst said_in
said_fails = same_fails (then_read problem_item said_end) said_in said_is (then_fails AtOther problem_item said_end other_seen problem_steady end_of_said)
