-- What holds is accepted behind its problem.
use Rattle.std.proofs.Common.{rules, ◌≡◌, ◌≤◌, ◌++◌, ◌∷◌, [], sym, refl, subst, ℕ, List, Bool, true, false, Ok, codes, if◌then◌else◌, length, arith}
use Rattle.std.specs.List.{AllByRecursion}
use Rattle.std.proofs.lemmas.List.{length-append, length-map}
use Rattle.text_lines.specs.Lines.{text_of, are_whole_lines}
use Rattle.text_lines.specs.Spelled.{line_bytes, line_text, lines_text}
use Rattle.verdict_core.specs.declared.problem.ProblemText.{ProblemText}
use Rattle.verdict_core.specs.declared.verdict.Verdict.{Verdict}
use Rattle.verdict_core.specs.declared.verdict.Verdict.TheVariants.{Equal, Different, UnknownBudget, UnknownExhausted}
use Rattle.quandle_core.specs.Names.{NamedQuandle}
use Rattle.verdict_core.specs.Diagrams.{grid_of, column_count}
use Rattle.verdict_core.specs.Evidence.{VerdictHolds}
use Rattle.text_items.specs.declared.reading.TheConstants.{MAX_NUMBER}
use Rattle.verdict_text.specs.declared.verdicts.Version.TheVariants.{Tidy}
use Rattle.text_items.specs.Quandles.{built_in, or_built_in}
use Rattle.knot_text.specs.Printed.{move_tokens, version_lines, version_text, HasQuandleText, HasVersionText}
use Rattle.verdict_text.specs.Problems.{problem_of, check_of}
use Rattle.knot_text.proofs.ShapesSay.{problem_in_says}
use Rattle.knot_text.proofs.ReadBack.{verdict_behind}
use Rattle.knot_text.proofs.FeedBetween.{verdict_behind_feed}
use Rattle.knot_ports.specs.declared.limits.TheConstants.{MAX_CERTIFICATE}
use Rattle.verdict_laws.specs.VerdictDecision.{put_behind, IsAcceptedVerdict, HasFewMoves}

-- ---- the quandles of a problem have texts

built_in_text : AllByRecursion HasQuandleText built_in
built_in_text = (
  record { names = ((omega arith, omega arith), refl); factor = search rules },
  (
    record { names = ((omega arith, omega arith), refl); factor = search rules },
    (
      record { names = refl; factor = search rules },
      (
        record { names = ((omega arith, omega arith), refl); factor = search rules },
        (record { names = ((omega arith, omega arith), refl); factor = search rules }, search rules),
      ),
    ),
  ),
)

listed_text : (listed : List NamedQuandle) → AllByRecursion HasQuandleText listed → AllByRecursion HasQuandleText (or_built_in listed)
listed_text [] all = built_in_text
listed_text (q ∷ qs) all = all

pub quandles_text : (bytes : List ℕ) (p : ProblemText) → problem_of bytes ≡ Ok p → AllByRecursion HasQuandleText p.quandles
quandles_text bytes p is =
    let said = (problem_in_says (text_of bytes)).of p is in
    let are = said.1.quandles in
    subst (AllByRecursion HasQuandleText) (sym are.stand) (listed_text said.0 are.each)

-- ---- a verdict has a line for each of its moves

lines_length : (lines : List (List (List ℕ))) → length lines ≤ length (lines_text lines)
lines_length [] = omega arith
lines_length (line ∷ lines) =
    let rest = lines_length lines in
    let all = length-append (line_text line) (lines_text lines) in
    let one = length-append (line_bytes line) (codes "\n") in
    let feed : length (codes "\n") ≡ 1 = refl in
    omega (arith, rest, all, one, feed)

-- a text that fits into an input has few moves
pub short : (bytes : List ℕ) (v : Verdict) → length (put_behind bytes (version_text Tidy v)) ≤ MAX_CERTIFICATE → HasFewMoves v
short bytes (Equal moves) fits = by (are_whole_lines bytes) fits
  where
    by : (t : Bool)
        → length (if t then bytes ++ version_text Tidy (Equal moves) else bytes ++ (codes "\n" ++ version_text Tidy (Equal moves))) ≤ MAX_CERTIFICATE
        → length moves ≤ MAX_NUMBER
    by true fits =
        let lines = lines_length (version_lines Tidy (Equal moves)) in
        let each = length-map moves move_tokens in
        let all = length-append bytes (version_text Tidy (Equal moves)) in
        omega (arith, lines, each, all, fits)
    by false fits =
        let lines = lines_length (version_lines Tidy (Equal moves)) in
        let each = length-map moves move_tokens in
        let all = length-append bytes (codes "\n" ++ version_text Tidy (Equal moves)) in
        let more = length-append (codes "\n") (version_text Tidy (Equal moves)) in
        omega (arith, lines, each, all, more, fits)
short bytes (Different listed one two) fits = search rules
short bytes (UnknownBudget budget) fits = search rules
short bytes (UnknownExhausted cap k) fits = search rules

-- ---- the ruling

by_lines : (bytes : List ℕ) (p : ProblemText) (v : Verdict) (t : Bool) → are_whole_lines bytes ≡ t → problem_of bytes ≡ Ok p
    → HasVersionText Tidy (column_count p.first) (column_count p.second) v
    → check_of (if t then bytes ++ version_text Tidy v else bytes ++ (codes "\n" ++ version_text Tidy v)) ≡ Ok (p, v)
by_lines bytes p v true whole is text = verdict_behind Tidy bytes p v whole is text
by_lines bytes p v false lacks is text = verdict_behind_feed Tidy bytes p v lacks is text

pub accepted_behind : (bytes : List ℕ) (p : ProblemText) (v : Verdict) → problem_of bytes ≡ Ok p
    → (HasFewMoves v → HasVersionText Tidy (column_count p.first) (column_count p.second) v) → VerdictHolds (grid_of p.first) (grid_of p.second) v
    → length (put_behind bytes (version_text Tidy v)) ≤ MAX_CERTIFICATE → IsAcceptedVerdict (put_behind bytes (version_text Tidy v)) p v
accepted_behind bytes p v is text holds fits = record {
  read = by_lines bytes p v (are_whole_lines bytes) refl is (text (short bytes v fits));
  rules = holds;
}
