-- A verdict behind its problem, with a line feed between them.
use Rattle.std.proofs.Common.{◌≡◌, ℕ, List, ◌++◌, false, Ok, sym, ap, ◌∙◌, append_assoc, codes}
use Rattle.text_lines.specs.Lines.{are_whole_lines}
use Rattle.knot_text.proofs.LastFeed.{feed_added, feed_ends}
use Rattle.verdict_core.specs.declared.verdict.Verdict.{Verdict}
use Rattle.verdict_core.specs.declared.problem.ProblemText.{ProblemText}
use Rattle.verdict_core.specs.Diagrams.{column_count}
use Rattle.verdict_text.specs.Problems.{problem_in, problem_of, check_of}
use Rattle.knot_text.specs.Printed.{version_text, HasVersionText}
use Rattle.verdict_text.specs.declared.verdicts.Version.{Version}
use Rattle.knot_text.proofs.ReadBack.{verdict_behind}

pub verdict_behind_feed : (version : Version) (bytes : List ℕ) (p : ProblemText) (v : Verdict) → are_whole_lines bytes ≡ false → problem_of bytes ≡ Ok p
    → HasVersionText version (column_count p.first) (column_count p.second) v → check_of (bytes ++ (codes "\n" ++ version_text version v)) ≡ Ok (p, v)
verdict_behind_feed version bytes p v lacks is fits =
    let same : problem_of (bytes ++ codes "\n") ≡ Ok p = ap problem_in (feed_added 0 bytes lacks) ∙ is in
    ap check_of (sym (append_assoc bytes (codes "\n") (version_text version v))) ∙ verdict_behind version (bytes ++ codes "\n") p v (feed_ends bytes) same fits
