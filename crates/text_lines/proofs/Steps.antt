-- A text whose first line is cut off.
use Rattle.std.proofs.Common.{◌≡◌, ℕ, ◌<◌, ◌+◌, List, ◌∷◌, length, true, false, arith, refl, ap, ap₂, ◌∙◌}
use Rattle.text_lines.specs.Tokens.{tokens_of}
use Rattle.text_lines.specs.Lines.{NumberedLine, lines_of, trimmed, is_skipped, kept_lines, text_from}
use Rattle.text_lines.specs.Cut.{first_line, behind_line}
use Rattle.text_lines.proofs.FirstLine.{line_cut_some}

-- the place where the text ends is the same
pub ending_cut : (n : ℕ) (bytes : List ℕ) → 0 < length bytes → (text_from n bytes).ending ≡ (text_from (n + 1) (behind_line bytes)).ending
ending_cut n bytes some =
    let e : length (lines_of bytes) ≡ length (lines_of (behind_line bytes)) + 1 =
    ap (λ (ls : List (List ℕ)). length ls) (line_cut_some bytes some) ∙ omega arith in
    omega arith

kept_cut : (n : ℕ) (bytes : List ℕ) → 0 < length bytes → kept_lines n (lines_of bytes) ≡ kept_lines n (first_line bytes ∷ lines_of (behind_line bytes))
kept_cut n bytes some = ap (kept_lines n) (line_cut_some bytes some)

-- a line that is passed over
pub text_skipped : (n : ℕ) (bytes : List ℕ) → 0 < length bytes → is_skipped (trimmed (first_line bytes)) ≡ true
    → text_from n bytes ≡ text_from (n + 1) (behind_line bytes)
text_skipped n bytes some is =
    let kept : kept_lines n (lines_of bytes) ≡ kept_lines (n + 1) (lines_of (behind_line bytes)) = kept_cut n bytes some ∙ rw is refl in
    ap₂ (λ (ls : List NumberedLine) (k : ℕ). record { lines = ls; ending = k }) kept (ending_cut n bytes some)

-- and one that is not
pub lines_kept : (n : ℕ) (bytes : List ℕ) → 0 < length bytes → is_skipped (trimmed (first_line bytes)) ≡ false
    → (text_from n bytes).lines ≡ record { number = n + 1; tokens = tokens_of (trimmed (first_line bytes)) } ∷ (text_from (n + 1) (behind_line bytes)).lines
lines_kept n bytes some is = kept_cut n bytes some ∙ rw is refl
