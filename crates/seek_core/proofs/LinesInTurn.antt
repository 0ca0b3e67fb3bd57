-- The lines of the parts of a problem, one behind the other.
use Rattle.std.proofs.Common.{◌≡◌, ◌∙◌, refl, sym, ap, subst, arith, ℕ, ◌+◌, Bool, true, false, List, [], ◌∷◌, ◌++◌, length, codes, fold, length-append}
use Rattle.std.proofs.lemmas.List.{append_assoc, append-nil}
use Rattle.text_lines.specs.Lines.{NumberedLine, Text, lines_of, line_count, are_whole_lines, text_from, text_of}
use Rattle.knot_text.proofs.LastFeed.{feed_added, feed_ends}
use Rattle.knot_text.proofs.Parted.{lines_parted, text_lines_parted}
use Rattle.verdict_laws.specs.VerdictDecision.{put_behind}
use Rattle.seek_core.specs.Parts.{joined, lines_in_turn}

-- a whole is a text and a part behind it, by the lines of both, of which n stand before the text
record IsBoth (n : ℕ) (front back whole : List ℕ) : Type 0 where
  lines : (text_from n whole).lines ≡ (text_from n front).lines ++ (text_from (n + line_count front) back).lines
  count : line_count whole ≡ line_count front + line_count back

behind_whole : (n : ℕ) (front back : List ℕ) → are_whole_lines front ≡ true → IsBoth n front back (front ++ back)
behind_whole n front back whole = record {
  lines = text_lines_parted n front back whole;
  count = ap (λ (ls : List (List ℕ)). length ls) (lines_parted front back whole) ∙ length-append (lines_of front) (lines_of back);
}

fed_count : (front : List ℕ) → are_whole_lines front ≡ false → line_count (front ++ codes "\n") ≡ line_count front
fed_count front lacks =
    let e : 0 + line_count (front ++ codes "\n") + 1 ≡ 0 + line_count front + 1 = ap (λ (t : Text). t.ending) (feed_added 0 front lacks) in
    omega (arith, e)

behind_fed : (n : ℕ) (front back : List ℕ) → are_whole_lines front ≡ false → IsBoth n front back ((front ++ codes "\n") ++ back)
behind_fed n front back lacks =
    let both = behind_whole n (front ++ codes "\n") back (feed_ends front) in
    let count = fed_count front lacks in
    record {
      lines = both.lines
          ∙ ap (λ (k : ℕ). (text_from n (front ++ codes "\n")).lines ++ (text_from (n + k) back).lines) count
          ∙ ap (λ (t : Text). t.lines ++ (text_from (n + line_count front) back).lines) (feed_added n front lacks);
      count = both.count ∙ ap (λ (k : ℕ). k + line_count back) count;
    }

put_by : (n : ℕ) (front back : List ℕ) (b : Bool) → are_whole_lines front ≡ b → IsBoth n front back (put_behind front back)
put_by n front back true is =
    let e : put_behind front back ≡ front ++ back = rw is refl in
    subst (IsBoth n front back) (sym e) (behind_whole n front back is)
put_by n front back false is =
    let e : put_behind front back ≡ front ++ (codes "\n" ++ back) = rw is refl in
    subst (IsBoth n front back) (append_assoc front (codes "\n") back ∙ sym e) (behind_fed n front back is)

all_behind : (n : ℕ) (front : List ℕ) (parts : List (List ℕ))
    → (text_from n (fold put_behind front parts)).lines ≡ (text_from n front).lines ++ lines_in_turn (n + line_count front) parts
all_behind n front [] = sym (append-nil (text_from n front).lines)
all_behind n front (part ∷ parts) =
    let both = put_by n front part (are_whole_lines front) refl in
    let plus : n + (line_count front + line_count part) ≡ (n + line_count front) + line_count part = omega arith in
    all_behind n (put_behind front part) parts
    ∙ ap (λ (k : ℕ). (text_from n (put_behind front part)).lines ++ lines_in_turn k parts) (ap (λ (k : ℕ). n + k) both.count ∙ plus)
    ∙ ap (λ (ls : List NumberedLine). ls ++ lines_in_turn ((n + line_count front) + line_count part) parts) both.lines
    ∙ append_assoc (text_from n front).lines (text_from (n + line_count front) part).lines (lines_in_turn ((n + line_count front) + line_count part) parts)

pub joined_in_turn : (parts : List (List ℕ)) → (text_of (joined parts)).lines ≡ lines_in_turn 0 parts
joined_in_turn parts = all_behind 0 [] parts
