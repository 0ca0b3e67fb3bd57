-- What the parts of a problem say, one behind the other.
use Rattle.std.proofs.Common.{◌≡◌, ◌∙◌, refl, sym, ap, ℕ, ◌+◌, Bool, true, false, List, [], ◌∷◌, ◌++◌, codes, fold, flat_map}
use Rattle.std.proofs.lemmas.List.{map-append, append_assoc, append-nil}
use Rattle.text_lines.specs.Lines.{NumberedLine, lines_of, line_count, are_whole_lines, trimmed, is_skipped, kept_lines, text_from, text_of}
use Rattle.knot_text.proofs.LastFeed.{feed_added, feed_ends}
use Rattle.knot_text.proofs.Parted.{text_lines_parted}
use Rattle.knot_text.specs.WrittenThere.{tokens_by_line, said_by}
use Rattle.verdict_laws.specs.VerdictDecision.{put_behind}
use Rattle.seek_core.specs.Parts.{joined}

-- the tokens of lines, wherever they begin
tokens_by : (n m : ℕ) (line : List ℕ) (lines : List (List ℕ)) → tokens_by_line (kept_lines (n + 1) lines) ≡ tokens_by_line (kept_lines (m + 1) lines)
    → (b : Bool) → is_skipped (trimmed line) ≡ b → tokens_by_line (kept_lines n (line ∷ lines)) ≡ tokens_by_line (kept_lines m (line ∷ lines))
tokens_by n m line lines rest true is = rw is rest
tokens_by n m line lines rest false is = rw (is, rest) refl

tokens_anywhere : (n m : ℕ) (lines : List (List ℕ)) → tokens_by_line (kept_lines n lines) ≡ tokens_by_line (kept_lines m lines)
tokens_anywhere n m [] = refl
tokens_anywhere n m (line ∷ lines) = tokens_by n m line lines (tokens_anywhere (n + 1) (m + 1) lines) (is_skipped (trimmed line)) refl

behind_whole : (front back : List ℕ) → are_whole_lines front ≡ true → said_by (front ++ back) ≡ said_by front ++ said_by back
behind_whole front back whole =
    let e = text_lines_parted 0 front back whole in
    ap tokens_by_line e
    ∙ map-append (λ (line : NumberedLine). line.tokens) (text_of front).lines (text_from (0 + line_count front) back).lines
    ∙ ap (λ (ts : List (List (List ℕ))). said_by front ++ ts) (tokens_anywhere (0 + line_count front) 0 (lines_of back))

said_behind_by : (front back : List ℕ) (b : Bool) → are_whole_lines front ≡ b → said_by (put_behind front back) ≡ said_by front ++ said_by back
said_behind_by front back true is =
    let e : put_behind front back ≡ front ++ back = rw is refl in
    ap said_by e ∙ behind_whole front back is
said_behind_by front back false is =
    let e : put_behind front back ≡ front ++ (codes "\n" ++ back) = rw is refl in
    let fed : said_by (front ++ codes "\n") ≡ said_by front = ap (λ t. tokens_by_line t.lines) (feed_added 0 front is) in
    ap said_by (e ∙ sym (append_assoc front (codes "\n") back))
    ∙ behind_whole (front ++ codes "\n") back (feed_ends front)
    ∙ ap (λ (ts : List (List (List ℕ))). ts ++ said_by back) fed

said_behind : (front back : List ℕ) → said_by (put_behind front back) ≡ said_by front ++ said_by back
said_behind front back = said_behind_by front back (are_whole_lines front) refl

all_behind : (front : List ℕ) (parts : List (List ℕ)) → said_by (fold put_behind front parts) ≡ said_by front ++ flat_map said_by parts
all_behind front [] = sym (append-nil (said_by front))
all_behind front (part ∷ parts) =
    all_behind (put_behind front part) parts
    ∙ ap (λ (ts : List (List (List ℕ))). ts ++ flat_map said_by parts) (said_behind front part)
    ∙ append_assoc (said_by front) (said_by part) (flat_map said_by parts)

pub said_in_turn : (parts : List (List ℕ)) → said_by (joined parts) ≡ flat_map said_by parts
said_in_turn parts = all_behind [] parts
