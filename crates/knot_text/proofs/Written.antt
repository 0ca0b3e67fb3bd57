-- Lines that were written are read again.
use Rattle.std.proofs.Common.{◌≡◌, ℕ, ◌+◌, ◌==◌, ◌&&◌, not, List, [], ◌∷◌, ◌++◌, length, arith, refl, ap, ap₂, ◌∙◌, Bool, true, false, codes, append_assoc}
use Rattle.std.specs.List.{flat_map, list_all}
use Rattle.std.proofs.lemmas.Bool.{and_parts, and_from, not-true}
use Rattle.std.proofs.lemmas.List.Concat.{flat_map-cons}
use Rattle.text_lines.specs.Tokens.{is_blank, is_token_end, onto, tokens_of}
use Rattle.text_lines.specs.Lines.{NumberedLine, Text, lines_of, trimmed, is_skipped, kept_lines, text_from}
use Rattle.text_lines.specs.Spelled.{spaced, line_bytes, line_text, lines_text, is_plain, is_word, is_line, numbered}

-- ---- bytes that end no line

abbrev is_inline : ℕ → Bool
is_inline b = not (b == 10) && not (b == 13)

all_append : (p : ℕ → Bool) (xs ys : List ℕ) → list_all p xs ≡ true → list_all p ys ≡ true → list_all p (xs ++ ys) ≡ true
all_append p [] ys first second = second
all_append p (x ∷ xs) ys first second =
    let h = and_parts (p x) (list_all p xs) first in
    and_from (p x) (list_all p (xs ++ ys)) h.0 (all_append p xs ys h.1 second)

plain_inline : (b : ℕ) → is_plain b ≡ true → is_inline b ≡ true
plain_inline b is = (and_parts (not (is_blank b)) (is_inline b) is).1

plains_inline : (bs : List ℕ) → list_all is_plain bs ≡ true → list_all is_inline bs ≡ true
plains_inline [] is = refl
plains_inline (b ∷ bs) is =
    let h = and_parts (is_plain b) (list_all is_plain bs) is in
    and_from (is_inline b) (list_all is_inline bs) (plain_inline b h.0) (plains_inline bs h.1)

word_inline : (token : List ℕ) → is_word token ≡ true → list_all is_inline token ≡ true
word_inline [] is = absurd cc
word_inline (b ∷ bs) is = plains_inline (b ∷ bs) is

spaced_inline : (tokens : List (List ℕ)) → list_all is_word tokens ≡ true → list_all is_inline (flat_map spaced tokens) ≡ true
spaced_inline [] is = refl
spaced_inline (t ∷ ts) is =
    let h = and_parts (is_word t) (list_all is_word ts) is in
    ap (list_all is_inline) (flat_map-cons spaced t ts) ∙ all_append is_inline (spaced t) (flat_map spaced ts) (word_inline t h.0) (spaced_inline ts h.1)

feed_line : (bs more : List ℕ) → list_all is_inline bs ≡ true → lines_of (bs ++ (10 ∷ more)) ≡ bs ∷ lines_of more
feed_line [] more is = refl
feed_line (b ∷ bs) more is =
    let h = and_parts (is_inline b) (list_all is_inline bs) is in
    let g = and_parts (not (b == 10)) (not (b == 13)) h.0 in
    let other : (b == 10) ≡ false = not-true (b == 10) g.0 in
    let one : lines_of (b ∷ (bs ++ (10 ∷ more))) ≡ onto b (lines_of (bs ++ (10 ∷ more))) = rw other refl in
    one ∙ ap (onto b) (feed_line bs more h.1)

trimmed_inline : (bs : List ℕ) → list_all is_inline bs ≡ true → trimmed bs ≡ bs
trimmed_inline [] is = refl
trimmed_inline (b ∷ []) is =
    let h = and_parts (is_inline b) true is in
    let g = and_parts (not (b == 10)) (not (b == 13)) h.0 in
    let other : (b == 13) ≡ false = not-true (b == 13) g.1 in
    rw other refl
trimmed_inline (b ∷ c ∷ bs) is =
    let h = and_parts (is_inline b) (list_all is_inline (c ∷ bs)) is in
    ap (λ (xs : List ℕ). b ∷ xs) (trimmed_inline (c ∷ bs) h.1)

-- ---- tokens

plain_not_blank : (b : ℕ) → is_plain b ≡ true → is_blank b ≡ false
plain_not_blank b is = not-true (is_blank b) (and_parts (not (is_blank b)) (is_inline b) is).0

word_token : (b : ℕ) (bs rest : List ℕ) → is_plain b ≡ true → list_all is_plain bs ≡ true → is_token_end rest ≡ true
    → tokens_of (b ∷ (bs ++ rest)) ≡ (b ∷ bs) ∷ tokens_of rest
word_token b [] rest here all ends =
    let other = plain_not_blank b here in
    rw (other, ends) refl
word_token b (c ∷ cs) rest here all ends =
    let h = and_parts (is_plain c) (list_all is_plain cs) all in
    let other = plain_not_blank b here in
    let goes_on : is_token_end (c ∷ (cs ++ rest)) ≡ false = plain_not_blank c h.0 in
    let one : tokens_of (b ∷ (c ∷ (cs ++ rest))) ≡ onto b (tokens_of (c ∷ (cs ++ rest))) = rw (other, goes_on) refl in
    one ∙ ap (onto b) (word_token c cs rest h.0 h.1 ends)

word_then : (token rest : List ℕ) (tokens : List (List ℕ)) → is_word token ≡ true → is_token_end rest ≡ true → tokens_of rest ≡ tokens
    → tokens_of (token ++ rest) ≡ token ∷ tokens
word_then [] rest tokens is ends same = absurd cc
word_then (b ∷ bs) rest tokens is ends same =
    let h = and_parts (is_plain b) (list_all is_plain bs) is in
    word_token b bs rest h.0 h.1 ends ∙ ap (λ (ts : List (List ℕ)). (b ∷ bs) ∷ ts) same

token_end : (tokens : List (List ℕ)) → is_token_end (flat_map spaced tokens) ≡ true
token_end [] = refl
token_end (t ∷ ts) = ap is_token_end (flat_map-cons spaced t ts)

spaced_tokens : (tokens : List (List ℕ)) → list_all is_word tokens ≡ true → tokens_of (flat_map spaced tokens) ≡ tokens
spaced_tokens [] is = refl
spaced_tokens (t ∷ ts) is =
    let h = and_parts (is_word t) (list_all is_word ts) is in
    ap tokens_of (flat_map-cons spaced t ts) ∙ word_then t (flat_map spaced ts) ts h.0 (token_end ts) (spaced_tokens ts h.1)

-- ---- a line

record IsWritten (tokens : List (List ℕ)) : Type 0 where
  inline : list_all is_inline (line_bytes tokens) ≡ true
  kept : is_skipped (line_bytes tokens) ≡ false
  cut : tokens_of (line_bytes tokens) ≡ tokens

written : (tokens : List (List ℕ)) → is_line tokens ≡ true → IsWritten tokens
written [] is = absurd cc
written ([] ∷ ts) is = absurd cc
written ((b ∷ bs) ∷ ts) is =
    let h = and_parts (not (b == 35)) (is_word (b ∷ bs) && list_all is_word ts) is in
    let g = and_parts (is_word (b ∷ bs)) (list_all is_word ts) h.1 in
    let plain = and_parts (is_plain b) (list_all is_plain bs) g.0 in
    let other = plain_not_blank b plain.0 in
    record {
      inline = all_append is_inline (b ∷ bs) (flat_map spaced ts) (word_inline (b ∷ bs) g.0) (spaced_inline ts g.1);
      kept = rw other (not-true (b == 35) h.0);
      cut = word_then (b ∷ bs) (flat_map spaced ts) ts g.0 (token_end ts) (spaced_tokens ts g.1);
    }

line_lines : (tokens : List (List ℕ)) (more : List ℕ) → is_line tokens ≡ true → lines_of (line_text tokens ++ more) ≡ line_bytes tokens ∷ lines_of more
line_lines tokens more is = ap lines_of (append_assoc (line_bytes tokens) (codes "\n") more) ∙ feed_line (line_bytes tokens) more (written tokens is).inline

line_kept : (n : ℕ) (tokens : List (List ℕ)) (rest : List (List ℕ)) → is_line tokens ≡ true
    → kept_lines n (line_bytes tokens ∷ rest) ≡ record { number = n + 1; tokens = tokens } ∷ kept_lines (n + 1) rest
line_kept n tokens rest is =
    let w = written tokens is in
    let same = trimmed_inline (line_bytes tokens) w.inline in
    let kept : is_skipped (trimmed (line_bytes tokens)) ≡ false = ap is_skipped same ∙ w.kept in
    let cut : tokens_of (trimmed (line_bytes tokens)) ≡ tokens = ap tokens_of same ∙ w.cut in
    let one : kept_lines n (line_bytes tokens ∷ rest) ≡ record { number = n + 1; tokens = tokens_of (trimmed (line_bytes tokens)) } ∷ kept_lines (n + 1) rest =
    rw kept refl in
    one ∙ ap (λ (ts : List (List ℕ)). record { number = n + 1; tokens = ts } ∷ kept_lines (n + 1) rest) cut

-- ---- lines

-- lines in front of a text that stands behind n lines
abbrev pub lines_then : ℕ → List (List (List ℕ)) → List ℕ → Text
lines_then n lines more = record { lines = numbered n lines ++ (text_from (n + length lines) more).lines; ending = (text_from (n + length lines) more).ending }

lines_step : (n : ℕ) (tokens : List (List ℕ)) (lines : List (List (List ℕ))) (more : List ℕ) → is_line tokens ≡ true
    → text_from (n + 1) (lines_text lines ++ more) ≡ lines_then (n + 1) lines more
    → text_from n (lines_text (tokens ∷ lines) ++ more) ≡ lines_then n (tokens ∷ lines) more
lines_step n tokens lines more is rest =
    let after = lines_text lines ++ more in
    let regrouped : lines_text (tokens ∷ lines) ++ more ≡ line_text tokens ++ after =
    ap (λ (t : List ℕ). t ++ more) (flat_map-cons line_text tokens lines) ∙ append_assoc (line_text tokens) (lines_text lines) more in
    let here = line_lines tokens after is in
    let kept : (text_from n (line_text tokens ++ after)).lines ≡ record { number = n + 1; tokens = tokens } ∷ (text_from (n + 1) after).lines =
    ap (kept_lines n) here ∙ line_kept n tokens (lines_of after) is in
    let count = ap (λ (ls : List (List ℕ)). length ls) here in
    let ends : (text_from n (line_text tokens ++ after)).ending ≡ (text_from (n + 1) after).ending = omega (arith, count) in
    let k : n + 1 + length lines ≡ n + length (tokens ∷ lines) = omega arith in
    ap (text_from n) regrouped
    ∙ ap₂ (λ (ls : List NumberedLine) (e : ℕ). record { lines = ls; ending = e }) kept ends
    ∙ ap (λ (t : Text). record { lines = record { number = n + 1; tokens = tokens } ∷ t.lines; ending = t.ending }) rest
    ∙ ap (λ (j : ℕ). record {
      lines = record { number = n + 1; tokens = tokens } ∷ (numbered
          (n + 1) lines ++ (text_from j more).lines);
      ending = (text_from j more).ending;
    }) k

pub lines_read : (n : ℕ) (lines : List (List (List ℕ))) (more : List ℕ) → list_all is_line lines ≡ true
    → text_from n (lines_text lines ++ more) ≡ lines_then n lines more
lines_read n [] more all = let e : n ≡ n + 0 = omega arith in ap (λ (j : ℕ). text_from j more) e
lines_read n (tokens ∷ lines) more all =
    let h = and_parts (is_line tokens) (list_all is_line lines) all in
    lines_step n tokens lines more h.0 (lines_read (n + 1) lines more h.1)
