-- The bytes of the rows of a table.
use Rattle.std.proofs.Common.{◌≡◌, ℕ, ◌+◌, ◌<◌, arith, List, [], ◌∷◌, ◌++◌, codes, length, map, refl, sym, ap, ◌∙◌, append_assoc}
use Rattle.std.specs.List.{range_with_len}
use Rattle.std.specs.Fmt.{decimal}
use Rattle.std.proofs.lemmas.List.{append-nil, length-append}
use Rattle.std.proofs.lemmas.List.FromFn.{map-range_with_len_more, length-map-range_with_len, take-map-range_with_len, get_or-map-range_with_len}
use Rattle.quandle_core.specs.Quandle.{Table, over}
use Rattle.text_lines.specs.Spelled.{line_bytes, line_text, lines_text}
use Rattle.text_lines.specs.Appended.{AppendsPart}
use Rattle.text_lines.proofs.LineTexts.{lines_more}
use Rattle.text_lines.proofs.Parts.{part_in_turn}
use Rattle.knot_text.specs.Printed.{row_tokens}

pub rows_more : (t : Table) (x : ℕ) (out before after : List ℕ) → before ≡ out ++ lines_text (map (row_tokens t) (range_with_len 0 x))
    → after ≡ before ++ line_text (row_tokens t x) → after ≡ out ++ lines_text (map (row_tokens t) (range_with_len 0 (x + 1)))
rows_more t x out before after so_far step =
    let longer = map-range_with_len_more (row_tokens t) 0 x x (omega arith) in
    step ∙ ap (λ (s : List ℕ). s ++ line_text (row_tokens t x)) so_far
    ∙ append_assoc out (lines_text (map (row_tokens t) (range_with_len 0 x))) (line_text (row_tokens t x))
    ∙ ap (λ (s : List ℕ). out ++ s) (sym (lines_more (map (row_tokens t) (range_with_len 0 x)) (row_tokens t x)))
    ∙ ap (λ (ls : List (List (List ℕ))). out ++ lines_text ls) (sym longer)

pub map_decimals : (f : ℕ → ℕ) (xs : List ℕ) → map decimal (map f xs) ≡ map (λ y. decimal (f y)) xs
map_decimals f [] = refl
map_decimals f (x ∷ xs) = ap (λ (ts : List (List ℕ)). decimal (f x) ∷ ts) (map_decimals f xs)

-- a row of a table as tokens
pub row_line : (t : Table) (x : ℕ) (row : List ℕ) → row ≡ map (over t x) (range_with_len 0 t.order) → line_text (map decimal row) ≡ line_text (row_tokens t x)
row_line t x row is = ap (λ (r : List ℕ). line_text (map decimal r)) is ∙ ap line_text (map_decimals (over t x) (range_with_len 0 t.order))

-- a row of a table that found no memory, behind those before it
pub rows_part : (t : Table) (x : ℕ) (old mid new : List ℕ) → x < t.order → mid ≡ old ++ lines_text (map (row_tokens t) (range_with_len 0 x))
    → AppendsPart mid new (line_text (row_tokens t x)) → AppendsPart old new (lines_text (map (row_tokens t) (range_with_len 0 t.order)))
rows_part t x old mid new within before part =
    part_in_turn line_text (map (row_tokens t) (range_with_len 0 t.order)) x [] old mid new (rw (length-map-range_with_len (row_tokens t) 0 t.order) within)
    (rw (take-map-range_with_len (row_tokens t) 0 t.order x (omega (arith, within))) before)
    (rw (get_or-map-range_with_len (row_tokens t) 0 t.order x x [] within (omega arith)) part)

-- a word and a number, which end their line
pub counted_line : (word : List ℕ) (n : ℕ) → word ++ (codes " " ++ (decimal n ++ codes "\n")) ≡ line_text (word ∷ decimal n ∷ [])
counted_line word n =
    let number = ap (λ (s : List ℕ). word ++ (s ++ codes "\n")) (append-nil (codes " " ++ decimal n)) in
    sym (append_assoc word ((codes " " ++ decimal n) ++ []) (codes "\n") ∙ number)

pub some_line : (tokens : List (List ℕ)) (more : List ℕ) → 0 < length (line_text tokens ++ more)
some_line tokens more = omega (arith, length-append (line_text tokens) more, length-append (line_bytes tokens) (codes "\n"))
