-- The bytes of lines in the writing.
use Rattle.std.proofs.Common.{◌≡◌, ◌<◌, ℕ, ◌-◌, arith, length, get_or, drop, take, codes, List, [], ◌∷◌, ◌++◌, map, sym, ap, ◌∙◌}
use Rattle.std.specs.List.{flat_map}
use Rattle.std.specs.Fmt.{decimal}
use Rattle.std.proofs.lemmas.List.{append-nil, take_all}
use Rattle.std.proofs.lemmas.List.Concat.{flat_map-append}
use Rattle.std.proofs.lemmas.List.Folds.{flat_map-map}
use Rattle.text_lines.specs.Spelled.{spaced, line_bytes, line_text, lines_text}

-- numbers behind spaces are tokens behind spaces
pub spaced_numbers : (ns : List ℕ) → flat_map (λ n. spaced (decimal n)) ns ≡ flat_map spaced (map decimal ns)
spaced_numbers ns = sym (flat_map-map spaced decimal ns)

-- a line more
pub lines_more : (lines : List (List (List ℕ))) (tokens : List (List ℕ)) → lines_text (lines ++ tokens ∷ []) ≡ lines_text lines ++ line_text tokens
lines_more lines tokens = flat_map-append line_text lines (tokens ∷ []) ∙ ap (λ (t : List ℕ). lines_text lines ++ t) (append-nil (line_text tokens))

-- numbers written in a line, the first without a space
pub numbers_joined : (numbers : List ℕ) → 0 < length numbers
    → decimal (get_or numbers 0 0) ++ flat_map (λ n. spaced (decimal n)) (take (length numbers - 1) (drop 1 numbers)) ≡ line_bytes (map decimal numbers)
numbers_joined [] some = absurd (omega (arith, some))
numbers_joined (n ∷ ns) some =
    ap (λ (s : List ℕ). decimal n ++ s) (ap (flat_map (λ n. spaced (decimal n))) (take_all (length (n ∷ ns) - 1) ns (omega arith)) ∙ spaced_numbers ns)

-- a word, numbers behind spaces, and the end of the line
pub word_line : (word numbers : List ℕ) → (word ++ flat_map (λ n. spaced (decimal n)) numbers) ++ codes "\n" ≡ line_text (word ∷ map decimal numbers)
word_line word numbers = ap (λ (s : List ℕ). (word ++ s) ++ codes "\n") (spaced_numbers numbers)
