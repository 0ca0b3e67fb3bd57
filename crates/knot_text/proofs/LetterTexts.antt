-- The bytes of letters, each behind a space, and of a braid word.
use Rattle.std.proofs.Common.{◌≡◌, ℕ, ◌+◌, ◌<◌, ℤ, List, [], ◌∷◌, ◌++◌, codes, length, get_or, map, take, sym, ap, ◌∙◌, append_assoc}
use Rattle.std.specs.List.{flat_map}
use Rattle.std.specs.Fmt.{decimal}
use Rattle.std.proofs.lemmas.List.{append-nil, map-append, take_more}
use Rattle.std.proofs.lemmas.List.Concat.{flat_map-append}
use Rattle.std.proofs.lemmas.List.Folds.{flat_map-map}
use Rattle.braid_core.specs.Braid.{Word}
use Rattle.text_lines.specs.Spelled.{spaced, line_text}
use Rattle.text_lines.specs.Appended.{AppendsPart}
use Rattle.text_lines.proofs.Parts.{part_in_turn}
use Rattle.knot_text.specs.Printed.{letter_token, braid_text}

abbrev pub spelled : List ℤ → List ℕ
spelled letters = flat_map spaced (map letter_token letters)

-- a letter more
pub letter_more : (ls : List ℤ) (i : ℕ) (d : ℤ) (old mid new : List ℕ) → i < length ls → mid ≡ old ++ spelled (take i ls)
    → new ≡ mid ++ spaced (letter_token (get_or ls i d)) → new ≡ old ++ spelled (take (i + 1) ls)
letter_more ls i d old mid new within before step =
    let front = map letter_token (take i ls) in
    let token = letter_token (get_or ls i d) in
    let tokens = ap (map letter_token) (take_more ls i d within) ∙ map-append letter_token (take i ls) (get_or ls i d ∷ []) in
    let longer = ap (flat_map spaced) tokens ∙ flat_map-append spaced front (token ∷ [])
    ∙ ap (λ (s : List ℕ). flat_map spaced front ++ s) (append-nil (spaced token)) in
    step ∙ ap (λ (s : List ℕ). s ++ spaced token) before ∙ append_assoc old (flat_map spaced front) (spaced token)
    ∙ ap (λ (s : List ℕ). old ++ s) (sym longer)

-- a letter that found no memory, behind those before it
pub letter_part : (ls : List ℤ) (i : ℕ) (d : ℤ) (old mid new : List ℕ) → i < length ls → mid ≡ old ++ spelled (take i ls)
    → AppendsPart mid new (spaced (letter_token (get_or ls i d))) → AppendsPart old new (spelled ls)
letter_part ls i d old mid new within before part =
    let front = before ∙ ap (λ (s : List ℕ). old ++ s) (flat_map-map spaced letter_token (take i ls)) in
    rw (flat_map-map spaced letter_token ls) (part_in_turn (λ (l : ℤ). spaced (letter_token l)) ls i d old mid new within front part)

-- the line of a braid word, piece by piece
pub braid_line : (b : Word) → codes "braid " ++ (decimal b.strands ++ (spelled b.letters ++ codes "\n")) ≡ braid_text b
braid_line b =
    let line = line_text (codes "braid" ∷ decimal b.strands ∷ map letter_token b.letters) in
    sym (append-nil line ∙ ap (λ (s : List ℕ). codes "braid " ++ s) (append_assoc (decimal b.strands) (spelled b.letters) (codes "\n")))
