-- The text of a walk, as it is written piece by piece.
use Rattle.std.proofs.Common.{◌≡◌, ◌∷◌, ◌++◌, ◌∙◌, [], ℕ, List, length, codes, refl, sym, ap, ap₂, append_assoc}
use Rattle.std.specs.Fmt.{decimal, digits}
use Rattle.std.proofs.lemmas.List.{append-nil}
use Rattle.grid_core.specs.Diagram.{Diagram}
use Rattle.grid_moves.specs.declared.step.Move.{Move}
use Rattle.quandle_core.specs.Quandle.{Table}
use Rattle.quandle_core.specs.Tables.{trivial, dihedral, tetrahedral}
use Rattle.colour_list.specs.Listing.{colourings}
use Rattle.text_lines.specs.Spelled.{line_bytes, line_text}
use Rattle.quandle_core.specs.declared.names.QuandleName.{QuandleName}
use Rattle.quandle_core.specs.declared.names.QuandleName.TheVariants as name
use Rattle.knot_text.specs.Printed.{name_tokens}
use Rattle.search_jobs.specs.Text.{counts_text, walk_text}

-- words, and two numbers behind them
abbrev pub pair : List ℕ → List ℕ → List ℕ → List ℕ
pair words a b = words ++ (a ++ (codes " " ++ (b ++ codes "\n")))

abbrev pub counts : Table → Diagram → Diagram → List ℕ → List ℕ
counts t d e words = pair words (decimal (length (colourings t d))) (decimal (length (colourings t e)))

line_pair : (name words a b : List ℕ) → name ++ codes ": " ≡ words → line_text ((name ++ codes ":") ∷ a ∷ b ∷ []) ≡ pair words a b
line_pair name words a b is =
    let behind : List ℕ = a ++ (codes " " ++ (b ++ codes "\n")) in
    append_assoc (name ++ codes ":") (codes " " ++ (a ++ (codes " " ++ (b ++ [])))) (codes "\n")
    ∙ ap (λ (zs : List ℕ). (name ++ codes ":") ++ (codes " " ++ zs))
    (append_assoc a (codes " " ++ (b ++ [])) (codes "\n") ∙ ap (λ (zs : List ℕ). a ++ (codes " " ++ zs)) (append_assoc b [] (codes "\n")))
    ∙ append_assoc name (codes ":") (codes " " ++ behind) ∙ sym (append_assoc name (codes ": ") behind) ∙ ap (λ (zs : List ℕ). zs ++ behind) is

five_lines : (k l m n o a b c d e a' b' c' d' e' p q r s t : List ℕ) → k ++ codes ": " ≡ p → l ++ codes ": " ≡ q → m ++ codes ": " ≡ r
    → n ++ codes ": " ≡ s → o ++ codes ": " ≡ t
    → line_text ((k ++ codes ":") ∷ a ∷ a' ∷ []) ++ (line_text
    ((l ++ codes ":") ∷ b ∷ b' ∷ []) ++ (line_text ((m ++ codes ":") ∷ c ∷ c' ∷ []) ++ (line_text
    ((n ++ codes ":") ∷ d ∷ d' ∷ []) ++ (line_text ((o ++ codes ":") ∷ e ∷ e' ∷ []) ++ []))))
    ≡ pair p a a' ++ (pair q b b' ++ (pair r c c' ++ (pair s d d' ++ pair t e e')))
five_lines k l m n o a b c d e a' b' c' d' e' p q r s t one two three four five =
    ap₂ (λ (xs ys : List ℕ). xs ++ ys) (line_pair k p a a' one)
    (ap₂ (λ (xs ys : List ℕ). xs ++ ys) (line_pair l q b b' two)
    (ap₂ (λ (xs ys : List ℕ). xs ++ ys) (line_pair m r c c' three)
    (ap₂ (λ (xs ys : List ℕ). xs ++ ys) (line_pair n s d d' four)
    (append-nil (line_text ((o ++ codes ":") ∷ e ∷ e' ∷ [])) ∙ line_pair o t e e' five))))

-- the names of the built-in list
abbrev named : QuandleName → ℕ → List ℕ
named name order = line_bytes (name_tokens name order)

trivial_2 : named (name.Trivial 2) 2 ++ codes ": " ≡ codes "trivial 2: "
unfolding digits
trivial_2 = refl

dihedral_3 : named (name.Dihedral 3) 3 ++ codes ": " ≡ codes "dihedral 3: "
unfolding digits
dihedral_3 = refl

of_order_4 : named name.Tetrahedral 4 ++ codes ": " ≡ codes "tetrahedral: "
of_order_4 = refl

dihedral_5 : named (name.Dihedral 5) 5 ++ codes ": " ≡ codes "dihedral 5: "
unfolding digits
dihedral_5 = refl

dihedral_7 : named (name.Dihedral 7) 7 ++ codes ": " ≡ codes "dihedral 7: "
unfolding digits
dihedral_7 = refl

pub counts_by_name : (d e : Diagram) → counts_text d e
    ≡ counts (trivial 2) d e (codes "trivial 2: ") ++ (counts (dihedral 3) d e
    (codes "dihedral 3: ") ++ (counts tetrahedral d e (codes "tetrahedral: ") ++ (counts (dihedral 5) d e (codes "dihedral 5: ") ++ counts (dihedral 7) d e
    (codes "dihedral 7: "))))
unfolding counts_text
counts_by_name d e =
    five_lines (named (name.Trivial 2) 2) (named (name.Dihedral 3) 3) (named name.Tetrahedral 4) (named (name.Dihedral 5) 5) (named (name.Dihedral 7) 7)
    (decimal (length (colourings (trivial 2) d))) (decimal (length (colourings (dihedral 3) d))) (decimal (length (colourings tetrahedral d)))
    (decimal (length (colourings (dihedral 5) d))) (decimal (length (colourings (dihedral 7) d)))
    (decimal (length (colourings (trivial 2) e))) (decimal (length (colourings (dihedral 3) e))) (decimal (length (colourings tetrahedral e)))
    (decimal (length (colourings (dihedral 5) e))) (decimal (length (colourings (dihedral 7) e)))
    (codes "trivial 2: ") (codes "dihedral 3: ") (codes "tetrahedral: ") (codes "dihedral 5: ")
    (codes "dihedral 7: ") trivial_2 dihedral_3 of_order_4 dihedral_5 dihedral_7

-- what was appended for a quandle that is known
pub counted_by : (t u : Table) (d e : Diagram) (words before after : List ℕ) → t ≡ u → after ≡ before ++ counts t d e words
    → after ≡ before ++ counts u d e words
counted_by t u d e words before after same is = is ∙ ap (λ (v : Table). before ++ counts v d e words) same

appended_five : (x a b c d e p q r s t : List ℕ) → a ≡ x ++ p → b ≡ a ++ q → c ≡ b ++ r → d ≡ c ++ s → e ≡ d ++ t → e ≡ x ++ (p ++ (q ++ (r ++ (s ++ t))))
appended_five x a b c d e p q r s t at_a at_b at_c at_d at_e =
    at_e ∙ ap (λ ys. ys ++ t) (at_d ∙ ap (λ ys. ys ++ s) (at_c ∙ ap (λ ys. ys ++ r) (at_b ∙ ap (λ ys. ys ++ q) at_a))) ∙ simp append_assoc

pub counts_made : (d e : Diagram) (x v w y z last : List ℕ) → v ≡ x ++ counts (trivial 2) d e (codes "trivial 2: ")
    → w ≡ v ++ counts (dihedral 3) d e (codes "dihedral 3: ") → y ≡ w ++ counts tetrahedral d e (codes "tetrahedral: ")
    → z ≡ y ++ counts (dihedral 5) d e (codes "dihedral 5: ") → last ≡ z ++ counts (dihedral 7) d e (codes "dihedral 7: ")
    → last ≡ x ++ counts_text d e
counts_made d e x v w y z last one two three four five =
    appended_five x v w y z last (counts (trivial 2) d e (codes "trivial 2: ")) (counts (dihedral 3) d e (codes "dihedral 3: "))
    (counts tetrahedral d e (codes "tetrahedral: ")) (counts (dihedral 5) d e (codes "dihedral 5: "))
    (counts (dihedral 7) d e (codes "dihedral 7: ")) one two three four five
    ∙ ap (λ ys. x ++ ys) (sym (counts_by_name d e))

-- the whole text
pub seed_line : (seed : List ℕ) → line_text (codes "sample" ∷ seed ∷ []) ≡ codes "sample " ++ (seed ++ codes "\n")
seed_line seed = ap (λ (zs : List ℕ). codes "sample " ++ zs) (append_assoc seed [] (codes "\n"))

moves_line : (moves : List ℕ) → line_text (codes "moves" ∷ moves ∷ []) ≡ codes "moves " ++ (moves ++ codes "\n")
moves_line moves = ap (λ (zs : List ℕ). codes "moves " ++ zs) (append_assoc moves [] (codes "\n"))

joined_lines : (a b c rest : List ℕ) → (a ++ (b ++ (c ++ []))) ++ rest ≡ a ++ (b ++ (c ++ rest))
joined_lines a b c rest =
    append_assoc a (b ++ (c ++ [])) rest ∙ ap (λ zs. a ++ zs) (append_assoc b (c ++ []) rest ∙ ap (λ zs. b ++ zs) (append_assoc c [] rest))

three_lines : (seed moves rest : List ℕ)
    → (line_text (codes "sample" ∷ seed ∷ []) ++ (line_text (codes "moves" ∷ moves ∷ []) ++ (line_text (codes "accepted" ∷ []) ++ []))) ++ rest
    ≡ (codes "sample " ++ (seed ++ codes "\n")) ++ ((codes "moves " ++ (moves ++ codes "\n")) ++ (codes "accepted\n" ++ rest))
three_lines seed moves rest =
    joined_lines (line_text (codes "sample" ∷ seed ∷ [])) (line_text (codes "moves" ∷ moves ∷ [])) (codes "accepted\n") rest
    ∙ ap₂ (λ (xs ys : List ℕ). xs ++ (ys ++ (codes "accepted\n" ++ rest))) (seed_line seed) (moves_line moves)

pub walk_pieces : (seed : ℕ) (moves : List Move) (d e : Diagram)
    → walk_text seed moves d e ≡ (codes "sample " ++ (decimal seed ++ codes "\n")) ++ ((codes "moves " ++ (decimal
    (length moves) ++ codes "\n")) ++ (codes "accepted\n" ++ counts_text d e))
unfolding walk_text
walk_pieces seed moves d e = three_lines (decimal seed) (decimal (length moves)) (counts_text d e)

pub walk_made : (seed n : ℕ) (moves : List Move) (d e : Diagram) (x v w y last ruling : List ℕ) → x ≡ []
    → v ≡ x ++ (codes "sample " ++ (decimal seed ++ codes "\n")) → n ≡ length moves → w ≡ v ++ (codes "moves " ++ (decimal n ++ codes "\n"))
    → ruling ≡ codes "accepted\n" → y ≡ w ++ ruling → last ≡ y ++ counts_text d e → last ≡ walk_text seed moves d e
walk_made seed n moves d e x v w y last ruling empty at_v count at_w accepted at_y at_last =
    let one : v ≡ codes "sample " ++ (decimal seed ++ codes "\n") = at_v ∙ ap (λ zs. zs ++ (codes "sample " ++ (decimal seed ++ codes "\n"))) empty in
    let two : w ≡ v ++ (codes "moves " ++ (decimal (length moves) ++ codes "\n")) =
    at_w ∙ ap (λ (k : ℕ). v ++ (codes "moves " ++ (decimal k ++ codes "\n"))) count in
    let three : y ≡ w ++ codes "accepted\n" = at_y ∙ ap (λ zs. w ++ zs) accepted in
    at_last ∙ ap (λ zs. zs ++ counts_text d e) (three ∙ ap (λ zs. zs ++ codes "accepted\n")
    (two ∙ ap (λ zs. zs ++ (codes "moves " ++ (decimal (length moves) ++ codes "\n"))) one))
    ∙ four (codes "sample " ++ (decimal seed ++ codes "\n")) (codes "moves " ++ (decimal (length moves) ++ codes "\n")) (codes "accepted\n") (counts_text d e)
    ∙ sym (walk_pieces seed moves d e)
  where
    four : (a b c d : List ℕ) → ((a ++ b) ++ c) ++ d ≡ a ++ (b ++ (c ++ d))
    four a b c d = simp append_assoc
