-- A text behind whole lines.
use Rattle.std.proofs.Common.{◌≡◌, ℕ, ◌<◌, ◌+◌, ◌==◌, List, [], ◌∷◌, ◌++◌, length, arith, refl, ap, sym, ◌∙◌, Bool, true, false, length-append}
use Rattle.text_lines.specs.Tokens.{onto, tokens_of}
use Rattle.text_lines.specs.Lines.{NumberedLine, lines_of, line_count, are_whole_lines, trimmed, is_skipped, kept_lines, text_from}
use Rattle.text_lines.specs.Cut.{behind_line}
use Rattle.text_lines.proofs.FirstLine.{line_cut}

onto_front : (b : ℕ) (xs ys : List (List ℕ)) → 0 < length xs → onto b (xs ++ ys) ≡ onto b xs ++ ys
onto_front b [] ys some = absurd (omega (arith, some))
onto_front b (x ∷ xs) ys some = refl

some_line : (c : ℕ) (bs : List ℕ) → 0 < length (lines_of (c ∷ bs))
some_line c bs =
    let e : length (lines_of (c ∷ bs)) ≡ length (lines_of (behind_line (c ∷ bs))) + 1 = ap (λ (ls : List (List ℕ)). length ls) (line_cut c bs) ∙ omega arith in
    omega arith

last_by : (b : ℕ) (back : List ℕ) → (b == 10) ≡ true → lines_of (b ∷ back) ≡ lines_of (b ∷ []) ++ lines_of back
last_by b back is = rw is refl

more_by : (b c : ℕ) (bs back : List ℕ) → lines_of ((c ∷ bs) ++ back) ≡ lines_of (c ∷ bs) ++ lines_of back → (t : Bool) → (b == 10) ≡ t
    → lines_of ((b ∷ c ∷ bs) ++ back) ≡ lines_of (b ∷ c ∷ bs) ++ lines_of back
more_by b c bs back rest true is =
    let one : lines_of (b ∷ ((c ∷ bs) ++ back)) ≡ [] ∷ lines_of ((c ∷ bs) ++ back) = rw is refl in
    let two : lines_of (b ∷ c ∷ bs) ≡ [] ∷ lines_of (c ∷ bs) = rw is refl in
    one ∙ ap (λ (ls : List (List ℕ)). [] ∷ ls) rest ∙ sym (ap (λ (ls : List (List ℕ)). ls ++ lines_of back) two)
more_by b c bs back rest false is =
    let one : lines_of (b ∷ ((c ∷ bs) ++ back)) ≡ onto b (lines_of ((c ∷ bs) ++ back)) = rw is refl in
    let two : lines_of (b ∷ c ∷ bs) ≡ onto b (lines_of (c ∷ bs)) = rw is refl in
    one ∙ ap (onto b) rest ∙ onto_front b (lines_of (c ∷ bs)) (lines_of back) (some_line c bs) ∙ sym (ap (λ (ls : List (List ℕ)). ls ++ lines_of back) two)

pub lines_parted : (front back : List ℕ) → are_whole_lines front ≡ true → lines_of (front ++ back) ≡ lines_of front ++ lines_of back
lines_parted [] back whole = refl
lines_parted (b ∷ []) back whole = last_by b back whole
lines_parted (b ∷ c ∷ bs) back whole = more_by b c bs back (lines_parted (c ∷ bs) back whole) (b == 10) refl

kept_by : (n : ℕ) (line : List ℕ) (xs ys : List (List ℕ)) → kept_lines (n + 1) (xs ++ ys) ≡ kept_lines (n + 1) xs ++ kept_lines (n + length (line ∷ xs)) ys
    → (t : Bool) → is_skipped (trimmed line) ≡ t
    → kept_lines n ((line ∷ xs) ++ ys) ≡ kept_lines n (line ∷ xs) ++ kept_lines (n + length (line ∷ xs)) ys
kept_by n line xs ys rest true is =
    let one : kept_lines n (line ∷ (xs ++ ys)) ≡ kept_lines (n + 1) (xs ++ ys) = rw is refl in
    let two : kept_lines n (line ∷ xs) ≡ kept_lines (n + 1) xs = rw is refl in
    one ∙ rest ∙ sym (ap (λ (ls : List NumberedLine). ls ++ kept_lines (n + length (line ∷ xs)) ys) two)
kept_by n line xs ys rest false is =
    let one : kept_lines n (line ∷ (xs ++ ys)) ≡ record { number = n + 1; tokens = tokens_of (trimmed line) } ∷ kept_lines (n + 1) (xs ++ ys) = rw is refl in
    let two : kept_lines n (line ∷ xs) ≡ record { number = n + 1; tokens = tokens_of (trimmed line) } ∷ kept_lines (n + 1) xs = rw is refl in
    one ∙ ap (λ (ls : List NumberedLine). record { number = n + 1; tokens = tokens_of (trimmed line) } ∷ ls) rest
    ∙ sym (ap (λ (ls : List NumberedLine). ls ++ kept_lines (n + length (line ∷ xs)) ys) two)

pub kept_parted : (n : ℕ) (xs ys : List (List ℕ)) → kept_lines n (xs ++ ys) ≡ kept_lines n xs ++ kept_lines (n + length xs) ys
kept_parted n [] ys = let e : n ≡ n + 0 = omega arith in ap (λ (k : ℕ). kept_lines k ys) e
kept_parted n (line ∷ xs) ys =
    let e : n + 1 + length xs ≡ n + length (line ∷ xs) = omega arith in
    kept_by n line xs ys (kept_parted (n + 1) xs ys ∙ ap (λ (k : ℕ). kept_lines (n + 1) xs ++ kept_lines k ys) e) (is_skipped (trimmed line)) refl

pub text_lines_parted : (n : ℕ) (front back : List ℕ) → are_whole_lines front ≡ true
    → (text_from n (front ++ back)).lines ≡ (text_from n front).lines ++ (text_from (n + line_count front) back).lines
text_lines_parted n front back whole = ap (kept_lines n) (lines_parted front back whole) ∙ kept_parted n (lines_of front) (lines_of back)

pub text_ending_parted : (n : ℕ) (front back : List ℕ) → are_whole_lines front ≡ true
    → (text_from n (front ++ back)).ending ≡ (text_from (n + line_count front) back).ending
text_ending_parted n front back whole =
    let e = ap (λ (ls : List (List ℕ)). length ls) (lines_parted front back whole) in
    omega (arith, e, length-append (lines_of front) (lines_of back))
