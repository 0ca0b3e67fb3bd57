-- A line feed behind a last line that lacks it.
use Rattle.std.proofs.Common.{◌≡◌, ℕ, ◌+◌, ◌==◌, List, [], ◌∷◌, ◌++◌, length, refl, sym, ap, ◌∙◌, Bool, true, false, codes}
use Rattle.text_lines.specs.Tokens.{onto}
use Rattle.text_lines.specs.Lines.{lines_of, are_whole_lines, kept_lines, text_from}

last_by : (b : ℕ) → (b == 10) ≡ false → lines_of (b ∷ 10 ∷ []) ≡ lines_of (b ∷ [])
last_by b is = rw is refl

more_by : (b c : ℕ) (bs : List ℕ) → lines_of ((c ∷ bs) ++ 10 ∷ []) ≡ lines_of (c ∷ bs) → (t : Bool) → (b == 10) ≡ t
    → lines_of ((b ∷ c ∷ bs) ++ 10 ∷ []) ≡ lines_of (b ∷ c ∷ bs)
more_by b c bs rest true is =
    let one : lines_of (b ∷ ((c ∷ bs) ++ 10 ∷ [])) ≡ [] ∷ lines_of ((c ∷ bs) ++ 10 ∷ []) = rw is refl in
    let two : lines_of (b ∷ c ∷ bs) ≡ [] ∷ lines_of (c ∷ bs) = rw is refl in
    one ∙ ap (λ (ls : List (List ℕ)). [] ∷ ls) rest ∙ sym two
more_by b c bs rest false is =
    let one : lines_of (b ∷ ((c ∷ bs) ++ 10 ∷ [])) ≡ onto b (lines_of ((c ∷ bs) ++ 10 ∷ [])) = rw is refl in
    let two : lines_of (b ∷ c ∷ bs) ≡ onto b (lines_of (c ∷ bs)) = rw is refl in
    one ∙ ap (onto b) rest ∙ sym two

same_lines : (bytes : List ℕ) → are_whole_lines bytes ≡ false → lines_of (bytes ++ 10 ∷ []) ≡ lines_of bytes
same_lines [] lacks = absurd (let no : ◌≡◌ {A = Bool} true false = lacks in cc)
same_lines (b ∷ []) lacks = last_by b lacks
same_lines (b ∷ c ∷ bs) lacks = more_by b c bs (same_lines (c ∷ bs) lacks) (b == 10) refl

pub feed_added : (n : ℕ) (bytes : List ℕ) → are_whole_lines bytes ≡ false → text_from n (bytes ++ codes "\n") ≡ text_from n bytes
feed_added n bytes lacks = ap (λ (ls : List (List ℕ)). record { lines = kept_lines n ls; ending = n + length ls + 1 }) (same_lines bytes lacks)

pub feed_ends : (bytes : List ℕ) → are_whole_lines (bytes ++ codes "\n") ≡ true
feed_ends [] = refl
feed_ends (b ∷ []) = refl
feed_ends (b ∷ c ∷ bs) = feed_ends (c ∷ bs)
