-- The first token, and the tokens behind it.
use Rattle.std.proofs.Common.{◌≡◌, ℕ, ◌<◌, List, [], ◌∷◌, length, arith, refl, ap, Bool, true, false, suc, take, drop, sym, subst, ap₂, ◌∙◌}
use Rattle.std.proofs.lemmas.List.{nil_from_length}
use Rattle.std.specs.List.{position_or_len}
use Rattle.std.specs.Str.{bytes_eq}
use Rattle.text_lines.specs.Tokens.{is_blank, onto, tokens_of}
use Rattle.text_lines.specs.Lines.{starts}
use Rattle.text_lines.specs.Cut.{after_blanks, first_token, behind_token}

-- ---- blanks in front

tokens_by : (b : ℕ) (bs : List ℕ) → tokens_of (after_blanks bs) ≡ tokens_of bs → (t : Bool) → is_blank b ≡ t
    → tokens_of (after_blanks (b ∷ bs)) ≡ tokens_of (b ∷ bs)
tokens_by b bs rest true is =
    let behind : after_blanks (b ∷ bs) ≡ after_blanks bs = rw is refl in
    let same : tokens_of (b ∷ bs) ≡ tokens_of bs = rw is refl in
    ap tokens_of behind ∙ rest ∙ sym same
tokens_by b bs rest false is =
    let here : after_blanks (b ∷ bs) ≡ b ∷ bs = rw is refl in
    ap tokens_of here

pub tokens_after_blanks : (bytes : List ℕ) → tokens_of (after_blanks bytes) ≡ tokens_of bytes
tokens_after_blanks [] = refl
tokens_after_blanks (b ∷ bs) = tokens_by b bs (tokens_after_blanks bs) (is_blank b) refl

-- ---- the first token

token_more : (b : ℕ) (bs : List ℕ) → is_blank b ≡ false → first_token (b ∷ bs) ≡ b ∷ first_token bs
token_more b bs is =
    let n = position_or_len is_blank bs in
    let step : position_or_len is_blank (b ∷ bs) ≡ suc n = rw is (omega arith) in
    ap (λ k. take k (b ∷ bs)) step

behind_more : (b : ℕ) (bs : List ℕ) → is_blank b ≡ false → behind_token (b ∷ bs) ≡ behind_token bs
behind_more b bs is =
    let n = position_or_len is_blank bs in
    let step : position_or_len is_blank (b ∷ bs) ≡ suc n = rw is (omega arith) in
    ap (λ k. drop k (b ∷ bs)) step

abbrev cut : List ℕ → List (List ℕ)
cut bytes = first_token bytes ∷ tokens_of (behind_token bytes)

more : (b c : ℕ) (cs : List ℕ) → is_blank b ≡ false → (is_blank c ≡ false → tokens_of (c ∷ cs) ≡ cut (c ∷ cs)) → (t : Bool) → is_blank c ≡ t
    → tokens_of (b ∷ c ∷ cs) ≡ cut (b ∷ c ∷ cs)
more b c cs here next true is =
    let one : tokens_of (b ∷ c ∷ cs) ≡ (b ∷ []) ∷ tokens_of (c ∷ cs) = rw (here, is) refl in
    let at : position_or_len is_blank (b ∷ c ∷ cs) ≡ 1 = rw (here, is) refl in
    one ∙ sym (ap (λ (k : ℕ). take k (b ∷ c ∷ cs) ∷ tokens_of (drop k (b ∷ c ∷ cs))) at)
more b c cs here next false is =
    let one : tokens_of (b ∷ c ∷ cs) ≡ onto b (tokens_of (c ∷ cs)) = rw (here, is) refl in
    one ∙ ap (onto b) (next is) ∙ ap₂ (λ (t r : List ℕ). t ∷ tokens_of r) (sym (token_more b (c ∷ cs) here)) (sym (behind_more b (c ∷ cs) here))

pub token_cut : (b : ℕ) (bs : List ℕ) → is_blank b ≡ false → tokens_of (b ∷ bs) ≡ first_token (b ∷ bs) ∷ tokens_of (behind_token (b ∷ bs))
token_cut b [] here = rw here refl
token_cut b (c ∷ cs) here = more b c cs here (λ is. token_cut c cs is) (is_blank c) refl

-- ---- behind the blanks no blank stands first

abbrev cut_of : List ℕ → List (List ℕ)
cut_of bytes = cut (after_blanks bytes)

cut_by : (b : ℕ) (bs : List ℕ) → (0 < length (after_blanks bs) → tokens_of bs ≡ cut_of bs) → (t : Bool) → is_blank b ≡ t → 0 < length (after_blanks (b ∷ bs))
    → tokens_of (b ∷ bs) ≡ cut_of (b ∷ bs)
cut_by b bs rest true is some =
    let same : after_blanks (b ∷ bs) ≡ after_blanks bs = rw is refl in
    let one : tokens_of (b ∷ bs) ≡ tokens_of bs = rw is refl in
    one ∙ rest (subst (λ (xs : List ℕ). 0 < length xs) same some) ∙ ap cut (sym same)
cut_by b bs rest false is some =
    let same : after_blanks (b ∷ bs) ≡ b ∷ bs = rw is refl in
    token_cut b bs is ∙ ap cut (sym same)

pub next_cut : (bytes : List ℕ) → 0 < length (after_blanks bytes)
    → tokens_of bytes ≡ first_token (after_blanks bytes) ∷ tokens_of (behind_token (after_blanks bytes))
next_cut [] some = absurd (omega (arith, some))
next_cut (b ∷ bs) some = cut_by b bs (next_cut bs) (is_blank b) refl some

pub no_token : (bytes : List ℕ) → length (after_blanks bytes) ≡ 0 → tokens_of bytes ≡ []
no_token bytes none = sym (tokens_after_blanks bytes) ∙ ap tokens_of (nil_from_length (after_blanks bytes) none)

-- ---- whether the first token is a word

pub starts_cut : (word bytes : List ℕ) → 0 < length (after_blanks bytes) → starts word (tokens_of bytes) ≡ bytes_eq (first_token (after_blanks bytes)) word
starts_cut word bytes some = ap (starts word) (next_cut bytes some)

pub starts_none : (word bytes : List ℕ) → length (after_blanks bytes) ≡ 0 → starts word (tokens_of bytes) ≡ false
starts_none word bytes none = ap (starts word) (no_token bytes none)
