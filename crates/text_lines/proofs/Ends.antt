-- The end and the beginning of a line.
use Rattle.std.proofs.Common.{◌≡◌, ℕ, ◌<◌, ◌-◌, ◌==◌, List, [], ◌∷◌, length, get_or, take, arith, refl, ap, Bool, true, false, suc, sym, subst, ◌∙◌}
use Rattle.std.proofs.lemmas.Bool.{eqb-true}
use Rattle.std.proofs.lemmas.List.{nil_from_length}
use Rattle.text_lines.specs.Tokens.{is_blank}
use Rattle.text_lines.specs.Lines.{trimmed, is_skipped}
use Rattle.text_lines.specs.Cut.{after_blanks}

-- a carriage return at the end
pub trimmed_return : (line : List ℕ) → 0 < length line → get_or line (length line - 1) 0 ≡ 13 → trimmed line ≡ take (length line - 1) line
trimmed_return [] some last = absurd (omega (arith, some))
trimmed_return (b ∷ []) some last = rw last refl
trimmed_return (b ∷ c ∷ bs) some last =
    let e : length (b ∷ c ∷ bs) - 1 ≡ suc (length (c ∷ bs) - 1) = omega arith in
    let later : get_or (c ∷ bs) (length (c ∷ bs) - 1) 0 ≡ 13 = subst (λ (k : ℕ). get_or (b ∷ c ∷ bs) k 0 ≡ 13) e last in
    ap (λ (xs : List ℕ). b ∷ xs) (trimmed_return (c ∷ bs) (omega arith) later) ∙ sym (ap (λ (k : ℕ). take k (b ∷ c ∷ bs)) e)

single_kept : (b : ℕ) (t : Bool) → (b == 13) ≡ t → (b ≡ 13 → ⊥) → trimmed (b ∷ []) ≡ b ∷ []
single_kept b true is other = absurd (other (eqb-true b 13 is))
single_kept b false is other = rw is refl

-- none there
pub trimmed_kept : (line : List ℕ) → (0 < length line → get_or line (length line - 1) 0 ≡ 13 → ⊥) → trimmed line ≡ line
trimmed_kept [] other = refl
trimmed_kept (b ∷ []) other = single_kept b (b == 13) refl (λ e. other (omega arith) e)
trimmed_kept (b ∷ c ∷ bs) other =
    let e : length (b ∷ c ∷ bs) - 1 ≡ suc (length (c ∷ bs) - 1) = omega arith in
    let later : get_or (c ∷ bs) (length (c ∷ bs) - 1) 0 ≡ get_or (b ∷ c ∷ bs) (length (b ∷ c ∷ bs) - 1) 0 = sym (ap (λ (k : ℕ). get_or (b ∷ c ∷ bs) k 0) e) in
    ap (λ (xs : List ℕ). b ∷ xs) (trimmed_kept (c ∷ bs) (λ some last. other (omega arith) (sym later ∙ last)))

-- ---- skipped lines

-- no byte, or a # first
abbrev pub is_remark : List ℕ → Bool
is_remark [] = true
is_remark (b ∷ bs) = b == 35

skipped_by : (b : ℕ) (bs : List ℕ) → is_skipped bs ≡ is_remark (after_blanks bs) → (t : Bool) → is_blank b ≡ t
    → is_skipped (b ∷ bs) ≡ is_remark (after_blanks (b ∷ bs))
skipped_by b bs rest true is = rw is rest
skipped_by b bs rest false is = rw is refl

pub skipped_is : (line : List ℕ) → is_skipped line ≡ is_remark (after_blanks line)
skipped_is [] = refl
skipped_is (b ∷ bs) = skipped_by b bs (skipped_is bs) (is_blank b) refl

pub skipped_empty : (line rest : List ℕ) → rest ≡ after_blanks line → length rest ≡ 0 → is_skipped line ≡ true
skipped_empty line rest is none = skipped_is line ∙ ap is_remark (sym is ∙ nil_from_length rest none)

remark_some : (rest : List ℕ) → 0 < length rest → is_remark rest ≡ (get_or rest 0 0 == 35)
remark_some [] some = absurd (omega (arith, some))
remark_some (b ∷ bs) some = refl

pub skipped_some : (line rest : List ℕ) → rest ≡ after_blanks line → 0 < length rest → is_skipped line ≡ (get_or rest 0 0 == 35)
skipped_some line rest is some = skipped_is line ∙ ap is_remark (sym is) ∙ remark_some rest some
