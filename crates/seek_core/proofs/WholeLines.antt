-- Bytes are whole lines where the last one is a line feed.
use Rattle.std.proofs.Common.{◌≡◌, ◌<◌, ◌-◌, ◌==◌, ◌∙◌, refl, ap, arith, ℕ, suc, List, [], ◌∷◌, length, get_or}
use Rattle.text_lines.specs.Lines.{are_whole_lines}

pub whole_by_last : (bytes : List ℕ) → 0 < length bytes → (get_or bytes (length bytes - 1) 0 == 10) ≡ are_whole_lines bytes
whole_by_last [] some = absurd (omega (arith, some))
whole_by_last (b ∷ []) some = refl
whole_by_last (b ∷ c ∷ bs) some =
    let e : length (b ∷ c ∷ bs) - 1 ≡ suc (length (c ∷ bs) - 1) = omega arith in
    ap (λ (k : ℕ). get_or (b ∷ c ∷ bs) k 0 == 10) e ∙ whole_by_last (c ∷ bs) (omega arith)
