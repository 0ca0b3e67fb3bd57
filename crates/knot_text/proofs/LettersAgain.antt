-- Numbers that may be negative, as printed, are read again, and are words.
use Rattle.std.proofs.Common.{◌≡◌, ℕ, ◌≤◌, ◌+◌, ◌==◌, ◌++◌, ℤ, pos, negsuc, unsigned_abs, List, [], ◌∷◌, Bool, true, false, Option, Some, None}
use Rattle.std.proofs.Common.{refl, ap, subst, add-one, neg_ℤ, ◌∙◌, arith, codes}
use Rattle.std.specs.Fmt.{decimal}
use Rattle.std.proofs.lemmas.Bool.{eqb-true}
use Rattle.text_lines.specs.NumberTokens.{number_of}
use Rattle.text_lines.specs.Spelled.{is_word}
use Rattle.knot_text.proofs.NumberTexts.{decimal_read}
use Rattle.text_items.specs.declared.reading.TheConstants.{MAX_NUMBER}
use Rattle.text_items.specs.Braids.{letter_of}
use Rattle.knot_text.specs.Printed.{letter_token}
use Rattle.knot_text.proofs.Words.{decimal_word}

-- a number begins with no `-`
unsigned : (t : List ℕ) (k : ℕ) → number_of t ≡ Some k → letter_of t ≡ Some (pos k)
unsigned [] k is = absurd cc
unsigned (b ∷ bs) k is = by (b == 45) refl
  where
    by : (s : Bool) → (b == 45) ≡ s → letter_of (b ∷ bs) ≡ Some (pos k)
    by true dash =
        let no : ◌≡◌ {A = Option ℕ} None (Some k) = subst (λ (c : ℕ). number_of (c ∷ bs) ≡ Some k) (eqb-true b 45 dash) is in
        absurd cc
    by false other = rw (other, is) refl

pub letter_again : (a : ℤ) → unsigned_abs a ≤ MAX_NUMBER → letter_of (letter_token a) ≡ Some a
letter_again (pos k) few = unsigned (decimal k) k (decimal_read k (omega (arith, few)))
letter_again (negsuc k) few = rw (decimal_read (k + 1) (omega (arith, few))) (ap (λ (n : ℕ). Some (neg_ℤ (pos n))) (add-one k))

pub letter_word : (a : ℤ) → unsigned_abs a ≤ MAX_NUMBER → is_word (letter_token a) ≡ true
letter_word (pos k) few = decimal_word k few
letter_word (negsuc k) few = signed (decimal (k + 1)) (decimal_word (k + 1) (omega (arith, few)))
  where
    signed : (t : List ℕ) → is_word t ≡ true → is_word (codes "-" ++ t) ≡ true
    signed [] is = absurd cc
    signed (c ∷ cs) is = is
