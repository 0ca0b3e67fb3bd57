-- Steps of a braid word, by what stands in front of the letters and behind them.
use Rattle.std.proofs.Common.{◌≡◌, ◌+◌, ◌-◌, ◌∙◌, ◌++◌, ◌∷◌, [], ℕ, ℤ, pos, neg_ℤ, Bool, List, length, take, drop, get_or, length-append, arith, ap, refl}
use Rattle.std.proofs.Math.Seq.{take-append_seam, drop-append_seam, drop-append-add, get_or-append_seam}
use Rattle.std.proofs.lemmas.List.{get_or-append-add}
use Rattle.braid_moves.specs.Step.{letter_of_crossing, moved}
use Rattle.braid_moves.specs.declared.step.BraidMove.TheVariants.{Far, Triple, Cancel, Insert, Turn, Grow, Shrink}
use Rattle.text_laws.specs.Words.{braid_word}

pub far_trades : (m : ℕ) (front back : List ℤ) (a b : ℤ)
    → moved (braid_word m (front ++ a ∷ b ∷ back)) (Far (length front)) ≡ braid_word m (front ++ b ∷ a ∷ back)
far_trades m front back a b =
    let letters = a ∷ b ∷ back in
    rw (
      take-append_seam front letters,
      get_or-append-add front letters 1 (pos 0),
      get_or-append_seam front a (b ∷ back) (pos 0),
      drop-append-add front letters 2,
    ) refl

pub triple_turns : (m : ℕ) (front back : List ℤ) (a b : ℤ)
    → moved (braid_word m (front ++ a ∷ b ∷ a ∷ back)) (Triple (length front)) ≡ braid_word m (front ++ b ∷ a ∷ b ∷ back)
triple_turns m front back a b =
    let letters = a ∷ b ∷ a ∷ back in
    rw (
      take-append_seam front letters,
      get_or-append-add front letters 1 (pos 0),
      get_or-append_seam front a (b ∷ a ∷ back) (pos 0),
      drop-append-add front letters 3,
    ) refl

pub pair_cancels : (m : ℕ) (front back : List ℤ) (a : ℤ)
    → moved (braid_word m (front ++ a ∷ neg_ℤ a ∷ back)) (Cancel (length front)) ≡ braid_word m (front ++ back)
pair_cancels m front back a =
    let letters = a ∷ neg_ℤ a ∷ back in
    rw (take-append_seam front letters, drop-append-add front letters 2) refl

pub pair_comes : (m : ℕ) (front back : List ℤ) (a : ℤ)
    → moved (braid_word m (front ++ back)) (Insert (length front) a) ≡ braid_word m (front ++ a ∷ neg_ℤ a ∷ back)
pair_comes m front back a = rw (take-append_seam front back, drop-append_seam front back) refl

pub front_goes_behind : (m : ℕ) (front back : List ℤ) → moved (braid_word m (front ++ back)) (Turn (length front)) ≡ braid_word m (back ++ front)
front_goes_behind m front back = rw (take-append_seam front back, drop-append_seam front back) refl

pub strand_goes : (m : ℕ) (letters : List ℤ) (positive : Bool)
    → moved (braid_word (m + 1) (letters ++ letter_of_crossing m positive ∷ [])) Shrink ≡ braid_word m letters
strand_goes m letters positive =
    ap (λ (k : ℕ). braid_word k (take (length (letters ++ letter_of_crossing m positive ∷ []) - 1) (letters ++ letter_of_crossing m positive ∷ [])))
    (let e : m + 1 - 1 ≡ m = omega arith in e)
    ∙ (ap (λ (k : ℕ). braid_word m (take k (letters ++ letter_of_crossing m positive ∷ [])))
    (let e : length (letters ++ letter_of_crossing m positive ∷ []) - 1
    ≡ length letters = omega (arith, length-append letters (letter_of_crossing m positive ∷ [])) in e)
    ∙ ap (braid_word m) (take-append_seam letters (letter_of_crossing m positive ∷ [])))
