-- Steps between braids are read in the same way from texts of the same tokens.
use Rattle.std.proofs.Common.{ℕ, ℤ, List, refl, codes, nat_le}
use Rattle.std.specs.Prelude.{unsigned_abs}
use Rattle.std.specs.Str.{bytes_eq}
use Rattle.braid_moves.specs.declared.step.BraidMove.TheVariants.{Far, Triple, Cancel, Turn}
use Rattle.text_lines.specs.Lines.{Text}
use Rattle.text_items.specs.declared.reading.TheConstants.{MAX_PLACE, MAX_LETTER}
use Rattle.text_items.specs.Braids.{letter_of}
use Rattle.knot_text.specs.BraidSteps.{last_letter, bounded_letter, insert, grow, shrink, step_at, braid_step_item, steps_item}
use Rattle.knot_text.proofs.StepsAgain.{line_of}
use Rattle.text_laws.proofs.Alike.{Alike, alike_ok, alike_err, alike_if, Same, SameRest, SameText, SameLeft, same_bind, line_bind, rest_bind}
use Rattle.text_laws.proofs.Alike.{next_bind}
use Rattle.text_laws.proofs.ItemsAlike.{token_alike, end_alike, word_alike, some_alike, number_alike, most_alike, count_alike, one_alike}
use Rattle.text_laws.proofs.ItemsAlike.{turns_alike}

-- ---- a step line

last_letter_alike : (ts : List (List ℕ)) (n m : ℕ) → Alike SameRest (last_letter (line_of n ts)) (last_letter (line_of m ts))
unfolding last_letter
last_letter_alike ts n m =
    rest_bind _ _ (token_alike ts n m) (λ t us i j. same_bind (some_alike (letter_of t) n m)
    (λ a. line_bind _ _ (end_alike us i j) (λ vs k l. alike_ok (refl, refl))))

letter_alike : (a : ℤ) (n m : ℕ) → Alike Same (bounded_letter n a) (bounded_letter m a)
letter_alike a n m = alike_if (nat_le (unsigned_abs a) MAX_LETTER) (alike_ok refl) alike_err

insert_alike : (ts : List (List ℕ)) (n m : ℕ) → Alike Same (insert (line_of n ts)) (insert (line_of m ts))
unfolding insert
insert_alike ts n m =
    rest_bind _ _ (number_alike ts n m) (λ v us i j. rest_bind _ _ (last_letter_alike us i j)
    (λ a vs k l. same_bind (most_alike MAX_PLACE v k l) (λ place. same_bind (letter_alike a k l) (λ letter. alike_ok refl))))

grow_alike : (ts : List (List ℕ)) (n m : ℕ) → Alike Same (grow (line_of n ts)) (grow (line_of m ts))
unfolding grow
grow_alike ts n m =
    rest_bind _ _ (token_alike ts n m) (λ t us i j. line_bind _ _ (end_alike us i j)
    (λ vs k l. alike_if (bytes_eq t (codes "plus")) (alike_ok refl) (alike_if (bytes_eq t (codes "minus")) (alike_ok refl) alike_err)))

shrink_alike : (ts : List (List ℕ)) (n m : ℕ) → Alike Same (shrink (line_of n ts)) (shrink (line_of m ts))
unfolding shrink
shrink_alike ts n m = line_bind _ _ (end_alike ts n m) (λ us i j. alike_ok refl)

step_alike : (ts : List (List ℕ)) (n m : ℕ) → Alike Same (step_at (line_of n ts)) (step_at (line_of m ts))
unfolding step_at
step_alike ts n m = rest_bind _ _ (token_alike ts n m) (λ t us i j.
    alike_if (bytes_eq t (codes "far")) (one_alike (λ p. Far p) us i j)
    (alike_if (bytes_eq t (codes "triple")) (one_alike (λ p. Triple p) us i j)
    (alike_if (bytes_eq t (codes "cancel")) (one_alike (λ p. Cancel p) us i j)
    (alike_if (bytes_eq t (codes "insert")) (insert_alike us i j)
    (alike_if (bytes_eq t (codes "turn")) (one_alike (λ k. Turn k) us i j)
    (alike_if (bytes_eq t (codes "grow")) (grow_alike us i j) (alike_if (bytes_eq t (codes "shrink")) (shrink_alike us i j) alike_err)))))))

-- ---- the steps

next_step_alike : (t u : Text) → SameText t u → Alike SameLeft (braid_step_item t) (braid_step_item u)
unfolding braid_step_item
next_step_alike t u same = next_bind _ _ _ _ same (λ ts n m v w behind. same_bind (step_alike ts n m) (λ step. alike_ok (refl, behind)))

pub steps_alike : (t u : Text) → SameText t u → Alike SameLeft (steps_item t) (steps_item u)
unfolding steps_item
steps_alike t u same =
    next_bind _ _ _ _ same (λ ts n m v w behind. line_bind _ _ (word_alike (codes "steps") ts n m)
    (λ us i j. same_bind (count_alike us i j) (λ count. turns_alike braid_step_item next_step_alike count v w behind)))
