-- Lines of steps are read as these steps.
use Rattle.std.proofs.Common.{◌≡◌, ℕ, suc, ◌≤◌, ◌+◌, inl, inr, ℤ, pos, List, [], ◌∷◌, ◌++◌, length, map, Bool, true, false, Some, Ok, refl, sym, ap, subst}
use Rattle.std.proofs.Common.{◌∙◌, arith, codes, unsigned_abs}
use Rattle.std.specs.List.{AllByRecursion, list_all}
use Rattle.std.specs.Fmt.{decimal}
use Rattle.std.proofs.lemmas.Bool.{le-leb}
use Rattle.std.proofs.lemmas.List.{length-map}
use Rattle.braid_moves.specs.declared.step.BraidMove.{BraidMove}
use Rattle.braid_moves.specs.declared.step.BraidMove.TheVariants.{Far, Triple, Cancel, Insert, Turn, Grow, Shrink}
use Rattle.text_lines.specs.Lines.{Text, text_of, text_from}
use Rattle.text_lines.specs.Spelled.{is_word, is_line, numbered}
use Rattle.knot_text.proofs.Written.{lines_read}
use Rattle.text_items.specs.declared.reading.TheConstants.{MAX_PLACE, MAX_LETTER}
use Rattle.knot_text.specs.declared.braid_checks.BraidCheckText.{BraidCheckText}
use Rattle.text_items.specs.Reading.{next_line, next_token, line_end, in_turn}
use Rattle.text_items.specs.Braids.{letter_of}
use Rattle.knot_text.specs.BraidSteps.{last_letter, insert, grow, shrink, step_at, braid_step_item, step_lines, steps_item}
use Rattle.knot_text.specs.BraidChecks.{braidcheck_in, braidcheck_of}
use Rattle.knot_text.specs.Printed.{letter_token, braid_lines, sign_word, step_tokens, steps_head, steps_lines, steps_text, HasStepText, HaveStepsText}
use Rattle.knot_text.specs.WrittenThere.{tokens_by_line, said_by, SaysStep, SaySteps, AreStepsLines, StepsInFront, IsBraidCheckText}
use Rattle.knot_text.proofs.StepsAgain.{line_of, lines_before, word_again, number_again, most_again, count_again}
use Rattle.knot_text.proofs.MovesAgain.{place_again}
use Rattle.knot_text.proofs.LettersAgain.{letter_again, letter_word}
use Rattle.knot_text.proofs.Words.{decimal_word, all_lines}
use Rattle.text_laws.proofs.StepsAlike.{steps_alike}
use Rattle.text_laws.proofs.StepsSay.{steps_say, braidcheck_in_says}
use Rattle.text_laws.proofs.WrittenAgain.{rest_behind, read_from, braid_written}
use Rattle.text_laws.proofs.ShapesAgain.{cut, nothing_behind, whole, end_read}

-- ---- a step line

insert_again : (n p : ℕ) (a : ℤ) (t : List ℕ) → p ≤ MAX_PLACE → unsigned_abs a ≤ MAX_LETTER → letter_of t ≡ Some a
    → insert (line_of n (decimal p ∷ t ∷ [])) ≡ Ok (Insert p a)
unfolding insert last_letter next_token line_end
insert_again n p a t few small is =
    rw (number_again p n (t ∷ []) (omega (arith, few)), is, most_again MAX_PLACE n p few, le-leb (unsigned_abs a) MAX_LETTER small) refl

-- by its word
inserted : (n p : ℕ) (a : ℤ) (t : List ℕ) → p ≤ MAX_PLACE → unsigned_abs a ≤ MAX_LETTER → letter_of t ≡ Some a
    → step_at (line_of n (codes "insert" ∷ decimal p ∷ t ∷ [])) ≡ Ok (Insert p a)
unfolding step_at next_token
inserted n p a t few small is = insert_again n p a t few small is

tokens_again : (n : ℕ) (step : BraidMove) → HasStepText step → step_at (line_of n (step_tokens step)) ≡ Ok step
unfolding step_at grow shrink next_token line_end
tokens_again n (Far p) few = rw (place_again p n few) refl
tokens_again n (Triple p) few = rw (place_again p n few) refl
tokens_again n (Cancel p) few = rw (place_again p n few) refl
tokens_again n (Insert p a) few = inserted n p a (letter_token a) few.0 few.1 (letter_again a (omega (arith, few.1)))
tokens_again n (Turn k) few = rw (place_again k n few) refl
tokens_again n (Grow true) few = refl
tokens_again n (Grow false) few = refl
tokens_again n Shrink few = refl

step_again : (n : ℕ) (step : BraidMove) (tokens : List (List ℕ)) → HasStepText step → SaysStep tokens step → step_at (line_of n tokens) ≡ Ok step
step_again n step tokens fits (inl is) = ap (λ (ts : List (List ℕ)). step_at (line_of n ts)) is ∙ tokens_again n step fits
step_again n step tokens fits (inr minus) =
    let few = subst (λ (s : BraidMove). HasStepText s) minus.inserts fits in
    ap (λ (ts : List (List ℕ)). step_at (line_of n ts)) minus.minus ∙ inserted n minus.place (pos 0) (codes "-0") few.0 few.1 refl
    ∙ ap (λ (s : BraidMove). Ok s) (sym minus.inserts)

-- ---- the item

next_again : (n : ℕ) (step : BraidMove) (tokens : List (List ℕ)) (rest : Text) → HasStepText step → SaysStep tokens step
    → braid_step_item (lines_before (line_of (n + 1) tokens ∷ []) rest) ≡ Ok (step, rest)
unfolding braid_step_item next_line
next_again n step tokens rest fits says = rw (step_again (n + 1) step tokens fits says) refl

step_lines_again : (n : ℕ) (lines : List (List (List ℕ))) (steps : List BraidMove) (text : Text) → AllByRecursion HasStepText steps → SaySteps lines steps
    → step_lines (length steps) (lines_before (numbered n lines) text) ≡ Ok (steps, text)
unfolding in_turn
step_lines_again n [] [] text fits say = refl
step_lines_again n [] (step ∷ steps) text fits say = absurd say
step_lines_again n (tokens ∷ lines) [] text fits say = absurd say
step_lines_again n (tokens ∷ lines) (step ∷ steps) text fits say =
    let one = next_again n step tokens (lines_before (numbered (n + 1) lines) text) fits.0 say.0 in
    let others = step_lines_again (n + 1) lines steps text fits.1 say.1 in
    rw (one, others) refl

headed_again : (n : ℕ) (lines : List (List (List ℕ))) (steps : List BraidMove) (text : Text) → HaveStepsText steps → SaySteps lines steps
    → steps_item (lines_before (numbered n (steps_head steps ∷ lines)) text) ≡ Ok (steps, text)
unfolding steps_item next_line
headed_again n lines steps text fits say =
    let w = word_again (codes "steps") (n + 1) (decimal (length steps) ∷ []) in
    rw (w, count_again (length steps) (n + 1) fits.count, step_lines_again (n + 1) lines steps text fits.each say) refl

steps_again : (n : ℕ) (lines : List (List (List ℕ))) (steps : List BraidMove) (text : Text) → HaveStepsText steps → AreStepsLines lines steps
    → steps_item (lines_before (numbered n lines) text) ≡ Ok (steps, text)
steps_again n [] steps text fits say = absurd say
steps_again n (head ∷ lines) steps text fits say =
    ap (λ (ts : List (List ℕ)). steps_item (lines_before (numbered n (ts ∷ lines)) text)) say.0 ∙ headed_again n lines steps text fits say.1

-- there are as many lines as steps, and one more
say_length : (lines : List (List (List ℕ))) (steps : List BraidMove) → SaySteps lines steps → length lines ≡ length steps
say_length [] [] say = refl
say_length [] (step ∷ steps) say = absurd say
say_length (tokens ∷ lines) [] say = absurd say
say_length (tokens ∷ lines) (step ∷ steps) say = ap suc (say_length lines steps say.1)

lines_length : (lines : List (List (List ℕ))) (steps : List BraidMove) → AreStepsLines lines steps → length lines ≡ suc (length steps)
lines_length [] steps say = absurd say
lines_length (head ∷ lines) steps say = ap suc (say_length lines steps say.1)

pub steps_written : (text : Text) (steps : List BraidMove) (rest : Text) → HaveStepsText steps → StepsInFront steps text rest
    → steps_item text ≡ Ok (steps, rest)
steps_written text steps rest fits is =
    read_from steps_item steps_alike is.lines steps text rest (steps_again 0 is.lines steps rest fits is.say) is.there (λ left read.
    let found = ((steps_say text).of (steps, left) read).1 in
    rest_behind found.there is.there (lines_length found.lines steps found.say ∙ sym (lines_length is.lines steps is.say)))

-- ---- their text

sign_is_word : (positive : Bool) → is_word (sign_word positive) ≡ true
sign_is_word true = refl
sign_is_word false = refl

step_line : (step : BraidMove) → HasStepText step → is_line (step_tokens step) ≡ true
step_line (Far p) few = rw (decimal_word p (omega (arith, few))) refl
step_line (Triple p) few = rw (decimal_word p (omega (arith, few))) refl
step_line (Cancel p) few = rw (decimal_word p (omega (arith, few))) refl
step_line (Insert p a) few = rw (decimal_word p (omega (arith, few.0)), letter_word a (omega (arith, few.1))) refl
step_line (Turn k) few = rw (decimal_word k (omega (arith, few))) refl
step_line (Grow positive) few = rw (sign_is_word positive) refl
step_line Shrink few = refl

steps_words : (steps : List BraidMove) → HaveStepsText steps → list_all is_line (steps_lines steps) ≡ true
steps_words steps fits = rw (decimal_word (length steps) fits.count, all_lines step_tokens HasStepText steps step_line fits.each) refl

tokens_say : (steps : List BraidMove) → SaySteps (map step_tokens steps) steps
tokens_say [] = tt
tokens_say (step ∷ steps) = (inl refl, tokens_say steps)

pub steps_read : (n : ℕ) (steps : List BraidMove) (more : List ℕ) → HaveStepsText steps
    → steps_item (text_from n (steps_text steps ++ more)) ≡ Ok (steps, text_from (n + (length steps + 1)) more)
steps_read n steps more fits =
    let count : n + length (steps_lines steps) ≡ n + (length steps + 1) = omega (arith, length-map steps step_tokens) in
    ap steps_item (lines_read n (steps_lines steps) more (steps_words steps fits))
    ∙ headed_again n (map step_tokens steps) steps (text_from (n + length (steps_lines steps)) more) fits (tokens_say steps)
    ∙ ap (λ (k : ℕ). Ok (steps, text_from k more)) count

-- ---- the whole text

pub braidcheck_in_written : (text : Text) (i : BraidCheckText) → IsBraidCheckText (tokens_by_line text.lines) i → braidcheck_in text ≡ Ok i
unfolding braidcheck_in
braidcheck_in_written text i is =
    let end = nothing_behind text in
    let said = is.0 in
    let has = is.1 in
    let a = cut (braid_lines i.first) (braid_lines i.second ++ said) text end (whole (braid_lines i.first ++ (braid_lines i.second ++ said)) text is.3) in
    let b = cut (braid_lines i.second) said a.mid end a.second in
    let steps = steps_written b.mid i.steps end has.steps (record { lines = said; say = is.2; there = b.second }) in
    rw (braid_written text i.first a.mid has.first a.first, braid_written a.mid i.second b.mid has.second b.first, steps, end_read text) refl

-- texts that say the same have one reading
pub braidcheck_again : (a b : List ℕ) (i : BraidCheckText) → said_by a ≡ said_by b → braidcheck_of a ≡ Ok i → braidcheck_of b ≡ Ok i
braidcheck_again a b i same is =
    let x = (braidcheck_in_says (text_of a)).of i is in
    braidcheck_in_written (text_of b) i (x.0, x.1, x.2, sym same ∙ x.3)
