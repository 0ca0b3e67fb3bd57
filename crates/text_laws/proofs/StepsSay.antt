-- Steps that were read are written there.
use Rattle.std.proofs.Common.{◌≡◌, ℕ, zero, suc, ◌≤◌, ◌==◌, ◌⊎◌, inl, inr, ℤ, pos, negsuc, List, [], ◌∷◌, length, Bool, true, false, cond, Option}
use Rattle.std.proofs.Common.{Some, None, Result, refl, sym, ap, ap₂, subst, ◌∙◌, arith, codes, nat_le, neg_ℤ, unsigned_abs}
use Rattle.std.specs.Option.{option_map}
use Rattle.std.specs.List.{AllByRecursion}
use Rattle.std.specs.Str.{bytes_eq}
use Rattle.std.specs.Fmt.{decimal}
use Rattle.std.proofs.lemmas.Bool.{eqb-true, leb-true}
use Rattle.std.proofs.lemmas.Fmt.{decimal_digit}
use Rattle.braid_core.specs.Braid.{IsBraid}
use Rattle.braid_moves.specs.declared.step.BraidMove.{BraidMove}
use Rattle.braid_moves.specs.declared.step.BraidMove.TheVariants.{Far, Triple, Cancel, Insert, Turn, Grow, Shrink}
use Rattle.text_lines.specs.Lines.{NumberedLine, Text}
use Rattle.text_lines.specs.NumberTokens.{number_of}
use Rattle.text_items.specs.declared.fault.TextFault.{TextFault}
use Rattle.text_items.specs.declared.reading.TheConstants.{MAX_NUMBER, MAX_PLACE, MAX_LETTER}
use Rattle.text_items.specs.Reading.{in_turn}
use Rattle.text_items.specs.Braids.{letter_of}
use Rattle.verdict_text.specs.Moves.{one_place}
use Rattle.knot_text.specs.BraidSteps.{last_letter, bounded_letter, insert, grow, shrink, step_at, braid_step_item, steps_item}
use Rattle.knot_text.specs.BraidChecks.{braidcheck_in}
use Rattle.knot_text.specs.Printed.{letter_token, braid_lines, step_tokens, steps_head, HasStepText, HaveStepsText}
use Rattle.knot_text.specs.WrittenThere.{tokens_by_line, StandInFront, SaysStep, SaySteps, StepsInFront, IsBraidCheckText}
use Rattle.knot_text.proofs.Says.{Says, says_ok, says_err, says_bind, says_if, says_more, no_lines_in_front, in_front_of, IsNext, next_says}
use Rattle.knot_text.proofs.LineSays.{IsFirst, next_token_says, HasNone, line_end_says, is_word, word_says, or_malformed_says}
use Rattle.knot_text.proofs.LineSays.{IsNumberFirst, number_says, at_most_says, last_count_says, spelled}
use Rattle.knot_text.proofs.ItemsSay.{IsWritten, positive_by, letter_spelled, braid_says, place_says}
use Rattle.knot_text.proofs.ShapesSay.{end_says, all_lines}

-- ---- letters, of which 0 has two spellings

abbrev IsSpelled : ℤ → List ℕ → Type 0
IsSpelled a token = (token ≡ letter_token a) ⊎ ((a ≡ pos 0) × (token ≡ codes "-0"))

minus_zero : (bs : List ℕ) (o : Option ℕ) → number_of bs ≡ o → option_map (λ k. neg_ℤ (pos k)) o ≡ Some (pos 0) → bs ≡ codes "0"
minus_zero bs None is e = absurd cc
minus_zero bs (Some zero) is e = spelled bs 0 is (omega arith) ∙ decimal_digit 0 (omega arith)
minus_zero bs (Some (suc k)) is e =
    let same : neg_ℤ (pos (suc k)) ≡ pos 0 = cc in
    let none : suc k ≡ 0 = ap (λ (z : ℤ). unsigned_abs z) same in
    absurd (omega (arith, none))

zero_by : (b : ℕ) (bs : List ℕ) (t : Bool) → (b == 45) ≡ t
    → cond t (option_map (λ k. neg_ℤ (pos k)) (number_of bs)) (option_map (λ k. pos k) (number_of (b ∷ bs))) ≡ Some (pos 0) → IsSpelled (pos 0) (b ∷ bs)
zero_by b bs true sign e = inr (refl, ap (λ (c : ℕ). c ∷ bs) (eqb-true b 45 sign) ∙ ap (λ (ds : List ℕ). 45 ∷ ds) (minus_zero bs (number_of bs) refl e))
zero_by b bs false sign e =
    let few : 0 ≤ MAX_NUMBER = omega arith in
    inl (positive_by (b ∷ bs) (number_of (b ∷ bs)) refl (pos 0) e few)

not_zero : (k : ℕ) → 1 ≤ suc k
not_zero k = omega arith

letter_says : (t : List ℕ) (a : ℤ) → letter_of t ≡ Some a → unsigned_abs a ≤ MAX_NUMBER → IsSpelled a t
letter_says [] (pos zero) is few = absurd cc
letter_says (b ∷ bs) (pos zero) is few = zero_by b bs (b == 45) refl is
letter_says t (pos (suc k)) is few = inl (letter_spelled t (pos (suc k)) is few (not_zero k))
letter_says t (negsuc k) is few = inl (letter_spelled t (negsuc k) is few (not_zero k))

-- a letter of few digits is written there, and nothing else
record IsLetterAlone (tokens : List (List ℕ)) (a : ℤ) : Type 0 where
  token : List ℕ
  spelt : IsSpelled a token
  alone : tokens ≡ token ∷ []

last_letter_says : (line : NumberedLine) → Says (last_letter line) (λ x. unsigned_abs x.0 ≤ MAX_NUMBER → IsLetterAlone line.tokens x.0)
unfolding last_letter
last_letter_says line = says_bind (IsFirst line.tokens) (next_token_says line) (λ t is.
    says_bind (λ (a : ℤ). letter_of t.0 ≡ Some a) (or_malformed_says line.number (letter_of t.0)) (λ a reads.
    says_bind (HasNone t.1.tokens) (line_end_says t.1) (λ end none.
    says_ok (a, end) (λ few. record {
      token = t.0;
      spelt = letter_says t.0 a reads few;
      alone = is ∙ ap (λ (ts : List (List ℕ)). t.0 ∷ ts) none.0;
    }))))

bounded_says : (n : ℕ) (a : ℤ) → Says (bounded_letter n a) (λ b. (a ≡ b) × (unsigned_abs b ≤ MAX_LETTER))
bounded_says n a = says_if (nat_le (unsigned_abs a) MAX_LETTER) (λ few. says_ok a (refl, leb-true (unsigned_abs a) MAX_LETTER few)) (λ over. says_err)

-- ---- a step line

-- a step of these tokens
abbrev IsStep : List (List ℕ) → BraidMove → Type 0
IsStep tokens step = HasStepText step × SaysStep tokens step

-- a step that is told by its word and one place
record IsPlaced (name : List ℕ) (make : ℕ → BraidMove) : Type 0 where
  fits : (k : ℕ) → k ≤ MAX_PLACE → HasStepText (make k)
  tokens : (k : ℕ) → name ∷ decimal k ∷ [] ≡ step_tokens (make k)

placed_says : (name : List ℕ) (make : ℕ → BraidMove) → IsPlaced name make → (line : NumberedLine)
    → Says (one_place make line) (IsStep (name ∷ line.tokens))
placed_says name make placed line = says_bind (λ (k : ℕ). (k ≤ MAX_PLACE) × (line.tokens ≡ decimal k ∷ [])) (place_says line) (λ k place.
    says_ok (make k) (placed.fits k place.0, inl (ap (λ (ts : List (List ℕ)). name ∷ ts) place.1 ∙ placed.tokens k)))

insert_by : (place : ℕ) (a : ℤ) (token : List ℕ) (tokens : List (List ℕ)) → tokens ≡ codes "insert" ∷ decimal place ∷ token ∷ [] → IsSpelled a token
    → SaysStep tokens (Insert place a)
insert_by place a token tokens is (inl same) = inl (is ∙ ap (λ (t : List ℕ). codes "insert" ∷ decimal place ∷ t ∷ []) same)
insert_by place a token tokens is (inr signed) = inr (record {
  place = place;
  inserts = ap (λ (b : ℤ). Insert place b) signed.0;
  minus = is ∙ ap (λ (t : List ℕ). codes "insert" ∷ decimal place ∷ t ∷ []) signed.1;
})

insert_says : (line : NumberedLine) → Says (insert line) (IsStep (codes "insert" ∷ line.tokens))
unfolding insert
insert_says line = says_bind (IsNumberFirst line.tokens) (number_says line) (λ value first.
    says_bind (λ (x : ℤ × NumberedLine). unsigned_abs x.0 ≤ MAX_NUMBER → IsLetterAlone value.1.tokens x.0) (last_letter_says value.1) (λ last second.
    says_bind (λ (k : ℕ). (value.0 ≡ k) × (k ≤ MAX_PLACE)) (at_most_says MAX_PLACE last.1.number value.0) (λ place few.
    says_bind (λ (a : ℤ). (last.0 ≡ a) × (unsigned_abs a ≤ MAX_LETTER)) (bounded_says last.1.number last.0) (λ a small.
    let short : unsigned_abs a ≤ MAX_NUMBER = omega (arith, small.1) in
    let letter = second (subst (λ (b : ℤ). unsigned_abs b ≤ MAX_NUMBER) (sym small.0) short) in
    let all : line.tokens ≡ decimal place ∷ letter.token ∷ [] =
    first (omega (arith, few.0, few.1)) ∙ ap₂ (λ (k : ℕ) (ts : List (List ℕ)). decimal k ∷ ts) few.0 letter.alone in
    let spelt = subst (λ (b : ℤ). IsSpelled b letter.token) small.0 letter.spelt in
    says_ok (Insert place a) (
      (few.1, small.1),
      insert_by place a letter.token (codes "insert" ∷ line.tokens) (ap (λ (ts : List (List ℕ)). codes "insert" ∷ ts) all) spelt,
    )))))

grow_says : (line : NumberedLine) → Says (grow line) (IsStep (codes "grow" ∷ line.tokens))
unfolding grow
grow_says line = says_bind (IsFirst line.tokens) (next_token_says line) (λ t is.
    says_bind (HasNone t.1.tokens) (line_end_says t.1) (λ end none.
    let sign = λ (w : List ℕ) (same : bytes_eq t.0 w ≡ true).
    ap (λ (ts : List (List ℕ)). codes "grow" ∷ ts) (is ∙ ap₂ (λ (s : List ℕ) (ts : List (List ℕ)). s ∷ ts) (is_word t.0 w same) none.0) in
    says_if (bytes_eq t.0 (codes "plus")) (λ same. says_ok (Grow true) (tt, inl (sign (codes "plus") same))) (λ other.
    says_if (bytes_eq t.0 (codes "minus")) (λ same. says_ok (Grow false) (tt, inl (sign (codes "minus") same))) (λ neither. says_err))))

shrink_says : (line : NumberedLine) → Says (shrink line) (IsStep (codes "shrink" ∷ line.tokens))
unfolding shrink
shrink_says line = says_bind (HasNone line.tokens) (line_end_says line) (λ end none.
    says_ok Shrink (tt, inl (ap (λ (ts : List (List ℕ)). codes "shrink" ∷ ts) none.0)))

-- behind the word of a step
named_says : (name : List ℕ) (line : NumberedLine) (t : List ℕ × NumberedLine) {r : Result BraidMove TextFault} → IsFirst line.tokens t
    → bytes_eq t.0 name ≡ true → Says r (IsStep (name ∷ t.1.tokens)) → Says r (IsStep line.tokens)
named_says name line t is same says = says_more (λ step there.
    let all : line.tokens ≡ name ∷ t.1.tokens = is ∙ ap (λ (s : List ℕ). s ∷ t.1.tokens) (is_word t.0 name same) in
    (there.0, subst (λ (ts : List (List ℕ)). SaysStep ts step) (sym all) there.1)) says

one_says : (name : List ℕ) (make : ℕ → BraidMove) → IsPlaced name make → (line : NumberedLine) (t : List ℕ × NumberedLine) → IsFirst line.tokens t
    → bytes_eq t.0 name ≡ true → Says (one_place make t.1) (IsStep line.tokens)
one_says name make placed line t is same = named_says name line t is same (placed_says name make placed t.1)

far_placed : IsPlaced (codes "far") (λ p. Far p)
far_placed = record { fits = λ k few. few; tokens = λ k. refl }

triple_placed : IsPlaced (codes "triple") (λ p. Triple p)
triple_placed = record { fits = λ k few. few; tokens = λ k. refl }

cancel_placed : IsPlaced (codes "cancel") (λ p. Cancel p)
cancel_placed = record { fits = λ k few. few; tokens = λ k. refl }

turn_placed : IsPlaced (codes "turn") (λ k. Turn k)
turn_placed = record { fits = λ k few. few; tokens = λ k. refl }

step_says : (line : NumberedLine) → Says (step_at line) (IsStep line.tokens)
unfolding step_at
step_says line = says_bind (IsFirst line.tokens) (next_token_says line) (λ t is.
    says_if (bytes_eq t.0 (codes "far")) (λ same. one_says (codes "far") (λ p. Far p) far_placed line t is same) (λ a.
    says_if (bytes_eq t.0 (codes "triple")) (λ same. one_says (codes "triple") (λ p. Triple p) triple_placed line t is same) (λ b.
    says_if (bytes_eq t.0 (codes "cancel")) (λ same. one_says (codes "cancel") (λ p. Cancel p) cancel_placed line t is same) (λ c.
    says_if (bytes_eq t.0 (codes "insert")) (λ same. named_says (codes "insert") line t is same (insert_says t.1)) (λ d.
    says_if (bytes_eq t.0 (codes "turn")) (λ same. one_says (codes "turn") (λ k. Turn k) turn_placed line t is same) (λ e.
    says_if (bytes_eq t.0 (codes "grow")) (λ same. named_says (codes "grow") line t is same (grow_says t.1)) (λ f.
    says_if (bytes_eq t.0 (codes "shrink")) (λ same. named_says (codes "shrink") line t is same (shrink_says t.1)) (λ g. says_err))))))))

-- ---- the item

-- the line of a step is in front
record IsNextStep (text : Text) (x : BraidMove × Text) : Type 0 where
  tokens : List (List ℕ)
  has : HasStepText x.0
  says : SaysStep tokens x.0
  there : StandInFront (tokens ∷ []) text x.1

next_step_says : (text : Text) → Says (braid_step_item text) (IsNextStep text)
unfolding braid_step_item
next_step_says text = says_bind (IsNext text) (next_says text) (λ line there.
    says_bind (IsStep line.0.tokens) (step_says line.0) (λ step is.
    says_ok (step, line.1) (record { tokens = line.0.tokens; has = is.0; says = is.1; there = there })))

-- the lines of so many steps are in front
record AreNextSteps (many : ℕ) (text : Text) (x : List BraidMove × Text) : Type 0 where
  lines : List (List (List ℕ))
  count : length x.0 ≡ many
  each : AllByRecursion HasStepText x.0
  say : SaySteps lines x.0
  there : StandInFront lines text x.1

next_steps_say : (count : ℕ) (text : Text) → Says (in_turn braid_step_item count text) (AreNextSteps count text)
unfolding in_turn
next_steps_say zero text = says_ok ([], text) (record { lines = []; count = refl; each = tt; say = tt; there = no_lines_in_front text })
next_steps_say (suc count) text = says_bind (IsNextStep text) (next_step_says text) (λ first is.
    says_bind (AreNextSteps count first.1) (next_steps_say count first.1) (λ others are.
    says_ok (first.0 ∷ others.0, others.1) (record {
      lines = is.tokens ∷ are.lines;
      count = ap suc are.count;
      each = (is.has, are.each);
      say = (is.says, are.say);
      there = in_front_of is.there are.there;
    })))

abbrev pub AreWrittenSteps : Text → List BraidMove × Text → Type 0
AreWrittenSteps text x = HaveStepsText x.0 × StepsInFront x.0 text x.1

pub steps_say : (text : Text) → Says (steps_item text) (AreWrittenSteps text)
unfolding steps_item
steps_say text = says_bind (IsNext text) (next_says text) (λ line there.
    says_bind (λ (rest : NumberedLine). line.0.tokens ≡ codes "steps" ∷ rest.tokens) (word_says (codes "steps") line.0) (λ rest named.
    says_bind (λ (k : ℕ). (k ≤ MAX_NUMBER) × (rest.tokens ≡ decimal k ∷ [])) (last_count_says rest) (λ count is.
    says_more (λ steps are.
    let head : line.0.tokens ≡ steps_head steps.0 =
    named ∙ ap (λ (ts : List (List ℕ)). codes "steps" ∷ ts) is.1 ∙ ap (λ (k : ℕ). codes "steps" ∷ decimal k ∷ []) (sym are.count) in (
      record { count = omega (arith, are.count, is.0); each = are.each },
      record { lines = line.0.tokens ∷ are.lines; say = (head, are.say); there = in_front_of there are.there },
    )) (next_steps_say count line.1))))

-- ---- the whole text

pub braidcheck_in_says : (text : Text) → Says (braidcheck_in text) (IsBraidCheckText (tokens_by_line text.lines))
unfolding braidcheck_in
braidcheck_in_says text = says_bind (IsWritten IsBraid braid_lines text) (braid_says text) (λ b first.
    says_bind (IsWritten IsBraid braid_lines b.1) (braid_says b.1) (λ c second.
    says_bind (AreWrittenSteps c.1) (steps_say c.1) (λ s are.
    says_bind (λ (end : Unit {0}). s.1.lines ≡ []) (end_says s.1) (λ end none.
    says_ok (record { first = b.0; second = c.0; steps = s.0 }) (
      are.1.lines,
      record { first = first.0; second = second.0; steps = are.0 },
      are.1.say,
      all_lines (in_front_of first.1 (in_front_of second.1 are.1.there)) none,
    )))))
