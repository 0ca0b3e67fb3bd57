-- What was read of a line stands there, token for token.
use Rattle.std.proofs.Common.{◌≡◌, ℕ, ◌≤◌, ◌||◌, List, [], ◌∷◌, length, map, true, false, Option, Some, None, refl, ap, ap₂, ◌∙◌, arith, nat_le, nat_lt}
use Rattle.std.specs.List.{list_any}
use Rattle.std.specs.Str.{bytes_eq}
use Rattle.std.specs.Fmt.{decimal}
use Rattle.std.proofs.lemmas.Bool.{leb-true, ltb-false, or_parts}
use Rattle.std.proofs.lemmas.Slice.Eq.{bytes_eq-Decides}
use Rattle.grid_core.specs.declared.grid.TheConstants.{MAX_SIZE}
use Rattle.colour_rows.specs.Colouring.{AreColours, are_colours}
use Rattle.colour_rows.proofs.Colourings.{colours_from}
use Rattle.text_lines.specs.Lines.{NumberedLine}
use Rattle.text_lines.specs.NumberTokens.{number_of}
use Rattle.knot_text.proofs.NumberTexts.{number_spelling}
use Rattle.text_items.specs.declared.reading.TheConstants.{MAX_NUMBER}
use Rattle.text_items.specs.Reading.{token_among, next_token, no_token_among, line_end, word, or_malformed}
use Rattle.text_items.specs.Reading.{number, last_number, at_most, last_count, each_token}
use Rattle.text_items.specs.NumberLists.{is_long}
use Rattle.text_items.specs.Numbers.{numbers_behind, numbers_below}
use Rattle.knot_text.proofs.Says.{Says, says_ok, says_err, says_bind, says_if, says_more}

-- ---- tokens

-- this token was first, and this is left
abbrev pub IsFirst : List (List ℕ) → List ℕ × NumberedLine → Type 0
IsFirst tokens t = tokens ≡ t.0 ∷ t.1.tokens

token_says : (n : ℕ) (tokens : List (List ℕ)) → Says (token_among n tokens) (IsFirst tokens)
token_says n [] = says_err
token_says n (t ∷ ts) = says_ok (t, record { number = n; tokens = ts }) refl

pub next_token_says : (line : NumberedLine) → Says (next_token line) (IsFirst line.tokens)
unfolding next_token
next_token_says line = token_says line.number line.tokens

-- no token was left
abbrev pub HasNone : List (List ℕ) → NumberedLine → Type 0
HasNone tokens end = (tokens ≡ []) × (end.tokens ≡ [])

end_says : (n : ℕ) (tokens : List (List ℕ)) → Says (no_token_among n tokens) (HasNone tokens)
end_says n [] = says_ok (record { number = n; tokens = [] }) (refl, refl)
end_says n (t ∷ ts) = says_err

pub line_end_says : (line : NumberedLine) → Says (line_end line) (HasNone line.tokens)
unfolding line_end
line_end_says line = end_says line.number line.tokens

pub is_word : (t w : List ℕ) → bytes_eq t w ≡ true → t ≡ w
is_word t w same = (bytes_eq-Decides t w).0 same

pub word_says : (w : List ℕ) (line : NumberedLine) → Says (word w line) (λ rest. line.tokens ≡ w ∷ rest.tokens)
unfolding word
word_says w line = says_bind (IsFirst line.tokens) (next_token_says line) (λ t is.
    says_if (bytes_eq t.0 w) (λ same. says_ok t.1 (is ∙ ap (λ (s : List ℕ). s ∷ t.1.tokens) (is_word t.0 w same))) (λ other. says_err))

-- ---- numbers

pub or_malformed_says : {A : Type 0} (n : ℕ) (o : Option A) → Says (or_malformed n o) (λ x. o ≡ Some x)
or_malformed_says n None = says_err
or_malformed_says n (Some x) = says_ok x refl

-- a number of few enough digits is written there, and this is left
abbrev pub IsNumberFirst : List (List ℕ) → ℕ × NumberedLine → Type 0
IsNumberFirst tokens v = v.0 ≤ MAX_NUMBER → tokens ≡ decimal v.0 ∷ v.1.tokens

pub spelled : (t : List ℕ) (k : ℕ) → number_of t ≡ Some k → k ≤ MAX_NUMBER → t ≡ decimal k
spelled t k is few = number_spelling t k is (omega (arith, few))

pub number_says : (line : NumberedLine) → Says (number line) (IsNumberFirst line.tokens)
unfolding number
number_says line = says_bind (IsFirst line.tokens) (next_token_says line) (λ t is.
    says_bind (λ (k : ℕ). number_of t.0 ≡ Some k) (or_malformed_says line.number (number_of t.0)) (λ k reads.
    says_ok (k, t.1) (λ few. is ∙ ap (λ (s : List ℕ). s ∷ t.1.tokens) (spelled t.0 k reads few))))

-- and nothing else
abbrev pub IsNumberAlone : List (List ℕ) → ℕ × NumberedLine → Type 0
IsNumberAlone tokens v = v.0 ≤ MAX_NUMBER → tokens ≡ decimal v.0 ∷ []

pub last_number_says : (line : NumberedLine) → Says (last_number line) (IsNumberAlone line.tokens)
unfolding last_number
last_number_says line = says_bind (IsNumberFirst line.tokens) (number_says line) (λ v is.
    says_bind (HasNone v.1.tokens) (line_end_says v.1) (λ end none.
    says_ok (v.0, end) (λ few. is few ∙ ap (λ (ts : List (List ℕ)). decimal v.0 ∷ ts) none.0)))

pub at_most_says : (most n value : ℕ) → Says (at_most most n value) (λ k. (value ≡ k) × (k ≤ most))
at_most_says most n value = says_if (nat_le value most) (λ few. says_ok value (refl, leb-true value most few)) (λ over. says_err)

pub last_count_says : (line : NumberedLine) → Says (last_count line) (λ k. (k ≤ MAX_NUMBER) × (line.tokens ≡ decimal k ∷ []))
unfolding last_count
last_count_says line = says_bind (IsNumberAlone line.tokens) (last_number_says line) (λ v is.
    says_more (λ k few. (few.1, is (omega (arith, few.0, few.1)) ∙ ap (λ (j : ℕ). decimal j ∷ []) few.0)) (at_most_says MAX_NUMBER v.1.number v.0))

-- ---- lines of numbers

pub each_says : (n : ℕ) (tokens : List (List ℕ)) → Says (each_token number_of n tokens) (λ vs. list_any is_long vs ≡ false → tokens ≡ map decimal vs)
unfolding each_token
each_says n [] = says_ok [] (λ few. refl)
each_says n (t ∷ ts) = says_bind (λ (k : ℕ). number_of t ≡ Some k) (or_malformed_says n (number_of t)) (λ k reads.
    says_bind (λ (vs : List ℕ). list_any is_long vs ≡ false → ts ≡ map decimal vs) (each_says n ts) (λ vs is.
    says_ok (k ∷ vs) (λ few.
    let both = or_parts (is_long k) (list_any is_long vs) few in
    ap₂ (λ (s : List ℕ) (ss : List (List ℕ)). s ∷ ss) (spelled t k reads (ltb-false MAX_NUMBER k both.0)) (is both.1))))

-- the word, and at most MAX_SIZE numbers
pub record AreBehind (w : List ℕ) (line : NumberedLine) (values : List ℕ) : Type 0 where
  pub tokens : line.tokens ≡ w ∷ map decimal values
  pub few : length values ≤ MAX_SIZE

pub numbers_behind_says : (w : List ℕ) (line : NumberedLine) → Says (numbers_behind w line) (AreBehind w line)
unfolding numbers_behind
numbers_behind_says w line = says_bind (λ (rest : NumberedLine). line.tokens ≡ w ∷ rest.tokens) (word_says w line) (λ rest is.
    says_bind (λ (vs : List ℕ). list_any is_long vs ≡ false → rest.tokens ≡ map decimal vs) (each_says rest.number rest.tokens) (λ vs written.
    says_if (nat_lt MAX_SIZE (length vs) || list_any is_long vs) (λ over. says_err) (λ within.
    let both = or_parts (nat_lt MAX_SIZE (length vs)) (list_any is_long vs) within in
    says_ok vs (record { tokens = is ∙ ap (λ (ts : List (List ℕ)). w ∷ ts) (written both.1); few = ltb-false MAX_SIZE (length vs) both.0 }))))

-- so many numbers below the order, and nothing else
pub record AreColoursAlone (width order : ℕ) (line : NumberedLine) (values : List ℕ) : Type 0 where
  pub tokens : line.tokens ≡ map decimal values
  pub colours : AreColours width order values

pub numbers_below_says : (width order : ℕ) (line : NumberedLine) → Says (numbers_below width order line) (AreColoursAlone width order line)
unfolding numbers_below
numbers_below_says width order line =
    says_bind (λ (vs : List ℕ). list_any is_long vs ≡ false → line.tokens ≡ map decimal vs) (each_says line.number line.tokens) (λ vs written.
    says_if (list_any is_long vs) (λ over. says_err) (λ short.
    says_if (are_colours width order vs) (λ fits. says_ok vs (record { tokens = written short; colours = colours_from width order vs fits }))
    (λ other. says_err)))
