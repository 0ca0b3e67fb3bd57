-- Tokens and lines that were printed are read again, step by step.
use Rattle.std.proofs.Common.{◌≡◌, ℕ, ◌<◌, ◌≤◌, ◌+◌, List, [], ◌∷◌, ◌++◌, length, map, true, false, Result, Ok, refl, arith, nat_lt, ◌==◌}
use Rattle.std.specs.List.{AllByRecursion, list_all, list_any}
use Rattle.std.specs.Str.{bytes_eq}
use Rattle.std.specs.Fmt.{decimal}
use Rattle.std.proofs.lemmas.Bool.{le-leb, le-ltb, lt-ltb, and_from, or_from, eq-eqb}
use Rattle.std.proofs.lemmas.Slice.Eq.{bytes_eq-Decides}
use Rattle.text_lines.specs.Lines.{NumberedLine, Text}
use Rattle.text_lines.specs.Spelled.{numbered}
use Rattle.text_lines.specs.NumberTokens.{number_of}
use Rattle.knot_text.proofs.NumberTexts.{decimal_read}
use Rattle.text_items.specs.declared.fault.TextFault.{TextFault}
use Rattle.text_items.specs.declared.reading.TheConstants.{MAX_NUMBER}
use Rattle.text_items.specs.Reading.{in_turn, next_token, line_end, word, number, last_number, last_count, at_most, each_token}
use Rattle.text_items.specs.NumberLists.{is_long}
use Rattle.text_items.specs.Numbers.{numbers_below}

abbrev pub line_of : ℕ → List (List ℕ) → NumberedLine
line_of n tokens = record { number = n; tokens = tokens }

-- lines in front of a text
abbrev pub lines_before : List NumberedLine → Text → Text
lines_before lines text = record { lines = lines ++ text.lines; ending = text.ending }

same_word : (w : List ℕ) → bytes_eq w w ≡ true
same_word w = (bytes_eq-Decides w w).1 refl

pub word_again : (w : List ℕ) (n : ℕ) (tokens : List (List ℕ)) → word w (line_of n (w ∷ tokens)) ≡ Ok (line_of n tokens)
unfolding word next_token
word_again w n tokens = rw (same_word w) refl

pub number_again : (k n : ℕ) (tokens : List (List ℕ)) → k ≤ MAX_NUMBER → number (line_of n (decimal k ∷ tokens)) ≡ Ok (k, line_of n tokens)
unfolding number next_token
number_again k n tokens few = rw (decimal_read k (omega arith)) refl

pub last_again : (k n : ℕ) → k ≤ MAX_NUMBER → last_number (line_of n (decimal k ∷ [])) ≡ Ok (k, line_of n [])
unfolding last_number line_end
last_again k n few = rw (number_again k n [] few) refl

pub most_again : (most n k : ℕ) → k ≤ most → at_most most n k ≡ Ok k
most_again most n k few = rw (le-leb k most few) refl

pub count_again : (k n : ℕ) → k ≤ MAX_NUMBER → last_count (line_of n (decimal k ∷ [])) ≡ Ok k
unfolding last_count
count_again k n few = rw (last_again k n few, most_again MAX_NUMBER n k few) refl

-- ---- numbers

abbrev pub IsShort : ℕ → Type 0
IsShort k = k ≤ MAX_NUMBER

pub values_again : (n : ℕ) (ks : List ℕ) → AllByRecursion IsShort ks → each_token number_of n (map decimal ks) ≡ Ok ks
unfolding each_token
values_again n [] few = refl
values_again n (k ∷ ks) few = rw (decimal_read k (omega (arith, few.0)), values_again n ks few.1) refl

pub none_long : (ks : List ℕ) → AllByRecursion IsShort ks → list_any is_long ks ≡ false
none_long [] few = refl
none_long (k ∷ ks) few = or_from (is_long k) (list_any is_long ks) (le-ltb MAX_NUMBER k few.0) (none_long ks few.1)

pub all_below : (q : ℕ) (ks : List ℕ) → AllByRecursion (λ k. k < q) ks → list_all (λ v. nat_lt v q) ks ≡ true
all_below q [] all = refl
all_below q (k ∷ ks) all = and_from (nat_lt k q) (list_all (λ v. nat_lt v q) ks) (lt-ltb k q all.0) (all_below q ks all.1)

pub all_short : (q : ℕ) (ks : List ℕ) → q ≤ 255 → AllByRecursion (λ k. k < q) ks → AllByRecursion IsShort ks
all_short q [] most all = tt
all_short q (k ∷ ks) most all = (omega (arith, all.0, most), all_short q ks most all.1)

pub below_again : (width order n : ℕ) (ks : List ℕ) → length ks ≡ width → order ≤ 255 → AllByRecursion (λ k. k < order) ks
    → numbers_below width order (line_of n (map decimal ks)) ≡ Ok ks
unfolding numbers_below
below_again width order n ks len most all =
    let few = all_short order ks most all in
    let size : (length ks == width) ≡ true = eq-eqb (length ks) width len in
    rw (values_again n ks few, none_long ks few, size, all_below order ks all) refl

-- ---- items one behind the other

pub turns_again : {A : Type 0} (item : Text → Result (A × Text) TextFault) (tokens : A → List (List ℕ)) (Fits : A → Type 0) (n : ℕ) (xs : List A) (text : Text)
    → ((k : ℕ) (x : A) (rest : Text) → Fits x → item (lines_before (line_of (k + 1) (tokens x) ∷ []) rest) ≡ Ok (x, rest))
    → AllByRecursion Fits xs → in_turn item (length xs) (lines_before (numbered n (map tokens xs)) text) ≡ Ok (xs, text)
unfolding in_turn
turns_again item tokens Fits n [] text again fits = refl
turns_again item tokens Fits n (x ∷ xs) text again fits =
    let one = again n x (lines_before (numbered (n + 1) (map tokens xs)) text) fits.0 in
    let others = turns_again item tokens Fits (n + 1) xs text again fits.1 in
    rw (one, others) refl
