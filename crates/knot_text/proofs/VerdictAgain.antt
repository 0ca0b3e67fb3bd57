-- A verdict that was printed is read again.
use Rattle.std.proofs.Common.{◌≡◌, ℕ, ◌<◌, ◌≤◌, ◌+◌, List, [], ◌∷◌, ◌++◌, length, map, Ok, refl, ap, ◌∙◌, arith, codes, append_assoc, None, true, false}
use Rattle.std.specs.Fmt.{decimal}
use Rattle.std.proofs.lemmas.List.Elements.{recursion_from_All}
use Rattle.arrayvec.specs.ArrayVec.{ArrayVec}
use Rattle.colour_list.specs.declared.limits.TheConstants.{MAX_COLOURINGS}
use Rattle.colour_rows.specs.Colouring.{AreColours}
use Rattle.grid_moves.specs.declared.step.Move.{Move}
use Rattle.text_lines.specs.Lines.{NumberedLine, Text, begins}
use Rattle.text_lines.specs.Spelled.{numbered}
use Rattle.text_items.specs.declared.reading.TheConstants.{MAX_NUMBER}
use Rattle.verdict_core.specs.declared.verdict.Verdict.{Verdict}
use Rattle.verdict_core.specs.declared.verdict.Verdict.TheVariants.{Equal, Different, UnknownBudget, UnknownExhausted}
use Rattle.quandle_core.proofs.Named.{names_order}
use Rattle.quandle_core.specs.Names.{NamedQuandle}
use Rattle.text_items.specs.Reading.{◌>>=◌, next_line, next_token}
use Rattle.verdict_text.specs.Verdicts.{equal_at, colour_line, list_item, different_at, budget_at, exhausted_at, unknown_at, unknown_item}
use Rattle.verdict_text.specs.Verdicts.{verdict_of, version_at, tidy_item, plain_item, versioned_item, verdict_item}
use Rattle.verdict_text.specs.declared.verdicts.TheConstants.{TIDY_VERSION}
use Rattle.verdict_text.specs.declared.verdicts.Version.{Version}
use Rattle.verdict_text.specs.declared.verdicts.Version.TheVariants.{Plain, Tidy}
use Rattle.grid_moves.specs.Tidy.{is_tidy}
use Rattle.knot_text.specs.Printed.{move_tokens, name_tokens, table_lines, list_lines, verdict_lines, head_tokens}
use Rattle.knot_text.specs.Printed.{version_lines, HaveMovesText, HasListText, HasVerdictText, HasVersionText}
use Rattle.knot_text.proofs.StepsAgain.{line_of, lines_before, word_again, number_again, last_again, most_again, count_again, below_again, turns_again}
use Rattle.knot_text.proofs.MovesAgain.{move_lines_again, tidy_moves_again}
use Rattle.knot_text.proofs.QuandleAgain.{quandle_again}

-- ---- lines behind lines

numbered_parted : (n : ℕ) (xs ys : List (List (List ℕ))) → numbered n (xs ++ ys) ≡ numbered n xs ++ numbered (n + length xs) ys
numbered_parted n [] ys = let e : n ≡ n + 0 = omega arith in ap (λ (k : ℕ). numbered k ys) e
numbered_parted n (x ∷ xs) ys =
    let e : n + 1 + length xs ≡ n + length (x ∷ xs) = omega arith in
    ap (λ (ls : List NumberedLine). line_of (n + 1) x ∷ ls) (numbered_parted (n + 1) xs ys ∙ ap (λ (k : ℕ). numbered (n + 1) xs ++ numbered k ys) e)

pub parted : (n : ℕ) (xs ys : List (List (List ℕ))) (text : Text)
    → lines_before (numbered n (xs ++ ys)) text ≡ lines_before (numbered n xs) (lines_before (numbered (n + length xs) ys) text)
parted n xs ys text =
    let lines : numbered n (xs ++ ys) ++ text.lines ≡ numbered n xs ++ (numbered (n + length xs) ys ++ text.lines) =
    ap (λ (ls : List NumberedLine). ls ++ text.lines) (numbered_parted n xs ys) ∙ append_assoc (numbered n xs) (numbered (n + length xs) ys) text.lines in
    ap (λ (ls : List NumberedLine). record { lines = ls; ending = text.ending }) lines

-- ---- lists of colourings

colours_again : (width order : ℕ) → order ≤ 255 → (k : ℕ) (c : ArrayVec ℕ) (rest : Text) → AreColours width order c.items
    → colour_line width order (lines_before (line_of (k + 1) (map decimal c.items) ∷ []) rest) ≡ Ok (c, rest)
unfolding colour_line next_line
colours_again width order most k c rest fits =
    rw (below_again width order (k + 1) c.items fits.0 most (recursion_from_All (λ y. y < order) c.items fits.1)) refl

list_again : (width order n : ℕ) (lists : List (ArrayVec ℕ)) (text : Text) → order ≤ 255 → HasListText width order lists
    → list_item width order (lines_before (numbered n (list_lines lists)) text) ≡ Ok (lists, text)
unfolding list_item next_line
list_again width order n lists text most fits =
    let w = word_again (codes "list") (n + 1) (decimal (length lists) ∷ []) in
    let count = last_again (length lists) (n + 1) (omega (arith, fits.count)) in
    let few = most_again MAX_COLOURINGS (n + 1) (length lists) fits.count in
    let all = turns_again (colour_line width order) (λ (c : ArrayVec ℕ). map decimal c.items) (λ (c : ArrayVec ℕ). AreColours width order c.items)
    (n + 1) lists text (colours_again width order most) fits.each in
    rw (w, count, few, all) refl

-- ---- the verdicts

different_again : (one two n : ℕ) (q : NamedQuandle) (first second : List (ArrayVec ℕ)) (text : Text) → HasVerdictText one two (Different q first second)
    → different_at one two (line_of (n + 1) (name_tokens q.name q.table.order))
    (lines_before (numbered (n + 1) (table_lines q.name q.table ++ (list_lines first ++ list_lines second))) text) ≡ Ok (Different q first second, text)
unfolding different_at
different_again one two n q first second text fits =
    let order = q.table.order in
    let most : order ≤ 255 = omega (arith, names_order q.name q.table fits.0.names) in
    let table = table_lines q.name q.table in
    let m = n + 1 + length table in
    let k = m + length (list_lines first) in
    let behind = lines_before (numbered k (list_lines second)) text in
    let both = lines_before (numbered m (list_lines first)) behind in
    let text_is = parted (n + 1) table (list_lines first ++ list_lines second) text
    ∙ ap (lines_before (numbered (n + 1) table)) (parted m (list_lines first) (list_lines second) text) in
    let named = quandle_again (n + 1) q.name q.table both fits.0.names fits.0.factor in
    let one_is = list_again one order m first behind most fits.1 in
    let two_is = list_again two order k second text most fits.2 in
    let read : different_at one two (line_of (n + 1) (name_tokens q.name order)) (lines_before (numbered (n + 1) table) both)
    ≡ Ok (Different q first second, text) = rw (named, one_is, two_is) refl in
    ap (different_at one two (line_of (n + 1) (name_tokens q.name order))) text_is ∙ read

equal_again : (n : ℕ) (moves : List Move) (text : Text) → HaveMovesText moves
    → equal_at Plain (line_of (n + 1) (decimal (length moves) ∷ [])) (lines_before (numbered (n + 1) (map move_tokens moves)) text) ≡ Ok (Equal moves, text)
unfolding equal_at
equal_again n moves text fits = rw (count_again (length moves) (n + 1) fits.count, move_lines_again (n + 1) moves text fits.each) refl

tidy_equal_again : (n : ℕ) (moves : List Move) (text : Text) → HaveMovesText moves → is_tidy moves ≡ true
    → equal_at Tidy (line_of (n + 1) (decimal (length moves) ∷ [])) (lines_before (numbered (n + 1) (map move_tokens moves)) text) ≡ Ok (Equal moves, text)
unfolding equal_at
tidy_equal_again n moves text fits tidy =
    rw (count_again (length moves) (n + 1) fits.count, tidy_moves_again None (n + 1) moves text fits.each tidy) refl

budget_again : (n k : ℕ) → k ≤ MAX_NUMBER → budget_at (line_of n (decimal k ∷ [])) ≡ Ok (UnknownBudget k)
unfolding budget_at
budget_again n k few = rw (count_again k n few) refl

exhausted_again : (n cap k : ℕ) → cap ≤ MAX_NUMBER → k ≤ MAX_NUMBER → exhausted_at (line_of n (decimal cap ∷ decimal k ∷ [])) ≡ Ok (UnknownExhausted cap k)
unfolding exhausted_at
exhausted_again n cap k few small =
    rw (number_again cap n (decimal k ∷ []) few, last_again k n small, most_again MAX_NUMBER n cap few, most_again MAX_NUMBER n k small) refl

verdict_of_again : (version : Version) (one two n : ℕ) (v : Verdict) (text : Text) → HasVersionText version one two v
    → verdict_of version one two (lines_before (numbered n (verdict_lines v)) text) ≡ Ok (v, text)
unfolding verdict_of unknown_item unknown_at next_line next_token
verdict_of_again Plain one two n (Equal moves) text fits = equal_again n moves text fits
verdict_of_again Tidy one two n (Equal moves) text fits = tidy_equal_again n moves text fits.0 fits.1
verdict_of_again Plain one two n (Different q first second) text fits = different_again one two n q first second text fits
verdict_of_again Tidy one two n (Different q first second) text fits = different_again one two n q first second text fits.0
verdict_of_again Plain one two n (UnknownBudget budget) text fits = rw (budget_again (n + 1) budget fits) refl
verdict_of_again Tidy one two n (UnknownBudget budget) text fits = rw (budget_again (n + 1) budget fits.0) refl
verdict_of_again Plain one two n (UnknownExhausted cap admitted) text fits = rw (exhausted_again (n + 1) cap admitted fits.0 fits.1) refl
verdict_of_again Tidy one two n (UnknownExhausted cap admitted) text fits = rw (exhausted_again (n + 1) cap admitted fits.0.0 fits.0.1) refl

-- ---- with the head line, or without

version_again : (n : ℕ) → version_at (line_of n head_tokens) ≡ Ok tt
unfolding version_at
version_again n =
    rw (word_again (codes "certificate") n (decimal TIDY_VERSION ∷ []), count_again TIDY_VERSION n (omega arith)) refl

-- no verdict begins with the word of its head line
no_head : (n : ℕ) (v : Verdict) (text : Text) → begins (codes "certificate") (lines_before (numbered n (verdict_lines v)) text) ≡ false
no_head n (Equal moves) text = refl
no_head n (Different q first second) text = refl
no_head n (UnknownBudget budget) text = refl
no_head n (UnknownExhausted cap admitted) text = refl

pub versioned_again : (version : Version) (one two n : ℕ) (v : Verdict) (text : Text) → HasVersionText version one two v
    → versioned_item one two (lines_before (numbered n (version_lines version v)) text) ≡ Ok ((version, v), text)
unfolding versioned_item tidy_item plain_item next_line
versioned_again Plain one two n v text fits = rw (no_head n v text, verdict_of_again Plain one two n v text fits) refl
versioned_again Tidy one two n v text fits = rw (version_again (n + 1), verdict_of_again Tidy one two (n + 1) v text fits) refl

pub verdict_again : (version : Version) (one two n : ℕ) (v : Verdict) (text : Text) → HasVersionText version one two v
    → verdict_item one two (lines_before (numbered n (version_lines version v)) text) ≡ Ok (v, text)
unfolding verdict_item
verdict_again version one two n v text fits = ap (λ r. r >>= λ w. Ok (w.0.1, w.1)) (versioned_again version one two n v text fits)
