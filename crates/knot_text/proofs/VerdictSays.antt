-- A verdict that was read is written there.
use Rattle.std.proofs.Common.{◌≡◌, ℕ, ◌≤◌, List, [], ◌∷◌, length, map, true, sym, ap, ap₂, ◌∙◌, arith, codes, ◌==◌}
use Rattle.std.specs.Str.{bytes_eq}
use Rattle.std.specs.Fmt.{decimal}
use Rattle.arrayvec.specs.ArrayVec.{ArrayVec}
use Rattle.colour_list.specs.declared.limits.TheConstants.{MAX_COLOURINGS}
use Rattle.colour_rows.specs.Colouring.{AreColours}
use Rattle.quandle_core.specs.declared.quandle.TheConstants.{MAX_ORDER}
use Rattle.text_lines.specs.Lines.{NumberedLine, Text, begins}
use Rattle.text_items.specs.declared.reading.TheConstants.{MAX_NUMBER}
use Rattle.verdict_core.specs.declared.verdict.Verdict.{Verdict}
use Rattle.verdict_core.specs.declared.verdict.Verdict.TheVariants.{Equal, Different, UnknownBudget, UnknownExhausted}
use Rattle.verdict_text.specs.Verdicts.{equal_at, colour_line, list_item, different_at, budget_at, exhausted_at, unknown_at, unknown_item}
use Rattle.verdict_text.specs.Verdicts.{verdict_of, version_at, tidy_item, plain_item, versioned_item, verdict_item}
use Rattle.verdict_text.specs.declared.verdicts.TheConstants.{TIDY_VERSION}
use Rattle.verdict_text.specs.declared.verdicts.Version.{Version}
use Rattle.verdict_text.specs.declared.verdicts.Version.TheVariants.{Plain, Tidy}
use Rattle.knot_text.specs.WrittenThere.{StandInFront}
use Rattle.verdict_core.specs.Evidence.{IsTidyVerdict}
use Rattle.std.proofs.lemmas.Bool.{eqb-true}
use Rattle.knot_text.specs.Printed.{moves_lines, HaveMovesText, list_lines, verdict_lines, head_tokens}
use Rattle.knot_text.specs.Printed.{version_lines, HasListText, HasVerdictText, HasVersionText}
use Rattle.knot_text.proofs.Says.{Says, says_ok, says_err, says_bind, says_if, says_more, in_front_of, in_front_is, IsNext, next_says}
use Rattle.knot_text.proofs.LineSays.{IsFirst, next_token_says, is_word, word_says, IsNumberFirst, number_says, IsNumberAlone}
use Rattle.knot_text.proofs.LineSays.{last_number_says, at_most_says, last_count_says, AreColoursAlone, numbers_below_says}
use Rattle.knot_text.proofs.ItemsSay.{IsWritten, turns_say, HaveTidyText, counted_moves_say, counted_tidy_say}
use Rattle.knot_text.proofs.QuandleSays.{IsQuandleAt, quandle_at_says}

-- ---- lists of colourings

abbrev colours_tokens : ArrayVec ℕ → List (List ℕ)
colours_tokens c = map decimal c.items

colour_line_says : (width order : ℕ) (text : Text)
    → Says (colour_line width order text) (IsWritten (λ c. AreColours width order c.items) (λ c. colours_tokens c ∷ []) text)
unfolding colour_line
colour_line_says width order text = says_bind (IsNext text) (next_says text) (λ line there.
    says_bind (AreColoursAlone width order line.0) (numbers_below_says width order line.0) (λ cs are.
    says_ok (record { items = cs }, line.1) (are.colours, in_front_is (ap (λ (ts : List (List ℕ)). ts ∷ []) are.tokens) there)))

list_says : (width order : ℕ) (text : Text) → Says (list_item width order text) (IsWritten (HasListText width order) list_lines text)
unfolding list_item
list_says width order text = says_bind (IsNext text) (next_says text) (λ line there.
    says_bind (λ (rest : NumberedLine). line.0.tokens ≡ codes "list" ∷ rest.tokens) (word_says (codes "list") line.0) (λ rest named.
    says_bind (IsNumberAlone rest.tokens) (last_number_says rest) (λ count is.
    says_bind (λ (k : ℕ). (count.0 ≡ k) × (k ≤ MAX_COLOURINGS)) (at_most_says MAX_COLOURINGS count.1.number count.0) (λ few low.
    says_more (λ lists are.
    let tokens : line.0.tokens ≡ codes "list" ∷ decimal (length lists.0) ∷ [] =
    named ∙ ap (λ (ts : List (List ℕ)). codes "list" ∷ ts) (is (omega (arith, low.0, low.1)) ∙ ap (λ (k : ℕ). decimal k ∷ []) (low.0 ∙ sym are.count)) in (
      record { count = omega (arith, are.count, low.1); each = are.each },
      in_front_of
          (in_front_is (ap (λ (ts : List (List ℕ)). ts ∷ []) tokens) there) are.there,
    ))
    (turns_say (λ c. AreColours width order c.items) colours_tokens (colour_line width order) (colour_line_says width order) few line.1)))))

-- ---- verdicts, by what stands behind their first word

abbrev IsVerdict : Version → ℕ → ℕ → Text → Verdict × Text → Type 0
IsVerdict version one two text = IsWritten (HasVersionText version one two) verdict_lines text

-- a verdict whose list, if it has one, is tidy is of each version
of_version : (version : Version) (one two : ℕ) (v : Verdict) → HasVerdictText one two v → IsTidyVerdict v → HasVersionText version one two v
of_version Plain one two v has tidy = has
of_version Tidy one two v has tidy = (has, tidy)

equal_says : (version : Version) (one two : ℕ) (text : Text) (line : NumberedLine × Text) (t : List ℕ × NumberedLine) → IsNext text line
    → IsFirst line.0.tokens t
    → bytes_eq t.0 (codes "equal") ≡ true → Says (equal_at version t.1 line.1) (IsVerdict version one two text)
unfolding equal_at
equal_says Plain one two text line t there is same = says_bind (λ (k : ℕ). (k ≤ MAX_NUMBER) × (t.1.tokens ≡ decimal k ∷ [])) (last_count_says t.1)
    (λ count alone.
    says_bind (IsWritten HaveMovesText (moves_lines (codes "equal")) text)
    (counted_moves_say (codes "equal") line text count there alone.0
    (is ∙ ap₂ (λ (s : List ℕ) (ts : List (List ℕ)). s ∷ ts) (is_word t.0 (codes "equal") same) alone.1)) (λ moves are.
    says_ok (Equal moves.0, moves.1) are))
equal_says Tidy one two text line t there is same = says_bind (λ (k : ℕ). (k ≤ MAX_NUMBER) × (t.1.tokens ≡ decimal k ∷ [])) (last_count_says t.1)
    (λ count alone.
    says_bind (IsWritten HaveTidyText (moves_lines (codes "equal")) text)
    (counted_tidy_say (codes "equal") line text count there alone.0
    (is ∙ ap₂ (λ (s : List ℕ) (ts : List (List ℕ)). s ∷ ts) (is_word t.0 (codes "equal") same) alone.1)) (λ moves are.
    says_ok (Equal moves.0, moves.1) are))

different_says : (version : Version) (one two : ℕ) (text : Text) (line : NumberedLine × Text) (t : List ℕ × NumberedLine) → IsNext text line
    → IsFirst line.0.tokens t
    → bytes_eq t.0 (codes "different") ≡ true → Says (different_at one two t.1 line.1) (IsVerdict version one two text)
unfolding different_at
different_says version one two text line t there is same =
    says_bind (IsQuandleAt MAX_ORDER t.1.tokens line.1) (quandle_at_says MAX_ORDER (omega arith) t.1 line.1) (λ q quandle.
    says_bind (IsWritten (HasListText one q.0.table.order) list_lines q.1) (list_says one q.0.table.order q.1) (λ first a.
    says_bind (IsWritten (HasListText two q.0.table.order) list_lines first.1) (list_says two q.0.table.order first.1) (λ second b.
    let named = is ∙ ap₂ (λ (s : List ℕ) (ts : List (List ℕ)). s ∷ ts) (is_word t.0 (codes "different") same) quandle.tokens in
    says_ok (Different q.0 first.0 second.0, second.1) (
      of_version version one two (Different q.0 first.0 second.0) (quandle.text, a.0, b.0) tt,
      in_front_of (in_front_of (in_front_is (ap (λ (ts : List (List ℕ)). ts ∷ []) named) there) quandle.there) (in_front_of a.1 b.1),
    ))))

-- an unknown verdict, of the tokens behind the first word
abbrev IsUnknown : Version → ℕ → ℕ → List (List ℕ) → Verdict → Type 0
IsUnknown version one two tokens v = HasVersionText version one two v × ((codes "unknown" ∷ tokens) ∷ [] ≡ verdict_lines v)

unknown_says : (version : Version) (one two : ℕ) (line : NumberedLine) → Says (unknown_at line) (IsUnknown version one two line.tokens)
unfolding unknown_at budget_at exhausted_at
unknown_says version one two line = says_bind (IsFirst line.tokens) (next_token_says line) (λ t is.
    let cause = λ (w : List ℕ) (same : bytes_eq t.0 w ≡ true) (ts : List (List ℕ)) (are : t.1.tokens ≡ ts).
    ap (λ (us : List (List ℕ)). (codes "unknown" ∷ us) ∷ []) (is ∙ ap₂ (λ (s : List ℕ) (us : List (List ℕ)). s ∷ us) (is_word t.0 w same) are) in
    says_if (bytes_eq t.0 (codes "budget")) (λ same.
    says_bind (λ (k : ℕ). (k ≤ MAX_NUMBER) × (t.1.tokens ≡ decimal k ∷ [])) (last_count_says t.1) (λ budget alone.
    says_ok (UnknownBudget budget) (
      of_version version one two (UnknownBudget budget) alone.0 tt,
      cause (codes "budget") same (decimal budget ∷ []) alone.1,
    ))) (λ other.
    says_if (bytes_eq t.0 (codes "exhausted")) (λ same.
    says_bind (IsNumberFirst t.1.tokens) (number_says t.1) (λ cap first.
    says_bind (IsNumberAlone cap.1.tokens) (last_number_says cap.1) (λ admitted second.
    says_bind (λ (k : ℕ). (cap.0 ≡ k) × (k ≤ MAX_NUMBER)) (at_most_says MAX_NUMBER admitted.1.number cap.0) (λ most few.
    says_bind (λ (k : ℕ). (admitted.0 ≡ k) × (k ≤ MAX_NUMBER)) (at_most_says MAX_NUMBER admitted.1.number admitted.0) (λ entries small.
    let behind : cap.1.tokens ≡ decimal entries ∷ [] = second (omega (arith, small.0, small.1)) ∙ ap (λ (k : ℕ). decimal k ∷ []) small.0 in
    let all : t.1.tokens ≡ decimal most ∷ decimal entries ∷ [] =
    first (omega (arith, few.0, few.1)) ∙ ap₂ (λ (k : ℕ) (ts : List (List ℕ)). decimal k ∷ ts) few.0 behind in
    says_ok (UnknownExhausted most entries) (
      of_version version one two (UnknownExhausted most entries) (few.1, small.1) tt,
      cause (codes "exhausted") same (decimal most ∷ decimal entries ∷ []) all,
    ))))))
    (λ none. says_err)))

unknown_item_says : (version : Version) (one two : ℕ) (text : Text) (line : NumberedLine × Text) (t : List ℕ × NumberedLine) → IsNext text line
    → IsFirst line.0.tokens t
    → bytes_eq t.0 (codes "unknown") ≡ true → Says (unknown_item t.1 line.1) (IsVerdict version one two text)
unfolding unknown_item
unknown_item_says version one two text line t there is same = says_bind (IsUnknown version one two t.1.tokens) (unknown_says version one two t.1) (λ v known.
    says_ok (v, line.1) (
      known.0,
      in_front_is (ap (λ (ts : List (List ℕ)). ts ∷ [])
          (is ∙ ap (λ (s : List ℕ). s ∷ t.1.tokens) (is_word t.0 (codes "unknown") same)) ∙ known.1) there,
    ))

verdict_of_says : (version : Version) (one two : ℕ) (text : Text)
    → Says (verdict_of version one two text) (IsWritten (HasVersionText version one two) verdict_lines text)
unfolding verdict_of
verdict_of_says version one two text = says_bind (IsNext text) (next_says text) (λ line there.
    says_bind (IsFirst line.0.tokens) (next_token_says line.0) (λ t is.
    says_if (bytes_eq t.0 (codes "equal")) (λ same. equal_says version one two text line t there is same) (λ a.
    says_if (bytes_eq t.0 (codes "different")) (λ same. different_says version one two text line t there is same) (λ b.
    says_if (bytes_eq t.0 (codes "unknown")) (λ same. unknown_item_says version one two text line t there is same) (λ c. says_err)))))

-- ---- with the head line, or without

version_says : (line : NumberedLine) → Says (version_at line) (λ (head : Unit {0}). line.tokens ≡ head_tokens)
unfolding version_at
version_says line = says_bind (λ (rest : NumberedLine). line.tokens ≡ codes "certificate" ∷ rest.tokens) (word_says (codes "certificate") line) (λ rest named.
    says_bind (λ (k : ℕ). (k ≤ MAX_NUMBER) × (rest.tokens ≡ decimal k ∷ [])) (last_count_says rest) (λ version alone.
    says_if (version == TIDY_VERSION) (λ same.
    says_ok tt (named ∙ ap (λ (ts : List (List ℕ)). codes "certificate" ∷ ts) (alone.1 ∙ ap (λ (k : ℕ). decimal k ∷ []) (eqb-true version TIDY_VERSION same))))
    (λ other. says_err)))

-- the verdict and its version, written there
abbrev pub HasText : ℕ → ℕ → Version × Verdict → Type 0
HasText one two w = HasVersionText w.0 one two w.1

abbrev pub lines_of : Version × Verdict → List (List (List ℕ))
lines_of w = version_lines w.0 w.1

tidy_item_says : (one two : ℕ) (text : Text) → Says (tidy_item one two text) (IsWritten (HasText one two) lines_of text)
unfolding tidy_item
tidy_item_says one two text = says_bind (IsNext text) (next_says text) (λ line there.
    says_bind (λ (head : Unit {0}). line.0.tokens ≡ head_tokens) (version_says line.0) (λ head is.
    says_bind (IsWritten (HasVersionText Tidy one two) verdict_lines line.1) (verdict_of_says Tidy one two line.1) (λ v judged.
    says_ok ((Tidy, v.0), v.1) (judged.0, in_front_of (in_front_is (ap (λ (ts : List (List ℕ)). ts ∷ []) is) there) judged.1))))

plain_item_says : (one two : ℕ) (text : Text) → Says (plain_item one two text) (IsWritten (HasText one two) lines_of text)
unfolding plain_item
plain_item_says one two text = says_bind (IsWritten (HasVersionText Plain one two) verdict_lines text) (verdict_of_says Plain one two text) (λ v judged.
    says_ok ((Plain, v.0), v.1) judged)

pub versioned_says : (one two : ℕ) (text : Text) → Says (versioned_item one two text) (IsWritten (HasText one two) lines_of text)
unfolding versioned_item
versioned_says one two text =
    says_if (begins (codes "certificate") text) (λ head. tidy_item_says one two text) (λ none. plain_item_says one two text)

-- a verdict, of some version
pub record IsJudged (one two : ℕ) (text : Text) (v : Verdict × Text) : Type 0 where
  pub version : Version
  pub has : HasVersionText version one two v.0
  pub there : StandInFront (version_lines version v.0) text v.1

pub verdict_says : (one two : ℕ) (text : Text) → Says (verdict_item one two text) (IsJudged one two text)
unfolding verdict_item
verdict_says one two text = says_bind (IsWritten (HasText one two) lines_of text) (versioned_says one two text) (λ w is.
    says_ok (w.0.1, w.1) (record { version = w.0.0; has = is.0; there = is.1 }))
