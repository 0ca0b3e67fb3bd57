-- The readers of items refuse their first lines by their kinds.
use Rattle.std.proofs.Common.{◌≡◌, ◌∙◌, ◌≤◌, ℕ, ◌||◌, Bool, true, false, cond, List, [], ◌∷◌, codes, Option, Some, None, Result, Ok, Err, nat_lt, refl, ap}
use Rattle.std.proofs.Common.{arith, sym}
use Rattle.std.specs.List.{list_any}
use Rattle.std.specs.Str.{bytes_eq}
use Rattle.text_lines.specs.Lines.{NumberedLine, Text, starts}
use Rattle.text_lines.specs.NumberTokens.{is_number}
use Rattle.colour_list.specs.declared.limits.TheConstants.{MAX_COLOURINGS}
use Rattle.verdict_core.specs.declared.verdict.Verdict.TheVariants.{Equal, UnknownBudget, UnknownExhausted}
use Rattle.text_items.specs.declared.fault.TextFault.{TextFault}
use Rattle.text_items.specs.declared.fault.TextFault.TheVariants.{Malformed}
use Rattle.text_items.specs.declared.reading.TheConstants.{MAX_NUMBER}
use Rattle.verdict_text.specs.declared.verdicts.Version.{Version}
use Rattle.text_items.specs.Reading.{◌>>=◌, in_turn, next_line, next_token, line_end, word, number, last_number, last_count, at_most}
use Rattle.verdict_text.specs.Moves.{move_lines, moves_item}
use Rattle.knot_text.specs.BraidSteps.{step_lines, steps_item}
use Rattle.verdict_text.specs.Verdicts.{moves_of, colour_line, list_item, equal_at, budget_at, exhausted_at, unknown_at, unknown_item, verdict_of}
use Rattle.text_laws.specs.LineKinds.{read_fault, fault_by, kind_fault, worth, has_form, is_above, counted_kind, unknown_kind}
use Rattle.text_laws.specs.FirstLines.{count, or_later, on_top, BeginsBy, BeginsWith}
use Rattle.knot_text.proofs.StepsAgain.{line_of}
use Rattle.text_laws.proofs.Worths.{kept, within, above_kept}
use Rattle.text_laws.proofs.StepFaults.{most_by, chosen, either}
use Rattle.text_laws.proofs.MoveFaults.{or_none, two_by}

-- ---- a number that ends its line, and what is read by it

abbrev pub counted : {A : Type 0} → ℕ → (ℕ → Result A TextFault) → NumberedLine → Result A TextFault
counted most items line = (last_number line >>= λ value. at_most most value.1.number value.0) >>= items

count_by : {A : Type 0} (most n : ℕ) (items : ℕ → Result A TextFault) (t : List ℕ) (over : Bool) → most ≤ MAX_NUMBER → is_number t ≡ true
    → nat_lt most (worth t) ≡ over
    → read_fault (at_most most n (kept t) >>= items) ≡ or_later (fault_by true (over || false) true n) (read_fault (items (worth t)))
count_by most n items t true few is above = rw (most_by most (kept t), above_kept most t few is, above) refl
count_by most n items t false few is above = rw (most_by most (kept t), above_kept most t few is, above, within most t few is above) refl

pub counted_fails : {A : Type 0} (most n : ℕ) (items : ℕ → Result A TextFault) (w : List ℕ) (rest : List (List ℕ)) → most ≤ MAX_NUMBER
    → read_fault (counted most items (line_of n rest))
    ≡ or_later (fault_by (has_form (is_number ∷ []) rest) (list_any (λ token. is_above most token) rest) true n) (read_fault (items (count (w ∷ rest))))
unfolding last_number number next_token line_end
counted_fails most n items w [] few = refl
counted_fails most n items w (t ∷ []) few = by (is_number t) refl
  where
    by : (b : Bool) → is_number t ≡ b → read_fault (counted most items (line_of n (t ∷ [])))
        ≡ or_later (fault_by (has_form (is_number ∷ []) (t ∷ [])) (list_any (λ token. is_above most token) (t ∷ [])) true n) (read_fault (items (worth t)))
    by true is = rw is (count_by most n items t (nat_lt most (worth t)) few is refl)
    by false is = rw is refl
counted_fails most n items w (t ∷ u ∷ more) few = by (is_number t) refl
  where
    by : (b : Bool) → is_number t ≡ b → read_fault (counted most items (line_of n (t ∷ u ∷ more)))
        ≡ or_later (fault_by (has_form (is_number ∷ []) (t ∷ u ∷ more)) (list_any (λ token. is_above most token) (t ∷ u ∷ more)) true n)
        (read_fault (items (worth t)))
    by true is = rw is refl
    by false is = rw is refl

-- ---- a word and such a number

abbrev head : {A : Type 0} → List ℕ → ℕ → (ℕ → Result A TextFault) → NumberedLine → Result A TextFault
head w most items line = word w line >>= λ rest. counted most items rest

head_by : {A : Type 0} (w : List ℕ) (most n : ℕ) (items : ℕ → Result A TextFault) (m : List ℕ) (rest : List (List ℕ)) (b : Bool) → bytes_eq m w ≡ b
    → most ≤ MAX_NUMBER → is_number w ≡ false
    → read_fault (head w most items (line_of n (m ∷ rest)))
    ≡ or_later (kind_fault (counted_kind w most) (line_of n (m ∷ rest))) (read_fault (items (count (m ∷ rest))))
unfolding word next_token
head_by w most n items m rest true is few plain =
    let none : is_number m ≡ false = chosen w m (λ u. is_number u ≡ false) is plain in
    rw (is, none) (counted_fails most n items m rest few
    ∙ ap (λ (b : Bool). or_later (fault_by b (list_any (λ token. is_above most token) rest) true n) (read_fault (items (count (m ∷ rest)))))
    (or_none (has_form (is_number ∷ []) rest)))
head_by w most n items m rest false is few plain = rw is refl

pub head_fails : {A : Type 0} (w : List ℕ) (most n : ℕ) (items : ℕ → Result A TextFault) (tokens : List (List ℕ)) → most ≤ MAX_NUMBER → is_number w ≡ false
    → read_fault (head w most items (line_of n tokens)) ≡ or_later (kind_fault (counted_kind w most) (line_of n tokens)) (read_fault (items (count tokens)))
unfolding word next_token
head_fails w most n items [] few plain = refl
head_fails w most n items (m ∷ rest) few plain = head_by w most n items m rest (bytes_eq m w) refl few plain

pub moves_begin : BeginsBy (counted_kind (codes "moves") MAX_NUMBER) (λ tokens text. read_fault (move_lines (count tokens) text)) moves_item
unfolding moves_item next_line last_count
moves_begin line text = head_fails (codes "moves") MAX_NUMBER line.number (λ k. move_lines k text) line.tokens (omega arith) refl

pub steps_begin : BeginsBy (counted_kind (codes "steps") MAX_NUMBER) (λ tokens text. read_fault (step_lines (count tokens) text)) steps_item
unfolding steps_item next_line last_count
steps_begin line text = head_fails (codes "steps") MAX_NUMBER line.number (λ k. step_lines k text) line.tokens (omega arith) refl

-- ---- the same in another order

in_order : {A B C : Type 0} (m : Result A TextFault) (f : A → Result B TextFault) (g : B → Result C TextFault)
    → (m >>= λ x. f x >>= g) ≡ ((m >>= f) >>= g)
in_order (Ok x) f g = refl
in_order (Err e) f g = refl

each_same : {A B : Type 0} (m : Result A TextFault) (f g : A → Result B TextFault) → ((x : A) → f x ≡ g x) → (m >>= f) ≡ (m >>= g)
each_same (Ok x) f g same = same x
each_same (Err e) f g same = refl

pub list_begins : (width order : ℕ)
    → BeginsBy (counted_kind (codes "list") MAX_COLOURINGS) (λ tokens text. read_fault (in_turn (colour_line width order) (count tokens) text))
    (list_item width order)
unfolding list_item next_line
list_begins width order line text =
    let items = λ (k : ℕ). in_turn (colour_line width order) k text in
    let reads = λ (rest : NumberedLine). last_number rest >>= λ value. at_most MAX_COLOURINGS value.1.number value.0 >>= items in
    let same = each_same (word (codes "list") line) reads (λ rest. counted MAX_COLOURINGS items rest)
    (λ rest. in_order (last_number rest) (λ value. at_most MAX_COLOURINGS value.1.number value.0) items) in
    ap read_fault same ∙ head_fails (codes "list") MAX_COLOURINGS line.number items line.tokens (omega arith) refl

-- ---- verdicts without lists

pub only_fault : {A B : Type 0} (m : Result A TextFault) (f : A → B) → read_fault (m >>= λ x. Ok (f x)) ≡ read_fault m
only_fault (Ok x) f = refl
only_fault (Err e) f = refl

pub none_later : (fault : Option TextFault) → or_later fault None ≡ fault
none_later None = refl
none_later (Some fault) = refl

abbrev any_above : List (List ℕ) → Bool
any_above ts = list_any (λ token. is_above MAX_NUMBER token) ts

equal_head : (version : Version) (n : ℕ) (rest : List (List ℕ)) (text : Text)
    → read_fault (equal_at version (line_of n rest) text)
    ≡ or_later (fault_by (has_form (is_number ∷ []) rest || false) (any_above rest) true n) (read_fault (moves_of version (count (codes "equal" ∷ rest)) text))
unfolding equal_at last_count
equal_head version n rest text =
    let k = count (codes "equal" ∷ rest) in
    let form = has_form (is_number ∷ []) rest in
    counted_fails MAX_NUMBER n (λ k. moves_of version k text >>= λ moves. Ok (Equal moves.0, moves.1)) (codes "equal") rest (omega arith)
    ∙ ap (λ (later : Option TextFault). or_later (fault_by form (any_above rest) true n) later)
    (only_fault (moves_of version k text) (λ moves. (Equal moves.0, moves.1)))
    ∙ ap (λ (b : Bool). or_later (fault_by b (any_above rest) true n) (read_fault (moves_of version k text))) (or_none form)

equal_by : (version : Version) (one two n : ℕ) (tokens : List (List ℕ)) (text : Text) → starts (codes "equal") tokens ≡ true
    → read_fault (verdict_of version one two (on_top (line_of n tokens) text))
    ≡ or_later (kind_fault (counted_kind (codes "equal") MAX_NUMBER) (line_of n tokens)) (read_fault (moves_of version (count tokens) text))
unfolding verdict_of next_line next_token
equal_by version one two n [] text is = absurd cc
equal_by version one two n (m ∷ rest) text is =
    chosen (codes "equal") m
    (λ w. read_fault (verdict_of version one two (on_top (line_of n (w ∷ rest)) text))
    ≡ or_later (kind_fault (counted_kind (codes "equal") MAX_NUMBER) (line_of n (w ∷ rest))) (read_fault (moves_of version (count (w ∷ rest)) text)))
    is (equal_head version n rest text)

pub equal_begins : (version : Version) (one two : ℕ) → BeginsWith (codes "equal") (counted_kind (codes "equal") MAX_NUMBER)
    (λ tokens text. read_fault (moves_of version (count tokens) text)) (verdict_of version one two)
equal_begins version one two line text is = equal_by version one two line.number line.tokens text is

budget_fails : (n : ℕ) (rest : List (List ℕ)) → read_fault (budget_at (line_of n rest))
    ≡ fault_by (has_form (is_number ∷ []) rest || false) (any_above rest) true n
unfolding budget_at last_count
budget_fails n rest =
    counted_fails MAX_NUMBER n (λ k. Ok (UnknownBudget k)) (codes "budget") rest (omega arith)
    ∙ none_later (fault_by (has_form (is_number ∷ []) rest) (any_above rest) true n)
    ∙ ap (λ (b : Bool). fault_by b (any_above rest) true n) (or_none (has_form (is_number ∷ []) rest))

abbrev Exhausts : ℕ → List (List ℕ) → Type 0
Exhausts n rest = read_fault (exhausted_at (line_of n rest)) ≡ fault_by (has_form (is_number ∷ is_number ∷ []) rest || false) (any_above rest) true n

alone : (t : List ℕ) → is_number t ≡ true → nat_lt MAX_NUMBER (kept t) ≡ (nat_lt MAX_NUMBER (worth t) || false)
alone t is = above_kept MAX_NUMBER t (omega arith) is ∙ or_none (nat_lt MAX_NUMBER (worth t))

exhausted_fails : (n : ℕ) (rest : List (List ℕ)) → Exhausts n rest
unfolding exhausted_at last_number number next_token line_end
exhausted_fails n [] = refl
exhausted_fails n (t ∷ []) = by (is_number t) refl
  where
    by : (b : Bool) → is_number t ≡ b → Exhausts n (t ∷ [])
    by true is = rw is refl
    by false is = rw is refl
exhausted_fails n (t ∷ u ∷ []) = by (is_number t) (is_number u) refl refl
  where
    by : (b c : Bool) → is_number t ≡ b → is_number u ≡ c → Exhausts n (t ∷ u ∷ [])
    by true true is last = rw (is, last)
        (two_by (λ cap admitted. UnknownExhausted cap admitted) MAX_NUMBER n (kept t) (kept u) _ _ (above_kept MAX_NUMBER t (omega arith) is) (alone u last))
    by true false is last = rw (is, last) refl
    by false c is last = rw is refl
exhausted_fails n (t ∷ u ∷ v ∷ more) = by (is_number t) (is_number u) refl refl
  where
    by : (b c : Bool) → is_number t ≡ b → is_number u ≡ c → Exhausts n (t ∷ u ∷ v ∷ more)
    by true true is last = rw (is, last) refl
    by true false is last = rw (is, last) refl
    by false c is last = rw is refl

unknown_fails : (n : ℕ) (rest : List (List ℕ)) → read_fault (unknown_at (line_of n rest)) ≡ kind_fault unknown_kind (line_of n (codes "unknown" ∷ rest))
unfolding unknown_at next_token
unknown_fails n [] = refl
unknown_fails n (cause ∷ rest) =
    let left = line_of n rest in
    let fault = λ (w : List ℕ). kind_fault unknown_kind (line_of n (codes "unknown" ∷ w ∷ rest)) in
    either (bytes_eq cause (codes "budget")) (budget_at left) (cond (bytes_eq cause (codes "exhausted")) (exhausted_at left) (Err (Malformed n))) (fault cause)
    (λ is. chosen (codes "budget") cause (λ w. read_fault (budget_at left) ≡ fault w) is (budget_fails n rest))
    (λ budget. either (bytes_eq cause (codes "exhausted")) (exhausted_at left) (Err (Malformed n)) (fault cause)
    (λ is. chosen (codes "exhausted") cause (λ w. read_fault (exhausted_at left) ≡ fault w) is (exhausted_fails n rest))
    (λ exhausted. rw (budget, exhausted) refl))

unknown_by : (version : Version) (one two n : ℕ) (tokens : List (List ℕ)) (text : Text) → starts (codes "unknown") tokens ≡ true
    → read_fault (verdict_of version one two (on_top (line_of n tokens) text)) ≡ or_later (kind_fault unknown_kind (line_of n tokens)) None
unfolding verdict_of unknown_item next_line next_token
unknown_by version one two n [] text is = absurd cc
unknown_by version one two n (m ∷ rest) text is =
    chosen (codes "unknown") m
    (λ w. read_fault (verdict_of version one two (on_top (line_of n (w ∷ rest)) text)) ≡ or_later (kind_fault unknown_kind (line_of n (w ∷ rest))) None)
    is
    (only_fault (unknown_at (line_of n rest)) (λ v. (v, text)) ∙ unknown_fails n rest
    ∙ sym (none_later (kind_fault unknown_kind (line_of n (codes "unknown" ∷ rest)))))

pub unknown_begins : (version : Version) (one two : ℕ) → BeginsWith (codes "unknown") unknown_kind (λ tokens text. None) (verdict_of version one two)
unknown_begins version one two line text is = unknown_by version one two line.number line.tokens text is
