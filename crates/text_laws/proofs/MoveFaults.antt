-- The reader of move lines refuses them by their kind.
use Rattle.std.proofs.Common.{◌≡◌, ◌∙◌, ℕ, ◌||◌, Bool, true, false, cond, List, [], ◌∷◌, codes, Option, Some, Result, Ok, Err, nat_lt, refl, ap, arith}
use Rattle.std.specs.List.{list_any}
use Rattle.std.specs.Str.{bytes_eq}
use Rattle.std.proofs.lemmas.Bool.{or_parts}
use Rattle.grid_core.specs.declared.mark.Kind.{Kind}
use Rattle.grid_core.specs.declared.mark.Kind.TheVariants.{Cross, Ring}
use Rattle.grid_core.specs.declared.mark.Corner.{Corner}
use Rattle.grid_core.specs.declared.mark.Corner.TheVariants.{LowLeft, LowRight, HighLeft, HighRight}
use Rattle.grid_moves.specs.declared.step.Move.{Move}
use Rattle.grid_moves.specs.declared.step.Move.TheVariants.{ShiftColumns, ShiftRows, ExchangeColumns, ExchangeRows, SlideColumns, SlideRows}
use Rattle.grid_moves.specs.declared.step.Move.TheVariants.{Stabilise, Destabilise}
use Rattle.text_lines.specs.Lines.{NumberedLine}
use Rattle.text_lines.specs.NumberTokens.{is_number}
use Rattle.text_items.specs.declared.fault.TextFault.{TextFault}
use Rattle.text_items.specs.declared.fault.TextFault.TheVariants.{Malformed}
use Rattle.text_items.specs.declared.reading.TheConstants.{MAX_PLACE}
use Rattle.text_items.specs.Reading.{◌>>=◌, next_token, line_end, number, last_number, at_most}
use Rattle.verdict_text.specs.Moves.{last_place, one_place, on_axis, shift, exchange, slide, kind_at, corner_at, stabilise, destabilise, move_at}
use Rattle.text_laws.specs.LineKinds.{read_fault, fault_by, kind_fault, FailsByKind, worth, Form, has_form, one_of, is_above, is_axis, is_kind, is_corner}
use Rattle.text_laws.specs.LineKinds.{move_kind}
use Rattle.knot_text.proofs.StepsAgain.{line_of}
use Rattle.text_laws.proofs.Worths.{kept, above_kept}
use Rattle.text_laws.proofs.StepFaults.{most_by, place_by, chosen, either}

pub or_none : (b : Bool) → b ≡ (b || false)
or_none true = refl
or_none false = refl

-- ---- words are no numbers

word_by : (w : List ℕ) (words : List (List ℕ)) (t : List ℕ) (b : Bool) → bytes_eq t w ≡ b → is_number w || list_any is_number words ≡ false
    → b || one_of words t ≡ true → (list_any is_number words ≡ false → one_of words t ≡ true → is_number t ≡ false) → is_number t ≡ false
word_by w words t true is none among more =
    chosen w t (λ u. is_number u ≡ false) is (or_parts (is_number w) (list_any is_number words) none).0
word_by w words t false is none among more = more (or_parts (is_number w) (list_any is_number words) none).1 among

pub word_no_number : (words : List (List ℕ)) (t : List ℕ) → list_any is_number words ≡ false → one_of words t ≡ true → is_number t ≡ false
word_no_number [] t none among = absurd cc
word_no_number (w ∷ words) t none among = word_by w words t (bytes_eq t w) refl none among (word_no_number words t)

-- ---- limits

abbrev any_above : List (List ℕ) → Bool
any_above ts = list_any (λ token. is_above MAX_PLACE token) ts

alone : (t : List ℕ) → is_number t ≡ true → nat_lt MAX_PLACE (kept t) ≡ (nat_lt MAX_PLACE (worth t) || false)
alone t is = above_kept MAX_PLACE t (omega arith) is ∙ or_none (nat_lt MAX_PLACE (worth t))

-- ---- moves that are told by one place

place_end : (make : ℕ → Move) (n : ℕ) (rest : List (List ℕ))
    → read_fault (one_place make (line_of n rest)) ≡ fault_by (has_form (is_number ∷ []) rest) (any_above rest) true n
unfolding last_place last_number number next_token line_end
place_end make n [] = refl
place_end make n (t ∷ []) = by (is_number t) refl
  where
    by : (b : Bool) → is_number t ≡ b
        → read_fault (one_place make (line_of n (t ∷ []))) ≡ fault_by (has_form (is_number ∷ []) (t ∷ [])) (any_above (t ∷ [])) true n
    by true is = rw is (place_by make n (kept t) _ (alone t is))
    by false is = rw is refl
place_end make n (t ∷ u ∷ more) = by (is_number t) refl
  where
    by : (b : Bool) → is_number t ≡ b
        → read_fault (one_place make (line_of n (t ∷ u ∷ more))) ≡ fault_by (has_form (is_number ∷ []) (t ∷ u ∷ more)) (any_above (t ∷ u ∷ more)) true n
    by true is = rw is refl
    by false is = rw is refl

axis_fails : (columns rows : ℕ → Move) (n : ℕ) (rest : List (List ℕ))
    → read_fault (on_axis columns rows (line_of n rest)) ≡ fault_by (has_form (is_axis ∷ is_number ∷ []) rest) (any_above rest) true n
unfolding next_token
axis_fails columns rows n [] = refl
axis_fails columns rows n (a ∷ more) =
    let left = line_of n more in
    let fault = λ (w : List ℕ). fault_by (has_form (is_axis ∷ is_number ∷ []) (w ∷ more)) (any_above (w ∷ more)) true n in
    either (bytes_eq a (codes "columns")) (one_place columns left) (cond (bytes_eq a (codes "rows")) (one_place rows left) (Err (Malformed n))) (fault a)
    (λ is. chosen (codes "columns") a (λ w. read_fault (one_place columns left) ≡ fault w) is (place_end columns n more))
    (λ column. either (bytes_eq a (codes "rows")) (one_place rows left) (Err (Malformed n)) (fault a)
    (λ is. chosen (codes "rows") a (λ w. read_fault (one_place rows left) ≡ fault w) is (place_end rows n more))
    (λ row. rw (column, row) refl))

-- ---- `stabilise`

kind_named : List ℕ → Kind
kind_named t = cond (bytes_eq t (codes "x")) Cross Ring

kind_read : (n : ℕ) (t : List ℕ) (more : List (List ℕ))
    → kind_at (line_of n (t ∷ more)) ≡ cond (is_kind t) (Ok (kind_named t, line_of n more)) (Err (Malformed n))
unfolding kind_at next_token kind_named
kind_read n t more = by (bytes_eq t (codes "x")) (bytes_eq t (codes "o")) refl refl
  where
    by : (a b : Bool) → bytes_eq t (codes "x") ≡ a → bytes_eq t (codes "o") ≡ b
        → kind_at (line_of n (t ∷ more)) ≡ cond (is_kind t) (Ok (kind_named t, line_of n more)) (Err (Malformed n))
    by true b x o = rw x refl
    by false true x o = rw (x, o) refl
    by false false x o = rw (x, o) refl

kind_none : (n : ℕ) → kind_at (line_of n []) ≡ Err (Malformed n)
unfolding kind_at next_token
kind_none n = refl

corner_named : List ℕ → Corner
corner_named t =
    cond (bytes_eq t (codes "lowleft")) LowLeft
    (cond (bytes_eq t (codes "lowright")) LowRight (cond (bytes_eq t (codes "highleft")) HighLeft HighRight))

corner_read : (n : ℕ) (t : List ℕ) (more : List (List ℕ))
    → corner_at (line_of n (t ∷ more)) ≡ cond (is_corner t) (Ok (corner_named t, line_of n more)) (Err (Malformed n))
unfolding corner_at next_token corner_named
corner_read n t more =
    by (bytes_eq t (codes "lowleft")) (bytes_eq t (codes "lowright")) (bytes_eq t (codes "highleft")) (bytes_eq t (codes "highright")) refl refl refl refl
  where
    by : (a b c d : Bool) → bytes_eq t (codes "lowleft") ≡ a → bytes_eq t (codes "lowright") ≡ b → bytes_eq t (codes "highleft") ≡ c
        → bytes_eq t (codes "highright") ≡ d
        → corner_at (line_of n (t ∷ more)) ≡ cond (is_corner t) (Ok (corner_named t, line_of n more)) (Err (Malformed n))
    by true b c d first second third fourth = rw first refl
    by false true c d first second third fourth = rw (first, second) refl
    by false false true d first second third fourth = rw (first, second, third) refl
    by false false false true first second third fourth = rw (first, second, third, fourth) refl
    by false false false false first second third fourth = rw (first, second, third, fourth) refl

corner_none : (n : ℕ) → corner_at (line_of n []) ≡ Err (Malformed n)
unfolding corner_at next_token
corner_none n = refl

abbrev stabilise_form : Form
stabilise_form = is_number ∷ is_kind ∷ is_corner ∷ []

abbrev Stabilises : ℕ → List (List ℕ) → Type 0
Stabilises n rest = read_fault (stabilise (line_of n rest)) ≡ fault_by (has_form stabilise_form rest) (any_above rest) true n

kinds : (t : List ℕ) → is_kind t ≡ true → is_number t ≡ false
kinds t is = word_no_number (codes "x" ∷ codes "o" ∷ []) t refl is

corners : (t : List ℕ) → is_corner t ≡ true → is_number t ≡ false
corners t is = word_no_number (codes "lowleft" ∷ codes "lowright" ∷ codes "highleft" ∷ codes "highright" ∷ []) t refl is

stabilise_fails : (n : ℕ) (rest : List (List ℕ)) → Stabilises n rest
unfolding stabilise number next_token line_end
stabilise_fails n [] = refl
stabilise_fails n (t ∷ []) = by (is_number t) refl
  where
    by : (b : Bool) → is_number t ≡ b → Stabilises n (t ∷ [])
    by true is = rw (is, kind_none n) refl
    by false is = rw is refl
stabilise_fails n (t ∷ k ∷ []) = by (is_number t) (is_kind k) refl refl
  where
    by : (b c : Bool) → is_number t ≡ b → is_kind k ≡ c → Stabilises n (t ∷ k ∷ [])
    by true true is kind = rw (is, kind_read n k [], kind, corner_none n) refl
    by true false is kind = rw (is, kind_read n k [], kind) refl
    by false c is kind = rw is refl
stabilise_fails n (t ∷ k ∷ c ∷ []) = by (is_number t) (is_kind k) (is_corner c) refl refl refl
  where
    by : (a b d : Bool) → is_number t ≡ a → is_kind k ≡ b → is_corner c ≡ d → Stabilises n (t ∷ k ∷ c ∷ [])
    by true true true is kind corner =
        rw (is, kind_read n k (c ∷ []), kind, corner_read n c [], corner, kinds k kind, corners c corner)
        (place_by (λ place. Stabilise place (kind_named k) (corner_named c)) n (kept t) _ (alone t is))
    by true true false is kind corner = rw (is, kind_read n k (c ∷ []), kind, corner_read n c [], corner) refl
    by true false d is kind corner = rw (is, kind_read n k (c ∷ []), kind) refl
    by false b d is kind corner = rw is refl
stabilise_fails n (t ∷ k ∷ c ∷ u ∷ more) = by (is_number t) (is_kind k) (is_corner c) refl refl refl
  where
    by : (a b d : Bool) → is_number t ≡ a → is_kind k ≡ b → is_corner c ≡ d → Stabilises n (t ∷ k ∷ c ∷ u ∷ more)
    by true true true is kind corner = rw (is, kind_read n k (c ∷ u ∷ more), kind, corner_read n c (u ∷ more), corner) refl
    by true true false is kind corner = rw (is, kind_read n k (c ∷ u ∷ more), kind, corner_read n c (u ∷ more), corner) refl
    by true false d is kind corner = rw (is, kind_read n k (c ∷ u ∷ more), kind) refl
    by false b d is kind corner = rw is refl

-- ---- `destabilise`

pub two_by : {A : Type 0} (make : ℕ → ℕ → A) (most n v w : ℕ) (a b : Bool) → nat_lt most v ≡ a → nat_lt most w ≡ b
    → read_fault (at_most most n v >>= λ first. at_most most n w >>= λ second. Ok (make first second)) ≡ fault_by true (a || b) true n
two_by make most n v w true b first second = rw (most_by most v, first) refl
two_by make most n v w false true first second = rw (most_by most v, first, most_by most w, second) refl
two_by make most n v w false false first second = rw (most_by most v, first, most_by most w, second) refl

abbrev Destabilises : ℕ → List (List ℕ) → Type 0
Destabilises n rest = read_fault (destabilise (line_of n rest)) ≡ fault_by (has_form (is_number ∷ is_number ∷ []) rest) (any_above rest) true n

destabilise_fails : (n : ℕ) (rest : List (List ℕ)) → Destabilises n rest
unfolding destabilise last_number number next_token line_end
destabilise_fails n [] = refl
destabilise_fails n (t ∷ []) = by (is_number t) refl
  where
    by : (b : Bool) → is_number t ≡ b → Destabilises n (t ∷ [])
    by true is = rw is refl
    by false is = rw is refl
destabilise_fails n (t ∷ u ∷ []) = by (is_number t) (is_number u) refl refl
  where
    by : (b c : Bool) → is_number t ≡ b → is_number u ≡ c → Destabilises n (t ∷ u ∷ [])
    by true true is row = rw (is, row)
        (two_by (λ left low. Destabilise left low) MAX_PLACE n (kept t) (kept u) _ _ (above_kept MAX_PLACE t (omega arith) is) (alone u row))
    by true false is row = rw (is, row) refl
    by false c is row = rw is refl
destabilise_fails n (t ∷ u ∷ v ∷ more) = by (is_number t) (is_number u) refl refl
  where
    by : (b c : Bool) → is_number t ≡ b → is_number u ≡ c → Destabilises n (t ∷ u ∷ v ∷ more)
    by true true is row = rw (is, row) refl
    by true false is row = rw (is, row) refl
    by false c is row = rw is refl

-- ---- any move line

-- a name that is none of the five
record IsOther (name : List ℕ) : Type 0 where
  shift : bytes_eq name (codes "shift") ≡ false
  exchange : bytes_eq name (codes "exchange") ≡ false
  slide : bytes_eq name (codes "slide") ≡ false
  stabilise : bytes_eq name (codes "stabilise") ≡ false
  destabilise : bytes_eq name (codes "destabilise") ≡ false

other : (name : List ℕ) (n : ℕ) (rest : List (List ℕ)) → IsOther name → Some (Malformed n) ≡ kind_fault move_kind (line_of n (name ∷ rest))
other name n rest is = rw (is.shift, is.exchange, is.slide, is.stabilise, is.destabilise) refl

abbrev from_destabilise : List ℕ → NumberedLine → Result Move TextFault
from_destabilise t rest = cond (bytes_eq t (codes "destabilise")) (destabilise rest) (Err (Malformed rest.number))

abbrev from_stabilise : List ℕ → NumberedLine → Result Move TextFault
from_stabilise t rest = cond (bytes_eq t (codes "stabilise")) (stabilise rest) (from_destabilise t rest)

abbrev from_slide : List ℕ → NumberedLine → Result Move TextFault
from_slide t rest = cond (bytes_eq t (codes "slide")) (slide rest) (from_stabilise t rest)

abbrev from_exchange : List ℕ → NumberedLine → Result Move TextFault
from_exchange t rest = cond (bytes_eq t (codes "exchange")) (exchange rest) (from_slide t rest)

-- what is known of the tokens behind a name, said of the line
named : (form : Form) (n : ℕ) (rest : List (List ℕ)) (read : Option TextFault) → read ≡ fault_by (has_form form rest) (any_above rest) true n
    → read ≡ fault_by (has_form form rest || false) (any_above rest) true n
named form n rest read is = is ∙ ap (λ (b : Bool). fault_by b (any_above rest) true n) (or_none (has_form form rest))

move_by : (n : ℕ) (name : List ℕ) (rest : List (List ℕ)) → read_fault (move_at (line_of n (name ∷ rest))) ≡ kind_fault move_kind (line_of n (name ∷ rest))
unfolding move_at next_token shift exchange slide
move_by n name rest =
    let left = line_of n rest in
    let fault = λ (w : List ℕ). kind_fault move_kind (line_of n (w ∷ rest)) in
    let axes : Form = is_axis ∷ is_number ∷ [] in
    either (bytes_eq name (codes "shift")) (shift left) (from_exchange name left) (fault name)
    (λ is. chosen (codes "shift") name (λ w. read_fault (shift left) ≡ fault w) is
    (named axes n rest _ (axis_fails (λ k. ShiftColumns k) (λ k. ShiftRows k) n rest)))
    (λ shifts. either (bytes_eq name (codes "exchange")) (exchange left) (from_slide name left) (fault name)
    (λ is. chosen (codes "exchange") name (λ w. read_fault (exchange left) ≡ fault w) is
    (named axes n rest _ (axis_fails (λ c. ExchangeColumns c) (λ r. ExchangeRows r) n rest)))
    (λ exchanges. either (bytes_eq name (codes "slide")) (slide left) (from_stabilise name left) (fault name)
    (λ is. chosen (codes "slide") name (λ w. read_fault (slide left) ≡ fault w) is
    (named axes n rest _ (axis_fails (λ c. SlideColumns c) (λ r. SlideRows r) n rest)))
    (λ slides. either (bytes_eq name (codes "stabilise")) (stabilise left) (from_destabilise name left) (fault name)
    (λ is. chosen (codes "stabilise") name (λ w. read_fault (stabilise left) ≡ fault w) is (named stabilise_form n rest _ (stabilise_fails n rest)))
    (λ stabilises. either (bytes_eq name (codes "destabilise")) (destabilise left) (Err (Malformed n)) (fault name)
    (λ is. chosen (codes "destabilise") name (λ w. read_fault (destabilise left) ≡ fault w) is
    (named (is_number ∷ is_number ∷ []) n rest _ (destabilise_fails n rest)))
    (λ destabilises. other name n rest
    (record { shift = shifts; exchange = exchanges; slide = slides; stabilise = stabilises; destabilise = destabilises }))))))

move_line : (n : ℕ) (tokens : List (List ℕ)) → read_fault (move_at (line_of n tokens)) ≡ kind_fault move_kind (line_of n tokens)
unfolding move_at next_token
move_line n [] = refl
move_line n (name ∷ rest) = move_by n name rest

pub move_fails : FailsByKind move_kind move_at
move_fails line = move_line line.number line.tokens
