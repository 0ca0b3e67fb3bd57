-- The reader of step lines refuses them by their kind.
use Rattle.std.proofs.Common.{◌≡◌, inl, inr, ℕ, suc, zero, ℤ, pos, ◌==◌, ◌||◌, Bool, true, false, not, cond, List, [], ◌∷◌, codes, Option, Some, None}
use Rattle.std.proofs.Common.{Result, Ok, Err, nat_lt, nat_le, refl, sym, subst, arith}
use Rattle.std.specs.Prelude.{neg_ℤ, unsigned_abs}
use Rattle.std.specs.Option.{option_map}
use Rattle.std.specs.Str.{bytes_eq}
use Rattle.std.proofs.lemmas.Bool.{lt-ltb, le-ltb}
use Rattle.std.proofs.lemmas.Bool.Decides.{leb_tells}
use Rattle.std.proofs.lemmas.Slice.Eq.{bytes_eq-Decides}
use Rattle.braid_moves.specs.declared.step.BraidMove.{BraidMove}
use Rattle.braid_moves.specs.declared.step.BraidMove.TheVariants.{Far, Triple, Cancel, Insert, Turn}
use Rattle.text_lines.specs.NumberTokens.{is_number}
use Rattle.text_items.specs.declared.fault.TextFault.{TextFault}
use Rattle.text_items.specs.declared.fault.TextFault.TheVariants.{Malformed}
use Rattle.text_items.specs.declared.reading.TheConstants.{MAX_PLACE, MAX_LETTER}
use Rattle.text_items.specs.Reading.{◌>>=◌, next_token, line_end, number, last_number, at_most}
use Rattle.text_items.specs.Braids.{letter_of}
use Rattle.verdict_text.specs.Moves.{last_place, one_place}
use Rattle.knot_text.specs.BraidSteps.{last_letter, bounded_letter, insert, grow, shrink, step_at}
use Rattle.text_laws.specs.LineKinds.{read_fault, fault_by, kind_fault, FailsByKind, without_sign, is_letter, is_placed, step_kind}
use Rattle.knot_text.proofs.StepsAgain.{line_of}
use Rattle.knot_text.proofs.BraidStepLines.{from_triple, from_cancel, from_insert, from_turn, from_grow, from_shrink}
use Rattle.text_laws.proofs.Worths.{kept, above_kept}

-- ---- limits

pub most_by : (most v : ℕ) → nat_le v most ≡ not (nat_lt most v)
most_by most v = elim (leb_tells v most) [
  | inl at ↦ rw (at.0, le-ltb most v at.1) refl
  | inr over ↦ rw (over.0, lt-ltb most v over.1) refl
]

-- ---- letters

abbrev pub letter_value : List ℕ → ℤ
letter_value [] = pos 0
letter_value (b ∷ bs) = cond (b == 45) (neg_ℤ (pos (kept bs))) (pos (kept (b ∷ bs)))

mapped : {A B : Type 0} (f : A → B) (t : Bool) (x : A) → option_map f (cond t (Some x) None) ≡ cond t (Some (f x)) None
mapped f true x = refl
mapped f false x = refl

negative_abs : (k : ℕ) → unsigned_abs (neg_ℤ (pos k)) ≡ k
negative_abs zero = refl
negative_abs (suc k) = refl

pub letter_read : (u : List ℕ) → letter_of u ≡ cond (is_letter u) (Some (letter_value u)) None
letter_read [] = refl
letter_read (b ∷ bs) = by (b == 45) refl
  where
    by : (t : Bool) → (b == 45) ≡ t → letter_of (b ∷ bs) ≡ cond (is_letter (b ∷ bs)) (Some (letter_value (b ∷ bs))) None
    by true is = rw is (mapped (λ (k : ℕ). neg_ℤ (pos k)) (is_number bs) (kept bs))
    by false is = rw is (mapped (λ (k : ℕ). pos k) (is_number (b ∷ bs)) (kept (b ∷ bs)))

pub letter_abs : (u : List ℕ) → unsigned_abs (letter_value u) ≡ kept (without_sign u)
letter_abs [] = refl
letter_abs (b ∷ bs) = by (b == 45) refl
  where
    by : (t : Bool) → (b == 45) ≡ t → unsigned_abs (letter_value (b ∷ bs)) ≡ kept (without_sign (b ∷ bs))
    by true is = rw is (negative_abs (kept bs))
    by false is = rw is refl

-- ---- steps that are told by one place

pub place_by : {A : Type 0} (make : ℕ → A) (n value : ℕ) (over : Bool) → nat_lt MAX_PLACE value ≡ over
    → read_fault (at_most MAX_PLACE n value >>= λ place. Ok (make place)) ≡ fault_by true over true n
place_by make n value true is = rw (most_by MAX_PLACE value, is) refl
place_by make n value false is = rw (most_by MAX_PLACE value, is) refl

placed : (make : ℕ → BraidMove) (name : List ℕ) (n : ℕ) (rest : List (List ℕ)) → is_placed name ≡ true → bytes_eq name (codes "grow") ≡ false
    → bytes_eq name (codes "insert") ≡ false → bytes_eq name (codes "shrink") ≡ false
    → read_fault (one_place make (line_of n rest)) ≡ kind_fault step_kind (line_of n (name ∷ rest))
unfolding last_place last_number number next_token line_end
placed make name n [] one grows inserts shrinks = rw shrinks refl
placed make name n (t ∷ []) one grows inserts shrinks = by (is_number t) refl
  where
    by : (b : Bool) → is_number t ≡ b → read_fault (one_place make (line_of n (t ∷ []))) ≡ kind_fault step_kind (line_of n (name ∷ t ∷ []))
    by true is = rw (is, one) (place_by make n (kept t) _ (above_kept MAX_PLACE t (omega arith) is))
    by false is = rw (is, one, grows) refl
placed make name n (t ∷ u ∷ []) one grows inserts shrinks = by (is_number t) refl
  where
    by : (b : Bool) → is_number t ≡ b → read_fault (one_place make (line_of n (t ∷ u ∷ []))) ≡ kind_fault step_kind (line_of n (name ∷ t ∷ u ∷ []))
    by true is = rw (is, inserts) refl
    by false is = rw (is, inserts) refl
placed make name n (t ∷ u ∷ v ∷ more) one grows inserts shrinks = by (is_number t) refl
  where
    by : (b : Bool) → is_number t ≡ b
        → read_fault (one_place make (line_of n (t ∷ u ∷ v ∷ more))) ≡ kind_fault step_kind (line_of n (name ∷ t ∷ u ∷ v ∷ more))
    by true is = rw is refl
    by false is = rw is refl

-- ---- `insert`

insert_by : (n value : ℕ) (a : ℤ) (size : ℕ) (far long : Bool) → unsigned_abs a ≡ size → nat_lt MAX_PLACE value ≡ far → nat_lt MAX_LETTER size ≡ long
    → read_fault (at_most MAX_PLACE n value >>= λ place. bounded_letter n a >>= λ letter. Ok (Insert place letter)) ≡ fault_by true (far || long) true n
insert_by n value a size true long abs is over = rw (most_by MAX_PLACE value, is) refl
insert_by n value a size false true abs is over = rw (most_by MAX_PLACE value, is, abs, most_by MAX_LETTER size, over) refl
insert_by n value a size false false abs is over = rw (most_by MAX_PLACE value, is, abs, most_by MAX_LETTER size, over) refl

insert_fails : (n : ℕ) (rest : List (List ℕ)) → read_fault (insert (line_of n rest)) ≡ kind_fault step_kind (line_of n (codes "insert" ∷ rest))
unfolding insert number last_letter next_token line_end
insert_fails n [] = refl
insert_fails n (t ∷ []) = by (is_number t) refl
  where
    by : (b : Bool) → is_number t ≡ b → read_fault (insert (line_of n (t ∷ []))) ≡ kind_fault step_kind (line_of n (codes "insert" ∷ t ∷ []))
    by true is = rw is refl
    by false is = rw is refl
insert_fails n (t ∷ u ∷ []) = by (is_number t) (is_letter u) refl refl
  where
    by : (b c : Bool) → is_number t ≡ b → is_letter u ≡ c
        → read_fault (insert (line_of n (t ∷ u ∷ []))) ≡ kind_fault step_kind (line_of n (codes "insert" ∷ t ∷ u ∷ []))
    by true true is letter = rw (is, letter_read u, letter) (insert_by n (kept t) (letter_value u) (kept (without_sign u)) _ _ (letter_abs u)
        (above_kept MAX_PLACE t (omega arith) is) (above_kept MAX_LETTER (without_sign u) (omega arith) letter))
    by true false is letter = rw (is, letter_read u, letter) refl
    by false c is letter = rw is refl
insert_fails n (t ∷ u ∷ v ∷ more) = by (is_number t) (is_letter u) refl refl
  where
    by : (b c : Bool) → is_number t ≡ b → is_letter u ≡ c
        → read_fault (insert (line_of n (t ∷ u ∷ v ∷ more))) ≡ kind_fault step_kind (line_of n (codes "insert" ∷ t ∷ u ∷ v ∷ more))
    by true true is letter = rw (is, letter_read u, letter) refl
    by true false is letter = rw (is, letter_read u, letter) refl
    by false c is letter = rw is refl

-- ---- `grow` and `shrink`

grow_fails : (n : ℕ) (rest : List (List ℕ)) → read_fault (grow (line_of n rest)) ≡ kind_fault step_kind (line_of n (codes "grow" ∷ rest))
unfolding grow next_token line_end
grow_fails n [] = refl
grow_fails n (t ∷ []) = by (bytes_eq t (codes "plus")) (bytes_eq t (codes "minus")) refl refl
  where
    by : (b c : Bool) → bytes_eq t (codes "plus") ≡ b → bytes_eq t (codes "minus") ≡ c
        → read_fault (grow (line_of n (t ∷ []))) ≡ kind_fault step_kind (line_of n (codes "grow" ∷ t ∷ []))
    by true c plus minus = rw plus refl
    by false true plus minus = rw (plus, minus) refl
    by false false plus minus = rw (plus, minus) refl
grow_fails n (t ∷ u ∷ []) = refl
grow_fails n (t ∷ u ∷ v ∷ more) = refl

shrink_fails : (n : ℕ) (rest : List (List ℕ)) → read_fault (shrink (line_of n rest)) ≡ kind_fault step_kind (line_of n (codes "shrink" ∷ rest))
unfolding shrink line_end
shrink_fails n [] = refl
shrink_fails n (t ∷ []) = refl
shrink_fails n (t ∷ u ∷ []) = refl
shrink_fails n (t ∷ u ∷ v ∷ more) = refl

-- ---- any step line

pub chosen : (w name : List ℕ) (P : List ℕ → Type 0) → bytes_eq name w ≡ true → P w → P name
chosen w name P is at = subst P (sym ((bytes_eq-Decides name w).0 is)) at

pub either : {A : Type 0} (b : Bool) (x y : Result A TextFault) (fault : Option TextFault)
    → (b ≡ true → read_fault x ≡ fault) → (b ≡ false → read_fault y ≡ fault) → read_fault (cond b x y) ≡ fault
either true x y fault first second = first refl
either false x y fault first second = second refl

-- a name that is none of the seven
record IsOther (name : List ℕ) : Type 0 where
  far : bytes_eq name (codes "far") ≡ false
  triple : bytes_eq name (codes "triple") ≡ false
  cancel : bytes_eq name (codes "cancel") ≡ false
  insert : bytes_eq name (codes "insert") ≡ false
  turn : bytes_eq name (codes "turn") ≡ false
  grow : bytes_eq name (codes "grow") ≡ false
  shrink : bytes_eq name (codes "shrink") ≡ false

other : (name : List ℕ) (n : ℕ) (rest : List (List ℕ)) → IsOther name → Some (Malformed n) ≡ kind_fault step_kind (line_of n (name ∷ rest))
other name n [] is = rw is.shrink refl
other name n (t ∷ []) is = rw (is.far, is.triple, is.cancel, is.turn, is.grow) refl
other name n (t ∷ u ∷ []) is = rw is.insert refl
other name n (t ∷ u ∷ v ∷ more) is = refl

step_by : (n : ℕ) (name : List ℕ) (rest : List (List ℕ)) → read_fault (step_at (line_of n (name ∷ rest))) ≡ kind_fault step_kind (line_of n (name ∷ rest))
unfolding step_at next_token
step_by n name rest =
    let left = line_of n rest in
    let fault = kind_fault step_kind (line_of n (name ∷ rest)) in
    let told = λ (make : ℕ → BraidMove) (w : List ℕ). read_fault (one_place make left) ≡ kind_fault step_kind (line_of n (w ∷ rest)) in
    either (bytes_eq name (codes "far")) (one_place (λ p. Far p) left) (from_triple name left) fault
    (λ is. chosen (codes "far") name (told (λ p. Far p)) is (placed (λ p. Far p) (codes "far") n rest refl refl refl refl))
    (λ far. either (bytes_eq name (codes "triple")) (one_place (λ p. Triple p) left) (from_cancel name left) fault
    (λ is. chosen (codes "triple") name (told (λ p. Triple p)) is (placed (λ p. Triple p) (codes "triple") n rest refl refl refl refl))
    (λ triple. either (bytes_eq name (codes "cancel")) (one_place (λ p. Cancel p) left) (from_insert name left) fault
    (λ is. chosen (codes "cancel") name (told (λ p. Cancel p)) is (placed (λ p. Cancel p) (codes "cancel") n rest refl refl refl refl))
    (λ cancel. either (bytes_eq name (codes "insert")) (insert left) (from_turn name left) fault
    (λ is. chosen (codes "insert") name (λ w. read_fault (insert left) ≡ kind_fault step_kind (line_of n (w ∷ rest))) is (insert_fails n rest))
    (λ inserts. either (bytes_eq name (codes "turn")) (one_place (λ k. Turn k) left) (from_grow name left) fault
    (λ is. chosen (codes "turn") name (told (λ k. Turn k)) is (placed (λ k. Turn k) (codes "turn") n rest refl refl refl refl))
    (λ turn. either (bytes_eq name (codes "grow")) (grow left) (from_shrink name left) fault
    (λ is. chosen (codes "grow") name (λ w. read_fault (grow left) ≡ kind_fault step_kind (line_of n (w ∷ rest))) is (grow_fails n rest))
    (λ grows. either (bytes_eq name (codes "shrink")) (shrink left) (Err (Malformed n)) fault
    (λ is. chosen (codes "shrink") name (λ w. read_fault (shrink left) ≡ kind_fault step_kind (line_of n (w ∷ rest))) is (shrink_fails n rest))
    (λ shrinks. other name n rest (record { far = far; triple = triple; cancel = cancel; insert = inserts; turn = turn; grow = grows; shrink = shrinks }))))))))

tokens_by : (n : ℕ) (tokens : List (List ℕ)) → read_fault (step_at (line_of n tokens)) ≡ kind_fault step_kind (line_of n tokens)
unfolding step_at next_token
tokens_by n [] = refl
tokens_by n (name ∷ rest) = step_by n name rest

pub step_fails : FailsByKind step_kind step_at
step_fails line = tokens_by line.number line.tokens
