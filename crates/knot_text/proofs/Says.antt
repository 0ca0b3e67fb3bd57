-- What a reader says of each value that it answers, step by step.
use Rattle.std.proofs.Common.{◌≡◌, ℕ, List, [], ◌∷◌, ◌++◌, Bool, true, false, cond, Result, Ok, Err, refl, sym, ap, ap₂, subst, ◌∙◌, append_assoc}
use Rattle.std.proofs.lemmas.List.{map-append}
use Rattle.text_lines.specs.Lines.{NumberedLine, Text}
use Rattle.text_items.specs.declared.fault.TextFault.{TextFault}
use Rattle.text_items.specs.Reading.{◌>>=◌, line_among, next_line}
use Rattle.knot_text.specs.WrittenThere.{StandInFront}
use Rattle.knot_text.proofs.Steady.{bind_ok, ok_is}

-- each value that is read has this
pub record Says {A : Type 0} (r : Result A TextFault) (P : A → Type 0) : Type 0 where
  pub of : (x : A) → r ≡ Ok x → P x

pub says_ok : {A : Type 0} {P : A → Type 0} (x : A) → P x → Says (Ok x) P
says_ok {P = P} x holds = record { of = λ y is. subst P (ok_is x y is) holds }

pub says_err : {A : Type 0} {P : A → Type 0} {e : TextFault} → Says (Err e) P
says_err = record { of = λ y is. absurd (let no = is in cc) }

pub says_bind : {A B : Type 0} {P : B → Type 0} {r : Result A TextFault} {f : A → Result B TextFault} (Q : A → Type 0) → Says r Q
    → ((x : A) → Q x → Says (f x) P) → Says (r >>= f) P
says_bind {r = r} {f = f} Q first second = record {
  of = λ y is.
      let b = bind_ok r f y is in
      (second b.0 (first.of b.0 b.1)).of y b.2;
}

-- a test that leads to the one value, and else to a fault
pub says_if : {A : Type 0} {P : A → Type 0} {x y : Result A TextFault} (b : Bool) → (b ≡ true → Says x P) → (b ≡ false → Says y P) → Says (cond b x y) P
says_if true yes_so not_so = yes_so refl
says_if false yes_so not_so = not_so refl

pub says_more : {A : Type 0} {P Q : A → Type 0} {r : Result A TextFault} → ((x : A) → P x → Q x) → Says r P → Says r Q
says_more more says = record { of = λ x is. more x (says.of x is) }

-- ---- lines in front

pub no_lines_in_front : (text : Text) → StandInFront [] text text
no_lines_in_front text = record { front = []; lines = refl; tokens = refl; ending = refl }

pub in_front_of : {a b : List (List (List ℕ))} {text mid rest : Text} → StandInFront a text mid → StandInFront b mid rest → StandInFront (a ++ b) text rest
in_front_of {rest = rest} first second = record {
  front = first.front ++ second.front;
  lines = first.lines ∙ ap (λ (ls : List NumberedLine). first.front ++ ls) second.lines ∙ sym (append_assoc first.front second.front rest.lines);
  tokens =
      map-append (λ (line : NumberedLine). line.tokens) first.front second.front ∙ ap₂ (λ (xs ys : List (List (List ℕ))). xs ++ ys) first.tokens second.tokens;
  ending = second.ending ∙ first.ending;
}

-- the same lines, printed in another way
pub in_front_is : {a b : List (List (List ℕ))} {text rest : Text} → a ≡ b → StandInFront a text rest → StandInFront b text rest
in_front_is {text = text} {rest = rest} same there = subst (λ (ls : List (List (List ℕ))). StandInFront ls text rest) same there

-- the line that was read, and the text behind it
abbrev pub IsNext : Text → NumberedLine × Text → Type 0
IsNext text line = StandInFront (line.0.tokens ∷ []) text line.1

among_says : (lines : List NumberedLine) (ending : ℕ) → Says (line_among lines ending) (IsNext (record { lines = lines; ending = ending }))
among_says [] ending = says_err
among_says (line ∷ lines) ending =
    says_ok (line, record { lines = lines; ending = ending }) (record { front = line ∷ []; lines = refl; tokens = refl; ending = refl })

pub next_says : (text : Text) → Says (next_line text) (IsNext text)
unfolding next_line
next_says text = among_says text.lines text.ending
