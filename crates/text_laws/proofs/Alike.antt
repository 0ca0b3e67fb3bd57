-- Readers that answer the same value on texts of the same tokens, whatever the numbers of the lines.
use Rattle.std.proofs.Common.{◌≡◌, ℕ, List, [], ◌∷◌, Bool, true, false, cond, Result, Ok, Err, refl, ap, subst, ◌∙◌}
use Rattle.text_lines.specs.Lines.{NumberedLine, Text, begins, first_starts}
use Rattle.text_items.specs.declared.fault.TextFault.{TextFault}
use Rattle.text_items.specs.Reading.{◌>>=◌, line_among, next_line}
use Rattle.knot_text.specs.WrittenThere.{tokens_by_line}
use Rattle.knot_text.proofs.Steady.{bind_ok, ok_is}
use Rattle.knot_text.proofs.StepsAgain.{line_of}

-- where the first answers a value, the second answers one that is related to it
pub record Alike {A : Type 0} (R : A → A → Type 0) (r s : Result A TextFault) : Type 0 where
  pub of : (x : A) → r ≡ Ok x → (y : A) × (s ≡ Ok y) × R x y

pub alike_ok : {A : Type 0} {R : A → A → Type 0} {x y : A} → R x y → Alike R (Ok x) (Ok y)
alike_ok {R = R} {x = x} {y = y} related = record { of = λ z is. (y, refl, subst (λ w. R w y) (ok_is x z is) related) }

pub alike_err : {A : Type 0} {R : A → A → Type 0} {e : TextFault} {s : Result A TextFault} → Alike R (Err e) s
alike_err = record { of = λ z is. absurd (let no = is in cc) }

pub alike_bind : {A B : Type 0} {R : B → B → Type 0} {r s : Result A TextFault} {f g : A → Result B TextFault} (Q : A → A → Type 0) → Alike Q r s
    → ((x y : A) → Q x y → Alike R (f x) (g y)) → Alike R (r >>= f) (s >>= g)
alike_bind {r = r} {s = s} {f = f} {g = g} Q first second = record {
  of = λ z is.
      let b = bind_ok r f z is in
      let c = first.of b.0 b.1 in
      let d = (second b.0 c.0 c.2).of z b.2 in
      (d.0, ap (λ q. q >>= g) c.1 ∙ d.1, d.2);
}

pub alike_if : {A : Type 0} {R : A → A → Type 0} {x y v w : Result A TextFault} (b : Bool) → Alike R x v → Alike R y w → Alike R (cond b x y) (cond b v w)
alike_if true first second = first
alike_if false first second = second

-- ---- the same value, and the same tokens left

abbrev pub Same : {A : Type 0} → A → A → Type 0
Same x y = x ≡ y

abbrev pub SameLine : NumberedLine → NumberedLine → Type 0
SameLine x y = x.tokens ≡ y.tokens

abbrev pub SameRest : {A : Type 0} → A × NumberedLine → A × NumberedLine → Type 0
SameRest x y = (x.0 ≡ y.0) × SameLine x.1 y.1

abbrev pub SameText : Text → Text → Type 0
SameText s t = tokens_by_line s.lines ≡ tokens_by_line t.lines

abbrev pub SameLeft : {A : Type 0} → A × Text → A × Text → Type 0
SameLeft x y = (x.0 ≡ y.0) × SameText x.1 y.1

pub same_bind : {A B : Type 0} {R : B → B → Type 0} {r s : Result A TextFault} {f g : A → Result B TextFault} → Alike Same r s
    → ((x : A) → Alike R (f x) (g x)) → Alike R (r >>= f) (s >>= g)
same_bind {R = R} {f = f} {g = g} first second = alike_bind Same first (λ x y same. subst (λ z. Alike R (f x) (g z)) same (second x))

pub line_bind : {B : Type 0} {R : B → B → Type 0} {r s : Result NumberedLine TextFault} (f g : NumberedLine → Result B TextFault) → Alike SameLine r s
    → ((ts : List (List ℕ)) (n m : ℕ) → Alike R (f (line_of n ts)) (g (line_of m ts))) → Alike R (r >>= f) (s >>= g)
line_bind {R = R} f g first second =
    alike_bind SameLine first (λ x y same. subst (λ (ts : List (List ℕ)). Alike R (f x) (g (line_of y.number ts))) same (second x.tokens x.number y.number))

pub rest_bind : {A B : Type 0} {R : B → B → Type 0} {r s : Result (A × NumberedLine) TextFault} (f g : A × NumberedLine → Result B TextFault)
    → Alike SameRest r s
    → ((v : A) (ts : List (List ℕ)) (n m : ℕ) → Alike R (f (v, line_of n ts)) (g (v, line_of m ts))) → Alike R (r >>= f) (s >>= g)
rest_bind {R = R} f g first second = alike_bind SameRest first (λ x y same.
    subst (λ v. Alike R (f x) (g (v, y.1))) same.0 (subst (λ (ts : List (List ℕ)). Alike R (f x) (g (x.0, line_of y.1.number ts))) same.1
    (second x.0 x.1.tokens x.1.number y.1.number)))

pub text_bind : {A B : Type 0} {R : B → B → Type 0} {r s : Result (A × Text) TextFault} (f g : A × Text → Result B TextFault) → Alike SameLeft r s
    → ((v : A) (t u : Text) → SameText t u → Alike R (f (v, t)) (g (v, u))) → Alike R (r >>= f) (s >>= g)
text_bind {R = R} f g first second = alike_bind SameLeft first (λ x y same. subst (λ v. Alike R (f x) (g (v, y.1))) same.0 (second x.0 x.1 y.1 same.1))

-- ---- the next line

-- what was read of a line, with its text behind it
abbrev pub SameNext : NumberedLine × Text → NumberedLine × Text → Type 0
SameNext x y = SameLine x.0 y.0 × SameText x.1 y.1

among_alike : (xs ys : List NumberedLine) (a b : ℕ) → tokens_by_line xs ≡ tokens_by_line ys → Alike SameNext (line_among xs a) (line_among ys b)
among_alike [] ys a b same = alike_err
among_alike (x ∷ xs) [] a b same = absurd cc
among_alike (x ∷ xs) (y ∷ ys) a b same =
    let first : x.tokens ≡ y.tokens = cc in
    let others : tokens_by_line xs ≡ tokens_by_line ys = cc in
    alike_ok (first, others)

pub next_alike : (t u : Text) → SameText t u → Alike SameNext (next_line t) (next_line u)
unfolding next_line
next_alike t u same = among_alike t.lines u.lines t.ending u.ending same

pub next_bind : {B : Type 0} {R : B → B → Type 0} (t u : Text) (f g : NumberedLine × Text → Result B TextFault) → SameText t u
    → ((ts : List (List ℕ)) (n m : ℕ) (v w : Text) → SameText v w → Alike R (f (line_of n ts, v)) (g (line_of m ts, w)))
    → Alike R (next_line t >>= f) (next_line u >>= g)
next_bind {R = R} t u f g same second = alike_bind SameNext (next_alike t u same) (λ x y both.
    subst (λ (ts : List (List ℕ)). Alike R (f x) (g (line_of y.0.number ts, y.1))) both.0 (second x.0.tokens x.0.number y.0.number x.1 y.1 both.1))

-- ---- a choice by the first word of the next line

starts_same : (w : List ℕ) (xs ys : List NumberedLine) → tokens_by_line xs ≡ tokens_by_line ys → first_starts w xs ≡ first_starts w ys
starts_same w [] [] same = refl
starts_same w [] (y ∷ ys) same = absurd cc
starts_same w (x ∷ xs) [] same = absurd cc
starts_same w (x ∷ xs) (y ∷ ys) same =
    let first : x.tokens ≡ y.tokens = cc in
    rw first refl

pub begins_same : (w : List ℕ) (t u : Text) → SameText t u → begins w t ≡ begins w u
begins_same w t u same = starts_same w t.lines u.lines same

pub begins_alike : {A : Type 0} {R : A → A → Type 0} {x y v w : Result A TextFault} (name : List ℕ) (t u : Text) → SameText t u → Alike R x v
    → Alike R y w → Alike R (cond (begins name t) x y) (cond (begins name u) v w)
begins_alike {R = R} {x = x} {y = y} {v = v} {w = w} name t u same first second =
    subst (λ (b : Bool). Alike R (cond (begins name t) x y) (cond b v w)) (begins_same name t u same) (alike_if (begins name t) first second)
