-- What is read of a line fails with that line's number alone, and keeps it.
use Rattle.std.proofs.Common.{◌≡◌, ℕ, ◌==◌, ◌&&◌, List, [], ◌∷◌, length, Bool, true, false, cond, Option, Some, None, Result, Ok, Err, refl}
use Rattle.std.proofs.Common.{sym, ap, subst, ◌∙◌, inl, inr, nat_le, nat_lt}
use Rattle.std.specs.List.{list_any, list_all}
use Rattle.std.specs.Str.{bytes_eq}
use Rattle.text_lines.specs.Lines.{NumberedLine}
use Rattle.text_lines.specs.NumberTokens.{number_of}
use Rattle.text_items.specs.declared.reading.TheConstants.{MAX_NUMBER}
use Rattle.text_items.specs.declared.fault.TextFault.{TextFault}
use Rattle.text_items.specs.declared.fault.TextFault.TheVariants.{Malformed, Limit}
use Rattle.text_items.specs.Reading.{◌>>=◌, next_token, line_end, word, or_malformed, number, last_number, last_count, at_most, token_among, next_line}
use Rattle.text_items.specs.Reading.{no_token_among, each_token}
use Rattle.text_items.specs.NumberLists.{line_numbers, is_long}
use Rattle.text_items.specs.Numbers.{numbers_below}
use Rattle.knot_text.specs.FirstBadLine.{NamesLine}
use Rattle.knot_text.proofs.Steady.{bind_ok, bind_err, ok_is, Steady, Anywhere, line_steady}

-- where it fails, the fault is that of line n
pub record At {A : Type 0} (n : ℕ) (r : Result A TextFault) : Type 0 where
  pub of : (fault : TextFault) → r ≡ Err fault → NamesLine fault n

-- what is left of the line has its number
pub record Keeps {A : Type 0} (n : ℕ) (left : A → NumberedLine) (r : Result A TextFault) : Type 0 where
  pub of : (x : A) → r ≡ Ok x → (left x).number ≡ n

pub at_ok : {A : Type 0} {n : ℕ} {x : A} → At n (Ok x)
at_ok = record { of = λ fault e. absurd (let no = e in cc) }

pub at_malformed : {A : Type 0} {n : ℕ} → At {A = A} n (Err (Malformed n))
at_malformed {n = n} = record { of = λ fault e. let same : Malformed n ≡ fault = cc in inl (sym same) }

pub at_limit : {A : Type 0} {n : ℕ} → At {A = A} n (Err (Limit n))
at_limit {n = n} = record { of = λ fault e. let same : Limit n ≡ fault = cc in inr (sym same) }

pub at_bind : {A B : Type 0} {n : ℕ} {r : Result A TextFault} {f : A → Result B TextFault} → At n r → ((x : A) → r ≡ Ok x → At n (f x)) → At n (r >>= f)
at_bind {r = r} {f = f} first second = record {
  of = λ fault e. elim (bind_err r f fault e) [
    | inl bad ↦ first.of fault bad
    | inr w ↦ (second w.0 w.1).of fault w.2
  ];
}

pub at_cond : {A : Type 0} {n : ℕ} {x y : Result A TextFault} (b : Bool) → At n x → At n y → At n (cond b x y)
at_cond true first second = first
at_cond false first second = second

-- a step behind another, which speaks of the same line
pub at_same : {A : Type 0} {n m : ℕ} {r : Result A TextFault} → m ≡ n → At m r → At n r
at_same {r = r} same at = subst (λ (k : ℕ). At k r) same at

pub keeps_ok : {A : Type 0} {n : ℕ} {left : A → NumberedLine} {x : A} → (left x).number ≡ n → Keeps n left (Ok x)
keeps_ok {left = left} {x = x} same = record { of = λ y e. ap (λ z. (left z).number) (sym (ok_is x y e)) ∙ same }

pub keeps_err : {A : Type 0} {n : ℕ} {left : A → NumberedLine} {fault : TextFault} → Keeps n left (Err fault)
keeps_err = record { of = λ y e. absurd (let no = e in cc) }

pub keeps_bind : {A B : Type 0} {n : ℕ} {left : B → NumberedLine} {r : Result A TextFault} {f : A → Result B TextFault}
    → ((x : A) → r ≡ Ok x → Keeps n left (f x)) → Keeps n left (r >>= f)
keeps_bind {r = r} {f = f} second = record {
  of = λ y e.
      let b = bind_ok r f y e in
      (second b.0 b.1).of y b.2;
}

pub keeps_cond : {A : Type 0} {n : ℕ} {left : A → NumberedLine} {x y : Result A TextFault} (b : Bool) → Keeps n left x → Keeps n left y
    → Keeps n left (cond b x y)
keeps_cond true first second = first
keeps_cond false first second = second

pub keeps_same : {A : Type 0} {n m : ℕ} {left : A → NumberedLine} {r : Result A TextFault} → m ≡ n → Keeps m left r → Keeps n left r
keeps_same {left = left} {r = r} same keeps = subst (λ (k : ℕ). Keeps k left r) same keeps

-- ---- one line

pub line_alone : {A : Type 0} (g : NumberedLine → Result A TextFault) → ((line : NumberedLine) → At line.number (g line))
    → Steady Anywhere (λ text. next_line text >>= λ line. g line.0 >>= λ x. Ok (x, line.1))
line_alone g at = line_steady g (λ line fault e. (at line).of fault e)

-- ---- tokens

token_at : (n : ℕ) (tokens : List (List ℕ)) → At n (token_among n tokens)
token_at n [] = at_malformed
token_at n (t ∷ ts) = at_ok

token_keeps : (n : ℕ) (tokens : List (List ℕ)) → Keeps n (λ x. x.1) (token_among n tokens)
token_keeps n [] = keeps_err
token_keeps n (t ∷ ts) = keeps_ok refl

pub next_token_at : (line : NumberedLine) → At line.number (next_token line)
unfolding next_token
next_token_at line = token_at line.number line.tokens

pub next_token_keeps : (line : NumberedLine) → Keeps line.number (λ x. x.1) (next_token line)
unfolding next_token
next_token_keeps line = token_keeps line.number line.tokens

end_at : (n : ℕ) (tokens : List (List ℕ)) → At n (no_token_among n tokens)
end_at n [] = at_ok
end_at n (t ∷ ts) = at_malformed

end_keeps : (n : ℕ) (tokens : List (List ℕ)) → Keeps n (λ x. x) (no_token_among n tokens)
end_keeps n [] = keeps_ok refl
end_keeps n (t ∷ ts) = keeps_err

pub line_end_at : (line : NumberedLine) → At line.number (line_end line)
unfolding line_end
line_end_at line = end_at line.number line.tokens

pub line_end_keeps : (line : NumberedLine) → Keeps line.number (λ x. x) (line_end line)
unfolding line_end
line_end_keeps line = end_keeps line.number line.tokens

pub word_at : (w : List ℕ) (line : NumberedLine) → At line.number (word w line)
unfolding word
word_at w line = at_bind (next_token_at line) (λ t e. at_cond (bytes_eq t.0 w) at_ok at_malformed)

pub word_keeps : (w : List ℕ) (line : NumberedLine) → Keeps line.number (λ x. x) (word w line)
unfolding word
word_keeps w line = keeps_bind (λ t e. keeps_cond (bytes_eq t.0 w) (keeps_ok ((next_token_keeps line).of t e)) keeps_err)

pub or_malformed_at : {A : Type 0} (n : ℕ) (o : Option A) → At n (or_malformed n o)
or_malformed_at n None = at_malformed
or_malformed_at n (Some x) = at_ok

pub number_at : (line : NumberedLine) → At line.number (number line)
unfolding number
number_at line = at_bind (next_token_at line) (λ t e. at_bind (or_malformed_at line.number (number_of t.0)) (λ v f. at_ok))

pub number_keeps : (line : NumberedLine) → Keeps line.number (λ x. x.1) (number line)
unfolding number
number_keeps line = keeps_bind (λ t e.
    keeps_bind {r = or_malformed line.number (number_of t.0)} {f = λ v. Ok (v, t.1)} (λ v f. keeps_ok ((next_token_keeps line).of t e)))

pub last_number_at : (line : NumberedLine) → At line.number (last_number line)
unfolding last_number
last_number_at line =
    at_bind (number_at line) (λ v e. at_bind (at_same ((number_keeps line).of v e) (line_end_at v.1)) (λ end f. at_ok))

pub last_number_keeps : (line : NumberedLine) → Keeps line.number (λ x. x.1) (last_number line)
unfolding last_number
last_number_keeps line =
    keeps_bind (λ v e. keeps_bind (λ end f. keeps_ok ((line_end_keeps v.1).of end f ∙ (number_keeps line).of v e)))

pub at_most_at : (most n value : ℕ) → At n (at_most most n value)
at_most_at most n value = at_cond (nat_le value most) at_ok at_limit

-- a number that ends its line, with a limit
pub counted_at : (most : ℕ) (line : NumberedLine) → At line.number (last_number line >>= λ v. at_most most v.1.number v.0)
counted_at most line = at_bind (last_number_at line) (λ v e. at_same ((last_number_keeps line).of v e) (at_most_at most v.1.number v.0))

pub last_count_at : (line : NumberedLine) → At line.number (last_count line)
unfolding last_count
last_count_at line = counted_at MAX_NUMBER line

-- ---- lines of numbers or letters

pub tokens_at : {A : Type 0} (read : List ℕ → Option A) (n : ℕ) (tokens : List (List ℕ)) → At n (each_token read n tokens)
unfolding each_token
tokens_at read n [] = at_ok
tokens_at read n (t ∷ ts) = at_bind (or_malformed_at n (read t)) (λ v e. at_bind (tokens_at read n ts) (λ vs f. at_ok))

pub numbers_at : (line : NumberedLine) → At line.number (line_numbers line)
numbers_at line = tokens_at number_of line.number line.tokens

pub numbers_below_at : (width order : ℕ) (line : NumberedLine) → At line.number (numbers_below width order line)
unfolding numbers_below
numbers_below_at width order line =
    at_bind (numbers_at line) (λ vs e. at_cond (list_any is_long vs) at_limit
    (at_cond ((length vs == width) && list_all (λ v. nat_lt v order) vs) at_ok at_malformed))
