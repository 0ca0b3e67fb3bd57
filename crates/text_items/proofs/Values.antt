-- Tokens read one behind the other, as a loop does.
use Rattle.std.proofs.Common.{◌≡◌, ℕ, List, [], ◌∷◌, ◌++◌, Option, Result, Ok, Err, Some, None, refl, sym, ap, ◌∙◌, append_assoc}
use Rattle.std.proofs.lemmas.List.{append-nil}
use Rattle.text_items.specs.declared.fault.TextFault.{TextFault}
use Rattle.text_items.specs.declared.fault.TextFault.TheVariants.{Malformed}
use Rattle.text_items.specs.Reading.{◌>>=◌, each_token}

-- what was read before, and what is still read
abbrev pub with_values : {A : Type 0} → List A → Result (List A) TextFault → Result (List A) TextFault
with_values front read = read >>= λ vs. Ok (front ++ vs)

-- this was kept of the values so far, and these tokens are still to be read
pub record GoesOn {A : Type 0} (value : List ℕ → Option A) (Kept : List A → Type 0) (tokens : List (List ℕ)) (total : Result (List A) TextFault)
    (n : ℕ) : Type 0 where
  pub values : List A
  pub kept : Kept values
  pub read : with_values values (each_token value n tokens) ≡ total

regroup_values : {A : Type 0} (front : List A) (v : A) (read : Result (List A) TextFault)
    → with_values front (read >>= λ vs. Ok (v ∷ vs)) ≡ with_values (front ++ v ∷ []) read
regroup_values front v (Ok vs) = ap (λ ns. Ok ns) (simp append_assoc)
regroup_values front v (Err e) = refl

-- one token more
pub value_more : {A : Type 0} (value : List ℕ → Option A) (Kept Next : List A → Type 0) (token : List ℕ) (tokens rest : List (List ℕ)) (v : A) (n : ℕ)
    (total : Result (List A) TextFault) → tokens ≡ token ∷ rest → value token ≡ Some v
    → ((values : List A) → Kept values → Next (values ++ v ∷ [])) → GoesOn value Kept tokens total n → GoesOn value Next rest total n
unfolding each_token
value_more value Kept Next token tokens rest v n total is number step so_far =
    let one : each_token value n tokens ≡ (each_token value n rest >>= λ vs. Ok (v ∷ vs)) = rw (is, number) refl in
    record {
      values = so_far.values ++ v ∷ [];
      kept = step so_far.values so_far.kept;
      read = sym (regroup_values so_far.values v (each_token value n rest)) ∙ sym (ap (with_values so_far.values) one) ∙ so_far.read;
    }

-- a token of another form
pub value_fails : {A : Type 0} (value : List ℕ → Option A) (Kept : List A → Type 0) (token : List ℕ) (tokens rest : List (List ℕ)) (n : ℕ)
    (total : Result (List A) TextFault) → tokens ≡ token ∷ rest → value token ≡ None
    → GoesOn value Kept tokens total n → total ≡ Err (Malformed n)
unfolding each_token
value_fails value Kept token tokens rest n total is number so_far =
    let one : each_token value n tokens ≡ Err (Malformed n) = rw (is, number) refl in
    sym so_far.read ∙ ap (with_values so_far.values) one

-- no token is left
pub values_done : {A : Type 0} (value : List ℕ → Option A) (Kept : List A → Type 0) (tokens : List (List ℕ)) (n : ℕ) (total : Result (List A) TextFault)
    → tokens ≡ [] → (so_far : GoesOn value Kept tokens total n) → total ≡ Ok so_far.values
unfolding each_token
values_done {A = A} value Kept tokens n total is so_far =
    let one : each_token value n tokens ≡ Ok [] = rw is refl in
    sym so_far.read ∙ ap (with_values so_far.values) one ∙ ap (λ (vs : List A). Ok vs) (append-nil so_far.values)
