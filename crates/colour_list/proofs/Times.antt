-- How often a list of colours stands in a list of such lists.
use Rattle.std.proofs.Common.{◌≡◌, ◌+◌, ◌∙◌, ℕ, List, [], ◌∷◌, Bool, true, false, cond, refl, sym, ap, arith}
use Rattle.std.specs.List.{flat_map, filter, All}
use Rattle.std.proofs.lemmas.Slice.Eq.{bytes_eq-Decides}
use Rattle.colour_list.specs.Listing.{is_same, times}
use Rattle.colour_list.proofs.Counts.{count-cons, count-append}
use Rattle.std.proofs.lemmas.Bool.{false_from_ne_true, false≢true}
use Rattle.std.proofs.lemmas.List.Elements.{All-head, All-tail, All-nil, All-append}

pub same_true : (xs ys : List ℕ) → xs ≡ ys → is_same xs ys ≡ true
same_true xs ys = (bytes_eq-Decides xs ys).1

pub true_same : (xs ys : List ℕ) → is_same xs ys ≡ true → xs ≡ ys
true_same xs ys = (bytes_eq-Decides xs ys).0

pub differ : (xs ys : List ℕ) → (xs ≡ ys → ⊥) → is_same xs ys ≡ false
differ xs ys apart = false_from_ne_true (is_same xs ys) (λ e. apart (true_same xs ys e))

filter_step : (p : List ℕ → Bool) (g x : List ℕ) (kept rest : List (List ℕ)) → p g ≡ true → times g kept ≡ times g rest → (t : Bool) → p x ≡ t
    → times g (cond (p x) (x ∷ kept) kept) ≡ times g (x ∷ rest)
filter_step p g x kept rest passes so_far true e =
    ap (λ b. times g (cond b (x ∷ kept) kept)) e
    ∙ (count-cons (is_same g) x kept ∙ (ap (λ n. cond (is_same g x) 1 0 + n) so_far ∙ sym (count-cons (is_same g) x rest)))
filter_step p g x kept rest passes so_far false e =
    let apart = differ g x (λ same. false≢true (sym e ∙ (ap p (sym same) ∙ passes))) in
    let here : times g (x ∷ rest) ≡ times g rest = count-cons (is_same g) x rest ∙ (ap (λ b. cond b 1 0 + times g rest) apart ∙ omega arith) in
    ap (λ b. times g (cond b (x ∷ kept) kept)) e ∙ (so_far ∙ sym here)

-- a filter keeps each list that passes as often as it stood there
pub times_filter : (p : List ℕ → Bool) (g : List ℕ) → p g ≡ true → (xs : List (List ℕ)) → times g (filter p xs) ≡ times g xs
times_filter p g passes [] = refl
times_filter p g passes (x ∷ xs) = filter_step p g x (filter p xs) xs passes (times_filter p g passes xs) (p x) refl

-- where g comes once of d and never of another list, it comes as often as d stood there
pub times_flat_map : (s : List ℕ → List (List ℕ)) (P : List ℕ → Type 0) (g d : List ℕ) → ((f : List ℕ) → P f → times g (s f) ≡ cond (is_same d f) 1 0)
    → (xs : List (List ℕ)) → All P xs → times g (flat_map s xs) ≡ times d xs
times_flat_map s P g d each [] all = refl
times_flat_map s P g d each (x ∷ xs) all =
    let here = each x (All-head P x xs all) in
    let rest = times_flat_map s P g d each xs (All-tail P x xs all) in
    count-append (is_same g) (s x) (flat_map s xs)
    ∙ (ap (λ n. n + times g (flat_map s xs)) here ∙ (ap (λ n. cond (is_same d x) 1 0 + n) rest ∙ sym (count-cons (is_same d) x xs)))

pub All-flat_map : {X Y : Type 0} (s : X → List Y) (P : X → Type 0) (Q : Y → Type 0) → ((f : X) → P f → All Q (s f)) → (xs : List X) → All P xs
    → All Q (flat_map s xs)
All-flat_map s P Q each [] all = All-nil Q
All-flat_map s P Q each (x ∷ xs) all = All-append Q (s x) (flat_map s xs) (each x (All-head P x xs all)) (All-flat_map s P Q each xs (All-tail P x xs all))
