-- Lists of which each stands at most once in xs, and also in ys, are at most as many as those of ys.
use Rattle.std.proofs.Common.{◌≡◌, ◌<◌, ◌≤◌, ◌+◌, inl, inr, ℕ, List, [], ◌∷◌, true, not, length, refl, sym, subst, arith}
use Rattle.std.specs.List.{filter}
use Rattle.std.proofs.lemmas.Bool.{both_ways, not-true, cases_lt}
use Rattle.std.proofs.lemmas.List.Sums.{length-filter}
use Rattle.std.proofs.lemmas.List.Filters.{length-filter_both}
use Rattle.std.proofs.lemmas.List.Elements.{filter_passes}
use Rattle.colour_list.specs.Listing.{is_same, times}
use Rattle.colour_list.proofs.Times.{same_true, differ, times_filter}
use Rattle.colour_list.proofs.Order.{times_here, times_there, came}

-- the lists of xs other than y
abbrev others : List ℕ → List (List ℕ) → List (List ℕ)
others y xs = filter (λ x. not (is_same y x)) xs

other_than : (y f : List ℕ) (xs : List (List ℕ)) → 0 < times f (others y xs) → not (is_same y f) ≡ true
other_than y f xs some = came (λ x. not (is_same y x) ≡ true) f (others y xs) (filter_passes (λ x. not (is_same y x)) xs) some

other_times : (y f : List ℕ) (xs : List (List ℕ)) → 0 < times f (others y xs) → times f (others y xs) ≡ times f xs
other_times y f xs some = times_filter (λ x. not (is_same y x)) f (other_than y f xs some) xs

others_once : (y : List ℕ) (xs : List (List ℕ)) → ((f : List ℕ) → times f xs ≤ 1) → (f : List ℕ) → times f (others y xs) ≤ 1
others_once y xs once f = elim (cases_lt 0 (times f (others y xs))) [
  | inl some ↦ let same = other_times y f xs some in let most = once f in omega arith
  | inr none ↦ omega arith
]

others_in : (y : List ℕ) (ys xs : List (List ℕ)) → ((f : List ℕ) → 0 < times f xs → 0 < times f (y ∷ ys)) → (f : List ℕ) → 0 < times f (others y xs)
    → 0 < times f ys
others_in y ys xs into f some =
    let apart = not-true (is_same y f) (other_than y f xs some) in
    let there : times f (y ∷ ys) ≡ times f ys = times_there f y ys (differ f y (λ same. both_ways (is_same y f) apart (same_true y f (sym same)))) in
    subst (λ (n : ℕ). 0 < n) there (into f (subst (λ (n : ℕ). 0 < n) (other_times y f xs some) some))

length_others : (y : List ℕ) (xs : List (List ℕ)) → times y xs ≤ 1 → length xs ≤ 1 + length (others y xs)
length_others y xs once =
    let both = length-filter_both (is_same y) (λ x. not (is_same y x)) (λ x. refl) xs in
    let of_y : length (filter (is_same y) xs) ≡ times y xs = length-filter (is_same y) xs in
    omega arith

pub fewer : (ys xs : List (List ℕ)) → ((f : List ℕ) → times f xs ≤ 1) → ((f : List ℕ) → 0 < times f xs → 0 < times f ys) → length xs ≤ length ys
fewer [] [] once into = omega arith
fewer [] (x ∷ xs) once into =
    let here = times_here x xs in
    let none : 0 < times x [] = into x (omega arith) in
    absurd (omega arith)
fewer (y ∷ ys) xs once into =
    let most = length_others y xs (once y) in
    let rest = fewer ys (others y xs) (others_once y xs once) (others_in y ys xs into) in
    omega arith
