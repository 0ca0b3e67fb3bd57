-- Lists of candidates that are made longer.
use Rattle.std.proofs.Common.{◌≡◌, ◌<◌, ◌+◌, ◌-◌, ◌∷◌, ◌++◌, ◌∙◌, [], ℕ, suc, List, Bool, true, false, cond, filter, map, take, get_or}
use Rattle.std.proofs.Common.{length, arith, sym, ap, ap₂, subst, append_assoc}
use Rattle.std.specs.List.{range_with_len, flat_map}
use Rattle.std.proofs.lemmas.List.{append-nil, map-append, take_more}
use Rattle.std.proofs.lemmas.List.Elements.{filter-append}
use Rattle.grid_core.proofs.OneEach.{range_more}
use Rattle.grid_core.specs.Diagram.{Diagram}
use Rattle.grid_moves.specs.declared.step.Move.{Move}
use Rattle.next_moves.proofs.Extended.{map_range_more, flat_map_range_more}
use Rattle.search_jobs.specs.declared.candidates.Candidate.{Candidate}
use Rattle.search_jobs.specs.Candidates.{is_candidate}
use Rattle.search_jobs.specs.Listed.{Adds, steps_of}

pub adds_none : (d : Diagram) (a : List Candidate) → Adds d [] a a
adds_none d a = sym (append-nil (steps_of a))

filtered_then : (p : Move → Bool) (s t xs ys zs : List Move) → ys ≡ xs ++ filter p s → zs ≡ ys ++ filter p t → zs ≡ xs ++ filter p (s ++ t)
filtered_then p s t xs ys zs one two =
    two ∙ ap (λ ws. ws ++ filter p t) one ∙ append_assoc xs (filter p s) (filter p t) ∙ ap (λ ws. xs ++ ws) (sym (filter-append p s t))

pub adds_then : (d : Diagram) (s t : List Move) (a b c : List Candidate) → Adds d s a b → Adds d t b c → Adds d (s ++ t) a c
adds_then d s t a b c one two = filtered_then (is_candidate d) s t (steps_of a) (steps_of b) (steps_of c) one two

-- one move, which is a candidate or not
filtered_one : (p : Move → Bool) (move : Move) (b : Bool) → p move ≡ b → filter p (move ∷ []) ≡ cond b (move ∷ []) []
filtered_one p move b is = ap (λ t. cond t (move ∷ []) []) is

pub adds_one : (d : Diagram) (move : Move) (a : List Candidate) → is_candidate d move ≡ true → Adds d (move ∷ []) a (a ++ (record { step = move }) ∷ [])
adds_one d move a is =
    map-append (λ (c : Candidate). c.step) a ((record { step = move }) ∷ []) ∙ ap (λ ws. steps_of a ++ ws) (sym (filtered_one (is_candidate d) move true is))

pub adds_skipped : (d : Diagram) (move : Move) (a : List Candidate) → is_candidate d move ≡ false → Adds d (move ∷ []) a a
adds_skipped d move a is = sym (append-nil (steps_of a)) ∙ ap (λ ws. steps_of a ++ ws) (sym (filtered_one (is_candidate d) move false is))

-- one more of a kind, counted from 0
pub adds_more : (d : Diagram) (f : ℕ → Move) (n : ℕ) (a b c : List Candidate) → Adds d (map f (range_with_len 0 n)) a b → Adds d (f n ∷ []) b c
    → Adds d (map f (range_with_len 0 (n + 1))) a c
adds_more d f n a b c one two = subst (λ s. Adds d s a c) (sym (map_range_more f n)) (adds_then d (map f (range_with_len 0 n)) (f n ∷ []) a b c one two)

pub adds_flat_more : (d : Diagram) (f : ℕ → List Move) (n : ℕ) (a b c : List Candidate) → Adds d (flat_map f (range_with_len 0 n)) a b
    → Adds d (f n) b c → Adds d (flat_map f (range_with_len 0 (n + 1))) a c
adds_flat_more d f n a b c one two =
    subst (λ s. Adds d s a c) (sym (flat_map_range_more f n)) (adds_then d (flat_map f (range_with_len 0 n)) (f n) a b c one two)

-- and counted from 1
range_from_one : (n m : ℕ) → n ≡ m + 1 → range_with_len 1 (n + 1 - 1) ≡ range_with_len 1 (n - 1) ++ n ∷ []
range_from_one n m e =
    let all : n + 1 - 1 ≡ suc m = omega (arith, e) in
    let most : m ≡ n - 1 = omega (arith, e) in
    let last : 1 + m ≡ n = omega (arith, e) in
    ap (λ (z : ℕ). range_with_len 1 z) all ∙ range_more m 1 ∙ ap₂ (λ (k z : ℕ). range_with_len 1 k ++ z ∷ []) most last

pub adds_more_from_one : (d : Diagram) (f : ℕ → Move) (n : ℕ) (a b c : List Candidate) → 0 < n → Adds d (map f (range_with_len 1 (n - 1))) a b
    → Adds d (f n ∷ []) b c → Adds d (map f (range_with_len 1 (n + 1 - 1))) a c
adds_more_from_one d f n a b c lt one two =
    subst (λ s. Adds d s a c) (sym (ap (λ zs. map f zs) (range_from_one n (n - 1) (omega (arith, lt))) ∙ map-append f (range_with_len 1 (n - 1)) (n ∷ [])))
    (adds_then d (map f (range_with_len 1 (n - 1))) (f n ∷ []) a b c one two)

-- one more of a list
pub adds_taken : {A : Type 0} (d : Diagram) (f : A → Move) (xs : List A) (i : ℕ) (x : A) (a b c : List Candidate) → i < length xs → get_or xs i x ≡ x
    → Adds d (map f (take i xs)) a b → Adds d (f x ∷ []) b c → Adds d (map f (take (i + 1) xs)) a c
adds_taken d f xs i x a b c lt is one two =
    subst (λ s. Adds d s a c) (sym (ap (λ ys. map f ys) (take_more xs i x lt) ∙ map-append f (take i xs) (get_or xs i x ∷ [])
    ∙ ap (λ y. map f (take i xs) ++ f y ∷ []) is))
    (adds_then d (map f (take i xs)) (f x ∷ []) a b c one two)
