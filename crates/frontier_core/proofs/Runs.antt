-- What every run of pushes and pops keeps.
use Rattle.std.proofs.Common.{◌≡◌, ◌∙◌, ap, ap₂, refl, sym, subst, ℕ, zero, suc, ◌+◌, ◌<◌, inl, inr, List, [], ◌∷◌, ◌++◌, length, map, get_or, set, Some, None}
use Rattle.std.proofs.Common.{IsPermutation, fold, replicate, arith}
use Rattle.std.proofs.lemmas.List.{append_assoc, length-set, map-append, get_or-replicate, get_or_past, append-nil}
use Rattle.std.proofs.lemmas.List.Sorted.{IsPermutation-refl, IsPermutation-sym, IsPermutation-trans, IsPermutation-middle, IsPermutation-append_right}
use Rattle.std.proofs.lemmas.List.Sorted.{IsPermutation-push_more}
use Rattle.std.proofs.lemmas.Simd.{length-replicate}
use Rattle.std.proofs.lemmas.Bool.{cases_lt}
use Rattle.frontier_core.specs.declared.sizes.TheConstants.{SIZES}
use Rattle.frontier_core.specs.Held.{ids_of, empty, pushed, first_of_least, without_first_of_least, first_id, without_first_id}
use Rattle.frontier_core.specs.Order.{SizedId, sized, of_size}
use Rattle.frontier_core.specs.Run.{Event, Push, Pop, Run, first_place, after_pop, after_event, run, SizesFit, listed_from, all_held}
use Rattle.frontier_core.proofs.Orders.{of_size-append, ids_of_pushed, ids_of_popped, FoundAt, found_where}

pub record Kept (r : Run) : Type 0 where
  pub sizes : length r.held.by_size ≡ SIZES
  pub together : IsPermutation r.went_in (r.came_out ++ all_held r.held)
  pub in_order : (size : ℕ) → of_size size r.went_in ≡ of_size size r.came_out ++ ids_of r.held size

-- a push adds one pair
listed_pushed : (from : ℕ) (lists : List (List ℕ)) (s id : ℕ) → s < length lists
    → IsPermutation (sized id (from + s) ∷ listed_from from lists) (listed_from from (set lists s (get_or lists s [] ++ id ∷ [])))
listed_pushed from [] s id within = absurd (omega (arith, within))
listed_pushed from (ids ∷ greater) zero id within =
    let front = map (λ i. sized i from) ids in
    let behind = listed_from (suc from) greater in
    let place : from + 0 ≡ from = omega arith in
    let same : front ++ sized id (from + 0) ∷ behind ≡ map (λ i. sized i from) (ids ++ id ∷ []) ++ behind =
    ap (λ k. front ++ sized id k ∷ behind) place ∙ sym (append_assoc front (sized id from ∷ []) behind)
    ∙ ap (λ ps. ps ++ behind) (sym (map-append (λ i. sized i from) ids (id ∷ []))) in
    subst (IsPermutation (sized id (from + 0) ∷ (front ++ behind))) same (IsPermutation-sym _ _ (IsPermutation-middle front (sized id (from + 0)) behind))
listed_pushed from (ids ∷ greater) (suc s) id within =
    let front = map (λ i. sized i from) ids in
    let place : suc from + s ≡ from + suc s = omega arith in
    let more = listed_pushed (suc from) greater s id (omega arith) in
    let moved = IsPermutation-trans _ _ _ (IsPermutation-sym _ _ (IsPermutation-middle front (sized id (suc from + s)) (listed_from (suc from) greater)))
    (IsPermutation-append_right front _ _ more) in
    subst (λ k. IsPermutation (sized id k ∷ (front ++ listed_from (suc from) greater))
    (front ++ listed_from (suc from) (set greater s (get_or greater s [] ++ id ∷ [])))) place moved

-- a pop takes the first pair
listed_popped : (from : ℕ) (lists : List (List ℕ)) (id : ℕ) → first_id lists ≡ Some id
    → listed_from from lists ≡ sized id (from + first_place lists) ∷ listed_from from (without_first_id lists)
listed_popped from [] id is = cc
listed_popped from ((x ∷ xs) ∷ greater) id is =
    let same : x ≡ id = cc in
    let place : from ≡ from + 0 = omega arith in
    ap (λ (p : SizedId). p ∷ (map (λ i. sized i from) xs ++ listed_from (suc from) greater)) (ap₂ sized same place)
listed_popped from ([] ∷ greater) id is =
    let place : suc from + first_place greater ≡ from + suc (first_place greater) = omega arith in
    listed_popped (suc from) greater id is ∙ ap (λ k. sized id k ∷ listed_from (suc from) (without_first_id greater)) place

listed_none : (from : ℕ) (lists : List (List ℕ)) → first_id lists ≡ None → listed_from from lists ≡ []
listed_none from [] is = refl
listed_none from ((x ∷ xs) ∷ greater) is = cc
listed_none from ([] ∷ greater) is = listed_none (suc from) greater is

kept_push : (r : Run) (id size : ℕ) → size < SIZES → Kept r → Kept (after_event r (Push id size))
kept_push r id size fits kept =
    let within : size < length r.held.by_size = omega (arith, kept.sizes, fits) in
    let pair = sized id size in
    let from_0 : 0 + size ≡ size = omega arith in
    let one_more : IsPermutation (pair ∷ all_held r.held) (all_held (pushed r.held id size)) =
    subst (λ k. IsPermutation (sized id k ∷ all_held r.held) (all_held (pushed r.held id size))) from_0 (listed_pushed 0 r.held.by_size size id within) in
    record {
      sizes = length-set r.held.by_size size (ids_of r.held size ++ id ∷ []) ∙ kept.sizes;
      together = IsPermutation-push_more r.went_in (r.came_out ++ all_held r.held) (r.came_out ++ all_held (pushed r.held id size)) pair kept.together
          (IsPermutation-trans _ _ _ (IsPermutation-sym _ _ (IsPermutation-middle r.came_out pair (all_held r.held)))
          (IsPermutation-append_right r.came_out _ _ one_more));
      in_order = λ s. of_size-append s r.went_in (pair ∷ []) ∙ ap (λ xs. xs ++ of_size s (pair ∷ [])) (kept.in_order s)
          ∙ append_assoc (of_size s r.came_out) (ids_of r.held s) (of_size s (pair ∷ []))
          ∙ ap (λ xs. of_size s r.came_out ++ xs) (sym (ids_of_pushed r.held id size s within));
    }

kept_pop : (r : Run) → Kept r → Kept (after_event r Pop)
kept_pop r kept = elim (found_where r.held.by_size) [
  | inl none ↦ subst (λ o. Kept (after_pop r o)) (sym none.none) kept
  | inr found ↦ subst (λ o. Kept (after_pop r o)) (sym found.first) (taken found)
]
  where
    taken : (found : FoundAt r.held.by_size) → Kept (after_pop r (Some found.id))
    taken found =
        let pair = sized found.id (first_place r.held.by_size) in
        let new = without_first_of_least r.held in
        let from_0 : 0 + first_place r.held.by_size ≡ first_place r.held.by_size = omega arith in
        record {
          sizes = ap length found.rest ∙ length-set r.held.by_size (first_place r.held.by_size) found.ids ∙ kept.sizes;
          together = subst (IsPermutation r.went_in) (ap (λ ps. r.came_out ++ ps) (listed_popped 0 r.held.by_size found.id found.first)
              ∙ ap (λ k. r.came_out ++ sized found.id k ∷ all_held new) from_0 ∙ sym (append_assoc r.came_out (pair ∷ []) (all_held new))) kept.together;
          in_order = λ s. kept.in_order s ∙ ap (λ xs. of_size s r.came_out ++ xs) (ids_of_popped r.held found s)
              ∙ sym (append_assoc (of_size s r.came_out) (of_size s (pair ∷ [])) (ids_of new s))
              ∙ ap (λ xs. xs ++ ids_of new s) (sym (of_size-append s r.came_out (pair ∷ [])));
        }

kept_all : (events : List Event) (r : Run) → SizesFit events → Kept r → Kept (fold after_event r events)
kept_all [] r fit kept = kept
kept_all (Push id size ∷ events) r fit kept = kept_all events (after_event r (Push id size)) fit.1 (kept_push r id size fit.0 kept)
kept_all (Pop ∷ events) r fit kept = kept_all events (after_event r Pop) fit (kept_pop r kept)

-- the lists of an empty frontier
none_listed : (from n : ℕ) → listed_from from (replicate n []) ≡ []
none_listed from zero = refl
none_listed from (suc n) = none_listed (suc from) n

none_of : (n s : ℕ) → get_or (replicate {A = List ℕ} n []) s [] ≡ []
none_of n s = elim (cases_lt s n) [
  | inl lt ↦ get_or-replicate n s [] [] lt
  | inr ge ↦ get_or_past (replicate n []) s [] (omega (arith, length-replicate {A = List ℕ} n []))
]

pub kept : (capacity : ℕ) (events : List Event) → SizesFit events → Kept (run capacity events)
kept capacity events fit = kept_all events (record { held = empty capacity; went_in = []; came_out = [] }) fit (record {
  sizes = length-replicate {A = List ℕ} SIZES [];
  together = subst (IsPermutation []) (sym (none_listed 0 SIZES)) (IsPermutation-refl []);
  in_order = λ size. sym (none_of SIZES size);
})

pub drained : (r : Run) → Kept r → first_of_least r.held ≡ None → IsPermutation r.went_in r.came_out
drained r kept none = subst (IsPermutation r.went_in) (ap (λ ps. r.came_out ++ ps) (listed_none 0 r.held.by_size none) ∙ append-nil r.came_out) kept.together
