-- The ids of one size in a list of pairs, and a push and a pop on such a list.
use Rattle.std.proofs.Common.{◌≡◌, ◌≢◌, ◌∙◌, ap, ap₂, refl, sym, subst, ℕ, zero, suc, ◌<◌, ◌≤◌, ◌==◌, ◌⊎◌, inl, inr, List, [], ◌∷◌, ◌++◌, length, map, filter}
use Rattle.std.proofs.Common.{get_or, set, cond, All, Some, None, arith}
use Rattle.std.proofs.lemmas.List.{get_or-set_same, get_or-set_other, map-append, append-nil}
use Rattle.std.proofs.lemmas.List.Elements.{filter-append, All-cons}
use Rattle.std.proofs.lemmas.Bool.{cases_lt, eq-eqb}
use Rattle.std.proofs.lemmas.Bool.Decides.{eqb_tells}
use Rattle.frontier_core.specs.Held.{HeldIds, ids_of, pushed, first_id, without_first_id, first_of_least, without_first_of_least}
use Rattle.frontier_core.specs.Order.{SizedId, sized, of_size, IsOrderOf, TakesFirstOfLeast, PopsLeast}
use Rattle.frontier_core.specs.Run.{first_place}

pub of_size-append : (s : ℕ) (ps qs : List SizedId) → of_size s (ps ++ qs) ≡ of_size s ps ++ of_size s qs
of_size-append s ps qs =
    let test = λ (p : SizedId). p.size == s in
    ap (map (λ (p : SizedId). p.id)) (filter-append test ps qs) ∙ map-append (λ (p : SizedId). p.id) (filter test ps) (filter test qs)

pub of_size_here : (s : ℕ) (p : SizedId) (ps : List SizedId) → p.size ≡ s → of_size s (p ∷ ps) ≡ p.id ∷ of_size s ps
of_size_here s p ps same = ap (λ t. map (λ (r : SizedId). r.id)
    (cond t (p ∷ filter (λ (r : SizedId). r.size == s) ps) (filter (λ (r : SizedId). r.size == s) ps))) (eq-eqb p.size s same)

pub of_size_other : (s : ℕ) (p : SizedId) (ps : List SizedId) → p.size ≢ s → of_size s (p ∷ ps) ≡ of_size s ps
of_size_other s p ps other = elim (eqb_tells p.size s) [
  | inl same ↦ absurd (other same.1)
  | inr tells ↦ ap (λ t. map (λ (r : SizedId). r.id) (cond t (p ∷ filter (λ (r : SizedId). r.size == s) ps) (filter (λ (r : SizedId). r.size == s) ps))) tells.0
]

-- a push on the ids of each size
pub ids_of_pushed : (held : HeldIds) (id size s : ℕ) → size < length held.by_size
    → ids_of (pushed held id size) s ≡ ids_of held s ++ of_size s (sized id size ∷ [])
ids_of_pushed held id size s within = elim (eqb_tells size s) [
  | inl same ↦ ap (ids_of (pushed held id size)) (sym same.1) ∙ get_or-set_same held.by_size size (ids_of held size ++ id ∷ []) [] within
      ∙ ap₂ (λ xs ys. xs ++ ys) (ap (ids_of held) same.1) (sym (of_size_here s (sized id size) [] same.1))
  | inr other ↦ get_or-set_other held.by_size size s (ids_of held size ++ id ∷ []) [] (λ e. other.1 (sym e)) ∙ sym (append-nil (ids_of held s))
      ∙ ap (λ xs. ids_of held s ++ xs) (sym (of_size_other s (sized id size) [] other.1))
]

pub order_pushed : (order : List SizedId) (held : HeldIds) (id size : ℕ) → size < length held.by_size → IsOrderOf order held
    → IsOrderOf (order ++ sized id size ∷ []) (pushed held id size)
order_pushed order held id size within is s =
    ids_of_pushed held id size s within ∙ ap (λ xs. xs ++ of_size s (sized id size ∷ [])) (is s) ∙ sym (of_size-append s order (sized id size ∷ []))

-- where the first id of all lists stands
pub record FoundAt (lists : List (List ℕ)) : Type 0 where
  pub id : ℕ
  pub ids : List ℕ
  pub here : get_or lists (first_place lists) [] ≡ id ∷ ids
  pub none_before : (t : ℕ) → t < first_place lists → get_or lists t [] ≡ []
  pub first : first_id lists ≡ Some id
  pub rest : without_first_id lists ≡ set lists (first_place lists) ids
  pub within : first_place lists < length lists

pub record NoneFound (lists : List (List ℕ)) : Type 0 where
  pub empty : (t : ℕ) → get_or lists t [] ≡ []
  pub none : first_id lists ≡ None
  pub same : without_first_id lists ≡ lists

pub found_where : (lists : List (List ℕ)) → NoneFound lists ⊎ FoundAt lists
found_where [] = inl (record { empty = λ t. refl; none = refl; same = refl })
found_where ((id ∷ ids) ∷ greater) = inr (record {
  id = id;
  ids = ids;
  here = refl;
  none_before = λ t lt. absurd (omega (arith, lt));
  first = refl;
  rest = refl;
  within = omega arith;
})
found_where ([] ∷ greater) = elim (found_where greater) [
  | inl none ↦ inl (record { empty = λ t. empty_at none t; none = none.none; same = ap (λ more. [] ∷ more) none.same })
  | inr found ↦ inr (record {
    id = found.id;
    ids = found.ids;
    here = found.here;
    none_before = λ t lt. none_at found t lt;
    first = found.first;
    rest = ap (λ more. [] ∷ more) found.rest;
    within = omega (arith, found.within);
  })
]
  where
    empty_at : NoneFound greater → (t : ℕ) → get_or ([] ∷ greater) t [] ≡ []
    empty_at none zero = refl
    empty_at none (suc t) = none.empty t

    none_at : FoundAt greater → (t : ℕ) → t < suc (first_place greater) → get_or ([] ∷ greater) t [] ≡ []
    none_at found zero lt = refl
    none_at found (suc t) lt = found.none_before t (omega (arith, lt))

-- a pop on the ids of each size
pub ids_of_popped : (held : HeldIds) (found : FoundAt held.by_size) (s : ℕ)
    → ids_of held s ≡ of_size s (sized found.id (first_place held.by_size) ∷ []) ++ ids_of (without_first_of_least held) s
ids_of_popped held found s =
    let place = first_place held.by_size in
    elim (eqb_tells place s) [
      | inl same ↦ ap (ids_of held) (sym same.1) ∙ found.here
          ∙ ap₂ (λ xs ys. xs ++ ys) (sym (of_size_here s (sized found.id place) [] same.1))
          (sym (ap (λ xss. get_or xss s []) found.rest ∙ ap (λ k. get_or (set held.by_size place found.ids) k []) (sym same.1)
          ∙ get_or-set_same held.by_size place found.ids [] found.within))
      | inr other ↦ sym (ap (λ xs. xs ++ ids_of (without_first_of_least held) s) (of_size_other s (sized found.id place) [] other.1)
          ∙ ap (λ xss. get_or xss s []) found.rest ∙ get_or-set_other held.by_size place s found.ids [] (λ e. other.1 (sym e)))
    ]

-- with no id of a lesser size, all are of that size at least
none_less : (s : ℕ) (ps : List SizedId) → ((t : ℕ) → t < s → of_size t ps ≡ []) → All (λ (p : SizedId). s ≤ p.size) ps
none_less s [] none = λ k d lt. absurd (omega (arith, lt))
none_less s (p ∷ ps) none = elim (cases_lt p.size s) [
  | inl lt ↦ absurd (impossible (sym (of_size_here p.size p ps refl) ∙ none p.size lt))
  | inr ge ↦ All-cons (λ (r : SizedId). s ≤ r.size) p ps ge (none_less s ps
      (λ t lt. sym (of_size_other t p ps (λ e. absurd (omega (arith, e, ge, lt)))) ∙ none t lt))
]
  where
    impossible : p.id ∷ of_size p.size ps ≡ [] → ⊥
    impossible e = cc

-- the list before and behind the first id of the least size
record Split (s id : ℕ) (ids : List ℕ) (order : List SizedId) : Type 0 where
  before : List SizedId
  after : List SizedId
  stood : order ≡ before ++ sized id s ∷ after
  greater : All (λ (p : SizedId). s < p.size) before
  at_least : All (λ (p : SizedId). s ≤ p.size) after
  none : of_size s before ≡ []
  rest : of_size s after ≡ ids

heads : (a b : ℕ) (xs ys : List ℕ) → a ∷ xs ≡ b ∷ ys → (a ≡ b) × (xs ≡ ys)
heads a b xs ys e = (cc, cc)

split : (s id : ℕ) (ids : List ℕ) (order : List SizedId) → of_size s order ≡ id ∷ ids → ((t : ℕ) → t < s → of_size t order ≡ []) → Split s id ids order
split s id ids [] is none = cc
split s id ids (p ∷ ps) is none = elim (eqb_tells p.size s) [
  | inl same ↦
      let parts = heads p.id id (of_size s ps) ids (sym (of_size_here s p ps same.1) ∙ is) in
      record {
        before = [];
        after = ps;
        stood = ap (λ (r : SizedId). r ∷ ps) (ap₂ sized parts.0 same.1);
        greater = λ k d lt. absurd (omega (arith, lt));
        at_least = none_less s ps (λ t lt. sym (of_size_other t p ps (λ e. absurd (omega (arith, e, same.1, lt)))) ∙ none t lt);
        none = refl;
        rest = parts.1;
      }
  | inr other ↦
      let more = split s id ids ps (sym (of_size_other s p ps other.1) ∙ is) (λ t lt. rest_none t lt) in
      record {
        before = p ∷ more.before;
        after = more.after;
        stood = ap (λ rs. p ∷ rs) more.stood;
        greater = All-cons (λ (r : SizedId). s < r.size) p more.before (above other.1) more.greater;
        at_least = more.at_least;
        none = of_size_other s p more.before other.1 ∙ more.none;
        rest = more.rest;
      }
]
  where
    above : p.size ≢ s → s < p.size
    above other = omega (arith, other, none_less s (p ∷ ps) none 0 p (omega arith))

    rest_none : (t : ℕ) → t < s → of_size t ps ≡ []
    rest_none t lt = sym (of_size_other t p ps (λ e. absurd (omega (arith, e, lt, none_less s (p ∷ ps) none 0 p (omega arith))))) ∙ none t lt

-- a pop on a list of pairs
pub order_popped : (order : List SizedId) (held : HeldIds) → IsOrderOf order held → PopsLeast order (first_of_least held) (without_first_of_least held)
order_popped order held is = elim (found_where held.by_size) [
  | inl none ↦ subst (λ o. PopsLeast order o (without_first_of_least held)) (sym none.none)
      (no_pairs order (λ t. sym (is t) ∙ none.empty t), λ t. ap (λ xss. get_or xss t []) none.same ∙ none.empty t)
  | inr found ↦ subst (λ o. PopsLeast order o (without_first_of_least held)) (sym found.first) (taken found)
]
  where
    no_pairs : (ps : List SizedId) → ((t : ℕ) → of_size t ps ≡ []) → ps ≡ []
    no_pairs [] none = refl
    no_pairs (p ∷ ps) none = let some = sym (of_size_here p.size p ps refl) ∙ none p.size in cc

    taken : (found : FoundAt held.by_size) → TakesFirstOfLeast order found.id (without_first_of_least held)
    taken found =
        let s = first_place held.by_size in
        let parts : Split s found.id found.ids order =
        split s found.id found.ids order (sym (is s) ∙ found.here) (λ t lt. sym (is t) ∙ found.none_before t lt) in
        record {
          before = parts.before;
          size = s;
          after = parts.after;
          stood = parts.stood;
          greater_before = parts.greater;
          none_less_after = parts.at_least;
          others_left = left found parts;
        }
      where
        left : (found : FoundAt held.by_size) (parts : Split (first_place held.by_size) found.id found.ids order)
            → IsOrderOf (parts.before ++ parts.after) (without_first_of_least held)
        left found parts t = elim (eqb_tells (first_place held.by_size) t) [
          | inl same ↦
              ap (λ xss. get_or xss t []) found.rest ∙ ap (λ k. get_or (set held.by_size (first_place held.by_size) found.ids) k []) (sym same.1)
              ∙ get_or-set_same held.by_size (first_place held.by_size) found.ids [] found.within
              ∙ sym (ap₂ (λ xs ys. xs ++ ys) parts.none parts.rest) ∙ sym (of_size-append (first_place held.by_size) parts.before parts.after)
              ∙ ap (λ k. of_size k (parts.before ++ parts.after)) same.1
          | inr other ↦
              ap (λ xss. get_or xss t []) found.rest ∙ get_or-set_other held.by_size (first_place held.by_size) t found.ids [] (λ e. other.1 (sym e))
              ∙ is t ∙ ap (of_size t) parts.stood ∙ of_size-append t parts.before (sized found.id (first_place held.by_size) ∷ parts.after)
              ∙ ap (λ xs. of_size t parts.before ++ xs) (of_size_other t (sized found.id (first_place held.by_size)) parts.after other.1)
              ∙ sym (of_size-append t parts.before parts.after)
        ]
