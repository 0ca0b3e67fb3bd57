-- The filtered list of all lists of colours is the complete list of colourings.
use Rattle.std.proofs.Common.{◌≡◌, ◌≢◌, ◌∙◌, ◌<◌, ◌≤◌, ◌+◌, ◌++◌, ℕ, zero, suc, List, [], ◌∷◌, map, length, ap, sym, refl, arith, inl, inr, subst}
use Rattle.std.specs.Prelude.{Bool, true, ◌⊎◌}
use Rattle.std.specs.List.{All, range_with_len, flat_map, filter}
use Rattle.std.proofs.lemmas.Bool.{cases_Bool, cases_eq, cond-true, cond-false, false≢true}
use Rattle.grid_core.specs.Diagram.{Diagram, size}
use Rattle.quandle_core.specs.Quandle.{Table}
use Rattle.quandle_core.proofs.Lengths.{IsOneOf, AreDistinct, IsListing}
use Rattle.colour_rows.specs.Colouring.{IsColouring, is_colouring}
use Rattle.colour_rows.proofs.Colourings.{coloured, colouring}
use Rattle.colour_list.specs.Listing.{all_lists, colourings}

one_left : (c : List ℕ) (cs ds : List (List ℕ)) → IsOneOf c cs → IsOneOf c (cs ++ ds)
one_left c [] ds one = absurd one
one_left c (b ∷ cs) ds one = elim one [ inl e ↦ inl e | inr h ↦ inr (one_left c cs ds h) ]

one_right : (c : List ℕ) (cs ds : List (List ℕ)) → IsOneOf c ds → IsOneOf c (cs ++ ds)
one_right c [] ds one = one
one_right c (b ∷ cs) ds one = inr (one_right c cs ds one)

one_either : (c : List ℕ) (cs ds : List (List ℕ)) → IsOneOf c (cs ++ ds) → IsOneOf c cs ⊎ IsOneOf c ds
one_either c [] ds one = inr one
one_either c (b ∷ cs) ds one = elim one [ inl e ↦ inl (inl e) | inr h ↦ elim (one_either c cs ds h) [ inl k ↦ inl (inr k) | inr k ↦ inr k ] ]

distinct_append : (cs ds : List (List ℕ)) → AreDistinct cs → AreDistinct ds → ((c : List ℕ) → IsOneOf c cs → IsOneOf c ds → ⊥) → AreDistinct (cs ++ ds)
distinct_append [] ds first second apart = second
distinct_append (c ∷ cs) ds first second apart = (
  λ one. elim (one_either c cs ds one) [ inl h ↦ first.0 h | inr h ↦ apart c (inl refl) h ],
  distinct_append cs ds first.1 second (λ b one two. apart b (inr one) two),
)

-- the lists with one number in front
front_in : (a : ℕ) (c : List ℕ) (ds : List (List ℕ)) → IsOneOf c ds → IsOneOf (a ∷ c) (map (λ rest. a ∷ rest) ds)
front_in a c [] one = absurd one
front_in a c (d ∷ ds) one = elim one [ inl e ↦ inl (ap (λ l. a ∷ l) e) | inr h ↦ inr (front_in a c ds h) ]

front_out : (a : ℕ) (c : List ℕ) (ds : List (List ℕ)) → IsOneOf c (map (λ rest. a ∷ rest) ds) → (d : List ℕ) × IsOneOf d ds × (c ≡ a ∷ d)
front_out a c [] one = absurd one
front_out a c (d ∷ ds) one = elim one [
  | inl e ↦ (d, inl refl, e)
  | inr h ↦ let more = front_out a c ds h in (more.0, inr more.1, more.2)
]

front_distinct : (a : ℕ) (ds : List (List ℕ)) → AreDistinct ds → AreDistinct (map (λ rest. a ∷ rest) ds)
front_distinct a [] distinct = tt
front_distinct a (d ∷ ds) distinct = (
  λ one.
      let from = front_out a (a ∷ d) ds one in
      let is : a ∷ d ≡ a ∷ from.0 = from.2 in
      let same : d ≡ from.0 = cc in
      distinct.0 (subst (λ (w : List ℕ). IsOneOf w ds) (sym same) from.1),
  front_distinct a ds distinct.1,
)

-- the lists with any of the numbers from a on in front
abbrev fronts : List (List ℕ) → ℕ → ℕ → List (List ℕ)
fronts ds a m = flat_map (λ a. map (λ rest. a ∷ rest) ds) (range_with_len a m)

fronts_in : (ds : List (List ℕ)) (a m h : ℕ) (c : List ℕ) → a ≤ h → h < a + m → IsOneOf c ds → IsOneOf (h ∷ c) (fronts ds a m)
fronts_in ds a zero h c low high one = absurd (omega arith)
fronts_in ds a (suc m) h c low high one = elim (cases_eq a h) [
  | inl e ↦ one_left (h ∷ c) (map (λ rest. a ∷ rest) ds) (fronts ds (a + 1) m)
      (subst (λ (b : ℕ). IsOneOf (b ∷ c) (map (λ rest. a ∷ rest) ds)) e (front_in a c ds one))
  | inr n ↦ one_right (h ∷ c) (map (λ rest. a ∷ rest) ds) (fronts ds (a + 1) m) (fronts_in ds (a + 1) m h c (above a h low n) (omega arith) one)
]
  where
    above : (a h : ℕ) → a ≤ h → a ≢ h → a + 1 ≤ h
    above a h low n = grind (arith, low, n)

fronts_out : (ds : List (List ℕ)) (a m : ℕ) (c : List ℕ) → IsOneOf c (fronts ds a m)
    → (h : ℕ) × (d : List ℕ) × (a ≤ h) × (h < a + m) × IsOneOf d ds × (c ≡ h ∷ d)
fronts_out ds a zero c one = absurd one
fronts_out ds a (suc m) c one = elim (one_either c (map (λ rest. a ∷ rest) ds) (fronts ds (a + 1) m) one) [
  | inl k ↦ let from = front_out a c ds k in (a, from.0, omega arith, omega arith, from.1, from.2)
  | inr k ↦ let more = fronts_out ds (a + 1) m c k in (more.0, more.1, omega (arith, more.2), omega (arith, more.3), more.4, more.5)
]

fronts_distinct : (ds : List (List ℕ)) (a m : ℕ) → AreDistinct ds → AreDistinct (fronts ds a m)
fronts_distinct ds a zero distinct = tt
fronts_distinct ds a (suc m) distinct =
    distinct_append (map (λ rest. a ∷ rest) ds) (fronts ds (a + 1) m) (front_distinct a ds distinct) (fronts_distinct ds (a + 1) m distinct) (λ c one two.
    let first = front_out a c ds one in
    let second = fronts_out ds (a + 1) m c two in
    let is : a ∷ first.0 ≡ second.0 ∷ second.1 = sym first.2 ∙ second.5 in
    let same : a ≡ second.0 = cc in
    omega (arith, same, second.2))

all_complete : (q n : ℕ) (c : List ℕ) → length c ≡ n → All (λ y. y < q) c → IsOneOf c (all_lists q n)
all_complete q zero [] size below = inl refl
all_complete q zero (y ∷ c) size below = absurd (omega (arith, size))
all_complete q (suc n) [] size below = absurd (omega (arith, size))
all_complete q (suc n) (y ∷ c) size below =
    let first : y < q = below 0 0 (omega arith) in
    fronts_in (all_lists q n) 0 q y c (omega arith) (omega arith) (all_complete q n c (omega (arith, size)) (λ k d lt. below (suc k) d (omega arith)))

all_distinct : (q n : ℕ) → AreDistinct (all_lists q n)
all_distinct q zero = (λ one. one, tt)
all_distinct q (suc n) = fronts_distinct (all_lists q n) 0 q (all_distinct q n)

-- what a filter keeps
pub kept_in : (test : List ℕ → Bool) (c : List ℕ) (ds : List (List ℕ)) → IsOneOf c ds → test c ≡ true → IsOneOf c (filter test ds)
kept_in test c [] one yes' = absurd one
kept_in test c (d ∷ ds) one yes' = elim (cases_Bool (test d)) [
  | inl e ↦ subst (IsOneOf c) (sym (cond-true (test d) (d ∷ filter test ds) (filter test ds) e)) (elim one [
    | inl h ↦ inl h
    | inr h ↦ inr (kept_in test c ds h yes')
  ])
  | inr e ↦ subst (IsOneOf c) (sym (cond-false (test d) (d ∷ filter test ds) (filter test ds) e)) (elim one [
    | inl h ↦ absurd (false≢true (sym e ∙ ap test (sym h) ∙ yes'))
    | inr h ↦ kept_in test c ds h yes'
  ])
]

pub kept_out : (test : List ℕ → Bool) (c : List ℕ) (ds : List (List ℕ)) → IsOneOf c (filter test ds) → IsOneOf c ds × (test c ≡ true)
kept_out test c [] one = absurd one
kept_out test c (d ∷ ds) one = elim (cases_Bool (test d)) [
  | inl e ↦ elim (subst (IsOneOf c) (cond-true (test d) (d ∷ filter test ds) (filter test ds) e) one) [
    | inl h ↦ (inl h, ap test h ∙ e)
    | inr h ↦ let more = kept_out test c ds h in (inr more.0, more.1)
  ]
  | inr e ↦ let more = kept_out test c ds (subst (IsOneOf c) (cond-false (test d) (d ∷ filter test ds) (filter test ds) e) one) in (inr more.0, more.1)
]

pub kept_distinct : (test : List ℕ → Bool) (ds : List (List ℕ)) → AreDistinct ds → AreDistinct (filter test ds)
kept_distinct test [] distinct = tt
kept_distinct test (d ∷ ds) distinct = elim (cases_Bool (test d)) [
  | inl e ↦ subst AreDistinct (sym (cond-true (test d) (d ∷ filter test ds) (filter test ds) e))
      (λ one. distinct.0 (kept_out test d ds one).0, kept_distinct test ds distinct.1)
  | inr e ↦ subst AreDistinct (sym (cond-false (test d) (d ∷ filter test ds) (filter test ds) e)) (kept_distinct test ds distinct.1)
]

-- the complete list
pub listing : (t : Table) (d : Diagram) → IsListing (IsColouring t d) (colourings t d)
listing t d = record {
  distinct = kept_distinct (is_colouring t d) (all_lists t.order (size d)) (all_distinct t.order (size d));
  sound = λ c one. coloured t d c (kept_out (is_colouring t d) c (all_lists t.order (size d)) one).1;
  complete = λ c colours.
      kept_in (is_colouring t d) c (all_lists t.order (size d)) (all_complete t.order (size d) c colours.colours_are.0 colours.colours_are.1)
      (colouring t d c colours);
}
