-- The least name that stands at other than two ends: there is none exactly where each name stands at two.
use Rattle.std.proofs.Common.{◌≡◌, ◌≢◌, ◌<◌, ◌≤◌, ◌⊎◌, ◌==◌, ◌∙◌, ◌∷◌, [], ℕ, zero, suc, Bool, true, false, List, Option, Some, None, cond, length}
use Rattle.std.proofs.Common.{refl, sym, subst, arith, inl, inr}
use Rattle.std.specs.Prelude.{slice_index, min, fold}
use Rattle.std.proofs.Math.Nat.{min-le_left, min-le_right, min-eq_left, min-eq_right}
use Rattle.std.proofs.lemmas.Bool.{eqb-true, eqb-false, cases_lt}
use Rattle.code_rows.specs.RowsFault.{ends_of, lesser, least_unpaired, IsLeastUnpaired}

-- the least so far, when one name more was seen
abbrev pub seen : List ℕ → Option ℕ → ℕ → Option ℕ
seen all least name = cond (ends_of all name == 2) least (lesser least name)

stays_by : (all xs : List ℕ) → ((m : ℕ) → fold (seen all) (Some m) xs ≡ None → ⊥) → (t : Bool) (m x : ℕ)
    → fold (seen all) (cond t (Some m) (Some (min m x))) xs ≡ None → ⊥
stays_by all xs stays true m x e = stays m e
stays_by all xs stays false m x e = stays (min m x) e

stays : (all xs : List ℕ) (m : ℕ) → fold (seen all) (Some m) xs ≡ None → ⊥
stays all [] m e = cc
stays all (x ∷ xs) m e = stays_by all xs (stays all xs) (ends_of all x == 2) m x e

paired_by : (all xs : List ℕ) (x : ℕ) (t : Bool) → (ends_of all x == 2) ≡ t → fold (seen all) (cond t None (Some x)) xs ≡ None
    → (ends_of all x ≡ 2) × (fold (seen all) None xs ≡ None)
paired_by all xs x true is e = (eqb-true (ends_of all x) 2 is, e)
paired_by all xs x false is e = absurd (stays all xs x e)

paired : (all xs : List ℕ) → fold (seen all) None xs ≡ None → (k : ℕ) → k < length xs → ends_of all (slice_index xs k) ≡ 2
paired all [] e k lt = absurd (omega (arith, lt))
paired all (x ∷ xs) e zero lt = (paired_by all xs x (ends_of all x == 2) refl e).0
paired all (x ∷ xs) e (suc k) lt = paired all xs (paired_by all xs x (ends_of all x == 2) refl e).1 k (omega (arith, lt))

pub all_paired : (all : List ℕ) → least_unpaired all ≡ None → (k : ℕ) → k < length all → ends_of all (slice_index all k) ≡ 2
all_paired all e = paired all all e

-- what a name that is told is: unpaired, in the list, and the least such
record Stands (all xs : List ℕ) (name : ℕ) : Type 0 where
  place : ℕ
  within : place < length xs
  is : slice_index xs place ≡ name
  unpaired : ends_of all name ≢ 2

abbrev IsLeast : List ℕ → List ℕ → ℕ → Type 0
IsLeast all xs name = (k : ℕ) → k < length xs → ends_of all (slice_index xs k) ≢ 2 → name ≤ slice_index xs k

one_before : (all xs : List ℕ) (x name : ℕ) → Stands all xs name → Stands all (x ∷ xs) name
one_before all xs x name s = record { place = suc s.place; within = let lt = s.within in omega arith; is = s.is; unpaired = s.unpaired }

least_before : (all xs : List ℕ) (x name : ℕ) → IsLeast all xs name → (ends_of all x ≢ 2 → name ≤ x) → IsLeast all (x ∷ xs) name
least_before all xs x name rest here zero lt ne = here ne
least_before all xs x name rest here (suc k) lt ne = rest k (omega (arith, lt)) ne

-- from a least name m so far
record IsTold (all xs : List ℕ) (m name : ℕ) : Type 0 where
  low : name ≤ m
  from : (name ≡ m) ⊎ Stands all xs name
  least : IsLeast all xs name

told_by : (all xs : List ℕ) (x m name : ℕ) → ((b : ℕ) → fold (seen all) (Some b) xs ≡ Some name → IsTold all xs b name)
    → (t : Bool) → (ends_of all x == 2) ≡ t → fold (seen all) (cond t (Some m) (Some (min m x))) xs ≡ Some name → IsTold all (x ∷ xs) m name
told_by all xs x m name rest true is e =
    let old = rest m e in
    record {
      low = old.low;
      from = elim old.from [ inl same ↦ inl same | inr stands ↦ inr (one_before all xs x name stands) ];
      least = least_before all xs x name old.least (λ ne. absurd (ne (eqb-true (ends_of all x) 2 is)));
    }
told_by all xs x m name rest false is e =
    let old = rest (min m x) e in
    let low = old.low in
    let left = min-le_left m x in
    let right = min-le_right m x in
    record {
      low = omega (arith, low, left);
      from = elim old.from [
        | inl same ↦ elim (cases_lt m x) [
          | inl lt ↦ inl (same ∙ min-eq_left (omega (arith, lt)))
          | inr le ↦
              let it : x ≡ name = sym (same ∙ min-eq_right le) in
              inr (record {
                place = 0;
                within = omega arith;
                is = it;
                unpaired = subst (λ (n : ℕ). ends_of all n ≢ 2) it (eqb-false (ends_of all x) 2 is);
              })
        ]
        | inr stands ↦ inr (one_before all xs x name stands)
      ];
      least = least_before all xs x name old.least (λ ne. omega (arith, low, right));
    }

told : (all xs : List ℕ) (m name : ℕ) → fold (seen all) (Some m) xs ≡ Some name → IsTold all xs m name
told all [] m name e =
    let same : m ≡ name = cc in
    record { low = omega (arith, same); from = inl (sym same); least = λ k lt ne. absurd (omega (arith, lt)) }
told all (x ∷ xs) m name e = told_by all xs x m name (λ b from. told all xs b name from) (ends_of all x == 2) refl e

first_by : (all xs : List ℕ) (x name : ℕ) → (fold (seen all) None xs ≡ Some name → Stands all xs name × IsLeast all xs name)
    → (t : Bool) → (ends_of all x == 2) ≡ t → fold (seen all) (cond t None (Some x)) xs ≡ Some name → Stands all (x ∷ xs) name × IsLeast all (x ∷ xs) name
first_by all xs x name rest true is e =
    let old = rest e in
    (one_before all xs x name old.0, least_before all xs x name old.1 (λ ne. absurd (ne (eqb-true (ends_of all x) 2 is))))
first_by all xs x name rest false is e =
    let old = told all xs x name e in
    let low = old.low in (
      elim old.from [
        | inl same ↦ record {
          place = 0;
          within = omega arith;
          is = sym same;
          unpaired = subst (λ (n : ℕ). ends_of all n ≢ 2) (sym same) (eqb-false (ends_of all x) 2 is);
        }
        | inr stands ↦ one_before all xs x name stands
      ],
      least_before all xs x name old.least (λ ne. low),
    )

first : (all xs : List ℕ) (name : ℕ) → fold (seen all) None xs ≡ Some name → Stands all xs name × IsLeast all xs name
first all [] name e = absurd (let no : ◌≡◌ {A = Option ℕ} None (Some name) = e in cc)
first all (x ∷ xs) name e = first_by all xs x name (first all xs name) (ends_of all x == 2) refl e

pub least_unpaired_is : (all : List ℕ) (name : ℕ) → least_unpaired all ≡ Some name → IsLeastUnpaired all name
least_unpaired_is all name e =
    let found = first all all name e in
    record { place = found.0.place; within = found.0.within; is = found.0.is; unpaired = found.0.unpaired; least = found.1 }

-- behind the end of a list
pub beyond : (xs : List ℕ) → slice_index xs (length xs) ≡ 0
beyond [] = refl
beyond (x ∷ xs) = beyond xs
