-- Worked examples: the two trefoils, a diagram of four columns, keys, and tidied lists.
use Rattle.std.proofs.Common.{◌≡◌, ◌<◌, ◌≤◌, ◌+◌, ◌-◌, ◌*◌, ◌^◌, ◌∷◌, ◌∙◌, ◌⊎◌, ◌==◌, ◌&&◌, ◌||◌, not, [], ℕ, List, Bool, true, false, length, get_or}
use Rattle.std.proofs.Common.{replicate, nat_lt, nat_le, arith, sym, refl, ap, subst, inl, inr, zero-add}
use Rattle.std.specs.List.{Contains, list_all, range_with_len}
use Rattle.std.specs.Ordering.{is_le, is_eq}
use Rattle.std.proofs.lemmas.Bool.{ltb-true, eqb-true, leb-true, or_cases, and_parts, not-true}
use Rattle.std.proofs.lemmas.List.Folds.{list_all_at}
use Rattle.std.proofs.lemmas.List.FromFn.{get_or-range_with_len, length-range_with_len}
use Rattle.grid_core.specs.Diagram.{Diagram, size}
use Rattle.grid_core.specs.Trefoils.{right_trefoil, left_trefoil}
use Rattle.grid_core.specs.declared.mark.Kind.TheVariants.{Cross}
use Rattle.grid_core.specs.declared.mark.Corner.TheVariants.{LowLeft}
use Rattle.grid_moves.specs.declared.step.Move.TheVariants.{ShiftColumns, ShiftRows, ExchangeColumns, ExchangeRows, SlideColumns, SlideRows, Stabilise}
use Rattle.grid_moves.specs.declared.step.Move.TheVariants.{Destabilise}
use Rattle.grid_canon.specs.Tidied.{tidied}
use Rattle.grid_keys.specs.declared.least_form.LeastForm.{LeastForm}
use Rattle.grid_keys.specs.Translation.{translate, translates}
use Rattle.grid_keys.specs.Order.{compare}
use Rattle.grid_keys.specs.CanonicalForm.{IsLeastForm}
use Rattle.grid_keys.specs.declared.key.TheConstants.{WORDS}
use Rattle.grid_keys.specs.Key.{key_of}
use Rattle.grid_keys.proofs.Ordered.{compare_self}
use Rattle.grid_keys.proofs.LeastTranslates.{translates_contains}

-- a test that passes on a list passes at each place
passes : {X : Type 0} (test : X → Bool) (xs : List X) → list_all test xs ≡ true → (k : ℕ) (d : X) → k < length xs → test (get_or xs k d) ≡ true
passes test xs all k d lt = by (test (get_or xs k d)) refl
  where
    by : (b : Bool) → test (get_or xs k d) ≡ b → test (get_or xs k d) ≡ true
    by true is = is
    by false is = absurd (let no : ◌≡◌ {A = Bool} false true = sym (list_all_at test xs k d lt is) ∙ all in cc)

passes_below : (test : ℕ → Bool) (n : ℕ) → list_all test (range_with_len 0 n) ≡ true → (k : ℕ) → k < n → test k ≡ true
passes_below test n all k lt =
    sym (ap test (get_or-range_with_len 0 n k 0 lt ∙ zero-add k)) ∙ passes test (range_with_len 0 n) all k 0 (omega (arith, length-range_with_len 0 n, lt))

-- the definition by tests on all translates
abbrev none_less : Diagram → Diagram → Bool
none_less d e = list_all (λ t. is_le (compare e t)) (translates d)

abbrev comes_first : LeastForm → ℕ → ℕ → Bool
comes_first form a b = nat_lt form.columns a || ((form.columns == a) && nat_le form.rows b)

abbrev is_first : Diagram → LeastForm → Bool
is_first d form =
    list_all (λ a. list_all (λ b. not (is_eq (compare (translate d a b) form.grid)) || comes_first form a b) (range_with_len 0 (size d)))
    (range_with_len 0 (size d))

by_tests : (d : Diagram) (form : LeastForm) → nat_lt form.columns (size d) ≡ true → nat_lt form.rows (size d) ≡ true
    → translate d form.columns form.rows ≡ form.grid → none_less d form.grid ≡ true → is_first d form ≡ true → IsLeastForm d form
by_tests d form columns rows reached least first =
    let ha = ltb-true form.columns (size d) columns in
    let hb = ltb-true form.rows (size d) rows in
    record {
      canonical = record {
        among = subst (λ t. Contains (translates d) t) reached (translates_contains d form.columns form.rows ha hb);
        least = passes (λ t. is_le (compare form.grid t)) (translates d) least;
      };
      columns = ha;
      rows = hb;
      reached = reached;
      first =
          λ a b la lb same. at a b same (passes_below (λ b. not (is_eq (compare (translate d a b) form.grid)) || comes_first form a b) (size d)
          (passes_below (λ a. list_all (λ b. not (is_eq (compare (translate d a b) form.grid)) || comes_first form a b) (range_with_len 0 (size d)))
          (size d) first a la) b lb);
    }
  where
    placed : (a b : ℕ) → comes_first form a b ≡ true → (form.columns < a) ⊎ ((form.columns ≡ a) × (form.rows ≤ b))
    placed a b e = elim (or_cases (nat_lt form.columns a) ((form.columns == a) && nat_le form.rows b) e) [
      | inl lt ↦ inl (ltb-true form.columns a lt)
      | inr both ↦ let parts = and_parts (form.columns == a) (nat_le form.rows b) both in inr (eqb-true form.columns a parts.0, leb-true form.rows b parts.1)
    ]

    at : (a b : ℕ) → translate d a b ≡ form.grid → (not (is_eq (compare (translate d a b) form.grid)) || comes_first form a b) ≡ true
        → (form.columns < a) ⊎ ((form.columns ≡ a) × (form.rows ≤ b))
    at a b same e = elim (or_cases (not (is_eq (compare (translate d a b) form.grid))) (comes_first form a b) e) [
      | inl other ↦
          absurd (let no : ◌≡◌ {A = Bool} true false = sym (ap is_eq (compare_self (translate d a b) form.grid same))
          ∙ not-true (is_eq (compare (translate d a b) form.grid)) other in cc)
      | inr first ↦ placed a b first
    ]

-- the right trefoil is its form after the shift of rows by 4
right_form : IsLeastForm right_trefoil (record { grid = record { x = 0 ∷ 4 ∷ 3 ∷ 2 ∷ 1 ∷ []; o = 3 ∷ 2 ∷ 1 ∷ 0 ∷ 4 ∷ [] }; columns = 0; rows = 4 })
right_form =
    by_tests right_trefoil (record { grid = record { x = 0 ∷ 4 ∷ 3 ∷ 2 ∷ 1 ∷ []; o = 3 ∷ 2 ∷ 1 ∷ 0 ∷ 4 ∷ [] }; columns = 0; rows = 4 }) refl refl refl refl refl

-- the left trefoil is its own form, which five translates reach
left_form : IsLeastForm left_trefoil (record { grid = left_trefoil; columns = 0; rows = 0 })
left_form = by_tests left_trefoil (record { grid = left_trefoil; columns = 0; rows = 0 }) refl refl refl refl refl

-- both shifts are needed
abbrev four : Diagram
four = record { x = 0 ∷ 1 ∷ 2 ∷ 3 ∷ []; o = 2 ∷ 3 ∷ 1 ∷ 0 ∷ [] }

four_form : IsLeastForm four (record { grid = record { x = 0 ∷ 1 ∷ 2 ∷ 3 ∷ []; o = 1 ∷ 3 ∷ 0 ∷ 2 ∷ [] }; columns = 3; rows = 3 })
four_form = by_tests four (record { grid = record { x = 0 ∷ 1 ∷ 2 ∷ 3 ∷ []; o = 1 ∷ 3 ∷ 0 ∷ 2 ∷ [] }; columns = 3; rows = 3 }) refl refl refl refl refl

by_columns_alone : list_all (λ a. not (is_eq (compare (translate four a 0) (record { x = 0 ∷ 1 ∷ 2 ∷ 3 ∷ []; o = 1 ∷ 3 ∷ 0 ∷ 2 ∷ [] }))))
    (range_with_len 0 4) ≡ true
by_columns_alone = refl

-- the key of the left trefoil
left_key : key_of left_trefoil ≡ record {
  size = 5;
  x = (0 * 64 ^ 15 + 1 * 64 ^ 14 + 2 * 64 ^ 13 + 3 * 64 ^ 12 + 4 * 64 ^ 11) ∷ replicate (WORDS - 1) 0;
  o = (2 * 64 ^ 15 + 3 * 64 ^ 14 + 4 * 64 ^ 13 + 0 * 64 ^ 12 + 1 * 64 ^ 11) ∷ replicate (WORDS - 1) 0;
}
left_key = refl

-- of five columns shifts by 2 and 3 are none, and each run of shifts becomes one of columns and then one of rows
tidied_runs : tidied 5 0 0
    (ShiftRows 2 ∷ ShiftColumns 1 ∷ ShiftRows 3 ∷ ExchangeColumns 0 ∷ ShiftColumns 4 ∷ ShiftRows 1 ∷ ShiftColumns 2 ∷ SlideRows 2 ∷ ShiftRows 1 ∷ [])
    ≡ ShiftColumns 1 ∷ ExchangeColumns 0 ∷ ShiftColumns 1 ∷ ShiftRows 1 ∷ SlideRows 2 ∷ ShiftRows 1 ∷ []
tidied_runs = refl

-- behind a stabilisation they go round six columns, and behind its end round five
tidied_sizes : tidied 5 0 0 (Stabilise 0 Cross LowLeft ∷ ShiftColumns 5 ∷ ShiftColumns 2 ∷ Destabilise 1 1 ∷ ShiftRows 4 ∷ ShiftRows 2 ∷ [])
    ≡ Stabilise 0 Cross LowLeft ∷ ShiftColumns 1 ∷ Destabilise 1 1 ∷ ShiftRows 1 ∷ []
tidied_sizes = refl

-- shifts of columns end before an exchange of rows, and shifts of rows before a slide of columns
tidied_kinds : tidied 5 0 0 (ShiftColumns 2 ∷ ExchangeRows 1 ∷ ShiftRows 3 ∷ SlideColumns 2 ∷ ShiftRows 2 ∷ ShiftColumns 3 ∷ [])
    ≡ ShiftColumns 2 ∷ ExchangeRows 1 ∷ ShiftRows 3 ∷ SlideColumns 2 ∷ ShiftColumns 3 ∷ ShiftRows 2 ∷ []
tidied_kinds = refl
