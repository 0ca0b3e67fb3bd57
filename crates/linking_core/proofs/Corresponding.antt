-- Two diagrams whose components correspond have equal lists, where corresponding linking numbers are equal.
use Rattle.std.proofs.Common.{◌≡◌, ◌≢◌, ◌<◌, ◌∙◌, ◌==◌, [], ℕ, ℤ, List, length, arith, sym, subst, refl, ap, inl, inr, cond, map, fold}
use Rattle.std.specs.Prelude.{Bool, true, false, not}
use Rattle.std.specs.List.{range_with_len}
use Rattle.std.proofs.lemmas.Bool.{cases_eq, eq-eqb, ne_eqb, eqb-true, false≢true}
use Rattle.std.proofs.lemmas.List.{length-map}
use Rattle.grid_core.specs.declared.mark.Kind.TheVariants.{Cross, Ring}
use Rattle.grid_core.specs.Diagram.{Diagram, IsGrid, size}
use Rattle.grid_core.specs.Parts.{column_of}
use Rattle.linking_core.specs.Component.{component_number, components}
use Rattle.linking_core.specs.Linking.{put, linking_number, linking_numbers_of, linking}
use Rattle.linking_core.proofs.Shuffles.{Shuffles, Member, shuffles_from, shuffles_length, map_apart, map_member, member_of_map}
use Rattle.linking_core.proofs.Shuffles.{filter_apart, filter_member, member_of_filter, range_apart, range_member, member_of_range}
use Rattle.linking_core.proofs.Ascending.{fold_shuffled, fold_map, fold_same, fold_flat_map, fold_filter, puts_trade, lists_trade}
use Rattle.linking_core.proofs.ComponentNumbers.{component_fixed, component_below, same_along}
use Rattle.linking_core.proofs.Signs.{is_of}

-- maps of columns there and back that keep components, and undo each other up to components
pub record Corresponds (d e : Diagram) (forth back : ℕ → ℕ) : Type 0 where
  pub into : (c : ℕ) → c < size d → forth c < size e
  pub from : (c : ℕ) → c < size e → back c < size d
  pub keeps : (r : ℕ) → r < size d → component_number e (forth (column_of Cross d r)) ≡ component_number e (forth (column_of Ring d r))
  pub returns : (r : ℕ) → r < size e → component_number d (back (column_of Cross e r)) ≡ component_number d (back (column_of Ring e r))
  pub there : (c : ℕ) → c < size d → component_number d (back (forth c)) ≡ component_number d c
  pub again : (c : ℕ) → c < size e → component_number e (forth (back c)) ≡ component_number e c

-- the component of e to which a component of d corresponds
abbrev pub named : Diagram → (ℕ → ℕ) → ℕ → ℕ
named e forth i = component_number e (forth i)

kept : (d e : Diagram) → IsGrid d → (forth back : ℕ → ℕ) → Corresponds d e forth back → (b c : ℕ) → b < size d → c < size d
    → component_number d b ≡ component_number d c → named e forth b ≡ named e forth c
kept d e grid forth back corr b c in_b in_c same = same_along d grid (λ a. component_number e (forth a)) corr.keeps b c in_b in_c same

returned : (d e : Diagram) → IsGrid e → (forth back : ℕ → ℕ) → Corresponds d e forth back → (b c : ℕ) → b < size d → c < size d
    → named e forth b ≡ named e forth c → component_number d b ≡ component_number d c
returned d e grid' forth back corr b c in_b in_c same =
    sym (corr.there b in_b) ∙ (same_along e grid' (λ a. component_number d (back a)) corr.returns (forth b) (forth c) (corr.into b in_b) (corr.into c in_c) same
    ∙ corr.there c in_c)

pub is_component : (d : Diagram) (i : ℕ) → Member i (components d) → (i < size d) × (component_number d i ≡ i)
is_component d i at =
    let parts = filter_member (λ c. component_number d c == c) i (range_with_len 0 (size d)) at in
    (omega (arith, range_member 0 (size d) i parts.0), eqb-true (component_number d i) i parts.1)

component_is : (d : Diagram) (i : ℕ) → i < size d → component_number d i ≡ i → Member i (components d)
component_is d i lt is = member_of_filter (λ c. component_number d c == c) i (range_with_len 0 (size d))
    (member_of_range 0 (size d) i (omega arith) (omega arith)) (eq-eqb (component_number d i) i is)

pub same_name : (d e : Diagram) → IsGrid e → (forth back : ℕ → ℕ) → Corresponds d e forth back → (i j : ℕ) → Member i (components d)
    → Member j (components d) → named e forth i ≡ named e forth j → i ≡ j
same_name d e grid' forth back corr i j at_i at_j same =
    let one = is_component d i at_i in
    let two = is_component d j at_j in
    sym one.1 ∙ (returned d e grid' forth back corr i j one.0 two.0 same ∙ two.1)

pub components_shuffled : (d e : Diagram) → IsGrid d → IsGrid e → (forth back : ℕ → ℕ) → Corresponds d e forth back
    → Shuffles (map (named e forth) (components d)) (components e)
components_shuffled d e grid grid' forth back corr =
    shuffles_from (map (named e forth) (components d)) (components e)
    (map_apart (named e forth) (components d) (same_name d e grid' forth back corr)
    (filter_apart (λ c. component_number d c == c) (range_with_len 0 (size d)) (range_apart 0 (size d))))
    (filter_apart (λ c. component_number e c == c) (range_with_len 0 (size e)) (range_apart 0 (size e)))
    (λ z at.
    let from = map_member (named e forth) z (components d) at in
    let own = is_component d from.0 from.1.1 in
    let inside = corr.into from.0 own.0 in
    subst (λ (w : ℕ). Member w (components e)) (sym from.1.0)
    (component_is e (named e forth from.0) (component_below e grid' (forth from.0) inside) (component_fixed e grid' (forth from.0) inside)))
    (λ z at.
    let own = is_component e z at in
    let inside = corr.from z own.0 in
    let i = component_number d (back z) in
    let in_i : i < size d = component_below d grid (back z) inside in
    let name : named e forth i ≡ z =
    kept d e grid forth back corr i (back z) in_i inside (component_fixed d grid (back z) inside) ∙ (corr.again z own.0 ∙ own.1) in
    subst (λ (w : ℕ). Member w (map (named e forth) (components d))) name
    (member_of_map (named e forth) i (components d) (component_is d i in_i (component_fixed d grid (back z) inside))))

-- as many components
pub as_many : (d e : Diagram) → IsGrid d → IsGrid e → (forth back : ℕ → ℕ) → Corresponds d e forth back → length (components e) ≡ length (components d)
as_many d e grid grid' forth back corr =
    shuffles_length (map (named e forth) (components d)) (components e) (components_shuffled d e grid grid' forth back corr)
    ∙ length-map (components d) (named e forth)

-- the classes of corresponding components
pub class_moved : (d e : Diagram) → IsGrid d → IsGrid e → (forth back : ℕ → ℕ) → Corresponds d e forth back → (i : ℕ) → Member i (components d)
    → (c : ℕ) → c < size d → is_of e (named e forth i) (forth c) ≡ is_of d i c
class_moved d e grid grid' forth back corr i at c lt =
    let own = is_component d i at in
    elim (cases_eq (component_number d c) i) [
      | inl is ↦ eq-eqb (component_number e (forth c)) (named e forth i) (kept d e grid forth back corr c i lt own.0 (is ∙ sym own.1))
          ∙ sym (eq-eqb (component_number d c) i is)
      | inr ne ↦ ne_eqb (component_number e (forth c)) (named e forth i) (λ same. ne (returned d e grid' forth back corr c i lt own.0 same ∙ own.1))
          ∙ sym (ne_eqb (component_number d c) i ne)
    ]

-- the list as it is put together, component by component
abbrev pub with_number : Diagram → ℕ → List ℤ → ℕ → List ℤ
with_number d i s j = cond (not (j == i)) (put s (linking_number d i j)) s

pub numbers_put : (d : Diagram) (i : ℕ) (s : List ℤ) → fold put s (linking_numbers_of d i) ≡ fold (with_number d i) s (components d)
numbers_put d i s = fold_filter (linking_number d i) (λ j. not (j == i)) s (components d)

pub linking_put : (d : Diagram) → linking d ≡ fold (λ s i. fold put s (linking_numbers_of d i)) [] (components d)
linking_put d = fold_flat_map (linking_numbers_of d) [] (components d)

same_step : (one other : Bool) (s : List ℤ) (y z : ℤ) → one ≡ other → (other ≡ true → y ≡ z) → cond one (put s y) s ≡ cond other (put s z) s
same_step one true s y z e same = ap (λ (t : Bool). cond t (put s y) s) e ∙ ap (put s) (same refl)
same_step one false s y z e same = ap (λ (t : Bool). cond t (put s y) s) e

numbers_moved : (d e : Diagram) → IsGrid d → IsGrid e → (forth back : ℕ → ℕ) → Corresponds d e forth back
    → ((i j : ℕ) → Member i (components d) → Member j (components d) → i ≢ j → linking_number e (named e forth i) (named e forth j) ≡ linking_number d i j)
    → (i : ℕ) → Member i (components d) → (s : List ℤ) → fold put s (linking_numbers_of e (named e forth i)) ≡ fold put s (linking_numbers_of d i)
numbers_moved d e grid grid' forth back corr equal i at s =
    numbers_put e (named e forth i) s
    ∙ (fold_shuffled (with_number e (named e forth i)) (puts_trade (linking_number e (named e forth i)) (λ j. not (j == named e forth i))) s
    (map (named e forth) (components d)) (components e) (components_shuffled d e grid grid' forth back corr)
    ∙ (fold_map (with_number e (named e forth i)) (named e forth) s (components d)
    ∙ (fold_same (λ r j. with_number e (named e forth i) r (named e forth j)) (with_number d i) (components d) each s
    ∙ sym (numbers_put d i s))))
  where
    test : (j : ℕ) → Member j (components d) → (named e forth j == named e forth i) ≡ (j == i)
    test j at_j = elim (cases_eq j i) [
      | inl is ↦ eq-eqb (named e forth j) (named e forth i) (ap (named e forth) is) ∙ sym (eq-eqb j i is)
      | inr ne ↦ ne_eqb (named e forth j) (named e forth i) (λ same. ne (same_name d e grid' forth back corr j i at_j at same)) ∙ sym (ne_eqb j i ne)
    ]

    different : (j : ℕ) → not (j == i) ≡ true → i ≢ j
    different j t e = false≢true (sym (ap not (eq-eqb j i (sym e))) ∙ t)

    each : (r : List ℤ) (j : ℕ) → Member j (components d) → with_number e (named e forth i) r (named e forth j) ≡ with_number d i r j
    each r j at_j = same_step (not (named e forth j == named e forth i)) (not (j == i)) r (linking_number e (named e forth i) (named e forth j))
        (linking_number d i j) (ap not (test j at_j)) (λ t. equal i j at at_j (different j t))

pub equal_lists : (d e : Diagram) → IsGrid d → IsGrid e → (forth back : ℕ → ℕ) → Corresponds d e forth back
    → ((i j : ℕ) → Member i (components d) → Member j (components d) → i ≢ j → linking_number e (named e forth i) (named e forth j) ≡ linking_number d i j)
    → linking e ≡ linking d
equal_lists d e grid grid' forth back corr equal =
    linking_put e
    ∙ (fold_shuffled (λ s i. fold put s (linking_numbers_of e i)) (lists_trade (linking_numbers_of e)) [] (map (named e forth) (components d)) (components e)
    (components_shuffled d e grid grid' forth back corr)
    ∙ (fold_map (λ s i. fold put s (linking_numbers_of e i)) (named e forth) [] (components d)
    ∙ (fold_same (λ s i. fold put s (linking_numbers_of e (named e forth i))) (λ s i. fold put s (linking_numbers_of d i)) (components d)
    (λ s i at. numbers_moved d e grid grid' forth back corr equal i at s) []
    ∙ sym (linking_put d))))
