-- One list of colours in the counts by weight of a 2-cocycle, and all of them at the end.
use Rattle.std.proofs.Common.{◌≡◌, ◌<◌, ◌+◌, ◌==◌, ◌∙◌, inl, inr, ℕ, List, [], ◌∷◌, Bool, cond, length, take, get_or, set, replicate, count_by, sym, ap, arith}
use Rattle.std.specs.List.{sum_by}
use Rattle.std.proofs.lemmas.Bool.{cases_eq, eq-eqb, ne_eqb}
use Rattle.std.proofs.lemmas.List.{length-set, get_or-set_same, get_or-set_other}
use Rattle.std.proofs.lemmas.List.Elements.{All-weaker}
use Rattle.std.proofs.lemmas.List.FromFn.{get_or-map-range_with_len, length-map-range_with_len}
use Rattle.std.proofs.lemmas.List.Sums.{sum_by-cons}
use Rattle.grid_core.specs.declared.grid.TheConstants.{MAX_SIZE}
use Rattle.grid_core.specs.Diagram.{Diagram, IsGrid, size}
use Rattle.colour_rows.specs.Colouring.{IsColouring}
use Rattle.colour_list.specs.Listing.{colourings}
use Rattle.colour_list.specs.Level.{IsLevelAt}
use Rattle.colour_list.proofs.Counts.{count-cons, count-map, count_agree_on}
use Rattle.colour_list.proofs.Choices.{listed_most}
use Rattle.cocycle_core.specs.Cocycle.{Cochain, IsCocycle}
use Rattle.colour_weights.specs.Weight.{weight}
use Rattle.colour_weights.specs.WalkSum.{weight_by_rows}
use Rattle.colour_weights.specs.Weights.{weights}
use Rattle.colour_weights.proofs.Carried.{by_rows}
use Rattle.colour_seeds.specs.declared.progress.Step.{Step}
use Rattle.colour_seeds.specs.Plan.{IsPlan}
use Rattle.colour_seeds.specs.Leaves.{leaves}
use Rattle.colour_numbers.specs.Tallies.{has_weight, weighed, tallied, tally}
use Rattle.colour_seeds.proofs.Levels.{cut, cut_as_often, plan_level}
use Rattle.colour_seeds.proofs.Tallying.{by_place, same_counts, cut_colourings}
use Rattle.colour_numbers.proofs.Tallying.{tallied_at, tallied_long, tally_at, tally_long}

pub tallied_one : (w : Cochain) (d : Diagram) (counts : List ℕ) (f : List ℕ) (u n : ℕ) → length counts ≡ w.modulus → u ≡ weight_by_rows w d (take (size d) f)
    → u < w.modulus → n ≡ get_or counts u 0 + 1 → set counts u n ≡ tallied w.modulus (weighed w d) counts (f ∷ [])
tallied_one w d counts f u n long is below next =
    by_place w.modulus (set counts u n) (tallied w.modulus (weighed w d) counts (f ∷ [])) (length-set counts u n ∙ long)
    (tallied_long w.modulus (weighed w d) counts (f ∷ []))
    (λ v lt.
    let c = tallied_at w.modulus (weighed w d) counts (f ∷ []) v lt in
    let s = sum_by-cons (weighed w d v) f [] in
    let k = count-cons (has_weight w d v) f [] in
    elim (cases_eq v u) [
      | inl same ↦
          let one : ◌≡◌ {A = ℕ} (cond (has_weight w d v f) 1 0) 1 = ap (λ (b : Bool). cond b 1 0)
          (eq-eqb (weight_by_rows w d (take (size d) f)) v (sym is ∙ sym same)) in
          let here : get_or (set counts u n) v 0 ≡ n = ap (λ (k : ℕ). get_or (set counts u n) k 0) same
          ∙ get_or-set_same counts u n 0 (omega (arith, below, long)) in
          let there : get_or counts v 0 ≡ get_or counts u 0 = ap (λ (k : ℕ). get_or counts k 0) same in
          omega arith
      | inr other ↦
          let none : ◌≡◌ {A = ℕ} (cond (has_weight w d v f) 1 0) 0 = ap (λ (b : Bool). cond b 1 0)
          (ne_eqb (weight_by_rows w d (take (size d) f)) v (λ e. other (sym e ∙ sym is))) in
          let here = get_or-set_other counts u v n 0 other in
          omega arith
    ])

weight_count : (w : Cochain) (d : Diagram) → IsCocycle w → IsGrid d → (level : List (List ℕ)) → IsLevelAt w.quandle d (size d) level → (v : ℕ)
    → count_by (has_weight w d v) level ≡ count_by (λ c. weight w d c == v) (colourings w.quandle d)
weight_count w d cocycle grid level l v =
    sym (count-map (λ g. weight_by_rows w d g == v) (take (size d)) level)
    ∙ (count_agree_on (λ g. weight_by_rows w d g == v) (λ g. weight w d g == v) (cut d level)
    (All-weaker (IsColouring w.quandle d) (λ g. (weight_by_rows w d g == v) ≡ (weight w d g == v))
    (λ g c. ap (λ (n : ℕ). n == v) (sym (by_rows w cocycle d grid g c))) (cut d level) (cut_colourings w.quandle d grid level l))
    ∙ same_counts (λ g. weight w d g == v) (cut d level) (colourings w.quandle d) (cut_as_often w.quandle d cocycle.quandle grid level l)
    (listed_most w.quandle d))

-- counted list by list
one_by_one : (p : List ℕ → Bool) (level : List (List ℕ)) → sum_by (λ f. count_by p (f ∷ [])) level ≡ count_by p level
one_by_one p [] = omega arith
one_by_one p (f ∷ level) =
    let sum = sum_by-cons (λ f. count_by p (f ∷ [])) f level in
    let one = count-cons p f [] in
    let more = count-cons p f level in
    let rest = one_by_one p level in
    omega arith

pub leaves_weights : (w : Cochain) (d : Diagram) (steps : List Step) → IsCocycle w → IsGrid d → IsPlan d steps
    → tally w.modulus (weighed w d) (leaves w.quandle d steps (replicate MAX_SIZE 0)) ≡ weights w d
leaves_weights w d steps cocycle grid plan =
    let level = leaves w.quandle d steps (replicate MAX_SIZE 0) in
    by_place w.modulus (tally w.modulus (weighed w d) level) (weights w d) (tally_long w.modulus (weighed w d) level)
    (length-map-range_with_len (λ v. count_by (λ c. weight w d c == v) (colourings w.quandle d)) 0 w.modulus)
    (λ v lt.
    let a = tally_at w.modulus (weighed w d) level v lt in
    let one = one_by_one (has_weight w d v) level in
    let b : get_or (weights w d) v 0 ≡ count_by (λ c. weight w d c == v) (colourings w.quandle d) =
    get_or-map-range_with_len (λ v. count_by (λ c. weight w d c == v) (colourings w.quandle d)) 0 w.modulus v v 0 lt (omega arith) in
    let e = weight_count w d cocycle grid level (plan_level w.quandle d steps cocycle.quandle grid plan) v in
    omega arith)
