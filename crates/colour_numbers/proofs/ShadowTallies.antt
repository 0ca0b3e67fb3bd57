-- One list of colours in the counts by shadow weight, colour by colour of the outer region, and all of them at the end.
use Rattle.std.proofs.Common.{◌≡◌, ◌<◌, ◌≤◌, ◌+◌, ◌==◌, ◌∙◌, ℕ, List, [], ◌∷◌, Bool, cond, length, map, take, get_or, replicate, count_by, refl, sym, ap, arith}
use Rattle.std.specs.Prelude.{slice_index, slice_set}
use Rattle.std.specs.List.{range_with_len, sum_by}
use Rattle.std.proofs.lemmas.Bool.{cond-true, cond-false, eq-eqb, ne_eqb}
use Rattle.std.proofs.lemmas.List.Elements.{All-weaker}
use Rattle.std.proofs.lemmas.List.FromFn.{get_or-map-range_with_len, length-map-range_with_len, length-range_with_len}
use Rattle.std.proofs.lemmas.List.Sums.{sum_by-cons, count_by-le-length}
use Rattle.grid_core.specs.declared.grid.TheConstants.{MAX_SIZE}
use Rattle.grid_core.specs.Diagram.{Diagram, IsGrid, size}
use Rattle.colour_rows.specs.Colouring.{IsColouring}
use Rattle.colour_rows.proofs.Ranges.{range_longer}
use Rattle.colour_list.specs.Listing.{colourings}
use Rattle.colour_list.specs.Level.{IsLevelAt}
use Rattle.colour_list.proofs.Counts.{count-cons, count-map, count_agree_on}
use Rattle.colour_list.proofs.Choices.{listed_most}
use Rattle.cocycle_core.specs.ShadowCocycle.{ShadowCochain, IsShadowCocycle}
use Rattle.colour_weights.specs.ShadowWeight.{shadow_weight}
use Rattle.colour_weights.specs.ShadowWalkSum.{shadow_weight_by_rows}
use Rattle.colour_weights.specs.ShadowWeights.{shadows_of, shadow_weights}
use Rattle.colour_weights.proofs.ShadowCarried.{by_rows}
use Rattle.colour_weights.proofs.Countings.{count_push, one_more}
use Rattle.colour_weights.proofs.RowCounts.{sum_total, total_equal}
use Rattle.colour_seeds.specs.declared.progress.Step.{Step}
use Rattle.colour_seeds.specs.Plan.{IsPlan}
use Rattle.colour_seeds.specs.Leaves.{leaves}
use Rattle.colour_seeds.proofs.Levels.{cut, cut_as_often, plan_level}
use Rattle.colour_seeds.proofs.Tallying.{by_place, same_counts, cut_colourings}
use Rattle.colour_numbers.specs.Tallies.{has_shadow_weight, outers_of, tallied, tally}
use Rattle.colour_numbers.proofs.Tallying.{tallied_at, tallied_long, tally_at, tally_long}

-- ---- one list, colour by colour of the outer region

-- counts by weight, with those of a list under the first n colours of the outer region
abbrev pub partly : ShadowCochain → Diagram → List ℕ → List ℕ → ℕ → List ℕ
partly t d counts f n = map (λ v. get_or counts v 0 + count_by (has_shadow_weight t d v f) (range_with_len 0 n)) (range_with_len 0 t.modulus)

pub partly_at : (t : ShadowCochain) (d : Diagram) (counts f : List ℕ) (n v : ℕ) → v < t.modulus
    → get_or (partly t d counts f n) v 0 ≡ get_or counts v 0 + count_by (has_shadow_weight t d v f) (range_with_len 0 n)
partly_at t d counts f n v lt =
    get_or-map-range_with_len (λ v. get_or counts v 0 + count_by (has_shadow_weight t d v f) (range_with_len 0 n)) 0 t.modulus v v 0 lt (omega arith)

pub partly_long : (t : ShadowCochain) (d : Diagram) (counts f : List ℕ) (n : ℕ) → length (partly t d counts f n) ≡ t.modulus
partly_long t d counts f n = length-map-range_with_len (λ v. get_or counts v 0 + count_by (has_shadow_weight t d v f) (range_with_len 0 n)) 0 t.modulus

pub partly_none : (t : ShadowCochain) (d : Diagram) (counts f : List ℕ) → length counts ≡ t.modulus → counts ≡ partly t d counts f 0
partly_none t d counts f long =
    by_place t.modulus counts (partly t d counts f 0) long (partly_long t d counts f 0) (λ v lt. let e = partly_at t d counts f 0 v lt in omega arith)

-- there is room for one more
pub partly_room : (t : ShadowCochain) (d : Diagram) (counts f : List ℕ) (n v : ℕ) → v < t.modulus
    → get_or (partly t d counts f n) v 0 ≤ get_or counts v 0 + n
partly_room t d counts f n v lt =
    let few = count_by-le-length (has_shadow_weight t d v f) (range_with_len 0 n) in
    omega (arith, partly_at t d counts f n v lt, few, length-range_with_len 0 n)

-- one colour more of the outer region
pub partly_more : (t : ShadowCochain) (d : Diagram) (counts f : List ℕ) (n u : ℕ) → u ≡ shadow_weight_by_rows t d (take (size d) f) n → u < t.modulus
    → slice_set (partly t d counts f n) u (slice_index (partly t d counts f n) u + 1) ≡ partly t d counts f (n + 1)
partly_more t d counts f n u is lt =
    one_more (λ v. get_or counts v 0 + count_by (has_shadow_weight t d v f) (range_with_len 0 n))
    (λ v. get_or counts v 0 + count_by (has_shadow_weight t d v f) (range_with_len 0 (n + 1))) t.modulus u lt
    (let one = count_longer (has_shadow_weight t d u f) n in
    let here : ◌≡◌ {A = ℕ} (cond (has_shadow_weight t d u f n) 1 0) 1 =
    cond-true (has_shadow_weight t d u f n) 1 0 (eq-eqb (shadow_weight_by_rows t d (take (size d) f) n) u (sym is)) in
    omega (arith, one, here))
    (λ v other.
    let one = count_longer (has_shadow_weight t d v f) n in
    let none : ◌≡◌ {A = ℕ} (cond (has_shadow_weight t d v f n) 1 0) 0 =
    cond-false (has_shadow_weight t d v f n) 1 0 (ne_eqb (shadow_weight_by_rows t d (take (size d) f) n) v (λ e. other (sym e ∙ sym is))) in
    omega (arith, one, none))
  where
    count_longer : (p : ℕ → Bool) (n : ℕ) → count_by p (range_with_len 0 (n + 1)) ≡ count_by p (range_with_len 0 n) + cond (p n) 1 0
    count_longer p n =
        ap (count_by p) (range_longer 0 n) ∙ (count_push p (range_with_len 0 n) (0 + n)
        ∙ ap (λ (m : ℕ). count_by p (range_with_len 0 n) + cond (p m) 1 0) (let e : 0 + n ≡ n = omega arith in e))

-- all colours of the outer region
pub partly_all : (t : ShadowCochain) (d : Diagram) (counts f : List ℕ) (n : ℕ) → n ≡ t.quandle.order
    → partly t d counts f n ≡ tallied t.modulus (outers_of t d) counts (f ∷ [])
partly_all t d counts f n all =
    by_place t.modulus (partly t d counts f n) (tallied t.modulus (outers_of t d) counts (f ∷ [])) (partly_long t d counts f n)
    (tallied_long t.modulus (outers_of t d) counts (f ∷ []))
    (λ v lt.
    let a = partly_at t d counts f n v lt in
    let b = tallied_at t.modulus (outers_of t d) counts (f ∷ []) v lt in
    let c = sum_by-cons (outers_of t d v) f [] in
    let e : count_by (has_shadow_weight t d v f) (range_with_len 0 n) ≡ outers_of t d v f =
    ap (λ (k : ℕ). count_by (has_shadow_weight t d v f) (range_with_len 0 k)) all in
    omega arith)

-- ---- all of them

-- sums over lists and colours in the other order
swapped : (p : List ℕ → ℕ → Bool) (us : List ℕ) (level : List (List ℕ))
    → sum_by (λ f. count_by (p f) us) level ≡ sum_by (λ u. count_by (λ f. p f u) level) us
swapped p us [] = sym (nothing us)
  where
    nothing : (us : List ℕ) → sum_by (λ u. count_by (λ f. p f u) []) us ≡ 0
    nothing [] = refl
    nothing (u ∷ us) = let one = sum_by-cons (λ u. count_by (λ f. p f u) []) u us in let rest = nothing us in omega arith
swapped p us (f ∷ level) =
    let cons = sum_by-cons (λ f. count_by (p f) us) f level in
    omega (arith, cons, swapped p us level, added us)
  where
    added : (us : List ℕ) → sum_by (λ u. count_by (λ g. p g u) (f ∷ level)) us ≡ count_by (p f) us + sum_by (λ u. count_by (λ g. p g u) level) us
    added [] = refl
    added (u ∷ us) =
        let whole = sum_by-cons (λ u. count_by (λ g. p g u) (f ∷ level)) u us in
        let one = count-cons (λ g. p g u) f level in
        let left = count-cons (p f) u us in
        let right = sum_by-cons (λ u. count_by (λ g. p g u) level) u us in
        omega (arith, whole, one, left, right, added us)

-- with one colour of the outer region
shadow_count : (t : ShadowCochain) (d : Diagram) → IsShadowCocycle t → IsGrid d → (level : List (List ℕ)) → IsLevelAt t.quandle d (size d) level → (v u : ℕ)
    → u < t.quandle.order → count_by (λ f. has_shadow_weight t d v f u) level ≡ shadows_of t d v u
shadow_count t d cocycle grid level l v u lt =
    sym (count-map (λ g. shadow_weight_by_rows t d g u == v) (take (size d)) level)
    ∙ (count_agree_on (λ g. shadow_weight_by_rows t d g u == v) (λ g. shadow_weight t d g u == v) (cut d level)
    (All-weaker (IsColouring t.quandle d) (λ g. (shadow_weight_by_rows t d g u == v) ≡ (shadow_weight t d g u == v))
    (λ g c. ap (λ (n : ℕ). n == v) (sym (by_rows t cocycle d grid g c u lt))) (cut d level) (cut_colourings t.quandle d grid level l))
    ∙ same_counts (λ g. shadow_weight t d g u == v) (cut d level) (colourings t.quandle d) (cut_as_often t.quandle d cocycle.quandle grid level l)
    (listed_most t.quandle d))

weights_at : (t : ShadowCochain) (d : Diagram) → IsShadowCocycle t → IsGrid d → (level : List (List ℕ)) → IsLevelAt t.quandle d (size d) level → (v : ℕ)
    → sum_by (outers_of t d v) level ≡ sum_by (shadows_of t d v) (range_with_len 0 t.quandle.order)
weights_at t d cocycle grid level l v =
    swapped (λ f u. has_shadow_weight t d v f u) (range_with_len 0 t.quandle.order) level
    ∙ (sum_total (λ u. count_by (λ f. has_shadow_weight t d v f u) level) t.quandle.order
    ∙ (total_equal (λ u. count_by (λ f. has_shadow_weight t d v f u) level) (shadows_of t d v) t.quandle.order
    (λ u lt. shadow_count t d cocycle grid level l v u lt)
    ∙ sym (sum_total (shadows_of t d v) t.quandle.order)))

pub leaves_weights : (t : ShadowCochain) (d : Diagram) (steps : List Step) → IsShadowCocycle t → IsGrid d → IsPlan d steps
    → tally t.modulus (outers_of t d) (leaves t.quandle d steps (replicate MAX_SIZE 0)) ≡ shadow_weights t d
leaves_weights t d steps cocycle grid plan =
    let level = leaves t.quandle d steps (replicate MAX_SIZE 0) in
    by_place t.modulus (tally t.modulus (outers_of t d) level) (shadow_weights t d) (tally_long t.modulus (outers_of t d) level)
    (length-map-range_with_len (λ v. sum_by (shadows_of t d v) (range_with_len 0 t.quandle.order)) 0 t.modulus)
    (λ v lt.
    let a = tally_at t.modulus (outers_of t d) level v lt in
    let b : get_or (shadow_weights t d) v 0 ≡ sum_by (shadows_of t d v) (range_with_len 0 t.quandle.order) =
    get_or-map-range_with_len (λ v. sum_by (shadows_of t d v) (range_with_len 0 t.quandle.order)) 0 t.modulus v v 0 lt (omega arith) in
    let e = weights_at t d cocycle grid level (plan_level t.quandle d steps cocycle.quandle grid plan) v in
    omega arith)
