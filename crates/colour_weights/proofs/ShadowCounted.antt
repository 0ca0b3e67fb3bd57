-- Equivalent diagrams have as many colourings of each weight.
use Rattle.std.proofs.Common.{◌≡◌, ◌∙◌, ◌==◌, ◌<◌, ℕ, List, [], ◌∷◌, filter, ap, sym}
use Rattle.std.specs.List.{range_with_len, sum_by}
use Rattle.std.proofs.lemmas.List.Sums.{length-filter}
use Rattle.std.proofs.lemmas.Bool.{eqb-true, eq-eqb}
use Rattle.grid_core.specs.Diagram.{Diagram}
use Rattle.grid_moves.specs.declared.step.Move.{Move}
use Rattle.grid_moves.specs.Step.{Step}
use Rattle.grid_moves.specs.Joining.{Joins, Equivalent}
use Rattle.quandle_core.specs.Bijection.{IsBijection}
use Rattle.colour_rows.specs.Colouring.{IsColouring}
use Rattle.colour_list.specs.Listing.{colourings}
use Rattle.colour_laws.specs.Carried.{carried}
use Rattle.colour_laws.proofs.Listings.{listing, kept_in, kept_out, kept_distinct}
use Rattle.quandle_core.proofs.Lengths.{IsListing, equal_lengths}
use Rattle.colour_laws.proofs.Steps.{step_carries}
use Rattle.cocycle_core.specs.ShadowCocycle.{ShadowCochain, IsShadowCocycle}
use Rattle.colour_weights.specs.ShadowWeight.{shadow_weight}
use Rattle.colour_weights.specs.ShadowWeights.{shadows_of, shadow_weights}
use Rattle.colour_weights.proofs.RowCounts.{sum_total, total_equal}
use Rattle.colour_weights.proofs.ShadowCarried.{step_keeps}
use Rattle.colour_laws.proofs.ExchangeSteps.{map_same}

-- a colouring of weight v, where the outer region has colour z
abbrev HasWeight : ShadowCochain → Diagram → ℕ → ℕ → List ℕ → Type 0
HasWeight w d z v f = IsColouring w.quandle d f × (shadow_weight w d f z ≡ v)

-- the complete list of them
listed : (w : ShadowCochain) (d : Diagram) (z v : ℕ) → IsListing (HasWeight w d z v) (filter (λ c. shadow_weight w d c z == v) (colourings w.quandle d))
listed w d z v =
    let all = listing w.quandle d in
    record {
      distinct = kept_distinct (λ c. shadow_weight w d c z == v) (colourings w.quandle d) all.distinct;
      sound = λ c one.
          let from = kept_out (λ c. shadow_weight w d c z == v) c (colourings w.quandle d) one in
          (all.sound c from.0, eqb-true (shadow_weight w d c z) v from.1);
      complete = λ c has. kept_in (λ c. shadow_weight w d c z == v) c (colourings w.quandle d) (all.complete c has.0) (eq-eqb (shadow_weight w d c z) v has.1);
    }

-- a step carries them one to one
carried_weights : (w : ShadowCochain) → IsShadowCocycle w → (z : ℕ) → z < w.quandle.order → (d e : Diagram) (move : Move) → Step d move e → (v : ℕ)
    → IsBijection (HasWeight w d z v) (HasWeight w e z v) (carried w.quandle d move)
carried_weights w cocycle z lz d e move step v =
    let carries = step_carries w.quandle cocycle.quandle d e move step in
    record {
      into = λ f has. (carries.into f has.0, step_keeps w cocycle d e move step f has.0 z lz ∙ has.1);
      onto = λ g has.
          let from = carries.onto g has.0 in
          (from.0, (from.1, sym (step_keeps w cocycle d e move step from.0 from.1 z lz) ∙ (ap (λ c. shadow_weight w e c z) from.2 ∙ has.1)), from.2);
      one = λ f g first second equal. carries.one f g first.0 second.0 equal;
    }

moved_count : (w : ShadowCochain) → IsShadowCocycle w → (z : ℕ) → z < w.quandle.order → (d e : Diagram) (move : Move) → Step d move e → (v : ℕ)
    → shadows_of w d v z ≡ shadows_of w e v z
moved_count w cocycle z lz d e move step v =
    sym (length-filter (λ c. shadow_weight w d c z == v) (colourings w.quandle d))
    ∙ (equal_lengths (HasWeight w d z v) (HasWeight w e z v) (carried w.quandle d move) (carried_weights w cocycle z lz d e move step v)
    (filter (λ c. shadow_weight w d c z == v) (colourings w.quandle d)) (filter (λ c. shadow_weight w e c z == v) (colourings w.quandle e))
    (listed w d z v) (listed w e z v)
    ∙ length-filter (λ c. shadow_weight w e c z == v) (colourings w.quandle e))

moved_weights : (w : ShadowCochain) → IsShadowCocycle w → (d e : Diagram) (move : Move) → Step d move e → shadow_weights w d ≡ shadow_weights w e
moved_weights w cocycle d e move step =
    map_same (λ v. sum_by (shadows_of w d v) (range_with_len 0 w.quandle.order)) (λ v. sum_by (shadows_of w e v) (range_with_len 0 w.quandle.order))
    (λ v. sum_total (shadows_of w d v) w.quandle.order
    ∙ (total_equal (shadows_of w d v) (shadows_of w e v) w.quandle.order (λ z lz. moved_count w cocycle z lz d e move step v)
    ∙ sym (sum_total (shadows_of w e v) w.quandle.order)))
    (range_with_len 0 w.modulus)

joined_weights : (w : ShadowCochain) → IsShadowCocycle w → (moves : List Move) (d e : Diagram) → Joins d moves e → shadow_weights w d ≡ shadow_weights w e
joined_weights w cocycle [] d e joins = ap (shadow_weights w) joins
joined_weights w cocycle (move ∷ moves) d e joins = moved_weights w cocycle d joins.0 move joins.1.0 ∙ joined_weights w cocycle moves joins.0 e joins.1.1

pub equivalent_weights : (w : ShadowCochain) → IsShadowCocycle w → (d e : Diagram) → Equivalent d e → shadow_weights w d ≡ shadow_weights w e
equivalent_weights w cocycle d e equivalent = joined_weights w cocycle equivalent.0 d e equivalent.1
