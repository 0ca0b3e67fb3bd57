-- A shadow cocycle, as what walks gain: the laws hold for all numbers, since what is no colour gains nothing.
use Rattle.std.proofs.Common.{◌≡◌, ◌∙◌, ◌<◌, ◌≤◌, ◌+◌, ◌-◌, ◌%◌, ℕ, Bool, true, false, ap, ap₂, sym, arith, inl, inr}
use Rattle.std.specs.Prelude.{nat_lt, ◌⊎◌, ◌&&◌, if◌then◌else◌}
use Rattle.std.proofs.lemmas.Bool.{cond-true, cond-false, cases_lt, lt-ltb, le-ltb, and_from, and_left, and_right}
use Rattle.quandle_core.specs.Quandle.{Table, over, back}
use Rattle.colour_laws.proofs.ColouredColumns.{act}
use Rattle.colour_laws.proofs.Tables.{act_up, act_down, act_outside}
use Rattle.cocycle_core.proofs.Mod.{Same}
use Rattle.colour_weights.proofs.RowCounts.{same_from_mod, same_minus}
use Rattle.cocycle_core.specs.ShadowCocycle.{ShadowCochain, IsShadowCocycle, shadow_value, one_side, other_side}
use Rattle.colour_weights.specs.ShadowWalkSum.{shadow_gain}
use Rattle.colour_weights.proofs.ModSums.{plain, by_one}
use Rattle.colour_weights.proofs.RowSums.{Weighs}

-- all three are colours
abbrev pub are_colours : Table → ℕ → ℕ → ℕ → Bool
are_colours q u a y = nat_lt u q.order && (nat_lt a q.order && nat_lt y q.order)

-- what a walk at colour a and region u gains under an up column (true) or a down column (false) of colour y
abbrev pub earned : ShadowCochain → Bool → ℕ → ℕ → ℕ → ℕ
earned t up y a u = if are_colours t.quandle u a y then shadow_gain t up u a y else 0

pub earned_inside : (t : ShadowCochain) (up : Bool) (y a u : ℕ) → y < t.quandle.order → a < t.quandle.order → u < t.quandle.order
    → earned t up y a u ≡ shadow_gain t up u a y
earned_inside t up y a u ly la lu =
    cond-true (are_colours t.quandle u a y) (shadow_gain t up u a y) 0
    (and_from (nat_lt u t.quandle.order) (nat_lt a t.quandle.order && nat_lt y t.quandle.order) (lt-ltb u t.quandle.order lu)
    (and_from (nat_lt a t.quandle.order) (nat_lt y t.quandle.order) (lt-ltb a t.quandle.order la) (lt-ltb y t.quandle.order ly)))

no_region : (t : ShadowCochain) (up : Bool) (y a u : ℕ) → t.quandle.order ≤ u → earned t up y a u ≡ 0
no_region t up y a u out =
    cond-false (are_colours t.quandle u a y) (shadow_gain t up u a y) 0
    (and_left (nat_lt u t.quandle.order) (nat_lt a t.quandle.order && nat_lt y t.quandle.order) (le-ltb u t.quandle.order out))

no_colour : (t : ShadowCochain) (up : Bool) (y a u : ℕ) → t.quandle.order ≤ a → earned t up y a u ≡ 0
no_colour t up y a u out =
    cond-false (are_colours t.quandle u a y) (shadow_gain t up u a y) 0
    (and_right (nat_lt u t.quandle.order) (nat_lt a t.quandle.order && nat_lt y t.quandle.order)
    (and_left (nat_lt a t.quandle.order) (nat_lt y t.quandle.order) (le-ltb a t.quandle.order out)))

no_column : (t : ShadowCochain) (up : Bool) (y a u : ℕ) → t.quandle.order ≤ y → earned t up y a u ≡ 0
no_column t up y a u out =
    cond-false (are_colours t.quandle u a y) (shadow_gain t up u a y) 0
    (and_right (nat_lt u t.quandle.order) (nat_lt a t.quandle.order && nat_lt y t.quandle.order)
    (and_right (nat_lt a t.quandle.order) (nat_lt y t.quandle.order) (le-ltb y t.quandle.order out)))

-- where one of the three is no colour, nothing is gained on the way back either
back_nothing : (t : ShadowCochain) (up down : Bool) (y a u : ℕ) → (t.quandle.order ≤ y) ⊎ ((t.quandle.order ≤ a) ⊎ (t.quandle.order ≤ u))
    → Same t.modulus (earned t up y a u + earned t down y (act t.quandle up y a) (act t.quandle up y u)) 0
back_nothing t up down y a u out = elim out [
  | inl o ↦ plain (ap₂ (λ m n. m + n) (no_column t up y a u o) (no_column t down y (act t.quandle up y a) (act t.quandle up y u) o))
  | inr (inl o) ↦ plain (ap₂ (λ m n. m + n) (no_colour t up y a u o)
      (ap (λ b. earned t down y b (act t.quandle up y u)) (act_outside t.quandle up y a (inl o)) ∙ no_colour t down y a (act t.quandle up y u) o))
  | inr (inr o) ↦ plain (ap₂ (λ m n. m + n) (no_region t up y a u o)
      (ap (earned t down y (act t.quandle up y a)) (act_outside t.quandle up y u (inl o)) ∙ no_region t down y (act t.quandle up y a) u o))
]

-- all three are colours, or one is not
either : (n y a u : ℕ) → ((y < n) × (a < n) × (u < n)) ⊎ ((n ≤ y) ⊎ ((n ≤ a) ⊎ (n ≤ u)))
either n y a u = elim (cases_lt y n) [
  | inr o ↦ inr (inl o)
  | inl ly ↦ elim (cases_lt a n) [
    | inr o ↦ inr (inr (inl o))
    | inl la ↦ elim (cases_lt u n) [ inr o ↦ inr (inr (inr o)) | inl lu ↦ inl (ly, la, lu) ]
  ]
]

-- θ(w ◁ y, x ◁ y, y) is taken away, and added again
earned_up_down : (t : ShadowCochain) → IsShadowCocycle t → (y a u : ℕ)
    → Same t.modulus (earned t true y a u + earned t false y (act t.quandle true y a) (act t.quandle true y u)) 0
earned_up_down t cocycle y a u = elim (either t.quandle.order y a u) [
  | inr out ↦ back_nothing t true false y a u out
  | inl l ↦
      let q = cocycle.quandle in
      let lb = q.back_within a y l.1 l.0 in
      let lv = q.back_within u y l.2 l.0 in
      let most = cocycle.within (back t.quandle u y) (back t.quandle a y) y lv lb l.0 in
      let two : earned t false y (act t.quandle true y a) (act t.quandle true y u) ≡ shadow_value t (back t.quandle u y) (back t.quandle a y) y =
      ap₂ (λ m n. earned t false y m n) (act_up t.quandle y a l.0 l.1) (act_up t.quandle y u l.0 l.2)
      ∙ earned_inside t false y (back t.quandle a y) (back t.quandle u y) l.0 lb lv in
      by_one (same_minus t.modulus (shadow_value t (back t.quandle u y) (back t.quandle a y) y) (omega (arith, cocycle.least)) (omega (arith, most)))
      (omega (arith, earned_inside t true y a u l.0 l.1 l.2, two))
]

earned_down_up : (t : ShadowCochain) → IsShadowCocycle t → (y a u : ℕ)
    → Same t.modulus (earned t false y a u + earned t true y (act t.quandle false y a) (act t.quandle false y u)) 0
earned_down_up t cocycle y a u = elim (either t.quandle.order y a u) [
  | inr out ↦ back_nothing t false true y a u out
  | inl l ↦
      let q = cocycle.quandle in
      let lb = q.within a y l.1 l.0 in
      let lv = q.within u y l.2 l.0 in
      let most = cocycle.within u a y l.2 l.1 l.0 in
      let two : earned t true y (act t.quandle false y a) (act t.quandle false y u) ≡ (t.modulus - shadow_value t u a y) % t.modulus =
      ap₂ (λ m n. earned t true y m n) (act_down t.quandle y a l.0 l.1) (act_down t.quandle y u l.0 l.2)
      ∙ (earned_inside t true y (over t.quandle a y) (over t.quandle u y) l.0 lb lv
      ∙ ap₂ (λ m n. (t.modulus - shadow_value t m n y) % t.modulus) (q.back_over u y l.2 l.0) (q.back_over a y l.1 l.0)) in
      by_one (same_minus t.modulus (shadow_value t u a y) (omega (arith, cocycle.least)) (omega (arith, most)))
      (omega (arith, earned_inside t false y a u l.0 l.1 l.2, two))
]

earned_own : (t : ShadowCochain) → IsShadowCocycle t → (up : Bool) (y u : ℕ) → Same t.modulus (earned t up y y u) 0
earned_own t cocycle up y u = elim (either t.quandle.order y y u) [
  | inr (inl o) ↦ plain (no_column t up y y u o)
  | inr (inr (inl o)) ↦ plain (no_column t up y y u o)
  | inr (inr (inr o)) ↦ plain (no_region t up y y u o)
  | inl l ↦ by_way up l
]
  where
    by_way : (up : Bool) → (y < t.quandle.order) × (y < t.quandle.order) × (u < t.quandle.order) → Same t.modulus (earned t up y y u) 0
    by_way false l = plain (earned_inside t false y y u l.0 l.1 l.2 ∙ cocycle.diagonal u y l.2 l.0)
    by_way true l =
        let q = cocycle.quandle in
        let same : back t.quandle y y ≡ y = ap (λ z. back t.quandle z y) (sym (q.idempotent y l.0)) ∙ q.back_over y y l.0 l.0 in
        let none : shadow_value t (back t.quandle u y) (back t.quandle y y) y ≡ 0 =
        ap (λ z. shadow_value t (back t.quandle u y) z y) same ∙ cocycle.diagonal (back t.quandle u y) y (q.back_within u y l.2 l.0) l.0 in
        by_one (same_minus t.modulus (shadow_value t (back t.quandle u y) (back t.quandle y y) y) (omega (arith, cocycle.least)) (omega (arith, none)))
        (omega (arith, earned_inside t true y y u l.0 l.1 l.2, none))

earned_third : (t : ShadowCochain) → IsShadowCocycle t → (z y a u : ℕ)
    → Same t.modulus (earned t false y a u + earned t false z (act t.quandle false y a) (act t.quandle false y u) + earned t false z y u)
    (earned t false z a u + earned t false (act t.quandle false z y) (act t.quandle false z a) (act t.quandle false z u)
    + earned t false z y (act t.quandle false a u))
earned_third t cocycle z y a u =
    let q = cocycle.quandle in
    elim (cases_lt z t.quandle.order) [
      | inr out ↦
          plain (omega (
            arith,
            no_column t false z (act t.quandle false y a) (act t.quandle false y u) out,
            no_column t false z y u out,
            no_column t false z a u out,
            no_column t false z y (act t.quandle false a u) out,
            ap (λ m. earned t false m (act t.quandle false z a) (act t.quandle false z u)) (act_outside t.quandle false z y (inr out))
                ∙ ap₂ (λ m n. earned t false y m n) (act_outside t.quandle false z a (inr out)) (act_outside t.quandle false z u (inr out)),
          ))
      | inl lz ↦ elim (either t.quandle.order y a u) [
        | inr (inl out) ↦
            plain (omega (
              arith,
              no_column t false y a u out,
              ap₂ (λ m n. earned t false z m n) (act_outside t.quandle false y a (inr out)) (act_outside t.quandle false y u (inr out)),
              no_colour t false z y u out,
              no_colour t false z y (act t.quandle false a u) out,
              ap (λ m. earned t false m (act t.quandle false z a) (act t.quandle false z u)) (act_outside t.quandle false z y (inl out))
                  ∙ no_column t false y (act t.quandle false z a) (act t.quandle false z u) out,
            ))
        | inr (inr (inl out)) ↦
            plain (omega (
              arith,
              no_colour t false y a u out,
              ap (λ m. earned t false z m (act t.quandle false y u)) (act_outside t.quandle false y a (inl out))
                  ∙ no_colour t false z a (act t.quandle false y u) out,
              no_colour t false z a u out,
              ap (λ m. earned t false (act t.quandle false z y) m (act t.quandle false z u)) (act_outside t.quandle false z a (inl out))
                  ∙ no_colour t false (act t.quandle false z y) a (act t.quandle false z u) out,
              ap (earned t false z y) (act_outside t.quandle false a u (inr out)),
            ))
        | inr (inr (inr out)) ↦
            plain (omega (
              arith,
              no_region t false y a u out,
              ap (earned t false z (act t.quandle false y a)) (act_outside t.quandle false y u (inl out)) ∙ no_region t false z (act t.quandle false y a) u out,
              no_region t false z y u out,
              no_region t false z a u out,
              ap (earned t false (act t.quandle false z y) (act t.quandle false z a)) (act_outside t.quandle false z u (inl out))
                  ∙ no_region t false (act t.quandle false z y) (act t.quandle false z a) u out,
              ap (earned t false z y) (act_outside t.quandle false a u (inl out)) ∙ no_region t false z y u out,
            ))
        | inl l ↦
            let ly = l.0 in
            let la = l.1 in
            let lu = l.2 in
            let one : earned t false y a u ≡ shadow_value t u a y = earned_inside t false y a u ly la lu in
            let two : earned t false z (act t.quandle false y a) (act t.quandle false y u) ≡ shadow_value t (over t.quandle u y) (over t.quandle a y) z =
            ap₂ (λ m n. earned t false z m n) (act_down t.quandle y a ly la) (act_down t.quandle y u ly lu)
            ∙ earned_inside t false z (over t.quandle a y) (over t.quandle u y) lz (q.within a y la ly) (q.within u y lu ly) in
            let three : earned t false z y u ≡ shadow_value t u y z = earned_inside t false z y u lz ly lu in
            let four : earned t false z a u ≡ shadow_value t u a z = earned_inside t false z a u lz la lu in
            let five : earned t false (act t.quandle false z y) (act t.quandle false z a) (act t.quandle false z u)
            ≡ shadow_value t (over t.quandle u z) (over t.quandle a z) (over t.quandle y z) =
            ap (λ m. earned t false m (act t.quandle false z a) (act t.quandle false z u)) (act_down t.quandle z y lz ly)
            ∙ ap₂ (λ m n. earned t false (over t.quandle y z) m n) (act_down t.quandle z a lz la) (act_down t.quandle z u lz lu)
            ∙ earned_inside t false (over t.quandle y z) (over t.quandle a z) (over t.quandle u z) (q.within y z ly lz) (q.within a z la lz)
            (q.within u z lu lz) in
            let six : earned t false z y (act t.quandle false a u) ≡ shadow_value t (over t.quandle u a) y z =
            ap (earned t false z y) (act_down t.quandle a u la lu) ∙ earned_inside t false z y (over t.quandle u a) lz ly (q.within u a lu la) in
            by_one (same_from_mod t.modulus (one_side t u a y z) (other_side t u a y z) (omega (arith, cocycle.least)) (cocycle.law u a y z lu la ly lz))
            (omega (arith, one, two, three, four, five, six))
      ]
    ]

pub earned_weighs : (t : ShadowCochain) → IsShadowCocycle t → Weighs t.modulus (act t.quandle) (earned t)
earned_weighs t cocycle =
    record { own = earned_own t cocycle; up_down = earned_up_down t cocycle; down_up = earned_down_up t cocycle; third = earned_third t cocycle }
