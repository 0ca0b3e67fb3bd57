-- Numbers round a circle: which shift brings one place to another.
use Rattle.std.proofs.Common.{◌≡◌, ◌≢◌, ◌<◌, ◌≤◌, ◌+◌, ◌-◌, ◌∙◌, ℕ, arith, sym, ap, inl, inr}
use Rattle.std.proofs.lemmas.Bool.{cases_eq}
use Rattle.std.proofs.lemmas.Bool.Decides.{nat_tests}
use Rattle.grid_core.specs.Places.{lifted}
use Rattle.grid_moves.specs.Shift.{shifted}
use Rattle.grid_moves.specs.Exchange.{exchanged}
use Rattle.grid_moves.proofs.Shifted.{shifted_below}
use Rattle.grid_keys.proofs.Translated.{origin, origin_cases, shifted_cases}

-- the shift by (c - p) brings c to p
pub brought : (n p c : ℕ) → p < n → c < n → shifted n (shifted n p c) c ≡ p
brought n p c hp hc =
    let one = shifted_cases n p c hp hc in
    let two = shifted_cases n (shifted n p c) c (shifted_below n p c hp hc) hc in
    grind arith

-- and the next one to the next
pub brought_next : (n p c : ℕ) → p + 1 < n → c + 1 < n → shifted n (shifted n p c) (c + 1) ≡ p + 1
brought_next n p c hp hc =
    let one = shifted_cases n p c (omega (arith, hp)) (omega (arith, hc)) in
    let two = shifted_cases n (shifted n p c) (c + 1) (shifted_below n p c (omega (arith, hp)) (omega (arith, hc))) hc in
    grind arith

-- what was shifted by a is then shifted by t, where the place p of the one is the place c of the other
pub brought_from : (n a c p t : ℕ) → a < n → c < n → p < n → t < n → origin n t p ≡ origin n a c → origin n (shifted n p c) a ≡ t
brought_from n a c p t ha hc hp ht e =
    let one = shifted_cases n p c hp hc in
    let two = origin_cases n (shifted n p c) a (shifted_below n p c hp hc) ha in
    let near = origin_cases n t p ht hp in
    let far = origin_cases n a c ha hc in
    grind (arith, e)

-- the next one, where it came from
-- two neighbours that trade their numbers, seen from another place
pub exchanged_along : (n i j : ℕ) (f : ℕ → ℕ) → ((b c : ℕ) → b < n → c < n → f b ≡ f c → b ≡ c) → i + 1 < n → f i ≡ j → f (i + 1) ≡ j + 1 → (z : ℕ) → z < n
    → f (exchanged i z) ≡ exchanged j (f z)
exchanged_along n i j f same inside first second z lt = elim (cases_eq z i) [
  | inl e ↦
      ap f (let is : exchanged i z ≡ i + 1 = grind (arith, nat_tests) in is) ∙ second
      ∙ sym (ap (λ (w : ℕ). exchanged j w) (ap f e ∙ first) ∙ (let is : exchanged j j ≡ j + 1 = grind (arith, nat_tests) in is))
  | inr ne ↦ elim (cases_eq z (i + 1)) [
    | inl e ↦
        ap f (let is : exchanged i z ≡ i = grind (arith, nat_tests) in is) ∙ first
        ∙ sym (ap (λ (w : ℕ). exchanged j w) (ap f e ∙ second) ∙ (let is : exchanged j (j + 1) ≡ j = grind (arith, nat_tests) in is))
    | inr far ↦
        ap f (let is : exchanged i z ≡ z = grind (arith, nat_tests) in is)
        ∙ sym (stays (f z) (λ e. ne (same z i lt (omega (arith, inside)) (e ∙ sym first))) (λ e. far (same z (i + 1) lt inside (e ∙ sym second))))
  ]
]
  where
    stays : (w : ℕ) → w ≢ j → w ≢ j + 1 → exchanged j w ≡ w
    stays w a b = grind (arith, nat_tests)

-- a doubled column, seen from another place: the others follow it round the circle
pub lifted_brought : (m p c b : ℕ) → p < m → c < m → b < m → b ≢ c
    → shifted (m + 1) (shifted (m + 1) p c) (lifted (c + 1) b) ≡ lifted (p + 1) (shifted m (shifted m p c) b)
lifted_brought m p c b hp hc hb ne =
    let k = shifted_cases m p c hp hc in
    let k' = shifted_cases (m + 1) p c (omega (arith, hp)) (omega (arith, hc)) in
    let one = shifted_cases m (shifted m p c) b (shifted_below m p c hp hc) hb in
    let low : lifted (c + 1) b < m + 1 = grind (arith, nat_tests) in
    let two = shifted_cases (m + 1) (shifted (m + 1) p c) (lifted (c + 1) b) (shifted_below (m + 1) p c (omega (arith, hp)) (omega (arith, hc))) low in
    grind (arith, nat_tests)

-- the two columns of a block, brought to another place
pub brought_by : (n p c j : ℕ) → j ≤ 1 → p + 1 < n → c + 1 < n → shifted n (shifted n p c) (c + j) ≡ p + j
brought_by n p c j le hp hc = elim (cases_eq j 0) [
  | inl e ↦
      ap (λ (z : ℕ). shifted n (shifted n p c) z) (let is : c + j ≡ c = omega (arith, e) in is) ∙ brought n p c (omega (arith, hp)) (omega (arith, hc))
      ∙ omega (arith, e)
  | inr ne ↦
      ap (λ (z : ℕ). shifted n (shifted n p c) z) (let is : c + j ≡ c + 1 = omega (arith, ne, le) in is) ∙ brought_next n p c hp hc ∙ omega (arith, ne, le)
]

pub brought_other : (n p c j : ℕ) → j ≤ 1 → p + 1 < n → c + 1 < n → shifted n (shifted n p c) (c + 1 - j) ≡ p + 1 - j
brought_other n p c j le hp hc =
    ap (λ (z : ℕ). shifted n (shifted n p c) z) (let is : c + 1 - j ≡ c + (1 - j) = omega (arith, le) in is) ∙ brought_by n p c (1 - j) (omega arith) hp hc
    ∙ omega (arith, le)
