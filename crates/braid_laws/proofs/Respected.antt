-- The action respects the quandle: it commutes with each x ↦ x ▷ z, and with each x ↦ x ◁ z.
use Rattle.std.proofs.Common.{◌≡◌, ◌<◌, ◌≤◌, ◌+◌, ◌-◌, ◌∷◌, ◌∙◌, [], ℕ, ℤ, pos, negsuc, List, All, map, set, length, arith, sym, refl, ap, ap₂}
use Rattle.std.proofs.lemmas.List.{get_or-map, map-set}
use Rattle.std.proofs.lemmas.List.Elements.{All-head, All-tail}
use Rattle.quandle_core.specs.Quandle.{Table, IsQuandle, over, back}
use Rattle.braid_core.specs.Braid.{IsLetter}
use Rattle.braid_core.specs.Action.{IsTuple, colour_at, with_pair, positive, negative, letter_action, action}
use Rattle.braid_laws.proofs.Letters.{low_colour, high_colour, letter_stays}

-- h takes colours to colours and commutes with both operations
record Respects (t : Table) (h : ℕ → ℕ) : Type 0 where
  within : (x : ℕ) → x < t.order → h x < t.order
  over_kept : (x y : ℕ) → x < t.order → y < t.order → over t (h x) (h y) ≡ h (over t x y)
  back_kept : (x y : ℕ) → x < t.order → y < t.order → back t (h x) (h y) ≡ h (back t x y)

-- what commutes with ▷ commutes with ◁
respects : (t : Table) → IsQuandle t → (h : ℕ → ℕ) → ((x : ℕ) → x < t.order → h x < t.order)
    → ((x y : ℕ) → x < t.order → y < t.order → over t (h x) (h y) ≡ h (over t x y)) → Respects t h
respects t q h within kept = record {
  within = within;
  over_kept = kept;
  back_kept = λ x y at_x at_y.
      let z = back t x y in
      let at_z = q.back_within x y at_x at_y in
      let image : over t (h z) (h y) ≡ h x = kept z y at_z at_y ∙ ap h (q.over_back x y at_x at_y) in
      ap (λ (w : ℕ). back t w (h y)) (sym image) ∙ q.back_over (h z) (h y) (within z at_z) (within y at_y);
}

over_respects : (t : Table) → IsQuandle t → (z : ℕ) → z < t.order → Respects t (λ y. over t y z)
over_respects t q z at_z =
    respects t q (λ y. over t y z) (λ x at_x. q.within x z at_x at_z) (λ x y at_x at_y. sym (q.distributive x y z at_x at_y at_z))

back_respects : (t : Table) → IsQuandle t → (z : ℕ) → z < t.order → Respects t (λ y. back t y z)
back_respects t q z at_z = respects t q (λ y. back t y z) (λ x at_x. q.back_within x z at_x at_z) (λ x y at_x at_y. kept x y at_x at_y)
  where
    kept : (x y : ℕ) → x < t.order → y < t.order → over t (back t x z) (back t y z) ≡ back t (over t x y) z
    kept x y at_x at_y =
        let u = back t x z in
        let v = back t y z in
        let at_u = q.back_within x z at_x at_z in
        let at_v = q.back_within y z at_y at_z in
        let image : over t (over t u v) z ≡ over t x y =
        q.distributive u v z at_u at_v at_z ∙ ap₂ (over t) (q.over_back x z at_x at_z) (q.over_back y z at_y at_z) in
        sym (q.back_over (over t u v) z (q.within u v at_u at_v) at_z) ∙ ap (λ (w : ℕ). back t w z) image

-- h of all colours, where a pair was written and where one is read
pair_mapped : (h : ℕ → ℕ) (xs : List ℕ) (k y z : ℕ) → map h (with_pair xs k y z) ≡ with_pair (map h xs) k (h y) (h z)
pair_mapped h xs k y z = map-set h (set xs (k - 1) y) k z ∙ ap (λ (zs : List ℕ). set zs k (h z)) (map-set h xs (k - 1) y)

colour_mapped : (h : ℕ → ℕ) (xs : List ℕ) (k : ℕ) → k - 1 < length xs → colour_at (map h xs) k ≡ h (colour_at xs k)
colour_mapped h xs k lt = get_or-map h xs (k - 1) 0 0 lt

positive_respects : (t : Table) (h : ℕ → ℕ) → Respects t h → (m k : ℕ) (xs : List ℕ) → 1 ≤ k → k < m → IsTuple t m xs
    → positive t k (map h xs) ≡ map h (positive t k xs)
positive_respects t h r m k xs least lt tuple =
    let x = colour_at xs k in
    let y = colour_at xs (k + 1) in
    let low = colour_mapped h xs k (omega (arith, tuple.0)) in
    let high = colour_mapped h xs (k + 1) (omega (arith, tuple.0)) in
    ap₂ (with_pair (map h xs) k) (ap₂ (over t) high low ∙ r.over_kept y x (high_colour t m k xs least lt tuple) (low_colour t m k xs least lt tuple)) low
    ∙ sym (pair_mapped h xs k (over t y x) x)

negative_respects : (t : Table) (h : ℕ → ℕ) → Respects t h → (m k : ℕ) (xs : List ℕ) → 1 ≤ k → k < m → IsTuple t m xs
    → negative t k (map h xs) ≡ map h (negative t k xs)
negative_respects t h r m k xs least lt tuple =
    let x = colour_at xs k in
    let y = colour_at xs (k + 1) in
    let low = colour_mapped h xs k (omega (arith, tuple.0)) in
    let high = colour_mapped h xs (k + 1) (omega (arith, tuple.0)) in
    ap₂ (with_pair (map h xs) k) high (ap₂ (back t) low high ∙ r.back_kept x y (low_colour t m k xs least lt tuple) (high_colour t m k xs least lt tuple))
    ∙ sym (pair_mapped h xs k y (back t x y))

letter_respects : (t : Table) (h : ℕ → ℕ) → Respects t h → (m : ℕ) (a : ℤ) → IsLetter m a → (xs : List ℕ) → IsTuple t m xs
    → letter_action t (map h xs) a ≡ map h (letter_action t xs a)
letter_respects t h r m (pos k) letter xs tuple = positive_respects t h r m k xs letter.least letter.most tuple
letter_respects t h r m (negsuc k) letter xs tuple =
    let most = letter.most in
    negative_respects t h r m (k + 1) xs (omega arith) (omega arith) tuple

-- letter by letter
action_respects : (t : Table) → IsQuandle t → (h : ℕ → ℕ) → Respects t h → (m : ℕ) (letters : List ℤ) → All (IsLetter m) letters → (xs : List ℕ)
    → IsTuple t m xs → action t letters (map h xs) ≡ map h (action t letters xs)
action_respects t q h r m [] all xs tuple = refl
action_respects t q h r m (a ∷ letters) all xs tuple =
    let letter = All-head (IsLetter m) a letters all in
    ap (action t letters) (letter_respects t h r m a letter xs tuple)
    ∙ action_respects t q h r m letters (All-tail (IsLetter m) a letters all) (letter_action t xs a) (letter_stays t q m a letter xs tuple)

pub over_commutes : (t : Table) → IsQuandle t → (m : ℕ) (letters : List ℤ) → All (IsLetter m) letters → (xs : List ℕ) → IsTuple t m xs → (z : ℕ) → z < t.order
    → action t letters (map (λ y. over t y z) xs) ≡ map (λ y. over t y z) (action t letters xs)
over_commutes t q m letters all xs tuple z at_z = action_respects t q (λ y. over t y z) (over_respects t q z at_z) m letters all xs tuple

pub back_commutes : (t : Table) → IsQuandle t → (m : ℕ) (letters : List ℤ) → All (IsLetter m) letters → (xs : List ℕ) → IsTuple t m xs → (z : ℕ) → z < t.order
    → action t letters (map (λ y. back t y z) xs) ≡ map (λ y. back t y z) (action t letters xs)
back_commutes t q m letters all xs tuple z at_z = action_respects t q (λ y. back t y z) (back_respects t q z at_z) m letters all xs tuple
