-- Counts by weight, list by list.
use Rattle.std.proofs.Common.{◌≡◌, ◌<◌, ◌≤◌, ◌+◌, ◌*◌, ◌^◌, ◌++◌, ◌∙◌, ℕ, List, [], ◌∷◌, Bool, true, length, map, get_or, sym, ap, arith}
use Rattle.std.specs.List.{flat_map, range_with_len, sum_by}
use Rattle.std.proofs.Math.Nat.{mul-le-mul_right}
use Rattle.std.proofs.lemmas.Bool.{leb-true}
use Rattle.std.proofs.lemmas.List.FromFn.{get_or-map-range_with_len, length-map-range_with_len}
use Rattle.std.proofs.lemmas.List.Sums.{sum_by-cons, sum_by-append}
use Rattle.grid_core.specs.Diagram.{Diagram}
use Rattle.quandle_core.specs.Quandle.{Table}
use Rattle.colour_list.specs.Level.{spread}
use Rattle.colour_seeds.specs.declared.progress.Step.{Step}
use Rattle.colour_seeds.specs.declared.counting.TheConstants.{MAX_CANDIDATES}
use Rattle.colour_seeds.specs.FewWays.{few_ways}
use Rattle.colour_seeds.specs.Plan.{seeds_in}
use Rattle.colour_seeds.specs.Leaves.{leaves}
use Rattle.colour_seeds.proofs.Settlings.{one_times}
use Rattle.colour_seeds.proofs.Tallying.{by_place, each_length, length_leaves}
use Rattle.colour_numbers.specs.Tallies.{tallied, tally}

pub tallied_at : (m : ℕ) (often : ℕ → List ℕ → ℕ) (counts : List ℕ) (level : List (List ℕ)) (v : ℕ) → v < m
    → get_or (tallied m often counts level) v 0 ≡ get_or counts v 0 + sum_by (often v) level
tallied_at m often counts level v lt = get_or-map-range_with_len (λ v. get_or counts v 0 + sum_by (often v) level) 0 m v v 0 lt (omega arith)

pub tallied_long : (m : ℕ) (often : ℕ → List ℕ → ℕ) (counts : List ℕ) (level : List (List ℕ)) → length (tallied m often counts level) ≡ m
tallied_long m often counts level = length-map-range_with_len (λ v. get_or counts v 0 + sum_by (often v) level) 0 m

pub tally_at : (m : ℕ) (often : ℕ → List ℕ → ℕ) (level : List (List ℕ)) (v : ℕ) → v < m → get_or (tally m often level) v 0 ≡ sum_by (often v) level
tally_at m often level v lt = get_or-map-range_with_len (λ v. sum_by (often v) level) 0 m v v 0 lt (omega arith)

pub tally_long : (m : ℕ) (often : ℕ → List ℕ → ℕ) (level : List (List ℕ)) → length (tally m often level) ≡ m
tally_long m often level = length-map-range_with_len (λ v. sum_by (often v) level) 0 m

pub tallied_none : (m : ℕ) (often : ℕ → List ℕ → ℕ) (counts : List ℕ) → length counts ≡ m → counts ≡ tallied m often counts []
tallied_none m often counts long =
    by_place m counts (tallied m often counts []) long (tallied_long m often counts []) (λ v lt. let e = tallied_at m often counts [] v lt in omega arith)

pub tallied_more : (m : ℕ) (often : ℕ → List ℕ → ℕ) (counts : List ℕ) (xs ys : List (List ℕ))
    → tallied m often (tallied m often counts xs) ys ≡ tallied m often counts (xs ++ ys)
tallied_more m often counts xs ys =
    by_place m (tallied m often (tallied m often counts xs) ys) (tallied m often counts (xs ++ ys)) (tallied_long m often (tallied m often counts xs) ys)
    (tallied_long m often counts (xs ++ ys))
    (λ v lt.
    let a = tallied_at m often (tallied m often counts xs) ys v lt in
    let b = tallied_at m often counts xs v lt in
    let c = tallied_at m often counts (xs ++ ys) v lt in
    let e = sum_by-append (often v) xs ys in omega arith)

-- a list has a weight at most so often as there are choices beside it
sum_small : (often : List ℕ → ℕ) (k : ℕ) → ((f : List ℕ) → often f ≤ k) → (level : List (List ℕ)) → sum_by often level ≤ length level * k
sum_small often k few [] = omega arith
sum_small often k few (f ∷ level) =
    let one = few f in
    let rest = sum_small often k few level in
    let cons = sum_by-cons often f level in
    omega arith

-- there is room for the lists of one colour more
pub room_each : (m : ℕ) (often : ℕ → List ℕ → ℕ) (k : ℕ) → ((v : ℕ) (f : List ℕ) → often v f ≤ k) → (t : Table) (d : Diagram) (steps : List Step)
    → (counts after : List ℕ) (c n v : ℕ) (f : List ℕ) → v < m → n < t.order → after ≡ tallied m often counts (flat_map (leaves t d steps) (spread n c f))
    → get_or counts v 0 + t.order * t.order ^ seeds_in steps * k < 2 ^ 32 → get_or after v 0 + t.order ^ seeds_in steps * k < 2 ^ 32
room_each m often k few t d steps counts after c n v f lt more is room =
    let level = flat_map (leaves t d steps) (spread n c f) in
    let p = t.order ^ seeds_in steps in
    let at = ap (λ (xs : List ℕ). get_or xs v 0) is ∙ tallied_at m often counts level v lt in
    let small = sum_small (often v) k (few v) level in
    let long : length level * k ≤ n * p * k = mul-le-mul_right k (each_length (leaves t d steps) p c f (length_leaves t d steps) n) in
    let up : (n + 1) * p * k ≤ t.order * p * k = mul-le-mul_right k (mul-le-mul_right p (omega arith)) in
    let times : (n + 1) * p * k ≡ n * p * k + p * k = ap (λ (q : ℕ). q * k) (one_times n p) ∙ parts (n * p) p k in
    omega (arith, at, small, long, up, times, room)
  where
    parts : (a b q : ℕ) → (a + b) * q ≡ a * q + b * q
    parts a b q = omega arith

-- ---- from nothing

zero_at : (m : ℕ) (zeros : List ℕ) → zeros ≡ map (λ v. 0) (range_with_len 0 m) → (v : ℕ) → v < m → get_or zeros v 0 ≡ 0
zero_at m zeros are v lt = ap (λ (xs : List ℕ). get_or xs v 0) are ∙ get_or-map-range_with_len (λ v. 0) 0 m v v 0 lt (omega arith)

pub zeros_long : (m : ℕ) (zeros : List ℕ) → zeros ≡ map (λ v. 0) (range_with_len 0 m) → length zeros ≡ m
zeros_long m zeros are = ap length are ∙ length-map-range_with_len (λ v. 0) 0 m

pub zeros_room : (m : ℕ) (zeros : List ℕ) (n : ℕ) → zeros ≡ map (λ v. 0) (range_with_len 0 m) → n ≤ MAX_CANDIDATES → (v : ℕ) → v < m
    → get_or zeros v 0 + n < 2 ^ 32
zeros_room m zeros n are few v lt = let z = zero_at m zeros are v lt in omega arith

pub from_nothing : (m : ℕ) (often : ℕ → List ℕ → ℕ) (zeros : List ℕ) (level : List (List ℕ)) → zeros ≡ map (λ v. 0) (range_with_len 0 m)
    → tallied m often zeros level ≡ tally m often level
from_nothing m often zeros level are =
    by_place m (tallied m often zeros level) (tally m often level) (tallied_long m often zeros level) (tally_long m often level)
    (λ v lt.
    let a = tallied_at m often zeros level v lt in
    let b = tally_at m often level v lt in
    let z = zero_at m zeros are v lt in
    omega arith)

-- ---- few choices

pub whether_fits : (t q : Table) (n s : ℕ) (b : Bool) → b ≡ few_ways t n → t ≡ q → n ≡ s → b ≡ few_ways q s
whether_fits t q n s b is same long = is ∙ (ap (λ (t : Table). few_ways t n) same ∙ ap (few_ways q) long)

pub few_choices : (q : Table) (s : ℕ) (b : Bool) → b ≡ few_ways q s → b ≡ true → q.order ^ s ≤ MAX_CANDIDATES
few_choices q s b is fine = leb-true (q.order ^ s) MAX_CANDIDATES (sym is ∙ fine)
