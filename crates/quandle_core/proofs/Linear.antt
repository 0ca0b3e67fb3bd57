-- The tables of a x + b y mod n, where a + b is 1 mod n and a has an inverse mod n.
use Rattle.std.proofs.Common.{◌≡◌, ◌<◌, ◌≤◌, ◌+◌, ◌-◌, ◌*◌, ◌%◌, ◌==◌, ◌∙◌, ℕ, Bool, true, false, refl, sym, subst, ap, ap₂, arith}
use Rattle.std.specs.List.{range_with_len, list_any}
use Rattle.std.proofs.lemmas.List.FromFn.{get_or-range_with_len, length-range_with_len}
use Rattle.std.proofs.lemmas.List.Folds.{list_any_at, list_any_none, Any-from_list_any}
use Rattle.std.proofs.lemmas.Nat.{mod_below, mul-mod_first, mul-mod_second}
use Rattle.std.proofs.Math.Nat.{add-mod, add-mod_left, add-mul-mod_self_left, mod-eq_of_lt}
use Rattle.quandle_core.specs.Quandle.{IsQuandle, over, back}
use Rattle.quandle_core.specs.Tables.{linear, trivial, dihedral, alexander, tetrahedral, is_unit}
use Rattle.std.proofs.lemmas.Bool.{eqb-true, eq-eqb}
use Rattle.quandle_core.proofs.Entries.{entry, length_entries, same_table}
use Rattle.quandle_core.proofs.Accepted.{quandle_from, quandle_from_none}

-- a test of the numbers below n, case by case
pub any_range : (p : ℕ → Bool) (n u : ℕ) → u < n → p u ≡ true → list_any p (range_with_len 0 n) ≡ true
any_range p n u lt e =
    list_any_at p (range_with_len 0 n) u 0 (omega (arith, length-range_with_len 0 n)) (ap p (get_or-range_with_len 0 n u 0 lt ∙ omega arith) ∙ e)

pub none_range : (p : ℕ → Bool) (n : ℕ) → ((u : ℕ) → u < n → p u ≡ false) → list_any p (range_with_len 0 n) ≡ false
none_range p n fails =
    list_any_none p (range_with_len 0 n)
    (λ k d at. let lt : k < n = omega (arith, at, length-range_with_len 0 n) in ap p (get_or-range_with_len 0 n k d lt ∙ omega arith) ∙ fails k lt)

-- a product with a number that is 1 mod n
times_one : (n s z : ℕ) → s % n ≡ 1 % n → (s * z) % n ≡ z % n
times_one n s z one = sym (mul-mod_first s z n) ∙ (ap (λ r. (r * z) % n) one ∙ (mul-mod_first 1 z n ∙ ap (λ w. w % n) (omega arith)))

-- a sum of which one part changes by a multiple of n
plus_mod : (n a b c d : ℕ) → a % n ≡ c % n → b % n ≡ d % n → (a + b) % n ≡ (c + d) % n
plus_mod n a b c d first second = add-mod a b n ∙ (ap₂ (λ s t. (s + t) % n) first second ∙ sym (add-mod c d n))

same_first : (n a b x : ℕ) → (a + b) % n ≡ 1 % n → x < n → (a * x + b * x) % n ≡ x
same_first n a b x one lt = ap (λ w. w % n) (omega arith) ∙ (times_one n (a + b) x one ∙ mod-eq_of_lt lt)

third : (n a b x y z : ℕ) → (a + b) % n ≡ 1 % n → (a * ((a * x + b * y) % n) + b * z) % n ≡ (a * ((a * x + b * z) % n) + b * ((a * y + b * z) % n)) % n
third n a b x y z one =
    plus_mod n (a * ((a * x + b * y) % n)) (b * z) (a * (a * x + b * y)) ((a + b) * (b * z)) (mul-mod_second a (a * x + b * y) n)
    (sym (times_one n (a + b) (b * z) one))
    ∙ (ap (λ w. w % n) (expand a b x y z)
    ∙ sym (plus_mod n (a * ((a * x + b * z) % n)) (b * ((a * y + b * z) % n)) (a * (a * x + b * z)) (b * (a * y + b * z)) (mul-mod_second a (a * x + b * z) n)
    (mul-mod_second b (a * y + b * z) n)))
  where
    expand : (a b x y z : ℕ) → a * (a * x + b * y) + (a + b) * (b * z) ≡ a * (a * x + b * z) + b * (a * y + b * z)
    expand a b x y z = omega arith

-- from a x + b y mod n and y back to x
recovered : (n a b u x y : ℕ) → (a * u) % n ≡ 1 % n → x < n → (u * ((a * x + b * y) % n) + (n - 1) * (u * (b * y))) % n ≡ x
recovered n a b u x y unit lt =
    plus_mod n (u * ((a * x + b * y) % n)) ((n - 1) * (u * (b * y))) (u * (a * x + b * y)) ((n - 1) * (u * (b * y))) (mul-mod_second u (a * x + b * y) n) refl
    ∙ (ap (λ w. w % n) (gather a b u x y (n - 1) n (omega arith))
    ∙ (add-mul-mod_self_left ((a * u) * x) n (u * (b * y)) ∙ (times_one n (a * u) x unit ∙ mod-eq_of_lt lt)))
  where
    gather : (a b u x y m n : ℕ) → m + 1 ≡ n → u * (a * x + b * y) + m * (u * (b * y)) ≡ (a * u) * x + n * (u * (b * y))
    gather a b u x y m n e = let whole : (m + 1) * (u * (b * y)) ≡ n * (u * (b * y)) = ap (λ k. k * (u * (b * y))) e in omega arith

pub linear_is : (n a b u : ℕ) → 1 ≤ n → (a + b) % n ≡ 1 % n → (a * u) % n ≡ 1 % n → IsQuandle (linear n a b)
linear_is n a b u least one unit =
    let f : ℕ → ℕ → ℕ = λ x y. (a * x + b * y) % n in
    let small : (x y : ℕ) → f x y < n = λ x y. mod_below (a * x + b * y) n least in
    let at : (x y : ℕ) → x < n → y < n → over (linear n a b) x y ≡ f x y = λ x y lt also. entry n f x y lt also in
    quandle_from (linear n a b) least (length_entries n f)
    (λ x y lt also. let e = at x y lt also in let s = small x y in omega arith)
    (λ x lt. at x x lt lt ∙ same_first n a b x one lt)
    (λ x z y lt also by_y e.
    let same : f x y ≡ f z y = sym (at x y lt by_y) ∙ (e ∙ at z y also by_y) in
    sym (recovered n a b u x y unit lt) ∙ (ap (λ w. (u * w + (n - 1) * (u * (b * y))) % n) same ∙ recovered n a b u z y unit also))
    (λ x y z lt by_y by_z.
    ap (λ w. over (linear n a b) w z) (at x y lt by_y)
    ∙ (at (f x y) z (small x y) by_z
    ∙ (third n a b x y z one
    ∙ (sym (at (f x z) (f y z) (small x z) (small y z))
    ∙ ap₂ (λ v w. over (linear n a b) v w) (sym (at x z lt by_z)) (sym (at y z by_y by_z))))))

-- the trivial tables
pub trivial_linear : (n : ℕ) → linear n 1 0 ≡ trivial n
trivial_linear n = same_table n (λ x y. (1 * x + 0 * y) % n) (λ x y. x) (λ x y lt also. ap (λ w. w % n) (omega arith) ∙ mod-eq_of_lt lt)

pub trivial_laws : (n : ℕ) → 1 ≤ n → IsQuandle (linear n 1 0)
trivial_laws n least = linear_is n 1 0 1 least refl refl

pub trivial_is : (n : ℕ) → 1 ≤ n → IsQuandle (trivial n)
trivial_is n least = subst IsQuandle (trivial_linear n) (trivial_laws n least)

-- the dihedral tables
pub dihedral_linear : (n : ℕ) → 1 ≤ n → linear n (n - 1) 2 ≡ dihedral n
dihedral_linear n least =
    same_table n (λ x y. ((n - 1) * x + 2 * y) % n) (λ x y. (2 * y + (n - x)) % n) (λ x y lt also. turned n (n - 1) (n - x) x y (omega arith) (omega arith))
  where
    turned : (n m k x y : ℕ) → m + 1 ≡ n → k + x ≡ n → (m * x + 2 * y) % n ≡ (2 * y + k) % n
    turned n m k x y less rest =
        sym (add-mul-mod_self_left (m * x + 2 * y) n 1)
        ∙ (ap (λ w. w % n) (let all : (m + 1) * x ≡ n * x = ap (λ s. s * x) less in let e : m * x + 2 * y + n * 1 ≡ 2 * y + k + n * x = omega arith in e)
        ∙ add-mul-mod_self_left (2 * y + k) n x)

pub dihedral_laws : (n : ℕ) → 1 ≤ n → IsQuandle (linear n (n - 1) 2)
dihedral_laws n least =
    linear_is n (n - 1) 2 (n - 1) least (ap (λ w. w % n) (let e : n - 1 + 2 ≡ n + 1 = omega arith in e) ∙ add-mod_left n 1)
    (squared n (n - 1) (omega arith))
  where
    squared : (n m : ℕ) → m + 1 ≡ n → (m * m) % n ≡ 1 % n
    squared n m e =
        let all : (m + 1) * m ≡ n * m = ap (λ s. s * m) e in
        sym (add-mul-mod_self_left (m * m) n 1) ∙ (ap (λ w. w % n) (let f : m * m + n * 1 ≡ 1 + n * m = omega arith in f) ∙ add-mul-mod_self_left 1 n m)

pub dihedral_is : (n : ℕ) → 1 ≤ n → IsQuandle (dihedral n)
dihedral_is n least = subst IsQuandle (dihedral_linear n least) (dihedral_laws n least)

-- the Alexander tables
pub alexander_linear : (n t : ℕ) → linear n (t % n) (n + 1 - t % n) ≡ alexander n t
alexander_linear n t =
    same_table n (λ x y. (t % n * x + (n + 1 - t % n) * y) % n) (λ x y. (t * x + (n + 1 - t % n) * y) % n)
    (λ x y lt also. plus_mod n (t % n * x) ((n + 1 - t % n) * y) (t * x) ((n + 1 - t % n) * y) (mul-mod_first t x n) refl)

pub alexander_laws : (n t : ℕ) → 1 ≤ n → is_unit n t ≡ true → IsQuandle (linear n (t % n) (n + 1 - t % n))
alexander_laws n t least unit =
    let found = Any-from_list_any (λ u. (t * u) % n == 1 % n) (range_with_len 0 n) unit in
    let below : t % n < n = mod_below t n least in
    linear_is n (t % n) (n + 1 - t % n) found.1 least
    (ap (λ w. w % n) (let e : t % n + (n + 1 - t % n) ≡ n + 1 = omega arith in e) ∙ add-mod_left n 1)
    (mul-mod_first t found.1 n ∙ eqb-true ((t * found.1) % n) (1 % n) found.4)

pub alexander_is : (n t : ℕ) → 1 ≤ n → is_unit n t ≡ true → IsQuandle (alexander n t)
alexander_is n t least unit = subst IsQuandle (alexander_linear n t) (alexander_laws n t least unit)

-- x ↦ x ▷ 0 reaches 1, so t has an inverse
pub alexander_unit : (n t : ℕ) → 1 ≤ n → IsQuandle (alexander n t) → is_unit n t ≡ true
alexander_unit n t least q =
    let f : ℕ → ℕ → ℕ = λ x y. (t * x + (n + 1 - t % n) * y) % n in
    let one : 1 % n < n = mod_below 1 n least in
    let u : ℕ = back (alexander n t) (1 % n) 0 in
    let lt : u < n = q.back_within (1 % n) 0 one least in
    any_range (λ u. (t * u) % n == 1 % n) n u lt
    (eq-eqb ((t * u) % n) (1 % n)
    (ap (λ w. w % n) (let e : t * u ≡ t * u + (n + 1 - t % n) * 0 = omega arith in e) ∙ (sym (entry n f u 0 lt least) ∙ q.over_back (1 % n) 0 one least)))

-- the tetrahedral table, by computing
pub tetrahedral_is : IsQuandle tetrahedral
tetrahedral_is = quandle_from_none tetrahedral refl
