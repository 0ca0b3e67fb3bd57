-- A table without a fault is a quandle.
use Rattle.std.proofs.Common.{◌≡◌, ◌<◌, ◌≤◌, ◌*◌, ◌==◌, ◌&&◌, ◌||◌, ◌∙◌, inl, inr, ℕ, zero, suc, eqb, All, List, [], ◌∷◌, Bool, true, false, not, None, length}
use Rattle.std.proofs.Common.{map, get_or, refl, sym, ap, arith}
use Rattle.std.specs.Prelude.{nat_lt, nat_le}
use Rattle.std.specs.List.{range_with_len, position_or_len, list_any}
use Rattle.std.proofs.lemmas.Bool.{le-leb, eqb-true, eq-eqb, ltb-true, lt-ltb, leb-true, and_parts, and_from, not-true, cases_lt, cases_order, both_ways}
use Rattle.std.proofs.lemmas.Bool.{false≢true, ne_eqb}
use Rattle.std.proofs.lemmas.List.Elements.{All-cons, All-head, All-tail}
use Rattle.std.proofs.lemmas.List.FromFn.{get_or-range_with_len, length-range_with_len, get_or-map-range_with_len, length-map-range_with_len}
use Rattle.std.proofs.lemmas.List.Sums.{passes_at_first, fails_before_first}
use Rattle.std.proofs.lemmas.Map.Keys.{IsDistinct-from_apart}
use Rattle.std.proofs.lemmas.Map.Steps.{length-le_from_distinct_below}
use Rattle.quandle_core.specs.Quandle.{Table, IsQuandle, over, back}
use Rattle.quandle_core.specs.Fault.{first, order_fault, length_fault, range_fault, idempotent_fault, collision_fault, distributive_fault, law_fault}
use Rattle.quandle_core.specs.Fault.{first_fault_within, first_quandle_fault, range_case, idempotent_case, collision_case, distributive_case, collides}
use Rattle.quandle_core.specs.Fault.{distributes, or_else}
use Rattle.quandle_core.specs.declared.fault.QuandleFault.TheVariants.{Order, Length, Range, Idempotent, Collision, Distributive}
use Rattle.quandle_core.specs.declared.quandle.TheConstants.{MAX_ORDER}
use Rattle.quandle_core.proofs.Firsts.{first_none, first_all, unless_none, unless_true, both_none, none_else}

pub all_within : (t : Table) → range_fault t ≡ None → (x y : ℕ) → x < t.order → y < t.order → over t x y < t.order
all_within t none x y at by_y =
    ltb-true (over t x y) t.order
    (unless_none (nat_lt (over t x y) t.order) (Range x y)
    (first_none (λ y. range_case t x y) t.order y (first_none (λ x. first t.order (λ y. range_case t x y)) t.order x none at) by_y))

pub all_idempotent : (t : Table) → idempotent_fault t ≡ None → (x : ℕ) → x < t.order → over t x x ≡ x
all_idempotent t none x at = eqb-true (over t x x) x (unless_none (over t x x == x) (Idempotent x) (first_none (λ x. idempotent_case t x) t.order x none at))

pub all_distributive : (t : Table) → distributive_fault t ≡ None → (x y z : ℕ) → x < t.order → y < t.order → z < t.order
    → over t (over t x y) z ≡ over t (over t x z) (over t y z)
all_distributive t none x y z at by_y by_z =
    eqb-true (over t (over t x y) z) (over t (over t x z) (over t y z))
    (unless_none (distributes t x y z) (Distributive x y z)
    (first_none (λ z. distributive_case t x y z) t.order z
    (first_none (λ y. first t.order (λ z. distributive_case t x y z)) t.order y
    (first_none (λ x. first t.order (λ y. first t.order (λ z. distributive_case t x y z))) t.order x none at) by_y) by_z))

-- no two of a column's entries are equal
pub no_collision : (t : Table) → collision_fault t ≡ None → (x z y : ℕ) → x < z → z < t.order → y < t.order → over t x y ≡ over t z y → ⊥
no_collision t none x z y less at by_y e =
    both_ways (collides t x z y)
    (not-true (collides t x z y)
    (unless_none (not (collides t x z y)) (Collision x z y)
    (first_none (λ y. collision_case t x z y) t.order y
    (first_none (λ z. first t.order (λ y. collision_case t x z y)) t.order z
    (first_none (λ x. first t.order (λ z. first t.order (λ y. collision_case t x z y))) t.order x none (omega arith)) at) by_y)))
    (and_from (nat_lt x z) (over t x y == over t z y) (lt-ltb x z less) (eq-eqb (over t x y) (over t z y) e))

pub injective : (t : Table) → collision_fault t ≡ None → (x z y : ℕ) → x < t.order → z < t.order → y < t.order → over t x y ≡ over t z y → x ≡ z
injective t none x z y at also by_y e = elim (cases_order x z) [
  | inl same ↦ same
  | inr other ↦ elim other [
    | inl less ↦ absurd (no_collision t none x z y less also by_y e)
    | inr less ↦ absurd (no_collision t none z x y less at by_y (sym e))
  ]
]

any_step : (n q x : ℕ) (xs : List ℕ) → x < n → (list_any (eqb q) xs ≡ true → q < n) → (t : Bool) → eqb q x ≡ t → list_any (eqb q) (x ∷ xs) ≡ true → q < n
any_step n q x xs lt rest true here e = let same = eqb-true q x here in omega arith
any_step n q x xs lt rest false here e = rest (ap (λ t. t || list_any (eqb q) xs) (sym here) ∙ e)

any_below : (n q : ℕ) (xs : List ℕ) → All (λ y. y < n) xs → list_any (eqb q) xs ≡ true → q < n
any_below n q [] all e = absurd (false≢true e)
any_below n q (x ∷ xs) all e = any_step n q x xs (All-head (λ y. y < n) x xs all) (any_below n q xs (All-tail (λ y. y < n) x xs all)) (eqb q x) refl e

-- numbers below n under an injective map, with one number before them that the map does not reach
unreached : (f : ℕ → ℕ) (n b : ℕ) → ((x y : ℕ) → x < n → y < n → f x ≡ f y → x ≡ y) → ((x : ℕ) → x < n → f x ≡ b → ⊥) → (i j : ℕ) (d : ℕ) → i < j
    → j < length (b ∷ map f (range_with_len 0 n)) → eqb (get_or (b ∷ map f (range_with_len 0 n)) i d) (get_or (b ∷ map f (range_with_len 0 n)) j d) ≡ false
unreached f n b apart missed i zero d less lt = absurd (omega arith)
unreached f n b apart missed zero (suc j) d less lt =
    let at : j < n = omega (arith, lt, length-map-range_with_len f 0 n) in
    ne_eqb b (get_or (map f (range_with_len 0 n)) j d) (λ e. missed j at (sym (get_or-map-range_with_len f 0 n j j d at (omega arith)) ∙ sym e))
unreached f n b apart missed (suc i) (suc j) d less lt =
    let at : j < n = omega (arith, lt, length-map-range_with_len f 0 n) in
    let also : i < n = omega arith in
    ne_eqb (get_or (map f (range_with_len 0 n)) i d) (get_or (map f (range_with_len 0 n)) j d)
    (λ e. let same = apart i j also at (sym (get_or-map-range_with_len f 0 n i i d also (omega arith))
    ∙ (e ∙ get_or-map-range_with_len f 0 n j j d at (omega arith))) in absurd (omega arith))

-- a map of the numbers below n that takes no value twice reaches each of them
pub reached : (f : ℕ → ℕ) (n b : ℕ) → ((x : ℕ) → x < n → f x < n) → ((x y : ℕ) → x < n → y < n → f x ≡ f y → x ≡ y) → b < n
    → position_or_len (λ z. f z == b) (range_with_len 0 n) < n
reached f n b stays apart lt = elim (cases_lt (position_or_len (λ z. f z == b) (range_with_len 0 n)) n) [
  | inl less ↦ less
  | inr le ↦
      let missed : (x : ℕ) → x < n → f x ≡ b → ⊥ = λ x at e.
      both_ways (f (get_or (range_with_len 0 n) x 0) == b) (fails_before_first (λ z. f z == b) (range_with_len 0 n) x 0 (omega arith))
      (eq-eqb (f (get_or (range_with_len 0 n) x 0)) b (ap f (get_or-range_with_len 0 n x 0 at ∙ omega arith) ∙ e)) in
      let all : All (λ y. y < n) (b ∷ map f (range_with_len 0 n)) =
      All-cons (λ y. y < n) b (map f (range_with_len 0 n)) lt
      (λ k d at. let within : k < n = omega (arith, at, length-map-range_with_len f 0 n) in
      omega (arith, get_or-map-range_with_len f 0 n k k d within (omega arith), stays k within)) in
      let short = length-le_from_distinct_below (b ∷ map f (range_with_len 0 n)) n
      (IsDistinct-from_apart eqb (b ∷ map f (range_with_len 0 n)) (unreached f n b apart missed))
      (λ q e. any_below n q (b ∷ map f (range_with_len 0 n)) all e) in
      absurd (omega (arith, length-map-range_with_len f 0 n))
]

over_back_is : (t : Table) (x y : ℕ) → back t x y < t.order → over t (back t x y) y ≡ x
over_back_is t x y lt =
    let b = back t x y in
    let here : get_or (range_with_len 0 t.order) b 0 ≡ b = get_or-range_with_len 0 t.order b 0 lt ∙ omega arith in
    ap (λ z. over t z y) (sym here)
    ∙ eqb-true (over t (get_or (range_with_len 0 t.order) b 0) y) x
    (passes_at_first (λ z. over t z y == x) (range_with_len 0 t.order) 0 (omega (arith, length-range_with_len 0 t.order)))

-- a table that keeps below its order, with its first and third law, and with no two equal entries in a column
pub quandle_from : (t : Table) → 1 ≤ t.order → length t.entries ≡ t.order * t.order
    → ((x y : ℕ) → x < t.order → y < t.order → over t x y < t.order)
    → ((x : ℕ) → x < t.order → over t x x ≡ x)
    → ((x z y : ℕ) → x < t.order → z < t.order → y < t.order → over t x y ≡ over t z y → x ≡ z)
    → ((x y z : ℕ) → x < t.order → y < t.order → z < t.order → over t (over t x y) z ≡ over t (over t x z) (over t y z))
    → IsQuandle t
quandle_from t least square within idempotent apart distributive =
    let found : (x y : ℕ) → x < t.order → y < t.order → back t x y < t.order =
    λ x y at by_y. reached (λ z. over t z y) t.order x (λ z lt. within z y lt by_y) (λ a b lt also e. apart a b y lt also by_y e) at in
    record {
      least = least;
      square = square;
      within = within;
      idempotent = idempotent;
      back_within = found;
      over_back = λ x y at by_y. over_back_is t x y (found x y at by_y);
      back_over = λ x y at by_y.
          let lt = within x y at by_y in
          let less = found (over t x y) y lt by_y in
          apart (back t (over t x y) y) x y less at by_y (over_back_is t (over t x y) y less);
      distributive = distributive;
    }

-- a table without a fault is a quandle whose order is within the bound
pub quandle_within : (most : ℕ) (t : Table) → first_fault_within most t ≡ None → IsQuandle t × (t.order ≤ most)
quandle_within most t none =
    let one = both_none (order_fault most t) (law_fault t) none in
    let two = both_none (length_fault t) (or_else (range_fault t) (or_else (idempotent_fault t) (or_else (collision_fault t) (distributive_fault t)))) one.1 in
    let three = both_none (range_fault t) (or_else (idempotent_fault t) (or_else (collision_fault t) (distributive_fault t))) two.1 in
    let four = both_none (idempotent_fault t) (or_else (collision_fault t) (distributive_fault t)) three.1 in
    let five = both_none (collision_fault t) (distributive_fault t) four.1 in
    let orders = and_parts (nat_le 1 t.order) (nat_le t.order most) (unless_none (nat_le 1 t.order && nat_le t.order most) Order one.0) in (
      quandle_from t (leb-true 1 t.order orders.0)
          (eqb-true (length t.entries) (t.order * t.order) (unless_none (length t.entries == t.order * t.order) Length two.0))
          (all_within t three.0) (all_idempotent t four.0) (λ x z y at also by_y e. injective t five.0 x z y at also by_y e) (all_distributive t five.1),
      leb-true t.order most orders.1,
    )

pub quandle_from_none : (t : Table) → first_quandle_fault t ≡ None → IsQuandle t
quandle_from_none t none = (quandle_within MAX_ORDER t none).0

-- a quandle takes no value twice in a column
pub apart_in_column : (t : Table) → IsQuandle t → (x z y : ℕ) → x < t.order → z < t.order → y < t.order → over t x y ≡ over t z y → x ≡ z
apart_in_column t q x z y at also by_y e = sym (q.back_over x y at by_y) ∙ (ap (λ w. back t w y) e ∙ q.back_over z y also by_y)

no_two : (t : Table) → IsQuandle t → (x z y : ℕ) → x < t.order → z < t.order → y < t.order → (b : Bool) → nat_lt x z ≡ b
    → (b && (over t x y == over t z y)) ≡ false
no_two t q x z y at also by_y false is = refl
no_two t q x z y at also by_y true is =
    ne_eqb (over t x y) (over t z y) (λ e. let same = apart_in_column t q x z y at also by_y e in let less = ltb-true x z is in absurd (omega arith))

-- a quandle whose order is within the bound has no fault
pub none_within : (most : ℕ) (t : Table) → IsQuandle t → t.order ≤ most → first_fault_within most t ≡ None
none_within most t q few =
    none_else (order_fault most t) _ (unless_true (nat_le 1 t.order && nat_le t.order most) Order
    (and_from (nat_le 1 t.order) (nat_le t.order most) (le-leb 1 t.order q.least) (le-leb t.order most few)))
    (none_else (length_fault t) _ (unless_true (length t.entries == t.order * t.order) Length (eq-eqb (length t.entries) (t.order * t.order) q.square))
    (none_else (range_fault t) _
    (first_all (λ x. first t.order (λ y. range_case t x y)) t.order
    (λ x at. first_all (λ y. range_case t x y) t.order
    (λ y by_y. unless_true (nat_lt (over t x y) t.order) (Range x y) (lt-ltb (over t x y) t.order (q.within x y at by_y)))))
    (none_else (idempotent_fault t) _
    (first_all (λ x. idempotent_case t x) t.order (λ x at. unless_true (over t x x == x) (Idempotent x) (eq-eqb (over t x x) x (q.idempotent x at))))
    (none_else (collision_fault t) _
    (first_all (λ x. first t.order (λ z. first t.order (λ y. collision_case t x z y))) t.order
    (λ x at. first_all (λ z. first t.order (λ y. collision_case t x z y)) t.order
    (λ z also. first_all (λ y. collision_case t x z y) t.order
    (λ y by_y. unless_true (not (collides t x z y)) (Collision x z y) (ap not (no_two t q x z y at also by_y (nat_lt x z) refl))))))
    (first_all (λ x. first t.order (λ y. first t.order (λ z. distributive_case t x y z))) t.order
    (λ x at. first_all (λ y. first t.order (λ z. distributive_case t x y z)) t.order
    (λ y by_y. first_all (λ z. distributive_case t x y z) t.order
    (λ z by_z. unless_true (distributes t x y z) (Distributive x y z)
    (eq-eqb (over t (over t x y) z) (over t (over t x z) (over t y z)) (q.distributive x y z at by_y by_z))))))))))

pub none_from_quandle : (t : Table) → IsQuandle t → t.order ≤ MAX_ORDER → first_quandle_fault t ≡ None
none_from_quandle t q few = none_within MAX_ORDER t q few

-- where the order is within the bound, the bound doesn't matter
pub same_fault : (most : ℕ) (t : Table) → t.order ≤ most → first_fault_within t.order t ≡ first_fault_within most t
same_fault most t few = rw (le-leb t.order t.order (omega arith), le-leb t.order most few) refl
