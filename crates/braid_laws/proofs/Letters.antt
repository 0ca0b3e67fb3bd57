-- The action of a letter: it keeps tuples, and its negative undoes it.
use Rattle.std.proofs.Common.{◌≡◌, ◌≢◌, ◌<◌, ◌≤◌, ◌+◌, ◌-◌, ◌∷◌, ◌∙◌, [], ℕ, zero, suc, ℤ, pos, negsuc, List, All, length, get_or, set, arith, sym, refl, ap}
use Rattle.std.proofs.Common.{ap₂, neg_ℤ, inl, inr, add-one}
use Rattle.std.proofs.lemmas.Bool.{cases_eq}
use Rattle.std.proofs.lemmas.List.{ext_get_or, get_or-set_same, get_or-set_other, length-set}
use Rattle.std.proofs.lemmas.List.Elements.{All-set, All-get_or, All-head, All-tail}
use Rattle.quandle_core.specs.Quandle.{Table, IsQuandle, over, back}
use Rattle.quandle_core.specs.Bijection.{IsBijection}
use Rattle.braid_core.specs.Braid.{IsLetter}
use Rattle.braid_core.specs.Action.{IsTuple, colour_at, with_pair, positive, negative, letter_action, action}

-- the pair at positions k and k+1 read back
pair_low : (xs : List ℕ) (k y z : ℕ) → 1 ≤ k → k < length xs → colour_at (with_pair xs k y z) k ≡ y
pair_low xs k y z least lt = get_or-set_other (set xs (k - 1) y) k (k - 1) z 0 (λ e. omega arith) ∙ get_or-set_same xs (k - 1) y 0 (omega arith)

pair_high : (xs : List ℕ) (k y z : ℕ) → 1 ≤ k → k < length xs → colour_at (with_pair xs k y z) (k + 1) ≡ z
pair_high xs k y z least lt =
    ap (λ (i : ℕ). get_or (with_pair xs k y z) i 0) (let e : k + 1 - 1 ≡ k = omega arith in e)
    ∙ get_or-set_same (set xs (k - 1) y) k z 0 (omega (arith, length-set xs (k - 1) y))

pair_length : (xs : List ℕ) (k y z : ℕ) → length (with_pair xs k y z) ≡ length xs
pair_length xs k y z = length-set (set xs (k - 1) y) k z ∙ length-set xs (k - 1) y

-- a second pair at the same positions takes the first one's place; the tuple's own pair changes nothing
pair_again : (xs : List ℕ) (k y z u v : ℕ) → 1 ≤ k → k < length xs → u ≡ colour_at xs k → v ≡ colour_at xs (k + 1) → with_pair (with_pair xs k y z) k u v ≡ xs
pair_again xs k y z u v least lt u_is v_is =
    ext_get_or 0 (with_pair (with_pair xs k y z) k u v) xs (pair_length (with_pair xs k y z) k u v ∙ pair_length xs k y z) (λ i within. each i)
  where
    last : v ≡ get_or xs k 0
    last = v_is ∙ ap (λ (i : ℕ). get_or xs i 0) (let e : k + 1 - 1 ≡ k = omega arith in e)

    elsewhere : (i : ℕ) → i ≢ k → i ≢ k - 1 → get_or (with_pair (with_pair xs k y z) k u v) i 0 ≡ get_or xs i 0
    elsewhere i high low =
        get_or-set_other (set (with_pair xs k y z) (k - 1) u) k i v 0 high
        ∙ (get_or-set_other (with_pair xs k y z) (k - 1) i u 0 low
        ∙ (get_or-set_other (set xs (k - 1) y) k i z 0 high
        ∙ get_or-set_other xs (k - 1) i y 0 low))

    each : (i : ℕ) → get_or (with_pair (with_pair xs k y z) k u v) i 0 ≡ get_or xs i 0
    each i = elim (cases_eq i k) [
      | inl at ↦ ap (λ (j : ℕ). get_or (with_pair (with_pair xs k y z) k u v) j 0) at
          ∙ (get_or-set_same (set (with_pair xs k y z) (k - 1) u) k v 0 (omega (arith, length-set (with_pair xs k y z) (k - 1) u, pair_length xs k y z))
          ∙ (last ∙ ap (λ (j : ℕ). get_or xs j 0) (sym at)))
      | inr high ↦ elim (cases_eq i (k - 1)) [
        | inl at ↦ ap (λ (j : ℕ). get_or (with_pair (with_pair xs k y z) k u v) j 0) at
            ∙ (pair_low (with_pair xs k y z) k u v least (omega (arith, pair_length xs k y z)) ∙ (u_is ∙ ap (λ (j : ℕ). get_or xs j 0) (sym at)))
        | inr low ↦ elsewhere i high low
      ]
    ]

-- the two colours that a letter reads lie below the order
pub low_colour : (t : Table) (m k : ℕ) (xs : List ℕ) → 1 ≤ k → k < m → IsTuple t m xs → colour_at xs k < t.order
low_colour t m k xs least lt tuple = All-get_or (λ y. y < t.order) xs (k - 1) 0 (omega (arith, tuple.0)) tuple.1

pub high_colour : (t : Table) (m k : ℕ) (xs : List ℕ) → 1 ≤ k → k < m → IsTuple t m xs → colour_at xs (k + 1) < t.order
high_colour t m k xs least lt tuple = All-get_or (λ y. y < t.order) xs (k + 1 - 1) 0 (omega (arith, tuple.0)) tuple.1

pair_stays : (t : Table) (m k y z : ℕ) (xs : List ℕ) → IsTuple t m xs → y < t.order → z < t.order → IsTuple t m (with_pair xs k y z)
pair_stays t m k y z xs tuple at_y at_z =
    (pair_length xs k y z ∙ tuple.0, All-set (λ c. c < t.order) (set xs (k - 1) y) k z at_z (All-set (λ c. c < t.order) xs (k - 1) y at_y tuple.1))

positive_stays : (t : Table) → IsQuandle t → (m k : ℕ) (xs : List ℕ) → 1 ≤ k → k < m → IsTuple t m xs → IsTuple t m (positive t k xs)
positive_stays t q m k xs least lt tuple =
    let low = low_colour t m k xs least lt tuple in
    pair_stays t m k (over t (colour_at xs (k + 1)) (colour_at xs k)) (colour_at xs k) xs tuple
    (q.within (colour_at xs (k + 1)) (colour_at xs k) (high_colour t m k xs least lt tuple) low) low

negative_stays : (t : Table) → IsQuandle t → (m k : ℕ) (xs : List ℕ) → 1 ≤ k → k < m → IsTuple t m xs → IsTuple t m (negative t k xs)
negative_stays t q m k xs least lt tuple =
    let high = high_colour t m k xs least lt tuple in
    pair_stays t m k (colour_at xs (k + 1)) (back t (colour_at xs k) (colour_at xs (k + 1))) xs tuple high
    (q.back_within (colour_at xs k) (colour_at xs (k + 1)) (low_colour t m k xs least lt tuple) high)

-- the two crossings of one pair of strands undo each other
pub undo_positive : (t : Table) → IsQuandle t → (m k : ℕ) (xs : List ℕ) → 1 ≤ k → k < m → IsTuple t m xs → negative t k (positive t k xs) ≡ xs
undo_positive t q m k xs least lt tuple =
    let x = colour_at xs k in
    let y = colour_at xs (k + 1) in
    let within : k < length xs = omega (arith, tuple.0) in
    let low = pair_low xs k (over t y x) x least within in
    let high = pair_high xs k (over t y x) x least within in
    pair_again xs k (over t y x) x (colour_at (positive t k xs) (k + 1))
    (back t (colour_at (positive t k xs) k) (colour_at (positive t k xs) (k + 1))) least within high
    (ap₂ (back t) low high ∙ q.back_over y x (high_colour t m k xs least lt tuple) (low_colour t m k xs least lt tuple))

pub undo_negative : (t : Table) → IsQuandle t → (m k : ℕ) (xs : List ℕ) → 1 ≤ k → k < m → IsTuple t m xs → positive t k (negative t k xs) ≡ xs
undo_negative t q m k xs least lt tuple =
    let x = colour_at xs k in
    let y = colour_at xs (k + 1) in
    let within : k < length xs = omega (arith, tuple.0) in
    let low = pair_low xs k y (back t x y) least within in
    let high = pair_high xs k y (back t x y) least within in
    pair_again xs k y (back t x y) (over t (colour_at (negative t k xs) (k + 1)) (colour_at (negative t k xs) k)) (colour_at (negative t k xs) k) least within
    (ap₂ (over t) high low ∙ q.over_back x y (low_colour t m k xs least lt tuple) (high_colour t m k xs least lt tuple)) low

pub letter_negated : (m : ℕ) (a : ℤ) → IsLetter m a → IsLetter m (neg_ℤ a)
letter_negated m (pos zero) letter = letter
letter_negated m (pos (suc k)) letter = record { least = letter.least; most = letter.most }
letter_negated m (negsuc k) letter = record { least = letter.least; most = letter.most }

pub letter_undone : (t : Table) → IsQuandle t → (m : ℕ) (a : ℤ) → IsLetter m a → (xs : List ℕ) → IsTuple t m xs
    → letter_action t (letter_action t xs a) (neg_ℤ a) ≡ xs
letter_undone t q m (pos zero) letter xs tuple = absurd (let least = letter.least in omega arith)
letter_undone t q m (pos (suc k)) letter xs tuple =
    let most = letter.most in
    ap (λ (j : ℕ). negative t j (positive t (suc k) xs)) (add-one k) ∙ undo_positive t q m (suc k) xs (omega arith) (omega arith) tuple
letter_undone t q m (negsuc k) letter xs tuple =
    let most = letter.most in
    ap (λ (j : ℕ). positive t (suc k) (negative t j xs)) (add-one k) ∙ undo_negative t q m (suc k) xs (omega arith) (omega arith) tuple

pub letter_stays : (t : Table) → IsQuandle t → (m : ℕ) (a : ℤ) → IsLetter m a → (xs : List ℕ) → IsTuple t m xs → IsTuple t m (letter_action t xs a)
letter_stays t q m (pos k) letter xs tuple = positive_stays t q m k xs letter.least letter.most tuple
letter_stays t q m (negsuc k) letter xs tuple =
    let most = letter.most in
    negative_stays t q m (k + 1) xs (omega arith) (omega arith) tuple

negated_twice : (a : ℤ) → neg_ℤ (neg_ℤ a) ≡ a
negated_twice (pos zero) = refl
negated_twice (pos (suc k)) = refl
negated_twice (negsuc k) = refl

pub letter_bijection : (t : Table) → IsQuandle t → (m : ℕ) (a : ℤ) → IsLetter m a → IsBijection (IsTuple t m) (IsTuple t m) (λ xs. letter_action t xs a)
letter_bijection t q m a letter = record {
  into = letter_stays t q m a letter;
  onto = λ ys tuple. (
    letter_action t ys (neg_ℤ a),
    letter_stays t q m (neg_ℤ a) (letter_negated m a letter) ys tuple,
    ap (letter_action t (letter_action t ys (neg_ℤ a))) (sym (negated_twice a)) ∙ letter_undone t q m (neg_ℤ a) (letter_negated m a letter) ys tuple,
  );
  one = λ xs ys at_x at_y e. sym (letter_undone t q m a letter xs at_x)
      ∙ (ap (λ (zs : List ℕ). letter_action t zs (neg_ℤ a)) e ∙ letter_undone t q m a letter ys at_y);
}

-- a list of letters acts letter by letter
pub action_bijection : (t : Table) → IsQuandle t → (m : ℕ) (letters : List ℤ) → All (IsLetter m) letters
    → IsBijection (IsTuple t m) (IsTuple t m) (action t letters)
action_bijection t q m [] all = record {
  into = λ xs tuple. tuple;
  onto = λ ys tuple. (ys, tuple, refl);
  one = λ xs ys at_x at_y e. e;
}
action_bijection t q m (a ∷ letters) all =
    let first = letter_bijection t q m a (All-head (IsLetter m) a letters all) in
    let rest = action_bijection t q m letters (All-tail (IsLetter m) a letters all) in
    record {
      into = λ xs tuple. rest.into (letter_action t xs a) (first.into xs tuple);
      onto = λ ys tuple. found t m a letters first rest ys tuple;
      one = λ xs ys at_x at_y e. first.one xs ys at_x at_y (rest.one (letter_action t xs a) (letter_action t ys a) (first.into xs at_x) (first.into ys at_y) e);
    }
  where
    found : (t : Table) (m : ℕ) (a : ℤ) (letters : List ℤ) → IsBijection (IsTuple t m) (IsTuple t m) (λ xs. letter_action t xs a)
        → IsBijection (IsTuple t m) (IsTuple t m) (action t letters) → (ys : List ℕ) → IsTuple t m ys
        → (xs : List ℕ) × IsTuple t m xs × (action t (a ∷ letters) xs ≡ ys)
    found t m a letters first rest ys tuple =
        let middle = rest.onto ys tuple in
        let start = first.onto middle.0 middle.1 in
        (start.0, start.1, ap (action t letters) start.2 ∙ middle.2)
