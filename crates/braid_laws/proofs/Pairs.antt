-- A letter on the pair of colours in the midst of a tuple.
use Rattle.std.proofs.Common.{◌≡◌, ◌<◌, ◌≤◌, ◌+◌, ◌-◌, ◌∷◌, ◌++◌, ◌∙◌, [], ℕ, ℤ, pos, negsuc, List, length, take, drop, arith, sym, ap, ap₂, append_assoc}
use Rattle.std.proofs.Common.{length-append, get_or, set, unsigned_abs}
use Rattle.std.proofs.lemmas.List.{get_or_at, set_at, drop_more, take-append-drop, length-take-le}
use Rattle.quandle_core.specs.Quandle.{Table, over, back}
use Rattle.braid_core.specs.Action.{colour_at, with_pair, positive, negative, letter_action}

-- the second of a pair, with the first counted to what stands before it
pub second_assoc : (left : List ℕ) (y z : ℕ) (right : List ℕ) → left ++ y ∷ z ∷ right ≡ (left ++ y ∷ []) ++ z ∷ right
second_assoc left y z right = sym (append_assoc left (y ∷ []) (z ∷ right))

-- the pair at positions k and k+1, read and written
pub low_at : (k : ℕ) (left : List ℕ) (y z : ℕ) (right : List ℕ) → length left + 1 ≡ k → colour_at (left ++ y ∷ z ∷ right) k ≡ y
low_at k left y z right k_is = get_or_at left y (z ∷ right) 0 (k - 1) (omega arith)

pub high_at : (k : ℕ) (left : List ℕ) (y z : ℕ) (right : List ℕ) → length left + 1 ≡ k → colour_at (left ++ y ∷ z ∷ right) (k + 1) ≡ z
high_at k left y z right k_is =
    ap (λ (zs : List ℕ). get_or zs (k + 1 - 1) 0) (second_assoc left y z right)
    ∙ get_or_at (left ++ y ∷ []) z right 0 (k + 1 - 1) (omega (arith, length-append left (y ∷ [])))

pair_set : (k : ℕ) (left : List ℕ) (y z u v : ℕ) (right : List ℕ) → length left + 1 ≡ k
    → with_pair (left ++ y ∷ z ∷ right) k u v ≡ left ++ u ∷ v ∷ right
pair_set k left y z u v right k_is =
    ap (λ (zs : List ℕ). set zs k v) (set_at left y (z ∷ right) u (k - 1) (omega arith) ∙ second_assoc left u z right)
    ∙ (set_at (left ++ u ∷ []) z right v k (omega (arith, length-append left (u ∷ []))) ∙ sym (second_assoc left u v right))

-- the crossings of the pair
pub pair_positive : (t : Table) (k : ℕ) (left : List ℕ) (y z : ℕ) (right : List ℕ) → length left + 1 ≡ k
    → positive t k (left ++ y ∷ z ∷ right) ≡ left ++ over t z y ∷ y ∷ right
pair_positive t k left y z right k_is =
    ap₂ (λ (u v : ℕ). with_pair (left ++ y ∷ z ∷ right) k (over t u v) v) (high_at k left y z right k_is) (low_at k left y z right k_is)
    ∙ pair_set k left y z (over t z y) y right k_is

pub pair_negative : (t : Table) (k : ℕ) (left : List ℕ) (y z : ℕ) (right : List ℕ) → length left + 1 ≡ k
    → negative t k (left ++ y ∷ z ∷ right) ≡ left ++ z ∷ back t y z ∷ right
pair_negative t k left y z right k_is =
    ap₂ (λ (u v : ℕ). with_pair (left ++ y ∷ z ∷ right) k u (back t v u)) (high_at k left y z right k_is) (low_at k left y z right k_is)
    ∙ pair_set k left y z z (back t y z) right k_is

-- what a letter makes of the pair, whatever its sign
unfoldable pub low_of : Table → ℤ → ℕ → ℕ → ℕ
low_of t (pos k) y z = over t z y
low_of t (negsuc n) y z = z

unfoldable pub high_of : Table → ℤ → ℕ → ℕ → ℕ
high_of t (pos k) y z = y
high_of t (negsuc n) y z = back t y z

pub letter_pair : (t : Table) (a : ℤ) (left : List ℕ) (y z : ℕ) (right : List ℕ) → length left + 1 ≡ unsigned_abs a
    → letter_action t (left ++ y ∷ z ∷ right) a ≡ left ++ low_of t a y z ∷ high_of t a y z ∷ right
unfolding low_of high_of
letter_pair t (pos k) left y z right k_is = pair_positive t k left y z right k_is
letter_pair t (negsuc n) left y z right k_is = pair_negative t (n + 1) left y z right (omega arith)

-- a tuple around the pair at positions k and k+1
pub record Split (k : ℕ) (xs : List ℕ) : Type 0 where
  pub left : List ℕ
  pub low : ℕ
  pub high : ℕ
  pub right : List ℕ
  pub is : xs ≡ left ++ low ∷ high ∷ right
  pub before : length left + 1 ≡ k
  pub behind : length right + k + 1 ≡ length xs

pub split_at : (k : ℕ) (xs : List ℕ) → 1 ≤ k → k < length xs → Split k xs
split_at k xs least lt =
    let second = ap (λ (i : ℕ). drop i xs) (let e : k - 1 + 1 ≡ k = omega arith in e) ∙ drop_more xs k 0 lt in
    let both = drop_more xs (k - 1) 0 (omega arith) ∙ ap (λ (zs : List ℕ). get_or xs (k - 1) 0 ∷ zs) second in
    let whole = sym (take-append-drop (k - 1) xs) ∙ ap (λ (zs : List ℕ). take (k - 1) xs ++ zs) both in
    let size = length-take-le (k - 1) xs (omega arith) in
    let long = ap length whole ∙ length-append (take (k - 1) xs) (get_or xs (k - 1) 0 ∷ get_or xs k 0 ∷ drop (k + 1) xs) in
    record {
      left = take (k - 1) xs;
      low = get_or xs (k - 1) 0;
      high = get_or xs k 0;
      right = drop (k + 1) xs;
      is = whole;
      before = omega arith;
      behind = omega arith;
    }
