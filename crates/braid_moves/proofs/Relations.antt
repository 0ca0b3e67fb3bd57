-- Artin's relations, as they act on a tuple: letters far from each other, and three letters of one sign.
use Rattle.std.proofs.Common.{◌≡◌, ◌<◌, ◌≤◌, ◌+◌, ◌-◌, ◌∷◌, ◌++◌, ◌∙◌, [], ℕ, suc, ℤ, pos, negsuc, List, length, take, drop, arith, sym, ap}
use Rattle.std.proofs.Common.{append_assoc, length-append, get_or, unsigned_abs}
use Rattle.std.proofs.lemmas.List.{drop_more, take-append-drop, length-take-le}
use Rattle.std.proofs.lemmas.List.Elements.{All-get_or}
use Rattle.quandle_core.specs.Quandle.{Table, IsQuandle, over, back}
use Rattle.braid_core.specs.Action.{IsTuple, letter_action, action}
use Rattle.braid_laws.proofs.Pairs.{second_assoc, low_of, high_of, letter_pair, Split, split_at}
use Rattle.quandle_core.proofs.Distributed.{back_back_kept}

-- letters of strands far from each other, on a tuple around both of their pairs: each changes its own pair, in either order
regroup : (left mid right : List ℕ) (y z : ℕ) → left ++ y ∷ z ∷ (mid ++ right) ≡ (left ++ y ∷ z ∷ mid) ++ right
regroup left mid right y z = sym (append_assoc left (y ∷ z ∷ mid) right)

upper_pair : (t : Table) (b : ℤ) (left mid right : List ℕ) (y z u v : ℕ) → length left + 2 + length mid + 1 ≡ unsigned_abs b
    → letter_action t (left ++ y ∷ z ∷ (mid ++ u ∷ v ∷ right)) b ≡ left ++ y ∷ z ∷ (mid ++ low_of t b u v ∷ high_of t b u v ∷ right)
upper_pair t b left mid right y z u v at_b =
    ap (λ (zs : List ℕ). letter_action t zs b) (regroup left mid (u ∷ v ∷ right) y z)
    ∙ (letter_pair t b (left ++ y ∷ z ∷ mid) u v right (omega (arith, length-append left (y ∷ z ∷ mid)))
    ∙ sym (regroup left mid (low_of t b u v ∷ high_of t b u v ∷ right) y z))

lower_first : (t : Table) (a b : ℤ) (left mid right : List ℕ) (y z u v : ℕ) → length left + 1 ≡ unsigned_abs a
    → length left + 2 + length mid + 1 ≡ unsigned_abs b
    → letter_action t (letter_action t (left ++ y ∷ z ∷ (mid ++ u ∷ v ∷ right)) a) b
    ≡ left ++ low_of t a y z ∷ high_of t a y z ∷ (mid ++ low_of t b u v ∷ high_of t b u v ∷ right)
lower_first t a b left mid right y z u v at_a at_b =
    ap (λ (zs : List ℕ). letter_action t zs b) (letter_pair t a left y z (mid ++ u ∷ v ∷ right) at_a)
    ∙ upper_pair t b left mid right (low_of t a y z) (high_of t a y z) u v at_b

upper_first : (t : Table) (a b : ℤ) (left mid right : List ℕ) (y z u v : ℕ) → length left + 1 ≡ unsigned_abs a
    → length left + 2 + length mid + 1 ≡ unsigned_abs b
    → letter_action t (letter_action t (left ++ y ∷ z ∷ (mid ++ u ∷ v ∷ right)) b) a
    ≡ left ++ low_of t a y z ∷ high_of t a y z ∷ (mid ++ low_of t b u v ∷ high_of t b u v ∷ right)
upper_first t a b left mid right y z u v at_a at_b =
    ap (λ (zs : List ℕ). letter_action t zs a) (upper_pair t b left mid right y z u v at_b)
    ∙ letter_pair t a left y z (mid ++ low_of t b u v ∷ high_of t b u v ∷ right) at_a

far_split : (t : Table) (a b : ℤ) (xs : List ℕ) (j : ℕ) (first : Split (unsigned_abs a) xs) → Split j first.right → unsigned_abs a + 1 + j ≡ unsigned_abs b
    → letter_action t (letter_action t xs a) b ≡ letter_action t (letter_action t xs b) a
far_split t a b xs j first second j_is =
    let before = first.before in
    let between = second.before in
    let whole = first.is ∙ ap (λ (zs : List ℕ). first.left ++ first.low ∷ first.high ∷ zs) second.is in
    ap (λ (zs : List ℕ). letter_action t (letter_action t zs a) b) whole
    ∙ (lower_first t a b first.left second.left second.right first.low first.high second.low second.high before (omega arith)
    ∙ (sym (upper_first t a b first.left second.left second.right first.low first.high second.low second.high before (omega arith))
    ∙ sym (ap (λ (zs : List ℕ). letter_action t (letter_action t zs b) a) whole)))

pub far_letters : (t : Table) (a b : ℤ) (xs : List ℕ) → 1 ≤ unsigned_abs a → unsigned_abs a + 2 ≤ unsigned_abs b → unsigned_abs b < length xs
    → letter_action t (letter_action t xs a) b ≡ letter_action t (letter_action t xs b) a
far_letters t a b xs least apart lt =
    let first = split_at (unsigned_abs a) xs least (omega arith) in
    let behind = first.behind in
    far_split t a b xs (unsigned_abs b - unsigned_abs a - 1) first (split_at (unsigned_abs b - unsigned_abs a - 1) first.right (omega arith) (omega arith))
    (omega arith)

-- three neighbouring colours
pub record Split3 (k : ℕ) (xs : List ℕ) : Type 0 where
  pub left : List ℕ
  pub x : ℕ
  pub y : ℕ
  pub z : ℕ
  pub right : List ℕ
  pub is : xs ≡ left ++ x ∷ y ∷ z ∷ right
  pub before : length left + 1 ≡ k

-- both orders of three letters of one sign, the first order beginning with the lower position
positive_triple : (t : Table) → IsQuandle t → (j k : ℕ) (left : List ℕ) (x y z : ℕ) (right : List ℕ) → x < t.order → y < t.order → z < t.order
    → length left + 1 ≡ j → j + 1 ≡ k
    → action t (pos j ∷ pos k ∷ pos j ∷ []) (left ++ x ∷ y ∷ z ∷ right) ≡ action t (pos k ∷ pos j ∷ pos k ∷ []) (left ++ x ∷ y ∷ z ∷ right)
unfolding low_of high_of
positive_triple t q j k left x y z right at_x at_y at_z at_j at_k =
    let two : (u : ℕ) → length (left ++ u ∷ []) + 1 ≡ k = λ u. (let e = length-append left (u ∷ []) in omega arith) in
    ap (λ (zs : List ℕ). letter_action t (letter_action t zs (pos k)) (pos j))
    (letter_pair t (pos j) left x y (z ∷ right) at_j ∙ second_assoc left (over t y x) x (z ∷ right))
    ∙ (ap (λ (zs : List ℕ). letter_action t zs (pos j)) (letter_pair t (pos k) (left ++ over t y x ∷ []) x z right (two (over t y x))
    ∙ sym (second_assoc left (over t y x) (over t z x) (x ∷ right)))
    ∙ (letter_pair t (pos j) left (over t y x) (over t z x) (x ∷ right) at_j
    ∙ (ap (λ (u : ℕ). left ++ u ∷ over t y x ∷ x ∷ right) (sym (q.distributive z y x at_z at_y at_x))
    ∙ sym (ap (λ (zs : List ℕ). letter_action t (letter_action t zs (pos j)) (pos k))
    (ap (λ (zs : List ℕ). letter_action t zs (pos k)) (second_assoc left x y (z ∷ right))
    ∙ (letter_pair t (pos k) (left ++ x ∷ []) y z right (two x) ∙ sym (second_assoc left x (over t z y) (y ∷ right))))
    ∙ (ap (λ (zs : List ℕ). letter_action t zs (pos k)) (letter_pair t (pos j) left x (over t z y) (y ∷ right) at_j
    ∙ second_assoc left (over t (over t z y) x) x (y ∷ right))
    ∙ (letter_pair t (pos k) (left ++ over t (over t z y) x ∷ []) x y right (two (over t (over t z y) x))
    ∙ sym (second_assoc left (over t (over t z y) x) (over t y x) (x ∷ right))))))))

negative_triple : (t : Table) → IsQuandle t → (j k : ℕ) (left : List ℕ) (x y z : ℕ) (right : List ℕ) → x < t.order → y < t.order → z < t.order
    → length left ≡ j → j + 1 ≡ k
    → action t (negsuc j ∷ negsuc k ∷ negsuc j ∷ []) (left ++ x ∷ y ∷ z ∷ right) ≡ action t (negsuc k ∷ negsuc j ∷ negsuc k ∷ []) (left ++ x ∷ y ∷ z ∷ right)
unfolding low_of high_of
negative_triple t q j k left x y z right at_x at_y at_z at_j at_k =
    let one : length left + 1 ≡ suc j = omega arith in
    let two : (u : ℕ) → length (left ++ u ∷ []) + 1 ≡ suc k = λ u. (let e = length-append left (u ∷ []) in omega arith) in
    ap (λ (zs : List ℕ). letter_action t (letter_action t zs (negsuc k)) (negsuc j))
    (letter_pair t (negsuc j) left x y (z ∷ right) one ∙ second_assoc left y (back t x y) (z ∷ right))
    ∙ (ap (λ (zs : List ℕ). letter_action t zs (negsuc j)) (letter_pair t (negsuc k) (left ++ y ∷ []) (back t x y) z right (two y)
    ∙ sym (second_assoc left y z (back t (back t x y) z ∷ right)))
    ∙ (letter_pair t (negsuc j) left y z (back t (back t x y) z ∷ right) one
    ∙ (ap (λ (u : ℕ). left ++ z ∷ back t y z ∷ u ∷ right) (back_back_kept t q x y z at_x at_y at_z)
    ∙ sym (ap (λ (zs : List ℕ). letter_action t (letter_action t zs (negsuc j)) (negsuc k))
    (ap (λ (zs : List ℕ). letter_action t zs (negsuc k)) (second_assoc left x y (z ∷ right))
    ∙ (letter_pair t (negsuc k) (left ++ x ∷ []) y z right (two x) ∙ sym (second_assoc left x z (back t y z ∷ right))))
    ∙ (ap (λ (zs : List ℕ). letter_action t zs (negsuc k)) (letter_pair t (negsuc j) left x z (back t y z ∷ right) one
    ∙ second_assoc left z (back t x z) (back t y z ∷ right))
    ∙ (letter_pair t (negsuc k) (left ++ z ∷ []) (back t x z) (back t y z) right (two z)
    ∙ sym (second_assoc left z (back t y z) (back t (back t x z) (back t y z) ∷ right))))))))

split3_at : (k : ℕ) (xs : List ℕ) → 1 ≤ k → k + 1 < length xs → Split3 k xs
split3_at k xs least lt =
    let size = length-take-le (k - 1) xs (omega arith) in
    record {
      left = take (k - 1) xs;
      x = get_or xs (k - 1) 0;
      y = get_or xs k 0;
      z = get_or xs (k + 1) 0;
      right = drop (k + 1 + 1) xs;
      is = sym (take-append-drop (k - 1) xs) ∙ ap (λ (zs : List ℕ). take (k - 1) xs ++ zs)
          (drop_more xs (k - 1) 0 (omega arith) ∙ ap (λ (zs : List ℕ). get_or xs (k - 1) 0 ∷ zs)
          (ap (λ (i : ℕ). drop i xs) (let e : k - 1 + 1 ≡ k = omega arith in e)
          ∙ (drop_more xs k 0 (omega arith) ∙ ap (λ (zs : List ℕ). get_or xs k 0 ∷ zs) (drop_more xs (k + 1) 0 lt))));
      before = omega arith;
    }

pub triple_positive : (t : Table) → IsQuandle t → (m j k : ℕ) (xs : List ℕ) → IsTuple t m xs → 1 ≤ j → j + 1 ≡ k → k < m
    → action t (pos j ∷ pos k ∷ pos j ∷ []) xs ≡ action t (pos k ∷ pos j ∷ pos k ∷ []) xs
unfolding split3_at
triple_positive t q m j k xs tuple least next lt =
    let n = tuple.0 in
    let s = split3_at j xs least (omega arith) in
    let colour : (i : ℕ) → i < m → get_or xs i 0 < t.order = λ i within. All-get_or (λ y. y < t.order) xs i 0 (omega arith) tuple.1 in
    ap (action t (pos j ∷ pos k ∷ pos j ∷ [])) s.is
    ∙ (positive_triple t q j k s.left s.x s.y s.z s.right (colour (j - 1) (omega arith)) (colour j (omega arith)) (colour (j + 1) (omega arith)) s.before next
    ∙ ap (action t (pos k ∷ pos j ∷ pos k ∷ [])) (sym s.is))

pub triple_negative : (t : Table) → IsQuandle t → (m j k : ℕ) (xs : List ℕ) → IsTuple t m xs → j + 1 ≡ k → k + 1 < m
    → action t (negsuc j ∷ negsuc k ∷ negsuc j ∷ []) xs ≡ action t (negsuc k ∷ negsuc j ∷ negsuc k ∷ []) xs
unfolding split3_at
triple_negative t q m j k xs tuple next lt =
    let n = tuple.0 in
    let s = split3_at (j + 1) xs (omega arith) (omega arith) in
    let before = s.before in
    let colour : (i : ℕ) → i < m → get_or xs i 0 < t.order = λ i within. All-get_or (λ y. y < t.order) xs i 0 (omega arith) tuple.1 in
    ap (action t (negsuc j ∷ negsuc k ∷ negsuc j ∷ [])) s.is
    ∙ (negative_triple t q j k s.left s.x s.y s.z s.right (colour (j + 1 - 1) (omega arith)) (colour (j + 1) (omega arith)) (colour (j + 1 + 1) (omega arith))
    (omega arith) next
    ∙ ap (action t (negsuc k ∷ negsuc j ∷ negsuc k ∷ [])) (sym s.is))
