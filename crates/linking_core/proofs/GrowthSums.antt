-- A stabilisation keeps the sum of the signs of one class of columns over another.
use Rattle.std.proofs.Common.{◌≡◌, ◌≢◌, ◌<◌, ◌+◌, ◌∷◌, ◌∙◌, ◌⊎◌, ℕ, ℤ, pos, arith, sym, subst, refl, ap, ap₂, inl, inr, map}
use Rattle.std.specs.Prelude.{Bool, true, false, nat_lt, ◌&&◌, ◌+ℤ◌}
use Rattle.std.specs.List.{range_with_len}
use Rattle.std.proofs.lemmas.Int.{ints}
use Rattle.std.proofs.lemmas.Bool.{cases_eq}
use Rattle.std.proofs.lemmas.Bool.Decides.{nat_tests}
use Rattle.grid_core.specs.declared.mark.Kind.{Kind}
use Rattle.grid_core.specs.declared.mark.Kind.TheVariants.{Cross, Ring}
use Rattle.grid_core.specs.Diagram.{Diagram, IsGrid, size, row_of, other}
use Rattle.grid_core.specs.Places.{lifted, lowered}
use Rattle.grid_core.proofs.Gaps.{lifted-apart, lifted-same, lifted-below, lowered-below, lifted-lowered}
use Rattle.linking_core.proofs.Shuffles.{Shuffles, Member, shuffles_from, map_apart, map_member, member_of_map, range_apart, range_member, member_of_range}
use Rattle.linking_core.proofs.Sums.{total, where_true, total_same, over_map, over_shuffled, over_zero, where_zero}
use Rattle.linking_core.proofs.Forms.{count, interleaving, columns_meet, by_columns}
use Rattle.linking_core.proofs.Growths.{Grows, fresh, IsNear, near_order, near_row, near_fresh}

-- the numbers below n + 1 are p and the others
one_more : (n p : ℕ) → p < n + 1 → Shuffles (p ∷ map (lifted p) (range_with_len 0 n)) (range_with_len 0 (n + 1))
one_more n p in_p =
    shuffles_from (p ∷ map (lifted p) (range_with_len 0 n)) (range_with_len 0 (n + 1)) (
      (λ at. let from = map_member (lifted p) p (range_with_len 0 n) at in lifted-apart p from.0 (sym from.1.0)),
      map_apart (lifted p) (range_with_len 0 n) (λ x y in_x in_y e. lifted-same p x y e) (range_apart 0 n),
    )
    (range_apart 0 (n + 1))
    (λ z at. elim at [
      | inl is ↦ member_of_range 0 (n + 1) z (omega arith) (omega (arith, is))
      | inr later ↦
          let from = map_member (lifted p) z (range_with_len 0 n) later in
          let lt : from.0 < n = omega (arith, range_member 0 n from.0 from.1.1) in
          let in' = lifted-below p from.0 n lt (omega arith) in
          member_of_range 0 (n + 1) z (omega arith) (omega (arith, from.1.0, in'))
    ])
    (λ z at.
    let lt : z < n + 1 = omega (arith, range_member 0 (n + 1) z at) in
    elim (cases_eq z p) [
      | inl is ↦ inl is
      | inr ne ↦
          let old = lowered-below p z n lt in_p ne in
          inr (subst (λ (w : ℕ). Member w (map (lifted p) (range_with_len 0 n))) (lifted-lowered p z ne)
          (member_of_map (lifted p) (lowered p z) (range_with_len 0 n) (member_of_range 0 n (lowered p z) (omega arith) (omega (arith, old)))))
    ])

total_grown : (n p : ℕ) → p < n + 1 → (f : ℕ → ℤ) → total (n + 1) f ≡ f p +ℤ total n (λ b. f (lifted p b))
total_grown n p lt f =
    over_shuffled f (p ∷ map (lifted p) (range_with_len 0 n)) (range_with_len 0 (n + 1)) (one_more n p lt)
    ∙ ap (λ z. f p +ℤ z) (over_map f (lifted p) (range_with_len 0 n))

-- a sum over pairs, where what the new number has to do with is 0
twice_grown : (n p : ℕ) → p < n + 1 → (f : ℕ → ℕ → ℤ) → f p p ≡ pos 0 → ((b : ℕ) → b < n → f p (lifted p b) ≡ pos 0)
    → ((b : ℕ) → b < n → f (lifted p b) p ≡ pos 0)
    → total (n + 1) (λ q. total (n + 1) (λ c. f q c)) ≡ total n (λ q. total n (λ c. f (lifted p q) (lifted p c)))
twice_grown n p lt f own left right =
    let outer = total_grown n p lt (λ q. total (n + 1) (f q)) in
    let first = total_grown n p lt (f p) in
    let none = total_same n (λ b. f p (lifted p b)) (λ b. pos 0) left ∙ over_zero (range_with_len 0 n) in
    let inner = total_same n (λ q. total (n + 1) (f (lifted p q))) (λ q. total n (λ c. f (lifted p q) (lifted p c))) (λ q in_q.
    let each = total_grown n p lt (f (lifted p q)) in
    let gone = right q in_q in
    omega (arith, ints, each, gone)) in
    omega (arith, ints, outer, first, own, none, inner)

-- pairs of marks, near their old rows
near_pairs : (r q a b x y a' b' x' y' : ℕ) → (q ≡ r) ⊎ (q ≡ r + 1) → IsNear r q a a' → IsNear r q b b' → IsNear r q x x' → IsNear r q y y' → a ≢ x
    → a ≢ y → b ≢ x → b ≢ y → interleaving a' b' x' y' ≡ interleaving a b x y
near_pairs r q a b x y a' b' x' y' near na nb nx ny ax ay bx by' =
    let one = ap count (near_order r q a x a' x' near na nx ax) in
    let two = ap count (near_order r q b x b' x' near nb nx bx) in
    let three = ap count (near_order r q a y a' y' near na ny ay) in
    let four = ap count (near_order r q b y b' y' near nb ny by') in
    omega (arith, ints, one, two, three, four)

-- no column of one class shares a row with a column of the other
pub record AreDisjoint (d : Diagram) (a b : ℕ → Bool) : Type 0 where
  pub rows : (p q : ℕ) → p < size d → q < size d → a p ≡ true → b q ≡ true → (k k' : Kind) → row_of k d p ≢ row_of k' d q

when_both : (t u : Bool) (y z : ℤ) → (t ≡ true → u ≡ true → y ≡ z) → where_true (t && u) y ≡ where_true (t && u) z
when_both true true y z same = same refl refl
when_both true false y z same = refl
when_both false u y z same = refl

none_where : (t u v : Bool) (z : ℤ) → (t ≡ true → u ≡ true → z ≡ pos 0) → where_true (t && u) (where_true v z) ≡ pos 0
none_where true true v z same = ap (where_true v) (same refl refl) ∙ where_zero v
none_where true false v z same = refl
none_where false u v z same = refl

pub growth_sum : (kind : Kind) (place : Kind → ℕ) (c r q : ℕ) (d e : Diagram) → IsGrid d → Grows kind place c r q d e → (a b a' b' : ℕ → Bool)
    → AreDisjoint d a b
    → ((p : ℕ) → p < size d → a' (lifted (fresh kind place) p) ≡ a p) → ((p : ℕ) → p < size d → b' (lifted (fresh kind place) p) ≡ b p)
    → a' (fresh kind place) ≡ a c → b' (fresh kind place) ≡ b c
    → by_columns e a' b' ≡ by_columns d a b
growth_sum kind place c r q d e grid grows a b a' b' disjoint of_a of_b own_a own_b =
    ap (λ (n : ℕ). total n (λ s. total n (λ p. at s p))) grows.wide.larger
    ∙ (twice_grown (size d) f inside at both_new first_new second_new
    ∙ total_same (size d) (λ s. total (size d) (λ p. at (lifted f s) (lifted f p)))
    (λ s. total (size d) (λ p. where_true (b s && a p) (where_true (nat_lt s p) (columns_meet d p s)))) (λ s in_s.
    total_same (size d) (λ p. at (lifted f s) (lifted f p)) (λ p. where_true (b s && a p) (where_true (nat_lt s p) (columns_meet d p s)))
    (λ p in_p. each s p in_s in_p)))
  where
    f : ℕ
    f = fresh kind place

    at : ℕ → ℕ → ℤ
    at s p = where_true (b' s && a' p) (where_true (nat_lt s p) (columns_meet e p s))

    in_c : c < size d
    in_c = grows.marked.inside

    inside : f < size d + 1
    inside = elim (grows.beside.near (other kind)) [ inl is ↦ omega (arith, is, in_c) | inr is ↦ omega (arith, is, in_c) ]

    old : (k : Kind) (p : ℕ) → p < size d → IsNear r q (row_of k d p) (row_of k e (lifted f p))
    old k p lt = near_row kind place c r q d e grows k p lt

    new : (k : Kind) → IsNear r q r (row_of k e f)
    new k = near_fresh kind place c r q d e grows k

    -- the block's row is none of a column of the other class
    far_a : (p : ℕ) → p < size d → b c ≡ true → a p ≡ true → (k : Kind) → row_of k d p ≢ r
    far_a p lt tb ta k e' = disjoint.rows p c lt in_c ta tb k kind (e' ∙ sym grows.marked.row)

    far_b : (p : ℕ) → p < size d → b p ≡ true → a c ≡ true → (k : Kind) → r ≢ row_of k d p
    far_b p lt tb ta k e' = disjoint.rows c p in_c lt ta tb kind k (grows.marked.row ∙ e')

    both_new : at f f ≡ pos 0
    both_new = none_where (b' f) (a' f) (nat_lt f f) (columns_meet e f f)
        (λ tb ta. absurd (disjoint.rows c c in_c in_c (sym own_a ∙ ta) (sym own_b ∙ tb) kind kind refl))

    first_new : (p : ℕ) → p < size d → at f (lifted f p) ≡ pos 0
    first_new p lt = none_where (b' f) (a' (lifted f p)) (nat_lt f (lifted f p)) (columns_meet e (lifted f p) f) (λ tb ta.
        let away = far_a p lt (sym own_b ∙ tb) (sym (of_a p lt) ∙ ta) in
        near_pairs r q (row_of Cross d p) (row_of Ring d p) r r (row_of Cross e (lifted f p)) (row_of Ring e (lifted f p)) (row_of Cross e f)
        (row_of Ring e f) grows.near
        (old Cross p lt) (old Ring p lt) (new Cross) (new Ring) (away Cross) (away Cross) (away Ring) (away Ring)
        ∙ omega (arith, ints))

    second_new : (p : ℕ) → p < size d → at (lifted f p) f ≡ pos 0
    second_new p lt = none_where (b' (lifted f p)) (a' f) (nat_lt (lifted f p) f) (columns_meet e f (lifted f p)) (λ tb ta.
        let away = far_b p lt (sym (of_b p lt) ∙ tb) (sym own_a ∙ ta) in
        near_pairs r q r r (row_of Cross d p) (row_of Ring d p) (row_of Cross e f) (row_of Ring e f) (row_of Cross e (lifted f p))
        (row_of Ring e (lifted f p)) grows.near
        (new Cross) (new Ring) (old Cross p lt) (old Ring p lt) (away Cross) (away Ring) (away Cross) (away Ring)
        ∙ omega (arith, ints))

    order : (s p : ℕ) → nat_lt (lifted f s) (lifted f p) ≡ nat_lt s p
    order s p = grind (arith, nat_tests)

    each : (s p : ℕ) → s < size d → p < size d → at (lifted f s) (lifted f p) ≡ where_true (b s && a p) (where_true (nat_lt s p) (columns_meet d p s))
    each s p in_s in_p =
        ap₂ (λ (t u : Bool). where_true (t && u) (where_true (nat_lt (lifted f s) (lifted f p)) (columns_meet e (lifted f p) (lifted f s)))) (of_b s in_s)
        (of_a p in_p)
        ∙ when_both (b s) (a p) (where_true (nat_lt (lifted f s) (lifted f p)) (columns_meet e (lifted f p) (lifted f s)))
        (where_true (nat_lt s p) (columns_meet d p s)) (λ tb ta.
        ap₂ where_true (order s p)
        (near_pairs r q (row_of Cross d p) (row_of Ring d p) (row_of Cross d s) (row_of Ring d s) (row_of Cross e (lifted f p)) (row_of Ring e (lifted f p))
        (row_of Cross e (lifted f s)) (row_of Ring e (lifted f s)) grows.near
        (old Cross p in_p) (old Ring p in_p) (old Cross s in_s) (old Ring s in_s)
        (disjoint.rows p s in_p in_s ta tb Cross Cross) (disjoint.rows p s in_p in_s ta tb Cross Ring) (disjoint.rows p s in_p in_s ta tb Ring Cross)
        (disjoint.rows p s in_p in_s ta tb Ring Ring)))
