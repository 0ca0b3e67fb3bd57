-- A turn, a strand more and a strand less: what they do to the fixed points.
use Rattle.std.proofs.Common.{◌≡◌, ◌<◌, ◌≤◌, ◌+◌, ◌-◌, ◌∷◌, ◌++◌, ◌∙◌, [], ℕ, zero, suc, ℤ, pos, negsuc, unsigned_abs, List, Bool, true}
use Rattle.std.proofs.Common.{false, All, length, take, arith, sym, refl, ap, ap₂, append_assoc, length-append, get_or}
use Rattle.std.proofs.lemmas.List.{take_at, take_more, take_all, length-take-le, same_from_push}
use Rattle.std.proofs.lemmas.List.Elements.{All-get_or, All-take, All-append, All-head, All-tail, All-nil, All-cons}
use Rattle.std.proofs.lemmas.List.Sums.{fold-append}
use Rattle.quandle_core.specs.Quandle.{Table, IsQuandle, over, back}
use Rattle.quandle_core.specs.Bijection.{IsBijection}
use Rattle.braid_core.specs.Braid.{Word, IsLetter}
use Rattle.braid_core.specs.Action.{IsTuple, letter_action, action}
use Rattle.braid_core.specs.FixedPoints.{IsFixedPoint}
use Rattle.braid_laws.proofs.Letters.{letter_stays}
use Rattle.braid_laws.proofs.Pairs.{split_at, letter_pair, low_of, high_of}
use Rattle.braid_moves.specs.Step.{letter_of_crossing}
use Rattle.braid_moves.proofs.Same.{acts_stay}

abbrev word : ℕ → List ℤ → Word
word m letters = record { strands = m; letters = letters }

-- the first part of the letters goes to the end
pub turned_fixed : (t : Table) → IsQuandle t → (m : ℕ) (front rest : List ℤ) → All (IsLetter m) front → All (IsLetter m) rest
    → IsBijection (IsFixedPoint t (word m (front ++ rest))) (IsFixedPoint t (word m (rest ++ front))) (action t front)
turned_fixed t q m front rest all_f all_r = record {
  into = λ xs point. record {
    tuple = acts_stay t q m front all_f xs point.tuple;
    fixed = fold-append (letter_action t) (action t front xs) rest front ∙ ap (action t front) (around xs point.fixed);
  };
  onto = λ ys point. (
    action t rest ys,
    record {
      tuple = acts_stay t q m rest all_r ys point.tuple;
      fixed = fold-append (letter_action t) (action t rest ys) front rest ∙ ap (action t rest) (back_around ys point.fixed);
    },
    back_around ys point.fixed,
  );
  one = λ xs ys at_x at_y e. sym (around xs at_x.fixed) ∙ (ap (action t rest) e ∙ around ys at_y.fixed);
}
  where
    around : (xs : List ℕ) → action t (front ++ rest) xs ≡ xs → action t rest (action t front xs) ≡ xs
    around xs fixed = sym (fold-append (letter_action t) xs front rest) ∙ fixed

    back_around : (ys : List ℕ) → action t (rest ++ front) ys ≡ ys → action t front (action t rest ys) ≡ ys
    back_around ys fixed = sym (fold-append (letter_action t) ys rest front) ∙ fixed

-- letters of m strands don't touch one more colour
letter_front : (t : Table) (m : ℕ) (a : ℤ) → IsLetter m a → (xs : List ℕ) (z : ℕ) → length xs ≡ m
    → letter_action t (xs ++ z ∷ []) a ≡ letter_action t xs a ++ z ∷ []
letter_front t m a letter xs z long =
    let least = letter.least in
    let most = letter.most in
    let s = split_at (unsigned_abs a) xs least (omega arith) in
    ap (λ (ys : List ℕ). letter_action t (ys ++ z ∷ []) a) s.is
    ∙ (ap (λ (ys : List ℕ). letter_action t ys a) (append_assoc s.left (s.low ∷ s.high ∷ s.right) (z ∷ []))
    ∙ (letter_pair t a s.left s.low s.high (s.right ++ z ∷ []) s.before
    ∙ (sym (append_assoc s.left (low_of t a s.low s.high ∷ high_of t a s.low s.high ∷ s.right) (z ∷ []))
    ∙ ap (λ (ys : List ℕ). ys ++ z ∷ []) (sym (letter_pair t a s.left s.low s.high s.right s.before) ∙ ap (λ (ys : List ℕ). letter_action t ys a) (sym s.is)))))

acts_front : (t : Table) → IsQuandle t → (m : ℕ) (letters : List ℤ) → All (IsLetter m) letters → (xs : List ℕ) (z : ℕ) → IsTuple t m xs
    → action t letters (xs ++ z ∷ []) ≡ action t letters xs ++ z ∷ []
acts_front t q m [] all xs z tuple = refl
acts_front t q m (a ∷ letters) all xs z tuple =
    let letter = All-head (IsLetter m) a letters all in
    ap (action t letters) (letter_front t m a letter xs z tuple.0)
    ∙ acts_front t q m letters (All-tail (IsLetter m) a letters all) (letter_action t xs a) z (letter_stays t q m a letter xs tuple)

-- the crossing of the last strand and a new one
cross_positive : (t : Table) (k : ℕ) (front : List ℕ) (u z : ℕ) → length front + 1 ≡ k
    → letter_action t (front ++ u ∷ z ∷ []) (letter_of_crossing k true) ≡ front ++ over t z u ∷ u ∷ []
unfolding low_of high_of
cross_positive t k front u z e = letter_pair t (pos k) front u z [] e

cross_negative : (t : Table) (k : ℕ) (front : List ℕ) (u z : ℕ) → length front + 1 ≡ k
    → letter_action t (front ++ u ∷ z ∷ []) (letter_of_crossing k false) ≡ front ++ z ∷ back t u z ∷ []
unfolding low_of high_of
cross_negative t zero front u z e = absurd (omega arith)
cross_negative t (suc k) front u z e = letter_pair t (negsuc k) front u z [] e

-- the crossing fixes two equal colours
crosses_equal : (t : Table) → IsQuandle t → (k : ℕ) (positive : Bool) (front : List ℕ) (u : ℕ) → u < t.order → length front + 1 ≡ k
    → letter_action t (front ++ u ∷ u ∷ []) (letter_of_crossing k positive) ≡ front ++ u ∷ u ∷ []
crosses_equal t q k true front u at e = cross_positive t k front u u e ∙ ap (λ (w : ℕ). front ++ w ∷ u ∷ []) (q.idempotent u at)
crosses_equal t q k false front u at e =
    cross_negative t k front u u e ∙ ap (λ (w : ℕ). front ++ u ∷ w ∷ []) (ap (λ (w : ℕ). back t w u) (sym (q.idempotent u at)) ∙ q.back_over u u at at)

-- and what it makes of others ends in two colours of which the last is the new strand's only where the three are equal
record Ends (front back_part : List ℕ) (u v z : ℕ) : Type 0 where
  fronts : front ≡ back_part
  last : u ≡ z
  before : v ≡ z

two_ends : (front back_part : List ℕ) (p r v z : ℕ) → front ++ p ∷ r ∷ [] ≡ back_part ++ v ∷ z ∷ [] → (front ≡ back_part) × (p ≡ v) × (r ≡ z)
two_ends front back_part p r v z e =
    let outer = same_from_push (front ++ p ∷ []) (back_part ++ v ∷ []) r z
    (append_assoc front (p ∷ []) (r ∷ []) ∙ (e ∙ sym (append_assoc back_part (v ∷ []) (z ∷ [])))) in
    let inner = same_from_push front back_part p v outer.0 in
    (inner.0, inner.1, outer.1)

crossed_back : (t : Table) → IsQuandle t → (k : ℕ) (positive : Bool) (front back_part : List ℕ) (u v z : ℕ) → u < t.order → z < t.order → length front + 1 ≡ k
    → letter_action t (front ++ u ∷ z ∷ []) (letter_of_crossing k positive) ≡ back_part ++ v ∷ z ∷ [] → Ends front back_part u v z
crossed_back t q k true front back_part u v z at_u at_z e fixed =
    let ends = two_ends front back_part (over t z u) u v z (sym (cross_positive t k front u z e) ∙ fixed) in
    record { fronts = ends.0; last = ends.2; before = sym ends.1 ∙ (ap (over t z) ends.2 ∙ q.idempotent z at_z) }
crossed_back t q k false front back_part u v z at_u at_z e fixed =
    let ends = two_ends front back_part z (back t u z) v z (sym (cross_negative t k front u z e) ∙ fixed) in
    record { fronts = ends.0; last = sym (q.over_back u z at_u at_z) ∙ (ap (λ (w : ℕ). over t w z) ends.2 ∙ q.idempotent z at_z); before = sym ends.1 }

-- a tuple by its last colour
last_split : (xs : List ℕ) (m : ℕ) → length xs ≡ m → 1 ≤ m → xs ≡ take (m - 1) xs ++ get_or xs (m - 1) 0 ∷ []
last_split xs m long least =
    sym (take_all m xs (omega arith)) ∙ (ap (λ (k : ℕ). take k xs) (let e : m ≡ m - 1 + 1 = omega arith in e) ∙ take_more xs (m - 1) 0 (omega arith))

pushed_assoc : (left : List ℕ) (y z : ℕ) → (left ++ y ∷ []) ++ z ∷ [] ≡ left ++ y ∷ z ∷ []
pushed_assoc left y z = append_assoc left (y ∷ []) (z ∷ [])

abbrev pub doubled : ℕ → List ℕ → List ℕ
doubled m xs = xs ++ get_or xs (m - 1) 0 ∷ []

grown_into : (t : Table) → IsQuandle t → (m : ℕ) (letters : List ℤ) (positive : Bool) → 1 ≤ m → All (IsLetter m) letters → (xs : List ℕ)
    → IsFixedPoint t (word m letters) xs
    → IsFixedPoint t (word (m + 1) (letters ++ letter_of_crossing m positive ∷ [])) (doubled m xs)
grown_into t q m letters positive least all xs point =
    let u = get_or xs (m - 1) 0 in
    let long = point.tuple.0 in
    let at : u < t.order = All-get_or (λ y. y < t.order) xs (m - 1) 0 (omega arith) point.tuple.1 in
    let whole = last_split xs m long least in
    let size = length-take-le (m - 1) xs (omega arith) in
    record {
      tuple = (
        length-append xs (u ∷ []) ∙ omega arith,
        All-append (λ y. y < t.order) xs (u ∷ []) point.tuple.1
            (All-cons (λ y. y < t.order) u [] at (All-nil (λ y. y < t.order))),
      );
      fixed = fold-append (letter_action t) (doubled m xs) letters (letter_of_crossing m positive ∷ [])
          ∙ (ap (λ (ys : List ℕ). letter_action t ys (letter_of_crossing m positive))
          (acts_front t q m letters all xs u point.tuple ∙ (ap (λ (ys : List ℕ). ys ++ u ∷ []) (point.fixed ∙ whole) ∙ pushed_assoc (take (m - 1) xs) u u))
          ∙ (crosses_equal t q m positive (take (m - 1) xs) u at (omega arith)
          ∙ (sym (pushed_assoc (take (m - 1) xs) u u) ∙ ap (λ (ys : List ℕ). ys ++ u ∷ []) (sym whole))));
    }

-- a fixed point with the new strand, without it
record Dropped (t : Table) (m : ℕ) (letters : List ℤ) (ys : List ℕ) : Type 0 where
  point : IsFixedPoint t (word m letters) (take m ys)
  again : doubled m (take m ys) ≡ ys

grown_onto : (t : Table) → IsQuandle t → (m : ℕ) (letters : List ℤ) (positive : Bool) → 1 ≤ m → All (IsLetter m) letters → (ys : List ℕ)
    → IsFixedPoint t (word (m + 1) (letters ++ letter_of_crossing m positive ∷ [])) ys → Dropped t m letters ys
grown_onto t q m letters positive least all ys given =
    let long = given.tuple.0 in
    let xs = take m ys in
    let z = get_or ys m 0 in
    let size : length xs ≡ m = length-take-le m ys (omega arith) in
    let tuple : IsTuple t m xs = (size, All-take (λ y. y < t.order) m ys given.tuple.1) in
    let whole : ys ≡ xs ++ z ∷ [] =
    last_split ys (m + 1) long (omega arith) ∙ ap (λ (k : ℕ). take k ys ++ get_or ys k 0 ∷ []) (let e : m + 1 - 1 ≡ m = omega arith in e) in
    let at_z : z < t.order = All-get_or (λ y. y < t.order) ys m 0 (omega arith) given.tuple.1 in
    let acted = action t letters xs in
    let acted_tuple = acts_stay t q m letters all xs tuple in
    let u = get_or acted (m - 1) 0 in
    let v = get_or xs (m - 1) 0 in
    let at_u : u < t.order = All-get_or (λ y. y < t.order) acted (m - 1) 0 (let n = acted_tuple.0 in omega arith) acted_tuple.1 in
    let acted_whole = last_split acted m acted_tuple.0 least in
    let xs_whole = last_split xs m size least in
    let crossed : letter_action t (take (m - 1) acted ++ u ∷ z ∷ []) (letter_of_crossing m positive) ≡ take (m - 1) xs ++ v ∷ z ∷ [] =
    sym (ap (λ (zs : List ℕ). letter_action t zs (letter_of_crossing m positive))
    (acts_front t q m letters all xs z tuple ∙ (ap (λ (zs : List ℕ). zs ++ z ∷ []) acted_whole ∙ pushed_assoc (take (m - 1) acted) u z)))
    ∙ (sym (fold-append (letter_action t) (xs ++ z ∷ []) letters (letter_of_crossing m positive ∷ []))
    ∙ (ap (action t (letters ++ letter_of_crossing m positive ∷ [])) (sym whole)
    ∙ (given.fixed ∙ (whole ∙ (ap (λ (zs : List ℕ). zs ++ z ∷ []) xs_whole ∙ pushed_assoc (take (m - 1) xs) v z))))) in
    let ends = crossed_back t q m positive (take (m - 1) acted) (take (m - 1) xs) u v z at_u at_z
    (let n = length-take-le (m - 1) acted (let k = acted_tuple.0 in omega arith) in omega arith) crossed in
    record {
      point = record {
        tuple = tuple;
        fixed = acted_whole ∙ (ap₂ (λ (zs : List ℕ) (w : ℕ). zs ++ w ∷ []) ends.fronts (ends.last ∙ sym ends.before)
            ∙ sym xs_whole);
      };
      again = ap (λ (w : ℕ). xs ++ w ∷ []) ends.before ∙ sym whole;
    }

pub grown_fixed : (t : Table) → IsQuandle t → (m : ℕ) (letters : List ℤ) (positive : Bool) → 1 ≤ m → All (IsLetter m) letters
    → IsBijection (IsFixedPoint t (word m letters)) (IsFixedPoint t (word (m + 1) (letters ++ letter_of_crossing m positive ∷ []))) (doubled m)
grown_fixed t q m letters positive least all = record {
  into = grown_into t q m letters positive least all;
  onto = λ ys point. let d = grown_onto t q m letters positive least all ys point in (take m ys, d.point, d.again);
  one = λ xs ys at_x at_y e. (same_from_push xs ys (get_or xs (m - 1) 0) (get_or ys (m - 1) 0) e).0;
}

pub dropped_fixed : (t : Table) → IsQuandle t → (m : ℕ) (letters : List ℤ) (positive : Bool) → 1 ≤ m → All (IsLetter m) letters
    → IsBijection (IsFixedPoint t (word (m + 1) (letters ++ letter_of_crossing m positive ∷ []))) (IsFixedPoint t (word m letters)) (take m)
dropped_fixed t q m letters positive least all = record {
  into = λ ys point. (grown_onto t q m letters positive least all ys point).point;
  onto = λ xs point. (doubled m xs, grown_into t q m letters positive least all xs point, take_at xs (get_or xs (m - 1) 0 ∷ []) m point.tuple.0);
  one = λ xs ys at_x at_y e.
      sym (grown_onto t q m letters positive least all xs at_x).again ∙ (ap (doubled m) e ∙ (grown_onto t q m letters positive least all ys at_y).again);
}
