-- A 2-cocycle is a shadow cocycle, and its shadow weights are its weights, whatever the colour of the outer region.
use Rattle.std.proofs.Common.{◌≡◌, ◌∙◌, ◌<◌, ◌≤◌, ◌+◌, ◌-◌, ◌*◌, ◌%◌, ℕ, zero, suc, List, ◌∷◌, fold, ap, ap₂, sym, refl, subst, arith, cond}
use Rattle.std.specs.Prelude.{Bool, true, false, slice_index, filter}
use Rattle.std.specs.List.{range_with_len, sum_by}
use Rattle.std.proofs.Math.Bool.{not}
use Rattle.std.proofs.lemmas.Nat.{mod-mul-add, mul-add-lt}
use Rattle.std.proofs.lemmas.List.FromFn.{get_or-map-range_with_len, length-map-range_with_len}
use Rattle.std.proofs.lemmas.List.Sums.{sum_by-cons}
use Rattle.grid_core.specs.Diagram.{Diagram, IsGrid, size}
use Rattle.grid_core.specs.Parts.{ends, covers, is_up}
use Rattle.grid_core.specs.Crossing.{is_positive}
use Rattle.quandle_core.specs.Quandle.{Table, IsQuandle, over}
use Rattle.colour_rows.specs.Walk.{under, passed, passed_rightward, walk_to}
use Rattle.colour_rows.specs.Colouring.{IsColouring}
use Rattle.colour_laws.specs.Level.{covers_height}
use Rattle.colour_laws.proofs.RowEnds.{AreEnds, are_ends}
use Rattle.colour_laws.proofs.Walks.{HasColours, colour_below, chain_step}
use Rattle.cocycle_core.specs.Cocycle.{Cochain, IsCocycle}
use Rattle.cocycle_core.specs.Cocycle as plain
use Rattle.colour_weights.specs.ShadowWeight.{colour_beside, difference, shadow_crossing_value, shadow_weight}
use Rattle.colour_weights.specs.Weight.{weight}
use Rattle.colour_weights.specs.Weight as plain_weight
use Rattle.colour_weights.proofs.ShadowCarried.{colours_of}
use Rattle.colour_weights.proofs.ShadowCrossingSums.{rightward_below}
use Rattle.colour_weights.proofs.Parted.{fold_below}
use Rattle.colour_weights.proofs.RowCounts.{sum_total, add_mod, total_equal}
use Rattle.cocycle_core.specs.ShadowCocycle.{IsShadowCocycle, shadow_value, one_side, other_side}
use Rattle.colour_weights.specs.Region.{region_beside, height_beside}
use Rattle.colour_weights.specs.Lifted.{lifted_cochain}

-- the number at a place
value_same : (w : Cochain) (u x y : ℕ) → u < w.quandle.order → x < w.quandle.order → y < w.quandle.order
    → shadow_value (lifted_cochain w) u x y ≡ plain.value w x y
value_same w u x y lu lx ly =
    let n : ℕ = w.quandle.order in
    let row : u * w.quandle.order + x < w.quandle.order * w.quandle.order = mul-add-lt u w.quandle.order x w.quandle.order lu lx in
    let inside : (u * w.quandle.order + x) * w.quandle.order + y < w.quandle.order * w.quandle.order * w.quandle.order =
    omega (arith, mul-add-lt (u * w.quandle.order + x) w.quandle.order y (w.quandle.order * w.quandle.order) row ly) in
    let place : x * w.quandle.order + y < w.quandle.order * w.quandle.order = mul-add-lt x w.quandle.order y w.quandle.order lx ly in
    let parts : (u * w.quandle.order + x) * w.quandle.order + y ≡ u * (w.quandle.order * w.quandle.order) + (x * w.quandle.order + y) = omega arith in
    get_or-map-range_with_len (λ k. slice_index w.entries (k % (w.quandle.order * w.quandle.order))) 0 (w.quandle.order * w.quandle.order * w.quandle.order)
    ((u * w.quandle.order + x) * w.quandle.order + y) ((u * w.quandle.order + x) * w.quandle.order + y) 0 inside (omega arith)
    ∙ ap (slice_index w.entries) (ap (λ k. k % (w.quandle.order * w.quandle.order)) parts
    ∙ mod-mul-add u (w.quandle.order * w.quandle.order) (x * w.quandle.order + y) place)

pub lifted_cocycle : (w : Cochain) → IsCocycle w → IsShadowCocycle (lifted_cochain w)
lifted_cocycle w cocycle =
    let q = cocycle.quandle in
    record {
      quandle = cocycle.quandle;
      least = cocycle.least;
      cube =
          length-map-range_with_len (λ k. slice_index w.entries (k % (w.quandle.order * w.quandle.order))) 0
          (w.quandle.order * w.quandle.order * w.quandle.order);
      within = λ u x y lu lx ly. subst (λ (v : ℕ). v < w.modulus) (sym (value_same w u x y lu lx ly)) (cocycle.within x y lx ly);
      diagonal = λ u x lu lx. value_same w u x x lu lx lx ∙ cocycle.diagonal x lx;
      law = λ a b c d la lb lc ld.
          let lac = q.within a c la lc in
          let lbc = q.within b c lb lc in
          let lab = q.within a b la lb in
          let lad = q.within a d la ld in
          let lbd = q.within b d lb ld in
          let lcd = q.within c d lc ld in
          law_of w cocycle (plain.value w b c + plain.value w (over w.quandle b c) d)
          (plain.value w b d + plain.value w (over w.quandle b d) (over w.quandle c d)) (plain.value w c d)
          (one_side (lifted_cochain w) a b c d) (other_side (lifted_cochain w) a b c d)
          (cocycle.law b c d lb lc ld)
          (omega (
            arith,
            value_same w a c d la lc ld,
            value_same w (over w.quandle a c) (over w.quandle b c) d lac lbc ld,
            value_same w a b c la lb lc,
          ))
          (omega (
            arith,
            value_same w (over w.quandle a b) c d lab lc ld,
            value_same w a b d la lb ld,
            value_same w (over w.quandle a d) (over w.quandle b d) (over w.quandle c d) lad lbd lcd,
          ));
    }
  where
    law_of : (w : Cochain) → IsCocycle w → (l r extra one other : ℕ) → l % w.modulus ≡ r % w.modulus → one ≡ l + extra → other ≡ r + extra
        → one % w.modulus ≡ other % w.modulus
    law_of w cocycle l r extra one other e f g =
        let some : 0 < w.modulus = omega (arith, cocycle.least) in
        ap (λ n. n % w.modulus) f ∙ (sym (add_mod w.modulus l extra some) ∙ (ap (λ n. (n + extra) % w.modulus) e ∙ (add_mod w.modulus r extra some
        ∙ ap (λ n. n % w.modulus) (sym g))))

-- sums over what is left of a range by two tests
sum_twice : (f g : ℕ → ℕ) (p q : ℕ → Bool) (a m : ℕ) → ((c : ℕ) → a ≤ c → c < a + m → f c ≡ g c)
    → sum_by f (filter p (filter q (range_with_len a m))) ≡ sum_by g (filter p (filter q (range_with_len a m)))
sum_twice f g p q a zero same = refl
sum_twice f g p q a (suc m) same =
    first (q a) (same a (omega arith) (omega arith)) (sum_twice f g p q (a + 1) m (λ c le lt. same c (omega (arith, le)) (omega (arith, lt))))
  where
    second : (b : Bool) → f a ≡ g a
        → sum_by f (filter p (filter q (range_with_len (a + 1) m))) ≡ sum_by g (filter p (filter q (range_with_len (a + 1) m)))
        → sum_by f (cond b (a ∷ filter p (filter q (range_with_len (a + 1) m))) (filter p (filter q (range_with_len (a + 1) m))))
        ≡ sum_by g (cond b (a ∷ filter p (filter q (range_with_len (a + 1) m))) (filter p (filter q (range_with_len (a + 1) m))))
    second true here rest =
        sum_by-cons f a (filter p (filter q (range_with_len (a + 1) m)))
        ∙ (ap₂ (λ m n. m + n) here rest ∙ sym (sum_by-cons g a (filter p (filter q (range_with_len (a + 1) m)))))
    second false here rest = rest

    first : (b : Bool) → f a ≡ g a
        → sum_by f (filter p (filter q (range_with_len (a + 1) m))) ≡ sum_by g (filter p (filter q (range_with_len (a + 1) m)))
        → sum_by f (filter p (cond b (a ∷ filter q (range_with_len (a + 1) m)) (filter q (range_with_len (a + 1) m))))
        ≡ sum_by g (filter p (cond b (a ∷ filter q (range_with_len (a + 1) m)) (filter q (range_with_len (a + 1) m))))
    first true here rest = second (p a) here rest
    first false here rest = rest

-- one crossing
crossing_same : (w : Cochain) → IsCocycle w → (d : Diagram) (f : List ℕ) → HasColours w.quandle d f → (z : ℕ) → z < w.quandle.order → (c r : ℕ) → r < size d
    → AreEnds d r → (ends d r).low < c → c < (ends d r).high → shadow_crossing_value (lifted_cochain w) d f z c r ≡ plain_weight.crossing_value w d f c r
crossing_same w cocycle d f has z lz c r lr known low high =
    let q = cocycle.quandle in
    let inside : c < size d = omega (arith, high, known.within) in
    let ly : slice_index f c < w.quandle.order = colour_below w.quandle d f has c inside in
    let la : slice_index f (ends d r).low < w.quandle.order = colour_below w.quandle d f has (ends d r).low (omega (arith, low, inside)) in
    let walk = fold_below w.quandle q d f has (λ b. covers d b r) ((ends d r).low + 1) (c - (ends d r).low - 1) (slice_index f (ends d r).low)
    (omega (arith, low, inside)) la in
    let place = λ (b : Bool). fold_below w.quandle q d f has (covers_height d (height_beside d r)) 0 (cond b (c + 1) c) z (below b inside) lz in
    value_same w (region_beside w.quandle d f z c r) (colour_beside w.quandle d f c r) (slice_index f c) (place (is_up d c))
    (beside (is_up d c) (walk_to w.quandle d f r c) walk ly) ly
  where
    below : (b : Bool) → c < size d → 0 + cond b (c + 1) c ≤ size d
    below true lt = omega arith
    below false lt = omega arith

    beside : (b : Bool) (v : ℕ) → v < w.quandle.order → slice_index f c < w.quandle.order
        → cond b (passed_rightward w.quandle (is_up d c) v (slice_index f c)) v < w.quandle.order
    beside true v lv ly = rightward_below w.quandle cocycle.quandle (is_up d c) v (slice_index f c) lv ly
    beside false v lv ly = lv

-- the sum of a test's crossings
sum_same : (w : Cochain) → IsCocycle w → (d : Diagram) → IsGrid d → (f : List ℕ) → HasColours w.quandle d f → (z : ℕ) → z < w.quandle.order
    → (p : ℕ → ℕ → Bool)
    → sum_by (λ r. sum_by (λ c. shadow_crossing_value (lifted_cochain w) d f z c r) (filter (p r) (passed d r))) (range_with_len 0 (size d))
    ≡ sum_by (λ r. sum_by (λ c. plain_weight.crossing_value w d f c r) (filter (p r) (passed d r))) (range_with_len 0 (size d))
sum_same w cocycle d grid f has z lz p =
    sum_total (λ r. sum_by (λ c. shadow_crossing_value (lifted_cochain w) d f z c r) (filter (p r) (passed d r))) (size d)
    ∙ (total_equal (λ r. sum_by (λ c. shadow_crossing_value (lifted_cochain w) d f z c r) (filter (p r) (passed d r)))
    (λ r. sum_by (λ c. plain_weight.crossing_value w d f c r) (filter (p r) (passed d r))) (size d)
    (λ r lr.
    let known = are_ends d grid r lr in
    sum_twice (λ c. shadow_crossing_value (lifted_cochain w) d f z c r) (λ c. plain_weight.crossing_value w d f c r) (p r) (λ c. covers d c r)
    ((ends d r).low + 1)
    ((ends d r).high - (ends d r).low - 1)
    (λ c le lt. crossing_same w cocycle d f has z lz c r lr known (omega (arith, le)) (omega (arith, lt, known.ordered))))
    ∙ sym (sum_total (λ r. sum_by (λ c. plain_weight.crossing_value w d f c r) (filter (p r) (passed d r))) (size d)))

pub lifted_weight : (w : Cochain) → IsCocycle w → (d : Diagram) → IsGrid d → (f : List ℕ) → IsColouring w.quandle d f → (z : ℕ) → z < w.quandle.order
    → shadow_weight (lifted_cochain w) d f z ≡ weight w d f
lifted_weight w cocycle d grid f colouring z lz =
    let has = colours_of w.quandle d grid f colouring in
    ap₂ (difference w.modulus) (sum_same w cocycle d grid f has z lz (λ r c. is_positive d c r))
    (sum_same w cocycle d grid f has z lz (λ r c. not (is_positive d c r)))
