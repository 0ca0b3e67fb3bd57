-- The marked columns of a short grid: only among them is the least translate.
use Rattle.std.proofs.Common.{◌≡◌, ◌≢◌, ◌<◌, ◌≤◌, ◌+◌, ◌-◌, ◌*◌, ◌/◌, ◌%◌, ◌^◌, ◌∷◌, [], ◌∙◌, ℕ, zero, suc, List, length, get_or, map, drop, arith, refl, sym}
use Rattle.std.proofs.Common.{ap, ap₂, subst, inl, inr, zero-add}
use Rattle.std.specs.List.{All, range_with_len}
use Rattle.std.specs.declared.cmp.Ordering.TheVariants.{Less}
use Rattle.std.proofs.Math.Nat.{pow-succ', pow-le-pow_right, mul-le-mul_right, mod-eq_of_lt}
use Rattle.std.proofs.lemmas.Bool.{cases_eq, cases_lt, cases_order}
use Rattle.std.proofs.lemmas.Bool.Decides.{nat_tests}
use Rattle.std.proofs.lemmas.List.{ext_get_or, get_or-drop, drop-drop, length-drop}
use Rattle.std.proofs.lemmas.Simd.{map-map}
use Rattle.std.proofs.lemmas.List.Elements.{All-tail, All-map, All-drop}
use Rattle.std.proofs.lemmas.List.FromFn.{get_or-range_with_len, length-range_with_len, get_or-map-range_with_len, length-map-range_with_len}
use Rattle.grid_core.specs.Diagram.{Diagram, IsGrid, size}
use Rattle.grid_moves.specs.Shift.{shifted}
use Rattle.grid_moves.proofs.Shifted.{shifted_below}
use Rattle.grid_keys.specs.Translation.{translated_rows}
use Rattle.grid_canon.specs.declared.digits.TheConstants.{SHORT_BASE, SHORT_BITS, MAX_SHORT_SIZE, GUARD}
use Rattle.grid_canon.specs.Digits.{short_number, digits, lowered_each, mark, AreLowDigits}
use Rattle.grid_keys.specs.Order.{compare, IsAtMost}
use Rattle.grid_canon.specs.LowColumns.{second_row, marks_below, AreLowColumns}
use Rattle.grid_keys.specs.Cornered.{cornered, IsFirstLeast}
use Rattle.grid_keys.proofs.Ordered.{at_most_from_less, at_most_self}
use Rattle.grid_keys.proofs.Translated.{cut_at, translated_rows_at}
use Rattle.grid_keys.proofs.LeastTranslates.{second_less, first_least_higher, first_least_takes, first_least_keeps}
use Rattle.grid_canon.proofs.ShortNumbers.{AreShortDigits, short_number-below, short_bits}
use Rattle.grid_canon.proofs.NumbersOfDigits.{base_pos, length-digits}
use Rattle.grid_canon.proofs.ShortGrids.{read_digits, digits_fit}
use Rattle.grid_canon.proofs.CutNumbers.{IsFew, IsCut, few_crosses, rows_digits}

-- the power of the base in a number
pub behind_least : (value j : ℕ) → 2 ^ j ≤ value → SHORT_BASE ^ (j / SHORT_BITS) ≤ value
behind_least value j low =
    let p : ℕ = j / SHORT_BITS in
    let power : 2 ^ (SHORT_BITS * p) ≤ 2 ^ j = pow-le-pow_right {n = 2} (omega arith) {i = SHORT_BITS * p} {j = j} (omega arith) in
    omega (arith, low, power, short_bits p)

pub behind_most : (value j : ℕ) → value < 2 * 2 ^ j → value < SHORT_BASE ^ (j / SHORT_BITS + 1)
behind_most value j high =
    let p : ℕ = j / SHORT_BITS + 1 in
    let power : 2 ^ suc j ≤ 2 ^ (SHORT_BITS * p) = pow-le-pow_right {n = 2} (omega arith) {i = suc j} {j = SHORT_BITS * p} (omega arith) in
    omega (arith, high, power, pow-succ' 2 j, short_bits p)

-- the first digit of a number that isn't 0, by its power of the base
record IsTop (list : List ℕ) (value p : ℕ) : Type 0 where
  at : ℕ
  place : at + 1 + p ≡ length list
  before : (j : ℕ) → j < at → get_or list j 0 ≡ 0
  here : 0 < get_or list at 0
  rest : value ≡ get_or list at 0 * SHORT_BASE ^ p + short_number (drop (suc at) list)

top_of : (list : List ℕ) (value p : ℕ) → AreShortDigits list → value ≡ short_number list → SHORT_BASE ^ p ≤ value → value < SHORT_BASE ^ (p + 1)
    → IsTop list value p
top_of [] value p all is low high = absurd (omega (arith, low, is, base_pos p))
top_of (x ∷ xs) value p all is low high = elim (cases_eq x 0) [
  | inl none ↦
      let more = top_of xs value p (All-tail (λ digit. digit < SHORT_BASE) x xs all)
      (is ∙ ap (λ (z : ℕ). z * SHORT_BASE ^ length xs + short_number xs) none ∙ nothing (SHORT_BASE ^ length xs) (short_number xs)) low high in
      record {
        at = suc more.at;
        place = omega (arith, more.place);
        before = earlier x xs more.at none more.before;
        here = more.here;
        rest = more.rest;
      }
  | inr some ↦
      let n : ℕ = length xs in
      let below : short_number xs < SHORT_BASE ^ n = short_number-below xs (All-tail (λ digit. digit < SHORT_BASE) x xs all) in
      let above : 1 * SHORT_BASE ^ n ≤ x * SHORT_BASE ^ n = mul-le-mul_right (SHORT_BASE ^ n) (let e : 1 ≤ x = omega (arith, some) in e) in
      let whole : value < SHORT_BASE ^ suc n = subst (λ (z : ℕ). z < SHORT_BASE ^ suc n) (sym is) (short_number-below (x ∷ xs) all) in
      let same : p ≡ n = equal p n value low high (omega (arith, is, above)) whole in
      record {
        at = 0;
        place = omega (arith, same);
        before = λ j lt. absurd (omega (arith, lt));
        here = omega (arith, some);
        rest = is ∙ ap (λ (z : ℕ). x * SHORT_BASE ^ z + short_number xs) (sym same);
      }
]
  where
    nothing : (a b : ℕ) → 0 * a + b ≡ b
    nothing a b = omega arith

    earlier : (x : ℕ) (xs : List ℕ) (n : ℕ) → x ≡ 0 → ((j : ℕ) → j < n → get_or xs j 0 ≡ 0) → (j : ℕ) → j < suc n → get_or (x ∷ xs) j 0 ≡ 0
    earlier x xs n none rest zero lt = none
    earlier x xs n none rest (suc j) lt = rest j (omega (arith, lt))

    equal : (p n value : ℕ) → SHORT_BASE ^ p ≤ value → value < SHORT_BASE ^ (p + 1) → SHORT_BASE ^ n ≤ value → value < SHORT_BASE ^ suc n → p ≡ n
    equal p n value low high near far = elim (cases_order p n) [
      | inl same ↦ same
      | inr other ↦ elim other [
        | inl lt ↦ absurd (omega (arith, high, near, pow-le-pow_right {n = SHORT_BASE} (omega arith) {i = p + 1} {j = n} (omega (arith, lt))))
        | inr gt ↦ absurd (omega (arith, low, far, pow-le-pow_right {n = SHORT_BASE} (omega arith) {i = suc n} {j = p} (omega (arith, gt))))
      ]
    ]

-- 0 has no other digit
all_none : (list : List ℕ) → short_number list ≡ 0 → (j : ℕ) → j < length list → get_or list j 0 ≡ 0
all_none [] is j lt = absurd (omega (arith, lt))
all_none (x ∷ xs) is zero lt = first_none x (length xs) (short_number xs) is
  where
    first_none : (x n rest : ℕ) → x * SHORT_BASE ^ n + rest ≡ 0 → x ≡ 0
    first_none x n rest is = elim (cases_eq x 0) [
      | inl none ↦ none
      | inr some ↦
          let above : 1 * SHORT_BASE ^ n ≤ x * SHORT_BASE ^ n = mul-le-mul_right (SHORT_BASE ^ n) (let e : 1 ≤ x = omega (arith, some) in e) in
          absurd (omega (arith, is, above, base_pos n))
    ]
all_none (x ∷ xs) is (suc j) lt = all_none xs (let e : short_number xs ≡ 0 = omega (arith, is) in e) j (omega (arith, lt))

-- the marks
mark_is : (bound s : ℕ) → s < bound → mark bound s ≡ GUARD
mark_is bound s lt = grind (arith, nat_tests)

mark_none : (bound s : ℕ) → bound ≤ s → mark bound s ≡ 0
mark_none bound s le = grind (arith, nat_tests)

mark_small : (bound s : ℕ) → mark bound s < SHORT_BASE
mark_small bound s = elim (cases_lt s bound) [ inl lt ↦ omega (arith, mark_is bound s lt) | inr ge ↦ omega (arith, mark_none bound s ge) ]

low_of_mark : (bound s : ℕ) → 0 < mark bound s → s < bound
low_of_mark bound s pos = elim (cases_lt s bound) [ inl lt ↦ lt | inr ge ↦ absurd (omega (arith, pos, mark_none bound s ge)) ]

high_of_none : (bound s : ℕ) → mark bound s ≡ 0 → bound ≤ s
high_of_none bound s none = elim (cases_lt s bound) [ inl lt ↦ absurd (omega (arith, none, mark_is bound s lt)) | inr ge ↦ ge ]

mark_at : (d : Diagram) (bound seen j : ℕ) → seen + j < size d → get_or (drop seen (marks_below d bound)) j 0 ≡ mark bound (second_row d (seen + j))
mark_at d bound seen j lt =
    get_or-drop seen (marks_below d bound) j 0
    ∙ get_or-map-range_with_len (λ a. mark bound (second_row d a)) 0 (size d) (seen + j) (seen + j) 0 lt (zero-add (seen + j))

length-marks : (d : Diagram) (bound seen : ℕ) → length (drop seen (marks_below d bound)) ≡ size d - seen
length-marks d bound seen =
    length-drop seen (marks_below d bound) ∙ ap (λ (z : ℕ). z - seen) (length-map-range_with_len (λ a. mark bound (second_row d a)) 0 (size d))

marks_small : (d : Diagram) (bound seen : ℕ) → AreShortDigits (drop seen (marks_below d bound))
marks_small d bound seen =
    All-drop (λ digit. digit < SHORT_BASE) seen (marks_below d bound)
    (All-map (λ digit. digit < SHORT_BASE) (λ a. mark bound (second_row d a)) (range_with_len 0 (size d))
    (λ k e lt. mark_small bound (second_row d (get_or (range_with_len 0 (size d)) k e))))

-- the first marked column
record IsNext (d : Diagram) (bound seen marks p : ℕ) : Type 0 where
  column : ℕ
  inside : column + 1 + p ≡ size d
  later : seen ≤ column
  skipped : (k : ℕ) → seen ≤ k → k < column → bound ≤ second_row d k
  low : second_row d column < bound
  rest : marks ≡ GUARD * SHORT_BASE ^ p + short_number (drop (column + 1) (marks_below d bound))

next_of : (d : Diagram) (bound seen marks p : ℕ) → seen ≤ size d → marks ≡ short_number (drop seen (marks_below d bound)) → SHORT_BASE ^ p ≤ marks
    → marks < SHORT_BASE ^ (p + 1) → IsNext d bound seen marks p
next_of d bound seen marks p within is least most =
    let top = top_of (drop seen (marks_below d bound)) marks p (marks_small d bound seen) is least most in
    let inside : seen + top.at + 1 + p ≡ size d = omega (arith, top.place, length-marks d bound seen, within) in
    let here : get_or (drop seen (marks_below d bound)) top.at 0 ≡ mark bound (second_row d (seen + top.at)) =
    mark_at d bound seen top.at (omega (arith, inside)) in
    let low : second_row d (seen + top.at) < bound = low_of_mark bound (second_row d (seen + top.at)) (omega (arith, here, top.here)) in
    record {
      column = seen + top.at;
      inside = inside;
      later = omega arith;
      skipped = λ k from to.
          let at : seen + (k - seen) ≡ k = omega (arith, from) in
          high_of_none bound (second_row d k)
          (ap (λ (z : ℕ). mark bound (second_row d z)) (sym at) ∙ sym (mark_at d bound seen (k - seen) (omega (arith, at, to, inside)))
          ∙ top.before (k - seen) (omega (arith, at, to)));
      low = low;
      rest = top.rest
          ∙ ap₂ (λ (z : ℕ) zs. z * SHORT_BASE ^ p + short_number zs) (here ∙ mark_is bound (second_row d (seen + top.at)) low)
          (drop-drop (suc top.at) seen (marks_below d bound))
          ∙ ap (λ (z : ℕ). GUARD * SHORT_BASE ^ p + short_number (drop z (marks_below d bound)))
          (let e : seen + suc top.at ≡ seen + top.at + 1 = omega arith in e);
    }

-- columns that are passed over
skip : (d : Diagram) (best from to : ℕ) → IsGrid d → IsFirstLeast d from best → from ≤ to → to ≤ size d
    → ((k : ℕ) → from ≤ k → k < to → second_row d best < second_row d k) → IsFirstLeast d to best
skip d best from zero grid known le within apart =
    subst (λ (n : ℕ). IsFirstLeast d n best) (let e : from ≡ 0 = omega (arith, le) in e) known
skip d best from (suc to) grid known le within apart = elim (cases_eq from (suc to)) [
  | inl same ↦ subst (λ (n : ℕ). IsFirstLeast d n best) same known
  | inr other ↦
      let more = skip d best from to grid known (omega (arith, le, other)) (omega (arith, within)) (λ k low high. apart k low (omega (arith, high))) in
      subst (λ (n : ℕ). IsFirstLeast d n best) (let e : to + 1 ≡ suc to = omega arith in e)
      (first_least_higher d to best (second_row d to) (second_row d best) grid (omega (arith, within)) more refl refl
      (apart to (omega (arith, le, other)) (omega arith)))
]

-- what is left to compare, with the first column of the least so far
pub record IsLeft (d : Diagram) (best marks : ℕ) : Type 0 where
  pub seen : ℕ
  pub bound : ℕ
  pub within : seen ≤ size d
  pub known : IsFirstLeast d seen best
  pub low : second_row d best < bound
  pub marked : marks ≡ short_number (drop seen (marks_below d bound))

abbrev unmarked : ℕ → ℕ → ℕ
unmarked marks p = marks - GUARD * SHORT_BASE ^ p

pub record Begins (d : Diagram) (marks p : ℕ) : Type 0 where
  pub column : ℕ
  pub inside : column + 1 + p ≡ size d
  pub taken : GUARD * SHORT_BASE ^ p ≤ marks
  pub left : IsLeft d column (unmarked marks p)

pub begins : (d : Diagram) (marks p : ℕ) → IsGrid d → AreLowColumns d marks → SHORT_BASE ^ p ≤ marks → marks < SHORT_BASE ^ (p + 1) → Begins d marks p
begins d marks p grid low least most =
    let next = next_of d low.bound 0 marks p (omega arith) low.marked least most in
    let apart : (k : ℕ) → k < next.column → second_row d next.column < second_row d k =
    λ k lt. omega (arith, next.low, next.skipped k (omega arith) lt) in
    let less : (k : ℕ) → k < next.column → compare (cornered d next.column) (cornered d k) ≡ Less =
    λ k lt. second_less d next.column k grid (omega (arith, next.inside)) (omega (arith, next.inside, lt)) (apart k lt) in
    record {
      column = next.column;
      inside = next.inside;
      taken = omega (arith, next.rest);
      left = record {
        seen = next.column + 1;
        bound = low.bound;
        within = omega (arith, next.inside);
        known = record {
          inside = omega arith;
          least = λ b lt. elim (cases_eq b next.column) [
            | inl same ↦
                subst (λ (z : ℕ). IsAtMost (cornered d next.column) (cornered d z)) (sym same) (at_most_self (cornered d next.column))
            | inr other ↦ at_most_from_less (cornered d next.column) (cornered d b) (less b (omega (arith, lt, other)))
          ];
          first = less;
        };
        low = next.low;
        marked = omega (arith, next.rest);
      };
    }

pub record Goes (d : Diagram) (best marks p : ℕ) : Type 0 where
  pub column : ℕ
  pub inside : column + 1 + p ≡ size d
  pub taken : GUARD * SHORT_BASE ^ p ≤ marks
  pub takes : compare (cornered d column) (cornered d best) ≡ Less → IsLeft d column (unmarked marks p)
  pub keeps : compare (cornered d column) (cornered d best) ≢ Less → IsLeft d best (unmarked marks p)

pub goes : (d : Diagram) (best marks p : ℕ) → IsGrid d → IsLeft d best marks → SHORT_BASE ^ p ≤ marks → marks < SHORT_BASE ^ (p + 1) → Goes d best marks p
goes d best marks p grid left least most =
    let next = next_of d left.bound left.seen marks p left.within left.marked least most in
    let known : IsFirstLeast d next.column best =
    skip d best left.seen next.column grid left.known next.later (omega (arith, next.inside))
    (λ k from to. omega (arith, left.low, next.skipped k from to)) in
    record {
      column = next.column;
      inside = next.inside;
      taken = omega (arith, next.rest);
      takes = λ less. record {
        seen = next.column + 1;
        bound = left.bound;
        within = omega (arith, next.inside);
        known = first_least_takes d next.column best known less;
        low = next.low;
        marked = omega (arith, next.rest);
      };
      keeps = λ same. record {
        seen = next.column + 1;
        bound = left.bound;
        within = omega (arith, next.inside);
        known = first_least_keeps d next.column best known same;
        low = left.low;
        marked = omega (arith, next.rest);
      };
    }

pub ends : (d : Diagram) (best marks : ℕ) → IsGrid d → IsLeft d best marks → marks ≡ 0 → IsFirstLeast d (size d) best
ends d best marks grid left none =
    let each = all_none (drop left.seen (marks_below d left.bound)) (sym left.marked ∙ none) in
    skip d best left.seen (size d) grid left.known left.within (omega arith)
    (λ k from to.
    let at : left.seen + (k - left.seen) ≡ k = omega (arith, from) in
    let high : left.bound ≤ second_row d k =
    high_of_none left.bound (second_row d k)
    (ap (λ (z : ℕ). mark left.bound (second_row d z)) (sym at) ∙ sym (mark_at d left.bound left.seen (k - left.seen) (omega (arith, at, to)))
    ∙ each (k - left.seen) (omega (arith, at, to, length-marks d left.bound left.seen))) in
    omega (arith, left.low, high))

-- the bits of a mark
pub record IsMark (n p marks : ℕ) : Type 0 where
  pub inside : p < n
  pub bits : SHORT_BITS * p < 64
  pub power : GUARD * 2 ^ (SHORT_BITS * p) % 2 ^ 64 ≡ GUARD * SHORT_BASE ^ p
  pub taken : GUARD * 2 ^ (SHORT_BITS * p) % 2 ^ 64 ≤ marks
  pub fewer : marks - GUARD * 2 ^ (SHORT_BITS * p) % 2 ^ 64 < marks

pub mark_in : (n p column marks : ℕ) → n ≤ MAX_SHORT_SIZE → column + 1 + p ≡ n → GUARD * SHORT_BASE ^ p ≤ marks → IsMark n p marks
mark_in n p column marks most inside taken =
    let low : 2 ^ (SHORT_BITS * p) ≤ 2 ^ (SHORT_BITS * (MAX_SHORT_SIZE - 1)) =
    pow-le-pow_right {n = 2} (omega arith) {i = SHORT_BITS * p} {j = SHORT_BITS * (MAX_SHORT_SIZE - 1)} (omega (arith, most, inside)) in
    let fits : GUARD * 2 ^ (SHORT_BITS * p) < 2 ^ 64 = omega (arith, low) in
    let power : GUARD * 2 ^ (SHORT_BITS * p) % 2 ^ 64 ≡ GUARD * SHORT_BASE ^ p =
    mod-eq_of_lt fits ∙ ap (λ (z : ℕ). GUARD * z) (sym (short_bits p)) in
    record {
      inside = omega (arith, inside);
      bits = omega (arith, most, inside);
      power = power;
      taken = omega (arith, power, taken);
      fewer = omega (arith, power, taken, base_pos p);
    }

-- the rows of the second columns, from the digits of two numbers
pub record AreSteps (n steps : ℕ) (d : Diagram) : Type 0 where
  pub fits : steps < SHORT_BASE ^ n
  pub inside : All (λ r. r < n) (digits n steps)
  pub list : digits n steps ≡ map (second_row d) (range_with_len 0 (size d))

pub steps_of : (n crosses next steps : ℕ) (d : Diagram) → IsFew n d → digits n crosses ≡ d.x → IsCut n 1 next d.x
    → steps ≡ short_number (lowered_each n (digits n next) (digits n crosses)) → AreSteps n steps d
steps_of n crosses next steps d f own cut is =
    let rows : List ℕ = map (second_row d) (range_with_len 0 (size d)) in
    let long : length rows ≡ n = length-map-range_with_len (second_row d) 0 (size d) ∙ f.columns in
    let count : length (lowered_each n (digits n next) (digits n crosses)) ≡ n =
    length-map-range_with_len (λ c. shifted n (get_or (digits n crosses) c 0) (get_or (digits n next) c 0)) 0 n in
    let same : lowered_each n (digits n next) (digits n crosses) ≡ rows =
    ext_get_or 0 (lowered_each n (digits n next) (digits n crosses)) rows (count ∙ sym long)
    (λ c within. let lt : c < n = omega (arith, within, count) in
    get_or-map-range_with_len (λ c. shifted n (get_or (digits n crosses) c 0) (get_or (digits n next) c 0)) 0 n c c 0 lt (zero-add c)
    ∙ ap₂ (λ xs ys. shifted n (get_or xs c 0) (get_or ys c 0)) own cut.list
    ∙ ap (λ (z : ℕ). shifted n (get_or d.x c 0) z) (cut_at d.x n 1 c f.columns (omega (arith, f.columns, f.grid.least)) lt)
    ∙ ap (λ (z : ℕ). shifted n (get_or d.x c 0) (get_or d.x (z % n) 0)) (let e : c + 1 ≡ 1 + c = omega arith in e)
    ∙ sym (translated_rows_at d.x n c (get_or d.x c 0) 1 f.columns lt (omega (arith, f.columns, f.grid.least)))
    ∙ ap (λ (z : ℕ). get_or (translated_rows z c (get_or d.x c 0) d.x) 1 0) (sym f.columns)
    ∙ sym (get_or-map-range_with_len (second_row d) 0 (size d) c c 0 (omega (arith, lt, f.columns)) (zero-add c))) in
    let inside : All (λ r. r < n) rows =
    subst (λ zs. All (λ r. r < n) zs) same
    (All-map (λ r. r < n) (λ c. shifted n (get_or (digits n crosses) c 0) (get_or (digits n next) c 0)) (range_with_len 0 n)
    (λ k e within. let at : get_or (range_with_len 0 n) k e < n =
    omega (arith, within, length-range_with_len 0 n, get_or-range_with_len 0 n k e (omega (arith, within, length-range_with_len 0 n))) in
    shifted_below n (get_or (digits n crosses) (get_or (range_with_len 0 n) k e) 0) (get_or (digits n next) (get_or (range_with_len 0 n) k e) 0)
    (subst (λ zs. All (λ r. r < n) zs) (sym own) (few_crosses n d f) (get_or (range_with_len 0 n) k e) 0
    (omega (arith, at, length-digits n crosses)))
    (cut.inside (get_or (range_with_len 0 n) k e) 0 (omega (arith, at, length-digits n next))))) in
    let small : AreShortDigits rows = rows_digits n rows f.most inside in
    let number : steps ≡ short_number rows = is ∙ ap short_number same in
    let list : digits n steps ≡ rows = read_digits n steps rows long small number in
    record { fits = digits_fit n steps rows long small number; inside = subst (λ zs. All (λ r. r < n) zs) (sym list) inside; list = list }

pub low_columns_of : (n steps marks : ℕ) (d : Diagram) → AreSteps n steps d → AreLowDigits n steps marks → AreLowColumns d marks
low_columns_of n steps marks d known low = record {
  bound = low.bound;
  some = low.some;
  marked = low.marked
      ∙ ap (λ zs. short_number (map (mark low.bound) zs)) known.list
      ∙ ap short_number (map-map (mark low.bound) (second_row d) (range_with_len 0 (size d)));
}
