-- The trades of a short grid, by the marks of its columns or of its rows.
use Rattle.std.proofs.Common.{◌≡◌, ◌<◌, ◌≤◌, ◌∙◌, ◌==◌, ◌||◌, ◌++◌, ℕ, List, Bool, true, false, not, nat_lt, bit_or, bit_xor, All, length, get_or, map, take}
use Rattle.std.proofs.Common.{drop, arith, refl, sym, ap, ap₂, zero-add, ◌^◌}
use Rattle.std.specs.Prelude.{if◌then◌else◌}
use Rattle.std.specs.List.{range_with_len}
use Rattle.std.specs.Option.{is_none}
use Rattle.std.proofs.lemmas.Bool.Decides.{nat_tests}
use Rattle.std.proofs.lemmas.List.{ext_get_or}
use Rattle.std.proofs.lemmas.List.FromFn.{get_or-map-range_with_len, length-map-range_with_len}
use Rattle.grid_core.specs.declared.span.Span.{Span}
use Rattle.grid_core.specs.Span.{share_one_end}
use Rattle.grid_moves.specs.MoveFault.{exchange_fault}
use Rattle.grid_moves.specs.Shift.{shifted}
use Rattle.grid_moves.proofs.Shifted.{shifted_below}
use Rattle.grid_canon.specs.declared.digits.TheConstants.{SHORT_BASE, MAX_SHORT_SIZE, GUARD}
use Rattle.grid_canon.specs.Digits.{short_number, digits, lowered_each, mark}
use Rattle.grid_canon.specs.ShortTrades.{Trades, trades_where, trades_of, next, is_marked, AreMasks, ArePairs, digit_span, one_alone, apart_from}
use Rattle.grid_canon.specs.ShortTrades.{touch_once_from, counted_trades}
use Rattle.grid_canon.proofs.Guards.{digit_of}
use Rattle.grid_canon.proofs.Placed.{HasDigits, all_digits, each_digit, cut_digits, lowered_digits_each, next_below, or_fits, xor_fits, digit-or, digit-xor}
use Rattle.grid_canon.proofs.CountedEnds.{apart_counted, touch_counted}

-- lists of tests
pub same_tests : (n : ℕ) (f g : ℕ → Bool) → ((c : ℕ) → c < n → f c ≡ g c) → map f (range_with_len 0 n) ≡ map g (range_with_len 0 n)
same_tests n f g same =
    ext_get_or false (map f (range_with_len 0 n)) (map g (range_with_len 0 n)) (length-map-range_with_len f 0 n ∙ sym (length-map-range_with_len g 0 n))
    (λ c inside. let lt : c < n = omega (arith, inside, length-map-range_with_len f 0 n) in
    get_or-map-range_with_len f 0 n c c false lt (zero-add c) ∙ same c lt ∙ sym (get_or-map-range_with_len g 0 n c c false lt (zero-add c)))

pub same_trades : (n : ℕ) (f g f' g' : ℕ → Bool) → ((c : ℕ) → c < n → f c ≡ f' c) → ((c : ℕ) → c < n → g c ≡ g' c)
    → trades_where n f g ≡ trades_where n f' g'
same_trades n f g f' g' first second = ap₂ (λ xs ys. made xs ys) (same_tests n f f' first) (same_tests n g g' second)
  where
    made : List Bool → List Bool → Trades
    made xs ys = record { exchange = xs; slide = ys }

-- they are as many
pub trades_count : (n : ℕ) (spans : ℕ → Span) (trades : Trades) → trades ≡ trades_of n spans → (length trades.exchange ≡ n) × (length trades.slide ≡ n)
trades_count n spans trades is = (
  ap (λ t. length t.exchange) is ∙ length-map-range_with_len (λ c. is_none (exchange_fault (spans c) (spans (next n c)))) 0 n,
  ap (λ t. length t.slide) is ∙ length-map-range_with_len (λ c. share_one_end (spans c) (spans (next n c))) 0 n,
)

-- what is read of them
pub test_at : (n c : ℕ) (f : ℕ → Bool) (tests : List Bool) → map f (range_with_len 0 n) ≡ tests → c < length tests → (c < n) × (f c ≡ get_or tests c false)
test_at n c f tests is inside =
    let long : length tests ≡ n = sym (ap length is) ∙ length-map-range_with_len f 0 n in
    let lt : c < n = omega (arith, inside, long) in
    (lt, sym (get_or-map-range_with_len f 0 n c c false lt (zero-add c)) ∙ ap (λ xs. get_or xs c false) is)

-- a guard where there is a mark
abbrev pub guard_if : Bool → ℕ
guard_if b = if b then GUARD else 0

abbrev pub HasMarks : ℕ → (ℕ → Bool) → ℕ → Type 0
HasMarks n p marks = HasDigits n (λ c. guard_if (p c)) marks

pub xor_marks : (n a b : ℕ) (p q : ℕ → Bool) → HasMarks n p a → HasMarks n q b → HasMarks n (λ c. one_alone (p c) (q c)) (bit_xor a b)
xor_marks n a b p q ma mb = record {
  fits = xor_fits n a b ma.fits mb.fits;
  at = λ c lt. digit-xor n a b c ∙ ap₂ bit_xor (ma.at c lt) (mb.at c lt) ∙ both (p c) (q c);
}
  where
    both : (s t : Bool) → bit_xor (guard_if s) (guard_if t) ≡ guard_if (one_alone s t)
    both true true = refl
    both true false = refl
    both false true = refl
    both false false = refl

pub or_marks : (n a b : ℕ) (p q : ℕ → Bool) → HasMarks n p a → HasMarks n q b → HasMarks n (λ c. p c || q c) (bit_or a b)
or_marks n a b p q ma mb = record {
  fits = or_fits n a b ma.fits mb.fits;
  at = λ c lt. digit-or n a b c ∙ ap₂ bit_or (ma.at c lt) (mb.at c lt) ∙ both (p c) (q c);
}
  where
    both : (s t : Bool) → bit_or (guard_if s) (guard_if t) ≡ guard_if (s || t)
    both true true = refl
    both true false = refl
    both false true = refl
    both false false = refl

pub marked_is : (n marks : ℕ) (p : ℕ → Bool) → HasMarks n p marks → (c : ℕ) → c < n → is_marked n marks c ≡ p c
marked_is n marks p known c lt = ap (λ (z : ℕ). not (z == 0)) (known.at c lt) ∙ told (p c)
  where
    told : (b : Bool) → not (guard_if b == 0) ≡ b
    told true = refl
    told false = refl

-- the masks, by the marks of the ends
pub record Masks (n end cross ring exchanges slides : ℕ) : Type 0 where
  pub fit : AreMasks n exchanges slides
  pub are : trades_where n (is_marked n exchanges) (is_marked n slides) ≡ counted_trades n end cross ring

pub masks_of : (n end cross ring guards cross_before ring_before cross_behind ones start : ℕ) → n ≤ MAX_SHORT_SIZE → HasDigits n (λ c. GUARD) guards
    → HasDigits n (λ c. mark (digit_of n end c) (digit_of n cross c)) cross_before
    → HasDigits n (λ c. mark (digit_of n end c) (digit_of n ring c)) ring_before
    → HasDigits n (λ c. mark (digit_of n cross c) (digit_of n end c)) cross_behind
    → HasDigits n (λ c. 1) ones
    → HasDigits n (λ c. mark (digit_of n ones c) (digit_of n ring c)) start
    → Masks n end cross ring
    (bit_xor guards (bit_or (bit_or (bit_xor guards (bit_xor cross_before cross_behind)) start) (bit_xor cross_before ring_before)))
    (bit_xor (bit_xor guards (bit_xor cross_before cross_behind)) start)
masks_of n end cross ring guards cross_before ring_before cross_behind ones start most full before ring_marks behind unit first =
    let e : ℕ → ℕ = digit_of n end in
    let u : ℕ → ℕ = digit_of n cross in
    let v : ℕ → ℕ = digit_of n ring in
    let all : HasMarks n (λ c. true) guards = record { fits = full.fits; at = full.at } in
    let inside : HasMarks n (λ c. nat_lt (u c) (e c)) cross_before = before in
    let within : HasMarks n (λ c. nat_lt (v c) (e c)) ring_before = ring_marks in
    let outside : HasMarks n (λ c. nat_lt (e c) (u c)) cross_behind = behind in
    let at_start : HasMarks n (λ c. v c == 0) start = record {
      fits = first.fits;
      at = λ c lt. first.at c lt ∙ ap (λ (z : ℕ). mark z (v c)) (unit.at c lt) ∙ ap (λ b. guard_if b) (none (v c));
    } in
    let apart = xor_marks n cross_before cross_behind (λ c. nat_lt (u c) (e c)) (λ c. nat_lt (e c) (u c)) inside outside in
    let at_end : HasMarks n (λ c. u c == e c) (bit_xor guards (bit_xor cross_before cross_behind)) =
    let made = xor_marks n guards (bit_xor cross_before cross_behind) (λ c. true) (λ c. one_alone (nat_lt (u c) (e c)) (nat_lt (e c) (u c))) all apart in
    record { fits = made.fits; at = λ c lt. made.at c lt ∙ ap (λ b. guard_if b) (same (u c) (e c)) } in
    let touch = or_marks n (bit_xor guards (bit_xor cross_before cross_behind)) start (λ c. u c == e c) (λ c. v c == 0) at_end at_start in
    let mixed = xor_marks n cross_before ring_before (λ c. nat_lt (u c) (e c)) (λ c. nat_lt (v c) (e c)) inside within in
    let no =
    or_marks n (bit_or (bit_xor guards (bit_xor cross_before cross_behind)) start) (bit_xor cross_before ring_before) (λ c. (u c == e c) || (v c == 0))
    (λ c. one_alone (nat_lt (u c) (e c)) (nat_lt (v c) (e c))) touch mixed in
    let yes =
    xor_marks n guards (bit_or (bit_or (bit_xor guards (bit_xor cross_before cross_behind)) start) (bit_xor cross_before ring_before)) (λ c. true)
    (λ c. ((u c == e c) || (v c == 0)) || one_alone (nat_lt (u c) (e c)) (nat_lt (v c) (e c))) all no in
    let once =
    xor_marks n (bit_xor guards (bit_xor cross_before cross_behind)) start (λ c. u c == e c) (λ c. v c == 0) at_end at_start in
    record {
      fit = record { most = most; exchanges_fit = yes.fits; slides_fit = once.fits };
      are =
          same_trades n
          (is_marked n (bit_xor guards (bit_or (bit_or (bit_xor guards (bit_xor cross_before cross_behind)) start) (bit_xor cross_before ring_before))))
          (is_marked n (bit_xor (bit_xor guards (bit_xor cross_before cross_behind)) start)) (λ c. apart_from (e c) (u c) (v c))
          (λ c. touch_once_from (e c) (u c) (v c))
          (marked_is n
          (bit_xor guards (bit_or (bit_or (bit_xor guards (bit_xor cross_before cross_behind)) start) (bit_xor cross_before ring_before)))
          (λ c. apart_from (e c) (u c) (v c)) yes)
          (marked_is n (bit_xor (bit_xor guards (bit_xor cross_before cross_behind)) start) (λ c. touch_once_from (e c) (u c) (v c)) once);
    }
  where
    none : (v : ℕ) → nat_lt v 1 ≡ (v == 0)
    none v = grind (arith, nat_tests)

    same : (u e : ℕ) → not (one_alone (nat_lt u e) (nat_lt e u)) ≡ (u == e)
    same u e = grind (arith, nat_tests)

-- the ends that the code counts
pub record IsInside (n : ℕ) (f : ℕ → ℕ) (value : ℕ) : Type 0 where
  pub has : HasDigits n f value
  pub inside : All (λ r. r < n) (digits n value)

pub next_rows : (n value cut : ℕ) → 2 ≤ n → value < SHORT_BASE ^ n → All (λ r. r < n) (digits n value)
    → cut ≡ short_number (drop 1 (digits n value) ++ take 1 (digits n value)) → IsInside n (λ c. digit_of n value (next n c)) cut
next_rows n value cut least low inside is =
    let has = cut_digits n value cut least low is in
    record { has = has; inside = all_digits n cut n (λ c lt. omega (arith, has.at c lt, each_digit n value n inside (next n c) (next_below n c lt))) }

pub counted_rows : (n value by lowered : ℕ) → n ≤ MAX_SHORT_SIZE → All (λ r. r < n) (digits n value) → All (λ r. r < n) (digits n by)
    → lowered ≡ short_number (lowered_each n (digits n value) (digits n by))
    → IsInside n (λ c. shifted n (digit_of n by c) (digit_of n value c)) lowered
counted_rows n value by lowered most inside by_inside is =
    let has = lowered_digits_each n value by lowered most inside by_inside is in
    record {
      has = has;
      inside =
          all_digits n lowered n
          (λ c lt. omega (
            arith,
            has.at c lt,
            shifted_below n (digit_of n by c) (digit_of n value c) (each_digit n by n by_inside c lt) (each_digit n value n inside c lt),
          ));
    }

pub counted_pairs : (n crosses rings end next_crosses cross next_rings ring : ℕ) → ArePairs n crosses rings
    → IsInside n (λ c. shifted n (digit_of n crosses c) (digit_of n rings c)) end
    → IsInside n (λ c. digit_of n crosses (next n c)) next_crosses
    → IsInside n (λ c. shifted n (digit_of n crosses c) (digit_of n next_crosses c)) cross
    → IsInside n (λ c. digit_of n rings (next n c)) next_rings
    → IsInside n (λ c. shifted n (digit_of n crosses c) (digit_of n next_rings c)) ring
    → counted_trades n end cross ring ≡ trades_of n (digit_span n crosses rings)
counted_pairs n crosses rings end next_crosses cross next_rings ring pairs he hnx hx hno ho =
    same_trades n (λ c. apart_from (digit_of n end c) (digit_of n cross c) (digit_of n ring c))
    (λ c. touch_once_from (digit_of n end c) (digit_of n cross c) (digit_of n ring c))
    (λ c. is_none (exchange_fault (digit_span n crosses rings c) (digit_span n crosses rings (next n c))))
    (λ c. share_one_end (digit_span n crosses rings c) (digit_span n crosses rings (next n c)))
    (λ c lt. told (λ e u v. apart_from e u v) c lt
    ∙ apart_counted n (x c) (o c) (x (next n c)) (o (next n c)) (x_in c lt) (o_in c lt) (x_in (next n c) (next_below n c lt))
    (o_in (next n c) (next_below n c lt)) (pairs.two_ends c lt) (pairs.two_ends (next n c) (next_below n c lt)) (pairs.crosses_apart c lt)
    (pairs.rings_apart c lt))
    (λ c lt. told (λ e u v. touch_once_from e u v) c lt
    ∙ touch_counted n (x c) (o c) (x (next n c)) (o (next n c)) (x_in c lt) (o_in c lt) (x_in (next n c) (next_below n c lt))
    (o_in (next n c) (next_below n c lt)) (pairs.two_ends c lt) (pairs.two_ends (next n c) (next_below n c lt)) (pairs.crosses_apart c lt)
    (pairs.rings_apart c lt))
  where
    x : ℕ → ℕ
    x = digit_of n crosses

    o : ℕ → ℕ
    o = digit_of n rings

    x_in : (c : ℕ) → c < n → x c < n
    x_in = each_digit n crosses n pairs.crosses_inside

    o_in : (c : ℕ) → c < n → o c < n
    o_in = each_digit n rings n pairs.rings_inside

    told : (F : ℕ → ℕ → ℕ → Bool) (c : ℕ) → c < n
        → F (digit_of n end c) (digit_of n cross c) (digit_of n ring c)
        ≡ F (shifted n (x c) (o c)) (shifted n (x c) (x (next n c))) (shifted n (x c) (o (next n c)))
    told F c lt =
        ap₂ (λ (z w : ℕ). F z w (digit_of n ring c)) (he.has.at c lt) (hx.has.at c lt ∙ ap (λ (z : ℕ). shifted n (x c) z) (hnx.has.at c lt))
        ∙ ap (λ (z : ℕ). F (shifted n (x c) (o c)) (shifted n (x c) (x (next n c))) z)
        (ho.has.at c lt ∙ ap (λ (z : ℕ). shifted n (x c) z) (hno.has.at c lt))
