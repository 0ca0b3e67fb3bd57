-- The rows of the translates of a short grid, as the digits of numbers.
use Rattle.std.proofs.Common.{true, false, IsTrue, nat_lt, ◌↔◌, inl, inr, ◌≡◌, ◌≢◌, ◌<◌, ◌≤◌, ◌+◌, ◌-◌, ◌/◌, ◌^◌, ◌++◌, ◌∷◌, ◌∙◌, ℕ, List, length, take, drop}
use Rattle.std.proofs.Common.{map, get_or, arith, refl, sym, ap, ap₂, subst, length-append, append-nil}
use Rattle.std.specs.List.{All}
use Rattle.std.specs.declared.cmp.Ordering.TheVariants.{Less, Equal, Greater}
use Rattle.std.specs.Ordering.{nat_cmp, ordering_then}
use Rattle.std.specs.Cmp.Lexicographic.{slice_cmp}
use Rattle.std.proofs.lemmas.Bool.{cases_order, lt-ltb, ltb-true}
use Rattle.std.proofs.lemmas.Nat.{div-mul-add}
use Rattle.std.proofs.lemmas.List.{drop_more, length-take, length-drop}
use Rattle.std.proofs.lemmas.List.Elements.{All-tail, All-map}
use Rattle.grid_core.specs.Diagram.{Diagram, IsGrid, size}
use Rattle.grid_core.proofs.OneEach.{each_below}
use Rattle.grid_moves.specs.Shift.{shifted}
use Rattle.grid_moves.proofs.Shifted.{shifted_below}
use Rattle.grid_canon.specs.declared.digits.TheConstants.{SHORT_BASE, MAX_SHORT_SIZE}
use Rattle.grid_keys.specs.Translation.{translated_rows}
use Rattle.grid_keys.specs.Order.{compare}
use Rattle.grid_canon.specs.Digits.{short_number, digits}
use Rattle.grid_canon.specs.ShortGrid.{of_digits, IsShort}
use Rattle.grid_canon.specs.LowColumns.{IsCornered}
use Rattle.grid_keys.specs.Cornered.{cornered}
use Rattle.grid_keys.proofs.Ordered.{nat_cmp_less, nat_cmp_greater, nat_cmp_same}
use Rattle.grid_keys.proofs.Translated.{length-translated_rows, cut_inside}
use Rattle.grid_canon.proofs.ShortNumbers.{AreShortDigits, short_number-below, short_number-order}
use Rattle.grid_canon.proofs.NumbersOfDigits.{length-digits, short_number-digits, digits-short_number}

-- rows of a short grid are digits
pub rows_digits : (n : ℕ) (rows : List ℕ) → n ≤ MAX_SHORT_SIZE → All (λ r. r < n) rows → AreShortDigits rows
rows_digits n rows most inside = λ k d lt. omega (arith, inside k d lt, most)

-- a list from a place on, and then what stands before it
pub length-cut : (c : ℕ) (rows : List ℕ) → c ≤ length rows → length (drop c rows ++ take c rows) ≡ length rows
length-cut c rows le = omega (arith, length-append (drop c rows) (take c rows), length-drop c rows, length-take c rows, le)

pub cut_none : (rows : List ℕ) → rows ≡ drop 0 rows ++ take 0 rows
cut_none rows = sym (append-nil rows)

-- what is known of the number with these digits
pub record IsCut (n c value : ℕ) (rows : List ℕ) : Type 0 where
  pub fits : value < SHORT_BASE ^ n
  pub list : digits n value ≡ drop c rows ++ take c rows
  pub first : value / SHORT_BASE ^ (n - 1) ≡ get_or rows c 0
  pub inside : All (λ r. r < n) (digits n value)

first_of_list : (x : ℕ) (xs ys : List ℕ) (n : ℕ) → xs ≡ x ∷ ys → length xs ≡ n → AreShortDigits xs → short_number xs / SHORT_BASE ^ (n - 1) ≡ x
first_of_list x xs ys n is long all =
    let rest : AreShortDigits ys = All-tail (λ digit. digit < SHORT_BASE) x ys (subst AreShortDigits is all) in
    let count : n - 1 ≡ length ys = omega (arith, sym long, ap length is) in
    ap₂ (λ zs (z : ℕ). short_number zs / SHORT_BASE ^ z) is count ∙ div-mul-add x (SHORT_BASE ^ length ys) (short_number ys) (short_number-below ys rest)

pub cut_known : (n c value : ℕ) (rows : List ℕ) → length rows ≡ n → n ≤ MAX_SHORT_SIZE → c < n → All (λ r. r < n) rows
    → value ≡ short_number (drop c rows ++ take c rows) → IsCut n c value rows
cut_known n c value rows long most lt inside is =
    let whole : length (drop c rows ++ take c rows) ≡ n = length-cut c rows (omega (arith, long, lt)) ∙ long in
    let within = cut_inside n c rows inside in
    let all = rows_digits n (drop c rows ++ take c rows) most within in
    let list : digits n value ≡ drop c rows ++ take c rows =
    ap₂ (λ (z w : ℕ). digits z w) (sym whole) is ∙ digits-short_number (drop c rows ++ take c rows) all in
    record {
      fits =
          subst (λ (z : ℕ). z < SHORT_BASE ^ n) (sym is) (subst (λ (z : ℕ). short_number (drop c rows ++ take c rows) < SHORT_BASE ^ z) whole
          (short_number-below (drop c rows ++ take c rows) all));
      list = list;
      first = ap (λ (z : ℕ). z / SHORT_BASE ^ (n - 1)) is
          ∙ first_of_list (get_or rows c 0) (drop c rows ++ take c rows) (drop (c + 1) rows ++ take c rows) n
          (ap (λ zs. zs ++ take c rows) (drop_more rows c 0 (omega (arith, long, lt)))) whole all;
      inside = subst (λ zs. All (λ r. r < n) zs) (sym list) within;
    }

-- a cut number, lowered, has the rows of a translate
pub translated_number : (n c b value lowered : ℕ) (rows : List ℕ) → IsCut n c value rows → lowered ≡ short_number (map (shifted n b) (digits n value))
    → lowered ≡ short_number (translated_rows n c b rows)
translated_number n c b value lowered rows known is = is ∙ ap (λ zs. short_number (map (shifted n b) zs)) known.list

pub translated_digits : (n c b : ℕ) (rows : List ℕ) → length rows ≡ n → n ≤ MAX_SHORT_SIZE → c < n → b < n → All (λ r. r < n) rows
    → AreShortDigits (translated_rows n c b rows)
translated_digits n c b rows long most hc hb inside =
    rows_digits n (translated_rows n c b rows) most (All-map (λ r. r < n) (shifted n b) (drop c rows ++ take c rows)
    (λ k d lt. shifted_below n b (get_or (drop c rows ++ take c rows) k d) hb (cut_inside n c rows inside k d lt)))

-- two translates by two numbers: lists of as many digits are in the order of their numbers
pub order_by_numbers : (xs ys : List ℕ) (p q : ℕ) → length xs ≡ length ys → AreShortDigits xs → AreShortDigits ys → p ≡ short_number xs → q ≡ short_number ys
    → slice_cmp nat_cmp xs ys ≡ nat_cmp p q
order_by_numbers xs ys p q same ax ay ep eq = sym (short_number-order xs ys same ax ay) ∙ ap₂ nat_cmp (sym ep) (sym eq)

-- a short grid, and the numbers of its rows
pub record IsFew (n : ℕ) (d : Diagram) : Type 0 where
  pub columns : size d ≡ n
  pub most : n ≤ MAX_SHORT_SIZE
  pub grid : IsGrid d

pub few : (n crosses rings : ℕ) (d : Diagram) → of_digits n crosses rings ≡ d → IsShort n crosses rings → IsFew n d
few n crosses rings d is short = record { columns = ap size (sym is) ∙ length-digits n crosses; most = short.most; grid = subst IsGrid is short.grid }

pub crosses_are : (n crosses rings : ℕ) (d : Diagram) → of_digits n crosses rings ≡ d → digits n crosses ≡ d.x
crosses_are n crosses rings d is = ap (λ e. e.x) is

pub rings_are : (n crosses rings : ℕ) (d : Diagram) → of_digits n crosses rings ≡ d → digits n rings ≡ d.o
rings_are n crosses rings d is = ap (λ e. e.o) is

pub few_crosses : (n : ℕ) (d : Diagram) → IsFew n d → All (λ r. r < n) d.x
few_crosses n d f = subst (λ (z : ℕ). All (λ r. r < z) d.x) f.columns (each_below (size d) d.x f.grid.crosses)

pub few_rings : (n : ℕ) (d : Diagram) → IsFew n d → All (λ r. r < n) d.o
few_rings n d f = subst (λ (z : ℕ). All (λ r. r < z) d.o) f.columns (each_below (size d) d.o f.grid.rings)

-- cut before a column
pub crosses_cut : (n c value : ℕ) (d : Diagram) → IsFew n d → c < n → value ≡ short_number (drop c d.x ++ take c d.x) → IsCut n c value d.x
crosses_cut n c value d f lt is = cut_known n c value d.x f.columns f.most lt (few_crosses n d f) is

pub rings_cut : (n c value : ℕ) (d : Diagram) → IsFew n d → c < n → value ≡ short_number (drop c d.o ++ take c d.o) → IsCut n c value d.o
rings_cut n c value d f lt is = cut_known n c value d.o (f.grid.same ∙ f.columns) f.most lt (few_rings n d f) is

pub crosses_uncut : (n crosses rings : ℕ) (d : Diagram) → of_digits n crosses rings ≡ d → IsShort n crosses rings
    → crosses ≡ short_number (drop 0 d.x ++ take 0 d.x)
crosses_uncut n crosses rings d is short =
    sym (short_number-digits n crosses short.crosses_fit) ∙ ap short_number (crosses_are n crosses rings d is ∙ cut_none d.x)

-- and the first row
pub first_row : (n c value row : ℕ) (d : Diagram) → IsFew n d → c < n → IsCut n c value d.x → row ≡ value / SHORT_BASE ^ (n - 1)
    → (row ≡ get_or d.x c 0) × (row < n)
first_row n c value row d f lt cut is =
    let same : row ≡ get_or d.x c 0 = is ∙ cut.first in
    (same, subst (λ (z : ℕ). z < n) (sym same) (few_crosses n d f c 0 (omega (arith, lt, f.columns))))

pub row_within : (n c row : ℕ) (d : Diagram) → IsFew n d → c < size d → row ≡ get_or d.x c 0 → row < n
row_within n c row d f lt is = subst (λ (z : ℕ). z < n) (sym is) (few_crosses n d f c 0 (omega (arith, lt)))

-- the rows of the translate with the X of a column in its lower left cell
pub cornered_crosses : (n c row value lowered : ℕ) (d : Diagram) → IsFew n d → IsCut n c value d.x → row ≡ get_or d.x c 0
    → lowered ≡ short_number (map (shifted n row) (digits n value)) → lowered ≡ short_number (cornered d c).x
cornered_crosses n c row value lowered d f cut first is =
    translated_number n c row value lowered d.x cut is ∙ ap₂ (λ (z w : ℕ). short_number (translated_rows z c w d.x)) (sym f.columns) first

pub cornered_rings : (n c row value lowered : ℕ) (d : Diagram) → IsFew n d → IsCut n c value d.o → row ≡ get_or d.x c 0
    → lowered ≡ short_number (map (shifted n row) (digits n value)) → lowered ≡ short_number (cornered d c).o
cornered_rings n c row value lowered d f cut first is =
    translated_number n c row value lowered d.o cut is ∙ ap₂ (λ (z w : ℕ). short_number (translated_rows z c w d.o)) (sym f.columns) first

-- two such translates are in the order of their numbers
pub cornered_digits : (n c : ℕ) (d : Diagram) → IsFew n d → c < n
    → (AreShortDigits (cornered d c).x × (length (cornered d c).x ≡ n)) × (AreShortDigits (cornered d c).o × (length (cornered d c).o ≡ n))
cornered_digits n c d f lt =
    let within : get_or d.x c 0 < size d = each_below (size d) d.x f.grid.crosses c 0 (omega (arith, lt, f.columns)) in
    let inside : c < size d = omega (arith, lt, f.columns) in
    let most : size d ≤ MAX_SHORT_SIZE = omega (arith, f.columns, f.most) in (
      (
        translated_digits (size d) c (get_or d.x c 0) d.x refl most inside within (each_below (size d) d.x f.grid.crosses),
        length-translated_rows (size d) c
            (get_or d.x c 0) d.x (omega (arith, inside)) ∙ f.columns,
      ),
      (
        translated_digits (size d) c (get_or d.x c 0) d.o f.grid.same most inside within (each_below (size d) d.o f.grid.rings),
        length-translated_rows
            (size d) c (get_or d.x c 0) d.o (omega (arith, inside, f.grid.same)) ∙ f.grid.same ∙ f.columns,
      ),
    )

pub cornered_fits : (n c value : ℕ) (rows : List ℕ) (d : Diagram) → IsFew n d → c < n → AreShortDigits rows × (length rows ≡ n) → value ≡ short_number rows
    → value < SHORT_BASE ^ n
cornered_fits n c value rows d f lt known is =
    subst (λ (z : ℕ). z < SHORT_BASE ^ n) (sym is) (subst (λ (z : ℕ). short_number rows < SHORT_BASE ^ z) known.1 (short_number-below rows known.0))

pub crosses_order : (n a b p q : ℕ) (d : Diagram) → IsFew n d → a < n → b < n → p ≡ short_number (cornered d a).x → q ≡ short_number (cornered d b).x
    → slice_cmp nat_cmp (cornered d a).x (cornered d b).x ≡ nat_cmp p q
crosses_order n a b p q d f ha hb ep eq =
    let one = (cornered_digits n a d f ha).0 in
    let two = (cornered_digits n b d f hb).0 in
    order_by_numbers (cornered d a).x (cornered d b).x p q (one.1 ∙ sym two.1) one.0 two.0 ep eq

pub rings_order : (n a b p q : ℕ) (d : Diagram) → IsFew n d → a < n → b < n → p ≡ short_number (cornered d a).o → q ≡ short_number (cornered d b).o
    → slice_cmp nat_cmp (cornered d a).o (cornered d b).o ≡ nat_cmp p q
rings_order n a b p q d f ha hb ep eq =
    let one = (cornered_digits n a d f ha).1 in
    let two = (cornered_digits n b d f hb).1 in
    order_by_numbers (cornered d a).o (cornered d b).o p q (one.1 ∙ sym two.1) one.0 two.0 ep eq

pub less_by_crosses : (n a b p q : ℕ) (d : Diagram) → IsFew n d → a < n → b < n → p ≡ short_number (cornered d a).x → q ≡ short_number (cornered d b).x
    → p < q → compare (cornered d a) (cornered d b) ≡ Less
less_by_crosses n a b p q d f ha hb ep eq lt =
    ap (λ o. ordering_then o (slice_cmp nat_cmp (cornered d a).o (cornered d b).o)) (crosses_order n a b p q d f ha hb ep eq ∙ nat_cmp_less p q lt)

pub more_by_crosses : (n a b p q : ℕ) (d : Diagram) → IsFew n d → a < n → b < n → p ≡ short_number (cornered d a).x → q ≡ short_number (cornered d b).x
    → q < p → compare (cornered d a) (cornered d b) ≢ Less
more_by_crosses n a b p q d f ha hb ep eq lt e =
    let more : compare (cornered d a) (cornered d b) ≡ Greater =
    ap (λ o. ordering_then o (slice_cmp nat_cmp (cornered d a).o (cornered d b).o)) (crosses_order n a b p q d f ha hb ep eq ∙ nat_cmp_greater p q lt) in
    absurd (let no : Greater ≡ Less = sym more ∙ e in cc)

pub tied_by_crosses : (n a b p q : ℕ) (d : Diagram) → IsFew n d → a < n → b < n → p ≡ short_number (cornered d a).x → q ≡ short_number (cornered d b).x
    → p ≡ q → compare (cornered d a) (cornered d b) ≡ slice_cmp nat_cmp (cornered d a).o (cornered d b).o
tied_by_crosses n a b p q d f ha hb ep eq same =
    ap (λ o. ordering_then o (slice_cmp nat_cmp (cornered d a).o (cornered d b).o)) (crosses_order n a b p q d f ha hb ep eq ∙ nat_cmp_same p q same)

-- the tests of the code
pub before_by_less : (n a b r s p q : ℕ) (d : Diagram) → IsFew n d → IsCornered d a r p → IsCornered d b s q → p < q
    → IsTrue true ↔ (compare (cornered d a) (cornered d b) ≡ Less)
before_by_less n a b r s p q d f ca cb lt = (
  (λ t. less_by_crosses n a b p q d f (omega (arith, ca.inside, f.columns)) (omega (arith, cb.inside, f.columns)) ca.crosses_are cb.crosses_are lt),
  (λ e. refl),
)

pub before_by_more : (n a b r s p q : ℕ) (d : Diagram) → IsFew n d → IsCornered d a r p → IsCornered d b s q → q < p
    → IsTrue false ↔ (compare (cornered d a) (cornered d b) ≡ Less)
before_by_more n a b r s p q d f ca cb gt = (
  (λ t. absurd (let no : false ≡ true = t in cc)),
  (λ e.
      absurd (more_by_crosses n a b p q d f (omega (arith, ca.inside, f.columns)) (omega (arith, cb.inside, f.columns)) ca.crosses_are cb.crosses_are gt e)),
)

pub before_by_rings : (n a b r s p q t u : ℕ) (d : Diagram) → IsFew n d → IsCornered d a r p → IsCornered d b s q → p ≡ q → t ≡ short_number (cornered d a).o
    → u ≡ short_number (cornered d b).o → IsTrue (nat_lt t u) ↔ (compare (cornered d a) (cornered d b) ≡ Less)
before_by_rings n a b r s p q t u d f ca cb same et eu =
    let ha : a < n = omega (arith, ca.inside, f.columns) in
    let hb : b < n = omega (arith, cb.inside, f.columns) in
    let is : compare (cornered d a) (cornered d b) ≡ nat_cmp t u =
    tied_by_crosses n a b p q d f ha hb ca.crosses_are cb.crosses_are same ∙ rings_order n a b t u d f ha hb et eu in
    ((λ less. is ∙ nat_cmp_less t u (ltb-true t u less)), (λ e. lt-ltb t u (less_of t u (sym is ∙ e))))
  where
    less_of : (t u : ℕ) → nat_cmp t u ≡ Less → t < u
    less_of t u e = elim (cases_order t u) [
      | inl same ↦ absurd (let no : Equal ≡ Less = sym (nat_cmp_same t u same) ∙ e in cc)
      | inr other ↦ elim other [
        | inl lt ↦ lt
        | inr gt ↦ absurd (let no : Greater ≡ Less = sym (nat_cmp_greater t u gt) ∙ e in cc)
      ]
    ]
