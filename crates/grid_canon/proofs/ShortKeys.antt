-- Keys made of short numbers: each digit goes from the base of short grids to that of keys.
use Rattle.std.proofs.Common.{◌≡◌, ◌<◌, ◌≤◌, ◌+◌, ◌-◌, ◌*◌, ◌/◌, ◌%◌, ◌^◌, ◌++◌, ◌∙◌, ℕ, List, length, take, drop, replicate, arith, sym, ap, ap₂, subst}
use Rattle.std.proofs.Common.{length-append}
use Rattle.std.proofs.lemmas.Nat.{pow-add, div-mul-add, mod-mul-add, shl_whole, shl_below}
use Rattle.std.proofs.lemmas.List.{take_all, take-append-drop, length-take, length-drop, length-replicate}
use Rattle.std.proofs.lemmas.List.Elements.{All-append, All-replicate, All-take, All-drop}
use Rattle.grid_core.specs.Diagram.{Diagram}
use Rattle.grid_keys.specs.declared.key.TheConstants.{BASE, WORD_COLUMNS}
use Rattle.grid_canon.specs.declared.digits.TheConstants.{MAX_SHORT_SIZE, SHORT_BASE, SHORT_BITS}
use Rattle.grid_keys.specs.Key.{key_number, filled, words_of, key_of}
use Rattle.grid_canon.specs.Digits.{short_number, digits}
use Rattle.grid_keys.specs.Cornered.{cornered}
use Rattle.grid_keys.proofs.NumbersTo.{number_to-filled}
use Rattle.grid_keys.proofs.Numbers.{AreDigits, number-append, number-below, number-filled}
use Rattle.grid_canon.proofs.ShortNumbers.{AreShortDigits, short_number-append, short_number-below, short_bits}
use Rattle.grid_canon.proofs.NumbersOfDigits.{length-digits, digits-below, short_number-digits}
use Rattle.grid_keys.proofs.Words.{piece_filled}
use Rattle.grid_canon.proofs.ShortGrids.{read_digits}
use Rattle.grid_keys.proofs.Keys.{key_from}
use Rattle.grid_canon.proofs.CutNumbers.{IsFew, cornered_digits}

-- the digits of a short number, to the base of keys, are below the power of it
pub spread_below : (n value : ℕ) → value < SHORT_BASE ^ n → key_number (digits n value) < BASE ^ n
spread_below n value lt =
    let all : AreDigits (digits n value) = λ k d inside. omega (arith, digits-below n value lt k d inside) in
    subst (λ (z : ℕ). key_number (digits n value) < BASE ^ z) (length-digits n value) (number-below (digits n value) all)

-- a short number cut in two: what each piece is below, and what it is worth to the base of keys
pub record IsCutInTwo (m n value : ℕ) : Type 0 where
  pub front_below : value / SHORT_BASE ^ n < SHORT_BASE ^ m
  pub back_below : value % SHORT_BASE ^ n < SHORT_BASE ^ n
  pub spread : key_number (digits (m + n) value) ≡ key_number (digits m (value / SHORT_BASE ^ n)) * BASE ^ n + key_number (digits n (value % SHORT_BASE ^ n))

pub cut_in_two : (m n value : ℕ) → value < SHORT_BASE ^ (m + n) → IsCutInTwo m n value
cut_in_two m n value lt =
    let xs : List ℕ = digits (m + n) value in
    let all : AreShortDigits xs = digits-below (m + n) value lt in
    let long : length xs ≡ m + n = length-digits (m + n) value in
    let front : List ℕ = take m xs in
    let back : List ℕ = drop m xs in
    let front_long : length front ≡ m = omega (arith, length-take m xs, long) in
    let back_long : length back ≡ n = omega (arith, length-drop m xs, long) in
    let front_all : AreShortDigits front = All-take (λ digit. digit < SHORT_BASE) m xs all in
    let back_all : AreShortDigits back = All-drop (λ digit. digit < SHORT_BASE) m xs all in
    let low : short_number back < SHORT_BASE ^ n =
    subst (λ (z : ℕ). short_number back < SHORT_BASE ^ z) back_long (short_number-below back back_all) in
    let high : short_number front < SHORT_BASE ^ m =
    subst (λ (z : ℕ). short_number front < SHORT_BASE ^ z) front_long (short_number-below front front_all) in
    let whole : value ≡ short_number front * SHORT_BASE ^ n + short_number back =
    sym (short_number-digits (m + n) value lt)
    ∙ ap short_number (sym (take-append-drop m xs))
    ∙ short_number-append front back
    ∙ ap (λ (z : ℕ). short_number front * SHORT_BASE ^ z + short_number back) back_long in
    let is_front : value / SHORT_BASE ^ n ≡ short_number front =
    ap (λ (z : ℕ). z / SHORT_BASE ^ n) whole ∙ div-mul-add (short_number front) (SHORT_BASE ^ n) (short_number back) low in
    let is_back : value % SHORT_BASE ^ n ≡ short_number back =
    ap (λ (z : ℕ). z % SHORT_BASE ^ n) whole ∙ mod-mul-add (short_number front) (SHORT_BASE ^ n) (short_number back) low in
    record {
      front_below = subst (λ (z : ℕ). z < SHORT_BASE ^ m) (sym is_front) high;
      back_below = subst (λ (z : ℕ). z < SHORT_BASE ^ n) (sym is_back) low;
      spread =
          ap key_number (sym (take-append-drop m xs))
          ∙ number-append front back
          ∙ ap₂ (λ (z w : ℕ). z + w)
          (ap₂ (λ (zs : List ℕ) (k : ℕ). key_number zs * BASE ^ k) (sym (read_digits m (value / SHORT_BASE ^ n) front front_long front_all is_front)) back_long)
          (ap key_number (sym (read_digits n (value % SHORT_BASE ^ n) back back_long back_all is_back)));
    }

-- a short number with zeros behind its digits, up to as many as it has at most
pub full_short : (value n : ℕ) → n ≤ MAX_SHORT_SIZE → value < SHORT_BASE ^ n
    → (value * 2 ^ (SHORT_BITS * (MAX_SHORT_SIZE - n)) % 2 ^ 64 ≡ value * SHORT_BASE ^ (MAX_SHORT_SIZE - n))
    × (value * SHORT_BASE ^ (MAX_SHORT_SIZE - n) < SHORT_BASE ^ MAX_SHORT_SIZE)
full_short value n le lt =
    let p = SHORT_BITS * n in
    let q = SHORT_BITS * (MAX_SHORT_SIZE - n) in
    let short : value < 2 ^ p = subst (λ (z : ℕ). value < z) (short_bits n) lt in
    let same : value * SHORT_BASE ^ (MAX_SHORT_SIZE - n) ≡ value * 2 ^ q = ap (λ (z : ℕ). value * z) (short_bits (MAX_SHORT_SIZE - n)) in
    let bits : p + q ≡ SHORT_BITS * MAX_SHORT_SIZE = omega (arith, le) in
    let low : value * 2 ^ q < 2 ^ (SHORT_BITS * MAX_SHORT_SIZE) = subst (λ (z : ℕ). value * 2 ^ q < 2 ^ z) bits (shl_below value p q short) in (
      shl_whole value p q 64 short (omega (arith, bits)) ∙ sym same,
      omega (arith, low, same),
    )

-- the word of such a number
pub full_word : (value n full word : ℕ) → n ≤ MAX_SHORT_SIZE → value < SHORT_BASE ^ n → full ≡ value * SHORT_BASE ^ (MAX_SHORT_SIZE - n)
    → word ≡ key_number (digits MAX_SHORT_SIZE full) * BASE ^ (WORD_COLUMNS - MAX_SHORT_SIZE)
    → word ≡ key_number (take WORD_COLUMNS (filled (digits n value)))
full_word value n full word le lt is_full is =
    let xs : List ℕ = digits n value in
    let more : ℕ = MAX_SHORT_SIZE - n in
    let long : length xs ≡ n = length-digits n value in
    let all : AreShortDigits (xs ++ replicate more 0) =
    All-append (λ digit. digit < SHORT_BASE) xs (replicate more 0) (digits-below n value lt) (All-replicate (λ digit. digit < SHORT_BASE) more 0 (omega arith)) in
    let count : length (xs ++ replicate more 0) ≡ MAX_SHORT_SIZE = omega (arith, length-append xs (replicate more 0), length-replicate {A = ℕ} more 0, long, le) in
    let same : full ≡ short_number (xs ++ replicate more 0) =
    is_full ∙ ap (λ (z : ℕ). z * SHORT_BASE ^ more) (sym (short_number-digits n value lt)) ∙ sym (number_to-filled SHORT_BASE xs more) in
    let list : digits MAX_SHORT_SIZE full ≡ xs ++ replicate more 0 = read_digits MAX_SHORT_SIZE full (xs ++ replicate more 0) count all same in
    let within : length xs ≤ WORD_COLUMNS = omega (arith, long, le) in
    let piece : take WORD_COLUMNS (drop 0 xs) ≡ xs = take_all WORD_COLUMNS xs within in
    let filling : take WORD_COLUMNS (drop 0 (filled xs)) ≡ xs ++ replicate (WORD_COLUMNS - n) 0 =
    piece_filled xs 0 WORD_COLUMNS (omega (arith, long, le)) (omega arith)
    ∙ ap₂ (λ (zs : List ℕ) (k : ℕ). zs ++ replicate (WORD_COLUMNS - k) 0) piece (ap length piece ∙ long) in
    is
    ∙ ap (λ zs. key_number zs * BASE ^ (WORD_COLUMNS - MAX_SHORT_SIZE)) list
    ∙ ap (λ (z : ℕ). z * BASE ^ (WORD_COLUMNS - MAX_SHORT_SIZE)) (number-filled xs more)
    ∙ regrouped (key_number xs) (BASE ^ more) (BASE ^ (WORD_COLUMNS - MAX_SHORT_SIZE))
    ∙ ap (λ (z : ℕ). key_number xs * z)
    (sym (pow-add BASE more (WORD_COLUMNS - MAX_SHORT_SIZE))
    ∙ ap (λ (z : ℕ). BASE ^ z) (let sum : more + (WORD_COLUMNS - MAX_SHORT_SIZE) ≡ WORD_COLUMNS - n = omega (arith, le) in sum))
    ∙ sym (ap key_number filling ∙ number-filled xs (WORD_COLUMNS - n))
  where
    regrouped : (a b c : ℕ) → a * b * c ≡ a * (b * c)
    regrouped a b c = omega arith

-- the key of a translate with an X in the lower left cell
pub cornered_key : (n size_is c crosses rings : ℕ) (x o : List ℕ) (d : Diagram) → IsFew n d → c < n → size_is ≡ n → crosses ≡ short_number (cornered d c).x
    → rings ≡ short_number (cornered d c).o → x ≡ words_of (digits n crosses) → o ≡ words_of (digits n rings)
    → key_of (cornered d c) ≡ record { size = size_is; x = x; o = o }
cornered_key n size_is c crosses rings x o d f lt is ex eo wx wo =
    let known = cornered_digits n c d f lt in
    key_from (cornered d c) size_is x o (is ∙ sym known.0.1)
    (wx ∙ ap words_of (read_digits n crosses (cornered d c).x known.0.1 known.0.0 ex))
    (wo ∙ ap words_of (read_digits n rings (cornered d c).o known.1.1 known.1.0 eo))
