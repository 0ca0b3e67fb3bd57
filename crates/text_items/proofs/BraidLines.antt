-- The line of a braid, by letters that were cut down to 127.
use Rattle.std.proofs.Common.{◌≡◌, ℕ, ◌<◌, ◌≤◌, ◌+◌, ◌*◌, ◌&&◌, ◌||◌, not, ℤ, List, [], ◌∷◌, length, map, Bool, true, false, cond}
use Rattle.std.proofs.Common.{Option, Some, None, Ok, Err, refl, sym, ap, ap₂, ◌∙◌, inl, inr, ◌⊎◌, arith, nat_lt, nat_le, codes}
use Rattle.std.proofs.Common.{unsigned_abs}
use Rattle.std.specs.Prelude.{is_none}
use Rattle.std.specs.List.{position_or_len, list_any, AllByRecursion}
use Rattle.std.proofs.lemmas.Bool.{lt-ltb, ltb-true, ltb-false, or_parts}
use Rattle.std.proofs.lemmas.Bool.Decides.{nat_tests}
use Rattle.std.proofs.lemmas.List.{length-map, take_all}
use Rattle.std.proofs.lemmas.List.Elements.{recursion_from_All}
use Rattle.grid_core.specs.declared.grid.TheConstants.{MAX_SIZE}
use Rattle.grid_core.specs.Fault.{or_next}
use Rattle.braid_core.specs.declared.braid.TheConstants.{MAX_STRANDS}
use Rattle.braid_core.specs.declared.fault.BraidFault.{BraidFault}
use Rattle.braid_core.specs.declared.fault.BraidFault.TheVariants.{Strands, Letter, Size, OutOfMemory as Memory}
use Rattle.braid_core.specs.Braid.{Word, IsLetter}
use Rattle.braid_core.specs.Fault.{is_outside_strands, first_word_fault}
use Rattle.braid_core.proofs.Accepted.{none_braid}
use Rattle.text_lines.specs.Lines.{NumberedLine}
use Rattle.text_items.specs.declared.fault.TextFault.TheVariants.{Malformed, Limit}
use Rattle.text_items.specs.declared.braids.KeptLetters.{KeptLetters}
use Rattle.text_items.specs.Reading.{Fails, word, number}
use Rattle.text_items.specs.Braids.{letters, is_long_letter, exceeds, braid_of, braid_at, low_letter, TellsLetters, kept_exceeds, refused}
use Rattle.text_items.specs.Numbers.{KeepsRead}

abbrev pub word_of : ℕ → List ℤ → Word
word_of m ls = record { strands = m; letters = ls }

-- ---- limits

kept_all : (kept : KeptLetters) (ls : List ℤ) → TellsLetters kept ls → length ls ≤ MAX_SIZE → kept.first.items ≡ map low_letter ls
kept_all kept ls tells short = tells.first ∙ take_all MAX_SIZE (map low_letter ls) (omega (arith, length-map ls low_letter, short))

size_by : (kept : KeptLetters) (ls : List ℤ) (m : ℕ) → TellsLetters kept ls → (t : Bool) → kept.more ≡ t
    → (kept.more || nat_lt MAX_SIZE (length kept.first.items + 2 * m)) ≡ nat_lt MAX_SIZE (length ls + 2 * m)
size_by kept ls m tells true is =
    let long : MAX_SIZE < length ls = ltb-true MAX_SIZE (length ls) (sym tells.more ∙ is) in
    rw is (sym (lt-ltb MAX_SIZE (length ls + 2 * m) (omega (arith, long))))
size_by kept ls m tells false is =
    let short : length ls ≤ MAX_SIZE = ltb-false MAX_SIZE (length ls) (sym tells.more ∙ is) in
    rw is (ap (λ (n : ℕ). nat_lt MAX_SIZE (n + 2 * m)) (ap (λ (xs : List ℤ). length xs) (kept_all kept ls tells short) ∙ length-map ls low_letter))

exceeds_same : (kept : KeptLetters) (ls : List ℤ) (m : ℕ) → TellsLetters kept ls → kept_exceeds m kept ≡ exceeds (word_of m ls)
exceeds_same kept ls m tells = ap₂ (λ (a b : Bool). nat_lt MAX_STRANDS m || (a || b)) tells.long (size_by kept ls m tells kept.more refl)

-- a word that exceeds no limit
record WithinLimits (m : ℕ) (ls : List ℤ) : Type 0 where
  strands : m ≤ MAX_STRANDS
  size : length ls ≤ MAX_SIZE

within : (m : ℕ) (ls : List ℤ) → exceeds (word_of m ls) ≡ false → WithinLimits m ls
within m ls is =
    let a = or_parts (nat_lt MAX_STRANDS m) (list_any is_long_letter ls || nat_lt MAX_SIZE (length ls + 2 * m)) is in
    let b = or_parts (list_any is_long_letter ls) (nat_lt MAX_SIZE (length ls + 2 * m)) a.1 in
    record { strands = ltb-false MAX_STRANDS m a.0; size = omega (arith, ltb-false MAX_SIZE (length ls + 2 * m) b.1) }

-- so many strands fit into a byte
pub strands_fit : (kept : KeptLetters) (m : ℕ) → kept_exceeds m kept ≡ false → m ≤ MAX_STRANDS
strands_fit kept m is =
    ltb-false MAX_STRANDS m (or_parts (nat_lt MAX_STRANDS m) (kept.long || (kept.more || nat_lt MAX_SIZE (length kept.first.items + 2 * m))) is).0

-- ---- content

outside_low : (m : ℕ) (a : ℤ) → m ≤ 127 → is_outside_strands m (low_letter a) ≡ is_outside_strands m a
outside_low m a most = by (nat_lt (unsigned_abs a) 127) refl
  where
    by : (t : Bool) → nat_lt (unsigned_abs a) 127 ≡ t → is_outside_strands m (low_letter a) ≡ is_outside_strands m a
    by true is = rw is refl
    by false is =
        let far : 127 ≤ unsigned_abs a = ltb-false (unsigned_abs a) 127 is in
        rw is (grind (arith, nat_tests, far, most))

first_outside : (m : ℕ) (ls : List ℤ) → m ≤ 127 → position_or_len (is_outside_strands m) (map low_letter ls) ≡ position_or_len (is_outside_strands m) ls
first_outside m [] most = refl
first_outside m (a ∷ ls) most = ap₂ (λ (t : Bool) (n : ℕ). cond (not t) (1 + n) 0) (outside_low m a most) (first_outside m ls most)

fault_low : (m : ℕ) (ls : List ℤ) → m ≤ 127 → first_word_fault (word_of m (map low_letter ls)) ≡ first_word_fault (word_of m ls)
fault_low m ls most = ap₂ fault (first_outside m ls most) (length-map ls low_letter)
  where
    fault : ℕ → ℕ → Option BraidFault
    fault place size =
        cond (not (nat_le 1 m && nat_le m MAX_STRANDS)) (Some Strands)
        (or_next (cond (nat_lt place size) (Some place) None) (λ place. Letter place) (cond (nat_lt MAX_SIZE (size + 2 * m)) (Some Size) None))

letters_same : (m : ℕ) (ls : List ℤ) → m ≤ 127 → AllByRecursion (IsLetter m) ls → map low_letter ls ≡ ls
letters_same m [] most all = refl
letters_same m (a ∷ ls) most all =
    let near : nat_lt (unsigned_abs a) 127 ≡ true = lt-ltb (unsigned_abs a) 127 (omega (arith, all.0.most, most)) in
    let same : low_letter a ≡ a = rw near refl in
    ap₂ (λ (b : ℤ) (bs : List ℤ). b ∷ bs) same (letters_same m ls most all.1)

-- ---- the line

pub record IsRead (line : NumberedLine) (m : ℕ) (kept : KeptLetters) : Type 0 where
  pub rest : NumberedLine
  pub left : NumberedLine
  pub name : word (codes "braid") line ≡ Ok rest
  pub strands : number rest ≡ Ok (m, left)
  pub letters : KeepsRead (TellsLetters kept) (letters left)

braid_is : (line : NumberedLine) (m : ℕ) (kept : KeptLetters) (read : IsRead line m kept)
    → braid_at line ≡ braid_of line.number (word_of m read.letters.values)
unfolding braid_at
braid_is line m kept read = rw (read.name, read.strands, read.letters.is) refl

pub braid_over : (line : NumberedLine) (m : ℕ) (kept : KeptLetters) → IsRead line m kept → kept_exceeds m kept ≡ true → braid_at line ≡ Err (Limit line.number)
braid_over line m kept read over =
    let test : exceeds (word_of m read.letters.values) ≡ true = sym (exceeds_same kept read.letters.values m read.letters.tells) ∙ over in
    braid_is line m kept read ∙ rw test refl

-- the letters of a word that exceeds no limit were all kept
same_fault : (line : NumberedLine) (m : ℕ) (kept : KeptLetters) (read : IsRead line m kept) → kept_exceeds m kept ≡ false
    → first_word_fault (word_of m read.letters.values) ≡ first_word_fault (word_of m kept.first.items)
same_fault line m kept read fine =
    let ls = read.letters.values in
    let limits = within m ls (sym (exceeds_same kept ls m read.letters.tells) ∙ fine) in
    sym (ap (λ (xs : List ℤ). first_word_fault (word_of m xs)) (kept_all kept ls read.letters.tells limits.size)
    ∙ fault_low m ls (omega (arith, limits.strands)))

braid_bad : (line : NumberedLine) (m : ℕ) (kept : KeptLetters) (fault : BraidFault) → IsRead line m kept → kept_exceeds m kept ≡ false
    → first_word_fault (word_of m kept.first.items) ≡ Some fault → braid_at line ≡ Err (Malformed line.number)
braid_bad line m kept fault read fine bad =
    let test : exceeds (word_of m read.letters.values) ≡ false = sym (exceeds_same kept read.letters.values m read.letters.tells) ∙ fine in
    let content : is_none (first_word_fault (word_of m read.letters.values)) ≡ false =
    ap (λ (f : Option BraidFault). is_none f) (same_fault line m kept read fine ∙ bad) in
    braid_is line m kept read ∙ rw (test, content) refl

pub braid_refused : (line : NumberedLine) (m : ℕ) (kept : KeptLetters) (fault : BraidFault) → IsRead line m kept → kept_exceeds m kept ≡ false
    → (first_word_fault (word_of m kept.first.items) ≡ Some fault) ⊎ ((first_word_fault (word_of m kept.first.items) ≡ None) × (fault ≡ Memory))
    → Fails (refused line.number fault) (braid_at line)
braid_refused line m kept Memory read fine why = tt
braid_refused line m kept Strands read fine (inl bad) = braid_bad line m kept Strands read fine bad
braid_refused line m kept (Letter place) read fine (inl bad) = braid_bad line m kept (Letter place) read fine bad
braid_refused line m kept Size read fine (inl bad) = braid_bad line m kept Size read fine bad
braid_refused line m kept Strands read fine (inr other) = absurd (let no = other.1 in cc)
braid_refused line m kept (Letter place) read fine (inr other) = absurd (let no = other.1 in cc)
braid_refused line m kept Size read fine (inr other) = absurd (let no = other.1 in cc)

pub braid_good : (line : NumberedLine) (m : ℕ) (kept : KeptLetters) → IsRead line m kept → kept_exceeds m kept ≡ false
    → first_word_fault (word_of m kept.first.items) ≡ None → braid_at line ≡ Ok (word_of m kept.first.items)
braid_good line m kept read fine none =
    let ls = read.letters.values in
    let test : exceeds (word_of m ls) ≡ false = sym (exceeds_same kept ls m read.letters.tells) ∙ fine in
    let limits = within m ls test in
    let faultless = same_fault line m kept read fine ∙ none in
    let content : is_none (first_word_fault (word_of m ls)) ≡ true = ap (λ (f : Option BraidFault). is_none f) faultless in
    let all = recursion_from_All (IsLetter m) ls (none_braid (word_of m ls) faultless).crossings in
    let same : kept.first.items ≡ ls = kept_all kept ls read.letters.tells limits.size ∙ letters_same m ls (omega (arith, limits.strands)) all in
    let one : braid_at line ≡ Ok (word_of m ls) = braid_is line m kept read ∙ rw (test, content) refl in
    one ∙ ap (λ (xs : List ℤ). Ok (word_of m xs)) (sym same)
