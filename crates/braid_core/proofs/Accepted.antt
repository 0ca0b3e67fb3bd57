-- What has no fault is a braid, and a braid has none.
use Rattle.std.proofs.Common.{◌≡◌, ◌≤◌, ◌+◌, ◌*◌, ◌∙◌, ◌&&◌, ℕ, ℤ, List, Bool, false, not, cond, Option, Some, None, length, get_or, nat_lt, nat_le}
use Rattle.std.proofs.Common.{unsigned_abs, pos, arith, ap, All}
use Rattle.std.specs.List.{position, position_or_len}
use Rattle.std.proofs.lemmas.Bool.{and_parts, and_from, leb-true, le-leb, ltb-true, ltb-false, lt-ltb, le-ltb, not_from_true, not-false}
use Rattle.std.proofs.lemmas.List.Sums.{fails_before_first, position_or_len_is}
use Rattle.grid_core.specs.declared.grid.TheConstants.{MAX_SIZE}
use Rattle.braid_core.specs.Braid.{Word, IsLetter, IsBraid}
use Rattle.braid_core.specs.Fault.{is_outside_strands, first_word_fault}
use Rattle.braid_core.specs.declared.braid.TheConstants.{MAX_STRANDS}
use Rattle.braid_core.specs.declared.fault.BraidFault.{BraidFault}
use Rattle.braid_core.specs.declared.fault.BraidFault.TheVariants.{Strands, Letter, Size}
use Rattle.grid_core.proofs.Accepted.{cond_none, cond_passed, next_passed}
use Rattle.grid_core.specs.Fault.{or_next}

-- a letter that is not outside is one of the letters of m strands
pub letter_from : (m : ℕ) (a : ℤ) → is_outside_strands m a ≡ false → IsLetter m a
letter_from m a e =
    let parts = and_parts (nat_le 1 (unsigned_abs a)) (nat_lt (unsigned_abs a) m) (not-false (nat_le 1 (unsigned_abs a) && nat_lt (unsigned_abs a) m) e) in
    record { least = leb-true 1 (unsigned_abs a) parts.0; most = ltb-true (unsigned_abs a) m parts.1 }

pub letter_not_outside : (m : ℕ) (a : ℤ) → IsLetter m a → is_outside_strands m a ≡ false
letter_not_outside m a letter =
    not_from_true (nat_le 1 (unsigned_abs a) && nat_lt (unsigned_abs a) m)
    (and_from (nat_le 1 (unsigned_abs a)) (nat_lt (unsigned_abs a) m) (le-leb 1 (unsigned_abs a) letter.least) (lt-ltb (unsigned_abs a) m letter.most))

-- no letter is outside
pub none_letters : (m : ℕ) (letters : List ℤ) → position (is_outside_strands m) letters ≡ None → All (IsLetter m) letters
none_letters m letters e k d lt =
    let past : length letters ≤ position_or_len (is_outside_strands m) letters = ltb-false (position_or_len (is_outside_strands m) letters) (length letters)
    (cond_none (nat_lt (position_or_len (is_outside_strands m) letters) (length letters)) (position_or_len (is_outside_strands m) letters) e) in
    letter_from m (get_or letters k d) (fails_before_first (is_outside_strands m) letters k d (omega arith))

pub letters_none : (m : ℕ) (letters : List ℤ) → All (IsLetter m) letters → position (is_outside_strands m) letters ≡ None
letters_none m letters all =
    let place = position_or_len_is (is_outside_strands m) letters (length letters) (pos 0) (omega arith)
    (λ k lt. letter_not_outside m (get_or letters k (pos 0)) (all k (pos 0) lt)) (λ lt. absurd (omega arith)) in
    ap (λ (z : ℕ). cond {A = Option ℕ} (nat_lt z (length letters)) (Some z) None) place
    ∙ ap (λ (s : Bool). cond {A = Option ℕ} s (Some (length letters)) None) (le-ltb (length letters) (length letters) (omega arith))

pub none_braid : (b : Word) → first_word_fault b ≡ None → IsBraid b
none_braid b e =
    let strands = cond_passed (not (nat_le 1 b.strands && nat_le b.strands MAX_STRANDS)) Strands _ e in
    let within = and_parts (nat_le 1 b.strands) (nat_le b.strands MAX_STRANDS) (not-false (nat_le 1 b.strands && nat_le b.strands MAX_STRANDS) strands.0) in
    let letters = next_passed (position (is_outside_strands b.strands) b.letters) (λ place. Letter place) _ strands.1 in
    let size = cond_passed (nat_lt MAX_SIZE (length b.letters + 2 * b.strands)) Size None letters.1 in
    record {
      least = leb-true 1 b.strands within.0;
      most = leb-true b.strands MAX_STRANDS within.1;
      crossings = none_letters b.strands b.letters letters.0;
      room = ltb-false MAX_SIZE (length b.letters + 2 * b.strands) size.0;
    }

pub braid_none : (b : Word) → IsBraid b → first_word_fault b ≡ None
braid_none b braid =
    let within = not_from_true (nat_le 1 b.strands && nat_le b.strands MAX_STRANDS)
    (and_from (nat_le 1 b.strands) (nat_le b.strands MAX_STRANDS) (le-leb 1 b.strands braid.least) (le-leb b.strands MAX_STRANDS braid.most)) in
    ap (λ (s : Bool). cond {A = Option BraidFault} s (Some Strands) (after b)) within
    ∙ (ap (λ (o : Option ℕ). or_next o (λ place. Letter place) (room_fault b)) (letters_none b.strands b.letters braid.crossings)
    ∙ ap (λ (s : Bool). cond {A = Option BraidFault} s (Some Size) None) (le-ltb MAX_SIZE (length b.letters + 2 * b.strands) braid.room))
  where
    room_fault : Word → Option BraidFault
    room_fault b = cond (nat_lt MAX_SIZE (length b.letters + 2 * b.strands)) (Some Size) None

    after : Word → Option BraidFault
    after b = or_next (position (is_outside_strands b.strands) b.letters) (λ place. Letter place) (room_fault b)
