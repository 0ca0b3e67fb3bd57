-- What stands in the text where some bytes, appended one behind the other, found no memory.
use Rattle.std.proofs.Common.{◌≡◌, ◌<◌, ◌+◌, ◌++◌, ◌∷◌, ℕ, zero, suc, List, [], length, take, get_or, map, arith, refl, sym, ap, subst, ◌∙◌, append_assoc}
use Rattle.std.proofs.Common.{Result, Ok, Err, OnErr, is_ok, if◌then◌else◌}
use Rattle.std.specs.List.{flat_map}
use Rattle.std.proofs.lemmas.List.{append-nil, take-append-le, length-append}
use Rattle.std.proofs.lemmas.List.Folds.{flat_map-map}
use Rattle.std.proofs.Math.Seq.{take-append-add}
use Rattle.text_lines.specs.Spelled.{line_text, lines_text}
use Rattle.text_lines.specs.Appended.{AppendsPart}

-- nothing was appended
pub part_none : (old new bytes : List ℕ) → new ≡ old → 0 < length bytes → AppendsPart old new bytes
part_none old new bytes same some = record { count = 0; few = some; text = same ∙ sym (append-nil old) }

-- the front of the bytes found no memory
pub part_ahead : (old new front back : List ℕ) → AppendsPart old new front → AppendsPart old new (front ++ back)
part_ahead old new front back part = record {
  count = part.count;
  few = omega (arith, part.few, length-append front back);
  text = part.text ∙ ap (λ (s : List ℕ). old ++ s) (sym (take-append-le part.count front back (omega (arith, part.few))));
}

-- the front stands there, and what is behind it found no memory
pub part_behind : (old mid new front back : List ℕ) → mid ≡ old ++ front → AppendsPart mid new back → AppendsPart old new (front ++ back)
part_behind old mid new front back before part = record {
  count = length front + part.count;
  few = omega (arith, part.few, length-append front back);
  text =
      part.text ∙ ap (λ (s : List ℕ). s ++ take part.count back) before ∙ append_assoc old front (take part.count back)
      ∙ ap (λ (s : List ℕ). old ++ s) (sym (take-append-add front back part.count));
}

pub on_err : {T E : Type 0} (r : Result T E) (P : Type 0) → P → OnErr r P
on_err (Ok x) P p = tt
on_err (Err e) P p = p

-- the same of a call whose result is returned as it is
pub last_behind : {T E : Type 0} (r : Result T E) (old mid new front back : List ℕ) → mid ≡ old ++ front → OnErr r (AppendsPart mid new back)
    → OnErr r (AppendsPart old new (front ++ back))
last_behind (Ok x) old mid new front back before part = tt
last_behind (Err e) old mid new front back before part = part_behind old mid new front back before part

pub last_bytes : {T E : Type 0} (r : Result T E) (old mid new front back : List ℕ) → mid ≡ old ++ front
    → new ≡ (if is_ok r then mid ++ back else mid) → 0 < length back → OnErr r (AppendsPart old new (front ++ back))
last_bytes (Ok x) old mid new front back before after some = tt
last_bytes (Err e) old mid new front back before after some = part_behind old mid new front back before (part_none mid new back after some)

-- pieces in turn, of which one found no memory
pub part_in_turn : {X : Type 0} (f : X → List ℕ) (xs : List X) (i : ℕ) (d : X) (old mid new : List ℕ) → i < length xs
    → mid ≡ old ++ flat_map f (take i xs) → AppendsPart mid new (f (get_or xs i d)) → AppendsPart old new (flat_map f xs)
part_in_turn f [] i d old mid new within before part = absurd (omega (arith, within))
part_in_turn f (x ∷ xs) zero d old mid new within before part =
    part_ahead old new (f x) (flat_map f xs) (subst (λ (from : List ℕ). AppendsPart from new (f x)) (before ∙ append-nil old) part)
part_in_turn f (x ∷ xs) (suc i) d old mid new within before part =
    let first = before ∙ sym (append_assoc old (f x) (flat_map f (take i xs))) in
    part_behind old (old ++ f x) new (f x) (flat_map f xs) refl (part_in_turn f xs i d (old ++ f x) mid new (omega (arith, within)) first part)

-- a line for each, of which one found no memory
pub part_of_lines : {X : Type 0} (f : X → List (List ℕ)) (xs : List X) (i : ℕ) (d : X) (old mid new : List ℕ) → i < length xs
    → mid ≡ old ++ lines_text (map f (take i xs)) → AppendsPart mid new (line_text (f (get_or xs i d))) → AppendsPart old new (lines_text (map f xs))
part_of_lines f xs i d old mid new within before part =
    let front = before ∙ ap (λ (s : List ℕ). old ++ s) (flat_map-map line_text f (take i xs)) in
    rw (flat_map-map line_text f xs) (part_in_turn (λ x. line_text (f x)) xs i d old mid new within front part)
