-- Items read one behind the other, as a loop does.
use Rattle.std.proofs.Common.{◌≡◌, ℕ, suc, ◌-◌, ◌+◌, ◌≤◌, ◌<◌, List, [], ◌∷◌, ◌++◌, Result, Ok, Err, refl, sym, ap, ◌∙◌, append_assoc, arith}
use Rattle.std.proofs.lemmas.List.{append-nil}
use Rattle.text_lines.specs.Lines.{Text}
use Rattle.text_items.specs.declared.fault.TextFault.{TextFault}
use Rattle.text_items.specs.declared.fault.TextFault.TheVariants as fault
use Rattle.text_items.specs.Reading.{◌>>=◌, Fails, in_turn}

-- what was read before, and what is still read
abbrev pub with_front : {A : Type 0} → List A → Result (List A × Text) TextFault → Result (List A × Text) TextFault
with_front front read = read >>= λ x. Ok (front ++ x.0, x.1)

pub regroup : {A : Type 0} (front : List A) (n : A) (read : Result (List A × Text) TextFault)
    → with_front front (read >>= λ x. Ok (n ∷ x.0, x.1)) ≡ with_front (front ++ n ∷ []) read
regroup front n (Ok x) = ap (λ ns. Ok (ns, x.1)) (simp append_assoc)
regroup front n (Err e) = refl

pub turn_more : {A : Type 0} (item : Text → Result (A × Text) TextFault) (front : List A) (count i : ℕ) (text : Text) (n : A) (after : Text)
    (total : Result (List A × Text) TextFault) → i < count → item text ≡ Ok (n, after)
    → with_front front (in_turn item (count - i) text) ≡ total → with_front (front ++ n ∷ []) (in_turn item (count - (i + 1)) after) ≡ total
unfolding in_turn
turn_more item front count i text n after total lt h so_far =
    let k : count - i ≡ suc (count - (i + 1)) = omega arith in
    let one : with_front front (in_turn item (count - i) text) ≡ with_front (front ++ n ∷ []) (in_turn item (count - (i + 1)) after) =
    rw (k, h) (regroup front n (in_turn item (count - (i + 1)) after)) in
    sym one ∙ so_far

pub turn_fails : {A : Type 0} (item : Text → Result (A × Text) TextFault) (e : TextFault) (front : List A) (count i : ℕ) (text : Text)
    (total : Result (List A × Text) TextFault) → i < count → Fails e (item text)
    → with_front front (in_turn item (count - i) text) ≡ total → Fails e total
unfolding in_turn
turn_fails item fault.OutOfMemory front count i text total lt h so_far = tt
turn_fails item (fault.Malformed n) front count i text total lt h so_far =
    let k : count - i ≡ suc (count - (i + 1)) = omega arith in
    let one : with_front front (in_turn item (count - i) text) ≡ Err (fault.Malformed n) = rw (k, h) refl in
    sym so_far ∙ one
turn_fails item (fault.Limit n) front count i text total lt h so_far =
    let k : count - i ≡ suc (count - (i + 1)) = omega arith in
    let one : with_front front (in_turn item (count - i) text) ≡ Err (fault.Limit n) = rw (k, h) refl in
    sym so_far ∙ one

pub turns_done : {A : Type 0} (item : Text → Result (A × Text) TextFault) (front : List A) (count i : ℕ) (text : Text)
    (total : Result (List A × Text) TextFault) → count ≤ i → with_front front (in_turn item (count - i) text) ≡ total
    → total ≡ Ok (front, text)
unfolding in_turn
turns_done item front count i text total le so_far =
    let k : count - i ≡ 0 = omega arith in
    let one : with_front front (in_turn item (count - i) text) ≡ Ok (front, text) = rw k (ap (λ ns. Ok (ns, text)) (append-nil front)) in
    sym so_far ∙ one
