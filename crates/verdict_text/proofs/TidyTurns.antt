-- Moves of a tidy list, read one behind the other, each behind the one before it.
use Rattle.std.proofs.Common.{◌≡◌, ℕ, suc, ◌-◌, ◌+◌, ◌≤◌, ◌<◌, List, [], ◌∷◌, ◌++◌, Option, Some, Result, Ok, Err, refl, sym, ap, ◌∙◌, arith}
use Rattle.std.proofs.lemmas.List.{append-nil}
use Rattle.grid_moves.specs.declared.step.Move.{Move}
use Rattle.text_lines.specs.Lines.{Text}
use Rattle.text_items.specs.declared.fault.TextFault.{TextFault}
use Rattle.text_items.specs.declared.fault.TextFault.TheVariants as fault
use Rattle.text_items.specs.Reading.{Fails}
use Rattle.text_items.proofs.Turns.{with_front, regroup}
use Rattle.verdict_text.specs.Moves.{tidy_move, tidy_moves}

pub tidy_more : (before : Option Move) (front : List Move) (count i : ℕ) (text : Text) (n : Move) (after : Text) (total : Result (List Move × Text) TextFault)
    → i < count → tidy_move before text ≡ Ok (n, after) → with_front front (tidy_moves before (count - i) text) ≡ total
    → with_front (front ++ n ∷ []) (tidy_moves (Some n) (count - (i + 1)) after) ≡ total
unfolding tidy_moves
tidy_more before front count i text n after total lt h so_far =
    let k : count - i ≡ suc (count - (i + 1)) = omega arith in
    let one : with_front front (tidy_moves before (count - i) text) ≡ with_front (front ++ n ∷ []) (tidy_moves (Some n) (count - (i + 1)) after) =
    rw (k, h) (regroup front n (tidy_moves (Some n) (count - (i + 1)) after)) in
    sym one ∙ so_far

pub tidy_fails : (before : Option Move) (e : TextFault) (front : List Move) (count i : ℕ) (text : Text) (total : Result (List Move × Text) TextFault)
    → i < count → Fails e (tidy_move before text) → with_front front (tidy_moves before (count - i) text) ≡ total → Fails e total
unfolding tidy_moves
tidy_fails before fault.OutOfMemory front count i text total lt h so_far = tt
tidy_fails before (fault.Malformed n) front count i text total lt h so_far =
    let k : count - i ≡ suc (count - (i + 1)) = omega arith in
    let one : with_front front (tidy_moves before (count - i) text) ≡ Err (fault.Malformed n) = rw (k, h) refl in
    sym so_far ∙ one
tidy_fails before (fault.Limit n) front count i text total lt h so_far =
    let k : count - i ≡ suc (count - (i + 1)) = omega arith in
    let one : with_front front (tidy_moves before (count - i) text) ≡ Err (fault.Limit n) = rw (k, h) refl in
    sym so_far ∙ one

pub tidy_done : (before : Option Move) (front : List Move) (count i : ℕ) (text : Text) (total : Result (List Move × Text) TextFault) → count ≤ i
    → with_front front (tidy_moves before (count - i) text) ≡ total → total ≡ Ok (front, text)
unfolding tidy_moves
tidy_done before front count i text total le so_far =
    let k : count - i ≡ 0 = omega arith in
    let one : with_front front (tidy_moves before (count - i) text) ≡ Ok (front, text) = rw k (ap (λ ns. Ok (ns, text)) (append-nil front)) in
    sym so_far ∙ one
