-- The lines of a table read one behind the other, as a loop does.
use Rattle.std.proofs.Common.{◌≡◌, ℕ, suc, ◌-◌, ◌+◌, ◌≤◌, ◌<◌, List, ◌++◌, Result, Ok, Err, refl, sym, ap, ◌∙◌, append_assoc, arith}
use Rattle.std.proofs.lemmas.List.{append-nil}
use Rattle.text_lines.specs.Lines.{Text}
use Rattle.text_items.specs.declared.fault.TextFault.{TextFault}
use Rattle.text_items.specs.declared.fault.TextFault.TheVariants as fault
use Rattle.text_items.specs.Reading.{◌>>=◌, Fails}
use Rattle.text_items.specs.Quandles.{table_row, table_rows}
use Rattle.text_items.proofs.Turns.{with_front}

regroup_rows : (front row : List ℕ) (read : Result (List ℕ × Text) TextFault)
    → with_front front (read >>= λ x. Ok (row ++ x.0, x.1)) ≡ with_front (front ++ row) read
regroup_rows front row (Ok x) = ap (λ ns. Ok (ns, x.1)) (sym (append_assoc front row x.0))
regroup_rows front row (Err e) = refl

pub row_more : (front : List ℕ) (order bound count i : ℕ) (text : Text) (row : List ℕ) (after : Text) (total : Result (List ℕ × Text) TextFault) → i < count
    → table_row order bound text ≡ Ok (row, after)
    → with_front front (table_rows order bound (count - i) text) ≡ total → with_front (front ++ row) (table_rows order bound (count - (i + 1)) after) ≡ total
unfolding table_rows
row_more front order bound count i text row after total lt h so_far =
    let k : count - i ≡ suc (count - (i + 1)) = omega arith in
    let one : with_front front (table_rows order bound (count - i) text) ≡ with_front (front ++ row) (table_rows order bound (count - (i + 1)) after) =
    rw (k, h) (regroup_rows front row (table_rows order bound (count - (i + 1)) after)) in
    sym one ∙ so_far

pub row_fails : (e : TextFault) (front : List ℕ) (order bound count i : ℕ) (text : Text) (total : Result (List ℕ × Text) TextFault) → i < count
    → Fails e (table_row order bound text)
    → with_front front (table_rows order bound (count - i) text) ≡ total → Fails e total
unfolding table_rows
row_fails fault.OutOfMemory front order bound count i text total lt h so_far = tt
row_fails (fault.Malformed n) front order bound count i text total lt h so_far =
    let k : count - i ≡ suc (count - (i + 1)) = omega arith in
    let one : with_front front (table_rows order bound (count - i) text) ≡ Err (fault.Malformed n) = rw (k, h) refl in
    sym so_far ∙ one
row_fails (fault.Limit n) front order bound count i text total lt h so_far =
    let k : count - i ≡ suc (count - (i + 1)) = omega arith in
    let one : with_front front (table_rows order bound (count - i) text) ≡ Err (fault.Limit n) = rw (k, h) refl in
    sym so_far ∙ one

pub rows_done : (front : List ℕ) (order bound count i : ℕ) (text : Text) (total : Result (List ℕ × Text) TextFault) → count ≤ i
    → with_front front (table_rows order bound (count - i) text) ≡ total → total ≡ Ok (front, text)
unfolding table_rows
rows_done front order bound count i text total le so_far =
    let k : count - i ≡ 0 = omega arith in
    let one : with_front front (table_rows order bound (count - i) text) ≡ Ok (front, text) = rw k (ap (λ ns. Ok (ns, text)) (append-nil front)) in
    sym so_far ∙ one
