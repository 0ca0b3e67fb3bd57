-- Quandles read one behind the other, as a loop does.
use Rattle.std.proofs.Common.{◌≡◌, ℕ, zero, suc, ◌-◌, ◌+◌, ◌≤◌, ◌<◌, List, [], ◌∷◌, ◌++◌, true, false, Result, Ok, Err, refl, sym, ap, ◌∙◌, arith, codes}
use Rattle.std.proofs.lemmas.List.{append-nil}
use Rattle.text_lines.specs.Lines.{Text, begins}
use Rattle.text_items.specs.declared.fault.TextFault.{TextFault}
use Rattle.text_items.specs.declared.fault.TextFault.TheVariants as fault
use Rattle.quandle_core.specs.Names.{NamedQuandle}
use Rattle.text_items.specs.Reading.{◌>>=◌, Fails, next_line, word}
use Rattle.text_items.specs.Quandles.{written_at, quandle_item, surplus_quandle, quandles}
use Rattle.text_items.proofs.Turns.{with_front, regroup}

pub quandle_more : (front : List NamedQuandle) (most i : ℕ) (text : Text) (q : NamedQuandle) (after : Text)
    (total : Result (List NamedQuandle × Text) TextFault) → i < most → begins (codes "quandle") text ≡ true → quandle_item text ≡ Ok (q, after)
    → with_front front (quandles (most - i) text) ≡ total → with_front (front ++ q ∷ []) (quandles (most - (i + 1)) after) ≡ total
unfolding quandles
quandle_more front most i text q after total lt more h so_far =
    let k : most - i ≡ suc (most - (i + 1)) = omega arith in
    let one : with_front front (quandles (most - i) text) ≡ with_front (front ++ q ∷ []) (quandles (most - (i + 1)) after) =
    rw (k, more, h) (regroup front q (quandles (most - (i + 1)) after)) in
    sym one ∙ so_far

pub quandle_fails : (e : TextFault) (front : List NamedQuandle) (most i : ℕ) (text : Text) (total : Result (List NamedQuandle × Text) TextFault)
    → i < most → begins (codes "quandle") text ≡ true → Fails e (quandle_item text)
    → with_front front (quandles (most - i) text) ≡ total → Fails e total
unfolding quandles
quandle_fails fault.OutOfMemory front most i text total lt more h so_far = tt
quandle_fails (fault.Malformed n) front most i text total lt more h so_far =
    let k : most - i ≡ suc (most - (i + 1)) = omega arith in
    let one : with_front front (quandles (most - i) text) ≡ Err (fault.Malformed n) = rw (k, more, h) refl in
    sym so_far ∙ one
quandle_fails (fault.Limit n) front most i text total lt more h so_far =
    let k : most - i ≡ suc (most - (i + 1)) = omega arith in
    let one : with_front front (quandles (most - i) text) ≡ Err (fault.Limit n) = rw (k, more, h) refl in
    sym so_far ∙ one

-- another line, or none
ended : (k : ℕ) (text : Text) → begins (codes "quandle") text ≡ false → quandles k text ≡ Ok ([], text)
unfolding quandles
ended zero text other = rw other refl
ended (suc k) text other = rw other refl

pub quandles_end : (front : List NamedQuandle) (k : ℕ) (text : Text) (total : Result (List NamedQuandle × Text) TextFault)
    → begins (codes "quandle") text ≡ false
    → with_front front (quandles k text) ≡ total → total ≡ Ok (front, text)
quandles_end front k text total other so_far =
    sym so_far ∙ ap (with_front front) (ended k text other) ∙ ap (λ ns. Ok (ns, text)) (append-nil front)

-- ---- one quandle too many

front_same : {A : Type 0} (front : List NamedQuandle) (r : Result A TextFault) (k : A → Result (List NamedQuandle × Text) TextFault)
    → ((x : A) → with_front front (k x) ≡ k x) → with_front front (r >>= k) ≡ (r >>= k)
front_same front (Ok x) k same = same x
front_same front (Err e) k same = refl

surplus_front : (front : List NamedQuandle) (text : Text) → with_front front (surplus_quandle text) ≡ surplus_quandle text
unfolding surplus_quandle
surplus_front front text =
    front_same front (next_line text) (λ line. word (codes "quandle") line.0 >>= λ rest. written_at rest >>= λ name. Err (fault.Limit name.1.number)) (λ line.
    front_same front (word (codes "quandle") line.0) (λ rest. written_at rest >>= λ name. Err (fault.Limit name.1.number)) (λ rest.
    front_same front (written_at rest) (λ name. Err (fault.Limit name.1.number)) (λ name. refl)))

pub quandles_over : (front : List NamedQuandle) (most i : ℕ) (text : Text) (total : Result (List NamedQuandle × Text) TextFault) → most ≤ i
    → begins (codes "quandle") text ≡ true
    → with_front front (quandles (most - i) text) ≡ total → total ≡ surplus_quandle text
unfolding quandles
quandles_over front most i text total le more so_far =
    let k : most - i ≡ 0 = omega arith in
    let one : with_front front (quandles (most - i) text) ≡ with_front front (surplus_quandle text) = rw (k, more) refl in
    sym so_far ∙ one ∙ surplus_front front text
