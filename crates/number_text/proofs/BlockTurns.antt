-- Blocks read one behind the other, as a loop does.
use Rattle.std.proofs.Common.{◌≡◌, ℕ, zero, suc, ◌-◌, ◌+◌, ◌≤◌, ◌<◌, List, [], ◌∷◌, ◌++◌, true, false, Result, Ok, Err, refl, sym, ap, ◌∙◌, arith, codes}
use Rattle.std.proofs.lemmas.List.{append-nil}
use Rattle.text_lines.specs.Lines.{Text, begins}
use Rattle.text_items.specs.declared.fault.TextFault.{TextFault}
use Rattle.text_items.specs.declared.fault.TextFault.TheVariants as fault
use Rattle.text_items.specs.Reading.{◌>>=◌, Fails, next_line, word}
use Rattle.text_items.specs.Quandles.{written_at}
use Rattle.evidence_core.specs.declared.blocks.Block.{Block}
use Rattle.number_text.specs.Blocks.{block_item, surplus_block, listed_blocks}
use Rattle.text_items.proofs.Turns.{with_front, regroup}

pub block_more : (limit : ℕ) (front : List Block) (most i : ℕ) (text : Text) (q : Block) (after : Text)
    (total : Result (List Block × Text) TextFault) → i < most → begins (codes "quandle") text ≡ true → block_item limit text ≡ Ok (q, after)
    → with_front front (listed_blocks limit (most - i) text) ≡ total → with_front (front ++ q ∷ []) (listed_blocks limit (most - (i + 1)) after) ≡ total
unfolding listed_blocks
block_more limit front most i text q after total lt more h so_far =
    let k : most - i ≡ suc (most - (i + 1)) = omega arith in
    let one : with_front front (listed_blocks limit (most - i) text) ≡ with_front (front ++ q ∷ []) (listed_blocks limit (most - (i + 1)) after) =
    rw (k, more, h) (regroup front q (listed_blocks limit (most - (i + 1)) after)) in
    sym one ∙ so_far

pub block_fails : (limit : ℕ) (e : TextFault) (front : List Block) (most i : ℕ) (text : Text) (total : Result (List Block × Text) TextFault)
    → i < most → begins (codes "quandle") text ≡ true → Fails e (block_item limit text)
    → with_front front (listed_blocks limit (most - i) text) ≡ total → Fails e total
unfolding listed_blocks
block_fails limit fault.OutOfMemory front most i text total lt more h so_far = tt
block_fails limit (fault.Malformed n) front most i text total lt more h so_far =
    let k : most - i ≡ suc (most - (i + 1)) = omega arith in
    let one : with_front front (listed_blocks limit (most - i) text) ≡ Err (fault.Malformed n) = rw (k, more, h) refl in
    sym so_far ∙ one
block_fails limit (fault.Limit n) front most i text total lt more h so_far =
    let k : most - i ≡ suc (most - (i + 1)) = omega arith in
    let one : with_front front (listed_blocks limit (most - i) text) ≡ Err (fault.Limit n) = rw (k, more, h) refl in
    sym so_far ∙ one

-- another line, or none
ended : (limit k : ℕ) (text : Text) → begins (codes "quandle") text ≡ false → listed_blocks limit k text ≡ Ok ([], text)
unfolding listed_blocks
ended limit zero text other = rw other refl
ended limit (suc k) text other = rw other refl

pub blocks_end : (limit : ℕ) (front : List Block) (k : ℕ) (text : Text) (total : Result (List Block × Text) TextFault)
    → begins (codes "quandle") text ≡ false
    → with_front front (listed_blocks limit k text) ≡ total → total ≡ Ok (front, text)
blocks_end limit front k text total other so_far =
    sym so_far ∙ ap (with_front front) (ended limit k text other) ∙ ap (λ ns. Ok (ns, text)) (append-nil front)

-- ---- one quandle too many

front_same : {A : Type 0} (front : List Block) (r : Result A TextFault) (k : A → Result (List Block × Text) TextFault)
    → ((x : A) → with_front front (k x) ≡ k x) → with_front front (r >>= k) ≡ (r >>= k)
front_same front (Ok x) k same = same x
front_same front (Err e) k same = refl

surplus_front : (front : List Block) (text : Text) → with_front front (surplus_block text) ≡ surplus_block text
unfolding surplus_block
surplus_front front text =
    front_same front (next_line text) (λ line. word (codes "quandle") line.0 >>= λ rest. written_at rest >>= λ name. Err (fault.Limit line.0.number)) (λ line.
    front_same front (word (codes "quandle") line.0) (λ rest. written_at rest >>= λ name. Err (fault.Limit line.0.number)) (λ rest.
    front_same front (written_at rest) (λ name. Err (fault.Limit line.0.number)) (λ form. refl)))

pub blocks_over : (limit : ℕ) (front : List Block) (most i : ℕ) (text : Text) (total : Result (List Block × Text) TextFault) → most ≤ i
    → begins (codes "quandle") text ≡ true
    → with_front front (listed_blocks limit (most - i) text) ≡ total → total ≡ surplus_block text
unfolding listed_blocks
blocks_over limit front most i text total le more so_far =
    let k : most - i ≡ 0 = omega arith in
    let one : with_front front (listed_blocks limit (most - i) text) ≡ with_front front (surplus_block text) = rw (k, more) refl in
    sym so_far ∙ one ∙ surplus_front front text
