-- What is said by each block, read one behind the other, as a loop does.
use Rattle.std.proofs.Common.{◌≡◌, ℕ, suc, ◌-◌, ◌+◌, ◌≤◌, ◌<◌, List, [], ◌∷◌, ◌++◌, drop, length, get_or, Result, Ok, Err, Option, refl, sym, ap, ◌∙◌, arith}
use Rattle.std.proofs.lemmas.List.{append-nil, drop_more, drop_all}
use Rattle.text_lines.specs.Lines.{Text}
use Rattle.text_items.specs.declared.fault.TextFault.{TextFault}
use Rattle.text_items.specs.declared.fault.TextFault.TheVariants as fault
use Rattle.text_items.specs.Reading.{◌>>=◌, Fails}
use Rattle.evidence_core.specs.declared.blocks.Block.{Block}
use Rattle.number_text.specs.EvidenceItems.{count_of}
use Rattle.table_check.specs.Tables.{count_item, counts_item}
use Rattle.text_items.proofs.Turns.{with_front, regroup}

block_more : (front : List (Option (List ℕ))) (b : Block) (bs : List Block) (text : Text) (n : Option (List ℕ)) (after : Text)
    (total : Result (List (Option (List ℕ)) × Text) TextFault) → count_item (count_of b.cocycle) text ≡ Ok (n, after)
    → with_front front (counts_item (b ∷ bs) text) ≡ total → with_front (front ++ n ∷ []) (counts_item bs after) ≡ total
unfolding counts_item
block_more front b bs text n after total h so_far =
    let one : with_front front (counts_item (b ∷ bs) text) ≡ with_front (front ++ n ∷ []) (counts_item bs after) =
    rw h (regroup front n (counts_item bs after)) in
    sym one ∙ so_far

block_fails : (e : TextFault) (front : List (Option (List ℕ))) (b : Block) (bs : List Block) (text : Text)
    (total : Result (List (Option (List ℕ)) × Text) TextFault) → Fails e (count_item (count_of b.cocycle) text)
    → with_front front (counts_item (b ∷ bs) text) ≡ total → Fails e total
unfolding counts_item
block_fails fault.OutOfMemory front b bs text total h so_far = tt
block_fails (fault.Malformed n) front b bs text total h so_far =
    let one : with_front front (counts_item (b ∷ bs) text) ≡ Err (fault.Malformed n) = rw h refl in
    sym so_far ∙ one
block_fails (fault.Limit n) front b bs text total h so_far =
    let one : with_front front (counts_item (b ∷ bs) text) ≡ Err (fault.Limit n) = rw h refl in
    sym so_far ∙ one

blocks_done : (front : List (Option (List ℕ))) (text : Text) (total : Result (List (Option (List ℕ)) × Text) TextFault)
    → with_front front (counts_item [] text) ≡ total → total ≡ Ok (front, text)
unfolding counts_item
blocks_done front text total so_far = sym so_far ∙ ap (λ ns. Ok (ns, text)) (append-nil front)

-- ---- the same of a list of blocks, by places

pub each_more : (front : List (Option (List ℕ))) (bs : List Block) (i : ℕ) (d : Block) (due : ℕ) (text : Text) (n : Option (List ℕ)) (after : Text)
    (total : Result (List (Option (List ℕ)) × Text) TextFault) → i < length bs → due ≡ count_of (get_or bs i d).cocycle
    → count_item due text ≡ Ok (n, after) → with_front front (counts_item (drop i bs) text) ≡ total
    → with_front (front ++ n ∷ []) (counts_item (drop (i + 1) bs) after) ≡ total
each_more front bs i d due text n after total lt is h so_far =
    block_more front (get_or bs i d) (drop (i + 1) bs) text n after total (ap (λ k. count_item k text) (sym is) ∙ h)
    (ap (λ (ds : List Block). with_front front (counts_item ds text)) (sym (drop_more bs i d lt)) ∙ so_far)

pub each_fails : (e : TextFault) (front : List (Option (List ℕ))) (bs : List Block) (i : ℕ) (d : Block) (due : ℕ) (text : Text)
    (total : Result (List (Option (List ℕ)) × Text) TextFault) → i < length bs → due ≡ count_of (get_or bs i d).cocycle
    → Fails e (count_item due text) → with_front front (counts_item (drop i bs) text) ≡ total → Fails e total
each_fails e front bs i d due text total lt is h so_far =
    let at : Fails e (count_item (count_of (get_or bs i d).cocycle) text) = rw (sym is) h in
    block_fails e front (get_or bs i d) (drop (i + 1) bs) text total at
    (ap (λ (ds : List Block). with_front front (counts_item ds text)) (sym (drop_more bs i d lt)) ∙ so_far)

pub each_done : (front : List (Option (List ℕ))) (bs : List Block) (i : ℕ) (text : Text) (total : Result (List (Option (List ℕ)) × Text) TextFault)
    → length bs ≤ i → with_front front (counts_item (drop i bs) text) ≡ total → total ≡ Ok (front, text)
each_done front bs i text total le so_far =
    blocks_done front text total (ap (λ (ds : List Block). with_front front (counts_item ds text)) (sym (drop_all i bs le)) ∙ so_far)
