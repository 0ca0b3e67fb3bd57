-- The text of a cocycle is read as this cocycle.
use Rattle.std.proofs.Common.{◌≡◌, ℕ, suc, ◌≤◌, ◌+◌, ◌-◌, List, ◌∷◌, [], ◌++◌, map, true, cond, Result, Ok, Err, refl, ap, ◌∙◌, arith, codes}
use Rattle.std.specs.Prelude.{is_none}
use Rattle.std.specs.List.{flat_map, range_with_len}
use Rattle.std.specs.Fmt.{decimal}
use Rattle.std.proofs.lemmas.Bool.{le-leb}
use Rattle.quandle_core.specs.Quandle.{Table}
use Rattle.cocycle_core.specs.Cocycle.{Cochain, IsCocycle}
use Rattle.cocycle_core.specs.Fault.{first_cocycle_fault}
use Rattle.cocycle_core.proofs.Accepted.{none_from_cocycle}
use Rattle.text_lines.specs.Lines.{Text}
use Rattle.text_lines.specs.Spelled.{numbered}
use Rattle.text_items.specs.declared.fault.TextFault.{TextFault}
use Rattle.text_items.specs.declared.fault.TextFault.TheVariants.{Malformed}
use Rattle.text_items.specs.declared.modulus.TheConstants.{MAX_MODULUS}
use Rattle.text_items.specs.Reading.{next_line}
use Rattle.verdict_text.specs.Cocycles.{cochain, cochain_item, cocycle_item}
use Rattle.text_items.specs.Modulus.{modulus_at}
use Rattle.knot_text.specs.Printed.{row_tokens}
use Rattle.knot_text.specs.WrittenThere.{value_lines, cocycle_lines}
use Rattle.knot_text.proofs.Tables.{row, rows_last}
use Rattle.knot_text.proofs.StepsAgain.{line_of, lines_before, word_again, last_again, most_again}
use Rattle.knot_text.proofs.QuandleAgain.{line_again, rows_again}

modulus_again : (k n : ℕ) → 2 ≤ k → k ≤ MAX_MODULUS → modulus_at (line_of n (codes "weight" ∷ decimal k ∷ [])) ≡ Ok k
unfolding modulus_at
modulus_again k n some few = rw (
  word_again (codes "weight") n (decimal k ∷ []),
  last_again k n
      (omega (arith, few)),
  most_again MAX_MODULUS n k few,
  le-leb 2 k some,
) refl

-- what the laws say of some entries
abbrev tested : Table → ℕ → List ℕ → ℕ → Text → Result (Cochain × Text) TextFault
tested q k entries n text = cond (is_none (first_cocycle_fault (cochain q k entries))) (Ok (cochain q k entries, text)) (Err (Malformed n))

cochain_by : (w : Cochain) (n j : ℕ) (text : Text) → IsCocycle w → w.modulus ≤ MAX_MODULUS → w.quandle.order ≡ suc j
    → cochain_item w.quandle w.modulus (lines_before (numbered n (value_lines w)) text) ≡ Ok (w, text)
unfolding cochain_item next_line
cochain_by w n j text is few size =
    let q = w.quandle in
    let k = w.modulus in
    let t : Table = record { order = q.order; entries = w.entries } in
    let front = flat_map (row t) (range_with_len 0 j) in
    let last : 0 + j ≡ j = omega arith in
    let fewer : q.order - 1 ≡ j = omega (arith, size) in
    let lines = numbered n (map (row_tokens t) (range_with_len 0 (suc j))) in
    let rows = rows_again t k n 0 j text few is.within (omega (arith, size)) in
    let end = line_again t k (n + j + 1) (0 + j) few is.within (omega (arith, size)) in
    let all : front ++ row t (0 + j) ≡ w.entries = ap (λ (x : ℕ). front ++ row t x) last ∙ rows_last t j is.square size in
    let none : is_none (first_cocycle_fault w) ≡ true = ap (λ f. is_none f) (none_from_cocycle w is) in
    let read : cochain_item q k (lines_before lines text) ≡ tested q k (front ++ row t (0 + j)) (n + j + 1) text = rw (fewer, rows, end) refl in
    let passes : tested q k w.entries (n + j + 1) text ≡ Ok (w, text) = rw none refl in
    ap (λ (i : ℕ). cochain_item q k (lines_before (numbered n (map (row_tokens t) (range_with_len 0 i))) text)) size ∙ read
    ∙ ap (λ (es : List ℕ). tested q k es (n + j + 1) text) all ∙ passes

pub cocycle_again : (w : Cochain) (n : ℕ) (text : Text) → IsCocycle w → w.modulus ≤ MAX_MODULUS
    → cocycle_item w.quandle (lines_before (numbered n (cocycle_lines w)) text) ≡ Ok (w, text)
unfolding cocycle_item next_line
cocycle_again w n text is few =
    let some = is.quandle.least in
    let size : w.quandle.order ≡ suc (w.quandle.order - 1) = omega (arith, some) in
    rw (modulus_again w.modulus (n + 1) is.least few) (cochain_by w (n + 1) (w.quandle.order - 1) text is few size)
