-- A text that says the lines of two diagrams, a quandle and a cocycle of it is read as these.
use Rattle.std.proofs.Common.{◌≡◌, ℕ, suc, ◌≤◌, ◌+◌, ◌-◌, List, [], ◌∷◌, ◌++◌, map, true, cond, Result, Ok, Err, refl, sym, ap, subst, ◌∙◌, arith, codes}
use Rattle.std.proofs.Common.{nat_le}
use Rattle.std.specs.Prelude.{is_none}
use Rattle.std.specs.List.{flat_map, range_with_len}
use Rattle.std.specs.Fmt.{decimal}
use Rattle.std.proofs.lemmas.Bool.{le-leb}
use Rattle.quandle_core.specs.Quandle.{Table, IsQuandle}
use Rattle.cocycle_core.specs.Cocycle.{Cochain, IsCocycle}
use Rattle.cocycle_core.specs.Fault.{first_cocycle_fault}
use Rattle.cocycle_core.proofs.Accepted.{none_from_cocycle}
use Rattle.text_lines.specs.Lines.{Text, text_of}
use Rattle.text_lines.specs.Spelled.{numbered}
use Rattle.quandle_core.proofs.Named.{named_is}
use Rattle.text_items.specs.declared.fault.TextFault.{TextFault}
use Rattle.text_items.specs.declared.fault.TextFault.TheVariants.{Malformed}
use Rattle.text_items.specs.declared.modulus.TheConstants.{MAX_MODULUS}
use Rattle.knot_text.specs.declared.weights.WeightText.{WeightText}
use Rattle.text_items.specs.Reading.{next_line}
use Rattle.verdict_text.specs.Cocycles.{cochain, cochain_item, cocycle_item}
use Rattle.text_items.specs.Modulus.{modulus_at}
use Rattle.knot_text.specs.Weights.{weight_in, weight_of}
use Rattle.knot_text.specs.Printed.{row_tokens, quandle_lines, diagram_lines}
use Rattle.knot_text.specs.WrittenThere.{tokens_by_line, StandInFront, said_by, value_lines, cocycle_lines, HasCocycleText, HasWeightText, weight_lines}
use Rattle.knot_text.proofs.Tables.{row, rows_last}
use Rattle.knot_text.proofs.StepsAgain.{line_of, lines_before, word_again, last_again, most_again}
use Rattle.knot_text.proofs.CocycleAgain.{cocycle_again}
use Rattle.text_laws.proofs.Alike.{Alike, alike_ok, alike_err, alike_if, Same, SameText, SameLeft, same_bind, line_bind, rest_bind, text_bind, next_bind}
use Rattle.text_laws.proofs.ItemsAlike.{word_alike, last_alike, most_alike, below_alike, rows_alike}
use Rattle.text_laws.proofs.WrittenAgain.{read_again, quandle_written}
use Rattle.text_laws.proofs.ShapesAgain.{cut, nothing_behind, whole, diagram_written, end_read}
use Rattle.knot_text.proofs.CocycleSays.{cocycle_says}
use Rattle.text_laws.proofs.WeightsSay.{weight_in_says}

-- ---- texts of the same tokens

modulus_alike : (ts : List (List ℕ)) (n m : ℕ) → Alike Same (modulus_at (line_of n ts)) (modulus_at (line_of m ts))
unfolding modulus_at
modulus_alike ts n m = line_bind _ _ (word_alike (codes "weight") ts n m) (λ us i j. rest_bind _ _ (last_alike us i j) (λ v vs k l.
    same_bind (most_alike MAX_MODULUS v k l) (λ modulus. alike_if (nat_le 2 modulus) (alike_ok refl) alike_err)))

cochain_alike : (q : Table) (k : ℕ) (t u : Text) → SameText t u → Alike SameLeft (cochain_item q k t) (cochain_item q k u)
unfolding cochain_item
cochain_alike q k t u same = text_bind _ _ (rows_alike q.order k (q.order - 1) t u same) (λ front v w behind.
    next_bind _ _ _ _ behind (λ ts n m x y left. same_bind (below_alike q.order k ts n m) (λ row.
    alike_if (is_none (first_cocycle_fault (cochain q k (front ++ row)))) (alike_ok (refl, left)) alike_err)))

cocycle_alike : (q : Table) (t u : Text) → SameText t u → Alike SameLeft (cocycle_item q t) (cocycle_item q u)
unfolding cocycle_item
cocycle_alike q t u same =
    next_bind _ _ _ _ same (λ ts n m v w behind. same_bind (modulus_alike ts n m) (λ k. cochain_alike q k v w behind))

-- ---- a cocycle

cocycle_written : (q : Table) (text : Text) (w : Cochain) (rest : Text) → IsQuandle q → HasCocycleText q w → StandInFront (cocycle_lines w) text rest
    → cocycle_item q text ≡ Ok (w, rest)
cocycle_written q text w rest quandle has there =
    let t = lines_before (numbered 0 (cocycle_lines w)) rest in
    let again : cocycle_item q t ≡ Ok (w, rest) =
    subst (λ (p : Table). cocycle_item p t ≡ Ok (w, rest)) has.same (cocycle_again w 0 rest has.cocycle has.few) in
    read_again (HasCocycleText q) cocycle_lines (cocycle_item q) (cocycle_alike q) (λ s. cocycle_says q s quandle) w text rest again there

-- ---- the whole text

pub weight_in_written : (text : Text) (w : WeightText) → HasWeightText w → tokens_by_line text.lines ≡ weight_lines w → weight_in text ≡ Ok w
unfolding weight_in
weight_in_written text w has is =
    let end = nothing_behind text in
    let named = quandle_lines (codes "quandle") w.listed in
    let last = cocycle_lines w.cocycle in
    let a = cut (diagram_lines w.first) (diagram_lines w.second ++ (named ++ last)) text end (whole (weight_lines w) text is) in
    let b = cut (diagram_lines w.second) (named ++ last) a.mid end a.second in
    let c = cut named last b.mid end b.second in
    let quandle = named_is w.listed.name w.listed.table has.listed.names in
    rw (
      diagram_written text w.first a.mid has.first a.first,
      diagram_written a.mid w.second b.mid has.second b.first,
      quandle_written b.mid w.listed c.mid has.listed c.first,
      cocycle_written w.listed.table c.mid w.cocycle end quandle has.cocycle c.second,
      end_read text,
    ) refl

-- texts that say the same have one reading
pub weight_again : (a b : List ℕ) (w : WeightText) → said_by a ≡ said_by b → weight_of a ≡ Ok w → weight_of b ≡ Ok w
weight_again a b w same is =
    let x = (weight_in_says (text_of a)).of w is in
    weight_in_written (text_of b) w x.0 (sym same ∙ x.1)
