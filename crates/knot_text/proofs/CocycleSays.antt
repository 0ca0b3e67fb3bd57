-- A cocycle that was read is written there.
use Rattle.std.proofs.Common.{◌≡◌, ℕ, ◌≤◌, ◌-◌, List, [], ◌∷◌, ◌++◌, cond, Option, Some, None, Ok, Err, refl, sym, ap, subst, ◌∙◌, arith, codes, nat_le}
use Rattle.std.specs.Prelude.{is_none}
use Rattle.std.specs.Fmt.{decimal}
use Rattle.quandle_core.specs.Quandle.{Table, IsQuandle}
use Rattle.cocycle_core.specs.Cocycle.{Cochain, IsCocycle}
use Rattle.cocycle_core.specs.Fault.{first_cocycle_fault}
use Rattle.cocycle_core.specs.declared.fault.CocycleFault.{CocycleFault}
use Rattle.cocycle_core.proofs.Accepted.{cocycle_from_none}
use Rattle.text_lines.specs.Lines.{NumberedLine, Text}
use Rattle.text_items.specs.declared.fault.TextFault.{TextFault}
use Rattle.text_items.specs.declared.modulus.TheConstants.{MAX_MODULUS}
use Rattle.verdict_text.specs.Cocycles.{cochain, cochain_item, cocycle_item}
use Rattle.text_items.specs.Modulus.{modulus_at}
use Rattle.knot_text.specs.WrittenThere.{StandInFront, value_lines, cocycle_lines, HasCocycleText}
use Rattle.knot_text.proofs.Says.{Says, says_ok, says_err, says_bind, says_if, says_more, in_front_of, in_front_is, IsNext, next_says}
use Rattle.knot_text.proofs.LineSays.{word_says, IsNumberAlone, last_number_says, at_most_says, AreColoursAlone, numbers_below_says}
use Rattle.knot_text.proofs.ItemsSay.{IsWritten}
use Rattle.knot_text.proofs.QuandleSays.{AreRows, rows_say, rows_printed}

-- the line has this modulus, and nothing else
record IsModulus (line : NumberedLine) (k : ℕ) : Type 0 where
  few : k ≤ MAX_MODULUS
  tokens : line.tokens ≡ codes "weight" ∷ decimal k ∷ []

modulus_says : (line : NumberedLine) → Says (modulus_at line) (IsModulus line)
unfolding modulus_at
modulus_says line = says_bind (λ (rest : NumberedLine). line.tokens ≡ codes "weight" ∷ rest.tokens) (word_says (codes "weight") line) (λ rest named.
    says_bind (IsNumberAlone rest.tokens) (last_number_says rest) (λ v is.
    says_bind (λ (k : ℕ). (v.0 ≡ k) × (k ≤ MAX_MODULUS)) (at_most_says MAX_MODULUS v.1.number v.0) (λ k few.
    says_if (nat_le 2 k) (λ some.
    let number = is (omega (arith, few.0, few.1)) ∙ ap (λ (j : ℕ). decimal j ∷ []) few.0 in
    says_ok k (record { few = few.1; tokens = named ∙ ap (λ (ts : List (List ℕ)). codes "weight" ∷ ts) number })) (λ none. says_err))))

-- the rows of a cocycle of the quandle with this modulus
record IsTableOf (quandle : Table) (modulus : ℕ) (text : Text) (x : Cochain × Text) : Type 0 where
  cocycle : IsCocycle x.0
  same : x.0.quandle ≡ quandle
  modulus_is : x.0.modulus ≡ modulus
  there : StandInFront (value_lines x.0) text x.1

cochain_by : (q : Table) (k : ℕ) (text : Text) (front : List ℕ × Text) (line : NumberedLine × Text) (r : List ℕ) → IsQuandle q
    → AreRows q.order (q.order - 1) text front → IsNext front.1 line → AreColoursAlone q.order k line.0 r
    → (f : Option CocycleFault) → first_cocycle_fault (cochain q k (front.0 ++ r)) ≡ f → (e : TextFault)
    → Says (cond (is_none f) (Ok (cochain q k (front.0 ++ r), line.1)) (Err e)) (IsTableOf q k text)
cochain_by q k text front line r quandle are there last (Some fault) is e = says_err
cochain_by q k text front line r quandle are there last None is e =
    let w = cochain q k (front.0 ++ r) in
    let t : Table = record { order = q.order; entries = front.0 ++ r } in
    says_ok (w, line.1) (record {
      cocycle = cocycle_from_none w quandle is;
      same = refl;
      modulus_is = refl;
      there = rows_printed t text front line r quandle.least refl are there last.tokens last.colours.0;
    })

cochain_says : (q : Table) (k : ℕ) (text : Text) → IsQuandle q → Says (cochain_item q k text) (IsTableOf q k text)
unfolding cochain_item
cochain_says q k text quandle = says_bind (AreRows q.order (q.order - 1) text) (rows_say q.order k (q.order - 1) text) (λ front are.
    says_bind (IsNext front.1) (next_says front.1) (λ line there.
    says_bind (AreColoursAlone q.order k line.0) (numbers_below_says q.order k line.0) (λ r last.
    cochain_by q k text front line r quandle are there last (first_cocycle_fault (cochain q k (front.0 ++ r))) refl _)))

pub cocycle_says : (q : Table) (text : Text) → IsQuandle q → Says (cocycle_item q text) (IsWritten (HasCocycleText q) cocycle_lines text)
unfolding cocycle_item
cocycle_says q text quandle = says_bind (IsNext text) (next_says text) (λ line there.
    says_bind (IsModulus line.0) (modulus_says line.0) (λ k is.
    says_more (λ x rows.
    let number = is.tokens ∙ ap (λ (j : ℕ). codes "weight" ∷ decimal j ∷ []) (sym rows.modulus_is) in
    let first = in_front_is (ap (λ (ts : List (List ℕ)). ts ∷ []) number) there in
    let few = subst (λ (j : ℕ). j ≤ MAX_MODULUS) (sym rows.modulus_is) is.few in
    (record { cocycle = rows.cocycle; same = rows.same; few = few }, in_front_of first rows.there)) (cochain_says q k line.1 quandle)))
