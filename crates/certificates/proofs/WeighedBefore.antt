-- Two diagrams, a quandle and a 2-cocycle are read as they were before there were shadow cocycles.
use Rattle.std.proofs.Common.{◌≡◌, ◌∙◌, ℕ, List, [], ◌∷◌, Bool, true, false, Result, Ok, Err, refl, sym, ap, codes}
use Rattle.std.specs.Str.{bytes_eq}
use Rattle.std.proofs.lemmas.Slice.Eq.{bytes_eq-Decides}
use Rattle.quandle_core.specs.Quandle.{Table}
use Rattle.cocycle_core.specs.Cocycle.{Cochain}
use Rattle.text_lines.specs.Lines.{NumberedLine, Text, first_starts, starts}
use Rattle.verdict_core.specs.declared.diagrams.Diagram.{Diagram}
use Rattle.quandle_core.specs.Names.{NamedQuandle}
use Rattle.text_items.specs.declared.fault.TextFault.{TextFault}
use Rattle.text_items.specs.declared.fault.TextFault.TheVariants.{Malformed}
use Rattle.text_items.specs.Reading.{◌>>=◌, next_line, next_token, word, text_end}
use Rattle.text_items.specs.Quandles.{quandle_item}
use Rattle.verdict_text.specs.Cocycles.{cocycle_item}
use Rattle.text_items.specs.Modulus.{modulus_at}
use Rattle.verdict_text.specs.Diagrams.{diagram_item}
use Rattle.knot_text.specs.declared.weights.WeightText.{WeightText}
use Rattle.knot_text.specs.Weights.{weight_in}
use Rattle.knot_text.proofs.Steady.{bind_ok, ok_is}
use Rattle.number_text.specs.declared.weighed.Weighing.TheVariants.{Strands}
use Rattle.number_text.specs.declared.weighed.WeighedText.{WeighedText}
use Rattle.number_text.specs.Weighed.{cocycle_due, weighed_in}

-- ---- a 2-cocycle

-- no 2-cocycle begins with the word of a shadow cocycle
shadow_fails : (q : Table) (n ending : ℕ) (tokens : List (List ℕ)) (lines : List NumberedLine)
    → cocycle_item q (record { lines = record { number = n; tokens = codes "shadow" ∷ tokens } ∷ lines; ending = ending }) ≡ Err (Malformed n)
unfolding cocycle_item next_line modulus_at word next_token
shadow_fails q n ending tokens lines = refl

token_other : (q : Table) (text : Text) (x : Cochain × Text) → cocycle_item q text ≡ Ok x → (line : NumberedLine) (lines : List NumberedLine)
    → text.lines ≡ line ∷ lines → (tokens : List (List ℕ)) → line.tokens ≡ tokens → starts (codes "shadow") tokens ≡ false
token_other q text x read line lines are [] is = refl
token_other q text x read line lines are (token ∷ tokens) is = by (bytes_eq token (codes "shadow")) refl
  where
    by : (t : Bool) → bytes_eq token (codes "shadow") ≡ t → bytes_eq token (codes "shadow") ≡ false
    by false e = e
    by true e =
        let first : token ≡ codes "shadow" = (bytes_eq-Decides token (codes "shadow")).0 e in
        let all : line.tokens ≡ codes "shadow" ∷ tokens = is ∙ ap (λ (t : List ℕ). t ∷ tokens) first in
        let whole : text ≡ record { lines = record { number = line.number; tokens = codes "shadow" ∷ tokens } ∷ lines; ending = text.ending } =
        rw (are, all) refl in
        let no : Err (Malformed line.number) ≡ Ok x = sym (shadow_fails q line.number text.ending tokens lines) ∙ sym (ap (cocycle_item q) whole) ∙ read in
        absurd cc

starts_other : (q : Table) (text : Text) (x : Cochain × Text) → cocycle_item q text ≡ Ok x → (lines : List NumberedLine) → text.lines ≡ lines
    → first_starts (codes "shadow") lines ≡ false
starts_other q text x read [] are = refl
starts_other q text x read (line ∷ lines) are = token_other q text x read line lines are line.tokens refl

cocycle_before : (q : Table) (text : Text) (x : Cochain × Text) → cocycle_item q text ≡ Ok x → cocycle_due q text ≡ Ok (Strands x.0, x.1)
unfolding cocycle_due
cocycle_before q text x read = rw (starts_other q text x read text.lines refl, read) refl

-- ---- the whole text

abbrev behind_cocycle : Diagram → Diagram → NamedQuandle → Cochain × Text → Result WeightText TextFault
behind_cocycle d e q cocycle = text_end cocycle.1 >>= λ end. Ok (record { first = d; second = e; listed = q; cocycle = cocycle.0 })

abbrev behind_quandle : Diagram → Diagram → NamedQuandle × Text → Result WeightText TextFault
behind_quandle d e listed = cocycle_item listed.0.table listed.1 >>= behind_cocycle d e listed.0

abbrev behind_second : Diagram → Diagram × Text → Result WeightText TextFault
behind_second d second = quandle_item second.1 >>= behind_quandle d second.0

abbrev behind_first : Diagram × Text → Result WeightText TextFault
behind_first first = diagram_item first.1 >>= behind_second first.0

-- the same, of which the cocycle may be a shadow cocycle
abbrev pub as_weighed : WeightText → WeighedText
as_weighed w = record { first = w.first; second = w.second; listed = w.listed; cocycle = Strands w.cocycle }

-- two diagrams, a quandle and a 2-cocycle that are read are the whole
all_weighed : (text : Text) (a b : Diagram × Text) (c : NamedQuandle × Text) (z : Cochain × Text) (k : Unit {0}) → diagram_item text ≡ Ok a
    → diagram_item a.1 ≡ Ok b → quandle_item b.1 ≡ Ok c → cocycle_due c.0.table c.1 ≡ Ok (Strands z.0, z.1) → text_end z.1 ≡ Ok k
    → weighed_in text ≡ Ok (record { first = a.0; second = b.0; listed = c.0; cocycle = Strands z.0 })
unfolding weighed_in
all_weighed text a b c z k one two three four five = rw (one, two, three, four, five) refl

pub weighed_before : (text : Text) (w : WeightText) → weight_in text ≡ Ok w → weighed_in text ≡ Ok (as_weighed w)
unfolding weight_in
weighed_before text w read =
    let a = bind_ok (diagram_item text) behind_first w read in
    let b = bind_ok (diagram_item a.0.1) (behind_second a.0.0) w a.2 in
    let c = bind_ok (quandle_item b.0.1) (behind_quandle a.0.0 b.0.0) w b.2 in
    let z = bind_ok (cocycle_item c.0.0.table c.0.1) (behind_cocycle a.0.0 b.0.0 c.0.0) w c.2 in
    let own : WeightText = record { first = a.0.0; second = b.0.0; listed = c.0.0; cocycle = z.0.0 } in
    let k = bind_ok (text_end z.0.1) (λ end. Ok own) w z.2 in
    let again : weighed_in text ≡ Ok (as_weighed own) =
    all_weighed text a.0 b.0 c.0 z.0 k.0 a.1 b.1 c.1 (cocycle_before c.0.0.table c.0.1 z.0 z.1) k.1 in
    again ∙ ap (λ (v : WeightText). Ok (as_weighed v)) (ok_is own w k.2)
