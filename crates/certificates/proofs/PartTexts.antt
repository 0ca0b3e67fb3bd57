-- Parts of evidence that were appended one after the other are its text.
use Rattle.std.proofs.Common.{◌≡◌, ◌++◌, ◌∙◌, ℕ, List, [], ◌∷◌, map, Result, Ok, Err, OnOk, sym, ap, ap₂, codes, append_assoc, append-nil}
use Rattle.std.specs.Prelude.{if◌then◌else◌}
use Rattle.std.specs.Result.{is_ok}
use Rattle.std.specs.Fmt.{decimal}
use Rattle.std.specs.List.{flat_map}
use Rattle.std.proofs.lemmas.Grind.{flat_map-append}
use Rattle.text_lines.specs.Spelled.{spaced, line_text, lines_text}
use Rattle.quandle_core.specs.Names.{NamedQuandle}
use Rattle.knot_text.specs.Printed.{letter_token, name_tokens, table_lines, quandle_lines}
use Rattle.evidence_core.specs.declared.blocks.Block.{Block}
use Rattle.evidence_core.specs.declared.evidence.Counted.{Counted}
use Rattle.evidence_core.specs.declared.evidence.Linked.{Linked}
use Rattle.evidence_core.specs.declared.evidence.Evidence.TheVariants.{Numbers}
use Rattle.certificates.specs.Printed.{perhaps_cocycle, counted_lines, linked_lines, evidence_lines}

-- what is appended where there was memory
pub appended : {A E : Type 0} (r : Result A E) (new old more : List ℕ) → new ≡ (if is_ok r then old ++ more else old) → OnOk r (new ≡ old ++ more)
appended (Ok x) new old more is = is
appended (Err e) new old more is = tt

four_parts : (o q p a b : List ℕ) → (((o ++ q) ++ p) ++ a) ++ b ≡ o ++ (q ++ (p ++ (a ++ b)))
four_parts o q p a b = append_assoc ((o ++ q) ++ p) a b ∙ append_assoc (o ++ q) p (a ++ b) ∙ append_assoc o q (p ++ (a ++ b))

-- a quandle behind two words is one behind both
quandle_text : (q : NamedQuandle) (more : List (List (List ℕ)))
    → lines_text (quandle_lines (codes "different numbers") q) ++ lines_text more
    ≡ lines_text ((codes "different" ∷ codes "numbers" ∷ name_tokens q.name q.table.order) ∷ (table_lines q.name q.table ++ more))
quandle_text q more =
    let table = table_lines q.name q.table in
    let first = line_text (codes "different numbers" ∷ name_tokens q.name q.table.order) in
    append_assoc first (lines_text table) (lines_text more) ∙ ap (λ (s : List ℕ). first ++ s) (sym (flat_map-append line_text table more))

pub numbers_text : (b : Block) (one two : Counted) (out : List ℕ)
    → (((out ++ lines_text (quandle_lines (codes "different numbers") b.listed)) ++ lines_text (perhaps_cocycle b.cocycle)) ++ lines_text (counted_lines one))
    ++ lines_text (counted_lines two) ≡ out ++ lines_text (evidence_lines (Numbers b one two))
numbers_text b one two out =
    let quandle = lines_text (quandle_lines (codes "different numbers") b.listed) in
    let cocycle = perhaps_cocycle b.cocycle in
    let counts = sym (flat_map-append line_text (counted_lines one) (counted_lines two)) in
    let behind = ap (λ (s : List ℕ). lines_text cocycle ++ s) counts ∙ sym (flat_map-append line_text cocycle (counted_lines one ++ counted_lines two)) in
    four_parts out quandle (lines_text cocycle) (lines_text (counted_lines one)) (lines_text (counted_lines two))
    ∙ ap (λ (s : List ℕ). out ++ s) (ap (λ (s : List ℕ). quandle ++ s) behind ∙ quandle_text b.listed (cocycle ++ (counted_lines one ++ counted_lines two)))

two_lines : (d s : List ℕ) → (codes "components " ++ (d ++ codes "\n")) ++ (codes "numbers" ++ (s ++ codes "\n"))
    ≡ ((codes "components" ++ (spaced d ++ [])) ++ codes "\n") ++ (((codes "numbers" ++ s) ++ codes "\n") ++ [])
two_lines d s =
    ap₂ (λ (x y : List ℕ). ((codes "components" ++ x) ++ codes "\n") ++ y) (sym (append-nil (spaced d)))
    (sym (append-nil ((codes "numbers" ++ s) ++ codes "\n")))

pub linked_text : (l : Linked) (out : List ℕ)
    → (((out ++ (codes "components " ++ (decimal l.components ++ codes "\n"))) ++ codes "numbers") ++ flat_map spaced (map letter_token l.numbers))
    ++ codes "\n"
    ≡ out ++ lines_text (linked_lines l)
linked_text l out =
    let numbers = flat_map spaced (map letter_token l.numbers) in
    four_parts out (codes "components " ++ (decimal l.components ++ codes "\n")) (codes "numbers") numbers (codes "\n")
    ∙ ap (λ (s : List ℕ). out ++ s) (two_lines (decimal l.components) numbers)
