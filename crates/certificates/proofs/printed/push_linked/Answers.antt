use Rattle.std.proofs.Common.{◌≡◌, ◌++◌, ◌∙◌, ℕ, ℤ, List, OnOk, map, ap, ap₂, codes, subst}
use Rattle.std.specs.Fmt.{decimal}
use Rattle.std.specs.List.{flat_map}
use Rattle.text_lines.specs.Spelled.{spaced}
use Rattle.knot_text.specs.Printed.{letter_token}
use Rattle.certificates.proofs.PartTexts.{appended, linked_text}
use Rattle.certificates.proofs.printed.push_linked.Goals as goal

pub returns : goal.returns
returns c =
    let out = c.args.out.now.items in
    let components = c.in_ok-push_counted.ensures.text ∙ ap (λ (k : ℕ). out ++ (codes "components " ++ (decimal k ++ codes "\n"))) c.from.ensures in
    let word = c.in_ok-extend_from_slice.ensures.items ∙ ap (λ (s : List ℕ). s ++ codes "numbers") components in
    let numbers = c.in_ok-push_letters.ensures
    ∙ ap₂ (λ (s : List ℕ) (ls : List ℤ). s ++ flat_map spaced (map letter_token ls)) word c.as_slice.ensures in
    let whole = ap (λ (s : List ℕ). s ++ codes "\n") numbers ∙ linked_text c.args.linked.now out in
    subst (λ (s : List ℕ). OnOk c.extend_from_slice-2.result (c.extend_from_slice-2.new.self.items ≡ s)) whole
    (appended c.extend_from_slice-2.result c.extend_from_slice-2.new.self.items c.push_letters.new.out.items (codes "\n") c.extend_from_slice-2.ensures.items)
