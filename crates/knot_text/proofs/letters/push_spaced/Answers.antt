use Rattle.std.proofs.Common.{◌≡◌, ◌++◌, ℕ, ℤ, List, OnErr, rules, sym, subst, unsigned_abs, to_z, of_z, w32}
use Rattle.std.specs.Fmt.{decimal}
use Rattle.text_lines.specs.Spelled.{spaced}
use Rattle.text_lines.specs.Appended.{AppendsPart}
use Rattle.text_lines.proofs.Parts.{last_behind}
use Rattle.knot_text.specs.Printed.{letter_token}
use Rattle.knot_text.proofs.letters.push_spaced.Goals as goal

pub returns-clause-part : goal.returns-clause-part
returns-clause-part c =
    let same : to_z w32 (of_z w32 c.args.letter) ≡ c.args.letter = search rules in
    let number : c.from.result ≡ unsigned_abs c.args.letter = search rules in
    let ends : ℕ → Type 0 = λ n. OnErr c.push_number.result (AppendsPart c.extend_from_slice.new.self.items c.push_number.new.out.items (decimal n)) in
    let stands : List ℕ → Type 0 = λ s. OnErr c.push_number.result (AppendsPart c.args.out.now.items c.push_number.new.out.items s) in
    let spells : ℤ → Type 0 = λ l. spaced (letter_token l) ≡ c.ahead_of.result.now ++ decimal (unsigned_abs l) in
    let part = subst ends number c.push_number.ensures.part in
    subst stands (sym (subst spells same c.ahead_of.ensures))
    (last_behind c.push_number.result _ _ _ c.ahead_of.result.now _ c.in_ok-extend_from_slice.ensures.items part)
