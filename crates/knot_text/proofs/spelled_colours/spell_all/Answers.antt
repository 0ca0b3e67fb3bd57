use Rattle.std.proofs.Common.{◌++◌, ◌-◌, ◌∙◌, ap, append_assoc, arith, length, get_or, take, drop, List, ℕ}
use Rattle.std.specs.List.{flat_map}
use Rattle.std.specs.Fmt.{decimal}
use Rattle.text_lines.specs.Spelled.{spaced}
use Rattle.text_lines.proofs.LineTexts.{numbers_joined}
use Rattle.knot_text.proofs.spelled_colours.spell_all.Goals as goal

pub returns-in-len1-up-clause-bytes : goal.returns-in-len1-up-clause-bytes
returns-in-len1-up-clause-bytes c =
    let line = c.args.line.now.items in
    let first = decimal (get_or c.args.colours.now 0 0) in
    let others = flat_map (λ n. spaced (decimal n)) (take (length c.args.colours.now - 1) (drop 1 c.args.colours.now)) in
    let front = ap (λ (s : List ℕ). s ++ others) c.spell.ensures.bytes in
    let whole = ap (λ (s : List ℕ). line ++ s) (numbers_joined c.args.colours.now (omega arith)) in
    c.spell_behind.ensures.bytes ∙ front ∙ append_assoc line first others ∙ whole
