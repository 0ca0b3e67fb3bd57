use Rattle.std.proofs.Common.{◌++◌, ◌-◌, ◌∙◌, ap, append_assoc, arith, length, get_or, take, drop, List, ℕ}
use Rattle.std.proofs.lemmas.Result.{on_ok_weaker}
use Rattle.std.specs.List.{flat_map}
use Rattle.std.specs.Fmt.{decimal}
use Rattle.text_lines.specs.Spelled.{spaced}
use Rattle.text_lines.proofs.LineTexts.{numbers_joined}
use Rattle.text_lines.proofs.Parts.{last_behind}
use Rattle.text_lines.proofs.writing.push_numbers.Goals as goal

pub returns-in_ok-push_small-in-len1-up-clause-text : goal.returns-in_ok-push_small-in-len1-up-clause-text
returns-in_ok-push_small-in-len1-up-clause-text c =
    let out = c.args.out.now.items in
    let first = decimal (get_or c.args.numbers.now 0 0) in
    let others = flat_map (λ n. spaced (decimal n)) (take (length c.args.numbers.now - 1) (drop 1 c.args.numbers.now)) in
    let front = ap (λ (s : List ℕ). s ++ others) c.in_ok-push_small-in-len1-up.ensures.text in
    let whole = append_assoc out first others ∙ ap (λ (s : List ℕ). out ++ s) (numbers_joined c.args.numbers.now (omega arith)) in
    on_ok_weaker c.push_spaced.result (λ rest. rest ∙ front ∙ whole) c.push_spaced.ensures.text

pub returns-in_ok-push_small-in-len1-up-clause-part : goal.returns-in_ok-push_small-in-len1-up-clause-part
returns-in_ok-push_small-in-len1-up-clause-part c =
    rw (← numbers_joined c.args.numbers.now (omega arith))
    (last_behind c.push_spaced.result _ _ _ _ _ c.in_ok-push_small-in-len1-up.ensures.text c.push_spaced.ensures.part)
