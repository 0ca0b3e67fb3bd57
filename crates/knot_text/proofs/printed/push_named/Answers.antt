use Rattle.std.proofs.Common.{◌≡◌, ◌++◌, List, ℕ, OnErr, rules, subst, append_assoc, codes, map, arith, ◌∷◌}
use Rattle.std.specs.List.{range_with_len}
use Rattle.std.specs.Fmt.{decimal}
use Rattle.text_lines.specs.Spelled.{lines_text}
use Rattle.text_lines.specs.Appended.{AppendsPart}
use Rattle.text_lines.proofs.Parts.{on_err, part_none, last_behind, last_bytes}
use Rattle.knot_text.proofs.LineTexts.{some_line}
use Rattle.quandle_core.specs.Names.{called}
use Rattle.knot_text.specs.Printed.{quandle_lines, row_tokens, name_tokens}
use Rattle.knot_text.proofs.printed.push_named.Goals as goal

pub returns-in-Trivial-clause-part : goal.returns-in-Trivial-clause-part
returns-in-Trivial-clause-part c =
    let stands : List ℕ → Type 0 = λ s. OnErr c.push_counted.result (AppendsPart c.args.out.now.items c.push_counted.new.out.items s) in
    let whole : c.args.word.now ++ (codes " trivial " ++ (decimal c.from.result ++ codes "\n"))
    ≡ lines_text (quandle_lines c.args.word.now (called c.args.name c.args.quandle.now)) = search (rules, append_assoc) in
    subst stands whole (last_behind c.push_counted.result _ _ _ c.args.word.now _ c.in_ok-extend_from_slice.ensures.items
    c.push_counted.ensures.part)

pub returns-in-Dihedral-clause-part : goal.returns-in-Dihedral-clause-part
returns-in-Dihedral-clause-part c =
    let stands : List ℕ → Type 0 = λ s. OnErr c.push_counted-in-Dihedral.result (AppendsPart c.args.out.now.items c.push_counted-in-Dihedral.new.out.items s) in
    let whole : c.args.word.now ++ (codes " dihedral " ++ (decimal c.from-in-Dihedral.result ++ codes "\n"))
    ≡ lines_text (quandle_lines c.args.word.now (called c.args.name c.args.quandle.now)) = search (rules, append_assoc) in
    subst stands whole (last_behind c.push_counted-in-Dihedral.result _ _ _ c.args.word.now _ c.in_ok-extend_from_slice.ensures.items
    c.push_counted-in-Dihedral.ensures.part)

pub returns-in-Alexander-clause-part : goal.returns-in-Alexander-clause-part
returns-in-Alexander-clause-part c =
    let stands : List ℕ → Type 0 = λ s. OnErr c.push_paired.result (AppendsPart c.args.out.now.items c.push_paired.new.out.items s) in
    let whole : c.args.word.now ++ (codes " alexander " ++ (decimal c.from-in-Alexander.result ++
    (codes " " ++ (decimal c.from-in-Alexander-2.result ++ codes "\n"))))
    ≡ lines_text (quandle_lines c.args.word.now (called c.args.name c.args.quandle.now)) = search (rules, append_assoc) in
    subst stands whole (last_behind c.push_paired.result _ _ _ c.args.word.now _ c.in_ok-extend_from_slice.ensures.items
    c.push_paired.ensures.part)

pub returns-in-Table-clause-part : goal.returns-in-Table-clause-part
returns-in-Table-clause-part c =
    let stands : List ℕ → Type 0 = λ s. OnErr c.push_table.result (AppendsPart c.args.out.now.items c.push_table.new.out.items s) in
    let whole : c.args.word.now ++ ((codes " table " ++ (decimal c.args.quandle.now.order ++ codes "\n"))
    ++ lines_text (map (row_tokens c.args.quandle.now) (range_with_len 0 c.args.quandle.now.order)))
    ≡ lines_text (quandle_lines c.args.word.now (called c.args.name c.args.quandle.now)) = search (rules, append_assoc) in
    subst stands whole (last_behind c.push_table.result _ _ _ c.args.word.now _ c.in_ok-extend_from_slice.ensures.items
    c.push_table.ensures.part)

pub returns-in-Tetrahedral-clause-part : goal.returns-in-Tetrahedral-clause-part
returns-in-Tetrahedral-clause-part c =
    let end = codes " tetrahedral\n" in
    let stands : List ℕ → Type 0 =
    λ s. OnErr c.extend_from_slice-in-Tetrahedral.result (AppendsPart c.args.out.now.items c.extend_from_slice-in-Tetrahedral.new.self.items s) in
    let whole : c.args.word.now ++ end ≡ lines_text (quandle_lines c.args.word.now (called c.args.name c.args.quandle.now)) = search (rules, append_assoc) in
    let before = c.in_ok-extend_from_slice.ensures.items in
    let after = c.extend_from_slice-in-Tetrahedral.ensures.items in
    subst stands whole (last_bytes c.extend_from_slice-in-Tetrahedral.result _ _ _ c.args.word.now end before after (omega arith))

pub returns-in_err-extend_from_slice-clause-part : goal.returns-in_err-extend_from_slice-clause-part
returns-in_err-extend_from_slice-clause-part c =
    let some = some_line (c.args.word.now ∷ name_tokens c.args.name c.args.quandle.now.order) _ in
    on_err c.from_residual.result _ (part_none _ _ _ c.in_err-extend_from_slice.ensures.items some)
