use Rattle.std.proofs.Common.{◌≡◌, ◌++◌, ◌∷◌, ◌∙◌, List, ℕ, OnErr, sym, ap, subst, append_assoc, codes, map, arith}
use Rattle.std.specs.Fmt.{decimal}
use Rattle.std.proofs.lemmas.List.{append-nil}
use Rattle.text_lines.specs.Spelled.{line_text}
use Rattle.text_lines.specs.Appended.{AppendsPart}
use Rattle.text_lines.proofs.Parts.{on_err, part_ahead, part_behind, last_bytes}
use Rattle.knot_text.specs.Printed.{letter_token}
use Rattle.knot_text.proofs.LetterTexts.{spelled, braid_line}
use Rattle.knot_text.proofs.letters.push_braid.Goals as goal

pub returns-in_err-push_number-clause-part : goal.returns-in_err-push_number-clause-part
returns-in_err-push_number-clause-part c =
    let ends : ℕ → Type 0 = λ n. AppendsPart c.extend_from_slice.new.self.items c.push_number.new.out.items (decimal n) in
    let stands : List ℕ → Type 0 = λ s. AppendsPart c.args.out.now.items c.push_number.new.out.items s in
    let rest = spelled c.args.letters.now ++ codes "\n" in
    let part = part_ahead _ _ (decimal c.args.strands) rest (subst ends c.from.ensures c.in_err-push_number.ensures.part) in
    let whole = braid_line (record { strands = c.args.strands; letters = c.args.letters.now }) in
    on_err c.from_residual-in_err-push_number.result _
    (subst stands whole (part_behind _ _ _ (codes "braid ") _ c.in_ok-extend_from_slice.ensures.items part))

pub returns-in_err-push_word_letters-clause-part : goal.returns-in_err-push_word_letters-clause-part
returns-in_err-push_word_letters-clause-part c =
    let ends : ℕ → Type 0 = λ n. c.push_number.new.out.items ≡ c.extend_from_slice.new.self.items ++ decimal n in
    let stands : List ℕ → Type 0 = λ s. AppendsPart c.args.out.now.items c.push_word_letters.new.out.items s in
    let number = subst ends c.from.ensures c.in_ok-push_number.ensures.text in
    let last = part_ahead _ _ (spelled c.args.letters.now) (codes "\n") c.in_err-push_word_letters.ensures.part in
    let part = part_behind _ _ _ (decimal c.args.strands) _ number last in
    let whole = braid_line (record { strands = c.args.strands; letters = c.args.letters.now }) in
    on_err c.from_residual-in_err-push_word_letters.result _
    (subst stands whole (part_behind _ _ _ (codes "braid ") _ c.in_ok-extend_from_slice.ensures.items part))

pub returns-clause-part : goal.returns-clause-part
returns-clause-part c =
    let out = c.args.out.now.items in
    let letters = spelled c.args.letters.now in
    let strands = decimal c.args.strands in
    let ends : ℕ → Type 0 = λ n. c.push_number.new.out.items ≡ c.extend_from_slice.new.self.items ++ decimal n in
    let stands : List ℕ → Type 0 = λ s. OnErr c.extend_from_slice-2.result (AppendsPart out c.extend_from_slice-2.new.self.items s) in
    let word = ap (λ (s : List ℕ). s ++ strands) c.in_ok-extend_from_slice.ensures.items ∙ append_assoc out (codes "braid ") strands in
    let number = subst ends c.from.ensures c.in_ok-push_number.ensures.text ∙ word in
    let front = ap (λ (s : List ℕ). s ++ letters) number ∙ append_assoc out (codes "braid " ++ strands) letters in
    let before = c.in_ok-push_word_letters.ensures.text ∙ front in
    let line = line_text (codes "braid" ∷ strands ∷ map letter_token c.args.letters.now) in
    let after = c.extend_from_slice-2.ensures.items in
    subst stands (sym (append-nil line))
    (last_bytes c.extend_from_slice-2.result _ _ _ (codes "braid " ++ (strands ++ letters)) (codes "\n") before after (omega arith))
