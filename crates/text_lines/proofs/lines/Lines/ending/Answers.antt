use Rattle.std.proofs.Common.{◌<◌, ◌+◌, length, List, ℕ, sym, ◌∙◌, ap, subst, rules, arith}
use Rattle.text_lines.specs.Lines.{text_from}
use Rattle.text_lines.proofs.FirstLine.{behind_line_shorter}
use Rattle.text_lines.proofs.Steps.{ending_cut}
use Rattle.text_lines.proofs.lines.Lines.ending.Goals as goal

pub loop-rest-preserved : goal.loop-rest-preserved
loop-rest-preserved c =
    let bytes = c.loop-rest.rest.now in
    let some : 0 < length bytes = search rules in
    let behind = c.cut_line.ensures.rest in
    record {
      counted = ap (λ (xs : List ℕ). (text_from (c.loop-rest.count + 1) xs).ending) behind ∙ sym (ending_cut c.loop-rest.count bytes some)
          ∙ c.loop-rest.invariant.counted;
      small = subst (λ (xs : List ℕ). c.loop-rest.count + 1 + length xs < 9223372036854775808) (sym behind)
          (omega (arith, behind_line_shorter bytes some, c.loop-rest.invariant.small));
    }
