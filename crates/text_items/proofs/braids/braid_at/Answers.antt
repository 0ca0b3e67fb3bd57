use Rattle.std.proofs.Common.{◌≡◌, ◌⊎◌, ℕ, ℤ, List, ap, sym, subst, ◌∙◌, Some, None, Ok, Err}
use Rattle.braid_core.specs.Braid.{Word}
use Rattle.braid_core.specs.Fault.{first_word_fault}
use Rattle.braid_core.specs.declared.fault.BraidFault.TheVariants.{OutOfMemory}
use Rattle.text_items.specs.declared.fault.TextFault.{TextFault}
use Rattle.text_items.specs.Reading.{Fails}
use Rattle.text_items.specs.Braids.{braid_at, refused}
use Rattle.text_items.proofs.BraidLines.{word_of, IsRead, braid_good, braid_refused, braid_over}
use Rattle.text_items.proofs.braids.braid_at.Goals as goal
use Rattle.text_items.specs.declared.fault.TextFault.TheVariants.{Limit}

pub returns-then-exceeds : goal.returns-then-exceeds
returns-then-exceeds c =
    let kept = c.in_ok-kept.kept in
    let m = c.in_ok-strands.strands in
    let read : IsRead c.args.line.now m kept = record {
      rest = c.word.new.line;
      left = c.number.new.line;
      name = c.in_ok-word.ensures;
      strands = c.in_ok-strands.ensures;
      letters = c.in_ok-kept.ensures;
    } in
    braid_over c.args.line.now m kept read (sym c.exceeds.ensures ∙ c.if-exceeds.true) ∙ ap (λ (n : ℕ). Err (Limit n)) (sym c.number-at.ensures)

pub returns-in-Ok : goal.returns-in-Ok
returns-in-Ok c =
    let kept = c.in_ok-kept.kept in
    let m = c.in_ok-strands.strands in
    let read : IsRead c.args.line.now m kept = record {
      rest = c.word.new.line;
      left = c.number.new.line;
      name = c.in_ok-word.ensures;
      strands = c.in_ok-strands.ensures;
      letters = c.in_ok-kept.ensures;
    } in
    let given : word_of m c.as_slice.result.now ≡ word_of m kept.first.items = ap (word_of m) c.as_slice.ensures.value in
    let none : first_word_fault (word_of m kept.first.items) ≡ None = ap first_word_fault (sym (c.in-Ok.ensures.braid.1 ∙ given)) ∙ c.in-Ok.ensures.braid.0 in
    braid_good c.args.line.now m kept read (sym c.exceeds.ensures ∙ c.if-exceeds.false) none ∙ ap (λ (b : Word). Ok b) (sym (c.in-Ok.ensures.braid.1 ∙ given))

pub returns-in-Err : goal.returns-in-Err
returns-in-Err c =
    let kept = c.in_ok-kept.kept in
    let m = c.in_ok-strands.strands in
    let read : IsRead c.args.line.now m kept = record {
      rest = c.word.new.line;
      left = c.number.new.line;
      name = c.in_ok-word.ensures;
      strands = c.in_ok-strands.ensures;
      letters = c.in_ok-kept.ensures;
    } in
    let why = subst
    (λ (ls : List ℤ). (first_word_fault (word_of m ls) ≡ Some c.in-Err.fault) ⊎ ((first_word_fault (word_of m ls) ≡ None) × (c.in-Err.fault ≡ OutOfMemory)))
    c.as_slice.ensures.value c.in-Err.ensures.fault in
    let fails = braid_refused c.args.line.now m kept c.in-Err.fault read (sym c.exceeds.ensures ∙ c.if-exceeds.false) why in
    subst (λ (f : TextFault). Fails f (braid_at c.args.line.now)) (sym (c.refused.ensures ∙ ap (λ (n : ℕ). refused n c.in-Err.fault) c.number-at.ensures)) fails
