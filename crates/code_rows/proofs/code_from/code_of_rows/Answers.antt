use Rattle.std.proofs.Common.{◌≡◌, ◌∙◌, ℕ, List, Some, ap, sym, subst, length, arith}
use Rattle.std.proofs.lemmas.Bool.{true≢false}
use Rattle.code_rows.specs.declared.code_fault.CodeFault.TheVariants.{Empty, Size, Count, Range, Edge}
use Rattle.code_rows.specs.CodeFault.{first_code_fault}
use Rattle.code_rows.specs.Rows.{name_of}
use Rattle.code_rows.specs.Refused.{IsClash}
use Rattle.code_rows.proofs.InRange.{names_long, late_fault, plane_fails}
use Rattle.code_rows.proofs.Unsigned.{same_plane}
use Rattle.code_rows.proofs.Best.{clash}
use Rattle.code_rows.proofs.code_from.code_of_rows.Goals as goal

pub name_of-requires : goal.name_of-requires
name_of-requires c =
    let long = ap length (c.as_slice-in-Some-Edge.ensures.value ∙ c.in_ok-names.ensures) ∙ names_long c.args.rows.now in
    omega (arith, long, c.requires)

pub unreachable-requires : goal.unreachable-requires
unreachable-requires c =
    let fault : first_code_fault c.in_ok-code.code ≡ Some Empty = cc (c.in_ok-first_fault.ensures, c.in-Some-Empty.is, c.in-Some-Empty.field-0-is) in
    let late = late_fault c.args.rows.now c.args.loops c.in_ok-code.code c.in_ok-code.ensures.code (omega arith) (sym c.unpaired.ensures ∙ c.in_default.is)
    Empty fault in
    true≢false (sym late)

pub unreachable-requires-in-Some-Size : goal.unreachable-requires-in-Some-Size
unreachable-requires-in-Some-Size c =
    let fault : first_code_fault c.in_ok-code.code ≡ Some Size = cc (c.in_ok-first_fault.ensures, c.in-Some-Size.is, c.in-Some-Size.field-0-is) in
    let late = late_fault c.args.rows.now c.args.loops c.in_ok-code.code c.in_ok-code.ensures.code (omega arith) (sym c.unpaired.ensures ∙ c.in_default.is)
    Size fault in
    true≢false (sym late)

pub unreachable-requires-in-Some-Count : goal.unreachable-requires-in-Some-Count
unreachable-requires-in-Some-Count c =
    let fault : first_code_fault c.in_ok-code.code ≡ Some Count = cc (c.in_ok-first_fault.ensures, c.in-Some-Count.is, c.in-Some-Count.field-0-is) in
    let late = late_fault c.args.rows.now c.args.loops c.in_ok-code.code c.in_ok-code.ensures.code (omega arith) (sym c.unpaired.ensures ∙ c.in_default.is)
    Count fault in
    true≢false (sym late)

pub unreachable-requires-in-Some-Range : goal.unreachable-requires-in-Some-Range
unreachable-requires-in-Some-Range c =
    let fault : first_code_fault c.in_ok-code.code ≡ Some (Range c.in-Some-Range.field-0-0) =
    cc (c.in_ok-first_fault.ensures, c.in-Some-Range.is, c.in-Some-Range.field-0-is) in
    let late = late_fault c.args.rows.now c.args.loops c.in_ok-code.code c.in_ok-code.ensures.code (omega arith) (sym c.unpaired.ensures ∙ c.in_default.is)
    (Range c.in-Some-Range.field-0-0) fault in
    true≢false (sym late)

pub returns-in-Some-Plane-clause-plane : goal.returns-in-Some-Plane-clause-plane
returns-in-Some-Plane-clause-plane c = λ answer.
    let code = c.in_ok-code.code in
    let of = c.in_ok-code.ensures.code in
    let fault = sym c.in_ok-first_fault.ensures ∙ (c.in-Some-Plane.is ∙ ap Some c.in-Some-Plane.field-0-is) in
    record {
      code = code;
      of = of;
      fault = fault;
      all = λ other is_of.
          same_plane other.crossings code.crossings (is_of.rows ∙ sym of.rows)
          ∙ plane_fails c.args.rows.now c.args.loops code of (omega arith) (sym c.unpaired.ensures ∙ c.in_default.is) fault;
    }

pub returns-in-Some-Edge-clause-direction : goal.returns-in-Some-Edge-clause-direction
returns-in-Some-Edge-clause-direction c = λ name is.
    let rows = c.args.rows.now in
    let edge = c.in-Some-Edge.edge in
    let told : c.name_of.result ≡ name = cc in
    let names = c.as_slice-in-Some-Edge.ensures.value ∙ c.in_ok-names.ensures in
    let fault : first_code_fault c.in_ok-code.code ≡ Some (Edge edge) =
    cc (c.in_ok-first_fault.ensures, c.in-Some-Edge.is, c.in-Some-Edge.field-0-is) in
    subst (λ (n : ℕ). IsClash rows c.args.loops n) (sym (ap (λ (ns : List ℕ). name_of ns edge) names) ∙ (sym c.name_of.ensures ∙ told))
    (clash rows c.args.loops c.in_ok-code.code c.in_ok-code.ensures.code (omega arith) (sym c.unpaired.ensures ∙ c.in_default.is)
    c.in_ok-code.ensures.best edge fault)
