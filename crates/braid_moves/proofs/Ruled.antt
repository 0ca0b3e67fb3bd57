-- What an accepted list of steps tells.
use Rattle.std.proofs.Common.{◌≡◌, ◌∙◌, ◌+◌, ◌==◌, ℕ, ℤ, List, [], ◌∷◌, Bool, true, false, cond, Option, Some, None, length, ap, ap₂, refl}
use Rattle.std.specs.Ordering.{int_eq}
use Rattle.std.specs.Cmp.Lexicographic.{pointwise}
use Rattle.std.proofs.lemmas.Bool.{and_parts, eqb-true}
use Rattle.std.proofs.lemmas.Bool.Decides.{Decides-int_eq}
use Rattle.std.proofs.lemmas.Slice.Eq.{slice_eq-Decides}
use Rattle.quandle_core.specs.Quandle.{Table, IsQuandle}
use Rattle.braid_core.specs.Braid.{Word, IsBraid}
use Rattle.braid_core.specs.FixedPoints.{fixed_points}
use Rattle.braid_moves.specs.declared.step.BraidMove.{BraidMove}
use Rattle.braid_moves.specs.declared.step.BraidMoveFault.{BraidMoveFault}
use Rattle.braid_moves.specs.declared.ruling.BraidRuling.{BraidRuling}
use Rattle.braid_moves.specs.declared.ruling.BraidRuling.TheVariants.{Accepted, Step, OtherEnd}
use Rattle.braid_moves.specs.Step.{moved}
use Rattle.braid_moves.specs.Fault.{first_step_fault}
use Rattle.braid_moves.specs.Carried.{carried_tuple}
use Rattle.braid_moves.specs.Ruling.{are_same_words, by_fault, ruled, ruling}
use Rattle.braid_moves.proofs.Steps.{step_braid, step_carries}
use Rattle.braid_moves.proofs.Listings.{equally_many}

abbrev word : ℕ → List ℤ → Word
word m letters = record { strands = m; letters = letters }

pub same_from : (v w : Word) → are_same_words v w ≡ true → v ≡ w
same_from v w e =
    let parts = and_parts (v.strands == w.strands) (pointwise int_eq v.letters w.letters) e in
    ap₂ word (eqb-true v.strands w.strands parts.0) ((slice_eq-Decides Decides-int_eq v.letters w.letters
    (pointwise int_eq v.letters w.letters) refl).0 parts.1)

accepted_end : (b : Bool) → cond b Accepted OtherEnd ≡ Accepted → b ≡ true
accepted_end true e = refl
accepted_end false e = absurd (let never : ◌≡◌ {A = BraidRuling} OtherEnd Accepted = e in cc)

record Legal (o : Option BraidMoveFault) (rest : BraidRuling) : Type 0 where
  none : o ≡ None
  after : rest ≡ Accepted

legal_from : (o : Option BraidMoveFault) (place : ℕ) (rest : BraidRuling) → by_fault o place rest ≡ Accepted → Legal o rest
legal_from (Some fault) place rest e = absurd (let never : ◌≡◌ {A = BraidRuling} (Step place fault) Accepted = e in cc)
legal_from None place rest e = record { none = refl; after = e }

ruled_equal : (t : Table) → IsQuandle t → (v w : Word) → IsBraid v → (place : ℕ) (steps : List BraidMove) → ruled v w place steps ≡ Accepted
    → length (fixed_points t v) ≡ length (fixed_points t w)
ruled_equal t q v w braid place [] e = ap (λ (u : Word). length (fixed_points t u)) (same_from v w (accepted_end (are_same_words v w) e))
ruled_equal t q v w braid place (step ∷ steps) e =
    let legal = legal_from (first_step_fault v step) place (ruled (moved v step) w (place + 1) steps) e in
    equally_many t v (moved v step) (carried_tuple t v step) (step_carries t q v braid step legal.none)
    ∙ ruled_equal t q (moved v step) w (step_braid v braid step legal.none) (place + 1) steps legal.after

pub accepted_equal : (t : Table) → IsQuandle t → (v w : Word) → IsBraid v → (steps : List BraidMove) → ruling v w steps ≡ Accepted
    → length (fixed_points t v) ≡ length (fixed_points t w)
accepted_equal t q v w braid steps e = ruled_equal t q v w braid 0 steps e
