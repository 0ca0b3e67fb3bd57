-- Braids between which steps are accepted have equally many fixed points, and their closures equally many colourings.
use Rattle.std.proofs.Common.{◌≡◌, ◌∙◌, List, length, sym}
use Rattle.quandle_core.specs.Quandle.{Table, IsQuandle}
use Rattle.quandle_core.specs.Bijection.{IsBijection}
use Rattle.quandle_core.proofs.Lengths.{equal_lengths}
use Rattle.colour_rows.specs.Colouring.{IsColouring}
use Rattle.colour_list.specs.Listing.{colourings}
use Rattle.colour_laws.proofs.Listings.{listing}
use Rattle.braid_core.specs.Braid.{Word, IsBraid}
use Rattle.braid_core.specs.FixedPoints.{fixed_points, IsFixedPoint}
use Rattle.braid_closure.specs.Closure.{closure, at_closure_feet}
use Rattle.braid_laws.proofs.Feet.{feet_fixed}
use Rattle.braid_laws.proofs.Colourings.{feet_onto, feet_one}
use Rattle.braid_moves.specs.declared.step.BraidMove.{BraidMove}
use Rattle.braid_moves.specs.declared.ruling.BraidRuling.TheVariants.{Accepted}
use Rattle.braid_moves.specs.Ruling.{ruling}
use Rattle.braid_moves.proofs.Listings.{fixed_listing}
use Rattle.braid_moves.proofs.Ruled.{accepted_equal}
use Rattle.plain_jobs.specs.EquallyMany.{HaveEquallyMany}

-- a closure has as many colourings as the braid's action has fixed points: they are read at the feet
as_many_at_the_feet : (t : Table) → IsQuandle t → (b : Word) → IsBraid b → length (colourings t (closure b)) ≡ length (fixed_points t b)
as_many_at_the_feet t q b braid =
    let feet : IsBijection (IsColouring t (closure b)) (IsFixedPoint t b) (at_closure_feet b) =
    record { into = feet_fixed t q b braid; onto = feet_onto t q b braid; one = feet_one t q b braid } in
    equal_lengths (IsColouring t (closure b)) (IsFixedPoint t b) (at_closure_feet b) feet (colourings t (closure b)) (fixed_points t b)
    (listing t (closure b)) (fixed_listing t b)

pub accepted_equally : (v w : Word) → IsBraid v → IsBraid w → (steps : List BraidMove) → ruling v w steps ≡ Accepted → HaveEquallyMany v w
accepted_equally v w first second steps accepted = record {
  points = λ t q. accepted_equal t q v w first steps accepted;
  colourings = λ t q.
      as_many_at_the_feet t q v first ∙ accepted_equal t q v w first steps accepted ∙ sym (as_many_at_the_feet t q w second);
}
