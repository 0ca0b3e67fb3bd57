-- The ways to members.
use Rattle.std.proofs.Common.{◌≡◌, ◌<◌, ◌≤◌, ◌++◌, ◌∙◌, [], ℕ, zero, suc, List, length, reverse, slice_get, Some, option_map, true, arith, sym, refl, ap, subst}
use Rattle.std.proofs.lemmas.List.{reverse-reverse}
use Rattle.std.proofs.lemmas.Option.{slice_get-map}
use Rattle.grid_core.specs.Diagram.{Diagram, IsGrid, size}
use Rattle.grid_moves.specs.declared.step.Move.{Move}
use Rattle.grid_moves.specs.Joining.{JoinsWithin}
use Rattle.grid_keys.specs.declared.key.Packed.{Packed}
use Rattle.grid_keys.specs.declared.least_form.LeastForm.{LeastForm}
use Rattle.grid_keys.specs.Shifts.{shift_moves}
use Rattle.grid_keys.specs.CanonicalForm.{IsLeastForm}
use Rattle.grid_keys.specs.Key.{IsKeyOf}
use Rattle.grid_keys.proofs.Keys.{key_once}
use Rattle.next_moves.specs.Offers.{Leads}
use Rattle.mono_simplify.specs.declared.class.MemberOrigin.{MemberOrigin}
use Rattle.mono_simplify.specs.ExchangeClass.{is_shift_or_exchange}
use Rattle.mono_simplify.specs.Ways.{Member, keys_in, AreLinked}
use Rattle.mono_simplify.proofs.Ways.{trails_end, parent_before}

-- the shifts to the form are the way to the first member
pub first_way : (d : Diagram) (members : List Member) (place : ℕ) (form : LeastForm) (none moves : List Move) (key : Packed) (member : Diagram)
    → IsGrid d
    → place ≡ 0
    → AreLinked d members
    → IsLeastForm d form
    → none ≡ []
    → moves ≡ none ++ shift_moves form.columns form.rows
    → slice_get (keys_in members) place ≡ Some key
    → IsKeyOf key member
    → size member ≡ size d
    → JoinsWithin (size d) d moves member
first_way d members place form none moves key member grid first ways least empty is stands names long =
    let shifts : List Move = shift_moves form.columns form.rows in
    let all : moves ≡ shifts = is ∙ ap (λ (ms : List Move). ms ++ shifts) empty in
    subst (λ (ms : List Move). JoinsWithin (size d) d ms member) (reverse-reverse shifts ∙ sym all)
    (trails_end d members place form [] (reverse shifts) member grid first ways least refl
    (record { key = key; member = member; stands = stands; names = names; same = long; joined = (omega (arith, long), refl) }))

pub later_parent : (d : Diagram) (members : List Member) (place : ℕ) (origin : MemberOrigin) (key : Packed)
    → 0 < place
    → place < length members
    → AreLinked d members
    → slice_get members place ≡ Some (key, origin)
    → origin.parent < length members
later_parent d members place origin key above below ways stands = omega (arith, parent_before d members place origin key above ways stands, below)

pub later_exchange : (d : Diagram) (members : List Member) (place : ℕ) (origin : MemberOrigin) (key : Packed)
    → 0 < place
    → AreLinked d members
    → slice_get members place ≡ Some (key, origin)
    → is_shift_or_exchange origin.link.step ≡ true
later_exchange d members zero origin key above ways stands = absurd (omega (arith, above))
later_exchange d members (suc place) origin key above ways stands = (ways.child place (key, origin) stands).exchanges

-- the way to a parent and the link from there are the way to another member
pub later_way : (d : Diagram) (members : List Member) (place : ℕ) (origin : MemberOrigin) (name key : Packed) (moves : List Move) (member : Diagram)
    → 0 < place
    → AreLinked d members
    → slice_get members place ≡ Some (name, origin)
    → slice_get (keys_in members) place ≡ Some key
    → IsKeyOf key member
    → ((k : Packed) (from to : Diagram)
    → slice_get (keys_in members) origin.parent ≡ Some k
    → IsKeyOf k from
    → size from ≡ size d
    → Leads from origin.link to
    → size to ≤ size d
    → JoinsWithin (size d) d moves to)
    → JoinsWithin (size d) d moves member
later_way d members zero origin name key moves member above ways stands there names joined = absurd (omega (arith, above))
later_way d members (suc place) origin name key moves member above ways stands there names joined =
    let linked = ways.child place (name, origin) stands in
    let one : name ≡ key = (let a : slice_get (keys_in members) (suc place) ≡ Some name = slice_get-map (λ (m : Member). m.0) members (suc place)
    ∙ ap (λ o. option_map (λ (m : Member). m.0) o) stands in
    let b = there in cc) in
    let same : linked.to ≡ member = key_once linked.to member linked.reached.grid names.grid (linked.reached.key ∙ one ∙ sym names.key) in
    subst (λ (e : Diagram). JoinsWithin (size d) d moves e) same
    (joined linked.parent linked.from linked.to linked.stands linked.known linked.same linked.leads (omega (arith, linked.small)))
