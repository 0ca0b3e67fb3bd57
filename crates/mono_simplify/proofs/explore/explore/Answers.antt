use Rattle.std.proofs.Common.{◌≡◌, ◌∙◌, ◌+◌, ◌∷◌, [], List, Bool, length, ap, sym, subst, arith}
use Rattle.std.proofs.lemmas.List.{length-map, length-append}
use Rattle.std.specs.List.{All}
use Rattle.grid_core.specs.Diagram.{Diagram, size}
use Rattle.grid_moves.specs.Joining.{JoinsWithin}
use Rattle.grid_keys.specs.declared.key.Packed.{Packed}
use Rattle.grid_keys.specs.CanonicalForm.{IsCanonical}
use Rattle.grid_keys.specs.Key.{key_of}
use Rattle.next_moves.specs.declared.links.Offer.{Offer}
use Rattle.next_moves.specs.Offers.{exchanges_among}
use Rattle.next_moves.proofs.Exchanges.{exchanges_offered}
use Rattle.mono_simplify.specs.Ways.{Member, keys_in, IsExplored}
use Rattle.mono_simplify.proofs.Moved.{Keeps, smaller_by_one, stays_large}
use Rattle.mono_simplify.proofs.Explored.{explored_start, explored_whole, explored_more, member_at, asked}
use Rattle.mono_simplify.proofs.Monotonic.{monotonic_destabilisation}
use Rattle.mono_simplify.proofs.Ways.{ways_start, ways_more, destabilised}
use Rattle.mono_simplify.proofs.explore.explore.Goals as goal

pub loop-place-init : goal.loop-place-init
loop-place-init c =
    let root = c.canonical_key-root.ensures in
    let is : c.in_ok-class.class ≡ (c.canonical_key-root.result.key, c.in_ok-class.ensures.0) ∷ [] = c.in_ok-class.ensures.1 in
    let named : c.in_ok-class.class ≡ (key_of root.form, c.in_ok-class.ensures.0) ∷ [] = is ∙ ap (λ (k : Packed). (k, c.in_ok-class.ensures.0) ∷ [])
    (sym root.key) in (
      omega arith,
      omega (arith, ap length is, c.requires),
      explored_start c.args.grid.now root.form c.args.budget (keys_in c.in_ok-class.class) c.requires root.least.canonical (ap keys_in named),
      ways_start c.args.grid.now root.form c.in_ok-class.ensures.0 c.in_ok-class.class root.least.canonical named,
    )

pub named_by-form-requires : goal.named_by-form-requires
named_by-form-requires c =
    let m = member_at c.args.grid.now c.args.budget c.loop-place.place c.loop-place.place
    (keys_in c.loop-place.class) c.key_at.result c.loop-place.over c.size-size.ensures.grid c.loop-place.invariant.2 c.key_at.ensures in
    (m.form, m.names)

pub renew-requires-clause-canonical : goal.renew-requires-clause-canonical
renew-requires-clause-canonical c =
    let m = member_at c.args.grid.now c.args.budget c.loop-place.place c.loop-place.place
    (keys_in c.loop-place.class) c.key_at.result c.loop-place.over c.size-size.ensures.grid c.loop-place.invariant.2 c.key_at.ensures in
    subst (λ (e : Diagram). IsCanonical e) (sym (c.named_by-form.ensures.grid m.form m.names)) m.own

pub renew-requires-clause-least : goal.renew-requires-clause-least
renew-requires-clause-least c =
    let m = member_at c.args.grid.now c.args.budget c.loop-place.place c.loop-place.place
    (keys_in c.loop-place.class) c.key_at.result c.loop-place.over c.size-size.ensures.grid c.loop-place.invariant.2 c.key_at.ensures in
    omega (arith, ap size (c.named_by-form.ensures.grid m.form m.names), m.long, c.size-size.ensures.size)

pub grid_of-requires : goal.grid_of-requires
grid_of-requires c =
    let d : Diagram = c.args.grid.now in
    let m = member_at d c.args.budget c.loop-place.place c.loop-place.place
    (keys_in c.loop-place.class) c.key_at.result c.loop-place.over c.size-size.ensures.grid c.loop-place.invariant.2 c.key_at.ensures in
    let list = asked d m.form c.named_by-form.result.grid c.size-size.result c.renew.new.self.offers c.offers.result.now c.renew.ensures.offers
    (c.named_by-form.ensures.grid m.form m.names) c.size-size.ensures.size m.long c.offers.ensures.offers in
    let led = smaller_by_one m.form c.offers.result.now c.in-Some.offer m.names.grid list c.in-Some.ensures.some.0 c.in-Some.ensures.some.1 in
    (led.0, led.1.0)

pub returns-in-Some : goal.returns-in-Some
returns-in-Some c =
    let d : Diagram = c.args.grid.now in
    let m = member_at d c.args.budget c.loop-place.place c.loop-place.place
    (keys_in c.loop-place.class) c.key_at.result c.loop-place.over c.size-size.ensures.grid c.loop-place.invariant.2 c.key_at.ensures in
    let list = asked d m.form c.named_by-form.result.grid c.size-size.result c.renew.new.self.offers c.offers.result.now c.renew.ensures.offers
    (c.named_by-form.ensures.grid m.form m.names) c.size-size.ensures.size m.long c.offers.ensures.offers in
    let led = smaller_by_one m.form c.offers.result.now c.in-Some.offer m.names.grid list c.in-Some.ensures.some.0 c.in-Some.ensures.some.1 in
    let is : c.grid_of.result ≡ led.0 = c.grid_of.ensures led.0 led.1.0 in
    let smaller : size led.0 + 1 ≡ size m.form = led.1.2 in (
      subst (λ (e : Diagram). JoinsWithin (size d) d c.in_ok-moves.moves.items e) (sym is)
          (c.in_ok-moves.ensures.joined c.key_at.result m.form led.0 c.key_at.ensures m.names m.long led.1.1 (omega (arith, smaller, m.long))),
      omega (arith, ap size is, smaller, m.long),
      destabilised c.in_ok-moves.moves.items c.in-Some.offer.link.step c.in-Some.ensures.some.1 c.in_ok-moves.ensures.last,
      c.in_ok-moves.ensures.kept (monotonic_destabilisation c.in-Some.offer.link.step c.in-Some.ensures.some.1),
    )

pub loop-place-preserved : goal.loop-place-preserved
loop-place-preserved c =
    let d : Diagram = c.args.grid.now in
    let key : Packed = c.key_at.result in
    let old : List Member = c.loop-place.class in
    let new : List Member = c.turn.new.class in
    let m = member_at d c.args.budget c.loop-place.place c.loop-place.place
    (keys_in old) key c.loop-place.over c.size-size.ensures.grid c.loop-place.invariant.2 c.key_at.ensures in
    let seen : List Offer = c.offers-in-loop-place.result.now in
    let list = asked d m.form c.named_by-form.result.grid c.size-size.result c.renew.new.self.offers seen c.renew.ensures.offers
    (c.named_by-form.ensures.grid m.form m.names) c.size-size.ensures.size m.long c.offers-in-loop-place.ensures.offers in
    let one : c.offers.result.now ≡ seen = c.offers.ensures.offers ∙ sym c.offers-in-loop-place.ensures.offers in
    let none : All Keeps seen = subst (λ (os : List Offer). All Keeps os) one c.in_default.ensures.none in
    let exchanges = exchanges_offered m.form (size m.form) (size m.form) seen list in
    let ways = c.in_ok-over.ensures.ways in (
      omega (arith, c.loop-place-test.true, c.len.ensures, ap length ways.is, length-append old ways.more),
      c.in_ok-over.ensures.few,
      c.in_ok-over.ensures.listed d key m.form c.loop-place.invariant.2 c.key_at.ensures m.names exchanges (stays_large key m.form seen m.names list none),
      ways_more d c.loop-place.place key m.form (exchanges_among seen) old new c.loop-place.invariant.3 ways c.key_at.ensures m.names m.long exchanges,
    )

pub returns-then-over : goal.returns-then-over
returns-then-over c =
    explored_more c.args.grid.now c.args.budget c.loop-place.place (keys_in c.loop-place.class)
    (subst (λ (b : Bool). IsExplored c.args.grid.now c.args.budget c.loop-place.place (keys_in c.loop-place.class) b) c.if-over.true c.loop-place.invariant.2)
    (omega (arith, c.loop-place-test.false, c.len.ensures, length-map c.loop-place.class (λ (m : Member). m.0)))

pub returns : goal.returns
returns c =
    explored_whole c.args.grid.now c.args.budget c.loop-place.place (keys_in c.loop-place.class) c.size-size.ensures.grid
    (subst (λ (b : Bool). IsExplored c.args.grid.now c.args.budget c.loop-place.place (keys_in c.loop-place.class) b) c.if-over.false c.loop-place.invariant.2)
    (omega (arith, c.loop-place-test.false, c.len.ensures, length-map c.loop-place.class (λ (m : Member). m.0)))
    (omega (arith, c.loop-place.invariant.0, length-map c.loop-place.class (λ (m : Member). m.0)))
    (omega (arith, c.loop-place.invariant.1, length-map c.loop-place.class (λ (m : Member). m.0)))
