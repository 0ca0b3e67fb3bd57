use Rattle.std.proofs.Common.{◌≡◌, ◌∙◌, ◌∷◌, [], ℕ, List, true, false, length, nat_lt, ap, sym, refl, subst, arith}
use Rattle.std.proofs.lemmas.List.{length-map, length-append}
use Rattle.grid_core.specs.Diagram.{Diagram, size}
use Rattle.grid_keys.specs.declared.key.Packed.{Packed}
use Rattle.grid_keys.specs.CanonicalForm.{IsCanonical}
use Rattle.grid_keys.specs.Key.{key_of}
use Rattle.next_moves.specs.declared.links.Offer.{Offer}
use Rattle.next_moves.specs.Offers.{exchanges_among}
use Rattle.next_moves.proofs.Exchanges.{exchanges_offered}
use Rattle.mono_simplify.specs.Listing.{with_keys, IsListed}
use Rattle.mono_simplify.specs.Ways.{Member, keys_in}
use Rattle.mono_simplify.proofs.Explored.{asked}
use Rattle.mono_simplify.proofs.Ways.{ways_start, ways_more}
use Rattle.mono_simplify.proofs.Seen.{listed_member, turned_whole, turned_cut, whole_few}
use Rattle.mono_simplify.proofs.listing.list_class.Goals as goal

pub loop-place-init : goal.loop-place-init
loop-place-init c =
    let root = c.canonical_key-root.ensures in
    let is : c.in_ok-class.class ≡ (c.canonical_key-root.result.key, c.in_ok-class.ensures.0) ∷ [] = c.in_ok-class.ensures.1 in
    let named : c.in_ok-class.class ≡ (key_of root.form, c.in_ok-class.ensures.0) ∷ [] = is ∙ ap (λ (k : Packed). (k, c.in_ok-class.ensures.0) ∷ [])
    (sym root.key) in (
      omega arith,
      omega (arith, ap length is, c.requires),
      omega (arith, ap length is),
      (root.form, (root.least.canonical, ap keys_in named)),
      ways_start c.args.grid.now root.form c.in_ok-class.ensures.0 c.in_ok-class.class root.least.canonical named,
    )

pub named_by-form-requires : goal.named_by-form-requires
named_by-form-requires c =
    let m = listed_member c.args.grid.now c.loop-place.place c.loop-place.place
    (keys_in c.loop-place.class) c.key_at.result c.size-size.ensures.grid c.loop-place.invariant.3 c.key_at.ensures in
    (m.form, m.names)

pub renew-requires-clause-canonical : goal.renew-requires-clause-canonical
renew-requires-clause-canonical c =
    let m = listed_member c.args.grid.now c.loop-place.place c.loop-place.place
    (keys_in c.loop-place.class) c.key_at.result c.size-size.ensures.grid c.loop-place.invariant.3 c.key_at.ensures in
    subst (λ (e : Diagram). IsCanonical e) (sym (c.named_by-form.ensures.grid m.form m.names)) m.own

pub renew-requires-clause-least : goal.renew-requires-clause-least
renew-requires-clause-least c =
    let m = listed_member c.args.grid.now c.loop-place.place c.loop-place.place
    (keys_in c.loop-place.class) c.key_at.result c.size-size.ensures.grid c.loop-place.invariant.3 c.key_at.ensures in
    omega (arith, ap size (c.named_by-form.ensures.grid m.form m.names), m.long, c.size-size.ensures.size)

pub loop-place-preserved : goal.loop-place-preserved
loop-place-preserved c =
    let d : Diagram = c.args.grid.now in
    let key : Packed = c.key_at.result in
    let old : List Member = c.loop-place.class in
    let new : List Member = c.admit_all.new.class in
    let m = listed_member d c.loop-place.place c.loop-place.place (keys_in old) key c.size-size.ensures.grid c.loop-place.invariant.3 c.key_at.ensures in
    let seen : List Offer = c.offers.result.now in
    let list = asked d m.form c.named_by-form.result.grid c.size-size.result c.renew.new.self.offers seen c.renew.ensures.offers
    (c.named_by-form.ensures.grid m.form m.names) c.size-size.ensures.size m.long c.offers.ensures.offers in
    let exchanges = exchanges_offered m.form (size m.form) (size m.form) seen list in
    let ways = c.in_ok-over.ensures.ways in
    let over : false ≡ nat_lt c.args.budget (length (with_keys (keys_in old) (exchanges_among seen))) = sym c.if-over.false ∙ c.in_ok-over.ensures.over in
    let more = length-append old ways.more in (
      omega (arith, c.loop-place-test.true, c.len.ensures, ap length ways.is, more),
      omega (
        arith,
        length-map new (λ (x : Member). x.0),
        whole_few c.args.budget (keys_in new) (with_keys (keys_in old) (exchanges_among seen)) c.in_ok-over.ensures.keys over,
      ),
      omega (arith, c.loop-place.invariant.2, ap length ways.is, more),
      turned_whole d c.args.budget c.loop-place.place (keys_in old) (keys_in new) key m.form (exchanges_among seen) c.loop-place.invariant.3
          c.key_at.ensures m.names exchanges c.in_ok-over.ensures.keys over,
      ways_more d c.loop-place.place key m.form (exchanges_among seen) old new c.loop-place.invariant.4 ways c.key_at.ensures m.names m.long exchanges,
    )

pub returns-then-over : goal.returns-then-over
returns-then-over c =
    let d : Diagram = c.args.grid.now in
    let key : Packed = c.key_at.result in
    let old : List Member = c.loop-place.class in
    let new : List Member = c.admit_all.new.class in
    let m = listed_member d c.loop-place.place c.loop-place.place (keys_in old) key c.size-size.ensures.grid c.loop-place.invariant.3 c.key_at.ensures in
    let seen : List Offer = c.offers.result.now in
    let list = asked d m.form c.named_by-form.result.grid c.size-size.result c.renew.new.self.offers seen c.renew.ensures.offers
    (c.named_by-form.ensures.grid m.form m.names) c.size-size.ensures.size m.long c.offers.ensures.offers in
    let exchanges = exchanges_offered m.form (size m.form) (size m.form) seen list in
    let ways = c.in_ok-over.ensures.ways in
    let over : true ≡ nat_lt c.args.budget (length (with_keys (keys_in old) (exchanges_among seen))) = sym c.if-over.true ∙ c.in_ok-over.ensures.over in
    record {
      some = omega (arith, c.loop-place.invariant.2, ap length ways.is, length-append old ways.more);
      ways = ways_more d c.loop-place.place key m.form (exchanges_among seen) old new c.loop-place.invariant.4 ways c.key_at.ensures m.names m.long exchanges;
      seen = (
        refl,
        turned_cut d c.args.budget c.loop-place.place (keys_in old) (keys_in new) key m.form (exchanges_among seen)
            c.loop-place.invariant.3 c.key_at.ensures m.names exchanges c.in_ok-over.ensures.keys over,
      );
    }

pub returns : goal.returns
returns c =
    let keys : List Packed = keys_in c.loop-place.class in
    let long : length keys ≡ length c.loop-place.class = length-map c.loop-place.class (λ (x : Member). x.0) in
    let count : c.loop-place.place ≡ length keys = omega (arith, c.loop-place-test.false, c.len.ensures, c.loop-place.invariant.0, long) in
    record {
      some = c.loop-place.invariant.2;
      ways = c.loop-place.invariant.4;
      seen = (subst (λ (n : ℕ). IsListed c.args.grid.now n keys) count c.loop-place.invariant.3, omega (arith, c.loop-place.invariant.1, long));
    }
