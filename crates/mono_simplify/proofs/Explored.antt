-- A listing up to a budget, turn by turn.
use Rattle.std.proofs.Common.{◌≡◌, ◌<◌, ◌≤◌, ◌+◌, ◌++◌, ◌∷◌, ◌∙◌, [], ℕ, suc, List, Bool, true, false, length, take, nat_lt, get_or, slice_get, Some}
use Rattle.std.proofs.Common.{append_assoc, arith, sym, refl, ap, subst}
use Rattle.std.specs.List.{All}
use Rattle.std.proofs.lemmas.Bool.{lt-ltb, ltb-false, le-ltb, ltb-true}
use Rattle.std.proofs.lemmas.List.{take_all, take_more, length-append, take-append-le}
use Rattle.std.proofs.lemmas.List.Elements.{All-push, All-take}
use Rattle.std.proofs.lemmas.Option.{slice_get_within, get_or_from_slice_get}
use Rattle.std.proofs.Math.Seq.{take-append_seam}
use Rattle.grid_core.specs.Diagram.{Diagram, IsGrid, size}
use Rattle.grid_keys.specs.declared.key.Packed.{Packed}
use Rattle.grid_keys.specs.CanonicalForm.{IsCanonicalForm}
use Rattle.grid_keys.specs.Key.{key_of, IsKeyOf}
use Rattle.next_moves.specs.declared.links.Offer.{Offer}
use Rattle.grid_moves.specs.Kinds.{is_exchange}
use Rattle.next_moves.specs.Offers.{IsOfferList, exchanges_among}
use Rattle.mono_simplify.specs.ExchangeClass.{IsIrreducible}
use Rattle.mono_simplify.specs.Listing.{has_key, with_keys, IsExchangeList, Grows, IsListed, IsListing, NoTranslateDestabilises, HasAtMost}
use Rattle.mono_simplify.specs.Listing.{HasMoreAndNoneSmaller}
use Rattle.mono_simplify.specs.Ways.{IsExplored}
use Rattle.mono_simplify.proofs.Keys.{begun, more_new}
use Rattle.mono_simplify.proofs.Listed.{IsMember, listed_members}
use Rattle.mono_simplify.proofs.Complete.{listing_irreducible}

-- as many as the budget, and one key more
pub cut_full : (offers : List Offer) (keys now : List Packed) (i b : ℕ) (d : Offer) → i < length offers → now ≡ with_keys keys (exchanges_among (take i offers))
    → is_exchange (get_or offers i d).link.step ≡ true → has_key now (get_or offers i d).key ≡ false → length now ≡ b
    → (now ≡ take b (with_keys keys (exchanges_among offers))) × (true ≡ nat_lt b (length (with_keys keys (exchanges_among offers))))
cut_full offers keys now i b d lt is exchange new long =
    let key : Packed = (get_or offers i d).key in
    let next = more_new offers keys now i d lt is exchange new in
    let rest = begun offers keys (i + 1) in
    let whole : with_keys keys (exchanges_among offers) ≡ now ++ (key ∷ rest.0) = rest.1 ∙ ap (λ (ks : List Packed). ks ++ rest.0) (sym next) ∙ append_assoc now
    (key ∷ []) rest.0 in (
      sym (ap (λ (ks : List Packed). take b ks) whole ∙ ap (λ (n : ℕ). take n (now ++ (key ∷ rest.0))) (sym long) ∙ take-append_seam now (key ∷ rest.0)),
      sym (lt-ltb b (length (with_keys keys (exchanges_among offers))) (omega (arith, long, ap length whole, length-append now (key ∷ rest.0)))),
    )

-- all of them, and no more than the budget
pub cut_all : (whole now : List Packed) (b : ℕ) → now ≡ whole → length now ≤ b → (now ≡ take b whole) × (false ≡ nat_lt b (length whole))
cut_all whole now b is few = (is ∙ sym (take_all b whole (omega (arith, few, ap length is))), sym (le-ltb b (length whole) (omega (arith, few, ap length is))))

-- one place more
stays_more : (keys : List Packed) (place : ℕ) (key : Packed) → slice_get keys place ≡ Some key → NoTranslateDestabilises key
    → All NoTranslateDestabilises (take place keys) → All NoTranslateDestabilises (take (place + 1) keys)
stays_more keys place key stands stays none =
    let below = slice_get_within keys place key stands in
    subst (λ (ks : List Packed). All NoTranslateDestabilises ks) (sym (take_more keys place key below))
    (All-push NoTranslateDestabilises (take place keys) (get_or keys place key) none
    (subst (λ (k : Packed). NoTranslateDestabilises k) (sym (get_or_from_slice_get keys place key key stands)) stays))

pub turned_over : (d : Diagram) (b place : ℕ) (keys : List Packed) (key : Packed) → IsExplored d b place keys true → slice_get keys place ≡ Some key
    → NoTranslateDestabilises key → IsExplored d b (place + 1) keys true
turned_over d b place keys key is stands stays = record {
  turns = is.turns;
  whole = is.whole;
  listed = is.listed;
  cut = is.cut;
  over = is.over;
  turn = λ no. absurd (let h : true ≡ false = no in cc);
  none = stays_more keys place key stands stays is.none;
}

pub turned : (d : Diagram) (b place : ℕ) (keys new : List Packed) (key : Packed) (member : Diagram) (offers : List Offer) (full : Bool)
    → IsExplored d b place keys false → slice_get keys place ≡ Some key → IsKeyOf key member → IsExchangeList member offers → NoTranslateDestabilises key
    → new ≡ take b (with_keys keys offers) → full ≡ nat_lt b (length (with_keys keys offers)) → ((more : List Packed) × (new ≡ keys ++ more))
    → IsExplored d b (place + 1) new full
turned d b place keys new key member offers full is stands names list stays cut over longer =
    let few : length is.whole ≤ b = ltb-false b (length is.whole) (sym is.over) in
    let all : keys ≡ is.whole = is.cut ∙ take_all b is.whole few in
    let count : is.turns ≡ place = is.turn refl in
    let turn : Grows keys place (with_keys keys offers) = record {
      key = key;
      stands = stands;
      member = member;
      names = names;
      offers = offers;
      exchanges = list;
      more = refl;
    } in
    let listed : IsListed d place keys = subst (λ (n : ℕ). IsListed d n keys) count
    (subst (λ (ks : List Packed). IsListed d is.turns ks) (sym all) is.listed) in
    let same : take (place + 1) new ≡ take (place + 1) keys =
    ap (λ (ks : List Packed). take (place + 1) ks) longer.1 ∙ take-append-le (place + 1) keys longer.0
    (omega (arith, slice_get_within keys place key stands)) in
    record {
      turns = suc place;
      whole = with_keys keys offers;
      listed = (keys, (listed, turn));
      cut = cut;
      over = over;
      turn = λ h. omega arith;
      none = subst (λ (ks : List Packed). All NoTranslateDestabilises ks) (sym same) (stays_more keys place key stands stays is.none);
    }

pub explored_start : (d f : Diagram) (b : ℕ) (keys : List Packed) → 1 ≤ b → IsCanonicalForm d f → keys ≡ key_of f ∷ [] → IsExplored d b 0 keys false
explored_start d f b keys least form is =
    let cut = cut_all keys keys b refl (omega (arith, least, ap length is)) in
    record {
      turns = 0;
      whole = keys;
      listed = (f, (form, is));
      cut = cut.0;
      over = cut.1;
      turn = λ h. refl;
      none = λ k e lt. absurd (omega (arith, lt));
    }

-- each key is that of a member
pub explored_members : (d : Diagram) (b place : ℕ) (keys : List Packed) (full : Bool) → IsGrid d → IsExplored d b place keys full → All (IsMember d) keys
explored_members d b place keys full grid is =
    subst (λ (ks : List Packed). All (IsMember d) ks) (sym is.cut) (All-take (IsMember d) b is.whole (listed_members d is.turns is.whole grid is.listed))

-- all had their turn
pub explored_whole : (d : Diagram) (b place : ℕ) (keys : List Packed) → IsGrid d → IsExplored d b place keys false → length keys ≤ place → place ≤ length keys
    → length keys ≤ b → HasAtMost d b × IsIrreducible d
explored_whole d b place keys grid is least most few =
    let short : length is.whole ≤ b = ltb-false b (length is.whole) (sym is.over) in
    let all : keys ≡ is.whole = is.cut ∙ take_all b is.whole short in
    let count : is.turns ≡ length keys = omega (arith, is.turn refl, least, most) in
    let listing : IsListing d keys = subst (λ (n : ℕ). IsListed d n keys) count (subst (λ (ks : List Packed). IsListed d is.turns ks) (sym all) is.listed) in
    let none : All NoTranslateDestabilises keys = subst (λ (ks : List Packed). All NoTranslateDestabilises ks) (take_all place keys least) is.none in
    (record { keys = keys; listing = listing; few = few }, listing_irreducible d keys grid listing none)

pub explored_more : (d : Diagram) (b place : ℕ) (keys : List Packed) → IsExplored d b place keys true → length keys ≤ place → HasMoreAndNoneSmaller d b
explored_more d b place keys is least = record {
  turns = is.turns;
  keys = is.whole;
  listed = is.listed;
  more = ltb-true b (length is.whole) (sym is.over);
  none = subst (λ (ks : List Packed). All NoTranslateDestabilises ks) (take_all place keys least ∙ is.cut) is.none;
}

pub member_at : (d : Diagram) (b place p : ℕ) (keys : List Packed) (key : Packed) (full : Bool) → IsGrid d → IsExplored d b place keys full
    → slice_get keys p ≡ Some key → IsMember d key
member_at d b place p keys key full grid is stands =
    subst (λ (k : Packed). IsMember d k) (get_or_from_slice_get keys p key key stands)
    (explored_members d b place keys full grid is p key (slice_get_within keys p key stands))

-- the offers that were asked for are those of the member
pub asked : (d m asking : Diagram) (cap : ℕ) (offers seen : List Offer) → IsOfferList asking cap offers → asking ≡ m → cap ≡ size d → size m ≡ size d
    → seen ≡ offers → IsOfferList m (size m) seen
asked d m asking cap offers seen list same room long is =
    let limit : cap ≡ size m = room ∙ sym long in
    subst (λ (os : List Offer). IsOfferList m (size m) os) (sym is)
    (subst (λ (n : ℕ). IsOfferList m n offers) limit (subst (λ (e : Diagram). IsOfferList e cap offers) same list))
