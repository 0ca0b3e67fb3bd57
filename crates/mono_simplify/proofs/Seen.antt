-- A listing up to a budget, and the least diagram in it.
use Rattle.std.proofs.Common.{◌≡◌, ◌≤◌, ◌+◌, ◌∙◌, ℕ, suc, List, true, false, length, take, nat_lt, slice_get, Some, arith, sym, refl, ap, subst}
use Rattle.std.specs.List.{All, Contains}
use Rattle.std.specs.Ordering.{ordering_then, is_le}
use Rattle.std.proofs.lemmas.Bool.{ltb-false, ltb-true}
use Rattle.std.proofs.lemmas.List.{take_all}
use Rattle.std.proofs.lemmas.List.Elements.{All-contains, All-take}
use Rattle.grid_core.specs.Diagram.{Diagram, IsGrid, size}
use Rattle.grid_moves.proofs.Within.{joins_grid}
use Rattle.grid_keys.specs.declared.key.Packed.{Packed}
use Rattle.grid_keys.specs.Translation.{translates}
use Rattle.grid_keys.specs.Key.{key_of, compare_keys, IsKeyOf}
use Rattle.grid_keys.specs.Order.{compare, IsAtMost}
use Rattle.grid_keys.proofs.Keys.{key_once, key_order}
use Rattle.grid_keys.proofs.Ordered.{compare_total, nat_cmp_same}
use Rattle.grid_keys.proofs.CanonicalForms.{canonical_exists, translate_itself}
use Rattle.next_moves.specs.declared.links.Offer.{Offer}
use Rattle.mono_simplify.specs.ExchangeClass.{JoinedByExchanges}
use Rattle.mono_simplify.specs.Listing.{with_keys, IsExchangeList, Grows, IsListed, IsListing}
use Rattle.mono_simplify.proofs.Listed.{IsMember, listed_members}
use Rattle.mono_simplify.proofs.Complete.{listing_is_class}
use Rattle.mono_simplify.specs.declared.least.LeastEnd.{LeastEnd}
use Rattle.mono_simplify.specs.declared.least.LeastEnd.TheVariants.{Whole, Spent}
use Rattle.mono_simplify.specs.Least.{IsLeastReached, IsKeyAtMost, EndsAt}
use Rattle.mono_simplify.specs.Seen.{IsCut, IsSeen, IsLeastAt}
use Rattle.mono_simplify.proofs.KeyOrder.{up_to, stands_contains}

-- the turn of one member: its exchanges put their keys to the end, and there are no more than the budget, or there are
grows : (keys : List Packed) (place : ℕ) (key : Packed) (member : Diagram) (offers : List Offer)
    → slice_get keys place ≡ Some key
    → IsKeyOf key member
    → IsExchangeList member offers
    → Grows keys place (with_keys keys offers)
grows keys place key member offers stands names list = record {
  key = key;
  stands = stands;
  member = member;
  names = names;
  offers = offers;
  exchanges = list;
  more = refl;
}

pub turned_whole : (d : Diagram) (b place : ℕ) (keys new : List Packed) (key : Packed) (member : Diagram) (offers : List Offer)
    → IsListed d place keys
    → slice_get keys place ≡ Some key
    → IsKeyOf key member
    → IsExchangeList member offers
    → new ≡ take b (with_keys keys offers)
    → false ≡ nat_lt b (length (with_keys keys offers))
    → IsListed d (place + 1) new
turned_whole d b place keys new key member offers listed stands names list cut over =
    let few : length (with_keys keys offers) ≤ b = ltb-false b (length (with_keys keys offers)) (sym over) in
    let all : new ≡ with_keys keys offers = cut ∙ take_all b (with_keys keys offers) few in
    let count : suc place ≡ place + 1 = omega arith in
    let next : IsListed d (suc place) (with_keys keys offers) = (keys, (listed, grows keys place key member offers stands names list)) in
    subst (λ (n : ℕ). IsListed d n new) count (subst (λ (ks : List Packed). IsListed d (suc place) ks) (sym all) next)

pub turned_cut : (d : Diagram) (b place : ℕ) (keys new : List Packed) (key : Packed) (member : Diagram) (offers : List Offer)
    → IsListed d place keys
    → slice_get keys place ≡ Some key
    → IsKeyOf key member
    → IsExchangeList member offers
    → new ≡ take b (with_keys keys offers)
    → true ≡ nat_lt b (length (with_keys keys offers))
    → IsCut d b new
turned_cut d b place keys new key member offers listed stands names list cut over = record {
  turns = suc place;
  whole = with_keys keys offers;
  listed = (keys, (listed, grows keys place key member offers stands names list));
  more = ltb-true b (length (with_keys keys offers)) (sym over);
  cut = cut;
}

pub whole_few : (b : ℕ) (keys whole : List Packed) → keys ≡ take b whole → false ≡ nat_lt b (length whole) → length keys ≤ b
whole_few b keys whole cut over =
    let few : length whole ≤ b = ltb-false b (length whole) (sym over) in
    omega (arith, few, ap length (cut ∙ take_all b whole few))

-- the member at a place of a listing
pub listed_member : (d : Diagram) (n place : ℕ) (keys : List Packed) (key : Packed)
    → IsGrid d
    → IsListed d n keys
    → slice_get keys place ≡ Some key
    → IsMember d key
listed_member d n place keys key grid listed stands =
    All-contains (IsMember d) keys key (listed_members d n keys grid listed) (stands_contains keys place key stands)

-- each key that was listed is that of a member
pub seen_members : (d : Diagram) (b : ℕ) (keys : List Packed) (end : LeastEnd) → IsGrid d → IsSeen d b keys end → All (IsMember d) keys
seen_members d b keys Whole grid seen = listed_members d (length keys) keys grid seen.0
seen_members d b keys (Spent members) grid seen =
    let is = seen.1 in
    subst (λ (ks : List Packed). All (IsMember d) ks) (sym is.cut) (All-take (IsMember d) b is.whole (listed_members d is.turns is.whole grid is.listed))

-- the member at a place of a list of members
pub member_there : (d : Diagram) (keys : List Packed) (place : ℕ) (key : Packed) → All (IsMember d) keys → slice_get keys place ≡ Some key → IsMember d key
member_there d keys place key members stands = All-contains (IsMember d) keys key members (stands_contains keys place key stands)

-- of two grids of one size with keys in order the first comes first
keys_then_diagrams : (e g : Diagram) → IsGrid e → IsGrid g → size e ≡ size g → IsKeyAtMost (key_of e) (key_of g) → IsAtMost e g
keys_then_diagrams e g eg gg same le =
    let order : compare_keys (key_of e) (key_of g) ≡ compare e g = key_order e g eg gg
    ∙ ap (λ o. ordering_then o (compare e g)) (nat_cmp_same (size e) (size g) same) in
    sym (ap is_le order) ∙ le

-- the least of a whole listing is the least that shifts and exchanges reach
pub whole_least : (d e : Diagram) (keys : List Packed)
    → IsGrid d
    → IsListing d keys
    → IsGrid e
    → Contains keys (key_of e)
    → All (IsKeyAtMost (key_of e)) keys
    → IsLeastReached d e
whole_least d e keys grid listing here among least =
    let members = listed_members d (length keys) keys grid listing in
    let m = All-contains (IsMember d) keys (key_of e) members among in
    let same : m.form ≡ e = key_once m.form e m.names.grid here m.names.key in
    record {
      reached = subst (λ (g : Diagram). JoinedByExchanges d g) same m.joined;
      least = λ f joined. below f joined (sym (ap size same) ∙ m.long);
    }
  where
    below : (f : Diagram) → JoinedByExchanges d f → size e ≡ size d → IsAtMost e f
    below f joined long =
        let there : IsGrid f = joins_grid joined.0 d f grid joined.1.1 in
        let g = canonical_exists f there in
        let inside = (listing_is_class d keys grid listing g.0).0 (record { reached = f; joined = joined; form = g.1 }) in
        let n = All-contains (IsMember d) keys (key_of g.0) (listed_members d (length keys) keys grid listing) inside.1 in
        let other : n.form ≡ g.0 = key_once n.form g.0 n.names.grid inside.0 n.names.key in
        let equal : size e ≡ size g.0 = long ∙ sym n.long ∙ ap size other in
        let first : IsAtMost e g.0 = keys_then_diagrams e g.0 here inside.0 equal
        (All-contains (IsKeyAtMost (key_of e)) keys (key_of g.0) least inside.1) in
        let last : IsAtMost g.0 f = All-contains (λ (t : Diagram). IsAtMost g.0 t) (translates f) f g.1.least (translate_itself f there) in
        up_to compare e g.0 f compare_total first last

-- the end of the search, where the least key that was listed is that of e
pub found_end : (d e : Diagram) (b place : ℕ) (keys : List Packed) (key : Packed) (end : LeastEnd)
    → IsGrid d
    → IsSeen d b keys end
    → IsLeastAt keys keys place
    → slice_get keys place ≡ Some key
    → IsKeyOf key e
    → EndsAt d b e end
found_end d e b place keys key end grid seen at stands names =
    let one : at.key ≡ key = (let a = at.stands in let b = stands in cc) in
    let is : at.key ≡ key_of e = one ∙ sym names.key in
    let among : Contains keys (key_of e) = subst (λ (k : Packed). Contains keys k) is (stands_contains keys place at.key at.stands) in
    let least : All (IsKeyAtMost (key_of e)) keys = subst (λ (k : Packed). All (IsKeyAtMost k) keys) is at.least in
    by end seen among least
  where
    by : (end : LeastEnd) → IsSeen d b keys end → Contains keys (key_of e) → All (IsKeyAtMost (key_of e)) keys → EndsAt d b e end
    by Whole seen among least =
        (record { keys = keys; listing = seen.0; few = seen.1 }, whole_least d e keys grid seen.0 names.grid among least)
    by (Spent members) seen among least =
        let is = seen.1 in (
          seen.0,
          record {
            turns = is.turns;
            keys = is.whole;
            listed = is.listed;
            more = is.more;
            among = subst (λ (ks : List Packed). Contains ks (key_of e)) is.cut among;
            least = subst (λ (ks : List Packed). All (IsKeyAtMost (key_of e)) ks) is.cut least;
          },
        )
