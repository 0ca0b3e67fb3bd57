-- A diagram has one listing, in which each key stands once.
use Rattle.std.proofs.Common.{◌≡◌, ◌≢◌, ◌<◌, ◌≤◌, ◌+◌, ◌-◌, ◌++◌, ◌∷◌, ◌∙◌, ◌⊎◌, [], ℕ, zero, suc, List, Bool, true, false, map, length, get_or, append_assoc}
use Rattle.std.proofs.Common.{arith, sym, refl, ap, subst, inl, inr}
use Rattle.std.specs.List.{All, AllPairs}
use Rattle.std.proofs.lemmas.Bool.{cases_lt}
use Rattle.std.proofs.lemmas.List.{append-nil, length-append}
use Rattle.std.proofs.lemmas.List.Elements.{All-head, All-tail}
use Rattle.std.proofs.lemmas.List.Folds.{list_any_at}
use Rattle.std.proofs.lemmas.List.Quantifiers.{all_pairs_push}
use Rattle.std.proofs.lemmas.Option.{slice_get_within}
use Rattle.grid_core.specs.Diagram.{Diagram}
use Rattle.grid_keys.specs.declared.key.Packed.{Packed}
use Rattle.grid_keys.specs.Key.{key_of, same_key}
use Rattle.grid_keys.proofs.Keys.{key_once, same_key_of}
use Rattle.grid_keys.proofs.CanonicalForms.{canonical_once}
use Rattle.next_moves.specs.declared.links.Offer.{Offer}
use Rattle.next_moves.specs.Offers.{IsOfferOf, try_of}
use Rattle.next_moves.proofs.Complete.{led_by}
use Rattle.mono_simplify.specs.Listing.{has_key, with_key, with_keys, IsExchangeList, Grows, IsListed, IsListing, HasAtMost}
use Rattle.mono_simplify.proofs.Keys.{known_key, new_key, grown}
use Rattle.mono_simplify.proofs.Listed.{listed_turn}

-- offers with the same tries put the same keys
same_keys : (d : Diagram) (keys : List Packed) (xs ys : List Offer) → All (IsOfferOf d) xs → All (IsOfferOf d) ys → map try_of xs ≡ map try_of ys
    → with_keys keys xs ≡ with_keys keys ys
same_keys d keys [] [] ax ay same = refl
same_keys d keys [] (y ∷ ys) ax ay same = absurd (let n : 0 ≡ suc (length (map try_of ys)) = ap length same in omega (arith, n))
same_keys d keys (x ∷ xs) [] ax ay same = absurd (let n : suc (length (map try_of xs)) ≡ 0 = ap length same in omega (arith, n))
same_keys d keys (x ∷ xs) (y ∷ ys) ax ay same =
    let head : try_of x ≡ try_of y = cc in
    let tail : map try_of xs ≡ map try_of ys = cc in
    let isx = All-head (IsOfferOf d) x xs ax in
    let isy = All-head (IsOfferOf d) y ys ay in
    let one : x.key ≡ y.key = sym isx.key ∙ led_by d y (try_of x) isx.leads.moved isx.form isy (sym head) isx.leads.step isx.leads.form.canonical in
    same_keys d (with_key keys x.key) xs ys (All-tail (IsOfferOf d) x xs ax) (All-tail (IsOfferOf d) y ys ay) tail
    ∙ ap (λ (k : Packed). with_keys (with_key keys k) ys) one

grown_once : (before one two : List Packed) (place : ℕ) → Grows before place one → Grows before place two → one ≡ two
grown_once before one two place first second =
    let keys : first.key ≡ second.key = (let a = first.stands in let b = second.stands in cc) in
    let same : first.member ≡ second.member = key_once first.member second.member first.names.grid second.names.grid
    (first.names.key ∙ keys ∙ sym second.names.key) in
    let list : IsExchangeList second.member first.offers = subst (λ (m : Diagram). IsExchangeList m first.offers) same first.exchanges in
    first.more ∙ same_keys second.member before first.offers second.offers list.leads second.exchanges.leads (list.order ∙ sym second.exchanges.order)
    ∙ sym second.more

pub listed_once : (d : Diagram) (n : ℕ) (one two : List Packed) → IsListed d n one → IsListed d n two → one ≡ two
listed_once d zero one two first second =
    first.1.1 ∙ ap (λ (f : Diagram). key_of f ∷ []) (canonical_once d first.0 second.0 first.1.0 second.1.0) ∙ sym second.1.1
listed_once d (suc n) one two first second =
    let same : first.0 ≡ second.0 = listed_once d n first.0 second.0 first.1.0 second.1.0 in
    grown_once second.0 one two n (subst (λ (ks : List Packed). Grows ks n one) same first.1.1) second.1.1

-- after more turns it begins with what it was
pub listed_longer : (d : Diagram) (k n : ℕ) (one two : List Packed) → IsListed d n one → IsListed d (k + n) two → (more : List Packed) × (two ≡ one ++ more)
listed_longer d zero n one two first second =
    let same : zero + n ≡ n = omega arith in
    let now : IsListed d n two = subst (λ (m : ℕ). IsListed d m two) same second in
    ([], listed_once d n two one now first ∙ sym (append-nil one))
listed_longer d (suc k) n one two first second =
    let same : suc k + n ≡ suc (k + n) = omega arith in
    let turned : IsListed d (suc (k + n)) two = subst (λ (m : ℕ). IsListed d m two) same second in
    let rest = listed_longer d k n one turned.0 first turned.1.0 in
    let g = grown turned.1.1.offers turned.0 in
    (rest.0 ++ g.more, turned.1.1.more ∙ g.is ∙ ap (λ (ks : List Packed). ks ++ g.more) rest.1 ∙ append_assoc one rest.0 g.more)

-- no turn comes after the last member's
pub no_turn_after : (d : Diagram) (keys more : List Packed) (n : ℕ) → IsListing d keys → IsListed d n more → n ≤ length keys
no_turn_after d keys more n listing listed = by (cases_lt (length keys) n)
  where
    by : ((length keys < n) ⊎ (n ≤ length keys)) → n ≤ length keys
    by (inr le) = le
    by (inl lt) =
        let turn = listed_turn d n (length keys) more lt listed in
        let same : turn.before ≡ keys = listed_once d (length keys) turn.before keys turn.listed listing in
        absurd (omega (arith, slice_get_within turn.before (length keys) turn.grows.key turn.grows.stands, ap length same))

pub listing_once : (d : Diagram) (one two : List Packed) → IsListing d one → IsListing d two → one ≡ two
listing_once d one two first second =
    let le = no_turn_after d one two (length two) first second in
    let ge = no_turn_after d two one (length one) second first in
    let long : length two ≡ length one = omega (arith, le, ge) in
    listed_once d (length one) one two first (subst (λ (n : ℕ). IsListed d n two) long second)

-- a listing with at most b members has after no number of turns more than b
pub not_both : (d : Diagram) (b n : ℕ) (keys : List Packed) → IsListed d n keys → b < length keys → HasAtMost d b → ⊥
not_both d b n keys listed more few =
    let le = no_turn_after d few.keys keys n few.listing listed in
    let turns : length few.keys ≡ length few.keys - n + n = omega (arith, le) in
    let rest = listed_longer d (length few.keys - n) n keys few.keys listed (subst (λ (m : ℕ). IsListed d m few.keys) turns few.listing) in
    omega (arith, few.few, more, ap length rest.1, length-append keys rest.0)

-- each key stands once
absent_differs : (keys : List Packed) (key : Packed) → has_key keys key ≡ false → (k : ℕ) (d : Packed) → k < length keys → get_or keys k d ≢ key
absent_differs keys key absent k d lt = λ same.
    let found : has_key keys key ≡ true = list_any_at (same_key key) keys k d lt (same_key_of key (get_or keys k d) (sym same)) in
    (let no : true ≡ false = sym found ∙ absent in cc)

with_key_differ : (keys : List Packed) (key : Packed) → AllPairs (λ p q. p ≢ q) keys → AllPairs (λ p q. p ≢ q) (with_key keys key)
with_key_differ keys key differ = by (has_key keys key) refl
  where
    by : (b : Bool) → has_key keys key ≡ b → AllPairs (λ p q. p ≢ q) (with_key keys key)
    by true known = subst (λ (ks : List Packed). AllPairs (λ p q. p ≢ q) ks) (sym (known_key keys key known)) differ
    by false new = subst (λ (ks : List Packed). AllPairs (λ p q. p ≢ q) ks) (sym (new_key keys key new))
        (all_pairs_push (λ p q. p ≢ q) keys key differ (absent_differs keys key new))

with_keys_differ : (offers : List Offer) (keys : List Packed) → AllPairs (λ p q. p ≢ q) keys → AllPairs (λ p q. p ≢ q) (with_keys keys offers)
with_keys_differ [] keys differ = differ
with_keys_differ (offer ∷ offers) keys differ = with_keys_differ offers (with_key keys offer.key) (with_key_differ keys offer.key differ)

one_differs : (key : Packed) → AllPairs (λ p q. p ≢ q) (key ∷ [])
one_differs key = all_pairs_push (λ p q. p ≢ q) [] key none (λ k d lt. absurd (omega (arith, lt)))
  where
    none : AllPairs (λ (p q : Packed). p ≢ q) []
    none = λ i j d lt below. absurd (omega (arith, below))

pub listed_differ : (d : Diagram) (n : ℕ) (keys : List Packed) → IsListed d n keys → AllPairs (λ p q. p ≢ q) keys
listed_differ d zero keys listed = subst (λ (ks : List Packed). AllPairs (λ p q. p ≢ q) ks) (sym listed.1.1) (one_differs (key_of listed.0))
listed_differ d (suc n) keys listed =
    subst (λ (ks : List Packed). AllPairs (λ p q. p ≢ q) ks) (sym listed.1.1.more)
    (with_keys_differ listed.1.1.offers listed.0 (listed_differ d n listed.0 listed.1.0))
