-- Lists of keys to which the keys of offers are put.
use Rattle.std.proofs.Common.{◌≡◌, ◌<◌, ◌+◌, ◌++◌, ◌∷◌, ◌∙◌, [], ℕ, zero, suc, List, Bool, true, false, cond, take, drop, length, get_or, append_assoc, arith}
use Rattle.std.proofs.Common.{sym, refl, ap, subst}
use Rattle.std.specs.List.{All, Contains}
use Rattle.std.proofs.lemmas.List.{append-nil, take_more, take-append-drop}
use Rattle.std.proofs.lemmas.List.Sums.{fold-append}
use Rattle.std.proofs.lemmas.List.Elements.{All-append, filter-append, Contains-append_left, Contains-push}
use Rattle.indexmap.proofs.CallerLemmas.{Contains-list_any}
use Rattle.grid_keys.specs.declared.key.Packed.{Packed}
use Rattle.grid_keys.specs.Key.{same_key}
use Rattle.grid_keys.proofs.Keys.{same_key_true}
use Rattle.next_moves.specs.declared.links.Offer.{Offer}
use Rattle.grid_moves.specs.Kinds.{is_exchange}
use Rattle.next_moves.specs.Offers.{exchanges_among}
use Rattle.next_moves.proofs.Members.{contains_first, contains_later}
use Rattle.mono_simplify.specs.Listing.{has_key, with_key, with_keys}

pub known_key : (keys : List Packed) (key : Packed) → has_key keys key ≡ true → with_key keys key ≡ keys
known_key keys key known = ap (λ (b : Bool). cond b keys (keys ++ key ∷ [])) known

pub new_key : (keys : List Packed) (key : Packed) → has_key keys key ≡ false → with_key keys key ≡ keys ++ key ∷ []
new_key keys key new = ap (λ (b : Bool). cond b keys (keys ++ key ∷ [])) new

-- a key that is put to a list is in it
with_key_has : (keys : List Packed) (key : Packed) → Contains (with_key keys key) key
with_key_has keys key = by (has_key keys key) refl
  where
    by : (b : Bool) → has_key keys key ≡ b → Contains (with_key keys key) key
    by true known = subst (λ (ks : List Packed). Contains ks key) (sym (known_key keys key known)) (Contains-list_any same_key same_key_true keys key known)
    by false new = subst (λ (ks : List Packed). Contains ks key) (sym (new_key keys key new)) (Contains-push keys key)

-- the new list is the old one, and then keys of these offers
pub record Grown (keys : List Packed) (offers : List Offer) (new : List Packed) : Type 0 where
  pub more : List Packed
  pub is : new ≡ keys ++ more
  pub from : All (λ (k : Packed). (o : Offer) × (Contains offers o × (o.key ≡ k))) more

none_from : (offers : List Offer) → All (λ (k : Packed). (o : Offer) × (Contains offers o × (o.key ≡ k))) []
none_from offers = λ k d lt. absurd (omega (arith, lt))

one_from : (offer : Offer) (offers : List Offer) → All (λ (k : Packed). (o : Offer) × (Contains (offer ∷ offers) o × (o.key ≡ k))) (offer.key ∷ [])
one_from offer offers = λ k d lt. at k d lt
  where
    at : (k : ℕ) (d : Packed) → k < 1 → (o : Offer) × (Contains (offer ∷ offers) o × (o.key ≡ get_or (offer.key ∷ []) k d))
    at zero d lt = (offer, (contains_first offer offers, refl))
    at (suc k) d lt = absurd (omega (arith, lt))

pub grown : (offers : List Offer) (keys : List Packed) → Grown keys offers (with_keys keys offers)
grown [] keys = record { more = []; is = sym (append-nil keys); from = none_from [] }
grown (offer ∷ offers) keys = by (has_key keys offer.key) refl (grown offers keys) (grown offers (keys ++ offer.key ∷ []))
  where
    later : (more : List Packed) → All (λ (k : Packed). (o : Offer) × (Contains offers o × (o.key ≡ k))) more
        → All (λ (k : Packed). (o : Offer) × (Contains (offer ∷ offers) o × (o.key ≡ k))) more
    later more all = λ k d lt. let found = all k d lt in (found.0, (contains_later offer offers found.0 found.1.0, found.1.1))

    by : (b : Bool) → has_key keys offer.key ≡ b → Grown keys offers (with_keys keys offers)
        → Grown (keys ++ offer.key ∷ []) offers (with_keys (keys ++ offer.key ∷ []) offers)
        → Grown keys (offer ∷ offers) (with_keys (with_key keys offer.key) offers)
    by true known rest pushed =
        subst (λ (ks : List Packed). Grown keys (offer ∷ offers) (with_keys ks offers)) (sym (known_key keys offer.key known))
        (record { more = rest.more; is = rest.is; from = later rest.more rest.from })
    by false new kept rest =
        subst (λ (ks : List Packed). Grown keys (offer ∷ offers) (with_keys ks offers)) (sym (new_key keys offer.key new)) (record {
          more = offer.key ∷ rest.more;
          is = rest.is ∙ append_assoc keys (offer.key ∷ []) rest.more;
          from = All-append (λ (k : Packed). (o : Offer) × (Contains (offer ∷ offers) o × (o.key ≡ k))) (offer.key ∷ []) rest.more (one_from offer offers)
              (later rest.more rest.from);
        })

-- the key of each offer is in it
grown_has_at : (offers : List Offer) (keys : List Packed) (o : Offer) (k : ℕ) → k < length offers → get_or offers k o ≡ o
    → Contains (with_keys keys offers) o.key
grown_has_at [] keys o k lt is = absurd (omega (arith, lt))
grown_has_at (offer ∷ offers) keys o zero lt is =
    let rest = grown offers (with_key keys offer.key) in
    let here : Contains (with_key keys offer.key) o.key = subst (λ (p : Offer). Contains (with_key keys offer.key) p.key) is (with_key_has keys offer.key) in
    subst (λ (ks : List Packed). Contains ks o.key) (sym rest.is) (Contains-append_left (with_key keys offer.key) rest.more o.key here)
grown_has_at (offer ∷ offers) keys o (suc k) lt is = grown_has_at offers (with_key keys offer.key) o k (omega (arith, lt)) is

pub grown_has : (offers : List Offer) (keys : List Packed) (o : Offer) → Contains offers o → Contains (with_keys keys offers) o.key
grown_has offers keys o c = grown_has_at offers keys o c.0 c.1 c.2

-- one offer more: it is passed over where it is no exchange
passed_more : (offers : List Offer) (i : ℕ) (d : Offer) (b : Bool) → i < length offers → is_exchange (get_or offers i d).link.step ≡ b
    → exchanges_among (take (i + 1) offers) ≡ exchanges_among (take i offers) ++ cond b (get_or offers i d ∷ []) []
passed_more offers i d b lt is =
    ap exchanges_among (take_more offers i d lt)
    ∙ filter-append (λ (o : Offer). is_exchange o.link.step) (take i offers) (get_or offers i d ∷ [])
    ∙ ap (λ (t : Bool). exchanges_among (take i offers) ++ cond t (get_or offers i d ∷ []) []) is

pub more_passed : (offers : List Offer) (keys now : List Packed) (i : ℕ) (d : Offer) → i < length offers
    → now ≡ with_keys keys (exchanges_among (take i offers)) → is_exchange (get_or offers i d).link.step ≡ false
    → now ≡ with_keys keys (exchanges_among (take (i + 1) offers))
more_passed offers keys now i d lt is other =
    is ∙ ap (λ (os : List Offer). with_keys keys os) (sym (passed_more offers i d false lt other ∙ append-nil (exchanges_among (take i offers))))

with_more : (offers : List Offer) (keys : List Packed) (i : ℕ) (d : Offer) → i < length offers → is_exchange (get_or offers i d).link.step ≡ true
    → with_keys keys (exchanges_among (take (i + 1) offers)) ≡ with_key (with_keys keys (exchanges_among (take i offers))) (get_or offers i d).key
with_more offers keys i d lt exchange =
    ap (λ (os : List Offer). with_keys keys os) (passed_more offers i d true lt exchange)
    ∙ fold-append (λ (known : List Packed) (offer : Offer). with_key known offer.key) keys (exchanges_among (take i offers)) (get_or offers i d ∷ [])

pub more_known : (offers : List Offer) (keys now : List Packed) (i : ℕ) (d : Offer) → i < length offers → now ≡ with_keys keys (exchanges_among (take i offers))
    → is_exchange (get_or offers i d).link.step ≡ true → has_key now (get_or offers i d).key ≡ true
    → now ≡ with_keys keys (exchanges_among (take (i + 1) offers))
more_known offers keys now i d lt is exchange known =
    sym (with_more offers keys i d lt exchange ∙ ap (λ (ks : List Packed). with_key ks (get_or offers i d).key) (sym is) ∙ known_key now
    (get_or offers i d).key known)

pub more_new : (offers : List Offer) (keys now : List Packed) (i : ℕ) (d : Offer) → i < length offers → now ≡ with_keys keys (exchanges_among (take i offers))
    → is_exchange (get_or offers i d).link.step ≡ true → has_key now (get_or offers i d).key ≡ false
    → now ++ (get_or offers i d).key ∷ [] ≡ with_keys keys (exchanges_among (take (i + 1) offers))
more_new offers keys now i d lt is exchange new =
    sym (with_more offers keys i d lt exchange ∙ ap (λ (ks : List Packed). with_key ks (get_or offers i d).key) (sym is) ∙ new_key now
    (get_or offers i d).key new)

-- what stands after some of the offers is the beginning of what stands after all
pub begun : (offers : List Offer) (keys : List Packed) (i : ℕ)
    → (more : List Packed) × (with_keys keys (exchanges_among offers) ≡ with_keys keys (exchanges_among (take i offers)) ++ more)
begun offers keys i =
    let front : List Offer = exchanges_among (take i offers) in
    let back : List Offer = exchanges_among (drop i offers) in
    let g = grown back (with_keys keys front) in (
      g.more,
      ap (λ (os : List Offer). with_keys keys (exchanges_among os)) (sym (take-append-drop i offers))
          ∙ ap (λ (os : List Offer). with_keys keys os) (filter-append (λ (o : Offer). is_exchange o.link.step) (take i offers) (drop i offers))
          ∙ fold-append (λ (known : List Packed) (offer : Offer). with_key known offer.key) keys front back
          ∙ g.is,
    )
