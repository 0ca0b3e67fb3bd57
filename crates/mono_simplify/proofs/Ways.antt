-- The ways to the members of a class.
use Rattle.std.proofs.Common.{◌≡◌, ◌≢◌, ◌<◌, ◌≤◌, ◌+◌, ◌-◌, take, false, true, ◌++◌, ◌∷◌, ◌∙◌, ◌⊎◌, [], ℕ, zero, suc, List, length, reverse, get_or, slice_get}
use Rattle.std.proofs.Common.{Some, append_assoc, arith, sym, refl, ap, subst, inl, inr}
use Rattle.std.specs.List.{All, Contains, list_any}
use Rattle.std.proofs.lemmas.List.{append-nil, length-append, length-map, map-append, reverse-append, reverse-reverse}
use Rattle.std.proofs.lemmas.List.Elements.{All-push, Contains-get_or, Contains-append_left, Contains-append_right, Contains-append_cases, Contains-push}
use Rattle.std.proofs.lemmas.List.Folds.{list_any_at}
use Rattle.grid_moves.specs.Kinds.{is_destabilisation, is_exchange}
use Rattle.std.proofs.lemmas.Option.{slice_get_within, get_or_from_slice_get}
use Rattle.grid_core.specs.Diagram.{Diagram, IsGrid, size}
use Rattle.grid_moves.specs.declared.step.Move.{Move}
use Rattle.grid_moves.specs.Joining.{JoinsWithin}
use Rattle.grid_moves.proofs.Within.{within_append}
use Rattle.grid_keys.specs.declared.key.Packed.{Packed}
use Rattle.grid_keys.specs.declared.least_form.LeastForm.{LeastForm}
use Rattle.grid_keys.specs.Shifts.{shift_moves}
use Rattle.grid_keys.specs.CanonicalForm.{IsCanonicalForm, IsLeastForm}
use Rattle.grid_keys.specs.Key.{key_of, IsKeyOf}
use Rattle.grid_keys.proofs.Keys.{key_once}
use Rattle.grid_keys.proofs.Joined.{shifts_joined_within}
use Rattle.grid_keys.proofs.CanonicalForms.{canonical_once, canonical_grid}
use Rattle.next_moves.specs.declared.links.Link.{Link}
use Rattle.next_moves.specs.declared.links.Offer.{Offer}
use Rattle.next_moves.specs.Offers.{Leads, exchanges_among}
use Rattle.next_moves.proofs.Members.{contains_filter}
use Rattle.next_moves.specs.Links.{link_moves}
use Rattle.next_moves.proofs.Linked.{link_joined_within}
use Rattle.mono_simplify.specs.declared.class.MemberOrigin.{MemberOrigin}
use Rattle.mono_simplify.specs.Listing.{IsExchangeList, has_key, with_keys}
use Rattle.mono_simplify.proofs.Keys.{more_new}
use Rattle.mono_simplify.specs.Ways.{Member, keys_in, IsExchangeLink, AreLinked, IsOffered, Admits}
use Rattle.mono_simplify.proofs.Moved.{exchange_led}

-- no offer yet, and one more
pub extends_none : (place : ℕ) (offers : List Offer) (members : List Member) → Admits place offers members members
extends_none place offers members = record { more = []; is = sym (append-nil members); offered = λ k d lt. absurd (omega (arith, lt)) }

pub extends_more : (place i : ℕ) (offers : List Offer) (d : Offer) (old now new : List Member) → i < length offers
    → is_exchange (get_or offers i d).link.step ≡ true → Admits place (exchanges_among offers) old now
    → new ≡ now ++ ((get_or offers i d).key, record { parent = place; link = (get_or offers i d).link }) ∷ [] → Admits place (exchanges_among offers) old new
extends_more place i offers d old now new lt exchange is pushed =
    let m : Member = ((get_or offers i d).key, record { parent = place; link = (get_or offers i d).link }) in
    let among = contains_filter (λ (o : Offer). is_exchange o.link.step) offers (get_or offers i d) (Contains-get_or offers i d lt) exchange in
    record {
      more = is.more ++ m ∷ [];
      is = pushed ∙ ap (λ (ms : List Member). ms ++ m ∷ []) is.is ∙ append_assoc old is.more (m ∷ []);
      offered = All-push (IsOffered place (exchanges_among offers)) is.more m is.offered (refl, among);
    }

-- what stands after some of the offers
abbrev pub IsAdmitted : ℕ → ℕ → List Offer → List Offer → List Member → List Member → Type 0
IsAdmitted place b offers front old now =
    (keys_in now ≡ with_keys (keys_in old) (exchanges_among front)) × (length now ≤ b) × Admits place (exchanges_among offers) old now

pub admitted : (offers : List Offer) (place b i n : ℕ) (d : Offer) (old now new : List Member) → i < length offers → n ≡ length now → n ≢ b
    → IsAdmitted place b offers (take i offers) old now → is_exchange (get_or offers i d).link.step ≡ true
    → has_key (keys_in now) (get_or offers i d).key ≡ false
    → new ≡ now ++ ((get_or offers i d).key, record { parent = place; link = (get_or offers i d).link }) ∷ []
    → IsAdmitted place b offers (take (i + 1) offers) old new
admitted offers place b i n d old now new lt is room known exchange absent pushed =
    let m : Member = ((get_or offers i d).key, record { parent = place; link = (get_or offers i d).link }) in (
      ap keys_in pushed ∙ map-append (λ (x : Member). x.0) now (m ∷ []) ∙ more_new offers (keys_in old) (keys_in now) i d lt known.0 exchange absent,
      omega (arith, ap length pushed, length-append now (m ∷ []), is, room, known.1),
      extends_more place i offers d old now new lt exchange known.2 pushed,
    )

pub extended_keys : (place : ℕ) (offers : List Offer) (old new : List Member) → Admits place offers old new
    → (more : List Packed) × (keys_in new ≡ keys_in old ++ more)
extended_keys place offers old new is = (keys_in is.more, ap keys_in is.is ∙ map-append (λ (m : Member). m.0) old is.more)

-- the first members stay where they are
stands_first : {A : Type 0} (xs ys : List A) (i : ℕ) (x : A) → slice_get xs i ≡ Some x → slice_get (xs ++ ys) i ≡ Some x
stands_first [] ys i x is = cc
stands_first (z ∷ xs) ys zero x is = is
stands_first (z ∷ xs) ys (suc i) x is = stands_first xs ys i x is

stands_cases : {A : Type 0} (xs ys : List A) (i : ℕ) (x : A) → slice_get (xs ++ ys) i ≡ Some x
    → (slice_get xs i ≡ Some x) ⊎ ((length xs ≤ i) × (slice_get ys (i - length xs) ≡ Some x))
stands_cases [] ys i x is = let same : i ≡ i - 0 = omega arith in inr (omega arith, subst (λ (n : ℕ). slice_get ys n ≡ Some x) same is)
stands_cases (z ∷ xs) ys zero x is = inl is
stands_cases (z ∷ xs) ys (suc i) x is =
    elim (stands_cases xs ys i x is) [
      | inl here ↦ inl here
      | inr later ↦
          let same : i - length xs ≡ suc i - suc (length xs) = omega arith in
          inr (omega (arith, later.0), subst (λ (n : ℕ). slice_get ys n ≡ Some x) same later.1)
    ]

-- a key and its member stand in one place
key_stands : (members : List Member) (i : ℕ) (m : Member) → slice_get members i ≡ Some m → slice_get (keys_in members) i ≡ Some m.0
key_stands [] i m is = cc
key_stands (x ∷ members) zero m is = let same : x ≡ m = cc in ap (λ (y : Member). Some y.0) same
key_stands (x ∷ members) (suc i) m is = key_stands members i m is

member_stands : (members : List Member) (i : ℕ) (key : Packed) → slice_get (keys_in members) i ≡ Some key
    → (m : Member) × ((slice_get members i ≡ Some m) × (m.0 ≡ key))
member_stands [] i key is = absurd cc
member_stands (x ∷ members) zero key is = let same : x.0 ≡ key = cc in (x, (refl, same))
member_stands (x ∷ members) (suc i) key is = member_stands members i key is

linked_later : (d : Diagram) (keys more : List Packed) (place : ℕ) (key : Packed) (origin : MemberOrigin) → IsExchangeLink d keys place key origin
    → IsExchangeLink d (keys ++ more) place key origin
linked_later d keys more place key origin is = record {
  lower = is.lower;
  parent = is.parent;
  stands = stands_first keys more origin.parent is.parent is.stands;
  from = is.from;
  to = is.to;
  known = is.known;
  reached = is.reached;
  same = is.same;
  small = is.small;
  leads = is.leads;
  exchanges = is.exchanges;
}

pub ways_start : (d f : Diagram) (origin : MemberOrigin) (members : List Member) → IsCanonicalForm d f → members ≡ (key_of f, origin) ∷ [] → AreLinked d members
ways_start d f origin members form is = subst (λ (ms : List Member). AreLinked d ms) (sym is) (record {
  root = λ m stands. let same : (key_of f, origin) ≡ m = cc in (f, (form, ap (λ (y : Member). y.0) same));
  child = λ place m stands. absurd (let past : slice_get ((key_of f, origin) ∷ [])
      (suc place) ≡ Some m = stands in let none : slice_get {X = Member} [] place ≡ Some m = past in cc);
})

pub ways_more : (d : Diagram) (place : ℕ) (key : Packed) (member : Diagram) (offers : List Offer) (old new : List Member) → AreLinked d old
    → Admits place offers old new → slice_get (keys_in old) place ≡ Some key → IsKeyOf key member → size member ≡ size d → IsExchangeList member offers
    → AreLinked d new
ways_more d place key member offers old new ways is stands names same list =
    let below : place < length old = omega (arith, slice_get_within (keys_in old) place key stands, length-map old (λ (m : Member). m.0)) in
    let keys : keys_in new ≡ keys_in old ++ keys_in is.more = ap keys_in is.is ∙ map-append (λ (m : Member). m.0) old is.more in
    record {
      root = λ m at.
          elim (stands_cases old is.more 0 m (subst (λ (ms : List Member). slice_get ms 0 ≡ Some m) is.is at)) [
            | inl here ↦ ways.root m here
            | inr later ↦ absurd (omega (arith, later.0, below))
          ];
      child = λ p m at.
          subst (λ (ks : List Packed). IsExchangeLink d ks (suc p) m.0 m.1) (sym keys)
          (elim (stands_cases old is.more (suc p) m (subst (λ (ms : List Member). slice_get ms (suc p) ≡ Some m) is.is at)) [
            | inl here ↦ linked_later d (keys_in old) (keys_in is.more) (suc p) m.0 m.1 (ways.child p m here)
            | inr later ↦ linked_new (suc p) m (omega (arith, later.0, below)) (All-at is.more (suc p - length old) m later.1 is.offered)
          ]);
    }
  where
    All-at : (ms : List Member) (i : ℕ) (m : Member) → slice_get ms i ≡ Some m → All (IsOffered place offers) ms → IsOffered place offers m
    All-at ms i m at all = subst (λ (y : Member). IsOffered place offers y) (get_or_from_slice_get ms i m m at) (all i m (slice_get_within ms i m at))

    linked_new : (p : ℕ) (m : Member) → place < p → IsOffered place offers m → IsExchangeLink d (keys_in old ++ keys_in is.more) p m.0 m.1
    linked_new p m lower offered =
        let led = exchange_led member offers (record { key = m.0; link = m.1.link }) names.grid list offered.1 in
        record {
          lower = omega (arith, lower, offered.0);
          parent = key;
          stands = stands_first (keys_in old) (keys_in is.more) m.1.parent key (subst (λ (n : ℕ). slice_get (keys_in old) n ≡ Some key) (sym offered.0) stands);
          from = member;
          to = led.0;
          known = names;
          reached = led.1.0;
          same = same;
          small = led.1.2 ∙ same;
          leads = led.1.1;
          exchanges = led.1.3.0;
        }

-- the moves from the member here to where the last link leads, written backwards
pub record Trails (d : Diagram) (members : List Member) (here : ℕ) (back : List Move) (to : Diagram) : Type 0 where
  pub key : Packed
  pub member : Diagram
  pub stands : slice_get (keys_in members) here ≡ Some key
  pub names : IsKeyOf key member
  pub same : size member ≡ size d
  pub joined : JoinsWithin (size d) member (reverse back) to

turned_back : (back after moves : List Move) → after ≡ back ++ reverse moves → reverse after ≡ moves ++ reverse back
turned_back back after moves is = ap reverse is ∙ reverse-append back (reverse moves) ∙ ap (λ (ms : List Move). ms ++ reverse back) (reverse-reverse moves)

pub trails_start : (d : Diagram) (members : List Member) (place : ℕ) (back after : List Move) (last : Link) (key : Packed) (member to : Diagram) → back ≡ []
    → after ≡ back ++ reverse (link_moves last) → slice_get (keys_in members) place ≡ Some key → IsKeyOf key member → size member ≡ size d
    → Leads member last to → size to ≤ size d → Trails d members place after to
trails_start d members place back after last key member to empty is stands names same leads small = record {
  key = key;
  member = member;
  stands = stands;
  names = names;
  same = same;
  joined = subst (λ (ms : List Move). JoinsWithin (size d) member ms to)
      (sym (turned_back back after (link_moves last) is ∙ ap (λ (ms : List Move). link_moves last ++ reverse ms) empty ∙ append-nil (link_moves last)))
      (link_joined_within member to last (size d) names.grid leads (omega (arith, same)) small);
}

pub trails_more : (d : Diagram) (members : List Member) (here : ℕ) (origin : MemberOrigin) (key : Packed) (back after : List Move) (to : Diagram) → 0 < here
    → AreLinked d members → slice_get members here ≡ Some (key, origin) → after ≡ back ++ reverse (link_moves origin.link) → Trails d members here back to
    → Trails d members origin.parent after to
trails_more d members zero origin key back after to lt ways stands is trails = absurd (omega (arith, lt))
trails_more d members (suc here) origin key back after to lt ways stands is trails =
    let linked = ways.child here (key, origin) stands in
    let one : trails.key ≡ key = (let a : slice_get (keys_in members) (suc here) ≡ Some key = key_stands members (suc here)
    (key, origin) stands in let b = trails.stands in cc) in
    let met : linked.to ≡ trails.member = key_once linked.to trails.member linked.reached.grid trails.names.grid
    (linked.reached.key ∙ sym one ∙ sym trails.names.key) in
    let first : JoinsWithin (size d) linked.from (link_moves origin.link) trails.member = subst
    (λ (e : Diagram). JoinsWithin (size d) linked.from (link_moves origin.link) e) met
    (link_joined_within linked.from linked.to origin.link (size d) linked.known.grid linked.leads (omega (arith, linked.same))
    (omega (arith, linked.small))) in
    record {
      key = linked.parent;
      member = linked.from;
      stands = linked.stands;
      names = linked.known;
      same = linked.same;
      joined = subst (λ (ms : List Move). JoinsWithin (size d) linked.from ms to) (sym (turned_back back after (link_moves origin.link) is))
          (within_append (size d) (link_moves origin.link) (reverse back) linked.from trails.member to first trails.joined);
    }

pub parent_before : (d : Diagram) (members : List Member) (here : ℕ) (origin : MemberOrigin) (key : Packed) → 0 < here → AreLinked d members
    → slice_get members here ≡ Some (key, origin) → origin.parent < here
parent_before d members zero origin key lt ways stands = absurd (omega (arith, lt))
parent_before d members (suc here) origin key lt ways stands = (ways.child here (key, origin) stands).lower

pub trails_end : (d : Diagram) (members : List Member) (here : ℕ) (form : LeastForm) (back after : List Move) (to : Diagram) → IsGrid d → here ≡ 0
    → AreLinked d members → IsLeastForm d form → after ≡ back ++ reverse (shift_moves form.columns form.rows) → Trails d members here back to
    → JoinsWithin (size d) d (reverse after) to
trails_end d members here form back after to grid first ways least is trails =
    let stands : slice_get (keys_in members) 0 ≡ Some trails.key = subst (λ (n : ℕ). slice_get (keys_in members) n ≡ Some trails.key) first trails.stands in
    let m = member_stands members 0 trails.key stands in
    let root = ways.root m.0 m.1.0 in
    let there : root.0 ≡ trails.member = key_once root.0 trails.member (canonical_grid d root.0 grid root.1.0) trails.names.grid
    (root.1.1 ∙ m.1.1 ∙ sym trails.names.key) in
    let end : form.grid ≡ trails.member = canonical_once d form.grid root.0 least.canonical root.1.0 ∙ there in
    let shifts : JoinsWithin (size d) d (shift_moves form.columns form.rows) trails.member = subst
    (λ (e : Diagram). JoinsWithin (size d) d (shift_moves form.columns form.rows) e) (least.reached ∙ end)
    (shifts_joined_within d form.columns form.rows grid least.columns least.rows) in
    subst (λ (ms : List Move). JoinsWithin (size d) d ms to) (sym (turned_back back after (shift_moves form.columns form.rows) is))
    (within_append (size d) (shift_moves form.columns form.rows) (reverse back) d trails.member to shifts trails.joined)

-- the last link's move is among them
pub still_has : (list more after : List Move) (step : Move) → after ≡ list ++ more → Contains list step → Contains after step
still_has list more after step is has = subst (λ (ms : List Move). Contains ms step) (sym is) (Contains-append_left list more step has)

pub reverse_has : (list : List Move) (step : Move) → Contains list step → Contains (reverse list) step
reverse_has [] step has = absurd (omega (arith, has.1))
reverse_has (move ∷ list) step has =
    subst (λ (ms : List Move). Contains ms step) (sym (reverse-append (move ∷ []) list))
    (elim (Contains-append_cases (move ∷ []) list step has) [
      | inl here ↦ Contains-append_right (reverse list) (move ∷ []) step here
      | inr later ↦ Contains-append_left (reverse list) (move ∷ []) step (reverse_has list step later)
    ])

pub link_has : (list after : List Move) (link : Link) → after ≡ list ++ reverse (link_moves link) → Contains after link.step
link_has list after link is =
    let front : List Move = shift_moves link.before.0 link.before.1 in
    let back : List Move = shift_moves link.after.0 link.after.1 in
    let inside : Contains (link_moves link) link.step = Contains-append_left (front ++ link.step ∷ []) back link.step (Contains-push front link.step) in
    subst (λ (ms : List Move). Contains ms link.step) (sym is)
    (Contains-append_right list (reverse (link_moves link)) link.step (reverse_has (link_moves link) link.step inside))

pub destabilised : (moves : List Move) (step : Move) → is_destabilisation step ≡ true → Contains moves step → list_any is_destabilisation moves ≡ true
destabilised moves step is has = list_any_at is_destabilisation moves has.0 step has.1 (ap is_destabilisation has.2 ∙ is)
