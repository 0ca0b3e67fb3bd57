-- The members of a listing are those of the class.
use Rattle.std.proofs.Common.{◌≡◌, ◌<◌, ◌++◌, ◌∷◌, ◌∙◌, [], ℕ, zero, suc, List, true, length, get_or, append_assoc, arith, sym, refl, ap, subst, inl, inr}
use Rattle.std.specs.List.{All, Contains}
use Rattle.std.proofs.lemmas.Bool.{cases_eq}
use Rattle.std.proofs.lemmas.List.{append-nil}
use Rattle.std.proofs.lemmas.List.Elements.{All-append, Contains-append_left}
use Rattle.std.proofs.lemmas.Option.{slice_get_within, get_or_from_slice_get}
use Rattle.grid_core.specs.Diagram.{Diagram, IsGrid, size}
use Rattle.grid_moves.specs.declared.step.Move.{Move}
use Rattle.grid_moves.specs.declared.step.Move.TheVariants.{ShiftColumns, ShiftRows}
use Rattle.grid_moves.specs.Joining.{Joins}
use Rattle.grid_moves.proofs.Joined.{joins_append}
use Rattle.grid_keys.specs.declared.key.Packed.{Packed}
use Rattle.grid_keys.specs.Shifts.{needed_column_shift, needed_row_shift, shift_moves}
use Rattle.grid_keys.specs.Translation.{translates}
use Rattle.grid_keys.specs.CanonicalForm.{IsCanonicalForm, IsCanonical}
use Rattle.grid_keys.specs.Key.{key_of, IsKeyOf}
use Rattle.grid_keys.proofs.Keys.{key_once}
use Rattle.grid_keys.proofs.Joined.{shifts_joined}
use Rattle.grid_keys.proofs.LeastTranslates.{shifts_of}
use Rattle.grid_keys.proofs.CanonicalForms.{translated_size, canonical_grid, canonical_own}
use Rattle.next_moves.specs.declared.links.Link.{Link}
use Rattle.next_moves.specs.declared.links.Offer.{Offer}
use Rattle.next_moves.specs.Offers.{Leads}
use Rattle.next_moves.specs.Links.{link_moves}
use Rattle.next_moves.proofs.Linked.{link_joined}
use Rattle.mono_simplify.specs.ExchangeClass.{is_shift_or_exchange, JoinedByExchanges}
use Rattle.mono_simplify.specs.Listing.{IsExchangeList, Grows, IsListed}
use Rattle.mono_simplify.proofs.Moved.{exchange_led}
use Rattle.mono_simplify.proofs.Keys.{grown}

abbrev Kept : List Move → Type 0
Kept moves = All (λ (move : Move). is_shift_or_exchange move ≡ true) moves

none_kept : Kept []
none_kept = λ k d lt. absurd (omega (arith, lt))

one_kept : (move : Move) → is_shift_or_exchange move ≡ true → Kept (move ∷ [])
one_kept move keeps = λ k d lt. at k d lt
  where
    at : (k : ℕ) (d : Move) → k < 1 → is_shift_or_exchange (get_or (move ∷ []) k d) ≡ true
    at zero d lt = keeps
    at (suc k) d lt = absurd (omega (arith, lt))

column_kept : (a : ℕ) → Kept (needed_column_shift a)
column_kept zero = none_kept
column_kept (suc a) = one_kept (ShiftColumns (suc a)) refl

row_kept : (b : ℕ) → Kept (needed_row_shift b)
row_kept zero = none_kept
row_kept (suc b) = one_kept (ShiftRows (suc b)) refl

shifts_kept : (a b : ℕ) → Kept (shift_moves a b)
shifts_kept a b = All-append (λ (move : Move). is_shift_or_exchange move ≡ true) (needed_column_shift a) (needed_row_shift b) (column_kept a) (row_kept b)

link_kept : (link : Link) → is_shift_or_exchange link.step ≡ true → Kept (link_moves link)
link_kept link keeps =
    All-append (λ (move : Move). is_shift_or_exchange move ≡ true) (shift_moves link.before.0 link.before.1 ++ link.step ∷ [])
    (shift_moves link.after.0 link.after.1)
    (All-append (λ (move : Move). is_shift_or_exchange move ≡ true) (shift_moves link.before.0 link.before.1) (link.step ∷ [])
    (shifts_kept link.before.0 link.before.1) (one_kept link.step keeps))
    (shifts_kept link.after.0 link.after.1)

pub joined_after : (d e f : Diagram) → JoinedByExchanges d e → JoinedByExchanges e f → JoinedByExchanges d f
joined_after d e f one two = (
  one.0 ++ two.0,
  (
    All-append (λ (move : Move). is_shift_or_exchange move ≡ true) one.0 two.0 one.1.0 two.1.0,
    joins_append one.0 two.0 d e f one.1.1 two.1.1,
  ),
)

pub joined_translate : (d e : Diagram) → IsGrid d → Contains (translates d) e → JoinedByExchanges d e
joined_translate d e grid c =
    let s = shifts_of d e c in
    (shift_moves s.0 s.1, (shifts_kept s.0 s.1, subst (λ (t : Diagram). Joins d (shift_moves s.0 s.1) t) s.4 (shifts_joined d s.0 s.1 grid s.2 s.3)))

-- the key of a canonical grid that shifts and exchanges reach
pub record IsMember (d : Diagram) (name : Packed) : Type 0 where
  pub form : Diagram
  pub names : IsKeyOf name form
  pub own : IsCanonical form
  pub long : size form ≡ size d
  pub joined : JoinedByExchanges d form

pub root_member : (d f : Diagram) → IsGrid d → IsCanonicalForm d f → IsMember d (key_of f)
root_member d f grid form = record {
  form = f;
  names = record { grid = canonical_grid d f grid form; key = refl };
  own = canonical_own d f grid form;
  long = translated_size d f grid form.among;
  joined = joined_translate d f grid form.among;
}

one_member : (d : Diagram) (key : Packed) → IsMember d key → All (IsMember d) (key ∷ [])
one_member d key member = λ k e lt. at k e lt
  where
    at : (k : ℕ) (e : Packed) → k < 1 → IsMember d (get_or (key ∷ []) k e)
    at zero e lt = member
    at (suc k) e lt = absurd (omega (arith, lt))

-- a key that an exchange of a member offers
next_member : (d : Diagram) (name : Packed) (member : Diagram) (offers : List Offer) (offer : Offer) → IsGrid d → IsMember d name → IsKeyOf name member
    → IsExchangeList member offers → Contains offers offer → IsMember d offer.key
next_member d name member offers offer grid is names list among =
    let led = exchange_led member offers offer names.grid list among in
    let f : Diagram = led.0 in
    let same : is.form ≡ member = key_once is.form member is.names.grid names.grid (is.names.key ∙ sym names.key) in
    let there : JoinedByExchanges d member = subst (λ (m : Diagram). JoinedByExchanges d m) same is.joined in
    let leads : Leads member offer.link f = led.1.1 in
    record {
      form = f;
      names = led.1.0;
      own = canonical_own leads.moved f leads.step.after leads.form.canonical;
      long = led.1.2 ∙ sym (ap size same) ∙ is.long;
      joined = joined_after d member f there (link_moves offer.link, (link_kept offer.link led.1.3.0, link_joined member f offer.link names.grid leads));
    }

pub listed_members : (d : Diagram) (n : ℕ) (keys : List Packed) → IsGrid d → IsListed d n keys → All (IsMember d) keys
listed_members d zero keys grid listed =
    subst (λ (ks : List Packed). All (IsMember d) ks) (sym listed.1.1) (one_member d (key_of listed.0) (root_member d listed.0 grid listed.1.0))
listed_members d (suc n) keys grid listed =
    let before : List Packed = listed.0 in
    let old = listed_members d n before grid listed.1.0 in
    let turn = listed.1.1 in
    let g = grown turn.offers before in
    let place_below = slice_get_within before n turn.key turn.stands in
    let here : IsMember d turn.key = subst (λ (k : Packed). IsMember d k) (get_or_from_slice_get before n turn.key turn.key turn.stands)
    (old n turn.key place_below) in
    let more : All (IsMember d) g.more = λ k e lt.
    let found = g.from k e lt in
    subst (λ (key : Packed). IsMember d key) found.1.1 (next_member d turn.key turn.member turn.offers found.0 grid here turn.names turn.exchanges found.1.0) in
    subst (λ (ks : List Packed). All (IsMember d) ks) (sym (turn.more ∙ g.is)) (All-append (IsMember d) before g.more old more)

-- each of the first members had its turn
pub record Turned (d : Diagram) (keys : List Packed) (place : ℕ) : Type 0 where
  pub before : List Packed
  pub listed : IsListed d place before
  pub after : List Packed
  pub later : List Packed
  pub grows : Grows before place after
  pub is : keys ≡ after ++ later

pub listed_turn : (d : Diagram) (n place : ℕ) (keys : List Packed) → place < n → IsListed d n keys → Turned d keys place
listed_turn d zero place keys lt listed = absurd (omega (arith, lt))
listed_turn d (suc n) place keys lt listed =
    elim (cases_eq place n) [
      | inl last ↦ record {
        before = listed.0;
        listed = subst (λ (p : ℕ). IsListed d p listed.0) (sym last) listed.1.0;
        after = keys;
        later = [];
        grows = subst (λ (p : ℕ). Grows listed.0 p keys) (sym last) listed.1.1;
        is = sym (append-nil keys);
      }
      | inr other ↦
          let turn = listed_turn d n place listed.0 (omega (arith, lt, other)) listed.1.0 in
          let g = grown listed.1.1.offers listed.0 in record {
            before = turn.before;
            listed = turn.listed;
            after = turn.after;
            later = turn.later ++ g.more;
            grows = turn.grows;
            is = listed.1.1.more ∙ g.is ∙ ap (λ (ks : List Packed). ks ++ g.more) turn.is ∙ append_assoc turn.after turn.later g.more;
          }
    ]

-- the listing begins with the form
pub listed_root : (d : Diagram) (n : ℕ) (keys : List Packed) → IsListed d n keys → (f : Diagram) × (IsCanonicalForm d f × Contains keys (key_of f))
listed_root d zero keys listed = (
  listed.0,
  (
    listed.1.0,
    (
      0,
      subst (λ (ks : List Packed). 0 < length ks) (sym listed.1.1) (omega arith),
      subst
          (λ (ks : List Packed). get_or ks 0 (key_of listed.0) ≡ key_of listed.0) (sym listed.1.1) refl,
    ),
  ),
)
listed_root d (suc n) keys listed =
    let root = listed_root d n listed.0 listed.1.0 in
    let g = grown listed.1.1.offers listed.0 in (
      root.0,
      (
        root.1.0,
        subst (λ (ks : List Packed). Contains ks (key_of root.0)) (sym (listed.1.1.more ∙ g.is))
            (Contains-append_left listed.0 g.more (key_of root.0) root.1.1),
      ),
    )
