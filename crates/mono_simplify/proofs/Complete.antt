-- A whole listing has all of the class.
use Rattle.std.proofs.Common.{◌≡◌, ◌++◌, ◌∷◌, ◌∙◌, ◌↔◌, ◌||◌, [], ℕ, List, Bool, true, false, length, get_or, append_assoc, sym, refl, ap, subst}
use Rattle.std.specs.List.{All, Contains}
use Rattle.std.proofs.lemmas.List.Elements.{All-head, All-tail, All-contains, Contains-append_left}
use Rattle.std.proofs.lemmas.Option.{slice_get_within, get_or_from_slice_get}
use Rattle.std.proofs.Math.ListN.{get_or-append}
use Rattle.grid_core.specs.Diagram.{Diagram, IsGrid, size}
use Rattle.grid_moves.specs.declared.step.Move.{Move}
use Rattle.grid_moves.specs.declared.step.Move.TheVariants.{ShiftColumns, ShiftRows, ExchangeColumns, ExchangeRows, SlideColumns, SlideRows, Stabilise}
use Rattle.grid_moves.specs.declared.step.Move.TheVariants.{Destabilise}
use Rattle.grid_moves.specs.Step.{Step}
use Rattle.grid_moves.specs.Joining.{Joins}
use Rattle.grid_moves.proofs.Within.{joins_grid}
use Rattle.grid_keys.specs.declared.key.Packed.{Packed}
use Rattle.grid_keys.specs.Translation.{translates}
use Rattle.grid_keys.specs.CanonicalForm.{IsCanonicalForm, IsCanonical}
use Rattle.grid_keys.specs.Key.{key_of}
use Rattle.grid_keys.proofs.Keys.{key_once}
use Rattle.grid_keys.proofs.CanonicalForms.{translated_back, translated_size, canonical_exists, canonical_grid, canonical_once, canonical_of_translate}
use Rattle.grid_moves.specs.Kinds.{is_shift, is_exchange}
use Rattle.grid_moves.specs.SizeAfter.{size_after}
use Rattle.grid_laws.proofs.Sizes.{step_size}
use Rattle.next_moves.proofs.Closed.{shift_translates}
use Rattle.mono_simplify.specs.ExchangeClass.{is_shift_or_exchange, JoinedByExchanges, IsInClass, IsIrreducible}
use Rattle.mono_simplify.specs.Listing.{with_keys, IsListing, NoTranslateDestabilises}
use Rattle.mono_simplify.proofs.Moved.{exchange_offered}
use Rattle.mono_simplify.proofs.Keys.{grown, grown_has}
use Rattle.mono_simplify.proofs.Listed.{IsMember, joined_after, joined_translate, listed_members, listed_turn, listed_root}

size_kept : (move : Move) (n : ℕ) → is_shift_or_exchange move ≡ true → size_after move n ≡ n
size_kept (ShiftColumns k) n keeps = refl
size_kept (ShiftRows k) n keeps = refl
size_kept (ExchangeColumns c) n keeps = refl
size_kept (ExchangeRows r) n keeps = refl
size_kept (SlideColumns c) n keeps = absurd (let no : false ≡ true = keeps in cc)
size_kept (SlideRows r) n keeps = absurd (let no : false ≡ true = keeps in cc)
size_kept (Stabilise c kind corner) n keeps = absurd (let no : false ≡ true = keeps in cc)
size_kept (Destabilise c r) n keeps = absurd (let no : false ≡ true = keeps in cc)

module _ (root : Diagram) (keys : List Packed) (listing : IsListing root keys) where
  -- the form of a diagram is a member
  abbrev IsKnown : Diagram → Type 0
  IsKnown d = (f : Diagram) → IsCanonicalForm d f → Contains keys (key_of f)

  -- the exchanges of a member are members
  known_exchange : (r before after f : Diagram) (move : Move) → IsGrid r → Contains keys (key_of r) → Contains (translates r) before → is_shift move ≡ false
      → is_exchange move ≡ true → Step before move after → size after ≡ size r → IsCanonicalForm after f → Contains keys (key_of f)
  known_exchange r before after f move grid member translated turns exchange step same form =
      let turn = listed_turn root (length keys) member.0 keys member.1 listing in
      let g = turn.grows in
      let old = grown g.offers turn.before in
      let below = slice_get_within turn.before member.0 g.key g.stands in
      let d : Packed = key_of r in
      let at : get_or keys member.0 d ≡ g.key =
      ap (λ (ks : List Packed). get_or ks member.0 d)
      (turn.is ∙ ap (λ (ks : List Packed). ks ++ turn.later) (g.more ∙ old.is) ∙ append_assoc turn.before old.more turn.later)
      ∙ get_or-append turn.before (old.more ++ turn.later) d member.0 below
      ∙ get_or_from_slice_get turn.before member.0 g.key d g.stands in
      let here : g.member ≡ r = key_once g.member r g.names.grid grid (g.names.key ∙ sym at ∙ member.2) in
      let found = exchange_offered g.member g.offers before after f move g.names.grid g.exchanges
      (subst (λ (m : Diagram). Contains (translates m) before) (sym here) translated) turns exchange step (same ∙ sym (ap size here)) form in
      let inside : Contains turn.after (key_of f) = subst (λ (ks : List Packed). Contains ks (key_of f)) (sym g.more)
      (subst (λ (k : Packed). Contains (with_keys turn.before g.offers) k) (sym found.1.1) (grown_has g.offers turn.before found.0 found.1.0)) in
      subst (λ (ks : List Packed). Contains ks (key_of f)) (sym turn.is) (Contains-append_left turn.after turn.later (key_of f) inside)

  known_step : (d e : Diagram) (move : Move) (b : Bool) → is_shift move ≡ b → is_shift_or_exchange move ≡ true → IsGrid d → Step d move e → IsKnown d
      → IsKnown e
  known_step d e move true shifts keeps grid step known = λ f form.
      known f (canonical_of_translate e d f step.after (translated_back d e grid (shift_translates move d e shifts step)) form)
  known_step d e move false turns keeps grid step known = λ f form.
      let r = canonical_exists d grid in
      let long : size r.0 ≡ size d = translated_size d r.0 grid r.1.among in
      let same : size e ≡ size d = step_size move d e step ∙ size_kept move (size d) keeps in
      let exchange : is_exchange move ≡ true = sym (ap (λ (b : Bool). b || is_exchange move) turns) ∙ keeps in
      known_exchange r.0 d e f move (canonical_grid d r.0 grid r.1) (known r.0 r.1) (translated_back d r.0 grid r.1.among) turns exchange step
      (same ∙ sym long) form

  known_all : (moves : List Move) (d e : Diagram) → All (λ (move : Move). is_shift_or_exchange move ≡ true) moves → IsGrid d → Joins d moves e → IsKnown d
      → IsKnown e
  known_all [] d e keep grid joined known = subst (λ (g : Diagram). IsKnown g) joined known
  known_all (move ∷ moves) d e keep grid joined known =
      let next : Diagram = joined.0 in
      let step = joined.1.0 in
      known_all moves next e (All-tail (λ (m : Move). is_shift_or_exchange m ≡ true) move moves keep) step.after joined.1.1
      (known_step d next move (is_shift move) refl (All-head (λ (m : Move). is_shift_or_exchange m ≡ true) move moves keep) grid step known)

  root_known : IsKnown root
  root_known = λ f form.
      let first = listed_root root (length keys) keys listing in
      subst (λ (g : Diagram). Contains keys (key_of g)) (canonical_once root first.0 f first.1.0 form) first.1.1

  listed_all : (e f : Diagram) → IsGrid root → JoinedByExchanges root e → IsCanonicalForm e f → Contains keys (key_of f)
  listed_all e f grid joined form = known_all joined.0 root e joined.1.0 grid joined.1.1 root_known f form

-- the members of the whole listing are exactly those of the class
pub listing_is_class : (d : Diagram) (keys : List Packed) → IsGrid d → IsListing d keys → (f : Diagram) → IsInClass d f ↔ (IsGrid f × Contains keys (key_of f))
listing_is_class d keys grid listing f = (
  λ is. (
    canonical_grid is.reached f (joins_grid is.joined.0 d is.reached grid is.joined.1.1) is.form,
    listed_all d keys listing is.reached f grid is.joined is.form,
  ),
  λ both.
      let member = All-contains (IsMember d) keys (key_of f) (listed_members d (length keys) keys grid listing) both.1 in
      let same : member.form ≡ f = key_once member.form f member.names.grid both.0 member.names.key in
      record {
        reached = f;
        joined = subst (λ (g : Diagram). JoinedByExchanges d g) same member.joined;
        form = subst (λ (g : Diagram). IsCanonical g) same member.own;
      },
)

-- where no destabilisation is legal on any translate of a member, none is legal in the class
pub listing_irreducible : (d : Diagram) (keys : List Packed) → IsGrid d → IsListing d keys → All NoTranslateDestabilises keys → IsIrreducible d
listing_irreducible d keys grid listing none = λ e joined may.
    let here : IsGrid e = joins_grid joined.0 d e grid joined.1.1 in
    let r = canonical_exists e here in
    let member : Contains keys (key_of r.0) = listed_all d keys listing e r.0 grid joined r.1 in
    let stays : NoTranslateDestabilises (key_of r.0) = All-contains NoTranslateDestabilises keys (key_of r.0) none member in
    stays r.0 e (record { grid = canonical_grid e r.0 here r.1; key = refl }) (translated_back e r.0 here r.1.among) may

pub irreducible_listing : (d : Diagram) (keys : List Packed) → IsGrid d → IsListing d keys → IsIrreducible d ↔ All NoTranslateDestabilises keys
irreducible_listing d keys grid listing = (
  λ irreducible. λ k e lt. stays (get_or keys k e) (listed_members d (length keys) keys grid listing k e lt) irreducible,
  λ none. listing_irreducible d keys grid listing none,
)
  where
    stays : (key : Packed) → IsMember d key → IsIrreducible d → NoTranslateDestabilises key
    stays key member irreducible = λ f e names translated may.
        let same : member.form ≡ f = key_once member.form f member.names.grid names.grid (member.names.key ∙ sym names.key) in
        let there : JoinedByExchanges d f = subst (λ (g : Diagram). JoinedByExchanges d g) same member.joined in
        irreducible e (joined_after d f e there (joined_translate f e names.grid translated)) may
