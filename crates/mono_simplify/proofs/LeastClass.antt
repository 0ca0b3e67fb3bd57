-- The least diagram of a class, and the number of its members.
use Rattle.std.proofs.Common.{◌≡◌, ◌≢◌, ◌<◌, ◌≤◌, ◌+◌, ◌∷◌, ◌∙◌, ◌↔◌, ◌||◌, [], ℕ, zero, suc, List, true, false, length, map, take, get_or, arith, sym, refl}
use Rattle.std.proofs.Common.{ap, ap₂, subst}
use Rattle.std.specs.List.{All, AllPairs, Contains}
use Rattle.std.proofs.lemmas.List.{length-map, get_or-map, length-take-le, get_or-take}
use Rattle.std.proofs.lemmas.List.Elements.{All-nil, All-cons, All-head, All-tail, All-contains, All-take, Contains-get_or}
use Rattle.grid_core.specs.Diagram.{Diagram, IsGrid, size}
use Rattle.grid_moves.specs.declared.step.Move.{Move}
use Rattle.grid_moves.specs.declared.step.Move.TheVariants.{ShiftColumns, ShiftRows, ExchangeColumns, ExchangeRows, SlideColumns, SlideRows, Stabilise}
use Rattle.grid_moves.specs.declared.step.Move.TheVariants.{Destabilise}
use Rattle.grid_moves.specs.Joining.{Joins}
use Rattle.grid_moves.specs.Inverse.{inverse_of}
use Rattle.grid_moves.proofs.Undone.{step_undone}
use Rattle.grid_moves.proofs.Within.{joins_grid}
use Rattle.grid_keys.specs.declared.key.Packed.{Packed}
use Rattle.grid_keys.specs.Translation.{translates}
use Rattle.grid_keys.specs.CanonicalForm.{IsCanonical}
use Rattle.grid_keys.specs.Key.{key_of}
use Rattle.grid_keys.specs.Order.{IsAtMost}
use Rattle.grid_keys.proofs.Keys.{key_once}
use Rattle.grid_keys.proofs.Ordered.{at_most_both}
use Rattle.grid_keys.proofs.CanonicalForms.{translate_itself}
use Rattle.grid_keys.proofs.LeastTranslates.{map_contains}
use Rattle.next_moves.specs.Reach.{AreMembers, HasMembers, HasMoreMembers}
use Rattle.next_moves.proofs.Members.{mapped_from}
use Rattle.mono_simplify.specs.ExchangeClass.{is_shift_or_exchange, AreShiftsAndExchanges, JoinedByExchanges, IsInClass}
use Rattle.mono_simplify.specs.Listing.{IsListed, HasAtMost}
use Rattle.mono_simplify.proofs.Listed.{IsMember, joined_after, joined_translate, listed_members}
use Rattle.mono_simplify.proofs.Complete.{listing_is_class}
use Rattle.mono_simplify.proofs.Once.{listed_differ, not_both}
use Rattle.mono_simplify.specs.Least.{IsLeastReached, IsLeastOfFirst}

-- what shifts and exchanges reach, they lead back from
back_of : (d : Diagram) (move : Move) → is_shift_or_exchange move ≡ true → is_shift_or_exchange (inverse_of d move) ≡ true
back_of d (ShiftColumns k) is = refl
back_of d (ShiftRows k) is = refl
back_of d (ExchangeColumns c) is = refl
back_of d (ExchangeRows r) is = refl
back_of d (SlideColumns c) is = absurd (let no : false ≡ true = is in cc)
back_of d (SlideRows r) is = absurd (let no : false ≡ true = is in cc)
back_of d (Stabilise c kind corner) is = absurd (let no : false ≡ true = is in cc)
back_of d (Destabilise c r) is = absurd (let no : false ≡ true = is in cc)

one_kept : (move : Move) → is_shift_or_exchange move ≡ true → AreShiftsAndExchanges (move ∷ [])
one_kept move is = All-cons (λ (m : Move). is_shift_or_exchange m ≡ true) move [] is (All-nil (λ (m : Move). is_shift_or_exchange m ≡ true))

joined_back_by : (moves : List Move) (d e : Diagram) → AreShiftsAndExchanges moves → Joins d moves e → JoinedByExchanges e d
joined_back_by [] d e kept joined = ([], (All-nil (λ (m : Move). is_shift_or_exchange m ≡ true), sym joined))
joined_back_by (move ∷ moves) d e kept joined =
    let next : Diagram = joined.0 in
    let first = All-head (λ (m : Move). is_shift_or_exchange m ≡ true) move moves kept in
    let rest = joined_back_by moves next e (All-tail (λ (m : Move). is_shift_or_exchange m ≡ true) move moves kept) joined.1.1 in
    let back : Move = inverse_of d move in
    let last : JoinedByExchanges next d = (back ∷ [], (one_kept back (back_of d move first), (d, (step_undone d move next joined.1.0, refl)))) in
    joined_after e next d rest last

joined_back : (d e : Diagram) → JoinedByExchanges d e → JoinedByExchanges e d
joined_back d e joined = joined_back_by joined.0 d e joined.1.0 joined.1.1

pub least_once : (a b d e : Diagram) → JoinedByExchanges a b → IsLeastReached a d → IsLeastReached b e → d ≡ e
least_once a b d e joined first second =
    at_most_both d e (first.least e (joined_after a b e joined second.reached))
    (second.least d (joined_after b a d (joined_back a b joined) first.reached))

pub least_joins : (a b d : Diagram) → IsLeastReached a d → IsLeastReached b d → JoinedByExchanges a b
least_joins a b d first second = joined_after a d b first.reached (joined_back b d second.reached)

pub least_canonical : (d e : Diagram) → IsGrid d → IsLeastReached d e → IsCanonical e
least_canonical d e grid is =
    let here : IsGrid e = joins_grid is.reached.0 d e grid is.reached.1.1 in
    record {
      among = translate_itself e here;
      least = λ k f lt.
          let t : Diagram = get_or (translates e) k f in
          is.least t (joined_after d e t is.reached (joined_translate e t here (Contains-get_or (translates e) k f lt)));
    }

-- the diagrams that keys of members name
pub record Named (d : Diagram) (keys : List Packed) : Type 0 where
  pub diagrams : List Diagram
  pub names : map key_of diagrams ≡ keys
  pub grids : All IsGrid diagrams
  pub inside : All (IsInClass d) diagrams

named : (d : Diagram) (keys : List Packed) → All (IsMember d) keys → Named d keys
named d [] members = record { diagrams = []; names = refl; grids = All-nil IsGrid; inside = All-nil (IsInClass d) }
named d (key ∷ keys) members =
    let m = All-head (IsMember d) key keys members in
    let rest = named d keys (All-tail (IsMember d) key keys members) in
    record {
      diagrams = m.form ∷ rest.diagrams;
      names = ap₂ (λ (k : Packed) (ks : List Packed). k ∷ ks) m.names.key rest.names;
      grids = All-cons IsGrid m.form rest.diagrams m.names.grid rest.grids;
      inside = All-cons (IsInClass d) m.form rest.diagrams (record { reached = m.form; joined = m.joined; form = m.own }) rest.inside;
    }

-- different keys name different diagrams
named_differ : (ds : List Diagram) (keys : List Packed) → map key_of ds ≡ keys → AllPairs (λ p q. p ≢ q) keys → AllPairs (λ d e. d ≢ e) ds
named_differ ds keys names differ = λ i j d lt below same.
    let long : length keys ≡ length ds = sym (ap length names) ∙ length-map ds key_of in
    let first : get_or keys i (key_of d) ≡ key_of (get_or ds i d) = ap (λ (ks : List Packed). get_or ks i (key_of d)) (sym names)
    ∙ get_or-map key_of ds i d (key_of d) (omega (arith, lt, below)) in
    let second : get_or keys j (key_of d) ≡ key_of (get_or ds j d) = ap (λ (ks : List Packed). get_or ks j (key_of d)) (sym names)
    ∙ get_or-map key_of ds j d (key_of d) below in
    differ i j (key_of d) lt (omega (arith, below, long)) (first ∙ ap key_of same ∙ sym second)

pub class_counted : (d : Diagram) (b : ℕ) → IsGrid d → HasAtMost d b → (k : ℕ) × ((k ≤ b) × HasMembers (IsInClass d) k)
class_counted d b grid few =
    let keys : List Packed = few.keys in
    let is = named d keys (listed_members d (length keys) keys grid few.listing) in
    let long : length is.diagrams ≡ length keys = sym (length-map is.diagrams key_of) ∙ ap length is.names in (
      length is.diagrams,
      (
        omega (arith, long, few.few),
        (
          is.diagrams,
          refl,
          record {
            different = named_differ is.diagrams keys is.names (listed_differ d (length keys) keys few.listing);
            exactly = λ f. (
              λ member.
                  let there = (listing_is_class d keys grid few.listing f).0 member in
                  let found = mapped_from key_of is.diagrams (key_of f) (subst (λ (ks : List Packed). Contains ks (key_of f)) (sym is.names) there.1) in
                  let same : found.0 ≡ f = key_once found.0 f (All-contains IsGrid is.diagrams found.0 is.grids found.1) there.0 found.2 in
                  subst (λ (g : Diagram). Contains is.diagrams g) same found.1,
              λ among. All-contains (IsInClass d) is.diagrams f is.inside among,
            );
          },
        ),
      ),
    )

pub class_larger : (d e : Diagram) (b : ℕ) → IsGrid d → IsLeastOfFirst d b e → HasMoreMembers (IsInClass d) b
class_larger d e b grid is =
    let n = named d is.keys (listed_members d is.turns is.keys grid is.listed) in
    let long : length n.diagrams ≡ length is.keys = sym (length-map n.diagrams key_of) ∙ ap length n.names in
    let enough : b + 1 ≤ length n.diagrams = omega (arith, long, is.more) in
    let count : length (take (b + 1) n.diagrams) ≡ b + 1 = length-take-le (b + 1) n.diagrams enough in
    let differ = named_differ n.diagrams is.keys n.names (listed_differ d is.turns is.keys is.listed) in (
      take (b + 1) n.diagrams,
      count,
      λ i j f lt below.
          subst (λ (g : Diagram). g ≢ get_or (take (b + 1) n.diagrams) j f) (sym (get_or-take (b + 1) n.diagrams i f (omega (arith, lt, below, count))))
          (subst (λ (g : Diagram). get_or n.diagrams i f ≢ g) (sym (get_or-take (b + 1) n.diagrams j f (omega (arith, below, count))))
          (differ i j f lt (omega (arith, below, count, enough)))),
      All-take (IsInClass d) (b + 1) n.diagrams n.inside,
    )

pub not_counted : (d e : Diagram) (b : ℕ) → HasAtMost d b → IsLeastOfFirst d b e → ⊥
not_counted d e b few more = not_both d b more.turns more.keys more.listed more.more few
