-- What is closed under neighbours has all that moves reach.
use Rattle.std.proofs.Common.{◌≡◌, ◌≢◌, ◌≤◌, ◌∷◌, ◌∙◌, [], ℕ, List, Bool, true, false, arith, sym, refl, subst, inl, inr}
use Rattle.std.specs.List.{All, AllPairs, Contains}
use Rattle.std.proofs.lemmas.List.Elements.{All-contains}
use Rattle.grid_core.specs.Diagram.{Diagram, IsGrid, size}
use Rattle.grid_moves.specs.declared.step.Move.{Move}
use Rattle.grid_moves.specs.declared.step.Move.TheVariants.{ShiftColumns, ShiftRows, ExchangeColumns, ExchangeRows, SlideColumns, SlideRows, Stabilise}
use Rattle.grid_moves.specs.declared.step.Move.TheVariants.{Destabilise}
use Rattle.grid_moves.specs.Step.{Step}
use Rattle.grid_moves.specs.Joining.{JoinsWithin, WithinCap}
use Rattle.grid_moves.proofs.OneResult.{step_once}
use Rattle.grid_keys.specs.Translation.{translate, translates}
use Rattle.grid_keys.specs.CanonicalForm.{IsCanonicalForm, IsCanonical}
use Rattle.grid_keys.proofs.LeastTranslates.{translates_contains, shifts_of}
use Rattle.grid_keys.proofs.Joined.{column_shift_step, row_shift_step, shifts_joined_within}
use Rattle.grid_keys.proofs.CanonicalForms.{canonical_exists, canonical_of_translate, translated_back, translated_size}
use Rattle.grid_moves.proofs.Within.{within_cap_after, within_larger}
use Rattle.grid_keys.specs.Shifts.{shift_moves}
use Rattle.grid_keys.specs.Key.{key_of}
use Rattle.grid_keys.proofs.Keys.{key_once}
use Rattle.next_moves.specs.Offers.{IsOfferList, Neighbourhood, IsWholeNeighbourhood}
use Rattle.next_moves.specs.Reach.{IsReached, AreMembers}
use Rattle.grid_moves.specs.Kinds.{is_shift}
use Rattle.next_moves.specs.Neighbours.{IsNeighbour}

-- a shift leads to a translate
pub shift_translates : (move : Move) (d e : Diagram) → is_shift move ≡ true → Step d move e → Contains (translates d) e
shift_translates (ShiftColumns k) d e shifts step =
    subst (λ t. Contains (translates d) t) (step_once d (ShiftColumns k) (translate d k 0) e
    (column_shift_step d k step.before step.marks.least step.marks.most) step)
    (translates_contains d k 0 step.marks.most (omega (arith, step.before.least)))
shift_translates (ShiftRows k) d e shifts step =
    subst (λ t. Contains (translates d) t) (step_once d (ShiftRows k) (translate d 0 k) e
    (row_shift_step d k step.before step.marks.least step.marks.most) step) (translates_contains d 0 k (omega (arith, step.before.least)) step.marks.most)
shift_translates (ExchangeColumns c) d e shifts step = absurd (let no_shift : false ≡ true = shifts in cc)
shift_translates (ExchangeRows r) d e shifts step = absurd (let no_shift : false ≡ true = shifts in cc)
shift_translates (SlideColumns c) d e shifts step = absurd (let no_shift : false ≡ true = shifts in cc)
shift_translates (SlideRows r) d e shifts step = absurd (let no_shift : false ≡ true = shifts in cc)
shift_translates (Stabilise c kind corner) d e shifts step = absurd (let no_shift : false ≡ true = shifts in cc)
shift_translates (Destabilise c r) d e shifts step = absurd (let no_shift : false ≡ true = shifts in cc)

module _ (members : List Diagram) (cap : ℕ) (grids : All IsGrid members)
    (closed : (f g : Diagram) → Contains members f → IsNeighbour f cap g → Contains members g) where
  -- the form of a diagram is a member
  abbrev IsKnown : Diagram → Type 0
  IsKnown d = (f : Diagram) → IsCanonicalForm d f → Contains members f

  known_step : (d e : Diagram) (move : Move) (b : Bool) → is_shift move ≡ b → IsGrid d → size e ≤ cap → Step d move e → IsKnown d → IsKnown e
  known_step d e move true shifts grid small step known f form =
      known f (canonical_of_translate e d f step.after (translated_back d e grid (shift_translates move d e shifts step)) form)
  known_step d e move false turns grid small step known f form =
      let root = canonical_exists d grid in
      let member = known root.0 root.1 in
      closed root.0 f member (record {
        before = d;
        translated = translated_back d root.0 grid root.1.among;
        move = move;
        no_shift = turns;
        after = e;
        step = step;
        small = small;
        form = form;
      })

  known_all : (moves : List Move) (d e : Diagram) → IsGrid d → JoinsWithin cap d moves e → IsKnown d → IsKnown e
  known_all [] d e grid joined known = subst (λ g. IsKnown g) joined.1 known
  known_all (move ∷ moves) d e grid joined known =
      let next : Diagram = joined.1.0 in
      let step = joined.1.1.0 in
      known_all moves next e step.after joined.1.1.1 (known_step d next move (is_shift move) refl grid (start moves next e joined.1.1.1) step known)
    where
      start : (moves : List Move) (d e : Diagram) → JoinsWithin cap d moves e → size d ≤ cap
      start [] d e joined = joined.0
      start (move ∷ moves) d e joined = joined.0

pub closed_has_all : (members : List Diagram) (a : Diagram) (cap : ℕ) → IsGrid a → All IsGrid members
    → ((f : Diagram) → IsCanonicalForm a f → Contains members f) → ((f g : Diagram) → Contains members f → IsNeighbour f cap g → Contains members g)
    → (f : Diagram) → IsCanonical f → WithinCap a f cap → Contains members f
closed_has_all members a cap grid grids start closed f own joined = known_all members cap grids closed joined.0 a f grid joined.1 start f own

pub closed_is_all : (members : List Diagram) (a b : Diagram) (cap : ℕ) → IsGrid a → IsGrid b → All IsGrid members → AllPairs (λ d e. d ≢ e) members
    → All (IsReached a b cap) members → ((f : Diagram) → IsCanonicalForm a f → Contains members f)
    → ((f : Diagram) → IsCanonicalForm b f → Contains members f) → ((f g : Diagram) → Contains members f → IsNeighbour f cap g → Contains members g)
    → AreMembers (IsReached a b cap) members
closed_is_all members a b cap ga gb grids different reached fa fb closed = record {
  different = different;
  exactly = λ f. (
    λ is. elim is.joined [
      | inl first ↦ closed_has_all members a cap ga grids fa closed f is.canonical first
      | inr second ↦ closed_has_all members b cap gb grids fb closed f is.canonical second
    ],
    λ member. All-contains (IsReached a b cap) members f reached member,
  );
}

-- a translate is reached at its size, and a neighbour within the cap
pub translate_reached : (d e : Diagram) (cap : ℕ) → IsGrid d → size d ≤ cap → Contains (translates d) e → WithinCap d e cap
translate_reached d e cap grid small c =
    let s = shifts_of d e c in (
      shift_moves s.0 s.1,
      within_larger (size d) cap (shift_moves s.0 s.1) d e small
          (subst (λ t. JoinsWithin (size d) d (shift_moves s.0 s.1) t) s.4 (shifts_joined_within d s.0 s.1 grid s.2 s.3)),
    )

pub form_reached : (d f : Diagram) (cap : ℕ) → IsGrid d → size d ≤ cap → IsCanonicalForm d f → WithinCap d f cap
form_reached d f cap grid small form = translate_reached d f cap grid small form.among

pub neighbour_reached : (d f : Diagram) (cap : ℕ) → IsGrid d → size d ≤ cap → IsNeighbour d cap f → WithinCap d f cap
neighbour_reached d f cap grid small near =
    let long = translated_size d near.before grid near.translated in
    within_cap_after d near.before f cap (translate_reached d near.before cap grid small near.translated)
    (within_cap_after near.before near.after f cap (near.move ∷ [], (omega (arith, long, small), (near.after, (near.step, (near.small, refl)))))
    (form_reached near.after f cap near.step.after near.small near.form))

-- the offers of a key
pub whole_of_key : (n : Neighbourhood) (d : Diagram) → IsWholeNeighbourhood n → IsGrid d → key_of d ≡ n.origin → IsOfferList d n.cap n.offers
whole_of_key n d whole grid same = subst (λ e. IsOfferList e n.cap n.offers) (key_once whole.diagram d whole.grid grid (whole.origin ∙ sym same)) whole.whole
