-- The offers of a settlement, one after another, as they are told in words.
use Rattle.std.proofs.Common.{◌≡◌, ◌≢◌, ◌∙◌, ap, refl, sym, subst, ℕ, ◌+◌, ◌≤◌, ◌<◌, ◌⊎◌, inl, inr, List, [], ◌∷◌, ◌++◌, All}
use Rattle.std.proofs.Common.{length, map, get_or, Bool, true, false, Option, Some, None, nat_lt, fold, if◌then◌else◌, arith}
use Rattle.std.specs.List.{list_all}
use Rattle.std.proofs.lemmas.Bool.{ltb-true, ltb-false, false_from_ne_true}
use Rattle.std.proofs.lemmas.List.{append_assoc, append-nil, get_or-map, get_or_append_left, length-map, length_push, map_push}
use Rattle.std.proofs.lemmas.List.Elements.{All-nil, All-cons, All-weaker}
use Rattle.std.proofs.lemmas.List.Folds.{list_any_none, list_any_at}
use Rattle.std.proofs.lemmas.List.Sums.{AllPass-from_list_all}
use Rattle.std.proofs.lemmas.Option.{slice_get_within, get_or_from_slice_get}
use Rattle.grid_keys.specs.declared.key.Packed.{Packed}
use Rattle.grid_keys.specs.Key.{same_key}
use Rattle.next_moves.specs.declared.links.Offer.{Offer}
use Rattle.grid_keys.proofs.Keys.{same_key_true, same_key_of}
use Rattle.search_book.specs.declared.problem.Side.{Side}
use Rattle.search_book.specs.declared.entry.Entry.{Entry}
use Rattle.search_book.specs.declared.entry.Stage.TheVariants.{Settled}
use Rattle.search_book.specs.declared.event.End.{End}
use Rattle.search_book.specs.declared.event.End.TheVariants.{Met, Spent, Exhausted}
use Rattle.search_book.specs.declared.event.Meeting.TheVariants.{Offered}
use Rattle.search_book.specs.State.{State}
use Rattle.search_book.specs.Entries.{StandsAt, HasUnsettled, at_stage, id_of, is_settled, is_settled_stage, keys, same_side}
use Rattle.search_book.specs.Settle.{Taken, Settles, after_settling, child, exhausted_where_all_settled}
use Rattle.search_book.specs.Settle.{settled_unless_over, met_or_passed_over, taken_all, taken_by, taken_next}
use Rattle.search_book.specs.Sound.{IsKeyOfSide}
use Rattle.search_book.specs.Settlement.{IsMetBy, IsNewKey, IsSettledWhole, IsSettlement, IsSpentBy, Leaves, first_of_new, is_among}
use Rattle.search_book.proofs.Appended.{where_pushed}
use Rattle.search_book.proofs.Lookups.{HasKeyAt, id_of_some, id_of_none, same_side_true, same_side_false}
use Rattle.search_book.proofs.SettleCounts.{Fails, not_all}
use Rattle.search_book.proofs.SettleSound.{settled_stage_is}
use Rattle.search_book.proofs.Taking.{ended_at_first, taken}

-- the first of the offers that were not taken ended the book, or there is none
abbrev Stops : ℕ → ℕ → Side → List Entry → List Offer → Option End → Type 0
Stops budget id side entries [] end = end ≡ None
Stops budget id side entries (offer ∷ rest) end = IsMetBy entries id side offer end ⊎ IsSpentBy budget entries offer end

-- what was taken of these offers, told in words
record Account (budget id : ℕ) (side : Side) (es : List Entry) (offers : List Offer) (t : Taken) : Type 0 where
  before : List Offer
  rest : List Offer
  split : offers ≡ before ++ rest
  passed_or_admitted : All (λ (o : Offer). IsKeyOfSide es side o.key ⊎ IsNewKey es o.key) before
  new : List Entry
  admitted : new ≡ map (child id side) (first_of_new (keys es) before)
  within : length es ≤ budget → length (es ++ new) ≤ budget
  entries : t.entries ≡ es ++ new
  stops : Stops budget id side (es ++ new) rest t.end

differ_where_unequal : (p q : Packed) → p ≢ q → same_key p q ≡ false
differ_where_unequal p q differ = false_from_ne_true (same_key p q) (λ same. differ (same_key_true p q same))

among_known : (es : List Entry) (key : Packed) (id : ℕ) (e : Entry) → StandsAt es id e → e.key ≡ key → is_among (keys es) key ≡ true
among_known es key id e stands is =
    let within : id < length es = slice_get_within es id e stands in
    let there : get_or (keys es) id e.key ≡ key =
    get_or-map (λ (f : Entry). f.key) es id e e.key within ∙ ap (λ (f : Entry). f.key) (get_or_from_slice_get es id e e stands) ∙ is in
    list_any_at (λ (k : Packed). same_key k key) (keys es) id e.key (omega (arith, within, length-map es (λ (f : Entry). f.key)))
    (same_key_of (get_or (keys es) id e.key) key there)

among_new : (es : List Entry) (key : Packed) → IsNewKey es key → is_among (keys es) key ≡ false
among_new es key new =
    list_any_none (λ (k : Packed). same_key k key) (keys es)
    (All-weaker (λ (k : Packed). k ≢ key) (λ (k : Packed). same_key k key ≡ false) (λ k. differ_where_unequal k key) (keys es) new)

module _ (budget id : ℕ) (side : Side) where
  module _ (es : List Entry) (offer : Offer) (offers : List Offer) where
    abbrev known_or_new : List Entry → Offer → Type 0
    known_or_new fs o = IsKeyOfSide fs side o.key ⊎ IsNewKey fs o.key

    -- the first with each new key, by whether this one's is known
    abbrev firsts : List Offer → Bool → List Entry
    firsts before known = map (child id side) (if known then first_of_new (keys es) before else offer ∷ first_of_new (keys es ++ offer.key ∷ []) before)

    stopped : (end : End)
        → IsMetBy es id side offer (Some end) ⊎ IsSpentBy budget es offer (Some end)
        → Account budget id side es (offer ∷ offers) (fold (taken_next budget id side) (taken es (Some end)) offers)
    stopped end why =
        subst (λ (t : Taken). Account budget id side es (offer ∷ offers) t) (sym (ended_at_first budget id side es end offers)) (record {
          before = [];
          rest = offer ∷ offers;
          split = refl;
          passed_or_admitted = All-nil (known_or_new es);
          new = [];
          admitted = refl;
          within = λ le. omega (arith, le, ap length (append-nil es));
          entries = sym (append-nil es);
          stops = subst (λ (fs : List Entry). IsMetBy fs id side offer (Some end) ⊎ IsSpentBy budget fs offer (Some end)) (sym (append-nil es)) why;
        })

    module _ (later : (fs : List Entry) → Account budget id side fs offers (taken_all budget id side fs offers)) where
      passed : (other : ℕ) (g : Entry)
          → StandsAt es other g → g.key ≡ offer.key → g.side ≡ side
          → Account budget id side es (offer ∷ offers) (taken_all budget id side es offers)
      passed other g stands key of_side =
          let a : Account budget id side es offers (taken_all budget id side es offers) = later es in
          let here : IsKeyOfSide es side offer.key = record { id = other; entry = g; stands = stands; of_side = of_side; has_key = key } in record {
            before = offer ∷ a.before;
            rest = a.rest;
            split = ap (λ (os : List Offer). offer ∷ os) a.split;
            passed_or_admitted = All-cons (known_or_new es) offer a.before (inl here) a.passed_or_admitted;
            new = a.new;
            admitted = a.admitted ∙ ap (firsts a.before) (sym (among_known es offer.key other g stands key));
            within = a.within;
            entries = a.entries;
            stops = a.stops;
          }

      by_side : (other : ℕ) (g : Entry) (same : Bool)
          → StandsAt es other g → g.key ≡ offer.key → same_side g.side side ≡ same
          → Account budget id side es (offer ∷ offers)
          (fold (taken_next budget id side) (taken es (if same then None else Some (Met (Offered id other offer.link)))) offers)
      by_side other g true stands key is = passed other g stands key (same_side_true g.side side is)
      by_side other g false stands key is =
          stopped (Met (Offered id other offer.link))
          (inl (record { other = other; entry = g; stands = stands; has_key = key; other_side = same_side_false g.side side is; end = refl }))

      abbrev f : Entry
      f = child id side offer

      abbrev fs : List Entry
      fs = es ++ f ∷ []

      more_keys : keys fs ≡ keys es ++ offer.key ∷ []
      more_keys = map_push (λ (g : Entry). g.key) es f

      -- what is known or new once the child is there was so before
      before_child : (o : Offer) → IsNewKey es offer.key → known_or_new fs o → known_or_new es o
      before_child o new (inl known) = elim (where_pushed es f known.id known.entry known.stands) [
        | inl last ↦
            let same : offer.key ≡ o.key = ap (λ (g : Entry). g.key) (sym last.1) ∙ known.has_key in
            inr (subst (IsNewKey es) same new)
        | inr old ↦ inl (record { id = known.id; entry = known.entry; stands = old; of_side = known.of_side; has_key = known.has_key })
      ]
      before_child o new (inr absent) = inr (λ k d lt is.
          let longer : length (keys fs) ≡ length (keys es) + 1 = ap length more_keys ∙ length_push (keys es) offer.key in
          let there : get_or (keys fs) k d ≡ get_or (keys es) k d =
          ap (λ (ks : List Packed). get_or ks k d) more_keys ∙ get_or_append_left (keys es) (offer.key ∷ []) d k lt in
          absent k d (omega (arith, lt, longer)) (there ∙ is))

      admitted_one : IsNewKey es offer.key → length es < budget → Account budget id side es (offer ∷ offers) (taken_all budget id side fs offers)
      admitted_one new room =
          let a : Account budget id side fs offers (taken_all budget id side fs offers) = later fs in
          let behind : fs ++ a.new ≡ es ++ f ∷ a.new = append_assoc es (f ∷ []) a.new in record {
            before = offer ∷ a.before;
            rest = a.rest;
            split = ap (λ (os : List Offer). offer ∷ os) a.split;
            passed_or_admitted =
                All-cons (known_or_new es) offer a.before (inr new)
                (All-weaker (known_or_new fs) (known_or_new es) (λ o. before_child o new) a.before a.passed_or_admitted);
            new = f ∷ a.new;
            admitted =
                ap (λ (gs : List Entry). f ∷ gs) (a.admitted ∙ ap (λ (ks : List Packed). map (child id side) (first_of_new ks a.before)) more_keys)
                ∙ ap (firsts a.before) (sym (among_new es offer.key new));
            within = λ le. omega (arith, a.within (omega (arith, room, length_push es f)), ap length behind);
            entries = a.entries ∙ behind;
            stops = subst (λ (gs : List Entry). Stops budget id side gs a.rest (taken_all budget id side fs offers).end) behind a.stops;
          }

      by_room : (room : Bool)
          → IsNewKey es offer.key → nat_lt (length es) budget ≡ room
          → Account budget id side es (offer ∷ offers)
          (fold (taken_next budget id side) (if room then taken fs None else taken es (Some (Spent offer.key))) offers)
      by_room true new is = admitted_one new (ltb-true (length es) budget is)
      by_room false new is = stopped (Spent offer.key) (inr (record { new = new; full = ltb-false (length es) budget is; end = refl }))

      by_key : (o : Option ℕ)
          → id_of es offer.key ≡ o
          → Account budget id side es (offer ∷ offers) (fold (taken_next budget id side) (taken_by budget id side es offer o) offers)
      by_key None is = by_room (nat_lt (length es) budget) (id_of_none es offer.key is) refl
      by_key (Some other) is =
          let at : HasKeyAt es offer.key other = id_of_some es offer.key other is in
          subst (λ (o : Option Entry). Account budget id side es (offer ∷ offers)
          (fold (taken_next budget id side) (taken es (met_or_passed_over id side offer other o)) offers)) (sym at.stands)
          (by_side other at.entry (same_side at.entry.side side) at.stands at.has_key refl)

  account : (offers : List Offer) (es : List Entry) → Account budget id side es offers (taken_all budget id side es offers)
  account [] es = record {
    before = [];
    rest = [];
    split = refl;
    passed_or_admitted = All-nil (λ (o : Offer). IsKeyOfSide es side o.key ⊎ IsNewKey es o.key);
    new = [];
    admitted = refl;
    within = λ le. omega (arith, le, ap length (append-nil es));
    entries = sym (append-nil es);
    stops = refl;
  }
  account (offer ∷ offers) es = by_key es offer offers (account offers) (id_of es offer.key) refl

-- the entry is settled once all offers were taken
module _ (id : ℕ) (entry : Entry) (es entries : List Entry) (same : es ≡ entries) where
  abbrev last : List Entry
  last = at_stage es id entry Settled

  end_by : (all : Bool)
      → list_all is_settled last ≡ all
      → (All (λ (e : Entry). e.stage ≡ Settled) last × ((if all then Some Exhausted else None)
      ≡ Some Exhausted)) ⊎ (HasUnsettled last × ((if all then Some Exhausted else None) ≡ None))
  end_by true is = inl (λ k d lt. settled_stage_is (get_or last k d).stage (AllPass-from_list_all is_settled last is k d lt), refl)
  end_by false is =
      let open_still : Fails is_settled last = not_all is_settled last is in
      inr (
        (
          open_still.at,
          (
            open_still.element,
            (
              open_still.stands,
              λ settled.
                  let passes : false ≡ true = sym open_still.fails ∙ ap is_settled_stage settled in cc,
            ),
          ),
        ),
        refl,
      )

  ends_settled : IsSettledWhole entries id entry last (exhausted_where_all_settled last)
  ends_settled = record { settled = ap (λ (fs : List Entry). at_stage fs id entry Settled) same; end = end_by (list_all is_settled last) refl }

leaves_by : (budget id : ℕ) (entry : Entry) (entries : List Entry) (rest : List Offer) (all : Taken)
    → all.entries ≡ entries → Stops budget id entry.side entries rest all.end
    → Leaves budget id entry entries rest (settled_unless_over id entry all all.end).entries (settled_unless_over id entry all all.end).end
leaves_by budget id entry entries [] all same stops =
    subst
    (λ (o : Option End). IsSettledWhole entries id entry (settled_unless_over id entry all o).entries (settled_unless_over id entry all o).end)
    (sym stops) (ends_settled id entry all.entries entries same)
leaves_by budget id entry entries (offer ∷ rest) all same (inl met) =
    subst
    (λ (o : Option End). Leaves budget id entry entries (offer ∷ rest) (settled_unless_over id entry all o).entries (settled_unless_over id entry all o).end)
    (sym met.end) (same, inl met)
leaves_by budget id entry entries (offer ∷ rest) all same (inr spent) =
    subst
    (λ (o : Option End). Leaves budget id entry entries (offer ∷ rest) (settled_unless_over id entry all o).entries (settled_unless_over id entry all o).end)
    (sym spent.end) (same, inr spent)

told : (s : State) (worker id : ℕ) (entry : Entry) (offers : List Offer) → IsSettlement s worker id entry offers (after_settling s worker id entry offers)
told s worker id entry offers =
    let all : Taken = taken_all s.problem.budget id entry.side s.entries offers in
    let a : Account s.problem.budget id entry.side s.entries offers all = account s.problem.budget id entry.side offers s.entries in record {
      before = a.before;
      rest = a.rest;
      split = a.split;
      passed_or_admitted = a.passed_or_admitted;
      new = a.new;
      admitted = a.admitted;
      within_budget = a.within;
      leaves = leaves_by s.problem.budget id entry (s.entries ++ a.new) a.rest all a.entries a.stops;
      noted = refl;
      problem = refl;
    }

pub settlement_told : (s t : State) (worker id : ℕ) (is : Settles s worker id t) → IsSettlement s worker id is.entry is.offers t
settlement_told s t worker id is = subst (λ (u : State). IsSettlement s worker id is.entry is.offers u) (sym is.after) (told s worker id is.entry is.offers)
