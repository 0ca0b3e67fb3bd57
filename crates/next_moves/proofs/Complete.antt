-- Every neighbour is offered, and every offer is a neighbour.
use Rattle.std.proofs.Common.{◌≡◌, ◌≤◌, ◌++◌, ◌∷◌, ◌∙◌, [], ℕ, List, true, false, map, get_or, arith, sym, refl, ap, subst}
use Rattle.std.specs.List.{All, Contains, range_with_len, flat_map}
use Rattle.std.proofs.lemmas.Bool.{le-leb, leb-true}
use Rattle.std.proofs.lemmas.List.Elements.{All-nil, All-cons, All-append, All-map, All-contains}
use Rattle.grid_core.specs.declared.mark.Kind.TheVariants.{Cross, Ring}
use Rattle.grid_core.specs.Diagram.{Diagram, IsGrid, size}
use Rattle.grid_moves.specs.Step.{Step}
use Rattle.grid_moves.proofs.OneResult.{step_once}
use Rattle.grid_keys.specs.Translation.{translate}
use Rattle.grid_keys.specs.CanonicalForm.{IsCanonicalForm}
use Rattle.grid_keys.specs.Key.{key_of}
use Rattle.grid_keys.proofs.LeastTranslates.{shifts_of, translates_contains, map_contains}
use Rattle.grid_keys.proofs.CanonicalForms.{translated_size, canonical_of_translate, canonical_once}
use Rattle.next_moves.specs.declared.links.Offer.{Offer}
use Rattle.grid_moves.specs.Kinds.{is_shift}
use Rattle.next_moves.specs.Neighbours.{IsNeighbour}
use Rattle.grid_core.specs.Corners.{corners}
use Rattle.next_moves.specs.Tries.{Try, tries, try_column_exchange, try_column_slide, column_trade_tries, try_row_exchange, try_row_slide, row_trade_tries}
use Rattle.next_moves.specs.Tries.{try_destabilisation, block_tries, try_stabilisation, stabilisation_tries}
use Rattle.next_moves.specs.Offers.{is_offered, Leads, IsOfferOf, IsOfferList, try_of}
use Rattle.next_moves.proofs.Extended.{legal_offered}
use Rattle.next_moves.proofs.Members.{contains_filter, filter_contains, mapped_from}
use Rattle.next_moves.proofs.Matched.{matched}

-- an offer with this try
offer_of_try : (d : Diagram) (cap : ℕ) (offers : List Offer) (t : Try) → IsOfferList d cap offers → Contains (tries (size d)) t → is_offered d cap t ≡ true
    → (offer : Offer) × Contains offers offer × (try_of offer ≡ t)
offer_of_try d cap offers t list among offered =
    mapped_from try_of offers t (subst (λ ts. Contains ts t) (sym list.order) (contains_filter (is_offered d cap) (tries (size d)) t among offered))

-- where its link leads
pub led_by : (d : Diagram) (offer : Offer) (t : Try) (result f : Diagram) → IsOfferOf d offer → try_of offer ≡ t
    → Step (translate d t.before.0 t.before.1) t.step result → IsCanonicalForm result f → key_of f ≡ offer.key
led_by d offer t result f is same step form =
    let P : Try → Type 0 = λ u. Step (translate d u.before.0 u.before.1) u.step result in
    let here : P (try_of offer) = subst P (sym same) step in
    let one : is.leads.moved ≡ result =
    step_once (translate d offer.link.before.0 offer.link.before.1) offer.link.step is.leads.moved result is.leads.step here in
    let forms : f ≡ is.form = canonical_once is.leads.moved f is.form (subst (λ e. IsCanonicalForm e f) (sym one) form) is.leads.form.canonical in
    ap (λ (e : Diagram). key_of e) forms ∙ is.key

pub neighbour_offered : (d f : Diagram) (cap : ℕ) (offers : List Offer) → IsGrid d → IsOfferList d cap offers → IsNeighbour d cap f
    → (offer : Offer) × (Contains offers offer × (key_of f ≡ offer.key))
neighbour_offered d f cap offers grid list near =
    let s = shifts_of d near.before near.translated in
    let step : Step (translate d s.0 s.1) near.move near.after = subst (λ t. Step t near.move near.after) (sym s.4) near.step in
    let m = matched near.move d s.0 s.1 near.after grid s.2 s.3 near.no_shift step in
    let small : size m.result ≤ cap = omega (arith, translated_size near.after m.result near.step.after m.same, near.small) in
    let offered : is_offered d cap m.try ≡ true =
    legal_offered d (translate d m.try.before.0 m.try.before.1) m.result cap m.try m.columns refl m.step ∙ le-leb (size m.result) cap small in
    let found = offer_of_try d cap offers m.try list m.among offered in (
      found.0,
      (
        found.1,
        led_by d found.0 m.try m.result f (All-contains (IsOfferOf d) offers found.0 list.leads found.1) found.2 m.step
            (canonical_of_translate near.after m.result f near.step.after m.same near.form),
      ),
    )

-- no try is a shift
pub ranged : (P : Try → Type 0) (f : ℕ → Try) (n : ℕ) → ((k : ℕ) → P (f k)) → All P (map f (range_with_len 0 n))
ranged P f n all = All-map P f (range_with_len 0 n) (λ k d lt. all (get_or (range_with_len 0 n) k d))

pub flat_ranged : (P : Try → Type 0) (f : ℕ → List Try) (xs : List ℕ) → ((k : ℕ) → All P (f k)) → All P (flat_map f xs)
flat_ranged P f [] all = λ k d lt. absurd (omega (arith, lt))
flat_ranged P f (x ∷ xs) all = All-append P (f x) (flat_map f xs) (all x) (flat_ranged P f xs all)

abbrev IsNoShift : Try → Type 0
IsNoShift t = is_shift t.step ≡ false

both_no_shift : (s t : Try) → IsNoShift s → IsNoShift t → All IsNoShift (s ∷ t ∷ [])
both_no_shift s t one two = All-cons IsNoShift s (t ∷ []) one (All-cons IsNoShift t [] two (All-nil IsNoShift))

tries_no_shift : (n : ℕ) → All IsNoShift (tries n)
tries_no_shift n =
    All-append IsNoShift (flat_map (column_trade_tries n) (range_with_len 0 n) ++ flat_map (row_trade_tries n) (range_with_len 0 n) ++ flat_map (block_tries n)
    (range_with_len 0 n)) (flat_map stabilisation_tries (range_with_len 0 n))
    (All-append IsNoShift (flat_map (column_trade_tries n) (range_with_len 0 n) ++ flat_map (row_trade_tries n) (range_with_len 0 n))
    (flat_map (block_tries n) (range_with_len 0 n))
    (All-append IsNoShift (flat_map (column_trade_tries n) (range_with_len 0 n)) (flat_map (row_trade_tries n) (range_with_len 0 n))
    (flat_ranged IsNoShift (column_trade_tries n) (range_with_len 0 n) (λ k. both_no_shift (try_column_exchange n k) (try_column_slide n k) refl refl))
    (flat_ranged IsNoShift (row_trade_tries n) (range_with_len 0 n) (λ k. both_no_shift (try_row_exchange n k) (try_row_slide n k) refl refl)))
    (flat_ranged IsNoShift (block_tries n) (range_with_len 0 n) (λ c. ranged IsNoShift (try_destabilisation n c) n (λ k. refl))))
    (flat_ranged IsNoShift stabilisation_tries (range_with_len 0 n)
    (λ c. All-append IsNoShift (map (try_stabilisation c Cross) corners) (map (try_stabilisation c Ring) corners)
    (All-map IsNoShift (try_stabilisation c Cross) corners (λ k d lt. refl)) (All-map IsNoShift (try_stabilisation c Ring) corners (λ k d lt. refl))))

pub offer_is_neighbour : (d : Diagram) (cap : ℕ) (offers : List Offer) (offer : Offer) → IsGrid d → IsOfferList d cap offers → Contains offers offer
    → (f : Diagram) × (IsNeighbour d cap f × (key_of f ≡ offer.key) × Leads d offer.link f)
offer_is_neighbour d cap offers offer grid list among =
    let is : IsOfferOf d offer = All-contains (IsOfferOf d) offers offer list.leads among in
    let led = is.leads in
    let kept =
    filter_contains (is_offered d cap) (tries (size d)) (try_of offer)
    (subst (λ ts. Contains ts (try_of offer)) list.order (map_contains try_of offers offer among)) in
    let no_shift : is_shift offer.link.step ≡ false = All-contains IsNoShift (tries (size d)) (try_of offer) (tries_no_shift (size d)) kept.0 in
    let small : size led.moved ≤ cap =
    leb-true (size led.moved) cap (sym (legal_offered d (translate d offer.link.before.0 offer.link.before.1) led.moved cap
    (try_of offer) led.columns refl led.step) ∙ kept.1) in (
      is.form,
      (
        record {
          before = translate d offer.link.before.0 offer.link.before.1;
          translated = translates_contains d offer.link.before.0 offer.link.before.1 led.columns led.rows;
          move = offer.link.step;
          no_shift = no_shift;
          after = led.moved;
          step = led.step;
          small = small;
          form = led.form.canonical;
        },
        is.key,
        led,
      ),
    )
