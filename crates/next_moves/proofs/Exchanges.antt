-- The exchanges among the tries and among the offers.
use Rattle.std.proofs.Common.{◌≡◌, ◌++◌, ◌∷◌, ◌∙◌, [], ℕ, List, Bool, false, filter, map, refl, ap, ap₂}
use Rattle.std.specs.List.{All, range_with_len, flat_map}
use Rattle.std.proofs.lemmas.List.{append-nil}
use Rattle.std.proofs.lemmas.List.Elements.{All-append, All-filter, All-map, filter-append}
use Rattle.grid_core.specs.declared.mark.Kind.TheVariants.{Cross, Ring}
use Rattle.grid_core.specs.Diagram.{Diagram}
use Rattle.next_moves.specs.declared.links.Offer.{Offer}
use Rattle.grid_core.specs.Corners.{corners}
use Rattle.grid_moves.specs.Kinds.{is_exchange}
use Rattle.next_moves.specs.Tries.{Try, tries, trade_tries, exchange_tries, try_column_exchange, column_trade_tries}
use Rattle.next_moves.specs.Tries.{try_row_exchange, row_trade_tries, try_destabilisation}
use Rattle.next_moves.specs.Tries.{block_tries, all_block_tries, try_stabilisation, stabilisation_tries, all_stabilisation_tries}
use Rattle.next_moves.specs.Offers.{is_offered, IsOfferOf, AreOffersOf, try_of, exchanges_among}
use Rattle.next_moves.proofs.Members.{map_filter, filter_swap, filter_none}
use Rattle.next_moves.proofs.Complete.{ranged, flat_ranged}

abbrev exchanges_in : Try → Bool
exchanges_in t = is_exchange t.step

abbrev IsNone : Try → Type 0
IsNone t = exchanges_in t ≡ false

of_columns : (n : ℕ) (xs : List ℕ) → filter exchanges_in (flat_map (column_trade_tries n) xs) ≡ map (try_column_exchange n) xs
of_columns n [] = refl
of_columns n (x ∷ xs) = ap (λ (ts : List Try). try_column_exchange n x ∷ ts) (of_columns n xs)

of_rows : (n : ℕ) (xs : List ℕ) → filter exchanges_in (flat_map (row_trade_tries n) xs) ≡ map (try_row_exchange n) xs
of_rows n [] = refl
of_rows n (x ∷ xs) = ap (λ (ts : List Try). try_row_exchange n x ∷ ts) (of_rows n xs)

no_destabilisation : (n : ℕ) → All IsNone (all_block_tries n)
no_destabilisation n =
    flat_ranged IsNone (block_tries n) (range_with_len 0 n) (λ c. ranged IsNone (try_destabilisation n c) n (λ k. refl))

no_stabilisation : (n : ℕ) → All IsNone (all_stabilisation_tries n)
no_stabilisation n =
    flat_ranged IsNone stabilisation_tries (range_with_len 0 n) (λ c.
    All-append IsNone (map (try_stabilisation c Cross) corners) (map (try_stabilisation c Ring) corners)
    (All-map IsNone (try_stabilisation c Cross) corners (λ k d lt. refl))
    (All-map IsNone (try_stabilisation c Ring) corners (λ k d lt. refl)))

pub exchanges_of_tries : (n : ℕ) → filter exchanges_in (tries n) ≡ exchange_tries n
exchanges_of_tries n =
    filter-append exchanges_in (trade_tries n ++ all_block_tries n) (all_stabilisation_tries n)
    ∙ ap₂ (λ (ts us : List Try). ts ++ us)
    (filter-append exchanges_in (trade_tries n) (all_block_tries n)
    ∙ ap₂ (λ (ts us : List Try). ts ++ us) of_trades (filter_none exchanges_in (all_block_tries n) (no_destabilisation n))
    ∙ append-nil (exchange_tries n))
    (filter_none exchanges_in (all_stabilisation_tries n) (no_stabilisation n))
    ∙ append-nil (exchange_tries n)
  where
    of_trades : filter exchanges_in (trade_tries n) ≡ exchange_tries n
    of_trades =
        filter-append exchanges_in (flat_map (column_trade_tries n) (range_with_len 0 n)) (flat_map (row_trade_tries n) (range_with_len 0 n))
        ∙ ap₂ (λ (ts us : List Try). ts ++ us) (of_columns n (range_with_len 0 n)) (of_rows n (range_with_len 0 n))

-- the exchanges among the offers of all tries are the offers of all exchanges
pub exchanges_offered : (d : Diagram) (cap n : ℕ) (offers : List Offer) → AreOffersOf d cap (tries n) offers
    → AreOffersOf d cap (exchange_tries n) (exchanges_among offers)
exchanges_offered d cap n offers are = record {
  order = map_filter try_of exchanges_in offers
      ∙ ap (filter exchanges_in) are.order
      ∙ filter_swap exchanges_in (is_offered d cap) (tries n)
      ∙ ap (filter (is_offered d cap)) (exchanges_of_tries n);
  leads = All-filter (λ (o : Offer). is_exchange o.link.step) (IsOfferOf d) offers are.leads;
}
