-- The edges that the crossings of a coloured code name.
use Rattle.std.proofs.Common.{◌≡◌, ◌≤◌, ◌+◌, ◌&&◌, ℕ, true, List, length, nat_le, get_or, ap, subst, sym, ◌∙◌}
use Rattle.std.specs.Prelude.{Contains}
use Rattle.std.specs.List.{list_all}
use Rattle.std.proofs.lemmas.Bool.{and_parts, leb-true}
use Rattle.std.proofs.lemmas.List.Sums.{AllPass-from_list_all}
use Rattle.quandle_core.specs.Quandle.{Table}
use Rattle.colour_rows.specs.Colouring.{are_colours}
use Rattle.crossing_codes.specs.declared.crossing.Code.{Code}
use Rattle.crossing_codes.specs.declared.crossing.Crossing.{Crossing}
use Rattle.crossing_codes.specs.CodeColouring.{is_edge, names_edges, agrees, is_code_colouring}
use Rattle.text_laws.specs.Named.{IsEdge, NamesOnly}

edge_from_test : (edges edge : ℕ) → is_edge edges edge ≡ true → IsEdge edges edge
edge_from_test edges edge e =
    let parts = and_parts (nat_le 1 edge) (nat_le edge edges) e in
    (leb-true 1 edge parts.0, leb-true edge edges parts.1)

names_from_test : (edges : ℕ) (x : Crossing) → names_edges edges x ≡ true → NamesOnly edges x
names_from_test edges x e =
    let three = and_parts (is_edge edges x.first && is_edge edges x.second && is_edge edges x.third) (is_edge edges x.fourth) e in
    let two = and_parts (is_edge edges x.first && is_edge edges x.second) (is_edge edges x.third) three.0 in
    let one = and_parts (is_edge edges x.first) (is_edge edges x.second) two.0 in
    record {
      first = edge_from_test edges x.first one.0;
      second = edge_from_test edges x.second one.1;
      third = edge_from_test edges x.third two.1;
      fourth = edge_from_test edges x.fourth three.1;
    }

pub coloured_names : (t : Table) (code : Code) (colours : List ℕ) → is_code_colouring t code colours ≡ true
    → (x : Crossing) → Contains code.crossings x → NamesOnly code.edges x
coloured_names t code colours e x has =
    let test = λ (y : Crossing). names_edges code.edges y && agrees t colours y in
    let parts = and_parts (are_colours (code.edges + code.loops) t.order colours) (list_all test code.crossings) e in
    let at = AllPass-from_list_all test code.crossings parts.1 has.0 x has.1 in
    let here = subst (λ (y : Crossing). test y ≡ true) has.2 at in
    names_from_test code.edges x (and_parts (names_edges code.edges x) (agrees t colours x) here).0
