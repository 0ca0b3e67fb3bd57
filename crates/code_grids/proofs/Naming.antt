-- Names of edges that are given one after another.
use Rattle.std.proofs.Common.{◌≡◌, ◌∙◌, ℕ, true, List, sym, ap, subst}
use Rattle.crossing_codes.specs.declared.crossing.Crossing.{Crossing}
use Rattle.crossing_codes.specs.CodeColouring.{names_edges}
use Rattle.code_grids.specs.Renaming.{AreInverse, new_name, renamed}
use Rattle.code_grids.specs.Correspond.{KeepsNames, KeepRight}
use Rattle.code_grids.proofs.Renamed.{edges_from, same_crossing}

-- what is kept for each edge of a crossing is kept for the crossing
pub renamed_kept : (n : ℕ) (before after wanted : List ℕ) (x : Crossing) → KeepsNames n before after wanted → names_edges n x ≡ true
    → renamed before x ≡ renamed wanted x → renamed after x ≡ renamed wanted x
renamed_kept n before after wanted x keeps named same =
    let e = edges_from n x named in
    same_crossing (new_name after x.first) (new_name after x.second) (new_name after x.third) (new_name after x.fourth)
    (new_name wanted x.first) (new_name wanted x.second) (new_name wanted x.third) (new_name wanted x.fourth) x.positive
    (keeps x.first e.first (ap (λ (y : Crossing). y.first) same))
    (keeps x.second e.second (ap (λ (y : Crossing). y.second) same))
    (keeps x.third e.third (ap (λ (y : Crossing). y.third) same))
    (keeps x.fourth e.fourth (ap (λ (y : Crossing). y.fourth) same))

-- the four edges of a crossing get their names one after another
pub four_kept : (n : ℕ) (a b c d e wanted : List ℕ) → KeepsNames n a b wanted → KeepsNames n b c wanted → KeepsNames n c d wanted → KeepsNames n d e wanted
    → KeepsNames n a e wanted
four_kept n a b c d e wanted one two three four edge is same = four edge is (three edge is (two edge is (one edge is same)))

pub four_given : (n : ℕ) (b c d e wanted : List ℕ) (x y : Crossing) → names_edges n x ≡ true → renamed wanted x ≡ y
    → KeepsNames n b c wanted → KeepsNames n c d wanted → KeepsNames n d e wanted
    → new_name b x.first ≡ y.first → new_name c x.second ≡ y.second → new_name d x.third ≡ y.third → new_name e x.fourth ≡ y.fourth
    → renamed e x ≡ y
four_given n b c d e wanted x y named is two three four first second third fourth =
    let at = edges_from n x named in
    same_crossing (new_name e x.first) (new_name e x.second) (new_name e x.third) (new_name e x.fourth)
    (new_name wanted x.first) (new_name wanted x.second) (new_name wanted x.third) (new_name wanted x.fourth) x.positive
    (four x.first at.first (three x.first at.first (two x.first at.first (first ∙ sym (ap (λ (z : Crossing). z.first) is)))))
    (four x.second at.second (three x.second at.second (second ∙ sym (ap (λ (z : Crossing). z.second) is))))
    (four x.third at.third (third ∙ sym (ap (λ (z : Crossing). z.third) is)))
    (fourth ∙ sym (ap (λ (z : Crossing). z.fourth) is))
    ∙ is

-- what `name_edge` says of a list that is as long
pub kept_at : (n m : ℕ) (before after wanted back : List ℕ) (old new : ℕ) → m ≡ n → AreInverse n wanted back → new_name wanted old ≡ new
    → KeepRight m (λ asked. new_name asked old ≡ new) before after → KeepsNames n before after wanted
kept_at n m before after wanted back old new e w is keeps =
    subst (λ (k : ℕ). KeepsNames k before after wanted) e (keeps wanted back (subst (λ (k : ℕ). AreInverse k wanted back) (sym e) w) is)
