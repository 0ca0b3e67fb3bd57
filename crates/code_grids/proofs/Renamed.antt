-- Renamings that undo each other.
use Rattle.std.proofs.Common.{◌≡◌, ◌<◌, ◌≤◌, ◌+◌, ◌-◌, ◌∙◌, ◌&&◌, ℕ, Bool, true, List, length, get_or, sym, ap, subst, arith}
use Rattle.std.specs.Prelude.{nat_le}
use Rattle.std.specs.List.{All}
use Rattle.std.proofs.lemmas.Bool.{and_parts, and_from, leb-true, le-leb}
use Rattle.std.proofs.lemmas.List.Elements.{All-get_or}
use Rattle.crossing_codes.specs.declared.crossing.Code.{Code}
use Rattle.crossing_codes.specs.declared.crossing.Crossing.{Crossing}
use Rattle.crossing_codes.specs.CodeColouring.{is_edge, names_edges}
use Rattle.code_grids.specs.declared.renaming.Renaming.{Renaming}
use Rattle.code_grids.specs.Renaming.{AreInverse, new_name, renamed, IsSame, IsRenaming, IsRenamingBy}
use Rattle.code_grids.specs.Correspond.{Correspond}
use Rattle.code_grids.proofs.Undone.{turned_over}

-- what is known of an edge
pub edge_from : (n e : ℕ) → is_edge n e ≡ true → (1 ≤ e) × (e ≤ n)
edge_from n e h = let parts = and_parts (nat_le 1 e) (nat_le e n) h in (leb-true 1 e parts.0, leb-true e n parts.1)

pub edge_test : (n e : ℕ) → 1 ≤ e → e ≤ n → is_edge n e ≡ true
edge_test n e low high = and_from (nat_le 1 e) (nat_le e n) (le-leb 1 e low) (le-leb e n high)

pub record AreEdges (n : ℕ) (x : Crossing) : Type 0 where
  pub first : is_edge n x.first ≡ true
  pub second : is_edge n x.second ≡ true
  pub third : is_edge n x.third ≡ true
  pub fourth : is_edge n x.fourth ≡ true

pub edges_from : (n : ℕ) (x : Crossing) → names_edges n x ≡ true → AreEdges n x
edges_from n x h =
    let a = and_parts (is_edge n x.first && is_edge n x.second && is_edge n x.third) (is_edge n x.fourth) h in
    let b = and_parts (is_edge n x.first && is_edge n x.second) (is_edge n x.third) a.0 in
    let c = and_parts (is_edge n x.first) (is_edge n x.second) b.0 in
    record { first = c.0; second = c.1; third = b.1; fourth = a.1 }

pub edges_test : (n : ℕ) (x : Crossing) → AreEdges n x → names_edges n x ≡ true
edges_test n x e =
    and_from (is_edge n x.first && is_edge n x.second && is_edge n x.third) (is_edge n x.fourth)
    (and_from (is_edge n x.first && is_edge n x.second) (is_edge n x.third)
    (and_from (is_edge n x.first) (is_edge n x.second) e.first e.second) e.third) e.fourth

-- the new name of an edge is an edge, and back again it is the edge
pub name_is_edge : (n : ℕ) (there back : List ℕ) (e : ℕ) → AreInverse n there back → is_edge n e ≡ true → is_edge n (new_name there e) ≡ true
name_is_edge n there back e i h =
    let known = edge_from n e h in
    let long = i.long in
    let as_long = i.as_long in
    let low = known.0 in
    let high = known.1 in
    let at = i.undone (e - 1) (omega arith) in
    let below = at.0 in
    edge_test n (new_name there e) (omega arith) (omega arith)

pub name_back : (n : ℕ) (there back : List ℕ) (e : ℕ) → AreInverse n there back → is_edge n e ≡ true → new_name back (new_name there e) ≡ e
name_back n there back e i h =
    let known = edge_from n e h in
    let long = i.long in
    let low = known.0 in
    let high = known.1 in
    let at = i.undone (e - 1) (omega arith) in
    let same : get_or there (e - 1) 0 + 1 - 1 ≡ get_or there (e - 1) 0 = omega arith in
    ap (λ (k : ℕ). get_or back k 0 + 1) same ∙ (ap (λ (k : ℕ). k + 1) at.1 ∙ omega arith)

pub renamed_edges : (n : ℕ) (there back : List ℕ) (x : Crossing) → AreInverse n there back → names_edges n x ≡ true → names_edges n (renamed there x) ≡ true
renamed_edges n there back x i h =
    let e = edges_from n x h in
    edges_test n (renamed there x) (record {
      first = name_is_edge n there back x.first i e.first;
      second = name_is_edge n there back x.second i e.second;
      third = name_is_edge n there back x.third i e.third;
      fourth = name_is_edge n there back x.fourth i e.fourth;
    })

-- crossings with equal parts are equal
pub same_crossing : (a b c d a' b' c' d' : ℕ) (positive : Bool) → a ≡ a' → b ≡ b' → c ≡ c' → d ≡ d'
    → (let x : Crossing = record { first = a; second = b; third = c; fourth = d; positive = positive } in x)
    ≡ (let x : Crossing = record { first = a'; second = b'; third = c'; fourth = d'; positive = positive } in x)
same_crossing a b c d a' b' c' d' positive ea eb ec ed =
    ap (λ (k : ℕ). let x : Crossing = record { first = k; second = b; third = c; fourth = d; positive = positive } in x) ea
    ∙ (ap (λ (k : ℕ). let x : Crossing = record { first = a'; second = k; third = c; fourth = d; positive = positive } in x) eb
    ∙ (ap (λ (k : ℕ). let x : Crossing = record { first = a'; second = b'; third = k; fourth = d; positive = positive } in x) ec
    ∙ ap (λ (k : ℕ). let x : Crossing = record { first = a'; second = b'; third = c'; fourth = k; positive = positive } in x) ed))

pub renamed_twice : (n : ℕ) (there back : List ℕ) (x : Crossing) → AreInverse n there back → names_edges n x ≡ true → renamed back (renamed there x) ≡ x
renamed_twice n there back x i h =
    let e = edges_from n x h in
    same_crossing (new_name back (new_name there x.first)) (new_name back (new_name there x.second))
    (new_name back (new_name there x.third)) (new_name back (new_name there x.fourth))
    x.first x.second x.third x.fourth x.positive
    (name_back n there back x.first i e.first) (name_back n there back x.second i e.second)
    (name_back n there back x.third i e.third) (name_back n there back x.fourth i e.fourth)

-- the renaming that undoes a renaming
abbrev pub undoing : Renaming → Renaming
undoing r = record { crossings = r.crossings_back; crossings_back = r.crossings; edges = r.edges_back; edges_back = r.edges }

-- crossing k of the second code is the renamed crossing that gets its place
pub comes_from : (one two : Code) (r : Renaming) → IsRenaming one two r → (k : ℕ) (d : Crossing) → k < length two.crossings
    → (get_or r.crossings_back k 0 < length one.crossings)
    × (renamed r.edges (get_or one.crossings (get_or r.crossings_back k 0) d) ≡ get_or two.crossings k d)
comes_from one two r i k d lt =
    let n = i.as_many_crossings in
    let long = i.crossings.long in
    let as_long = i.crossings.as_long in
    let at = i.crossings.redone k (omega arith) in
    let below = at.0 in
    let inside : get_or r.crossings_back k 0 < length one.crossings = omega arith in
    (inside, i.same (get_or r.crossings_back k 0) inside d ∙ ap (λ (j : ℕ). get_or two.crossings j d) at.1)

pub renamed_back : (one two : Code) (r : Renaming) → IsRenaming one two r → IsRenaming two one (undoing r)
renamed_back one two r i =
    let over = turned_over one.edges r.edges r.edges_back i.edges in
    let places = turned_over (length one.crossings) r.crossings r.crossings_back i.crossings in
    let named : (k : ℕ) (d : Crossing) → k < length one.crossings → names_edges one.edges (get_or one.crossings k d) ≡ true =
    λ k d lt. All-get_or (λ x. names_edges one.edges x ≡ true) one.crossings k d lt i.named in
    record {
      crossings = subst (λ n. AreInverse n r.crossings_back r.crossings) (sym i.as_many_crossings) places;
      edges = subst (λ n. AreInverse n r.edges_back r.edges) (sym i.as_many_edges) over;
      as_many_crossings = sym i.as_many_crossings;
      as_many_edges = sym i.as_many_edges;
      as_many_loops = sym i.as_many_loops;
      named = λ k d lt.
          let from = comes_from one two r i k d lt in
          ap (λ n. names_edges n (get_or two.crossings k d)) i.as_many_edges
          ∙ (ap (names_edges one.edges) (sym from.1)
          ∙ renamed_edges one.edges r.edges r.edges_back (get_or one.crossings (get_or r.crossings_back k 0) d) i.edges
          (named (get_or r.crossings_back k 0) d from.0));
      same = λ k lt d.
          let from = comes_from one two r i k d lt in
          ap (renamed r.edges_back) (sym from.1)
          ∙ renamed_twice one.edges r.edges r.edges_back (get_or one.crossings (get_or r.crossings_back k 0) d) i.edges
          (named (get_or r.crossings_back k 0) d from.0);
    }

-- what a renaming shows of the codes
pub corresponds : (one two : Code) (crossings : List ℕ) (r : Renaming) → IsRenamingBy one two crossings r → Correspond one two crossings
corresponds one two crossings r i =
    let back = renamed_back one two r i.0 in
    record {
      as_many_crossings = i.0.as_many_crossings;
      as_many_edges = i.0.as_many_edges;
      as_many_loops = i.0.as_many_loops;
      long = ap (λ (xs : List ℕ). length xs) (sym i.1) ∙ i.0.crossings.long;
      named = i.0.named;
      named_too = subst (λ (n : ℕ). All (λ x. names_edges n x ≡ true) two.crossings) i.0.as_many_edges back.named;
    }

-- equal lists are as good
pub same_of : (names crossings names' crossings' : List ℕ) (ones twos ones' twos' : List Crossing) → names ≡ names' → crossings ≡ crossings' → ones ≡ ones'
    → twos ≡ twos' → IsSame names crossings ones twos → IsSame names' crossings' ones' twos'
same_of names crossings names' crossings' ones twos ones' twos' a b c d same =
    subst (λ (xs : List ℕ). IsSame xs crossings' ones' twos') a
    (subst (λ (xs : List ℕ). IsSame names xs ones' twos') b
    (subst (λ (xs : List Crossing). IsSame names crossings xs twos') c (subst (λ (xs : List Crossing). IsSame names crossings ones xs) d same)))

pub inverse_of : (n m : ℕ) (there back there' back' : List ℕ) → n ≡ m → there ≡ there' → back ≡ back' → AreInverse n there back → AreInverse m there' back'
inverse_of n m there back there' back' a b c i =
    subst (λ (k : ℕ). AreInverse k there' back') a
    (subst (λ (xs : List ℕ). AreInverse n xs back') b (subst (λ (ys : List ℕ). AreInverse n there ys) c i))

-- what makes a renaming
pub made : (one two : Code) (r : Renaming) (crossings : List ℕ) → Correspond one two crossings → r.crossings ≡ crossings
    → AreInverse (length crossings) r.crossings r.crossings_back → AreInverse one.edges r.edges r.edges_back
    → IsSame r.edges r.crossings one.crossings two.crossings → IsRenamingBy one two crossings r
made one two r crossings c is there edges same = (
  record {
    crossings = subst (λ (n : ℕ). AreInverse n r.crossings r.crossings_back) c.long there;
    edges = edges;
    as_many_crossings = c.as_many_crossings;
    as_many_edges = c.as_many_edges;
    as_many_loops = c.as_many_loops;
    named = c.named;
    same = same;
  },
  is,
)
