-- What is told of a walk is the same of each seed.
use Rattle.std.proofs.Common.{◌≡◌, ◌≤◌, ◌++◌, ◌∙◌, ℕ, List, length, codes, arith, refl, sym, ap, ap₂, subst}
use Rattle.std.specs.Fmt.{decimal, digits}
use Rattle.grid_core.specs.Diagram.{Diagram, size}
use Rattle.grid_moves.specs.declared.step.Move.{Move}
use Rattle.grid_moves.specs.Joining.{Joins, JoinsWithin, StopsAt, Equivalent}
use Rattle.grid_moves.proofs.Within.{within_joins, within_end}
use Rattle.grid_moves.proofs.Stopped.{joins_once, not_both}
use Rattle.grid_moves.specs.declared.step.MoveFault.{MoveFault}
use Rattle.quandle_core.specs.Quandle.{Table, IsQuandle}
use Rattle.quandle_core.specs.Tables.{trivial, dihedral, tetrahedral}
use Rattle.quandle_core.proofs.Linear.{trivial_is, dihedral_is, tetrahedral_is}
use Rattle.colour_list.specs.Listing.{colourings}
use Rattle.colour_laws.proofs.Counted.{equivalent_lengths}
use Rattle.search_jobs.specs.declared.walk.TheConstants.{TURNS, LARGEST}
use Rattle.grid_core.specs.Trefoils.{right_trefoil}
use Rattle.search_jobs.specs.Walk.{seed_words, generator_of, Walks}
use Rattle.search_jobs.specs.Text.{counts_text, walk_text, sample_text, TellsOfWalk}
use Rattle.search_jobs.proofs.Walked.{walk_length, walk_within, words_length}
use Rattle.search_jobs.proofs.Printed.{pair, counts, seed_line, walk_pieces, counts_by_name}

-- the numbers of colourings of the right trefoil
by_trivial_2 : length (colourings (trivial 2) right_trefoil) ≡ 2
by_trivial_2 = refl

by_dihedral_3 : length (colourings (dihedral 3) right_trefoil) ≡ 9
by_dihedral_3 = refl

by_tetrahedral : length (colourings tetrahedral right_trefoil) ≡ 16
by_tetrahedral = refl

by_dihedral_5 : length (colourings (dihedral 5) right_trefoil) ≡ 5
by_dihedral_5 = refl

by_dihedral_7 : length (colourings (dihedral 7) right_trefoil) ≡ 7
by_dihedral_7 = refl

-- both ends have this number of colourings
record Counts (d e : Diagram) (t : Table) (n : ℕ) : Type 0 where
  first : length (colourings t d) ≡ n
  last : length (colourings t e) ≡ n

counts_are : (d e : Diagram) (t : Table) (n : ℕ) (words : List ℕ) → Counts d e t n → counts t d e words ≡ pair words (decimal n) (decimal n)
counts_are d e t n words c =
    ap (λ (k : ℕ). pair words (decimal k) (decimal (length (colourings t e)))) c.first ∙ ap (λ (k : ℕ). pair words (decimal n) (decimal k)) c.last

counts_of_ends : (d e : Diagram) (t : Table) (n : ℕ) → IsQuandle t → Equivalent d e → length (colourings t d) ≡ n → Counts d e t n
counts_of_ends d e t n quandle equivalent first = record { first = first; last = sym (equivalent_lengths t quandle d e equivalent) ∙ first }

-- the lines of the counts
five_lines : pair (codes "trivial 2: ") (decimal 2) (decimal 2) ++ (pair (codes "dihedral 3: ") (decimal 9)
    (decimal 9) ++ (pair (codes "tetrahedral: ") (decimal 16)
    (decimal 16) ++ (pair (codes "dihedral 5: ") (decimal 5) (decimal 5) ++ pair (codes "dihedral 7: ") (decimal 7) (decimal 7))))
    ≡ codes "trivial 2: 2 2\ndihedral 3: 9 9\ntetrahedral: 16 16\ndihedral 5: 5 5\ndihedral 7: 7 7\n"
unfolding digits
five_lines = refl

behind_seed : (codes "moves " ++ (decimal TURNS ++ codes "\n"))
    ++ (codes "accepted\n" ++ codes "trivial 2: 2 2\ndihedral 3: 9 9\ntetrahedral: 16 16\ndihedral 5: 5 5\ndihedral 7: 7 7\n")
    ≡ codes "moves 200\naccepted\ntrivial 2: 2 2\ndihedral 3: 9 9\ntetrahedral: 16 16\ndihedral 5: 5 5\ndihedral 7: 7 7\n"
unfolding digits
behind_seed = refl

five_counts : (d e : Diagram) → Counts d e (trivial 2) 2 → Counts d e (dihedral 3) 9 → Counts d e tetrahedral 16 → Counts d e (dihedral 5) 5
    → Counts d e (dihedral 7) 7 → counts_text d e ≡ codes "trivial 2: 2 2\ndihedral 3: 9 9\ntetrahedral: 16 16\ndihedral 5: 5 5\ndihedral 7: 7 7\n"
five_counts d e one two three four five =
    counts_by_name d e
    ∙ ap₂ (λ (xs ys : List ℕ). xs ++ ys) (counts_are d e (trivial 2) 2 (codes "trivial 2: ") one)
    (ap₂ (λ (xs ys : List ℕ). xs ++ ys) (counts_are d e (dihedral 3) 9 (codes "dihedral 3: ") two)
    (ap₂ (λ (xs ys : List ℕ). xs ++ ys) (counts_are d e tetrahedral 16 (codes "tetrahedral: ") three)
    (ap₂ (λ (xs ys : List ℕ). xs ++ ys) (counts_are d e (dihedral 5) 5 (codes "dihedral 5: ") four)
    (counts_are d e (dihedral 7) 7 (codes "dihedral 7: ") five))))
    ∙ five_lines

equal_text : (seed : ℕ) (moves : List Move) (d e : Diagram) → length moves ≡ TURNS
    → counts_text d e ≡ codes "trivial 2: 2 2\ndihedral 3: 9 9\ntetrahedral: 16 16\ndihedral 5: 5 5\ndihedral 7: 7 7\n"
    → walk_text seed moves d e ≡ sample_text seed
equal_text seed moves d e count lines =
    walk_pieces seed moves d e
    ∙ ap (λ (k : ℕ). (codes "sample " ++ (decimal seed ++ codes "\n"))
    ++ ((codes "moves " ++ (decimal k ++ codes "\n")) ++ (codes "accepted\n" ++ counts_text d e))) count
    ∙ ap (λ (zs : List ℕ). (codes "sample " ++ (decimal seed ++ codes "\n"))
    ++ ((codes "moves " ++ (decimal TURNS ++ codes "\n")) ++ (codes "accepted\n" ++ zs))) lines
    ∙ ap₂ (λ (xs ys : List ℕ). xs ++ ys) (sym (seed_line (decimal seed))) behind_seed

equivalent_text : (seed : ℕ) (moves : List Move) (d e : Diagram) → length moves ≡ TURNS → Equivalent d e → length (colourings (trivial 2) d) ≡ 2
    → length (colourings (dihedral 3) d) ≡ 9 → length (colourings tetrahedral d) ≡ 16 → length (colourings (dihedral 5) d) ≡ 5
    → length (colourings (dihedral 7) d) ≡ 7 → walk_text seed moves d e ≡ sample_text seed
equivalent_text seed moves d e count equivalent one two three four five =
    equal_text seed moves d e count
    (five_counts d e (counts_of_ends d e (trivial 2) 2 (trivial_is 2 (omega arith)) equivalent one)
    (counts_of_ends d e (dihedral 3) 9 (dihedral_is 3 (omega arith)) equivalent two)
    (counts_of_ends d e tetrahedral 16 tetrahedral_is equivalent three)
    (counts_of_ends d e (dihedral 5) 5 (dihedral_is 5 (omega arith)) equivalent four)
    (counts_of_ends d e (dihedral 7) 7 (dihedral_is 7 (omega arith)) equivalent five))

pub same_text : (seed : ℕ) (moves : List Move) (last : Diagram) → Walks right_trefoil (seed_words seed) moves last
    → walk_text seed moves right_trefoil last ≡ sample_text seed
same_text seed moves last walk =
    let joined : Joins right_trefoil moves last =
    within_joins LARGEST moves right_trefoil last (walk_within (seed_words seed) moves right_trefoil last (omega arith) walk) in
    equivalent_text seed moves right_trefoil last (walk_length (seed_words seed) moves right_trefoil last walk ∙ words_length TURNS (generator_of seed))
    (moves, joined) by_trivial_2 by_dihedral_3 by_tetrahedral by_dihedral_5 by_dihedral_7

pub told_same : (seed : ℕ) (text : List ℕ) → TellsOfWalk seed text → text ≡ sample_text seed
told_same seed text t = t.told ∙ same_text seed t.moves t.last t.walk

-- what is known where the moves of a walk were made from the right trefoil
pub record Found (seed : ℕ) (moves : List Move) (last : Diagram) : Type 0 where
  pub walk : Walks right_trefoil (seed_words seed) moves last
  pub joined : Joins right_trefoil moves last
  pub small : size last ≤ LARGEST

pub walk_found : (seed : ℕ) (moves made : List Move) (first last : Diagram)
    → (e : Diagram) × (Walks right_trefoil (seed_words seed) moves e × JoinsWithin LARGEST right_trefoil moves e) → first ≡ right_trefoil → made ≡ moves
    → Joins first made last → Found seed moves last
walk_found seed moves made first last known start same joined =
    let joins : Joins right_trefoil moves last =
    subst (λ (d : Diagram). Joins d moves last) start (subst (λ (ms : List Move). Joins first ms last) same joined) in
    let end : known.0 ≡ last = joins_once moves right_trefoil known.0 last (within_joins LARGEST moves right_trefoil known.0 known.1.1) joins in
    record {
      walk = subst (λ (d : Diagram). Walks right_trefoil (seed_words seed) moves d) end known.1.0;
      joined = joins;
      small = subst (λ (d : Diagram). size d ≤ LARGEST) end (within_end LARGEST moves right_trefoil known.0 known.1.1);
    }

-- they do not stop
pub walk_goes_on : (seed : ℕ) (moves made : List Move) (first : Diagram) (place : ℕ) (fault : MoveFault)
    → (e : Diagram) × (Walks right_trefoil (seed_words seed) moves e × JoinsWithin LARGEST right_trefoil moves e) → first ≡ right_trefoil → made ≡ moves
    → StopsAt first made place fault → ⊥
walk_goes_on seed moves made first place fault known start same stops =
    not_both moves right_trefoil known.0 place fault
    (subst (λ (d : Diagram). StopsAt d moves place fault) start (subst (λ (ms : List Move). StopsAt first ms place fault) same stops))
    (within_joins LARGEST moves right_trefoil known.0 known.1.1)

pub walk_told : (seed : ℕ) (moves made : List Move) (first last : Diagram) (text : List ℕ) → first ≡ right_trefoil → made ≡ moves
    → Found seed moves last → text ≡ walk_text seed made first last → TellsOfWalk seed text
walk_told seed moves made first last text start same found is = record {
  moves = moves;
  last = last;
  walk = found.walk;
  ruling = found.joined;
  told = is ∙ ap (λ (d : Diagram). walk_text seed made d last) start ∙ ap (λ (ms : List Move). walk_text seed ms right_trefoil last) same;
}
