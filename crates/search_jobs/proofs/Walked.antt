-- Walks, and the words that they follow.
use Rattle.std.proofs.Common.{◌≡◌, ◌<◌, ◌≤◌, ◌+◌, ◌-◌, ◌%◌, ◌∷◌, ◌++◌, ◌∙◌, [], ℕ, zero, suc, List, length, get_or, Some, arith, sym, refl}
use Rattle.std.proofs.Common.{ap, ap₂, subst, append_assoc}
use Rattle.std.proofs.lemmas.Option.{slice_get-get_or}
use Rattle.rand_pcg.specs.Lcg.{Lcg}
use Rattle.rand_pcg.specs.Pcg.{pcg32}
use Rattle.grid_core.specs.Diagram.{Diagram, IsGrid, size}
use Rattle.grid_moves.specs.declared.step.Move.{Move}
use Rattle.grid_moves.specs.declared.step.Move.TheVariants.{ShiftColumns}
use Rattle.grid_moves.specs.Step.{Step}
use Rattle.grid_moves.specs.Joining.{JoinsWithin}
use Rattle.grid_moves.proofs.OneResult.{step_exists, step_once}
use Rattle.search_jobs.specs.declared.walk.TheConstants.{LARGEST}
use Rattle.search_jobs.specs.Candidates.{candidate_moves}
use Rattle.search_jobs.specs.Walk.{generator_words, Picks, Walks}
use Rattle.search_jobs.proofs.Picked.{candidate_legal, candidate_small, pick_contained, some_candidates}

-- the words of a generator, one by one
next_words : (k : ℕ) (g : Lcg) (w : ℕ) (next : Lcg) → (w, next) ≡ pcg32 g → generator_words (suc k) g ≡ w ∷ generator_words k next
unfolding generator_words
next_words k g w next is = ap (λ (p : ℕ × Lcg). p.0 ∷ generator_words k p.1) (sym is)

pub words_left : (n i : ℕ) (g : Lcg) (w : ℕ) (next : Lcg) → i < n → (w, next) ≡ pcg32 g → generator_words (n - i) g ≡ w ∷ generator_words (n - (i + 1)) next
words_left n i g w next lt is =
    let more : n - i ≡ suc (n - (i + 1)) = omega (arith, lt) in
    ap (λ (k : ℕ). generator_words k g) more ∙ next_words (n - (i + 1)) g w next is

no_words : (g : Lcg) → generator_words 0 g ≡ []
unfolding generator_words
no_words g = refl

pub no_words_left : (n i : ℕ) (g : Lcg) → n ≤ i → generator_words (n - i) g ≡ []
no_words_left n i g le =
    let none : n - i ≡ 0 = omega (arith, le) in
    ap (λ (k : ℕ). generator_words k g) none ∙ no_words g

pub words_length : (n : ℕ) (g : Lcg) → length (generator_words n g) ≡ n
unfolding generator_words
words_length zero g = refl
words_length (suc n) g = ap suc (words_length n (pcg32 g).1)

-- one more turn of a walk
pub walked_more : (all left more : List ℕ) (w : ℕ) (start here next : Diagram) (moves : List Move) (step : Move)
    → ((rest : List Move) (last : Diagram) → Walks here left rest last → Walks start all (moves ++ rest) last) → left ≡ w ∷ more → Picks here w step
    → Step here step next → (rest : List Move) (last : Diagram) → Walks next more rest last → Walks start all ((moves ++ step ∷ []) ++ rest) last
walked_more all left more w start here next moves step walked is picks made rest last on =
    subst (λ ms. Walks start all ms last) (sym (append_assoc moves (step ∷ []) rest))
    (walked (step ∷ rest) last (subst (λ ws. Walks here ws (step ∷ rest) last) (sym is) (picks, (next, (made, on)))))

-- a walk has a move for each word
pub walk_length : (ws : List ℕ) (moves : List Move) (d e : Diagram) → Walks d ws moves e → length moves ≡ length ws
walk_length [] [] d e walk = refl
walk_length [] (move ∷ moves) d e walk = absurd walk
walk_length (w ∷ ws) [] d e walk = absurd walk
walk_length (w ∷ ws) (move ∷ moves) d e walk = ap suc (walk_length ws moves walk.1.0 e walk.1.1.1)

-- its moves lead from one end to the other, and no diagram on the way is too large
pub walk_within : (ws : List ℕ) (moves : List Move) (d e : Diagram) → size d ≤ LARGEST → Walks d ws moves e → JoinsWithin LARGEST d moves e
walk_within [] [] d e small walk = (small, walk)
walk_within [] (move ∷ moves) d e small walk = absurd walk
walk_within (w ∷ ws) [] d e small walk = absurd walk
walk_within (w ∷ ws) (move ∷ moves) d e small walk =
    let f : Diagram = walk.1.0 in
    let step : Step d move f = walk.1.1.0 in
    (small, (f, (step, walk_within ws moves f e (candidate_small d move f (pick_contained d w move walk.0) step) walk.1.1.1)))

-- some move is picked
some_pick : (d : Diagram) (w : ℕ) → IsGrid d → size d ≤ LARGEST → (move : Move) × Picks d w move
some_pick d w grid small =
    let some = some_candidates d grid small in
    let below : w % length (candidate_moves d) < length (candidate_moves d) = omega (arith, some) in (
      get_or (candidate_moves d) (w % length (candidate_moves d)) (ShiftColumns 1),
      slice_get-get_or (candidate_moves d) (w % length (candidate_moves d))
          (ShiftColumns 1) below,
    )

-- each list of words has a walk, and no two
pub some_walk : (ws : List ℕ) (d : Diagram) → IsGrid d → size d ≤ LARGEST → (moves : List Move) × ((e : Diagram) × Walks d ws moves e)
some_walk [] d grid small = ([], (d, refl))
some_walk (w ∷ ws) d grid small =
    let picked = some_pick d w grid small in
    let candidate = pick_contained d w picked.0 picked.1 in
    let made = step_exists d picked.0 grid (candidate_legal d picked.0 candidate) in
    let rest = some_walk ws made.0 made.1.after (candidate_small d picked.0 made.0 candidate made.1) in
    (picked.0 ∷ rest.0, (rest.1.0, (picked.1, (made.0, (made.1, rest.1.1)))))

pub same_walk : (ws : List ℕ) (moves moves' : List Move) (d e e' : Diagram) → Walks d ws moves e → Walks d ws moves' e' → (moves ≡ moves') × (e ≡ e')
same_walk [] [] [] d e e' one two = (refl, sym one ∙ two)
same_walk [] (move ∷ moves) moves' d e e' one two = absurd one
same_walk [] [] (move ∷ moves) d e e' one two = absurd two
same_walk (w ∷ ws) [] moves' d e e' one two = absurd one
same_walk (w ∷ ws) (move ∷ moves) [] d e e' one two = absurd two
same_walk (w ∷ ws) (move ∷ moves) (move' ∷ moves') d e e' one two =
    let some : Some move ≡ Some move' = sym one.0 ∙ two.0 in
    let same : move ≡ move' = cc in
    let f : one.1.0 ≡ two.1.0 = step_once d move one.1.0 two.1.0 one.1.1.0 (subst (λ m. Step d m two.1.0) (sym same) two.1.1.0) in
    let rest = same_walk ws moves moves' one.1.0 e e' one.1.1.1 (subst (λ g. Walks g ws moves' e') (sym f) two.1.1.1) in
    (ap₂ (λ m ms. m ∷ ms) same rest.0, rest.1)
