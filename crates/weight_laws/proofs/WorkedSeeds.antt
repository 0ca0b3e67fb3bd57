-- Worked examples: plans of the unknot of two columns, of two rings and of the right trefoil, read off the diagrams by hand, with what they leave, by
-- computing; and that the first column of the trefoil settles the fourth alone.
use Rattle.std.proofs.Common.{◌≡◌, ◌<◌, ◌∙◌, ◌==◌, ◌||◌, ℕ, zero, suc, List, [], ◌∷◌, Bool, true, false, None, length, replicate, refl, sym, ap, arith}
use Rattle.std.specs.List.{range_with_len, list_all}
use Rattle.std.proofs.lemmas.Bool.{both_ways}
use Rattle.std.proofs.lemmas.List.Elements.{All-head, All-tail, All-cons, All-nil}
use Rattle.std.proofs.lemmas.List.FromFn.{get_or-range_with_len, length-range_with_len}
use Rattle.std.proofs.lemmas.List.Sums.{AllPass-from_list_all}
use Rattle.grid_core.specs.declared.grid.TheConstants.{MAX_SIZE}
use Rattle.grid_core.specs.Diagram.{Diagram, size}
use Rattle.grid_core.specs.Trefoils.{right_trefoil}
use Rattle.grid_laws.proofs.WorkedDiagrams.{unknot}
use Rattle.grid_core.specs.Parts.{ends}
use Rattle.quandle_core.specs.Tables.{trivial, dihedral, tetrahedral}
use Rattle.colour_seeds.specs.declared.progress.Step.{Step}
use Rattle.colour_seeds.specs.declared.progress.Step.TheVariants.{Seed, Rightward, Leftward, Test}
use Rattle.colour_seeds.specs.declared.progress.SeedProgress.{SeedProgress}
use Rattle.colour_seeds.specs.Settled.{HasOvers, IsSettled}
use Rattle.colour_seeds.specs.Plan.{LeadsBySteps, IsPlan, progress_after, is_known, is_read, next_step, nothing, seed_columns, seeds_in}
use Rattle.colour_seeds.specs.FewWays.{few_ways}
use Rattle.colour_seeds.specs.Leaves.{leaves}

-- a plan by tests that compute
passes : (p : ℕ → Bool) (n : ℕ) → list_all p (range_with_len 0 n) ≡ true → (k : ℕ) → k < n → (a : ℕ) → a ≡ k → p a ≡ true
passes p n all k lt a is =
    ap p (is ∙ sym (get_or-range_with_len 0 n k 0 lt ∙ omega arith))
    ∙ AllPass-from_list_all p (range_with_len 0 n) all k 0 (omega (arith, lt, length-range_with_len 0 n))

plan_by : (d : Diagram) (steps : List Step) (last : SeedProgress) → LeadsBySteps d nothing steps last
    → list_all (is_known last) (range_with_len 0 (size d)) ≡ true
    → list_all (is_read last) (range_with_len 0 (size d)) ≡ true → IsPlan d steps
plan_by d steps last leads known read = record {
  last = last;
  leads = leads;
  known = λ c lt. passes (is_known last) (size d) known c lt c refl;
  read = λ r lt. passes (is_read last) (size d) read r lt r refl;
}

-- behind the steps
abbrev behind_all : Diagram → SeedProgress → List Step → SeedProgress
behind_all d g [] = g
behind_all d g (s ∷ steps) = behind_all d (progress_after d g s) steps

-- one seed is enough for the unknot
abbrev unknot_plan : List Step
unknot_plan = Seed 0 ∷ Rightward 0 ∷ Test 1 ∷ []

unknot_is : IsPlan unknot unknot_plan
unknot_is = plan_by unknot unknot_plan (behind_all unknot nothing unknot_plan)
    ((omega arith, refl), ((omega arith, refl), ((omega arith, refl), refl))) refl refl

unknot_leaves : leaves (dihedral 3) unknot unknot_plan (0 ∷ 0 ∷ []) ≡ (0 ∷ 0 ∷ []) ∷ (1 ∷ 1 ∷ []) ∷ (2 ∷ 2 ∷ []) ∷ []
unknot_leaves = refl

-- two rings, one beside the other, need two
abbrev two_rings : Diagram
two_rings = record { x = 0 ∷ 1 ∷ 2 ∷ 3 ∷ []; o = 1 ∷ 0 ∷ 3 ∷ 2 ∷ [] }

abbrev rings_plan : List Step
rings_plan = Seed 0 ∷ Rightward 0 ∷ Test 1 ∷ Seed 3 ∷ Leftward 2 ∷ Test 3 ∷ []

rings_are : IsPlan two_rings rings_plan
rings_are =
    plan_by two_rings rings_plan (behind_all two_rings nothing rings_plan)
    ((omega arith, refl), ((omega arith, refl), ((omega arith, refl), ((omega arith, refl), ((omega arith, refl), ((omega arith, refl), refl)))))) refl refl

rings_seeds : seed_columns rings_plan ≡ 0 ∷ 3 ∷ []
rings_seeds = refl

rings_stuck : next_step two_rings (behind_all two_rings nothing (Seed 0 ∷ Rightward 0 ∷ Test 1 ∷ [])) ≡ None
rings_stuck = refl

rings_leaves : leaves (trivial 2) two_rings rings_plan (0 ∷ 0 ∷ 0 ∷ 0 ∷ []) ≡ (0 ∷ 0 ∷ 0 ∷ 0 ∷ []) ∷ (0 ∷ 0 ∷ 1 ∷ 1 ∷ []) ∷ (1 ∷ 1 ∷ 0 ∷ 0 ∷ [])
    ∷ (1 ∷ 1 ∷ 1 ∷ 1 ∷ []) ∷ []
rings_leaves = refl

-- two seeds of the right trefoil: row 4 joins the columns 0 and 3; under column 1, row 2 then joins 0 and 2; row 0 joins 2 and 4
abbrev trefoil_plan : List Step
trefoil_plan = Seed 0 ∷ Rightward 4 ∷ Seed 1 ∷ Rightward 2 ∷ Rightward 0 ∷ Test 1 ∷ Test 3 ∷ []

trefoil_is : IsPlan right_trefoil trefoil_plan
trefoil_is =
    plan_by right_trefoil trefoil_plan (behind_all right_trefoil nothing trefoil_plan) (
      (omega arith, refl),
      (
        (omega arith, refl),
        ((omega arith, refl), ((omega arith, refl), ((omega arith, refl), ((omega arith, refl), ((omega arith, refl), refl))))),
      ),
    ) refl refl

trefoil_leaves : leaves (dihedral 3) right_trefoil trefoil_plan (0 ∷ 0 ∷ 0 ∷ 0 ∷ 0 ∷ []) ≡ (0 ∷ 0 ∷ 0 ∷ 0 ∷ 0 ∷ []) ∷ (0 ∷ 1 ∷ 2 ∷ 0 ∷ 2 ∷ [])
    ∷ (0 ∷ 2 ∷ 1 ∷ 0 ∷ 1 ∷ []) ∷ (1 ∷ 0 ∷ 2 ∷ 1 ∷ 2 ∷ []) ∷ (1 ∷ 1 ∷ 1 ∷ 1 ∷ 1 ∷ []) ∷ (1 ∷ 2 ∷ 0 ∷ 1 ∷ 0 ∷ []) ∷ (2 ∷ 0 ∷ 1 ∷ 2 ∷ 1 ∷ [])
    ∷ (2 ∷ 1 ∷ 0 ∷ 2 ∷ 0 ∷ []) ∷ (2 ∷ 2 ∷ 2 ∷ 2 ∷ 2 ∷ []) ∷ []
trefoil_leaves = refl

trefoil_numbers : length (leaves tetrahedral right_trefoil trefoil_plan (replicate MAX_SIZE 0))
    ∷ length (leaves (dihedral 5) right_trefoil trefoil_plan (replicate MAX_SIZE 0))
    ∷ [] ≡ 16 ∷ 5 ∷ []
trefoil_numbers = refl

-- 2 ^ 21 choices fit, 2 ^ 22 don't
abbrev so_many : ℕ → List Step
so_many zero = []
so_many (suc n) = Seed n ∷ so_many n

most_fit : few_ways (trivial 2) (seeds_in (so_many 21)) ≡ true
most_fit = refl

more_do_not : few_ways (trivial 2) (seeds_in (so_many 22)) ≡ false
more_do_not = refl

-- column 2 of the trefoil is settled by the columns 0 and 1: row 2 goes from column 0 to it, under column 1 alone
settled_two : IsSettled right_trefoil (0 ∷ 1 ∷ []) 2
settled_two p closed has =
    let first = All-head (λ s. p s ≡ true) 0 (1 ∷ []) has in
    let second = All-head (λ s. p s ≡ true) 1 [] (All-tail (λ s. p s ≡ true) 0 (1 ∷ []) has) in
    closed.rightward 2 (omega arith) (overs second) first
  where
    overs : p 1 ≡ true → HasOvers right_trefoil p 2
    overs at zero lt over = absurd (both_ways false refl over)
    overs at (suc zero) lt over = at
    overs at (suc (suc zero)) lt over = absurd (both_ways false refl over)
    overs at (suc (suc (suc zero))) lt over = absurd (both_ways false refl over)
    overs at (suc (suc (suc (suc zero)))) lt over = absurd (both_ways false refl over)
    overs at (suc (suc (suc (suc (suc c))))) lt over = absurd (omega arith)

-- column 0 doesn't settle column 1: the columns 0 and 3 are closed
abbrev of_first : ℕ → Bool
of_first c = (c == 0) || (c == 3)

first_rightward : (r : ℕ) → r < 5 → HasOvers right_trefoil of_first r → of_first (ends right_trefoil r).low ≡ true → of_first (ends right_trefoil r).high ≡ true
first_rightward zero lt has at = absurd (both_ways false refl at)
first_rightward (suc zero) lt has at = absurd (both_ways false refl at)
first_rightward (suc (suc zero)) lt has at = absurd (both_ways false refl (has 1 (omega arith) refl))
first_rightward (suc (suc (suc zero))) lt has at = absurd (both_ways false refl at)
first_rightward (suc (suc (suc (suc zero)))) lt has at = refl
first_rightward (suc (suc (suc (suc (suc r))))) lt has at = absurd (omega arith)

first_leftward : (r : ℕ) → r < 5 → HasOvers right_trefoil of_first r → of_first (ends right_trefoil r).high ≡ true → of_first (ends right_trefoil r).low ≡ true
first_leftward zero lt has at = absurd (both_ways false refl at)
first_leftward (suc zero) lt has at = absurd (both_ways false refl (has 2 (omega arith) refl))
first_leftward (suc (suc zero)) lt has at = absurd (both_ways false refl at)
first_leftward (suc (suc (suc zero))) lt has at = absurd (both_ways false refl at)
first_leftward (suc (suc (suc (suc zero)))) lt has at = refl
first_leftward (suc (suc (suc (suc (suc r))))) lt has at = absurd (omega arith)

first_alone : IsSettled right_trefoil (0 ∷ []) 1 → ⊥
first_alone settled =
    both_ways false refl
    (settled of_first (record { rightward = first_rightward; leftward = first_leftward })
    (All-cons (λ s. of_first s ≡ true) 0 [] refl (All-nil (λ s. of_first s ≡ true))))
