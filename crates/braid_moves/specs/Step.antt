-- Steps from one braid word to another: the relations of Artin (1947), conjugation, and the moves of Markov (1936).
-- Letters are counted from 0. Each step is said for all words; `Fault` says on which words it is legal.
use Rattle.std.specs.Prelude.{ℕ, ◌+◌, ◌-◌, ℤ, pos, neg_ℤ, Bool, true, false, List, [], ◌∷◌, ◌++◌, length, take, drop, slice_index_or}
use Rattle.braid_core.specs.Braid.{Word}
use Rattle.braid_moves.specs.declared.step.BraidMove.{BraidMove}
use Rattle.braid_moves.specs.declared.step.BraidMove.TheVariants.{Far, Triple, Cancel, Insert, Turn, Grow, Shrink}

-- letter p of a word, and 0 where it has none
abbrev pub letter_at : Word → ℕ → ℤ
letter_at w p = slice_index_or w.letters p (pos 0)

-- the positive or the negative crossing of the strands at positions m and m+1
abbrev pub letter_of_crossing : ℕ → Bool → ℤ
letter_of_crossing m true = pos m
letter_of_crossing m false = neg_ℤ (pos m)

-- other letters of the same strands
abbrev pub with_letters : Word → List ℤ → Word
with_letters w letters = record { strands = w.strands; letters = letters }

-- the word after a step
abbrev pub moved : Word → BraidMove → Word
-- letters p and p+1 trade places
moved w (Far p) = with_letters w (take p w.letters ++ letter_at w (p + 1) ∷ letter_at w p ∷ drop (p + 2) w.letters)
-- a, b, a from place p on become b, a, b
moved w (Triple p) = with_letters w (take p w.letters ++ letter_at w (p + 1) ∷ letter_at w p ∷ letter_at w (p + 1) ∷ drop (p + 3) w.letters)
-- letters p and p+1 go
moved w (Cancel p) = with_letters w (take p w.letters ++ drop (p + 2) w.letters)
-- a letter and then its negative stand before the old letter of this place, or at the end
moved w (Insert place a) = with_letters w (take place w.letters ++ a ∷ neg_ℤ a ∷ drop place w.letters)
-- the first k letters go, in order, to the end
moved w (Turn k) = with_letters w (drop k w.letters ++ take k w.letters)
-- one strand more, which a last letter crosses with the strand that was the last
moved w (Grow positive) = record { strands = w.strands + 1; letters = w.letters ++ letter_of_crossing w.strands positive ∷ [] }
-- the last letter and the last strand go
moved w Shrink = record { strands = w.strands - 1; letters = take (length w.letters - 1) w.letters }
