-- Worked examples, by computing.
use Rattle.std.proofs.Common.{◌≡◌, ◌∷◌, [], refl, length, take}
use Rattle.grid_core.specs.Diagram.{Diagram}
use Rattle.grid_core.specs.declared.mark.Kind.TheVariants.{Cross, Ring}
use Rattle.grid_core.specs.declared.mark.Corner.TheVariants.{LowLeft, LowRight, HighLeft, HighRight}
use Rattle.grid_laws.proofs.WorkedDiagrams.{unknot}
use Rattle.grid_moves.specs.declared.step.Move.TheVariants.{ShiftColumns, ShiftRows, Stabilise, Destabilise}
use Rattle.search_jobs.specs.Candidates.{candidate_moves}
use Rattle.grid_core.specs.Trefoils.{right_trefoil}
use Rattle.search_jobs.specs.Walk.{generator_words, generator_of, Picks}

-- two shifts, and eight stabilisations in each column: the two columns touch, and the one block has four marks
of_unknot : candidate_moves unknot ≡ ShiftColumns 1 ∷ ShiftRows 1
    ∷ Stabilise 0 Cross LowLeft ∷ Stabilise 0 Cross LowRight ∷ Stabilise 0 Cross HighLeft ∷ Stabilise 0 Cross HighRight
    ∷ Stabilise 0 Ring LowLeft ∷ Stabilise 0 Ring LowRight ∷ Stabilise 0 Ring HighLeft ∷ Stabilise 0 Ring HighRight
    ∷ Stabilise 1 Cross LowLeft ∷ Stabilise 1 Cross LowRight ∷ Stabilise 1 Cross HighLeft ∷ Stabilise 1 Cross HighRight
    ∷ Stabilise 1 Ring LowLeft ∷ Stabilise 1 Ring LowRight ∷ Stabilise 1 Ring HighLeft ∷ Stabilise 1 Ring HighRight ∷ []
of_unknot = refl

-- at the greatest size there is no stabilisation: five rings of two columns have 18 shifts and 8 exchanges
abbrev five_rings : Diagram
five_rings = record { x = 0 ∷ 1 ∷ 2 ∷ 3 ∷ 4 ∷ 5 ∷ 6 ∷ 7 ∷ 8 ∷ 9 ∷ []; o = 1 ∷ 0 ∷ 3 ∷ 2 ∷ 5 ∷ 4 ∷ 7 ∷ 6 ∷ 9 ∷ 8 ∷ [] }

of_five_rings : length (candidate_moves five_rings) ≡ 26
of_five_rings = refl

-- an unknot of three columns has four shifts, no exchange, then three destabilisations
abbrev three_columns : Diagram
three_columns = record { x = 0 ∷ 1 ∷ 2 ∷ []; o = 1 ∷ 2 ∷ 0 ∷ [] }

of_three_columns : take 7 (candidate_moves three_columns)
    ≡ ShiftColumns 1 ∷ ShiftColumns 2 ∷ ShiftRows 1 ∷ ShiftRows 2 ∷ Destabilise 0 0 ∷ Destabilise 0 1 ∷ Destabilise 1 1 ∷ []
of_three_columns = refl

-- the words of the seed 42 are those of PCG's reference code
of_reference : generator_words 6 (generator_of 42) ≡ 0xa15c02b7 ∷ 0x7b47f409 ∷ 0xba1d3330 ∷ 0x83d2f293 ∷ 0xbfa4784b ∷ 0xcbed606e ∷ []
unfolding generator_words
of_reference = refl

-- the first word of the seed 1 is 2607537577, which is 25 mod the 48 candidates on the right trefoil
first_pick : Picks right_trefoil 2607537577 (Stabilise 2 Cross LowRight)
first_pick = refl
