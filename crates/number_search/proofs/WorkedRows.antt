-- Worked examples, by computing: what is found of links by linking numbers, and of the right trefoil and the unknot by colourings.
use Rattle.std.proofs.Common.{◌≡◌, [], ◌∷◌, Some, None, refl, pos, negsuc}
use Rattle.grid_core.specs.Trefoils.{right_trefoil}
use Rattle.grid_laws.proofs.WorkedDiagrams.{unknot}
use Rattle.quandle_core.specs.Tables.{dihedral}
use Rattle.quandle_core.specs.declared.names.QuandleName.TheVariants as name
use Rattle.weight_laws.proofs.WorkedLinking.{hopf_link, negative_link, two_unknots}
use Rattle.colour_seeds.specs.declared.progress.Step.TheVariants.{Seed, Rightward, Test}
use Rattle.evidence_core.specs.declared.blocks.Block.{Block}
use Rattle.evidence_core.specs.declared.evidence.Evidence.TheVariants.{Numbers, Linking}
use Rattle.number_search.specs.declared.seed_pair.SeedPair.{SeedPair}
use Rattle.number_search.specs.Told.{told_by_linking, told_by_blocks}

positive_and_negative : told_by_linking hopf_link negative_link ≡ Some (Linking
    (record { components = 2; numbers = pos 1 ∷ pos 1 ∷ [] }) (record { components = 2; numbers = negsuc 0 ∷ negsuc 0 ∷ [] }))
positive_and_negative = refl

linked_or_not : told_by_linking two_unknots hopf_link ≡ Some (Linking
    (record { components = 2; numbers = pos 0 ∷ pos 0 ∷ [] }) (record { components = 2; numbers = pos 1 ∷ pos 1 ∷ [] }))
linked_or_not = refl

the_same : told_by_linking hopf_link hopf_link ≡ None
the_same = refl

-- plans of the right trefoil and of the unknot
abbrev plans : SeedPair
plans = record {
  first = Seed 0 ∷ Rightward 4 ∷ Seed 1 ∷ Rightward 2 ∷ Rightward 0 ∷ Test 1 ∷ Test 3 ∷ [];
  second = Seed 0 ∷ Rightward 0 ∷ Test 1 ∷ [];
}

-- a dihedral quandle without a cocycle
abbrev three : Block
three = record { listed = record { name = name.Dihedral 3; table = dihedral 3 }; cocycle = None }

abbrev five : Block
five = record { listed = record { name = name.Dihedral 5; table = dihedral 5 }; cocycle = None }

-- five colours don't tell the two apart, three do: nine colourings and three
by_the_second : told_by_blocks right_trefoil unknot plans (five ∷ three ∷ []) ≡ Some (Numbers three
    (record { seeds = record { items = 0 ∷ 1 ∷ [] }; numbers = 9 ∷ [] }) (record { seeds = record { items = 0 ∷ [] }; numbers = 3 ∷ [] }))
by_the_second = refl

by_none : told_by_blocks right_trefoil unknot plans (five ∷ []) ≡ None
by_none = refl
