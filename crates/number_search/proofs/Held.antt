-- What is found holds.
use Rattle.std.proofs.Common.{◌≡◌, ◌≢◌, ◌≤◌, ◌^◌, ◌∙◌, ◌&&◌, ◌==◌, not, ℕ, Bool, true, false, List, [], ◌∷◌, Option, Some, None, length, cond, refl, sym, ap}
use Rattle.std.proofs.Common.{ap₂, subst}
use Rattle.std.specs.Prelude.{nat_eq}
use Rattle.std.specs.List.{All, AllByRecursion}
use Rattle.std.specs.Option.{option_or, option_map}
use Rattle.std.specs.Cmp.Lexicographic.{pointwise, pointwise_decides}
use Rattle.std.proofs.lemmas.Bool.{leb-true, and_parts, and_from, eq-eqb, eqb-true}
use Rattle.std.proofs.lemmas.Bool.Decides.{Decides-eqb}
use Rattle.std.specs.Cmp.Rules.{signed_items}
use Rattle.std.specs.Ordering.{int_eq}
use Rattle.std.proofs.lemmas.List.Elements.{All-from_recursion}
use Rattle.grid_core.specs.Diagram.{Diagram, IsGrid}
use Rattle.linking_core.specs.Component.{components}
use Rattle.linking_core.specs.Linking.{linking}
use Rattle.colour_seeds.specs.declared.progress.Step.{Step}
use Rattle.colour_seeds.specs.declared.counting.TheConstants.{MAX_CANDIDATES}
use Rattle.colour_seeds.specs.Plan.{IsPlan, seeds_in}
use Rattle.colour_numbers.specs.Numbers.{fits_by}
use Rattle.colour_seeds.proofs.Seeds.{seeds_are, plan_determines}
use Rattle.evidence_core.specs.declared.blocks.Block.{Block}
use Rattle.evidence_core.specs.declared.evidence.Linked.{Linked}
use Rattle.evidence_core.specs.declared.evidence.Evidence.{Evidence}
use Rattle.number_check.specs.EvidenceHolds.{table_by_block, choices_by, numbers_by, AreNumbersOf, NumbersDiffer, EvidenceHolds}
use Rattle.evidence_core.specs.Links.{linked_of, LinkingDiffers}
use Rattle.evidence_core.specs.Links.{are_same_links}
use Rattle.number_search.specs.declared.seed_pair.SeedPair.{SeedPair}
use Rattle.number_search.specs.Told.{ArePlansOf, fits_both, agree, tells, counted_by_plan, evidence_by, first_telling, told_by_linking, told_by_blocks}
use Rattle.number_search.specs.Told.{told_apart}

-- ---- linking numbers

linking_differs : (d e : Diagram) → are_same_links (linked_of d) (linked_of e) ≡ false → LinkingDiffers d e (linked_of d) (linked_of e)
linking_differs d e other = record {
  first = record { components = refl; own = refl };
  second = record { components = refl; own = refl };
  differ = λ count numbers.
      let counts = eq-eqb (linked_of d).components (linked_of e).components count in
      let lists = (signed_items (linked_of d).numbers (linked_of e).numbers).1 numbers in
      let same : are_same_links (linked_of d) (linked_of e) ≡ true = and_from _ _ counts lists in
      absurd (let wrong : false ≡ true = sym other ∙ same in cc);
}

pub links_differ : (d e : Diagram) (one two : Linked) → one ≡ linked_of d → two ≡ linked_of e → are_same_links one two ≡ false → LinkingDiffers d e one two
links_differ d e one two is also other =
    subst (λ (l : Linked). LinkingDiffers d e l two) (sym is)
    (subst (λ (l : Linked). LinkingDiffers d e (linked_of d) l) (sym also)
    (linking_differs d e (sym (ap₂ (λ (k l : Linked). are_same_links k l) is also) ∙ other)))

pub linking_holds : (d e : Diagram) (evidence : Evidence) → told_by_linking d e ≡ Some evidence → EvidenceHolds d e evidence
linking_holds d e evidence is = by (are_same_links (linked_of d) (linked_of e)) refl is
  where
    by : (t : Bool) → are_same_links (linked_of d) (linked_of e) ≡ t → cond t None (Some (Evidence.Linking (linked_of d) (linked_of e))) ≡ Some evidence
        → EvidenceHolds d e evidence
    by true same is = absurd cc
    by false other is =
        let found : Evidence.Linking (linked_of d) (linked_of e) ≡ evidence = cc in
        subst (λ (x : Evidence). EvidenceHolds d e x) found (linking_differs d e other)

-- ---- the numbers of colourings

numbers_are : (d : Diagram) (plan : List Step) (b : Block) → IsGrid d → IsPlan d plan → fits_by b.listed.table b.cocycle plan ≡ true
    → AreNumbersOf b d (counted_by_plan plan (numbers_by b d))
numbers_are d plan b grid is_plan few = record {
  settled = plan_determines d plan grid is_plan;
  few =
      subst (λ (n : ℕ). (table_by_block b).order ^ choices_by b n ≤ MAX_CANDIDATES) (sym (seeds_are plan))
      (leb-true ((table_by_block b).order ^ choices_by b (seeds_in plan)) MAX_CANDIDATES few);
  own = refl;
}

other_lists : (xs ys : List ℕ) → not (pointwise nat_eq xs ys) ≡ true → xs ≢ ys
other_lists xs ys other same =
    let equal : pointwise nat_eq xs ys ≡ true = (pointwise_decides Decides-eqb xs ys).1 same in
    absurd (let wrong : false ≡ true = ap not (sym equal) ∙ other in cc)

pub numbers_differ : (d e : Diagram) (s : SeedPair) (b : Block) → IsGrid d → IsGrid e → ArePlansOf d e s → tells d e s b ≡ true
    → NumbersDiffer b d e (counted_by_plan s.first (numbers_by b d)) (counted_by_plan s.second (numbers_by b e))
numbers_differ d e s b one two plans is =
    let parts = and_parts (fits_both s b) (not (agree d e b)) is in
    let fit = and_parts (fits_by b.listed.table b.cocycle s.first) (fits_by b.listed.table b.cocycle s.second) parts.0 in
    record {
      first = numbers_are d s.first b one plans.first fit.0;
      second = numbers_are e s.second b two plans.second fit.1;
      differ = other_lists (numbers_by b d) (numbers_by b e) parts.1;
    }

pub blocks_hold : (d e : Diagram) (s : SeedPair) (blocks : List Block) (evidence : Evidence) → IsGrid d → IsGrid e → ArePlansOf d e s
    → told_by_blocks d e s blocks ≡ Some evidence → EvidenceHolds d e evidence
blocks_hold d e s [] evidence one two plans is = absurd cc
blocks_hold d e s (b ∷ blocks) evidence one two plans is =
    by (tells d e s b) refl is (blocks_hold d e s blocks evidence one two plans)
  where
    by : (t : Bool) → tells d e s b ≡ t → option_map (evidence_by d e s) (cond t (Some b) (first_telling d e s blocks)) ≡ Some evidence
        → (told_by_blocks d e s blocks ≡ Some evidence → EvidenceHolds d e evidence) → EvidenceHolds d e evidence
    by true passes is others =
        let found : evidence_by d e s b ≡ evidence = cc in
        subst (λ (x : Evidence). EvidenceHolds d e x) found (numbers_differ d e s b one two plans passes)
    by false fails is others = others is

-- ---- both

pub told_holds : (d e : Diagram) (s : SeedPair) (blocks : List Block) (evidence : Evidence) → IsGrid d → IsGrid e → ArePlansOf d e s
    → told_apart d e s blocks ≡ Some evidence → EvidenceHolds d e evidence
told_holds d e s blocks evidence one two plans is = by (told_by_linking d e) refl is
  where
    by : (o : Option Evidence) → told_by_linking d e ≡ o → option_or o (told_by_blocks d e s blocks) ≡ Some evidence → EvidenceHolds d e evidence
    by None none is = blocks_hold d e s blocks evidence one two plans is
    by (Some x) some is = linking_holds d e evidence (some ∙ is)

-- ---- where nothing is found

pub linking_agrees : (d e : Diagram) → told_by_linking d e ≡ None → (length (components d) ≡ length (components e)) × (linking d ≡ linking e)
linking_agrees d e none = by (are_same_links (linked_of d) (linked_of e)) refl none
  where
    by : (t : Bool) → are_same_links (linked_of d) (linked_of e) ≡ t → cond t None (Some (Evidence.Linking (linked_of d) (linked_of e))) ≡ None
        → (length (components d) ≡ length (components e)) × (linking d ≡ linking e)
    by true same none =
        let both = and_parts (length (components d) == length (components e)) (pointwise int_eq (linking d) (linking e)) same in
        (eqb-true (length (components d)) (length (components e)) both.0, (signed_items (linking d) (linking e)).0 both.1)
    by false other none = absurd cc

same_lists : (xs ys : List ℕ) → not (pointwise nat_eq xs ys) ≡ false → xs ≡ ys
same_lists xs ys is = by (pointwise nat_eq xs ys) refl is
  where
    by : (t : Bool) → pointwise nat_eq xs ys ≡ t → not t ≡ false → xs ≡ ys
    by true same is = (pointwise_decides Decides-eqb xs ys).0 same
    by false other is = absurd cc

agrees : (d e : Diagram) (s : SeedPair) (b : Block) → tells d e s b ≡ false → fits_both s b ≡ true → numbers_by b d ≡ numbers_by b e
agrees d e s b is fit = same_lists (numbers_by b d) (numbers_by b e) (sym (ap (λ (t : Bool). t && not (agree d e b)) fit) ∙ is)

all_agree : (d e : Diagram) (s : SeedPair) (blocks : List Block) → told_by_blocks d e s blocks ≡ None
    → AllByRecursion (λ (b : Block). fits_both s b ≡ true → numbers_by b d ≡ numbers_by b e) blocks
all_agree d e s [] none = tt
all_agree d e s (b ∷ blocks) none = by (tells d e s b) refl none (all_agree d e s blocks)
  where
    by : (t : Bool) → tells d e s b ≡ t → option_map (evidence_by d e s) (cond t (Some b) (first_telling d e s blocks)) ≡ None
        → (told_by_blocks d e s blocks ≡ None → AllByRecursion (λ (b : Block). fits_both s b ≡ true → numbers_by b d ≡ numbers_by b e) blocks)
        → AllByRecursion (λ (b : Block). fits_both s b ≡ true → numbers_by b d ≡ numbers_by b e) (b ∷ blocks)
    by true passes none others = absurd cc
    by false fails none others = (agrees d e s b fails, others none)

pub blocks_agree : (d e : Diagram) (s : SeedPair) (blocks : List Block) → told_by_blocks d e s blocks ≡ None
    → All (λ (b : Block). fits_both s b ≡ true → numbers_by b d ≡ numbers_by b e) blocks
blocks_agree d e s blocks none =
    All-from_recursion (λ (b : Block). fits_both s b ≡ true → numbers_by b d ≡ numbers_by b e) blocks (all_agree d e s blocks none)
