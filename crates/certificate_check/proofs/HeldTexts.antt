-- Evidence that holds has a text, if its block has one: its numbers are never too large.
use Rattle.std.proofs.Common.{◌≡◌, ◌≤◌, ◌<◌, ◌+◌, ◌*◌, ◌^◌, ◌∙◌, ◌==◌, ℕ, ℤ, unsigned_abs, List, [], ◌∷◌, Option, Some, None, length, map, replicate, refl, ap}
use Rattle.std.proofs.Common.{sym, subst, arith}
use Rattle.std.specs.Prelude.{count_by}
use Rattle.std.specs.List.{All, AllByRecursion, range_with_len, sum_by}
use Rattle.std.proofs.Math.Nat.{pow-le-pow_right, mul-le-mul_left, mul_comm}
use Rattle.std.proofs.lemmas.Grind.{pow_more}
use Rattle.std.proofs.lemmas.List.Elements.{recursion_from_All}
use Rattle.std.proofs.lemmas.List.FromFn.{length-map-range_with_len, length-range_with_len}
use Rattle.std.proofs.lemmas.List.Sums.{count_by-le-length, sum_by-cons}
use Rattle.grid_core.specs.declared.grid.TheConstants.{MAX_SIZE}
use Rattle.grid_core.specs.Diagram.{Diagram, IsGrid, size}
use Rattle.quandle_core.specs.declared.operations.TheConstants.{MAX_LARGE_ORDER}
use Rattle.quandle_core.specs.Quandle.{Table, IsQuandle}
use Rattle.colour_list.specs.Listing.{colourings}
use Rattle.colour_weights.specs.Weight.{weight}
use Rattle.quandle_core.proofs.Named.{named_within}
use Rattle.text_items.specs.declared.reading.TheConstants.{MAX_NUMBER}
use Rattle.colour_seeds.specs.declared.counting.TheConstants.{MAX_CANDIDATES}
use Rattle.colour_seeds.specs.Settled.{Determine}
use Rattle.colour_seeds.specs.Plan.{seeds_in}
use Rattle.colour_seeds.proofs.Levels.{leaves_count}
use Rattle.colour_seeds.proofs.Tallying.{length_leaves}
use Rattle.cocycle_core.specs.ShadowCocycle.{ShadowCochain}
use Rattle.colour_weights.specs.ShadowWeight.{shadow_weight}
use Rattle.colour_weights.specs.ShadowWeights.{shadows_of}
use Rattle.colour_numbers.specs.Numbers.{numbers, coloured_by, choices_of}
use Rattle.evidence_core.specs.declared.blocks.LargeWeighing.{LargeWeighing}
use Rattle.evidence_core.specs.declared.blocks.LargeWeighing.TheVariants.{Strands, Regions}
use Rattle.evidence_core.specs.declared.blocks.Block.{Block}
use Rattle.evidence_core.specs.declared.evidence.Counted.{Counted}
use Rattle.evidence_core.specs.declared.evidence.Linked.{Linked}
use Rattle.evidence_core.specs.declared.evidence.Evidence.{Evidence}
use Rattle.evidence_core.specs.declared.evidence.Evidence.TheVariants.{Numbers, Linking}
use Rattle.number_text.specs.EvidenceItems.{count_of}
use Rattle.certificates.specs.Printed.{HasPerhapsText, HasBlockText, HasCountedText, HasLinkedText, HasEvidenceText}
use Rattle.number_check.specs.EvidenceHolds.{table_by_block, AreNumbersOf, EvidenceHolds}
use Rattle.evidence_core.specs.Links.{AreLinkingOf}
use Rattle.verdict_laws.proofs.SeedWays.{plan_there}
use Rattle.certificate_check.specs.Decision.{IsByWrittenBlock}
use Rattle.certificate_check.proofs.LinkingBounds.{IsSmall, components_few, linking_small}

-- ---- numbers of colourings

-- there are at most as many colourings as choices of colours for seeds
colourings_few : (t : Table) (d : Diagram) (seeds : List ℕ) → IsQuandle t → IsGrid d → Determine seeds d → length (colourings t d) ≤ t.order ^ length seeds
colourings_few t d seeds quandle grid settled =
    let plan = plan_there d seeds grid settled in
    let count = leaves_count t d plan.0 quandle grid plan.1.0 in
    let most = length_leaves t d plan.0 (replicate MAX_SIZE 0) in
    let up : t.order ^ seeds_in plan.0 ≤ t.order ^ length seeds =
    pow-le-pow_right {n = t.order} quandle.least {i = seeds_in plan.0} {j = length seeds} plan.1.1 in
    omega (arith, count, most, up)

-- the numbers are as many as are due, and none is over the number of what is counted
record AreFew (due most : ℕ) (ks : List ℕ) : Type 0 where
  many : length ks ≡ due
  each : AllByRecursion (λ (k : ℕ). k ≤ most) ks

each_number : (f : ℕ → ℕ) (most : ℕ) (xs : List ℕ) → ((x : ℕ) → f x ≤ most) → AllByRecursion (λ (k : ℕ). k ≤ most) (map f xs)
each_number f most [] few = tt
each_number f most (x ∷ xs) few = (few x, each_number f most xs few)

-- what is counted of so many colourings: they, or pairs of each and a colour of the outer region
abbrev pairs_of : Option LargeWeighing → ℕ → ℕ
pairs_of None n = n
pairs_of (Some (Strands w)) n = n
pairs_of (Some (Regions s)) n = s.cocycle.quandle.order * n

sum_most : (f : ℕ → ℕ) (most : ℕ) (xs : List ℕ) → ((x : ℕ) → f x ≤ most) → sum_by f xs ≤ length xs * most
sum_most f most [] few = omega arith
sum_most f most (x ∷ xs) few =
    let rest = sum_most f most xs few in
    let cons = sum_by-cons f x xs in
    let here = few x in
    omega arith

shadows_few : (t : ShadowCochain) (d : Diagram) (v : ℕ)
    → sum_by (shadows_of t d v) (range_with_len 0 t.quandle.order) ≤ t.quandle.order * length (colourings t.quandle d)
shadows_few t d v =
    let all = sum_most (shadows_of t d v) (length (colourings t.quandle d)) (range_with_len 0 t.quandle.order)
    (λ u. count_by-le-length (λ c. shadow_weight t d c u == v) (colourings t.quandle d)) in
    subst (λ (n : ℕ). sum_by (shadows_of t d v) (range_with_len 0 t.quandle.order) ≤ n * length (colourings t.quandle d))
    (length-range_with_len 0 t.quandle.order) all

numbers_few : (t : Table) (o : Option LargeWeighing) (d : Diagram) (most : ℕ) → pairs_of o (length (colourings (coloured_by t o) d)) ≤ most
    → AreFew (count_of o) most (numbers t o d)
numbers_few t None d most few = record { many = refl; each = (few, tt) }
numbers_few t (Some (Strands w)) d most few = record {
  many = length-map-range_with_len (λ v. count_by (λ c. weight w d c == v) (colourings w.quandle d)) 0 w.modulus;
  each =
      each_number (λ v. count_by (λ c. weight w d c == v) (colourings w.quandle d)) most (range_with_len 0 w.modulus)
      (λ v.
      let here = count_by-le-length (λ c. weight w d c == v) (colourings w.quandle d) in
      let all : length (colourings w.quandle d) ≤ most = few in
      omega (arith, here, all));
}
numbers_few t (Some (Regions s)) d most few = record {
  many = length-map-range_with_len (λ v. sum_by (shadows_of s.cocycle d v) (range_with_len 0 s.cocycle.quandle.order)) 0 s.cocycle.modulus;
  each =
      each_number (λ v. sum_by (shadows_of s.cocycle d v) (range_with_len 0 s.cocycle.quandle.order)) most (range_with_len 0 s.cocycle.modulus)
      (λ v.
      let here = shadows_few s.cocycle d v in
      let all : s.cocycle.quandle.order * length (colourings s.cocycle.quandle d) ≤ most = few in
      omega (arith, here, all));
}

-- few choices of colours leave few of them
pairs_few : (t : Table) (o : Option LargeWeighing) (n seeds : ℕ) → n ≤ (coloured_by t o).order ^ seeds
    → (coloured_by t o).order ^ choices_of o seeds ≤ MAX_CANDIDATES → pairs_of o n ≤ MAX_NUMBER
pairs_few t None n seeds most few =
    let all : n ≤ t.order ^ seeds = most in
    let within : t.order ^ seeds ≤ MAX_CANDIDATES = few in
    omega (arith, all, within)
pairs_few t (Some (Strands w)) n seeds most few =
    let all : n ≤ w.quandle.order ^ seeds = most in
    let within : w.quandle.order ^ seeds ≤ MAX_CANDIDATES = few in
    omega (arith, all, within)
pairs_few t (Some (Regions s)) n seeds most few =
    let within : s.cocycle.quandle.order ^ (seeds + 1) ≤ MAX_CANDIDATES = few in
    let power : s.cocycle.quandle.order ^ (seeds + 1) ≡ s.cocycle.quandle.order * s.cocycle.quandle.order ^ seeds =
    pow_more s.cocycle.quandle.order seeds ∙ mul_comm (s.cocycle.quandle.order ^ seeds) s.cocycle.quandle.order in
    let up : s.cocycle.quandle.order * n ≤ s.cocycle.quandle.order * s.cocycle.quandle.order ^ seeds = mul-le-mul_left s.cocycle.quandle.order most in
    let all : s.cocycle.quandle.order * n ≤ MAX_NUMBER = omega (arith, power, up, within) in
    all

each_below : (n : ℕ) (xs : List ℕ) → n ≤ MAX_SIZE → AllByRecursion (λ (s : ℕ). s < n) xs → AllByRecursion (λ (s : ℕ). s ≤ 255) xs
each_below n [] fits all = tt
each_below n (x ∷ xs) fits all = (omega (arith, all.0, fits), each_below n xs fits all.1)

-- the quandle that gives the colours is one
colours_quandle : (b : Block) → HasBlockText b → IsQuandle (table_by_block b)
colours_quandle b has = by b.cocycle has.cocycle
  where
    by : (o : Option LargeWeighing) → HasPerhapsText b.listed.table o → IsQuandle (coloured_by b.listed.table o)
    by None none = named_within MAX_LARGE_ORDER b.listed.name b.listed.table has.listed.names
    by (Some (Strands w)) some = some.cocycle.quandle
    by (Some (Regions s)) some = some.cocycle.quandle

counted_text : (b : Block) (d : Diagram) (c : Counted) → IsGrid d → HasBlockText b → AreNumbersOf b d c → length c.seeds.items ≤ MAX_SIZE
    → HasCountedText (count_of b.cocycle) c
counted_text b d c grid has are short =
    let most = colourings_few (table_by_block b) d c.seeds.items (colours_quandle b has) grid are.settled in
    let within = pairs_few b.listed.table b.cocycle (length (colourings (table_by_block b) d)) (length c.seeds.items) most are.few in
    let few = subst (AreFew (count_of b.cocycle) MAX_NUMBER) (sym are.own) (numbers_few b.listed.table b.cocycle d MAX_NUMBER within) in
    record {
      few = short;
      seeds = each_below (size d) c.seeds.items grid.most (recursion_from_All (λ (s : ℕ). s < size d) c.seeds.items are.settled.columns);
      many = few.many;
      numbers = few.each;
    }

-- ---- linking numbers

each_small : (n : ℕ) (zs : List ℤ) → n ≤ MAX_NUMBER → AllByRecursion (IsSmall n) zs → AllByRecursion (λ (a : ℤ). unsigned_abs a ≤ MAX_NUMBER) zs
each_small n [] fits all = tt
each_small n (z ∷ zs) fits all = (omega (arith, all.0, fits), each_small n zs fits all.1)

linked_text : (d : Diagram) (l : Linked) → IsGrid d → AreLinkingOf d l → HasLinkedText l
linked_text d l grid are =
    let few = components_few d in
    record {
      components = omega (arith, are.components, few, grid.most);
      numbers =
          subst (AllByRecursion (λ (a : ℤ). unsigned_abs a ≤ MAX_NUMBER)) (sym are.own)
          (each_small (MAX_SIZE * MAX_SIZE) _ (omega arith) (linking_small d MAX_SIZE grid.most));
    }

-- ---- either

pub held_text : (d e : Diagram) (evidence : Evidence) → IsGrid d → IsGrid e → EvidenceHolds d e evidence → IsByWrittenBlock evidence → HasEvidenceText evidence
held_text d e (Numbers b one two) first second holds written = (
  written.0,
  counted_text b d one first written.0 holds.first written.1,
  counted_text b e two second written.0 holds.second written.2,
)
held_text d e (Linking one two) first second holds written = (linked_text d one first holds.first, linked_text e two second holds.second)
