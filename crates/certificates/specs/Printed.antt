-- The text of evidence by numbers, apart from reading.
use Rattle.std.specs.Prelude.{◌≡◌, ◌≤◌, ℕ, ℤ, unsigned_abs, List, [], ◌∷◌, ◌++◌, length, map, codes, Option, Some, None}
use Rattle.std.specs.Fmt.{decimal}
use Rattle.std.specs.List.{AllByRecursion}
use Rattle.grid_core.specs.declared.grid.TheConstants.{MAX_SIZE}
use Rattle.quandle_core.specs.declared.operations.TheConstants.{MAX_LARGE_ORDER}
use Rattle.quandle_core.specs.Quandle.{Table}
use Rattle.text_lines.specs.Spelled.{lines_text}
use Rattle.text_items.specs.declared.reading.TheConstants.{MAX_NUMBER}
use Rattle.knot_text.specs.Printed.{letter_token, name_tokens, table_lines, HasQuandleTextWithin}
use Rattle.knot_text.specs.WrittenThere.{cocycle_lines, HasCocycleText}
use Rattle.certificates.specs.Shadows.{shadow_lines, HasShadowText}
use Rattle.evidence_core.specs.declared.blocks.LargeWeighing.{LargeWeighing}
use Rattle.evidence_core.specs.declared.blocks.LargeWeighing.TheVariants.{Strands, Regions}
use Rattle.evidence_core.specs.declared.blocks.Block.{Block}
use Rattle.evidence_core.specs.declared.evidence.Counted.{Counted}
use Rattle.evidence_core.specs.declared.evidence.Linked.{Linked}
use Rattle.evidence_core.specs.declared.evidence.Evidence.{Evidence}
use Rattle.evidence_core.specs.declared.evidence.Evidence.TheVariants.{Numbers, Linking}
use Rattle.number_text.specs.declared.evidence_items.TheConstants.{THIRD_VERSION}
use Rattle.number_text.specs.EvidenceItems.{count_of}

-- the lines of a cocycle, if there is one
abbrev pub perhaps_cocycle : Option LargeWeighing → List (List (List ℕ))
perhaps_cocycle None = []
perhaps_cocycle (Some (Strands w)) = cocycle_lines w
perhaps_cocycle (Some (Regions s)) = shadow_lines s

-- the seeds of a diagram, and its numbers
abbrev pub counted_lines : Counted → List (List (List ℕ))
counted_lines c = (codes "seeds" ∷ map decimal c.seeds.items) ∷ (codes "numbers" ∷ map decimal c.numbers) ∷ []

-- how many components a link has, and its linking numbers
abbrev pub linked_lines : Linked → List (List (List ℕ))
linked_lines l = (codes "components" ∷ decimal l.components ∷ []) ∷ (codes "numbers" ∷ map letter_token l.numbers) ∷ []

abbrev pub evidence_lines : Evidence → List (List (List ℕ))
evidence_lines (Numbers b one two) =
    (codes "different" ∷ codes "numbers" ∷ name_tokens b.listed.name b.listed.table.order)
    ∷ (table_lines b.listed.name b.listed.table ++ (perhaps_cocycle b.cocycle ++ (counted_lines one ++ counted_lines two)))
evidence_lines (Linking one two) = (codes "different" ∷ codes "linking" ∷ []) ∷ (linked_lines one ++ linked_lines two)

-- behind the line `certificate 3`
abbrev pub third_lines : Evidence → List (List (List ℕ))
third_lines evidence = (codes "certificate" ∷ decimal THIRD_VERSION ∷ []) ∷ evidence_lines evidence

abbrev pub third_text : Evidence → List ℕ
third_text evidence = lines_text (third_lines evidence)

-- ---- what has a text

abbrev pub HasPerhapsText : Table → Option LargeWeighing → Type 0
HasPerhapsText quandle None = Unit {0}
HasPerhapsText quandle (Some (Strands w)) = HasCocycleText quandle w
HasPerhapsText quandle (Some (Regions s)) = HasShadowText quandle s

-- a quandle, and perhaps a cocycle of this quandle
pub record HasBlockText (b : Block) : Type 0 where
  pub listed : HasQuandleTextWithin MAX_LARGE_ORDER b.listed
  pub cocycle : HasPerhapsText b.listed.table b.cocycle

-- few enough seeds, each of at most 255 as in what is read, and as many numbers as are due
pub record HasCountedText (due : ℕ) (c : Counted) : Type 0 where
  pub few : length c.seeds.items ≤ MAX_SIZE
  pub seeds : AllByRecursion (λ (s : ℕ). s ≤ 255) c.seeds.items
  pub many : length c.numbers ≡ due
  pub numbers : AllByRecursion (λ (k : ℕ). k ≤ MAX_NUMBER) c.numbers

pub record HasLinkedText (l : Linked) : Type 0 where
  pub components : l.components ≤ MAX_NUMBER
  pub numbers : AllByRecursion (λ (a : ℤ). unsigned_abs a ≤ MAX_NUMBER) l.numbers

-- the evidence has a text
abbrev pub HasEvidenceText : Evidence → Type 0
HasEvidenceText (Numbers b one two) = HasBlockText b × HasCountedText (count_of b.cocycle) one × HasCountedText (count_of b.cocycle) two
HasEvidenceText (Linking one two) = HasLinkedText one × HasLinkedText two
