-- What a cause of a table, or none, says.
use Rattle.std.proofs.Common.{◌≡◌, ◌<◌, ◌↔◌, ◌∙◌, ◌⊎◌, inl, inr, ℕ, true, false, List, length, get_or, Option, Some, None, refl, sym, ap, subst}
use Rattle.std.specs.Prelude.{nat_eq}
use Rattle.std.specs.Option.{option_map, is_some}
use Rattle.std.proofs.lemmas.Option.{slice_get_within, slice_get-get_or, get_or_from_slice_get}
use Rattle.std.proofs.lemmas.Bool.{eqb-true}
use Rattle.grid_core.specs.Diagram.{Diagram}
use Rattle.colour_seeds.specs.Settled.{Determine}
use Rattle.colour_seeds.specs.Seeded.{IsFault}
use Rattle.colour_seeds.specs.declared.seeding.SeedFault.TheVariants as fault
use Rattle.evidence_core.specs.declared.blocks.Block.{Block}
use Rattle.verdict_core.specs.Diagrams.{grid_of}
use Rattle.verdict_core.specs.declared.verdict.Verdict.TheVariants.{Equal}
use Rattle.evidence_core.specs.declared.cause.Cause.{Cause}
use Rattle.evidence_core.specs.declared.cause.Cause.TheVariants as number
use Rattle.evidence_core.specs.Unequal.{first_unequal}
use Rattle.evidence_core.proofs.FirstUnequal.{equal_of_none, none_of_equal}
use Rattle.number_check.specs.Cause.{settled_cause}
use Rattle.number_check.proofs.Causes.{itself, numbers_hold, numbers_faultless, seeds_faultless}
use Rattle.cert_check.specs.declared.ruling.Why.{Why}
use Rattle.cert_check.specs.declared.ruling.Ruling.{Ruling}
use Rattle.cert_check.specs.declared.ruling.Ruling.TheVariants as moves
use Rattle.cert_check.proofs.Rulings.{accepted_where_held}
use Rattle.table_check.specs.declared.class_items.Class.{Class}
use Rattle.table_check.specs.declared.tables.KnotTable.{KnotTable}
use Rattle.table_check.specs.declared.cause.ClassCause.{ClassCause}
use Rattle.table_check.specs.declared.cause.ClassCause.TheVariants.{Outside, Unsettled, Wide, Numbers}
use Rattle.table_check.specs.declared.cause.TableCause.{TableCause}
use Rattle.table_check.specs.declared.cause.TableCause.TheVariants as cause
use Rattle.table_check.specs.declared.cause.TableRuling.{TableRuling}
use Rattle.table_check.specs.declared.cause.TableRuling.TheVariants.{Accepted, Rejected}
use Rattle.table_check.specs.TableHolds.{numbers_at, counted_of_class, IsShown, ShownAt, ClassHolds, Differ, PairHolds, RowAt, TableHolds}
use Rattle.table_check.specs.Cause.{in_block, shown_cause, FailsBy, IsClassCause, PairFails, RowFails, IsTableCause}
use Rattle.table_check.specs.Ruling.{RulesOnTable}

-- ---- numbers by a block

no_map : {A B : Type 0} (f : A → B) (o : Option A) → option_map f o ≡ None → o ≡ None
no_map f None is = refl
no_map f (Some a) is = absurd cc

-- without a cause they are shown
pub shown_of_none : (c : Class) (at : ℕ) (b : Block) (o : Option (List ℕ)) → Determine c.seeds.items (grid_of c.diagram)
    → shown_cause c at b o ≡ None → IsShown c b o
shown_of_none c at b None settled none = tt
shown_of_none c at b (Some numbers) settled none =
    numbers_hold b 1 (grid_of c.diagram) (counted_of_class c numbers) settled
    (no_map (in_block at) (settled_cause b 1 (grid_of c.diagram) (length c.seeds.items) numbers) none)

-- and where they are shown, there is none
pub none_of_shown : (c : Class) (at : ℕ) (b : Block) (o : Option (List ℕ)) → IsShown c b o → shown_cause c at b o ≡ None
none_of_shown c at b None shown = refl
none_of_shown c at b (Some numbers) shown = rw (numbers_faultless b 1 (grid_of c.diagram) (counted_of_class c numbers) shown) refl

-- so they are by a block at a place
pub shown_here : (blocks : List Block) (c : Class) (at : ℕ) (x b : Block) (d : Diagram) → d ≡ grid_of c.diagram → Determine c.seeds.items d
    → x ≡ get_or blocks at b → shown_cause c at x (numbers_at c at) ≡ None → ShownAt blocks c at
shown_here blocks c at x b d grid settled is none = λ block here.
    let same : x ≡ block = is ∙ get_or_from_slice_get blocks at block b here in
    subst (λ (y : Block). IsShown c y (numbers_at c at)) same
    (shown_of_none c at x (numbers_at c at) (subst (λ (e : Diagram). Determine c.seeds.items e) grid settled) none)

-- ---- the first block by which they are not

in_kinds : (at : ℕ) (k : Cause) → (in_block at k ≡ Wide at) ⊎ ((place : ℕ) × (in_block at k ≡ Numbers at place))
in_kinds at (number.Outside which column) = inl refl
in_kinds at (number.Unsettled which column) = inl refl
in_kinds at (number.Wide which seeds) = inl refl
in_kinds at (number.Components which) = inl refl
in_kinds at (number.Number which place) = inr (place, refl)
in_kinds at number.Equal = inl refl

mapped_kinds : (at : ℕ) (o : Option Cause) (why : ClassCause) → option_map (in_block at) o ≡ Some why
    → (why ≡ Wide at) ⊎ ((place : ℕ) × (why ≡ Numbers at place))
mapped_kinds at None why is = absurd cc
mapped_kinds at (Some k) why is =
    let same : in_block at k ≡ why = cc in
    elim (in_kinds at k) [
      | inl wide ↦ inl (sym same ∙ wide)
      | inr other ↦ inr (other.0, sym same ∙ other.1)
    ]

shown_kinds : (c : Class) (at : ℕ) (b : Block) (o : Option (List ℕ)) (why : ClassCause) → shown_cause c at b o ≡ Some why
    → (why ≡ Wide at) ⊎ ((place : ℕ) × (why ≡ Numbers at place))
shown_kinds c at b None why is = absurd cc
shown_kinds c at b (Some numbers) why is = mapped_kinds at (settled_cause b 1 (grid_of c.diagram) (length c.seeds.items) numbers) why is

pub fails_kind : (blocks : List Block) (c : Class) (at : ℕ) (why : ClassCause) → FailsBy blocks c at why → IsClassCause blocks c why
fails_kind blocks c at why fails = elim (shown_kinds c at fails.block (numbers_at c at) why fails.cause) [
  | inl wide ↦ subst (λ (k : ClassCause). IsClassCause blocks c k) (sym wide) (subst (λ (k : ClassCause). FailsBy blocks c at k) wide fails)
  | inr other ↦ subst (λ (k : ClassCause). IsClassCause blocks c k) (sym other.1) (subst (λ (k : ClassCause). FailsBy blocks c at k) other.1 fails)
]

pub fails_here : (blocks : List Block) (c : Class) (at : ℕ) (x b : Block) (d : Diagram) (why : ClassCause) → d ≡ grid_of c.diagram
    → Determine c.seeds.items d → ((place : ℕ) → place < at → ShownAt blocks c place) → at < length blocks → x ≡ get_or blocks at b
    → shown_cause c at x (numbers_at c at) ≡ Some why → IsClassCause blocks c why
fails_here blocks c at x b d why grid settled before within is cause =
    fails_kind blocks c at why
    (record {
      settled = subst (λ (e : Diagram). Determine c.seeds.items e) grid settled;
      before = before;
      within = within;
      block = x;
      here = slice_get-get_or blocks at b within ∙ ap (λ (y : Block). Some y) (sym is);
      cause = cause;
    })

-- ---- seeds

pub unsettled_class : (blocks : List Block) (c : Class) (seeds : List ℕ) (d : Diagram) (column : ℕ) → d ≡ grid_of c.diagram → seeds ≡ c.seeds.items
    → IsFault seeds d (fault.Unsettled column) → IsClassCause blocks c (Unsettled column)
unsettled_class blocks c seeds d column grid same is =
    subst (λ (e : Diagram). IsFault c.seeds.items e (fault.Unsettled column)) grid
    (subst (λ (s : List ℕ). IsFault s d (fault.Unsettled column)) same is)

-- ---- numbers of two classes

pub differ_yes : (o p : Option (List ℕ)) (one two : List ℕ) (place : Option ℕ) → o ≡ Some one → p ≡ Some two → place ≡ first_unequal nat_eq one two
    → is_some place ≡ true → Differ o p
differ_yes o p one two place first second is some = rw (first, second) (λ same.
    let none : place ≡ None = is ∙ (ap (λ (xs : List ℕ). first_unequal nat_eq xs two) same ∙ none_of_equal nat_eq itself two) in
    let no : false ≡ true = ap (λ (k : Option ℕ). is_some k) (sym none) ∙ some in
    cc)

no_place_there : (place : Option ℕ) → is_some place ≡ false → place ≡ None
no_place_there None is = refl
no_place_there (Some k) is = absurd cc

pub differ_no : (o p : Option (List ℕ)) (one two : List ℕ) (place : Option ℕ) → o ≡ Some one → p ≡ Some two → place ≡ first_unequal nat_eq one two
    → is_some place ≡ false → Differ o p → ⊥
differ_no o p one two place first second is none differ =
    let there : Differ (Some one) (Some two) = subst (λ (q : Option (List ℕ)). Differ (Some one) q) second
    (subst (λ (q : Option (List ℕ)). Differ q p) first differ) in
    there (equal_of_none nat_eq eqb-true one two (sym is ∙ no_place_there place none))

-- ---- a table that holds has no cause

fails_not_held : (blocks : List Block) (c : Class) (at : ℕ) (why : ClassCause) → FailsBy blocks c at why → ClassHolds blocks c → ⊥
fails_not_held blocks c at why fails holds =
    let shown = holds.shown at fails.within fails.block fails.here in
    let no : ◌≡◌ {A = Option ClassCause} None (Some why) = sym (none_of_shown c at fails.block (numbers_at c at) shown) ∙ fails.cause in
    cc

pub class_not_held : (blocks : List Block) (c : Class) (why : ClassCause) → IsClassCause blocks c why → ClassHolds blocks c → ⊥
class_not_held blocks c (Outside column) is holds = seeds_faultless 1 (grid_of c.diagram) c.seeds.items (number.Outside 1 column) (refl, is) holds.settled
class_not_held blocks c (Unsettled column) is holds =
    seeds_faultless 1 (grid_of c.diagram) c.seeds.items (number.Unsettled 1 column) (refl, is) holds.settled
class_not_held blocks c (Wide at) is holds = fails_not_held blocks c at (Wide at) is holds
class_not_held blocks c (Numbers at place) is holds = fails_not_held blocks c at (Numbers at place) is holds

pub pair_not_held : (t : KnotTable) (first second : ℕ) → PairFails t first second → PairHolds t first second → ⊥
pair_not_held t first second fails holds = elim (holds fails.one fails.two fails.here fails.there fails.less) [
  | inl left ↦ fails.closed left
  | inr told ↦ fails.same told
]

pub row_not_held : (t : KnotTable) (at : ℕ) (why : Why) → RowFails t at why → RowAt t at → ⊥
row_not_held t at why fails holds =
    let joined = holds fails.row fails.here fails.class fails.known in
    let no : ◌≡◌ {A = Ruling} (moves.Rejected why) moves.Accepted =
    (accepted_where_held (grid_of fails.row.diagram) (grid_of fails.class.diagram) (Equal fails.row.moves) (moves.Rejected why) fails.cause).1 joined in
    cc

pub not_held : (t : KnotTable) (why : TableCause) → IsTableCause t why → TableHolds t → ⊥
not_held t (cause.Class at why) is holds =
    let fails = is.1 in
    class_not_held t.blocks fails.class why fails.cause (holds.classes at (slice_get_within t.classes at fails.class fails.here) fails.class fails.here)
not_held t (cause.Same first second) is holds =
    let fails = is.1.1.1 in
    pair_not_held t first second fails (holds.pairs first (slice_get_within t.classes first fails.one fails.here) second
    (slice_get_within t.classes second fails.two fails.there))
not_held t (cause.Row at why) is holds =
    let fails = is.1.1.1 in
    row_not_held t at why fails (holds.rows at (slice_get_within t.rows at fails.row fails.here))

pub accepted_where_table_holds : (t : KnotTable) (ruling : TableRuling) → RulesOnTable t ruling → (ruling ≡ Accepted) ↔ TableHolds t
accepted_where_table_holds t Accepted rules = ((λ is. rules), (λ holds. refl))
accepted_where_table_holds t (Rejected why) rules = ((λ is. absurd cc), (λ holds. absurd (not_held t why rules holds)))

-- an accepted table holds
pub holds_where_accepted : (t : KnotTable) (ruling : TableRuling) → RulesOnTable t ruling → ruling ≡ Accepted → TableHolds t
holds_where_accepted t ruling rules is = (accepted_where_table_holds t ruling rules).0 is
