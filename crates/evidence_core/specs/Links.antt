-- When what is said of linking numbers holds, and the first cause for which it does not.
use Rattle.std.specs.Prelude.{◌≡◌, ◌≢◌, ℕ, length, ◌==◌, ◌&&◌, Bool, Option, Some, None, if◌then◌else◌}
use Rattle.grid_core.specs.Diagram.{Diagram}
use Rattle.linking_core.specs.Component.{components}
use Rattle.linking_core.specs.Linking.{linking}
use Rattle.evidence_core.specs.declared.evidence.Linked.{Linked}
use Rattle.std.specs.Option.{option_map}
use Rattle.std.specs.Ordering.{int_eq}
use Rattle.std.specs.Cmp.Lexicographic.{pointwise}
use Rattle.quandle_core.specs.Fault.{or_else}
use Rattle.evidence_core.specs.declared.cause.Cause.{Cause}
use Rattle.evidence_core.specs.declared.cause.Cause.TheVariants as cause
use Rattle.evidence_core.specs.Unequal.{first_unequal}

-- how many components a link has, and its linking numbers
abbrev pub linked_of : Diagram → Linked
linked_of d = record { components = length (components d); numbers = linking d }

-- the number of components and the linking numbers are the link's own
pub record AreLinkingOf (d : Diagram) (l : Linked) : Type 0 where
  pub components : l.components ≡ length (components d)
  pub own : l.numbers ≡ linking d

-- the numbers of components and linking numbers are the links' own, and differ
pub record LinkingDiffers (d e : Diagram) (one two : Linked) : Type 0 where
  pub first : AreLinkingOf d one
  pub second : AreLinkingOf e two
  pub differ : one.components ≡ two.components → one.numbers ≢ two.numbers

-- the cause of a place at which numbers differ
abbrev pub place_cause : ℕ → Option ℕ → Option Cause
place_cause which place = option_map (λ k. cause.Number which k) place

-- why what is said of the link of this number is not its own
abbrev pub linked_cause : ℕ → Diagram → Linked → Option Cause
linked_cause which d l =
    if l.components == length (components d) then place_cause which (first_unequal int_eq l.numbers (linking d)) else Some (cause.Components which)

-- the same is said of both
abbrev pub are_same_links : Linked → Linked → Bool
are_same_links one two = (one.components == two.components) && pointwise int_eq one.numbers two.numbers

abbrev pub same_cause : Linked → Linked → Option Cause
same_cause one two = if are_same_links one two then Some cause.Equal else None

abbrev pub cause_of_links : Diagram → Diagram → Linked → Linked → Option Cause
cause_of_links d e one two = or_else (linked_cause 1 d one) (or_else (linked_cause 2 e two) (same_cause one two))
