-- The fixed points of a braid's action.
use Rattle.std.specs.Prelude.{◌≡◌, ◌^◌, ℕ, List, Bool, map, filter, nat_eq, nat_lt, if◌then◌else◌, Option, Some, None}
use Rattle.std.specs.Cmp.Lexicographic.{pointwise}
use Rattle.smallvec.specs.SmallVec.{SmallVec}
use Rattle.quandle_core.specs.Quandle.{Table}
use Rattle.quandle_core.specs.Colours.{all_lists}
use Rattle.braid_core.specs.Braid.{Word}
use Rattle.braid_core.specs.Action.{IsTuple, action}
use Rattle.braid_core.specs.declared.tuples.TheConstants.{MAX_TUPLES}
use Rattle.braid_core.specs.declared.tuples.FixFault.{FixFault}
use Rattle.braid_core.specs.declared.tuples.FixFault.TheVariants.{TooWide}

-- all tuples of m colours below q, in lexicographic order
abbrev pub all_tuples : ℕ → ℕ → List (List ℕ)
all_tuples q m = all_lists q m

-- the tuple equals its image
abbrev pub is_fixed : Table → Word → List ℕ → Bool
is_fixed t b xs = pointwise nat_eq (action t b.letters xs) xs

-- all fixed points, in lexicographic order
abbrev pub fixed_points : Table → Word → List (List ℕ)
fixed_points t b = filter (is_fixed t b) (all_tuples t.order b.strands)

-- the same as a relation: a law states that exactly these tuples are listed
pub record IsFixedPoint (t : Table) (b : Word) (xs : List ℕ) : Type 0 where
  pub tuple : IsTuple t b.strands xs
  pub fixed : action t b.letters xs ≡ xs

-- there are more tuples than are tried
abbrev pub wide_fault : Table → Word → Option FixFault
wide_fault t b = if nat_lt MAX_TUPLES (t.order ^ b.strands) then Some (TooWide b.strands) else None

-- the items of each tuple
abbrev pub tuples_of : List (SmallVec ℕ) → List (List ℕ)
tuples_of list = map (λ (v : SmallVec ℕ). v.items) list
