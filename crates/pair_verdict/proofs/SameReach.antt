-- Diagrams that are joined within a cap reach the same within it.
use Rattle.std.proofs.Common.{◌↔◌, ℕ, inl, inr, get_or}
use Rattle.grid_core.specs.Diagram.{Diagram}
use Rattle.grid_moves.specs.Joining.{WithinCap}
use Rattle.grid_moves.proofs.Within.{within_cap_after, within_cap_back}
use Rattle.next_moves.specs.Reach.{IsReached, HasMembers, HasMoreMembers}

pub joined_as : (a b s t : Diagram) (cap : ℕ) → WithinCap a s cap → WithinCap b t cap → WithinCap s t cap ↔ WithinCap a b cap
joined_as a b s t cap one two = (
  λ joined. within_cap_after a s b cap one (within_cap_after s t b cap joined (within_cap_back b t cap two)),
  λ joined. within_cap_after s a t cap (within_cap_back a s cap one) (within_cap_after a b t cap joined two),
)

reached_onto : (a b s t : Diagram) (cap : ℕ) → WithinCap a s cap → WithinCap b t cap → (f : Diagram) → IsReached s t cap f → IsReached a b cap f
reached_onto a b s t cap one two f reached = record {
  canonical = reached.canonical;
  joined = elim reached.joined [
    | inl joined ↦ inl (within_cap_after a s f cap one joined)
    | inr joined ↦ inr (within_cap_after b t f cap two joined)
  ];
}

pub reached_as : (a b s t : Diagram) (cap : ℕ) → WithinCap a s cap → WithinCap b t cap → (f : Diagram) → IsReached s t cap f ↔ IsReached a b cap f
reached_as a b s t cap one two f = (
  reached_onto a b s t cap one two f,
  reached_onto s t a b cap (within_cap_back a s cap one) (within_cap_back b t cap two) f,
)

-- diagrams of one kind are counted as those of another that holds of the same
pub members_as : (P Q : Diagram → Type 0) (k : ℕ) → ((f : Diagram) → P f ↔ Q f) → HasMembers P k → HasMembers Q k
members_as P Q k same all = (
  all.0,
  all.1,
  record {
    different = all.2.different;
    exactly = λ f. (λ is. (all.2.exactly f).0 ((same f).1 is), λ here. (same f).0 ((all.2.exactly f).1 here));
  },
)

pub more_as : (P Q : Diagram → Type 0) (k : ℕ) → ((f : Diagram) → P f ↔ Q f) → HasMoreMembers P k → HasMoreMembers Q k
more_as P Q k same all = (all.0, all.1, all.2, λ i f lt. (same (get_or all.0 i f)).0 (all.3 i f lt))
