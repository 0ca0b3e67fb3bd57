use Rattle.std.proofs.Common.{◌≡◌, ◌≢◌, ◌∙◌, ap, sym, subst, ℕ, ◌≤◌, inl, inr, arith}
use Rattle.grid_keys.specs.Key.{size_of}
use Rattle.search_book.specs.declared.entry.Entry.{Entry}
use Rattle.search_book.specs.declared.entry.Stage.TheVariants.{Unclaimed, InFlight}
use Rattle.search_book.specs.Entries.{StandsAt}
use Rattle.search_book.specs.State.{State}
use Rattle.search_book.specs.Claim.{ClaimsEntry}
use Rattle.search_book.proofs.Restaged.{set_stands, set_others}
use Rattle.book_laws.proofs.machine.what_a_claim_does.Goals as goal

first : (s t : State) (worker id : ℕ) (claim : ClaimsEntry s worker id t) (i : ℕ) (f : Entry) → StandsAt s.entries i f → f.stage ≡ Unclaimed
    → (size_of claim.entry.key ≤ size_of f.key) × (size_of claim.entry.key ≡ size_of f.key → id ≤ i)
first s t worker id claim i f stands waits = elim (claim.next.least i f stands waits) [
  | inl smaller ↦ (omega (arith, smaller), λ same. omega (arith, smaller, same))
  | inr equal ↦ (omega (arith, equal.0), λ same. equal.1)
]

is : (s t : State) (worker id : ℕ) (claim : ClaimsEntry s worker id t) → StandsAt t.entries id (record claim.entry { stage = InFlight worker })
is s t worker id claim =
    subst (λ (u : State). StandsAt u.entries id (record claim.entry { stage = InFlight worker })) (sym claim.after)
    (set_stands s.entries id claim.entry (record claim.entry { stage = InFlight worker }) claim.next.stands)

others : (s t : State) (worker id i : ℕ) (f : Entry) → ClaimsEntry s worker id t → i ≢ id → StandsAt s.entries i f → StandsAt t.entries i f
others s t worker id i f claim other stands =
    subst (λ (u : State). StandsAt u.entries i f) (sym claim.after)
    (set_others s.entries id (record claim.entry { stage = InFlight worker }) i f other stands)

pub returns-clause-first : goal.returns-clause-first
returns-clause-first c = first

pub returns-clause-was : goal.returns-clause-was
returns-clause-was c = λ s t worker id claim. (claim.next.stands, claim.next.unclaimed)

pub returns-clause-is : goal.returns-clause-is
returns-clause-is c = is

pub returns-clause-others : goal.returns-clause-others
returns-clause-others c = others

pub returns-clause-end : goal.returns-clause-end
returns-clause-end c = λ s t worker id claim. ap (λ (u : State). u.end) claim.after ∙ claim.not_over
