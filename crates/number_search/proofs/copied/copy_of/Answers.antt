use Rattle.std.proofs.Common.{◌≡◌, ◌∙◌, ℕ, List, ap, subst, sym}
use Rattle.quandle_core.specs.Quandle.{Table}
use Rattle.cocycle_core.specs.ShadowCocycle.{ShadowCochain, IsShadowCocycle}
use Rattle.number_text.specs.Shadows.{shadow_cochain}
use Rattle.number_search.proofs.copied.copy_of.Goals as goal

-- the same parts
same_parts : (t : ShadowCochain) (quandle : Table) (modulus : ℕ) (entries : List ℕ) → quandle ≡ t.quandle → modulus ≡ t.modulus → entries ≡ t.entries
    → shadow_cochain quandle modulus entries ≡ t
same_parts t quandle modulus entries one two three =
    ap (λ (q : Table). shadow_cochain q modulus entries) one
    ∙ (ap (λ (k : ℕ). shadow_cochain t.quandle k entries) two ∙ ap (λ (es : List ℕ). shadow_cochain t.quandle t.modulus es) three)

pub of_table-requires : goal.of_table-requires
of_table-requires c =
    subst IsShadowCocycle
    (sym (same_parts c.args.cocycle.now c.quandle.result.now c.modulus.result c.in_ok-table.table.items c.quandle.ensures c.modulus.ensures.modulus
    c.in_ok-table.ensures)) c.modulus-modulus.ensures.cocycle

pub returns : goal.returns
returns c =
    c.of_table.ensures
    ∙ same_parts c.args.cocycle.now c.quandle.result.now c.modulus.result c.in_ok-table.table.items c.quandle.ensures c.modulus.ensures.modulus
    c.in_ok-table.ensures
