use Rattle.std.proofs.Common.{◌≡◌, ◌+◌, ◌∙◌, ◌++◌, ℕ, List, length, take, drop, sym, ap, subst, arith}
use Rattle.std.proofs.lemmas.List.{take_all, drop_all, append-nil}
use Rattle.code_rows.specs.declared.row_signs.Tie.{Tie}
use Rattle.code_rows.specs.RowSigns.{Reached, JoinsIfTwo}
use Rattle.code_rows.proofs.InRange.{names_long}
use Rattle.code_rows.proofs.Best.{free_ties_reach, step}
use Rattle.code_rows.proofs.row_signs.joined_ties.Goals as goal

-- a list written back whole
refilled : (n : ℕ) (old after : List Tie) → length old ≡ n → length after ≡ n → take n (after ++ drop (length after) old) ≡ after
refilled n old after old_is after_is =
    ap (λ (zs : List Tie). take n (after ++ zs)) (drop_all (length after) old (omega arith))
    ∙ (ap (take n) (append-nil after) ∙ take_all n after (omega arith))

pub join-requires : goal.join-requires
join-requires c =
    let names = ap length c.requires.names ∙ names_long c.args.rows.now in
    let items = ap length c.as_mut_slice.ensures.value in
    let long = c.loop-before.invariant.long in
    omega (arith, names, items, long)

pub loop-before-init : goal.loop-before-init
loop-before-init c =
    subst (λ (ts : List Tie). Reached c.args.rows.now ts 0) (sym c.in_ok-ties.ensures) (free_ties_reach c.args.rows.now)

pub loop-before-preserved : goal.loop-before-preserved
loop-before-preserved c =
    let rows = c.args.rows.now in
    let m = c.loop-before.before in
    let old = c.loop-before.ties.items in
    let after = c.join.new.ties in
    let value = c.as_mut_slice.ensures.value in
    let items = ap length value in
    let len = c.as_mut_slice.ensures.len in
    let joining = subst (λ (ts : List Tie). JoinsIfTwo c.args.names.now (m + 1) ts after) value c.join.ensures in
    let more : Reached rows after (m + 1) =
    step rows old after m c.loop-before.invariant (subst (λ (ns : List ℕ). JoinsIfTwo ns (m + 1) old after) c.requires.names joining) in
    let long = more.long in
    let was = c.loop-before.invariant.long in
    subst (λ (ts : List Tie). Reached rows ts (m + 1)) (sym (refilled c.loop-before.ties.len old after (omega arith) (omega arith))) more
