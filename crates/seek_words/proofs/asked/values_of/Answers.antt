use Rattle.std.proofs.Common.{◌∙◌, [], map, sym, ap, rules}
use Rattle.std.specs.Prelude.{option_map, unwrap_or}
use Rattle.clap.specs.Matches.{found_of}
use Rattle.clap.proofs.WalkLemmas.{raw_values-rows}
use Rattle.seek_words.proofs.asked.values_of.Goals as goal

pub returns-in-None : goal.returns-in-None
returns-in-None c =
    let rows = c.get_strs.ensures ∙ raw_values-rows (found_of c.args.matches.now) c.args.name.now in
    let given = ap (λ o. unwrap_or o []) (sym (ap (option_map (λ s. map (λ v. v.now) s.now)) c.in-None.is) ∙ rows) in
    rw (← given) (search rules)

pub returns-in_ok-list-in-Some : goal.returns-in_ok-list-in-Some
returns-in_ok-list-in-Some c =
    let rows = c.get_strs.ensures ∙ raw_values-rows (found_of c.args.matches.now) c.args.name.now in
    let given = ap (λ o. unwrap_or o []) (sym (ap (option_map (λ s. map (λ v. v.now) s.now)) c.in-Some.is) ∙ rows) in
    rw (← given) (search rules)
