use Rattle.std.proofs.Common.{◌∙◌, ap, sym, true≢false, is_some}
use Rattle.std.specs.Prelude.{option_map}
use Rattle.clap.specs.Matches.{found_of}
use Rattle.clap.proofs.WalkLemmas.{first_value-rows}
use Rattle.knot_words.proofs.KnotReads.{job_read}
use Rattle.knot_words.proofs.words.job_text.Goals as goal

pub unreachable-requires : goal.unreachable-requires
unreachable-requires c =
    let shown = sym c.get_str.ensures ∙ ap (option_map (λ s. s.now)) c.in-None.is in
    true≢false (sym (job_read c.args.matches.now c.requires) ∙ ap (λ o. is_some o) shown)

pub returns : goal.returns
returns c =
    sym (first_value-rows (found_of c.args.matches.now) _) ∙ sym c.get_str.ensures ∙ ap (option_map (λ s. s.now)) c.in-Some.is
