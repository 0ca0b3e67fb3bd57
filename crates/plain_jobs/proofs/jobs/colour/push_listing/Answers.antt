use Rattle.std.proofs.Common.{◌++◌, ◌∙◌, List, ℕ, ap}
use Rattle.std.proofs.lemmas.Result.{on_ok_weaker}
use Rattle.text_lines.specs.Spelled.{lines_text}
use Rattle.plain_jobs.proofs.Listed.{list_is_listing}
use Rattle.plain_jobs.proofs.jobs.colour.push_listing.Goals as goal

pub returns : goal.returns
returns c =
    let more : List (List (List ℕ)) → List ℕ = λ lines. c.args.out.now.items ++ lines_text lines in
    on_ok_weaker c.push_list.result (λ done. done ∙ ap more (list_is_listing c.args.colourings.now)) c.push_list.ensures.text
