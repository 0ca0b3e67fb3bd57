use Rattle.std.proofs.Common.{◌∙◌, [], ap, codes, map, rules, subst}
use Rattle.std.specs.Prelude.{unwrap_or}
use Rattle.clap.specs.Matches.{found_of}
use Rattle.clap.specs.Walk.{all_of, one_of, rows_of}
use Rattle.clap.proofs.WalkLemmas.{first_value-rows, one_text-rows}
use Rattle.clap.specs.Matches.{one_text}
use Rattle.seek_words.specs.Words.{AreWeightsBy, IsTalkBy, IsNumberBy, file_written}
use Rattle.seek_words.proofs.asked.asked_with.Goals as goal

pub returns : goal.returns
returns c =
    let f = found_of c.args.matches.now in
    let n = c.args.numbers in
    let quiet = one_text-rows f (codes "quiet") in
    let progress = one_text-rows f (codes "progress") in
    let told = subst (λ o. IsTalkBy (one_text f (codes "quiet")) o c.talk_of.result) progress c.talk_of.ensures in
    record {
      diagrams = c.requires.diagrams;
      quandles = search rules;
      weights = subst (λ o. AreWeightsBy o (unwrap_or (all_of (codes "weights") (rows_of f)) []) (map (λ s. s.now) c.in_ok-weights.weights.items))
          (one_text-rows f (codes "no-weights")) c.in_ok-weights.ensures;
      out = c.file_of.ensures ∙ ap file_written (c.get_str.ensures ∙ first_value-rows f (codes "out"));
      numbers = record {
        of_seed = subst (λ o. IsNumberBy 64 o n.seed) (one_text-rows f (codes "seed")) c.requires.numbers.seed;
        of_steps = subst (λ o. IsNumberBy 64 o n.steps) (one_text-rows f (codes "steps")) c.requires.numbers.steps;
        of_room = subst (λ o. IsNumberBy 32 o n.room) (one_text-rows f (codes "room")) c.requires.numbers.room;
        of_workers = subst (λ o. IsNumberBy 32 o n.workers) (one_text-rows f (codes "workers")) c.requires.numbers.workers;
      };
      talk = subst (λ o. IsTalkBy o (one_of (codes "progress") (rows_of f)) c.talk_of.result) quiet told;
    }
