use Rattle.std.proofs.Common.{◌≡◌, true, refl, subst}
use Rattle.std.proofs.lemmas.Result.{IfOk-weaker}
use Rattle.clap.specs.Faults.{fault_of, is_simple_and_free}
use Rattle.clap.specs.Kinds.{FailsBy}
use Rattle.clap.specs.Simple.{App, HasMatchesOf}
use Rattle.knot_words.specs.OptionNumbers.{texts_of}
use Rattle.seek_words.specs.Words.{seek_app}
use Rattle.seek_words.proofs.Shown.{by_kinds, taken_by, refused_by}
use Rattle.seek_words.proofs.asked.parse.Goals as goal

pub returns-clause-rows : goal.returns-clause-rows
returns-clause-rows c = IfOk-weaker c.try_get_matches_from.result _ _
    (λ m h. (subst (λ a. HasMatchesOf a (texts_of c.args.words.now) m) c.in_ok-command.ensures h refl).0) c.try_get_matches_from.ensures.matches

pub returns-clause-taken : goal.returns-clause-taken
returns-clause-taken c = taken_by c.try_get_matches_from.result (fault_of seek_app (texts_of c.args.words.now))
    (subst (λ (a : App). is_simple_and_free a ≡ true → FailsBy (fault_of a (texts_of c.args.words.now)) c.try_get_matches_from.result)
    c.in_ok-command.ensures c.try_get_matches_from.ensures.kinds refl)

pub returns-clause-shown : goal.returns-clause-shown
returns-clause-shown c = by_kinds c.try_get_matches_from.result (fault_of seek_app (texts_of c.args.words.now))
    (subst (λ (a : App). is_simple_and_free a ≡ true → FailsBy (fault_of a (texts_of c.args.words.now)) c.try_get_matches_from.result)
    c.in_ok-command.ensures c.try_get_matches_from.ensures.kinds refl)

pub returns-clause-refused : goal.returns-clause-refused
returns-clause-refused c = refused_by c.try_get_matches_from.result (fault_of seek_app (texts_of c.args.words.now))
    (subst (λ (a : App). is_simple_and_free a ≡ true → FailsBy (fault_of a (texts_of c.args.words.now)) c.try_get_matches_from.result)
    c.in_ok-command.ensures c.try_get_matches_from.ensures.kinds refl)
