use Rattle.std.proofs.Common.{refl}
use Rattle.knot_words.proofs.laws.each_job_has_its_limit.Goals as goal

pub returns-clause-check : goal.returns-clause-check
returns-clause-check c = refl

pub returns-clause-searches : goal.returns-clause-searches
returns-clause-searches c = (refl, (refl, (refl, tt)))

pub returns-clause-others : goal.returns-clause-others
returns-clause-others c = (refl, (refl, (refl, (refl, (refl, (refl, (refl, (refl, (refl, (refl, tt))))))))))

pub returns-clause-sample : goal.returns-clause-sample
returns-clause-sample c = refl
