use Rattle.std.proofs.Common.{inl}
use Rattle.seek_call.proofs.Ended.{words_refused, settled_words}
use Rattle.seek_call.proofs.call.answer.Goals as goal

pub returns-in-Ok : goal.returns-in-Ok
returns-in-Ok g c = inl record {
  asked = c.in-Ok.asked;
  asks = c.in-Ok.ensures.asks;
  ends = c.seek.ensures;
}

pub returns-in-Err : goal.returns-in-Err
returns-in-Err g c = words_refused _ _ _ _ _ _
    c.in-Err.ensures.shown c.in-Err.ensures.refused (settled_words g.P.Places.standing g.W.Write.contents _ _ c.answer_words.ensures.shown)
    c.answer_words.ensures.usage
