use Rattle.std.proofs.Common.{inr, sym, subst}
use Rattle.seek_core.specs.Parts.{joined}
use Rattle.seek_call.specs.Search.{IsDecisionText, IsSoughtToFile}
use Rattle.seek_call.proofs.Found.{unwritten, put_at}
use Rattle.seek_call.proofs.search.Search.seek_to_file.Goals as goal

pub returns-in-Err : goal.returns-in-Err
returns-in-Err g c = inr (c.try_path.ensures, unwritten _ _ _ c.tell_unwritten.ensures)

pub returns-in-Ok : goal.returns-in-Ok
returns-in-Ok g c =
    let bytes = joined c.args.self.now.inputs.now.parts.texts in
    let after = g.P.Places.standing c.put_text.new.places in
    let put = c.put_text.ensures in
    let decided = subst (IsDecisionText bytes) (sym c.bytes.ensures) c.in-Ok.ensures.found in
    subst (λ before. IsSoughtToFile bytes c.args.self.now.inputs.now.blocks before after c.args.path.now c.put_text.result) c.try_path.ensures
    (put_at bytes c.args.self.now.inputs.now.blocks c.bytes.result.now _ after c.args.path.now c.put_text.result decided put.whole put.none put.told)

pub returns-in-Err-find_text : goal.returns-in-Err-find_text
returns-in-Err-find_text g c =
    let found = c.in-Err-find_text.ensures in
    inr (c.try_path.ensures, inr (found.none, found.sought))
