use Rattle.std.proofs.Common.{◌≡◌, ℕ, List, IfSome, sym, subst}
use Rattle.seek_call.proofs.BlocksGiven.{given_as_told}
use Rattle.seek_call.proofs.blocks.with_file.Goals as goal

pub returns-in-Ok : goal.returns-in-Ok
returns-in-Ok g c =
    let told = g.F.Texts.told c.args.files.now in
    let is = subst (λ (text : List ℕ). IfSome (told c.args.path.now) (λ bytes. text ≡ bytes)) (sym c.as_slice.ensures.value) c.in-Ok.ensures.text in
    let given = given_as_told told c.args.path c.args.blocks c.as_slice.result.now c.with_text.result is c.with_text.ensures.blocks
    c.with_text.ensures.failure in
    record { blocks = given.0; failure = given.1 }
