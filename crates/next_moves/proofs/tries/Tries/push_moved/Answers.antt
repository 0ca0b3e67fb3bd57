use Rattle.std.proofs.Common.{◌∙◌, ◌∷◌, [], refl, arith, ap, sym, length, length-append}
use Rattle.grid_keys.specs.declared.least_form.LeastForm.{LeastForm}
use Rattle.grid_keys.specs.Translation.{translate}
use Rattle.next_moves.specs.declared.links.Offer.{Offer}
use Rattle.next_moves.specs.Offers.{try_of}
use Rattle.next_moves.proofs.Extended.{extends_legal}
use Rattle.next_moves.proofs.tries.Tries.push_moved.Goals as goal

pub returns : goal.returns
returns c =
    let d = c.args.self.now.diagram in
    let found = c.canonical_key.ensures in
    let form : LeastForm = record { grid = found.form; columns = c.canonical_key.result.columns; rows = c.canonical_key.result.rows } in
    let made = c.offer_of.ensures in
    let key = found.key ∙ sym (ap (λ (o : Offer). o.key) made) in
    let within = c.size-size.ensures.grid.least in
    record {
      offered =
          extends_legal d (translate d c.args.before.0 c.args.before.1) c.args.moved.now c.args.self.now.cap
          (record { before = c.args.before; step = c.args.step }) c.offer_of.result form c.args.list.now.items c.push.new.self.items
          (omega (arith, c.requires.columns, within)) (omega (arith, c.requires.rows, within)) refl c.requires.step c.requires.cap found.least key
          (ap (λ (o : Offer). try_of o) made) (ap (λ (o : Offer). o.link.after) made) c.push.ensures.items;
      fits = omega (arith, ap length c.push.ensures.items, length-append c.args.list.now.items (c.offer_of.result ∷ []));
    }
