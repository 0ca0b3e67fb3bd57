use Rattle.std.proofs.Common.{◌∙◌, ◌∷◌, [], refl, arith, ap, sym, length, length-append}
use Rattle.grid_keys.specs.declared.least_form.LeastForm.{LeastForm}
use Rattle.next_moves.specs.declared.links.Offer.{Offer}
use Rattle.next_moves.specs.Offers.{try_of}
use Rattle.next_moves.proofs.Extended.{extends_legal, extends_large, extends_illegal}
use Rattle.next_moves.proofs.tries.Tries.try_move.Goals as goal

pub returns-in-Err : goal.returns-in-Err
returns-in-Err c =
    record {
      offered =
          extends_illegal c.args.self.now.diagram c.translated-moved.result c.args.self.now.cap _ c.in-Err.field-0 c.args.list.now.items
          c.args.list.now.items c.translated-moved.ensures c.in-Err.ensures.fault refl;
      fits = omega arith;
    }

pub returns-then-size-cap : goal.returns-then-size-cap
returns-then-size-cap c =
    let d = c.args.self.now.diagram in
    let found = c.canonical_key.ensures in
    let form : LeastForm = record { grid = found.form; columns = c.canonical_key.result.columns; rows = c.canonical_key.result.rows } in
    let made = c.offer_of.ensures in
    let key = found.key ∙ sym (ap (λ (o : Offer). o.key) made) in
    let within = c.size-size.ensures.grid.least in
    record {
      offered =
          extends_legal d c.translated-moved.result c.apply_in_place.new.grid c.args.self.now.cap (record { before = c.args.before; step = c.args.step })
          c.offer_of.result form c.args.list.now.items c.push.new.self.items (omega (arith, c.requires.columns, within))
          (omega (arith, c.requires.rows, within)) c.translated-moved.ensures c.in-Ok.ensures.moved
          (omega (arith, c.size.ensures.size, c.if-size-cap.true, c.cap.ensures)) found.least key (ap (λ (o : Offer). try_of o) made)
          (ap (λ (o : Offer). o.link.after) made) c.push.ensures.items;
      fits = omega (arith, ap length c.push.ensures.items, length-append c.args.list.now.items (c.offer_of.result ∷ []));
    }

pub returns-else-size-cap : goal.returns-else-size-cap
returns-else-size-cap c =
    record {
      offered =
          extends_large c.args.self.now.diagram c.translated-moved.result c.apply_in_place.new.grid c.args.self.now.cap _ c.args.list.now.items
          c.args.list.now.items (omega (arith, c.requires.columns, c.size-size.ensures.grid.least)) c.translated-moved.ensures c.in-Ok.ensures.moved
          (omega (arith, c.size.ensures.size, c.if-size-cap.false, c.cap.ensures)) refl;
      fits = omega arith;
    }
