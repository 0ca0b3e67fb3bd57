use Rattle.std.proofs.Common.{◌<◌, arith, refl}
use Rattle.grid_keys.specs.Cornered.{cornered}
use Rattle.grid_keys.proofs.LeastTranslates.{least_form_at}
use Rattle.grid_canon.proofs.CutNumbers.{few, row_within, cornered_digits, cornered_fits}
use Rattle.grid_canon.proofs.ShortKeys.{cornered_key}
use Rattle.grid_canon.proofs.short_grid.ShortGrid.canonical_key.Goals as goal

pub short_words-requires-clause-value : goal.short_words-requires-clause-value
short_words-requires-clause-value c =
    let s = c.self.inside in
    let d = c.args.self.now in
    let f = few s.size s.crosses s.rings d c.self.view_is c.self.invariant in
    let t = c.least_translate-least.result in
    let found = c.least_translate-least.ensures.found in
    let lt : t.column < s.size = omega (arith, found.inside, f.columns) in
    cornered_fits s.size t.column t.crosses (cornered d t.column).x d f lt (cornered_digits s.size t.column d f lt).0 found.crosses_are

pub short_words-requires-2-clause-value : goal.short_words-requires-2-clause-value
short_words-requires-2-clause-value c =
    let s = c.self.inside in
    let d = c.args.self.now in
    let f = few s.size s.crosses s.rings d c.self.view_is c.self.invariant in
    let t = c.least_translate-least.result in
    let found = c.least_translate-least.ensures.found in
    let lt : t.column < s.size = omega (arith, found.inside, f.columns) in
    cornered_fits s.size t.column c.cornered_rings-rings.result (cornered d t.column).o d f lt
    (cornered_digits s.size t.column d f lt).1 c.cornered_rings-rings.ensures

pub overflow_cast-result-3 : goal.overflow_cast-result-3
overflow_cast-result-3 c =
    let s = c.self.inside in
    let d = c.args.self.now in
    let f = few s.size s.crosses s.rings d c.self.view_is c.self.invariant in
    let t = c.least_translate-least.result in
    let found = c.least_translate-least.ensures.found in
    let lt : t.column < s.size = omega (arith, found.inside, f.columns) in
    record { fits = omega (arith, row_within s.size t.column t.row d f found.inside found.row_is, f.most) }

pub returns : goal.returns
returns c =
    let s = c.self.inside in
    let d = c.args.self.now in
    let f = few s.size s.crosses s.rings d c.self.view_is c.self.invariant in
    let t = c.least_translate-least.result in
    let found = c.least_translate-least.ensures.found in
    let lt : t.column < s.size = omega (arith, found.inside, f.columns) in
    record {
      form = cornered d t.column;
      key =
          cornered_key s.size s.size t.column t.crosses c.cornered_rings-rings.result c.short_words.result c.short_words-2.result d f lt refl
          found.crosses_are c.cornered_rings-rings.ensures c.short_words.ensures c.short_words-2.ensures;
      least =
          least_form_at d t.column (record { grid = cornered d t.column; columns = t.column; rows = t.row }) f.grid c.least_translate-least.ensures.first
          refl refl found.row_is;
    }
