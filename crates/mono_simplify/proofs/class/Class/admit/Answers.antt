use Rattle.std.proofs.Common.{◌≡◌, ◌∙◌, ◌++◌, ◌∷◌, [], List, ap, false}
use Rattle.indexmap.proofs.CallerLemmas.{insert_entry-new}
use Rattle.grid_keys.specs.Key.{same_key}
use Rattle.mono_simplify.specs.Listing.{has_key}
use Rattle.mono_simplify.specs.Ways.{Member, keys_in}
use Rattle.mono_simplify.proofs.Lookups.{absent_key}
use Rattle.mono_simplify.proofs.class.Class.admit.Goals as goal

pub returns : goal.returns
returns c =
    let old : c.self.inside.index.entries ≡ c.args.self.now = c.self.view_is in
    let absent : has_key (keys_in c.self.inside.index.entries) c.args.key ≡ false = ap (λ (ms : List Member). has_key (keys_in ms) c.args.key) old
    ∙ c.requires in
    c.in_ok-insert.ensures.entries
    ∙ insert_entry-new same_key c.self.inside.index c.args.key c.args.origin (absent_key c.self.inside.index.entries c.args.key absent)
    ∙ ap (λ (ms : List Member). ms ++ (c.args.key, c.args.origin) ∷ []) old
