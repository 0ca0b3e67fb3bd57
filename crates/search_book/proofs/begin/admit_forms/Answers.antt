use Rattle.std.proofs.Common.{◌≡◌, ◌∙◌, ◌++◌, ◌∷◌, [], List, None, ap, sym}
use Rattle.std.proofs.lemmas.Bool.{both_ways}
use Rattle.grid_keys.specs.Key.{key_of}
use Rattle.search_book.specs.declared.problem.Side.TheVariants.{First, Second}
use Rattle.search_book.specs.declared.entry.Entry.{Entry}
use Rattle.search_book.specs.Entries.{id_of}
use Rattle.search_book.specs.Begin.{root}
use Rattle.search_book.specs.EntryList.{EntriesIn}
use Rattle.search_book.proofs.Opened.{opened_apart, second_is_new}
use Rattle.search_book.proofs.Rest.{rest_of, rest_after}
use Rattle.search_book.proofs.begin.admit_forms.Goals as goal

pub returns-else-same_as-clause-opened : goal.returns-else-same_as-clause-opened
returns-else-same_as-clause-opened c = λ p.
    let one : Entry = root First c.args.first.now in
    let two : Entry = root Second c.args.second.now in
    let first : c.admit_root.new.roll.entries ≡ one ∷ [] =
    ap (λ (k : EntriesIn). k.entries) c.admit_root.ensures ∙ ap (λ (es : List Entry). es ++ one ∷ []) c.requires.none in
    let both : c.admit_root-else-same_as.new.roll.entries ≡ one ∷ two ∷ [] =
    ap (λ (k : EntriesIn). k.entries) c.admit_root-else-same_as.ensures ∙ ap (λ (es : List Entry). es ++ two ∷ []) first in
    opened_apart p c.args.first.now c.args.second.now c.requires.first.grid c.requires.second.grid
    (λ same. both_ways c.same_as.result c.if-same_as.false (c.same_as.ensures.1 same))
    ∙ ap (λ (es : List Entry). record { problem = p; entries = es; history = []; end = None }) (sym both)

pub admit_root-requires-else-same_as-clause-new : goal.admit_root-requires-else-same_as-clause-new
admit_root-requires-else-same_as-clause-new c =
    let first : c.admit_root.new.roll.entries ≡ root First c.args.first.now ∷ [] =
    ap (λ (k : EntriesIn). k.entries) c.admit_root.ensures ∙ ap (λ (es : List Entry). es ++ root First c.args.first.now ∷ []) c.requires.none in
    ap (λ (es : List Entry). id_of es (key_of c.args.second.now.grid)) first
    ∙ second_is_new c.args.first.now c.args.second.now c.requires.first.grid c.requires.second.grid
    (λ same. both_ways c.same_as.result c.if-same_as.false (c.same_as.ensures.1 same))

pub returns-then-same_as-clause-rest : goal.returns-then-same_as-clause-rest
returns-then-same_as-clause-rest c = rest_of c.args.roll.now c.admit_root.new.roll _ c.admit_root.ensures

pub returns-else-same_as-clause-rest : goal.returns-else-same_as-clause-rest
returns-else-same_as-clause-rest c =
    rest_after c.args.roll.now c.admit_root.new.roll c.admit_root-else-same_as.new.roll
    (rest_of c.args.roll.now c.admit_root.new.roll _ c.admit_root.ensures)
    (rest_of c.admit_root.new.roll c.admit_root-else-same_as.new.roll _ c.admit_root-else-same_as.ensures)
