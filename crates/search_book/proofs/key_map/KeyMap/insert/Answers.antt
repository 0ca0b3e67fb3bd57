use Rattle.std.proofs.Common.{◌≡◌, ◌∙◌, ◌++◌, ◌∷◌, [], ap, subst, sym, Bool, true, false, None, List, IsPermutation}
use Rattle.std.specs.Map.{lookup}
use Rattle.std.proofs.lemmas.List.Elements.{All-push}
use Rattle.indexmap.proofs.CallerLemmas.{insert_entry-new}
use Rattle.grid_keys.specs.declared.brief.BriefKey.{BriefKey}
use Rattle.grid_keys.specs.declared.key.Packed.{Packed}
use Rattle.grid_keys.specs.Brief.{same_brief}
use Rattle.grid_keys.specs.Key.{same_key}
use Rattle.search_book.specs.declared.key_map.Known.{Known}
use Rattle.search_book.specs.KeyMap.{pairs, IsWide, AreWide}
use Rattle.search_book.proofs.TwoMaps.{by_brief, by_whole, brief_more, whole_more}
use Rattle.search_book.proofs.key_map.KeyMap.insert.Goals as goal
use Rattle.search_book.proofs.key_map.KeyMap.insert.Goals.{in-Ok, in-Err, in-Ok-insert, in-Err-insert}

pub invariant_of-self-in-None : goal.invariant_of-self-in-None
invariant_of-self-in-None c = elim c.match-insert-2.branch [
  | in-Ok-insert w ↦
      let m = c.self.inside in
      let old : lookup (same_key c.args.key) (pairs m.brief.entries m.whole.entries) ≡ None =
      ap (λ (ps : List (Packed × Known)). lookup (same_key c.args.key) ps) c.self.view_is ∙ c.requires in
      let none : lookup (same_key c.args.key) m.whole.entries ≡ None = by_whole c.args.key m.brief.entries m.whole.entries c.in-None.ensures.none ∙ old in
      subst AreWide (sym (w.in-Ok-insert.ensures.entries ∙ insert_entry-new same_key m.whole c.args.key c.args.known none))
      (All-push (λ (p : Packed × Known). IsWide p.0) m.whole.entries (c.args.key, c.args.known) c.self.invariant c.in-None.ensures.none)
  | in-Err-insert w ↦ subst AreWide (sym w.in-Err-insert.ensures.err) c.self.invariant
]

pub returns-after-insert-clause-added : goal.returns-after-insert-clause-added
returns-after-insert-clause-added c = λ yes. elim c.match-insert.branch [
  | in-Ok w ↦
      let m = c.self.inside in
      let old : lookup (same_key c.args.key) (pairs m.brief.entries m.whole.entries) ≡ None =
      ap (λ (ps : List (Packed × Known)). lookup (same_key c.args.key) ps) c.self.view_is ∙ c.requires in
      let none : lookup (same_brief c.in-Some.brief) m.brief.entries ≡ None =
      by_brief c.in-Some.brief c.args.key m.brief.entries m.whole.entries c.in-Some.ensures.some c.self.invariant ∙ old in
      let entries : c.insert.new.self.entries ≡ m.brief.entries ++ (c.in-Some.brief, c.args.known) ∷ [] =
      w.in-Ok.ensures.entries ∙ insert_entry-new same_brief m.brief c.in-Some.brief c.args.known none in
      subst (λ (ps : List (Packed × Known)). IsPermutation (ps ++ (c.args.key, c.args.known) ∷ []) (pairs c.insert.new.self.entries m.whole.entries))
      c.self.view_is
      (subst (λ (es : List (BriefKey × Known)). IsPermutation (pairs m.brief.entries m.whole.entries ++ (c.args.key, c.args.known) ∷ [])
      (pairs es m.whole.entries)) (sym entries)
      (brief_more c.in-Some.brief c.args.key c.args.known m.brief.entries m.whole.entries c.in-Some.ensures.some))
  | in-Err w ↦ absurd (let no : ◌≡◌ {A = Bool} true false = sym yes ∙ w.result-is in cc)
]

pub returns-after-insert-2-clause-added : goal.returns-after-insert-2-clause-added
returns-after-insert-2-clause-added c = λ yes. elim c.match-insert-2.branch [
  | in-Ok-insert w ↦
      let m = c.self.inside in
      let old : lookup (same_key c.args.key) (pairs m.brief.entries m.whole.entries) ≡ None =
      ap (λ (ps : List (Packed × Known)). lookup (same_key c.args.key) ps) c.self.view_is ∙ c.requires in
      let none : lookup (same_key c.args.key) m.whole.entries ≡ None = by_whole c.args.key m.brief.entries m.whole.entries c.in-None.ensures.none ∙ old in
      let entries : c.insert-in-None.new.self.entries ≡ m.whole.entries ++ (c.args.key, c.args.known) ∷ [] =
      w.in-Ok-insert.ensures.entries ∙ insert_entry-new same_key m.whole c.args.key c.args.known none in
      subst (λ (ps : List (Packed × Known)). IsPermutation (ps ++ (c.args.key, c.args.known) ∷ []) (pairs m.brief.entries c.insert-in-None.new.self.entries))
      c.self.view_is
      (subst (λ (es : List (Packed × Known)). IsPermutation (pairs m.brief.entries m.whole.entries ++ (c.args.key, c.args.known) ∷ [])
      (pairs m.brief.entries es)) (sym entries)
      (whole_more c.args.key c.args.known m.brief.entries m.whole.entries))
  | in-Err-insert w ↦ absurd (let no : ◌≡◌ {A = Bool} true false = sym yes ∙ w.result-is in cc)
]
