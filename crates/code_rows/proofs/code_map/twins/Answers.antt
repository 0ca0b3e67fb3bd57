use Rattle.std.proofs.Common.{◌≡◌, ◌<◌, ◌+◌, ◌∷◌, ◌++◌, ◌∙◌, [], List, ℕ, ap, sym, subst, length, map, arith}
use Rattle.std.specs.List.{All, range_with_len}
use Rattle.std.proofs.lemmas.List.FromFn.{length-map-range_with_len}
use Rattle.std.proofs.lemmas.List.Elements.{All-push}
use Rattle.code_rows.specs.CodeMap.{darts, twin}
use Rattle.std.proofs.lemmas.List.{map-append}
use Rattle.grid_core.proofs.OneEach.{range_next}
use Rattle.code_rows.proofs.code_map.twins.Goals as goal

pub loop-dart-preserved : goal.loop-dart-preserved
loop-dart-preserved c =
    let xs = c.args.crossings.now in
    let n = c.loop-dart.dart in
    let more : map (twin xs) (range_with_len 0 (n + 1)) ≡ map (twin xs) (range_with_len 0 n) ++ twin xs n ∷ [] =
    ap (map (twin xs)) (range_next n) ∙ map-append (twin xs) (range_with_len 0 n) (n ∷ []) in
    let all : c.push.new.self.items ≡ map (twin xs) (range_with_len 0 (n + 1)) =
    c.in_ok-push.ensures.items ∙ (ap (λ (ys : List ℕ). ys ++ c.twin.result ∷ []) c.loop-dart.invariant.all
    ∙ (ap (λ (y : ℕ). map (twin xs) (range_with_len 0 n) ++ y ∷ []) c.twin.ensures.twin ∙ sym more)) in
    record {
      all = all;
      long = ap length all ∙ length-map-range_with_len (twin xs) 0 (n + 1);
      inside = subst (λ (ys : List ℕ). All (λ e. e < darts xs) ys) (sym c.in_ok-push.ensures.items)
          (All-push (λ e. e < darts xs) c.loop-dart.ends.items c.twin.result c.loop-dart.invariant.inside c.twin.ensures.within);
    }

pub returns-clause-inside : goal.returns-clause-inside
returns-clause-inside c =
    let long : length c.loop-dart.ends.items ≡ darts c.args.crossings.now = omega (arith, c.loop-dart.invariant.long) in
    subst (λ (n : ℕ). All (λ e. e < n) c.loop-dart.ends.items) (sym long) c.loop-dart.invariant.inside
