use Rattle.std.proofs.Common.{◌≡◌, ◌∙◌, ◌+◌, ◌%◌, ◌==◌, ℕ, ap, ap₂}
use Rattle.quandle_core.specs.Quandle.{over}
use Rattle.cocycle_core.specs.Cocycle.{Cochain, value}
use Rattle.cocycle_core.proofs.draft.Draft.obeys.Goals as goal

pub returns : goal.returns
returns c =
    let w : Cochain = c.args.self.now in
    let one : c.from-one.result ≡ value w c.args.x c.args.y = c.from-one.ensures ∙ c.entry.ensures in
    let two : c.from-two.result ≡ value w (over c.args.self.now.quandle c.args.x c.args.y) c.args.z = c.from-two.ensures
    ∙ (c.entry-2.ensures ∙ ap (λ a. value w a c.args.z) c.over.ensures) in
    let three : c.from-three.result ≡ value w c.args.x c.args.z = c.from-three.ensures ∙ c.entry-3.ensures in
    let four : c.from-four.result ≡ value w (over c.args.self.now.quandle c.args.x c.args.z) (over c.args.self.now.quandle c.args.y c.args.z) =
    c.from-four.ensures ∙ (c.entry-4.ensures ∙ ap₂ (value w) c.over-2.ensures c.over-3.ensures) in
    let m : c.from-modulus.result ≡ w.modulus = c.from-modulus.ensures ∙ c.modulus.ensures in
    ap₂ (λ a b. a == b) (ap₂ (λ a k. a % k) (ap₂ (λ a b. a + b) one two) m) (ap₂ (λ a k. a % k) (ap₂ (λ a b. a + b) three four) m)
