-- The laws of a column's action, in both directions.
use Rattle.std.proofs.Common.{◌≡◌, ℕ, refl}
use Rattle.std.specs.Prelude.{Bool, true, false}
use Rattle.std.proofs.Math.Bool.{not}
use Rattle.colour_laws.proofs.ColumnLists.{Acts, crossed}

-- the third law under a down column
down_carries : (p : Bool → ℕ → ℕ → ℕ) → Acts p → (e : Bool) (z y a : ℕ) → p false z (p e y a) ≡ p e (p false z y) (p false z a)
down_carries p acts false z y a = acts.third z y a
down_carries p acts true z y a =
    let low : p false z (p false y (p true y a)) ≡ p false (p false z y) (p false z (p true y a)) = acts.third z y (p true y a) in
    let here : p false y (p true y a) ≡ a = acts.up_down y a in
    let there : p true (p false z y) (p false (p false z y) (p false z (p true y a))) ≡ p false z (p true y a) =
    acts.down_up (p false z y) (p false z (p true y a)) in
    cc

-- the third law in each direction
pub carried : (p : Bool → ℕ → ℕ → ℕ) → Acts p → (d e : Bool) (z y a : ℕ) → p d z (p e y a) ≡ p e (p d z y) (p d z a)
carried p acts false e z y a = down_carries p acts e z y a
carried p acts true e z y a =
    let low : p false z (p e (p true z y) (p true z a)) ≡ p e (p false z (p true z y)) (p false z (p true z a)) =
    down_carries p acts e z (p true z y) (p true z a) in
    let one : p false z (p true z y) ≡ y = acts.up_down z y in
    let two : p false z (p true z a) ≡ a = acts.up_down z a in
    let there : p true z (p false z (p e (p true z y) (p true z a))) ≡ p e (p true z y) (p true z a) = acts.down_up z (p e (p true z y) (p true z a)) in
    cc

-- what a column does at a height is carried along by any action
pub crossed_carried : (p : Bool → ℕ → ℕ → ℕ) → Acts p → (d l m : Bool) (z y a : ℕ) → p d z (crossed p l m y a) ≡ crossed p l m (p d z y) (p d z a)
crossed_carried p acts d true true z y a = refl
crossed_carried p acts d true false z y a = carried p acts d true z y a
crossed_carried p acts d false true z y a = carried p acts d false z y a
crossed_carried p acts d false false z y a = refl

-- and carries it along
pub crossed_carries : (p : Bool → ℕ → ℕ → ℕ) → Acts p → (d l m : Bool) (z y a : ℕ) → crossed p l m z (p d y a) ≡ p d (crossed p l m z y) (crossed p l m z a)
crossed_carries p acts d true true z y a = refl
crossed_carries p acts d true false z y a = carried p acts true d z y a
crossed_carries p acts d false true z y a = carried p acts false d z y a
crossed_carries p acts d false false z y a = refl

-- a column leaves its own colour
pub crossed_fixed : (p : Bool → ℕ → ℕ → ℕ) → Acts p → (l m : Bool) (y : ℕ) → crossed p l m y y ≡ y
crossed_fixed p acts true true y = refl
crossed_fixed p acts true false y = acts.fixed true y
crossed_fixed p acts false true y = acts.fixed false y
crossed_fixed p acts false false y = refl

-- an action has an inverse
pub undo : (p : Bool → ℕ → ℕ → ℕ) → Acts p → (d : Bool) (y a : ℕ) → p (not d) y (p d y a) ≡ a
undo p acts true y a = acts.up_down y a
undo p acts false y a = acts.down_up y a

pub redo : (p : Bool → ℕ → ℕ → ℕ) → Acts p → (d : Bool) (y a : ℕ) → p d y (p (not d) y a) ≡ a
redo p acts true y a = acts.down_up y a
redo p acts false y a = acts.up_down y a
