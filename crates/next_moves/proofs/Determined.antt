-- A link leads to one diagram, and a diagram has one list of offers.
use Rattle.std.proofs.Common.{◌≡◌, ◌∙◌, ◌∷◌, [], ℕ, suc, List, map, length, arith, sym, refl, ap, ap₂, subst}
use Rattle.std.specs.List.{All}
use Rattle.std.proofs.lemmas.List.Elements.{All-head, All-tail}
use Rattle.grid_core.specs.Diagram.{Diagram}
use Rattle.grid_moves.specs.Step.{Step}
use Rattle.grid_moves.proofs.OneResult.{step_once}
use Rattle.grid_keys.specs.declared.least_form.LeastForm.{LeastForm}
use Rattle.grid_keys.specs.declared.key.Packed.{Packed}
use Rattle.grid_keys.specs.Translation.{translate}
use Rattle.grid_keys.specs.CanonicalForm.{IsLeastForm}
use Rattle.grid_keys.specs.Key.{key_of}
use Rattle.grid_keys.proofs.CanonicalForms.{least_form_once}
use Rattle.next_moves.specs.declared.links.Link.{Link}
use Rattle.next_moves.specs.declared.links.Offer.{Offer}
use Rattle.next_moves.specs.Tries.{Try}
use Rattle.next_moves.specs.Offers.{Leads, IsOfferOf, IsOfferList, try_of}

-- the forms to which two links with one try lead
form_once : (d e f : Diagram) (link other : Link) → Leads d link e → Leads d other f
    → ◌≡◌ {A = Try} (record { before = link.before; step = link.step }) (record { before = other.before; step = other.step })
    → ◌≡◌ {A = LeastForm} (record { grid = e; columns = link.after.0; rows = link.after.1 })
    (record { grid = f; columns = other.after.0; rows = other.after.1 })
form_once d e f link other one two same =
    let P : Try → Type 0 = λ t. Step (translate d t.before.0 t.before.1) t.step one.moved in
    let here : Step (translate d other.before.0 other.before.1) other.step one.moved =
    let p : P (record { before = other.before; step = other.step }) = subst P same one.step in p in
    let moved : one.moved ≡ two.moved = step_once (translate d other.before.0 other.before.1) other.step one.moved two.moved here two.step in
    let F : LeastForm = record { grid = e; columns = link.after.0; rows = link.after.1 } in
    least_form_once two.moved (record { grid = e; columns = link.after.0; rows = link.after.1 })
    (record { grid = f; columns = other.after.0; rows = other.after.1 }) (subst (λ g. IsLeastForm g F) moved one.form) two.form

pub link_once : (d e f : Diagram) (link : Link) → Leads d link e → Leads d link f → e ≡ f
link_once d e f link one two = ap (λ (form : LeastForm). form.grid) (form_once d e f link link one two refl)

made : Packed → Try → LeastForm → Offer
made key t form = record { key = key; link = record { before = t.before; step = t.step; after = (form.columns, form.rows) } }

offer_once : (d : Diagram) (one two : Offer) → IsOfferOf d one → IsOfferOf d two → try_of one ≡ try_of two → one ≡ two
unfolding made
offer_once d one two is other same =
    let forms = form_once d is.form other.form one.link two.link is.leads other.leads same in
    let keys : one.key ≡ two.key = sym is.key ∙ ap (λ (form : LeastForm). key_of form.grid) forms ∙ other.key in
    ap (λ (k : Packed). made k (try_of one) (record { grid = is.form; columns = one.link.after.0; rows = one.link.after.1 })) keys
    ∙ ap₂ (λ (t : Try) (form : LeastForm). made two.key t form) same forms

offers_once : (d : Diagram) (xs ys : List Offer) → All (IsOfferOf d) xs → All (IsOfferOf d) ys → map try_of xs ≡ map try_of ys → xs ≡ ys
offers_once d [] [] ax ay same = refl
offers_once d [] (y ∷ ys) ax ay same = absurd (let n : 0 ≡ suc (length (map try_of ys)) = ap length same in omega (arith, n))
offers_once d (x ∷ xs) [] ax ay same = absurd (let n : suc (length (map try_of xs)) ≡ 0 = ap length same in omega (arith, n))
offers_once d (x ∷ xs) (y ∷ ys) ax ay same =
    let head : try_of x ≡ try_of y = cc in
    let tail : map try_of xs ≡ map try_of ys = cc in
    ap₂ (λ z zs. z ∷ zs) (offer_once d x y (All-head (IsOfferOf d) x xs ax) (All-head (IsOfferOf d) y ys ay) head)
    (offers_once d xs ys (All-tail (IsOfferOf d) x xs ax) (All-tail (IsOfferOf d) y ys ay) tail)

pub list_once : (d : Diagram) (cap : ℕ) (offers others : List Offer) → IsOfferList d cap offers → IsOfferList d cap others → offers ≡ others
list_once d cap offers others one two = offers_once d offers others one.leads two.leads (one.order ∙ sym two.order)
