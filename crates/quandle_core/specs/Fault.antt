-- The first law that a table breaks, with its lexicographically first case.
use Rattle.std.specs.Prelude.{ℕ, ◌*◌, ◌==◌, ◌&&◌, Bool, not, List, [], ◌∷◌, length, nat_lt, nat_le, Option, Some, None, if◌then◌else◌}
use Rattle.std.specs.List.{range_with_len}
use Rattle.quandle_core.specs.Quandle.{Table, over}
use Rattle.quandle_core.specs.declared.quandle.TheConstants.{MAX_ORDER}
use Rattle.quandle_core.specs.declared.fault.QuandleFault.{QuandleFault}
use Rattle.quandle_core.specs.declared.fault.QuandleFault.TheVariants.{Order, Length, Range, Idempotent, Collision, Distributive}

-- the fault where the test fails
abbrev pub unless : {A : Type 0} → Bool → A → Option A
unless holds fault = if holds then None else Some fault

-- the first fault, else the second
abbrev pub or_else : {A : Type 0} → Option A → Option A → Option A
or_else (Some a) other = Some a
or_else None other = other

-- the fault of the first number in the list that has one
abbrev pub first_of : {A : Type 0} → (ℕ → Option A) → List ℕ → Option A
first_of at [] = None
first_of at (x ∷ xs) = or_else (at x) (first_of at xs)

-- the fault of the first number below n that has one
abbrev pub first : {A : Type 0} → ℕ → (ℕ → Option A) → Option A
first n at = first_of at (range_with_len 0 n)

-- the order lies from 1 to the greatest
abbrev pub order_fault : ℕ → Table → Option QuandleFault
order_fault most t = unless (nat_le 1 t.order && nat_le t.order most) Order

abbrev pub length_fault : Table → Option QuandleFault
length_fault t = unless (length t.entries == t.order * t.order) Length

-- x ▷ y lies below the order
abbrev pub range_case : Table → ℕ → ℕ → Option QuandleFault
range_case t x y = unless (nat_lt (over t x y) t.order) (Range x y)

-- x ▷ x = x
abbrev pub idempotent_case : Table → ℕ → Option QuandleFault
idempotent_case t x = unless (over t x x == x) (Idempotent x)

-- x lies below z, and x ▷ y = z ▷ y
abbrev pub collides : Table → ℕ → ℕ → ℕ → Bool
collides t x z y = nat_lt x z && (over t x y == over t z y)

abbrev pub collision_case : Table → ℕ → ℕ → ℕ → Option QuandleFault
collision_case t x z y = unless (not (collides t x z y)) (Collision x z y)

-- (x ▷ y) ▷ z = (x ▷ z) ▷ (y ▷ z)
abbrev pub distributes : Table → ℕ → ℕ → ℕ → Bool
distributes t x y z = over t (over t x y) z == over t (over t x z) (over t y z)

abbrev pub distributive_case : Table → ℕ → ℕ → ℕ → Option QuandleFault
distributive_case t x y z = unless (distributes t x y z) (Distributive x y z)

-- the first x, then y
abbrev pub range_fault : Table → Option QuandleFault
range_fault t = first t.order (λ x. first t.order (λ y. range_case t x y))

abbrev pub idempotent_fault : Table → Option QuandleFault
idempotent_fault t = first t.order (λ x. idempotent_case t x)

-- the first x, then z, then y
abbrev pub collision_fault : Table → Option QuandleFault
collision_fault t = first t.order (λ x. first t.order (λ z. first t.order (λ y. collision_case t x z y)))

-- the first x, then y, then z
abbrev pub distributive_fault : Table → Option QuandleFault
distributive_fault t = first t.order (λ x. first t.order (λ y. first t.order (λ z. distributive_case t x y z)))

-- length, range, idempotent, collision, distributive, in this order
abbrev pub law_fault : Table → Option QuandleFault
law_fault t = or_else (length_fault t) (or_else (range_fault t) (or_else (idempotent_fault t) (or_else (collision_fault t) (distributive_fault t))))

-- the order, which is to be at most the first number, and then the laws
abbrev pub first_fault_within : ℕ → Table → Option QuandleFault
first_fault_within most t = or_else (order_fault most t) (law_fault t)

-- the same where the order is to be at most MAX_ORDER
abbrev pub first_quandle_fault : Table → Option QuandleFault
first_quandle_fault t = first_fault_within MAX_ORDER t
