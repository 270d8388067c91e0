-- The range of the slots left of a transfer: it is kept by every slot but the last. Assumes nothing.
use Prim.Native.Nat.{ℕ, ◌-◌, ◌<◌}
use mathlib.Core.Path.{◌≡◌, refl, ap}
use mathlib.Core.Bool.{Bool, true, false, cond, ◌&&◌}
use native.Mathlib.Omega.{arith}
use lib.Dec.{ltb, leb}
use borrow.Author.Tests.{ltb-true, leb-true, lt-ltb, le-leb}
use Rattle.line.specs.Transfers.{under_way}

-- ---- tests joined by 'and'

pub false-true : {A : Type 0} → false ≡ true → A
false-true h = let z : ◌≡◌ {A = ℕ} 0 1 = ap (λ (t : Bool). cond t 1 0) h in absurd (omega arith)

pub both : (a b : Bool) → a && b ≡ true → (a ≡ true) × (b ≡ true)
both true b h = (refl, h)
both false b h = false-true h

-- ---- one slot less, where more than one is left

pub fewer : (slots left : ℕ) → ltb 1 left ≡ true → under_way slots left ≡ true → under_way slots (left - 1) ≡ true
fewer slots left more h =
    let above = ltb-true 1 left more in
    let below = leb-true left slots (both (ltb 0 left) (leb left slots) h).1 in
    rw (lt-ltb 0 (left - 1) (omega arith), le-leb (left - 1) slots (omega arith))

-- beside a test of the stage's other numbers
pub fewer-beside : (test : Bool) (slots left : ℕ) → ltb 1 left ≡ true → test && under_way slots left ≡ true
    → test && under_way slots (left - 1) ≡ true
fewer-beside test slots left more h =
    let p = both test (under_way slots left) h in
    rw p.0 (fewer slots left more p.1)

-- ---- a transfer under way has a slot left

pub slot-left : (slots left : ℕ) → under_way slots left ≡ true → 0 < left
slot-left slots left h = ltb-true 0 left (both (ltb 0 left) (leb left slots) h).0

pub slot-left-beside : (test : Bool) (slots left : ℕ) → test && under_way slots left ≡ true → 0 < left
slot-left-beside test slots left h = slot-left slots left (both test (under_way slots left) h).1
