-- Laws of levels that come into a register, and of those that it sends. Assumes nothing.
use Prim.Native.Nat.{ℕ, zero, suc, ◌+◌, ◌-◌, ◌*◌, ◌/◌, ◌%◌, ◌^◌, ◌<◌}
use mathlib.Core.Path.{◌≡◌, refl, sym, ap, ◌∙◌}
use mathlib.Core.Bool.{Bool, true, false}
use mathlib.Core.List.{List, [], ◌∷◌, ◌++◌}
use native.Mathlib.Omega.{arith}
use native.Mathlib.Nat.{add-zero, add-suc, mul_assoc, pow-succ'}
use native.Mathlib.Numerals.{add-one}
use lib.Dec.{eqb}
use lib.ListN.{length}
use lib.Pow.{mod-pow-add}
use Rattle.bits.specs.Bit.{bit_of, shift_in, level_byte}
use Rattle.bits.specs.Levels.{low_bits, spelled, shifts_in}
use Rattle.bits.proofs.Laws.{below-eight}

-- ---- what a register receives

enters : (register : ℕ) (level : Bool) → shift_in register level ≡ register / 2 + 128 * level_byte level
unfolding shift_in level_byte
enters register true = omega arith
enters register false = omega arith

-- after eight levels it holds the byte that they spell, whatever it held before
pub spells : (register : ℕ) → register < 256 → (a b c d e f g h : Bool)
    → shifts_in register (a ∷ b ∷ c ∷ d ∷ e ∷ f ∷ g ∷ h ∷ []) ≡ spelled (a ∷ b ∷ c ∷ d ∷ e ∷ f ∷ g ∷ h ∷ [])
unfolding shifts_in spelled
spells r small a b c d e f g h =
    let r1 = shift_in r a in
    let r2 = shift_in r1 b in
    let r3 = shift_in r2 c in
    let r4 = shift_in r3 d in
    let r5 = shift_in r4 e in
    let r6 = shift_in r5 f in
    let r7 = shift_in r6 g in
    let e1 : r1 ≡ r / 2 + 128 * level_byte a = enters r a in
    let e2 : r2 ≡ r / 4 + 64 * level_byte a + 128 * level_byte b = omega (arith, e1, enters r1 b) in
    let e3 : r3 ≡ r / 8 + 32 * level_byte a + 64 * level_byte b + 128 * level_byte c = omega (arith, e2, enters r2 c) in
    let e4 : r4 ≡ r / 16 + 16 * level_byte a + 32 * level_byte b + 64 * level_byte c + 128 * level_byte d =
    omega (arith, e3, enters r3 d) in
    let e5 : r5 ≡ r / 32 + 8 * level_byte a + 16 * level_byte b + 32 * level_byte c + 64 * level_byte d
    + 128 * level_byte e = omega (arith, e4, enters r4 e) in
    let e6 : r6 ≡ r / 64 + 4 * level_byte a + 8 * level_byte b + 16 * level_byte c + 32 * level_byte d + 64 * level_byte e
    + 128 * level_byte f = omega (arith, e5, enters r5 f) in
    let e7 : r7 ≡ r / 128 + 2 * level_byte a + 4 * level_byte b + 8 * level_byte c + 16 * level_byte d + 32 * level_byte e
    + 64 * level_byte f + 128 * level_byte g = omega (arith, e6, enters r6 g) in
    omega (arith, small, e7, enters r7 h)

-- the same of a list of eight levels
pub spells-eight : (register : ℕ) → register < 256 → (levels : List Bool) → length levels ≡ 8
    → shifts_in register levels ≡ spelled levels
spells-eight r small (a ∷ b ∷ c ∷ d ∷ e ∷ f ∷ g ∷ h ∷ []) n = spells r small a b c d e f g h
spells-eight r small [] n = absurd (omega arith)
spells-eight r small (a ∷ []) n = absurd (omega arith)
spells-eight r small (a ∷ b ∷ []) n = absurd (omega arith)
spells-eight r small (a ∷ b ∷ c ∷ []) n = absurd (omega arith)
spells-eight r small (a ∷ b ∷ c ∷ d ∷ []) n = absurd (omega arith)
spells-eight r small (a ∷ b ∷ c ∷ d ∷ e ∷ []) n = absurd (omega arith)
spells-eight r small (a ∷ b ∷ c ∷ d ∷ e ∷ f ∷ []) n = absurd (omega arith)
spells-eight r small (a ∷ b ∷ c ∷ d ∷ e ∷ f ∷ g ∷ []) n = absurd (omega arith)
spells-eight r small (a ∷ b ∷ c ∷ d ∷ e ∷ f ∷ g ∷ h ∷ i ∷ levels) n = absurd (omega arith)

-- one level more
pub shifts-more : (levels : List Bool) (level : Bool) (register : ℕ)
    → shifts_in register (levels ++ level ∷ []) ≡ shift_in (shifts_in register levels) level
unfolding shifts_in
shifts-more [] level register = refl
shifts-more (first ∷ levels) level register = shifts-more levels level (shift_in register first)

-- the low bits of a number spell what they are of it
level-bit : (n : ℕ) → n < 2 → level_byte (eqb n 1) ≡ n
unfolding level_byte
level-bit zero h = refl
level-bit (suc zero) h = refl
level-bit (suc (suc n)) h = absurd (omega arith)

pub spelled-bits : (n value : ℕ) → spelled (low_bits n value) ≡ value % 2 ^ n
unfolding spelled low_bits bit_of
spelled-bits zero value = omega arith
spelled-bits (suc n) value =
    let bit : level_byte (eqb (value / 2 ^ 0 % 2) 1) ≡ value / 2 ^ 0 % 2 = level-bit (value / 2 ^ 0 % 2) (omega arith) in
    let low : value % 2 ^ suc n ≡ value / 2 % 2 ^ n * 2 + value % 2 = rw add-one at (mod-pow-add value n 1) in
    rw (bit, spelled-bits n (value / 2), low) (omega arith)

-- ---- what a register sends

-- a bit of the register moves down by one place with each level
moves : (register : ℕ) (level : Bool) (i : ℕ) → i < 7 → shift_in register level / 2 ^ i % 2 ≡ register / 2 ^ suc i % 2
moves register level i h =
    below-eight (λ i. i < 7 → shift_in register level / 2 ^ i % 2 ≡ register / 2 ^ suc i % 2)
    (λ h. omega (arith, e)) (λ h. omega (arith, e)) (λ h. omega (arith, e)) (λ h. omega (arith, e))
    (λ h. omega (arith, e)) (λ h. omega (arith, e)) (λ h. omega (arith, e)) (λ h. absurd (omega arith))
    i (omega arith) h
  where
    e : shift_in register level ≡ register / 2 + 128 * level_byte level
    e = enters register level

-- so that after n levels its lowest bit is bit n of what it held
pub sends-bit : (levels : List Bool) (register i : ℕ) → i + length levels < 8
    → bit_of (shifts_in register levels) i ≡ bit_of register (i + length levels)
unfolding shifts_in bit_of
sends-bit [] register i h = ap (λ (j : ℕ). bit_of register j) (sym (add-zero i))
sends-bit (level ∷ levels) register i h =
    sends-bit levels (shift_in register level) i (omega arith)
    ∙ ap (λ (bit : ℕ). eqb bit 1) (moves register level (i + length levels) (omega arith))
    ∙ ap (λ (j : ℕ). bit_of register j) (sym (add-suc i (length levels)))

-- what is above the n low bits does not show in them
low-only : (n x m : ℕ) → low_bits n (x + 2 ^ n * m) ≡ low_bits n x
unfolding low_bits bit_of
low-only zero x m = refl
low-only (suc n) x m =
    let y = 2 ^ n * m in
    let double : 2 ^ suc n * m ≡ 2 * y = rw (pow-succ' 2 n) (mul_assoc 2 (2 ^ n) m) in
    let bit : (x + 2 * y) / 2 ^ 0 % 2 ≡ x / 2 ^ 0 % 2 = omega arith in
    let half : (x + 2 * y) / 2 ≡ x / 2 + y = omega arith in
    rw (double, bit, half, low-only n (x / 2) m)

-- so a level that comes in at the top does not show in the bits that are left
pub level-above : (n register : ℕ) (level : Bool) → n < 8
    → low_bits n (shift_in register level) ≡ low_bits n (register / 2)
unfolding shift_in
level-above n register false h = refl
level-above n register true h =
    let top : 128 ≡ 2 ^ n * 2 ^ (7 - n) =
    below-eight (λ (k : ℕ). 128 ≡ 2 ^ k * 2 ^ (7 - k)) refl refl refl refl refl refl refl refl n h in
    rw top (low-only n (register / 2) (2 ^ (7 - n)))
