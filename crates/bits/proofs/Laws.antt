-- Laws of bits and of the CRC that proofs cite. Assumes nothing.
use Prim.Native.Nat.{ℕ, zero, suc, ◌+◌, ◌*◌, ◌/◌, ◌%◌, ◌^◌, ◌<◌, ◌≤◌}
use mathlib.Core.Path.{◌≡◌, refl, ◌∙◌}
use mathlib.Core.Bool.{Bool, true, false, cond, beq}
use mathlib.Core.List.{List, [], ◌∷◌, ◌++◌}
use native.Mathlib.Omega.{arith}
use native.Mathlib.Nat.{div-eq_of_lt}
use native.Mathlib.Numerals.{add-one}
use lib.ListN.{length, length-append}
use lib.Bits.{bit_xor, xor_lt}
use lib.Pow.{pow_mono, shr_lt}
use Rattle.bits.specs.Bit.{bit_of}
use Rattle.bits.specs.Crc.{crc_bit, crc_bits, crc_byte, crc_from, crc_of, registration_check}

-- ---- bits

-- what holds of 0 to 7 holds of every number below 8
pub below-eight : (P : ℕ → Type 0) → P 0 → P 1 → P 2 → P 3 → P 4 → P 5 → P 6 → P 7 → (i : ℕ) → i < 8 → P i
below-eight P a b c d e f g h zero l = a
below-eight P a b c d e f g h (suc zero) l = b
below-eight P a b c d e f g h (suc (suc zero)) l = c
below-eight P a b c d e f g h (suc (suc (suc zero))) l = d
below-eight P a b c d e f g h (suc (suc (suc (suc zero)))) l = e
below-eight P a b c d e f g h (suc (suc (suc (suc (suc zero))))) l = f
below-eight P a b c d e f g h (suc (suc (suc (suc (suc (suc zero)))))) l = g
below-eight P a b c d e f g h (suc (suc (suc (suc (suc (suc (suc zero))))))) l = h
below-eight P a b c d e f g h (suc (suc (suc (suc (suc (suc (suc (suc i)))))))) l = absurd (omega arith)

-- the place value of a bit of a byte
pub place : (i : ℕ) → i < 8 → 1 * 2 ^ i % 256 ≡ 2 ^ i
place = below-eight (λ i. 1 * 2 ^ i % 256 ≡ 2 ^ i) refl refl refl refl refl refl refl refl

-- a bit that is set has its place value in the byte
pub set_below : (b i : ℕ) → i < 8 → b / 2 ^ i % 2 ≡ 1 → 2 ^ i ≤ b
set_below b =
    below-eight (λ i. b / 2 ^ i % 2 ≡ 1 → 2 ^ i ≤ b)
    (λ e. omega arith) (λ e. omega arith) (λ e. omega arith) (λ e. omega arith)
    (λ e. omega arith) (λ e. omega arith) (λ e. omega arith) (λ e. omega arith)

-- a bit that is clear has room for its place value
pub clear_room : (b : ℕ) → b < 256 → (i : ℕ) → i < 8 → (b / 2 ^ i % 2 ≡ 1 → ⊥) → b + 2 ^ i < 256
clear_room b h =
    below-eight (λ i. (b / 2 ^ i % 2 ≡ 1 → ⊥) → b + 2 ^ i < 256)
    (λ e. omega arith) (λ e. omega arith) (λ e. omega arith) (λ e. omega arith)
    (λ e. omega arith) (λ e. omega arith) (λ e. omega arith) (λ e. omega arith)

-- a number of so many bits has none past them
pub no-bit : (width b i : ℕ) → b < 2 ^ width → width ≤ i → bit_of b i ≡ false
unfolding bit_of
no-bit width b i h k =
    let big : 2 ^ width ≤ 2 ^ i = pow_mono k in
    let none : b / 2 ^ i ≡ 0 = div-eq_of_lt (omega arith) in
    rw none

-- ---- the CRC

-- bytes after bytes
pub crc-append : (register : ℕ) (xs ys : List ℕ) → crc_from register (xs ++ ys) ≡ crc_from (crc_from register xs) ys
unfolding crc_from
crc-append register [] ys = refl
crc-append register (x ∷ xs) ys = crc-append (crc_byte register x) xs ys

-- the register stays a byte
pub crc-bit-fits : (register : ℕ) (level : Bool) → register < 256 → crc_bit register level < 256
unfolding crc_bit
crc-bit-fits register level h = choose (beq (bit_of register 0) level)
  where
    choose : (t : Bool) → cond t (register / 2) (bit_xor (register / 2) 0x8C) < 256
    choose true = omega arith
    choose false = xor_lt 8 (register / 2) 0x8C (omega arith) (omega arith)

crc-bits-fit : (n register byte : ℕ) → register < 256 → crc_bits n register byte < 256
unfolding crc_bits
crc-bits-fit zero register byte h = h
crc-bits-fit (suc n) register byte h =
    crc-bits-fit n (crc_bit register (bit_of byte 0)) (byte / 2) (crc-bit-fits register (bit_of byte 0) h)

pub crc-byte-fits : (register byte : ℕ) → register < 256 → crc_byte register byte < 256
unfolding crc_byte
crc-byte-fits register byte h = crc-bits-fit 8 register byte h

pub crc-fits : (register : ℕ) (s : List ℕ) → register < 256 → crc_from register s < 256
unfolding crc_from
crc-fits register [] h = h
crc-fits register (x ∷ xs) h = crc-fits (crc_byte register x) xs (crc-byte-fits register x h)

-- a register that takes in its own lowest bit is only shifted, so that it takes in its own eight bits and is zero
pub own-bit : (register : ℕ) → crc_bit register (bit_of register 0) ≡ register / 2
unfolding crc_bit
own-bit register = choose (bit_of register 0)
  where
    choose : (t : Bool) → cond (beq t t) (register / 2) (bit_xor (register / 2) 0x8C) ≡ register / 2
    choose true = refl
    choose false = refl

own_bits : (n register : ℕ) → register < 2 ^ n → crc_bits n register register ≡ 0
unfolding crc_bits
own_bits zero register h = omega arith
own_bits (suc n) register h = rw (own-bit register) (own_bits n (register / 2) (shr_lt n 1 (rw add-one h)))

pub own-byte : (register : ℕ) → register < 256 → crc_byte register register ≡ 0
unfolding crc_byte
own-byte register h = own_bits 8 register h

-- Document 01: shifting in a correct CRC byte as well gives zero
pub crc-closes : (s : List ℕ) → crc_of (s ++ crc_of s ∷ []) ≡ 0
unfolding crc_from
crc-closes s = crc-append 0 s (crc_of s ∷ []) ∙ own-byte (crc_of s) (crc-fits 0 s (omega arith))

-- so seven bytes and their CRC are a registration code
pub crc-registers : (s : List ℕ) → length s ≡ 7 → registration_check (s ++ crc_of s ∷ []) ≡ true
unfolding registration_check
crc-registers s h =
    let eight : length (s ++ crc_of s ∷ []) ≡ 8 = simp length-append (omega arith) in
    rw (eight, crc-closes s)
