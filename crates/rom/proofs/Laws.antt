-- Of a body only the registration code counts in the ROM stage. Assumes nothing.
use Prim.Native.Nat.{ℕ, ◌<◌}
use mathlib.Core.Path.{◌≡◌, ap}
use mathlib.Core.List.{List}
use native.Mathlib.Omega.{arith}
use lib.ListN.{take}
use lib.Seq.{get_or-take}
use Rattle.bits.specs.Bit.{bit_at, bit_of, byte_of, bit_place}

-- each of the 64 code bits is in the first 8 bytes
pub code-bit : (body : List ℕ) (at : ℕ) → at < 64 → bit_at (take 8 body) at ≡ bit_at body at
unfolding bit_at
code-bit body at h =
    ap (λ (byte : ℕ). bit_of byte (bit_place at)) (get_or-take 8 body (byte_of at) 0 (omega arith))
