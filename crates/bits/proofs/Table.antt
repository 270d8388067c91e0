-- The rule of the CRC table, carried from the whole table to each of its entries, and to a byte that comes into a
-- register: only the exclusive or of the two counts. Assumes nothing.
use Prim.Native.Nat.{ℕ, zero, suc, ◌+◌, ◌*◌, ◌/◌, ◌%◌, ◌^◌, ◌<◌, ◌≤◌}
use mathlib.Core.Path.{◌≡◌, refl, sym, ap, ◌∙◌}
use mathlib.Core.Bool.{Bool, true, false, cond, beq}
use native.Mathlib.Omega.{arith}
use native.Mathlib.Nat.{add-zero, zero-add, add-suc, suc-add, le_of_suc-le-suc, not-suc-le-zero}
use native.Mathlib.Numerals.{add-one}
use lib.Bits.{bit_xor, differ, xor_step, xor_shr, xor_lt, xor_zero_r}
use lib.Dec.{eqb}
use lib.ListN.{get_or}
use lib.Pow.{shr_lt, pow_mono}
use Rattle.bits.specs.Bit.{bit_of}
use Rattle.bits.specs.Crc.{crc_bit, crc_bits, crc_byte, entries_from, crc_table}
use Rattle.bits.proofs.Laws.{crc-bit-fits}

-- ---- exclusive or

-- what holds of 0 and 1 holds of every number below 2
below_two : (P : ℕ → Type 0) → P 0 → P 1 → (x : ℕ) → x < 2 → P x
below_two P a b zero h = a
below_two P a b (suc zero) h = b
below_two P a b (suc (suc x)) h = absurd (omega arith)

differ-bit : (x y : ℕ) → x < 2 → y < 2 → differ x y < 2
differ-bit x y h k =
    below_two (λ (x : ℕ). differ x y < 2) k
    (below_two (λ (y : ℕ). differ 1 y < 2) (omega arith) (omega arith) y k) x h

differ-swap : (x y z : ℕ) → x < 2 → y < 2 → z < 2 → differ (differ x z) y ≡ differ (differ x y) z
differ-swap x y z hx hy hz =
    below_two (λ (x : ℕ). differ (differ x z) y ≡ differ (differ x y) z)
    (below_two (λ (y : ℕ). differ z y ≡ differ y z)
    (below_two (λ (z : ℕ). differ z 0 ≡ z) refl refl z hz)
    (below_two (λ (z : ℕ). differ z 1 ≡ differ 1 z) refl refl z hz) y hy)
    (below_two (λ (y : ℕ). differ (differ 1 z) y ≡ differ (differ 1 y) z)
    (below_two (λ (z : ℕ). differ (differ 1 z) 0 ≡ differ 1 z) refl refl z hz)
    (below_two (λ (z : ℕ). differ (differ 1 z) 1 ≡ z) refl refl z hz) y hy) x hx

xor-half : (a b : ℕ) → bit_xor a b / 2 ≡ bit_xor (a / 2) (b / 2)
xor-half a b = xor_shr a b 1

xor-odd : (a b : ℕ) → bit_xor a b % 2 ≡ differ (a % 2) (b % 2)
xor-odd a b =
    let d = differ (a % 2) (b % 2) in
    let small : d < 2 = differ-bit (a % 2) (b % 2) (omega arith) (omega arith) in
    let high = bit_xor (a / 2) (b / 2) in
    let low : (high * 2 + d) % 2 ≡ d = omega arith in
    ap (λ (x : ℕ). x % 2) (xor_step a b) ∙ low

-- of three, the last two may be exchanged
three : (a b c : ℕ)
    → bit_xor (bit_xor a b) c ≡ bit_xor (bit_xor (a / 2) (b / 2)) (c / 2) * 2 + differ (differ (a % 2) (b % 2)) (c % 2)
three a b c = rw (xor-half a b, xor-odd a b) at (xor_step (bit_xor a b) c)

xor-swap : (n a b c : ℕ) → a < 2 ^ n → b < 2 ^ n → c < 2 ^ n → bit_xor (bit_xor a c) b ≡ bit_xor (bit_xor a b) c
xor-swap zero a b c ha hb hc =
    let ea : a ≡ 0 = omega arith in
    let eb : b ≡ 0 = omega arith in
    let ec : c ≡ 0 = omega arith in
    rw (ea, eb, ec)
xor-swap (suc n) a b c ha hb hc =
    let half : (x : ℕ) → x < 2 ^ suc n → x / 2 < 2 ^ n = λ x h. shr_lt n 1 (rw add-one h) in
    let high = xor-swap n (a / 2) (b / 2) (c / 2) (half a ha) (half b hb) (half c hc) in
    let low = differ-swap (a % 2) (b % 2) (c % 2) (omega arith) (omega arith) (omega arith) in
    three a c b ∙ rw (high, low) (sym (three a b c))

-- ---- a byte that comes into a register

-- the test of a shift
same_test : (x y : ℕ) → x < 2 → y < 2 → beq (eqb (differ x y) 1) false ≡ beq (eqb x 1) (eqb y 1)
same_test x y h k =
    below_two (λ (x : ℕ). beq (eqb (differ x y) 1) false ≡ beq (eqb x 1) (eqb y 1))
    (below_two (λ (y : ℕ). beq (eqb y 1) false ≡ beq false (eqb y 1)) refl refl y k)
    (below_two (λ (y : ℕ). beq (eqb (differ 1 y) 1) false ≡ beq true (eqb y 1)) refl refl y k) x h

-- one shift of the exclusive or by a zero bit is the exclusive or of the register, shifted by the byte's lowest bit,
-- and what is left of the byte
shift-sum : (c b : ℕ) → c < 256 → b < 256 → crc_bit (bit_xor c b) false ≡ bit_xor (crc_bit c (bit_of b 0)) (b / 2)
unfolding crc_bit bit_of
shift-sum c b h k =
    let low : (v : ℕ) → v / 2 ^ 0 % 2 ≡ v % 2 = λ v. omega arith in
    rw (low (bit_xor c b), low c, low b, xor-odd c b, same_test (c % 2) (b % 2) (omega arith) (omega arith), xor-half c b)
    (choose (beq (eqb (c % 2) 1) (eqb (b % 2) 1)))
  where
    choose : (t : Bool) → cond t (bit_xor (c / 2) (b / 2)) (bit_xor (bit_xor (c / 2) (b / 2)) 0x8C)
        ≡ bit_xor (cond t (c / 2) (bit_xor (c / 2) 0x8C)) (b / 2)
    choose true = refl
    choose false = sym (xor-swap 8 (c / 2) (b / 2) 0x8C (omega arith) (omega arith) (omega arith))

zero_bit : bit_of 0 0 ≡ false
unfolding bit_of
zero_bit = refl

shifts-sum : (n c b : ℕ) → n ≤ 8 → c < 256 → b < 2 ^ n → crc_bits n c b ≡ crc_bits n (bit_xor c b) 0
unfolding crc_bits
shifts-sum zero c b l h k = let e : b ≡ 0 = omega arith in rw (e, xor_zero_r c)
shifts-sum (suc n) c b l h k =
    let most : 2 ^ suc n ≤ 2 ^ 8 = pow_mono l in
    let fits = crc-bit-fits c (bit_of b 0) h in
    let left = shifts-sum n (crc_bit c (bit_of b 0)) (b / 2) (omega arith) fits (shr_lt n 1 (rw add-one k)) in
    left ∙ rw (zero_bit, shift-sum c b h (omega arith))

-- a byte into a register is eight shifts of their exclusive or by zero bits
pub byte-sum : (c b : ℕ) → c < 256 → b < 256 → crc_byte c b ≡ crc_byte (bit_xor c b) 0
unfolding crc_byte
byte-sum c b h k = shifts-sum 8 c b (omega arith) h k

-- ---- the table

-- each of n entries from v on
entry-from : (v n k : ℕ) → k < n → get_or (entries_from v n) k 0 ≡ crc_byte (v + k) 0
unfolding entries_from
entry-from v zero k h = absurd (not-suc-le-zero h)
entry-from v (suc n) zero h = ap (λ (m : ℕ). crc_byte m 0) (sym (add-zero v))
entry-from v (suc n) (suc k) h =
    entry-from (suc v) n k (le_of_suc-le-suc h) ∙ ap (λ (m : ℕ). crc_byte m 0) (suc-add v k ∙ sym (add-suc v k))

-- Document 02, item 8: entry v is register v after eight shifts of zero bits
pub entry : (v : ℕ) → v < 256 → get_or crc_table v 0 ≡ crc_byte v 0
unfolding crc_table
entry v h = entry-from 0 256 v h ∙ ap (λ (m : ℕ). crc_byte m 0) (zero-add v)

-- so the entry at the exclusive or of a register and a byte is the register after that byte
pub look_up : (register byte : ℕ) → register < 256 → byte < 256
    → get_or crc_table (bit_xor register byte) 0 ≡ crc_byte register byte
look_up register byte h k =
    entry (bit_xor register byte) (xor_lt 8 register byte h k) ∙ sym (byte-sum register byte h k)
