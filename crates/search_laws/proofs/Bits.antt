-- A code as 8 bytes and as 64 bits, bit 0 first. Assumes nothing.
use Prim.Native.Nat.{ℕ, zero, suc, ◌+◌, ◌-◌, ◌*◌, ◌/◌, ◌%◌, ◌^◌, ◌<◌, ◌≤◌}
use mathlib.Core.Path.{◌≡◌, refl, sym, ap, ◌∙◌}
use mathlib.Core.Bool.{Bool, true, false, cond}
use mathlib.Core.List.{List, [], ◌∷◌}
use native.Mathlib.Nat.{div-one, div-div-eq-div-mul, pow-succ', two-pow-succ, le_of_suc-le-suc}
use native.Mathlib.Omega.{arith}
use lib.ListN.{length, get_or, set, take, replicate, length-set}
use lib.Seq.{ext_get_or}
use lib.Dec.{eqb}
use borrow.Author.Tests.{eqb-false, lt-leb}
use Rattle.bits.specs.Bit.{bit_of, bit_at, byte_of, bit_place, at_level, with_bit, put_bit}
use Rattle.bits.proofs.Laws.{clear_room}
use Rattle.rom.proofs.Laws.{code-bit}
use Rattle.master.specs.Master.{no_bits}
use Rattle.master.proofs.Directions.{put_same, put_other}
use Rattle.search_laws.specs.Words.{Bytes, put_bits}
use Rattle.search_laws.proofs.Codes.{Code, differ}

-- m bits of bytes from bit k on
abbrev pub bits_from : List ℕ → ℕ → ℕ → Code
bits_from s k zero = []
bits_from s k (suc m) = bit_at s k ∷ bits_from s (suc k) m

pub bits-size : (s : List ℕ) (k m : ℕ) → length (bits_from s k m) ≡ m
bits-size s k zero = refl
bits-size s k (suc m) = ap suc (bits-size s (suc k) m)

-- bit j of those is bit k + j
bits_at : (s : List ℕ) (k m j : ℕ) → j < m → get_or (bits_from s k m) j false ≡ bit_at s (k + j)
bits_at s k zero j h = absurd (omega arith)
bits_at s k (suc m) zero h = ap (bit_at s) (omega arith)
bits_at s k (suc m) (suc j) h = bits_at s (suc k) m j (le_of_suc-le-suc h) ∙ ap (bit_at s) (omega arith)

-- ---- numbers with the same bits

bit-low : (x : ℕ) → bit_of x 0 ≡ eqb (x % 2) 1
unfolding bit_of
bit-low x = ap (λ (y : ℕ). eqb (y % 2) 1) (div-one x)

bit-next : (x i : ℕ) → bit_of x (suc i) ≡ bit_of (x / 2) i
unfolding bit_of
bit-next x i = ap (λ (y : ℕ). eqb (y % 2) 1) (ap (λ (y : ℕ). x / y) (pow-succ' 2 i) ∙ sym (div-div-eq-div-mul x 2 (2 ^ i)))

same_low : (a b : ℕ) → a < 2 → b < 2 → eqb a 1 ≡ eqb b 1 → a ≡ b
same_low zero zero p q e = refl
same_low zero (suc zero) p q e = differ (cc)
same_low (suc zero) zero p q e = differ (cc)
same_low (suc zero) (suc zero) p q e = refl
same_low (suc (suc a)) b p q e = absurd (omega arith)
same_low zero (suc (suc b)) p q e = absurd (omega arith)
same_low (suc zero) (suc (suc b)) p q e = absurd (omega arith)

same_bits : (n x y : ℕ) → x < 2 ^ n → y < 2 ^ n → ((i : ℕ) → i < n → bit_of x i ≡ bit_of y i) → x ≡ y
same_bits zero x y p q f = omega arith
same_bits (suc n) x y p q f =
    let w = two-pow-succ n in
    let low : x % 2 ≡ y % 2 = same_low (x % 2) (y % 2) (omega arith) (omega arith) (sym (bit-low x) ∙ f 0 (omega arith) ∙ bit-low y) in
    let high : x / 2 ≡ y / 2 = same_bits n (x / 2) (y / 2) (omega arith) (omega arith) (λ i h. sym (bit-next x i) ∙ f (suc i) (omega arith) ∙ bit-next y i) in
    omega arith

-- bytes with the same bits
same_bytes : (s t : List ℕ) → Bytes s → Bytes t → length s ≡ length t → ((i : ℕ) → i < 8 * length s → bit_at s i ≡ bit_at t i) → s ≡ t
unfolding bit_at
same_bytes s t p q l f =
    ext_get_or 0 s t l
    (λ i h. same_bits 8 (get_or s i 0) (get_or t i 0) (p i) (q i) (λ j k.
    let b : byte_of (8 * i + j) ≡ i = omega arith in
    let o : bit_place (8 * i + j) ≡ j = omega arith in
    rw (b, o) at (f (8 * i + j) (omega arith))))

-- ---- bits put into bytes

put-size : (s : List ℕ) (i : ℕ) (c : Code) → length (put_bits s i c) ≡ length s
unfolding put_bits put_bit
put-size s i [] = refl
put-size s i (b ∷ c) = put-size (put_bit s i b) (suc i) c ∙ length-set s (byte_of i) _

put-length : (s : List ℕ) (i : ℕ) (b : Bool) → length (put_bit s i b) ≡ length s
unfolding put_bit
put-length s i b = length-set s (byte_of i) _

-- those before stay
put-before : (s : List ℕ) (i : ℕ) (c : Code) (j : ℕ) → j < i → i + length c ≤ 8 * length s → bit_at (put_bits s i c) j ≡ bit_at s j
unfolding put_bits
put-before s i [] j h r = refl
put-before s i (b ∷ c) j h r =
    let l = put-length s i b in
    put-before (put_bit s i b) (suc i) c j (omega arith) (omega arith) ∙ put_other s i b j (λ e. omega arith) (omega arith)

-- and each is the bit that was put there
put-at : (s : List ℕ) (i : ℕ) (c : Code) (j : ℕ) → j < length c → i + length c ≤ 8 * length s → bit_at (put_bits s i c) (i + j) ≡ get_or c j false
unfolding put_bits
put-at s i [] j h r = absurd (omega arith)
put-at s i (b ∷ c) zero h r =
    let l = put-length s i b in
    ap (bit_at (put_bits (put_bit s i b) (suc i) c)) (omega arith)
    ∙ put-before (put_bit s i b) (suc i) c i (omega arith) (omega arith) ∙ put_same s i b (omega arith)
put-at s i (b ∷ c) (suc j) h r =
    let l = put-length s i b in
    ap (bit_at (put_bits (put_bit s i b) (suc i) c)) (omega arith) ∙ put-at (put_bit s i b) (suc i) c j (le_of_suc-le-suc h) (omega arith)

-- they stay bytes
level-byte : (b i : ℕ) (level : Bool) → b < 256 → i < 8 → at_level b i level < 256
unfolding at_level bit_of
level-byte b i true h l = choose (eqb (b / 2 ^ i % 2) 1) refl
  where
    choose : (t : Bool) → eqb (b / 2 ^ i % 2) 1 ≡ t → cond t b (b + 2 ^ i) < 256
    choose true e = h
    choose false e = clear_room b h i l (eqb-false _ _ e)
level-byte b i false h l = choose (eqb (b / 2 ^ i % 2) 1)
  where
    choose : (t : Bool) → cond t (b - 2 ^ i) b < 256
    choose true = omega arith
    choose false = h

set-bytes : (s : List ℕ) (i v : ℕ) → Bytes s → v < 256 → Bytes (set s i v)
set-bytes [] i v h b k = h k
set-bytes (x ∷ s) zero v h b zero = b
set-bytes (x ∷ s) zero v h b (suc k) = h (suc k)
set-bytes (x ∷ s) (suc i) v h b zero = h 0
set-bytes (x ∷ s) (suc i) v h b (suc k) = set-bytes s i v (λ j. h (suc j)) b k

put-bytes : (s : List ℕ) (i : ℕ) (c : Code) → Bytes s → Bytes (put_bits s i c)
unfolding put_bits put_bit with_bit
put-bytes s i [] h = h
put-bytes s i (b ∷ c) h =
    put-bytes (put_bit s i b) (suc i) c
    (set-bytes s (byte_of i) _ h (rw (lt-leb 8 (bit_place i) (omega arith)) (level-byte (get_or s (byte_of i) 0) (bit_place i) b (h (byte_of i)) (omega arith))))

no_bytes : Bytes no_bits
no_bytes k = go k 8
  where
    go : (k n : ℕ) → get_or (replicate n 0) k 0 < 256
    go k zero = omega arith
    go zero (suc n) = omega arith
    go (suc k) (suc n) = go k n

pub take-bytes : (n : ℕ) (s : List ℕ) → Bytes s → Bytes (take n s)
take-bytes zero s h k = omega arith
take-bytes (suc n) [] h k = h k
take-bytes (suc n) (x ∷ s) h zero = h 0
take-bytes (suc n) (x ∷ s) h (suc k) = take-bytes n s (λ j. h (suc j)) k

-- ---- the 64 bits of a code

abbrev pub bytes_of : Code → List ℕ
bytes_of c = put_bits no_bits 0 c

pub bytes-size : (c : Code) → length (bytes_of c) ≡ 8
bytes-size c = put-size no_bits 0 c

pub bytes-bit : (c : Code) (j : ℕ) → length c ≡ 64 → j < 64 → bit_at (bytes_of c) j ≡ get_or c j false
bytes-bit c j l h = ap (bit_at (bytes_of c)) (omega arith) ∙ put-at no_bits 0 c j (omega arith) (omega arith)

-- the bits of a body's code are that code
pub bytes-code : (body : List ℕ) → Bytes body → length (take 8 body) ≡ 8 → bytes_of (bits_from body 0 64) ≡ take 8 body
bytes-code body b l =
    same_bytes (bytes_of (bits_from body 0 64)) (take 8 body) (put-bytes no_bits 0 (bits_from body 0 64) no_bytes) (take-bytes 8 body b) (bytes-size (bits_from body 0 64) ∙ sym l)
    (λ i h. let z = bytes-size (bits_from body 0 64) in
    bytes-bit (bits_from body 0 64) i (bits-size body 0 64) (omega arith) ∙ bits_at body 0 64 i (omega arith) ∙ ap (bit_at body) (omega arith) ∙ sym (code-bit body i (omega arith)))
