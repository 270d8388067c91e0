-- A pass's code is its directions: the bit that is sent is the code's bit from then on, the others stay, and bytes stay bytes. Assumes nothing.
use Rattle.std.specs.Prelude.{Option}
use Prim.Native.Nat.{ℕ, zero, suc, ◌+◌, ◌-◌, ◌*◌, ◌/◌, ◌%◌, ◌^◌, ◌≤◌, ◌<◌}
use mathlib.Core.Path.{◌≡◌, refl, sym, ap, ◌∙◌}
use mathlib.Core.Bool.{Bool, true, false, cond}
use mathlib.Core.List.{List}
use native.Mathlib.Nat.{div-one, div-div-eq-div-mul, pow-succ', two-pow-succ}
use native.Mathlib.Omega.{arith}
use native.Mathlib.Decide.{ℕ_discrete}
use lib.ListN.{length, get_or, set}
use lib.Seq.{get_or-set_same, get_or-set_other}
use lib.Dec.{eqb}
use borrow.Author.Tests.{eqb-true, eqb-false, eq-eqb, ne_eqb, lt-leb}
use Rattle.master.specs.declared.Master.{Master}
use Rattle.master.specs.Master.{code_bits, send_direction}
use Rattle.bits.proofs.Laws.{clear_room}
use Rattle.bits.specs.Bit.{bit_of, bit_at, byte_of, bit_place, at_level, with_bit, put_bit}

-- ---- a bit of a number

bit-low : (b : ℕ) → bit_of b 0 ≡ eqb (b % 2) 1
unfolding bit_of
bit-low b = ap (λ (x : ℕ). eqb (x % 2) 1) (div-one b)

bit-next : (b i : ℕ) → bit_of b (suc i) ≡ bit_of (b / 2) i
unfolding bit_of
bit-next b i = ap (λ (x : ℕ). eqb (x % 2) 1) (ap (λ (x : ℕ). b / x) (pow-succ' 2 i) ∙ sym (div-div-eq-div-mul b 2 (2 ^ i)))

-- numbers with the same halves and the same lowest bit
same_half : (a b i : ℕ) → a / 2 ≡ b / 2 → bit_of a (suc i) ≡ bit_of b (suc i)
same_half a b i h = bit-next a i ∙ ap (λ (x : ℕ). bit_of x i) h ∙ sym (bit-next b i)

same_low : (a b : ℕ) → a % 2 ≡ b % 2 → bit_of a 0 ≡ bit_of b 0
same_low a b h = bit-low a ∙ ap (λ (x : ℕ). eqb x 1) h ∙ sym (bit-low b)

-- a clear bit's place value added sets that bit, and a set bit's taken away clears it; no other changes
raised : (b i : ℕ) → bit_of b i ≡ false → bit_of (b + 2 ^ i) i ≡ true
raised b zero h = let c = eqb-false (b % 2) 1 (sym (bit-low b) ∙ h) in bit-low (b + 1) ∙ eq-eqb ((b + 1) % 2) 1 (omega arith)
raised b (suc i) h =
    let p = two-pow-succ i in
    let half : (b + 2 ^ suc i) / 2 ≡ b / 2 + 2 ^ i = omega arith in
    bit-next (b + 2 ^ suc i) i ∙ ap (λ (x : ℕ). bit_of x i) half ∙ raised (b / 2) i (sym (bit-next b i) ∙ h)

raised-other : (b i j : ℕ) → (i ≡ j → ⊥) → bit_of b i ≡ false → bit_of (b + 2 ^ i) j ≡ bit_of b j
raised-other b zero zero n h = absurd (n refl)
raised-other b zero (suc j) n h = let c = eqb-false (b % 2) 1 (sym (bit-low b) ∙ h) in same_half (b + 1) b j (omega arith)
raised-other b (suc i) zero n h = let p = two-pow-succ i in same_low (b + 2 ^ suc i) b (omega arith)
raised-other b (suc i) (suc j) n h =
    let p = two-pow-succ i in
    let half : (b + 2 ^ suc i) / 2 ≡ b / 2 + 2 ^ i = omega arith in
    bit-next (b + 2 ^ suc i) j ∙ ap (λ (x : ℕ). bit_of x j) half
    ∙ raised-other (b / 2) i j (λ e. n (ap suc e)) (sym (bit-next b i) ∙ h) ∙ sym (bit-next b j)

set_holds : (b i : ℕ) → bit_of b i ≡ true → 2 ^ i ≤ b
set_holds b zero h = let c = eqb-true (b % 2) 1 (sym (bit-low b) ∙ h) in omega arith
set_holds b (suc i) h = let p = two-pow-succ i in omega (arith, set_holds (b / 2) i (sym (bit-next b i) ∙ h))

lowered : (b i : ℕ) → bit_of b i ≡ true → bit_of (b - 2 ^ i) i ≡ false
lowered b zero h = let c = eqb-true (b % 2) 1 (sym (bit-low b) ∙ h) in bit-low (b - 1) ∙ ne_eqb ((b - 1) % 2) 1 (λ e. omega arith)
lowered b (suc i) h =
    let p = two-pow-succ i in
    let has = set_holds b (suc i) h in
    let half : (b - 2 ^ suc i) / 2 ≡ b / 2 - 2 ^ i = omega arith in
    bit-next (b - 2 ^ suc i) i ∙ ap (λ (x : ℕ). bit_of x i) half ∙ lowered (b / 2) i (sym (bit-next b i) ∙ h)

lowered-other : (b i j : ℕ) → (i ≡ j → ⊥) → bit_of b i ≡ true → bit_of (b - 2 ^ i) j ≡ bit_of b j
lowered-other b zero zero n h = absurd (n refl)
lowered-other b zero (suc j) n h = let c = eqb-true (b % 2) 1 (sym (bit-low b) ∙ h) in same_half (b - 1) b j (omega arith)
lowered-other b (suc i) zero n h =
    let p = two-pow-succ i in
    let has = set_holds b (suc i) h in
    same_low (b - 2 ^ suc i) b (omega arith)
lowered-other b (suc i) (suc j) n h =
    let p = two-pow-succ i in
    let has = set_holds b (suc i) h in
    let half : (b - 2 ^ suc i) / 2 ≡ b / 2 - 2 ^ i = omega arith in
    bit-next (b - 2 ^ suc i) j ∙ ap (λ (x : ℕ). bit_of x j) half
    ∙ lowered-other (b / 2) i j (λ e. n (ap suc e)) (sym (bit-next b i) ∙ h) ∙ sym (bit-next b j)

-- ---- a bit put into a byte

level-same : (b i : ℕ) (level : Bool) → bit_of (at_level b i level) i ≡ level
unfolding at_level
level-same b i true = choose (bit_of b i) refl
  where
    choose : (t : Bool) → bit_of b i ≡ t → bit_of (cond t b (b + 2 ^ i)) i ≡ true
    choose true h = h
    choose false h = raised b i h
level-same b i false = choose (bit_of b i) refl
  where
    choose : (t : Bool) → bit_of b i ≡ t → bit_of (cond t (b - 2 ^ i) b) i ≡ false
    choose true h = lowered b i h
    choose false h = h

level-other : (b i j : ℕ) (level : Bool) → (i ≡ j → ⊥) → bit_of (at_level b i level) j ≡ bit_of b j
unfolding at_level
level-other b i j true n = choose (bit_of b i) refl
  where
    choose : (t : Bool) → bit_of b i ≡ t → bit_of (cond t b (b + 2 ^ i)) j ≡ bit_of b j
    choose true h = refl
    choose false h = raised-other b i j n h
level-other b i j false n = choose (bit_of b i) refl
  where
    choose : (t : Bool) → bit_of b i ≡ t → bit_of (cond t (b - 2 ^ i) b) j ≡ bit_of b j
    choose true h = lowered-other b i j n h
    choose false h = refl

-- it stays a byte
level-fits : (b i : ℕ) (level : Bool) → b < 256 → i < 8 → at_level b i level < 256
unfolding at_level bit_of
level-fits b i true h low = choose (bit_of b i) refl
  where
    choose : (t : Bool) → bit_of b i ≡ t → cond t b (b + 2 ^ i) < 256
    choose true e = h
    choose false e = clear_room b h i low (eqb-false (b / 2 ^ i % 2) 1 e)
level-fits b i false h low = choose (bit_of b i)
  where
    choose : (t : Bool) → cond t (b - 2 ^ i) b < 256
    choose true = omega arith
    choose false = h

-- ---- a bit put into bytes

put_is : (s : List ℕ) (i : ℕ) (level : Bool) → put_bit s i level ≡ set s (byte_of i) (at_level (get_or s (byte_of i) 0) (bit_place i) level)
unfolding put_bit with_bit
put_is s i level = rw (lt-leb 8 (bit_place i) (omega arith))

module _ (s : List ℕ) (i : ℕ) (level : Bool) where
  pub put_same : i < 8 * length s → bit_at (put_bit s i level) i ≡ level
  unfolding bit_at
  put_same h =
      ap (λ (x : List ℕ). bit_of (get_or x (byte_of i) 0) (bit_place i)) (put_is s i level)
      ∙ ap (λ (x : ℕ). bit_of x (bit_place i)) (get_or-set_same s (byte_of i) _ 0 (omega arith)) ∙ level-same (get_or s (byte_of i) 0) (bit_place i) level

  pub put_other : (j : ℕ) → (i ≡ j → ⊥) → i < 8 * length s → bit_at (put_bit s i level) j ≡ bit_at s j
  unfolding bit_at
  put_other j n h = ap (λ (x : List ℕ). bit_of (get_or x (byte_of j) 0) (bit_place j)) (put_is s i level) ∙ choose (ℕ_discrete (byte_of j) (byte_of i))
    where
      v : ℕ
      v = at_level (get_or s (byte_of i) 0) (bit_place i) level

      choose : Dec (byte_of j ≡ byte_of i) → bit_of (get_or (set s (byte_of i) v) (byte_of j) 0) (bit_place j) ≡ bit_of (get_or s (byte_of j) 0) (bit_place j)
      choose (no d) = ap (λ (x : ℕ). bit_of x (bit_place j)) (get_or-set_other s (byte_of i) (byte_of j) v 0 d)
      choose (yes d) =
          rw d
          (ap (λ (x : ℕ). bit_of x (bit_place j)) (get_or-set_same s (byte_of i) v 0 (omega arith))
          ∙ level-other (get_or s (byte_of i) 0) (bit_place i) (bit_place j) level (λ e. n (omega arith)))

  pub put-fits : ((j : ℕ) → get_or s j 0 < 256) → i < 8 * length s → (j : ℕ) → get_or (put_bit s i level) j 0 < 256
  put-fits fits h j = rw (put_is s i level) (choose (ℕ_discrete j (byte_of i)))
    where
      v : ℕ
      v = at_level (get_or s (byte_of i) 0) (bit_place i) level

      choose : Dec (j ≡ byte_of i) → get_or (set s (byte_of i) v) j 0 < 256
      choose (no d) = rw (get_or-set_other s (byte_of i) j v 0 d) (fits j)
      choose (yes d) = rw (d, get_or-set_same s (byte_of i) v 0 (omega arith)) (level-fits (get_or s (byte_of i) 0) (bit_place i) level (fits (byte_of i)) (omega arith))

-- ---- a pass

module _ (m : Master) (at : ℕ) (bit : Bool) (opened : Option ℕ) (size : length m.code ≡ 8) (low : at < code_bits) where
  pub directed-bit : bit_at (send_direction m at bit opened).code at ≡ bit
  unfolding send_direction
  directed-bit = put_same m.code at bit (omega arith)

  pub directed-others : (j : ℕ) → (at ≡ j → ⊥) → bit_at (send_direction m at bit opened).code j ≡ bit_at m.code j
  unfolding send_direction
  directed-others j n = put_other m.code at bit j n (omega arith)
