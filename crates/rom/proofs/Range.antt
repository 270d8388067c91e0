-- The numbers of a transfer stay in the range of the ROM stage, until a device is addressed. Assumes nothing.
use Prim.Native.Nat.{ℕ, ◌+◌, ◌-◌}
use mathlib.Core.Path.{◌≡◌, refl, sym}
use mathlib.Core.Bool.{Bool, true, false, not, cond, ◌&&◌, ◌||◌, beq, true≢false}
use mathlib.Core.List.{List}
use native.Mathlib.Omega.{arith}
use lib.Dec.{ltb, eqb}
use borrow.Author.Tests.{ltb-true, eqb-true, lt-ltb}
use Rattle.bits.specs.Bit.{bit_at}
use Rattle.kind.specs.declared.Kind.{Kind}
use Rattle.kind.specs.Kind.{has_overdrive, speed_known}
use Rattle.line.specs.declared.RomStage.{RomStage}
use Rattle.line.specs.declared.RomStage.TheVariants.{Waiting, Command, Read, Match, Search, OverdriveMatch}
use Rattle.line.specs.declared.Stage.TheVariants.{Rom}
use Rattle.line.specs.declared.Transfer.{Transfer}
use Rattle.line.specs.Transfers.{waiting, under_way}
use Rattle.line.proofs.Range.{both, fewer, fewer-beside}
use Rattle.rom.specs.Rom.{search_bit, addressed, rom_command, after_read, after_match, after_search, rom_next, rom_range}
use Rattle.rom.specs.Rom.{overdrive_command, after_overdrive_match, command_speed, rom_speed}

-- the device is addressed, or in the ROM stage with its numbers in range at its speed
pub data Ranged (kind : Kind) (overdrive : Bool) : Transfer → Type 0 where
  leaves : Ranged kind overdrive (addressed kind)
  ranged : (r : RomStage) (register left : ℕ) → rom_range r overdrive register left ≡ true
      → Ranged kind overdrive (record { register = register; left = left; stage = Rom r })

-- a test, with what it says on each side
decide : {kind : Kind} {overdrive : Bool} (t : Bool) {a b : Transfer} → (t ≡ true → Ranged kind overdrive a)
    → (t ≡ false → Ranged kind overdrive b) → Ranged kind overdrive (cond t a b)
decide true f g = f refl
decide false f g = g refl

-- the same where the test decides the speed too
decide-speed : {kind : Kind} {x y : Bool} (t : Bool) {a b : Transfer} → (t ≡ true → Ranged kind x a)
    → (t ≡ false → Ranged kind y b) → Ranged kind (cond t x y) (cond t a b)
decide-speed true f g = f refl
decide-speed false f g = g refl

waits : {kind : Kind} {overdrive : Bool} → Ranged kind overdrive waiting
unfolding rom_range
waits = ranged Waiting 0xFF 0 refl

-- ---- one slot less, where more than one is left

pub less-ranged : (r : RomStage) (overdrive : Bool) (register value left : ℕ) → ltb 1 left ≡ true
    → rom_range r overdrive register left ≡ true → rom_range r overdrive value (left - 1) ≡ true
unfolding rom_range
less-ranged Waiting overdrive register value left more h =
    let none = eqb-true left 0 (both (eqb register 0xFF) (eqb left 0) h).1 in
    let above = ltb-true 1 left more in
    absurd (omega arith)
less-ranged Command overdrive register value left more h = fewer 8 left more h
less-ranged (Read byte) overdrive register value left more h = fewer-beside (ltb byte 8) 8 left more h
less-ranged (Match at) overdrive register value left more h = fewer-beside (ltb at 64) 1 left more h
less-ranged (Search at) overdrive register value left more h = fewer-beside (ltb at 64) 3 left more h
less-ranged (OverdriveMatch at before) overdrive register value left more h =
    let p = both overdrive (ltb at 64 && under_way 1 left) h in
    rw p.0 (fewer-beside (ltb at 64) 1 left more p.1)

-- ---- after the last slot of a transfer

pub next-ranged : (r : RomStage) (kind : Kind) (overdrive : Bool) (register left value : ℕ) (body : List ℕ) (level : Bool)
    → rom_range r overdrive register left ≡ true
    → Ranged kind (rom_speed r kind overdrive value body level) (rom_next r kind overdrive value body level)
unfolding rom_next rom_command overdrive_command after_read after_match after_search after_overdrive_match search_bit rom_range
    rom_speed command_speed
next-ranged Waiting kind overdrive register left value body level h = waits
next-ranged Command kind overdrive register left value body level h =
    decide (eqb value 0x33) (λ _. ranged (Read 0) _ 8 refl)
    (λ _. decide (eqb value 0x55) (λ _. ranged (Match 0) 0xFF 1 refl)
    (λ _. decide (eqb value 0xF0) (λ _. ranged (Search 0) _ _ refl)
    (λ _. decide (eqb value 0xCC) (λ _. leaves)
    (λ _. decide (has_overdrive kind)
    (λ has. decide (eqb value 0x3C) (λ _. leaves)
    (λ other. decide (eqb value 0x69)
    (λ here. ranged (OverdriveMatch 0 overdrive) 0xFF 1 (rw (has, other, here))) (λ _. waits)))
    (λ _. waits)))))
next-ranged (Read byte) kind overdrive register left value body level h =
    decide (ltb byte 7)
    (λ t. ranged (Read (byte + 1)) _ 8 (rw (lt-ltb (byte + 1) 8 (omega (arith, ltb-true byte 7 t))))) (λ _. leaves)
next-ranged (Match at) kind overdrive register left value body level h =
    decide (beq (bit_at body at) level)
    (λ _. decide (ltb at 63)
    (λ t. ranged (Match (at + 1)) 0xFF 1 (rw (lt-ltb (at + 1) 64 (omega (arith, ltb-true at 63 t))))) (λ _. leaves))
    (λ _. waits)
next-ranged (Search at) kind overdrive register left value body level h =
    decide (beq (bit_at body at) level)
    (λ _. decide (ltb at 63)
    (λ t. ranged (Search (at + 1)) _ _ (rw (lt-ltb (at + 1) 64 (omega (arith, ltb-true at 63 t))))) (λ _. leaves))
    (λ _. waits)
next-ranged (OverdriveMatch at before) kind overdrive register left value body level h =
    decide-speed (beq (bit_at body at) level)
    (λ _. decide (ltb at 63)
    (λ t. ranged (OverdriveMatch (at + 1) before) 0xFF 1
    (rw ((both overdrive (ltb at 64 && under_way 1 left) h).0, lt-ltb (at + 1) 64 (omega (arith, ltb-true at 63 t)))))
    (λ _. leaves))
    (λ _. waits)

-- ---- only a kind that has overdrive is at overdrive

pub next-speed : (r : RomStage) (kind : Kind) (overdrive : Bool) (register left value : ℕ) (body : List ℕ) (level : Bool)
    → rom_range r overdrive register left ≡ true → speed_known kind overdrive ≡ true
    → speed_known kind (rom_speed r kind overdrive value body level) ≡ true
unfolding rom_speed command_speed rom_range speed_known
next-speed Command kind overdrive register left value body level h k =
    has (has_overdrive kind) (eqb value 0x3C) (eqb value 0x69) overdrive k
  where
    has : (t a b y : Bool) → (not y || t) ≡ true → (not (cond a (cond t true y) (cond b (cond t true y) y)) || t) ≡ true
    has true true b y k = refl
    has true false true y k = refl
    has true false false y k = k
    has false true b y k = k
    has false false true y k = k
    has false false false y k = k
next-speed (OverdriveMatch at before) kind overdrive register left value body level h k =
    any (has_overdrive kind) overdrive (cond (beq (bit_at body at) level) overdrive before)
    (both overdrive (ltb at 64 && under_way 1 left) h).0 k
  where
    any : (t x y : Bool) → x ≡ true → (not x || t) ≡ true → (not y || t) ≡ true
    any true x true e k = refl
    any true x false e k = refl
    any false true y e k = absurd (true≢false (sym k))
    any false false y e k = absurd (true≢false (sym e))
next-speed _ kind overdrive register left value body level h k = k
