-- No slot, reset or program pulse leads out of the range, so that a line state that is once in range need not be tested
-- again. Assumes nothing.
use Prim.Native.Nat.{ℕ, ◌-◌, ◌<◌}
use mathlib.Core.Path.{◌≡◌, refl, sym, ap, ◌∙◌}
use mathlib.Core.Bool.{Bool, true, false, not, cond, ◌&&◌}
use mathlib.Core.List.{List}
use lib.ListN.{length}
use lib.Dec.{ltb, eqb}
use native.Mathlib.Omega.{arith}
use borrow.Author.Tests.{eq-eqb, eqb-true}
use Rattle.kind.specs.declared.Kind.{Kind}
use Rattle.kind.specs.declared.Kind.TheVariants as kinds
use Rattle.kind.specs.Kind.{body_size, is_sram, is_eprom, is_flat, memory_size, speed_known}
use Rattle.line.specs.declared.RomStage.TheVariants.{Waiting, Command as RomCommand, Read, Match, Search, OverdriveMatch}
use Rattle.line.specs.declared.MemoryStage.TheVariants.{Command, Sram, Eprom}
use Rattle.line.specs.declared.Stage.{Stage}
use Rattle.line.specs.declared.Stage.TheVariants.{Rom, Memory}
use Rattle.line.specs.declared.Transfer.{Transfer}
use Rattle.line.specs.Transfers.{waiting, under_way, goes_on, received}
use Rattle.line.proofs.Range.{false-true, both, fewer, slot-left, slot-left-beside}
use Rattle.line.specs.declared.MemoryStage.{MemoryStage}
use Rattle.rom.specs.Rom.{addressed, rom_next, rom_speed, rom_range}
use Rattle.rom.proofs.Range as rom
use Rattle.sram.specs.Sram.{sram_range, bytes_copied}
use Rattle.sram.proofs.Range as sram
use Rattle.eprom.specs.Eprom.{eprom_range}
use Rattle.eprom.proofs.Range as eprom
use Rattle.device.specs.declared.LineState.{LineState}
use Rattle.device.specs.Device.{memory_command, memory_next, stage_next, memory_pulse, stage_pulse, transfer_after_slot, stage_speed, speed_after_slot}
use Rattle.device.specs.Device.{line_state, waiting_state, reset_at, reset_state, sends_as_is, state_after_slot_as_is, body_after_slot_as_is}
use Rattle.device.specs.Device.{body_after_reset_as_is, state_after_pulse_as_is}
use Rattle.device.specs.Device.{body_after_pulse_as_is, memory_range, stage_range, line_state_in_range, or_waiting, sends_of, state_after_slot}
use Rattle.device.specs.Device.{body_after_slot, body_after_reset, state_after_pulse, body_after_pulse}
use Rattle.device.specs.Device.{copy_in_slot, copy_in_slot_as_is, bytes_in_slot_as_is, bytes_in_slot, stage_write, stage_copy}
use Rattle.device.proofs.Keeps.{slot-keeps, reset-keeps, program-keeps}

-- the numbers of a transfer are in their stage's range, at a speed
abbrev Ranged : Kind → Bool → Transfer → Type 0
Ranged kind overdrive t = stage_range t.stage kind overdrive t.register t.left ≡ true

-- ---- from the ranges of the three kinds of stages

-- a device that is addressed is at the memory command, or waits where its battery is flat
addressed-ranged : (kind : Kind) (overdrive : Bool) → Ranged kind overdrive (addressed kind)
unfolding stage_range memory_range rom_range addressed is_flat
addressed-ranged (kinds.Sram size true) overdrive = refl
addressed-ranged (kinds.Sram size false) overdrive = refl
addressed-ranged kinds.Eprom overdrive = refl
addressed-ranged kinds.Unknown overdrive = refl

from-rom : (kind : Kind) (overdrive : Bool) {t : Transfer} → rom.Ranged kind overdrive t → Ranged kind overdrive t
unfolding stage_range
from-rom kind overdrive rom.leaves = addressed-ranged kind overdrive
from-rom kind overdrive (rom.ranged r register left h) = h

-- the battery of the kinds below is not flat: with a flat one no device is in a memory stage
from-sram : (size : ℕ) (overdrive : Bool) {t : Transfer} → sram.Ranged size t
    → Ranged (kinds.Sram size false) overdrive t
unfolding stage_range memory_range rom_range is_sram is_flat memory_size
from-sram size overdrive sram.waits = refl
from-sram size overdrive (sram.ranged s register left h) = h

from-eprom : (overdrive : Bool) {t : Transfer} → eprom.Ranged t → Ranged kinds.Eprom overdrive t
unfolding stage_range memory_range rom_range is_eprom is_flat
from-eprom overdrive eprom.waits = refl
from-eprom overdrive (eprom.ranged e register left h) = h

-- ---- a slot

-- one that is not the last of its transfer
stage-less : (stage : Stage) (kind : Kind) (overdrive : Bool) (register value left : ℕ) → ltb 1 left ≡ true
    → stage_range stage kind overdrive register left ≡ true → stage_range stage kind overdrive value (left - 1) ≡ true
unfolding stage_range memory_range is_sram is_eprom is_flat
stage-less (Rom r) kind overdrive register value left more h = rom.less-ranged r overdrive register value left more h
stage-less (Memory m) (kinds.Sram size true) overdrive register value left more h = false-true h
stage-less (Memory Command) (kinds.Sram size false) overdrive register value left more h = fewer 8 left more h
stage-less (Memory Command) kinds.Eprom overdrive register value left more h = fewer 8 left more h
stage-less (Memory Command) kinds.Unknown overdrive register value left more h = fewer 8 left more h
stage-less (Memory (Sram s)) (kinds.Sram size false) overdrive register value left more h =
    sram.less-ranged (memory_size (kinds.Sram size false)) s left more h
stage-less (Memory (Sram s)) kinds.Eprom overdrive register value left more h = false-true h
stage-less (Memory (Sram s)) kinds.Unknown overdrive register value left more h = false-true h
stage-less (Memory (Eprom e)) (kinds.Sram size false) overdrive register value left more h = false-true h
stage-less (Memory (Eprom e)) kinds.Eprom overdrive register value left more h = eprom.less-ranged e left more h
stage-less (Memory (Eprom e)) kinds.Unknown overdrive register value left more h = false-true h

-- the last of its transfer
stage-next : (stage : Stage) (kind : Kind) (overdrive : Bool) (register left value : ℕ) (body : List ℕ) (level : Bool)
    → stage_range stage kind overdrive register left ≡ true
    → Ranged kind (stage_speed stage kind overdrive value body level) (stage_next stage kind overdrive value body level)
unfolding stage_next stage_speed memory_next memory_command stage_range memory_range rom_range is_sram is_eprom is_flat memory_size
stage-next (Rom r) kind overdrive register left value body level h =
    from-rom kind (rom_speed r kind overdrive value body level)
    (rom.next-ranged r kind overdrive register left value body level h)
stage-next (Memory m) (kinds.Sram size true) overdrive register left value body level h = false-true h
stage-next (Memory Command) (kinds.Sram size false) overdrive register left value body level h =
    from-sram size overdrive (sram.command-ranged size value body)
stage-next (Memory Command) kinds.Eprom overdrive register left value body level h = from-eprom overdrive (eprom.command-ranged value)
stage-next (Memory Command) kinds.Unknown overdrive register left value body level h = refl
stage-next (Memory (Sram s)) (kinds.Sram size false) overdrive register left value body level h =
    from-sram size overdrive (sram.next-ranged size s left value body h)
stage-next (Memory (Sram s)) kinds.Eprom overdrive register left value body level h = false-true h
stage-next (Memory (Sram s)) kinds.Unknown overdrive register left value body level h = false-true h
stage-next (Memory (Eprom e)) (kinds.Sram size false) overdrive register left value body level h = false-true h
stage-next (Memory (Eprom e)) kinds.Eprom overdrive register left value body level h =
    from-eprom overdrive (eprom.next-ranged e left value body h)
stage-next (Memory (Eprom e)) kinds.Unknown overdrive register left value body level h = false-true h

-- only a kind that has overdrive is then at overdrive
stage-speed : (stage : Stage) (kind : Kind) (overdrive : Bool) (register left value : ℕ) (body : List ℕ) (level : Bool)
    → stage_range stage kind overdrive register left ≡ true → speed_known kind overdrive ≡ true
    → speed_known kind (stage_speed stage kind overdrive value body level) ≡ true
unfolding stage_speed stage_range
stage-speed (Rom r) kind overdrive register left value body level h k =
    rom.next-speed r kind overdrive register left value body level h k
stage-speed (Memory m) kind overdrive register left value body level h k = k

module _ (t : Transfer) (kind : Kind) (overdrive : Bool) (body : List ℕ) (level : Bool) (h : Ranged kind overdrive t) where
  transfer-slot : Ranged kind (speed_after_slot t kind overdrive body level) (transfer_after_slot t kind overdrive body level)
  unfolding transfer_after_slot speed_after_slot
  transfer-slot = choose (goes_on t) refl
    where
      choose : (more : Bool) → goes_on t ≡ more
          → Ranged kind (cond more overdrive (stage_speed t.stage kind overdrive (received t level) body level))
          (cond more (record { register = received t level; left = t.left - 1; stage = t.stage })
          (stage_next t.stage kind overdrive (received t level) body level))
      choose true more = stage-less t.stage kind overdrive t.register (received t level) t.left more h
      choose false _ = stage-next t.stage kind overdrive t.register t.left (received t level) body level h

  transfer-speed : speed_known kind overdrive ≡ true → speed_known kind (speed_after_slot t kind overdrive body level) ≡ true
  unfolding speed_after_slot
  transfer-speed k = choose (goes_on t)
    where
      choose : (more : Bool)
          → speed_known kind (cond more overdrive (stage_speed t.stage kind overdrive (received t level) body level)) ≡ true
      choose true = k
      choose false = stage-speed t.stage kind overdrive t.register t.left (received t level) body level h k

-- ---- a program pulse

stage-pulse : (stage : Stage) (kind : Kind) (overdrive : Bool) (register left : ℕ) (body : List ℕ)
    → stage_range stage kind overdrive register left ≡ true
    → Ranged kind overdrive (stage_pulse stage (record { register = register; left = left; stage = stage }) body)
unfolding stage_pulse memory_pulse stage_range memory_range is_eprom is_flat
stage-pulse (Memory (Eprom e)) (kinds.Sram size true) overdrive register left body h = false-true h
stage-pulse (Memory (Eprom e)) (kinds.Sram size false) overdrive register left body h = false-true h
stage-pulse (Memory (Eprom e)) kinds.Eprom overdrive register left body h =
    from-eprom overdrive (eprom.pulse-ranged e register left body h)
stage-pulse (Memory (Eprom e)) kinds.Unknown overdrive register left body h = false-true h
stage-pulse _ kind overdrive register left body h = h

-- ---- the line state

module _ (state : LineState) (kind : Kind) (body : List ℕ) (ranged : line_state_in_range state kind body ≡ true) where
  parts : (eqb (length body) (body_size kind) ≡ true) × (speed_known kind state.overdrive ≡ true)
      × Ranged kind state.overdrive state.transfer
  unfolding line_state_in_range
  parts =
      let t = state.transfer in
      let known = speed_known kind state.overdrive in
      let numbers = stage_range t.stage kind state.overdrive t.register t.left in
      let p = both (eqb (length body) (body_size kind)) (known && numbers) ranged in
      let q = both known numbers p.1 in
      (p.0, q.0, q.1)

  -- the body has its kind's size
  pub sized : length body ≡ body_size kind
  sized = eqb-true (length body) (body_size kind) parts.0

  -- a slot, a reset and a pulse keep a line state in range, with the body that they leave
  pub step-in-range : (level : Bool)
      → line_state_in_range (state_after_slot_as_is state kind body level) kind (body_after_slot_as_is state kind body level) ≡ true
  unfolding line_state_in_range state_after_slot_as_is
  step-in-range level =
      let t = state.transfer in
      rw (
        (slot-keeps state kind body level).same_length,
        parts.0,
        transfer-speed t kind state.overdrive body level parts.2 parts.1,
      )
      (transfer-slot t kind state.overdrive body level parts.2)

  pub reset-in-range : line_state_in_range reset_state kind (body_after_reset_as_is state body) ≡ true
  unfolding line_state_in_range stage_range rom_range speed_known
  reset-in-range = rw ((reset-keeps state body).same_length, parts.0)

  -- an overdrive reset comes to devices at overdrive
  pub overdrive-reset-in-range : state.overdrive ≡ true
      → line_state_in_range (reset_at true) kind (body_after_reset_as_is state body) ≡ true
  unfolding line_state_in_range stage_range rom_range
  overdrive-reset-in-range fast =
      let known : speed_known kind true ≡ true = sym (ap (speed_known kind) fast) ∙ parts.1 in
      rw ((reset-keeps state body).same_length, parts.0, known)

  pub pulse-in-range : line_state_in_range (state_after_pulse_as_is state body) kind (body_after_pulse_as_is state body) ≡ true
  unfolding line_state_in_range state_after_pulse_as_is
  pulse-in-range =
      let t = state.transfer in
      rw ((program-keeps state body).same_length, parts.0, parts.1)
      (stage-pulse t.stage kind state.overdrive t.register t.left body parts.2)

  -- so the test changes nothing
  pub taken-as-is : or_waiting state kind body ≡ state
  unfolding or_waiting
  taken-as-is = rw ranged

  pub sends-same : sends_of state kind body ≡ sends_as_is state
  unfolding sends_of
  sends-same = ap sends_as_is taken-as-is

  pub step_same : (level : Bool) → state_after_slot state kind body level ≡ state_after_slot_as_is state kind body level
  unfolding state_after_slot
  step_same level = ap (λ (s : LineState). state_after_slot_as_is s kind body level) taken-as-is

  pub write_same : (level : Bool) → body_after_slot state kind body level ≡ body_after_slot_as_is state kind body level
  unfolding body_after_slot
  write_same level = ap (λ (s : LineState). body_after_slot_as_is s kind body level) taken-as-is

  pub copies-same : (level : Bool) → bytes_in_slot state kind body level ≡ bytes_in_slot_as_is state kind body level
  unfolding bytes_in_slot copy_in_slot bytes_in_slot_as_is
  copies-same level = ap (λ (s : LineState). bytes_in_slot_as_is s kind body level) taken-as-is

  pub reset-same : body_after_reset state kind body ≡ body_after_reset_as_is state body
  unfolding body_after_reset
  reset-same = ap (λ (s : LineState). body_after_reset_as_is s body) taken-as-is

  pub pulse-same : state_after_pulse state kind body ≡ state_after_pulse_as_is state body
  unfolding state_after_pulse
  pulse-same = ap (λ (s : LineState). state_after_pulse_as_is s body) taken-as-is

  pub program-same : body_after_pulse state kind body ≡ body_after_pulse_as_is state body
  unfolding body_after_pulse
  program-same = ap (λ (s : LineState). body_after_pulse_as_is s body) taken-as-is

-- ---- a device that waits

-- a memory stage has a slot left
memory-slot : (m : MemoryStage) (kind : Kind) (left : ℕ) → memory_range m kind left ≡ true → 0 < left
unfolding memory_range
memory-slot Command kind left h = slot-left 8 left h
memory-slot (Sram s) kind left h =
    sram.has-slot (memory_size kind) s left (both (is_sram kind) (sram_range s (memory_size kind) left) h).1
memory-slot (Eprom e) kind left h = eprom.has-slot e left (both (is_eprom kind) (eprom_range e left) h).1

-- every stage but one has a slot left
waits-only : (stage : Stage) (kind : Kind) (overdrive : Bool) (register left : ℕ)
    → stage_range stage kind overdrive register left ≡ true → left ≡ 0
    → ◌≡◌ {A = Transfer} (record { register = register; left = left; stage = stage }) waiting
unfolding stage_range memory_range rom_range is_sram is_eprom
waits-only (Rom Waiting) kind overdrive register left h z =
    let p = both (eqb register 0xFF) (eqb left 0) h in
    let full : register ≡ 0xFF = eqb-true register 0xFF p.0 in
    rw (full, z)
waits-only (Rom RomCommand) kind overdrive register left h z = absurd (omega (arith, slot-left 8 left h))
waits-only (Rom (Read byte)) kind overdrive register left h z = absurd (omega (arith, slot-left-beside (ltb byte 8) 8 left h))
waits-only (Rom (Match at)) kind overdrive register left h z = absurd (omega (arith, slot-left-beside (ltb at 64) 1 left h))
waits-only (Rom (Search at)) kind overdrive register left h z = absurd (omega (arith, slot-left-beside (ltb at 64) 3 left h))
waits-only (Rom (OverdriveMatch at before)) kind overdrive register left h z =
    absurd (omega (arith, slot-left-beside (ltb at 64) 1 left (both overdrive (ltb at 64 && under_way 1 left) h).1))
waits-only (Memory m) kind overdrive register left h z =
    absurd (omega (arith, memory-slot m kind left (both (not (is_flat kind)) (memory_range m kind left) h).1))

-- so a line state in range of which no slot is left is that of a device that waits, and a slot leaves it as it is
module _ (state : LineState) (kind : Kind) (body : List ℕ) (ranged : line_state_in_range state kind body ≡ true)
    (none : eqb state.transfer.left 0 ≡ true) where
  still : state ≡ line_state waiting state.overdrive
  still =
      let t = state.transfer in
      ap (λ (x : Transfer). line_state x state.overdrive)
      (waits-only t.stage kind state.overdrive t.register t.left (parts state kind body ranged).2
      (eqb-true t.left 0 none))

  pub still-steps : (level : Bool) → state_after_slot_as_is state kind body level ≡ state
  unfolding state_after_slot_as_is transfer_after_slot speed_after_slot stage_next stage_speed rom_next rom_speed
  still-steps level = ap (λ (s : LineState). state_after_slot_as_is s kind body level) still ∙ sym still

  pub still-writes : (level : Bool) → body_after_slot_as_is state kind body level ≡ body
  unfolding body_after_slot_as_is stage_write
  still-writes level = ap (λ (s : LineState). body_after_slot_as_is s kind body level) still

  pub still-copies : (level : Bool) → bytes_in_slot_as_is state kind body level ≡ 0
  unfolding bytes_in_slot_as_is copy_in_slot_as_is stage_copy bytes_copied
  still-copies level = ap (λ (s : LineState). bytes_in_slot_as_is s kind body level) still

-- ---- where a run starts

pub waiting-in-range : (kind : Kind) (body : List ℕ) → length body ≡ body_size kind
    → line_state_in_range waiting_state kind body ≡ true
unfolding line_state_in_range stage_range rom_range speed_known
waiting-in-range kind body h = rw (eq-eqb (length body) (body_size kind) h)

-- with a body of its kind's size a device is in range once its line state is taken, whatever that was
pub or-waiting-in-range : (state : LineState) (kind : Kind) (body : List ℕ) → length body ≡ body_size kind
    → line_state_in_range (or_waiting state kind body) kind body ≡ true
unfolding or_waiting
or-waiting-in-range state kind body h = choose (line_state_in_range state kind body) refl
  where
    choose : (t : Bool) → line_state_in_range state kind body ≡ t → line_state_in_range (cond t state waiting_state) kind body ≡ true
    choose true e = e
    choose false e = waiting-in-range kind body h
