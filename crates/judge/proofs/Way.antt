-- The way of one device over the line: a line state that is followed from a reset by the levels alone, with a body of a
-- later time, marks what the device's own does. Assumes nothing.
--     Off              a stage from which no slot leads to a command or to a write's address
--     Alike            two line states that are equal, or both off and at the same speed
--     event-alike      an event leaves them alike
--     alike-wrote, -reads    both have the same mark
--     fast-before      a device that is at overdrive after an event at overdrive was so before it
use Prim.Native.Nat.{ℕ, ◌+◌, ◌<◌}
use mathlib.Core.Path.{◌≡◌, refl, sym, ap, subst, ◌∙◌}
use mathlib.Core.Bool.{Bool, true, false, not, cond, ◌&&◌, true≢false, beq}
use mathlib.Core.List.{List}
use native.Mathlib.Omega.{arith}
use lib.ListN.{get_or, take}
use lib.Seq.{get_or-take}
use lib.Dec.{eqb, ltb}
use borrow.Author.Tests.{ltb-true, eqb-true}
use Rattle.bits.specs.Bit.{bit_at}
use Rattle.kind.specs.declared.Kind.{Kind}
use Rattle.kind.specs.declared.Kind.TheVariants as kinds
use Rattle.kind.specs.Kind.{is_flat, is_eprom, memory_size}
use Rattle.line.specs.declared.RomStage.{RomStage}
use Rattle.line.specs.declared.RomStage.TheVariants as roms
use Rattle.line.specs.declared.SramStage.{SramStage}
use Rattle.line.specs.declared.SramStage.TheVariants as srams
use Rattle.line.specs.declared.MemoryStage.{MemoryStage}
use Rattle.line.specs.declared.MemoryStage.TheVariants as memories
use Rattle.line.specs.declared.Stage.{Stage}
use Rattle.line.specs.declared.Stage.TheVariants.{Rom, Memory}
use Rattle.line.specs.declared.Transfer.{Transfer}
use Rattle.line.specs.Transfers.{waiting, sending, listening, goes_on, received, shifted}
use Rattle.rom.specs.Rom.{match_bit, search_bit, addressed, overdrive_command, rom_command, after_read, after_match, after_search, after_overdrive_match, rom_next, rom_speed, rom_range}
use Rattle.rom.proofs.Laws.{code-bit}
use Rattle.sram.specs.Sram.{sram_command, sram_next, after_data_bit, after_register, after_scratchpad, after_pattern, pattern_same, read_memory, address_of, target_offset}
use Rattle.sram.specs.Sram.{write_data_bit, read_register, read_scratchpad, copy_pattern, copy_accepted}
use Rattle.device.specs.declared.LineState.{LineState}
use Rattle.device.specs.Device.{line_state, waiting_state, reset_at, memory_command, memory_next, stage_next, stage_speed, transfer_after_slot, speed_after_slot, state_after_slot_as_is, memory_pulse, stage_pulse, state_after_pulse_as_is, memory_range, stage_range}
use Rattle.bus.specs.declared.Event.{Event}
use Rattle.bus.specs.declared.Event.TheVariants.{Slot, Reset, Pulse, OverdriveSlot, OverdriveReset}
use Rattle.bus.specs.Bus.{Device, device_with, hears, unheard_state, is_slot, is_overdrive}
use Rattle.bus.specs.Loops.{heard_state_as_is, next_state_as_is}
use Rattle.judge.specs.declared.Mark.{Mark}
use Rattle.judge.specs.declared.Mark.TheVariants.{Unmarked, Wrote, Reads}
use Rattle.judge.specs.Rules.{is_command, is_memory_command, is_high_byte, is_address_end, is_write_address}
use Rattle.judge.specs.Loops.{sram_doing, memory_doing, doing_of, slot_at, after_slot_at, mark_by, mark_of}

-- ---- the ROM stage depends on the code alone

module _ (b b' : List ℕ) (same : take 8 b ≡ take 8 b') where
  code-byte : (i : ℕ) → i < 8 → get_or b i 0 ≡ get_or b' i 0
  code-byte i h = sym (get_or-take 8 b i 0 h) ∙ ap (λ (l : List ℕ). get_or l i 0) same ∙ get_or-take 8 b' i 0 h

  code-bits : (at : ℕ) → at < 64 → bit_at b at ≡ bit_at b' at
  code-bits at h = sym (code-bit b at h) ∙ ap (λ (l : List ℕ). bit_at l at) same ∙ code-bit b' at h

  search-same : (at : ℕ) → at < 64 → search_bit at b ≡ search_bit at b'
  unfolding search_bit
  search-same at h = ap (λ (x : Bool). record { register = cond x 0b101 0b110; left = 3; stage = Rom (roms.Search at) }) (code-bits at h)

  command-same : (value : ℕ) (kind : Kind) (overdrive : Bool) → rom_command value kind overdrive b ≡ rom_command value kind overdrive b'
  unfolding rom_command
  command-same value kind overdrive i =
      cond (eqb value 0x33) (sending (Rom (roms.Read 0)) (code-byte 0 (omega arith) i))
      (cond (eqb value 0x55) (match_bit 0)
      (cond (eqb value 0xF0) (search-same 0 (omega arith) i)
      (cond (eqb value 0xCC) (addressed kind) (overdrive_command value kind overdrive))))

  read_same : (byte : ℕ) (kind : Kind) → after_read byte kind b ≡ after_read byte kind b'
  unfolding after_read
  read_same byte kind = choose (ltb byte 7) refl
    where
      choose : (x : Bool) → ltb byte 7 ≡ x
          → cond x (sending (Rom (roms.Read (byte + 1))) (get_or b (byte + 1) 0)) (addressed kind)
          ≡ cond x (sending (Rom (roms.Read (byte + 1))) (get_or b' (byte + 1) 0)) (addressed kind)
      choose true e = ap (sending (Rom (roms.Read (byte + 1)))) (code-byte (byte + 1) (omega (arith, ltb-true byte 7 e)))
      choose false e = refl

  after-search-same : (at : ℕ) (kind : Kind) (x : Bool) → after_search at kind b x ≡ after_search at kind b' x
  unfolding after_search
  after-search-same at kind false = refl
  after-search-same at kind true = choose (ltb at 63) refl
    where
      choose : (x : Bool) → ltb at 63 ≡ x → cond x (search_bit (at + 1) b) (addressed kind) ≡ cond x (search_bit (at + 1) b') (addressed kind)
      choose true e = search-same (at + 1) (omega (arith, ltb-true at 63 e))
      choose false e = refl

  and_first : (x y : Bool) → (x && y) ≡ true → x ≡ true
  and_first true y e = refl
  and_first false y e = e

  and_second : (x y : Bool) → (x && y) ≡ true → y ≡ true
  and_second true y e = e
  and_second false y e = absurd (true≢false (sym e))

  over_below : (at : ℕ) (overdrive rest : Bool) → (overdrive && (ltb at 64 && rest)) ≡ true → at < 64
  over_below at overdrive rest ok = ltb-true at 64 (and_first (ltb at 64) rest (and_second overdrive _ ok))

  rom-same : (r : RomStage) (overdrive : Bool) (register left : ℕ) → rom_range r overdrive register left ≡ true → (kind : Kind) (value : ℕ) (level : Bool)
      → rom_next r kind overdrive value b level ≡ rom_next r kind overdrive value b' level
  unfolding rom_next rom_range
  rom-same roms.Waiting overdrive register left ok kind value level = refl
  rom-same roms.Command overdrive register left ok kind value level = command-same value kind overdrive
  rom-same (roms.Read byte) overdrive register left ok kind value level = read_same byte kind
  rom-same (roms.Match at) overdrive register left ok kind value level =
      let h : at < 64 = ltb-true at 64 (and_first (ltb at 64) _ ok) in
      ap (λ (x : Bool). after_match at kind (beq x level)) (code-bits at h)
  rom-same (roms.Search at) overdrive register left ok kind value level =
      let h : at < 64 = ltb-true at 64 (and_first (ltb at 64) _ ok) in
      ap (λ (x : Bool). after_search at kind b (beq x level)) (code-bits at h) ∙ after-search-same at kind (beq (bit_at b' at) level)
  rom-same (roms.OverdriveMatch at before) overdrive register left ok kind value level =
      ap (λ (x : Bool). after_overdrive_match at before kind (beq x level)) (code-bits at (over_below at overdrive _ ok))

  speed-same : (r : RomStage) (overdrive : Bool) (register left : ℕ) → rom_range r overdrive register left ≡ true → (kind : Kind) (value : ℕ) (level : Bool)
      → rom_speed r kind overdrive value b level ≡ rom_speed r kind overdrive value b' level
  unfolding rom_speed rom_range
  speed-same roms.Waiting overdrive register left ok kind value level = refl
  speed-same roms.Command overdrive register left ok kind value level = refl
  speed-same (roms.Read byte) overdrive register left ok kind value level = refl
  speed-same (roms.Match at) overdrive register left ok kind value level = refl
  speed-same (roms.Search at) overdrive register left ok kind value level = refl
  speed-same (roms.OverdriveMatch at before) overdrive register left ok kind value level =
      ap (λ (x : Bool). cond (beq x level) overdrive before) (code-bits at (over_below at overdrive _ ok))

-- ---- stages that are off

abbrev pub OffRom : RomStage → Type 0
OffRom roms.Waiting = Unit {0}
OffRom roms.Command = ⊥
OffRom (roms.Read byte) = ⊥
OffRom (roms.Match at) = ⊥
OffRom (roms.Search at) = ⊥
OffRom (roms.OverdriveMatch at before) = ⊥

abbrev pub OffSram : SramStage → Type 0
OffSram srams.WriteLow = ⊥
OffSram (srams.WriteHigh low) = ⊥
OffSram (srams.WriteData offset bit) = Unit {0}
OffSram (srams.ReadRegister at) = Unit {0}
OffSram (srams.ReadScratchpad offset) = Unit {0}
OffSram (srams.CopyPattern at same) = Unit {0}
OffSram srams.Copied = Unit {0}
OffSram srams.ReadLow = Unit {0}
OffSram (srams.ReadHigh low) = Unit {0}
OffSram (srams.ReadMemory low high) = Unit {0}

abbrev pub OffMemory : MemoryStage → Type 0
OffMemory memories.Command = ⊥
OffMemory (memories.Sram s) = OffSram s
OffMemory (memories.Eprom e) = ⊥

abbrev pub OffStage : Stage → Type 0
OffStage (Rom r) = OffRom r
OffStage (Memory m) = OffMemory m

abbrev pub Off : Transfer → Type 0
Off t = OffStage t.stage

off-cond : (x : Bool) (t u : Transfer) → Off t → Off u → Off (cond x t u)
off-cond true t u p q = p
off-cond false t u p q = q

-- the end of a transfer that is off
sram-off : (s : SramStage) → OffSram s → (size value : ℕ) (body : List ℕ) → Off (sram_next s size value body)
unfolding sram_next after_data_bit after_register after_scratchpad after_pattern read_memory
sram-off srams.WriteLow p size value body = absurd p
sram-off (srams.WriteHigh low) p size value body = absurd p
sram-off (srams.WriteData offset bit) p size value body =
    off-cond (ltb offset 32) _ _ (off-cond (ltb bit 7) (write_data_bit offset (bit + 1)) (write_data_bit (offset + 1) 0) tt tt) tt
sram-off (srams.ReadRegister at) p size value body =
    off-cond (ltb at 2) (read_register (at + 1) body) (read_scratchpad (target_offset body) body) tt tt
sram-off (srams.ReadScratchpad offset) p size value body =
    off-cond (ltb offset 31) (read_scratchpad (offset + 1) body) waiting tt tt
sram-off (srams.CopyPattern at same) p size value body =
    off-cond (ltb at 2) _ _ tt (off-cond (pattern_same at same value body) copy_accepted waiting tt tt)
sram-off srams.Copied p size value body = tt
sram-off srams.ReadLow p size value body = tt
sram-off (srams.ReadHigh low) p size value body = off-cond (ltb (address_of low value) size) _ waiting tt tt
sram-off (srams.ReadMemory low high) p size value body = off-cond (ltb (address_of low high + 1) size) _ waiting tt tt

stage-off : (stage : Stage) → OffStage stage → (kind : Kind) (overdrive : Bool) (value : ℕ) (body : List ℕ) (level : Bool) → Off (stage_next stage kind overdrive value body level)
unfolding stage_next memory_next rom_next
stage-off (Rom roms.Waiting) p kind overdrive value body level = tt
stage-off (Rom roms.Command) p kind overdrive value body level = absurd p
stage-off (Rom (roms.Read byte)) p kind overdrive value body level = absurd p
stage-off (Rom (roms.Match at)) p kind overdrive value body level = absurd p
stage-off (Rom (roms.Search at)) p kind overdrive value body level = absurd p
stage-off (Rom (roms.OverdriveMatch at before)) p kind overdrive value body level = absurd p
stage-off (Memory memories.Command) p kind overdrive value body level = absurd p
stage-off (Memory (memories.Sram s)) p kind overdrive value body level = sram-off s p (memory_size kind) value body
stage-off (Memory (memories.Eprom e)) p kind overdrive value body level = absurd p

-- which keeps its speed
stage-speed : (stage : Stage) → OffStage stage → (kind : Kind) (overdrive : Bool) (value : ℕ) (body : List ℕ) (level : Bool) → stage_speed stage kind overdrive value body level ≡ overdrive
unfolding stage_speed rom_speed
stage-speed (Rom roms.Waiting) p kind overdrive value body level = refl
stage-speed (Rom roms.Command) p kind overdrive value body level = absurd p
stage-speed (Rom (roms.Read byte)) p kind overdrive value body level = absurd p
stage-speed (Rom (roms.Match at)) p kind overdrive value body level = absurd p
stage-speed (Rom (roms.Search at)) p kind overdrive value body level = absurd p
stage-speed (Rom (roms.OverdriveMatch at before)) p kind overdrive value body level = absurd p
stage-speed (Memory m) p kind overdrive value body level = refl

pub off_next : (state : LineState) (kind : Kind) (body : List ℕ) (level : Bool) → Off state.transfer → Off (state_after_slot_as_is state kind body level).transfer
unfolding state_after_slot_as_is transfer_after_slot
off_next state kind body level p =
    off-cond (goes_on state.transfer) (shifted state.transfer level) _ p
    (stage-off state.transfer.stage p kind state.overdrive (received state.transfer level) body level)

same-either : (x a b : Bool) → b ≡ a → cond x a b ≡ a
same-either true a b e = refl
same-either false a b e = e

pub off-speed : (state : LineState) (kind : Kind) (body : List ℕ) (level : Bool) → Off state.transfer → (state_after_slot_as_is state kind body level).overdrive ≡ state.overdrive
unfolding state_after_slot_as_is speed_after_slot
off-speed state kind body level p =
    same-either (goes_on state.transfer) state.overdrive _
    (stage-speed state.transfer.stage p kind state.overdrive (received state.transfer level) body level)

-- ---- two line states that are alike

pub data Alike (f t : LineState) : Type 0 where
  same : f ≡ t → Alike f t
  off : Off f.transfer → Off t.transfer → f.overdrive ≡ t.overdrive → Alike f t

as_same : {f t f' t' : LineState} → f ≡ f' → t ≡ t' → Alike f' t' → Alike f t
as_same e e' (same p) = same (e ∙ p ∙ sym e')
as_same e e' (off p q v) =
    off (subst (λ (s : LineState). Off s.transfer) (sym e) p) (subst (λ (s : LineState). Off s.transfer) (sym e') q)
    (ap (λ (s : LineState). s.overdrive) e ∙ v ∙ sym (ap (λ (s : LineState). s.overdrive) e'))

pub alike-speed : (f t : LineState) → Alike f t → f.overdrive ≡ t.overdrive
alike-speed f t (same e) = ap (λ (s : LineState). s.overdrive) e
alike-speed f t (off p q v) = v

-- a device of the same speed hears the same
pub hears-speed : (event : Event) (f t : LineState) → f.overdrive ≡ t.overdrive → hears event f ≡ hears event t
unfolding hears
hears-speed (Slot sent) f t e = ap not e
hears-speed Reset f t e = refl
hears-speed Pulse f t e = refl
hears-speed (OverdriveSlot sent) f t e = e
hears-speed OverdriveReset f t e = e

-- a pulse does nothing to a stage that is no DS1982's
pulse-off : (stage : Stage) → OffStage stage → (transfer : Transfer) (body : List ℕ) → stage_pulse stage transfer body ≡ transfer
unfolding stage_pulse memory_pulse
pulse-off (Rom r) p transfer body = refl
pulse-off (Memory memories.Command) p transfer body = refl
pulse-off (Memory (memories.Sram s)) p transfer body = refl
pulse-off (Memory (memories.Eprom e)) p transfer body = absurd p

module _ (size : ℕ) (flat : Bool) (b b' : List ℕ) (code : take 8 b ≡ take 8 b') where
  abbrev K : Kind
  K = kinds.Sram size flat

  abbrev Ranged : LineState → Type 0
  Ranged t = stage_range t.transfer.stage K t.overdrive t.transfer.register t.transfer.left ≡ true

  memory-alike : (overdrive : Bool) (value : ℕ) → Alike (line_state (sram_command value b) overdrive) (line_state (sram_command value b') overdrive)
  unfolding sram_command
  memory-alike overdrive value = choose (eqb value 0x0F) (eqb value 0xAA)
    where
      choose : (x y : Bool)
          → Alike
          (line_state (cond x (listening (Memory (memories.Sram srams.WriteLow))) (cond y (read_register 0 b) (cond (eqb value 0x55) (copy_pattern 0 true) (cond (eqb value 0xF0) (listening (Memory (memories.Sram srams.ReadLow))) waiting)))) overdrive)
          (line_state (cond x (listening (Memory (memories.Sram srams.WriteLow))) (cond y (read_register 0 b') (cond (eqb value 0x55) (copy_pattern 0 true) (cond (eqb value 0xF0) (listening (Memory (memories.Sram srams.ReadLow))) waiting)))) overdrive)
      choose true y = same refl
      choose false true = off tt tt refl
      choose false false = same refl

  sram-alike : (s : SramStage) (overdrive : Bool) (value : ℕ)
      → Alike (line_state (sram_next s (memory_size K) value b) overdrive) (line_state (sram_next s (memory_size K) value b') overdrive)
  unfolding sram_next
  sram-alike srams.WriteLow overdrive value = same refl
  sram-alike (srams.WriteHigh low) overdrive value = same refl
  sram-alike (srams.WriteData offset bit) overdrive value = same refl
  sram-alike (srams.ReadRegister at) overdrive value = off (sram-off (srams.ReadRegister at) tt (memory_size K) value b) (sram-off (srams.ReadRegister at) tt (memory_size K) value b') refl
  sram-alike (srams.ReadScratchpad offset) overdrive value = off (sram-off (srams.ReadScratchpad offset) tt (memory_size K) value b) (sram-off (srams.ReadScratchpad offset) tt (memory_size K) value b') refl
  sram-alike (srams.CopyPattern at same') overdrive value = off (sram-off (srams.CopyPattern at same') tt (memory_size K) value b) (sram-off (srams.CopyPattern at same') tt (memory_size K) value b') refl
  sram-alike srams.Copied overdrive value = same refl
  sram-alike srams.ReadLow overdrive value = same refl
  sram-alike (srams.ReadHigh low) overdrive value = off (sram-off (srams.ReadHigh low) tt (memory_size K) value b) (sram-off (srams.ReadHigh low) tt (memory_size K) value b') refl
  sram-alike (srams.ReadMemory low high) overdrive value = off (sram-off (srams.ReadMemory low high) tt (memory_size K) value b) (sram-off (srams.ReadMemory low high) tt (memory_size K) value b') refl

  and_last : (x y : Bool) → (x && y) ≡ true → y ≡ true
  and_last true y e = e
  and_last false y e = absurd (true≢false (sym e))

  stage-alike : (stage : Stage) (overdrive : Bool) (register left : ℕ) → stage_range stage K overdrive register left ≡ true → (value : ℕ) (level : Bool)
      → Alike (line_state (stage_next stage K overdrive value b level) (stage_speed stage K overdrive value b level))
      (line_state (stage_next stage K overdrive value b' level) (stage_speed stage K overdrive value b' level))
  unfolding stage_next stage_speed memory_next memory_command stage_range memory_range is_eprom
  stage-alike (Rom r) overdrive register left ok value level =
      same (λ i. line_state (rom-same b b' code r overdrive register left ok K value level i) (speed-same b b' code r overdrive register left ok K value level i))
  stage-alike (Memory memories.Command) overdrive register left ok value level = memory-alike overdrive value
  stage-alike (Memory (memories.Sram s)) overdrive register left ok value level = sram-alike s overdrive value
  stage-alike (Memory (memories.Eprom e)) overdrive register left ok value level = absurd (true≢false (sym (and_last (not (is_flat K)) false ok)))

  same_next : (t : LineState) → Ranged t → (level : Bool) → Alike (state_after_slot_as_is t K b level) (state_after_slot_as_is t K b' level)
  unfolding state_after_slot_as_is transfer_after_slot speed_after_slot
  same_next t ok level = choose (goes_on t.transfer)
    where
      choose : (x : Bool)
          → Alike
          (line_state (cond x (shifted t.transfer level) (stage_next t.transfer.stage K t.overdrive (received t.transfer level) b level))
          (cond x t.overdrive (stage_speed t.transfer.stage K t.overdrive (received t.transfer level) b level)))
          (line_state (cond x (shifted t.transfer level) (stage_next t.transfer.stage K t.overdrive (received t.transfer level) b' level))
          (cond x t.overdrive (stage_speed t.transfer.stage K t.overdrive (received t.transfer level) b' level)))
      choose true = same refl
      choose false = stage-alike t.transfer.stage t.overdrive t.transfer.register t.transfer.left ok (received t.transfer level) level

  -- a slot that both hear
  alike_next : (f t : LineState) → Alike f t → Ranged t → (level : Bool) → Alike (state_after_slot_as_is f K b level) (state_after_slot_as_is t K b' level)
  alike_next f t (same e) ok level = as_same (ap (λ (s : LineState). state_after_slot_as_is s K b level) e) refl (same_next t ok level)
  alike_next f t (off p q v) ok level =
      off (off_next f K b level p) (off_next t K b' level q) (off-speed f K b level p ∙ v ∙ sym (off-speed t K b' level q))

  -- a pulse
  pulse-stage : (stage : Stage) (overdrive : Bool) (register left : ℕ) → stage_range stage K overdrive register left ≡ true → (transfer : Transfer) (body : List ℕ)
      → stage_pulse stage transfer body ≡ transfer
  unfolding stage_pulse memory_pulse stage_range memory_range is_eprom
  pulse-stage (Rom r) overdrive register left ok transfer body = refl
  pulse-stage (Memory memories.Command) overdrive register left ok transfer body = refl
  pulse-stage (Memory (memories.Sram s)) overdrive register left ok transfer body = refl
  pulse-stage (Memory (memories.Eprom e)) overdrive register left ok transfer body = absurd (true≢false (sym (and_last (not (is_flat K)) false ok)))

  pulse-same : (t : LineState) → Ranged t → (body : List ℕ) → state_after_pulse_as_is t body ≡ t
  unfolding state_after_pulse_as_is
  pulse-same t ok body =
      ap (λ (x : Transfer). line_state x t.overdrive) (pulse-stage t.transfer.stage t.overdrive t.transfer.register t.transfer.left ok t.transfer body)

  pulse-kept : (t : LineState) → Off t.transfer → (body : List ℕ) → state_after_pulse_as_is t body ≡ t
  unfolding state_after_pulse_as_is
  pulse-kept t p body = ap (λ (x : Transfer). line_state x t.overdrive) (pulse-off t.transfer.stage p t.transfer body)

  alike-pulse : (f t : LineState) → Alike f t → Ranged t → Alike (state_after_pulse_as_is f b) (state_after_pulse_as_is t b')
  alike-pulse f t (same e) ok = as_same (pulse-same f (subst Ranged (sym e) ok) b) (pulse-same t ok b') (same e)
  alike-pulse f t (off p q v) ok = as_same (pulse-kept f p b) (pulse-kept t q b') (off p q v)

  -- an event that both hear, and one that neither does
  heard-alike : (event : Event) (level : Bool) (f t : LineState) → Alike f t → Ranged t
      → Alike (heard_state_as_is event level (device_with K b f)) (heard_state_as_is event level (device_with K b' t))
  unfolding heard_state_as_is
  heard-alike (Slot sent) level f t a ok = alike_next f t a ok level
  heard-alike Reset level f t a ok = same refl
  heard-alike Pulse level f t a ok = alike-pulse f t a ok
  heard-alike (OverdriveSlot sent) level f t a ok = alike_next f t a ok level
  heard-alike OverdriveReset level f t a ok = same refl

  unheard-alike : (event : Event) (f t : LineState) → Alike f t → Alike (unheard_state event f) (unheard_state event t)
  unfolding unheard_state
  unheard-alike (Slot sent) f t a = same refl
  unheard-alike Reset f t a = a
  unheard-alike Pulse f t a = a
  unheard-alike (OverdriveSlot sent) f t a = a
  unheard-alike OverdriveReset f t a = a

  pub event-alike : (event : Event) (level : Bool) (f t : LineState) → Alike f t → Ranged t
      → Alike (next_state_as_is event level (device_with K b f)) (next_state_as_is event level (device_with K b' t))
  unfolding next_state_as_is
  event-alike event level f t a ok = choose (hears event t) (hears-speed event f t (alike-speed f t a))
    where
      choose : (x : Bool) → hears event f ≡ x
          → Alike (cond (hears event f) (heard_state_as_is event level (device_with K b f)) (unheard_state event f))
          (cond x (heard_state_as_is event level (device_with K b' t)) (unheard_state event t))
      choose true e =
          as_same (ap (λ (y : Bool). cond y (heard_state_as_is event level (device_with K b f)) (unheard_state event f)) e) refl (heard-alike event level f t a ok)
      choose false e =
          as_same (ap (λ (y : Bool). cond y (heard_state_as_is event level (device_with K b f)) (unheard_state event f)) e) refl (unheard-alike event f t a)

-- ---- a device that hears a slot, or passes over an event

no_true : (x : Bool) → not x ≡ true → x ≡ false
no_true true e = absurd (true≢false (sym e))
no_true false e = refl

pub slot_next : (event : Event) (level : Bool) (d : Device) → (is_slot event && hears event (line_state waiting d.state.overdrive)) ≡ true
    → next_state_as_is event level d ≡ state_after_slot_as_is d.state d.kind d.body level
unfolding is_slot hears next_state_as_is heard_state_as_is unheard_state
slot_next (Slot sent) level d e = ap (λ (x : Bool). cond x (state_after_slot_as_is d.state d.kind d.body level) waiting_state) e
slot_next Reset level d e = absurd (true≢false (sym e))
slot_next Pulse level d e = absurd (true≢false (sym e))
slot_next (OverdriveSlot sent) level d e = ap (λ (x : Bool). cond x (state_after_slot_as_is d.state d.kind d.body level) d.state) e
slot_next OverdriveReset level d e = absurd (true≢false (sym e))

-- the next line state by value, in a slot at either speed
pub after-unheard : (state : LineState) (kind : Kind) (body : List ℕ) (overdrive level : Bool) → beq state.overdrive overdrive ≡ false
    → after_slot_at state kind body overdrive level ≡ cond overdrive state waiting_state
unfolding after_slot_at
after-unheard state kind body overdrive level e =
    ap (λ (x : Bool). cond x (state_after_slot_as_is state kind body level) (cond overdrive state waiting_state)) e

pub after-regular : (sent level : Bool) (d : Device) → after_slot_at d.state d.kind d.body false level ≡ next_state_as_is (Slot sent) level d
unfolding after_slot_at hears next_state_as_is heard_state_as_is unheard_state
after-regular sent level d = choose d.state.overdrive
  where
    choose : (x : Bool) → cond (beq x false) (state_after_slot_as_is d.state d.kind d.body level) waiting_state
        ≡ cond (not x) (state_after_slot_as_is d.state d.kind d.body level) waiting_state
    choose true = refl
    choose false = refl

pub after-overdrive : (sent level : Bool) (d : Device) → after_slot_at d.state d.kind d.body true level ≡ next_state_as_is (OverdriveSlot sent) level d
unfolding after_slot_at hears next_state_as_is heard_state_as_is unheard_state
after-overdrive sent level d = choose d.state.overdrive
  where
    choose : (x : Bool) → cond (beq x true) (state_after_slot_as_is d.state d.kind d.body level) d.state
        ≡ cond x (state_after_slot_as_is d.state d.kind d.body level) d.state
    choose true = refl
    choose false = refl

pub passed-next : (event : Event) (level : Bool) (d : Device) → (is_overdrive event && not (hears event (line_state waiting d.state.overdrive))) ≡ true
    → next_state_as_is event level d ≡ d.state
unfolding is_overdrive hears next_state_as_is heard_state_as_is unheard_state
passed-next (Slot sent) level d e = absurd (true≢false (sym e))
passed-next Reset level d e = absurd (true≢false (sym e))
passed-next Pulse level d e = absurd (true≢false (sym e))
passed-next (OverdriveSlot sent) level d e =
    ap (λ (x : Bool). cond x (state_after_slot_as_is d.state d.kind d.body level) d.state) (no_true d.state.overdrive e)
passed-next OverdriveReset level d e = ap (λ (x : Bool). cond x (reset_at true) d.state) (no_true d.state.overdrive e)

fast-heard : (heard state : LineState) (x : Bool) → state.overdrive ≡ x → (cond x heard state).overdrive ≡ true → x ≡ true
fast-heard heard state true p f = refl
fast-heard heard state false p f = sym p ∙ f

-- a device at regular speed is left there by what comes at overdrive
pub fast-before : (event : Event) (level : Bool) (d : Device) → is_overdrive event ≡ true → (next_state_as_is event level d).overdrive ≡ true → d.state.overdrive ≡ true
unfolding is_overdrive hears next_state_as_is heard_state_as_is unheard_state
fast-before (Slot sent) level d e f = absurd (true≢false (sym e))
fast-before Reset level d e f = absurd (true≢false (sym e))
fast-before Pulse level d e f = absurd (true≢false (sym e))
fast-before (OverdriveSlot sent) level d e f = fast-heard (state_after_slot_as_is d.state d.kind d.body level) d.state d.state.overdrive refl f
fast-before OverdriveReset level d e f = fast-heard (reset_at true) d.state d.state.overdrive refl f

-- ---- marks

-- what a line state marks in an event at a level
abbrev pub wrote_in : ℕ → LineState → Bool
wrote_in byte s = slot_at byte s.overdrive && (is_write_address s.transfer.stage && not (goes_on s.transfer))

abbrev pub reads_in : ℕ → LineState → Bool → Bool
reads_in byte s level =
    slot_at byte s.overdrive && (is_memory_command s.transfer.stage && (not (goes_on s.transfer) && eqb (received s.transfer level) 0xAA))

abbrev pub marked : ℕ → LineState → Bool → Mark
marked byte s level = cond (wrote_in byte s) Wrote (cond (reads_in byte s level) Reads Unmarked)

sram-mark : (x : SramStage) (last : Bool) (value : ℕ) → mark_by (sram_doing x) last value ≡ cond (is_high_byte x && last) Wrote Unmarked
unfolding mark_by sram_doing is_high_byte
sram-mark srams.WriteLow last value = refl
sram-mark (srams.WriteHigh low) last value = refl
sram-mark (srams.WriteData offset bit) last value = refl
sram-mark (srams.ReadRegister at) last value = refl
sram-mark (srams.ReadScratchpad offset) last value = refl
sram-mark (srams.CopyPattern at same') last value = refl
sram-mark srams.Copied last value = refl
sram-mark srams.ReadLow last value = refl
sram-mark (srams.ReadHigh low) last value = refl
sram-mark (srams.ReadMemory low high) last value = refl

stage-mark : (stage : Stage) (last : Bool) (value : ℕ)
    → mark_by (doing_of stage) last value
    ≡ cond (is_write_address stage && last) Wrote (cond (is_memory_command stage && (last && eqb value 0xAA)) Reads Unmarked)
unfolding mark_by doing_of memory_doing is_write_address is_address_end is_memory_command is_command
stage-mark (Rom r) last value = refl
stage-mark (Memory memories.Command) last value = refl
stage-mark (Memory (memories.Sram x)) last value = sram-mark x last value
stage-mark (Memory (memories.Eprom e)) last value = refl

write-order : (a h g : Bool) → (a && (h && g)) ≡ (h && (a && g))
write-order true h g = refl
write-order false true g = refl
write-order false false g = refl

read-order : (a h g v : Bool) → (a && ((h && g) && v)) ≡ (h && (a && (g && v)))
read-order a true g v = refl
read-order true false g v = refl
read-order false false g v = refl

pub mark-is : (byte : ℕ) (s : LineState) (level : Bool) → mark_of s byte level ≡ marked byte s level
unfolding mark_of
mark-is byte s level =
    let h = slot_at byte s.overdrive in
    let g = not (goes_on s.transfer) in
    let v = eqb (received s.transfer level) 0xAA in
    stage-mark s.transfer.stage (h && g) (received s.transfer level)
    ∙ (λ i. cond (write-order (is_write_address s.transfer.stage) h g i) Wrote (cond (read-order (is_memory_command s.transfer.stage) h g v i) Reads Unmarked))

off-sram : (x : SramStage) → OffSram x → is_high_byte x ≡ false
unfolding is_high_byte
off-sram srams.WriteLow p = absurd p
off-sram (srams.WriteHigh low) p = absurd p
off-sram (srams.WriteData offset bit) p = refl
off-sram (srams.ReadRegister at) p = refl
off-sram (srams.ReadScratchpad offset) p = refl
off-sram (srams.CopyPattern at same') p = refl
off-sram srams.Copied p = refl
off-sram srams.ReadLow p = refl
off-sram (srams.ReadHigh low) p = refl
off-sram (srams.ReadMemory low high) p = refl

off-stage : (stage : Stage) → OffStage stage → (is_write_address stage ≡ false) × (is_memory_command stage ≡ false)
unfolding is_write_address is_address_end is_memory_command is_command
off-stage (Rom r) p = (refl, refl)
off-stage (Memory memories.Command) p = absurd p
off-stage (Memory (memories.Sram x)) p = (off-sram x p, refl)
off-stage (Memory (memories.Eprom e)) p = absurd p

and_none : (x : Bool) → (x && false) ≡ false
and_none true = refl
and_none false = refl

off-wrote : (byte : ℕ) (s : LineState) → Off s.transfer → wrote_in byte s ≡ false
off-wrote byte s p =
    ap (λ (x : Bool). slot_at byte s.overdrive && (x && not (goes_on s.transfer))) (off-stage s.transfer.stage p).0
    ∙ and_none (slot_at byte s.overdrive)

off-reads : (byte : ℕ) (s : LineState) (level : Bool) → Off s.transfer → reads_in byte s level ≡ false
off-reads byte s level p =
    ap (λ (x : Bool). slot_at byte s.overdrive && (x && (not (goes_on s.transfer) && eqb (received s.transfer level) 0xAA))) (off-stage s.transfer.stage p).1
    ∙ and_none (slot_at byte s.overdrive)

pub alike-wrote : (byte : ℕ) (f t : LineState) → Alike f t → wrote_in byte f ≡ wrote_in byte t
alike-wrote byte f t (same e) = ap (wrote_in byte) e
alike-wrote byte f t (off p q v) = off-wrote byte f p ∙ sym (off-wrote byte t q)

pub alike-reads : (byte : ℕ) (f t : LineState) (level : Bool) → Alike f t → reads_in byte f level ≡ reads_in byte t level
alike-reads byte f t level (same e) = ap (λ (s : LineState). reads_in byte s level) e
alike-reads byte f t level (off p q v) = off-reads byte f level p ∙ sym (off-reads byte t level q)

-- ---- after a read's command a line state is off, at its speed

pub both_true : (x y : Bool) → (x && y) ≡ true → (x ≡ true) × (y ≡ true)
both_true true y e = (refl, e)
both_true false y e = absurd (true≢false (sym e))

not-cond : (x : Bool) (t u : Transfer) → not x ≡ true → Off u → Off (cond x t u)
not-cond true t u e p = absurd (true≢false (sym e))
not-cond false t u e p = p

read-command : (value : ℕ) (body : List ℕ) → eqb value 0xAA ≡ true → Off (sram_command value body)
unfolding sram_command
read-command value body e =
    let v : value ≡ 0xAA = eqb-true value 0xAA e in
    subst (λ (x : ℕ). Off (cond (eqb x 0x0F) (listening (Memory (memories.Sram srams.WriteLow))) (cond (eqb x 0xAA) (read_register 0 body) (cond (eqb x 0x55) (copy_pattern 0 true) (cond (eqb x 0xF0) (listening (Memory (memories.Sram srams.ReadLow))) waiting))))) (sym v) tt

reads-stage : (stage : Stage) → is_memory_command stage ≡ true → (size : ℕ) (flat : Bool) (overdrive : Bool) (value : ℕ) → eqb value 0xAA ≡ true → (body : List ℕ) (level : Bool)
    → Off (stage_next stage (kinds.Sram size flat) overdrive value body level)
unfolding is_memory_command is_command stage_next memory_next memory_command
reads-stage (Rom r) e size flat overdrive value v body level = absurd (true≢false (sym e))
reads-stage (Memory memories.Command) e size flat overdrive value v body level = read-command value body v
reads-stage (Memory (memories.Sram x)) e size flat overdrive value v body level = absurd (true≢false (sym e))
reads-stage (Memory (memories.Eprom x)) e size flat overdrive value v body level = absurd (true≢false (sym e))

command-speed : (stage : Stage) → is_memory_command stage ≡ true → (kind : Kind) (overdrive : Bool) (value : ℕ) (body : List ℕ) (level : Bool)
    → stage_speed stage kind overdrive value body level ≡ overdrive
unfolding is_memory_command is_command stage_speed
command-speed (Rom r) e kind overdrive value body level = absurd (true≢false (sym e))
command-speed (Memory m) e kind overdrive value body level = refl

pub reads-off : (byte : ℕ) (s : LineState) (size : ℕ) (flat : Bool) (body : List ℕ) (level : Bool) → reads_in byte s level ≡ true
    → Off (state_after_slot_as_is s (kinds.Sram size flat) body level).transfer
unfolding state_after_slot_as_is transfer_after_slot
reads-off byte s size flat body level e =
    let p = both_true (is_memory_command s.transfer.stage) _ (both_true (slot_at byte s.overdrive) _ e).1 in
    let q = both_true (not (goes_on s.transfer)) _ p.1 in
    not-cond (goes_on s.transfer) (shifted s.transfer level) _ q.0
    (reads-stage s.transfer.stage p.0 size flat s.overdrive (received s.transfer level) q.1 body level)

pub reads-speed : (byte : ℕ) (s : LineState) (kind : Kind) (body : List ℕ) (level : Bool) → reads_in byte s level ≡ true
    → (state_after_slot_as_is s kind body level).overdrive ≡ s.overdrive
unfolding state_after_slot_as_is speed_after_slot
reads-speed byte s kind body level e =
    let p = both_true (is_memory_command s.transfer.stage) _ (both_true (slot_at byte s.overdrive) _ e).1 in
    same-either (goes_on s.transfer) s.overdrive _
    (command-speed s.transfer.stage p.0 kind s.overdrive (received s.transfer level) body level)

pub reads-heard : (byte : ℕ) (s : LineState) (level : Bool) → reads_in byte s level ≡ true → slot_at byte s.overdrive ≡ true
reads-heard byte s level e = (both_true (slot_at byte s.overdrive) _ e).0
