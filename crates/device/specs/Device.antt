-- Document 01, 'The trace and its levels', and document 02, items 4, 7 and 9, are stated here for one device: what it
-- sends in a slot, what a slot, a reset and a program pulse leave of its line state (document 01's line record) and of
-- its body, and what a copy did in a slot.
use Rattle.std.specs.Prelude.{ℕ, Bool, false, not, cond, ◌&&◌, List, length, eqb, Option, None}
use Rattle.kind.specs.declared.Kind.{Kind}
use Rattle.kind.specs.declared.Kind.TheVariants as kinds
use Rattle.kind.specs.Kind.{body_size, memory_size, is_sram, is_eprom, is_flat, speed_known}
use Rattle.line.specs.declared.MemoryStage.{MemoryStage}
use Rattle.line.specs.declared.MemoryStage.TheVariants.{Command, Sram, Eprom}
use Rattle.line.specs.declared.Stage.{Stage}
use Rattle.line.specs.declared.Stage.TheVariants.{Rom, Memory}
use Rattle.line.specs.declared.Transfer.{Transfer}
use Rattle.line.specs.Transfers.{waiting, at_rom_command, under_way, transfer_sends, goes_on, received, shifted}
use Rattle.rom.specs.Rom.{rom_next, rom_speed, rom_range}
use Rattle.sram.specs.declared.Written.{Written}
use Rattle.sram.specs.Sram.{sram_command, sram_next, sram_write, bytes_copied, sram_copy, sram_reset, sram_range}
use Rattle.eprom.specs.Eprom.{eprom_command, eprom_next, eprom_pulse, eprom_program, eprom_range}
use Rattle.device.specs.declared.LineState.{LineState}
use Rattle.device.specs.declared.Stepped.{Stepped}

-- ---- the end of a transfer, by the stage

-- A memory command leads to the first transfer of a memory function of the device's kind.
unfoldable pub memory_command : Kind → ℕ → List ℕ → Transfer
memory_command (kinds.Sram size flat) value body = sram_command value body
memory_command kinds.Eprom value body = eprom_command value
memory_command kinds.Unknown value body = waiting

-- When the transfer of a stage ends, in which `value` was received and whose last slot was at `level`, this transfer
-- follows it.
unfoldable pub memory_next : MemoryStage → Kind → ℕ → List ℕ → Transfer
memory_next Command kind value body = memory_command kind value body
memory_next (Sram s) kind value body = sram_next s (memory_size kind) value body
memory_next (Eprom e) kind value body = eprom_next e value body

unfoldable pub stage_next : Stage → Kind → Bool → ℕ → List ℕ → Bool → Transfer
stage_next (Rom r) kind overdrive value body level = rom_next r kind overdrive value body level
stage_next (Memory m) kind overdrive value body level = memory_next m kind value body

-- The device is then at overdrive where this is true; `overdrive` tells whether it was so in the transfer. A memory
-- stage does not change the speed (document 02, item 9).
unfoldable pub stage_speed : Stage → Kind → Bool → ℕ → List ℕ → Bool → Bool
stage_speed (Rom r) kind overdrive value body level = rom_speed r kind overdrive value body level
stage_speed (Memory m) kind overdrive value body level = overdrive

-- When a transfer ends, only a memory function of a DS1992, DS1993 or DS1996 changes the body.
unfoldable pub memory_write : MemoryStage → Kind → ℕ → List ℕ → Bool → List ℕ
memory_write Command kind value body level = body
memory_write (Sram s) kind value body level = sram_write s (memory_size kind) value body level
memory_write (Eprom e) kind value body level = body

unfoldable pub stage_write : Stage → Kind → ℕ → List ℕ → Bool → List ℕ
stage_write (Rom r) kind value body level = body
stage_write (Memory m) kind value body level = memory_write m kind value body level

-- When a transfer ends, only a memory function of a DS1992, DS1993 or DS1996 makes a copy.
unfoldable pub memory_copy : MemoryStage → Kind → ℕ → List ℕ → Option Written
memory_copy Command kind value body = None
memory_copy (Sram s) kind value body = sram_copy s (memory_size kind) value body
memory_copy (Eprom e) kind value body = None

unfoldable pub stage_copy : Stage → Kind → ℕ → List ℕ → Option Written
stage_copy (Rom r) kind value body = None
stage_copy (Memory m) kind value body = memory_copy m kind value body

-- ---- a reset and a program pulse, by the stage

-- A reset changes the body only in a memory function of a DS1992, DS1993 or DS1996.
unfoldable pub memory_reset : MemoryStage → List ℕ → List ℕ
memory_reset Command body = body
memory_reset (Sram s) body = sram_reset s body
memory_reset (Eprom e) body = body

unfoldable pub stage_reset : Stage → List ℕ → List ℕ
stage_reset (Rom r) body = body
stage_reset (Memory m) body = memory_reset m body

-- A program pulse does nothing elsewhere than in a DS1982's memory function. The transfer after it is `stage_pulse`,
-- and the body after it is `stage_program`.
unfoldable pub memory_pulse : MemoryStage → Transfer → List ℕ → Transfer
memory_pulse Command transfer body = transfer
memory_pulse (Sram s) transfer body = transfer
memory_pulse (Eprom e) transfer body = eprom_pulse e transfer body

unfoldable pub stage_pulse : Stage → Transfer → List ℕ → Transfer
stage_pulse (Rom r) transfer body = transfer
stage_pulse (Memory m) transfer body = memory_pulse m transfer body

unfoldable pub memory_program : MemoryStage → List ℕ → List ℕ
memory_program Command body = body
memory_program (Sram s) body = body
memory_program (Eprom e) body = eprom_program e body

unfoldable pub stage_program : Stage → List ℕ → List ℕ
stage_program (Rom r) body = body
stage_program (Memory m) body = memory_program m body

-- ---- a line state as it is

abbrev pub line_state : Transfer → Bool → LineState
line_state transfer overdrive = record { transfer = transfer; overdrive = overdrive }

abbrev pub regular_state : Transfer → LineState
regular_state transfer = line_state transfer false

-- At the start of a run every device waits for a reset, at regular speed, and answers 1.
abbrev pub waiting_state : LineState
waiting_state = regular_state waiting

-- A reset puts each device at the ROM command: a regular one at regular speed, and an overdrive reset at overdrive,
-- where `overdrive` is true.
abbrev pub reset_at : Bool → LineState
reset_at overdrive = line_state at_rom_command overdrive

abbrev pub reset_state : LineState
reset_state = reset_at false

-- A device that has no transfer under way waits for a reset; here it does so at regular speed.
unfoldable pub waits : LineState → Bool
waits state = eqb state.transfer.left 0 && not state.overdrive

-- This is the level that a device sends in a slot.
unfoldable pub sends_as_is : LineState → Bool
sends_as_is state = transfer_sends state.transfer

-- While a slot at a level of the line is not the last of its transfer, it only shifts the level into the register; with
-- the last slot the stage decides which transfer follows.
unfoldable pub transfer_after_slot : Transfer → Kind → Bool → List ℕ → Bool → Transfer
transfer_after_slot transfer kind overdrive body level =
    cond (goes_on transfer) (shifted transfer level)
    (stage_next transfer.stage kind overdrive (received transfer level) body level)

-- Only the last slot of a transfer changes the speed.
unfoldable pub speed_after_slot : Transfer → Kind → Bool → List ℕ → Bool → Bool
speed_after_slot transfer kind overdrive body level =
    cond (goes_on transfer) overdrive
    (stage_speed transfer.stage kind overdrive (received transfer level) body level)

unfoldable pub state_after_slot_as_is : LineState → Kind → List ℕ → Bool → LineState
state_after_slot_as_is state kind body level =
    line_state (transfer_after_slot state.transfer kind state.overdrive body level)
    (speed_after_slot state.transfer kind state.overdrive body level)

-- Only the last slot of a transfer changes the body.
unfoldable pub body_after_slot_as_is : LineState → Kind → List ℕ → Bool → List ℕ
body_after_slot_as_is state kind body level =
    cond (goes_on state.transfer) body
    (stage_write state.transfer.stage kind (received state.transfer level) body level)

-- Only the last slot of a transfer makes a copy.
unfoldable pub copy_in_slot_as_is : LineState → Kind → List ℕ → Bool → Option Written
copy_in_slot_as_is state kind body level =
    cond (goes_on state.transfer) None
    (stage_copy state.transfer.stage kind (received state.transfer level) body)

-- A slot hands up the line state after it, and what a copy did in it (document 02, item 4).
abbrev pub stepped : LineState → Option Written → Stepped
stepped next copy = record { next = next; copy = copy }

-- A reset changes the body as the stage in which it comes has it.
unfoldable pub body_after_reset_as_is : LineState → List ℕ → List ℕ
body_after_reset_as_is state body = stage_reset state.transfer.stage body

-- A program pulse changes the line state and the body as the stage in which it comes has it.
unfoldable pub state_after_pulse_as_is : LineState → List ℕ → LineState
state_after_pulse_as_is state body =
    line_state (stage_pulse state.transfer.stage state.transfer body) state.overdrive

unfoldable pub body_after_pulse_as_is : LineState → List ℕ → List ℕ
body_after_pulse_as_is state body = stage_program state.transfer.stage body

-- ---- the range of a line state's numbers

-- A memory function is in range only where it is one of the device's kind.
unfoldable pub memory_range : MemoryStage → Kind → ℕ → Bool
memory_range Command kind left = under_way 8 left
memory_range (Sram s) kind left = is_sram kind && sram_range s (memory_size kind) left
memory_range (Eprom e) kind left = is_eprom kind && eprom_range e left

-- A device with a flat battery is in no memory stage (document 02, item 7).
unfoldable pub stage_range : Stage → Kind → Bool → ℕ → ℕ → Bool
stage_range (Rom r) kind overdrive register left = rom_range r overdrive register left
stage_range (Memory m) kind overdrive register left = not (is_flat kind) && memory_range m kind left

-- A line state is in range if the body has its kind's size, the speed is one of its kind, and the transfer's numbers
-- are in their stage's range.
unfoldable pub line_state_in_range : LineState → Kind → List ℕ → Bool
line_state_in_range state kind body =
    eqb (length body) (body_size kind)
    && (speed_known kind state.overdrive
    && stage_range state.transfer.stage kind state.overdrive state.transfer.register state.transfer.left)

-- Document 01 has a line state with a number outside its stage's range count as waiting. Our own ruling is that so does
-- one in a memory function of another kind, in a memory stage with a flat battery, at a speed that its kind does not
-- have, or with a body that is not of its kind's size: the documents have no such line state. It waits at regular
-- speed. The body of a device of an unknown family has size 0.
unfoldable pub or_waiting : LineState → Kind → List ℕ → LineState
or_waiting state kind body = cond (line_state_in_range state kind body) state waiting_state

-- ---- any line state

-- This is the level that a device sends in a slot that it hears, where a line state out of range counts as waiting.
unfoldable pub sends_of : LineState → Kind → List ℕ → Bool
sends_of state kind body = sends_as_is (or_waiting state kind body)

-- This is a device's line state after a slot in which the line had a level.
unfoldable pub state_after_slot : LineState → Kind → List ℕ → Bool → LineState
state_after_slot state kind body level = state_after_slot_as_is (or_waiting state kind body) kind body level

-- This is a device's body after a slot in which the line had a level.
unfoldable pub body_after_slot : LineState → Kind → List ℕ → Bool → List ℕ
body_after_slot state kind body level = body_after_slot_as_is (or_waiting state kind body) kind body level

-- This is what a copy of a device did in a slot in which the line had a level.
unfoldable pub copy_in_slot : LineState → Kind → List ℕ → Bool → Option Written
copy_in_slot state kind body level = copy_in_slot_as_is (or_waiting state kind body) kind body level

-- This is the number of bytes that a device copies to its memory in a slot: as it is, and of any line state.
unfoldable pub bytes_in_slot_as_is : LineState → Kind → List ℕ → Bool → ℕ
bytes_in_slot_as_is state kind body level = bytes_copied (copy_in_slot_as_is state kind body level)

unfoldable pub bytes_in_slot : LineState → Kind → List ℕ → Bool → ℕ
bytes_in_slot state kind body level = bytes_copied (copy_in_slot state kind body level)

-- This is a device's body after a reset.
unfoldable pub body_after_reset : LineState → Kind → List ℕ → List ℕ
body_after_reset state kind body = body_after_reset_as_is (or_waiting state kind body) body

-- This is a device's line state after a program pulse.
unfoldable pub state_after_pulse : LineState → Kind → List ℕ → LineState
state_after_pulse state kind body = state_after_pulse_as_is (or_waiting state kind body) body

-- This is a device's body after a program pulse.
unfoldable pub body_after_pulse : LineState → Kind → List ℕ → List ℕ
body_after_pulse state kind body = body_after_pulse_as_is (or_waiting state kind body) body
