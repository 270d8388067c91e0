-- Document 02, item 5, is stated here, with item 9: the rules A, B and C, each at an event of a trace on the devices of
-- a bench, in the words of the run (`Bus.antt` of the crate `bus`). Events are counted from 0. A device takes part in
-- an event only where it hears it.
use Rattle.std.specs.Prelude.{ℕ, zero, suc, ◌+◌, ◌-◌, ◌*◌, Bool, true, false, not, cond, ◌&&◌, ◌||◌, List, [], ◌∷◌}
use Rattle.std.specs.Prelude.{◌++◌, length, get_or, take, eqb, ltb, Option, Some, None}
use Rattle.std.specs.Bool.{beq}
use Rattle.bits.specs.Bit.{bit_at}
use Rattle.kind.specs.Kind.{ta1, scratchpad}
use Rattle.kind.specs.declared.Kind.TheVariants.{Unknown}
use Rattle.image.specs.Refusal.{some_below}
use Rattle.line.specs.declared.SramStage.{SramStage}
use Rattle.line.specs.declared.SramStage.TheVariants.{WriteLow, WriteHigh, WriteData, ReadRegister, ReadScratchpad}
use Rattle.line.specs.declared.SramStage.TheVariants.{CopyPattern, Copied, ReadLow, ReadHigh, ReadMemory}
use Rattle.line.specs.declared.MemoryStage.{MemoryStage}
use Rattle.line.specs.declared.MemoryStage.TheVariants.{Command, Sram, Eprom}
use Rattle.line.specs.declared.Stage.{Stage}
use Rattle.line.specs.declared.Stage.TheVariants.{Rom, Memory}
use Rattle.line.specs.declared.Transfer.{Transfer}
use Rattle.line.specs.Transfers.{goes_on, received}
use Rattle.sram.specs.declared.Written.{Written}
use Rattle.sram.specs.Sram.{target_offset, ending_offset}
use Rattle.device.specs.Device.{waiting_state, copy_in_slot}
use Rattle.bus.specs.declared.Event.{Event}
use Rattle.bus.specs.Bus.{Device, device_with, event_of, is_slot, is_overdrive, taken_state, hears, level_of, bus_step}
use Rattle.bus.specs.Bus.{run_trace}

-- ---- one device at one event

-- An event has a level on the line, and finds a device as the events before left it.
pub record Moment : Type 0 where
  pub event : Event
  pub level : Bool
  pub device : Device

abbrev pub heard : Moment → Bool
heard m = hears m.event (taken_state m.device)

-- The event is a slot, at either speed, and the device hears it.
unfoldable pub heard_slot : Moment → Bool
heard_slot m = is_slot m.event && heard m

-- A device at regular speed does not hear what comes at overdrive, and stays as it is: the event is passed over. A
-- regular slot that a device at overdrive does not hear is not, as it makes the device wait.
unfoldable pub passed_over : Moment → Bool
passed_over m = is_overdrive m.event && not (heard m)

abbrev pub transfer_of : Device → Transfer
transfer_of d = d.state.transfer

-- This slot is the last of the byte or bit that a device sends or receives.
unfoldable pub is_last : Device → Bool
is_last d = not (goes_on (transfer_of d))

-- A device is at the memory command from the end of its ROM function to the command's last bit, whatever its speed. A
-- device whose battery is flat never is.
unfoldable pub is_command : MemoryStage → Bool
is_command Command = true
is_command (Sram s) = false
is_command (Eprom e) = false

unfoldable pub is_memory_command : Stage → Bool
is_memory_command (Rom r) = false
is_memory_command (Memory m) = is_command m

abbrev pub at_memory_command : Device → Bool
at_memory_command d = is_memory_command (transfer_of d).stage

-- A memory command completes with its last bit, in a slot that the device hears: it is the byte that the levels of the
-- line spell.
unfoldable pub completes : ℕ → Moment → Bool
completes command m =
    heard_slot m
    && (at_memory_command m.device
    && (is_last m.device && eqb (received (transfer_of m.device) m.level) command))

-- A write scratchpad has its 16th address bit at the end of the address's high byte.
unfoldable pub is_high_byte : SramStage → Bool
is_high_byte WriteLow = false
is_high_byte (WriteHigh low) = true
is_high_byte (WriteData offset bit) = false
is_high_byte (ReadRegister at) = false
is_high_byte (ReadScratchpad offset) = false
is_high_byte (CopyPattern at same) = false
is_high_byte Copied = false
is_high_byte ReadLow = false
is_high_byte (ReadHigh low) = false
is_high_byte (ReadMemory low high) = false

unfoldable pub is_address_end : MemoryStage → Bool
is_address_end Command = false
is_address_end (Sram s) = is_high_byte s
is_address_end (Eprom e) = false

unfoldable pub is_write_address : Stage → Bool
is_write_address (Rom r) = false
is_write_address (Memory m) = is_address_end m

unfoldable pub writes : Moment → Bool
writes m = heard_slot m && (is_write_address (transfer_of m.device).stage && is_last m.device)

-- A copy is accepted with the last bit of a pattern that is equal to the registers: the run then makes a copy, be it of
-- nothing.
unfoldable pub is_made : Option Written → Bool
is_made None = false
is_made (Some written) = true

unfoldable pub accepts_copy : Moment → Bool
accepts_copy m =
    heard_slot m
    && is_made (copy_in_slot m.device.state m.device.kind m.device.body m.level)

-- ---- what a read scratchpad is to have shown

-- These are so many bits of a body, from one on.
unfoldable pub bits_from : ℕ → ℕ → List ℕ → List Bool
bits_from place zero body = []
bits_from place (suc count) body = bit_at body place ∷ bits_from (suc place) count body

-- The three registers TA1, TA2 and E/S are to be shown, then all bytes of the scratchpad from T4:T0 through the ending
-- offset. Where the ending offset is below T4:T0 no bytes lie between, and the registers suffice. That a target is past
-- memory does not matter here: its bytes are to be shown too.
unfoldable pub wanted_bits : List ℕ → List Bool
wanted_bits body =
    bits_from (8 * ta1) 24 body
    ++ bits_from (8 * (scratchpad + target_offset body)) (8 * (ending_offset body + 1 - target_offset body)) body

-- The slots right after a read's command that the device hears show these bits on the line; it does not matter who sent
-- them. An event that is passed over does not count, and any other ends the read.
unfoldable pub shows_bits : List Bool → List Moment → Bool
shows_bits [] ms = true
shows_bits (b ∷ bs) [] = false
shows_bits (b ∷ bs) (m ∷ ms) =
    cond (heard_slot m) (beq m.level b && shows_bits bs ms) (passed_over m && shows_bits (b ∷ bs) ms)

-- Some read scratchpad, AAh, shows these bits: any one of them is enough, whatever the later ones show.
unfoldable pub some_read_shows : List Bool → List Moment → Bool
some_read_shows bits [] = false
some_read_shows bits (m ∷ ms) = completes 0xAA m && shows_bits bits ms || some_read_shows bits ms

unfoldable pub some_write : List Moment → Bool
some_write [] = false
some_write (m ∷ ms) = writes m || some_write ms

-- A write is the last, and a read after it shows these bits. A write that is cut before its 16th address bit is none,
-- and does not end an earlier one.
unfoldable pub shown_since_write : List Bool → List Moment → Bool
shown_since_write bits [] = false
shown_since_write bits (m ∷ ms) =
    writes m && (not (some_write ms) && some_read_shows bits ms) || shown_since_write bits ms

-- ---- a trace on the devices of a bench

-- Past the last device there is none.
abbrev pub device_at : List Device → ℕ → Device
device_at ds i = get_or ds i (device_with Unknown [] waiting_state)

-- The first k events leave the devices so.
abbrev pub devices_at : List ℕ → List Device → ℕ → List Device
devices_at trace ds k = (run_trace (take k trace) ds).devices

abbrev pub moment_of : Event → List Device → ℕ → Moment
moment_of event ds i = record { event = event; level = level_of event ds; device = device_at ds i }

-- This is event k, as it finds device i.
abbrev pub moment_at : List ℕ → List Device → ℕ → ℕ → Moment
moment_at trace ds k i = moment_of (event_of (get_or trace k 0)) (devices_at trace ds k) i

-- These are all events of a trace, in order, each as it finds device i.
unfoldable pub moments_of : List ℕ → List Device → ℕ → List Moment
moments_of [] ds i = []
moments_of (byte ∷ trace) ds i =
    moment_of (event_of byte) ds i ∷ moments_of trace (bus_step (event_of byte) ds).devices i

-- ---- the rules

-- Rule A is broken at an event whose recorded answer is not the bench's.
unfoldable pub breaks_a : List ℕ → List ℕ → List Device → ℕ → Bool
breaks_a trace answers ds k = not (eqb (get_or answers k 0) (get_or (run_trace trace ds).answers k 0))

-- So many numbers below n pass a test.
unfoldable pub count_below : ℕ → (ℕ → Bool) → ℕ
count_below zero p = 0
count_below (suc n) p = count_below n p + cond (p n) 1 0

-- Rule B is broken at the last bit of a memory command 0Fh or 55h while more than one device, of any kind, is at the
-- memory command.
unfoldable pub breaks_b : List ℕ → List Device → ℕ → Bool
breaks_b trace ds k =
    let at = moment_at trace ds k in
    ltb 1 (count_below (length ds) (λ i. at_memory_command (at i).device))
    && some_below (length ds) (λ i. completes 0x0F (at i) || completes 0x55 (at i))

-- Rule C is broken at the last pattern bit of a copy that a device accepts, unless the copy comes after a write
-- scratchpad to that device, and a read scratchpad of that device after its last write showed the registers and the
-- bytes as they stand just before the copy is accepted.
unfoldable pub breaks_c : List ℕ → List Device → ℕ → Bool
breaks_c trace ds k =
    some_below (length ds) (λ i.
    accepts_copy (moment_at trace ds k i)
    && not (shown_since_write (wanted_bits (moment_at trace ds k i).device.body) (moments_of (take k trace) ds i)))
