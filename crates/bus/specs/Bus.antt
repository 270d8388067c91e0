-- Document 01, 'The trace and its levels', and document 02, items 2, 4 and 9, are stated here: the devices on the bus,
-- which of them hear an event, what it does to them, the run of a trace, and the bytes that it copies. A level is a
-- Bool, and false is 0.
-- Document 01 calls a device a button, the devices on the bus a bench, and a line state a line record.
use Rattle.std.specs.Prelude.{ℕ, suc, ◌+◌, Bool, true, false, not, cond, ◌&&◌, ◌||◌, ◌≡◌, List, [], ◌∷◌, ◌++◌, map}
use Rattle.std.specs.Prelude.{length, eqb}
use Rattle.bits.specs.Bit.{level_byte}
use Rattle.kind.specs.declared.Kind.{Kind}
use Rattle.device.specs.declared.LineState.{LineState}
use Rattle.device.specs.Device.{waiting_state, reset_state, reset_at, or_waiting, sends_of, state_after_slot}
use Rattle.device.specs.Device.{body_after_slot}
use Rattle.device.specs.Device.{body_after_reset, state_after_pulse, body_after_pulse, bytes_in_slot}
use Rattle.bus.specs.declared.Event.{Event}
use Rattle.bus.specs.declared.Event.TheVariants.{Slot, Reset, Pulse, OverdriveSlot, OverdriveReset}

pub record Device : Type 0 where
  pub kind : Kind
  pub body : List ℕ
  pub state : LineState

abbrev pub device_with : Kind → List ℕ → LineState → Device
device_with kind body state = record { kind = kind; body = body; state = state }

-- Each byte of a trace is an event: 0 is a write-zero slot, 1 a write-one slot (also the read slot), 2 a reset and 3 a
-- program pulse; 4 and 5 are the two slots at overdrive, and 6 is the reset at overdrive (document 02, item 9). A run
-- refuses any other byte.
unfoldable pub event_of : ℕ → Event
event_of byte =
    cond (eqb byte 0) (Slot false)
    (cond (eqb byte 1) (Slot true)
    (cond (eqb byte 2) Reset
    (cond (eqb byte 4) (OverdriveSlot false)
    (cond (eqb byte 5) (OverdriveSlot true)
    (cond (eqb byte 6) OverdriveReset Pulse)))))

-- An event is a slot or not, and it comes at overdrive or not. A program pulse has no speed.
unfoldable pub is_slot : Event → Bool
is_slot (Slot sent) = true
is_slot Reset = false
is_slot Pulse = false
is_slot (OverdriveSlot sent) = true
is_slot OverdriveReset = false

unfoldable pub is_overdrive : Event → Bool
is_overdrive (Slot sent) = false
is_overdrive Reset = false
is_overdrive Pulse = false
is_overdrive (OverdriveSlot sent) = true
is_overdrive OverdriveReset = true

-- A line state that a device cannot be in counts as waiting, at regular speed.
unfoldable pub taken_state : Device → LineState
taken_state d = or_waiting d.state d.kind d.body

-- Document 02, item 9: a device hears a slot that comes at its own speed. All devices hear a regular reset, and only
-- those at overdrive an overdrive reset. A program pulse has no speed.
unfoldable pub hears : Event → LineState → Bool
hears (Slot sent) state = not state.overdrive
hears Reset state = true
hears Pulse state = true
hears (OverdriveSlot sent) state = state.overdrive
hears OverdriveReset state = state.overdrive

-- A device that hears an event answers low in a slot in which it sends a 0, and in a reset, where it shows its
-- presence.
unfoldable pub answers_low : Event → Device → Bool
answers_low (Slot sent) d = not (sends_of d.state d.kind d.body)
answers_low Reset d = true
answers_low Pulse d = false
answers_low (OverdriveSlot sent) d = not (sends_of d.state d.kind d.body)
answers_low OverdriveReset d = true

-- A device that does not hear an event leaves the line as it is.
unfoldable pub pulls_low : Event → Device → Bool
pulls_low event d = hears event (taken_state d) && answers_low event d

unfoldable pub some_low : Event → List Device → Bool
some_low event [] = false
some_low event (d ∷ ds) = pulls_low event d || some_low event ds

-- The master holds the line low in a slot in which it sends 0. In every other event the devices decide the level.
unfoldable pub master_high : Event → Bool
master_high (Slot sent) = sent
master_high Reset = true
master_high Pulse = true
master_high (OverdriveSlot sent) = sent
master_high OverdriveReset = true

-- The level of a slot is 0 if the master sends 0 or any device pulls low in that slot, else 1. The level of a reset is
-- 0 if a device hears it, else 1, and that of a pulse is 1. An event that no device hears has the level that it has on
-- an empty bench.
unfoldable pub level_of : Event → List Device → Bool
level_of event ds = not (not (master_high event) || some_low event ds)

-- Document 02, item 2: the level of a slot looks at the devices in entry order and stops at the first that pulls low.
-- That one is counted too, so that the number is its place, counted from 1; where none pulls low all are looked at.
-- Devices that do not hear the slot count as looked at.
unfoldable pub up_to_first_low : Event → List Device → ℕ
up_to_first_low event [] = 0
up_to_first_low event (d ∷ ds) = suc (cond (pulls_low event d) 0 (up_to_first_low event ds))

-- These are the slots in which the master sends 1, at either speed.
unfoldable pub read_slot : Event → Bool
read_slot (Slot sent) = sent
read_slot Reset = false
read_slot Pulse = false
read_slot (OverdriveSlot sent) = sent
read_slot OverdriveReset = false

-- No device is counted in a slot in which the master sends 0, nor in an event that is not a slot.
unfoldable pub looked_at : Event → List Device → ℕ
looked_at event ds = cond (read_slot event) (up_to_first_low event ds) 0

-- In a slot in which the master sends 1, the level and the number of devices looked at go together: either the level is
-- 0, the device at that place pulls low and none before it does, or the level is 1, and no device pulls low.
pub data Looked (event : Event) (ds : List Device) : ℕ → Bool → Type 0 where
  to-first-low : (before : List Device) (d : Device) (after : List Device) → ds ≡ before ++ d ∷ after
      → some_low event before ≡ false → pulls_low event d ≡ true → Looked event ds (suc (length before)) false
  to_last : some_low event ds ≡ false → Looked event ds (length ds) true

-- An event at a level leaves a device that hears it in this line state and with this body. In a slot a device that
-- listens receives this level and not the master's bit. A regular reset leaves every device at regular speed.
unfoldable pub heard_state : Event → Bool → Device → LineState
heard_state (Slot sent) level d = state_after_slot d.state d.kind d.body level
heard_state Reset level d = reset_state
heard_state Pulse level d = state_after_pulse d.state d.kind d.body
heard_state (OverdriveSlot sent) level d = state_after_slot d.state d.kind d.body level
heard_state OverdriveReset level d = reset_at true

unfoldable pub heard_body : Event → Bool → Device → List ℕ
heard_body (Slot sent) level d = body_after_slot d.state d.kind d.body level
heard_body Reset level d = body_after_reset d.state d.kind d.body
heard_body Pulse level d = body_after_pulse d.state d.kind d.body
heard_body (OverdriveSlot sent) level d = body_after_slot d.state d.kind d.body level
heard_body OverdriveReset level d = body_after_reset d.state d.kind d.body

-- For a device that does not hear an event nothing changes, but that a regular slot makes a device at overdrive wait
-- for a regular reset, as one that waits at regular speed does (document 02, item 9).
unfoldable pub unheard_state : Event → LineState → LineState
unheard_state (Slot sent) state = waiting_state
unheard_state Reset state = state
unheard_state Pulse state = state
unheard_state (OverdriveSlot sent) state = state
unheard_state OverdriveReset state = state

unfoldable pub next_state : Event → Bool → Device → LineState
next_state event level d =
    cond (hears event (taken_state d)) (heard_state event level d) (unheard_state event (taken_state d))

unfoldable pub next_body : Event → Bool → Device → List ℕ
next_body event level d = cond (hears event (taken_state d)) (heard_body event level d) d.body

unfoldable pub next_device : Event → Bool → Device → Device
next_device event level d = device_with d.kind (next_body event level d) (next_state event level d)

-- An event on the bus has a level, which every device is given, and leaves the devices in a new state.
pub record BusStep : Type 0 where
  pub level : Bool
  pub devices : List Device

unfoldable pub bus_step_at : Event → Bool → List Device → BusStep
bus_step_at event level ds = record { level = level; devices = map (next_device event level) ds }

unfoldable pub bus_step : Event → List Device → BusStep
bus_step event ds = bus_step_at event (level_of event ds) ds

-- The run of a trace answers one byte per event, and leaves the devices in a new state.
pub record Run : Type 0 where
  pub answers : List ℕ
  pub devices : List Device

unfoldable pub with_answer : Bool → Run → Run
with_answer level rest = record { answers = level_byte level ∷ rest.answers; devices = rest.devices }

unfoldable pub run_trace : List ℕ → List Device → Run
run_trace [] ds = record { answers = []; devices = ds }
run_trace (byte ∷ trace) ds =
    let bus = bus_step (event_of byte) ds in
    with_answer bus.level (run_trace trace bus.devices)

-- ---- the bytes that copies write

-- Document 02, item 4: in an event at a level that it hears a device writes so many bytes by a copy that it accepts.
-- Neither a reset nor a program pulse counts.
unfoldable pub heard_copied : Event → Bool → Device → ℕ
heard_copied (Slot sent) level d = bytes_in_slot d.state d.kind d.body level
heard_copied Reset level d = 0
heard_copied Pulse level d = 0
heard_copied (OverdriveSlot sent) level d = bytes_in_slot d.state d.kind d.body level
heard_copied OverdriveReset level d = 0

unfoldable pub copied_in : Event → Bool → Device → ℕ
copied_in event level d = cond (hears event (taken_state d)) (heard_copied event level d) 0

-- Devices that copy in the same event all count.
unfoldable pub copied_by_all : Event → Bool → List Device → ℕ
copied_by_all event level [] = 0
copied_by_all event level (d ∷ ds) = copied_in event level d + copied_by_all event level ds

-- The bytes copied in a trace are those of all its events, each on the devices as the one before left them.
unfoldable pub copied_in_trace : List ℕ → List Device → ℕ
copied_in_trace [] ds = 0
copied_in_trace (byte ∷ trace) ds =
    let bus = bus_step (event_of byte) ds in
    copied_by_all (event_of byte) bus.level ds + copied_in_trace trace bus.devices
