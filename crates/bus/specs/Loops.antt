-- Nothing here is from document 01. These definitions say what the functions of `src/` below `run` do, for any image
-- and any line states, with each loop's state by recursion on how many turns it has made. Where the image is not
-- refused and there is room, this is what `Bus.antt` and `Run.antt` say (`proofs/Shown.antt`).
use Rattle.std.specs.Prelude.{ℕ, zero, suc, ◌+◌, ◌-◌, ◌*◌, Bool, true, false, not, cond, ◌&&◌, ◌||◌, List, [], ◌∷◌}
use Rattle.std.specs.Prelude.{◌++◌, length, get_or, set, take, drop, eqb, ltb, leb}
use Rattle.std.specs.Bool.{beq}
use Rattle.bits.specs.Bit.{level_byte}
use Rattle.kind.specs.declared.Kind.{Kind}
use Rattle.kind.specs.declared.Kind.TheVariants.{Unknown}
use Rattle.kind.specs.Kind.{body_size}
use Rattle.image.specs.Image.{count_of, kind_at, offset_at}
use Rattle.device.specs.declared.LineState.{LineState}
use Rattle.line.specs.Transfers.{goes_on, last_slot, shifted}
use Rattle.device.specs.Device.{line_state, waiting_state, waits, reset_at, reset_state, sends_as_is}
use Rattle.device.specs.Device.{state_after_slot_as_is}
use Rattle.device.specs.Device.{body_after_slot_as_is}
use Rattle.device.specs.Device.{body_after_reset_as_is, state_after_pulse_as_is, body_after_pulse_as_is}
use Rattle.device.specs.Device.{bytes_in_slot_as_is}
use Rattle.bus.specs.declared.Event.{Event}
use Rattle.bus.specs.declared.Event.TheVariants.{Slot, Reset, Pulse, OverdriveSlot, OverdriveReset}
use Rattle.bus.specs.declared.Place.{Place}
use Rattle.bus.specs.declared.Scan.{Scan}
use Rattle.bus.specs.declared.SlotTurn.{SlotTurn}
use Rattle.bus.specs.declared.EventResult.{EventResult}
use Rattle.bus.specs.Bus.{Device, device_with, event_of, is_slot, hears, master_high, read_slot, unheard_state}

-- ---- one device, without a test of its line state's range

-- An event that a device hears leaves it, at a level, in this line state, which is not tested for its range, and with
-- this body.
unfoldable pub heard_state_as_is : Event → Bool → Device → LineState
heard_state_as_is (Slot sent) level d = state_after_slot_as_is d.state d.kind d.body level
heard_state_as_is Reset level d = reset_state
heard_state_as_is Pulse level d = state_after_pulse_as_is d.state d.body
heard_state_as_is (OverdriveSlot sent) level d = state_after_slot_as_is d.state d.kind d.body level
heard_state_as_is OverdriveReset level d = reset_at true

unfoldable pub heard_body_as_is : Event → Bool → Device → List ℕ
heard_body_as_is (Slot sent) level d = body_after_slot_as_is d.state d.kind d.body level
heard_body_as_is Reset level d = body_after_reset_as_is d.state d.body
heard_body_as_is Pulse level d = body_after_pulse_as_is d.state d.body
heard_body_as_is (OverdriveSlot sent) level d = body_after_slot_as_is d.state d.kind d.body level
heard_body_as_is OverdriveReset level d = body_after_reset_as_is d.state d.body

unfoldable pub heard_copied_as_is : Event → Bool → Device → ℕ
heard_copied_as_is (Slot sent) level d = bytes_in_slot_as_is d.state d.kind d.body level
heard_copied_as_is Reset level d = 0
heard_copied_as_is Pulse level d = 0
heard_copied_as_is (OverdriveSlot sent) level d = bytes_in_slot_as_is d.state d.kind d.body level
heard_copied_as_is OverdriveReset level d = 0

unfoldable pub next_state_as_is : Event → Bool → Device → LineState
next_state_as_is event level d =
    cond (hears event d.state) (heard_state_as_is event level d) (unheard_state event d.state)

unfoldable pub next_body_as_is : Event → Bool → Device → List ℕ
next_body_as_is event level d = cond (hears event d.state) (heard_body_as_is event level d) d.body

unfoldable pub copied_as_is : Event → Bool → Device → ℕ
copied_as_is event level d = cond (hears event d.state) (heard_copied_as_is event level d) 0

-- What the master sends in a slot has no part in a device's turn, which is given the level: the slot in which it sends
-- 1 stands for both slots at its speed.
unfoldable pub slot_byte : Bool → ℕ
slot_byte overdrive = cond overdrive 5 1

-- A device that has no transfer under way is passed over in a slot that it hears.
unfoldable pub passed_over : ℕ → LineState → Bool
passed_over byte state =
    is_slot (event_of byte) && (hears (event_of byte) state && eqb state.transfer.left 0)

-- A slot does nothing to a device at its own speed that has no transfer under way, and a slot at overdrive nothing to
-- one at regular speed, which does not hear it. To any other it does something: a regular slot makes a device at
-- overdrive wait.
unfoldable pub moves_in : Bool → LineState → Bool
moves_in true state = state.overdrive && not (eqb state.transfer.left 0)
moves_in false state = not (waits state)

-- In a slot more happens than a shift to a device whose transfer ends in it, and to one that a regular slot finds at
-- overdrive.
unfoldable pub ends_in : Bool → LineState → Bool
ends_in true state = state.overdrive && last_slot state.transfer
ends_in false state = state.overdrive || last_slot state.transfer

-- A slot shifts the register of a device at its speed that is inside a transfer.
unfoldable pub shifts_in : Bool → LineState → Bool
shifts_in overdrive state = beq state.overdrive overdrive && goes_on state.transfer

-- A slot leaves a device to which no more than a shift happens in this line state: any that is not shifted stays as it
-- is.
unfoldable pub pass_state : Bool → Bool → LineState → LineState
pass_state overdrive level state =
    cond (shifts_in overdrive state) (line_state (shifted state.transfer level) state.overdrive) state

-- The place of device i is its kind and where its body lies in the image. A device that the image does not have, or has
-- no whole entry or no room for, has an empty body and no kind.
unfoldable pub place_in : List ℕ → ℕ → Place
place_in image i =
    cond (ltb i (count_of image)
    && (ltb (5 + 4 * i) (length image) && leb (offset_at image i + body_size (kind_at image i)) (length image)))
    (record {
      kind = kind_at image i;
      start = offset_at image i;
      end = offset_at image i + body_size (kind_at image i);
    })
    (record { kind = Unknown; start = 0; end = 0 })

unfoldable pub device_at_place : List ℕ → Place → LineState → Device
device_at_place image place state =
    device_with place.kind (take (place.end - place.start) (drop place.start image)) state

unfoldable pub device_in : List ℕ → ℕ → LineState → Device
device_in image i state = device_at_place image (place_in image i) state

unfoldable pub kind_in : List ℕ → ℕ → Kind
kind_in image i = (place_in image i).kind

unfoldable pub body_in : List ℕ → ℕ → List ℕ
body_in image i = take ((place_in image i).end - (place_in image i).start) (drop (place_in image i).start image)

-- A new body at a place leaves the rest of the image as it was.
unfoldable pub image_with_body : List ℕ → Place → List ℕ → List ℕ
image_with_body image place body = take place.start image ++ (body ++ drop place.end image)

-- In an event at a level, the turn of device i leaves this line state and this image.
unfoldable pub turn_state : List ℕ → ℕ → LineState → ℕ → Bool → LineState
turn_state image i state byte level =
    cond (passed_over byte state) state (next_state_as_is (event_of byte) level (device_in image i state))

unfoldable pub turn_image : List ℕ → ℕ → LineState → ℕ → Bool → List ℕ
turn_image image i state byte level =
    cond (passed_over byte state) image
    (image_with_body image (place_in image i) (next_body_as_is (event_of byte) level (device_in image i state)))

-- The turn of device i copies so many bytes, and a slot's turn answers its line state with that number.
unfoldable pub turn_copied : List ℕ → ℕ → LineState → ℕ → Bool → ℕ
turn_copied image i state byte level =
    cond (passed_over byte state) 0 (copied_as_is (event_of byte) level (device_in image i state))

abbrev pub slot_turn : LineState → ℕ → SlotTurn
slot_turn next copied = record { next = next; copied = copied }

-- A sum stays at the largest number that it can be, where it would pass it.
abbrev pub most_copied : ℕ
most_copied = 18446744073709551615

unfoldable pub added_to : ℕ → ℕ → ℕ
added_to sum bytes = cond (ltb (most_copied - sum) bytes) most_copied (sum + bytes)

-- ---- the level of an event

-- A device leaves the line high in an event if it does not hear it, or if it answers with a 1.
unfoldable pub answers_high : Event → LineState → Bool
answers_high (Slot sent) state = sends_as_is state
answers_high Reset state = false
answers_high Pulse state = true
answers_high (OverdriveSlot sent) state = sends_as_is state
answers_high OverdriveReset state = false

unfoldable pub leaves_high : Event → LineState → Bool
leaves_high event state = not (hears event state) || answers_high event state

-- The line stays high if each of these line states leaves it high.
unfoldable pub all_high : Event → List LineState → Bool
all_high event [] = true
all_high event (state ∷ states) = leaves_high event state && all_high event states

unfoldable pub level_as_is : Event → List LineState → Bool
level_as_is event states = master_high event && all_high event states

-- The level of an event is that of the first n devices, or of fewer where fewer line states are lent.
unfoldable pub level_on : List LineState → ℕ → ℕ → Bool
level_on lines n byte = level_as_is (event_of byte) (take n lines)

-- The level looks at the line states up to and including the first that pulls the line low.
unfoldable pub up_to_low : Event → List LineState → ℕ
up_to_low event [] = 0
up_to_low event (state ∷ states) = suc (cond (leaves_high event state) (up_to_low event states) 0)

unfoldable pub looked_as_is : Event → List LineState → ℕ
looked_as_is event states = cond (read_slot event) (up_to_low event states) 0

unfoldable pub looked_on : List LineState → ℕ → ℕ → ℕ
looked_on lines n byte = looked_as_is (event_of byte) (take n lines)

-- A scan is the level of an event together with the number of devices that were looked at for it.
unfoldable pub scan_on : List LineState → ℕ → ℕ → Scan
scan_on lines n byte = record { level = level_on lines n byte; looked = looked_on lines n byte }

-- This is the smaller of two numbers.
unfoldable pub fewer_of : ℕ → ℕ → ℕ
fewer_of a b = cond (ltb a b) a b

-- All of n devices are asked unless the master holds the line low.
unfoldable pub asked_of : Event → ℕ → ℕ
asked_of event n = cond (master_high event) n 0

-- The scan of an event goes on until a device pulls low or the last has been asked.
unfoldable pub goes_on_at : Bool → ℕ → ℕ → Bool
goes_on_at high looked asked = high && ltb looked asked

-- Where `high` tells whether those that were asked leave the line high, this is the scan.
unfoldable pub scan_where : Event → Bool → ℕ → Scan
scan_where event high looked = record { level = master_high event && high; looked = cond (read_slot event) looked 0 }

-- ---- the turns of all devices

-- A line state that a slice does not have is waiting.
abbrev pub line_at : List LineState → ℕ → LineState
line_at lines i = get_or lines i waiting_state

-- Of m devices from place i on, so many come before the first to which more happens in a slot than a shift.
unfoldable pub passes_from : Bool → ℕ → ℕ → List LineState → ℕ
passes_from overdrive zero i lines = 0
passes_from overdrive (suc m) i lines =
    cond (ends_in overdrive (line_at lines i)) 0 (suc (passes_from overdrive m (suc i) lines))

-- The slot leaves the first k of them in these line states.
unfoldable pub shifted_from : Bool → Bool → ℕ → ℕ → List LineState → List LineState
shifted_from overdrive level i zero lines = lines
shifted_from overdrive level i (suc k) lines =
    let before = shifted_from overdrive level i k lines in
    set before (i + k) (pass_state overdrive level (line_at before (i + k)))

-- Image and line states change together: `turn_at` is the turn of device i, `turns_up_to` the turns of the first i
-- devices.
pub record BusState : Type 0 where
  pub image : List ℕ
  pub lines : List LineState

abbrev pub bus_state : List ℕ → List LineState → BusState
bus_state image lines = record { image = image; lines = lines }

unfoldable pub turn_at : ℕ → Bool → ℕ → BusState → BusState
turn_at byte level i s =
    bus_state
    (turn_image s.image i (line_at s.lines i) byte level)
    (set s.lines i (turn_state s.image i (line_at s.lines i) byte level))

unfoldable pub turns_up_to : ℕ → Bool → ℕ → BusState → BusState
turns_up_to byte level zero s = s
turns_up_to byte level (suc i) s = turn_at byte level i (turns_up_to byte level i s)

-- An event is given to the first n devices, or to fewer where fewer line states are lent; each is given its level.
unfoldable pub step_on : ℕ → ℕ → BusState → BusState
step_on n byte s = turns_up_to byte (level_on s.lines n byte) (fewer_of n (length s.lines)) s

-- The turns of the first i devices copy so many bytes, and so many are copied in an event that they are given.
unfoldable pub copied_up_to : ℕ → Bool → ℕ → BusState → ℕ
copied_up_to byte level zero s = 0
copied_up_to byte level (suc i) s =
    let before = turns_up_to byte level i s in
    added_to (copied_up_to byte level i s) (turn_copied before.image i (line_at before.lines i) byte level)

unfoldable pub copied_on : ℕ → ℕ → BusState → ℕ
copied_on n byte s = copied_up_to byte (level_on s.lines n byte) (fewer_of n (length s.lines)) s

-- The result of an event is its scan, with the number of bytes copied in it.
abbrev pub event_result : Scan → ℕ → EventResult
event_result scan copied = record { level = scan.level; looked = scan.looked; copied = copied }

-- The first i line states are set to one state, and the others stay as they were.
unfoldable pub filled_up_to : ℕ → LineState → List LineState → List LineState
filled_up_to zero state lines = lines
filled_up_to (suc i) state lines = set (filled_up_to i state lines) i state

-- ---- the line states alone, where the image is only read

-- These are the line states of the devices from entry i on, after an event at a level.
unfoldable pub turn_states_from : List ℕ → ℕ → List LineState → ℕ → Bool → List LineState
turn_states_from image i [] byte level = []
turn_states_from image i (state ∷ states) byte level =
    turn_state image i state byte level ∷ turn_states_from image (suc i) states byte level

-- The line states of the first n devices change in an event at a level; those past them stay as they were.
unfoldable pub turn_states_of : List ℕ → List LineState → ℕ → ℕ → Bool → List LineState
turn_states_of image lines n byte level = turn_states_from image 0 (take n lines) byte level ++ drop n lines

-- ---- a trace

-- Image, answers and line states change together: `run_event_at` is event k of a trace on n devices, and
-- `run_events_up_to` are the first k events.
pub record RunState : Type 0 where
  pub image : List ℕ
  pub answers : List ℕ
  pub lines : List LineState

abbrev pub run_state : List ℕ → List ℕ → List LineState → RunState
run_state image answers lines = record { image = image; answers = answers; lines = lines }

unfoldable pub run_event_at : ℕ → ℕ → ℕ → RunState → RunState
run_event_at byte n k s =
    let level = level_on s.lines n byte in
    let after = turns_up_to byte level n (bus_state s.image s.lines) in
    run_state after.image (set s.answers k (level_byte level)) after.lines

unfoldable pub run_events_up_to : List ℕ → ℕ → ℕ → RunState → RunState
run_events_up_to trace n zero s = s
run_events_up_to trace n (suc k) s = run_event_at (get_or trace k 0) n k (run_events_up_to trace n k s)

-- The first k events copy so many bytes.
unfoldable pub copied_by_events : List ℕ → ℕ → ℕ → RunState → ℕ
copied_by_events trace n zero s = 0
copied_by_events trace n (suc k) s =
    let before = run_events_up_to trace n k s in
    added_to (copied_by_events trace n k s) (copied_on n (get_or trace k 0) (bus_state before.image before.lines))
