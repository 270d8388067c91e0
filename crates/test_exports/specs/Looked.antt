-- Document 02, item 2, is stated here as the tests see it: the numbers of devices that the levels of a run's slots look
-- at.
use Rattle.std.specs.Prelude.{ℕ, zero, suc, List, [], ◌∷◌, ◌++◌, length, drop}
use Rattle.bus.specs.declared.Event.{Event}
use Rattle.bus.specs.declared.Event.TheVariants.{Slot, Reset, Pulse, OverdriveSlot, OverdriveReset}
use Rattle.bus.specs.Bus.{Device, event_of, looked_at, bus_step}
use Rattle.bus.specs.Run.{waiting_devices}

-- A slot's byte, at either speed, is its number of devices looked at; an event that is not a slot has none, and its
-- byte is 255.
unfoldable pub looked_byte : Event → List Device → ℕ
looked_byte (Slot sent) ds = looked_at (Slot sent) ds
looked_byte Reset ds = 255
looked_byte Pulse ds = 255
looked_byte (OverdriveSlot sent) ds = looked_at (OverdriveSlot sent) ds
looked_byte OverdriveReset ds = 255

-- Each event of a trace finds the devices as the one before left them.
unfoldable pub looked_in : List ℕ → List Device → List ℕ
looked_in [] ds = []
looked_in (byte ∷ trace) ds = looked_byte (event_of byte) ds ∷ looked_in trace (bus_step (event_of byte) ds).devices

-- By the number of the refusal the bytes of the run's events are written, and those behind them stay as they were; or
-- nothing is changed.
unfoldable pub looked_after : ℕ → List ℕ → List ℕ → List ℕ → List ℕ
looked_after zero image trace looked = looked_in trace (waiting_devices image) ++ drop (length trace) looked
looked_after (suc number) image trace looked = looked
