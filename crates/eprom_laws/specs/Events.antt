-- Document 01, 'The trace and its levels', is stated here for a DS1982 over successive slots and pulses, from the end
-- of its memory command on. The laws of this crate are stated in these words: by bytes, of what goes on slot by slot.
use Rattle.std.specs.Prelude.{ℕ, ◌≡◌, Bool, cond, List, [], ◌∷◌}
use Rattle.bits.specs.Levels.{low_bits, line_bits}
use Rattle.line.specs.Transfers.{waiting, transfer_sends, goes_on, received, shifted}
use Rattle.line.specs.declared.EpromStage.{EpromStage}
use Rattle.line.specs.declared.MemoryStage.TheVariants.{Command, Sram, Eprom}
use Rattle.line.specs.declared.Stage.{Stage}
use Rattle.line.specs.declared.Stage.TheVariants.{Rom, Memory}
use Rattle.line.specs.declared.Transfer.{Transfer}
use Rattle.eprom.specs.Eprom.{eprom_next, eprom_pulse, eprom_program}

-- ---- slots and pulses

-- A DS1982 has the transfer that it takes part in, and its body.
pub record EpromDevice : Type 0 where
  pub transfer : Transfer
  pub body : List ℕ

abbrev pub eprom_device : Transfer → List ℕ → EpromDevice
eprom_device transfer body = record { transfer = transfer; body = body }

-- An event is a slot, with the level of the line in it, or a program pulse.
pub data LineEvent : Type 0 where
  slot : Bool → LineEvent
  pulse : LineEvent

-- In a memory function of a DS1982 one thing holds, and in any other stage another.
abbrev pub in_function : {A : Type 0} → Stage → (EpromStage → A) → A → A
in_function (Memory (Eprom e)) f other = f e
in_function (Memory Command) f other = other
in_function (Memory (Sram s)) f other = other
in_function (Rom r) f other = other

-- A slot goes on with the transfer, or after the last slot of one the next begins. A device that has left its memory
-- function waits.
abbrev pub eprom_transfer_after_slot : Transfer → List ℕ → Bool → Transfer
eprom_transfer_after_slot transfer body level =
    cond (goes_on transfer) (shifted transfer level)
    (in_function transfer.stage (λ e. eprom_next e (received transfer level) body) waiting)

abbrev pub eprom_after_slot : EpromDevice → Bool → EpromDevice
eprom_after_slot device level =
    eprom_device (eprom_transfer_after_slot device.transfer device.body level) device.body

-- A pulse changes the transfer and the body.
abbrev pub eprom_after_pulse : EpromDevice → EpromDevice
eprom_after_pulse device =
    in_function device.transfer.stage
    (λ e. eprom_device (eprom_pulse e device.transfer device.body) (eprom_program e device.body)) device

-- Over successive events these are the levels that the device sends in the slots, and the device afterwards.
unfoldable pub levels_sent : EpromDevice → List LineEvent → List Bool
levels_sent device [] = []
levels_sent device (slot level ∷ events) =
    transfer_sends device.transfer ∷ levels_sent (eprom_after_slot device level) events
levels_sent device (pulse ∷ events) = levels_sent (eprom_after_pulse device) events

unfoldable pub eprom_after_events : EpromDevice → List LineEvent → EpromDevice
eprom_after_events device [] = device
eprom_after_events device (slot level ∷ events) = eprom_after_events (eprom_after_slot device level) events
eprom_after_events device (pulse ∷ events) = eprom_after_events (eprom_after_pulse device) events

-- ---- by bytes

-- An exchange is eight slots in which the line has the bits of a byte, the lowest first, or it is a program pulse.
pub data Exchange : Type 0 where
  byte : ℕ → Exchange
  programs : Exchange

unfoldable pub slots_then : List Bool → List LineEvent → List LineEvent
slots_then [] events = events
slots_then (level ∷ levels) events = slot level ∷ slots_then levels events

unfoldable pub events_of : List Exchange → List LineEvent
events_of [] = []
events_of (byte line ∷ exchanges) = slots_then (low_bits 8 line) (events_of exchanges)
events_of (programs ∷ exchanges) = pulse ∷ events_of exchanges

-- The line has these bytes, one after another.
unfoldable pub line_bytes : List ℕ → List Exchange
line_bytes [] = []
line_bytes (line ∷ lines) = byte line ∷ line_bytes lines

-- Over these exchanges the device sends the bits of the bytes `sent`, and is then `after`.
pub record SendsOver (device : EpromDevice) (exchanges : List Exchange) (sent : List ℕ) (after : EpromDevice) : Type 0
  where
    pub levels : levels_sent device (events_of exchanges) ≡ line_bits sent
    pub reached : eprom_after_events device (events_of exchanges) ≡ after
