-- Document 01, 'Shop-floor examples', and document 02, item 9, are written here as sessions with devices, byte by byte
-- as the data sheets' tables have them: what the master does, and what it sees on the line.
use Rattle.std.specs.Prelude.{ℕ, zero, suc, ◌+◌, ◌*◌, ◌/◌, ◌%◌, List, [], ◌∷◌, ◌++◌, length, replicate}

pub data SessionStep : Type 0 where
  -- The master sends a reset, which a device answers by its presence.
  reset : SessionStep
  -- The master sends a program pulse.
  pulse : SessionStep
  -- The master writes bytes, or the n low bits of a number, while no device pulls the line low.
  write : List ℕ → SessionStep
  write_bits : ℕ → ℕ → SessionStep
  -- The master reads bytes, with a read slot for each bit.
  read : List ℕ → SessionStep
  -- The master does the same at overdrive; an overdrive reset is answered by a device that hears it, or by none.
  overdrive_reset : SessionStep
  unheard_reset : SessionStep
  overdrive_write : List ℕ → SessionStep
  overdrive_write_bits : ℕ → ℕ → SessionStep
  overdrive_read : List ℕ → SessionStep

-- These are the n low bits of a number, the lowest first.
abbrev pub low_slots : ℕ → ℕ → List ℕ
low_slots zero x = []
low_slots (suc n) x = x % 2 ∷ low_slots n (x / 2)

abbrev pub bits_of : List ℕ → List ℕ
bits_of [] = []
bits_of (byte ∷ bytes) = low_slots 8 byte ++ bits_of bytes

-- The slots of bits at overdrive are 4 and 5.
abbrev pub at_overdrive : List ℕ → List ℕ
at_overdrive [] = []
at_overdrive (bit ∷ bits) = (4 + bit) ∷ at_overdrive bits

-- A step sends these events: 0 is a write-zero slot, 1 a write-one slot (also the read slot), 2 a reset, 3 a program
-- pulse, 4 and 5 are the two slots at overdrive, and 6 is the reset at overdrive.
abbrev pub events_of_step : SessionStep → List ℕ
events_of_step reset = 2 ∷ []
events_of_step pulse = 3 ∷ []
events_of_step (write bytes) = bits_of bytes
events_of_step (write_bits n x) = low_slots n x
events_of_step (read bytes) = replicate (8 * length bytes) 1
events_of_step overdrive_reset = 6 ∷ []
events_of_step unheard_reset = 6 ∷ []
events_of_step (overdrive_write bytes) = at_overdrive (bits_of bytes)
events_of_step (overdrive_write_bits n x) = at_overdrive (low_slots n x)
events_of_step (overdrive_read bytes) = replicate (8 * length bytes) 5

-- In a step the master sees these answers, one for each event.
abbrev pub levels_of_step : SessionStep → List ℕ
levels_of_step reset = 0 ∷ []
levels_of_step pulse = 1 ∷ []
levels_of_step (write bytes) = bits_of bytes
levels_of_step (write_bits n x) = low_slots n x
levels_of_step (read bytes) = bits_of bytes
levels_of_step overdrive_reset = 0 ∷ []
levels_of_step unheard_reset = 1 ∷ []
levels_of_step (overdrive_write bytes) = bits_of bytes
levels_of_step (overdrive_write_bits n x) = low_slots n x
levels_of_step (overdrive_read bytes) = bits_of bytes

-- A session is its steps, one after another.
abbrev pub events_of_steps : List SessionStep → List ℕ
events_of_steps [] = []
events_of_steps (step ∷ steps) = events_of_step step ++ events_of_steps steps

abbrev pub levels_of_steps : List SessionStep → List ℕ
levels_of_steps [] = []
levels_of_steps (step ∷ steps) = levels_of_step step ++ levels_of_steps steps

-- ---- how every transaction begins

-- A transaction by skip ROM is a reset, CCh, and the bytes of a memory function.
abbrev pub skip : List ℕ → List SessionStep
skip bytes = reset ∷ write (0xCC ∷ bytes) ∷ []

-- A transaction by match ROM is a reset, 55h with a code, and the bytes of a memory function.
abbrev pub select : List ℕ → List ℕ → List SessionStep
select code bytes = reset ∷ write (0x55 ∷ code) ∷ write bytes ∷ []
