-- Nothing here is from the documents: these definitions say what the loop below `probe_looked` does, for any image and
-- any line states. Where the run is not refused this is what `Looked.antt` says (`proofs/Numbers.antt`).
use Rattle.std.specs.Prelude.{ℕ, zero, suc, ◌%◌, List, length, get_or, set}
use Rattle.bus.specs.declared.Event.{Event}
use Rattle.bus.specs.declared.Event.TheVariants.{Slot, Reset, Pulse, OverdriveSlot, OverdriveReset}
use Rattle.bus.specs.Bus.{event_of}
use Rattle.bus.specs.Loops.{looked_on, RunState, run_state, run_events_up_to}

-- This is the byte that is written for an event whose level looked at `looked` devices.
unfoldable pub number_for : Event → ℕ → ℕ
number_for (Slot sent) looked = looked % 256
number_for Reset looked = 255
number_for Pulse looked = 255
number_for (OverdriveSlot sent) looked = looked % 256
number_for OverdriveReset looked = 255

unfoldable pub number_of : ℕ → ℕ → ℕ
number_of byte looked = number_for (event_of byte) looked

-- This is what is written after the first k events on n devices. The bytes that are written over stand in the place of
-- the answers.
unfoldable pub numbers : List ℕ → ℕ → ℕ → RunState → List ℕ
numbers trace n zero s = s.answers
numbers trace n (suc k) s =
    set (numbers trace n k s) k
    (number_of (get_or trace k 0) (looked_on (run_events_up_to trace n k s).lines n (get_or trace k 0)))

-- All events leave this, with the numbers in the place of the answers.
abbrev pub numbered_run : List ℕ → ℕ → RunState → RunState
numbered_run trace n s =
    let left = run_events_up_to trace n (length trace) s in
    run_state left.image (numbers trace n (length trace) s) left.lines
