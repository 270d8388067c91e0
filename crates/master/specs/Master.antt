-- Document 01, 'The searching master' and refusals 8 to 10, is stated here: a step that is given one level and returns
-- the next event. A level is a Bool, and false is 0. The last open discrepancy is document 01's last open fork.
use Rattle.std.specs.Prelude.{ℕ, ◌+◌, ◌-◌, Bool, true, false, not, cond, ◌&&◌, List, replicate, eqb, ltb}
use Rattle.std.specs.Prelude.{Option, Some, None}
use Rattle.bits.specs.Bit.{bit_of, bit_at, put_bit}
use Rattle.bits.specs.Crc.{registration_check}
use Rattle.master.specs.declared.End.{End}
use Rattle.master.specs.declared.End.TheVariants.{Done, NoDevice, WrongCrc, Unexplored}
use Rattle.master.specs.declared.Answer.{Answer}
use Rattle.master.specs.declared.Stage.{Stage}
use Rattle.master.specs.declared.Stage.TheVariants.{Fresh, Reset, Command, FirstRead, SecondRead, Direction}
use Rattle.master.specs.declared.Stage.TheVariants.{Ended}
use Rattle.master.specs.declared.Master.{Master}
use Rattle.master.specs.declared.Step.{Step}

-- The search command has 8 bits, a code 64 bits or 8 bytes, and a search takes at most 64 passes.
abbrev pub command_bits : ℕ
command_bits = 8

abbrev pub code_bits : ℕ
code_bits = 64

abbrev pub code_bytes : ℕ
code_bytes = 8

abbrev pub most_passes : ℕ
most_passes = 64

-- ---- what a master answers

-- Document 01's values of an answer are the byte of an event in the trace, or the number of an end, 0 where it has
-- none.
pub data AnswerValue : Type 0 where
  event : ℕ → AnswerValue
  end : ℕ → AnswerValue

-- The numbers 8, 9 and 10 are the master's refusals.
unfoldable pub end_number : End → ℕ
end_number Done = 0
end_number NoDevice = 8
end_number WrongCrc = 9
end_number Unexplored = 10

unfoldable pub answer_value : Answer → AnswerValue
answer_value (Answer.Event byte) = event byte
answer_value (Answer.End e) = end (end_number e)

-- An event is 0 for a write-zero slot, 1 for a write-one slot, which is also the read slot, and 2 for a reset.
unfoldable pub slot_event : Bool → ℕ
slot_event bit = cond bit 1 0

abbrev pub read_slot_event : ℕ
read_slot_event = 1

abbrev pub reset_event : ℕ
reset_event = 2

-- A stage names the event that was sent last; a fresh master opens with a reset. The search command F0h goes out in 8
-- slots, least significant bit first.
unfoldable pub answer_of : Stage → Answer
answer_of Fresh = Answer.Event reset_event
answer_of Reset = Answer.Event reset_event
answer_of (Command at) = Answer.Event (slot_event (bit_of 0xF0 at))
answer_of (FirstRead at) = Answer.Event read_slot_event
answer_of (SecondRead at first) = Answer.Event read_slot_event
answer_of (Direction at bit) = Answer.Event (slot_event bit)
answer_of (Ended e) = Answer.End e

-- This is the answer of a master that a step has handed back.
abbrev pub master_answer : Master → AnswerValue
master_answer m = answer_value (answer_of m.stage)

-- ---- masters

-- A code of which no direction is known yet is all zeros.
abbrev pub no_bits : List ℕ
no_bits = replicate code_bytes 0

-- A fresh master has sent no event.
unfoldable pub fresh_master : Master
fresh_master = record { stage = Fresh; passes = 0; code = no_bits; opened = None; previous = no_bits; last = None }

-- This is the same master in another stage.
unfoldable pub master_at_stage : Master → Stage → Master
master_at_stage m s =
    record { stage = s; passes = m.passes; code = m.code; opened = m.opened; previous = m.previous; last = m.last }

-- A fresh master comes only to these numbers: 8 bits of the command, 64 bits of a code, and fewer than 64 codes
-- completed while a pass goes on. A discrepancy needs no range, as it is only compared with, and an ended master does
-- not use its numbers.
unfoldable pub stage_in_range : Stage → ℕ → Bool
stage_in_range Fresh passes = true
stage_in_range Reset passes = ltb passes most_passes
stage_in_range (Command at) passes = ltb at command_bits && ltb passes most_passes
stage_in_range (FirstRead at) passes = ltb at code_bits && ltb passes most_passes
stage_in_range (SecondRead at first) passes = ltb at code_bits && ltb passes most_passes
stage_in_range (Direction at bit) passes = ltb at code_bits && ltb passes most_passes
stage_in_range (Ended e) passes = true

-- A master is in range if a fresh one can come to its numbers.
unfoldable pub master_in_range : Master → Bool
master_in_range m = stage_in_range m.stage m.passes

-- ---- the rules

-- No presence at the first reset ends the search, with no codes and no number; on a later pass it ends with 8.
unfoldable pub master_after_reset : Master → Bool → Master
master_after_reset m false = master_at_stage m (Command 0)
master_after_reset m true = master_at_stage m (Ended (cond (eqb m.passes 0) Done NoDevice))

-- After a bit of the command comes the next one, or the first read slot of bit 0.
unfoldable pub master_after_command : Master → ℕ → Master
master_after_command m at = master_at_stage m (cond (ltb at (command_bits - 1)) (Command (at + 1)) (FirstRead 0))

-- Where both read slots read 0, the direction is the previous code's bit before the last open discrepancy, 1 at it, and
-- 0 after it or where none is open.
unfoldable pub at_discrepancy : Option ℕ → List ℕ → ℕ → Bool
at_discrepancy None previous at = false
at_discrepancy (Some last) previous at = cond (ltb at last) (bit_at previous at) (eqb at last)

-- A direction is sent, and becomes the bit of this pass's code.
unfoldable pub send_direction : Master → ℕ → Bool → Option ℕ → Master
send_direction m at bit opened =
    record {
      stage = Direction at bit;
      passes = m.passes;
      code = put_bit m.code at bit;
      opened = opened;
      previous = m.previous;
      last = m.last;
    }

-- Where both read slots read 0 and 0 is sent, this discrepancy is open, and the last of the pass so far.
unfoldable pub open_after : Bool → ℕ → Option ℕ → Option ℕ
open_after true at opened = opened
open_after false at opened = Some at

-- The levels 0,1 of the two read slots give direction 0, and 1,0 give 1; 1,1 ends the search with 8.
unfoldable pub master_after_reads : Master → ℕ → Bool → Bool → Master
master_after_reads m at false true = send_direction m at false m.opened
master_after_reads m at true false = send_direction m at true m.opened
master_after_reads m at true true = master_at_stage m (Ended NoDevice)
master_after_reads m at false false =
    let bit = at_discrepancy m.last m.previous at in send_direction m at bit (open_after bit at m.opened)

-- A completed code and its last open discrepancy guide the next pass.
unfoldable pub pass_completed : Master → Stage → Master
pass_completed m s =
    record { stage = s; passes = m.passes + 1; code = no_bits; opened = None; previous = m.code; last = m.opened }

-- A search ends where no discrepancy is open, and ends with 10 after pass 64; else the next pass begins with a reset.
unfoldable pub stage_after_pass : Option ℕ → ℕ → Stage
stage_after_pass None passes = Ended Done
stage_after_pass (Some bit) passes = cond (ltb passes most_passes) Reset (Ended Unexplored)

-- A pass whose 64 bits fail the CRC ends the search with 9, and these are not among the completed codes.
unfoldable pub pass_end : Master → Master
pass_end m =
    cond (registration_check m.code) (pass_completed m (stage_after_pass m.opened (m.passes + 1)))
    (master_at_stage m (Ended WrongCrc))

-- After a direction comes the next bit, or the end of the pass.
unfoldable pub master_after_direction : Master → ℕ → Master
master_after_direction m at = cond (ltb at (code_bits - 1)) (master_at_stage m (FirstRead (at + 1))) (pass_end m)

-- ---- the step

-- A step is given the level of the event sent last; an ended master stays as it is.
unfoldable pub step_by_stage : Stage → Master → Bool → Master
step_by_stage Fresh m level = master_at_stage fresh_master Reset
step_by_stage Reset m level = master_after_reset m level
step_by_stage (Command at) m level = master_after_command m at
step_by_stage (FirstRead at) m level = master_at_stage m (SecondRead at level)
step_by_stage (SecondRead at first) m level = master_after_reads m at first level
step_by_stage (Direction at bit) m level = master_after_direction m at
step_by_stage (Ended e) m level = m

-- A master reads levels only after a reset and in the two read slots of each bit.
unfoldable pub reads_level : Stage → Bool
reads_level Fresh = false
reads_level Reset = true
reads_level (Command at) = false
reads_level (FirstRead at) = true
reads_level (SecondRead at first) = true
reads_level (Direction at bit) = false
reads_level (Ended e) = false

-- Our own ruling is that a master that no fresh one comes to counts as ended, with no number: document 01 has no such
-- master.
unfoldable pub master_after_level : Master → Bool → Master
master_after_level m level = cond (master_in_range m) (step_by_stage m.stage m level) (master_at_stage m (Ended Done))

-- This is the master that a step hands back, given one level; nonzero counts as 1.
abbrev pub next_master : Master → ℕ → Master
next_master m level = master_after_level m (not (eqb level 0))

-- A step returns the next master and its answer.
abbrev pub step_of : Master → ℕ → Step
step_of m level = record { answer = answer_of (next_master m level).stage; next = next_master m level }
