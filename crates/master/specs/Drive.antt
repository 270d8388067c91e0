-- Document 01, 'The searching master' and refusals 8 to 10, is stated here for a fresh master that is driven with
-- recorded levels, each that of the event just sent. A call for it, the room that it asks for and its refusal 7 are our
-- own: document 01's 7 is one of the run and the search.
use Rattle.std.specs.Prelude.{ℕ, ◌+◌, ◌*◌, ◌/◌, min, Bool, cond, ◌||◌, List, [], ◌∷◌, ◌++◌, length, drop, ltb}
use Rattle.std.proofs.Math.Option.{Option, none, some}
use Rattle.master.specs.declared.Answer.{Answer}
use Rattle.master.specs.declared.driving.Outcome.{Outcome}
use Rattle.master.specs.declared.driving.Outcome.TheVariants.{Refused, Ended, Unfinished}
use Rattle.master.specs.declared.Master.{Master}
use Rattle.master.specs.declared.driving.Driven.{Driven}
use Rattle.master.specs.Master.{command_bits, code_bits, code_bytes, most_passes, AnswerValue, event, end, end_number}
use Rattle.master.specs.Master.{answer_of, master_answer, fresh_master, next_master}

-- ---- the master stepped

-- The first step answers the reset, whatever its level.
abbrev pub started_master : Master
started_master = next_master fresh_master 0

-- This is the master after these levels; an ended one stays as it is.
unfoldable pub master_after_levels : Master → List ℕ → Master
master_after_levels m [] = m
master_after_levels m (level ∷ levels) = master_after_levels (next_master m level) levels

-- An event is sent, and the later ones follow it; an end sends nothing.
unfoldable pub event_then : AnswerValue → List ℕ → List ℕ
event_then (event e) later = e ∷ later
event_then (end number) later = []

-- The events sent are the master's answer now, then its answer after each level, up to its end.
unfoldable pub events_from : Master → List ℕ → List ℕ
events_from m [] = event_then (master_answer m) []
events_from m (level ∷ levels) = event_then (master_answer m) (events_from (next_master m level) levels)

-- A step that completes a code hands it up; `before` codes were completed before the step.
unfoldable pub code_completed : ℕ → Master → List ℕ
code_completed before m = cond (ltb before m.passes) m.previous []

-- These are the bytes of the codes completed, in their order.
unfoldable pub codes_from : Master → List ℕ → List ℕ
codes_from m [] = []
codes_from m (level ∷ levels) = code_completed m.passes (next_master m level) ++ codes_from (next_master m level) levels

-- ---- the room

-- A pass is a reset and the 200 slots after it.
abbrev pub pass_events : ℕ
pass_events = 1 + command_bits + 3 * code_bits

-- A master sends one event, and one more for each level, up to the end of the last pass.
unfoldable pub drive_trace_room : ℕ → ℕ
drive_trace_room levels = min (levels + 1) (most_passes * pass_events)

-- A master completes at most one code for each pass that the levels are enough for.
unfoldable pub drive_code_room : ℕ → ℕ
drive_code_room levels = code_bytes * min (levels / pass_events) most_passes

-- Our own cause 7 is too little room for the trace or for the codes.
unfoldable pub no_drive_room : List ℕ → List ℕ → List ℕ → Bool
no_drive_room levels trace codes =
    ltb (length trace) (drive_trace_room (length levels)) || ltb (length codes) (drive_code_room (length levels))

-- ---- the drive

-- A master whose last answer is an event has not finished.
unfoldable pub outcome_of : Answer → Outcome
outcome_of (Answer.Event byte) = Unfinished
outcome_of (Answer.End e) = Ended e

-- A drive that is not refused gives its outcome, and how many events were sent and codes completed.
abbrev pub driven : List ℕ → Driven
driven levels = record {
  outcome = outcome_of (answer_of (master_after_levels started_master levels).stage);
  events = length (events_from started_master levels);
  codes = (master_after_levels started_master levels).passes;
}

-- A refused drive gives only its number.
abbrev pub drive_refused : Driven
drive_refused = record { outcome = Refused; events = 0; codes = 0 }

-- A drive is refused where there is too little room.
unfoldable pub drive_result : List ℕ → List ℕ → List ℕ → Driven
drive_result levels trace codes = cond (no_drive_room levels trace codes) drive_refused (driven levels)

-- The number of an outcome is 7, which is our own, or document 01's number of the master's end. An unfinished drive has
-- none.
unfoldable pub outcome_number : Outcome → Option ℕ
outcome_number Refused = some 7
outcome_number (Ended e) = some (end_number e)
outcome_number Unfinished = none

-- Only a master's end has a number.
unfoldable pub answer_number : AnswerValue → Option ℕ
answer_number (event e) = none
answer_number (end number) = some number

-- This is the number of a drive, by the room and by the master's last answer.
unfoldable pub drive_number : List ℕ → List ℕ → List ℕ → Option ℕ
drive_number levels trace codes =
    cond (no_drive_room levels trace codes) (some 7)
    (answer_number (master_answer (master_after_levels started_master levels)))

-- The bytes are written to the front of a buffer, and those past them stay as they were.
abbrev pub written_over : List ℕ → List ℕ → List ℕ
written_over bytes buffer = bytes ++ drop (length bytes) buffer

-- A drive that is not refused leaves the trace and the codes in the two buffers.
unfoldable pub trace_after_drive : List ℕ → List ℕ → List ℕ → List ℕ
trace_after_drive levels trace codes =
    cond (no_drive_room levels trace codes) trace (written_over (events_from started_master levels) trace)

unfoldable pub codes_after_drive : List ℕ → List ℕ → List ℕ → List ℕ
codes_after_drive levels trace codes =
    cond (no_drive_room levels trace codes) codes (written_over (codes_from started_master levels) codes)
