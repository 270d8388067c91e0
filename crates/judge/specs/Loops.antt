-- Nothing here is from document 02. These definitions say what the functions of `src/` below `judge` do, for any image,
-- recording and line states, with each loop's state by recursion on how many turns it has made. Where the recording is
-- not refused, this is what `Rules.antt` and `Judge.antt` say (`proofs/Shown.antt`).
use Rattle.std.specs.Prelude.{ℕ, zero, suc, ◌+◌, ◌-◌, ◌*◌, Bool, true, false, not, cond, ◌&&◌, ◌||◌, List, get_or}
use Rattle.std.specs.Prelude.{take, drop, eqb, ltb}
use Rattle.std.specs.Bool.{beq}
use Rattle.bits.specs.Bit.{bit_at}
use Rattle.kind.specs.declared.Kind.{Kind}
use Rattle.kind.specs.Kind.{ta1, scratchpad}
use Rattle.line.specs.declared.SramStage.{SramStage}
use Rattle.line.specs.declared.SramStage.TheVariants as srams
use Rattle.line.specs.declared.MemoryStage.{MemoryStage}
use Rattle.line.specs.declared.MemoryStage.TheVariants as memories
use Rattle.line.specs.declared.Stage.{Stage}
use Rattle.line.specs.declared.Stage.TheVariants.{Rom, Memory}
use Rattle.line.specs.Transfers.{waiting, goes_on, received}
use Rattle.sram.specs.Sram.{target_offset, ending_offset, pattern_same}
use Rattle.device.specs.declared.LineState.{LineState}
use Rattle.device.specs.Device.{line_state, waiting_state, reset_at, state_after_slot_as_is}
use Rattle.recording.specs.Recorded.{agrees_at, level_at}
use Rattle.bus.specs.declared.Place.{Place}
use Rattle.bus.specs.Bus.{device_with, event_of, hears, is_slot, is_overdrive}
use Rattle.bus.specs.Loops.{place_in, next_state_as_is, line_at, level_on, bus_state, turns_up_to}
use Rattle.judge.specs.declared.Rule.{Rule}
use Rattle.judge.specs.declared.Rule.TheVariants as rules
use Rattle.judge.specs.declared.Verdict.{Verdict}
use Rattle.judge.specs.declared.Verdict.TheVariants.{Accepted, Broken, Refused}
use Rattle.judge.specs.declared.Doing.{Doing}
use Rattle.judge.specs.declared.Doing.TheVariants.{Command, Address, Pattern, Other}
use Rattle.judge.specs.declared.Mark.{Mark}
use Rattle.judge.specs.declared.Mark.TheVariants.{Unmarked, Wrote, Reads}
use Rattle.judge.specs.declared.Part.{Part}
use Rattle.judge.specs.declared.Back.{Back}
use Rattle.judge.specs.declared.Seen.{Seen}

-- ---- one device at one event

-- What a device does in a stage, as far as the rules look at it.
unfoldable pub sram_doing : SramStage → Doing
sram_doing srams.WriteLow = Other
sram_doing (srams.WriteHigh low) = Address
sram_doing (srams.WriteData offset bit) = Other
sram_doing (srams.ReadRegister at) = Other
sram_doing (srams.ReadScratchpad offset) = Other
sram_doing (srams.CopyPattern at same) = Pattern at same
sram_doing srams.Copied = Other
sram_doing srams.ReadLow = Other
sram_doing (srams.ReadHigh low) = Other
sram_doing (srams.ReadMemory low high) = Other

unfoldable pub memory_doing : MemoryStage → Doing
memory_doing memories.Command = Command
memory_doing (memories.Sram s) = sram_doing s
memory_doing (memories.Eprom e) = Other

unfoldable pub doing_of : Stage → Doing
doing_of (Rom r) = Other
doing_of (Memory m) = memory_doing m

-- ---- one device at one event of a recording, by value

-- Event k of a trace at its recorded level leaves a device in this line state.
unfoldable pub line_next : List ℕ → List ℕ → Kind → List ℕ → ℕ → LineState → LineState
line_next trace answers kind body k state =
    next_state_as_is (event_of (get_or trace k 0)) (level_at answers k) (device_with kind body state)

-- The event of a byte is a slot that a device hears, which is at overdrive or not.
unfoldable pub slot_at : ℕ → Bool → Bool
slot_at byte overdrive = is_slot (event_of byte) && hears (event_of byte) (line_state waiting overdrive)

-- A device at regular speed passes over what comes at overdrive.
unfoldable pub passed_at : ℕ → Bool → Bool
passed_at byte overdrive = is_overdrive (event_of byte) && not (hears (event_of byte) (line_state waiting overdrive))

-- A slot at the device's own speed is one step of it; of the others a regular one makes it wait.
unfoldable pub after_slot_at : LineState → Kind → List ℕ → Bool → Bool → LineState
after_slot_at state kind body overdrive level =
    cond (beq state.overdrive overdrive) (state_after_slot_as_is state kind body level)
    (cond overdrive state waiting_state)

-- An event is marked if a memory command AAh completes in it, which begins a read, or if a write has its last address
-- bit in it.
unfoldable pub mark_by : Doing → Bool → ℕ → Mark
mark_by Command last value = cond (last && eqb value 0xAA) Reads Unmarked
mark_by Address last value = cond last Wrote Unmarked
mark_by (Pattern at same) last value = Unmarked
mark_by Other last value = Unmarked

unfoldable pub mark_of : LineState → ℕ → Bool → Mark
mark_of state byte level =
    mark_by (doing_of state.transfer.stage) (slot_at byte state.overdrive && not (goes_on state.transfer))
    (received state.transfer level)

-- ---- what a read showed

unfoldable pub wanted_bytes : List ℕ → ℕ
wanted_bytes body = ending_offset body + 1 - target_offset body

-- Of the bits that a read is to show, the first 24 are those of the registers, and the others those of the bytes.
unfoldable pub wanted_bit : List ℕ → ℕ → Bool
wanted_bit body at =
    cond (ltb at 24) (bit_at body (8 * ta1 + at)) (bit_at body (8 * (scratchpad + target_offset body) + (at - 24)))

-- From event k on, with so many events left, the bits from one on are shown, so many of which are due.
unfoldable pub shown_from : List ℕ → List ℕ → List ℕ → Bool → ℕ → ℕ → ℕ → ℕ → Bool
shown_from trace answers body overdrive at zero k left = true
shown_from trace answers body overdrive at (suc due) k zero = false
shown_from trace answers body overdrive at (suc due) k (suc left) =
    cond (slot_at (get_or trace k 0) overdrive)
    (beq (level_at answers k) (wanted_bit body at)
    && shown_from trace answers body overdrive (suc at) due (suc k) left)
    (passed_at (get_or trace k 0) overdrive
    && shown_from trace answers body overdrive at (suc due) (suc k) left)

-- A read goes on in event k with bit `at`.
unfoldable pub goes_on_at : List ℕ → List ℕ → List ℕ → Bool → ℕ → ℕ → Bool
goes_on_at trace answers body overdrive k at =
    cond (slot_at (get_or trace k 0) overdrive) (beq (level_at answers k) (wanted_bit body at))
    (passed_at (get_or trace k 0) overdrive)

unfoldable pub bits_in : ℕ → Bool → ℕ
bits_in byte overdrive = cond (slot_at byte overdrive) 1 0

-- A read whose command completed in the event before k showed the registers, then the bytes, before event `end`.
unfoldable pub read_shown : List ℕ → List ℕ → List ℕ → Bool → ℕ → ℕ → Bool
read_shown trace answers body overdrive end k =
    shown_from trace answers body overdrive 0 (24 + 8 * wanted_bytes body) k (end - k)

-- ---- the reads and writes of a device in a part of the trace

abbrev pub part_so : Bool → Bool → Part
part_so wrote shown = record { wrote = wrote; shown = shown }

unfoldable pub part_by : List ℕ → List ℕ → List ℕ → Bool → ℕ → ℕ → Part → Mark → Part
part_by trace answers body overdrive end k part Unmarked = part
part_by trace answers body overdrive end k part Wrote = part_so true false
part_by trace answers body overdrive end k part Reads =
    part_so part.wrote (part.shown || read_shown trace answers body overdrive end (k + 1))

unfoldable pub part_at : List ℕ → List ℕ → List ℕ → ℕ → ℕ → LineState → Part → Part
part_at trace answers body end k state part =
    part_by trace answers body state.overdrive end k part (mark_of state (get_or trace k 0) (level_at answers k))

-- The next `left` events, from event k on, leave this part.
unfoldable pub part_over : List ℕ → List ℕ → Kind → List ℕ → ℕ → LineState → Part → ℕ → ℕ → Part
part_over trace answers kind body end state part k zero = part
part_over trace answers kind body end state part k (suc left) =
    part_over trace answers kind body end (line_next trace answers kind body k state)
    (part_at trace answers body end k state part) (suc k) left

-- ---- the walk back from a copy

abbrev pub back_to : ℕ → Bool → Bool → Bool → Back
back_to end shown decided overdrive =
    record { end = end; shown = shown; decided = decided; overdrive = overdrive }

-- A device that is known to be at overdrive after the event of a byte is known to be so before it, if one at regular
-- speed passes over the event.
unfoldable pub overdrive_before : ℕ → Bool → Bool
overdrive_before byte overdrive = passed_at byte false && overdrive

-- A regular reset begins a part, and so does an overdrive reset after which the device is known to be at overdrive.
unfoldable pub begins_part : ℕ → Bool → Bool
begins_part byte overdrive = eqb byte 2 || eqb byte 6 && overdrive

unfoldable pub back_by : ℕ → Back → Bool → Part → Back
back_by j back overdrive part = back_to j (back.shown || part.shown) part.wrote overdrive

unfoldable pub back_over : Back → Bool → Back
back_over back overdrive = back_to back.end back.shown back.decided overdrive

-- A part begins at the speed of its reset, and ends before event `end`.
unfoldable pub part_from : List ℕ → List ℕ → Kind → List ℕ → ℕ → ℕ → Part
part_from trace answers kind body end j =
    part_over trace answers kind body end (reset_at (eqb (get_or trace j 0) 6)) (part_so false false) (suc j)
    (end - suc j)

-- Event j is looked at.
unfoldable pub back_at : List ℕ → List ℕ → Kind → List ℕ → ℕ → Back → Back
back_at trace answers kind body j back =
    let before = overdrive_before (get_or trace j 0) back.overdrive in
    cond (begins_part (get_or trace j 0) back.overdrive)
    (back_by j back before (part_from trace answers kind body back.end j))
    (back_over back before)

unfoldable pub back_from : List ℕ → List ℕ → Kind → List ℕ → ℕ → Back → Back
back_from trace answers kind body zero back = back
back_from trace answers kind body (suc j) back =
    cond back.decided back (back_from trace answers kind body j (back_at trace answers kind body j back))

unfoldable pub careful_by : Back → Bool
careful_by back = back.decided && back.shown

-- The device, which accepts a copy in event k, is at overdrive there or not.
unfoldable pub careful_at : List ℕ → List ℕ → Kind → List ℕ → Bool → ℕ → Bool
careful_at trace answers kind body overdrive k =
    careful_by (back_from trace answers kind body k (back_to k false false overdrive))

-- ---- one event on all devices

abbrev pub seen_so : ℕ → Bool → Bool → Seen
seen_so commands completed careless =
    record { commands = commands; completed = completed; careless = careless }

abbrev pub nothing_seen : Seen
nothing_seen = seen_so 0 false false

-- A pattern of three bytes is accepted with its last byte.
unfoldable pub pattern_accepted : ℕ → Bool → ℕ → List ℕ → Bool
pattern_accepted at same value body = not (ltb at 2) && pattern_same at same value body

abbrev pub body_in : List ℕ → Place → List ℕ
body_in image place = take (place.end - place.start) (drop place.start image)

unfoldable pub careless_at : List ℕ → List ℕ → List ℕ → Place → Bool → ℕ → ℕ → Bool → ℕ → Bool
careless_at trace answers image place overdrive k at same value =
    pattern_accepted at same value (body_in image place)
    && not (careful_at trace answers place.kind (body_in image place) overdrive k)

unfoldable pub seen_by : Doing → Bool → ℕ → (ℕ → Bool → Bool) → Seen → Seen
seen_by Command last value careless seen =
    seen_so (seen.commands + 1) (seen.completed || last && (eqb value 0x0F || eqb value 0x55)) seen.careless
seen_by Address last value careless seen = seen
seen_by (Pattern at same) last value careless seen =
    seen_so seen.commands seen.completed (seen.careless || last && careless at same)
seen_by Other last value careless seen = seen

-- Device i is looked at, in event k.
unfoldable pub seen_with : List ℕ → List ℕ → List ℕ → ℕ → ℕ → LineState → Seen → Seen
seen_with trace answers image k i state seen =
    let value = received state.transfer (level_at answers k) in
    let last = slot_at (get_or trace k 0) state.overdrive && not (goes_on state.transfer) in
    seen_by (doing_of state.transfer.stage) last value
    (λ at same. careless_at trace answers image (place_in image i) state.overdrive k at same value) seen

-- The device is past the ROM stage; the rules look at no other.
unfoldable pub at_memory : Stage → Bool
at_memory (Rom r) = false
at_memory (Memory m) = true

unfoldable pub seen_up_to : List ℕ → List ℕ → List ℕ → List LineState → ℕ → ℕ → Seen
seen_up_to trace answers image lines k zero = nothing_seen
seen_up_to trace answers image lines k (suc i) =
    seen_with trace answers image k i (line_at lines i) (seen_up_to trace answers image lines k i)

-- ---- the verdict so far

-- The verdict where the answer of event k is as recorded and no rule was broken before.
unfoldable pub verdict_here : Seen → ℕ → Verdict
verdict_here seen k =
    cond (ltb 1 seen.commands && seen.completed) (Broken rules.Command k)
    (cond seen.careless (Broken rules.Copy k) Accepted)

unfoldable pub verdict_kept : Rule → ℕ → Bool → ℕ → Verdict
verdict_kept rules.Answers event agrees k = Broken rules.Answers event
verdict_kept rules.Command event agrees k = cond agrees (Broken rules.Command event) (Broken rules.Answers k)
verdict_kept rules.Copy event agrees k = cond agrees (Broken rules.Copy event) (Broken rules.Answers k)

unfoldable pub verdict_next : Verdict → Bool → Seen → ℕ → Verdict
verdict_next Accepted agrees seen k = cond agrees (verdict_here seen k) (Broken rules.Answers k)
verdict_next (Broken rule event) agrees seen k = verdict_kept rule event agrees k
verdict_next (Refused number) agrees seen k = Refused number

-- So many of n devices are still looked at. Once a rule is broken only a later A changes the verdict, and what is seen
-- of the devices has no part in that.
unfoldable pub still_looked_at : Verdict → ℕ → ℕ
still_looked_at Accepted n = n
still_looked_at (Broken rule event) n = 0
still_looked_at (Refused number) n = 0

-- ---- a trace

-- Verdict, work space and line states change together: `judge_event_at` is event k of a recording on n devices, and
-- `judge_events_up_to` are the first k events.
pub record JudgeState : Type 0 where
  pub verdict : Verdict
  pub work : List ℕ
  pub lines : List LineState

abbrev pub judge_state : Verdict → List ℕ → List LineState → JudgeState
judge_state verdict work lines = record { verdict = verdict; work = work; lines = lines }

unfoldable pub judge_event_at : List ℕ → List ℕ → ℕ → ℕ → JudgeState → JudgeState
judge_event_at trace answers n k s =
    let byte = get_or trace k 0 in
    let level = level_on s.lines n byte in
    let after = turns_up_to byte level n (bus_state s.work s.lines) in
    let seen = seen_up_to trace answers s.work s.lines k n in
    judge_state (verdict_next s.verdict (agrees_at trace answers k level) seen k)
    after.image after.lines

unfoldable pub judge_events_up_to : List ℕ → List ℕ → ℕ → ℕ → JudgeState → JudgeState
judge_events_up_to trace answers n zero s = s
judge_events_up_to trace answers n (suc k) s = judge_event_at trace answers n k (judge_events_up_to trace answers n k s)
