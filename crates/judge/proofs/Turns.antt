-- What the loops of `look` and `judge_events` keep from turn to turn, as their invariants say it. A line state that a
-- loop reads is `get_or` at a default of the compiler's choice.
use Rattle.std.proofs.Common.{◌≡◌, ℕ, suc, ◌+◌, ◌<◌, ◌≤◌, Bool, false, cond, List, length, take, get_or, refl, sym, ap, ◌∙◌, add-one, arith}
use Rattle.std.proofs.lemmas.List.{get_or_default, get_or-take, length-take-le}
use borrow.Author.Tests.{lt-ltb}
use Rattle.device.specs.declared.LineState.{LineState}
use Rattle.device.specs.Device.{waiting_state}
use Rattle.recording.specs.Recorded.{agrees_at, next_at}
use Rattle.bus.specs.declared.EventResult.{EventResult}
use Rattle.bus.specs.Loops.{line_at, level_on, scan_on, copied_on, step_on, event_result, BusState, bus_state, turns_up_to}
use Rattle.bus.proofs.Laws.{step-on}
use Rattle.judge.specs.declared.Seen.{Seen}
use Rattle.judge.specs.declared.Verdict.{Verdict}
use Rattle.judge.specs.Loops.{seen_with, at_memory, seen_up_to, verdict_next, still_looked_at}
use Rattle.judge.specs.Loops.{JudgeState, judge_state, judge_event_at, judge_events_up_to}
use Rattle.judge.proofs.Laws.{seen_few, rom-adds-nothing, still-enough}

-- ---- `look`

module _ (trace answers image : List ℕ) (lines : List LineState) (k i : ℕ) (seen : Seen)
    (so_far : seen ≡ seen_up_to trace answers image lines k i) where
  -- no more devices are at the memory command than were looked at
  pub look_room : i + 1 < 18446744073709551616 → seen.commands < 18446744073709551615
  look_room h = omega (arith, h, ap (λ (s : Seen). s.commands) so_far, seen_few trace answers image lines k i)

  seen_next : seen_up_to trace answers image lines k (i + 1)
      ≡ seen_with trace answers image k i (line_at lines i) (seen_up_to trace answers image lines k i)
  unfolding seen_up_to
  seen_next = rw add-one refl

  -- the device at place i is past the ROM stage, and is looked at
  pub look_done : (d : LineState) → i < length lines → (next : Seen)
      → next ≡ seen_with trace answers image k i (get_or lines i d) seen
      → next ≡ seen_up_to trace answers image lines k (i + 1)
  look_done d within next e =
      e ∙ ap (λ (l : LineState). seen_with trace answers image k i l seen) (get_or_default lines i d waiting_state within)
      ∙ ap (seen_with trace answers image k i (line_at lines i)) so_far
      ∙ sym seen_next

  -- it is in the ROM stage, and adds nothing
  pub look_rom : at_memory (line_at lines i).transfer.stage ≡ false → seen ≡ seen_up_to trace answers image lines k (i + 1)
  look_rom e =
      so_far ∙ sym (rom-adds-nothing trace answers image lines k i e) ∙ ap (seen_up_to trace answers image lines k) (sym (add-one i))

  -- the same of a device that the loop reads out of the first n lines
  module _ (n : ℕ) (d : LineState) (within : i < length (take n lines)) (few : n ≤ length lines) where
    below : (i < n) × (i < length lines)
    below = (omega (arith, within, length-take-le n lines few), omega (arith, within, few, length-take-le n lines few))

    read : get_or (take n lines) i d ≡ get_or lines i d
    read = get_or-take n lines i d below.0

    pub taken_done : (next : Seen) → next ≡ seen_with trace answers image k i (get_or (take n lines) i d) seen
        → next ≡ seen_up_to trace answers image lines k (i + 1)
    taken_done next e = look_done d below.1 next (e ∙ ap (λ (l : LineState). seen_with trace answers image k i l seen) read)

    pub taken_rom : at_memory (get_or (take n lines) i d).transfer.stage ≡ false → seen ≡ seen_up_to trace answers image lines k (i + 1)
    taken_rom e =
        look_rom (ap (λ (l : LineState). at_memory l.transfer.stage) (sym (read ∙ get_or_default lines i d waiting_state below.1)) ∙ e)

-- ---- `judge_events`

-- the reader's place after an event of the trace
pub place_next : (events k : ℕ) → k < events → next_at events k ≡ k + 1
unfolding next_at
place_next events k h = ap (λ (b : Bool). cond b (suc k) k) (lt-ltb k events h) ∙ sym (add-one k)

pub judged_next : (trace answers : List ℕ) (n k : ℕ) (s : JudgeState)
    → judge_events_up_to trace answers n (k + 1) s ≡ judge_event_at trace answers n k (judge_events_up_to trace answers n k s)
unfolding judge_events_up_to
judged_next trace answers n k s = rw add-one refl

-- an event that is looked at, and that `step` makes
module _ (trace answers : List ℕ) (n k : ℕ) (s : JudgeState) (verdict : Verdict) (work : List ℕ) (lines : List LineState)
    (so_far : judge_state verdict work lines ≡ judge_events_up_to trace answers n k s) (few : n ≤ length lines)
    (byte : ℕ) (byte_is : byte ≡ get_or trace k 0) (looked : ℕ) (looked_is : looked ≡ still_looked_at verdict n)
    (seen : Seen) (seen_is : seen ≡ seen_up_to trace answers work lines k looked) (result : EventResult)
    (result_is : result ≡ event_result (scan_on lines n byte) (copied_on n byte (bus_state work lines)))
    (agrees : Bool) (agrees_is : agrees ≡ agrees_at trace answers k result.level) where
  level_here : result.level ≡ level_on lines n (get_or trace k 0)
  unfolding scan_on
  level_here = ap (λ (r : EventResult). r.level) result_is ∙ ap (level_on lines n) byte_is

  verdict_after : (next : Verdict) → next ≡ verdict_next verdict agrees seen k
      → next ≡ verdict_next verdict (agrees_at trace answers k (level_on lines n (get_or trace k 0))) (seen_up_to trace answers work lines k n) k
  verdict_after next e =
      e ∙ ap (λ (b : Bool). verdict_next verdict b seen k) (agrees_is ∙ ap (agrees_at trace answers k) level_here)
      ∙ ap (λ (x : Seen). verdict_next verdict (agrees_at trace answers k (level_on lines n (get_or trace k 0))) x k)
      (seen_is ∙ ap (seen_up_to trace answers work lines k) looked_is)
      ∙ still-enough trace answers work lines k n verdict (agrees_at trace answers k (level_on lines n (get_or trace k 0)))

  left_after : step_on n byte (bus_state work lines)
      ≡ turns_up_to (get_or trace k 0) (level_on lines n (get_or trace k 0)) n (bus_state work lines)
  left_after =
      ap (λ (b : ℕ). step_on n b (bus_state work lines)) byte_is ∙ step-on n (get_or trace k 0) (bus_state work lines) few

  pub event_judged : (next : Verdict) → next ≡ verdict_next verdict agrees seen k
      → (left : List ℕ) → left ≡ (step_on n byte (bus_state work lines)).image
      → (xs : List LineState) → xs ≡ (step_on n byte (bus_state work lines)).lines
      → judge_state next left xs ≡ judge_events_up_to trace answers n (k + 1) s
  unfolding judge_event_at
  event_judged next v left e xs g =
      (λ i. judge_state (verdict_after next v i) ((e ∙ ap (λ (u : BusState). u.image) left_after) i)
      ((g ∙ ap (λ (u : BusState). u.lines) left_after) i))
      ∙ ap (judge_event_at trace answers n k) so_far
      ∙ sym (judged_next trace answers n k s)
