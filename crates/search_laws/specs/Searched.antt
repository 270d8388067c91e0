-- Document 01, 'The searching master', is stated here as demand 3: one claim about the whole search.
use Rattle.std.specs.Prelude.{ℕ, zero, suc, ◌*◌, ◌<◌, ◌≤◌, ◌≡◌, List, [], ◌∷◌, ◌++◌, length, get_or, take, drop}
use Rattle.image.specs.Image.{count_of, code_at}
use Rattle.master.specs.Master.{code_bytes, event, end, reset_event, fresh_master, master_answer, next_master}
use Rattle.master.specs.Drive.{started_master, master_after_levels, events_from, codes_from, pass_events}
use Rattle.bus.specs.Bus.{Run, run_trace}
use Rattle.device.specs.declared.LineState.{LineState}
use Rattle.bus.specs.Run.{waiting_devices, states_of, run_result, run_outcome, run_of}
use Rattle.search_laws.specs.Search.{Search}
use Rattle.search_laws.specs.Words.{Valid, Precedes, code_written, resets_in, slots_in, passes_in, Passes, pass_codes}

-- The run of a trace begins with the same image and every device waiting.
abbrev pub run_on : List ℕ → List ℕ → Run
run_on image trace = run_trace trace (waiting_devices image)

-- The trace of a search of n devices is n passes, or with n = 0 one reset.
abbrev pub TraceOf : ℕ → List ℕ → Type 0
TraceOf zero trace = trace ≡ reset_event ∷ []
TraceOf (suc n) trace = Passes (suc n) trace

-- A search of n devices has 201n events and n resets, or with n = 0 one event, which is a reset.
abbrev pub events_for : ℕ → ℕ
events_for zero = 1
events_for (suc n) = pass_events * suc n

abbrev pub resets_for : ℕ → ℕ
resets_for zero = 1
resets_for (suc n) = suc n

-- These are the facts of the whole search `s` of an image: of its trace, the levels that the master saw, and the codes
-- written.
pub record Searched (image : List ℕ) (s : Search) : Type 0 where
  -- The first step answers the reset, whatever its level, and hands back the same master for each level.
  pub first : (level : ℕ) → (next_master fresh_master level ≡ started_master)
      × (master_answer started_master ≡ event (get_or s.trace 0 0))
  -- Each later step is given the master that the last one handed back, and the level answered to the event just sent.
  pub next : (i : ℕ) → suc i < length s.trace
      → master_answer (next_master (master_after_levels started_master (take i s.levels)) (get_or s.levels i 0))
      ≡ event (get_or s.trace (suc i) 0)
  -- The step given the last level answers the end, with no number, and hands back the master that is left.
  pub last : (i : ℕ) → suc i ≡ length s.trace
      → master_answer (next_master (master_after_levels started_master (take i s.levels)) (get_or s.levels i 0)) ≡ end 0
  pub handed-back : master_after_levels started_master s.levels ≡ s.master
  pub ended : master_answer s.master ≡ end 0
  -- The levels that the master saw are the answers of the run of the trace on the same image, one for each event.
  pub seen : s.levels ≡ (run_on image s.trace).answers
  pub seen_size : length s.levels ≡ length s.trace
  -- The run of the trace leaves the devices as the search did.
  pub left : s.devices ≡ (run_on image s.trace).devices
  -- With the room that refusal 7 asks for, the run of the trace is not refused, copies nothing, answers just these
  -- levels and leaves the image as it was.
  pub replayed : (answers : List ℕ) (lines : List LineState) → length s.trace ≤ length answers
      → count_of image ≤ length lines
      → run_of image s.trace answers lines
      ≡ run_outcome (run_result 0 0) image (s.levels ++ drop (length s.trace) answers)
      (states_of s.devices ++ drop (count_of image) lines)
  -- The trace is n passes, or with n = 0 one reset.
  pub shape : TraceOf (count_of image) s.trace
  pub events : length s.trace ≡ events_for (count_of image)
  -- The codes written are those of the passes, in their order, and there are n of them.
  pub written : s.codes ≡ pass_codes s.trace
  pub size : length s.codes ≡ code_bytes * count_of image
  -- Every device's code is found and valid, no other is found, none is found twice, and each comes before the next.
  pub complete : (i : ℕ) → i < count_of image → (k : ℕ) × (k < count_of image)
      × (code_written s.codes k ≡ code_at image i)
  pub valid : (i : ℕ) → i < count_of image → Valid image i
  pub sound : (k : ℕ) → k < count_of image → (i : ℕ) × (i < count_of image) × (code_written s.codes k ≡ code_at image i)
  pub once : (j k : ℕ) → j < k → k < count_of image → code_written s.codes j ≡ code_written s.codes k → ⊥
  pub order : (j k : ℕ) → j < k → k < count_of image → Precedes (code_written s.codes j) (code_written s.codes k)
  -- The passes, resets and slots counted in the trace are n, n and 200n; with n = 0 they are 0, 1 and 0.
  pub passes : passes_in s.trace ≡ count_of image
  pub resets : resets_in s.trace ≡ resets_for (count_of image)
  pub slots : slots_in s.trace ≡ 200 * count_of image
  -- A fresh master that is driven with the answers sends the trace again, then ends with no number and with the same
  -- codes, which are those of its passes.
  pub again : events_from started_master (run_on image s.trace).answers ≡ s.trace
  pub again-ends : master_answer (master_after_levels started_master (run_on image s.trace).answers) ≡ end 0
  pub again-codes : codes_from started_master (run_on image s.trace).answers ≡ s.codes
  pub again-written : codes_from started_master (run_on image s.trace).answers
      ≡ pass_codes (events_from started_master (run_on image s.trace).answers)
