-- The loop of `step_levels`: the master `m` has given the answer `a` after i levels, and what is left gives what the whole does.
-- Assumes nothing.
use Prim.Native.Nat.{ℕ, suc, ◌+◌, ◌*◌, ◌≤◌, ◌<◌}
use mathlib.Core.Path.{◌≡◌, refl, sym, ap, ◌∙◌}
use mathlib.Core.Bool.{true, false, not}
use mathlib.Core.List.{List, []}
use native.Mathlib.Numerals.{add-one}
use native.Mathlib.Omega.{arith}
use lib.ListN.{length, get_or, drop, set, drop_of_length-le}
use lib.Seq.{sets, drop-cons}
use lib.Dec.{eqb}
use Rattle.master.specs.declared.End.{End}
use Rattle.master.specs.declared.Answer.{Answer}
use Rattle.master.specs.declared.driving.Outcome.{Outcome}
use Rattle.master.specs.declared.driving.Driven.{Driven}
use Rattle.master.specs.declared.Master.{Master}
use Rattle.master.specs.Master.{event, end, end_number, answer_value, answer_of, master_answer, next_master}
use Rattle.master.specs.Drive.{started_master, event_then, events_from, code_completed, codes_from, master_after_levels, outcome_of, driven, drive_refused, drive_result, outcome_number, answer_number, drive_number, drive_trace_room, drive_code_room, no_drive_room, trace_after_drive, codes_after_drive}
use Rattle.master.proofs.Clock.{Reached, reached-on, reached-started, started-passes, completed-size}
use Rattle.master.proofs.Drives.{ended-last, ended-events, ended-codes, events-fit, codes-fit}
use Rattle.master.proofs.Stores.{store-append, store-front}

pub record Feeding (levels trace₀ codes₀ : List ℕ) (a : Answer) (m : Master) (i : ℕ) (trace codes : List ℕ) : Type 0 where
  pub answered : a ≡ answer_of m.stage
  pub reached : Reached m i
  pub final : master_after_levels m (drop i levels) ≡ master_after_levels started_master levels
  pub events : i + length (events_from m (drop i levels)) ≡ length (events_from started_master levels)
  pub traced : sets trace i (events_from m (drop i levels)) ≡ sets trace₀ 0 (events_from started_master levels)
  pub stored : sets codes (8 * m.passes) (codes_from m (drop i levels)) ≡ sets codes₀ 0 (codes_from started_master levels)

pub stepping-start : (levels trace codes : List ℕ) (a : Answer) → a ≡ answer_of started_master.stage → Feeding levels trace codes a started_master 0 trace codes
stepping-start levels trace codes a h = record {
  answered = h;
  reached = reached-started;
  final = refl;
  events = omega arith;
  traced = refl;
  stored = rw started-passes;
}

module _ {levels trace₀ codes₀ trace codes : List ℕ} {m : Master} {i : ℕ} where
  -- an event is sent, and its level is given
  feeding-next : {e : ℕ} (b : Answer) → Feeding levels trace₀ codes₀ (Answer.Event e) m i trace codes → i < length levels
      → b ≡ answer_of (next_master m (get_or levels i 0)).stage
      → Feeding levels trace₀ codes₀ b (next_master m (get_or levels i 0)) (i + 1) (set trace i e)
      (sets codes (8 * m.passes) (code_completed m.passes (next_master m (get_or levels i 0))))
  unfolding answer_value master_after_levels events_from codes_from event_then
  feeding-next {e} b f h s =
      let level = get_or levels i 0 in
      let d = drop-cons levels i 0 h in
      let n = next_master m level in
      let size = completed-size f.reached (not (eqb level 0)) in
      let says-e : master_answer m ≡ event e = ap answer_value (sym f.answered) in
      record {
        answered = s;
        reached = rw add-one (reached-on f.reached (not (eqb level 0)));
        final = rw add-one (rw d at f.final);
        events = rw add-one (let left = rw (d, says-e) at f.events in omega arith);
        traced = rw add-one (rw (d, says-e) at f.traced);
        stored = rw add-one (ap (λ (k : ℕ). sets (sets codes (8 * m.passes) (code_completed m.passes n)) k (codes_from n (drop (suc i) levels))) (sym size)
            ∙ sym (store-append codes (code_completed m.passes n) (codes_from n (drop (suc i) levels)) (8 * m.passes))
            ∙ rw d at f.stored);
      }

  pub feeding-on : {e : ℕ} {n : Master} {trace' codes' : List ℕ} (b : Answer) → Feeding levels trace₀ codes₀ (Answer.Event e) m i trace codes → i < length levels
      → n ≡ next_master m (get_or levels i 0)
      → b ≡ answer_of (next_master m (get_or levels i 0)).stage
      → trace' ≡ set trace i e
      → codes' ≡ sets codes (8 * m.passes) (code_completed m.passes n)
      → Feeding levels trace₀ codes₀ b n (i + 1) trace' codes'
  feeding-on b f h next s sent-e kept = rw (sent-e, kept, next) (feeding-next b f h s)

  -- the master has ended
  pub feeding-ended : (x : End) → Feeding levels trace₀ codes₀ (Answer.End x) m i trace codes
      → (record { outcome = Outcome.Ended x; events = i; codes = m.passes } ≡ driven levels)
      × (trace ≡ sets trace₀ 0 (events_from started_master levels))
      × (codes ≡ sets codes₀ 0 (codes_from started_master levels))
  unfolding answer_value outcome_of
  feeding-ended x f =
      let rest = drop i levels in
      let ends : master_answer m ≡ end (end_number x) = ap answer_value (sym f.answered) in
      let same : m ≡ master_after_levels started_master levels = sym (ended-last m (end_number x) rest ends) ∙ f.final in
      let no-event = ended-events m (end_number x) rest ends in
      let outcome : Outcome.Ended x ≡ (driven levels).outcome = ap outcome_of f.answered ∙ ap (λ (n : Master). outcome_of (answer_of n.stage)) same in
      let events : i ≡ (driven levels).events = let left = rw no-event at f.events in omega arith in
      let completed : m.passes ≡ (driven levels).codes = ap (λ (n : Master). n.passes) same in
      (λ j. record { outcome = outcome j; events = events j; codes = completed j }, rw no-event at f.traced, rw (ended-codes m (end_number x) rest ends) at f.stored)

  -- the levels are used up
  pub feeding-used : {e : ℕ} → Feeding levels trace₀ codes₀ (Answer.Event e) m i trace codes → length levels ≤ i
      → (record { outcome = Outcome.Unfinished; events = i + 1; codes = m.passes } ≡ driven levels)
      × (set trace i e ≡ sets trace₀ 0 (events_from started_master levels))
      × (codes ≡ sets codes₀ 0 (codes_from started_master levels))
  unfolding answer_value outcome_of master_after_levels events_from codes_from event_then
  feeding-used {e} f h =
      let used : drop i levels ≡ [] = drop_of_length-le levels h in
      let sends : master_answer m ≡ event e = ap answer_value (sym f.answered) in
      let same : m ≡ master_after_levels started_master levels = rw used at f.final in
      let outcome : Outcome.Unfinished ≡ (driven levels).outcome = ap outcome_of f.answered ∙ ap (λ (n : Master). outcome_of (answer_of n.stage)) same in
      let events : i + 1 ≡ (driven levels).events = let left = rw (used, sends) at f.events in omega arith in
      let completed : m.passes ≡ (driven levels).codes = ap (λ (n : Master). n.passes) same in
      (λ j. record { outcome = outcome j; events = events j; codes = completed j }, rw (used, sends) at f.traced, rw used at f.stored)

-- ---- the drive

-- what a drive promises of its result and its buffers
abbrev pub Drives : List ℕ → List ℕ → List ℕ → Driven → List ℕ → List ℕ → Type 0
Drives levels trace codes r trace' codes' =
    (r ≡ drive_result levels trace codes)
    × (outcome_number r.outcome ≡ drive_number levels trace codes)
    × (trace' ≡ trace_after_drive levels trace codes)
    × (codes' ≡ codes_after_drive levels trace codes)

number-outcome : (a : Answer) → outcome_number (outcome_of a) ≡ answer_number (answer_value a)
unfolding outcome_number outcome_of answer_number answer_value
number-outcome (Answer.Event e) = refl
number-outcome (Answer.End x) = refl

module _ (levels trace codes : List ℕ) where
  -- refused: nothing is written
  pub drive-refused : (r : Driven) → r ≡ drive_refused → no_drive_room levels trace codes ≡ true → Drives levels trace codes r trace codes
  unfolding drive_result drive_number trace_after_drive codes_after_drive outcome_number
  drive-refused r made h = rw h (made, ap (λ (d : Driven). outcome_number d.outcome) made, refl, refl)

  -- with the room, all is written
  pub drive-driven : (r : Driven) (trace' codes' : List ℕ) → no_drive_room levels trace codes ≡ false
      → drive_trace_room (length levels) ≤ length trace → drive_code_room (length levels) ≤ length codes
      → r ≡ driven levels
      → trace' ≡ sets trace 0 (events_from started_master levels)
      → codes' ≡ sets codes 0 (codes_from started_master levels)
      → Drives levels trace codes r trace' codes'
  unfolding drive_result drive_number trace_after_drive codes_after_drive
  drive-driven r trace' codes' h room-t room-c made traced stored =
      let t = events-fit levels in
      let c = codes-fit levels in
      rw h (
        made,
        ap (λ (d : Driven). outcome_number d.outcome) made ∙ number-outcome (answer_of (master_after_levels started_master levels).stage),
        traced ∙ store-front (events_from started_master levels) trace (omega arith),
        stored ∙ store-front (codes_from started_master levels) codes (omega arith),
      )
