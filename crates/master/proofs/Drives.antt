-- Laws of a master stepped with recorded levels: what an ended one leaves, and that the room asked is enough. Assumes nothing.
use Prim.Native.Nat.{ℕ, suc, ◌+◌, ◌*◌, ◌≤◌}
use mathlib.Core.Path.{◌≡◌, refl, sym, ap, ◌∙◌, subst}
use mathlib.Core.Bool.{Bool, true, not, cond}
use mathlib.Core.List.{List, [], ◌∷◌, ◌++◌}
use native.Mathlib.Nat.{add-zero, add-suc, suc-add}
use native.Mathlib.Omega.{arith}
use lib.ListN.{length, length-append}
use lib.Dec.{eqb}
use borrow.Author.Tests.{le-ltb, ne_eqb}
use Rattle.master.specs.declared.End.{End}
use Rattle.master.specs.declared.Stage.{Stage}
use Rattle.master.specs.declared.Stage.TheVariants.{Fresh, Reset, Command, FirstRead, SecondRead, Direction, Ended}
use Rattle.master.specs.declared.Master.{Master}
use Rattle.master.specs.Master.{most_passes, AnswerValue, event, end, end_number, reset_event, answer_value, answer_of, master_answer, stage_in_range, master_in_range, fresh_master, master_at_stage, master_after_reset, step_by_stage, master_after_level, next_master}
use Rattle.master.specs.Drive.{started_master, pass_events, drive_trace_room, drive_code_room, event_then, events_from, code_completed, codes_from, master_after_levels}
use Rattle.master.proofs.Laws.{ended-stays}
use Rattle.master.proofs.Clock.{Reached, reached-on, reached-started, started-passes, reached-passes, reached-sends, reached-ten, completed-size}

-- ---- an ended master

ended-stage : (s : Stage) (n : ℕ) → answer_value (answer_of s) ≡ end n → (e : End) × (s ≡ Ended e)
unfolding answer_value answer_of
ended-stage Fresh n h = let z : ◌≡◌ {A = ℕ} 0 1 = cc in absurd (omega arith)
ended-stage Reset n h = let z : ◌≡◌ {A = ℕ} 0 1 = cc in absurd (omega arith)
ended-stage (Command at) n h = let z : ◌≡◌ {A = ℕ} 0 1 = cc in absurd (omega arith)
ended-stage (FirstRead at) n h = let z : ◌≡◌ {A = ℕ} 0 1 = cc in absurd (omega arith)
ended-stage (SecondRead at first) n h = let z : ◌≡◌ {A = ℕ} 0 1 = cc in absurd (omega arith)
ended-stage (Direction at bit) n h = let z : ◌≡◌ {A = ℕ} 0 1 = cc in absurd (omega arith)
ended-stage (Ended e) n h = (e, refl)

stays : (m : Master) (n level : ℕ) → master_answer m ≡ end n → next_master m level ≡ m
stays m n level h = let s = ended-stage m.stage n h in (ended-stays m s.0 level s.1).0

-- levels bring nothing more
pub ended-last : (m : Master) (n : ℕ) (levels : List ℕ) → master_answer m ≡ end n → master_after_levels m levels ≡ m
unfolding master_after_levels
ended-last m n [] h = refl
ended-last m n (level ∷ levels) h = ap (λ (x : Master). master_after_levels x levels) (stays m n level h) ∙ ended-last m n levels h

pub ended-events : (m : Master) (n : ℕ) (levels : List ℕ) → master_answer m ≡ end n → events_from m levels ≡ []
unfolding events_from event_then
ended-events m n [] h = ap (λ (x : AnswerValue). event_then x []) h
ended-events m n (level ∷ levels) h = ap (λ (x : AnswerValue). event_then x (events_from (next_master m level) levels)) h

pub ended-codes : (m : Master) (n : ℕ) (levels : List ℕ) → master_answer m ≡ end n → codes_from m levels ≡ []
unfolding codes_from code_completed
ended-codes m n [] h = refl
ended-codes m n (level ∷ levels) h =
    ap (λ (x : Master). code_completed m.passes x ++ codes_from x levels) (stays m n level h)
    ∙ ap (λ (t : Bool). cond t m.previous [] ++ codes_from m levels) (le-ltb m.passes m.passes (omega arith))
    ∙ ended-codes m n levels h

-- ---- the room

-- an event for each level, and the first
sent-one : (x : AnswerValue) (later : List ℕ) → length (event_then x later) ≤ length later + 1
unfolding event_then
sent-one (event e) later = omega arith
sent-one (end n) later = omega arith

pub events-levels : (m : Master) (levels : List ℕ) → length (events_from m levels) ≤ length levels + 1
unfolding events_from
events-levels m [] = sent-one (master_answer m) []
events-levels m (level ∷ levels) =
    let a = sent-one (master_answer m) (events_from (next_master m level) levels) in
    let b = events-levels (next_master m level) levels in
    omega arith

-- never more than 64 passes have
sent-most : {m : Master} {i : ℕ} (later : List ℕ) → Reached m i → i ≤ most_passes * pass_events
    → (suc i ≤ most_passes * pass_events → suc i + length later ≤ most_passes * pass_events) → i + length (event_then (master_answer m) later) ≤ most_passes * pass_events
unfolding event_then
sent-most {m} {i} later r h more = choose (master_answer m) refl
  where
    choose : (x : AnswerValue) → master_answer m ≡ x → i + length (event_then x later) ≤ most_passes * pass_events
    choose (event e) s = let k = more (reached-sends r s) in omega arith
    choose (end n) s = omega arith

pub events-most : {m : Master} {i : ℕ} (levels : List ℕ) → Reached m i → i ≤ most_passes * pass_events → i + length (events_from m levels) ≤ most_passes * pass_events
unfolding events_from
events-most {m = m} {i = i} [] r h = sent-most [] r h (λ k. omega arith)
events-most {m = m} {i = i} (level ∷ levels) r h =
    sent-most (events_from (next_master m level) levels) r h (λ k. events-most {m = master_after_level m (not (eqb level 0))} {i = suc i} levels (reached-on r (not (eqb level 0))) k)

pub events-fit : (levels : List ℕ) → length (events_from started_master levels) ≤ drive_trace_room (length levels)
unfolding drive_trace_room
events-fit levels =
    let a = events-levels started_master levels in
    let b = events-most levels reached-started (omega arith) in
    omega arith

-- 8 bytes for each code completed
pub codes-size : {m : Master} {i : ℕ} (levels : List ℕ) → Reached m i → 8 * m.passes + length (codes_from m levels) ≡ 8 * (master_after_levels m levels).passes
unfolding codes_from master_after_levels
codes-size {m = m} {i = i} [] r = omega arith
codes-size {m = m} {i = i} (level ∷ levels) r =
    let n = next_master m level in
    let a = completed-size r (not (eqb level 0)) in
    let b = codes-size {m = master_after_level m (not (eqb level 0))} {i = suc i} levels (reached-on r (not (eqb level 0))) in
    omega (arith, length-append (code_completed m.passes n) (codes_from n levels))

pub last-reached : {m : Master} {i : ℕ} (levels : List ℕ) → Reached m i → Reached (master_after_levels m levels) (i + length levels)
unfolding master_after_levels
last-reached {m = m} {i = i} [] r = subst (λ (k : ℕ). Reached m k) (sym (add-zero i)) r
last-reached {m = m} {i = i} (level ∷ levels) r =
    subst (λ (k : ℕ). Reached (master_after_levels (next_master m level) levels) k) (suc-add i (length levels) ∙ sym (add-suc i (length levels)))
    (last-reached {m = master_after_level m (not (eqb level 0))} {i = suc i} levels (reached-on r (not (eqb level 0))))

pub codes-fit : (levels : List ℕ) → length (codes_from started_master levels) ≤ drive_code_room (length levels)
unfolding drive_code_room
codes-fit levels =
    let a = codes-size levels reached-started in
    let b = reached-passes (last-reached levels reached-started) in
    let z = started-passes in
    omega arith

-- ---- document 01

-- 8 bytes for each of the codes counted, none of them without a pass that was completed
pub codes-counted : (levels : List ℕ) → length (codes_from started_master levels) ≡ 8 * (master_after_levels started_master levels).passes
codes-counted levels =
    let a = codes-size levels reached-started in
    let z = started-passes in
    omega arith

-- with 10 all 64 codes come back
pub ten-all : (levels : List ℕ) → master_answer (master_after_levels started_master levels) ≡ end 10 → length (codes_from started_master levels) ≡ 8 * 64
ten-all levels h =
    let a = codes-counted levels in
    let b = reached-ten (last-reached levels reached-started) h in
    omega arith

-- no presence on the first reset: done, no codes
pub absent-first : (level : ℕ) (levels : List ℕ) → (level ≡ 0 → ⊥)
    → (events_from started_master (level ∷ levels) ≡ reset_event ∷ []) × (codes_from started_master (level ∷ levels) ≡ []) × (master_answer (master_after_levels started_master (level ∷ levels)) ≡ end 0)
unfolding events_from event_then codes_from code_completed master_after_levels master_after_level master_in_range stage_in_range step_by_stage master_after_reset fresh_master master_at_stage answer_value answer_of end_number
absent-first level levels h =
    let m = master_after_level started_master true in
    let ends : next_master started_master level ≡ m = ap (λ (t : Bool). master_after_level started_master (not t)) (ne_eqb level 0 h) in (
      ap (λ (n : Master). reset_event ∷ events_from n levels) ends ∙ ap (λ (l : List ℕ). reset_event ∷ l) (ended-events m 0 levels refl),
      ap (λ (n : Master). code_completed 0 n ++ codes_from n levels) ends ∙ ended-codes m 0 levels refl,
      ap (λ (n : Master). master_answer (master_after_levels n levels)) ends ∙ ap master_answer (ended-last m 0 levels refl),
    )
