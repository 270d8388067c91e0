-- The stage and the passes of a master that a fresh one came to say how many levels it was given: 201 in a pass. So its numbers are in
-- range, and the room that a drive asks is enough. Assumes nothing.
use Rattle.std.specs.Prelude.{Option, None, Some}
use Prim.Native.Nat.{ℕ, suc, ◌+◌, ◌-◌, ◌*◌, ◌≤◌, ◌<◌}
use mathlib.Core.Path.{◌≡◌, refl, sym, subst}
use mathlib.Core.Logic.{◌⊎◌, inl, inr}
use mathlib.Core.Bool.{Bool, true, false, cond}
use mathlib.Core.List.{[]}
use native.Mathlib.Omega.{arith}
use lib.ListN.{length, length-set}
use lib.Dec.{eqb, ltb}
use borrow.Author.Tests.{lt-ltb, le-ltb, ltb-true, ltb-false}
use Rattle.bits.specs.Bit.{put_bit}
use Rattle.bits.specs.Crc.{registration_check}
use Rattle.master.specs.declared.End.TheVariants.{Done, NoDevice, WrongCrc, Unexplored}
use Rattle.master.specs.declared.Stage.{Stage}
use Rattle.master.specs.declared.Stage.TheVariants.{Fresh, Reset, Command, FirstRead, SecondRead, Direction, Ended}
use Rattle.master.specs.declared.Master.{Master}
use Rattle.master.specs.Master.{command_bits, code_bits, most_passes, event, end, end_number, answer_value, answer_of, master_answer, fresh_master, master_at_stage, stage_in_range, master_in_range, master_after_reset, master_after_command, send_direction, master_after_reads, pass_completed, stage_after_pass, pass_end, master_after_direction, step_by_stage, master_after_level}
use Rattle.master.specs.Drive.{started_master, pass_events, code_completed}
use Rattle.master.proofs.Laws.{goes-by-stage}

-- ---- the levels given so far

abbrev pub Given : Stage → ℕ → ℕ → Type 0
Given Fresh passes i = ⊥
Given Reset passes i = (passes < most_passes) × (i ≡ pass_events * passes)
Given (Command at) passes i = (passes < most_passes) × (at < command_bits) × (i ≡ pass_events * passes + at + 1)
Given (FirstRead at) passes i = (passes < most_passes) × (at < code_bits) × (i ≡ pass_events * passes + 3 * at + 9)
Given (SecondRead at first) passes i = (passes < most_passes) × (at < code_bits) × (i ≡ pass_events * passes + 3 * at + 10)
Given (Direction at bit) passes i = (passes < most_passes) × (at < code_bits) × (i ≡ pass_events * passes + 3 * at + 11)
Given (Ended e) passes i = (passes ≤ most_passes) × (pass_events * passes ≤ i) × (e ≡ Unexplored → passes ≡ most_passes)

pub record Reached (m : Master) (i : ℕ) : Type 0 where
  pub given : Given m.stage m.passes i
  pub code-size : length m.code ≡ 8
  pub previous-size : length m.previous ≡ 8

-- its numbers are in range
given-in-range : (s : Stage) (passes i : ℕ) → Given s passes i → stage_in_range s passes ≡ true
unfolding stage_in_range
given-in-range Fresh passes i g = absurd g
given-in-range Reset passes i g = lt-ltb passes most_passes g.0
given-in-range (Command at) passes i g = rw (lt-ltb at command_bits g.1, lt-ltb passes most_passes g.0)
given-in-range (FirstRead at) passes i g = rw (lt-ltb at code_bits g.1, lt-ltb passes most_passes g.0)
given-in-range (SecondRead at first) passes i g = rw (lt-ltb at code_bits g.1, lt-ltb passes most_passes g.0)
given-in-range (Direction at bit) passes i g = rw (lt-ltb at code_bits g.1, lt-ltb passes most_passes g.0)
given-in-range (Ended e) passes i g = refl

pub reached-in-range : {m : Master} {i : ℕ} → Reached m i → master_in_range m ≡ true
unfolding master_in_range
reached-in-range {m} {i} r = given-in-range m.stage m.passes i r.given

-- it goes by its stage
pub reached-after : {m : Master} {i : ℕ} → Reached m i → (level : Bool) → master_after_level m level ≡ step_by_stage m.stage m level
reached-after {m} r level = goes-by-stage m m.stage level refl (reached-in-range r)

-- ---- one level more

not_done : Done ≡ Unexplored → ⊥
not_done q = let z : ◌≡◌ {A = ℕ} 0 1 = cc in omega arith

not-absent : NoDevice ≡ Unexplored → ⊥
not-absent q = let z : ◌≡◌ {A = ℕ} 0 1 = cc in omega arith

not-wrong : WrongCrc ≡ Unexplored → ⊥
not-wrong q = let z : ◌≡◌ {A = ℕ} 0 1 = cc in omega arith

not-presence : (b : Bool) → cond b Done NoDevice ≡ Unexplored → ⊥
not-presence true = not_done
not-presence false = not-absent

in-stage : {m : Master} {i j : ℕ} (s : Stage) → Reached m i → Given s m.passes j → Reached (master_at_stage m s) j
unfolding master_at_stage
in-stage s r g = record { given = g; code-size = r.code-size; previous-size = r.previous-size }

choose-stage : (b : Bool) (s t : Stage) (passes i : ℕ) → (b ≡ true → Given s passes i) → (b ≡ false → Given t passes i) → Given (cond b s t) passes i
choose-stage true s t passes i f g = f refl
choose-stage false s t passes i f g = g refl

send-on : {m : Master} {i : ℕ} (at : ℕ) (bit : Bool) (opened : Option ℕ) → Reached m i → Given (Direction at bit) m.passes (suc i)
    → Reached (send_direction m at bit opened) (suc i)
unfolding send_direction put_bit
send-on {m} at bit opened r g = record { given = g; code-size = simp length-set r.code-size; previous-size = r.previous-size }

reads_on : {m : Master} {i : ℕ} (at : ℕ) (first second : Bool) → Reached m i → Given (SecondRead at first) m.passes i
    → Reached (master_after_reads m at first second) (suc i)
unfolding master_after_reads
reads_on {m} at false true r g = send-on at false m.opened r (g.0, g.1, omega arith)
reads_on {m} at true false r g = send-on at true m.opened r (g.0, g.1, omega arith)
reads_on at true true r g = in-stage (Ended NoDevice) r (omega arith, omega arith, λ q. absurd (not-absent q))
reads_on {m} at false false r g = send-on at _ _ r (g.0, g.1, omega arith)

after-pass-on : (o : Option ℕ) (passes i : ℕ) → passes ≤ most_passes → i ≡ pass_events * passes → Given (stage_after_pass o passes) passes i
unfolding stage_after_pass
after-pass-on None passes i few e = (few, omega arith, λ q. absurd (not_done q))
after-pass-on (Some bit) passes i few e =
    choose-stage (ltb passes most_passes) Reset (Ended Unexplored) passes i (λ t. (ltb-true passes most_passes t, e))
    (λ t. let all = ltb-false passes most_passes t in (few, omega arith, λ q. omega arith))

pass-end-on : {m : Master} {i : ℕ} → Reached m i → m.passes < most_passes → suc i ≡ pass_events * (m.passes + 1) → Reached (pass_end m) (suc i)
unfolding pass_end pass_completed
pass-end-on {m} {i} r few e = choose (registration_check m.code)
  where
    choose : (b : Bool) → Reached (cond b (pass_completed m (stage_after_pass m.opened (m.passes + 1))) (master_at_stage m (Ended WrongCrc))) (suc i)
    choose true = record { given = after-pass-on m.opened (m.passes + 1) (suc i) (omega arith) e; code-size = refl; previous-size = r.code-size }
    choose false = in-stage (Ended WrongCrc) r (omega arith, omega arith, λ q. absurd (not-wrong q))

direction-on : {m : Master} {i : ℕ} (at : ℕ) (bit : Bool) → Reached m i → Given (Direction at bit) m.passes i → Reached (master_after_direction m at) (suc i)
unfolding master_after_direction
direction-on {m} {i} at bit r g = choose (ltb at (code_bits - 1)) refl
  where
    choose : (b : Bool) → ltb at (code_bits - 1) ≡ b → Reached (cond b (master_at_stage m (FirstRead (at + 1))) (pass_end m)) (suc i)
    choose true t = let h = ltb-true at (code_bits - 1) t in in-stage (FirstRead (at + 1)) r (g.0, omega arith, omega arith)
    choose false t = let h = ltb-false at (code_bits - 1) t in pass-end-on r g.0 (omega arith)

stage-on : (s : Stage) {m : Master} {i : ℕ} (level : Bool) → Reached m i → m.stage ≡ s → Given s m.passes i → Reached (step_by_stage s m level) (suc i)
unfolding step_by_stage master_after_reset master_after_command
stage-on Fresh level r h g = absurd g
stage-on Reset false r h g = in-stage (Command 0) r (g.0, omega arith, omega arith)
stage-on Reset {m} true r h g = in-stage (Ended _) r (omega arith, omega arith, λ q. absurd (not-presence (eqb m.passes 0) q))
stage-on (Command at) {m} {i} level r h g =
    in-stage _ r
    (choose-stage (ltb at (command_bits - 1)) (Command (at + 1)) (FirstRead 0) m.passes (suc i)
    (λ t. let k = ltb-true at (command_bits - 1) t in (g.0, omega arith, omega arith))
    (λ t. let k = ltb-false at (command_bits - 1) t in (g.0, omega arith, omega arith)))
stage-on (FirstRead at) level r h g = in-stage (SecondRead at level) r (g.0, g.1, omega arith)
stage-on (SecondRead at first) level r h g = reads_on at first level r g
stage-on (Direction at bit) level r h g = direction-on at bit r g
stage-on (Ended e) {m} {i} level r h g =
    record { given = subst (λ (s : Stage). Given s m.passes (suc i)) (sym h) (g.0, omega arith, g.2); code-size = r.code-size; previous-size = r.previous-size }

pub reached-on : {m : Master} {i : ℕ} → Reached m i → (level : Bool) → Reached (master_after_level m level) (suc i)
reached-on {m} {i} r level = subst (λ (n : Master). Reached n (suc i)) (sym (reached-after r level)) (stage-on m.stage level r refl r.given)

-- the first step
pub reached-started : Reached started_master 0
unfolding master_after_level master_in_range stage_in_range step_by_stage fresh_master master_at_stage
reached-started = record { given = (omega arith, omega arith); code-size = refl; previous-size = refl }

pub started-passes : started_master.passes ≡ 0
unfolding master_after_level master_in_range stage_in_range step_by_stage fresh_master master_at_stage
started-passes = refl

-- ---- what this bounds

-- 201 levels for each code completed, and at most 64 codes
given-passes : (s : Stage) (passes i : ℕ) → Given s passes i → (passes ≤ most_passes) × (pass_events * passes ≤ i)
given-passes Fresh passes i g = absurd g
given-passes Reset passes i g = (omega arith, omega arith)
given-passes (Command at) passes i g = (omega arith, omega arith)
given-passes (FirstRead at) passes i g = (omega arith, omega arith)
given-passes (SecondRead at first) passes i g = (omega arith, omega arith)
given-passes (Direction at bit) passes i g = (omega arith, omega arith)
given-passes (Ended e) passes i g = (g.0, g.1)

pub reached-passes : {m : Master} {i : ℕ} → Reached m i → (m.passes ≤ most_passes) × (pass_events * m.passes ≤ i)
reached-passes {m} {i} r = given-passes m.stage m.passes i r.given

-- a master that still sends was given fewer levels than 64 passes have events
given-sends : (s : Stage) (passes i e : ℕ) → Given s passes i → answer_value (answer_of s) ≡ event e → i < most_passes * pass_events
unfolding answer_value answer_of
given-sends Fresh passes i e g h = absurd g
given-sends Reset passes i e g h = omega arith
given-sends (Command at) passes i e g h = omega arith
given-sends (FirstRead at) passes i e g h = omega arith
given-sends (SecondRead at first) passes i e g h = omega arith
given-sends (Direction at bit) passes i e g h = omega arith
given-sends (Ended x) passes i e g h = let z : ◌≡◌ {A = ℕ} 0 1 = cc in absurd (omega arith)

pub reached-sends : {m : Master} {i e : ℕ} → Reached m i → master_answer m ≡ event e → i < most_passes * pass_events
reached-sends {m} {i} {e} r h = given-sends m.stage m.passes i e r.given h

-- ---- the codes

-- a level completes no code, or that of the pass, which the registration check takes
abbrev pub Completes : Master → Master → Type 0
Completes m n = (n.passes ≡ m.passes) ⊎ (n.passes ≡ m.passes + 1) × (n.previous ≡ m.code) × (registration_check m.code ≡ true)

reads-passes : (m : Master) (at : ℕ) (first second : Bool) → (master_after_reads m at first second).passes ≡ m.passes
unfolding master_after_reads send_direction master_at_stage
reads-passes m at false true = refl
reads-passes m at true false = refl
reads-passes m at true true = refl
reads-passes m at false false = refl

pass-end-completes : (m : Master) → Completes m (pass_end m)
unfolding pass_end pass_completed master_at_stage
pass-end-completes m = choose (registration_check m.code) refl
  where
    choose : (b : Bool) → registration_check m.code ≡ b → Completes m (cond b (pass_completed m (stage_after_pass m.opened (m.passes + 1))) (master_at_stage m (Ended WrongCrc)))
    choose true h = inr (refl, refl, h)
    choose false h = inl refl

direction-completes : (m : Master) (at : ℕ) → Completes m (master_after_direction m at)
unfolding master_after_direction master_at_stage
direction-completes m at = choose (ltb at (code_bits - 1))
  where
    choose : (b : Bool) → Completes m (cond b (master_at_stage m (FirstRead (at + 1))) (pass_end m))
    choose true = inl refl
    choose false = pass-end-completes m

stage-completes : (s : Stage) (m : Master) (i : ℕ) (level : Bool) → Given s m.passes i → Completes m (step_by_stage s m level)
unfolding step_by_stage master_after_reset master_after_command master_at_stage
stage-completes Fresh m i level g = absurd g
stage-completes Reset m i false g = inl refl
stage-completes Reset m i true g = inl refl
stage-completes (Command at) m i level g = inl refl
stage-completes (FirstRead at) m i level g = inl refl
stage-completes (SecondRead at first) m i level g = inl (reads-passes m at first level)
stage-completes (Direction at bit) m i level g = direction-completes m at
stage-completes (Ended e) m i level g = inl refl

pub reached-completes : {m : Master} {i : ℕ} → Reached m i → (level : Bool) → Completes m (master_after_level m level)
reached-completes {m} {i} r level = subst (λ (n : Master). Completes m n) (sym (reached-after r level)) (stage-completes m.stage m i level r.given)

-- so the codes completed take 8 bytes each
pub completed-size : {m : Master} {i : ℕ} → Reached m i → (level : Bool)
    → 8 * m.passes + length (code_completed m.passes (master_after_level m level)) ≡ 8 * (master_after_level m level).passes
unfolding code_completed
completed-size {m} {i} r level = choose (reached-completes r level)
  where
    choose : Completes m (master_after_level m level)
        → 8 * m.passes + length (cond (ltb m.passes (master_after_level m level).passes) (master_after_level m level).previous []) ≡ 8 * (master_after_level m level).passes
    choose (inl e) = rw (le-ltb m.passes (master_after_level m level).passes (omega arith)) (omega arith)
    choose (inr e) = let size = (reached-on r level).previous-size in rw (lt-ltb m.passes (master_after_level m level).passes (omega arith)) (omega arith)

-- an end with 10 is one with 64 codes
ended-ten : (s : Stage) (passes i : ℕ) → Given s passes i → answer_value (answer_of s) ≡ end 10 → passes ≡ most_passes
unfolding answer_value answer_of end_number
ended-ten Fresh passes i g h = absurd g
ended-ten Reset passes i g h = let z : ◌≡◌ {A = ℕ} 0 1 = cc in absurd (omega arith)
ended-ten (Command at) passes i g h = let z : ◌≡◌ {A = ℕ} 0 1 = cc in absurd (omega arith)
ended-ten (FirstRead at) passes i g h = let z : ◌≡◌ {A = ℕ} 0 1 = cc in absurd (omega arith)
ended-ten (SecondRead at first) passes i g h = let z : ◌≡◌ {A = ℕ} 0 1 = cc in absurd (omega arith)
ended-ten (Direction at bit) passes i g h = let z : ◌≡◌ {A = ℕ} 0 1 = cc in absurd (omega arith)
ended-ten (Ended Done) passes i g h = let z : ◌≡◌ {A = ℕ} 0 10 = cc in absurd (omega arith)
ended-ten (Ended NoDevice) passes i g h = let z : ◌≡◌ {A = ℕ} 8 10 = cc in absurd (omega arith)
ended-ten (Ended WrongCrc) passes i g h = let z : ◌≡◌ {A = ℕ} 9 10 = cc in absurd (omega arith)
ended-ten (Ended Unexplored) passes i g h = g.2 refl

pub reached-ten : {m : Master} {i : ℕ} → Reached m i → master_answer m ≡ end 10 → m.passes ≡ most_passes
reached-ten {m} {i} r h = ended-ten m.stage m.passes i r.given h
