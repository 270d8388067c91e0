-- The steps of the searching master in a pass whose levels are known. Assumes nothing.
use Rattle.std.specs.Prelude.{Option, None, Some}
use Prim.Native.Nat.{ℕ, suc, ◌+◌, ◌<◌}
use mathlib.Core.Path.{◌≡◌, refl, ◌∙◌}
use mathlib.Core.Bool.{Bool, true, false, ◌&&◌}
use mathlib.Core.List.{List, []}
use native.Mathlib.Omega.{arith}
use native.Mathlib.Numerals.{add-one}
use borrow.Author.Tests.{lt-ltb, le-ltb}
use Rattle.bits.specs.Bit.{put_bit}
use Rattle.bits.specs.Crc.{registration_check}
use Rattle.master.specs.declared.End.TheVariants.{Done}
use Rattle.master.specs.declared.Stage.{Stage}
use Rattle.master.specs.declared.Stage.TheVariants.{Reset, Command, FirstRead, SecondRead, Direction, Ended}
use Rattle.master.specs.declared.Master.{Master}
use Rattle.master.specs.Master.{no_bits, master_at_stage, stage_in_range, master_in_range, master_after_reset, master_after_command, at_discrepancy, send_direction, open_after, master_after_reads, pass_completed, stage_after_pass, pass_end, master_after_direction, step_by_stage, master_after_level}
use Rattle.master.specs.Drive.{code_completed}
use Rattle.master.proofs.Laws.{goes-by-stage}
use Rattle.search_laws.proofs.Codes.{differ}
use Rattle.search_laws.proofs.Passes.{direction, leaves-open}

-- a master by its fields: p codes completed; this pass's code and last open discrepancy so far; those of the pass before
abbrev pub master_of : Stage → ℕ → List ℕ → Option ℕ → List ℕ → Option ℕ → Master
master_of stage p code opened previous last = record { stage = stage; passes = p; code = code; opened = opened; previous = previous; last = last }

-- a discrepancy at bit k, if it is left open
abbrev pub marked : Bool → ℕ → Option ℕ → Option ℕ
marked true k opened = Some k
marked false k opened = opened

module _ (p : ℕ) (code : List ℕ) (opened : Option ℕ) (previous : List ℕ) (last : Option ℕ) (few : p < 64) where
  pub reset-step : master_after_level (master_of Reset p code opened previous last) false ≡ master_of (Command 0) p code opened previous last
  unfolding master_in_range stage_in_range step_by_stage master_after_reset master_at_stage
  reset-step = goes-by-stage (master_of Reset p code opened previous last) Reset false refl (lt-ltb p 64 few)

  command-in : (at : ℕ) → at < 8 → master_in_range (master_of (Command at) p code opened previous last) ≡ true
  unfolding master_in_range stage_in_range
  command-in at h = rw (lt-ltb at 8 h, lt-ltb p 64 few)

  pub command-step : (at : ℕ) (level : Bool) → at < 7 → master_after_level (master_of (Command at) p code opened previous last) level ≡ master_of (Command (at + 1)) p code opened previous last
  unfolding step_by_stage master_after_command master_at_stage
  command-step at level h =
      goes-by-stage (master_of (Command at) p code opened previous last) (Command at) level refl (command-in at (omega arith)) ∙ rw (lt-ltb at 7 h)

  pub command-last : (level : Bool) → master_after_level (master_of (Command 7) p code opened previous last) level ≡ master_of (FirstRead 0) p code opened previous last
  unfolding step_by_stage master_after_command master_at_stage
  command-last level = goes-by-stage (master_of (Command 7) p code opened previous last) (Command 7) level refl (command-in 7 (omega arith))

  module _ (k : ℕ) (low : k < 64) where
    pub first_step : (level : Bool) → master_after_level (master_of (FirstRead k) p code opened previous last) level ≡ master_of (SecondRead k level) p code opened previous last
    unfolding master_in_range stage_in_range step_by_stage master_at_stage
    first_step level =
        goes-by-stage (master_of (FirstRead k) p code opened previous last) (FirstRead k) level refl (rw (lt-ltb k 64 low, lt-ltb p 64 few))

    reads : (first second : Bool) → (first && second) ≡ false
        → master_after_reads (master_of (SecondRead k first) p code opened previous last) k first second
        ≡ master_of (Direction k (direction first second (at_discrepancy last previous k))) p (put_bit code k (direction first second (at_discrepancy last previous k)))
        (marked (leaves-open first second (direction first second (at_discrepancy last previous k))) k opened) previous last
    unfolding master_after_reads send_direction open_after
    reads true true e = differ (cc)
    reads false true e = refl
    reads true false e = refl
    reads false false e = choose (at_discrepancy last previous k)
      where
        choose : (bit : Bool)
            → send_direction (master_of (SecondRead k false) p code opened previous last) k bit (open_after bit k opened)
            ≡ master_of (Direction k bit) p (put_bit code k bit) (marked (leaves-open false false bit) k opened) previous last
        choose true = refl
        choose false = refl

    pub second-step : (first second bit : Bool) → (first && second) ≡ false → bit ≡ direction first second (at_discrepancy last previous k)
        → master_after_level (master_of (SecondRead k first) p code opened previous last) second
        ≡ master_of (Direction k bit) p (put_bit code k bit) (marked (leaves-open first second bit) k opened) previous last
    unfolding master_in_range stage_in_range step_by_stage
    second-step first second bit e b =
        goes-by-stage (master_of (SecondRead k first) p code opened previous last) (SecondRead k first) second refl (rw (lt-ltb k 64 low, lt-ltb p 64 few))
        ∙ rw b (reads first second e)

    direction-in : (bit : Bool) → master_in_range (master_of (Direction k bit) p code opened previous last) ≡ true
    unfolding master_in_range stage_in_range
    direction-in bit = rw (lt-ltb k 64 low, lt-ltb p 64 few)

    pub direction-step : (bit level : Bool) → k < 63 → master_after_level (master_of (Direction k bit) p code opened previous last) level ≡ master_of (FirstRead (suc k)) p code opened previous last
    unfolding step_by_stage master_after_direction master_at_stage
    direction-step bit level h =
        goes-by-stage (master_of (Direction k bit) p code opened previous last) (Direction k bit) level refl (direction-in bit) ∙ rw (lt-ltb k 63 h, add-one)

    -- the end of a pass whose code the registration check takes: none open ends the search, else there is one more pass
    pub completes : (bit level : Bool) → k ≡ 63 → registration_check code ≡ true
        → master_after_level (master_of (Direction k bit) p code opened previous last) level ≡ master_of (stage_after_pass opened (p + 1)) (p + 1) no_bits None code opened
    unfolding step_by_stage master_after_direction pass_end pass_completed
    completes bit level e r =
        goes-by-stage (master_of (Direction k bit) p code opened previous last) (Direction k bit) level refl (direction-in bit) ∙ rw (le-ltb k 63 (omega arith), r)

-- the stage after a pass
pub pass-last : (p : ℕ) → stage_after_pass None p ≡ Ended Done
unfolding stage_after_pass
pass-last p = refl

pub pass-more : (p bit : ℕ) → p < 64 → stage_after_pass (Some bit) p ≡ Reset
unfolding stage_after_pass
pass-more p bit h = rw (lt-ltb p 64 h)

-- the code that a step completes: none while the number of codes stays, that of the pass where it rises
pub none-completed : (p : ℕ) (stage : Stage) (code : List ℕ) (opened : Option ℕ) (previous : List ℕ) (last : Option ℕ)
    → code_completed p (master_of stage p code opened previous last) ≡ []
unfolding code_completed
none-completed p stage code opened previous last = rw (le-ltb p p (omega arith))

pub one-completed : (p : ℕ) (stage : Stage) (code : List ℕ) (opened : Option ℕ) (previous : List ℕ) (last : Option ℕ)
    → code_completed p (master_of stage (p + 1) code opened previous last) ≡ previous
unfolding code_completed
one-completed p stage code opened previous last = rw (lt-ltb p (p + 1) (omega arith))
