-- Laws of the searching master's step. Assumes nothing.
use Prim.Native.Nat.{ℕ, ◌<◌}
use mathlib.Core.Path.{◌≡◌, refl, sym, ap, ◌∙◌}
use mathlib.Core.Bool.{Bool, true, false, not, cond, ◌&&◌, true≢false}
use native.Mathlib.Omega.{arith}
use borrow.Author.Tests.{ltb-true, ne_eqb}
use lib.Dec.{eqb, ltb}
use Rattle.master.specs.declared.End.{End}
use Rattle.master.specs.declared.End.TheVariants.{Done, NoDevice, WrongCrc, Unexplored}
use Rattle.master.specs.declared.Answer.{Answer}
use Rattle.master.specs.declared.Stage.{Stage}
use Rattle.master.specs.declared.Stage.TheVariants.{Fresh, Reset, Command, FirstRead, SecondRead, Direction, Ended}
use Rattle.master.specs.declared.Master.{Master}
use Rattle.master.specs.Master.{most_passes, code_bits, event, end, end_number, answer_value, master_answer, answer_of, reset_event, fresh_master, master_at_stage, stage_in_range, master_in_range, step_by_stage, master_after_level, next_master, reads_level}

-- ---- a master in a known stage

both : (a b : Bool) → (a && b) ≡ true → (a ≡ true) × (b ≡ true)
both true b e = (refl, e)
both false b e = absurd (true≢false (sym e))

-- in range it goes by its stage
pub goes-by-stage : (m : Master) (s : Stage) (level : Bool) → m.stage ≡ s → master_in_range m ≡ true → master_after_level m level ≡ step_by_stage s m level
unfolding master_after_level
goes-by-stage m s level e r =
    ap (λ (t : Bool). cond t (step_by_stage m.stage m level) (master_at_stage m (Ended Done))) r ∙ ap (λ (x : Stage). step_by_stage x m level) e

-- and while a pass goes on, fewer than 64 codes are completed
pub fewer-passes : (m : Master) (at : ℕ) (bit : Bool) → m.stage ≡ Direction at bit → master_in_range m ≡ true → m.passes < most_passes
unfolding master_in_range stage_in_range
fewer-passes m at bit e r = ltb-true m.passes most_passes (both (ltb at code_bits) (ltb m.passes most_passes) (ap (λ (x : Stage). stage_in_range x m.passes) (sym e) ∙ r)).1

-- ---- document 01

-- a fresh master opens with a reset, whatever the level
pub fresh-resets : (level : ℕ) → master_answer (next_master fresh_master level) ≡ event reset_event
unfolding master_after_level master_in_range stage_in_range step_by_stage fresh_master master_at_stage answer_value answer_of
fresh-resets level = refl

-- an ended one stays as it is and gives its end again
pub ended-stays : (m : Master) (e : End) (level : ℕ) → m.stage ≡ Ended e → (next_master m level ≡ m) × (master_answer (next_master m level) ≡ end (end_number e))
unfolding master_in_range stage_in_range step_by_stage answer_value answer_of
ended-stays m e level h =
    let r : master_in_range m ≡ true = ap (λ (x : Stage). stage_in_range x m.passes) h in
    let same : next_master m level ≡ m = goes-by-stage m (Ended e) (not (eqb level 0)) h r in
    (same, ap master_answer same ∙ ap (λ (x : Stage). answer_value (answer_of x)) h)

-- levels are read only after a reset and in the two read slots of each bit
stage-unread : (m : Master) (s : Stage) (a b : Bool) → reads_level s ≡ false → step_by_stage s m a ≡ step_by_stage s m b
unfolding reads_level step_by_stage
stage-unread m Fresh a b h = refl
stage-unread m Reset a b h = absurd (true≢false h)
stage-unread m (Command at) a b h = refl
stage-unread m (FirstRead at) a b h = absurd (true≢false h)
stage-unread m (SecondRead at first) a b h = absurd (true≢false h)
stage-unread m (Direction at bit) a b h = refl
stage-unread m (Ended e) a b h = refl

pub level-unread : (m : Master) (a b : ℕ) → reads_level m.stage ≡ false → next_master m a ≡ next_master m b
unfolding master_after_level
level-unread m a b h =
    ap (λ (x : Master). cond (master_in_range m) x (master_at_stage m (Ended Done))) (stage-unread m m.stage (not (eqb a 0)) (not (eqb b 0)) h)

-- nonzero counts as 1
pub nonzero-is-one : (m : Master) (level : ℕ) → (level ≡ 0 → ⊥) → next_master m level ≡ next_master m 1
nonzero-is-one m level h = ap (λ (t : Bool). master_after_level m (not t)) (ne_eqb level 0 h)

-- an answer is known by its values, so that what a step promises leaves no choice
number-end : (a b : End) → end_number a ≡ end_number b → a ≡ b
unfolding end_number
number-end Done Done h = refl
number-end Done NoDevice h = absurd (omega arith)
number-end Done WrongCrc h = absurd (omega arith)
number-end Done Unexplored h = absurd (omega arith)
number-end NoDevice Done h = absurd (omega arith)
number-end NoDevice NoDevice h = refl
number-end NoDevice WrongCrc h = absurd (omega arith)
number-end NoDevice Unexplored h = absurd (omega arith)
number-end WrongCrc Done h = absurd (omega arith)
number-end WrongCrc NoDevice h = absurd (omega arith)
number-end WrongCrc WrongCrc h = refl
number-end WrongCrc Unexplored h = absurd (omega arith)
number-end Unexplored Done h = absurd (omega arith)
number-end Unexplored NoDevice h = absurd (omega arith)
number-end Unexplored WrongCrc h = absurd (omega arith)
number-end Unexplored Unexplored h = refl

pub answered-once : (a b : Answer) → answer_value a ≡ answer_value b → a ≡ b
unfolding answer_value
answered-once (Answer.Event x) (Answer.Event y) h = let e : x ≡ y = cc in ap Answer.Event e
answered-once (Answer.Event x) (Answer.End y) h = let z : ◌≡◌ {A = ℕ} 0 1 = cc in absurd (omega arith)
answered-once (Answer.End x) (Answer.Event y) h = let z : ◌≡◌ {A = ℕ} 0 1 = cc in absurd (omega arith)
answered-once (Answer.End x) (Answer.End y) h = let e : end_number x ≡ end_number y = cc in ap Answer.End (number-end x y e)
