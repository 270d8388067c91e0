use Rattle.std.proofs.Common.{◌≡◌, ◌-◌, ◌≤◌, length}
use Rattle.master.proofs.Stepping.{Feeding}
use Rattle.master.proofs.driving.step_levels.Given as goal

abbrev pub invariant-loop-step : goal.invariant-loop-step
invariant-loop-step l =
    (l.sent ≤ length l.levels) × (length l.trace ≡ length l.initial.trace) × (length l.codes ≡ length l.initial.codes)
    × Feeding l.levels l.initial.trace l.initial.codes l.step.answer l.step.next l.sent l.trace l.codes

abbrev pub decreases-loop-step : goal.decreases-loop-step
decreases-loop-step l = length l.levels - l.sent
