use Rattle.std.proofs.Common.{◌≡◌, ◌≤◌, ◌-◌}
use Rattle.bus.specs.Loops.{passes_from, shifted_from}
use Rattle.bus.proofs.shift_all.Given as goal

-- No more happened to the devices before place i than a shift.
abbrev pub invariant-loop-i : goal.invariant-loop-i
invariant-loop-i l = record {
  passed : l.i - l.from ≤ passes_from l.overdrive (l.n - l.from) l.from l.fn.lines;
  lines : l.lines ≡ shifted_from l.overdrive l.level l.from (l.i - l.from) l.fn.lines;
}
