use Rattle.std.proofs.Common.{◌≡◌, ◌||◌, drop, eqb}
use Rattle.bus.specs.Refusal.{some_byte}
use Rattle.bus.proofs.has_pulse.Given as goal

-- It was found so far or is found in what is left, where it is found in the trace.
abbrev pub invariant-loop-byte : goal.invariant-loop-byte
invariant-loop-byte l =
    (l.found || some_byte (λ byte. eqb byte 3) (drop l.byte-index l.trace)) ≡ some_byte (λ byte. eqb byte 3) l.trace
