use Rattle.std.proofs.Common.{◌≡◌, ◌||◌, drop, ltb}
use Rattle.bus.specs.Refusal.{some_byte}
use Rattle.bus.proofs.has_unknown_event.Given as goal

-- It was found so far or is found in what is left, where it is found in the trace.
abbrev pub invariant-loop-byte : goal.invariant-loop-byte
invariant-loop-byte l =
    (l.found || some_byte (λ byte. ltb 6 byte) (drop l.byte-index l.trace)) ≡ some_byte (λ byte. ltb 6 byte) l.trace
