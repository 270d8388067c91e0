-- The verdict in one pass over a recording, which a table of worked recordings can compute. Assumes nothing.
--     pass_from    the verdict from event k on, with the devices as they are there
--     one-pass    it is the verdict of `Judge.antt`
use Prim.Native.Nat.{ℕ, zero, suc, ◌+◌, ◌<◌}
use mathlib.Core.Path.{◌≡◌, refl, sym, ap, ◌∙◌}
use mathlib.Core.Bool.{Bool, not, cond, ◌&&◌, ◌||◌}
use mathlib.Core.List.{List, map}
use native.Mathlib.Omega.{arith}
use lib.ListN.{length, get_or, take}
use lib.Dec.{eqb, ltb}
use Rattle.bits.specs.Bit.{level_byte}
use Rattle.image.specs.Refusal.{some_below}
use Rattle.bus.specs.declared.Event.{Event}
use Rattle.bus.specs.Bus.{Device, event_of, level_of, next_device, run_trace}
use Rattle.judge.specs.declared.Rule.TheVariants as rules
use Rattle.judge.specs.declared.Verdict.{Verdict}
use Rattle.judge.specs.declared.Verdict.TheVariants.{Accepted, Broken, Refused}
use Rattle.judge.specs.Judge.{First, none, at, or_here, first_below, verdict_by, verdict_of}
use Rattle.judge.specs.Rules.{at_memory_command, completes, accepts_copy, wanted_bits, shown_since_write, devices_at, moment_of, moments_of, breaks_a, count_below, breaks_b, breaks_c}
use Rattle.judge.proofs.Devices.{devices-next}
use Rattle.judge.proofs.Shown.{here-cases, answer_at}

-- ---- the pass

-- B and C at event k, which finds the devices so
abbrev pub broken_b : ℕ → Event → List Device → Bool
broken_b n event now =
    ltb 1 (count_below n (λ i. at_memory_command (moment_of event now i).device))
    && some_below n (λ i. completes 0x0F (moment_of event now i) || completes 0x55 (moment_of event now i))

abbrev pub broken_c : List ℕ → List Device → ℕ → Event → List Device → Bool
broken_c trace ds k event now =
    some_below (length ds) (λ i.
    accepts_copy (moment_of event now i)
    && not (shown_since_write (wanted_bits (moment_of event now i).device.body) (moments_of (take k trace) ds i)))

-- the earliest of B and C stays
abbrev pub or_broken : Verdict → ℕ → Bool → Bool → Verdict
or_broken Accepted k b c = cond b (Broken rules.Command k) (cond c (Broken rules.Copy k) Accepted)
or_broken (Broken rule j) k b c = Broken rule j
or_broken (Refused number) k b c = Refused number

-- A goes before it
abbrev pub after_a : First → Verdict → Verdict
after_a (at k) v = Broken rules.Answers k
after_a none v = v

abbrev pub pass_from : List ℕ → List ℕ → List Device → ℕ → ℕ → List Device → First → Verdict → Verdict
pass_from trace answers ds k zero now first v = after_a first v
pass_from trace answers ds k (suc left) now first v =
    let event = event_of (get_or trace k 0) in
    let level = level_of event now in
    pass_from trace answers ds (suc k) left (map (next_device event level) now)
    (or_here first k (not (eqb (get_or answers k 0) (level_byte level))))
    (or_broken v k (broken_b (length ds) event now) (broken_c trace ds k event now))

-- ---- is the verdict

module _ (trace answers : List ℕ) (ds : List Device) where
  abbrev B : ℕ → Bool
  B k = breaks_b trace ds k

  abbrev C : ℕ → Bool
  C k = breaks_c trace ds k

  abbrev A : ℕ → Bool
  A k = breaks_a trace answers ds k

  abbrev later : ℕ → Verdict
  later k = verdict_by none (first_below k (λ j. B j || C j)) B

  broken-step : (f : First) (k : ℕ) → or_broken (verdict_by none f B) k (B k) (C k) ≡ verdict_by none (or_here f k (B k || C k)) B
  unfolding verdict_by or_here
  broken-step (at j) k = refl
  broken-step none k = here-cases B k (B k) (C k) refl

  a-is : (k : ℕ) → k < length trace → not (eqb (get_or answers k 0) (level_byte (level_of (event_of (get_or trace k 0)) (devices_at trace ds k)))) ≡ A k
  unfolding breaks_a
  a-is k h = ap (λ (x : ℕ). not (eqb (get_or answers k 0) x)) (sym (answer_at trace ds k h))

  b-is : (k : ℕ) → broken_b (length ds) (event_of (get_or trace k 0)) (devices_at trace ds k) ≡ B k
  unfolding breaks_b
  b-is k = refl

  c-is : (k : ℕ) → broken_c trace ds k (event_of (get_or trace k 0)) (devices_at trace ds k) ≡ C k
  unfolding breaks_c
  c-is k = refl

  after_is : (a f : First) → after_a a (verdict_by none f B) ≡ verdict_by a f B
  unfolding verdict_by
  after_is (at k) f = refl
  after_is none f = refl

  pass-is : (left k : ℕ) → k + left ≡ length trace
      → pass_from trace answers ds k left (devices_at trace ds k) (first_below k A) (later k) ≡ verdict_of trace answers ds
  unfolding first_below verdict_of
  pass-is zero k n =
      let e : k ≡ length trace = omega (arith, n) in
      after_is (first_below k A) (first_below k (λ j. B j || C j))
      ∙ ap (λ (x : ℕ). verdict_by (first_below x A) (first_below x (λ j. B j || C j)) B) e
  pass-is (suc left) k n =
      let h : k < length trace = omega (arith, n) in
      (λ i. pass_from trace answers ds (suc k) left (sym (devices-next trace ds k h) i) (or_here (first_below k A) k (a-is k h i)) (or_broken (later k) k (b-is k i) (c-is k i)))
      ∙ ap (pass_from trace answers ds (suc k) left (devices_at trace ds (suc k)) (first_below (suc k) A)) (broken-step (first_below k (λ j. B j || C j)) k)
      ∙ pass-is left (suc k) (omega (arith, n))

  pub one-pass : pass_from trace answers ds 0 (length trace) ds none Accepted ≡ verdict_of trace answers ds
  unfolding run_trace first_below verdict_by
  one-pass = pass-is (length trace) 0 (omega arith)
