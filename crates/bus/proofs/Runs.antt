-- Laws of the run of a trace on devices. Assumes nothing.
--     run-append       the run of t ++ u is the run of u on what t leaves
--     run_length       one answer per event
--     copied-append    the bytes copied in t ++ u are those in t, and those in u on what t leaves
--     copied-most      a trace on 64 devices or fewer copies at most 2,048 bytes per event
--     Same, run-same   a run changes no device's kind, no body's length, no code, and no body where the battery is flat
use Prim.Native.Nat.{ℕ, zero, suc, ◌+◌, ◌*◌, ◌≤◌}
use mathlib.Core.Path.{◌≡◌, refl, ap, ◌∙◌}
use mathlib.Core.Bool.{Bool, true, false, cond}
use mathlib.Core.List.{List, [], ◌∷◌, ◌++◌, map}
use native.Mathlib.Omega.{arith}
use lib.ListN.{length, take, drop}
use Rattle.kind.specs.Kind.{code_length, is_flat}
use Rattle.device.proofs.Laws.{write-length, reset-length, program-length, write-code, reset-code, program-code}
use Rattle.device.proofs.Laws.{slot-copies}
use Rattle.device.proofs.Laws.{flat-write, flat-reset, flat-program}
use Rattle.bus.specs.declared.Event.{Event}
use Rattle.bus.specs.declared.Event.TheVariants.{Slot, Reset, Pulse, OverdriveSlot, OverdriveReset}
use Rattle.bus.specs.Bus.{Device, event_of, next_body, next_device, bus_step_at, bus_step, Run, with_answer, run_trace}
use Rattle.bus.specs.Bus.{taken_state, hears, heard_body, heard_copied, level_of, copied_in, copied_by_all, copied_in_trace}

-- ---- one trace after another

-- what was answered before, and the run after it
abbrev pub run_after : List ℕ → Run → Run
run_after answers ran = record { answers = answers ++ ran.answers; devices = ran.devices }

pub run-append : (t u : List ℕ) (ds : List Device) → run_trace (t ++ u) ds ≡ run_after (run_trace t ds).answers (run_trace u (run_trace t ds).devices)
unfolding run_trace with_answer
run-append [] u ds = refl
run-append (byte ∷ t) u ds = ap (with_answer (bus_step (event_of byte) ds).level) (run-append t u (bus_step (event_of byte) ds).devices)

-- ---- one answer per event
pub run_length : (t : List ℕ) (ds : List Device) → length (run_trace t ds).answers ≡ length t
unfolding run_trace with_answer
run_length [] ds = refl
run_length (byte ∷ t) ds = ap suc (run_length t (bus_step (event_of byte) ds).devices)

-- ---- what a run does not change
pub record Same (d e : Device) : Type 0 where
  pub kind : d.kind ≡ e.kind
  pub size : length d.body ≡ length e.body
  pub code : take code_length d.body ≡ take code_length e.body
  pub flat : is_flat e.kind ≡ true → d.body ≡ e.body

pub data AllSame : List Device → List Device → Type 0 where
  none : AllSame [] []
  also : {d e : Device} {ds es : List Device} → Same d e → AllSame ds es → AllSame (d ∷ ds) (e ∷ es)

heard-length : (event : Event) (level : Bool) (d : Device) → length (heard_body event level d) ≡ length d.body
unfolding heard_body
heard-length (Slot sent) level d = write-length d.state d.kind d.body level
heard-length Reset level d = reset-length d.state d.kind d.body
heard-length Pulse level d = program-length d.state d.kind d.body
heard-length (OverdriveSlot sent) level d = write-length d.state d.kind d.body level
heard-length OverdriveReset level d = reset-length d.state d.kind d.body

heard-code : (event : Event) (level : Bool) (d : Device) → take code_length (heard_body event level d) ≡ take code_length d.body
unfolding heard_body
heard-code (Slot sent) level d = write-code d.state d.kind d.body level
heard-code Reset level d = reset-code d.state d.kind d.body
heard-code Pulse level d = program-code d.state d.kind d.body
heard-code (OverdriveSlot sent) level d = write-code d.state d.kind d.body level
heard-code OverdriveReset level d = reset-code d.state d.kind d.body

heard-flat : (event : Event) (level : Bool) (d : Device) → is_flat d.kind ≡ true → heard_body event level d ≡ d.body
unfolding heard_body
heard-flat (Slot sent) level d flat = flat-write d.state d.kind d.body flat level
heard-flat Reset level d flat = flat-reset d.state d.kind d.body flat
heard-flat Pulse level d flat = flat-program d.state d.kind d.body flat
heard-flat (OverdriveSlot sent) level d flat = flat-write d.state d.kind d.body flat level
heard-flat OverdriveReset level d flat = flat-reset d.state d.kind d.body flat

-- what holds of a body that is heard and of the one before holds of the next
next-body : (P : List ℕ → Type 0) (event : Event) (level : Bool) (d : Device) → P (heard_body event level d) → P d.body
    → P (next_body event level d)
unfolding next_body
next-body P event level d p q = choose (hears event (taken_state d))
  where
    choose : (heard : Bool) → P (cond heard (heard_body event level d) d.body)
    choose true = p
    choose false = q

pub next-length : (event : Event) (level : Bool) (d : Device) → length (next_body event level d) ≡ length d.body
next-length event level d =
    next-body (λ (l : List ℕ). length l ≡ length d.body) event level d (heard-length event level d) refl

next-code : (event : Event) (level : Bool) (d : Device) → take code_length (next_body event level d) ≡ take code_length d.body
next-code event level d =
    next-body (λ (l : List ℕ). take code_length l ≡ take code_length d.body) event level d (heard-code event level d) refl

-- no event changes the body of a device with a flat battery, at any level and in any line state
pub next-flat : (event : Event) (level : Bool) (d : Device) → is_flat d.kind ≡ true → next_body event level d ≡ d.body
next-flat event level d flat = next-body (λ (l : List ℕ). l ≡ d.body) event level d (heard-flat event level d flat) refl

pub next-same : (event : Event) (level : Bool) (d : Device) → Same (next_device event level d) d
unfolding next_device
next-same event level d =
    record { kind = refl; size = next-length event level d; code = next-code event level d; flat = next-flat event level d }

pub all-next : (event : Event) (level : Bool) (ds : List Device) → AllSame (map (next_device event level) ds) ds
all-next event level [] = none
all-next event level (d ∷ ds) = also (next-same event level d) (all-next event level ds)

pub all-self : (ds : List Device) → AllSame ds ds
all-self [] = none
all-self (d ∷ ds) = also (record { kind = refl; size = refl; code = refl; flat = λ _. refl }) (all-self ds)

pub all-trans : {cs ds es : List Device} → AllSame cs ds → AllSame ds es → AllSame cs es
all-trans none none = none
all-trans (also a p) (also b q) =
    also
    (record {
      kind = a.kind ∙ b.kind;
      size = a.size ∙ b.size;
      code = a.code ∙ b.code;
      flat = λ e. a.flat (ap is_flat b.kind ∙ e) ∙ b.flat e;
    })
    (all-trans p q)

pub run-same : (t : List ℕ) (ds : List Device) → AllSame (run_trace t ds).devices ds
unfolding run_trace with_answer bus_step bus_step_at
run-same [] ds = all-self ds
run-same (byte ∷ t) ds = all-trans (run-same t (bus_step (event_of byte) ds).devices) (all-next (event_of byte) (bus_step (event_of byte) ds).level ds)

pub same_length : {ds es : List Device} → AllSame ds es → length ds ≡ length es
same_length none = refl
same_length (also a p) = ap suc (same_length p)

-- where the first i of them have been changed
pub part_same : (event : Event) (level : Bool) (i : ℕ) (ds : List Device) → AllSame (map (next_device event level) (take i ds) ++ drop i ds) ds
part_same event level zero ds = all-self ds
part_same event level (suc i) [] = none
part_same event level (suc i) (d ∷ ds) = also (next-same event level d) (part_same event level i ds)

-- ---- the bytes copied

pub copied-append : (t u : List ℕ) (ds : List Device)
    → copied_in_trace (t ++ u) ds ≡ copied_in_trace t ds + copied_in_trace u (run_trace t ds).devices
unfolding copied_in_trace run_trace with_answer
copied-append [] u ds = omega arith
copied-append (byte ∷ t) u ds =
    let bus = bus_step (event_of byte) ds in
    omega (arith, copied-append t u bus.devices)

-- those of one event
pub copied-once : (byte : ℕ) (ds : List Device)
    → copied_in_trace (byte ∷ []) ds ≡ copied_by_all (event_of byte) (level_of (event_of byte) ds) ds
unfolding copied_in_trace bus_step bus_step_at
copied-once byte ds = omega arith

-- those of devices one after another
pub all-copied-append : (event : Event) (level : Bool) (ds es : List Device)
    → copied_by_all event level (ds ++ es) ≡ copied_by_all event level ds + copied_by_all event level es
unfolding copied_by_all
all-copied-append event level [] es = omega arith
all-copied-append event level (d ∷ ds) es = omega (arith, all-copied-append event level ds es)

-- how many they are at most
heard-copied-most : (event : Event) (level : Bool) (d : Device) → heard_copied event level d ≤ 32
unfolding heard_copied
heard-copied-most (Slot sent) level d = slot-copies d.state d.kind d.body level
heard-copied-most Reset level d = omega arith
heard-copied-most Pulse level d = omega arith
heard-copied-most (OverdriveSlot sent) level d = slot-copies d.state d.kind d.body level
heard-copied-most OverdriveReset level d = omega arith

pub one-copied-most : (event : Event) (level : Bool) (d : Device) → copied_in event level d ≤ 32
unfolding copied_in
one-copied-most event level d = choose (hears event (taken_state d))
  where
    choose : (heard : Bool) → cond heard (heard_copied event level d) 0 ≤ 32
    choose true = heard-copied-most event level d
    choose false = omega arith

pub all-copied-most : (event : Event) (level : Bool) (ds : List Device)
    → copied_by_all event level ds ≤ 32 * length ds
unfolding copied_by_all
all-copied-most event level [] = omega arith
all-copied-most event level (d ∷ ds) =
    omega (arith, one-copied-most event level d, all-copied-most event level ds)

pub copied-most : (t : List ℕ) (ds : List Device) → length ds ≤ 64 → copied_in_trace t ds ≤ 2048 * length t
unfolding copied_in_trace bus_step bus_step_at
copied-most [] ds few = omega arith
copied-most (byte ∷ t) ds few =
    let bus = bus_step (event_of byte) ds in
    let same : length bus.devices ≡ length ds = same_length (all-next (event_of byte) bus.level ds) in
    omega (
      arith,
      all-copied-most (event_of byte) bus.level ds,
      copied-most t bus.devices (omega (arith, same, few)),
    )
