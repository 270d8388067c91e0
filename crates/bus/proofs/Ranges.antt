-- Devices whose line states are in range: events keep them there, and there a line state taken as it is gives what document 01 says.
-- Assumes nothing.
--     InRange, AllIn           a device, or every device of a list, is in range
--     next-in, all-next-in     an event keeps them in range;  run_in  so does a run
--     as-it-is-state, -body    one device's next line state and body, worked out without the test
--     as-it-is-copied          the bytes that it copies
--     level-as-it-is           the level of an event on devices in range
--     looked-as-it-is          how many of them it looks at
use Prim.Native.Nat.{ℕ, zero, suc}
use mathlib.Core.Path.{◌≡◌, refl, sym, ap, ◌∙◌}
use mathlib.Core.Bool.{Bool, true, false, cond, not, ◌&&◌, ◌||◌}
use mathlib.Core.List.{List, [], ◌∷◌, ◌++◌, map}
use lib.ListN.{take, drop}
use Rattle.device.specs.declared.LineState.{LineState}
use Rattle.device.specs.Device.{line_state_in_range, sends_of}
use Rattle.device.proofs.Range.{sized, taken-as-is, overdrive-reset-in-range}
use Rattle.device.proofs.Range.{step-in-range, reset-in-range, pulse-in-range, waiting-in-range, sends-same, step_same, write_same, copies-same, reset-same, pulse-same, program-same}
use Rattle.bus.specs.declared.Event.{Event}
use Rattle.bus.specs.declared.Event.TheVariants.{Slot, Reset, Pulse, OverdriveSlot, OverdriveReset}
use Rattle.bus.specs.Bus.{Device, event_of, hears, answers_low, taken_state, heard_state, heard_body, unheard_state, pulls_low, some_low, master_high, level_of, next_state, next_body, next_device, bus_step_at, bus_step, with_answer, run_trace}
use Rattle.bus.specs.Bus.{up_to_first_low, read_slot, looked_at, heard_copied, copied_in}
use Rattle.bus.specs.Run.{states_of}
use Rattle.bus.specs.Loops.{heard_state_as_is, heard_body_as_is, heard_copied_as_is, next_state_as_is, next_body_as_is, answers_high, leaves_high, all_high, level_as_is}
use Rattle.bus.specs.Loops.{up_to_low, looked_as_is, copied_as_is}

abbrev pub InRange : Device → Type 0
InRange d = line_state_in_range d.state d.kind d.body ≡ true

abbrev pub AllIn : List Device → Type 0
AllIn [] = Unit {0}
AllIn (d ∷ ds) = InRange d × AllIn ds

-- ---- one device

module _ (d : Device) (ranged : InRange d) where
  taken_is : taken_state d ≡ d.state
  unfolding taken_state
  taken_is = taken-as-is d.state d.kind d.body ranged

  heard-state : (event : Event) (level : Bool) → heard_state_as_is event level d ≡ heard_state event level d
  unfolding heard_state_as_is heard_state
  heard-state (Slot sent) level = sym (step_same d.state d.kind d.body ranged level)
  heard-state Reset level = refl
  heard-state Pulse level = sym (pulse-same d.state d.kind d.body ranged)
  heard-state (OverdriveSlot sent) level = sym (step_same d.state d.kind d.body ranged level)
  heard-state OverdriveReset level = refl

  heard-body : (event : Event) (level : Bool) → heard_body_as_is event level d ≡ heard_body event level d
  unfolding heard_body_as_is heard_body
  heard-body (Slot sent) level = sym (write_same d.state d.kind d.body ranged level)
  heard-body Reset level = sym (reset-same d.state d.kind d.body ranged)
  heard-body Pulse level = sym (program-same d.state d.kind d.body ranged)
  heard-body (OverdriveSlot sent) level = sym (write_same d.state d.kind d.body ranged level)
  heard-body OverdriveReset level = sym (reset-same d.state d.kind d.body ranged)

  heard-copied : (event : Event) (level : Bool) → heard_copied_as_is event level d ≡ heard_copied event level d
  unfolding heard_copied_as_is heard_copied
  heard-copied (Slot sent) level = sym (copies-same d.state d.kind d.body ranged level)
  heard-copied Reset level = refl
  heard-copied Pulse level = refl
  heard-copied (OverdriveSlot sent) level = sym (copies-same d.state d.kind d.body ranged level)
  heard-copied OverdriveReset level = refl

  pub as-it-is-state : (event : Event) (level : Bool) → next_state_as_is event level d ≡ next_state event level d
  unfolding next_state_as_is next_state
  as-it-is-state event level = λ i.
      cond (hears event (sym taken_is i)) (heard-state event level i) (unheard_state event (sym taken_is i))

  pub as-it-is-body : (event : Event) (level : Bool) → next_body_as_is event level d ≡ next_body event level d
  unfolding next_body_as_is next_body
  as-it-is-body event level = λ i. cond (hears event (sym taken_is i)) (heard-body event level i) d.body

  pub as-it-is-copied : (event : Event) (level : Bool) → copied_as_is event level d ≡ copied_in event level d
  unfolding copied_as_is copied_in
  as-it-is-copied event level = λ i. cond (hears event (sym taken_is i)) (heard-copied event level i) 0

  heard-in : (event : Event) (level : Bool) → hears event d.state ≡ true
      → line_state_in_range (heard_state_as_is event level d) d.kind (heard_body_as_is event level d) ≡ true
  unfolding heard_state_as_is heard_body_as_is hears
  heard-in (Slot sent) level heard = step-in-range d.state d.kind d.body ranged level
  heard-in Reset level heard = reset-in-range d.state d.kind d.body ranged
  heard-in Pulse level heard = pulse-in-range d.state d.kind d.body ranged
  heard-in (OverdriveSlot sent) level heard = step-in-range d.state d.kind d.body ranged level
  heard-in OverdriveReset level heard = overdrive-reset-in-range d.state d.kind d.body ranged heard

  unheard-in : (event : Event) → line_state_in_range (unheard_state event d.state) d.kind d.body ≡ true
  unfolding unheard_state
  unheard-in (Slot sent) = waiting-in-range d.kind d.body (sized d.state d.kind d.body ranged)
  unheard-in Reset = ranged
  unheard-in Pulse = ranged
  unheard-in (OverdriveSlot sent) = ranged
  unheard-in OverdriveReset = ranged

  as-it-is-in : (event : Event) (level : Bool) → line_state_in_range (next_state_as_is event level d) d.kind (next_body_as_is event level d) ≡ true
  unfolding next_state_as_is next_body_as_is
  as-it-is-in event level = choose (hears event d.state) refl
    where
      choose : (heard : Bool) → hears event d.state ≡ heard
          → line_state_in_range (cond heard (heard_state_as_is event level d) (unheard_state event d.state)) d.kind
          (cond heard (heard_body_as_is event level d) d.body) ≡ true
      choose true e = heard-in event level e
      choose false e = unheard-in event

  -- an event keeps it in range
  pub next-in : (event : Event) (level : Bool) → InRange (next_device event level d)
  unfolding next_device
  next-in event level = rw (sym (as-it-is-state event level), sym (as-it-is-body event level)) (as-it-is-in event level)

-- ---- all devices

pub all-next-in : (event : Event) (level : Bool) (ds : List Device) → AllIn ds → AllIn (map (next_device event level) ds)
all-next-in event level [] r = tt
all-next-in event level (d ∷ ds) r = (next-in d r.0 event level, all-next-in event level ds r.1)

pub run_in : (t : List ℕ) (ds : List Device) → AllIn ds → AllIn (run_trace t ds).devices
unfolding run_trace with_answer bus_step bus_step_at
run_in [] ds r = r
run_in (byte ∷ t) ds r =
    run_in t (bus_step (event_of byte) ds).devices (all-next-in (event_of byte) (bus_step (event_of byte) ds).level ds r)

-- where the first i of them have been changed
pub part_in : (event : Event) (level : Bool) (i : ℕ) (ds : List Device) → AllIn ds → AllIn (map (next_device event level) (take i ds) ++ drop i ds)
part_in event level zero ds r = r
part_in event level (suc i) [] r = tt
part_in event level (suc i) (d ∷ ds) r = (next-in d r.0 event level, part_in event level i ds r.1)

-- one of them
pub in-at : (xs : List Device) (d : Device) (ys : List Device) → AllIn (xs ++ d ∷ ys) → InRange d
in-at [] d ys r = r.0
in-at (x ∷ xs) d ys r = in-at xs d ys r.1

-- ---- the level of an event

pub double : (b : Bool) → not (not b) ≡ b
double true = refl
double false = refl

answers : (event : Event) (d : Device) → InRange d → answers_high event d.state ≡ not (answers_low event d)
unfolding answers_high answers_low
answers (Slot sent) d r = sym (double (sends_of d.state d.kind d.body) ∙ sends-same d.state d.kind d.body r)
answers Reset d r = refl
answers Pulse d r = refl
answers (OverdriveSlot sent) d r =
    sym (double (sends_of d.state d.kind d.body) ∙ sends-same d.state d.kind d.body r)
answers OverdriveReset d r = refl

module _ (event : Event) where
  -- one device
  one-as-it-is : (d : Device) → InRange d → leaves_high event d.state ≡ not (pulls_low event d)
  unfolding leaves_high pulls_low
  one-as-it-is d r =
      ap (λ (s : LineState). not (hears event s) || answers_high event d.state) (sym (taken_is d r))
      ∙ ap (λ (b : Bool). not (hears event (taken_state d)) || b) (answers event d r)
      ∙ choose (hears event (taken_state d)) (answers_low event d)
    where
      choose : (heard low : Bool) → (not heard || not low) ≡ not (heard && low)
      choose true low = refl
      choose false low = refl

  high-as-it-is : (ds : List Device) → AllIn ds → all_high event (states_of ds) ≡ not (some_low event ds)
  unfolding all_high some_low
  high-as-it-is [] r = refl
  high-as-it-is (d ∷ ds) r =
      rw (high-as-it-is ds r.1, one-as-it-is d r.0) (choose (pulls_low event d) (some_low event ds))
    where
      choose : (one low : Bool) → (not one && not low) ≡ not (one || low)
      choose true low = refl
      choose false low = refl

  pub level-as-it-is : (ds : List Device) → AllIn ds → level_as_is event (states_of ds) ≡ level_of event ds
  unfolding level_as_is level_of
  level-as-it-is ds r =
      ap (λ (b : Bool). master_high event && b) (high-as-it-is ds r) ∙ choose (master_high event) (some_low event ds)
    where
      choose : (high low : Bool) → (high && not low) ≡ not (not high || low)
      choose true low = refl
      choose false low = refl

  -- ---- how many devices it looks at

  up-to-low-as-it-is : (ds : List Device) → AllIn ds → up_to_low event (states_of ds) ≡ up_to_first_low event ds
  unfolding up_to_low up_to_first_low
  up-to-low-as-it-is [] r = refl
  up-to-low-as-it-is (d ∷ ds) r =
      rw (up-to-low-as-it-is ds r.1, one-as-it-is d r.0) (ap suc (choose (pulls_low event d) (up_to_first_low event ds)))
    where
      choose : (low : Bool) (rest : ℕ) → cond (not low) rest 0 ≡ cond low 0 rest
      choose true rest = refl
      choose false rest = refl

  pub looked-as-it-is : (ds : List Device) → AllIn ds → looked_as_is event (states_of ds) ≡ looked_at event ds
  unfolding looked_as_is looked_at
  looked-as-it-is ds r = ap (λ (n : ℕ). cond (read_slot event) n 0) (up-to-low-as-it-is ds r)
