-- Laws of the verdict. Assumes nothing.
--     own-answers      the bench's own answers never break rule A
--     quiet-accepted   a session whose slots all find the devices in the ROM stage is accepted with the bench's own answers
--     work-as-run      the work space takes the image that a run of the trace leaves, and the line states are the run's
use Prim.Native.Nat.{ℕ, zero, suc, ◌<◌}
use mathlib.Core.Path.{◌≡◌, refl, sym, ap, ◌∙◌}
use mathlib.Core.Bool.{Bool, true, false, not, cond, ◌&&◌, ◌||◌}
use mathlib.Core.List.{List, ◌++◌}
use native.Mathlib.Omega.{arith}
use lib.ListN.{length, get_or, take, drop}
use lib.Dec.{eqb, ltb}
use borrow.Author.Tests.{eq-eqb}
use Rattle.kind.specs.declared.Kind.{Kind}
use Rattle.image.specs.Refusal.{some_below}
use Rattle.line.specs.declared.RomStage.{RomStage}
use Rattle.line.specs.declared.RomStage.TheVariants.{Waiting}
use Rattle.line.specs.declared.Stage.{Stage}
use Rattle.line.specs.declared.Stage.TheVariants.{Rom}
use Rattle.line.specs.Transfers.{goes_on, received}
use Rattle.std.specs.Prelude.{None}
use Rattle.device.specs.declared.LineState.{LineState}
use Rattle.device.specs.Device.{waiting_state, stage_copy, copy_in_slot_as_is, copy_in_slot, line_state_in_range, or_waiting}
use Rattle.bus.specs.Bus.{Device, event_of, taken_state, hears, run_trace, is_slot}
use Rattle.bus.specs.Run.{left_by_run, run_at, run_of}
use Rattle.bus.specs.Refusal.{run_refusal}
use Rattle.judge.specs.declared.Verdict.TheVariants.{Accepted}
use Rattle.judge.specs.Judge.{First, none, or_here, first_below, verdict_by, verdict_of, left_by_judge, judge_at, judge_of}
use Rattle.judge.specs.Rules.{Moment, heard_slot, is_last, is_memory_command, at_memory_command, completes, is_made, accepts_copy, wanted_bits, shown_since_write}
use Rattle.judge.specs.Rules.{device_at, devices_at, moment_at, moments_of, breaks_a, count_below, breaks_b, breaks_c}
use Rattle.judge.specs.Refusal.{judge_refusal}

none-differs : (trace : List ℕ) (ds : List Device) (n : ℕ) → first_below n (breaks_a trace (run_trace trace ds).answers ds) ≡ none
unfolding first_below breaks_a or_here
none-differs trace ds zero = refl
none-differs trace ds (suc n) =
    let x = get_or (run_trace trace ds).answers n 0 in
    (λ i. or_here (none-differs trace ds n i) n (not (eq-eqb x x refl i)))

-- the verdict is then that of B and C alone
pub own-answers : (trace : List ℕ) (ds : List Device)
    → verdict_of trace (run_trace trace ds).answers ds
    ≡ verdict_by none (first_below (length trace) (λ k. breaks_b trace ds k || breaks_c trace ds k)) (breaks_b trace ds)
unfolding verdict_of
own-answers trace ds =
    ap (λ (f : First). verdict_by f (first_below (length trace) (λ k. breaks_b trace ds k || breaks_c trace ds k)) (breaks_b trace ds)) (none-differs trace ds (length trace))

pub work-as-run : (image trace answers work room : List ℕ) (lines : List LineState)
    → judge_refusal image trace (length answers) (length work) (length lines) ≡ 0 → run_refusal image trace (length room) (length lines) ≡ 0
    → ((judge_of image trace answers work lines).work ≡ (run_of image trace room lines).image ++ drop (length image) work)
    × ((judge_of image trace answers work lines).lines ≡ (run_of image trace room lines).lines)
unfolding judge_of judge_at left_by_judge run_of run_at left_by_run
work-as-run image trace answers work room lines e f = (
  ap (λ (m : ℕ). (judge_at m image trace answers work lines).work) e ∙ sym (ap (λ (m : ℕ). (run_at m image trace room lines).image ++ drop (length image) work) f),
  ap (λ (m : ℕ). (judge_at m image trace answers work lines).lines) e ∙ sym (ap (λ (m : ℕ). (run_at m image trace room lines).lines) f),
)

-- ---- a session in which no device is at its memory

and_none : (b : Bool) → (b && false) ≡ false
and_none true = refl
and_none false = refl

-- a device in the ROM stage completes no memory command and accepts no copy
no-command : (command : ℕ) (m : Moment) (r : RomStage) → m.device.state.transfer.stage ≡ Rom r → completes command m ≡ false
unfolding completes is_memory_command
no-command command m r e =
    ap (λ (s : Stage). heard_slot m && (is_memory_command s && (is_last m.device && eqb (received m.device.state.transfer m.level) command))) e
    ∙ and_none (heard_slot m)

none_made : (x : Bool) → is_made (cond x None None) ≡ false
unfolding is_made
none_made true = refl
none_made false = refl

no-copy-as-is : (s : LineState) (r : RomStage) → s.transfer.stage ≡ Rom r → (kind : Kind) (body : List ℕ) (level : Bool) → is_made (copy_in_slot_as_is s kind body level) ≡ false
unfolding copy_in_slot_as_is stage_copy
no-copy-as-is s r e kind body level =
    ap (λ (x : Stage). is_made (cond (goes_on s.transfer) None (stage_copy x kind (received s.transfer level) body))) e ∙ none_made (goes_on s.transfer)

no_copy : (m : Moment) (r : RomStage) → m.device.state.transfer.stage ≡ Rom r → accepts_copy m ≡ false
unfolding accepts_copy copy_in_slot or_waiting
no_copy m r e =
    ap (λ (b : Bool). heard_slot m && b) (choose (line_state_in_range m.device.state m.device.kind m.device.body)) ∙ and_none (heard_slot m)
  where
    choose : (x : Bool) → is_made (copy_in_slot_as_is (cond x m.device.state waiting_state) m.device.kind m.device.body m.level) ≡ false
    choose true = no-copy-as-is m.device.state r e m.device.kind m.device.body m.level
    choose false = no-copy-as-is waiting_state Waiting refl m.device.kind m.device.body m.level

-- nor does any device in an event that is no slot
unheard : (m : Moment) → is_slot m.event ≡ false → heard_slot m ≡ false
unfolding heard_slot
unheard m e = ap (λ (b : Bool). b && hears m.event (taken_state m.device)) e

unheard-command : (command : ℕ) (m : Moment) → is_slot m.event ≡ false → completes command m ≡ false
unfolding completes
unheard-command command m e =
    ap (λ (b : Bool). b && (at_memory_command m.device && (is_last m.device && eqb (received m.device.state.transfer m.level) command))) (unheard m e)

unheard-copy : (m : Moment) → is_slot m.event ≡ false → accepts_copy m ≡ false
unfolding accepts_copy
unheard-copy m e = ap (λ (b : Bool). b && is_made (copy_in_slot m.device.state m.device.kind m.device.body m.level)) (unheard m e)

none_below : (p : ℕ → Bool) → ((i : ℕ) → p i ≡ false) → (n : ℕ) → some_below n p ≡ false
unfolding some_below
none_below p f zero = refl
none_below p f (suc n) = (λ i. none_below p f n i || f n i)

first-none : (p : ℕ → Bool) (n : ℕ) → ((k : ℕ) → k < n → p k ≡ false) → first_below n p ≡ none
unfolding first_below or_here
first-none p zero f = refl
first-none p (suc n) f = (λ i. or_here (first-none p n (λ k h. f k (omega (arith, h))) i) n (f n (omega arith) i))

-- where a slot finds the devices
abbrev pub RomAt : List Device → ℕ → Type 0
RomAt ds i = (r : RomStage) × ((device_at ds i).state.transfer.stage ≡ Rom r)

module _ (trace : List ℕ) (ds : List Device)
    (rom : (k : ℕ) → k < length trace → is_slot (event_of (get_or trace k 0)) ≡ true → (i : ℕ) → RomAt (devices_at trace ds k) i) where
  still-command : (k : ℕ) → k < length trace → (command i : ℕ) → completes command (moment_at trace ds k i) ≡ false
  still-command k h command i = choose (is_slot (event_of (get_or trace k 0))) refl
    where
      choose : (x : Bool) → is_slot (event_of (get_or trace k 0)) ≡ x → completes command (moment_at trace ds k i) ≡ false
      choose true e = let r = rom k h e i in no-command command (moment_at trace ds k i) r.0 r.1
      choose false e = unheard-command command (moment_at trace ds k i) e

  still-copy : (k : ℕ) → k < length trace → (i : ℕ) → accepts_copy (moment_at trace ds k i) ≡ false
  still-copy k h i = choose (is_slot (event_of (get_or trace k 0))) refl
    where
      choose : (x : Bool) → is_slot (event_of (get_or trace k 0)) ≡ x → accepts_copy (moment_at trace ds k i) ≡ false
      choose true e = let r = rom k h e i in no_copy (moment_at trace ds k i) r.0 r.1
      choose false e = unheard-copy (moment_at trace ds k i) e

  no-b : (k : ℕ) → k < length trace → breaks_b trace ds k ≡ false
  unfolding breaks_b
  no-b k h =
      ap (λ (b : Bool). ltb 1 (count_below (length ds) (λ i. at_memory_command (moment_at trace ds k i).device)) && b)
      (none_below (λ i. completes 0x0F (moment_at trace ds k i) || completes 0x55 (moment_at trace ds k i)) (λ i. (λ z. still-command k h 0x0F i z || still-command k h 0x55 i z)) (length ds))
      ∙ and_none (ltb 1 (count_below (length ds) (λ i. at_memory_command (moment_at trace ds k i).device)))

  no-c : (k : ℕ) → k < length trace → breaks_c trace ds k ≡ false
  unfolding breaks_c
  no-c k h =
      none_below (λ i. accepts_copy (moment_at trace ds k i) && not (shown_since_write (wanted_bits (moment_at trace ds k i).device.body) (moments_of (take k trace) ds i)))
      (λ i. ap (λ (b : Bool). b && not (shown_since_write (wanted_bits (moment_at trace ds k i).device.body) (moments_of (take k trace) ds i))) (still-copy k h i)) (length ds)

  pub quiet-accepted : verdict_of trace (run_trace trace ds).answers ds ≡ Accepted
  unfolding verdict_by
  quiet-accepted =
      own-answers trace ds
      ∙ ap (λ (f : First). verdict_by none f (breaks_b trace ds))
      (first-none (λ k. breaks_b trace ds k || breaks_c trace ds k) (length trace) (λ k h. (λ z. no-b k h z || no-c k h z)))
