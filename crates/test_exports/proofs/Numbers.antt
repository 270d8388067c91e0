-- Where a run is not refused, the numbers that the loop below `probe_looked` writes are those that `specs/Looked.antt`
-- says; and an image that is not refused is no longer than the copy that is made of it. Assumes nothing.
use Prim.Native.Nat.{ℕ, zero, suc, ◌+◌, ◌-◌, ◌≤◌}
use mathlib.Core.Path.{◌≡◌, refl, sym, ap, ◌∙◌}
use mathlib.Core.List.{List, [], ◌∷◌, ◌++◌}
use native.Mathlib.Omega.{arith}
use lib.ListN.{length, get_or, set, take, drop, replicate, length-set, length-replicate, replicate-append-replicate}
use lib.Seq.{sets, length-sets, sets-eq, take_at, length-take-le, set_at, take-suc, drop-cons, append_snoc, take-length}
use Rattle.image.specs.Image.{count_of}
use Rattle.image.specs.Refusal.{image_refusal}
use Rattle.image.specs.declared.Refusal.{Refusal}
use Rattle.image.specs.declared.Refusal.TheVariants.{MalformedImage, MisplacedBody, WrongCode, EqualCodes, BadTrace, NoFirstReset, BadPulse, NoRoom}
use Rattle.image.specs.Refusal.{refusal_number}
use Rattle.image.proofs.Accepted.{Known, accepted-known}
use Rattle.device.specs.declared.LineState.{LineState}
use Rattle.device.specs.Device.{waiting_state}
use Rattle.bus.specs.declared.Event.{Event}
use Rattle.bus.specs.declared.Event.TheVariants.{Slot, Reset, Pulse, OverdriveSlot, OverdriveReset}
use Rattle.bus.specs.Bus.{Device, event_of, looked_at, bus_step, with_answer, run_trace}
use Rattle.bus.specs.Run.{waiting_devices, states_of}
use Rattle.bus.specs.Refusal.{run_refusal}
use Rattle.bus.specs.Loops.{looked_on, RunState, run_state, run_events_up_to}
use Rattle.bus.proofs.Laws.{admitted}
use Rattle.bus.proofs.Looked.{looked-few}
use Rattle.bus.proofs.Ranges.{AllIn, run_in}
use Rattle.bus.proofs.Runs.{run-same, same_length}
use Rattle.bus.proofs.Shown.{Stand, stand-same, image_of, looked-is, events-are, waiting-all, waiting-stands}
use Rattle.bus.proofs.Shown.{waiting-in, waiting-image, waiting-states}
use Rattle.test_exports.specs.Looked.{looked_byte, looked_in, looked_after}
use Rattle.test_exports.specs.Loops.{number_for, number_of, numbers}

-- ---- the longest image

pub image-most : (image : List ℕ) → image_refusal image ≡ 0 → length image ≤ 65535
image-most image e = (accepted-known image e).short

-- the copy: the front of so many bytes, where it has room there
pub copy-length : (image : List ℕ) (m : ℕ) → length (sets (replicate m 0) 0 image) ≡ m
copy-length image m = length-sets (replicate m 0) 0 image ∙ length-replicate m 0

pub copy_holds : (image : List ℕ) (m : ℕ) → length image ≤ m
    → take (length image) (sets (replicate m 0) 0 image) ≡ image
copy_holds image m h =
    let zeros : List ℕ = replicate m 0 in
    let size : length zeros ≡ m = length-replicate m 0 in
    let rest : List ℕ = drop (0 + length image) zeros in
    ap (λ (l : List ℕ). take (length image) l)
    (sets-eq image zeros 0 (omega (arith, h, size)))
    ∙ take_at image rest (length image) refl

-- ---- the numbers of a trace

looked-append : (t u : List ℕ) (ds : List Device)
    → looked_in (t ++ u) ds ≡ looked_in t ds ++ looked_in u (run_trace t ds).devices
unfolding looked_in run_trace with_answer
looked-append [] u ds = refl
looked-append (byte ∷ t) u ds =
    ap (λ (l : List ℕ). looked_byte (event_of byte) ds ∷ l) (looked-append t u (bus_step (event_of byte) ds).devices)

looked-length : (t : List ℕ) (ds : List Device) → length (looked_in t ds) ≡ length t
unfolding looked_in
looked-length [] ds = refl
looked-length (byte ∷ t) ds = ap suc (looked-length t (bus_step (event_of byte) ds).devices)

-- the byte that is written for an event
number-for : (event : Event) (ds : List Device) → length ds ≤ 64 → number_for event (looked_at event ds) ≡ looked_byte event ds
unfolding number_for looked_byte
number-for (Slot sent) ds few = omega (arith, few, looked-few (Slot sent) ds)
number-for Reset ds few = refl
number-for Pulse ds few = refl
number-for (OverdriveSlot sent) ds few = omega (arith, few, looked-few (OverdriveSlot sent) ds)
number-for OverdriveReset ds few = refl

number_is : (byte : ℕ) (ds : List Device) → length ds ≤ 64
    → number_of byte (looked_at (event_of byte) ds) ≡ looked_byte (event_of byte) ds
unfolding number_of
number_is byte ds few = number-for (event_of byte) ds few

pub numbers-length : (trace : List ℕ) (n k : ℕ) (s : RunState) → length (numbers trace n k s) ≡ length s.answers
unfolding numbers
numbers-length trace n zero s = refl
numbers-length trace n (suc k) s = length-set (numbers trace n k s) k _ ∙ numbers-length trace n k s

-- ---- the loop, on devices that stand at the entries of an image
module _ (image : List ℕ) (known : Known image) (tail : List LineState) (trace looked : List ℕ)
    (room : length trace ≤ length looked) (ds : List Device) (stand : Stand image 0 ds)
    (all : length ds ≡ count_of image) (ranged : AllIn ds) where
  -- the state on entry, and the devices after k events
  abbrev entry : RunState
  entry = run_state (image_of image known ds) looked (states_of ds ++ tail)

  abbrev after : ℕ → List Device
  after k = (run_trace (take k trace) ds).devices

  number_at : (k : ℕ) → k ≤ length trace
      → number_of (get_or trace k 0)
      (looked_on (run_events_up_to trace (count_of image) k entry).lines (count_of image) (get_or trace k 0))
      ≡ looked_byte (event_of (get_or trace k 0)) (after k)
  number_at k h =
      let byte = get_or trace k 0 in
      let same = run-same (take k trace) ds in
      let all' : length (after k) ≡ count_of image = same_length same ∙ all in
      ap (λ (s : RunState). number_of byte (looked_on s.lines (count_of image) byte))
      (events-are image known tail trace looked room ds stand all ranged k h)
      ∙ ap (number_of byte) (looked-is image known tail (after k) (stand-same image 0 same stand) all'
      (run_in (take k trace) ds ranged) byte)
      ∙ number_is byte (after k) (omega (arith, all', known.few))

  numbers-are : (k : ℕ) → k ≤ length trace
      → numbers trace (count_of image) k entry ≡ looked_in (take k trace) ds ++ drop k looked
  unfolding numbers looked_in
  numbers-are zero h = refl
  numbers-are (suc k) h =
      let byte = get_or trace k 0 in
      let b = looked_byte (event_of byte) (after k) in
      let len : length (looked_in (take k trace) ds) ≡ k =
      looked-length (take k trace) ds ∙ length-take-le k trace (omega (arith, h)) in
      ap (λ (x : ℕ). set (numbers trace (count_of image) k entry) k x) (number_at k (omega (arith, h)))
      ∙ ap (λ (l : List ℕ). set l k b) (numbers-are k (omega (arith, h))
      ∙ ap (λ (l : List ℕ). looked_in (take k trace) ds ++ l) (drop-cons looked k 0 (omega (arith, h, room))))
      ∙ set_at (looked_in (take k trace) ds) (get_or looked k 0) (drop (suc k) looked) b k len
      ∙ sym (append_snoc (looked_in (take k trace) ds) b (drop (suc k) looked))
      ∙ ap (λ (l : List ℕ). l ++ drop (suc k) looked)
      (sym (ap (λ (t : List ℕ). looked_in t ds) (take-suc trace k 0 h) ∙ looked-append (take k trace) (byte ∷ []) ds))

-- ---- a run that is not refused

-- 64 line states that wait: those of the devices, and others behind them
waiting-lines : (image : List ℕ) (known : Known image)
    → replicate 64 waiting_state ≡ states_of (waiting_devices image) ++ replicate (64 - count_of image) waiting_state
waiting-lines image known =
    let n = count_of image in
    let sum : n + (64 - n) ≡ 64 = omega (arith, known.few) in
    ap (λ (m : ℕ). replicate m waiting_state) (sym sum)
    ∙ sym (replicate-append-replicate n (64 - n) waiting_state)
    ∙ ap (λ (l : List LineState). l ++ replicate (64 - n) waiting_state) (sym (waiting-states image known))

pub numbers-shown : (image trace looked : List ℕ) → run_refusal image trace (length looked) 64 ≡ 0
    → numbers trace (count_of image) (length trace) (run_state image looked (replicate 64 waiting_state))
    ≡ looked_in trace (waiting_devices image) ++ drop (length trace) looked
numbers-shown image trace looked e =
    let has = admitted image trace (length looked) 64 e in
    let known = accepted-known image has.image-accepted in
    let n = count_of image in
    let ds = waiting_devices image in
    let tail : List LineState = replicate (64 - n) waiting_state in
    ap (λ (l : List LineState). numbers trace n (length trace) (run_state image looked l)) (waiting-lines image known)
    ∙ ap (λ (l : List ℕ). numbers trace n (length trace) (run_state l looked (states_of ds ++ tail)))
    (sym (waiting-image image known))
    ∙ numbers-are image known tail trace looked has.answers-room ds (waiting-stands image known)
    (waiting-all image known) (waiting-in image known) (length trace) (omega arith)
    ∙ ap (λ (t : List ℕ). looked_in t ds ++ drop (length trace) looked) (take-length trace)

-- what is refused changes nothing
pub after-refused : (refusal : Refusal) (image trace looked : List ℕ)
    → looked ≡ looked_after (refusal_number refusal) image trace looked
unfolding looked_after refusal_number
after-refused MalformedImage image trace looked = refl
after-refused MisplacedBody image trace looked = refl
after-refused WrongCode image trace looked = refl
after-refused EqualCodes image trace looked = refl
after-refused BadTrace image trace looked = refl
after-refused NoFirstReset image trace looked = refl
after-refused BadPulse image trace looked = refl
after-refused NoRoom image trace looked = refl
