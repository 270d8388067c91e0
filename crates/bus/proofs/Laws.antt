-- Laws that the proofs of this crate cite. Assumes nothing.
use Prim.Native.Nat.{ℕ, zero, suc, ◌+◌, ◌-◌, ◌*◌, ◌^◌, ◌<◌, ◌≤◌}
use Rattle.std.proofs.Common.{min}
use mathlib.Core.Path.{◌≡◌, refl, sym, ap, subst, ◌∙◌}
use mathlib.Core.Bool.{Bool, true, false, not, cond, ◌&&◌, ◌||◌, or_assoc, true≢false}
use mathlib.Core.List.{List, [], ◌∷◌, ◌++◌}
use native.Mathlib.Omega.{arith}
use native.Mathlib.Numerals.{add-one}
use lib.ListN.{length, get_or, take, drop, length-set, length-append, length-drop}
use lib.Seq.{drop-cons, length-take-le}
use lib.Dec.{eqb, ltb, leb, lit<}
use borrow.Author.Tests.{leb-true, ltb-true, ltb-false, le-ltb}
use Rattle.kind.specs.declared.Kind.TheVariants.{Unknown}
use Rattle.kind.specs.Kind.{body_size}
use Rattle.image.specs.Image.{count_of, kind_at, offset_at}
use Rattle.image.specs.declared.Refusal.{Refusal}
use Rattle.image.specs.declared.Refusal.TheVariants.{MalformedImage, MisplacedBody, WrongCode, EqualCodes, BadTrace, NoFirstReset, BadPulse, NoRoom}
use Rattle.image.specs.Refusal.{refusal_number}
use Rattle.image.specs.Refusal.{Cause, cause, first_cause, image_causes, image_refusal}
use Rattle.device.specs.declared.LineState.{LineState}
use Rattle.bus.specs.Refusal.{some_byte, bad_trace, no_first_reset, bad_pulse, no_run_room, run_causes, run_refusal}
use Rattle.bus.specs.declared.Place.{Place}
use Rattle.device.proofs.Keeps.{slot-keeps, reset-keeps, program-keeps}
use Rattle.bus.specs.declared.Event.{Event}
use Rattle.bus.specs.declared.Event.TheVariants.{Slot, Reset, Pulse, OverdriveSlot, OverdriveReset}
use Rattle.bus.specs.Bus.{Device, event_of, hears}
use Rattle.bus.specs.Loops.{heard_body_as_is, next_body_as_is, passed_over, place_in, kind_in, body_in, device_at_place, device_in, image_with_body, turn_image, line_at, fewer_of, BusState, turn_at, turns_up_to, filled_up_to, RunState, run_event_at, run_events_up_to}
use Rattle.bus.specs.Loops.{level_on, step_on, most_copied, added_to, copied_up_to, copied_by_events}

-- ---- the place of a body

-- it lies in the image
pub record Inside (place : Place) (n : ℕ) : Type 0 where
  pub rising : place.start ≤ place.end
  pub within : place.end ≤ n

place-inside-at : (image : List ℕ) (i : ℕ) (a w b : Bool) → leb (offset_at image i + body_size (kind_at image i)) (length image) ≡ b
    → Inside (cond (a && (w && b)) (record { kind = kind_at image i; start = offset_at image i; end = offset_at image i + body_size (kind_at image i) }) (record { kind = Unknown; start = 0; end = 0 })) (length image)
place-inside-at image i true true true e = record { rising = omega arith; within = leb-true _ _ e }
place-inside-at image i true true false e = record { rising = omega arith; within = omega arith }
place-inside-at image i true false b e = record { rising = omega arith; within = omega arith }
place-inside-at image i false w b e = record { rising = omega arith; within = omega arith }

pub place_inside : (image : List ℕ) (i : ℕ) → Inside (place_in image i) (length image)
unfolding place_in
place_inside image i =
    place-inside-at image i (ltb i (count_of image)) (ltb (5 + 4 * i) (length image))
    (leb (offset_at image i + body_size (kind_at image i)) (length image)) refl

pub inside_of : (image : List ℕ) (i : ℕ) (place : Place) → place ≡ place_in image i → Inside place (length image)
inside_of image i place e = subst (λ (p : Place). Inside p (length image)) (sym e) (place_inside image i)

-- it has the device's kind and body
pub place-has : (image : List ℕ) (i : ℕ) (place : Place) → place ≡ place_in image i
    → (kind_in image i ≡ place.kind) × (body_in image i ≡ take (place.end - place.start) (drop place.start image))
unfolding kind_in body_in
place-has image i place e = (
  ap (λ (p : Place). p.kind) (sym e),
  ap (λ (p : Place). take (p.end - p.start) (drop p.start image)) (sym e),
)

-- ---- a test at some byte of a trace

-- found so far or here, or after: it is found in the trace
pub byte_more : (p : ℕ → Bool) (trace : List ℕ) (k : ℕ) (found : Bool) → k < length trace → (found || some_byte p (drop k trace)) ≡ some_byte p trace
    → ((found || p (get_or trace k 0)) || some_byte p (drop (k + 1) trace)) ≡ some_byte p trace
unfolding some_byte
byte_more p trace k found h inv =
    let next : some_byte p (drop k trace) ≡ (p (get_or trace k 0) || some_byte p (drop (k + 1) trace)) = rw add-one (ap (some_byte p) (drop-cons trace k 0 h)) in
    or_assoc found (p (get_or trace k 0)) (some_byte p (drop (k + 1) trace)) ∙ ap (λ (b : Bool). found || b) (sym next) ∙ inv

-- ---- the first event of a trace

pub first-event : (trace : List ℕ) → 0 < length trace → no_first_reset trace ≡ not (eqb (get_or trace 0 0) 2)
unfolding no_first_reset
first-event [] h = absurd (omega arith)
first-event (byte ∷ trace) h = refl

-- ---- causes in order

-- no cause has the number of what is not refused
abbrev Numbered : List Cause → Type 0
Numbered [] = Unit {0}
Numbered (c ∷ cs) = (0 < c.number) × Numbered cs

-- what the first causes refuse, the others do not change
some_then : (b : Bool) (n x y : ℕ) → (cond b n y ≡ 0 → ⊥) → ((y ≡ 0 → ⊥) → x ≡ y) → cond b n x ≡ cond b n y
some_then true n x y h k = refl
some_then false n x y h k = k h

pub first_some : (cs ds : List Cause) → (first_cause cs ≡ 0 → ⊥) → first_cause (cs ++ ds) ≡ first_cause cs
unfolding first_cause
first_some [] ds h = absurd (h refl)
first_some (c ∷ cs) ds h = some_then c.applies c.number (first_cause (cs ++ ds)) (first_cause cs) h (first_some cs ds)

-- what they do not refuse, the others decide
none_then : (b : Bool) (n x y z : ℕ) → 0 < n → cond b n y ≡ 0 → (y ≡ 0 → x ≡ z) → cond b n x ≡ z
none_then true n x y z m h k = absurd (omega arith)
none_then false n x y z m h k = k h

pub first-none : (cs ds : List Cause) → Numbered cs → first_cause cs ≡ 0 → first_cause (cs ++ ds) ≡ first_cause ds
unfolding first_cause
first-none [] ds n h = refl
first-none (c ∷ cs) ds n h = none_then c.applies c.number (first_cause (cs ++ ds)) (first_cause cs) (first_cause ds) n.0 h (first-none cs ds n.1)

-- the causes of a run after the image's
abbrev causes-left : List ℕ → List ℕ → ℕ → ℕ → List Cause
causes-left image trace answers lines =
    cause 5 (bad_trace trace)
    ∷ cause 11 (no_first_reset trace)
    ∷ cause 6 (bad_pulse image trace)
    ∷ cause 7 (no_run_room image trace answers lines)
    ∷ []

-- of an image that is not refused
pub run-causes : (image trace : List ℕ) (answers lines : ℕ) → image_refusal image ≡ 0
    → run_refusal image trace answers lines ≡ cond (bad_trace trace) 5
    (cond (no_first_reset trace) 11 (cond (bad_pulse image trace) 6 (cond (no_run_room image trace answers lines) 7 0)))
unfolding run_refusal run_causes image_causes image_refusal first_cause
run-causes image trace answers lines h =
    first-none (image_causes image) (causes-left image trace answers lines)
    (lit< tt, (lit< tt, (lit< tt, (lit< tt, (lit< tt, tt))))) h

-- no refusal has the number of what is not refused
pub refusal-some : (refusal : Refusal) → refusal_number refusal ≡ 0 → ⊥
unfolding refusal_number
refusal-some MalformedImage e = absurd (omega arith)
refusal-some MisplacedBody e = absurd (omega arith)
refusal-some WrongCode e = absurd (omega arith)
refusal-some EqualCodes e = absurd (omega arith)
refusal-some BadTrace e = absurd (omega arith)
refusal-some NoFirstReset e = absurd (omega arith)
refusal-some BadPulse e = absurd (omega arith)
refusal-some NoRoom e = absurd (omega arith)

-- what is not refused: an accepted image, a trace of events that all devices take, and room
pub record Admitted (image trace : List ℕ) (answers lines : ℕ) : Type 0 where
  pub image-accepted : image_refusal image ≡ 0
  pub trace-good : bad_trace trace ≡ false
  pub reset-first : no_first_reset trace ≡ false
  pub pulses-good : bad_pulse image trace ≡ false
  pub answers-room : length trace ≤ answers
  pub lines-room : count_of image ≤ lines

pub none_first : (cs ds : List Cause) → first_cause (cs ++ ds) ≡ 0 → first_cause cs ≡ 0
unfolding first_cause
none_first [] ds h = refl
none_first (c ∷ cs) ds h = pick c.applies c.number (first_cause (cs ++ ds)) (first_cause cs) h (none_first cs ds)
  where
    pick : (b : Bool) (n x y : ℕ) → cond b n x ≡ 0 → (x ≡ 0 → y ≡ 0) → cond b n y ≡ 0
    pick true n x y h k = h
    pick false n x y h k = k h

clear : (a b c d : Bool) → ◌≡◌ {A = ℕ} (cond a 5 (cond b 11 (cond c 6 (cond d 7 0)))) 0
    → (a ≡ false) × (b ≡ false) × (c ≡ false) × (d ≡ false)
clear true b c d e = absurd (omega arith)
clear false true c d e = absurd (omega arith)
clear false false true d e = absurd (omega arith)
clear false false false true e = absurd (omega arith)
clear false false false false e = (refl, refl, refl, refl)

neither : (a b : Bool) → (a || b) ≡ false → (a ≡ false) × (b ≡ false)
neither true b e = absurd (true≢false e)
neither false b e = (refl, e)

pub admitted : (image trace : List ℕ) (answers lines : ℕ) → run_refusal image trace answers lines ≡ 0 → Admitted image trace answers lines
unfolding run_refusal run_causes image_refusal no_run_room
admitted image trace answers lines e =
    let first : image_refusal image ≡ 0 = none_first (image_causes image) (causes-left image trace answers lines) e in
    let rest = clear (bad_trace trace) (no_first_reset trace) (bad_pulse image trace) (no_run_room image trace answers lines)
    (sym (run-causes image trace answers lines first) ∙ e) in
    let room = neither (ltb answers (length trace)) (ltb lines (count_of image)) rest.3 in
    record {
      image-accepted = first;
      trace-good = rest.0;
      reset-first = rest.1;
      pulses-good = rest.2;
      answers-room = ltb-false answers (length trace) room.0;
      lines-room = ltb-false lines (count_of image) room.1;
    }

-- a trace that is not refused has no more events than a run takes
pub short-trace : (trace : List ℕ) → bad_trace trace ≡ false → length trace ≤ 32768
unfolding bad_trace
short-trace trace e = ltb-false 32768 (length trace) (neither (ltb 32768 (length trace)) (some_byte (λ byte. ltb 6 byte) trace) e).0

-- and back
pub not-refused : (image trace : List ℕ) (answers lines : ℕ) → Admitted image trace answers lines → run_refusal image trace answers lines ≡ 0
unfolding no_run_room
not-refused image trace answers lines a =
    rw (
      run-causes image trace answers lines a.image-accepted,
      a.trace-good,
      a.reset-first,
      a.pulses-good,
      le-ltb answers (length trace) a.answers-room,
      le-ltb lines (count_of image) a.lines-room,
    )

-- ---- lengths

pub filled-length : (i : ℕ) (state : LineState) (lines : List LineState) → length (filled_up_to i state lines) ≡ length lines
unfolding filled_up_to
filled-length zero state lines = refl
filled-length (suc i) state lines = simp (length-set, filled-length i state lines)

with-body-length : (image : List ℕ) (place : Place) (body : List ℕ) → Inside place (length image) → length body ≡ place.end - place.start → length (image_with_body image place body) ≡ length image
unfolding image_with_body
with-body-length image place body h e =
    simp (length-append, length-drop, length-take-le place.start image (omega (arith, h.rising, h.within)), e) (omega (arith, h.rising, h.within))

either-length : (b : Bool) (xs ys zs : List ℕ) → length xs ≡ length zs → length ys ≡ length zs → length (cond b xs ys) ≡ length zs
either-length true xs ys zs h k = h
either-length false xs ys zs h k = k

heard-kept : (event : Event) (level : Bool) (d : Device) → length (heard_body_as_is event level d) ≡ length d.body
unfolding heard_body_as_is
heard-kept (Slot sent) level d = (slot-keeps d.state d.kind d.body level).same_length
heard-kept Reset level d = (reset-keeps d.state d.body).same_length
heard-kept Pulse level d = (program-keeps d.state d.body).same_length
heard-kept (OverdriveSlot sent) level d = (slot-keeps d.state d.kind d.body level).same_length
heard-kept OverdriveReset level d = (reset-keeps d.state d.body).same_length

body_kept : (event : Event) (level : Bool) (d : Device) → length (next_body_as_is event level d) ≡ length d.body
unfolding next_body_as_is
body_kept event level d =
    either-length (hears event d.state) (heard_body_as_is event level d) d.body d.body (heard-kept event level d) refl

put-length : (image : List ℕ) (i : ℕ) (state : LineState) (byte : ℕ) (level : Bool)
    → length (image_with_body image (place_in image i) (next_body_as_is (event_of byte) level (device_in image i state))) ≡ length image
unfolding device_in device_at_place
put-length image i state byte level =
    let h = place_inside image i in
    with-body-length image (place_in image i) (next_body_as_is (event_of byte) level (device_in image i state)) h
    (body_kept (event_of byte) level (device_in image i state)
    ∙ length-take-le ((place_in image i).end - (place_in image i).start) (drop (place_in image i).start image)
    (rw length-drop (omega (arith, h.rising, h.within))))

turn-image-length : (image : List ℕ) (i : ℕ) (state : LineState) (byte : ℕ) (level : Bool)
    → length (turn_image image i state byte level) ≡ length image
unfolding turn_image
turn-image-length image i state byte level = either-length (passed_over byte state) image _ image refl (put-length image i state byte level)

pub turns-image-length : (byte : ℕ) (level : Bool) (i : ℕ) (s : BusState) → length (turns_up_to byte level i s).image ≡ length s.image
unfolding turns_up_to turn_at
turns-image-length byte level zero s = refl
turns-image-length byte level (suc i) s =
    turn-image-length (turns_up_to byte level i s).image i (line_at (turns_up_to byte level i s).lines i) byte level ∙ turns-image-length byte level i s

pub turns-lines-length : (byte : ℕ) (level : Bool) (i : ℕ) (s : BusState) → length (turns_up_to byte level i s).lines ≡ length s.lines
unfolding turns_up_to turn_at
turns-lines-length byte level zero s = refl
turns-lines-length byte level (suc i) s = simp (length-set, turns-lines-length byte level i s)

-- ---- the smaller of two numbers

fewer-at : (a b : ℕ) (t : Bool) → ltb a b ≡ t → cond t a b ≤ b
fewer-at a b true e = let h : a < b = ltb-true a b e in omega arith
fewer-at a b false e = omega arith

pub fewer-second : (a b : ℕ) → fewer_of a b ≤ b
unfolding fewer_of
fewer-second a b = fewer-at a b (ltb a b) refl

first-at : (a b : ℕ) (t : Bool) → ltb a b ≡ t → a ≤ b → cond t a b ≡ a
first-at a b true e h = refl
first-at a b false e h = let k : b ≤ a = ltb-false a b e in omega arith

pub fewer-first : (a b : ℕ) → a ≤ b → fewer_of a b ≡ a
unfolding fewer_of
fewer-first a b h = first-at a b (ltb a b) refl h

-- ---- the run's state

pub events-image-length : (trace : List ℕ) (n k : ℕ) (s : RunState) → length (run_events_up_to trace n k s).image ≡ length s.image
unfolding run_events_up_to run_event_at
events-image-length trace n zero s = refl
events-image-length trace n (suc k) s = turns-image-length (get_or trace k 0) _ n _ ∙ events-image-length trace n k s

pub events-answers-length : (trace : List ℕ) (n k : ℕ) (s : RunState) → length (run_events_up_to trace n k s).answers ≡ length s.answers
unfolding run_events_up_to run_event_at
events-answers-length trace n zero s = refl
events-answers-length trace n (suc k) s = simp (length-set, events-answers-length trace n k s)

pub events-lines-length : (trace : List ℕ) (n k : ℕ) (s : RunState) → length (run_events_up_to trace n k s).lines ≡ length s.lines
unfolding run_events_up_to run_event_at
events-lines-length trace n zero s = refl
events-lines-length trace n (suc k) s = turns-lines-length (get_or trace k 0) _ n _ ∙ events-lines-length trace n k s

-- an event on devices that all have a line state
pub step-on : (n byte : ℕ) (s : BusState) → n ≤ length s.lines
    → step_on n byte s ≡ turns_up_to byte (level_on s.lines n byte) n s
unfolding step_on
step-on n byte s h =
    ap (λ (m : ℕ). turns_up_to byte (level_on s.lines n byte) m s) (fewer-first n (length s.lines) h)

-- ---- the sums of bytes copied

-- one that saturates is such a sum
saturated-at : (sum bytes : ℕ) (t : Bool) → ltb (most_copied - sum) bytes ≡ t → sum < 2 ^ 64
    → min (sum + bytes) (2 ^ 64 - 1) ≡ cond t most_copied (sum + bytes)
saturated-at sum bytes true e h = omega (arith, ltb-true (most_copied - sum) bytes e, h)
saturated-at sum bytes false e h = omega (arith, ltb-false (most_copied - sum) bytes e, h)

pub saturated : (sum bytes : ℕ) → sum < 2 ^ 64 → min (sum + bytes) (2 ^ 64 - 1) ≡ added_to sum bytes
unfolding added_to
saturated sum bytes h = saturated-at sum bytes (ltb (most_copied - sum) bytes) refl h

added-at : (sum bytes : ℕ) (t : Bool) → ltb (most_copied - sum) bytes ≡ t → sum ≤ most_copied
    → cond t most_copied (sum + bytes) ≤ most_copied
added-at sum bytes true e h = omega arith
added-at sum bytes false e h = omega (arith, ltb-false (most_copied - sum) bytes e, h)

added-most : (sum bytes : ℕ) → sum ≤ most_copied → added_to sum bytes ≤ most_copied
unfolding added_to
added-most sum bytes h = added-at sum bytes (ltb (most_copied - sum) bytes) refl h

copied-few : (byte : ℕ) (level : Bool) (i : ℕ) (s : BusState) → copied_up_to byte level i s ≤ most_copied
unfolding copied_up_to
copied-few byte level zero s = omega arith
copied-few byte level (suc i) s = added-most (copied_up_to byte level i s) _ (copied-few byte level i s)

pub copied-fits : (byte : ℕ) (level : Bool) (i : ℕ) (s : BusState) → copied_up_to byte level i s < 2 ^ 64
copied-fits byte level i s = omega (arith, copied-few byte level i s)

events-few : (trace : List ℕ) (n k : ℕ) (s : RunState) → copied_by_events trace n k s ≤ most_copied
unfolding copied_by_events
events-few trace n zero s = omega arith
events-few trace n (suc k) s = added-most (copied_by_events trace n k s) _ (events-few trace n k s)

pub events-fit : (trace : List ℕ) (n k : ℕ) (s : RunState) → copied_by_events trace n k s < 2 ^ 64
events-fit trace n k s = omega (arith, events-few trace n k s)
