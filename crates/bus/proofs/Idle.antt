-- A device that has no transfer under way has no part in a slot, one that does not hear a slot is left as the slot's speed says, and inside
-- a transfer a slot only shifts a device's register: the image stays. It stays too where a device does not hear an event. What the master
-- sends in a slot has no part in a device's turn, nor has the level of a reset or a pulse. Assumes nothing.
use Prim.Native.Nat.{ℕ, zero, suc, ◌+◌, ◌-◌, ◌<◌, ◌≤◌}
use mathlib.Core.Path.{◌≡◌, refl, sym, ap, ◌∙◌}
use mathlib.Core.Bool.{Bool, true, false, not, cond, ◌&&◌, ◌||◌, beq, and-false, true≢false}
use mathlib.Core.List.{List, [], ◌∷◌, ◌++◌}
use native.Mathlib.Omega.{arith}
use lib.ListN.{length, set, take, drop, take-append-drop}
use lib.Seq.{drop-drop}
use lib.Dec.{ltb, eqb}
use borrow.Author.Tests.{ltb-true, lt-ltb, le-ltb, ne_eqb, eqb-true, not-true}
use Rattle.line.specs.Transfers.{goes_on, last_slot, shifted}
use Rattle.device.specs.declared.LineState.{LineState}
use Rattle.device.specs.Device.{line_state, waiting_state, state_after_slot_as_is, body_after_slot_as_is, bytes_in_slot_as_is}
use Rattle.device.proofs.Range.{still-steps, still-writes, still-copies}
use Rattle.device.proofs.Laws.{going-on-steps, going-on-writes, going-on-copies}
use Rattle.bus.specs.declared.Event.{Event}
use Rattle.bus.specs.declared.Event.TheVariants.{Slot, Reset, Pulse, OverdriveSlot, OverdriveReset}
use Rattle.bus.specs.declared.Place.{Place}
use Rattle.bus.specs.Bus.{Device, event_of, hears, unheard_state, next_state, next_body, copied_in, is_slot, is_overdrive}
use Rattle.bus.specs.Loops.{heard_state_as_is, heard_body_as_is, heard_copied_as_is, slot_byte, kind_in, body_in, ends_in, shifts_in, pass_state}
use Rattle.bus.specs.Loops.{next_state_as_is, next_body_as_is, passed_over, place_in, device_at_place, device_in, image_with_body, turn_state, turn_image}
use Rattle.bus.specs.Loops.{copied_as_is, turn_copied, most_copied, added_to, copied_up_to}
use Rattle.bus.specs.Loops.{line_at, BusState, bus_state, turn_at, turns_up_to, turn_states_from, turn_states_of}
use Rattle.bus.proofs.Laws.{Inside, place_inside}
use Rattle.bus.proofs.Ranges.{InRange, as-it-is-state, as-it-is-body, as-it-is-copied}

both : (a b : Bool) → (a && b) ≡ true → (a ≡ true) × (b ≡ true)
both true b e = (refl, e)
both false b e = absurd (true≢false (sym e))

either-none : (b : Bool) → ◌≡◌ {A = ℕ} (cond b 0 0) 0
either-none true = refl
either-none false = refl

-- a body put back where it was
pub same_body : (image : List ℕ) (place : Place) → Inside place (length image)
    → image_with_body image place (take (place.end - place.start) (drop place.start image)) ≡ image
unfolding image_with_body
same_body image place h =
    let n = place.end - place.start in
    let e : place.start + n ≡ place.end = omega (arith, h.rising) in
    ap (λ (l : List ℕ). take place.start image ++ (take n (drop place.start image) ++ l))
    (ap (λ (m : ℕ). drop m image) (sym e) ∙ sym (drop-drop n place.start image))
    ∙ ap (λ (l : List ℕ). take place.start image ++ l) (take-append-drop n (drop place.start image))
    ∙ take-append-drop place.start image

-- ---- a device in range that is passed over

module _ (byte : ℕ) (d : Device) (ranged : InRange d) (idle : passed_over byte d.state ≡ true) where
  told : (is_slot (event_of byte) ≡ true) × ((hears (event_of byte) d.state ≡ true) × (eqb d.state.transfer.left 0 ≡ true))
  unfolding passed_over
  told =
      let p = both (is_slot (event_of byte)) (hears (event_of byte) d.state && eqb d.state.transfer.left 0) idle in
      (p.0, both (hears (event_of byte) d.state) (eqb d.state.transfer.left 0) p.1)

  stays-state : (event : Event) → is_slot event ≡ true → (level : Bool) → heard_state_as_is event level d ≡ d.state
  unfolding is_slot heard_state_as_is
  stays-state (Slot sent) e level = still-steps d.state d.kind d.body ranged told.1.1 level
  stays-state Reset e level = absurd (true≢false (sym e))
  stays-state Pulse e level = absurd (true≢false (sym e))
  stays-state (OverdriveSlot sent) e level = still-steps d.state d.kind d.body ranged told.1.1 level
  stays-state OverdriveReset e level = absurd (true≢false (sym e))

  stays-body : (event : Event) → is_slot event ≡ true → (level : Bool) → heard_body_as_is event level d ≡ d.body
  unfolding is_slot heard_body_as_is
  stays-body (Slot sent) e level = still-writes d.state d.kind d.body ranged told.1.1 level
  stays-body Reset e level = absurd (true≢false (sym e))
  stays-body Pulse e level = absurd (true≢false (sym e))
  stays-body (OverdriveSlot sent) e level = still-writes d.state d.kind d.body ranged told.1.1 level
  stays-body OverdriveReset e level = absurd (true≢false (sym e))

  copies-none : (event : Event) → is_slot event ≡ true → (level : Bool) → heard_copied_as_is event level d ≡ 0
  unfolding is_slot heard_copied_as_is
  copies-none (Slot sent) e level = still-copies d.state d.kind d.body ranged told.1.1 level
  copies-none Reset e level = absurd (true≢false (sym e))
  copies-none Pulse e level = absurd (true≢false (sym e))
  copies-none (OverdriveSlot sent) e level = still-copies d.state d.kind d.body ranged told.1.1 level
  copies-none OverdriveReset e level = absurd (true≢false (sym e))

  as-heard-state : (level : Bool) → next_state_as_is (event_of byte) level d ≡ heard_state_as_is (event_of byte) level d
  unfolding next_state_as_is
  as-heard-state level = rw told.1.0

  as-heard-body : (level : Bool) → next_body_as_is (event_of byte) level d ≡ heard_body_as_is (event_of byte) level d
  unfolding next_body_as_is
  as-heard-body level = rw told.1.0

  as-heard-copied : (level : Bool) → copied_as_is (event_of byte) level d ≡ heard_copied_as_is (event_of byte) level d
  unfolding copied_as_is
  as-heard-copied level = rw told.1.0

  pub idle-state : (level : Bool) → d.state ≡ next_state (event_of byte) level d
  idle-state level =
      sym (as-heard-state level ∙ stays-state (event_of byte) told.0 level) ∙ as-it-is-state d ranged (event_of byte) level

  pub idle_body : (level : Bool) → d.body ≡ next_body (event_of byte) level d
  idle_body level =
      sym (as-heard-body level ∙ stays-body (event_of byte) told.0 level) ∙ as-it-is-body d ranged (event_of byte) level

  pub idle-copied : (level : Bool) → 0 ≡ copied_in (event_of byte) level d
  idle-copied level =
      sym (as-heard-copied level ∙ copies-none (event_of byte) told.0 level) ∙ as-it-is-copied d ranged (event_of byte) level

-- ---- who is not passed over

deaf-not-passed : (byte : ℕ) (state : LineState) → hears (event_of byte) state ≡ false → passed_over byte state ≡ false
unfolding passed_over
deaf-not-passed byte state deaf =
    ap (λ (b : Bool). is_slot (event_of byte) && (b && eqb state.transfer.left 0)) deaf ∙ and-false (is_slot (event_of byte))

other-not-passed : (byte : ℕ) (state : LineState) → is_slot (event_of byte) ≡ false → passed_over byte state ≡ false
unfolding passed_over
other-not-passed byte state other =
    ap (λ (b : Bool). b && (hears (event_of byte) state && eqb state.transfer.left 0)) other

busy-not-passed : (byte : ℕ) (state : LineState) → eqb state.transfer.left 0 ≡ false → passed_over byte state ≡ false
unfolding passed_over
busy-not-passed byte state busy =
    ap (λ (b : Bool). is_slot (event_of byte) && (hears (event_of byte) state && b)) busy
    ∙ ap (λ (b : Bool). is_slot (event_of byte) && b) (and-false (hears (event_of byte) state)) ∙ and-false (is_slot (event_of byte))

-- ---- an event that is not a regular slot

-- a device that does not hear it stays as it is
pub unheard-stays : (byte : ℕ) (state : LineState) → 2 ≤ byte → unheard_state (event_of byte) state ≡ state
unfolding event_of unheard_state
unheard-stays byte state h =
    rw (ne_eqb byte 0 (λ z. absurd (omega arith)), ne_eqb byte 1 (λ z. absurd (omega arith)))
    (choose (eqb byte 2) (eqb byte 4) (eqb byte 5) (eqb byte 6))
  where
    choose : (a b c d : Bool)
        → unheard_state (cond a Reset (cond b (OverdriveSlot false) (cond c (OverdriveSlot true) (cond d OverdriveReset Pulse)))) state ≡ state
    choose true b c d = refl
    choose false true c d = refl
    choose false false true d = refl
    choose false false false true = refl
    choose false false false false = refl

module _ (byte : ℕ) (h : 2 ≤ byte) (image : List ℕ) (i : ℕ) (state : LineState) (deaf : hears (event_of byte) state ≡ false) (level : Bool) where
  unheard-state : turn_state image i state byte level ≡ state
  unfolding turn_state next_state_as_is device_in device_at_place
  unheard-state = rw (deaf-not-passed byte state deaf, deaf) (unheard-stays byte state h)

  unheard-image : turn_image image i state byte level ≡ image
  unfolding turn_image next_body_as_is device_in device_at_place
  unheard-image = rw (deaf-not-passed byte state deaf, deaf) (same_body image (place_in image i) (place_inside image i))

-- one that hears it
module _ (byte : ℕ) (other : is_slot (event_of byte) ≡ false) (image : List ℕ) (i : ℕ) (state : LineState)
    (heard : hears (event_of byte) state ≡ true) (level : Bool) where
  pub heard-state : turn_state image i state byte level ≡ heard_state_as_is (event_of byte) level (device_in image i state)
  unfolding turn_state next_state_as_is device_in device_at_place
  heard-state = rw (other-not-passed byte state other, heard)

  pub heard-image : turn_image image i state byte level
      ≡ image_with_body image (place_in image i) (heard_body_as_is (event_of byte) level (device_in image i state))
  unfolding turn_image next_body_as_is device_in device_at_place
  heard-image = rw (other-not-passed byte state other, heard)

-- ---- a slot at either speed

-- a device hears one that comes at its own speed
same-speed : (a b : Bool) → not (beq a b) ≡ false → a ≡ b
same-speed true true e = refl
same-speed true false e = absurd (true≢false e)
same-speed false true e = absurd (true≢false e)
same-speed false false e = refl

pub own-heard : (state : LineState) (overdrive : Bool) → not (beq state.overdrive overdrive) ≡ false
    → hears (event_of (slot_byte overdrive)) state ≡ true
unfolding slot_byte event_of hears
own-heard state true e = same-speed state.overdrive true e
own-heard state false e = ap not (same-speed state.overdrive false e)

-- and none that comes at the other
other-speed : (a b : Bool) → not (beq a b) ≡ true → a ≡ not b
other-speed true true e = absurd (true≢false (sym e))
other-speed true false e = refl
other-speed false true e = refl
other-speed false false e = absurd (true≢false (sym e))

pub other-unheard : (state : LineState) (overdrive : Bool) → not (beq state.overdrive overdrive) ≡ true
    → hears (event_of (slot_byte overdrive)) state ≡ false
unfolding slot_byte event_of hears
other-unheard state true e = other-speed state.overdrive true e
other-unheard state false e = ap not (other-speed state.overdrive false e)

module _ (state : LineState) (overdrive : Bool) (deaf : hears (event_of (slot_byte overdrive)) state ≡ false) (image : List ℕ) (i : ℕ)
    (level : Bool) where
  pub unheard-slot-state : unheard_state (event_of (slot_byte overdrive)) state ≡ turn_state image i state (slot_byte overdrive) level
  unfolding turn_state next_state_as_is device_in device_at_place
  unheard-slot-state = rw (deaf-not-passed (slot_byte overdrive) state deaf, deaf)

  pub unheard-slot-image : image ≡ turn_image image i state (slot_byte overdrive) level
  unfolding turn_image next_body_as_is device_in device_at_place
  unheard-slot-image =
      rw (deaf-not-passed (slot_byte overdrive) state deaf, deaf) (sym (same_body image (place_in image i) (place_inside image i)))

  pub unheard-slot-copied : 0 ≡ turn_copied image i state (slot_byte overdrive) level
  unfolding turn_copied copied_as_is device_in device_at_place
  unheard-slot-copied = rw (deaf-not-passed (slot_byte overdrive) state deaf, deaf)

-- one that hears it takes the level in its transfer, at either speed
taken-state : (overdrive level : Bool) (d : Device)
    → heard_state_as_is (event_of (slot_byte overdrive)) level d ≡ state_after_slot_as_is d.state d.kind d.body level
unfolding slot_byte event_of heard_state_as_is
taken-state true level d = refl
taken-state false level d = refl

taken-body : (overdrive level : Bool) (d : Device)
    → heard_body_as_is (event_of (slot_byte overdrive)) level d ≡ body_after_slot_as_is d.state d.kind d.body level
unfolding slot_byte event_of heard_body_as_is
taken-body true level d = refl
taken-body false level d = refl

taken-copied : (overdrive level : Bool) (d : Device)
    → heard_copied_as_is (event_of (slot_byte overdrive)) level d ≡ bytes_in_slot_as_is d.state d.kind d.body level
unfolding slot_byte event_of heard_copied_as_is
taken-copied true level d = refl
taken-copied false level d = refl

module _ (state : LineState) (overdrive : Bool) (heard : hears (event_of (slot_byte overdrive)) state ≡ true)
    (busy : eqb state.transfer.left 0 ≡ false)
    (image : List ℕ) (i : ℕ) (level : Bool) where
  not-passed : passed_over (slot_byte overdrive) state ≡ false
  not-passed = busy-not-passed (slot_byte overdrive) state busy

  pub heard-slot-state : turn_state image i state (slot_byte overdrive) level
      ≡ state_after_slot_as_is state (kind_in image i) (body_in image i) level
  unfolding turn_state next_state_as_is device_in device_at_place kind_in body_in
  heard-slot-state = rw (not-passed, heard) (taken-state overdrive level (device_in image i state))

  pub heard-slot-image : turn_image image i state (slot_byte overdrive) level
      ≡ image_with_body image (place_in image i) (body_after_slot_as_is state (kind_in image i) (body_in image i) level)
  unfolding turn_image next_body_as_is device_in device_at_place kind_in body_in
  heard-slot-image = rw (not-passed, heard) (ap (image_with_body image (place_in image i)) (taken-body overdrive level (device_in image i state)))

  pub heard-slot-copied : turn_copied image i state (slot_byte overdrive) level
      ≡ bytes_in_slot_as_is state (kind_in image i) (body_in image i) level
  unfolding turn_copied copied_as_is device_in device_at_place kind_in body_in
  heard-slot-copied = rw (not-passed, heard) (taken-copied overdrive level (device_in image i state))

-- inside a transfer
module _ (state : LineState) (overdrive : Bool) (heard : hears (event_of (slot_byte overdrive)) state ≡ true)
    (inside : goes_on state.transfer ≡ true) (image : List ℕ) (i : ℕ) (level : Bool) where
  going : eqb state.transfer.left 0 ≡ false
  going =
      let more : 1 < state.transfer.left = ltb-true 1 state.transfer.left inside in
      ne_eqb state.transfer.left 0 (λ none. absurd (omega (arith, more, none)))

  pub inside-state : line_state (shifted state.transfer level) state.overdrive ≡ turn_state image i state (slot_byte overdrive) level
  inside-state = sym (heard-slot-state state overdrive heard going image i level ∙ going-on-steps state _ _ level inside)

  pub inside-image : image ≡ turn_image image i state (slot_byte overdrive) level
  unfolding body_in
  inside-image =
      sym (heard-slot-image state overdrive heard going image i level
      ∙ ap (image_with_body image (place_in image i)) (going-on-writes state _ _ level inside)
      ∙ same_body image (place_in image i) (place_inside image i))

  pub inside-copied : 0 ≡ turn_copied image i state (slot_byte overdrive) level
  inside-copied = sym (heard-slot-copied state overdrive heard going image i level ∙ going-on-copies state _ _ level inside)

-- with no transfer under way
module _ (state : LineState) (overdrive : Bool) (heard : hears (event_of (slot_byte overdrive)) state ≡ true)
    (none : eqb state.transfer.left 0 ≡ true) (image : List ℕ) (i : ℕ) (level : Bool) where
  is-passed : (f : Bool) → hears (event_of (slot_byte f)) state ≡ true → passed_over (slot_byte f) state ≡ true
  unfolding slot_byte event_of is_slot passed_over hears
  is-passed true h = ap (λ (b : Bool). b && eqb state.transfer.left 0) h ∙ none
  is-passed false h = ap (λ (b : Bool). b && eqb state.transfer.left 0) h ∙ none

  passed-state : turn_state image i state (slot_byte overdrive) level ≡ state
  unfolding turn_state
  passed-state = rw (is-passed overdrive heard)

  passed-image : turn_image image i state (slot_byte overdrive) level ≡ image
  unfolding turn_image
  passed-image = rw (is-passed overdrive heard)

  passed-copied : turn_copied image i state (slot_byte overdrive) level ≡ 0
  unfolding turn_copied
  passed-copied = rw (is-passed overdrive heard)

-- ---- a slot in which no more happens than a shift

-- a device hears it or not, and its transfer goes on, ends, or is none
data Passes (overdrive : Bool) (state : LineState) : Type 0 where
  is-deaf : hears (event_of (slot_byte overdrive)) state ≡ false → unheard_state (event_of (slot_byte overdrive)) state ≡ state
      → ((level : Bool) → pass_state overdrive level state ≡ state) → Passes overdrive state
  is-inside : hears (event_of (slot_byte overdrive)) state ≡ true → goes_on state.transfer ≡ true
      → ((level : Bool) → pass_state overdrive level state ≡ line_state (shifted state.transfer level) state.overdrive)
      → Passes overdrive state
  is_none : hears (event_of (slot_byte overdrive)) state ≡ true → eqb state.transfer.left 0 ≡ true
      → ((level : Bool) → pass_state overdrive level state ≡ state) → Passes overdrive state

one_left : (left : ℕ) → eqb left 1 ≡ true → eqb left 0 ≡ false
one_left left e = ap (λ (n : ℕ). eqb n 0) (eqb-true left 1 e)

nothing_left : (left : ℕ) → ltb 1 left ≡ false → eqb left 1 ≡ false → eqb left 0 ≡ true
nothing_left zero e f = refl
nothing_left (suc zero) e f = absurd (true≢false f)
nothing_left (suc (suc left)) e f = absurd (true≢false (sym (lt-ltb 1 (suc (suc left)) (omega arith)) ∙ e))

passes : (overdrive speed : Bool) (state : LineState) → state.overdrive ≡ speed → ends_in overdrive state ≡ false → Passes overdrive state
unfolding ends_in shifts_in pass_state slot_byte event_of hears unheard_state
passes true true state s e = choose (goes_on state.transfer) refl
  where
    choose : (b : Bool) → goes_on state.transfer ≡ b → Passes true state
    choose true g = is-inside s g (λ level. rw (s, g))
    choose false g = is_none s (nothing_left state.transfer.left g (sym (ap (λ (b : Bool). b && last_slot state.transfer) s) ∙ e))
        (λ level. rw (s, g))
passes true false state s e = is-deaf s refl (λ level. rw s)
passes false true state s e = absurd (true≢false (sym (ap (λ (b : Bool). b || last_slot state.transfer) s) ∙ e))
passes false false state s e = choose (goes_on state.transfer) refl
  where
    choose : (b : Bool) → goes_on state.transfer ≡ b → Passes false state
    choose true g = is-inside (ap not s) g (λ level. rw (s, g))
    choose false g = is_none (ap not s) (nothing_left state.transfer.left g (sym (ap (λ (b : Bool). b || last_slot state.transfer) s) ∙ e))
        (λ level. rw (s, g))

module _ (overdrive level : Bool) (image : List ℕ) (i : ℕ) (state : LineState) where
  by-pass-state : Passes overdrive state → turn_state image i state (slot_byte overdrive) level ≡ pass_state overdrive level state
  by-pass-state (is-deaf d u p) = sym (unheard-slot-state state overdrive d image i level) ∙ u ∙ sym (p level)
  by-pass-state (is-inside h g p) = sym (inside-state state overdrive h g image i level) ∙ sym (p level)
  by-pass-state (is_none h z p) = passed-state state overdrive h z image i level ∙ sym (p level)

  by-pass-image : Passes overdrive state → turn_image image i state (slot_byte overdrive) level ≡ image
  by-pass-image (is-deaf d u p) = sym (unheard-slot-image state overdrive d image i level)
  by-pass-image (is-inside h g p) = sym (inside-image state overdrive h g image i level)
  by-pass-image (is_none h z p) = passed-image state overdrive h z image i level

  by-pass-copied : Passes overdrive state → turn_copied image i state (slot_byte overdrive) level ≡ 0
  by-pass-copied (is-deaf d u p) = sym (unheard-slot-copied state overdrive d image i level)
  by-pass-copied (is-inside h g p) = sym (inside-copied state overdrive h g image i level)
  by-pass-copied (is_none h z p) = passed-copied state overdrive h z image i level

  pub pass-state : ends_in overdrive state ≡ false → turn_state image i state (slot_byte overdrive) level ≡ pass_state overdrive level state
  pass-state e = by-pass-state (passes overdrive state.overdrive state refl e)

  pub pass-image : ends_in overdrive state ≡ false → turn_image image i state (slot_byte overdrive) level ≡ image
  pass-image e = by-pass-image (passes overdrive state.overdrive state refl e)

  pub pass-copied : ends_in overdrive state ≡ false → turn_copied image i state (slot_byte overdrive) level ≡ 0
  pass-copied e = by-pass-copied (passes overdrive state.overdrive state refl e)

-- ---- a slot in which more happens

-- one that hears it has slots left of its transfer
pub ends-busy : (overdrive : Bool) (state : LineState) → ends_in overdrive state ≡ true → hears (event_of (slot_byte overdrive)) state ≡ true
    → eqb state.transfer.left 0 ≡ false
unfolding ends_in slot_byte event_of hears
ends-busy true state e h = one_left state.transfer.left (both state.overdrive (last_slot state.transfer) e).1
ends-busy false state e h =
    one_left state.transfer.left (ap (λ (b : Bool). b || last_slot state.transfer) (sym (not-true state.overdrive h)) ∙ e)

-- one that does not hear it is at overdrive, and waits from then on
pub ends-lost : (overdrive : Bool) (state : LineState) → ends_in overdrive state ≡ true → hears (event_of (slot_byte overdrive)) state ≡ false
    → waiting_state ≡ unheard_state (event_of (slot_byte overdrive)) state
unfolding ends_in slot_byte event_of hears unheard_state
ends-lost true state e h = absurd (true≢false (sym (both state.overdrive (last_slot state.transfer) e).0 ∙ h))
ends-lost false state e h = refl

-- ---- what has no part in a device's turn

-- a byte over 6 counts as the pulse
pub over-six : (byte : ℕ) → 6 < byte → event_of byte ≡ Pulse
unfolding event_of
over-six byte h =
    rw (
      ne_eqb byte 0 (λ z. absurd (omega arith)),
      ne_eqb byte 1 (λ z. absurd (omega arith)),
      ne_eqb byte 2 (λ z. absurd (omega arith)),
      ne_eqb byte 4 (λ z. absurd (omega arith)),
      ne_eqb byte 5 (λ z. absurd (omega arith)),
      ne_eqb byte 6 (λ z. absurd (omega arith)),
    )

-- the slots are the events 0, 1, 4 and 5
slot-bytes : (P : ℕ → Type 0) (byte : ℕ) → is_slot (event_of byte) ≡ true → P 0 → P 1 → P 4 → P 5 → P byte
unfolding is_slot event_of
slot-bytes P zero e p q r s = p
slot-bytes P (suc zero) e p q r s = q
slot-bytes P (suc (suc zero)) e p q r s = absurd (true≢false (sym e))
slot-bytes P (suc (suc (suc zero))) e p q r s = absurd (true≢false (sym e))
slot-bytes P (suc (suc (suc (suc zero)))) e p q r s = r
slot-bytes P (suc (suc (suc (suc (suc zero))))) e p q r s = s
slot-bytes P (suc (suc (suc (suc (suc (suc zero)))))) e p q r s = absurd (true≢false (sym e))
slot-bytes P (suc (suc (suc (suc (suc (suc (suc byte))))))) e p q r s =
    absurd (true≢false (sym e ∙ ap is_slot (over-six (suc (suc (suc (suc (suc (suc (suc byte))))))) (omega arith))))

-- the byte that stands for the slots at the speed of a slot
abbrev pub slot_of : ℕ → ℕ
slot_of byte = slot_byte (is_overdrive (event_of byte))

module _ (image : List ℕ) (i : ℕ) (state : LineState) (level : Bool) where
  -- what the master sends in a slot
  pub slot-state : (byte : ℕ) → is_slot (event_of byte) ≡ true → turn_state image i state (slot_of byte) level ≡ turn_state image i state byte level
  unfolding slot_byte is_slot is_overdrive turn_state passed_over event_of next_state_as_is heard_state_as_is unheard_state hears
  slot-state byte e =
      slot-bytes (λ (v : ℕ). turn_state image i state (slot_of v) level ≡ turn_state image i state v level) byte e refl refl refl refl

  pub slot-image : (byte : ℕ) → is_slot (event_of byte) ≡ true → turn_image image i state (slot_of byte) level ≡ turn_image image i state byte level
  unfolding slot_byte is_slot is_overdrive turn_image passed_over event_of next_body_as_is heard_body_as_is hears
  slot-image byte e =
      slot-bytes (λ (v : ℕ). turn_image image i state (slot_of v) level ≡ turn_image image i state v level) byte e refl refl refl refl

  pub slot-copied : (byte : ℕ) → is_slot (event_of byte) ≡ true
      → turn_copied image i state (slot_of byte) level ≡ turn_copied image i state byte level
  unfolding slot_byte is_slot is_overdrive turn_copied passed_over event_of copied_as_is heard_copied_as_is hears
  slot-copied byte e =
      slot-bytes (λ (v : ℕ). turn_copied image i state (slot_of v) level ≡ turn_copied image i state v level) byte e refl refl refl refl

-- the level of a reset or a pulse
module _ (level : Bool) (d : Device) where
  other-state-as-is : (event : Event) → is_slot event ≡ false → next_state_as_is event true d ≡ next_state_as_is event level d
  unfolding is_slot next_state_as_is heard_state_as_is
  other-state-as-is (Slot sent) e = absurd (true≢false e)
  other-state-as-is Reset e = refl
  other-state-as-is Pulse e = refl
  other-state-as-is (OverdriveSlot sent) e = absurd (true≢false e)
  other-state-as-is OverdriveReset e = refl

  other-body-as-is : (event : Event) → is_slot event ≡ false → next_body_as_is event true d ≡ next_body_as_is event level d
  unfolding is_slot next_body_as_is heard_body_as_is
  other-body-as-is (Slot sent) e = absurd (true≢false e)
  other-body-as-is Reset e = refl
  other-body-as-is Pulse e = refl
  other-body-as-is (OverdriveSlot sent) e = absurd (true≢false e)
  other-body-as-is OverdriveReset e = refl

module _ (image : List ℕ) (i : ℕ) (state : LineState) (level : Bool) (byte : ℕ) (other : is_slot (event_of byte) ≡ false) where
  other-state : turn_state image i state byte true ≡ turn_state image i state byte level
  unfolding turn_state
  other-state = ap (cond (passed_over byte state) state) (other-state-as-is level (device_in image i state) (event_of byte) other)

  other-image : turn_image image i state byte true ≡ turn_image image i state byte level
  unfolding turn_image
  other-image =
      ap (λ (body : List ℕ). cond (passed_over byte state) image (image_with_body image (place_in image i) body))
      (other-body-as-is level (device_in image i state) (event_of byte) other)

-- ---- an event that is not a slot

pub other-over : (byte : ℕ) → is_slot (event_of byte) ≡ false → 2 ≤ byte
unfolding is_slot event_of
other-over zero e = absurd (true≢false e)
other-over (suc zero) e = absurd (true≢false e)
other-over (suc (suc byte)) e = omega arith

-- one that is not a reset is the pulse
pub other-pulse : (event : Event) → is_slot event ≡ false → (event ≡ Reset → ⊥) → (event ≡ OverdriveReset → ⊥) → event ≡ Pulse
unfolding is_slot
other-pulse (Slot sent) e h k = absurd (true≢false e)
other-pulse Reset e h k = absurd (h refl)
other-pulse Pulse e h k = refl
other-pulse (OverdriveSlot sent) e h k = absurd (true≢false e)
other-pulse OverdriveReset e h k = absurd (k refl)

-- ---- a device that stays as it is is not stored again

pub set_same : (lines : List LineState) (i : ℕ) → set lines i (line_at lines i) ≡ lines
set_same [] i = refl
set_same (state ∷ lines) zero = refl
set_same (state ∷ lines) (suc i) = ap (λ (l : List LineState). state ∷ l) (set_same lines i)

pub added_none : (sum : ℕ) → added_to sum 0 ≡ sum
unfolding added_to
added_none sum = rw (le-ltb (most_copied - sum) 0 (omega arith)) (omega arith)

-- nor is one that does not hear an event
module _ (byte : ℕ) (h : 2 ≤ byte) (level : Bool) (i : ℕ) where
  pub unheard-line : (image : List ℕ) (lines : List LineState) → hears (event_of byte) (line_at lines i) ≡ false
      → set lines i (turn_state image i (line_at lines i) byte level) ≡ lines
  unheard-line image lines deaf =
      ap (λ (s : LineState). set lines i s) (unheard-state byte h image i (line_at lines i) deaf level) ∙ set_same lines i

  pub unheard-turn : (s : BusState) → hears (event_of byte) (line_at s.lines i) ≡ false → turn_at byte level i s ≡ s
  unfolding turn_at
  unheard-turn s deaf = λ j.
      bus_state (unheard-image byte h s.image i (line_at s.lines i) deaf level j) (unheard-line s.image s.lines deaf j)

-- ---- the same of all devices

module _ (v w : ℕ) (l k : Bool)
    (state-same : (image : List ℕ) (i : ℕ) (state : LineState) → turn_state image i state v l ≡ turn_state image i state w k) where
  pub turned_same : (image : List ℕ) (i : ℕ) (states : List LineState) → turn_states_from image i states v l ≡ turn_states_from image i states w k
  unfolding turn_states_from
  turned_same image i [] = refl
  turned_same image i (state ∷ states) = λ j. state-same image i state j ∷ turned_same image (suc i) states j

  module _ (image-same : (image : List ℕ) (i : ℕ) (state : LineState) → turn_image image i state v l ≡ turn_image image i state w k) where
    turn-same : (i : ℕ) (s : BusState) → turn_at v l i s ≡ turn_at w k i s
    unfolding turn_at
    turn-same i s = λ j. bus_state (image-same s.image i (line_at s.lines i) j) (set s.lines i (state-same s.image i (line_at s.lines i) j))

    pub turns_same : (i : ℕ) (s : BusState) → turns_up_to v l i s ≡ turns_up_to w k i s
    unfolding turns_up_to
    turns_same zero s = refl
    turns_same (suc i) s = ap (turn_at v l i) (turns_same i s) ∙ turn-same i (turns_up_to w k i s)

    -- the bytes that they copy
    module _ (copied-same : (image : List ℕ) (i : ℕ) (state : LineState) → turn_copied image i state v l ≡ turn_copied image i state w k) where
      pub all-copied-same : (i : ℕ) (s : BusState) → copied_up_to v l i s ≡ copied_up_to w k i s
      unfolding copied_up_to
      all-copied-same zero s = refl
      all-copied-same (suc i) s = λ j.
          let before = turns_same i s j in
          added_to (all-copied-same i s j) (copied-same before.image i (line_at before.lines i) j)

-- what the master sends in a slot has no part in it
module _ (byte : ℕ) (level : Bool) (slot : is_slot (event_of byte) ≡ true) where
  pub turns-slot : (n : ℕ) (s : BusState) → turns_up_to (slot_of byte) level n s ≡ turns_up_to byte level n s
  turns-slot =
      turns_same (slot_of byte) byte level level (λ image i state. slot-state image i state level byte slot)
      (λ image i state. slot-image image i state level byte slot)

  pub copied-slot : (n : ℕ) (s : BusState) → copied_up_to (slot_of byte) level n s ≡ copied_up_to byte level n s
  copied-slot =
      all-copied-same (slot_of byte) byte level level (λ image i state. slot-state image i state level byte slot)
      (λ image i state. slot-image image i state level byte slot) (λ image i state. slot-copied image i state level byte slot)

  pub states-slot : (image : List ℕ) (lines : List LineState) (n : ℕ)
      → turn_states_of image lines n (slot_of byte) level ≡ turn_states_of image lines n byte level
  unfolding turn_states_of
  states-slot image lines n =
      ap (λ (l : List LineState). l ++ drop n lines)
      (turned_same (slot_of byte) byte level level (λ image i state. slot-state image i state level byte slot) image 0 (take n lines))

-- nor has the level of another event
module _ (byte : ℕ) (level : Bool) (other : is_slot (event_of byte) ≡ false) where
  pub turns-other : (n : ℕ) (s : BusState) → turns_up_to byte true n s ≡ turns_up_to byte level n s
  turns-other =
      turns_same byte byte true level (λ image i state. other-state image i state level byte other)
      (λ image i state. other-image image i state level byte other)

  -- in which no byte is copied
  copies-nothing : (event : Event) → is_slot event ≡ false → (d : Device) → copied_as_is event level d ≡ 0
  unfolding is_slot copied_as_is heard_copied_as_is
  copies-nothing (Slot sent) e d = absurd (true≢false e)
  copies-nothing Reset e d = either-none (hears Reset d.state)
  copies-nothing Pulse e d = either-none (hears Pulse d.state)
  copies-nothing (OverdriveSlot sent) e d = absurd (true≢false e)
  copies-nothing OverdriveReset e d = either-none (hears OverdriveReset d.state)

  pub copied-none : (n : ℕ) (s : BusState) → copied_up_to byte level n s ≡ 0
  unfolding copied_up_to turn_copied
  copied-none zero s = refl
  copied-none (suc n) s =
      let before : BusState = turns_up_to byte level n s in
      let state : LineState = line_at before.lines n in
      ap (λ (sum : ℕ). added_to sum (turn_copied before.image n state byte level)) (copied-none n s)
      ∙ ap (λ (bytes : ℕ). added_to 0 (cond (passed_over byte state) 0 bytes)) (copies-nothing (event_of byte) other (device_in before.image n state))
      ∙ ap (added_to 0) (either-none (passed_over byte state))
      ∙ added_none 0

  pub states-other : (image : List ℕ) (lines : List LineState) (n : ℕ)
      → turn_states_of image lines n byte true ≡ turn_states_of image lines n byte level
  unfolding turn_states_of
  states-other image lines n =
      ap (λ (l : List LineState). l ++ drop n lines)
      (turned_same byte byte true level (λ image i state. other-state image i state level byte other) image 0 (take n lines))
