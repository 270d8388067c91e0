-- The moments of one device with a scratchpad up to a copy, and the walk back over them. Assumes nothing.
--     up_from           the moments of so many events, from one on
--     Way              the moments are those of one device, at the recorded levels
--     careful-is       the walk back decides what `shown_since_write` says
use Prim.Native.Nat.{ℕ, zero, suc, ◌+◌, ◌-◌, ◌*◌, ◌<◌, ◌≤◌}
use mathlib.Core.Path.{◌≡◌, refl, sym, ap, subst, ◌∙◌}
use mathlib.Core.Bool.{Bool, true, false, not, cond, ◌&&◌, ◌||◌, true≢false, or-false, beq}
use mathlib.Core.List.{List, [], ◌∷◌, ◌++◌}
use native.Mathlib.Omega.{arith}
use lib.ListN.{get_or, take}
use lib.Dec.{eqb, ltb}
use borrow.Author.Tests.{lt-ltb, le-ltb, eqb-true, eqb-false}
use Rattle.bits.specs.Bit.{bit_at}
use Rattle.kind.specs.declared.Kind.{Kind}
use Rattle.kind.specs.declared.Kind.TheVariants as kinds
use Rattle.kind.specs.Kind.{ta1, scratchpad}
use Rattle.sram.specs.Sram.{target_offset}
use Rattle.line.specs.Transfers.{waiting, goes_on, received}
use Rattle.device.specs.declared.LineState.{LineState}
use Rattle.device.specs.Device.{line_state, reset_at, state_after_slot_as_is, stage_range}
use Rattle.bus.specs.declared.Event.{Event}
use Rattle.bus.specs.declared.Event.TheVariants.{Reset, OverdriveReset}
use Rattle.bus.specs.Bus.{device_with, event_of, taken_state, hears, unheard_state, is_slot, is_overdrive}
use Rattle.bus.specs.Loops.{heard_state_as_is, next_state_as_is}
use Rattle.recording.specs.Recorded.{level_at}
use Rattle.judge.specs.declared.Mark.{Mark}
use Rattle.judge.specs.declared.Mark.TheVariants.{Unmarked, Wrote, Reads}
use Rattle.judge.specs.declared.Part.{Part}
use Rattle.judge.specs.declared.Back.{Back}
use Rattle.judge.specs.Rules.{Moment, heard_slot, passed_over, is_last, is_memory_command, is_write_address, completes, writes, bits_from, wanted_bits, shows_bits, some_read_shows, some_write, shown_since_write}
use Rattle.judge.specs.Loops.{slot_at, passed_at, line_next, wanted_bytes, wanted_bit, shown_from, read_shown, part_so, part_by, part_at, part_over, back_to, overdrive_before, begins_part, back_by, back_over, part_from, back_at, back_from, careful_by, careful_at}
use Rattle.judge.proofs.Way.{Off, off_next, off-speed, Alike, same, alike-speed, hears-speed, event-alike, slot_next, passed-next, wrote_in, reads_in, mark-is, alike-wrote, alike-reads, reads-off, reads-speed, both_true, reads-heard, fast-before}

-- ---- what a device hears

pub reset-event : (byte : ℕ) → eqb byte 2 ≡ true → event_of byte ≡ Reset
unfolding event_of
reset-event byte e = subst (λ (b : ℕ). event_of b ≡ Reset) (sym (eqb-true byte 2 e)) refl

overdrive-reset-event : (byte : ℕ) → eqb byte 6 ≡ true → event_of byte ≡ OverdriveReset
unfolding event_of
overdrive-reset-event byte e = subst (λ (b : ℕ). event_of b ≡ OverdriveReset) (sym (eqb-true byte 6 e)) refl

pub slot-heard : (x : Moment) (byte : ℕ) → x.event ≡ event_of byte → taken_state x.device ≡ x.device.state → heard_slot x ≡ slot_at byte x.device.state.overdrive
unfolding heard_slot slot_at
slot-heard x byte e t =
    (λ i. is_slot (e i) && hears (e i) (t i))
    ∙ ap (λ (b : Bool). is_slot (event_of byte) && b) (hears-speed (event_of byte) x.device.state (line_state waiting x.device.state.overdrive) refl)

over-passed : (x : Moment) (byte : ℕ) → x.event ≡ event_of byte → taken_state x.device ≡ x.device.state → passed_over x ≡ passed_at byte x.device.state.overdrive
unfolding passed_over passed_at
over-passed x byte e t =
    (λ i. is_overdrive (e i) && not (hears (e i) (t i)))
    ∙ ap (λ (b : Bool). is_overdrive (event_of byte) && not b) (hears-speed (event_of byte) x.device.state (line_state waiting x.device.state.overdrive) refl)

-- ---- lists of moments

no-write-none : (bits : List Bool) (ms : List Moment) → some_write ms ≡ false → shown_since_write bits ms ≡ false
unfolding some_write shown_since_write
no-write-none bits [] e = refl
no-write-none bits (m ∷ ms) e = split (writes m) e (no-write-none bits ms)
  where
    split : (w : Bool) → (w || some_write ms) ≡ false → (some_write ms ≡ false → shown_since_write bits ms ≡ false)
        → (w && (not (some_write ms) && some_read_shows bits ms) || shown_since_write bits ms) ≡ false
    split true e more = absurd (true≢false e)
    split false e more = more e

some-write-append : (ps ms : List Moment) → some_write ms ≡ true → some_write (ps ++ ms) ≡ true
unfolding some_write
some-write-append [] ms e = e
some-write-append (p ∷ ps) ms e = ap (λ (b : Bool). writes p || b) (some-write-append ps ms e) ∙ or-true (writes p)
  where
    or-true : (b : Bool) → (b || true) ≡ true
    or-true true = refl
    or-true false = refl

-- what comes before a write does not count
write_skip : (bits : List Bool) (ps ms : List Moment) → some_write ms ≡ true → shown_since_write bits (ps ++ ms) ≡ shown_since_write bits ms
unfolding shown_since_write
write_skip bits [] ms e = refl
write_skip bits (p ∷ ps) ms e =
    ap (λ (b : Bool). writes p && (not b && some_read_shows bits (ps ++ ms)) || shown_since_write bits (ps ++ ms)) (some-write-append ps ms e)
    ∙ drop-and (writes p) (shown_since_write bits (ps ++ ms))
    ∙ write_skip bits ps ms e
  where
    drop-and : (w s : Bool) → (w && false || s) ≡ s
    drop-and true s = refl
    drop-and false s = refl

-- ---- the way of one device

module _ (trace answers : List ℕ) (m : ℕ → Moment) where
  -- the moments of so many events, from one on
  unfoldable pub up_from : ℕ → ℕ → List Moment
  up_from j zero = []
  up_from j (suc c) = m j ∷ up_from (suc j) c

  pub up-append : (j c d : ℕ) → (up_from j c ++ up_from (j + c) d) ≡ up_from j (c + d)
  unfolding up_from
  up-append j zero d =
      let e : j + 0 ≡ j = omega arith in
      let z : d ≡ 0 + d = omega arith in
      ap (λ (x : ℕ). up_from x d) e ∙ ap (up_from j) z
  up-append j (suc c) d =
      let e : j + suc c ≡ suc j + c = omega arith in
      let z : suc (c + d) ≡ suc c + d = omega arith in
      ap (λ (l : List Moment). m j ∷ l) (ap (λ (x : ℕ). up_from (suc j) c ++ up_from x d) e ∙ up-append (suc j) c d) ∙ ap (up_from j) z

  -- up to event k they are those of one device with a scratchpad, each at the recorded level
  pub record WayTo (k size : ℕ) (flat : Bool) : Type 0 where
    pub level-is : (j : ℕ) → j < k → (m j).level ≡ level_at answers j
    pub event-is : (j : ℕ) → j < k → (m j).event ≡ event_of (get_or trace j 0)
    pub taken : (j : ℕ) → j < k → taken_state (m j).device ≡ (m j).device.state
    pub first-is : 0 < k → eqb (get_or trace 0 0) 2 ≡ true
    pub code_is : (j : ℕ) → j ≤ k → take 8 (m k).device.body ≡ take 8 (m j).device.body
    pub ranged : (j : ℕ) → j ≤ k
        → stage_range (m j).device.state.transfer.stage (kinds.Sram size flat) (m j).device.state.overdrive (m j).device.state.transfer.register (m j).device.state.transfer.left ≡ true
    pub next-is : (j : ℕ) → j < k
        → (m (suc j)).device.state
        ≡ next_state_as_is (event_of (get_or trace j 0)) (level_at answers j) (device_with (kinds.Sram size flat) (m j).device.body (m j).device.state)

  module _ (k size : ℕ) (flat : Bool) (way : WayTo k size flat) where
    abbrev K : Kind
    K = kinds.Sram size flat

    abbrev body : List ℕ
    body = (m k).device.body

    abbrev state : ℕ → LineState
    state j = (m j).device.state

    abbrev lv : ℕ → Bool
    lv j = level_at answers j

    abbrev byte : ℕ → ℕ
    byte j = get_or trace j 0

    -- what a moment says
    heard-is : (j : ℕ) → j < k → heard_slot (m j) ≡ slot_at (byte j) (state j).overdrive
    heard-is j h = slot-heard (m j) (byte j) (way.event-is j h) (way.taken j h)

    passed_is : (j : ℕ) → j < k → passed_over (m j) ≡ passed_at (byte j) (state j).overdrive
    passed_is j h = over-passed (m j) (byte j) (way.event-is j h) (way.taken j h)

    writes-is : (j : ℕ) → j < k → writes (m j) ≡ wrote_in (byte j) (state j)
    unfolding writes is_last
    writes-is j h = ap (λ (x : Bool). x && (is_write_address (state j).transfer.stage && not (goes_on (state j).transfer))) (heard-is j h)

    reads-is : (j : ℕ) → j < k → completes 0xAA (m j) ≡ reads_in (byte j) (state j) (lv j)
    unfolding completes is_last
    reads-is j h =
        (λ i. heard-is j h i && (is_memory_command (state j).transfer.stage && (not (goes_on (state j).transfer) && eqb (received (state j).transfer (way.level-is j h i)) 0xAA)))

    -- where the device is known to be at overdrive before event j
    abbrev Fast : ℕ → Bool → Type 0
    Fast j overdrive = overdrive ≡ true → (state j).overdrive ≡ true

    fast-back : (j : ℕ) (after : Bool) → j < k → Fast (suc j) after → Fast j (overdrive_before (byte j) after)
    unfolding overdrive_before passed_at
    fast-back j after h fast e =
        let p = both_true (passed_at (byte j) false) after e in
        fast-before (event_of (byte j)) (lv j) (device_with K (m j).device.body (state j)) (both_true (is_overdrive (event_of (byte j))) _ p.0).0
        (sym (ap (λ (s : LineState). s.overdrive) (way.next-is j h)) ∙ fast p.1)

    -- a reset that the device hears begins a part, and says nothing
    record Begins (j : ℕ) : Type 0 where
      pub slot : heard_slot (m j) ≡ false
      pub over : passed_over (m j) ≡ false
      pub next : state (suc j) ≡ reset_at (eqb (byte j) 6)

    regular-begins : (j : ℕ) → j < k → eqb (byte j) 2 ≡ true → Begins j
    unfolding heard_slot is_slot passed_over is_overdrive next_state_as_is hears heard_state_as_is
    regular-begins j h s =
        let reset : event_of (byte j) ≡ Reset = reset-event (byte j) s in record {
          slot = ap (λ (e : Event). is_slot e && hears e (taken_state (m j).device)) (way.event-is j h ∙ reset);
          over = ap (λ (e : Event). is_overdrive e && not (hears e (taken_state (m j).device))) (way.event-is j h ∙ reset);
          next = way.next-is j h
              ∙ ap (λ (e : Event). next_state_as_is e (lv j) (device_with K (m j).device.body (state j))) reset
              ∙ ap (λ (b : ℕ). reset_at (eqb b 6)) (sym (eqb-true (byte j) 2 s));
        }

    overdrive-begins : (j : ℕ) → j < k → eqb (byte j) 6 ≡ true → (state j).overdrive ≡ true → Begins j
    unfolding heard_slot is_slot passed_over is_overdrive next_state_as_is hears heard_state_as_is unheard_state
    overdrive-begins j h s fast =
        let reset : event_of (byte j) ≡ OverdriveReset = overdrive-reset-event (byte j) s in record {
          slot = ap (λ (e : Event). is_slot e && hears e (taken_state (m j).device)) (way.event-is j h ∙ reset);
          over = ap (λ (e : Event). is_overdrive e && not (hears e (taken_state (m j).device))) (way.event-is j h ∙ reset)
              ∙ ap (λ (x : LineState). not x.overdrive) (way.taken j h) ∙ ap not fast;
          next = way.next-is j h
              ∙ ap (λ (e : Event). next_state_as_is e (lv j) (device_with K (m j).device.body (state j))) reset
              ∙ ap (λ (x : Bool). cond x (reset_at true) (state j)) fast ∙ ap reset_at (sym s);
        }

    begins : (j : ℕ) (after : Bool) → j < k → Fast (suc j) after → begins_part (byte j) after ≡ true → Begins j
    unfolding begins_part overdrive_before passed_at is_overdrive hears
    begins j after h fast e = split (eqb (byte j) 2) refl e
      where
        split : (x : Bool) → eqb (byte j) 2 ≡ x → (x || eqb (byte j) 6 && after) ≡ true → Begins j
        split true s e = regular-begins j h s
        split false s e =
            let p = both_true (eqb (byte j) 6) after e in
            let event = overdrive-reset-event (byte j) p.0 in
            let known : overdrive_before (byte j) after ≡ true = (λ i. (is_overdrive (event i) && not (hears (event i) (line_state waiting false))) && p.1 i) in
            overdrive-begins j h p.0 (fast-back j after h fast known)

    writes-reset : (j : ℕ) → heard_slot (m j) ≡ false → writes (m j) ≡ false
    unfolding writes
    writes-reset j s = ap (λ (x : Bool). x && (is_write_address (state j).transfer.stage && is_last (m j).device)) s

    reads-reset : (j : ℕ) → heard_slot (m j) ≡ false → completes 0xAA (m j) ≡ false
    unfolding completes
    reads-reset j s =
        ap (λ (x : Bool). x && (is_memory_command (state j).transfer.stage && (is_last (m j).device && eqb (received (state j).transfer (m j).level) 0xAA))) s

    -- after a slot that the device hears, and after an event that it passes over
    heard-next : (j : ℕ) → j < k → slot_at (byte j) (state j).overdrive ≡ true → state (suc j) ≡ state_after_slot_as_is (state j) K (m j).device.body (lv j)
    unfolding slot_at
    heard-next j h e = way.next-is j h ∙ slot_next (event_of (byte j)) (lv j) (device_with K (m j).device.body (state j)) e

    passed_on : (j : ℕ) → j < k → passed_at (byte j) (state j).overdrive ≡ true → state (suc j) ≡ state j
    unfolding passed_at
    passed_on j h e = way.next-is j h ∙ passed-next (event_of (byte j)) (lv j) (device_with K (m j).device.body (state j)) e

    -- no regular reset from j up to e
    abbrev Slots : ℕ → ℕ → Type 0
    Slots j e = (i : ℕ) → j ≤ i → i < e → eqb (byte i) 2 ≡ false

    -- what follows a part of the trace: nothing, or a reset that the device hears
    abbrev Ends : List Moment → Type 0
    Ends [] = Unit {0}
    Ends (x ∷ xs) = (heard_slot x ≡ false) × (passed_over x ≡ false)

    none-shown : (bit : Bool) (bits : List Bool) (rest : List Moment) → Ends rest → shows_bits (bit ∷ bits) rest ≡ false
    unfolding shows_bits
    none-shown bit bits [] e = refl
    none-shown bit bits (x ∷ rest) e =
        (λ i. cond (e.0 i) (beq x.level bit && shows_bits bits rest) (e.1 i && shows_bits (bit ∷ bits) rest))

    -- ---- the bits that a read is to show, by their number
    unfoldable wanted_from : ℕ → ℕ → List Bool
    wanted_from at zero = []
    wanted_from at (suc due) = wanted_bit body at ∷ wanted_from (suc at) due

    register-bits : (c at d : ℕ) → at + c ≤ 24 → wanted_from at (c + d) ≡ bits_from (8 * ta1 + at) c body ++ wanted_from (at + c) d
    unfolding wanted_from bits_from wanted_bit
    register-bits zero at d h =
        let x : 0 + d ≡ d = omega arith in
        let y : at ≡ at + 0 = omega arith in
        ap (wanted_from at) x ∙ ap (λ (n : ℕ). wanted_from n d) y
    register-bits (suc c) at d h =
        let x : suc c + d ≡ suc (c + d) = omega arith in
        let y : suc at + c ≡ at + suc c = omega arith in
        let z : 8 * ta1 + suc at ≡ suc (8 * ta1 + at) = omega arith in
        let low : ltb at 24 ≡ true = lt-ltb at 24 (omega (arith, h)) in
        ap (wanted_from at) x
        ∙ (λ i. cond (low i) (bit_at body (8 * ta1 + at)) (bit_at body (8 * (scratchpad + target_offset body) + (at - 24))) ∷ register-bits c (suc at) d (omega (arith, h)) i)
        ∙ (λ i. bit_at body (8 * ta1 + at) ∷ (bits_from (z i) c body ++ wanted_from (y i) d))

    byte-bits : (d at : ℕ) → 24 ≤ at → wanted_from at d ≡ bits_from (8 * (scratchpad + target_offset body) + (at - 24)) d body
    unfolding wanted_from bits_from wanted_bit
    byte-bits zero at h = refl
    byte-bits (suc d) at h =
        let p = 8 * (scratchpad + target_offset body) in
        let z : p + (suc at - 24) ≡ suc (p + (at - 24)) = omega (arith, h) in
        let high : ltb at 24 ≡ false = le-ltb at 24 h in
        (λ i. cond (high i) (bit_at body (8 * ta1 + at)) (bit_at body (p + (at - 24))) ∷ byte-bits d (suc at) (omega (arith, h)) i)
        ∙ (λ i. bit_at body (p + (at - 24)) ∷ bits_from (z i) d body)

    wanted-all : wanted_from 0 (24 + 8 * wanted_bytes body) ≡ wanted_bits body
    unfolding wanted_bits wanted_bytes
    wanted-all =
        let p = 8 * (scratchpad + target_offset body) in
        let n = 8 * wanted_bytes body in
        let x : 8 * ta1 + 0 ≡ 8 * ta1 = omega arith in
        let y : p + (0 + 24 - 24) ≡ p = omega arith in
        register-bits 24 0 n (omega arith)
        ∙ (λ i. bits_from (x i) 24 body ++ byte-bits n (0 + 24) (omega arith) i)
        ∙ (λ i. bits_from (8 * ta1) 24 body ++ bits_from (y i) n body)

    read-turn : (x p b s t s' t' : Bool) → (x ≡ true → s ≡ s') → (p ≡ true → t ≡ t') → cond x (b && s) (p && t) ≡ cond x (b && s') (p && t')
    read-turn true p b s t s' t' f g = ap (λ (y : Bool). b && y) (f refl)
    read-turn false true b s t s' t' f g = g refl
    read-turn false false b s t s' t' f g = refl

    -- a device that is off, at its speed, shows what is told by value
    shows : (rest : List Moment) → Ends rest → (overdrive : Bool) (c at due j : ℕ) → j + c ≤ k → Off (state j).transfer → (state j).overdrive ≡ overdrive
        → shows_bits (wanted_from at due) (up_from j c ++ rest) ≡ shown_from trace answers body overdrive at due j c
    unfolding shows_bits shown_from wanted_from up_from
    shows rest ends overdrive zero at zero j h p v = refl
    shows rest ends overdrive zero at (suc due) j h p v = none-shown (wanted_bit body at) (wanted_from (suc at) due) rest ends
    shows rest ends overdrive (suc c) at zero j h p v = refl
    shows rest ends overdrive (suc c) at (suc due) j h p v =
        let small : j < k = omega (arith, h) in
        let x = slot_at (byte j) overdrive in
        let y = passed_at (byte j) overdrive in
        let slot : heard_slot (m j) ≡ x = heard-is j small ∙ ap (slot_at (byte j)) v in
        let over : passed_over (m j) ≡ y = passed_is j small ∙ ap (passed_at (byte j)) v in
        let next : x ≡ true → state (suc j) ≡ state_after_slot_as_is (state j) K (m j).device.body (lv j) = (λ e. heard-next j small (ap (slot_at (byte j)) v ∙ e)) in
        let stay : y ≡ true → state (suc j) ≡ state j = (λ e. passed_on j small (ap (passed_at (byte j)) v ∙ e)) in
        (λ i. cond (slot i) (beq (way.level-is j small i) (wanted_bit body at) && shows_bits (wanted_from (suc at) due) (up_from (suc j) c ++ rest))
        (over i && shows_bits (wanted_from at (suc due)) (up_from (suc j) c ++ rest)))
        ∙ read-turn x y (beq (lv j) (wanted_bit body at))
        (shows_bits (wanted_from (suc at) due) (up_from (suc j) c ++ rest)) (shows_bits (wanted_from at (suc due)) (up_from (suc j) c ++ rest))
        (shown_from trace answers body overdrive (suc at) due (suc j) c) (shown_from trace answers body overdrive at (suc due) (suc j) c)
        (λ e. shows rest ends overdrive c (suc at) due (suc j) (omega (arith, h))
        (subst (λ (s : LineState). Off s.transfer) (sym (next e)) (off_next (state j) K (m j).device.body (lv j) p))
        (ap (λ (s : LineState). s.overdrive) (next e) ∙ off-speed (state j) K (m j).device.body (lv j) p ∙ v))
        (λ e. shows rest ends overdrive c at (suc due) (suc j) (omega (arith, h))
        (subst (λ (s : LineState). Off s.transfer) (sym (stay e)) p)
        (ap (λ (s : LineState). s.overdrive) (stay e) ∙ v))

    -- ---- a part of the trace

    abbrev wb : List Bool
    wb = wanted_bits body

    read_is : (rest : List Moment) → Ends rest → (overdrive : Bool) (c e j : ℕ) → j + suc c ≡ e → e ≤ k → reads_in (byte j) (state j) (lv j) ≡ true → (state j).overdrive ≡ overdrive
        → read_shown trace answers body overdrive e (j + 1) ≡ shows_bits wb (up_from (suc j) c ++ rest)
    unfolding read_shown
    read_is rest ends overdrive c e j n h r v =
        let small : j < k = omega (arith, h, n) in
        let next = heard-next j small (reads-heard (byte j) (state j) (lv j) r) in
        let one : j + 1 ≡ suc j = omega arith in
        let left : e - suc j ≡ c = omega (arith, n) in
        (λ i. shown_from trace answers body overdrive 0 (24 + 8 * wanted_bytes body) (one i) (e - one i))
        ∙ ap (shown_from trace answers body overdrive 0 (24 + 8 * wanted_bytes body) (suc j)) left
        ∙ sym (shows rest ends overdrive c 0 (24 + 8 * wanted_bytes body) (suc j) (omega (arith, n, h))
        (subst (λ (s : LineState). Off s.transfer) (sym next) (reads-off (byte j) (state j) size flat (m j).device.body (lv j) r))
        (ap (λ (s : LineState). s.overdrive) next ∙ reads-speed (byte j) (state j) K (m j).device.body (lv j) r ∙ v))
        ∙ ap (λ (bits : List Bool). shows_bits bits (up_from (suc j) c ++ rest)) wanted-all

    -- what was shown since the last write, or by any read where there is none
    abbrev since_write : Bool → List Moment → Bool
    since_write shown ms = cond (some_write ms) (shown_since_write wb ms) (shown || some_read_shows wb ms)

    abbrev Says : Part → Bool → Part → List Moment → Type 0
    Says after r part ms = (after.wrote ≡ (part.wrote || some_write ms)) × ((after.shown || r) ≡ since_write part.shown ms)

    or-true : (b : Bool) → (b || true) ≡ true
    or-true true = refl
    or-true false = refl

    or-more : (a b c : Bool) → ((a || b) || c) ≡ (a || (b || c))
    or-more true b c = refl
    or-more false b c = refl

    -- an event, by what it marks, before what the others say
    turn : (after : Part) (r : Bool) (part : Part) (overdrive : Bool) (e j : ℕ) (x : Moment) (ms : List Moment) (w rd : Bool) → writes x ≡ w → completes 0xAA x ≡ rd
        → (rd ≡ true → read_shown trace answers body overdrive e (j + 1) ≡ shows_bits wb ms)
        → Says after r (part_by trace answers body overdrive e j part (cond w Wrote (cond rd Reads Unmarked))) ms → Says after r part (x ∷ ms)
    unfolding part_by some_write some_read_shows shown_since_write
    turn after r part overdrive e j x ms true rd ew er read s = (
      s.0 ∙ sym (ap (λ (b : Bool). part.wrote || (b || some_write ms)) ew ∙ or-true part.wrote),
      s.1
          ∙ split (some_write ms) refl
          ∙ sym (ap (λ (b : Bool). cond (b || some_write ms) (b && (not (some_write ms) && some_read_shows wb ms) || shown_since_write wb ms) (part.shown || (completes 0xAA x && shows_bits wb ms || some_read_shows wb ms))) ew),
    )
      where
        split : (z : Bool) → some_write ms ≡ z
            → cond z (shown_since_write wb ms) (some_read_shows wb ms)
            ≡ (not z && some_read_shows wb ms || shown_since_write wb ms)
        split true q = refl
        split false q = sym (ap (λ (b : Bool). some_read_shows wb ms || b) (no-write-none wb ms q) ∙ or-false (some_read_shows wb ms))
    turn after r part overdrive e j x ms false true ew er read s = (
      s.0 ∙ sym (ap (λ (b : Bool). part.wrote || (b || some_write ms)) ew),
      s.1
          ∙ ap (λ (b : Bool). cond (some_write ms) (shown_since_write wb ms) b)
          (ap (λ (b : Bool). (part.shown || b) || some_read_shows wb ms) (read refl) ∙ or-more part.shown (shows_bits wb ms) (some_read_shows wb ms))
          ∙ sym (λ i. cond (ew i || some_write ms) (ew i && (not (some_write ms) && some_read_shows wb ms) || shown_since_write wb ms) (part.shown || (er i && shows_bits wb ms || some_read_shows wb ms))),
    )
    turn after r part overdrive e j x ms false false ew er read s = (
      s.0 ∙ sym (ap (λ (b : Bool). part.wrote || (b || some_write ms)) ew),
      s.1
          ∙ sym (λ i. cond (ew i || some_write ms) (ew i && (not (some_write ms) && some_read_shows wb ms) || shown_since_write wb ms) (part.shown || (er i && shows_bits wb ms || some_read_shows wb ms))),
    )

    module _ (rest : List Moment) (ends : Ends rest) (quiet : some_write rest ≡ false) where
      says : (c j e : ℕ) (f : LineState) (part : Part) → j + c ≡ e → e ≤ k → Alike f (state j)
          → Says (part_over trace answers K body e f part j c) (some_read_shows wb rest) part (up_from j c ++ rest)
      unfolding part_over part_at line_next up_from
      says zero j e f part n h a = (
        sym (ap (λ (b : Bool). part.wrote || b) quiet ∙ or-false part.wrote),
        sym (ap (λ (b : Bool). cond b (shown_since_write wb rest) (part.shown || some_read_shows wb rest)) quiet),
      )
      says (suc c) j e f part n h a =
          let small : j < k = omega (arith, n, h) in
          let g = line_next trace answers K body j f in
          let alike : Alike g (state (suc j)) =
          subst (λ (x : LineState). Alike g x) (sym (way.next-is j small))
          (event-alike size flat body (m j).device.body (way.code_is j (omega (arith, small))) (event_of (byte j)) (lv j) f (state j) a (way.ranged j (omega (arith, small)))) in
          let w = alike-wrote (byte j) f (state j) a in
          let r = alike-reads (byte j) f (state j) (lv j) a in
          let more = says c (suc j) e g (part_at trace answers body e j f part) (omega (arith, n)) h alike in
          turn (part_over trace answers K body e g (part_at trace answers body e j f part) (suc j) c) (some_read_shows wb rest) part f.overdrive e j (m j) (up_from (suc j) c ++ rest)
          (wrote_in (byte j) f) (reads_in (byte j) f (lv j)) (writes-is j small ∙ sym w) (reads-is j small ∙ sym r)
          (λ z. read_is rest ends f.overdrive c e j n h (sym r ∙ z) (sym (alike-speed f (state j) a)))
          (subst (λ (x : Mark). Says (part_over trace answers K body e g (part_at trace answers body e j f part) (suc j) c) (some_read_shows wb rest) (part_by trace answers body f.overdrive e j part x) (up_from (suc j) c ++ rest))
          (mark-is (byte j) f (lv j)) more)

    -- ---- the walk back

    -- the moments from event e up to the copy
    abbrev since : ℕ → List Moment
    since e = up_from e (k - e)

    since-split : (j e : ℕ) → j < e → e ≤ k → since (suc j) ≡ (up_from (suc j) (e - suc j) ++ since e)
    since-split j e h below =
        let at : suc j + (e - suc j) ≡ e = omega (arith, h) in
        let all : e - suc j + (k - e) ≡ k - suc j = omega (arith, h, below) in
        sym (ap (λ (x : ℕ). up_from (suc j) (e - suc j) ++ up_from x (k - e)) (sym at) ∙ up-append (suc j) (e - suc j) (k - e) ∙ ap (up_from (suc j)) all)

    since-here : (j : ℕ) → j < k → since j ≡ m j ∷ since (suc j)
    unfolding up_from
    since-here j h =
        let n : k - j ≡ suc (k - suc j) = omega (arith, h) in
        ap (up_from j) n

    whole : (j : ℕ) → j < k → up_from 0 k ≡ (up_from 0 (suc j) ++ since (suc j))
    whole j h =
        let at : suc j ≡ 0 + suc j = omega arith in
        let all : suc j + (k - suc j) ≡ k = omega (arith, h) in
        sym (ap (λ (x : ℕ). up_from 0 (suc j) ++ up_from x (k - suc j)) at ∙ up-append 0 (suc j) (k - suc j) ∙ ap (up_from 0) all)

    -- where the walk has come to
    pub record At (e : ℕ) (shown : Bool) : Type 0 where
      pub below : e ≤ k
      pub ends : Ends (since e)
      pub quiet : some_write (since e) ≡ false
      pub shows : some_read_shows wb (since e) ≡ shown

    abbrev answer : Bool
    answer = shown_since_write wb (up_from 0 k)

    abbrev result : ℕ → Back → Bool
    result j back = careful_by (back_from trace answers K body j back)

    decided-stays : (j e : ℕ) (shown before : Bool) → result j (back_to e shown true before) ≡ shown
    unfolding back_from careful_by
    decided-stays zero e shown before = refl
    decided-stays (suc j) e shown before = refl

    or_swap : (a b : Bool) → (a || b) ≡ (b || a)
    or_swap true true = refl
    or_swap true false = refl
    or_swap false true = refl
    or_swap false false = refl

    reset-ends : (j : ℕ) (ms : List Moment) → ms ≡ m j ∷ since (suc j) → (heard_slot (m j) ≡ false) × (passed_over (m j) ≡ false) → Ends ms
    reset-ends j ms e f = subst Ends (sym e) f

    at_before : (j : ℕ) (shown : Bool) → j < k → Begins j → some_write (since (suc j)) ≡ false → shown ≡ some_read_shows wb (since (suc j)) → At j shown
    unfolding some_write some_read_shows
    at_before j shown small here q s = record {
      below = omega (arith, small);
      ends = reset-ends j (since j) (since-here j small) (here.slot, here.over);
      quiet = ap some_write (since-here j small) ∙ (λ i. writes-reset j here.slot i || q i);
      shows = ap (some_read_shows wb) (since-here j small)
          ∙ (λ i. reads-reset j here.slot i && shows_bits wb (since (suc j)) || some_read_shows wb (since (suc j))) ∙ sym s;
    }

    -- a reset with a part after it
    at-reset : (j e : ℕ) (shown after before : Bool) → j < e → Begins j → At e shown → (part : Part) → Says part shown (part_so false false) (since (suc j))
        → ((s : Bool) → At j s → result j (back_to j s false before) ≡ answer)
        → result j (back_by j (back_to e shown false after) before part) ≡ answer
    unfolding back_by some_write some_read_shows
    at-reset j e shown after before h here at part s ih = split (some_write (since (suc j))) refl
      where
        small : j < k
        small = omega (arith, h, at.below)

        turned : (shown || part.shown) ≡ since_write false (since (suc j))
        turned = or_swap shown part.shown ∙ s.1

        split : (w : Bool) → some_write (since (suc j)) ≡ w → result j (back_to j (shown || part.shown) part.wrote before) ≡ answer
        split true q =
            ap (λ (b : Bool). result j (back_to j (shown || part.shown) b before)) (s.0 ∙ q)
            ∙ decided-stays j j (shown || part.shown) before
            ∙ turned
            ∙ ap (λ (b : Bool). cond b (shown_since_write wb (since (suc j))) (some_read_shows wb (since (suc j)))) q
            ∙ sym (ap (shown_since_write wb) (whole j small) ∙ write_skip wb (up_from 0 (suc j)) (since (suc j)) q)
        split false q =
            ap (λ (b : Bool). result j (back_to j (shown || part.shown) b before)) (s.0 ∙ q)
            ∙ ih (shown || part.shown) (at_before j (shown || part.shown) small here q
            (turned ∙ ap (λ (b : Bool). cond b (shown_since_write wb (since (suc j))) (some_read_shows wb (since (suc j)))) q))

    not-regular : (b : ℕ) (after : Bool) → begins_part b after ≡ false → eqb b 2 ≡ false
    unfolding begins_part
    not-regular b after e = split (eqb b 2) e
      where
        split : (x : Bool) → (x || eqb b 6 && after) ≡ false → x ≡ false
        split true e = absurd (true≢false e)
        split false e = refl

    back-turn : (j e : ℕ) (shown after before : Bool) → j < e → Slots (suc j) e → At e shown → Fast (suc j) after → (x : Bool) → begins_part (byte j) after ≡ x
        → ((e' : ℕ) (s : Bool) → j ≤ e' → Slots j e' → At e' s → result j (back_to e' s false before) ≡ answer)
        → result j (cond x (back_by j (back_to e shown false after) before (part_from trace answers K body e j)) (back_over (back_to e shown false after) before)) ≡ answer
    unfolding part_from back_over
    back-turn j e shown after before h slots at fast true x ih =
        let small : j < k = omega (arith, h, at.below) in
        let n : suc j + (e - suc j) ≡ e = omega (arith, h) in
        let here = begins j after small fast x in
        let start = reset_at (eqb (byte j) 6) in
        let part = part_over trace answers K body e start (part_so false false) (suc j) (e - suc j) in
        let s = says (since e) at.ends at.quiet (e - suc j) (suc j) e start (part_so false false) n at.below (same (sym here.next)) in
        at-reset j e shown after before h here at part
        (subst (λ (r : Bool). Says part r (part_so false false) (since (suc j))) at.shows
        (subst (λ (ms : List Moment). Says part (some_read_shows wb (since e)) (part_so false false) ms) (sym (since-split j e h at.below)) s))
        (λ s' at'. ih j s' (omega arith) (λ i a b. absurd (omega (arith, a, b))) at')
    back-turn j e shown after before h slots at fast false x ih =
        ih e shown (omega (arith, h)) (λ i a b. from-here i a b (eqb i j) refl) at
      where
        from-here : (i : ℕ) → j ≤ i → i < e → (y : Bool) → eqb i j ≡ y → eqb (get_or trace i 0) 2 ≡ false
        from-here i a b true y = subst (λ (z : ℕ). eqb (get_or trace z 0) 2 ≡ false) (sym (eqb-true i j y)) (not-regular (byte j) after x)
        from-here i a b false y = slots i (omega (arith, a, eqb-false i j y)) b

    back_is : (j e : ℕ) (shown after : Bool) → j ≤ e → Slots j e → At e shown → Fast j after → result j (back_to e shown false after) ≡ answer
    unfolding back_from back_at careful_by
    back_is zero zero shown after h slots at fast =
        let n : k - 0 ≡ k = omega arith in
        sym (no-write-none wb (up_from 0 k) (ap (λ (x : ℕ). some_write (up_from 0 x)) (sym n) ∙ at.quiet))
    back_is zero (suc e) shown after h slots at fast = absurd (true≢false (sym (way.first-is (omega (arith, at.below))) ∙ slots 0 (omega arith) (omega arith)))
    back_is (suc j) e shown after h slots at fast =
        let small : j < k = omega (arith, h, at.below) in
        let before = overdrive_before (get_or trace j 0) after in
        back-turn j e shown after before h slots at fast (begins_part (get_or trace j 0) after) refl
        (λ e' s h' slots' at'. back_is j e' s before h' slots' at' (fast-back j after small fast))

    nothing-since : (since k ≡ [])
    unfolding up_from
    nothing-since =
        let n : k - k ≡ 0 = omega arith in
        ap (up_from k) n

    at_copy : At k false
    unfolding some_write some_read_shows
    at_copy = record {
      below = omega arith;
      ends = subst Ends (sym nothing-since) tt;
      quiet = ap some_write nothing-since;
      shows = ap (some_read_shows wb) nothing-since;
    }

    pub careful-is : careful_at trace answers K body (state k).overdrive k ≡ shown_since_write (wanted_bits body) (up_from 0 k)
    unfolding careful_at
    careful-is = back_is k k false (state k).overdrive (omega arith) (λ i a b. absurd (omega (arith, a, b))) at_copy (λ e. e)
