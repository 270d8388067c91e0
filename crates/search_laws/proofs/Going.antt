-- A search that goes on: what is written so far, and a drive that gives the rest. The bodies are the image's throughout, so that a search
-- need only read it. For the loop of a search. Assumes nothing.
use Prim.Native.Nat.{ℕ, suc, ◌+◌, ◌-◌, ◌<◌, ◌≤◌, ◌*◌}
use mathlib.Core.Path.{◌≡◌, refl, sym, ap, ◌∙◌, subst}
use mathlib.Core.Bool.{Bool, true, false, cond}
use mathlib.Core.List.{List, [], ◌∷◌, ◌++◌, map, append-nil, append_assoc}
use native.Mathlib.Omega.{arith}
use lib.ListN.{length, replicate, length-append, length-map, length-replicate}
use borrow.Author.Tests.{lt-ltb, le-leb}
use Rattle.kind.specs.Kind.{body_size}
use Rattle.image.specs.Image.{count_of, offset_at, kind_at, body_at}
use Rattle.image.specs.Refusal.{image_refusal}
use Rattle.image.proofs.Accepted.{Known, accepted-known, inside}
use Rattle.device.specs.declared.LineState.{LineState}
use Rattle.device.specs.Device.{waiting_state}
use Rattle.bus.specs.declared.Event.{Event}
use Rattle.bits.specs.Bit.{level_byte}
use Rattle.bus.specs.Bus.{Device, device_with, event_of, level_of, next_state, next_body, next_device}
use Rattle.bus.specs.Run.{devices_from, waiting_devices}
use Rattle.bus.specs.Loops.{next_state_as_is, passed_over, place_in, device_at_place, device_in, turn_state, turn_states_from, level_as_is}
use Rattle.bus.proofs.Ranges.{InRange, AllIn, all-next-in, as-it-is-state, level-as-it-is}
use Rattle.bus.proofs.Idle.{idle-state}
use Rattle.bus.proofs.Shown.{waiting-in, devices-states}
use Rattle.master.specs.declared.Master.{Master}
use Rattle.master.specs.Master.{event, end, master_answer, master_after_level, next_master}
use Rattle.master.specs.Drive.{started_master, code_completed}
use Rattle.search_laws.specs.Search.{search_of}
use Rattle.search_laws.specs.Words.{Bytes}
use Rattle.search_laws.specs.Searched.{Searched}
use Rattle.search_laws.proofs.Driven.{bodies, Driven, next-is, driven-stops, driven-goes}
use Rattle.search_laws.proofs.Demand.{search-drive}

-- the master m has said what it says; these are the line states, the trace and the codes written so far
pub record Going (image : List ℕ) (m : Master) (lines : List LineState) (trace codes : List ℕ) : Type 0 where
  pub events : List ℕ
  pub found : List ℕ
  pub driven : Driven m (devices_from image 0 lines) events found (search_of image).master (search_of image).devices
  pub sent : trace ++ events ≡ (search_of image).trace
  pub written : codes ++ found ≡ (search_of image).codes
  pub each : length lines ≡ count_of image
  pub ranged : AllIn (devices_from image 0 lines)

pub going_start : (image : List ℕ) → Bytes image → image_refusal image ≡ 0 → Going image started_master (replicate (count_of image) waiting_state) [] []
unfolding waiting_devices
going_start image bytes ok = record {
  events = (search_of image).trace;
  found = (search_of image).codes;
  driven = search-drive image bytes ok;
  sent = refl;
  written = refl;
  each = length-replicate (count_of image) waiting_state;
  ranged = waiting-in image (accepted-known image ok);
}

-- devices whose bodies an event leaves as they were are those of the image in their next line states
lines_next : (image : List ℕ) (i : ℕ) (lines : List LineState) (e : Event) (level : Bool)
    → bodies (map (next_device e level) (devices_from image i lines)) ≡ bodies (devices_from image i lines)
    → map (next_device e level) (devices_from image i lines) ≡ devices_from image i (map (next_state e level) (devices_from image i lines))
unfolding devices_from next_device
lines_next image i [] e level b = refl
lines_next image i (s ∷ lines) e level b =
    let rest = lines_next image (suc i) lines e level (cc) in
    let own : next_body e level (device_with (kind_at image i) (body_at image i) s) ≡ body_at image i = cc in
    cc

devices-size : (image : List ℕ) (i : ℕ) (lines : List LineState) → length (devices_from image i lines) ≡ length lines
unfolding devices_from
devices-size image i [] = refl
devices-size image i (s ∷ lines) = ap suc (devices-size image (suc i) lines)

-- the level of an event, and the line states after it
abbrev pub level_in : List ℕ → List LineState → ℕ → Bool
level_in image lines e = level_of (event_of e) (devices_from image 0 lines)

abbrev pub lines_after : List ℕ → List LineState → ℕ → List LineState
lines_after image lines e = map (next_state (event_of e) (level_in image lines e)) (devices_from image 0 lines)

module _ (image : List ℕ) (searched : Searched image (search_of image)) {m : Master} {lines : List LineState} {trace codes : List ℕ} where
  -- at an end all is written, and there is no number
  pub going_end : (x : ℕ) → Going image m lines trace codes → master_answer m ≡ end x
      → (x ≡ 0) × (m ≡ (search_of image).master) × (trace ≡ (search_of image).trace) × (codes ≡ (search_of image).codes)
  going_end x g h =
      let s = driven-stops x g.driven h in
      let z : end x ≡ end 0 = sym h ∙ ap master_answer s.2 ∙ searched.ended in (
        cc,
        s.2,
        sym (append-nil trace) ∙ ap (λ (t : List ℕ). trace ++ t) (sym s.0) ∙ g.sent,
        sym (append-nil codes) ∙ ap (λ (t : List ℕ). codes ++ t) (sym s.1) ∙ g.written,
      )

  -- an event is one more of the trace, so there is room for it
  pub going-room : (e : ℕ) → Going image m lines trace codes → master_answer m ≡ event e → length trace < length (search_of image).trace
  going-room e g h =
      let r = driven-goes e 0 g.driven searched.ended h in
      let t = r.trace-is in
      let l = ap length (ap (λ (x : List ℕ). trace ++ x) (sym t) ∙ g.sent) in
      omega (arith, length-append trace (e ∷ r.events))

  -- it is sent, the devices answer, and the master is stepped with their level
  pub going_on : (e : ℕ) → Going image m lines trace codes → master_answer m ≡ event e
      → Going image (next_master m (level_byte (level_in image lines e))) (lines_after image lines e) (trace ++ e ∷ [])
      (codes ++ code_completed m.passes (next_master m (level_byte (level_in image lines e))))
  going_on e g h =
      let ds = devices_from image 0 lines in
      let r = driven-goes e 0 g.driven searched.ended h in
      let onward : map (next_device (event_of e) (level_in image lines e)) ds ≡ devices_from image 0 (lines_after image lines e) =
      lines_next image 0 lines (event_of e) (level_in image lines e) (rw r.is-level r.same) in
      let next : next_master m (level_byte (level_in image lines e)) ≡ master_after_level m (level_in image lines e) = next-is m (level_in image lines e) in
      let step : Driven (master_after_level m (level_in image lines e)) (map (next_device (event_of e) (level_in image lines e)) ds) r.events r.codes (search_of image).master (search_of image).devices = rw r.is-level r.rest in
      record {
        events = r.events;
        found = r.codes;
        driven = rw next (subst (λ (es : List Device). Driven (master_after_level m (level_in image lines e)) es r.events r.codes (search_of image).master (search_of image).devices)
            onward step);
        sent = append_assoc trace (e ∷ []) r.events ∙ ap (λ (t : List ℕ). trace ++ t) (sym r.trace-is) ∙ g.sent;
        written = rw next (append_assoc codes (code_completed m.passes (master_after_level m (level_in image lines e))) r.codes
            ∙ ap (λ (t : List ℕ). codes ++ t) (ap (λ (b : Bool). code_completed m.passes (master_after_level m b) ++ r.codes) r.is-level ∙ sym r.codes-are) ∙ g.written);
        each = simp length-map (devices-size image 0 lines ∙ g.each);
        ranged = subst AllIn onward (all-next-in (event_of e) (level_in image lines e) ds g.ranged);
      }

-- ---- the functions of the bus, on devices in range of an accepted image

module _ (image : List ℕ) (known : Known image) where
  -- a device that the bus finds by its place is the image's
  device-in : (i : ℕ) (state : LineState) → i < count_of image → device_in image i state ≡ device_with (kind_at image i) (body_at image i) state
  unfolding device_in device_at_place place_in
  device-in i state h =
      let size : offset_at image i + body_size (kind_at image i) - offset_at image i ≡ body_size (kind_at image i) = omega arith in
      rw (lt-ltb i (count_of image) h, lt-ltb (5 + 4 * i) (length image) (omega (arith, h, known.entries)), le-leb (offset_at image i + body_size (kind_at image i)) (length image) (inside image known i h)) (rw size)

  -- so its turn gives its next line state
  turn_in : (i : ℕ) (state : LineState) (e : ℕ) (level : Bool) → i < count_of image → InRange (device_with (kind_at image i) (body_at image i) state)
      → turn_state image i state e level ≡ next_state (event_of e) level (device_with (kind_at image i) (body_at image i) state)
  unfolding turn_state
  turn_in i state e level h ranged = choose (passed_over e state) refl
    where
      choose : (b : Bool) → passed_over e state ≡ b
          → cond b state (next_state_as_is (event_of e) level (device_in image i state)) ≡ next_state (event_of e) level (device_with (kind_at image i) (body_at image i) state)
      choose true idle = idle-state e (device_with (kind_at image i) (body_at image i) state) ranged idle level
      choose false awake =
          ap (next_state_as_is (event_of e) level) (device-in i state h)
          ∙ as-it-is-state (device_with (kind_at image i) (body_at image i) state) ranged (event_of e) level

  pub turned-in : (i : ℕ) (lines : List LineState) (e : ℕ) (level : Bool) → i + length lines ≤ count_of image → AllIn (devices_from image i lines)
      → turn_states_from image i lines e level ≡ map (next_state (event_of e) level) (devices_from image i lines)
  unfolding turn_states_from devices_from
  turned-in i [] e level h ranged = refl
  turned-in i (state ∷ lines) e level h ranged =
      let one = turn_in i state e level (omega arith) ranged.0 in
      let rest = turned-in (suc i) lines e level (omega arith) ranged.1 in
      λ j. one j ∷ rest j

  -- and the level that their line states have is that of the devices
  pub level_in-is : (lines : List LineState) (e : ℕ) → AllIn (devices_from image 0 lines) → level_as_is (event_of e) lines ≡ level_in image lines e
  level_in-is lines e ranged =
      ap (level_as_is (event_of e)) (sym (devices-states image known 0 lines)) ∙ level-as-it-is (event_of e) (devices_from image 0 lines) ranged
