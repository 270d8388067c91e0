-- What the loops of `src/` keep from turn to turn, as their invariants say it: `shift_all` goes past devices, `slot_all`
-- and `turn_all` give each its turn, `read_slot_all` and `read_turn_all` leave the line states alone, and `run_events`
-- goes from event to event. A line state that a loop reads is `get_or` at a default of the compiler's choice.
use Rattle.std.proofs.Common.{◌≡◌, ℕ, zero, suc, ◌+◌, ◌-◌, ◌^◌, min, ◌<◌, ◌≤◌, Bool, true, false, List, length, get_or, set, refl, sym, ap, ◌∙◌, add-one, arith}
use Rattle.std.proofs.lemmas.List.{get_or_default}
use package.mir.Val.{bool_byte}
use Rattle.bits.specs.Bit.{level_byte}
use Rattle.device.specs.declared.LineState.{LineState}
use Rattle.device.specs.Device.{waiting_state}
use Rattle.bus.specs.declared.EventResult.{EventResult}
use Rattle.bus.specs.Bus.{event_of, is_slot, hears}
use Rattle.bus.specs.Loops.{slot_byte, ends_in, pass_state, passes_from, shifted_from, line_at, BusState, bus_state}
use Rattle.bus.specs.Loops.{level_on, scan_on, step_on, copied_on, event_result, RunState, run_state, run_event_at, run_events_up_to, copied_by_events}
use Rattle.bus.specs.Loops.{passed_over, turn_state, turn_image, turn_copied, turn_at, turns_up_to, copied_up_to, added_to}
use Rattle.bus.specs.Loops.{heard_state_as_is, heard_body_as_is, place_in, device_in, image_with_body}
use Rattle.bus.specs.declared.Event.{Event}
use Rattle.bus.proofs.Idle.{other-over, unheard-line, unheard-turn, heard-state, heard-image}
use Rattle.bus.proofs.Laws.{step-on, saturated, copied-fits, events-fit}
use Rattle.bus.proofs.Shifts.{passes_on, passes-end, passes-few, passes_none, passes-stop, shifted_behind, shifts-turns, shifts-copied, shifts-steps}
use Rattle.bus.proofs.States.{steps}

-- ---- `shift_all`

-- the loop of `shift_all` goes past one more
module _ (f t : Bool) (m n i : ℕ) (ys xs : List LineState) (low : m ≤ i) (passed : i - m ≤ passes_from f (n - m) m ys)
    (lines : xs ≡ shifted_from f t m (i - m) ys) where
  seen : (k : ℕ) → m + k ≡ i → k ≡ i - m → line_at ys (m + k) ≡ line_at xs i
  seen k e g =
      sym (shifted_behind f t m k (m + k) ys (omega arith))
      ∙ ap (λ (j : ℕ). line_at (shifted_from f t m k ys) j) e
      ∙ ap (λ (j : ℕ). line_at (shifted_from f t m j ys) i) g
      ∙ ap (λ (zs : List LineState). line_at zs i) (sym lines)

  at-this : m + (i - m) ≡ i
  at-this = omega (arith, low)

  pub shift_passes : i < n → ends_in f (line_at xs i) ≡ false → i + 1 - m ≤ passes_from f (n - m) m ys
  shift_passes small e =
      let on = passes_on f (n - m) m (i - m) ys passed (omega (arith, low, small))
      (ap (ends_in f) (seen (i - m) at-this refl) ∙ e) in
      omega (arith, low, on)

  pub shift_lines : set xs i (pass_state f t (line_at xs i)) ≡ shifted_from f t m (i + 1 - m) ys
  unfolding shifted_from
  shift_lines =
      let us : List LineState = shifted_from f t m (i - m) ys in
      let next : i + 1 - m ≡ suc (i - m) = omega (arith, low) in
      ap (λ (zs : List LineState). set zs i (pass_state f t (line_at zs i))) lines
      ∙ ap (λ (j : ℕ). set us j (pass_state f t (line_at us j))) (sym at-this)
      ∙ ap (λ (k : ℕ). shifted_from f t m k ys) (sym next)

  -- and stops where more happens, or at the end
  pub shift_stops : i < n → ends_in f (line_at xs i) ≡ true → passes_from f (n - m) m ys ≡ i - m
  shift_stops small e =
      passes-end f (n - m) m (i - m) ys passed (omega (arith, low, small)) (ap (ends_in f) (seen (i - m) at-this refl) ∙ e)

  pub shift_ends : i ≤ n → n ≤ i → passes_from f (n - m) m ys ≡ i - m
  shift_ends a b = omega (arith, a, b, low, passed, passes-few f (n - m) m ys)

-- what is so where `shift_all` has gone past devices from place i on, and stopped at place j
module _ (f t : Bool) (n i : ℕ) (ls : List LineState) (few : i ≤ n) where
  abbrev past : ℕ
  past = passes_from f (n - i) i ls

  abbrev left : List LineState
  left = shifted_from f t i past ls

  pub pass_few : (j : ℕ) → j ≡ i + past → j ≤ n
  pass_few j e = omega (arith, few, e, passes-few f (n - i) i ls)

  pub pass_stops : (j : ℕ) (xs : List LineState) → j ≡ i + past → xs ≡ left → j < n → ends_in f (line_at xs j) ≡ true
  pass_stops j xs e g less =
      ap (λ (k : ℕ). ends_in f (line_at xs k)) e
      ∙ ap (λ (zs : List LineState). ends_in f (line_at zs (i + past))) g
      ∙ ap (ends_in f) (shifted_behind f t i past (i + past) ls (omega arith))
      ∙ passes-stop f (n - i) i ls (omega (arith, less, e))

-- with the image
module _ (f t : Bool) (n i : ℕ) (s : BusState) (image : List ℕ) (ls : List LineState)
    (so_far : bus_state image ls ≡ turns_up_to (slot_byte f) t i s) where
  here_lines : (turns_up_to (slot_byte f) t i s).lines ≡ ls
  here_lines = ap (λ (u : BusState). u.lines) (sym so_far)

  none_ends : (j : ℕ) → j < passes_from f (n - i) i ls → ends_in f (line_at (turns_up_to (slot_byte f) t i s).lines (i + j)) ≡ false
  none_ends j l = ap (λ (zs : List LineState). ends_in f (line_at zs (i + j))) here_lines ∙ passes_none f (n - i) i j ls l

  pub pass_state_turns : (j : ℕ) (xs : List LineState) → j ≡ i + passes_from f (n - i) i ls
      → xs ≡ shifted_from f t i (passes_from f (n - i) i ls) ls
      → bus_state image xs ≡ turns_up_to (slot_byte f) t j s
  pass_state_turns j xs e g =
      let p : ℕ = passes_from f (n - i) i ls in
      ap (λ (zs : List LineState). bus_state image zs) g
      ∙ ap (λ (u : BusState). bus_state u.image (shifted_from f t i p u.lines)) so_far
      ∙ sym (shifts-turns f t i s p none_ends)
      ∙ ap (λ (k : ℕ). turns_up_to (slot_byte f) t k s) (sym e)

  pub pass_copied_turns : (j : ℕ) → j ≡ i + passes_from f (n - i) i ls
      → copied_up_to (slot_byte f) t j s ≡ copied_up_to (slot_byte f) t i s
  pass_copied_turns j e =
      ap (λ (k : ℕ). copied_up_to (slot_byte f) t k s) e
      ∙ shifts-copied f t i s (passes_from f (n - i) i ls) none_ends

-- the line states alone
pub pass_steps : (image : List ℕ) (f t : Bool) (n i : ℕ) (ys ls : List LineState) → ls ≡ steps image (slot_byte f) t i ys
    → (j : ℕ) (xs : List LineState) → j ≡ i + passes_from f (n - i) i ls
    → xs ≡ shifted_from f t i (passes_from f (n - i) i ls) ls
    → xs ≡ steps image (slot_byte f) t j ys
pass_steps image f t n i ys ls so_far j xs e g =
    let p : ℕ = passes_from f (n - i) i ls in
    let zs : List LineState = steps image (slot_byte f) t i ys in
    let none : (k : ℕ) → k < p → ends_in f (line_at zs (i + k)) ≡ false =
    (λ (k : ℕ) (l : k < p). ap (λ (us : List LineState). ends_in f (line_at us (i + k))) (sym so_far) ∙ passes_none f (n - i) i k ls l) in
    g ∙ ap (λ (us : List LineState). shifted_from f t i p us) so_far
    ∙ sym (shifts-steps image f t i ys p none)
    ∙ ap (λ (k : ℕ). steps image (slot_byte f) t k ys) (sym e)

-- one more turn
pub turn_next : (v : ℕ) (t : Bool) (i : ℕ) (s : BusState) → turns_up_to v t (i + 1) s ≡ turn_at v t i (turns_up_to v t i s)
unfolding turns_up_to
turn_next v t i s = rw add-one refl

pub turn_of : (v : ℕ) (t : Bool) (i : ℕ) (image : List ℕ) (ls : List LineState)
    → turn_at v t i (bus_state image ls)
    ≡ bus_state (turn_image image i (line_at ls i) v t) (set ls i (turn_state image i (line_at ls i) v t))
unfolding turn_at
turn_of v t i image ls = refl

pub copied_next : (v : ℕ) (t : Bool) (i : ℕ) (s : BusState)
    → copied_up_to v t (i + 1) s
    ≡ added_to (copied_up_to v t i s) (turn_copied (turns_up_to v t i s).image i (line_at (turns_up_to v t i s).lines i) v t)
unfolding copied_up_to
copied_next v t i s = rw add-one refl

pub steps_next : (image : List ℕ) (v : ℕ) (t : Bool) (i : ℕ) (ys : List LineState)
    → steps image v t (i + 1) ys ≡ set (steps image v t i ys) i (turn_state image i (line_at (steps image v t i ys) i) v t)
unfolding steps
steps_next image v t i ys = rw add-one refl

-- the turn of the device at place i, whose line state was read at any default
module _ (v : ℕ) (t : Bool) (i : ℕ) (s : BusState) (image : List ℕ) (ls : List LineState)
    (so_far : bus_state image ls ≡ turns_up_to v t i s) (d : LineState) (within : i < length ls) where
  read_here : get_or ls i d ≡ line_at ls i
  read_here = get_or_default ls i d waiting_state within

  pub turn_done : (left : List ℕ) (next : LineState) → left ≡ turn_image image i (get_or ls i d) v t
      → next ≡ turn_state image i (get_or ls i d) v t
      → bus_state left (set ls i next) ≡ turns_up_to v t (i + 1) s
  turn_done left next e g =
      ap (λ (im : List ℕ). bus_state im (set ls i next)) (e ∙ ap (λ (l : LineState). turn_image image i l v t) read_here)
      ∙ ap (λ (l : LineState). bus_state (turn_image image i (line_at ls i) v t) (set ls i l))
      (g ∙ ap (λ (l : LineState). turn_state image i l v t) read_here)
      ∙ sym (turn_of v t i image ls)
      ∙ ap (turn_at v t i) so_far
      ∙ sym (turn_next v t i s)

  pub turn_added : (sum more bytes : ℕ) → sum ≡ copied_up_to v t i s → bytes ≡ turn_copied image i (get_or ls i d) v t
      → more ≡ min (sum + bytes) (2 ^ 64 - 1) → more ≡ copied_up_to v t (i + 1) s
  turn_added sum more bytes e g k =
      k ∙ saturated sum bytes (omega (arith, e, copied-fits v t i s)) ∙ ap (λ (b : ℕ). added_to sum b) (g ∙ ap (λ (l : LineState). turn_copied image i l v t) read_here)
      ∙ ap (λ (b : ℕ). added_to b (turn_copied image i (line_at ls i) v t)) e
      ∙ ap (λ (u : BusState). added_to (copied_up_to v t i s) (turn_copied u.image i (line_at u.lines i) v t)) so_far
      ∙ sym (copied_next v t i s)

-- the same of the line states alone
pub step_done : (image : List ℕ) (v : ℕ) (t : Bool) (i : ℕ) (ys ls : List LineState) → ls ≡ steps image v t i ys
    → (d : LineState) → i < length ls → (next : LineState) → next ≡ turn_state image i (get_or ls i d) v t
    → set ls i next ≡ steps image v t (i + 1) ys
step_done image v t i ys ls so_far d within next g =
    ap (set ls i) (g ∙ ap (λ (l : LineState). turn_state image i l v t) (get_or_default ls i d waiting_state within))
    ∙ ap (λ (zs : List LineState). set zs i (turn_state image i (line_at zs i) v t)) so_far
    ∙ sym (steps_next image v t i ys)

-- the turns go by the event, whatever byte it has
pub same-turns : (v w : ℕ) → event_of v ≡ event_of w → (t : Bool) (i : ℕ) (s : BusState) → turns_up_to v t i s ≡ turns_up_to w t i s
unfolding turns_up_to turn_at turn_state turn_image passed_over
same-turns v w e t zero s = refl
same-turns v w e t (suc i) s = rw (same-turns v w e t i s, e) refl

-- a reset or a program pulse, in which `event` is what the byte stands for: a device hears it or not
module _ (v : ℕ) (other : is_slot (event_of v) ≡ false) (i : ℕ) where
  module _ (s : BusState) (image : List ℕ) (ls : List LineState) (so_far : bus_state image ls ≡ turns_up_to v true i s)
      (d : LineState) (within : i < length ls) (event : Event) (of_byte : event ≡ event_of v) where
    pub turn_heard : hears event (get_or ls i d) ≡ true → (left : List ℕ) (next : LineState)
        → left ≡ image_with_body image (place_in image i) (heard_body_as_is event true (device_in image i (get_or ls i d)))
        → next ≡ heard_state_as_is event true (device_in image i (get_or ls i d))
        → bus_state left (set ls i next) ≡ turns_up_to v true (i + 1) s
    turn_heard heard left next e g =
        let state : LineState = get_or ls i d in
        let here : hears (event_of v) state ≡ true = ap (λ (u : Event). hears u state) (sym of_byte) ∙ heard in
        turn_done v true i s image ls so_far d within left next
        (e ∙ ap (λ (u : Event). image_with_body image (place_in image i) (heard_body_as_is u true (device_in image i state))) of_byte
        ∙ sym (heard-image v other image i state here true))
        (g ∙ ap (λ (u : Event). heard_state_as_is u true (device_in image i state)) of_byte
        ∙ sym (heard-state v other image i state here true))

    pub turn_unheard : hears event (get_or ls i d) ≡ false → bus_state image ls ≡ turns_up_to v true (i + 1) s
    turn_unheard deaf =
        let here : hears (event_of v) (line_at ls i) ≡ false =
        ap (hears (event_of v)) (sym (get_or_default ls i d waiting_state within)) ∙ ap (λ (u : Event). hears u (get_or ls i d)) (sym of_byte) ∙ deaf in
        sym (unheard-turn v (other-over v other) true i (bus_state image ls) here)
        ∙ ap (turn_at v true i) so_far
        ∙ sym (turn_next v true i s)

  -- the line states alone
  module _ (image : List ℕ) (ys ls : List LineState) (so_far : ls ≡ steps image v true i ys)
      (d : LineState) (within : i < length ls) (event : Event) (of_byte : event ≡ event_of v) where
    pub step_heard : hears event (get_or ls i d) ≡ true → (next : LineState)
        → next ≡ heard_state_as_is event true (device_in image i (get_or ls i d))
        → set ls i next ≡ steps image v true (i + 1) ys
    step_heard heard next g =
        let state : LineState = get_or ls i d in
        let here : hears (event_of v) state ≡ true = ap (λ (u : Event). hears u state) (sym of_byte) ∙ heard in
        step_done image v true i ys ls so_far d within next
        (g ∙ ap (λ (u : Event). heard_state_as_is u true (device_in image i state)) of_byte
        ∙ sym (heard-state v other image i state here true))

    pub step_unheard : hears event (get_or ls i d) ≡ false → ls ≡ steps image v true (i + 1) ys
    step_unheard deaf =
        let here : hears (event_of v) (line_at ls i) ≡ false =
        ap (hears (event_of v)) (sym (get_or_default ls i d waiting_state within)) ∙ ap (λ (u : Event). hears u (get_or ls i d)) (sym of_byte) ∙ deaf in
        sym (unheard-line v (other-over v other) true i image ls here)
        ∙ ap (λ (zs : List LineState). set zs i (turn_state image i (line_at zs i) v true)) so_far
        ∙ sym (steps_next image v true i ys)

-- ---- `run_events`

-- a level as a byte
pub answer_is : (t : Bool) → bool_byte t ≡ level_byte t
unfolding level_byte
answer_is true = refl
answer_is false = refl

pub event_next : (trace : List ℕ) (n k : ℕ) (s : RunState)
    → run_events_up_to trace n (k + 1) s ≡ run_event_at (get_or trace k 0) n k (run_events_up_to trace n k s)
unfolding run_events_up_to
event_next trace n k s = rw add-one refl

pub event_copied : (trace : List ℕ) (n k : ℕ) (s : RunState)
    → copied_by_events trace n (k + 1) s
    ≡ added_to (copied_by_events trace n k s)
    (copied_on n (get_or trace k 0) (bus_state (run_events_up_to trace n k s).image (run_events_up_to trace n k s).lines))
unfolding copied_by_events
event_copied trace n k s = rw add-one refl

-- an event that `step` makes
module _ (trace : List ℕ) (n k : ℕ) (s : RunState) (image answers : List ℕ) (ls : List LineState)
    (so_far : run_state image answers ls ≡ run_events_up_to trace n k s) (few : n ≤ length ls) (result : EventResult)
    (result_is : result ≡ event_result (scan_on ls n (get_or trace k 0)) (copied_on n (get_or trace k 0) (bus_state image ls))) where
  answered : bool_byte result.level ≡ level_byte (level_on ls n (get_or trace k 0))
  unfolding scan_on
  answered = answer_is result.level ∙ ap (λ (r : EventResult). level_byte r.level) result_is

  one_event : (left : List ℕ) (xs : List LineState)
      → left ≡ (step_on n (get_or trace k 0) (bus_state image ls)).image
      → xs ≡ (step_on n (get_or trace k 0) (bus_state image ls)).lines
      → run_state left (set answers k (bool_byte result.level)) xs ≡ run_event_at (get_or trace k 0) n k (run_state image answers ls)
  unfolding run_event_at
  one_event left xs e g =
      let byte : ℕ = get_or trace k 0 in
      let on = step-on n byte (bus_state image ls) few in
      ap (λ (b : ℕ). run_state left (set answers k b) xs) answered
      ∙ ap (λ (im : List ℕ). run_state im (set answers k (level_byte (level_on ls n byte))) xs) e
      ∙ ap (λ (zs : List LineState). run_state (step_on n byte (bus_state image ls)).image (set answers k (level_byte (level_on ls n byte))) zs) g
      ∙ ap (λ (u : BusState). run_state u.image (set answers k (level_byte (level_on ls n byte))) u.lines) on

  pub event_done : (left : List ℕ) (xs : List LineState)
      → left ≡ (step_on n (get_or trace k 0) (bus_state image ls)).image
      → xs ≡ (step_on n (get_or trace k 0) (bus_state image ls)).lines
      → run_state left (set answers k (bool_byte result.level)) xs ≡ run_events_up_to trace n (k + 1) s
  event_done left xs e g =
      one_event left xs e g ∙ ap (run_event_at (get_or trace k 0) n k) so_far ∙ sym (event_next trace n k s)

  pub event_added : (sum more : ℕ) → sum ≡ copied_by_events trace n k s → more ≡ min (sum + result.copied) (2 ^ 64 - 1)
      → more ≡ copied_by_events trace n (k + 1) s
  event_added sum more e g =
      let byte : ℕ = get_or trace k 0 in
      g ∙ saturated sum result.copied (omega (arith, e, events-fit trace n k s)) ∙ ap (λ (r : EventResult). added_to sum r.copied) result_is
      ∙ ap (λ (b : ℕ). added_to b (copied_on n byte (bus_state image ls))) e
      ∙ ap (λ (u : RunState). added_to (copied_by_events trace n k s) (copied_on n byte (bus_state u.image u.lines))) so_far
      ∙ sym (event_copied trace n k s)
