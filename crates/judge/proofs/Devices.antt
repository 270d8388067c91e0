-- Each device of a bench at each event of a trace: what the loops of `specs/Loops.antt` see of it is what `specs/Rules.antt`
-- says. Assumes nothing.
use Prim.Native.Nat.{ℕ, zero, suc, ◌+◌, ◌<◌, ◌≤◌}
use mathlib.Core.Path.{◌≡◌, refl, sym, ap, subst, ◌∙◌}
use mathlib.Core.Bool.{Bool, true, false, not, cond, ◌&&◌, ◌||◌, true≢false, or-false}
use mathlib.Core.List.{List, [], ◌∷◌, ◌++◌, map}
use native.Mathlib.Omega.{arith}
use native.Mathlib.Nat.{add-zero}
use lib.ListN.{length, get_or, take}
use lib.Seq.{take-suc}
use lib.Dec.{eqb, ltb}
use borrow.Author.Tests.{not-false}
use Rattle.kind.specs.declared.Kind.{Kind}
use Rattle.kind.specs.declared.Kind.TheVariants as kinds
use Rattle.kind.specs.Kind.{is_flat, is_sram, memory_size, body_size, speed_known}
use Rattle.line.specs.declared.SramStage.{SramStage}
use Rattle.line.specs.declared.SramStage.TheVariants as srams
use Rattle.line.specs.declared.MemoryStage.TheVariants as memories
use Rattle.line.specs.declared.Stage.{Stage}
use Rattle.line.specs.declared.Stage.TheVariants.{Rom, Memory}
use Rattle.line.specs.Transfers.{goes_on, received}
use Rattle.sram.specs.declared.Written.{Written}
use Rattle.std.specs.Prelude.{Option, None}
use Rattle.sram.specs.Sram.{sram_copy, pattern_copy, pattern_same, copy_made}
use Rattle.device.specs.declared.LineState.{LineState}
use Rattle.device.specs.Device.{memory_copy, stage_copy, copy_in_slot_as_is, copy_in_slot, memory_range, stage_range, line_state_in_range}
use Rattle.device.proofs.Range.{taken-as-is}
use Rattle.bus.specs.Bus.{Device, device_with, event_of, taken_state, level_of, next_device, bus_step_at, bus_step, Run, with_answer, run_trace}
use Rattle.bus.specs.Loops.{next_state_as_is}
use Rattle.bus.specs.Refusal.{no_first_reset}
use Rattle.bus.proofs.Laws.{first-event}
use Rattle.bus.proofs.Ranges.{InRange, AllIn, run_in, as-it-is-state}
use Rattle.bus.proofs.Runs.{run-append, Same, AllSame, none, also, run-same, same_length}
use Rattle.recording.specs.Recorded.{level_at}
use Rattle.judge.specs.declared.Doing.{Doing}
use Rattle.judge.specs.declared.Doing.TheVariants.{Command, Address, Pattern, Other}
use Rattle.judge.specs.declared.Seen.{Seen}
use Rattle.judge.specs.Rules.{Moment, is_last, is_command, is_memory_command, completes, is_made, accepts_copy, wanted_bits, shown_since_write}
use Rattle.judge.specs.Rules.{device_at, devices_at, moment_of, moment_at, moments_of}
use Rattle.judge.specs.Loops.{slot_at, sram_doing, memory_doing, doing_of, pattern_accepted, seen_so, seen_by, careful_at}
use Rattle.judge.proofs.Moments.{slot-heard, up_from, up-append, WayTo, careful-is}

-- ---- what is seen, by the stage

abbrev is_cmd : Doing → Bool
is_cmd Command = true
is_cmd Address = false
is_cmd (Pattern at same) = false
is_cmd Other = false

abbrev pub careless_by : Doing → Bool → (ℕ → Bool → Bool) → Bool
careless_by Command last careless = false
careless_by Address last careless = false
careless_by (Pattern at same) last careless = last && careless at same
careless_by Other last careless = false

sram-cmd : (s : SramStage) → is_cmd (sram_doing s) ≡ false
unfolding sram_doing
sram-cmd srams.WriteLow = refl
sram-cmd (srams.WriteHigh low) = refl
sram-cmd (srams.WriteData offset bit) = refl
sram-cmd (srams.ReadRegister at) = refl
sram-cmd (srams.ReadScratchpad offset) = refl
sram-cmd (srams.CopyPattern at same) = refl
sram-cmd srams.Copied = refl
sram-cmd srams.ReadLow = refl
sram-cmd (srams.ReadHigh low) = refl
sram-cmd (srams.ReadMemory low high) = refl

cmd-is : (stage : Stage) → is_cmd (doing_of stage) ≡ is_memory_command stage
unfolding doing_of memory_doing is_memory_command is_command
cmd-is (Rom r) = refl
cmd-is (Memory memories.Command) = refl
cmd-is (Memory (memories.Sram s)) = sram-cmd s
cmd-is (Memory (memories.Eprom e)) = refl

-- what is added for one device
abbrev pub plus : Seen → Bool → Bool → Bool → Seen
plus seen command completed careless = seen_so (seen.commands + cond command 1 0) (seen.completed || completed) (seen.careless || careless)

seen-doing : (doing : Doing) (last : Bool) (value : ℕ) (careless : ℕ → Bool → Bool) (seen : Seen)
    → seen_by doing last value careless seen
    ≡ plus seen (is_cmd doing) (is_cmd doing && (last && (eqb value 0x0F || eqb value 0x55))) (careless_by doing last careless)
unfolding seen_by
seen-doing Command last value careless seen =
    λ i. seen_so (seen.commands + 1) (seen.completed || last && (eqb value 0x0F || eqb value 0x55)) (sym (or-false seen.careless) i)
seen-doing Address last value careless seen =
    λ i. seen_so (sym (add-zero seen.commands) i) (sym (or-false seen.completed) i) (sym (or-false seen.careless) i)
seen-doing (Pattern at same) last value careless seen =
    λ i. seen_so (sym (add-zero seen.commands) i) (sym (or-false seen.completed) i) (seen.careless || last && careless at same)
seen-doing Other last value careless seen =
    λ i. seen_so (sym (add-zero seen.commands) i) (sym (or-false seen.completed) i) (sym (or-false seen.careless) i)

pub seen-stage : (stage : Stage) (last : Bool) (value : ℕ) (careless : ℕ → Bool → Bool) (seen : Seen)
    → seen_by (doing_of stage) last value careless seen
    ≡ plus seen (is_memory_command stage) (is_memory_command stage && (last && (eqb value 0x0F || eqb value 0x55))) (careless_by (doing_of stage) last careless)
seen-stage stage last value careless seen =
    seen-doing (doing_of stage) last value careless seen
    ∙ ap (λ (c : Bool). plus seen c (c && (last && (eqb value 0x0F || eqb value 0x55))) (careless_by (doing_of stage) last careless)) (cmd-is stage)

-- ---- a copy that is accepted

none_of : (last shown : Bool) → false ≡ ((last && false) && not shown)
none_of true shown = refl
none_of false shown = refl

made-cond : (x y : Bool) (c : Option Written) → is_made c ≡ true → (not x && y) ≡ is_made (cond x None (cond y c None))
unfolding is_made
made-cond true y c e = refl
made-cond false true c e = sym e
made-cond false false c e = refl

copy-is_made : (size : ℕ) (body : List ℕ) → is_made (copy_made size body) ≡ true
unfolding is_made
copy-is_made size body = refl

pattern-made : (at : ℕ) (same : Bool) (size value : ℕ) (body : List ℕ)
    → pattern_accepted at same value body ≡ is_made (pattern_copy at (pattern_same at same value body) size body)
unfolding pattern_accepted pattern_copy
pattern-made at same size value body = made-cond (ltb at 2) (pattern_same at same value body) (copy_made size body) (copy-is_made size body)

and_again : (a b c : Bool) → (a && (b && c)) ≡ ((a && b) && c)
and_again true b c = refl
and_again false b c = refl

careless-sram : (s : SramStage) (size : ℕ) (last : Bool) (value : ℕ) (body : List ℕ) (careful shown : Bool) → careful ≡ shown
    → careless_by (sram_doing s) last (λ at same. pattern_accepted at same value body && not careful) ≡ ((last && is_made (sram_copy s size value body)) && not shown)
unfolding sram_doing sram_copy is_made
careless-sram srams.WriteLow size last value body careful shown e = none_of last shown
careless-sram (srams.WriteHigh low) size last value body careful shown e = none_of last shown
careless-sram (srams.WriteData offset bit) size last value body careful shown e = none_of last shown
careless-sram (srams.ReadRegister at) size last value body careful shown e = none_of last shown
careless-sram (srams.ReadScratchpad offset) size last value body careful shown e = none_of last shown
careless-sram (srams.CopyPattern at same) size last value body careful shown e =
    (λ i. last && (pattern-made at same size value body i && not (e i)))
    ∙ and_again last (is_made (pattern_copy at (pattern_same at same value body) size body)) (not shown)
careless-sram srams.Copied size last value body careful shown e = none_of last shown
careless-sram srams.ReadLow size last value body careful shown e = none_of last shown
careless-sram (srams.ReadHigh low) size last value body careful shown e = none_of last shown
careless-sram (srams.ReadMemory low high) size last value body careful shown e = none_of last shown

both_true : (x y : Bool) → (x && y) ≡ true → (x ≡ true) × (y ≡ true)
both_true true y e = (refl, e)
both_true false y e = absurd (true≢false (sym e))

pub careless-stage : (stage : Stage) (kind : Kind) (overdrive : Bool) (register left : ℕ) → stage_range stage kind overdrive register left ≡ true → (last : Bool) (value : ℕ) (body : List ℕ) (careful shown : Bool)
    → (is_sram kind ≡ true → careful ≡ shown)
    → careless_by (doing_of stage) last (λ at same. pattern_accepted at same value body && not careful) ≡ ((last && is_made (stage_copy stage kind value body)) && not shown)
unfolding doing_of memory_doing stage_copy memory_copy stage_range memory_range is_made
careless-stage (Rom r) kind overdrive register left ok last value body careful shown e = none_of last shown
careless-stage (Memory memories.Command) kind overdrive register left ok last value body careful shown e = none_of last shown
careless-stage (Memory (memories.Sram s)) kind overdrive register left ok last value body careful shown e =
    careless-sram s (memory_size kind) last value body careful shown (e (both_true (is_sram kind) _ (both_true (not (is_flat kind)) _ ok).1).0)
careless-stage (Memory (memories.Eprom x)) kind overdrive register left ok last value body careful shown e = none_of last shown

-- ---- what a moment says in a slot

made-last : (x : Bool) (c : Option Written) → is_made (cond x None c) ≡ (not x && is_made c)
unfolding is_made
made-last true c = refl
made-last false c = refl

-- the event of a byte is the last slot of a transfer, and the device hears it
abbrev pub last_in : ℕ → Moment → Bool
last_in byte m = slot_at byte m.device.state.overdrive && not (goes_on m.device.state.transfer)

taken-so : (d : Device) → InRange d → taken_state d ≡ d.state
unfolding taken_state
taken-so d r = taken-as-is d.state d.kind d.body r

pub accepts-is : (m : Moment) (byte : ℕ) → m.event ≡ event_of byte → InRange m.device
    → accepts_copy m ≡ (last_in byte m && is_made (stage_copy m.device.state.transfer.stage m.device.kind (received m.device.state.transfer m.level) m.device.body))
unfolding accepts_copy copy_in_slot copy_in_slot_as_is
accepts-is m byte event ranged =
    let d = m.device in
    let c = stage_copy d.state.transfer.stage d.kind (received d.state.transfer m.level) d.body in
    let h = slot_at byte d.state.overdrive in
    ap (λ (b : Bool). b && is_made (copy_in_slot d.state d.kind d.body m.level)) (slot-heard m byte event (taken-so d ranged))
    ∙ ap (λ (s : LineState). h && is_made (copy_in_slot_as_is s d.kind d.body m.level)) (taken-as-is d.state d.kind d.body ranged)
    ∙ ap (λ (b : Bool). h && b) (made-last (goes_on d.state.transfer) c)
    ∙ and_again h (not (goes_on d.state.transfer)) (is_made c)

either-completes : (h a b x y : Bool) → ((h && (a && (b && x))) || (h && (a && (b && y)))) ≡ (a && ((h && b) && (x || y)))
either-completes true true true x y = refl
either-completes true true false x y = refl
either-completes true false b x y = refl
either-completes false true b x y = refl
either-completes false false b x y = refl

pub completes-is : (m : Moment) (byte : ℕ) → m.event ≡ event_of byte → InRange m.device
    → (completes 0x0F m || completes 0x55 m)
    ≡ (is_memory_command m.device.state.transfer.stage && (last_in byte m && (eqb (received m.device.state.transfer m.level) 0x0F || eqb (received m.device.state.transfer m.level) 0x55)))
unfolding completes is_last
completes-is m byte event ranged =
    let t = m.device.state.transfer in
    let v = received t m.level in
    let heard = slot-heard m byte event (taken-so m.device ranged) in
    (λ i. (heard i && (is_memory_command t.stage && (not (goes_on t) && eqb v 0x0F))) || (heard i && (is_memory_command t.stage && (not (goes_on t) && eqb v 0x55))))
    ∙ either-completes (slot_at byte m.device.state.overdrive) (is_memory_command t.stage) (not (goes_on t)) (eqb v 0x0F) (eqb v 0x55)

-- ---- the devices at an event

pub map_at : (f : Device → Device) (xs : List Device) (i : ℕ) → i < length xs → device_at (map f xs) i ≡ f (device_at xs i)
map_at f [] i h = absurd (omega arith)
map_at f (x ∷ xs) zero h = refl
map_at f (x ∷ xs) (suc i) h = map_at f xs i (omega arith)

pub same_at : (xs ys : List Device) → AllSame xs ys → (i : ℕ) → i < length ys → Same (device_at xs i) (device_at ys i)
same_at [] [] none i h = absurd (omega arith)
same_at [] (y ∷ ys) p i h = elim p [ ]
same_at (x ∷ xs) [] p i h = elim p [ ]
same_at (x ∷ xs) (y ∷ ys) (also a p) zero h = a
same_at (x ∷ xs) (y ∷ ys) (also a p) (suc i) h = same_at xs ys p i (omega arith)

pub in-at : (xs : List Device) → AllIn xs → (i : ℕ) → i < length xs → InRange (device_at xs i)
in-at [] r i h = absurd (omega arith)
in-at (x ∷ xs) r zero h = r.0
in-at (x ∷ xs) r (suc i) h = in-at xs r.1 i (omega arith)

once-devices : (byte : ℕ) (es : List Device) → (run_trace (byte ∷ []) es).devices ≡ map (next_device (event_of byte) (level_of (event_of byte) es)) es
unfolding run_trace with_answer bus_step bus_step_at
once-devices byte es = refl

pub devices-next : (trace : List ℕ) (ds : List Device) (k : ℕ) → k < length trace
    → devices_at trace ds (suc k) ≡ map (next_device (event_of (get_or trace k 0)) (level_of (event_of (get_or trace k 0)) (devices_at trace ds k))) (devices_at trace ds k)
devices-next trace ds k h =
    ap (λ (t : List ℕ). (run_trace t ds).devices) (take-suc trace k 0 h)
    ∙ ap (λ (r : Run). r.devices) (run-append (take k trace) (get_or trace k 0 ∷ []) ds)
    ∙ once-devices (get_or trace k 0) (devices_at trace ds k)

moments-append : (t u : List ℕ) (ds : List Device) (i : ℕ) → moments_of (t ++ u) ds i ≡ moments_of t ds i ++ moments_of u (run_trace t ds).devices i
unfolding moments_of run_trace with_answer
moments-append [] u ds i = refl
moments-append (byte ∷ t) u ds i =
    ap (λ (l : List Moment). moment_of (event_of byte) ds i ∷ l) (moments-append t u (bus_step (event_of byte) ds).devices i)

moments-once : (byte : ℕ) (ds : List Device) (i : ℕ) → moments_of (byte ∷ []) ds i ≡ moment_of (event_of byte) ds i ∷ []
unfolding moments_of
moments-once byte ds i = refl

pub range-stage : (d : Device) → InRange d → stage_range d.state.transfer.stage d.kind d.state.overdrive d.state.transfer.register d.state.transfer.left ≡ true
unfolding line_state_in_range
range-stage d r = (both_true (speed_known d.kind d.state.overdrive) _ (both_true (eqb (length d.body) (body_size d.kind)) _ r).1).1

-- ---- the way of one device with a scratchpad

module _ (trace answers : List ℕ) (ds : List Device) (ranged : AllIn ds) (first : no_first_reset trace ≡ false)
    (i : ℕ) (there : i < length ds) (k : ℕ) (within : k < length trace)
    (agree : (j : ℕ) → j ≤ k → level_of (event_of (get_or trace j 0)) (devices_at trace ds j) ≡ level_at answers j) where
  abbrev m : ℕ → Moment
  m j = moment_at trace ds j i

  abbrev es : ℕ → List Device
  es j = devices_at trace ds j

  pub still-there : (j : ℕ) → i < length (es j)
  still-there j = omega (arith, there, same_length (run-same (take j trace) ds))

  pub range_at : (j : ℕ) → InRange (device_at (es j) i)
  range_at j = in-at (es j) (run_in (take j trace) ds ranged) i (still-there j)

  same-as : (j : ℕ) → Same (device_at (es j) i) (device_at ds i)
  same-as j = same_at (es j) ds (run-same (take j trace) ds) i there

  device-next : (j : ℕ) → j < k → (m (suc j)).device ≡ next_device (m j).event (m j).level (m j).device
  device-next j h =
      ap (λ (l : List Device). device_at l i) (devices-next trace ds j (omega (arith, h, within)))
      ∙ map_at (next_device (m j).event (m j).level) (es j) i (still-there j)

  module _ (size : ℕ) (flat : Bool) (kind : (device_at (es k) i).kind ≡ kinds.Sram size flat) where
    abbrev K : Kind
    K = kinds.Sram size flat

    kind-at : (j : ℕ) → (device_at (es j) i).kind ≡ K
    kind-at j = (same-as j).kind ∙ sym (same-as k).kind ∙ kind

    state-next : (j : ℕ) → j < k → (m (suc j)).device.state ≡ next_state_as_is (event_of (get_or trace j 0)) (level_at answers j) (device_with K (m j).device.body (m j).device.state)
    unfolding next_device
    state-next j h =
        ap (λ (d : Device). d.state) (device-next j h)
        ∙ sym (as-it-is-state (m j).device (range_at j) (m j).event (m j).level)
        ∙ (λ z. next_state_as_is (event_of (get_or trace j 0)) (agree j (omega (arith, h)) z) (device_with (kind-at j z) (m j).device.body (m j).device.state))

    way : WayTo trace answers m k size flat
    way = record {
      level-is = λ j h. agree j (omega (arith, h));
      event-is = λ j h. refl;
      taken = λ j h. taken-so (m j).device (range_at j);
      first-is = λ h. not-false _ (sym (first-event trace (omega (arith, within))) ∙ first);
      code_is = λ j h. (same-as k).code ∙ sym (same-as j).code;
      ranged = λ j h. subst (λ (x : Kind). stage_range (m j).device.state.transfer.stage x (m j).device.state.overdrive (m j).device.state.transfer.register (m j).device.state.transfer.left ≡ true) (kind-at j)
          (range-stage (m j).device (range_at j));
      next-is = state-next;
    }

    moments-are : (j : ℕ) → j ≤ k → moments_of (take j trace) ds i ≡ up_from trace answers m 0 j
    unfolding up_from moments_of
    moments-are zero h = refl
    moments-are (suc j) h =
        let one : j + 1 ≡ suc j = omega arith in
        let start : 0 + j ≡ j = omega arith in
        ap (λ (t : List ℕ). moments_of t ds i) (take-suc trace j 0 (omega (arith, h, within)))
        ∙ moments-append (take j trace) (get_or trace j 0 ∷ []) ds i
        ∙ (λ z. moments-are j (omega (arith, h)) z ++ moments-once (get_or trace j 0) (es j) i z)
        ∙ ap (λ (x : ℕ). up_from trace answers m 0 j ++ up_from trace answers m x 1) (sym start)
        ∙ up-append trace answers m 0 j 1
        ∙ ap (up_from trace answers m 0) one

    pub careful-at : careful_at trace answers (device_at (es k) i).kind (device_at (es k) i).body (device_at (es k) i).state.overdrive k
        ≡ shown_since_write (wanted_bits (device_at (es k) i).body) (moments_of (take k trace) ds i)
    careful-at =
        ap (λ (x : Kind). careful_at trace answers x (device_at (es k) i).body (device_at (es k) i).state.overdrive k) (kind-at k)
        ∙ careful-is trace answers m k size flat way
        ∙ ap (shown_since_write (wanted_bits (device_at (es k) i).body)) (sym (moments-are k (omega arith)))
