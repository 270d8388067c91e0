-- A pass of the master on the bus: slot by slot it finds what `pass` says of the codes. Assumes nothing.
use Rattle.std.specs.Prelude.{Option, None, Some}
use Prim.Native.Nat.{ℕ, zero, suc, ◌+◌, ◌<◌}
use mathlib.Core.Path.{◌≡◌, refl, sym, ap, ◌∙◌, subst}
use mathlib.Core.Bool.{Bool, true, false, cond, ◌&&◌}
use mathlib.Core.List.{List, [], ◌∷◌, ◌++◌, map, append-nil}
use native.Mathlib.Omega.{arith}
use lib.ListN.{length, get_or}
use lib.Dec.{eqb, ltb, leb-zero, leb-suc-zero, leb-suc-suc, eqb-suc-zero, eqb-suc-suc}
use Rattle.bits.specs.Bit.{bit_of, bit_at, put_bit, level_byte}
use Rattle.bits.specs.Crc.{registration_check}
use Rattle.bits.specs.Levels.{spelled}
use Rattle.kind.specs.declared.Kind.{Kind}
use Rattle.line.specs.Slots.{shifted_over}
use Rattle.rom.specs.Rom.{rom_command, command_speed}
use Rattle.device.specs.declared.LineState.{LineState}
use Rattle.device.specs.Device.{reset_state}
use Rattle.device.proofs.Search.{commanded}
use Rattle.bus.specs.declared.Event.{Event}
use Rattle.bus.specs.declared.Event.TheVariants as events
use Rattle.bus.specs.Bus.{Device, event_of, hears, answers_low, pulls_low, some_low, master_high, level_of, next_device}
use Rattle.master.specs.declared.Stage.TheVariants.{Reset, Command, FirstRead, Direction}
use Rattle.master.specs.declared.Master.{Master}
use Rattle.master.specs.Master.{event, slot_event, read_slot_event, reset_event, answer_value, answer_of as answer_in, master_answer, no_bits, at_discrepancy, stage_after_pass, master_after_level}
use Rattle.master.specs.Drive.{code_completed}
use Rattle.search_laws.specs.Words.{put_bits}
use Rattle.search_laws.proofs.Codes.{Code, branch, differ}
use Rattle.search_laws.proofs.Passes.{Pass, none_answers, found, bits-level, complements-level, direction, leaves-open, put, checked, head-or-0, tail, directions-to, directions-of, pass}
use Rattle.search_laws.proofs.Bits.{bits_from}
use Rattle.search_laws.proofs.Devices.{Sized, Member, active, inactive, device, stands_by, stands, addressed_state, searches, rests, bits-read, complements-read, bits-after, complements-after}
use Rattle.search_laws.proofs.Devices.{direction-level, moved, next_bit, direction-after, next_bit-is, last_bit, moved-devices, moved-rests, Unwritten, reset-all, all-active, all-rests}
use Rattle.search_laws.proofs.Devices.{command-level, command-after, command-done}
use Rattle.search_laws.proofs.Devices.{Idle, bits-idle, complements-idle, direction-idle, command-idle, reset-idle}
use Rattle.search_laws.proofs.Steps.{master_of, marked, reset-step, command-step, command-last, first_step, second-step, direction-step, completes, none-completed, one-completed}
use Rattle.search_laws.proofs.Driven.{bodies, Driven, here, on}

-- ---- what is sent at 0,0, by position and by list

abbrev tails : ℕ → List Bool → List Bool
tails zero D = D
tails (suc k) D = tail (tails k D)

tails-nil : (k : ℕ) → tails k [] ≡ []
tails-nil zero = refl
tails-nil (suc k) = ap tail (tails-nil k)

tails-cons : (k : ℕ) (x : Bool) (D : List Bool) → tails (suc k) (x ∷ D) ≡ tails k D
tails-cons zero x D = refl
tails-cons (suc k) x D = ap tail (tails-cons k x D)

sent-to : (f k : ℕ) (c : Code) → head-or-0 (tails k (directions-to f c)) ≡ cond (ltb k f) (get_or c k false) (eqb k f)
sent-to zero zero c = refl
sent-to zero (suc k) c = rw (tails-cons k true [], tails-nil k, leb-suc-zero (suc k), eqb-suc-zero k)
sent-to (suc f) zero [] = rw (leb-suc-suc zero f, leb-zero f)
sent-to (suc f) zero (x ∷ c) = rw (leb-suc-suc zero f, leb-zero f)
sent-to (suc f) (suc k) [] = rw (tails-cons k false (directions-to f []), leb-suc-suc (suc k) f, eqb-suc-suc k f) (sent-to f k [])
sent-to (suc f) (suc k) (x ∷ c) = rw (tails-cons k x (directions-to f c), leb-suc-suc (suc k) f, eqb-suc-suc k f) (sent-to f k c)

-- the bytes of the previous code, where a discrepancy was left open
abbrev pub Previous : Code → Option ℕ → List ℕ → Type 0
Previous c None previous = Unit {0}
Previous c (Some f) previous = (j : ℕ) → j < 64 → bit_at previous j ≡ get_or c j false

rule : (c : Code) (last : Option ℕ) (previous : List ℕ) (k : ℕ) → Previous c last previous → k < 64 → head-or-0 (tails k (directions-of c last)) ≡ at_discrepancy last previous k
unfolding at_discrepancy
rule c None previous k h low = rw (tails-nil k)
rule c (Some f) previous k h low = sent-to f k c ∙ ap (λ (b : Bool). cond (ltb k f) b (eqb k f)) (sym (h k low))

-- ---- a pass taken apart

-- the last open discrepancy of bits from k on, f among them, o before them
abbrev merged : ℕ → Option ℕ → Option ℕ → Option ℕ
merged k None o = o
merged k (Some f) o = Some (k + f)

apart : (x d o : Bool) (P : Pass) {c : Code} {h : Option ℕ} → checked x (put d o P) ≡ found c h
    → (x ≡ false) × (b : Code) × (f : Option ℕ) × (P ≡ found b f) × (c ≡ d ∷ b) × ((k : ℕ) (q : Option ℕ) → merged (suc k) f (marked o k q) ≡ merged k h q)
apart true d o P e = differ (cc)
apart false d o none_answers e = differ (cc)
apart false d o (found b (Some f)) {h = h} e =
    (refl, b, Some f, refl, cc, λ k q. let g : h ≡ Some (suc f) = cc in rw g (ap Some (omega arith)))
apart false d true (found b None) {h = h} e = (refl, b, None, refl, cc, λ k q. let g : h ≡ Some zero = cc in rw g (ap Some (omega arith)))
apart false d false (found b None) {h = h} e = (refl, b, None, refl, cc, λ k q. let g : h ≡ None = cc in rw g)

-- at a bit of these codes: no device answers; the direction, where r is sent at 0,0; whether the direction d leaves a discrepancy open
abbrev silent : List Code → Bool
silent S = bits-level S && complements-level S

abbrev sent : List Code → Bool → Bool
sent S r = direction (bits-level S) (complements-level S) r

abbrev opens : List Code → Bool → Bool
opens S d = leaves-open (bits-level S) (complements-level S) d

pass-is : (m : ℕ) (S : List Code) (D : List Bool) (r : Bool) → head-or-0 D ≡ r
    → pass (suc m) S D ≡ checked (silent S) (put (sent S r) (opens S (sent S r)) (pass m (branch (sent S r) S) (tail D)))
pass-is m S D r e = rw e

-- ---- the events

-- two read slots and a direction for each bit
abbrev pub bit_events : Code → List ℕ
bit_events [] = []
bit_events (d ∷ c) = read_slot_event ∷ read_slot_event ∷ slot_event d ∷ bit_events c

-- a reset, F0h in 8 slots, and the bits
abbrev pub pass_trace : Code → List ℕ
pass_trace c = reset_event ∷ 0 ∷ 0 ∷ 0 ∷ 0 ∷ 1 ∷ 1 ∷ 1 ∷ 1 ∷ bit_events c

slot-event : (bit : Bool) → event_of (slot_event bit) ≡ events.Slot bit
unfolding event_of slot_event
slot-event true = refl
slot-event false = refl

on-slot : {m n r : Master} {ds es fs : List Device} {level : Bool} {code trace codes : List ℕ} (bit : Bool)
    → master_answer m ≡ event (slot_event bit)
    → level_of (events.Slot bit) ds ≡ level
    → master_after_level m level ≡ n
    → map (next_device (events.Slot bit) level) ds ≡ es
    → bodies es ≡ bodies ds
    → Idle (events.Slot bit) level ds
    → code_completed m.passes n ≡ code
    → Driven n es trace codes r fs
    → Driven m ds (slot_event bit ∷ trace) (code ++ codes) r fs
on-slot {ds = ds} {es = es} {level = level} bit s l a w b o c p =
    on s (ap (λ (e : Event). level_of e ds) (slot-event bit) ∙ l) a (ap (λ (e : Event). map (next_device e level) ds) (slot-event bit) ∙ w) b
    (subst (λ (e : Event). Idle e level ds) (sym (slot-event bit)) o) c p

-- the line state is no part of a body, so the same devices in other line states have the same bodies
standing-bodies : (s : Kind → List ℕ → LineState) (ms : List Member) → bodies (stands_by s ms) ≡ bodies (map device ms)
standing-bodies s [] = refl
standing-bodies s (active d ∷ ms) = ap (λ (bs : List (List ℕ)). d.body ∷ bs) (standing-bodies s ms)
standing-bodies s (inactive d ∷ ms) = ap (λ (bs : List (List ℕ)). d.body ∷ bs) (standing-bodies s ms)

same-bodies : (s t : Kind → List ℕ → LineState) (ms : List Member) → bodies (stands_by s ms) ≡ bodies (stands_by t ms)
same-bodies s t ms = standing-bodies s ms ∙ sym (standing-bodies t ms)

moved-bodies : (k : ℕ) (bit : Bool) (s t : Kind → List ℕ → LineState) (ms : List Member) → bodies (stands_by s (map (moved k bit) ms)) ≡ bodies (stands_by t ms)
moved-bodies k bit s t ms = standing-bodies s (map (moved k bit) ms) ∙ ap bodies (moved-devices k bit ms) ∙ sym (standing-bodies t ms)

active-bodies : (s t : Kind → List ℕ → LineState) (ms : List Member) → bodies (stands_by s (map active (map device ms))) ≡ bodies (stands_by t ms)
active-bodies s t ms = standing-bodies s (map active (map device ms)) ∙ ap bodies (all-active (map device ms)) ∙ sym (standing-bodies t ms)

-- ---- the bits

module _ (p : ℕ) (few : p < 64) (c : Code) (previous : List ℕ) (last : Option ℕ) (known : Previous c last previous) where
  -- one bit: two read slots and a direction
  bit : (k m : ℕ) (ms : List Member) (code : List ℕ) (opened : Option ℕ) (d : Bool) {n r : Master} {fs : List Device} {done trace codes : List ℕ}
      → k < 64 → Sized (map device ms)
      → silent (rests k (suc m) ms) ≡ false
      → d ≡ sent (rests k (suc m) ms) (at_discrepancy last previous k)
      → master_after_level (master_of (Direction k d) p (put_bit code k d) (marked (opens (rests k (suc m) ms) d) k opened) previous last) d ≡ n
      → code_completed p n ≡ done
      → Driven n (stands_by (next_bit k) (map (moved k d) ms)) trace codes r fs
      → Driven (master_of (FirstRead k) p code opened previous last) (stands_by (searches k []) ms) (read_slot_event ∷ read_slot_event ∷ slot_event d ∷ trace) (done ++ codes) r fs
  unfolding answer_value answer_in slot_event
  bit k m ms code opened d low z nc de a done go =
      let read = bits-level (rests k (suc m) ms) in
      let complement = complements-level (rests k (suc m) ms) in
      let at-bit = searches k [] in
      let at-complement = searches k (read ∷ []) in
      let at-direction = searches k (read ∷ complement ∷ []) in
      on-slot true refl (bits-read k m low ms z) (first_step p code opened previous last few k low _) (bits-after k m low read ms z)
      (same-bodies at-complement at-bit ms) (bits-idle k m low read ms) (none-completed p _ _ _ _ _)
      (on-slot true refl (complements-read k m low read ms z) (second-step p code opened previous last few k low _ _ d nc de)
      (complements-after k m low read complement ms z) (same-bodies at-direction at-complement ms) (complements-idle k m low read complement ms)
      (none-completed p _ _ _ _ _)
      (on-slot d refl (direction-level k m low read complement d ms z) a (direction-after k read complement d ms low z)
      (moved-bodies k d (next_bit k) at-direction ms) (direction-idle k m low read complement d ms) done go))

  -- the bits that are left of a pass, by which the code d is found, with h its last open discrepancy from bit k on
  abbrev Rest : ℕ → List Member → List ℕ → Option ℕ → Code → Option ℕ → Type 0
  Rest k ms code opened d h =
      (ns : List Member)
      × Driven (master_of (FirstRead k) p code opened previous last) (stands_by (searches k []) ms) (bit_events d) (put_bits code k d)
      (master_of (stage_after_pass (merged k h opened) (p + 1)) (p + 1) no_bits None (put_bits code k d) (merged k h opened)) (stands_by addressed_state ns)
      × (map device ns ≡ map device ms)

  -- the last bit completes the code
  rest-last : (k : ℕ) (ms : List Member) (code : List ℕ) (opened : Option ℕ) (x : Bool) (q h : Option ℕ) (d : Code) → k ≡ 63 → Sized (map device ms)
      → silent (rests k 1 ms) ≡ false
      → x ≡ sent (rests k 1 ms) (at_discrepancy last previous k)
      → q ≡ marked (opens (rests k 1 ms) x) k opened
      → d ≡ x ∷ [] → q ≡ merged k h opened → registration_check (put_bits code k d) ≡ true → Rest k ms code opened d h
  unfolding put_bits
  rest-last k ms code opened x q h d e z nc xe qe de me r =
      let good : registration_check (put_bit code k x) ≡ true = rw de at r in
      let ns = map (moved k x) ms in
      let same : stands_by (next_bit k) ns ≡ stands_by addressed_state ns = ap (λ (j : ℕ). stands_by (next_bit j) ns) e ∙ last_bit ns in
      let end = master_of (stage_after_pass q (p + 1)) (p + 1) no_bits None (put_bit code k x) q in
      let step : master_after_level (master_of (Direction k x) p (put_bit code k x) (marked (opens (rests k 1 ms) x) k opened) previous last) x ≡ end =
      rw (← qe) (completes p (put_bit code k x) q previous last few k (omega arith) x x e good) in
      let go : Driven end (stands_by (next_bit k) ns) [] [] end (stands_by addressed_state ns) = rw same here in
      let whole = bit k 0 ms code opened x (omega arith) z nc xe step (one-completed p _ _ _ _ _) go in
      rw (de, ← me) (
        ns,
        subst (λ (y : List ℕ). Driven (master_of (FirstRead k) p code opened previous last) (stands_by (searches k []) ms) (bit_events (x ∷ [])) y end (stands_by addressed_state ns)) (append-nil (put_bit code k x)) whole,
        moved-devices k x ms,
      )

  -- a bit, and those after it
  rest_more : (k m : ℕ) (ms : List Member) (code : List ℕ) (opened : Option ℕ) (x : Bool) (q h i : Option ℕ) (b d : Code) → k < 63 → Sized (map device ms)
      → silent (rests k (suc m) ms) ≡ false
      → x ≡ sent (rests k (suc m) ms) (at_discrepancy last previous k)
      → q ≡ marked (opens (rests k (suc m) ms) x) k opened
      → d ≡ x ∷ b → merged (suc k) i q ≡ merged k h opened
      → Rest (suc k) (map (moved k x) ms) (put_bit code k x) q b i → Rest k ms code opened d h
  unfolding put_bits
  rest_more k m ms code opened x q h i b d e z nc xe qe de me r =
      let step : master_after_level (master_of (Direction k x) p (put_bit code k x) (marked (opens (rests k (suc m) ms) x) k opened) previous last) x ≡ master_of (FirstRead (suc k)) p (put_bit code k x) q previous last =
      rw (← qe) (direction-step p (put_bit code k x) q previous last few k (omega arith) x x e) in
      rw (de, ← me) (
        r.0,
        bit k m ms code opened x (omega arith) z nc xe step (none-completed p _ _ _ _ _) (rw (next_bit-is k (map (moved k x) ms) e) r.1),
        r.2 ∙ moved-devices k x ms,
      )

  -- a bit taken apart, with what the master sends
  abbrev sent_at : List Code → ℕ → Bool
  sent_at S k = sent S (at_discrepancy last previous k)

  bit-apart : (m k : ℕ) (S : List Code) {d : Code} {h : Option ℕ} → k < 64 → pass (suc m) S (tails k (directions-of c last)) ≡ found d h
      → (silent S ≡ false)
      × (b : Code) × (i : Option ℕ)
      × (pass m (branch (sent_at S k) S) (tails (suc k) (directions-of c last)) ≡ found b i)
      × (d ≡ sent_at S k ∷ b)
      × ((n : ℕ) (q : Option ℕ) → merged (suc n) i (marked (opens S (sent_at S k)) n q) ≡ merged n h q)
  bit-apart m k S low f =
      apart (silent S) (sent_at S k) (opens S (sent_at S k)) (pass m (branch (sent_at S k) S) (tails (suc k) (directions-of c last)))
      (sym (pass-is m S (tails k (directions-of c last)) (at_discrepancy last previous k) (rule c last previous k known low)) ∙ f)

  bits : (m k : ℕ) (ms : List Member) (code : List ℕ) (opened : Option ℕ) {d : Code} {h : Option ℕ} → k + suc m ≡ 64 → Sized (map device ms)
      → pass (suc m) (rests k (suc m) ms) (tails k (directions-of c last)) ≡ found d h → registration_check (put_bits code k d) ≡ true → Rest k ms code opened d h
  unfolding put_bits
  bits zero k ms code opened {d} {h} e z f r =
      let S = rests k 1 ms in
      let u = bit-apart zero k S (omega arith) f in
      let x = sent_at S k in
      let none : u.1 ≡ [] = let g = u.3 in cc in
      let closed : None ≡ u.2 = let g = u.3 in cc in
      rest-last k ms code opened x (marked (opens S x) k opened) h d (omega arith) z u.0 refl refl (u.4 ∙ ap (λ (b : Code). x ∷ b) none)
      (ap (λ (i : Option ℕ). merged (suc k) i (marked (opens S x) k opened)) closed ∙ u.5 k opened) r
  bits (suc m) k ms code opened {d} {h} e z f r =
      let S = rests k (suc (suc m)) ms in
      let u = bit-apart (suc m) k S (omega arith) f in
      let x = sent_at S k in
      let good : registration_check (put_bits (put_bit code k x) (suc k) u.1) ≡ true = ap (λ (y : Code). registration_check (put_bits code k y)) (sym u.4) ∙ r in
      rest_more k (suc m) ms code opened x (marked (opens S x) k opened) h u.2 u.1 d (omega arith) z u.0 refl refl u.4 (u.5 k opened)
      (bits m (suc k) (map (moved k x) ms) (put_bit code k x) (marked (opens S x) k opened) (omega arith) (rw (moved-devices k x ms) z)
      (ap (λ (T : List Code). pass (suc m) T (tails (suc k) (directions-of c last))) (moved-rests k (suc m) x ms) ∙ u.3) good)

  -- ---- reset and command

  -- a bit of the command but the last: every device hears the bit that the master sends
  command-slot : (levels : List Bool) (at : ℕ) (b : Bool) (ms : List Member) (code : List ℕ) (opened : Option ℕ) {r : Master} {fs : List Device} {trace codes : List ℕ}
      → length levels ≡ at → at < 7 → Sized (map device ms) → answer_value (answer_in (Command at)) ≡ event (slot_event b)
      → Driven (master_of (Command (at + 1)) p code opened previous last) (stands (commanded (levels ++ b ∷ [])) ms) trace codes r fs
      → Driven (master_of (Command at) p code opened previous last) (stands (commanded levels) ms) (slot_event b ∷ trace) codes r fs
  command-slot levels at b ms code opened e low z s go =
      on-slot b s (command-level levels b ms (omega arith) z) (command-step p code opened previous last few at b low)
      (command-after levels b ms (omega arith) z) (same-bodies (λ kind body. commanded (levels ++ b ∷ [])) (λ kind body. commanded levels) ms)
      (command-idle levels b ms) (none-completed p _ _ _ _ _) go

  -- F0h
  command : (ms : List Member) (code : List ℕ) (opened : Option ℕ) {r : Master} {fs : List Device} {trace codes : List ℕ} → Sized (map device ms)
      → Driven (master_of (FirstRead 0) p code opened previous last) (stands_by (searches 0 []) ms) trace codes r fs
      → Driven (master_of (Command 0) p code opened previous last) (stands reset_state ms) (0 ∷ 0 ∷ 0 ∷ 0 ∷ 1 ∷ 1 ∷ 1 ∷ 1 ∷ trace) codes r fs
  unfolding answer_value answer_in slot_event bit_of shifted_over spelled level_byte rom_command command_speed
  command ms code opened z go =
      let four = false ∷ false ∷ false ∷ false ∷ [] in
      command-slot [] 0 false ms code opened refl (omega arith) z refl
      (command-slot (false ∷ []) 1 false ms code opened refl (omega arith) z refl
      (command-slot (false ∷ false ∷ []) 2 false ms code opened refl (omega arith) z refl
      (command-slot (false ∷ false ∷ false ∷ []) 3 false ms code opened refl (omega arith) z refl
      (command-slot four 4 true ms code opened refl (omega arith) z refl
      (command-slot (four ++ true ∷ []) 5 true ms code opened refl (omega arith) z refl
      (command-slot (four ++ true ∷ true ∷ []) 6 true ms code opened refl (omega arith) z refl
      (on-slot true refl (command-level (four ++ true ∷ true ∷ true ∷ []) true ms (omega arith) z) (command-last p code opened previous last few true)
      (command-done (four ++ true ∷ true ∷ true ∷ []) true ms refl z)
      (same-bodies (searches 0 []) (λ kind body. commanded (four ++ true ∷ true ∷ true ∷ [])) ms)
      (command-idle (four ++ true ∷ true ∷ true ∷ []) true ms) (none-completed p _ _ _ _ _) go)))))))

  someone : (s : Kind → List ℕ → LineState) (ms : List Member) → 0 < length ms → level_of events.Reset (stands_by s ms) ≡ false
  unfolding level_of master_high some_low pulls_low hears answers_low
  someone s [] h = absurd (omega arith)
  someone s (m ∷ ms) h = refl

  -- A whole pass: the master driven by devices, in a stage in which a reset changes no body, sends the events of the code that the pass finds, and
  -- has then completed it; the devices are the same.
  pub whole-pass : (s : Kind → List ℕ → LineState) (ms : List Member) {d : Code} {h : Option ℕ} → Unwritten s → Sized (map device ms) → 0 < length ms
      → pass 64 (map (λ (x : Device). bits_from x.body 0 64) (map device ms)) (directions-of c last) ≡ found d h
      → registration_check (put_bits no_bits 0 d) ≡ true
      → (ns : List Member)
      × Driven (master_of Reset p no_bits None previous last) (stands_by s ms) (pass_trace d) (put_bits no_bits 0 d)
      (master_of (stage_after_pass h (p + 1)) (p + 1) no_bits None (put_bits no_bits 0 d) h) (stands_by addressed_state ns)
      × (map device ns ≡ map device ms)
  unfolding answer_value answer_in event_of
  whole-pass s ms {d} {h} u z some f r =
      let all = map active (map device ms) in
      let same : map device all ≡ map device ms = all-active (map device ms) in
      let sized : Sized (map device all) = rw same z in
      let rest = bits 63 0 all no_bits None {d = d} {h = h} refl sized (ap (λ (T : List Code). pass 64 T (directions-of c last)) (all-rests 0 64 (map device ms)) ∙ f) r in
      let opened : merged 0 h None ≡ h = start h in (
        rest.0,
        on refl (someone s ms some) (reset-step p no_bits None previous last few) (reset-all s false ms u) (active-bodies (λ kind body. reset_state) s ms)
            (reset-idle false (stands_by s ms)) (none-completed p _ _ _ _ _)
            (command all no_bits None sized (rw opened at rest.1)),
        rest.2 ∙ same,
      )
    where
      start : (h : Option ℕ) → merged 0 h None ≡ h
      start None = refl
      start (Some f) = ap Some (omega arith)
