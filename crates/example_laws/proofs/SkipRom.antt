-- Example 1 for every accepted image: all devices take the bits of a ROM command together. Assumes nothing.
use Prim.Native.Nat.{ℕ, zero, suc, ◌+◌, ◌<◌, ◌≤◌}
use mathlib.Core.Path.{◌≡◌, refl, sym, ap, ◌∙◌, subst}
use mathlib.Core.Bool.{Bool, true, false}
use mathlib.Core.List.{List, [], ◌∷◌, ◌++◌, map}
use native.Mathlib.Omega.{arith}
use lib.ListN.{length, drop, replicate}
use lib.Dec.{lit<}
use borrow.Author.Tests.{ne_eqb}
use Rattle.bits.specs.Bit.{level_byte}
use Rattle.bits.specs.Levels.{spelled}
use Rattle.kind.specs.declared.Kind.{Kind}
use Rattle.kind.specs.Kind.{body_size}
use Rattle.line.specs.Slots.{shifted_over}
use Rattle.image.specs.Image.{count_of, kind_at}
use Rattle.image.specs.Refusal.{image_refusal}
use Rattle.image.proofs.Accepted.{accepted-known}
use Rattle.rom.specs.Rom.{addressed, rom_command, command_speed}
use Rattle.device.specs.declared.LineState.{LineState}
use Rattle.device.specs.Device.{regular_state, waiting_state, reset_state}
use Rattle.device.proofs.Search.{commanded}
use Rattle.bus.specs.declared.Event.TheVariants.{Slot, Reset}
use Rattle.bus.specs.declared.Event.{Event}
use Rattle.bus.specs.Bus.{Device, event_of, hears, answers_low, pulls_low, some_low, master_high, level_of, next_device, bus_step_at, bus_step, Run, with_answer, run_trace}
use Rattle.bus.specs.Bus.{copied_by_all, copied_in_trace}
use Rattle.bus.specs.Refusal.{some_byte, bad_trace, no_first_reset, bad_pulse}
use Rattle.bus.specs.Run.{waiting_devices, table_of_contents, bodies_of, states_of, run_result, run_outcome, left_by_run, run_at, run_of}
use Rattle.bus.proofs.Laws.{not-refused}
use Rattle.bus.proofs.Shown.{Stand, waiting-stands, waiting-all, waiting-image, waiting-states}
use Rattle.search_laws.proofs.Devices.{in_state, Sized, active, device, stands_by, stands, addressed_state, all-active, reset-all, waiting-unwritten, command-level, command-after, command-done}
use Rattle.search_laws.proofs.Devices.{command-idle, reset-idle}
use Rattle.example_laws.specs.Table.{skip_rom, skip_answers}
use Rattle.example_laws.specs.Examples.{presence_of, addressed_from}

-- ---- devices in one state

-- every device in the line state of its kind and body
abbrev all_by : (Kind → List ℕ → LineState) → List Device → List Device
all_by s ds = map (λ (d : Device). in_state (s d.kind d.body) d) ds

-- every device in this line state
abbrev all : LineState → List Device → List Device
all s ds = all_by (λ kind body. s) ds

all-stands : (s : Kind → List ℕ → LineState) (ds : List Device) → stands_by s (map active ds) ≡ all_by s ds
all-stands s [] = refl
all-stands s (d ∷ ds) = ap (λ (es : List Device). in_state (s d.kind d.body) d ∷ es) (all-stands s ds)

-- addressed, each by the kind of its entry
all-states : (image : List ℕ) (i : ℕ) (ds : List Device) → Stand image i ds
    → states_of (all_by addressed_state ds) ≡ addressed_from image i (length ds)
all-states image i [] s = refl
all-states image i (d ∷ ds) s =
    let own : regular_state (addressed d.kind) ≡ regular_state (addressed (kind_at image i)) = ap (λ (k : Kind). regular_state (addressed k)) s.0.kind in
    let rest = all-states image (suc i) ds s.1 in
    cc

all-bodies : (s : Kind → List ℕ → LineState) (ds : List Device) → bodies_of (all_by s ds) ≡ bodies_of ds
unfolding bodies_of
all-bodies s [] = refl
all-bodies s (d ∷ ds) = ap (λ (l : List ℕ). d.body ++ l) (all-bodies s ds)

-- devices that have these states already
all_same : (s : LineState) (n : ℕ) (ds : List Device) → states_of ds ≡ replicate n s → ds ≡ all s ds
all_same s n [] e = refl
all_same s zero (d ∷ ds) e = let z : ◌≡◌ {A = ℕ} 0 1 = cc in absurd (omega arith)
all_same s (suc n) (d ∷ ds) e =
    let h : d.state ≡ s = cc in
    let t = all_same s n ds (cc) in
    λ i. record { kind = d.kind; body = d.body; state = h i } ∷ t i

sized : (image : List ℕ) (i : ℕ) (ds : List Device) → Stand image i ds → Sized ds
sized image i [] s = tt
sized image i (d ∷ ds) s = (s.0.size ∙ ap body_size (sym s.0.kind), sized image (suc i) ds s.1)

-- ---- the run

-- the bits of CCh from one on
abbrev bits_from : ℕ → List ℕ
bits_from k = drop (suc k) skip_rom

module _ (ds : List Device) (fit : Sized ds) where
  fits : Sized (map device (map active ds))
  fits = subst Sized (sym (all-active ds)) fit

  -- a slot in which the line has the level that the master sends, and every device goes to the next line state of its kind and body
  slot-run : (s t : Kind → List ℕ → LineState) (sent : Bool) (byte : ℕ) (trace : List ℕ) → event_of byte ≡ Slot sent
      → level_of (Slot sent) (stands_by s (map active ds)) ≡ sent → map (next_device (Slot sent) sent) (stands_by s (map active ds)) ≡ stands_by t (map active ds)
      → run_trace (byte ∷ trace) (all_by s ds) ≡ with_answer sent (run_trace trace (all_by t ds))
  unfolding run_trace bus_step bus_step_at
  slot-run s t sent byte trace e same next =
      let level : level_of (Slot sent) (all_by s ds) ≡ sent = subst (λ (es : List Device). level_of (Slot sent) es ≡ sent) (all-stands s ds) same in
      let after : map (next_device (Slot sent) sent) (all_by s ds) ≡ all_by t ds =
      ap (map (next_device (Slot sent) sent)) (sym (all-stands s ds)) ∙ next ∙ all-stands t ds in
      ap (λ (v : Event). with_answer (bus_step v (all_by s ds)).level (run_trace trace (bus_step v (all_by s ds)).devices)) e
      ∙ ap (λ (l : Bool). with_answer l (run_trace trace (map (next_device (Slot sent) l) (all_by s ds)))) level
      ∙ ap (λ (es : List Device). with_answer sent (run_trace trace es)) after

  -- a bit of the command
  bit-run : (levels : List Bool) (sent : Bool) (byte : ℕ) (trace : List ℕ) → event_of byte ≡ Slot sent → length levels < 7
      → run_trace (byte ∷ trace) (all (commanded levels) ds) ≡ with_answer sent (run_trace trace (all (commanded (levels ++ sent ∷ [])) ds))
  bit-run levels sent byte trace e h =
      slot-run (λ kind body. commanded levels) (λ kind body. commanded (levels ++ sent ∷ [])) sent byte trace e (command-level levels sent (map active ds) (omega arith) fits)
      (command-after levels sent (map active ds) h fits)

  -- the eight bits of CCh
  command-run : run_trace (bits_from 0) (all reset_state ds) ≡ record { answers = bits_from 0; devices = all_by addressed_state ds }
  unfolding event_of rom_command command_speed shifted_over spelled with_answer level_byte run_trace
  command-run =
      let three = false ∷ false ∷ true ∷ [] in
      let seven = three ++ true ∷ false ∷ false ∷ true ∷ [] in
      bit-run [] false 0 (bits_from 1) refl (lit< tt)
      ∙ ap (with_answer false) (bit-run (false ∷ []) false 0 (bits_from 2) refl (lit< tt)
      ∙ ap (with_answer false) (bit-run (false ∷ false ∷ []) true 1 (bits_from 3) refl (lit< tt)
      ∙ ap (with_answer true) (bit-run three true 1 (bits_from 4) refl (lit< tt)
      ∙ ap (with_answer true) (bit-run (three ++ true ∷ []) false 0 (bits_from 5) refl (lit< tt)
      ∙ ap (with_answer false) (bit-run (three ++ true ∷ false ∷ []) false 0 (bits_from 6) refl (lit< tt)
      ∙ ap (with_answer false) (bit-run (three ++ true ∷ false ∷ false ∷ []) true 1 (bits_from 7) refl (lit< tt)
      ∙ ap (with_answer true) (slot-run (λ kind body. commanded seven) addressed_state true 1 (bits_from 8) refl
      (command-level seven true (map active ds) (lit< tt) fits) (command-done seven true (map active ds) refl fits))))))))

  -- no bit of it copies a byte
  copied-slot : (s t : Kind → List ℕ → LineState) (sent : Bool) (byte : ℕ) (trace : List ℕ) → event_of byte ≡ Slot sent
      → level_of (Slot sent) (stands_by s (map active ds)) ≡ sent → map (next_device (Slot sent) sent) (stands_by s (map active ds)) ≡ stands_by t (map active ds)
      → copied_by_all (Slot sent) sent (stands_by s (map active ds)) ≡ 0
      → copied_in_trace (byte ∷ trace) (all_by s ds) ≡ copied_in_trace trace (all_by t ds)
  unfolding copied_in_trace bus_step bus_step_at
  copied-slot s t sent byte trace e same next none =
      let level : level_of (Slot sent) (all_by s ds) ≡ sent = subst (λ (es : List Device). level_of (Slot sent) es ≡ sent) (all-stands s ds) same in
      let after : map (next_device (Slot sent) sent) (all_by s ds) ≡ all_by t ds =
      ap (map (next_device (Slot sent) sent)) (sym (all-stands s ds)) ∙ next ∙ all-stands t ds in
      let copied : copied_by_all (Slot sent) sent (all_by s ds) ≡ 0 = subst (λ (es : List Device). copied_by_all (Slot sent) sent es ≡ 0) (all-stands s ds) none in
      ap (λ (v : Event). copied_by_all v (bus_step v (all_by s ds)).level (all_by s ds) + copied_in_trace trace (bus_step v (all_by s ds)).devices) e
      ∙ ap (λ (l : Bool). copied_by_all (Slot sent) l (all_by s ds) + copied_in_trace trace (map (next_device (Slot sent) l) (all_by s ds))) level
      ∙ ap (λ (es : List Device). copied_by_all (Slot sent) sent (all_by s ds) + copied_in_trace trace es) after
      ∙ omega (arith, copied)

  copied-bit : (levels : List Bool) (sent : Bool) (byte : ℕ) (trace : List ℕ) → event_of byte ≡ Slot sent → length levels < 7
      → copied_in_trace (byte ∷ trace) (all (commanded levels) ds) ≡ copied_in_trace trace (all (commanded (levels ++ sent ∷ [])) ds)
  copied-bit levels sent byte trace e h =
      copied-slot (λ kind body. commanded levels) (λ kind body. commanded (levels ++ sent ∷ [])) sent byte trace e (command-level levels sent (map active ds) (omega arith) fits)
      (command-after levels sent (map active ds) h fits) (command-idle levels sent (map active ds)).0

  command-copies : copied_in_trace (bits_from 0) (all reset_state ds) ≡ 0
  unfolding event_of rom_command command_speed shifted_over spelled level_byte copied_in_trace
  command-copies =
      let three = false ∷ false ∷ true ∷ [] in
      let seven = three ++ true ∷ false ∷ false ∷ true ∷ [] in
      copied-bit [] false 0 (bits_from 1) refl (lit< tt)
      ∙ copied-bit (false ∷ []) false 0 (bits_from 2) refl (lit< tt)
      ∙ copied-bit (false ∷ false ∷ []) true 1 (bits_from 3) refl (lit< tt)
      ∙ copied-bit three true 1 (bits_from 4) refl (lit< tt)
      ∙ copied-bit (three ++ true ∷ []) false 0 (bits_from 5) refl (lit< tt)
      ∙ copied-bit (three ++ true ∷ false ∷ []) false 0 (bits_from 6) refl (lit< tt)
      ∙ copied-bit (three ++ true ∷ false ∷ false ∷ []) true 1 (bits_from 7) refl (lit< tt)
      ∙ copied-slot (λ kind body. commanded seven) addressed_state true 1 (bits_from 8) refl
      (command-level seven true (map active ds) (lit< tt) fits) (command-done seven true (map active ds) refl fits)
      (command-idle seven true (map active ds)).0

  -- the reset before them, of devices that wait
  reset-run : (trace : List ℕ) → run_trace (2 ∷ trace) (all waiting_state ds) ≡ with_answer (level_of Reset (all waiting_state ds)) (run_trace trace (all reset_state ds))
  unfolding run_trace event_of bus_step bus_step_at
  reset-run trace =
      let level = level_of Reset (all waiting_state ds) in
      let after : map (next_device Reset level) (all waiting_state ds) ≡ all reset_state ds =
      ap (map (next_device Reset level)) (sym (all-stands (λ kind body. waiting_state) ds))
      ∙ reset-all (λ kind body. waiting_state) level (map active ds) waiting-unwritten
      ∙ ap (λ (es : List Device). stands reset_state (map active es)) (all-active ds)
      ∙ all-stands (λ kind body. reset_state) ds in
      ap (λ (es : List Device). with_answer level (run_trace trace es)) after

  skip-copies : copied_in_trace skip_rom (all waiting_state ds) ≡ 0
  unfolding copied_in_trace event_of bus_step bus_step_at
  skip-copies =
      let level = level_of Reset (all waiting_state ds) in
      let after : map (next_device Reset level) (all waiting_state ds) ≡ all reset_state ds =
      ap (map (next_device Reset level)) (sym (all-stands (λ kind body. waiting_state) ds))
      ∙ reset-all (λ kind body. waiting_state) level (map active ds) waiting-unwritten
      ∙ ap (λ (es : List Device). stands reset_state (map active es)) (all-active ds)
      ∙ all-stands (λ kind body. reset_state) ds in
      ap (λ (es : List Device). copied_by_all Reset level (all waiting_state ds) + copied_in_trace (bits_from 0) es) after
      ∙ omega (arith, (reset-idle level (all waiting_state ds)).0, command-copies)

  skip-run : run_trace skip_rom (all waiting_state ds)
      ≡ record { answers = skip_answers (level_byte (level_of Reset (all waiting_state ds))); devices = all_by addressed_state ds }
  unfolding with_answer
  skip-run = reset-run (bits_from 0) ∙ ap (with_answer (level_of Reset (all waiting_state ds))) command-run

-- presence by the count
presence-is : (image : List ℕ) (s : LineState) (ds : List Device) → length ds ≡ count_of image → level_byte (level_of Reset (all s ds)) ≡ presence_of image
unfolding level_of master_high some_low pulls_low hears answers_low level_byte
presence-is image s [] e = rw (sym e)
presence-is image s (d ∷ ds) e = rw (ne_eqb (count_of image) 0 (λ (z : count_of image ≡ 0). omega arith))

pub skip-rom : (image answers : List ℕ) (lines : List LineState) → image_refusal image ≡ 0 → length skip_rom ≤ length answers → count_of image ≤ length lines
    → run_of image skip_rom answers lines
    ≡ run_outcome (run_result 0 0) image (skip_answers (presence_of image) ++ drop (length skip_rom) answers)
    (addressed_from image 0 (count_of image) ++ drop (count_of image) lines)
unfolding run_of run_at left_by_run bad_trace no_first_reset bad_pulse some_byte
skip-rom image answers lines accepted room lent =
    let known = accepted-known image accepted in
    let ds = waiting_devices image in
    let n = count_of image in
    let count = waiting-all image known in
    let admitted = not-refused image skip_rom (length answers) (length lines) (record {
      image-accepted = accepted;
      trace-good = refl;
      reset-first = refl;
      pulses-good = refl;
      answers-room = room;
      lines-room = lent;
    }) in
    let begun : run_trace skip_rom ds ≡ record { answers = skip_answers (level_byte (level_of Reset (all waiting_state ds))); devices = all_by addressed_state ds } =
    ap (run_trace skip_rom) (all_same waiting_state n ds (waiting-states image known)) ∙ skip-run ds (sized image 0 ds (waiting-stands image known)) in
    let none : copied_in_trace skip_rom ds ≡ 0 =
    ap (copied_in_trace skip_rom) (all_same waiting_state n ds (waiting-states image known)) ∙ skip-copies ds (sized image 0 ds (waiting-stands image known)) in
    ap (λ (m : ℕ). run_at m image skip_rom answers lines) admitted
    ∙ ap (λ (c : ℕ). left_by_run (run_trace skip_rom ds) c image skip_rom answers lines) none
    ∙ ap (λ (r : Run). left_by_run r 0 image skip_rom answers lines) begun
    ∙ ap (λ (p : ℕ). run_outcome (run_result 0 0) (table_of_contents image ++ bodies_of (all_by addressed_state ds)) (skip_answers p ++ drop (length skip_rom) answers) (states_of (all_by addressed_state ds) ++ drop n lines)) (presence-is image waiting_state ds count)
    ∙ ap (λ (l : List ℕ). run_outcome (run_result 0 0) l (skip_answers (presence_of image) ++ drop (length skip_rom) answers) (states_of (all_by addressed_state ds) ++ drop n lines))
    (ap (λ (l : List ℕ). table_of_contents image ++ l) (all-bodies addressed_state ds) ∙ waiting-image image known)
    ∙ ap (λ (l : List LineState). run_outcome (run_result 0 0) image (skip_answers (presence_of image) ++ drop (length skip_rom) answers) (l ++ drop n lines))
    (all-states image 0 ds (waiting-stands image known) ∙ ap (addressed_from image 0) count)
