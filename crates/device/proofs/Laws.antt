-- Laws of one device for the layers above: what nothing on the line changes, and a device that waits, that is in the
-- middle of a transfer, that is in a ROM stage, and that has a flat battery. Assumes nothing.
use Prim.Native.Nat.{ℕ, ◌≤◌}
use mathlib.Core.Path.{◌≡◌, refl, sym, ap, ◌∙◌}
use mathlib.Core.Bool.{Bool, true, false, not, cond, ◌&&◌, true≢false}
use mathlib.Core.List.{List}
use native.Mathlib.Omega.{arith}
use lib.ListN.{length, take}
use lib.Dec.{eqb}
use Rattle.bits.specs.Bit.{bit_of}
use Rattle.kind.specs.declared.Kind.{Kind}
use Rattle.kind.specs.Kind.{body_size, code_length, memory_size, is_flat, speed_known}
use Rattle.line.specs.declared.RomStage.{RomStage}
use Rattle.line.specs.declared.RomStage.TheVariants.{Waiting}
use Rattle.line.specs.declared.MemoryStage.TheVariants.{Sram}
use Rattle.line.specs.declared.Stage.{Stage}
use Rattle.line.specs.declared.Stage.TheVariants.{Rom, Memory}
use Rattle.line.specs.Transfers.{waiting, at_memory_command, transfer_sends, goes_on, received, shifted}
use Rattle.line.proofs.Range.{both}
use Rattle.std.specs.Prelude.{Option, None}
use Rattle.sram.specs.declared.Written.{Written}
use Rattle.sram.specs.Sram.{bytes_copied}
use Rattle.sram.proofs.Laws.{copied-most}
use Rattle.rom.specs.Rom.{addressed, rom_next, rom_speed}
use Rattle.device.specs.declared.LineState.{LineState}
use Rattle.device.specs.Device.{stage_next, stage_write, memory_reset, stage_reset, stage_pulse, stage_program}
use Rattle.device.specs.Device.{line_state, waiting_state, sends_as_is, transfer_after_slot, stage_speed, speed_after_slot, state_after_slot_as_is, body_after_slot_as_is}
use Rattle.device.specs.Device.{body_after_reset_as_is, state_after_pulse_as_is, body_after_pulse_as_is, memory_range, stage_range}
use Rattle.device.specs.Device.{line_state_in_range, or_waiting, sends_of, state_after_slot}
use Rattle.device.specs.Device.{body_after_slot, body_after_reset, state_after_pulse, body_after_pulse}
use Rattle.device.specs.Device.{memory_copy, stage_copy, copy_in_slot_as_is, copy_in_slot, bytes_in_slot_as_is, bytes_in_slot}
use Rattle.device.proofs.Keeps.{slot-keeps, reset-keeps, program-keeps, rom-slot-as-is, rom-reset-as-is}
use Rattle.device.proofs.Keeps.{rom-program-as-is}

-- ---- what nothing on the line changes: a body's length, and its registration code

module _ (state : LineState) (kind : Kind) (body : List ℕ) where
  pub write-length : (level : Bool) → length (body_after_slot state kind body level) ≡ length body
  unfolding body_after_slot
  write-length level = (slot-keeps (or_waiting state kind body) kind body level).same_length

  pub write-code : (level : Bool) → take code_length (body_after_slot state kind body level) ≡ take code_length body
  unfolding body_after_slot
  write-code level = (slot-keeps (or_waiting state kind body) kind body level).same_code

  pub reset-length : length (body_after_reset state kind body) ≡ length body
  unfolding body_after_reset
  reset-length = (reset-keeps (or_waiting state kind body) body).same_length

  pub reset-code : take code_length (body_after_reset state kind body) ≡ take code_length body
  unfolding body_after_reset
  reset-code = (reset-keeps (or_waiting state kind body) body).same_code

  pub program-length : length (body_after_pulse state kind body) ≡ length body
  unfolding body_after_pulse
  program-length = (program-keeps (or_waiting state kind body) body).same_length

  pub program-code : take code_length (body_after_pulse state kind body) ≡ take code_length body
  unfolding body_after_pulse
  program-code = (program-keeps (or_waiting state kind body) body).same_code

-- ---- a device that waits: until a reset it sends 1, goes on waiting, and its body stays

module _ (body : List ℕ) where
  pub waiting-sends-as-is : sends_as_is waiting_state ≡ true
  unfolding sends_as_is transfer_sends bit_of
  waiting-sends-as-is = refl

  pub waiting-step-as-is : (kind : Kind) (level : Bool) → state_after_slot_as_is waiting_state kind body level ≡ waiting_state
  unfolding state_after_slot_as_is transfer_after_slot speed_after_slot stage_next stage_speed rom_next rom_speed
  waiting-step-as-is kind level = refl

  pub waiting-write-as-is : (kind : Kind) (level : Bool) → body_after_slot_as_is waiting_state kind body level ≡ body
  unfolding body_after_slot_as_is stage_write
  waiting-write-as-is kind level = refl

  pub waiting-copies-as-is : (kind : Kind) (level : Bool) → bytes_in_slot_as_is waiting_state kind body level ≡ 0
  unfolding bytes_in_slot_as_is copy_in_slot_as_is stage_copy bytes_copied
  waiting-copies-as-is kind level = refl

  pub waiting-reset-as-is : body_after_reset_as_is waiting_state body ≡ body
  unfolding body_after_reset_as_is stage_reset
  waiting-reset-as-is = refl

  pub waiting-pulse-as-is : state_after_pulse_as_is waiting_state body ≡ waiting_state
  unfolding state_after_pulse_as_is stage_pulse
  waiting-pulse-as-is = refl

  pub waiting-program-as-is : body_after_pulse_as_is waiting_state body ≡ body
  unfolding body_after_pulse_as_is stage_program
  waiting-program-as-is = refl

module _ (kind : Kind) (body : List ℕ) where
  -- also where the body has another size
  pub waiting-or-waiting : or_waiting waiting_state kind body ≡ waiting_state
  unfolding or_waiting
  waiting-or-waiting = choose (line_state_in_range waiting_state kind body)
    where
      choose : (t : Bool) → cond t waiting_state waiting_state ≡ waiting_state
      choose true = refl
      choose false = refl

  pub waiting-sends : sends_of waiting_state kind body ≡ true
  unfolding sends_of
  waiting-sends = ap sends_as_is waiting-or-waiting ∙ waiting-sends-as-is body

  pub waiting-step : (level : Bool) → state_after_slot waiting_state kind body level ≡ waiting_state
  unfolding state_after_slot
  waiting-step level =
      ap (λ (s : LineState). state_after_slot_as_is s kind body level) waiting-or-waiting ∙ waiting-step-as-is body kind level

  pub waiting-write : (level : Bool) → body_after_slot waiting_state kind body level ≡ body
  unfolding body_after_slot
  waiting-write level =
      ap (λ (s : LineState). body_after_slot_as_is s kind body level) waiting-or-waiting ∙ waiting-write-as-is body kind level

  pub waiting-copies : (level : Bool) → bytes_in_slot waiting_state kind body level ≡ 0
  unfolding bytes_in_slot copy_in_slot bytes_in_slot_as_is
  waiting-copies level =
      ap (λ (s : LineState). bytes_in_slot_as_is s kind body level) waiting-or-waiting
      ∙ waiting-copies-as-is body kind level

  pub waiting-reset : body_after_reset waiting_state kind body ≡ body
  unfolding body_after_reset
  waiting-reset = ap (λ (s : LineState). body_after_reset_as_is s body) waiting-or-waiting ∙ waiting-reset-as-is body

  pub waiting-pulse : state_after_pulse waiting_state kind body ≡ waiting_state
  unfolding state_after_pulse
  waiting-pulse = ap (λ (s : LineState). state_after_pulse_as_is s body) waiting-or-waiting ∙ waiting-pulse-as-is body

  pub waiting-program : body_after_pulse waiting_state kind body ≡ body
  unfolding body_after_pulse
  waiting-program = ap (λ (s : LineState). body_after_pulse_as_is s body) waiting-or-waiting ∙ waiting-program-as-is body

-- ---- a slot that is not the last of its transfer only moves the register on

module _ (state : LineState) (kind : Kind) (body : List ℕ) (level : Bool) (more : goes_on state.transfer ≡ true) where
  pub going-on-steps : state_after_slot_as_is state kind body level
      ≡ line_state (shifted state.transfer level) state.overdrive
  unfolding state_after_slot_as_is transfer_after_slot speed_after_slot
  going-on-steps = rw more

  pub going-on-writes : body_after_slot_as_is state kind body level ≡ body
  unfolding body_after_slot_as_is
  going-on-writes = rw more

  pub going-on-copies : bytes_in_slot_as_is state kind body level ≡ 0
  unfolding bytes_in_slot_as_is copy_in_slot_as_is bytes_copied
  going-on-copies = rw more

-- ---- how many bytes a slot copies at most

stage-copies : (stage : Stage) (kind : Kind) (value : ℕ) (body : List ℕ)
    → bytes_copied (stage_copy stage kind value body) ≤ 32
unfolding stage_copy memory_copy bytes_copied
stage-copies (Memory (Sram s)) kind value body = copied-most s (memory_size kind) value body
stage-copies _ kind value body = omega arith

most-in-slot : (state : LineState) (kind : Kind) (body : List ℕ) (level : Bool)
    → bytes_in_slot_as_is state kind body level ≤ 32
unfolding bytes_in_slot_as_is copy_in_slot_as_is bytes_copied
most-in-slot state kind body level =
    let t = state.transfer in
    choose (stage_copy t.stage kind (received t level) body) (goes_on t)
    (stage-copies t.stage kind (received t level) body)
  where
    choose : (c : Option Written) (more : Bool) → bytes_copied c ≤ 32 → bytes_copied (cond more None c) ≤ 32
    choose c true h = omega arith
    choose c false h = h

pub slot-copies : (state : LineState) (kind : Kind) (body : List ℕ) (level : Bool)
    → bytes_in_slot state kind body level ≤ 32
unfolding bytes_in_slot copy_in_slot bytes_in_slot_as_is
slot-copies state kind body level = most-in-slot (or_waiting state kind body) kind body level

-- ---- a ROM stage changes no body

module _ (state : LineState) (r : RomStage) (in-rom : state.transfer.stage ≡ Rom r)
    (kind : Kind) (body : List ℕ) where
  -- what holds of the line state and of one that waits holds of it as it is taken
  in-range-as-is : (P : LineState → Type 0) → P state → P waiting_state → P (or_waiting state kind body)
  unfolding or_waiting
  in-range-as-is P p q = choose (line_state_in_range state kind body)
    where
      choose : (t : Bool) → P (cond t state waiting_state)
      choose true = p
      choose false = q

  -- neither in a slot
  pub rom-write : (level : Bool) → body_after_slot state kind body level ≡ body
  unfolding body_after_slot
  rom-write level =
      in-range-as-is (λ s. body_after_slot_as_is s kind body level ≡ body) (rom-slot-as-is state r in-rom body kind level)
      (waiting-write-as-is body kind level)

  -- and copies no byte
  rom-copies-as-is : (level : Bool) → bytes_in_slot_as_is state kind body level ≡ 0
  unfolding bytes_in_slot_as_is copy_in_slot_as_is stage_copy bytes_copied
  rom-copies-as-is level =
      let t = state.transfer in
      ap (λ (s : Stage). bytes_copied (cond (goes_on t) None (stage_copy s kind (received t level) body))) in-rom
      ∙ none (goes_on t)
    where
      none : (more : Bool) → bytes_copied (cond more None None) ≡ 0
      none true = refl
      none false = refl

  pub rom-copies : (level : Bool) → bytes_in_slot state kind body level ≡ 0
  unfolding bytes_in_slot copy_in_slot bytes_in_slot_as_is
  rom-copies level =
      in-range-as-is (λ s. bytes_in_slot_as_is s kind body level ≡ 0) (rom-copies-as-is level)
      (waiting-copies-as-is body kind level)

  -- nor by a reset
  pub rom-reset : body_after_reset state kind body ≡ body
  unfolding body_after_reset
  rom-reset =
      in-range-as-is (λ s. body_after_reset_as_is s body ≡ body) (rom-reset-as-is state r in-rom body) (waiting-reset-as-is body)

  -- nor by a program pulse
  pub rom-program : body_after_pulse state kind body ≡ body
  unfolding body_after_pulse
  rom-program =
      in-range-as-is (λ s. body_after_pulse_as_is s body ≡ body) (rom-program-as-is state r in-rom body) (waiting-program-as-is body)

-- nor does a reset once the device is addressed
pub addressed-reset : (kind : Kind) (overdrive : Bool) (body : List ℕ)
    → body_after_reset (line_state (addressed kind) overdrive) kind body ≡ body
unfolding body_after_reset or_waiting body_after_reset_as_is stage_reset memory_reset addressed
addressed-reset kind overdrive body = choose (line_state_in_range (line_state (addressed kind) overdrive) kind body) (is_flat kind)
  where
    choose : (t flat : Bool)
        → body_after_reset_as_is (cond t (line_state (cond flat waiting at_memory_command) overdrive) waiting_state) body ≡ body
    choose true true = refl
    choose true false = refl
    choose false flat = refl

-- ---- a flat battery

-- no memory stage of such a device is in range
flat-stage : (stage : Stage) (kind : Kind) (overdrive : Bool) (register left : ℕ) → is_flat kind ≡ true
    → stage_range stage kind overdrive register left ≡ true → (r : RomStage) × (stage ≡ Rom r)
unfolding stage_range
flat-stage (Rom r) kind overdrive register left flat h = (r, refl)
flat-stage (Memory m) kind overdrive register left flat h =
    absurd (true≢false (sym (both (not (is_flat kind)) (memory_range m kind left) h).0 ∙ ap not flat))

-- so it is in a ROM stage once its line state is taken, whatever that was
flat-in-rom : (state : LineState) (kind : Kind) (body : List ℕ) → is_flat kind ≡ true
    → (r : RomStage) × ((or_waiting state kind body).transfer.stage ≡ Rom r)
unfolding or_waiting line_state_in_range
flat-in-rom state kind body flat = choose (line_state_in_range state kind body) refl
  where
    choose : (t : Bool) → line_state_in_range state kind body ≡ t
        → (r : RomStage) × ((cond t state waiting_state).transfer.stage ≡ Rom r)
    choose true e =
        let t = state.transfer in
        let known = speed_known kind state.overdrive in
        let numbers = stage_range t.stage kind state.overdrive t.register t.left in
        flat-stage t.stage kind state.overdrive t.register t.left flat
        (both known numbers (both (eqb (length body) (body_size kind)) (known && numbers) e).1).1
    choose false e = (Waiting, refl)

module _ (state : LineState) (kind : Kind) (body : List ℕ) (flat : is_flat kind ≡ true) where
  -- no slot changes its body
  pub flat-write : (level : Bool) → body_after_slot state kind body level ≡ body
  unfolding body_after_slot
  flat-write level =
      let r = flat-in-rom state kind body flat in
      rom-slot-as-is (or_waiting state kind body) r.0 r.1 body kind level

  -- no reset
  pub flat-reset : body_after_reset state kind body ≡ body
  unfolding body_after_reset
  flat-reset =
      let r = flat-in-rom state kind body flat in
      rom-reset-as-is (or_waiting state kind body) r.0 r.1 body

  -- and no program pulse
  pub flat-program : body_after_pulse state kind body ≡ body
  unfolding body_after_pulse
  flat-program =
      let r = flat-in-rom state kind body flat in
      rom-program-as-is (or_waiting state kind body) r.0 r.1 body
