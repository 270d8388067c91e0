-- What nothing on the line changes: a body's length and its registration code; in a ROM stage the whole body. Here of a
-- line state as it is. Assumes nothing.
use Prim.Native.Nat.{ℕ}
use mathlib.Core.Path.{◌≡◌, refl, ap, ◌∙◌}
use mathlib.Core.Bool.{Bool, true, false, cond}
use mathlib.Core.List.{List}
use Rattle.kind.specs.declared.Kind.{Kind}
use Rattle.kind.specs.Kind.{memory_size}
use Rattle.line.specs.declared.RomStage.{RomStage}
use Rattle.line.specs.declared.MemoryStage.TheVariants.{Sram, Eprom}
use Rattle.line.specs.declared.Stage.{Stage}
use Rattle.line.specs.declared.Stage.TheVariants.{Rom, Memory}
use Rattle.line.specs.Transfers.{goes_on, received}
use Rattle.sram.proofs.Keeps.{Keeps, kept, either}
use Rattle.sram.proofs.Keeps as sram
use Rattle.eprom.proofs.Pulses as eprom
use Rattle.device.specs.declared.LineState.{LineState}
use Rattle.device.specs.Device.{memory_write, stage_write, memory_reset, stage_reset, memory_program, stage_program}
use Rattle.device.specs.Device.{body_after_slot_as_is, body_after_reset_as_is, body_after_pulse_as_is}

-- ---- by the stage

stage-write : (stage : Stage) (kind : Kind) (value : ℕ) (body : List ℕ) (level : Bool)
    → Keeps body (stage_write stage kind value body level)
unfolding stage_write memory_write
stage-write (Memory (Sram s)) kind value body level = sram.write_keeps s (memory_size kind) value body level
stage-write _ kind value body level = kept

stage-reset : (stage : Stage) (body : List ℕ) → Keeps body (stage_reset stage body)
unfolding stage_reset memory_reset
stage-reset (Memory (Sram s)) body = sram.reset-keeps s body
stage-reset _ body = kept

stage-program : (stage : Stage) (body : List ℕ) → Keeps body (stage_program stage body)
unfolding stage_program memory_program
stage-program (Memory (Eprom e)) body =
    record { same_length = eprom.program-length e body; same_code = eprom.program-code e body }
stage-program _ body = kept

-- ---- by the line state

-- a slot keeps the body's length and its code
pub slot-keeps : (state : LineState) (kind : Kind) (body : List ℕ) (level : Bool)
    → Keeps body (body_after_slot_as_is state kind body level)
unfolding body_after_slot_as_is
slot-keeps state kind body level =
    let t = state.transfer in
    either (goes_on t) kept (stage-write t.stage kind (received t level) body level)

-- so does a reset
pub reset-keeps : (state : LineState) (body : List ℕ) → Keeps body (body_after_reset_as_is state body)
unfolding body_after_reset_as_is
reset-keeps state body = stage-reset state.transfer.stage body

-- so does a program pulse
pub program-keeps : (state : LineState) (body : List ℕ) → Keeps body (body_after_pulse_as_is state body)
unfolding body_after_pulse_as_is
program-keeps state body = stage-program state.transfer.stage body

-- ---- in a ROM stage the body stays as it is

module _ (state : LineState) (r : RomStage) (in-rom : state.transfer.stage ≡ Rom r) (body : List ℕ) where
  pub rom-slot-as-is : (kind : Kind) (level : Bool) → body_after_slot_as_is state kind body level ≡ body
  unfolding body_after_slot_as_is stage_write
  rom-slot-as-is kind level =
      let t = state.transfer in
      ap (λ (s : Stage). cond (goes_on t) body (stage_write s kind (received t level) body level)) in-rom
      ∙ same (goes_on t)
    where
      same : (more : Bool) → cond more body body ≡ body
      same true = refl
      same false = refl

  pub rom-reset-as-is : body_after_reset_as_is state body ≡ body
  unfolding body_after_reset_as_is stage_reset
  rom-reset-as-is = ap (λ (s : Stage). stage_reset s body) in-rom

  pub rom-program-as-is : body_after_pulse_as_is state body ≡ body
  unfolding body_after_pulse_as_is stage_program
  rom-program-as-is = ap (λ (s : Stage). stage_program s body) in-rom
