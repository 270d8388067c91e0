-- A ROM command and a search, slot by slot, of a device whose body has its kind's size. Assumes nothing.
use Prim.Native.Nat.{ℕ, ◌+◌, ◌-◌, ◌<◌}
use mathlib.Core.Path.{◌≡◌, refl, sym, ap, ◌∙◌}
use mathlib.Core.Bool.{Bool, true, false, cond, not, beq}
use mathlib.Core.List.{List, [], ◌∷◌, ◌++◌}
use native.Mathlib.Omega.{arith}
use native.Mathlib.Nat.{zero-add}
use lib.ListN.{length, length-append}
use borrow.Author.Tests.{eq-eqb, lt-ltb, le-ltb, le-leb}
use Rattle.bits.specs.Bit.{bit_of, bit_at, shift_in}
use Rattle.bits.specs.Levels.{spelled, shifts_in}
use Rattle.bits.proofs.Laws.{below-eight}
use Rattle.bits.proofs.Levels.{sends-bit, spells-eight, shifts-more}
use Rattle.kind.specs.declared.Kind.{Kind}
use Rattle.kind.specs.Kind.{body_size, speed_known}
use Rattle.line.specs.declared.RomStage.TheVariants.{Command}
use Rattle.line.specs.declared.Stage.TheVariants.{Rom}
use Rattle.line.specs.declared.Transfer.{Transfer}
use Rattle.line.specs.Transfers.{waiting, at_rom_command, transfer_sends, shifted}
use Rattle.line.specs.Slots.{shifted_over}
use Rattle.line.proofs.Transfers.{over-is, over-more}
use Rattle.rom.specs.Rom.{search_bit, addressed, rom_command, after_search, rom_next, command_speed, rom_speed, rom_range}
use Rattle.device.specs.declared.LineState.{LineState}
use Rattle.device.specs.Device.{stage_next, stage_speed, line_state, regular_state, sends_as_is, transfer_after_slot, speed_after_slot, state_after_slot_as_is, stage_range, line_state_in_range}
use Rattle.device.specs.Device.{sends_of}
use Rattle.device.specs.Device.{state_after_slot}
use Rattle.device.proofs.Range.{sends-same, step_same}

-- ---- the three slots of a code bit: the bit, its complement, and the direction, which decides

-- a device in the search of bit `at`, after slots at these levels: none, one or two
abbrev pub searching : ℕ → List ℕ → List Bool → LineState
searching at body levels = regular_state (shifted_over (search_bit at body) levels)

beq-self : (b : Bool) → beq b b ≡ true
beq-self true = refl
beq-self false = refl

beq-not : (b : Bool) → beq b (not b) ≡ false
beq-not true = refl
beq-not false = refl

module _ (at : ℕ) (kind : Kind) (body : List ℕ) (sized : length body ≡ body_size kind) (low : at < 64) where
  in-bit : line_state_in_range (searching at body []) kind body ≡ true
  unfolding line_state_in_range stage_range rom_range speed_known shifted_over search_bit
  in-bit = rw (eq-eqb (length body) (body_size kind) sized, lt-ltb at 64 low)

  in-complement : (a : Bool) → line_state_in_range (searching at body (a ∷ [])) kind body ≡ true
  unfolding line_state_in_range stage_range rom_range speed_known shifted_over search_bit
  in-complement a = rw (eq-eqb (length body) (body_size kind) sized, lt-ltb at 64 low)

  in-direction : (a b : Bool) → line_state_in_range (searching at body (a ∷ b ∷ [])) kind body ≡ true
  unfolding line_state_in_range stage_range rom_range speed_known shifted_over search_bit
  in-direction a b = rw (eq-eqb (length body) (body_size kind) sized, lt-ltb at 64 low)

  -- the first slot
  pub search-sends-bit : sends_of (searching at body []) kind body ≡ bit_at body at
  unfolding sends_as_is transfer_sends shifted_over search_bit bit_of
  search-sends-bit = sends-same (searching at body []) kind body in-bit ∙ choose (bit_at body at)
    where
      choose : (bit : Bool) → bit_of (cond bit 0b101 0b110) 0 ≡ bit
      choose true = refl
      choose false = refl

  pub search-after-bit : (a : Bool) → state_after_slot (searching at body []) kind body a ≡ searching at body (a ∷ [])
  unfolding state_after_slot_as_is transfer_after_slot speed_after_slot shifted_over search_bit
  search-after-bit a = step_same (searching at body []) kind body in-bit a

  -- the second slot, whatever the level of the first was
  pub search-sends-complement : (a : Bool) → sends_of (searching at body (a ∷ [])) kind body ≡ not (bit_at body at)
  unfolding sends_as_is transfer_sends shifted_over search_bit bit_of shift_in
  search-sends-complement a =
      sends-same (searching at body (a ∷ [])) kind body (in-complement a) ∙ choose (bit_at body at) a
    where
      choose : (bit a : Bool) → bit_of (shift_in (cond bit 0b101 0b110) a) 0 ≡ not bit
      choose true true = refl
      choose true false = refl
      choose false true = refl
      choose false false = refl

  pub search-after-complement : (a b : Bool)
      → state_after_slot (searching at body (a ∷ [])) kind body b ≡ searching at body (a ∷ b ∷ [])
  unfolding state_after_slot_as_is transfer_after_slot speed_after_slot shifted_over search_bit
  search-after-complement a b = step_same (searching at body (a ∷ [])) kind body (in-complement a) b

  -- the third slot, whatever the levels of the others were
  pub search-sends-direction : (a b : Bool) → sends_of (searching at body (a ∷ b ∷ [])) kind body ≡ true
  unfolding sends_as_is transfer_sends shifted_over search_bit bit_of shift_in
  search-sends-direction a b =
      sends-same (searching at body (a ∷ b ∷ [])) kind body (in-direction a b) ∙ choose (bit_at body at) a b
    where
      choose : (bit a b : Bool) → bit_of (shift_in (shift_in (cond bit 0b101 0b110) a) b) 0 ≡ true
      choose true true true = refl
      choose true true false = refl
      choose true false true = refl
      choose true false false = refl
      choose false true true = refl
      choose false true false = refl
      choose false false true = refl
      choose false false false = refl

  pub search-after-direction : (a b level : Bool)
      → state_after_slot (searching at body (a ∷ b ∷ [])) kind body level
      ≡ regular_state (after_search at kind body (beq (bit_at body at) level))
  unfolding state_after_slot_as_is transfer_after_slot speed_after_slot shifted_over search_bit stage_next rom_next stage_speed rom_speed
  search-after-direction a b level = step_same (searching at body (a ∷ b ∷ [])) kind body (in-direction a b) level

  -- with its bit as the direction it goes on to the next bit, or after the last is addressed
  pub search-stays : (a b level : Bool) → level ≡ bit_at body at → at < 63
      → state_after_slot (searching at body (a ∷ b ∷ [])) kind body level ≡ searching (at + 1) body []
  unfolding after_search shifted_over
  search-stays a b level same h =
      search-after-direction a b level ∙ rw (same, beq-self (bit_at body at), lt-ltb at 63 h)

  pub search-ends : (a b level : Bool) → level ≡ bit_at body at → at ≡ 63
      → state_after_slot (searching at body (a ∷ b ∷ [])) kind body level ≡ regular_state (addressed kind)
  unfolding after_search
  search-ends a b level same e =
      search-after-direction a b level ∙ rw (same, beq-self (bit_at body at), le-ltb at 63 (omega arith))

  -- with the other it waits
  pub search-leaves : (a b level : Bool) → level ≡ not (bit_at body at)
      → state_after_slot (searching at body (a ∷ b ∷ [])) kind body level ≡ regular_state waiting
  unfolding after_search
  search-leaves a b level other =
      search-after-direction a b level ∙ rw (other, beq-not (bit_at body at))

-- ---- the eight slots of a ROM command

-- a device that has received these levels of a command, fewer than eight
abbrev pub commanded : List Bool → LineState
commanded levels = regular_state (shifted_over at_rom_command levels)

-- the same with its numbers
abbrev receiving : List Bool → Transfer
receiving levels = record { register = shifts_in 0xFF levels; left = 8 - length levels; stage = Rom Command }

receives : (levels : List Bool) → commanded levels ≡ regular_state (receiving levels)
receives levels = ap regular_state (over-is levels at_rom_command)

-- a register full of ones sends them, whatever comes in
one-of-ones : (i : ℕ) → i < 8 → bit_of 0xFF i ≡ true
unfolding bit_of
one-of-ones = below-eight (λ (i : ℕ). bit_of 0xFF i ≡ true) refl refl refl refl refl refl refl refl

module _ (levels : List Bool) (kind : Kind) (body : List ℕ) (sized : length body ≡ body_size kind) where
  in-command : length levels < 8 → line_state_in_range (commanded levels) kind body ≡ true
  unfolding line_state_in_range stage_range rom_range speed_known
  in-command h =
      ap (λ (s : LineState). line_state_in_range s kind body) (receives levels)
      ∙ rw (
        eq-eqb (length body) (body_size kind) sized,
        lt-ltb 0 (8 - length levels) (omega arith),
        le-leb (8 - length levels) 8 (omega arith),
      )

  -- the device listens
  pub command-sends : length levels < 8 → sends_of (commanded levels) kind body ≡ true
  unfolding sends_as_is transfer_sends
  command-sends h =
      sends-same (commanded levels) kind body (in-command h)
      ∙ ap sends_as_is (receives levels)
      ∙ sends-bit levels 0xFF 0 (omega arith)
      ∙ ap (λ (i : ℕ). bit_of 0xFF i) (zero-add (length levels))
      ∙ one-of-ones (length levels) h

  -- up to the seventh level it goes on listening
  pub command-goes-on : (level : Bool) → length levels < 7
      → state_after_slot (commanded levels) kind body level ≡ commanded (levels ++ level ∷ [])
  unfolding state_after_slot_as_is transfer_after_slot speed_after_slot
  command-goes-on level h =
      step_same (commanded levels) kind body (in-command (omega arith)) level
      ∙ ap (λ (s : LineState). state_after_slot_as_is s kind body level) (receives levels)
      ∙ rw (lt-ltb 1 (8 - length levels) (omega arith))
      (ap (λ (t : Transfer). regular_state (shifted t level)) (sym (over-is levels at_rom_command))
      ∙ ap regular_state (sym (over-more levels level at_rom_command)))

  -- with the eighth the command that they spell decides
  pub command-ends : (level : Bool) → length levels ≡ 7
      → state_after_slot (commanded levels) kind body level
      ≡ line_state (rom_command (spelled (levels ++ level ∷ [])) kind false body)
      (command_speed (spelled (levels ++ level ∷ [])) kind false)
  unfolding state_after_slot_as_is transfer_after_slot speed_after_slot stage_next rom_next stage_speed rom_speed
  command-ends level h =
      step_same (commanded levels) kind body (in-command (omega arith)) level
      ∙ ap (λ (s : LineState). state_after_slot_as_is s kind body level) (receives levels)
      ∙ rw (le-ltb 1 (8 - length levels) (omega arith))
      (ap (λ (value : ℕ). line_state (rom_command value kind false body) (command_speed value kind false)) (whole level h))
    where
      whole : (level : Bool) → length levels ≡ 7 → shift_in (shifts_in 0xFF levels) level ≡ spelled (levels ++ level ∷ [])
      whole level h =
          sym (shifts-more levels level 0xFF)
          ∙ spells-eight 0xFF (omega arith) (levels ++ level ∷ []) (simp length-append (omega arith))
