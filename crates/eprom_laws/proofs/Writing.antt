-- What goes by in a write: the data byte, its CRC, the pulse, the stored byte, pass by pass. Assumes nothing.
use Prim.Native.Nat.{ℕ, ◌+◌, ◌%◌, ◌<◌, ◌≤◌}
use mathlib.Core.Path.{◌≡◌, refl}
use mathlib.Core.List.{List, [], ◌∷◌}
use native.Mathlib.Omega.{arith}
use lib.ListN.{length}
use borrow.Author.Tests.{lt-ltb, le-ltb}
use Rattle.bits.specs.Crc.{crc_from}
use Rattle.line.specs.Transfers.{waiting}
use Rattle.line.specs.declared.Field.{Field}
use Rattle.line.specs.declared.Field.TheVariants.{Data, Status}
use Rattle.line.specs.declared.EpromStage.TheVariants.{WriteLow, WriteHigh, WriteData, WriteCrc, Stored}
use Rattle.eprom.specs.Fields.{field_length, stored_byte, write_command, address_of, cut_address, command_crc}
use Rattle.eprom.specs.Writes.{write_low, write_data_byte, write_latch, after_data_byte, await_pulse, programmed_body, send_stored, next_write_pass}
use Rattle.eprom.specs.Eprom.{eprom_command, eprom_next}
use Rattle.eprom.proofs.Laws.{length_most}
use Rattle.eprom_laws.specs.Events.{EpromDevice, eprom_device, Exchange, byte, programs, SendsOver}
use Rattle.eprom_laws.specs.Writes.{WrittenByte, write_exchanges, first_crc, next_crc, bytes_of_later_passes, bytes_of_write}
use Rattle.eprom_laws.specs.Writes.{write_body, write_transfer}
use Rattle.eprom_laws.proofs.Exchanges.{nothing, sent-then, heard-then, pulse-then}

write-command : (field : Field) → eprom_command (write_command field) ≡ write_low field
unfolding eprom_command write_command
write-command Data = refl
write-command Status = refl

-- after an address the next one, with the register loaded with it; after the last the device waits
pub next-pass : (field : Field) (a : ℕ) → a + 1 < field_length field → next_write_pass field a ≡ write_data_byte field (a + 1) (a + 1)
unfolding next_write_pass
next-pass field a h = simp (lt-ltb _ _ h)

pub last-pass : (field : Field) (a : ℕ) → field_length field ≤ a + 1 → next_write_pass field a ≡ waiting
unfolding next_write_pass
last-pass field a h = simp (le-ltb _ _ h)

module _ (field : Field) where
  -- a data byte is received and its CRC sent, with the register as it is before that byte; then a pulse is due
  data-and-crc : (a register d line : ℕ) (body : List ℕ) {es : List Exchange} {sent : List ℕ} {after : EpromDevice} → d < 256
      → SendsOver (eprom_device (await_pulse field a d) body) es sent after
      → SendsOver (eprom_device (write_data_byte field a register) body) (byte d ∷ byte line ∷ es)
      (0xFF ∷ crc_from register (d ∷ []) ∷ sent) after
  unfolding eprom_next after_data_byte crc_from
  data-and-crc a register d line body h p =
      heard-then {e = WriteData field a register} h (sent-then {e = WriteCrc field a d} (λ v. refl) p)

  -- one pass, and then what comes next
  pass : (a register : ℕ) (w : WrittenByte) (body : List ℕ) {es : List Exchange} {sent : List ℕ} {after : EpromDevice}
      → SendsOver (eprom_device (next_write_pass field a) (programmed_body field a w.value body)) es sent after
      → SendsOver (eprom_device (write_data_byte field a register) body)
      (byte w.value ∷ byte w.line_at_crc ∷ programs ∷ byte w.line_at_stored ∷ es)
      (0xFF ∷ crc_from register (w.value ∷ []) ∷ stored_byte field a (programmed_body field a w.value body) ∷ sent) after
  unfolding eprom_next send_stored
  pass a register w body p =
      data-and-crc a register w.value w.line_at_crc body w.fits
      (pulse-then (sent-then {e = Stored field a} (λ d. refl) p))

  -- later passes: after an address that is not the last
  later : (ws : List WrittenByte) (a : ℕ) (body : List ℕ) → a + length ws < field_length field
      → SendsOver (eprom_device (next_write_pass field a) body) (write_exchanges ws) (bytes_of_later_passes field (a + 1) ws body)
      (eprom_device (next_write_pass field (a + length ws)) (write_body field (a + 1) ws body))
  unfolding write_exchanges bytes_of_later_passes write_body
  later [] a body h = let e : a + 0 ≡ a = omega arith in rw e nothing
  later (w ∷ ws) a body h =
      let e : a + 1 + length ws ≡ a + length (w ∷ ws) = omega arith in
      let low : (a + 1) % 256 ≡ a + 1 = omega (arith, length_most field) in
      let after = programmed_body field (a + 1) w.value body in
      rw (low, next-pass field a (omega arith))
      (pass (a + 1) (a + 1) w body (rw e at (later ws (a + 1) after (omega arith))))

  -- all passes, from the second address byte on
  passes : (ws : List WrittenByte) (a : ℕ) (body : List ℕ) → a + length ws ≤ field_length field
      → SendsOver (eprom_device (write_data_byte field a (command_crc (write_command field) a)) body) (write_exchanges ws)
      (bytes_of_write field a ws body) (eprom_device (write_transfer field a ws) (write_body field a ws body))
  unfolding write_exchanges bytes_of_write write_body write_transfer command_crc crc_from
  passes [] a body h = nothing
  passes (w ∷ ws) a body h =
      pass a (command_crc (write_command field) a) w body (later ws a (programmed_body field a w.value body) (omega arith))

  module _ (low high : ℕ) (low_fits : low < 256) (high_fits : high < 256) (body : List ℕ) where
    abbrev start : ℕ
    start = cut_address field (address_of low high)

    -- the two address bytes come in, and are cut
    address-then : {es : List Exchange} {sent : List ℕ} {after : EpromDevice}
        → SendsOver (eprom_device (write_data_byte field start (command_crc (write_command field) start)) body) es sent after
        → SendsOver (eprom_device (eprom_command (write_command field)) body) (byte low ∷ byte high ∷ es)
        (0xFF ∷ 0xFF ∷ sent) after
    unfolding eprom_next write_latch
    address-then p =
        rw (write-command field)
        (heard-then {e = WriteLow field} low_fits (heard-then {e = WriteHigh field low} high_fits p))

    -- 0Fh, 55h, from the end of the command on: ones while the two address bytes come in; then pass by pass, as far as
    -- the field goes, what a write sends and stores
    pub write-law : (ws : List WrittenByte) → start + length ws ≤ field_length field
        → SendsOver (eprom_device (eprom_command (write_command field)) body) (byte low ∷ byte high ∷ write_exchanges ws)
        (0xFF ∷ 0xFF ∷ bytes_of_write field start ws body)
        (eprom_device (write_transfer field start ws) (write_body field start ws body))
    write-law ws h = address-then (passes ws start body h)

    -- without the pulse: the CRC of the first pass is that of command, cut address and data, and the body stays as it
    -- was
    pub first-pass : (d line : ℕ) → d < 256
        → SendsOver (eprom_device (eprom_command (write_command field)) body) (byte low ∷ byte high ∷ byte d ∷ byte line ∷ [])
        (0xFF ∷ 0xFF ∷ 0xFF ∷ first_crc field start d ∷ []) (eprom_device (await_pulse field start d) body)
    unfolding command_crc crc_from
    first-pass d line h =
        address-then (data-and-crc start (command_crc (write_command field) start) d line body h nothing)

  -- that of a later pass is the data's, on a register that was loaded with the new address
  pub later-pass : (body : List ℕ) (a back d line : ℕ) → a + 1 < field_length field → d < 256
      → SendsOver (eprom_device (send_stored field a body) body) (byte back ∷ byte d ∷ byte line ∷ [])
      (stored_byte field a body ∷ 0xFF ∷ next_crc (a + 1) d ∷ []) (eprom_device (await_pulse field (a + 1) d) body)
  unfolding eprom_next send_stored
  later-pass body a back d line h k =
      let low : (a + 1) % 256 ≡ a + 1 = omega (arith, length_most field) in
      rw low
      (sent-then {e = Stored field a} (λ v. next-pass field a h)
      (data-and-crc (a + 1) (a + 1) d line body k nothing))
