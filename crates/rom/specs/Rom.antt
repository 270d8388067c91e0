-- Document 01, 'ROM stage', and document 02, items 7 and 9, are stated here: the transfers of the ROM stage, which
-- follows which, and the speed of a device after each. The registration code is the first 8 bytes of the body. These
-- definitions do not test the numbers of a stage: the crate `device` sees to it that they are in range and that the
-- body has its kind's size.
use Rattle.std.specs.Prelude.{ℕ, ◌+◌, Bool, true, cond, ◌&&◌, List, get_or, ltb, eqb}
use Rattle.std.specs.Bool.{beq}
use Rattle.bits.specs.Bit.{bit_at}
use Rattle.kind.specs.declared.Kind.{Kind}
use Rattle.kind.specs.Kind.{is_flat, has_overdrive}
use Rattle.line.specs.declared.RomStage.{RomStage}
use Rattle.line.specs.declared.RomStage.TheVariants.{Waiting, Command, Read, Match, Search, OverdriveMatch}
use Rattle.line.specs.declared.Stage.TheVariants.{Rom}
use Rattle.line.specs.declared.Transfer.{Transfer}
use Rattle.line.specs.Transfers.{waiting, sending, listening_once, at_memory_command, under_way}

-- Read ROM, 33h, sends the 64 code bits, here byte by byte.
abbrev pub read_byte : ℕ → List ℕ → Transfer
read_byte byte body = sending (Rom (Read byte)) (get_or body byte 0)

-- Match ROM, 55h, compares the level of each of 64 slots with a code bit at once.
abbrev pub match_bit : ℕ → Transfer
match_bit at = listening_once (Rom (Match at))

-- Search ROM, F0h, has three slots for each code bit. The bit is sent, then its complement; in the third slot, the
-- direction, the device listens. The register's lowest bit is sent first: 1, 0, 1 where the code bit is 1, else 0, 1,
-- 1.
unfoldable pub search_bit : ℕ → List ℕ → Transfer
search_bit at body = record { register = cond (bit_at body at) 0b101 0b110; left = 3; stage = Rom (Search at) }

-- Skip ROM, CCh, overdrive skip ROM, 3Ch, and the end of the 64 bits lead to the memory command: there is no other way
-- out of the ROM stage to the memory. A device with a flat battery waits there instead (document 02, item 7).
unfoldable pub addressed : Kind → Transfer
addressed kind = cond (is_flat kind) waiting at_memory_command

-- Overdrive match ROM, 69h, compares like match ROM, at overdrive. `before` tells whether the device was at overdrive
-- before this command (document 02, item 9).
abbrev pub overdrive_match_bit : ℕ → Bool → Transfer
overdrive_match_bit at before = listening_once (Rom (OverdriveMatch at before))

-- Document 02, item 9: a DS1996 has two commands more, 3Ch, overdrive skip ROM, after which it is addressed, and 69h.
-- After any other command a device waits, and a device of another kind does so after these two as well.
unfoldable pub overdrive_command : ℕ → Kind → Bool → Transfer
overdrive_command value kind overdrive =
    cond (has_overdrive kind)
    (cond (eqb value 0x3C) (addressed kind)
    (cond (eqb value 0x69) (overdrive_match_bit 0 overdrive) waiting))
    waiting

-- A ROM command leads to its function. Where `overdrive` is true the device received it at overdrive.
unfoldable pub rom_command : ℕ → Kind → Bool → List ℕ → Transfer
rom_command value kind overdrive body =
    cond (eqb value 0x33) (read_byte 0 body)
    (cond (eqb value 0x55) (match_bit 0)
    (cond (eqb value 0xF0) (search_bit 0 body)
    (cond (eqb value 0xCC) (addressed kind) (overdrive_command value kind overdrive))))

-- After a byte of the code comes the next one; after the last the device is addressed.
unfoldable pub after_read : ℕ → Kind → List ℕ → Transfer
after_read byte kind body = cond (ltb byte 7) (read_byte (byte + 1) body) (addressed kind)

-- After a code bit that is equal to the level comes the next one, and after the last the device is addressed; a
-- mismatch makes the device wait.
unfoldable pub after_match : ℕ → Kind → Bool → Transfer
after_match at kind same = cond same (cond (ltb at 63) (match_bit (at + 1)) (addressed kind)) waiting

-- After a code bit that is equal to the direction comes the next one, and after the last the device is addressed; a
-- mismatch makes the device wait.
unfoldable pub after_search : ℕ → Kind → List ℕ → Bool → Transfer
after_search at kind body same = cond same (cond (ltb at 63) (search_bit (at + 1) body) (addressed kind)) waiting

-- The same goes for a code bit that comes at overdrive.
unfoldable pub after_overdrive_match : ℕ → Bool → Kind → Bool → Transfer
after_overdrive_match at before kind same =
    cond same (cond (ltb at 63) (overdrive_match_bit (at + 1) before) (addressed kind)) waiting

-- When the transfer of a stage ends, in which `value` was received and whose last slot was at `level`, this transfer
-- follows it. The device was at overdrive in it where `overdrive` is true.
unfoldable pub rom_next : RomStage → Kind → Bool → ℕ → List ℕ → Bool → Transfer
rom_next Waiting kind overdrive value body level = waiting
rom_next Command kind overdrive value body level = rom_command value kind overdrive body
rom_next (Read byte) kind overdrive value body level = after_read byte kind body
rom_next (Match at) kind overdrive value body level = after_match at kind (beq (bit_at body at) level)
rom_next (Search at) kind overdrive value body level = after_search at kind body (beq (bit_at body at) level)
rom_next (OverdriveMatch at before) kind overdrive value body level =
    after_overdrive_match at before kind (beq (bit_at body at) level)

-- Document 02, item 9: a DS1996 is at overdrive after 3Ch and from the last bit of 69h on. Any other command leaves a
-- device at its speed.
unfoldable pub command_speed : ℕ → Kind → Bool → Bool
command_speed value kind overdrive =
    cond (eqb value 0x3C) (cond (has_overdrive kind) true overdrive)
    (cond (eqb value 0x69) (cond (has_overdrive kind) true overdrive) overdrive)

-- A device that fails the match after 69h is at overdrive only if it was so before the command. Nothing else in the ROM
-- stage changes the speed.
unfoldable pub rom_speed : RomStage → Kind → Bool → ℕ → List ℕ → Bool → Bool
rom_speed Waiting kind overdrive value body level = overdrive
rom_speed Command kind overdrive value body level = command_speed value kind overdrive
rom_speed (Read byte) kind overdrive value body level = overdrive
rom_speed (Match at) kind overdrive value body level = overdrive
rom_speed (Search at) kind overdrive value body level = overdrive
rom_speed (OverdriveMatch at before) kind overdrive value body level =
    cond (beq (bit_at body at) level) overdrive before

-- The numbers of a stage are in range if they name one of 8 bytes or 64 bits of the code; a device that waits has no
-- slot left and sends ones. The code bits after 69h come at overdrive.
unfoldable pub rom_range : RomStage → Bool → ℕ → ℕ → Bool
rom_range Waiting overdrive register left = eqb register 0xFF && eqb left 0
rom_range Command overdrive register left = under_way 8 left
rom_range (Read byte) overdrive register left = ltb byte 8 && under_way 8 left
rom_range (Match at) overdrive register left = ltb at 64 && under_way 1 left
rom_range (Search at) overdrive register left = ltb at 64 && under_way 3 left
rom_range (OverdriveMatch at before) overdrive register left = overdrive && (ltb at 64 && under_way 1 left)
