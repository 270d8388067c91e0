-- Document 01, 'The searching master', is stated here in the words of demand 3. Each is defined for any trace and any
-- codes.
use Rattle.std.specs.Prelude.{ℕ, zero, suc, ◌+◌, ◌*◌, ◌-◌, ◌<◌, ◌≡◌, Bool, true, false, cond, ◌&&◌, List, [], ◌∷◌, ◌++◌}
use Rattle.std.specs.Prelude.{length, get_or, take, drop, eqb, ltb}
use Rattle.bits.specs.Bit.{bit_at, put_bit}
use Rattle.bits.specs.Crc.{registration_check}
use Rattle.image.specs.Image.{family_at, code_at}
use Rattle.master.specs.Master.{command_bits, code_bits, code_bytes, no_bits, reset_event}
use Rattle.master.specs.Drive.{pass_events}

-- An image is a list of bytes, and a byte is a number below 256.
abbrev pub Bytes : List ℕ → Type 0
Bytes s = (k : ℕ) → get_or s k 0 < 256

-- ---- codes

-- A code is valid if it passes the registration check and its family byte is its entry's.
pub record Valid (image : List ℕ) (i : ℕ) : Type 0 where
  pub check : registration_check (code_at image i) ≡ true
  pub family : get_or (code_at image i) 0 0 ≡ family_at image i

-- Of two codes, the one with 0 at the lowest bit where they differ comes first.
pub record Precedes (a b : List ℕ) : Type 0 where
  pub lowest : ℕ
  pub inside : lowest < code_bits
  pub agree : (j : ℕ) → j < lowest → bit_at a j ≡ bit_at b j
  pub zero-here : bit_at a lowest ≡ false
  pub one-there : bit_at b lowest ≡ true

-- ---- passes

-- In a trace, resets are the bytes 2 and slots the bytes 0 and 1.
unfoldable pub is_reset : ℕ → Bool
is_reset byte = eqb byte reset_event

unfoldable pub is_slot : ℕ → Bool
is_slot byte = ltb byte 2

-- A pass is a reset and the 200 slots after it.
pub record Pass (events : List ℕ) : Type 0 where
  pub size : length events ≡ pass_events
  pub opens : is_reset (get_or events 0 0) ≡ true
  pub slots : (k : ℕ) → k < pass_events - 1 → is_slot (get_or events (suc k) 0) ≡ true

-- A trace is n passes, one after another.
abbrev pub Passes : ℕ → List ℕ → Type 0
Passes zero trace = trace ≡ []
Passes (suc n) trace = Pass (take pass_events trace) × Passes n (drop pass_events trace)

-- Each bit takes two read slots and then one direction; these are the directions of n bits.
unfoldable pub directions : ℕ → List ℕ → List Bool
directions zero slots = []
directions (suc n) slots = eqb (get_or slots 2 0) 1 ∷ directions n (drop 3 slots)

-- The bits are put into bytes one after another, from bit i on.
unfoldable pub put_bits : List ℕ → ℕ → List Bool → List ℕ
put_bits bytes i [] = bytes
put_bits bytes i (bit ∷ bits) = put_bits (put_bit bytes i bit) (suc i) bits

-- A pass's code is its 64 directions, bit 0 first. The slots are those after its reset, and the first 8 are the
-- command's.
unfoldable pub pass_code : List ℕ → List ℕ
pass_code slots = put_bits no_bits 0 (directions code_bits (drop command_bits slots))

-- In a trace, a pass is counted for each reset with a slot right after it.
unfoldable pub slot_next : List ℕ → Bool
slot_next [] = false
slot_next (byte ∷ trace) = is_slot byte

-- These are the codes of the passes of a trace, in their order.
unfoldable pub pass_codes : List ℕ → List ℕ
pass_codes [] = []
pass_codes (byte ∷ trace) = cond (is_reset byte && slot_next trace) (pass_code trace) [] ++ pass_codes trace

-- This is code k of codes that are written one after another.
unfoldable pub code_written : List ℕ → ℕ → List ℕ
code_written codes k = take code_bytes (drop (code_bytes * k) codes)

-- ---- counts

-- These are the numbers of resets, of slots and of passes in a trace.
unfoldable pub resets_in : List ℕ → ℕ
resets_in [] = 0
resets_in (byte ∷ trace) = cond (is_reset byte) 1 0 + resets_in trace

unfoldable pub slots_in : List ℕ → ℕ
slots_in [] = 0
slots_in (byte ∷ trace) = cond (is_slot byte) 1 0 + slots_in trace

unfoldable pub passes_in : List ℕ → ℕ
passes_in [] = 0
passes_in (byte ∷ trace) = cond (is_reset byte && slot_next trace) 1 0 + passes_in trace
