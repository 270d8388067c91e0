-- What a read sends: the CRC of command and cut address, the bytes to the field's end or page by page, and their CRCs.
-- Assumes nothing.
use Prim.Native.Nat.{ℕ, zero, suc, ◌+◌, ◌-◌, ◌/◌, ◌%◌, ◌<◌, ◌≤◌}
use mathlib.Core.Path.{◌≡◌, refl, sym, ap, ◌∙◌}
use mathlib.Core.Bool.{true, false}
use mathlib.Core.List.{List, [], ◌∷◌}
use native.Mathlib.Omega.{arith}
use native.Mathlib.Nat.{mod-eq_of_lt}
use native.Mathlib.Numerals.{add-one}
use lib.ListN.{length, take, drop, length-drop}
use lib.Seq.{drop-cons, drop-drop, get_or-take, get_or-drop, length-take-le, take_all}
use borrow.Author.Tests.{eq-eqb, ne_eqb, lt-ltb, le-ltb}
use Rattle.bits.specs.Crc.{crc_byte, crc_from, crc_of}
use Rattle.line.specs.Transfers.{waiting}
use Rattle.line.specs.declared.Field.{Field}
use Rattle.line.specs.declared.Field.TheVariants.{Data, Status}
use Rattle.line.specs.declared.EpromRead.{EpromRead}
use Rattle.line.specs.declared.EpromRead.TheVariants.{Memory as ReadMemory, Status as ReadStatus, Pages as ReadPages}
use Rattle.line.specs.declared.EpromStage.TheVariants.{ReadLow, ReadHigh, ReadCrc, ReadByte}
use Rattle.eprom.specs.Fields.{field_start, field_length, body_length, stored_byte, field_read, read_command, address_of, cut_address}
use Rattle.eprom.specs.Fields.{command_crc}
use Rattle.eprom.specs.Reads.{read_low, send_crc, send_byte, read_latch, after_crc, ends_span, after_byte}
use Rattle.eprom.specs.Eprom.{eprom_command, eprom_next}
use Rattle.eprom.proofs.Laws.{cut_below}
use Rattle.eprom_laws.specs.Events.{eprom_device, byte, line_bytes, SendsOver}
use Rattle.eprom_laws.specs.Reads.{field_of, with_crc, page_by_page, read_bytes, bytes_of_read}
use Rattle.eprom_laws.proofs.Exchanges.{heard-then, Sends, none, last, sends-then, sent-over}

read-command : (read : EpromRead) → eprom_command (read_command read) ≡ read_low read
unfolding eprom_command read_command
read-command ReadMemory = refl
read-command ReadStatus = refl
read-command ReadPages = refl

-- ---- the ends of a span

-- the CRC at the field's end is the last
last-crc : (read : EpromRead) (body : List ℕ) → after_crc read (field_length (field_read read)) body ≡ waiting
unfolding after_crc
last-crc read body = let n = field_length (field_read read) in simp (le-ltb n n (omega arith))

-- how many bytes stand between two CRCs
abbrev span : EpromRead → ℕ
span ReadMemory = 128
span ReadStatus = 8
span ReadPages = 32

-- `a` has suc n bytes before the end of its span
abbrev Left : EpromRead → ℕ → ℕ → Type 0
Left read a n = (a < field_length (field_read read)) × (a % span read + suc n ≡ span read)

last-left : (read : EpromRead) (a : ℕ) → Left read a 0 → ends_span read (a + 1) ≡ true
unfolding ends_span field_read field_length
last-left ReadMemory a h = eq-eqb (a + 1) 128 (omega arith)
last-left ReadStatus a h = eq-eqb (a + 1) 8 (omega arith)
last-left ReadPages a h = eq-eqb ((a + 1) % 32) 0 (omega arith)

more_left : (read : EpromRead) (a n : ℕ) → Left read a (suc n) → (ends_span read (a + 1) ≡ false) × Left read (a + 1) n
unfolding ends_span field_read field_length
more_left ReadMemory a n h = (ne_eqb (a + 1) 128 (λ (e : a + 1 ≡ 128). omega arith), (omega arith, omega arith))
more_left ReadStatus a n h = (ne_eqb (a + 1) 8 (λ (e : a + 1 ≡ 8). omega arith), (omega arith, omega arith))
more_left ReadPages a n h =
    (ne_eqb ((a + 1) % 32) 0 (λ (e : (a + 1) % 32 ≡ 0). omega arith), (omega arith, omega arith))

some_left : (read : EpromRead) (a : ℕ) → a < field_length (field_read read)
    → (n : ℕ) × Left read a n × (suc n ≡ span read - a % span read)
unfolding field_read field_length
some_left ReadMemory a h = (127 - a % 128, (h, omega arith), omega arith)
some_left ReadStatus a h = (7 - a % 8, (h, omega arith), omega arith)
some_left ReadPages a h = (31 - a % 32, (h, omega arith), omega arith)

-- ---- bytes of a field

module _ (body : List ℕ) (sized : length body ≡ body_length) where
  pub field-length : (field : Field) → length (field_of field body) ≡ field_length field
  unfolding field_of field_length field_start
  field-length Data = length-take-le 128 (drop 16 body) (simp length-drop (omega arith))
  field-length Status = length-take-le 8 (drop 8 body) (simp length-drop (omega arith))

  -- one more byte of a field
  field_next : (field : Field) (a : ℕ) → a < field_length field
      → drop a (field_of field body) ≡ stored_byte field a body ∷ drop (a + 1) (field_of field body)
  unfolding stored_byte field_of
  field_next field a h =
      let k : a < length (field_of field body) = rw (field-length field) h in
      let start = field_start field in
      let byte = get_or-take (field_length field) (drop start body) a 0 h ∙ get_or-drop start body a 0 in
      rw add-one (drop-cons (field_of field body) a 0 k ∙ ap (λ (b : ℕ). b ∷ drop (suc a) (field_of field body)) byte)

  module _ (read : EpromRead) where
    abbrev from : ℕ → List ℕ
    from a = drop a (field_of (field_read read) body)

    crc-sent : (a crc : ℕ) → Sends body (send_crc read a crc) (crc ∷ []) (after_crc read a body)
    unfolding eprom_next
    crc-sent a crc = last (ReadCrc read a) (λ d. refl)

    -- a byte that is not the last of its span, and the last one
    byte-goes-on : (a r : ℕ) → a < field_length (field_read read) → ends_span read (a + 1) ≡ false
        → Sends body (send_byte read a r body) (stored_byte (field_read read) a body ∷ [])
        (send_byte read (a + 1) (crc_byte r (stored_byte (field_read read) a body)) body)
    unfolding send_byte eprom_next after_byte
    byte-goes-on a r h n = last (ReadByte read a _) (λ d. simp (lt-ltb _ _ h, n))

    byte-ends : (a r : ℕ) → a < field_length (field_read read) → ends_span read (a + 1) ≡ true
        → Sends body (send_byte read a r body) (stored_byte (field_read read) a body ∷ [])
        (send_crc read (a + 1) (crc_byte r (stored_byte (field_read read) a body)))
    unfolding send_byte eprom_next after_byte
    byte-ends a r h e = last (ReadByte read a _) (λ d. simp (lt-ltb _ _ h, e))

    -- the bytes of a span, from one of them on, and the CRC with them
    span-sent : (n a r : ℕ) → Left read a n
        → Sends body (send_byte read a r body) (take (suc n) (from a))
        (send_crc read (a + suc n) (crc_from r (take (suc n) (from a))))
    unfolding crc_from
    span-sent zero a r h = rw (field_next (field_read read) a h.0) (byte-ends a r h.0 (last-left read a h))
    span-sent (suc n) a r h =
        let m = more_left read a n h in
        let x = crc_byte r (stored_byte (field_read read) a body) in
        let e : a + 1 + suc n ≡ a + suc (suc n) = omega arith in
        rw (field_next (field_read read) a h.0)
        (sends-then (byte-goes-on a r h.0 m.0) (rw e at (span-sent n (a + 1) x m.1)))

    -- then their CRC
    span-crc-sent : (a : ℕ) → a < field_length (field_read read)
        → Sends body (send_byte read a 0 body) (with_crc (take (span read - a % span read) (from a)))
        (after_crc read (a + (span read - a % span read)) body)
    unfolding with_crc
    span-crc-sent a h =
        let l = some_left read a h in
        let xs = take (suc l.0) (from a) in
        rw (sym l.2) (sends-then (span-sent l.0 a 0 l.1) (crc-sent (a + suc l.0) (crc_of xs)))

  -- ---- the three reads

  to_end : (field : Field) (a n : ℕ) → field_length field ≤ a + n
      → take n (drop a (field_of field body)) ≡ drop a (field_of field body)
  to_end field a n h = take_all n (drop a (field_of field body)) (simp (length-drop, field-length field) (omega arith))

  -- a read whose span is the field: F0h and AAh
  field-sent : (read : EpromRead) → span read ≡ field_length (field_read read)
      → (a : ℕ) → a < field_length (field_read read)
      → Sends body (send_byte read a 0 body) (with_crc (drop a (field_of (field_read read) body))) waiting
  field-sent read e a h =
      let low : a % span read ≡ a = mod-eq_of_lt (rw e h) in
      let end : a + (span read - a) ≡ field_length (field_read read) = omega arith in
      rw (
        low,
        to_end (field_read read) a (span read - a) (omega arith),
        end,
        last-crc read body,
      ) at (span-crc-sent read a h)

  -- k more pages after the one that has `a`
  pages-sent : (k a : ℕ) → a / 32 + k ≡ 3
      → Sends body (send_byte ReadPages a 0 body) (page_by_page (suc k) (32 - a % 32) (drop a (field_of Data body))) waiting
  unfolding field_length field_read after_crc page_by_page
  pages-sent zero a h =
      let e : a + (32 - a % 32) ≡ 128 = omega arith in
      sends-then (rw e at (span-crc-sent ReadPages a (omega arith))) none
  pages-sent (suc k) a h =
      let b = a + (32 - a % 32) in
      let l : b < 128 = omega arith in
      let z : 32 - b % 32 ≡ 32 = omega arith in
      let rest = rw z at (pages-sent k b (omega arith)) in
      rw (drop-drop (32 - a % 32) a (field_of Data body))
      (sends-then (rw (lt-ltb b 128 l) at (span-crc-sent ReadPages a (omega arith))) rest)

  bytes-sent : (read : EpromRead) (a : ℕ) → a < field_length (field_read read)
      → Sends body (send_byte read a 0 body) (read_bytes read a (drop a (field_of (field_read read) body))) waiting
  unfolding field_length field_read read_bytes
  bytes-sent ReadMemory a h = field-sent ReadMemory refl a h
  bytes-sent ReadStatus a h = field-sent ReadStatus refl a h
  bytes-sent ReadPages a h =
      let e : suc (3 - a / 32) ≡ 4 - a / 32 = omega arith in
      rw e at (pages-sent (3 - a / 32) a (omega arith))

  -- from the second address byte on
  read-sends : (read : EpromRead) (address : ℕ)
      → Sends body (read_latch read address) (bytes_of_read read (cut_address (field_read read) address) body) waiting
  unfolding read_latch bytes_of_read after_crc
  read-sends read address =
      let a = cut_address (field_read read) address in
      let h = cut_below (field_read read) address in
      let first = crc-sent read a (command_crc (read_command read) a) in
      sends-then (rw (lt-ltb a (field_length (field_read read)) h) at first) (bytes-sent read a h)

  -- F0h, AAh, C3h, from the end of the command on, whatever is on the line while the device sends: ones while the two
  -- address bytes come in; then what a read sends from the cut address on. Then the device waits, and its body is as it
  -- was. `ones-law` says what it sends from there on
  pub read-law : (read : EpromRead) (low high : ℕ) → low < 256 → high < 256 → (lines : List ℕ)
      → length lines ≡ length (bytes_of_read read (cut_address (field_read read) (address_of low high)) body)
      → SendsOver (eprom_device (eprom_command (read_command read)) body) (byte low ∷ byte high ∷ line_bytes lines)
      (0xFF ∷ 0xFF ∷ bytes_of_read read (cut_address (field_read read) (address_of low high)) body) (eprom_device waiting body)
  unfolding eprom_next
  read-law read low high h k lines e =
      rw (read-command read)
      (heard-then {e = ReadLow read} h
      (heard-then {e = ReadHigh read low} k (sent-over (read-sends read (address_of low high)) lines e)))
