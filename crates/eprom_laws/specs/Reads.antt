-- Document 01, 'DS1982 memory stage', is stated here for the bytes that a read sends.
use Rattle.std.specs.Prelude.{ℕ, zero, suc, ◌-◌, ◌/◌, ◌%◌, List, [], ◌∷◌, ◌++◌, take, drop}
use Rattle.bits.specs.Crc.{crc_of}
use Rattle.line.specs.declared.Field.{Field}
use Rattle.line.specs.declared.EpromRead.{EpromRead}
use Rattle.line.specs.declared.EpromRead.TheVariants.{Memory as ReadMemory, Status as ReadStatus, Pages as ReadPages}
use Rattle.kind.specs.Kind.{page_length}
use Rattle.eprom.specs.Fields.{field_start, field_length, field_read, read_command, command_crc}

-- This is a field of the body.
unfoldable pub field_of : Field → List ℕ → List ℕ
field_of field body = take (field_length field) (drop (field_start field) body)

-- The CRC of the bytes follows them.
unfoldable pub with_crc : List ℕ → List ℕ
with_crc bytes = bytes ++ crc_of bytes ∷ []

-- Bytes to the page's end and their CRC are sent page by page: of the first page `left` bytes are left, and each later
-- one is sent whole.
unfoldable pub page_by_page : ℕ → ℕ → List ℕ → List ℕ
page_by_page zero left bytes = []
page_by_page (suc pages) left bytes = with_crc (take left bytes) ++ page_by_page pages page_length (drop left bytes)

-- The reads F0h and AAh send the bytes to the field's end, then their CRC; C3h goes page by page through page 3.
unfoldable pub read_bytes : EpromRead → ℕ → List ℕ → List ℕ
read_bytes ReadMemory start bytes = with_crc bytes
read_bytes ReadStatus start bytes = with_crc bytes
read_bytes ReadPages start bytes = page_by_page (4 - start / page_length) (page_length - start % page_length) bytes

-- A read sends the CRC of command and address first, then the bytes from the start address on, which is the cut one.
unfoldable pub bytes_of_read : EpromRead → ℕ → List ℕ → List ℕ
bytes_of_read read start body =
    command_crc (read_command read) start ∷ read_bytes read start (drop start (field_of (field_read read) body))
