-- Document 01, 'The image', and document 02, item 7, are stated here: the table of contents comes first, then the
-- bodies of the devices (document 01's buttons).
use Rattle.std.specs.Prelude.{ℕ, zero, suc, ◌+◌, ◌*◌, Bool, ◌&&◌, List, get_or, take, drop, eqb}
use Rattle.kind.specs.declared.Kind.{Kind}
use Rattle.kind.specs.Kind.{kind_of, body_size, code_length}
use Rattle.image.specs.declared.Entry.{Entry}

-- Byte 0 of an image is the count n, and byte 1 the edition.
abbrev pub count_of : List ℕ → ℕ
count_of image = get_or image 0 0

abbrev pub edition_of : List ℕ → ℕ
edition_of image = get_or image 1 0

-- After the edition come n entries of four bytes: the family code, a byte that is 0 in edition 1 and tells of the
-- battery in edition 2, and the body's offset, low byte first.
abbrev pub family_at : List ℕ → ℕ → ℕ
family_at image i = get_or image (2 + 4 * i) 0

abbrev pub second_at : List ℕ → ℕ → ℕ
second_at image i = get_or image (2 + 4 * i + 1) 0

abbrev pub offset_at : List ℕ → ℕ → ℕ
offset_at image i = get_or image (2 + 4 * i + 2) 0 + 256 * get_or image (2 + 4 * i + 3) 0

-- In edition 2 the second byte of an entry is 0 where the device's battery is good, and 1 where it is flat; in edition
-- 1 all are good (document 02, item 7).
abbrev pub flat_at : List ℕ → ℕ → Bool
flat_at image i = eqb (edition_of image) 2 && eqb (second_at image i) 1

abbrev pub kind_at : List ℕ → ℕ → Kind
kind_at image i = kind_of (family_at image i) (flat_at image i)

-- A decoded entry holds the device's kind, with the state of its battery, and where its body starts.
unfoldable pub entry_of : List ℕ → ℕ → Entry
entry_of image i = record { kind = kind_at image i; start = offset_at image i }

-- The bodies follow the entries in their order, packed. This is where body i is to start; for i = n it is the image's
-- end.
unfoldable pub packed_at : List ℕ → ℕ → ℕ
packed_at image zero = 2 + 4 * count_of image
packed_at image (suc i) = packed_at image i + body_size (kind_at image i)

-- A body starts at its entry's offset, and begins with the registration code.
abbrev pub body_at : List ℕ → ℕ → List ℕ
body_at image i = take (body_size (kind_at image i)) (drop (offset_at image i) image)

abbrev pub code_at : List ℕ → ℕ → List ℕ
code_at image i = take code_length (drop (offset_at image i) image)
