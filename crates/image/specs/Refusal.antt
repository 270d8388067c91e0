-- Document 01, 'Refusals in order', and document 02, items 7 and 9, are stated here: the causes 1 to 4, each over the
-- whole image.
use Rattle.std.specs.Prelude.{ℕ, zero, suc, ◌+◌, ◌*◌, Bool, false, not, cond, ◌&&◌, ◌||◌, List, [], ◌∷◌, length, get_or}
use Rattle.std.specs.Prelude.{eqb, ltb}
use Rattle.bits.specs.Crc.{registration_check}
use Rattle.std.specs.Prelude.{Result, Ok, Err}
use Rattle.kind.specs.declared.Kind.{Kind}
use Rattle.kind.specs.Kind.{is_eprom, is_unknown}
use Rattle.image.specs.declared.Refusal.{Refusal}
use Rattle.image.specs.declared.Refusal.TheVariants.{MalformedImage, MisplacedBody, WrongCode, EqualCodes, BadTrace}
use Rattle.image.specs.declared.Refusal.TheVariants.{NoFirstReset, BadPulse, NoRoom}
use Rattle.image.specs.Image.{count_of, edition_of, family_at, second_at, offset_at, kind_at, packed_at, code_at}

-- Each refusal has its number, as document 01 has it, and 11 as document 02, item 6.
unfoldable pub refusal_number : Refusal → ℕ
refusal_number MalformedImage = 1
refusal_number MisplacedBody = 2
refusal_number WrongCode = 3
refusal_number EqualCodes = 4
refusal_number BadTrace = 5
refusal_number NoFirstReset = 11
refusal_number BadPulse = 6
refusal_number NoRoom = 7

-- What is not refused has the number 0, and what is refused the number of its refusal.
unfoldable pub told_number : {A : Type 0} → Result A Refusal → ℕ
told_number (Ok answer) = 0
told_number (Err refusal) = refusal_number refusal

-- A test passes at some number below n.
unfoldable pub some_below : ℕ → (ℕ → Bool) → Bool
some_below zero p = false
some_below (suc n) p = some_below n p || p n

-- The first n bytes of two lists are equal.
unfoldable pub equal_bytes : ℕ → List ℕ → List ℕ → Bool
equal_bytes n xs ys = not (some_below n (λ k. not (eqb (get_or xs k 0) (get_or ys k 0))))

-- A cause has a refusal's number, and tells whether it applies.
pub record Cause : Type 0 where
  pub number : ℕ
  pub applies : Bool

abbrev pub cause : ℕ → Bool → Cause
cause n b = record { number = n; applies = b }

-- The first cause of a list that applies gives the number of the refusal; it is 0 where none does.
unfoldable pub first_cause : List Cause → ℕ
first_cause [] = 0
first_cause (c ∷ cs) = cond c.applies c.number (first_cause cs)

-- Cause 1 is an image shorter than 2 + 4n, n over 64, an edition that is not 1 or 2, a second byte of an entry that its
-- edition does not have, or an unknown family.
unfoldable pub edition_known : ℕ → Bool
edition_known edition = eqb edition 1 || eqb edition 2

-- The second byte of an entry is refused in edition 1 where it is not 0, and in edition 2 where it is over 1, or is 1
-- on a DS1982.
unfoldable pub battery_malformed : ℕ → ℕ → Kind → Bool
battery_malformed edition second kind =
    cond (eqb edition 1) (not (eqb second 0)) (ltb 1 second || eqb second 1 && is_eprom kind)

unfoldable pub entry_malformed : List ℕ → ℕ → Bool
entry_malformed image i =
    battery_malformed (edition_of image) (second_at image i) (kind_at image i) || is_unknown (kind_at image i)

unfoldable pub image_malformed : List ℕ → Bool
image_malformed image =
    ltb (length image) (2 + 4 * count_of image)
    || ltb 64 (count_of image)
    || not (edition_known (edition_of image))
    || some_below (count_of image) (λ i. entry_malformed image i)

-- Cause 2 is an image of over 65,535 bytes (document 02, item 9).
unfoldable pub image_too_long : List ℕ → Bool
image_too_long image = ltb 65535 (length image)

-- Cause 2 is also an offset that differs from the packed layout, or an image length that does.
unfoldable pub body_misplaced : List ℕ → Bool
body_misplaced image =
    some_below (count_of image) (λ i. not (eqb (offset_at image i) (packed_at image i)))
    || not (eqb (length image) (packed_at image (count_of image)))

-- Cause 3 is a code whose CRC is wrong, or whose family byte differs from its entry.
unfoldable pub code_refused : List ℕ → ℕ → Bool
code_refused image i =
    not (registration_check (code_at image i)) || not (eqb (get_or (code_at image i) 0 0) (family_at image i))

unfoldable pub some_code_refused : List ℕ → Bool
some_code_refused image = some_below (count_of image) (λ i. code_refused image i)

-- Cause 4 is two equal codes.
unfoldable pub code_repeated : List ℕ → ℕ → Bool
code_repeated image j = some_below j (λ i. equal_bytes 8 (code_at image i) (code_at image j))

unfoldable pub some_code_repeated : List ℕ → Bool
some_code_repeated image = some_below (count_of image) (λ j. code_repeated image j)

-- The first cause of this list that applies is the image's number.
unfoldable pub image_causes : List ℕ → List Cause
image_causes image =
    cause 1 (image_malformed image)
    ∷ cause 2 (image_too_long image)
    ∷ cause 2 (body_misplaced image)
    ∷ cause 3 (some_code_refused image)
    ∷ cause 4 (some_code_repeated image)
    ∷ []

unfoldable pub image_refusal : List ℕ → ℕ
image_refusal image = first_cause (image_causes image)
