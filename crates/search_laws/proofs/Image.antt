-- The devices of an accepted image, as a search finds them: all waiting, each body of its kind's size, and the codes as bits. Assumes nothing.
use Prim.Native.Nat.{ℕ, zero, suc, ◌+◌, ◌<◌, ◌≤◌}
use mathlib.Core.Path.{◌≡◌, refl, sym, ap, ◌∙◌, subst}
use mathlib.Core.List.Memᴰ
use mathlib.Core.List.{List, map, Memᴰ}
use mathlib.Core.Logic.{⊎_elim}
use native.Mathlib.Nat.{eq-or-lt_of_le}
use native.Mathlib.Omega.{arith}
use lib.ListN.{length, take, drop, replicate}
use lib.Seq.{get_or-drop}
use Rattle.bits.specs.Crc.{registration_check}
use Rattle.kind.specs.Kind.{body_size}
use Rattle.image.specs.Image.{count_of, kind_at, offset_at, body_at, code_at}
use Rattle.image.proofs.Accepted.{Known, body-length, body-code, code-length}
use Rattle.device.specs.Device.{waiting_state}
use Rattle.bus.specs.Bus.{Device}
use Rattle.bus.specs.Run.{devices_from, waiting_devices}
use Rattle.search_laws.specs.Words.{Bytes}
use Rattle.search_laws.proofs.Codes.{Code, Wide, Distinct}
use Rattle.search_laws.proofs.Bits.{bits_from, bits-size, take-bytes, bytes_of, bytes-code}
use Rattle.search_laws.proofs.Devices.{Sized, active, stands}
use Rattle.search_laws.proofs.Whole.{codes_of, Taken}

-- the devices from entry i on, all waiting
abbrev waiting_from : List ℕ → ℕ → ℕ → List Device
waiting_from image i n = devices_from image i (replicate n waiting_state)

-- the code of entry i as bits
abbrev pub bits_at : List ℕ → ℕ → Code
bits_at image i = bits_from (body_at image i) 0 64

-- ---- for any image

from-standing : (image : List ℕ) (i n : ℕ) → stands waiting_state (map active (waiting_from image i n)) ≡ waiting_from image i n
unfolding devices_from
from-standing image i zero = refl
from-standing image i (suc n) = let h = from-standing image (suc i) n in cc

-- a code is that of an entry, and back
from-entry : (image : List ℕ) (i n : ℕ) (c : Code) → Memᴰ c (codes_of (waiting_from image i n)) → (j : ℕ) × (i ≤ j) × (j < i + n) × (c ≡ bits_at image j)
unfolding devices_from
from-entry image i zero c h = absurd (Memᴰ.not-nil h)
from-entry image i (suc n) c (Memᴰ.head e) = (i, omega arith, omega arith, e)
from-entry image i (suc n) c (Memᴰ.tail h) = let r = from-entry image (suc i) n c h in (r.0, omega (arith, r.1), omega (arith, r.2), r.3)

entry-from : (image : List ℕ) (i n j : ℕ) → i ≤ j → j < i + n → Memᴰ (bits_at image j) (codes_of (waiting_from image i n))
unfolding devices_from
entry-from image i zero j p q = absurd (omega arith)
entry-from image i (suc n) j p q =
    ⊎_elim (λ (same : i ≡ j). Memᴰ.head (ap (bits_at image) (sym same)))
    (λ (less : i < j). Memᴰ.tail (entry-from image (suc i) n j less (omega arith))) (eq-or-lt_of_le p)

from-wide : (image : List ℕ) (i n : ℕ) → Wide 64 (codes_of (waiting_from image i n))
from-wide image i n c h = let r = from-entry image i n c h in ap length r.3 ∙ bits-size (body_at image r.0) 0 64

-- ---- for an accepted one

part_bytes : (image : List ℕ) (m n : ℕ) → Bytes image → Bytes (take m (drop n image))
part_bytes image m n b = take-bytes m (drop n image) (λ k. subst (λ (x : ℕ). x < 256) (sym (get_or-drop n image k 0)) (b (n + k)))

module _ (image : List ℕ) (known : Known image) (bytes : Bytes image) where
  -- the bits of a code, put into bytes, are the code
  pub entry-code : (i : ℕ) → i < count_of image → bytes_of (bits_at image i) ≡ code_at image i
  entry-code i h =
      let c = body-code image known i h in
      bytes-code (body_at image i) (part_bytes image (body_size (kind_at image i)) (offset_at image i) bytes) (ap length c ∙ code-length image known i h) ∙ c

  from-sized : (i n : ℕ) → i + n ≤ count_of image → Sized (waiting_from image i n)
  unfolding devices_from
  from-sized i zero h = tt
  from-sized i (suc n) h = (body-length image known i (omega arith), from-sized (suc i) n (omega arith))

  from-distinct : (i n : ℕ) → i + n ≤ count_of image → Distinct (codes_of (waiting_from image i n))
  unfolding devices_from
  from-distinct i zero h = tt
  from-distinct i (suc n) h = (
    λ m.
        let r = from-entry image (suc i) n (bits_at image i) m in
        let low = r.1 in
        let high = r.2 in
        known.distinct i r.0 (omega arith) (omega arith)
        (sym (entry-code i (omega arith)) ∙ ap bytes_of r.3 ∙ entry-code r.0 (omega arith)),
    from-distinct (suc i) n (omega arith),
  )

  pub all-waiting : stands waiting_state (map active (waiting_devices image)) ≡ waiting_devices image
  unfolding waiting_devices
  all-waiting = from-standing image 0 (count_of image)

  pub all-sized : Sized (waiting_devices image)
  unfolding waiting_devices
  all-sized = from-sized 0 (count_of image) (omega arith)

  pub all-wide : Wide 64 (codes_of (waiting_devices image))
  unfolding waiting_devices
  all-wide = from-wide image 0 (count_of image)

  pub all-distinct : Distinct (codes_of (waiting_devices image))
  unfolding waiting_devices
  all-distinct = from-distinct 0 (count_of image) (omega arith)

  -- each code is an entry's, and each entry's code is there
  pub code-entry : (c : Code) → Memᴰ c (codes_of (waiting_devices image)) → (i : ℕ) × (i < count_of image) × (c ≡ bits_at image i)
  unfolding waiting_devices
  code-entry c h = let r = from-entry image 0 (count_of image) c h in (r.0, omega (arith, r.2), r.3)

  pub entry_found : (i : ℕ) → i < count_of image → Memᴰ (bits_at image i) (codes_of (waiting_devices image))
  unfolding waiting_devices
  entry_found i h = entry-from image 0 (count_of image) i (omega arith) (omega arith)

  -- 64 bits that the registration check takes
  pub all-in-range : Taken (codes_of (waiting_devices image))
  all-in-range c h =
      let r = code-entry c h in
      (all-wide c h, ap registration_check (ap bytes_of r.2 ∙ entry-code r.0 r.1) ∙ known.code r.0 r.1)
