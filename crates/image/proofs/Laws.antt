-- Laws that the proofs of this crate cite. Assumes nothing.
use Prim.Native.Nat.{ℕ, zero, suc, ◌+◌, ◌*◌, ◌<◌, ◌≤◌}
use mathlib.Core.Path.{◌≡◌, refl, sym, ap, ◌∙◌}
use mathlib.Core.Bool.{Bool, true, false, cond, ◌||◌}
use mathlib.Core.List.{List}
use mathlib.Core.Logic.{⊎_elim}
use native.Mathlib.Omega.{arith}
use native.Mathlib.Nat.{not-suc-le-zero, eq-or-lt_of_le}
use native.Mathlib.Numerals.{add-one}
use lib.ListN.{length, get_or, take, drop, length-take, length-drop}
use lib.Seq.{get_or-take, get_or-drop}
use lib.Dec.{eqb}
use borrow.Author.Tests.{ne_eqb}
use Rattle.bits.specs.Crc.{registration_check}
use Rattle.kind.specs.declared.Kind.TheVariants.{Sram, Eprom, Unknown}
use Rattle.kind.specs.Kind.{kind_of, body_size, code_length}
use Rattle.image.specs.Image.{count_of, family_at, flat_at, kind_at, packed_at}
use Rattle.image.specs.Refusal.{some_below}

-- ---- a test at some number below n

or-true : (a : Bool) → (a || true) ≡ true
or-true true = refl
or-true false = refl

-- one place decides it
pub some_at : (p : ℕ → Bool) (n i : ℕ) → i < n → p i ≡ true → some_below n p ≡ true
unfolding some_below
some_at p zero i h e = absurd (not-suc-le-zero h)
some_at p (suc n) i h e =
    ⊎_elim
    (λ (same : i ≡ n). ap (λ (k : ℕ). some_below n p || p k) (sym same) ∙ ap (λ (b : Bool). some_below n p || b) e ∙ or-true (some_below n p))
    (λ (less : i < n). ap (λ (b : Bool). b || p n) (some_at p n i less e))
    (eq-or-lt_of_le (omega arith))

-- none so far, and not here either
pub some_more : (p : ℕ → Bool) (i : ℕ) → some_below i p ≡ false → p i ≡ false → some_below (i + 1) p ≡ false
unfolding some_below
some_more p i h e = rw (add-one, h) e

-- ---- the packed layout

-- no body is longer than a DS1996's
kind-bound : (a b c d flat : Bool)
    → body_size (cond a (Sram 128 flat) (cond b (Sram 512 flat) (cond c (Sram 8192 flat) (cond d Eprom Unknown)))) ≤ 8235
unfolding body_size
kind-bound true b c d flat = omega arith
kind-bound false true c d flat = omega arith
kind-bound false false true d flat = omega arith
kind-bound false false false true flat = omega arith
kind-bound false false false false flat = omega arith

pub size-bound : (family : ℕ) (flat : Bool) → body_size (kind_of family flat) ≤ 8235
unfolding kind_of
size-bound family flat = kind-bound (eqb family 0x08) (eqb family 0x06) (eqb family 0x0C) (eqb family 0x09) flat

pub packed-bound : (image : List ℕ) (i : ℕ) → packed_at image i ≤ 2 + 4 * count_of image + 8235 * i
unfolding packed_at
packed-bound image zero = omega arith
packed-bound image (suc i) = omega (arith, packed-bound image i, size-bound (family_at image i) (flat_at image i))

pub packed-next : (image : List ℕ) (i : ℕ) → packed_at image (i + 1) ≡ packed_at image i + body_size (kind_at image i)
unfolding packed_at
packed-next image i = rw add-one

-- ---- codes

-- where the image ends too early there is no code
pub short_code : (image : List ℕ) (start : ℕ) → length image < start + code_length → registration_check (take code_length (drop start image)) ≡ false
unfolding registration_check
short_code image start h =
    let len : length (take code_length (drop start image)) < 8 = simp (length-take, length-drop) (omega arith) in
    rw (ne_eqb (length (take code_length (drop start image))) 8 (λ (e : length (take code_length (drop start image)) ≡ 8). omega arith))

-- a byte of a code is a byte of the image
pub code_byte : (image : List ℕ) (start k : ℕ) → k < code_length → get_or (take code_length (drop start image)) k 0 ≡ get_or image (start + k) 0
code_byte image start k h = rw (get_or-take, get_or-drop)
