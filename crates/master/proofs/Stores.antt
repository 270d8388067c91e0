-- Laws of bytes stored one after another. Assumes nothing.
use Prim.Native.Nat.{ℕ, suc, ◌+◌, ◌≤◌, ◌<◌}
use mathlib.Core.Path.{◌≡◌, ◌∙◌}
use mathlib.Core.List.{List, [], ◌∷◌, ◌++◌}
use native.Mathlib.Nat.{add-zero, add-suc, suc-add, zero-add}
use native.Mathlib.Numerals.{add-one}
use lib.ListN.{length, get_or, drop, set, drop_of_length-le}
use lib.Seq.{sets, sets-eq, drop-cons}

-- one byte of those that are left is stored
pub store-next : (buffer bytes : List ℕ) (at i : ℕ) → i < length bytes
    → sets (set buffer (at + i) (get_or bytes i 0)) (at + (i + 1)) (drop (i + 1) bytes) ≡ sets buffer (at + i) (drop i bytes)
store-next buffer bytes at i h = rw (drop-cons bytes i 0, add-one, add-suc)

-- none is left
pub store-none : (buffer bytes : List ℕ) (at i : ℕ) → length bytes ≤ i → sets buffer at (drop i bytes) ≡ buffer
store-none buffer bytes at i h = rw (drop_of_length-le bytes h)

-- bytes after bytes
pub store-append : (buffer xs ys : List ℕ) (at : ℕ) → sets buffer at (xs ++ ys) ≡ sets (sets buffer at xs) (at + length xs) ys
store-append buffer [] ys at = rw add-zero
store-append buffer (x ∷ xs) ys at = store-append (set buffer at x) xs ys (suc at) ∙ rw (add-suc, suc-add)

-- from the start, with room for all
pub store-front : (bytes buffer : List ℕ) → length bytes ≤ length buffer → sets buffer 0 bytes ≡ bytes ++ drop (length bytes) buffer
store-front bytes buffer h = sets-eq bytes buffer 0 (rw zero-add h) ∙ rw zero-add
