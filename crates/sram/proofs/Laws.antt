-- Laws of the memory stage with a scratchpad: a copy byte by byte, and how many bytes it writes at most. Assumes nothing.
use Prim.Native.Nat.{ℕ, suc, ◌+◌, ◌-◌, ◌<◌, ◌≤◌}
use mathlib.Core.Path.{◌≡◌, refl, sym, ap, ◌∙◌}
use mathlib.Core.Bool.{Bool, true, false, cond, ◌||◌}
use mathlib.Core.List.{List, [], ◌∷◌, ◌++◌}
use native.Mathlib.Omega.{arith}
use native.Mathlib.Numerals.{add-one}
use native.Mathlib.Nat.{add-zero, add-suc, suc-add}
use lib.ListN.{length, get_or, set, take, drop, length-drop}
use lib.Seq.{sets, length-sets, get_or-set_other, set_out, take-suc, take_all, get_or-drop, length-take-le}
use lib.Dec.{ltb, leb}
use borrow.Author.Tests.{ltb-true, ltb-false}
use Rattle.line.specs.declared.SramStage.{SramStage}
use Rattle.line.specs.declared.SramStage.TheVariants.{CopyPattern}
use Rattle.std.specs.Prelude.{None}
use Rattle.sram.specs.Sram.{ending_offset, target_address, target_offset, pattern_same, copy_length, copy_made}
use Rattle.sram.specs.Sram.{bytes_copied, pattern_copy, sram_copy}

-- bytes stored from a place on leave what stands before it
get_d_sets : (vs l : List ℕ) (i j : ℕ) → j < i → get_or (sets l i vs) j 0 ≡ get_or l j 0
get_d_sets [] l i j h = refl
get_d_sets (v ∷ vs) l i j h =
    get_d_sets vs (set l i v) (suc i) j (omega arith) ∙ get_or-set_other l i j v 0 (λ e. omega arith)

-- one byte more
sets-one-more : (vs l : List ℕ) (i v : ℕ) → sets l i (vs ++ (v ∷ [])) ≡ set (sets l i vs) (i + length vs) v
sets-one-more [] l i v = rw add-zero
sets-one-more (w ∷ vs) l i v =
    sets-one-more vs (set l i w) (suc i) v
    ∙ ap (λ (j : ℕ). set (sets (set l i w) (suc i) vs) j v) (suc-add i (length vs) ∙ sym (add-suc i (length vs)))

-- a byte from an earlier place, after k of them
pub copy-one-more : (l : List ℕ) (from to k : ℕ) → from + k < to
    → set (sets l to (take k (drop from l))) (to + k) (get_or (sets l to (take k (drop from l))) (from + k) 0)
    ≡ sets l to (take (k + 1) (drop from l))
copy-one-more l from to k h = choose (ltb (from + k) (length l)) refl
  where
    s : List ℕ
    s = drop from l

    byte : get_or (sets l to (take k s)) (from + k) 0 ≡ get_or s k 0
    byte = get_d_sets (take k s) l to (from + k) h ∙ sym (get_or-drop from l k 0)

    choose : (t : Bool) → ltb (from + k) (length l) ≡ t
        → set (sets l to (take k s)) (to + k) (get_or (sets l to (take k s)) (from + k) 0) ≡ sets l to (take (k + 1) s)
    choose true e =
        let inside : k < length s = simp length-drop (omega (arith, ltb-true (from + k) (length l) e)) in
        let taken : length (take k s) ≡ k = length-take-le k s (omega arith) in
        ap (λ (v : ℕ). set (sets l to (take k s)) (to + k) v) byte
        ∙ ap (λ (n : ℕ). set (sets l to (take k s)) (to + n) (get_or s k 0)) (sym taken)
        ∙ sym (sets-one-more (take k s) l to (get_or s k 0))
        ∙ ap (λ (vs : List ℕ). sets l to vs) (sym (take-suc s k 0 inside) ∙ ap (λ (n : ℕ). take n s) (sym (add-one k)))
    choose false e =
        let past : length l ≤ from + k = ltb-false (from + k) (length l) e in
        let all : length s ≤ k = simp length-drop (omega arith) in
        set_out (sets l to (take k s)) (to + k) (get_or (sets l to (take k s)) (from + k) 0)
        (simp length-sets (omega arith))
        ∙ ap (λ (vs : List ℕ). sets l to vs) (take_all k s all ∙ sym (take_all (k + 1) s (omega arith)))

-- what is copied is in the scratchpad
pub copy-in-scratchpad : (size : ℕ) (body : List ℕ) → target_offset body + copy_length size body ≤ 32
unfolding copy_length
copy-in-scratchpad size body = choose (ltb (ending_offset body) (target_offset body)) (leb size (target_address body))
  where
    choose : (t u : Bool) → target_offset body + cond (t || u) 0 (ending_offset body + 1 - target_offset body) ≤ 32
    choose true u = omega arith
    choose false true = omega arith
    choose false false = omega arith

-- no end of a transfer copies more than the scratchpad has
pub copied-most : (s : SramStage) (size value : ℕ) (body : List ℕ) → bytes_copied (sram_copy s size value body) ≤ 32
unfolding sram_copy bytes_copied pattern_copy
copied-most (CopyPattern at same) size value body = choose (ltb at 2) (pattern_same at same value body)
  where
    choose : (t u : Bool) → bytes_copied (cond t None (cond u (copy_made size body) None)) ≤ 32
    choose true u = omega arith
    choose false true = omega (arith, copy-in-scratchpad size body)
    choose false false = omega arith
copied-most _ size value body = omega arith
