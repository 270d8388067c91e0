-- A chain over the numbers below n, as `(0..n).any(..)`, tells whether a test passes at some of them. Assumes nothing.
use Prim.Native.Nat.{ℕ, zero, suc, ◌<◌, ◌≤◌}
use mathlib.Core.Path.{◌≡◌, refl, sym, ap, ap₂, ◌∙◌}
use mathlib.Core.Bool.{Bool, true, false, not, ◌||◌, ◌&&◌}
use mathlib.Core.List.{List}
use native.Mathlib.Omega.{arith}
use native.Mathlib.Numerals.{add-one}
use lib.ListN.{take}
use lib.Seq.{take-length}
use denote.Param.Members.{Mut}
use Rattle.std.specs.declared.option.Option.{Option}
use Rattle.std.specs.declared.ops.Range.{Range}
use Rattle.std.specs.Iterator.{YieldsThen}
use Rattle.std.specs.List.{FoldsTo, list_any, list_all, range_with_len}
use Rattle.std.specs.Fn.{Called}
use Rattle.std.specs.Option.{MatchOption}
use Rattle.std.proofs.iter.Yields.{nat_range_steps}
use Rattle.std.proofs.lemmas.Iterator.{YieldsList-from_range}
use Rattle.std.proofs.lemmas.Iterator.Search.{all_from_yields_List, any_from_yields_List}
use Rattle.std.proofs.lemmas.List.Folds.{list_any_more, list_all_more}
use Rattle.std.proofs.lemmas.List.FromFn.{length-range_with_len, get_or-range_with_len}
use Rattle.image.specs.Refusal.{some_below}

-- the first i numbers of those below n
first-below : (p : ℕ → Bool) (n i : ℕ) → i ≤ n → list_any p (take i (range_with_len 0 n)) ≡ some_below i p
unfolding some_below
first-below p n zero h = refl
first-below p n (suc i) h =
    let xs = range_with_len 0 n in
    let len = length-range_with_len 0 n in
    ap (λ k. list_any p (take k xs)) (sym (add-one i))
    ∙ list_any_more p xs i 0 (omega (arith, len))
    ∙ ap₂ (λ a k. a || p k) (first-below p n i (omega arith)) (get_or-range_with_len 0 n i 0 (omega arith) ∙ omega arith)

below : (p : ℕ → Bool) (n : ℕ) → list_any p (range_with_len 0 n) ≡ some_below n p
below p n =
    let xs = range_with_len 0 n in
    ap (λ ys. list_any p ys) (sym (take-length xs) ∙ ap (λ k. take k xs) (length-range_with_len 0 n))
    ∙ first-below p n n (omega arith)

-- `any` over a range from 0, where the closure's answers are those of a test
pub any_below : {F : Type 0} {g : Mut F (ℕ × Unit {0}) Bool} (p : ℕ → Bool) (n : ℕ) (u : Range ℕ) (f : F) (r : Bool)
    → (xs : List ℕ) × (o : Option ℕ) × (j : F) × YieldsThen nat_range_steps (record { start = 0; end = n }) xs o u × FoldsTo (λ q x h. Called g q (x, tt) false h) f xs j × MatchOption o (r ≡ false) (λ x. (r ≡ true) × ((h : F) × Called g j (x, tt) true h))
    → ((x : ℕ) (b : Bool) (q : F) → Called g f (x, tt) b q → (q ≡ f) × (b ≡ p x))
    → r ≡ some_below n p
any_below p n u f r ran told = any_from_yields_List p u f r ran (YieldsList-from_range 0 n n refl (omega arith)) told ∙ below p n

and-not : (a b : Bool) → (not a && b) ≡ not (a || not b)
and-not true b = refl
and-not false true = refl
and-not false false = refl

-- the first i numbers of those below n, where all pass
first-all : (p : ℕ → Bool) (n i : ℕ) → i ≤ n → list_all p (take i (range_with_len 0 n)) ≡ not (some_below i (λ k. not (p k)))
unfolding some_below
first-all p n zero h = refl
first-all p n (suc i) h =
    let xs = range_with_len 0 n in
    let len = length-range_with_len 0 n in
    ap (λ k. list_all p (take k xs)) (sym (add-one i))
    ∙ list_all_more p xs i 0 (omega (arith, len))
    ∙ ap₂ (λ a k. a && p k) (first-all p n i (omega arith)) (get_or-range_with_len 0 n i 0 (omega arith) ∙ omega arith)
    ∙ and-not (some_below i (λ k. not (p k))) (p i)

-- `all` over a range from 0, where the closure's answers are those of a test
pub all_below : {F : Type 0} {g : Mut F (ℕ × Unit {0}) Bool} (p : ℕ → Bool) (n : ℕ) (u : Range ℕ) (f : F) (r : Bool)
    → (xs : List ℕ) × (o : Option ℕ) × (j : F) × YieldsThen nat_range_steps (record { start = 0; end = n }) xs o u × FoldsTo (λ q x h. Called g q (x, tt) true h) f xs j × MatchOption o (r ≡ true) (λ x. (r ≡ false) × ((h : F) × Called g j (x, tt) false h))
    → ((x : ℕ) (b : Bool) (q : F) → Called g f (x, tt) b q → (q ≡ f) × (b ≡ p x))
    → r ≡ not (some_below n (λ k. not (p k)))
all_below p n u f r ran told =
    let xs = range_with_len 0 n in
    all_from_yields_List p u f r ran (YieldsList-from_range 0 n n refl (omega arith)) told
    ∙ ap (λ ys. list_all p ys) (sym (take-length xs) ∙ ap (λ k. take k xs) (length-range_with_len 0 n))
    ∙ first-all p n n (omega arith)

-- tests that agree below n pass at the same numbers there
pub same_below : (p q : ℕ → Bool) (n : ℕ) → ((k : ℕ) → k < n → p k ≡ q k) → some_below n p ≡ some_below n q
unfolding some_below
same_below p q zero h = refl
same_below p q (suc n) h = ap₂ (λ a b. a || b) (same_below p q n (λ k l. h k (omega arith))) (h n (omega arith))
