-- The devices that a slot only shifts or passes over, up to the first to which more happens: how many they are, and that
-- their turns are those of `turns_up_to`. Assumes nothing.
use Prim.Native.Nat.{ℕ, zero, suc, ◌+◌, ◌<◌, ◌≤◌}
use mathlib.Core.Path.{◌≡◌, refl, sym, ap, subst, ◌∙◌}
use mathlib.Core.Bool.{Bool, true, false, not, cond, and-false, true≢false}
use mathlib.Core.List.{List, [], ◌∷◌}
use native.Mathlib.Omega.{arith}
use lib.ListN.{length, set, length-set}
use lib.Dec.{eqb}
use borrow.Author.Tests.{ne_eqb, lt-ltb}
use Rattle.line.specs.Transfers.{shifted}
use Rattle.device.specs.declared.LineState.{LineState}
use Rattle.device.specs.Device.{line_state, waits}
use Rattle.bus.specs.Loops.{slot_byte, moves_in, ends_in, shifts_in, pass_state, passes_from, shifted_from, line_at, BusState, bus_state, turn_state}
use Rattle.bus.specs.Loops.{turn_at, turns_up_to, turn_copied, copied_up_to, added_to}
use Rattle.bus.proofs.Idle.{pass-state, pass-image, pass-copied, added_none}
use Rattle.bus.proofs.States.{steps}

-- ---- one of them

-- where it is shifted, and where it stays as it is
pub pass_on : (f t : Bool) (l : LineState) → shifts_in f l ≡ true → pass_state f t l ≡ line_state (shifted l.transfer t) l.overdrive
unfolding pass_state
pass_on f t l e = rw e

pub pass-still : (f t : Bool) (l : LineState) → shifts_in f l ≡ false → pass_state f t l ≡ l
unfolding pass_state
pass-still f t l e = rw e

-- one to which the slot does nothing it neither shifts nor does more to
still-so : (f v : Bool) (n : ℕ) (l : LineState) → l.overdrive ≡ v → l.transfer.left ≡ n → moves_in f l ≡ false
    → (ends_in f l ≡ false) × (shifts_in f l ≡ false)
unfolding moves_in waits ends_in shifts_in
still-so true true zero l o e s = (rw (o, e), rw (o, e))
still-so true true (suc n) l o e s =
    let moves : moves_in true l ≡ true = rw (o, e, ne_eqb (suc n) 0 (λ z. absurd (omega arith))) in
    absurd (true≢false (sym moves ∙ s))
still-so true false n l o e s = (rw o, rw o)
still-so false true n l o e s =
    let moves : moves_in false l ≡ true = rw (o, e) (ap not (and-false (eqb n 0))) in
    absurd (true≢false (sym moves ∙ s))
still-so false false zero l o e s = (rw (o, e), rw (o, e))
still-so false false (suc n) l o e s =
    let moves : moves_in false l ≡ true = rw (o, e, ne_eqb (suc n) 0 (λ z. absurd (omega arith))) in
    absurd (true≢false (sym moves ∙ s))

pub still-whole : (f : Bool) (l : LineState) → moves_in f l ≡ false → ends_in f l ≡ false
still-whole f l s = (still-so f l.overdrive l.transfer.left l refl refl s).0

pub still_kept : (f : Bool) (l : LineState) → moves_in f l ≡ false → shifts_in f l ≡ false
still_kept f l s = (still-so f l.overdrive l.transfer.left l refl refl s).1

-- one to which it does something, and no more than a shift, it shifts
shifts-so : (f v : Bool) (n : ℕ) (l : LineState) → l.overdrive ≡ v → l.transfer.left ≡ n → moves_in f l ≡ true → ends_in f l ≡ false
    → shifts_in f l ≡ true
unfolding moves_in waits ends_in shifts_in
shifts-so true true zero l o e s w =
    let still : moves_in true l ≡ false = rw (o, e) in
    absurd (true≢false (sym s ∙ still))
shifts-so true true (suc zero) l o e s w =
    let more : ends_in true l ≡ true = rw (o, e) in
    absurd (true≢false (sym more ∙ w))
shifts-so true true (suc (suc n)) l o e s w = rw (o, e, lt-ltb 1 (suc (suc n)) (omega arith))
shifts-so true false n l o e s w =
    let still : moves_in true l ≡ false = rw o in
    absurd (true≢false (sym s ∙ still))
shifts-so false true n l o e s w =
    let more : ends_in false l ≡ true = rw o in
    absurd (true≢false (sym more ∙ w))
shifts-so false false zero l o e s w =
    let still : moves_in false l ≡ false = rw (o, e) in
    absurd (true≢false (sym s ∙ still))
shifts-so false false (suc zero) l o e s w =
    let more : ends_in false l ≡ true = rw (o, e) in
    absurd (true≢false (sym more ∙ w))
shifts-so false false (suc (suc n)) l o e s w = rw (o, e, lt-ltb 1 (suc (suc n)) (omega arith))

pub moved-shifts : (f : Bool) (l : LineState) → moves_in f l ≡ true → ends_in f l ≡ false → shifts_in f l ≡ true
moved-shifts f l s w = shifts-so f l.overdrive l.transfer.left l refl refl s w

-- ---- how many they are

pub passes-few : (f : Bool) (m i : ℕ) (ys : List LineState) → passes_from f m i ys ≤ m
unfolding passes_from
passes-few f zero i ys = omega arith
passes-few f (suc m) i ys = choose (ends_in f (line_at ys i)) (passes-few f m (suc i) ys)
  where
    choose : (b : Bool) → passes_from f m (suc i) ys ≤ m → cond b 0 (suc (passes_from f m (suc i) ys)) ≤ suc m
    choose true few = omega arith
    choose false few = omega (arith, few)

-- where the first k are among them and more happens to the next, they are k
pub passes-end : (f : Bool) (m i k : ℕ) (ys : List LineState) → k ≤ passes_from f m i ys → k < m → ends_in f (line_at ys (i + k)) ≡ true
    → passes_from f m i ys ≡ k
unfolding passes_from
passes-end f zero i k ys h l e = absurd (omega arith)
passes-end f (suc m) i zero ys h l e =
    let here : ends_in f (line_at ys i) ≡ true = subst (λ (j : ℕ). ends_in f (line_at ys j) ≡ true) (omega arith) e in
    rw here
passes-end f (suc m) i (suc k) ys h l e =
    choose (ends_in f (line_at ys i)) h
    (λ g. passes-end f m (suc i) k ys g (omega arith) (subst (λ (j : ℕ). ends_in f (line_at ys j) ≡ true) (omega arith) e))
  where
    choose : (b : Bool) → suc k ≤ cond b 0 (suc (passes_from f m (suc i) ys)) → (k ≤ passes_from f m (suc i) ys → passes_from f m (suc i) ys ≡ k)
        → cond b 0 (suc (passes_from f m (suc i) ys)) ≡ suc k
    choose true g rest = absurd (omega arith)
    choose false g rest = ap suc (rest (omega arith))

-- where no more happens to the next, it is among them
pub passes_on : (f : Bool) (m i k : ℕ) (ys : List LineState) → k ≤ passes_from f m i ys → k < m → ends_in f (line_at ys (i + k)) ≡ false
    → suc k ≤ passes_from f m i ys
unfolding passes_from
passes_on f zero i k ys h l e = absurd (omega arith)
passes_on f (suc m) i zero ys h l e =
    let here : ends_in f (line_at ys i) ≡ false = subst (λ (j : ℕ). ends_in f (line_at ys j) ≡ false) (omega arith) e in
    rw here (omega arith)
passes_on f (suc m) i (suc k) ys h l e =
    choose (ends_in f (line_at ys i)) h
    (λ g. passes_on f m (suc i) k ys g (omega arith) (subst (λ (j : ℕ). ends_in f (line_at ys j) ≡ false) (omega arith) e))
  where
    choose : (b : Bool) → suc k ≤ cond b 0 (suc (passes_from f m (suc i) ys)) → (k ≤ passes_from f m (suc i) ys → suc k ≤ passes_from f m (suc i) ys)
        → suc (suc k) ≤ cond b 0 (suc (passes_from f m (suc i) ys))
    choose true g rest = absurd (omega arith)
    choose false g rest = omega (arith, rest (omega arith))

-- no more happens to any of them
pub passes_none : (f : Bool) (m i k : ℕ) (ys : List LineState) → k < passes_from f m i ys → ends_in f (line_at ys (i + k)) ≡ false
unfolding passes_from
passes_none f zero i k ys h = absurd (omega arith)
passes_none f (suc m) i k ys h = choose (ends_in f (line_at ys i)) refl k h (λ j g. passes_none f m (suc i) j ys g)
  where
    choose : (b : Bool) → ends_in f (line_at ys i) ≡ b → (j : ℕ) → j < cond b 0 (suc (passes_from f m (suc i) ys))
        → ((n : ℕ) → n < passes_from f m (suc i) ys → ends_in f (line_at ys (suc i + n)) ≡ false) → ends_in f (line_at ys (i + j)) ≡ false
    choose true e j g rest = absurd (omega arith)
    choose false e zero g rest = subst (λ (n : ℕ). ends_in f (line_at ys n) ≡ false) (omega arith) e
    choose false e (suc j) g rest = subst (λ (n : ℕ). ends_in f (line_at ys n) ≡ false) (omega arith) (rest j (omega arith))

-- and to the one behind them more does
pub passes-stop : (f : Bool) (m i : ℕ) (ys : List LineState) → passes_from f m i ys < m → ends_in f (line_at ys (i + passes_from f m i ys)) ≡ true
passes-stop f m i ys h = choose (ends_in f (line_at ys (i + passes_from f m i ys))) refl
  where
    choose : (b : Bool) → ends_in f (line_at ys (i + passes_from f m i ys)) ≡ b → b ≡ true
    choose true e = refl
    choose false e = absurd (omega (arith, passes_on f m i (passes_from f m i ys) ys (omega arith) h e))

-- ---- what is left of them

set_other : (ys : List LineState) (i j : ℕ) (y : LineState) → i < j → line_at (set ys i y) j ≡ line_at ys j
set_other [] i j y h = refl
set_other (x ∷ ys) zero zero y h = absurd (omega arith)
set_other (x ∷ ys) zero (suc j) y h = refl
set_other (x ∷ ys) (suc i) zero y h = absurd (omega arith)
set_other (x ∷ ys) (suc i) (suc j) y h = set_other ys i j y (omega arith)

pub shifted-length : (f t : Bool) (i k : ℕ) (ys : List LineState) → length (shifted_from f t i k ys) ≡ length ys
unfolding shifted_from
shifted-length f t i zero ys = refl
shifted-length f t i (suc k) ys = simp length-set (shifted-length f t i k ys)

-- those behind are as they were
pub shifted_behind : (f t : Bool) (i k j : ℕ) (ys : List LineState) → i + k ≤ j → line_at (shifted_from f t i k ys) j ≡ line_at ys j
unfolding shifted_from
shifted_behind f t i zero j ys h = refl
shifted_behind f t i (suc k) j ys h =
    let before = shifted_from f t i k ys in
    set_other before (i + k) j (pass_state f t (line_at before (i + k))) (omega arith) ∙ shifted_behind f t i k j ys (omega arith)

-- ---- their turns

one_more : (v : ℕ) (t : Bool) (n : ℕ) (s : BusState) → turns_up_to v t (suc n) s ≡ turn_at v t n (turns_up_to v t n s)
unfolding turns_up_to
one_more v t n s = refl

more-copied : (v : ℕ) (t : Bool) (n : ℕ) (s : BusState)
    → copied_up_to v t (suc n) s
    ≡ added_to (copied_up_to v t n s) (turn_copied (turns_up_to v t n s).image n (line_at (turns_up_to v t n s).lines n) v t)
unfolding copied_up_to
more-copied v t n s = refl

pass-turn : (f t : Bool) (n : ℕ) (u : BusState) → ends_in f (line_at u.lines n) ≡ false
    → turn_at (slot_byte f) t n u ≡ bus_state u.image (set u.lines n (pass_state f t (line_at u.lines n)))
unfolding turn_at
pass-turn f t n u e = λ j.
    bus_state (pass-image f t u.image n (line_at u.lines n) e j)
    (set u.lines n (pass-state f t u.image n (line_at u.lines n) e j))

module _ (f t : Bool) (i : ℕ) (s : BusState) where
  abbrev b : BusState
  b = turns_up_to (slot_byte f) t i s

  -- from the state in which the devices before place i have had theirs
  pub shifts-turns : (k : ℕ) → ((j : ℕ) → j < k → ends_in f (line_at b.lines (i + j)) ≡ false)
      → turns_up_to (slot_byte f) t (i + k) s ≡ bus_state b.image (shifted_from f t i k b.lines)
  unfolding shifted_from
  shifts-turns zero h = ap (λ (n : ℕ). turns_up_to (slot_byte f) t n s) (omega arith)
  shifts-turns (suc k) h =
      let ys = shifted_from f t i k b.lines in
      let on : ends_in f (line_at ys (i + k)) ≡ false =
      ap (ends_in f) (shifted_behind f t i k (i + k) b.lines (omega arith)) ∙ h k (omega arith) in
      ap (λ (n : ℕ). turns_up_to (slot_byte f) t n s) (omega arith)
      ∙ one_more (slot_byte f) t (i + k) s
      ∙ ap (turn_at (slot_byte f) t (i + k)) (shifts-turns k (λ j l. h j (omega arith)))
      ∙ pass-turn f t (i + k) (bus_state b.image ys) on

  -- and they copy nothing
  pub shifts-copied : (k : ℕ) → ((j : ℕ) → j < k → ends_in f (line_at b.lines (i + j)) ≡ false)
      → copied_up_to (slot_byte f) t (i + k) s ≡ copied_up_to (slot_byte f) t i s
  shifts-copied zero h = ap (λ (n : ℕ). copied_up_to (slot_byte f) t n s) (omega arith)
  shifts-copied (suc k) h =
      let before = turns_up_to (slot_byte f) t (i + k) s in
      let here : before.lines ≡ shifted_from f t i k b.lines = ap (λ (u : BusState). u.lines) (shifts-turns k (λ j l. h j (omega arith))) in
      let on : ends_in f (line_at before.lines (i + k)) ≡ false =
      ap (λ (ys : List LineState). ends_in f (line_at ys (i + k))) here
      ∙ ap (ends_in f) (shifted_behind f t i k (i + k) b.lines (omega arith)) ∙ h k (omega arith) in
      ap (λ (n : ℕ). copied_up_to (slot_byte f) t n s) (omega arith)
      ∙ more-copied (slot_byte f) t (i + k) s
      ∙ ap (added_to (copied_up_to (slot_byte f) t (i + k) s)) (pass-copied f t before.image (i + k) (line_at before.lines (i + k)) on)
      ∙ added_none (copied_up_to (slot_byte f) t (i + k) s)
      ∙ shifts-copied k (λ j l. h j (omega arith))

-- ---- the line states alone

more-steps : (image : List ℕ) (v : ℕ) (t : Bool) (n : ℕ) (ys : List LineState)
    → steps image v t (suc n) ys ≡ set (steps image v t n ys) n (turn_state image n (line_at (steps image v t n ys) n) v t)
unfolding steps
more-steps image v t n ys = refl

module _ (image : List ℕ) (f t : Bool) (i : ℕ) (ys : List LineState) where
  abbrev zs : List LineState
  zs = steps image (slot_byte f) t i ys

  pub shifts-steps : (k : ℕ) → ((j : ℕ) → j < k → ends_in f (line_at zs (i + j)) ≡ false)
      → steps image (slot_byte f) t (i + k) ys ≡ shifted_from f t i k zs
  unfolding shifted_from
  shifts-steps zero h = ap (λ (n : ℕ). steps image (slot_byte f) t n ys) (omega arith)
  shifts-steps (suc k) h =
      let us = shifted_from f t i k zs in
      let on : ends_in f (line_at us (i + k)) ≡ false =
      ap (ends_in f) (shifted_behind f t i k (i + k) zs (omega arith)) ∙ h k (omega arith) in
      ap (λ (n : ℕ). steps image (slot_byte f) t n ys) (omega arith)
      ∙ more-steps image (slot_byte f) t (i + k) ys
      ∙ ap (λ (us : List LineState). set us (i + k) (turn_state image (i + k) (line_at us (i + k)) (slot_byte f) t)) (shifts-steps k (λ j l. h j (omega arith)))
      ∙ ap (λ (s : LineState). set us (i + k) s) (pass-state f t image (i + k) (line_at us (i + k)) on)
