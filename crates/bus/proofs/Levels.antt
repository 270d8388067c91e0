-- The scan of `level`: it makes as many turns as devices are looked at, and then the level and that number are those
-- that `scan_on` names. Assumes nothing.
use Prim.Native.Nat.{ℕ, zero, suc, ◌<◌, ◌≤◌}
use mathlib.Core.Path.{◌≡◌, refl, sym, ap, subst, ◌∙◌}
use mathlib.Core.Bool.{Bool, true, false, cond, ◌&&◌}
use mathlib.Core.List.{List, [], ◌∷◌}
use native.Mathlib.Omega.{arith}
use lib.ListN.{length, take}
use lib.Seq.{take_all, take-length, length-take-le, get_or-take}
use lib.Dec.{ltb}
use borrow.Author.Tests.{lt-ltb, le-ltb, ltb-true, ltb-false}
use Rattle.line.proofs.Range.{false-true}
use Rattle.device.specs.declared.LineState.{LineState}
use Rattle.device.specs.Device.{waiting_state}
use Rattle.bus.specs.declared.Scan.{Scan}
use Rattle.bus.specs.declared.Event.{Event}
use Rattle.bus.specs.declared.Event.TheVariants.{Slot, Reset, Pulse, OverdriveSlot, OverdriveReset}
use Rattle.bus.specs.Bus.{event_of, master_high, read_slot}
use Rattle.bus.specs.Loops.{leaves_high, all_high, level_as_is, level_on, up_to_low, looked_as_is, looked_on, scan_on}
use Rattle.bus.specs.Loops.{fewer_of, asked_of, goes_on_at, scan_where, line_at}
use Rattle.bus.proofs.Laws.{fewer-second}

module _ (event : Event) where
  -- whether the device that was looked at last leaves the line high, after i of them
  unfoldable pub high_after : List LineState → ℕ → Bool
  high_after lines zero = true
  high_after lines (suc i) = leaves_high event (line_at lines i)

  -- ---- the scan of a list of line states

  -- no more are looked at than there are
  looked-few : (xs : List LineState) → up_to_low event xs ≤ length xs
  unfolding up_to_low
  looked-few [] = omega arith
  looked-few (x ∷ xs) = choose (leaves_high event x) (looked-few xs)
    where
      choose : (b : Bool) → up_to_low event xs ≤ length xs → suc (cond b (up_to_low event xs) 0) ≤ suc (length xs)
      choose true h = omega (arith, h)
      choose false h = omega arith

  -- behind the first of a list the scan is that of the rest
  high-rest : (x : LineState) (xs : List LineState) → leaves_high event x ≡ true → (i : ℕ)
      → high_after (x ∷ xs) (suc i) ≡ high_after xs i
  unfolding high_after
  high-rest x xs e zero = e
  high-rest x xs e (suc i) = refl

  -- before it ends all devices left the line high
  looked-high : (xs : List LineState) (i : ℕ) → i < up_to_low event xs → high_after xs i ≡ true
  unfolding up_to_low high_after
  looked-high [] i h = absurd (omega (arith, h))
  looked-high (x ∷ xs) zero h = refl
  looked-high (x ∷ xs) (suc i) h = choose (leaves_high event x) refl h (looked-high xs i)
    where
      choose : (b : Bool) → leaves_high event x ≡ b → suc i < suc (cond b (up_to_low event xs) 0)
          → (i < up_to_low event xs → high_after xs i ≡ true) → high_after (x ∷ xs) (suc i) ≡ true
      choose true e l rest = high-rest x xs e i ∙ rest (omega (arith, l))
      choose false e l rest = absurd (omega (arith, l))

  -- at its end the line is high where all leave it high
  looked-all : (xs : List LineState) → high_after xs (up_to_low event xs) ≡ all_high event xs
  unfolding up_to_low high_after all_high
  looked-all [] = refl
  looked-all (x ∷ xs) = choose (leaves_high event x) refl (looked-all xs)
    where
      choose : (b : Bool) → leaves_high event x ≡ b → high_after xs (up_to_low event xs) ≡ all_high event xs
          → high_after (x ∷ xs) (suc (cond b (up_to_low event xs) 0)) ≡ (b && all_high event xs)
      choose true e rest = high-rest x xs e (up_to_low event xs) ∙ rest
      choose false e rest = e

  all-looked : (xs : List LineState) → all_high event xs ≡ true → up_to_low event xs ≡ length xs
  unfolding up_to_low all_high
  all-looked [] e = refl
  all-looked (x ∷ xs) e = choose (leaves_high event x) e (all-looked xs)
    where
      choose : (b : Bool) → (b && all_high event xs) ≡ true → (all_high event xs ≡ true → up_to_low event xs ≡ length xs)
          → suc (cond b (up_to_low event xs) 0) ≡ suc (length xs)
      choose true e rest = ap suc (rest e)
      choose false e rest = false-true e

  -- whether the scan goes on: it does before its end, and not there
  scan-on : (xs : List LineState) (i : ℕ) → i < up_to_low event xs → goes_on_at (high_after xs i) i (length xs) ≡ true
  unfolding goes_on_at
  scan-on xs i h = rw (looked-high xs i h) (lt-ltb i (length xs) (omega (arith, h, looked-few xs)))

  scan-off : (xs : List LineState) → goes_on_at (high_after xs (up_to_low event xs)) (up_to_low event xs) (length xs) ≡ false
  unfolding goes_on_at
  scan-off xs = choose (high_after xs (up_to_low event xs)) refl
    where
      choose : (b : Bool) → high_after xs (up_to_low event xs) ≡ b → (b && ltb (up_to_low event xs) (length xs)) ≡ false
      choose true e =
          le-ltb (up_to_low event xs) (length xs) (omega (arith, all-looked xs (sym (looked-all xs) ∙ e)))
      choose false e = refl

  -- ---- the scan of those that are asked, of the line states that are lent

  -- no more are asked than there are
  pub asked-few : (n : ℕ) → asked_of event n ≤ n
  unfolding asked_of
  asked-few n = choose (master_high event)
    where
      choose : (b : Bool) → cond b n 0 ≤ n
      choose true = omega arith
      choose false = omega arith

  high_part : (lines : List LineState) (m i : ℕ) → i ≤ m → high_after (take m lines) i ≡ high_after lines i
  unfolding high_after
  high_part lines m zero h = refl
  high_part lines m (suc i) h = ap (leaves_high event) (get_or-take m lines i waiting_state (omega (arith, h)))

  module _ (lines : List LineState) (m : ℕ) (some : m ≤ length lines) where
    -- the devices that are looked at, of the first m
    abbrev pub scan_end : ℕ
    scan_end = up_to_low event (take m lines)

    pub end-few : scan_end ≤ m
    end-few = omega (arith, looked-few (take m lines), length-take-le m lines some)

    pub scan-goes : (i : ℕ) → i < scan_end → goes_on_at (high_after lines i) i m ≡ true
    scan-goes i h =
        ap (λ (b : Bool). goes_on_at b i m) (sym (high_part lines m i (omega (arith, h, end-few))))
        ∙ ap (λ (k : ℕ). goes_on_at (high_after (take m lines) i) i k) (sym (length-take-le m lines some))
        ∙ scan-on (take m lines) i h

    pub scan-ends : goes_on_at (high_after lines scan_end) scan_end m ≡ false
    scan-ends =
        ap (λ (b : Bool). goes_on_at b scan_end m) (sym (high_part lines m scan_end end-few))
        ∙ ap (λ (k : ℕ). goes_on_at (high_after (take m lines) scan_end) scan_end k) (sym (length-take-le m lines some))
        ∙ scan-off (take m lines)

    pub scan-high : high_after lines scan_end ≡ all_high event (take m lines)
    scan-high = sym (high_part lines m scan_end end-few) ∙ looked-all (take m lines)

    -- where it goes on it is before its end, and where it does not it is there
    pub scan_before : (i : ℕ) → i ≤ scan_end → goes_on_at (high_after lines i) i m ≡ true → i < scan_end
    scan_before i h e = choose (ltb i scan_end) refl
      where
        choose : (b : Bool) → ltb i scan_end ≡ b → i < scan_end
        choose true g = ltb-true i scan_end g
        choose false g =
            let here : scan_end ≡ i = omega (arith, h, ltb-false i scan_end g) in
            let off : goes_on_at (high_after lines i) i m ≡ false = subst (λ (k : ℕ). goes_on_at (high_after lines k) k m ≡ false) here scan-ends in
            false-true (sym off ∙ e)

    pub scan_there : (i : ℕ) → i ≤ scan_end → goes_on_at (high_after lines i) i m ≡ false → i ≡ scan_end
    scan_there i h e = choose (ltb i scan_end) refl
      where
        choose : (b : Bool) → ltb i scan_end ≡ b → i ≡ scan_end
        choose true g = false-true (sym e ∙ scan-goes i (ltb-true i scan_end g))
        choose false g = omega (arith, h, ltb-false i scan_end g)

-- ---- the level and the number

-- a level and a number, as one
scan : Bool → ℕ → Scan
scan level looked = record { level = level; looked = looked }

-- where the master holds the line low it asks no device
held : (event : Event) → master_high event ≡ false → read_slot event ≡ false
unfolding master_high read_slot
held (Slot sent) e = e
held Reset e = refl
held Pulse e = refl
held (OverdriveSlot sent) e = e
held OverdriveReset e = refl

at-event : (event : Event) (lines : List LineState) (n : ℕ) → n ≤ length lines
    → (let c : ℕ = up_to_low event (take (asked_of event n) lines) in scan_where event (high_after event lines c) c)
    ≡ scan (level_as_is event (take n lines)) (looked_as_is event (take n lines))
unfolding asked_of level_as_is looked_as_is scan_where scan up_to_low high_after
at-event event lines n h = choose (master_high event) refl
  where
    choose : (b : Bool) → master_high event ≡ b
        → (let c : ℕ = up_to_low event (take (cond b n 0) lines) in
        scan (b && high_after event lines c) (cond (read_slot event) c 0))
        ≡ scan (b && all_high event (take n lines)) (cond (read_slot event) (up_to_low event (take n lines)) 0)
    choose true e = ap (λ (high : Bool). scan high (cond (read_slot event) (up_to_low event (take n lines)) 0)) (scan-high event lines n h)
    choose false e = rw (held event e)

-- as many line states are lent, or fewer
pub fewer-take : (lines : List LineState) (n : ℕ) (b : Bool) → ltb n (length lines) ≡ b
    → take (cond b n (length lines)) lines ≡ take n lines
fewer-take lines n true e = refl
fewer-take lines n false e = take-length lines ∙ sym (take_all n lines (ltb-false n (length lines) e))

pub scan-is : (lines : List LineState) (n byte : ℕ)
    → (let event : Event = event_of byte in
    let c : ℕ = up_to_low event (take (asked_of event (fewer_of n (length lines))) lines) in
    scan_where event (high_after event lines c) c)
    ≡ scan_on lines n byte
unfolding scan_on level_on looked_on fewer_of scan
scan-is lines n byte =
    at-event (event_of byte) lines (fewer_of n (length lines)) (fewer-second n (length lines))
    ∙ ap (λ (xs : List LineState). scan (level_as_is (event_of byte) xs) (looked_as_is (event_of byte) xs))
    (fewer-take lines n (ltb n (length lines)) refl)

-- ---- what the loop of `level` keeps

-- where it goes on there is a device to look at, and where it ends the scan is made
module _ (lines : List LineState) (n byte served m i : ℕ) (high on : Bool)
    (of_served : served ≡ fewer_of n (length lines)) (of_asked : m ≡ asked_of (event_of byte) served)
    (in_range : i ≤ up_to_low (event_of byte) (take m lines)) (so_far : high ≡ high_after (event_of byte) lines i)
    (test : on ≡ goes_on_at high i m) where
  some_asked : m ≤ length lines
  some_asked = omega (arith, of_served, of_asked, asked-few (event_of byte) served, fewer-second n (length lines))

  goes_so : goes_on_at (high_after (event_of byte) lines i) i m ≡ on
  goes_so = ap (λ (b : Bool). goes_on_at b i m) (sym so_far) ∙ sym test

  pub scan_turn : on ≡ true → (i < up_to_low (event_of byte) (take m lines)) × ((i < m) × (i < length lines))
  scan_turn e =
      let small = scan_before (event_of byte) lines m some_asked i in_range (goes_so ∙ e) in
      let few = end-few (event_of byte) lines m some_asked in
      (small, (omega (arith, small, few), omega (arith, small, few, some_asked)))

  pub scan_result : on ≡ false → scan_where (event_of byte) high i ≡ scan_on lines n byte
  scan_result e =
      let at = scan_there (event_of byte) lines m some_asked i in_range (goes_so ∙ e) in
      let whole : m ≡ asked_of (event_of byte) (fewer_of n (length lines)) = of_asked ∙ ap (asked_of (event_of byte)) of_served in
      ap (λ (b : Bool). scan_where (event_of byte) b i) so_far
      ∙ ap (λ (k : ℕ). scan_where (event_of byte) (high_after (event_of byte) lines k) k) at
      ∙ ap (λ (k : ℕ). let c : ℕ = up_to_low (event_of byte) (take k lines) in scan_where (event_of byte) (high_after (event_of byte) lines c) c) whole
      ∙ scan-is lines n byte
