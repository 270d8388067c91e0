-- Document 02, item 2: how many devices a slot's level looks at, and how that goes with the level. Assumes nothing.
--     looked-up-to     the device at that place pulls low and none before it does, or none does at all
--     looked-few       no more are looked at than there are
use Prim.Native.Nat.{ℕ, suc, ◌≤◌}
use mathlib.Core.Path.{◌≡◌, refl, sym, ap}
use mathlib.Core.Bool.{Bool, true, false, cond, not, ◌||◌, true≢false}
use mathlib.Core.List.{List, [], ◌∷◌}
use native.Mathlib.Omega.{arith}
use lib.ListN.{length}
use Rattle.bus.specs.declared.Event.{Event}
use Rattle.bus.specs.declared.Event.TheVariants.{Slot, Reset, Pulse, OverdriveSlot, OverdriveReset}
use Rattle.bus.specs.Bus.{Device, pulls_low, some_low, master_high, level_of, up_to_first_low, read_slot, looked_at, Looked}
use Rattle.bus.specs.Bus.Looked.{to-first-low, to_last}

module _ (event : Event) where
  -- one device more before the others, which leaves the line high
  after : (d : Device) {ds : List Device} {n : ℕ} {level : Bool} → pulls_low event d ≡ false → Looked event ds n level
      → Looked event (d ∷ ds) (suc n) level
  unfolding some_low
  after d h (to-first-low before e rest split none low) =
      to-first-low (d ∷ before) e rest (ap (λ (l : List Device). d ∷ l) split) (rw h none) low
  after d h (to_last none) = to_last (rw h none)

  up_to : (ds : List Device) → Looked event ds (up_to_first_low event ds) (not (some_low event ds))
  unfolding up_to_first_low some_low
  up_to [] = to_last refl
  up_to (d ∷ ds) = choose (pulls_low event d) refl (up_to ds)
    where
      choose : (b : Bool) → pulls_low event d ≡ b → Looked event ds (up_to_first_low event ds) (not (some_low event ds))
          → Looked event (d ∷ ds) (suc (cond b 0 (up_to_first_low event ds))) (not (b || some_low event ds))
      choose true e rest = to-first-low [] d ds refl refl e
      choose false e rest = after d e rest

  up-to-few : (ds : List Device) → up_to_first_low event ds ≤ length ds
  unfolding up_to_first_low
  up-to-few [] = omega arith
  up-to-few (d ∷ ds) = choose (pulls_low event d) (up-to-few ds)
    where
      choose : (b : Bool) → up_to_first_low event ds ≤ length ds → suc (cond b 0 (up_to_first_low event ds)) ≤ suc (length ds)
      choose true h = omega arith
      choose false h = omega (arith, h)

-- in a slot in which the master sends 1, at either speed
pub looked-up-to : (event : Event) (ds : List Device) → read_slot event ≡ true
    → Looked event ds (looked_at event ds) (level_of event ds)
unfolding looked_at level_of read_slot master_high
looked-up-to (Slot true) ds e = up_to (Slot true) ds
looked-up-to (Slot false) ds e = absurd (true≢false (sym e))
looked-up-to Reset ds e = absurd (true≢false (sym e))
looked-up-to Pulse ds e = absurd (true≢false (sym e))
looked-up-to (OverdriveSlot true) ds e = up_to (OverdriveSlot true) ds
looked-up-to (OverdriveSlot false) ds e = absurd (true≢false (sym e))
looked-up-to OverdriveReset ds e = absurd (true≢false (sym e))

pub looked-few : (event : Event) (ds : List Device) → looked_at event ds ≤ length ds
unfolding looked_at
looked-few event ds = choose (read_slot event)
  where
    choose : (b : Bool) → cond b (up_to_first_low event ds) 0 ≤ length ds
    choose true = up-to-few event ds
    choose false = omega arith
