-- A number that a C program is given is written where a call is not refused, and else stays. Assumes nothing.
use Prim.Native.Nat.{ℕ, zero, suc}
use mathlib.Core.Path.{◌≡◌, refl, ap}
use mathlib.Core.Bool.{not}
use lib.Dec.{T, eqb}
use Rattle.image.specs.declared.Refusal.{Refusal}
use Rattle.image.specs.declared.Refusal.TheVariants.{MalformedImage, MisplacedBody, WrongCode, EqualCodes, BadTrace}
use Rattle.image.specs.declared.Refusal.TheVariants.{NoFirstReset, BadPulse, NoRoom}
use Rattle.image.specs.Refusal.{refusal_number}
use Rattle.image.specs.Counted.{count_after}

pub counted-now : (number count before : ℕ) → number ≡ 0 → count_after number count before ≡ count
unfolding count_after
counted-now number count before e = ap (λ (n : ℕ). count_after n count before) e

pub counted-not : (number count before : ℕ) → (number ≡ 0 → ⊥) → count_after number count before ≡ before
unfolding count_after
counted-not zero count before h = absurd (h refl)
counted-not (suc number) count before h = refl

-- no refusal has the number 0
pub some_refusal : (refusal : Refusal) → T (not (eqb (refusal_number refusal) 0))
unfolding refusal_number
some_refusal MalformedImage = tt
some_refusal MisplacedBody = tt
some_refusal WrongCode = tt
some_refusal EqualCodes = tt
some_refusal BadTrace = tt
some_refusal NoFirstReset = tt
some_refusal BadPulse = tt
some_refusal NoRoom = tt
