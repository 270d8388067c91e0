-- Laws of the fields and of the view that the proofs of functions cite. Assumes nothing.
use Prim.Native.Nat.{ℕ, ◌+◌, ◌<◌, ◌≤◌}
use mathlib.Core.Path.{◌≡◌}
use mathlib.Core.Bool.{true}
use mathlib.Core.List.{List}
use lib.ListN.{length}
use borrow.Author.Tests.{eqb-true}
use native.Mathlib.Omega.{arith}
use Rattle.kind.specs.Kind.{code_length, «data», data_length}
use Rattle.line.proofs.Range.{both}
use Rattle.line.specs.declared.Field.{Field}
use Rattle.line.specs.declared.Field.TheVariants.{Data, Status}
use Rattle.eprom.specs.Fields.{field_start, field_length, cut_address, body_length}
use Rattle.eprom.specs.View.{fields_fit}

-- ---- the fields

-- a field starts after the registration code, and early in the body
pub start-least : (field : Field) → code_length ≤ field_start field
unfolding field_start
start-least Data = omega arith
start-least Status = omega arith

pub start-most : (field : Field) → field_start field ≤ «data»
unfolding field_start
start-most Data = omega arith
start-most Status = omega arith

-- a field has a byte, and few enough for an address of eight bits
pub length-least : (field : Field) → 0 < field_length field
unfolding field_length
length-least Data = omega arith
length-least Status = omega arith

pub length_most : (field : Field) → field_length field ≤ data_length
unfolding field_length
length_most Data = omega arith
length_most Status = omega arith

-- it lies within the body
pub within : (field : Field) (address : ℕ) → address < field_length field → field_start field + address < body_length
unfolding field_start field_length
within Data address h = omega arith
within Status address h = omega arith

-- a cut address is one of its field's
pub cut_below : (field : Field) (address : ℕ) → cut_address field address < field_length field
unfolding cut_address field_length
cut_below Data address = omega arith
cut_below Status address = omega arith

pub cut_fits : (field : Field) (address : ℕ) → cut_address field address < data_length
cut_fits field address = omega (arith, length_most field, cut_below field address)

-- ---- the view

-- fields that fit have their lengths
pub fit-lengths : (bytes status : List ℕ) → fields_fit bytes status ≡ true
    → (length bytes ≡ field_length Data) × (length status ≡ field_length Status)
unfolding fields_fit field_length
fit-lengths bytes status h =
    let b = both _ _ h in
    (eqb-true _ _ b.0, eqb-true _ _ b.1)

-- and a cut address lies within them
pub cut-within : (bytes status : List ℕ) → fields_fit bytes status ≡ true → (address : ℕ)
    → (cut_address Data address ≤ length bytes) × (cut_address Status address ≤ length status)
cut-within bytes status h address =
    let fit = fit-lengths bytes status h in
    (omega (arith, fit.0, cut_below Data address), omega (arith, fit.1, cut_below Status address))
