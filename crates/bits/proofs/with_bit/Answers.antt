use Rattle.bits.proofs.Laws.{set_below, clear_room}
use Prim.Native.Nat.{◌/◌, ◌%◌, ◌^◌}
use mathlib.Core.Path.{◌≡◌}
use native.Mathlib.Omega.{arith}
use borrow.Author.Tests.{eqb-true, eqb-false}
use Rattle.bits.specs.Bit.{bit_of}
use mathlib.Core.Path.{sym}
use borrow.Author.Rules.{rules}
use Rattle.bits.proofs.with_bit.Goals as goal

pub overflow_sub-result : goal.overflow_sub-result
unfolding bit_of
overflow_sub-result c =
    let a = c.args in
    let set : a.byte / 2 ^ a.i % 2 ≡ 1 =
    eqb-true _ _ (sym c.in-true-false.ensures) in
    omega (arith, set_below a.byte a.i c.if-i-ge8.false set)

pub overflow_add-result : goal.overflow_add-result
unfolding bit_of
overflow_add-result c =
    let a = c.args in
    let clear : (a.byte / 2 ^ a.i % 2 ≡ 1 → ⊥) =
    eqb-false _ _ (sym c.in-false-true.ensures) in
    omega (arith, clear_room a.byte (search rules) a.i c.if-i-ge8.false clear)
