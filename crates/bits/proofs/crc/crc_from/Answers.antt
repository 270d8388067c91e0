use Prim.Native.Nat.{ℕ, ◌+◌, ◌<◌}
use mathlib.Core.Path.{◌≡◌, refl, ap, ◌∙◌}
use mathlib.Core.List.{List}
use native.Mathlib.Omega.{arith}
use native.Mathlib.Numerals.{add-one}
use lib.Bits.{bit_xor}
use lib.ListN.{length, drop, get_or}
use lib.Seq.{drop-cons, drop-length}
use Rattle.std.proofs.lemmas.Grind.{common_steps}
use Rattle.bits.specs.Crc.{crc_from, crc_table}
use Rattle.bits.proofs.Table.{look_up}
use Rattle.bits.proofs.crc.crc_from.Goals as goal

pub loop-byte-init : goal.loop-byte-init
loop-byte-init c = refl

-- That the loop takes the bytes of s, and all of them, is shown by laws that hold of a part of a slice too: a loop over
-- a part fails where a byte is another or is missing, and not at the form of its text.
pub loop-byte-preserved : goal.loop-byte-preserved
unfolding crc_from
loop-byte-preserved c =
    let l = c.loop-byte in
    let s = c.args.s.now in
    let byte = get_or s l.byte-index 0 in
    let fits : byte < 256 = omega (arith, c.type_inv.s l.byte-index) in
    let more : l.byte-index < length s = grind (arith, common_steps) in
    let index : c.from.result ≡ bit_xor l.reg byte = grind (arith, common_steps) in
    let entry = ap (λ (t : List ℕ). get_or t c.from.result 0) c.table-entries.ensures in
    let next = entry ∙ ap (λ (v : ℕ). get_or crc_table v 0) index ∙ look_up l.reg byte l.auto.reg-fits.fits fits in
    ap (λ (r : ℕ). crc_from r (drop (l.byte-index + 1) s)) next
    ∙ rw add-one (rw (drop-cons s l.byte-index 0 more) at l.invariant)

pub returns : goal.returns
unfolding crc_from
returns c =
    let e : c.loop-byte.byte-index ≡ length c.args.s.now = grind (arith, common_steps) in
    rw (e, drop-length) at c.loop-byte.invariant
