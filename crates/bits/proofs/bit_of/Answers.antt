use Rattle.bits.proofs.Laws.{no-bit}
use mathlib.Core.Path.{sym}
use borrow.Author.Rules.{rules}
use Rattle.std.proofs.lemmas.Bool.{le-ltb}
use Rattle.bits.proofs.bit_of.Goals as goal

pub returns-else-i-lt8 : goal.returns-else-i-lt8
returns-else-i-lt8 c = rw (le-ltb _ _ c.if-i-lt8.false) (sym (no-bit 8 c.args.byte c.args.i (search rules) c.if-i-lt8.false))
