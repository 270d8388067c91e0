use Rattle.std.proofs.Common.{◌+◌, ◌*◌, arith}
use Rattle.std.proofs.lemmas.Bool.Decides.{nat_tests}
use Rattle.bus.specs.Loops.{place_in}
use Rattle.image.specs.Image.{entry_of, family_at, flat_at}
use Rattle.image.proofs.Laws.{size-bound}
use Rattle.bus.proofs.place_of.Goals as goal

pub overflow_add-end : goal.overflow_add-end
unfolding entry_of
overflow_add-end c =
    let image = c.args.image.now in
    let i = c.args.i in
    rw c.body_size.ensures (rw c.entry_at-kind.ensures
    (omega (arith, size-bound (family_at image i) (flat_at image i), c.type_inv.image (2 + 4 * i + 2), c.type_inv.image (2 + 4 * i + 3))))

pub returns-then-end-image : goal.returns-then-end-image
unfolding place_in entry_of
returns-then-end-image c = grind (arith, nat_tests)

pub returns-else-end-image : goal.returns-else-end-image
unfolding place_in entry_of
returns-else-end-image c = grind (arith, nat_tests)

pub returns-else-i-device_count : goal.returns-else-i-device_count
unfolding place_in entry_of
returns-else-i-device_count c = grind (arith, nat_tests)
