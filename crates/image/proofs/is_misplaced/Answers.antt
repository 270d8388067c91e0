use Rattle.std.proofs.Common.{ℕ, ◌≡◌, Bool, true, false}
use Rattle.std.proofs.Math.Path.{◌∙◌, sym, ap, refl}
use Rattle.std.proofs.Math.Dec.{eqb}
use Rattle.std.specs.Prelude.{not, ◌||◌, length}
use borrow.Author.Tests.{eq-eqb, ne_eqb}
use native.Mathlib.Omega.{arith}
use Rattle.kind.specs.Kind.{body_size}
use Rattle.image.specs.Image.{count_of, family_at, flat_at, offset_at, packed_at}
use Rattle.image.specs.Refusal.{some_below, body_misplaced}
use Rattle.image.proofs.Laws.{some_at, some_more, size-bound, packed-bound, packed-next}
use Rattle.image.proofs.is_misplaced.Goals as goal

pub loop-i-init : goal.loop-i-init
unfolding packed_at some_below
loop-i-init c = (omega arith, refl)

pub returns-then-from-at : goal.returns-then-from-at
unfolding body_misplaced
returns-then-from-at c =
    let image = c.args.image.now in
    let l = c.loop-i in
    let differs : eqb (offset_at image l.i) (packed_at image l.i) ≡ false =
    ne_eqb _ _ (λ e. c.if-from-at.true (c.from.ensures ∙ c.offset_at.ensures ∙ e ∙ sym l.invariant.0)) in
    sym (ap (λ (b : Bool). b || not (eqb (length image) (packed_at image (count_of image))))
    (some_at (λ (k : ℕ). not (eqb (offset_at image k) (packed_at image k))) (count_of image) l.i (omega arith) (ap not differs)))

pub overflow_add-at-in-loop-i : goal.overflow_add-at-in-loop-i
overflow_add-at-in-loop-i c =
    let image = c.args.image.now in
    let l = c.loop-i in
    omega (arith, packed-bound image l.i, size-bound (family_at image l.i) (flat_at image l.i), ap body_size c.kind_at.ensures)

pub loop-i-preserved : goal.loop-i-preserved
loop-i-preserved c =
    let image = c.args.image.now in
    let l = c.loop-i in
    let same : eqb (offset_at image l.i) (packed_at image l.i) ≡ true =
    eq-eqb _ _ (sym c.offset_at.ensures ∙ sym c.from.ensures ∙ c.if-from-at.false ∙ l.invariant.0) in
    (omega (arith, packed-next image l.i, ap body_size c.kind_at.ensures), some_more _ l.i l.invariant.1 (ap not same))

pub returns : goal.returns
unfolding body_misplaced
returns c =
    let image = c.args.image.now in
    let l = c.loop-i in
    let all : l.i ≡ count_of image = omega arith in
    let packed : l.at ≡ packed_at image (count_of image) = rw all at l.invariant.0 in
    simp (packed, rw all at l.invariant.1)
