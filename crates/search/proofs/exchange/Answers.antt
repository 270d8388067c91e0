use Rattle.std.proofs.Common.{◌∙◌, sym, arith}
use Rattle.search.proofs.Loop.{begun-start, turn-more, turn-fits, turn-next, turn-ends}
use Rattle.search.proofs.exchange.Goals as goal

pub loop-event-init : goal.loop-event-init
loop-event-init c = rw c.fresh-master.ensures (begun-start c.args.image.now c.args.codes.now c.args.trace.now c.args.lines.now)

pub returns-in_default : goal.returns-in_default
returns-in_default c =
    let t = c.stepped-step.ensures in
    turn-ends c.requires c.loop-event.invariant t.0 t.1 (λ e a. c.in_default.not-Event e (c.answer.ensures ∙ a))

pub overflow_add-sent : goal.overflow_add-sent
overflow_add-sent c =
    let t = c.stepped-step.ensures in
    let small = turn-fits c.requires c.loop-event.invariant t.0 t.1 (sym c.in-Event.ensures) in
    record { fits = omega arith }

pub loop-event-smaller : goal.loop-event-smaller
loop-event-smaller c =
    let t = c.stepped-step.ensures in
    let more = turn-more c.requires c.loop-event.invariant t.0 t.1 (sym c.in-Event.ensures) in
    omega arith

pub loop-event-preserved : goal.loop-event-preserved
loop-event-preserved c =
    let t = c.stepped-step.ensures in
    let next = turn-next c.requires c.loop-event.invariant t.0 t.1 (sym c.in-Event.ensures) c.device_count-n.ensures
    c.put_byte.ensures c.answered-level.ensures.1 c.answered-level.ensures.0 in
    rw c.next-master.ensures next
