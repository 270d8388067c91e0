use Rattle.std.proofs.Common.{◌≤◌, length, refl, arith}
use Rattle.bus.specs.Loops.{run_state, run_events_up_to, copied_by_events}
use Rattle.bus.proofs.Loops.{event_done, event_added}
use Rattle.bus.proofs.run_events.Goals as goal

pub loop-k-init : goal.loop-k-init
unfolding run_events_up_to copied_by_events
loop-k-init c = record { copied = refl; state = refl }

pub loop-k-preserved : goal.loop-k-preserved
loop-k-preserved c =
    let trace = c.args.trace.now in
    let n = c.args.n in
    let k = c.loop-k.k in
    let s = run_state c.args.image.now c.args.answers.now c.args.lines.now in
    let im = c.loop-k.image in
    let answers = c.loop-k.answers in
    let ls = c.loop-k.lines in
    let inv = c.loop-k.invariant in
    let few : n ≤ length ls = omega arith in
    let e = c.step-result.ensures in
    record {
      copied = event_added trace n k s im answers ls inv.state few c.step-result.result e.0 c.loop-k.copied c.saturating_add-copied.result
          inv.copied c.saturating_add-copied.ensures;
      state = rw c.from.ensures (event_done trace n k s im answers ls inv.state few c.step-result.result e.0 c.step-result.new.image
          c.step-result.new.lines e.1 e.2);
    }
