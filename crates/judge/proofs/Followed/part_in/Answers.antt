use Rattle.std.proofs.Common.{arith, ◌-◌, ◌+◌, sym, ◌∙◌}
use Rattle.judge.proofs.Laws.{part_step, part_end}
use Rattle.judge.specs.Loops.{part_over}
use Rattle.judge.proofs.Followed.part_in.Goals as goal

pub loop-k-preserved : goal.loop-k-preserved
loop-k-preserved c =
    let f = c.args.self in
    let l = c.loop-k in
    let end = c.args.end in
    (λ i. part_over f.recording.trace.now f.recording.answers.now f.kind f.body.now end (c.line_next-state.ensures i) (c.part_at-part.ensures i) (l.k + 1) (end - (l.k + 1)))
    ∙ sym (part_step f.recording.trace.now f.recording.answers.now f.kind f.body.now end l.state l.part l.k c.loop-k-test.true)
    ∙ l.invariant

pub returns : goal.returns
returns c =
    let f = c.args.self in
    let l = c.loop-k in
    sym (part_end f.recording.trace.now f.recording.answers.now f.kind f.body.now c.args.end l.state l.part l.k (omega (arith, c.loop-k-test.false))) ∙ l.invariant
