use Rattle.std.proofs.Common.{◌≡◌, ◌-◌, true, false, length, ◌<◌, set, refl, sym, ap, ◌∙◌, arith}
use Rattle.std.proofs.lemmas.List.{get_or_default, set-get_or}
use Rattle.line.specs.Transfers.{shifted}
use Rattle.device.specs.declared.LineState.{LineState}
use Rattle.device.specs.Device.{line_state, waiting_state}
use Rattle.bus.specs.Loops.{moves_in, ends_in, pass_state, shifted_from, line_at}
use Rattle.bus.proofs.Shifts.{pass_on, pass-still, still-whole, still_kept, moved-shifts}
use Rattle.bus.proofs.Loops.{shift_passes, shift_lines, shift_stops, shift_ends}
use Rattle.bus.proofs.shift_all.Goals as goal
use Rattle.bus.proofs.shift_all.Goals.{then-moves_in+else-ends_in, else-moves_in}

pub loop-i-init : goal.loop-i-init
unfolding shifted_from
loop-i-init c =
    let none : c.args.from - c.args.from ≡ 0 = omega arith in
    record {
      passed = rw none (omega arith);
      lines = rw none refl;
    }

pub loop-i-preserved : goal.loop-i-preserved
loop-i-preserved c =
    let f = c.args.overdrive in
    let t = c.args.level in
    let i = c.loop-i.i in
    let ls = c.loop-i.lines in
    let inv = c.loop-i.invariant in
    let within : i < length ls = omega arith in
    let state : LineState = line_at ls i in
    elim c.if-moves_in.branch [
      | then-moves_in+else-ends_in w ↦
          let moves : moves_in f state ≡ true =
          sym (c.moves_in.ensures ∙ ap (moves_in f) (get_or_default ls i _ waiting_state within)) ∙ w.if-moves_in.true in
          let on : ends_in f state ≡ false =
          sym (w.ends_in.ensures ∙ ap (ends_in f) (get_or_default ls i _ waiting_state within)) ∙ w.if-ends_in.false in
          let next : w.shifted.result ≡ pass_state f t state =
          w.shifted.ensures
          ∙ ap (λ (s : LineState). line_state (shifted s.transfer t) s.overdrive) (get_or_default ls i _ waiting_state within)
          ∙ sym (pass_on f t state (moved-shifts f state moves on)) in
          record {
            passed = shift_passes f t c.args.from c.args.n i c.args.lines.now ls c.loop-i.auto.i inv.passed inv.lines c.loop-i-test.true on;
            lines = w.lines-is ∙ ap (set ls i) next
                ∙ shift_lines f t c.args.from c.args.n i c.args.lines.now ls c.loop-i.auto.i inv.passed inv.lines;
          }
      | else-moves_in w ↦
          let still : moves_in f state ≡ false =
          sym (c.moves_in.ensures ∙ ap (moves_in f) (get_or_default ls i _ waiting_state within)) ∙ w.if-moves_in.false in
          record {
            passed = shift_passes f t c.args.from c.args.n i c.args.lines.now ls c.loop-i.auto.i inv.passed inv.lines c.loop-i-test.true
                (still-whole f state still);
            lines = w.lines-is
                ∙ sym (ap (set ls i) (pass-still f t state (still_kept f state still)) ∙ set-get_or ls i waiting_state)
                ∙ shift_lines f t c.args.from c.args.n i c.args.lines.now ls c.loop-i.auto.i inv.passed inv.lines;
          }
    ]

pub returns : goal.returns
returns c =
    let e = shift_ends c.args.overdrive c.args.level c.args.from c.args.n c.loop-i.i c.args.lines.now c.loop-i.lines
    c.loop-i.auto.i c.loop-i.invariant.passed c.loop-i.invariant.lines (omega arith) c.loop-i-test.false in
    (omega (arith, e, c.loop-i.auto.i), rw e c.loop-i.invariant.lines)

pub returns-then-ends_in : goal.returns-then-ends_in
returns-then-ends_in c =
    let f = c.args.overdrive in
    let i = c.loop-i.i in
    let ls = c.loop-i.lines in
    let inv = c.loop-i.invariant in
    let within : i < length ls = omega arith in
    let stops : ends_in f (line_at ls i) ≡ true =
    sym (c.ends_in.ensures ∙ ap (ends_in f) (get_or_default ls i _ waiting_state within)) ∙ c.if-ends_in.true in
    let e = shift_stops f c.args.level c.args.from c.args.n i c.args.lines.now ls c.loop-i.auto.i inv.passed inv.lines c.loop-i-test.true stops in
    (omega (arith, e, c.loop-i.auto.i), rw e inv.lines)
