use Rattle.std.proofs.Common.{◌≡◌, Bool, ℕ, length, ap, ◌∙◌}
use Rattle.bus.specs.declared.Scan.{Scan}
use Rattle.bus.specs.Loops.{level_on, scan_on, copied_on, step_on, event_result, BusState, bus_state, turns_up_to, copied_up_to, fewer_of}
use Rattle.bus.proofs.step.Goals as goal

pub returns : goal.returns
unfolding step_on scan_on copied_on
returns c =
    let v = c.args.byte in
    let n = c.args.n in
    let ls = c.args.lines.now in
    let s = bus_state c.args.image.now ls in
    let served : c.served-served.result ≡ fewer_of n (length ls) = c.served-served.ensures.fewer in
    let level : c.level-level.result.level ≡ level_on ls n v = ap (λ (u : Scan). u.level) c.level-level.ensures in
    let copied : c.step_event-copied.result ≡ copied_on n v s =
    c.step_event-copied.ensures.0
    ∙ ap (λ (b : Bool). copied_up_to v b c.served-served.result s) level
    ∙ ap (λ (m : ℕ). copied_up_to v (level_on ls n v) m s) served in
    let left : bus_state c.step_event-copied.new.image c.step_event-copied.new.lines ≡ step_on n v s =
    c.step_event-copied.ensures.1
    ∙ ap (λ (b : Bool). turns_up_to v b c.served-served.result s) level
    ∙ ap (λ (m : ℕ). turns_up_to v (level_on ls n v) m s) served in (
      ap (λ (u : Scan). event_result u c.step_event-copied.result) c.level-level.ensures
          ∙ ap (λ (m : ℕ). event_result (scan_on ls n v) m) copied,
      ap (λ (u : BusState). u.image) left,
      ap (λ (u : BusState). u.lines) left,
    )
