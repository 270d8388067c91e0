use Rattle.std.proofs.Common.{◌≡◌, ◌≤◌, ℕ, List, ◌++◌, length, drop, replicate, sym, ap, ◌∙◌}
use lib.Seq.{length-take-le}
use Rattle.device.specs.declared.LineState.{LineState}
use Rattle.device.specs.Device.{waiting_state}
use Rattle.bus.specs.Loops.{filled_up_to}
use Rattle.bus.proofs.Shown.{filled_is}
use Rattle.bus.proofs.wait_all.Goals as goal

pub returns : goal.returns
returns c =
    let ls = c.args.lines.now in
    let m = c.served-served.result in
    let few : m ≤ length ls = c.served-served.ensures.lent in
    let filled : c.fill.new.self ≡ replicate m waiting_state =
    c.fill.ensures.after (λ y e. e) ∙ ap (λ (k : ℕ). replicate k c.waiting.result) (length-take-le m ls few)
    ∙ ap (replicate m) c.waiting.ensures in
    ap (λ (l : List LineState). l ++ drop m ls) filled
    ∙ sym (filled_is m waiting_state ls few)
    ∙ ap (λ (k : ℕ). filled_up_to k waiting_state ls) c.served-served.ensures.fewer
