use Rattle.eprom.specs.Writes.{send_stored}
use Rattle.eprom.proofs.Pulses.{stored-programmed}
use Rattle.eprom.proofs.writes.send_programmed.Goals as goal

pub returns : goal.returns
unfolding send_stored
returns c =
    let a = c.args in
    let same = stored-programmed a.field a.address a.byte a.body.now in
    simp (c.sending.ensures, c.programmed_byte.ensures, c.in_eprom.ensures, same)
