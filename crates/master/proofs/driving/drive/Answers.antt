use borrow.Author.Tests.{lt-ltb, le-ltb}
use Rattle.master.specs.Drive.{no_drive_room}
use Rattle.master.proofs.Stepping.{drive-refused, drive-driven}
use Rattle.master.proofs.driving.drive.Goals as goal

pub returns-then-trace-trace_room : goal.returns-then-trace-trace_room
unfolding no_drive_room
returns-then-trace-trace_room c =
    let short = rw c.trace_room.ensures at c.if-trace-trace_room.true in
    drive-refused _ _ _ _ c.refused.ensures (rw (lt-ltb _ _ short))

pub returns-then-codes-code_room : goal.returns-then-codes-code_room
unfolding no_drive_room
returns-then-codes-code_room c =
    let room = rw c.trace_room.ensures at c.if-trace-trace_room.false in
    let short = rw c.code_room.ensures at c.if-codes-code_room.true in
    drive-refused _ _ _ _ c.refused-then-codes-code_room.ensures (rw (le-ltb _ _ room, lt-ltb _ _ short))

pub returns : goal.returns
unfolding no_drive_room
returns c =
    let room-t = rw c.trace_room.ensures at c.if-trace-trace_room.false in
    let room-c = rw c.code_room.ensures at c.if-codes-code_room.false in
    let f = c.step_levels.ensures in
    drive-driven _ _ _ _ _ _ (rw (le-ltb _ _ room-t, le-ltb _ _ room-c)) room-t room-c f.0 f.1 f.2
