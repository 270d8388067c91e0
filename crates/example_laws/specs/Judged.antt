-- Document 02, item 5, is stated here as a table of its own: recordings with their verdicts. A row is right if the
-- definition of the verdict says just that.
use Rattle.std.specs.Prelude.{ℕ, ◌≡◌, List, [], ◌∷◌, ◌++◌, set}
use Rattle.bus.specs.Run.{waiting_devices}
use Rattle.judge.specs.declared.Rule.TheVariants.{Answers, Command, Copy}
use Rattle.judge.specs.declared.Verdict.{Verdict}
use Rattle.judge.specs.declared.Verdict.TheVariants.{Accepted, Broken}
use Rattle.judge.specs.Judge.{verdict_of}
use Rattle.example_laws.specs.Session.{SessionStep, reset, write, write_bits, read, skip, select, events_of_steps}
use Rattle.example_laws.specs.Session.{levels_of_steps, overdrive_reset, unheard_reset, overdrive_write}
use Rattle.example_laws.specs.Images.{ds1992_code, second_code, zeros, sram_body, blank_ds1992, blank_ds1996}
use Rattle.example_laws.specs.Images.{two_ds1992, two_bytes}
use Rattle.example_laws.specs.Overdrive.{overdrive_skip, overdrive_read_back}
use Rattle.example_laws.specs.Table.{read_scratchpad_steps, written, written_both}

-- A recording has the image, the trace, the answers, and the verdict.
pub record Recording : Type 0 where
  pub image : List ℕ
  pub trace : List ℕ
  pub answers : List ℕ
  pub verdict : Verdict

abbrev pub Right : Recording → Type 0
Right r = verdict_of r.trace r.answers (waiting_devices r.image) ≡ r.verdict

infixr 5 ◌and◌
pub data Every : List Recording → Type 0 where
  none : Every []
  ◌and◌ : {row : Recording} {rows : List Recording} → Right row → Every rows → Every (row ∷ rows)

-- The answers are those of the session.
abbrev pub recorded : List ℕ → List SessionStep → Verdict → Recording
recorded image steps verdict =
    record { image = image; trace = events_of_steps steps; answers = levels_of_steps steps; verdict = verdict }

-- The answer of one event was recorded as another byte.
abbrev pub damaged : List ℕ → List SessionStep → ℕ → ℕ → Verdict → Recording
damaged image steps event byte verdict =
    record {
      image = image;
      trace = events_of_steps steps;
      answers = set (levels_of_steps steps) event byte;
      verdict = verdict;
    }

-- ---- transactions with one DS1992, by skip ROM, with the number of their events

-- 49: two bytes are written for the target 0026h.
abbrev pub two_written : List SessionStep
two_written = skip (0x0F ∷ 0x26 ∷ 0x00 ∷ 0xA1 ∷ 0xA2 ∷ [])

-- 57: they are read back, with this E/S.
abbrev pub read_back : ℕ → List SessionStep
read_back es = read_scratchpad_steps (0x26 ∷ 0x00 ∷ es ∷ 0xA1 ∷ 0xA2 ∷ [])

-- 41: they are copied, with this E/S. The last pattern bit is the last of these events.
abbrev pub copied : ℕ → List SessionStep
copied es = skip (0x55 ∷ 0x26 ∷ 0x00 ∷ es ∷ [])

-- 33: read memory loads this target address, and no byte is read.
abbrev pub target_moved : ℕ → List SessionStep
target_moved target = skip (0xF0 ∷ target ∷ 0x00 ∷ [])

-- ---- two DS1992, the first with two bytes written

abbrev pub two_devices : List ℕ
two_devices =
    two_ds1992 (sram_body ds1992_code (0x26 ∷ 0x00 ∷ 0x07 ∷ []) two_bytes (zeros 128))
    (sram_body second_code (zeros 3) (zeros 32) (zeros 128))

-- 105: the first copies, by match ROM, and nothing was written to it in this trace.
abbrev pub copied_blindly : List SessionStep
copied_blindly = select ds1992_code (0x55 ∷ 0x26 ∷ 0x00 ∷ 0x07 ∷ [])

-- 17: both are given 0Fh.
abbrev pub both_commanded : List SessionStep
both_commanded = skip (0x0F ∷ [])

-- ---- the table

abbrev pub accepted_rows : List Recording
accepted_rows =
    recorded blank_ds1992 (two_written ++ read_back 0x07 ++ copied 0x07) Accepted
    -- A second copy is read back again, with AA.
    ∷ recorded blank_ds1992 (two_written ++ read_back 0x07 ++ copied 0x07 ++ read_back 0x87 ++ copied 0x87) Accepted
    -- A later read that is cut does no harm.
    ∷ recorded blank_ds1992
    (two_written ++ read_back 0x07 ++ read_scratchpad_steps (0x26 ∷ 0x00 ∷ []) ++ copied 0x07) Accepted
    -- A write that is cut before its 16th address bit is none, and does not end the one before it.
    ∷ recorded blank_ds1992 (two_written ++ read_back 0x07 ++ skip (0x0F ∷ 0x26 ∷ []) ++ copied 0x07) Accepted
    -- A target that read memory moves away and back (document 02, item 3) does no harm.
    ∷ recorded blank_ds1992
    (two_written ++ read_back 0x07 ++ target_moved 0x00 ++ target_moved 0x26 ++ copied 0x07) Accepted
    -- No bytes lie between T4:T0, which is 1Eh, and the ending offset 07h, so that the registers suffice.
    ∷ recorded blank_ds1992
    (two_written
    ++ target_moved 0x3E
    ++ read_scratchpad_steps (0x3E ∷ 0x00 ∷ 0x07 ∷ [])
    ++ skip (0x55 ∷ 0x3E ∷ 0x00 ∷ 0x07 ∷ []))
    Accepted
    -- What comes at overdrive in the middle of a read is passed over.
    ∷ recorded blank_ds1992
    (two_written
    ++ read_scratchpad_steps (0x26 ∷ 0x00 ∷ [])
    ++ (overdrive_write (0xA5 ∷ []) ∷ unheard_reset ∷ read (0x07 ∷ 0xA1 ∷ 0xA2 ∷ []) ∷ [])
    ++ copied 0x07)
    Accepted
    ∷ []

-- A: a recorded answer differs, a byte over 1 too.
abbrev pub answers_rows : List Recording
answers_rows =
    damaged blank_ds1992 two_written 0 1 (Broken Answers 0)
    ∷ damaged blank_ds1992 two_written 48 2 (Broken Answers 48)
    -- A later A goes before an earlier B.
    ∷ damaged two_devices (both_commanded ++ reset ∷ []) 17 1 (Broken Answers 17)
    ∷ []

-- B: two devices of different kinds are given 0Fh.
abbrev pub command_rows : List Recording
command_rows =
    recorded (written_both (zeros 3) (zeros 32)) both_commanded (Broken Command 16)
    -- The earlier of B and C is told.
    ∷ recorded two_devices (both_commanded ++ copied_blindly) (Broken Command 16)
    ∷ recorded two_devices (copied_blindly ++ both_commanded) (Broken Copy 104)
    ∷ []

-- C
abbrev pub copy_rows : List Recording
copy_rows =
    -- There is no write, no read since the write, or only a read before it.
    recorded (written 0x07) (read_back 0x07 ++ copied 0x07) (Broken Copy 97)
    ∷ recorded blank_ds1992 (two_written ++ copied 0x07) (Broken Copy 89)
    ∷ recorded (written 0x07) (read_back 0x07 ++ two_written ++ copied 0x07) (Broken Copy 146)
    -- A read is cut before the last byte, or the master disturbs that byte.
    ∷ recorded blank_ds1992
    (two_written ++ read_scratchpad_steps (0x26 ∷ 0x00 ∷ 0x07 ∷ 0xA1 ∷ []) ++ copied 0x07) (Broken Copy 138)
    ∷ recorded blank_ds1992
    (two_written ++ read_scratchpad_steps (0x26 ∷ 0x00 ∷ 0x07 ∷ 0xA1 ∷ []) ++ write (0x22 ∷ []) ∷ copied 0x07)
    (Broken Copy 146)
    -- The first copy set AA, which no read showed before the second.
    ∷ recorded blank_ds1992 (two_written ++ read_back 0x07 ++ copied 0x07 ++ copied 0x87) (Broken Copy 187)
    -- A second write ends within a byte, so that the reset after it sets PF. A read before PF changed can only stand
    -- before that write, and does not count for this reason too.
    ∷ recorded blank_ds1992
    (two_written ++ read_back 0x07 ++ skip (0x0F ∷ 0x26 ∷ 0x00 ∷ 0xA1 ∷ []) ++ write_bits 3 0xA2 ∷ copied 0x27)
    (Broken Copy 190)
    -- A target past the memory copies nothing, and its bytes are to be shown nevertheless.
    ∷ recorded blank_ds1992
    (skip (0x0F ∷ 0x86 ∷ 0x00 ∷ 0xA1 ∷ 0xA2 ∷ [])
    ++ read_scratchpad_steps (0x86 ∷ 0x00 ∷ 0x07 ∷ [])
    ++ skip (0x55 ∷ 0x86 ∷ 0x00 ∷ 0x07 ∷ []))
    (Broken Copy 130)
    ∷ []

abbrev pub table : List Recording
table = accepted_rows ++ answers_rows ++ command_rows ++ copy_rows

-- A DS1996 is written to, read back and copied at overdrive.
abbrev pub overdrive_row : Recording
overdrive_row =
    recorded blank_ds1996
    (overdrive_skip (0x0F ∷ 0x26 ∷ 0x00 ∷ 0xA1 ∷ 0xA2 ∷ [])
    ++ overdrive_read_back (0x26 ∷ 0x00 ∷ 0x07 ∷ 0xA1 ∷ 0xA2 ∷ [])
    ++ overdrive_reset
    ∷ overdrive_write (0xCC ∷ 0x55 ∷ 0x26 ∷ 0x00 ∷ 0x07 ∷ [])
    ∷ [])
    Accepted

-- Every recording has its verdict.
pub record Judged : Type 0 where
  pub rows : Every table
  pub at-overdrive : Right overdrive_row
