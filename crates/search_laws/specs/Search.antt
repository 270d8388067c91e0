-- Document 01, 'The searching master', is stated here for the search: it is the master's step driven by the levels of
-- the bus and nothing else.
use Rattle.std.specs.Prelude.{ℕ, zero, suc, ◌*◌, List, [], ◌∷◌, ◌++◌}
use Rattle.bits.specs.Bit.{level_byte}
use Rattle.master.specs.declared.Master.{Master}
use Rattle.master.specs.Master.{most_passes, AnswerValue, event, end, master_answer, next_master}
use Rattle.master.specs.Drive.{started_master, code_completed, pass_events}
use Rattle.bus.specs.Bus.{Device, event_of, bus_step}
use Rattle.bus.specs.Run.{waiting_devices}

-- A search has the trace that it sent, the levels that the master saw, the bytes of the completed codes, and the master
-- and the devices that are left.
pub record Search : Type 0 where
  pub trace : List ℕ
  pub levels : List ℕ
  pub codes : List ℕ
  pub master : Master
  pub devices : List Device

unfoldable pub search_stopped : Master → List Device → Search
search_stopped m ds = record { trace = []; levels = []; codes = []; master = m; devices = ds }

-- An event, its level, and the code that the step given that level completed, if any, come before the rest of the
-- search.
unfoldable pub search_preceded : ℕ → ℕ → List ℕ → Search → Search
search_preceded e level code rest =
    record {
      trace = e ∷ rest.trace;
      levels = level ∷ rest.levels;
      codes = code
          ++ rest.codes;
      master = rest.master;
      devices = rest.devices;
    }

-- An event that the master answers goes to the devices as the one before left them, and the level that they answered
-- goes to the master's next step. At the master's end the search stops.
unfoldable pub search_exchange : AnswerValue → Master → List Device → (Master → List Device → Search) → Search
search_exchange (end number) m ds rest = search_stopped m ds
search_exchange (event e) m ds rest =
    let bus = bus_step (event_of e) ds in
    let level = level_byte bus.level in
    search_preceded e level (code_completed m.passes (next_master m level)) (rest (next_master m level) bus.devices)

-- A search sends at most as many events as this number, which makes the recursion end.
unfoldable pub search_from : ℕ → Master → List Device → Search
search_from zero m ds = search_stopped m ds
search_from (suc most) m ds = search_exchange (master_answer m) m ds (search_from most)

-- A master sends no more events than 64 passes have, whatever levels it is given.
abbrev pub most_events : ℕ
most_events = most_passes * pass_events

-- A search begins with a fresh master, whose first step is given any level, and with every device waiting.
unfoldable pub search_of : List ℕ → Search
search_of image = search_from most_events started_master (waiting_devices image)
