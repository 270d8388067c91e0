-- Document 01, 'Shop-floor examples', and document 02, items 4 and 6, are stated here as rows of a table. A row is
-- right if the definitions of the run and of the search say just what it does.
use Rattle.std.specs.Prelude.{ℕ, ◌≡◌, List, [], ◌∷◌, ◌++◌, length, replicate}
use Rattle.line.specs.declared.Transfer.{Transfer}
use Rattle.line.specs.Transfers.{at_rom_command, at_memory_command}
use Rattle.image.specs.Image.{count_of}
use Rattle.image.specs.Refusal.{image_refusal}
use Rattle.device.specs.declared.LineState.{LineState}
use Rattle.device.specs.Device.{regular_state}
use Rattle.bus.specs.Run.{run_result, run_outcome, run_of}
use Rattle.master.specs.Master.{end, master_answer}
use Rattle.search_laws.specs.Search.{search_of}
use Rattle.example_laws.specs.Session.{SessionStep, reset, bits_of, events_of_steps, levels_of_steps}

pub data Row : Type 0 where
  -- A run has the image, the trace, the answers, the image afterwards, the transfer in which it leaves every device,
  -- and the bytes copied.
  run : List ℕ → List ℕ → List ℕ → List ℕ → Transfer → ℕ → Row
  -- A run that is refused has the image, the trace, and the number of the refusal.
  refused : List ℕ → List ℕ → ℕ → Row
  -- A search has the image, the codes in the order in which they are found, and the number of events.
  search : List ℕ → List (List ℕ) → ℕ → Row

-- A session ends with a reset, which puts every device at the ROM command. Its copies write so many bytes, or it has
-- none that writes any.
abbrev pub copying : List ℕ → List SessionStep → List ℕ → ℕ → Row
copying image steps after copied =
    run image (events_of_steps (steps ++ reset ∷ [])) (levels_of_steps (steps ++ reset ∷ [])) after at_rom_command
    copied

abbrev pub session : List ℕ → List SessionStep → List ℕ → Row
session image steps after = copying image steps after 0

-- ---- a run

-- The run is lent just the room that refusal 7 asks for; what was in it before is overwritten.
abbrev pub lent_answers : List ℕ → List ℕ
lent_answers sent = replicate (length sent) 7

abbrev pub lent_lines : List ℕ → List LineState
lent_lines image = replicate (count_of image) (regular_state at_memory_command)

-- The run is not refused, copies so many bytes, and leaves this image, these answers, and every line state in this
-- transfer, at regular speed.
abbrev pub Runs : List ℕ → List ℕ → List ℕ → List ℕ → Transfer → ℕ → Type 0
Runs image sent seen after transfer copied =
    run_of image sent (lent_answers sent) (lent_lines image)
    ≡ run_outcome (run_result 0 copied) after seen (replicate (count_of image) (regular_state transfer))

-- The run is refused with this number, copies nothing, and nothing of what was lent changes.
abbrev pub Refuses : List ℕ → List ℕ → ℕ → Type 0
Refuses image sent number =
    run_of image sent (lent_answers sent) (lent_lines image)
    ≡ run_outcome (run_result number 0) image (lent_answers sent) (lent_lines image)

-- ---- a search

-- Each bit of a code has two read slots and one direction.
abbrev pub directed : List ℕ → List ℕ
directed [] = []
directed (bit ∷ bits) = 1 ∷ 1 ∷ bit ∷ directed bits

-- A pass is a reset, F0h, then the bits of the code that it finds.
abbrev pub pass_of : List ℕ → List ℕ
pass_of code = 2 ∷ bits_of (0xF0 ∷ []) ++ directed (bits_of code)

abbrev pub passes_of : List (List ℕ) → List ℕ
passes_of [] = []
passes_of (code ∷ codes) = pass_of code ++ passes_of codes

abbrev pub joined : List (List ℕ) → List ℕ
joined [] = []
joined (code ∷ codes) = code ++ joined codes

-- The image is not refused; its search finds these codes, each in a pass of its own, and ends with no number.
pub record Finds (image : List ℕ) (codes : List (List ℕ)) (events : ℕ) : Type 0 where
  pub accepted : image_refusal image ≡ 0
  pub codes-are : (search_of image).codes ≡ joined codes
  pub trace-is : (search_of image).trace ≡ passes_of codes
  pub events-are : length (search_of image).trace ≡ events
  pub ended : master_answer (search_of image).master ≡ end 0

-- ---- the table

abbrev pub Right : Row → Type 0
Right (run image sent seen after transfer copied) = Runs image sent seen after transfer copied
Right (refused image sent number) = Refuses image sent number
Right (search image codes events) = Finds image codes events

-- Every row of a table is right.
infixr 5 ◌and◌
pub data Every : List Row → Type 0 where
  none : Every []
  ◌and◌ : {row : Row} {rows : List Row} → Right row → Every rows → Every (row ∷ rows)
