-- Document 01, 'Shop-floor examples, to be proved together', is stated here as a single statement; with a flat battery
-- (document 02, item 7) a device waits where others are at the memory command.
use Rattle.std.specs.Prelude.{ℕ, zero, suc, ◌≤◌, ◌≡◌, cond, List, [], ◌∷◌, ◌++◌, length, drop, replicate, eqb}
use Rattle.image.specs.Image.{count_of, kind_at}
use Rattle.image.specs.Refusal.{image_refusal}
use Rattle.rom.specs.Rom.{addressed}
use Rattle.device.specs.declared.LineState.{LineState}
use Rattle.device.specs.Device.{regular_state, waiting_state}
use Rattle.bus.specs.Run.{run_result, run_outcome, run_of}
use Rattle.example_laws.specs.Row.{Every}
use Rattle.example_laws.specs.Table.{skip_rom, skip_answers, table}

-- The presence level is 0 if there is a device, else 1.
abbrev pub presence_of : List ℕ → ℕ
presence_of image = cond (eqb (count_of image) 0) 1 0

-- Each of n devices from entry i on is addressed.
abbrev pub addressed_from : List ℕ → ℕ → ℕ → List LineState
addressed_from image i zero = []
addressed_from image i (suc n) = regular_state (addressed (kind_at image i)) ∷ addressed_from image (suc i) n

pub record Examples : Type 0 where
  pub rows : Every table
  -- Example 1 holds for every accepted image, of any number of devices of any kinds: with one device or more the first
  -- answer is 0, with none it is 1.
  pub skip-rom : (image answers : List ℕ) (lines : List LineState) → image_refusal image ≡ 0
      → length skip_rom ≤ length answers → count_of image ≤ length lines
      → run_of image skip_rom answers lines
      ≡ run_outcome (run_result 0 0) image (skip_answers (presence_of image) ++ drop (length skip_rom) answers)
      (addressed_from image 0 (count_of image) ++ drop (count_of image) lines)
  -- Example 2 holds for every accepted image.
  pub empty-trace : (image answers : List ℕ) (lines : List LineState) → image_refusal image ≡ 0
      → count_of image ≤ length lines
      → run_of image [] answers lines
      ≡ run_outcome (run_result 0 0) image answers
      (replicate (count_of image) waiting_state ++ drop (count_of image) lines)
