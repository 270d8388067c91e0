-- Nothing here is from document 01: these definitions say what the functions of `src/` below `search` do and ask for. A
-- reader of what a search does can skip them.
use Rattle.std.specs.Prelude.{ℕ, ◌*◌, ◌≤◌, ◌≡◌, List, length, take, replicate}
use Rattle.image.specs.Image.{count_of}
use Rattle.image.specs.Refusal.{image_refusal}
use Rattle.device.specs.declared.LineState.{LineState}
use Rattle.device.specs.Device.{waiting_state}
use Rattle.master.specs.Master.{code_bytes}
use Rattle.search_laws.specs.Words.{Bytes}
use Rattle.search_laws.specs.Searched.{events_for}

-- The exchanges ask for an image that is not refused, room, and every device waiting.
pub record Ready (image codes trace : List ℕ) (lines : List LineState) : Type 0 where
  pub bytes : Bytes image
  pub accepted : image_refusal image ≡ 0
  pub code-room : code_bytes * count_of image ≤ length codes
  pub trace-room : events_for (count_of image) ≤ length trace
  pub line-room : count_of image ≤ length lines
  pub waiting : take (count_of image) lines ≡ replicate (count_of image) waiting_state
