-- The loops of `step_all`: the line states after the turns of the first i devices, and that they are those that `turn_states_of` names.
-- Assumes nothing.
use Prim.Native.Nat.{ℕ, zero, suc, ◌+◌, ◌≤◌}
use mathlib.Core.Path.{◌≡◌, refl, sym, ap, ◌∙◌}
use mathlib.Core.Bool.{Bool, true, false, cond}
use mathlib.Core.List.{List, [], ◌∷◌, ◌++◌}
use native.Mathlib.Omega.{arith}
use lib.ListN.{length, set, take, drop, length-set, drop_of_length-le}
use lib.Seq.{length-take-le, take-suc, drop-cons, drop-length, get_or_at, set_at, append_snoc}
use lib.Dec.{ltb}
use borrow.Author.Tests.{ltb-false}
use Rattle.device.specs.declared.LineState.{LineState}
use Rattle.device.specs.Device.{waiting_state}
use Rattle.bus.specs.Loops.{turn_state, turn_states_from, line_at, fewer_of, turn_states_of}
use Rattle.bus.proofs.Laws.{fewer-second}
use Rattle.bus.proofs.Levels.{fewer-take}

module _ (image : List ℕ) (byte : ℕ) (level : Bool) where
  -- the line states after the turns of the first i devices
  unfoldable pub steps : ℕ → List LineState → List LineState
  steps zero lines = lines
  steps (suc i) lines = set (steps i lines) i (turn_state image i (line_at (steps i lines) i) byte level)

  pub steps-length : (i : ℕ) (lines : List LineState) → length (steps i lines) ≡ length lines
  unfolding steps
  steps-length zero lines = refl
  steps-length (suc i) lines = length-set (steps i lines) i _ ∙ steps-length i lines

  abbrev turned : ℕ → List LineState → List LineState
  turned j states = turn_states_from image j states byte level

  turned-length : (j : ℕ) (states : List LineState) → length (turned j states) ≡ length states
  unfolding turn_states_from
  turned-length j [] = refl
  turned-length j (s ∷ states) = ap suc (turned-length (suc j) states)

  -- the turn of one more
  turned_more : (j : ℕ) (states : List LineState) (state : LineState)
      → turned j (states ++ state ∷ []) ≡ turned j states ++ turn_state image (j + length states) state byte level ∷ []
  unfolding turn_states_from
  turned_more j [] state =
      let e : j ≡ j + 0 = omega arith in
      ap (λ (k : ℕ). turn_state image k state byte level ∷ []) e
  turned_more j (s ∷ states) state =
      let e : suc j + length states ≡ j + suc (length states) = omega arith in
      ap (λ (l : List LineState). turn_state image j s byte level ∷ l)
      (turned_more (suc j) states state ∙ ap (λ (k : ℕ). turned (suc j) states ++ turn_state image k state byte level ∷ []) e)

  pub steps-upto : (i : ℕ) (lines : List LineState) → i ≤ length lines → steps i lines ≡ turn_states_of image lines i byte level
  unfolding steps turn_states_from turn_states_of
  steps-upto zero lines h = refl
  steps-upto (suc i) lines h =
      let state = line_at lines i in
      let before = turned 0 (take i lines) in
      let rest = drop (suc i) lines in
      let next = turn_state image i state byte level in
      let taken : length (take i lines) ≡ i = length-take-le i lines (omega arith) in
      let len : length before ≡ i = turned-length 0 (take i lines) ∙ taken in
      let now : steps i lines ≡ before ++ state ∷ rest =
      steps-upto i lines (omega arith) ∙ ap (λ (l : List LineState). before ++ l) (drop-cons lines i waiting_state h) in
      let here : line_at (steps i lines) i ≡ state = ap (λ (l : List LineState). line_at l i) now ∙ get_or_at before state rest waiting_state i len in
      let index : 0 + length (take i lines) ≡ i = omega (arith, taken) in
      let more : turned 0 (take (suc i) lines) ≡ before ++ next ∷ [] =
      ap (turned 0) (take-suc lines i waiting_state h)
      ∙ turned_more 0 (take i lines) state
      ∙ ap (λ (k : ℕ). before ++ turn_state image k state byte level ∷ []) index in
      ap (λ (s : LineState). set (steps i lines) i (turn_state image i s byte level)) here
      ∙ ap (λ (l : List LineState). set l i next) now
      ∙ set_at before state rest next i len
      ∙ sym (append_snoc before next rest)
      ∙ ap (λ (l : List LineState). l ++ rest) (sym more)

fewer-drop : (lines : List LineState) (n : ℕ) (b : Bool) → ltb n (length lines) ≡ b → drop (cond b n (length lines)) lines ≡ drop n lines
fewer-drop lines n true e = refl
fewer-drop lines n false e = drop-length lines ∙ sym (drop_of_length-le lines (ltb-false n (length lines) e))

-- as many line states are lent, or fewer
pub states-fewer : (image : List ℕ) (lines : List LineState) (n byte : ℕ) (level : Bool)
    → turn_states_of image lines (fewer_of n (length lines)) byte level ≡ turn_states_of image lines n byte level
unfolding turn_states_of fewer_of
states-fewer image lines n byte level =
    let b = ltb n (length lines) in
    ap (λ (l : List LineState). turn_states_from image 0 l byte level ++ drop (fewer_of n (length lines)) lines) (fewer-take lines n b refl)
    ∙ ap (λ (l : List LineState). turn_states_from image 0 (take n lines) byte level ++ l) (fewer-drop lines n b refl)

-- there are as many as before
pub states-length : (image : List ℕ) (lines : List LineState) (n byte : ℕ) (level : Bool) → length (turn_states_of image lines n byte level) ≡ length lines
states-length image lines n byte level =
    let m = fewer_of n (length lines) in
    sym (ap length (steps-upto image byte level m lines (fewer-second n (length lines)) ∙ states-fewer image lines n byte level)) ∙ steps-length image byte level m lines
