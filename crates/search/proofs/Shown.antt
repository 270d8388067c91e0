-- What the code of `search` leaves is what its contract says. Assumes nothing.
use Prim.Native.Nat.{ℕ, zero, suc, ◌*◌, ◌≤◌}
use mathlib.Core.Path.{◌≡◌, refl, sym, ap, subst, ◌∙◌}
use mathlib.Core.Bool.{Bool, true, false, cond, ◌||◌, true≢false, not}
use mathlib.Core.List.{List, [], ◌∷◌, ◌++◌}
use native.Mathlib.Omega.{arith}
use lib.ListN.{length, take, drop, replicate, length-replicate}
use lib.Seq.{take_at, drop_at}
use lib.Dec.{T, eqb, ltb}
use borrow.Author.Tests.{ltb-false}
use Rattle.image.proofs.Counted.{some_refusal}
use Rattle.image.specs.Image.{count_of}
use Rattle.image.specs.Refusal.{cause, image_causes, image_refusal}
use Rattle.device.specs.declared.LineState.{LineState}
use Rattle.device.specs.Device.{waiting_state}
use Rattle.master.specs.Master.{code_bytes}
use Rattle.master.specs.Drive.{written_over}
use Rattle.bus.specs.Run.{states_of}
use Rattle.bus.specs.Loops.{fewer_of, filled_up_to}
use Rattle.bus.proofs.Laws.{none_first, filled-length, fewer-first}
use Rattle.bus.proofs.Shown.{filled_is}
use Rattle.search_laws.specs.Search.{search_of}
use Rattle.search_laws.specs.Searched.{Searched, events_for}
use Rattle.search_laws.specs.Words.{Bytes, passes_in, resets_in, slots_in}
use Rattle.search_laws.proofs.Demand.{searched}
use Rattle.std.specs.Prelude.{Err}
use Rattle.image.specs.declared.Refusal.{Refusal}
use Rattle.image.specs.Refusal.{refusal_number}
use Rattle.search.specs.Refusal.{no_search_room, search_causes, search_refusal}
use Rattle.search.specs.Found.{found_in, search_told, SearchTold, SearchOutcome, search_outcome, SearchLeaves, left_by_search, search_outcome_at, search_outcome_of}
use Rattle.search.specs.Loops.{Ready}
use Rattle.search.proofs.Counts.{room-decides}

-- ---- what is not refused

neither : (a b : Bool) → (a || b) ≡ false → (a ≡ false) × (b ≡ false)
neither true b e = absurd (true≢false e)
neither false b e = (refl, e)

clear : (a : Bool) → ◌≡◌ {A = ℕ} (cond a 7 0) 0 → a ≡ false
clear true e = absurd (omega arith)
clear false e = refl

module _ (image codes trace : List ℕ) (lines : List LineState) where
  abbrev number : ℕ
  number = search_refusal image (length codes) (length trace) (length lines)

  abbrev n : ℕ
  n = count_of image

  -- the line states as they start
  abbrev pub begun : List LineState
  begun = filled_up_to (fewer_of n (length lines)) waiting_state lines

  accepted : number ≡ 0 → image_refusal image ≡ 0
  unfolding search_refusal search_causes image_refusal
  accepted e = none_first (image_causes image) (cause 7 (no_search_room image (length codes) (length trace) (length lines)) ∷ []) e

  room : number ≡ 0 → (code_bytes * n ≤ length codes) × (events_for n ≤ length trace) × (n ≤ length lines)
  unfolding no_search_room
  room e =
      let none = clear (no_search_room image (length codes) (length trace) (length lines)) (sym (room-decides image (length codes) (length trace) (length lines) (accepted e)) ∙ e) in
      let first = neither (ltb (length codes) (code_bytes * n) || ltb (length trace) (events_for n)) (ltb (length lines) n) none in
      let second = neither (ltb (length codes) (code_bytes * n)) (ltb (length trace) (events_for n)) first.0 in
      (ltb-false (length codes) (code_bytes * n) second.0, ltb-false (length trace) (events_for n) second.1, ltb-false (length lines) n first.1)

  begun-is : number ≡ 0 → begun ≡ replicate n waiting_state ++ drop n lines
  begun-is e =
      ap (λ (m : ℕ). filled_up_to m waiting_state lines) (fewer-first n (length lines) (room e).2) ∙ filled_is n waiting_state lines (room e).2

  pub begun-length : length begun ≡ length lines
  begun-length = filled-length (fewer_of n (length lines)) waiting_state lines

  pub ready : Bytes image → number ≡ 0 → Ready image codes trace begun
  ready bytes e = record {
    bytes = bytes;
    accepted = accepted e;
    code-room = (room e).0;
    trace-room = (room e).1;
    line-room = subst (λ (m : ℕ). n ≤ m) (sym begun-length) (room e).2;
    waiting = ap (take n) (begun-is e) ∙ take_at (replicate n waiting_state) (drop n lines) n (length-replicate n waiting_state);
  }

  pub claim : Bytes image → number ≡ 0 → Searched image (search_of image)
  claim bytes e = searched image bytes (accepted e)

  -- ---- what is left

  pub shown : number ≡ 0
      → search_outcome (found_in 0 (take (length (search_of image).trace) (written_over (search_of image).trace trace))) (written_over (search_of image).codes codes) (written_over (search_of image).trace trace) (states_of (search_of image).devices ++ drop n begun)
      ≡ search_outcome_of image codes trace lines
  unfolding search_outcome_of search_outcome_at left_by_search
  shown e =
      let S = search_of image in
      let rest : drop n begun ≡ drop n lines = ap (drop n) (begun-is e) ∙ drop_at (replicate n waiting_state) (drop n lines) n (length-replicate n waiting_state) in
      ap (λ (t : List ℕ). search_outcome (found_in 0 t) (written_over S.codes codes) (written_over S.trace trace) (states_of S.devices ++ drop n begun)) (take_at S.trace (drop (length S.trace) trace) (length S.trace) refl)
      ∙ ap (λ (l : List LineState). search_outcome (found_in 0 S.trace) (written_over S.codes codes) (written_over S.trace trace) (states_of S.devices ++ l)) rest
      ∙ ap (λ (m : ℕ). search_outcome_at m image codes trace lines) (sym e)

  -- a refusal is told by its number, and nothing is counted
  refused-at : (m : ℕ) → T (not (eqb m 0)) → search_outcome (found_in m (take 0 trace)) codes trace lines ≡ search_outcome_at m image codes trace lines
  unfolding search_outcome_at
  refused-at zero t = absurd t
  refused-at (suc m) t = refl

  -- an `Err` tells its refusal's number, which is not 0
  refusal-at : (e : Refusal) → search_outcome (search_told (Err e)) codes trace lines ≡ search_outcome_at (refusal_number e) image codes trace lines
  unfolding search_told found_in passes_in resets_in slots_in
  refusal-at e = refused-at (refusal_number e) (some_refusal e)

  pub refused : (e : Refusal) → refusal_number e ≡ number → search_outcome (search_told (Err e)) codes trace lines ≡ search_outcome_of image codes trace lines
  unfolding search_outcome_of
  refused e h = refusal-at e ∙ ap (λ (m : ℕ). search_outcome_at m image codes trace lines) h

-- what a search left, as one equation and as an equation for each thing
pub leaves : (left : SearchOutcome) (found : SearchTold) (codes trace : List ℕ) (lines : List LineState) → search_outcome found codes trace lines ≡ left → SearchLeaves left found codes trace lines
leaves left found codes trace lines e = record {
  found-is = ap (λ (o : SearchOutcome). o.found) e;
  codes-are = ap (λ (o : SearchOutcome). o.codes) e;
  trace-is = ap (λ (o : SearchOutcome). o.trace) e;
  lines_are = ap (λ (o : SearchOutcome). o.lines) e;
}

pub left_is : (left : SearchOutcome) (found : SearchTold) (codes trace : List ℕ) (lines : List LineState) → SearchLeaves left found codes trace lines → search_outcome found codes trace lines ≡ left
left_is left found codes trace lines l = λ i. search_outcome (l.found-is i) (l.codes-are i) (l.trace-is i) (l.lines_are i)
