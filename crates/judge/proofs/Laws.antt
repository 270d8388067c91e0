-- Laws that the proofs of this crate cite. Assumes nothing.
use Prim.Native.Nat.{ℕ, zero, suc, ◌+◌, ◌-◌, ◌<◌, ◌≤◌}
use mathlib.Core.Path.{◌≡◌, refl, sym, ap, ◌∙◌}
use mathlib.Core.Bool.{Bool, true, false, not, cond, ◌&&◌, ◌||◌, true≢false, beq}
use mathlib.Core.List.{List, [], ◌∷◌}
use native.Mathlib.Omega.{arith}
use native.Mathlib.Numerals.{add-one}
use lib.ListN.{length, get_or}
use lib.Dec.{eqb, ltb, lit<}
use borrow.Author.Tests.{ltb-true, ltb-false, le-ltb, lt-ltb}
use Rattle.kind.specs.declared.Kind.{Kind}
use Rattle.device.specs.declared.LineState.{LineState}
use Rattle.image.specs.Image.{count_of}
use Rattle.image.specs.Refusal.{cause, first_cause, image_causes, image_refusal}
use Rattle.bus.specs.Refusal.{bad_trace, no_first_reset, bad_pulse, no_run_room, run_causes, run_refusal}
use Rattle.bus.proofs.Laws.{first_some, first-none, run-causes, admitted, turns-image-length, turns-lines-length}
use Rattle.recording.specs.Recorded.{level_at}
use Rattle.judge.specs.Refusal.{no_judge_room, judge_causes, judge_refusal}
use Rattle.judge.specs.declared.Part.{Part}
use Rattle.judge.specs.declared.Back.{Back}
use Rattle.judge.specs.Loops.{slot_at, passed_at, line_next, wanted_bit, goes_on_at, bits_in, shown_from, part_at, part_over}
use Rattle.line.specs.declared.Stage.{Stage}
use Rattle.line.specs.declared.Stage.TheVariants.{Rom, Memory}
use Rattle.line.specs.Transfers.{goes_on, received}
use Rattle.bus.specs.Loops.{place_in, line_at, level_on, bus_state}
use Rattle.judge.specs.Loops.{JudgeState, judge_event_at, judge_events_up_to}
use Rattle.judge.specs.declared.Doing.{Doing}
use Rattle.judge.specs.declared.Doing.TheVariants.{Command, Address, Pattern, Other}
use Rattle.judge.specs.declared.Seen.{Seen}
use Rattle.judge.specs.Loops.{doing_of, careless_at, seen_by, seen_with, at_memory, seen_up_to}
use Rattle.judge.specs.Loops.{back_at, back_from, careful_by}
use Rattle.judge.specs.declared.Verdict.{Verdict}
use Rattle.judge.specs.declared.Verdict.TheVariants.{Accepted, Broken, Refused}
use Rattle.judge.specs.Loops.{verdict_next, still_looked_at}

-- ---- the part of a trace

module _ (trace answers : List ℕ) (kind : Kind) (body : List ℕ) (end : ℕ) where
  -- one event of it
  pub part_step : (state : LineState) (part : Part) (k : ℕ) → k < end
      → part_over trace answers kind body end state part k (end - k)
      ≡ part_over trace answers kind body end (line_next trace answers kind body k state) (part_at trace answers body end k state part) (k + 1) (end - (k + 1))
  unfolding part_over
  part_step state part k h =
      let e : end - k ≡ suc (end - suc k) = omega arith in
      rw (e, add-one)

  pub part_end : (state : LineState) (part : Part) (k : ℕ) → end ≤ k → part_over trace answers kind body end state part k (end - k) ≡ part
  unfolding part_over
  part_end state part k h =
      let e : end - k ≡ 0 = omega arith in
      rw e

-- ---- the bits that were shown

and_left : (a b : Bool) → (a && b) ≡ true → a ≡ true
and_left true b e = refl
and_left false b e = e

and_right : (a b : Bool) → (a && b) ≡ true → b ≡ true
and_right true b e = e
and_right false b e = absurd (true≢false (sym e))

module _ (trace answers body : List ℕ) (overdrive : Bool) (end : ℕ) where
  abbrev shown : ℕ → ℕ → ℕ → ℕ → Bool
  shown at due k left = shown_from trace answers body overdrive at due k left

  shown-choose : (k at due left : ℕ) (s b p : Bool) → cond s b p ≡ true
      → cond s (b && shown (suc at) due (suc k) left) (p && shown at (suc due) (suc k) left)
      ≡ shown (at + cond s 1 0) (suc due - cond s 1 0) (suc k) left
  shown-choose k at due left true true p e =
      let x : suc at ≡ at + 1 = omega arith in
      let y : due ≡ suc due - 1 = omega arith in
      (λ i. shown (x i) (y i) (suc k) left)
  shown-choose k at due left true false p e = absurd (true≢false (sym e))
  shown-choose k at due left false b true e =
      let x : at ≡ at + 0 = omega arith in
      let y : suc due ≡ suc due - 0 = omega arith in
      (λ i. shown (x i) (y i) (suc k) left)
  shown-choose k at due left false b false e = absurd (true≢false (sym e))

  pub shown-step : (k at due : ℕ) → k < end → 0 < due → goes_on_at trace answers body overdrive k at ≡ true
      → shown at due k (end - k)
      ≡ shown (at + bits_in (get_or trace k 0) overdrive) (due - bits_in (get_or trace k 0) overdrive) (k + 1) (end - (k + 1))
  unfolding shown_from goes_on_at bits_in
  shown-step k at zero small h e = absurd (omega arith)
  shown-step k at (suc due) small h e =
      let n : end - k ≡ suc (end - suc k) = omega (arith, small) in
      ap (shown at (suc due) k) n
      ∙ shown-choose k at due (end - suc k) (slot_at (get_or trace k 0) overdrive) (beq (level_at answers k) (wanted_bit body at)) (passed_at (get_or trace k 0) overdrive) e
      ∙ (λ i. shown (at + cond (slot_at (get_or trace k 0) overdrive) 1 0) (suc due - cond (slot_at (get_or trace k 0) overdrive) 1 0) (sym (add-one k) i) (end - sym (add-one k) i))

  shown-none : (k at due left : ℕ) (s b p : Bool) → cond s b p ≡ false
      → cond s (b && shown (suc at) due (suc k) left) (p && shown at (suc due) (suc k) left) ≡ false
  shown-none k at due left true true p e = absurd (true≢false e)
  shown-none k at due left true false p e = refl
  shown-none k at due left false b true e = absurd (true≢false e)
  shown-none k at due left false b false e = refl

  -- a read that does not go on, or that comes to the end, has shown too little
  pub shown-stop : (k at due : ℕ) → 0 < due → (ltb k end && goes_on_at trace answers body overdrive k at) ≡ false → shown at due k (end - k) ≡ false
  unfolding shown_from goes_on_at
  shown-stop k at zero h e = absurd (omega arith)
  shown-stop k at (suc due) h e = choose (ltb k end) refl
    where
      choose : (x : Bool) → ltb k end ≡ x → shown at (suc due) k (end - k) ≡ false
      choose true f =
          let small : k < end = ltb-true k end f in
          let n : end - k ≡ suc (end - suc k) = omega (arith, small) in
          ap (shown at (suc due) k) n
          ∙ shown-none k at due (end - suc k) (slot_at (get_or trace k 0) overdrive) (beq (level_at answers k) (wanted_bit body at)) (passed_at (get_or trace k 0) overdrive)
          (sym (ap (λ (x : Bool). x && cond (slot_at (get_or trace k 0) overdrive) (beq (level_at answers k) (wanted_bit body at)) (passed_at (get_or trace k 0) overdrive)) f) ∙ e)
      choose false f =
          let n : end - k ≡ 0 = omega (arith, ltb-false k end f) in
          ap (shown at (suc due) k) n

  pub shown-short : (k at due : ℕ) → end ≤ k → 0 < due → shown at due k (end - k) ≡ false
  shown-short k at due late h =
      shown-stop k at due h (ap (λ (x : Bool). x && goes_on_at trace answers body overdrive k at) (le-ltb k end late))

  pub shown-broken : (k at due : ℕ) → k < end → 0 < due → goes_on_at trace answers body overdrive k at ≡ false → shown at due k (end - k) ≡ false
  shown-broken k at due small h e =
      shown-stop k at due h (ap (λ (x : Bool). x && goes_on_at trace answers body overdrive k at) (lt-ltb k end small) ∙ e)

  pub shown-all : (k at due left : ℕ) → due ≡ 0 → shown at due k left ≡ true
  unfolding shown_from
  shown-all k at due left e = rw e

-- ---- the walk back

module _ (trace answers : List ℕ) (kind : Kind) (body : List ℕ) where
  pub back_step : (j : ℕ) (back : Back) → 0 < j → back.decided ≡ false
      → back_from trace answers kind body j back ≡ back_from trace answers kind body (j - 1) (back_at trace answers kind body (j - 1) back)
  unfolding back_from
  back_step zero back h e = absurd (omega arith)
  back_step (suc j) back h e =
      let n : suc j - 1 ≡ j = omega arith in
      rw n (rw e refl)

  -- the walk stops where it has decided, and before the first event
  pub back_end : (j : ℕ) (back : Back) → (ltb 0 j && not back.decided) ≡ false → back_from trace answers kind body j back ≡ back
  unfolding back_from
  back_end zero back e = refl
  back_end (suc j) back e =
      let some : ltb 0 (suc j) ≡ true = lt-ltb 0 (suc j) (omega arith) in
      split back.decided (rw some at e)
    where
      split : (b : Bool) → (true && not b) ≡ false
          → cond b back (back_from trace answers kind body j (back_at trace answers kind body j back)) ≡ back
      split true e = refl
      split false e = absurd (true≢false e)

  pub back_done : (j : ℕ) (back : Back) → back.decided ≡ true → careful_by (back_from trace answers kind body j back) ≡ back.shown
  unfolding careful_by
  back_done j back e =
      ap careful_by (back_end j back (ap (λ (b : Bool). ltb 0 j && not b) e ∙ never (ltb 0 j))) ∙ ap (λ (b : Bool). b && back.shown) e
    where
      never : (b : Bool) → (b && false) ≡ false
      never true = refl
      never false = refl

  -- before the first event there is no write
  pub back_none : (j : ℕ) (back : Back) → j ≡ 0 → back.decided ≡ false → careful_by (back_from trace answers kind body j back) ≡ false
  unfolding careful_by
  back_none j back n e =
      ap careful_by (back_end j back (ap (λ (m : ℕ). ltb 0 m && not back.decided) n)) ∙ ap (λ (b : Bool). b && back.shown) e

-- ---- why a recording is not judged

abbrev chain : Bool → Bool → Bool → Bool → ℕ
chain a b c d = cond a 5 (cond b 11 (cond c 6 (cond d 7 0)))

same-chain : (a b c d p q : Bool) → (chain a b c d ≡ 0 → ⊥) → chain a b c (p || q || d) ≡ chain a b c d
same-chain true b c d p q h = refl
same-chain false true c d p q h = refl
same-chain false false true d p q h = refl
same-chain false false false true true q h = refl
same-chain false false false true false true h = refl
same-chain false false false true false false h = refl
same-chain false false false false p q h = absurd (h refl)

rest-chain : (a b c d p q : Bool) → chain a b c d ≡ 0 → chain a b c (p || q || d) ≡ cond p 7 (cond q 7 0)
rest-chain true b c d p q h = absurd (omega arith)
rest-chain false true c d p q h = absurd (omega arith)
rest-chain false false true d p q h = absurd (omega arith)
rest-chain false false false true p q h = absurd (omega arith)
rest-chain false false false false true q h = refl
rest-chain false false false false false true h = refl
rest-chain false false false false false false h = refl

zero-suc : {m : ℕ} → 0 ≡ suc m → ⊥
zero-suc e = absurd (omega (arith, e))

-- an image that is refused gives both numbers
both_first : (image trace : List ℕ) (answers work lines : ℕ) → (image_refusal image ≡ 0 → ⊥)
    → judge_refusal image trace answers work lines ≡ run_refusal image trace (length trace) lines
unfolding judge_refusal judge_causes run_refusal run_causes image_refusal
both_first image trace answers work lines h = first_some (image_causes image) _ h ∙ sym (first_some (image_causes image) _ h)

module _ (image trace : List ℕ) (answers work lines : ℕ) where
  abbrev run-number : ℕ
  run-number = run_refusal image trace (length trace) lines

  run-chain : image_refusal image ≡ 0 → run-number ≡ chain (bad_trace trace) (no_first_reset trace) (bad_pulse image trace) (ltb lines (count_of image))
  unfolding no_run_room
  run-chain h =
      let e : ltb (length trace) (length trace) ≡ false = le-ltb (length trace) (length trace) (omega arith) in
      run-causes image trace (length trace) lines h
      ∙ ap (λ (b : Bool). chain (bad_trace trace) (no_first_reset trace) (bad_pulse image trace) (b || ltb lines (count_of image))) e

  judge-chain : image_refusal image ≡ 0
      → judge_refusal image trace answers work lines
      ≡ chain (bad_trace trace) (no_first_reset trace) (bad_pulse image trace) (not (eqb answers (length trace)) || ltb work (length image) || ltb lines (count_of image))
  unfolding judge_refusal judge_causes image_refusal image_causes first_cause no_judge_room
  judge-chain h = first-none (image_causes image)
      (cause 5 (bad_trace trace) ∷ cause 11 (no_first_reset trace) ∷ cause 6 (bad_pulse image trace)
      ∷ cause 7 (no_judge_room image trace answers work lines) ∷ []) (lit< tt, (lit< tt, (lit< tt, (lit< tt, (lit< tt, tt))))) h

  -- what the run refuses is refused
  pub refused-as-run : (run-number ≡ 0 → ⊥) → judge_refusal image trace answers work lines ≡ run-number
  refused-as-run h = split (image_refusal image) refl
    where
      split : (m : ℕ) → image_refusal image ≡ m → judge_refusal image trace answers work lines ≡ run-number
      split zero e =
          judge-chain e
          ∙ same-chain (bad_trace trace) (no_first_reset trace) (bad_pulse image trace) (ltb lines (count_of image)) (not (eqb answers (length trace))) (ltb work (length image))
          (λ z. h (run-chain e ∙ z))
          ∙ sym (run-chain e)
      split (suc m) e = both_first image trace answers work lines (λ z. zero-suc (sym z ∙ e))

  pub judged-room : run-number ≡ 0
      → judge_refusal image trace answers work lines ≡ cond (not (eqb answers (length trace))) 7 (cond (ltb work (length image)) 7 0)
  judged-room h =
      let e : image_refusal image ≡ 0 = (admitted image trace (length trace) lines h).image-accepted in
      judge-chain e
      ∙ rest-chain (bad_trace trace) (no_first_reset trace) (bad_pulse image trace) (ltb lines (count_of image)) (not (eqb answers (length trace))) (ltb work (length image))
      (sym (run-chain e) ∙ h)

-- ---- one event on all devices

doing-few : (doing : Doing) (last : Bool) (value : ℕ) (careless : ℕ → Bool → Bool) (seen : Seen) (i : ℕ) → seen.commands ≤ i
    → (seen_by doing last value careless seen).commands ≤ suc i
unfolding seen_by
doing-few Command last value careless seen i h = omega (arith, h)
doing-few Address last value careless seen i h = omega (arith, h)
doing-few (Pattern at same) last value careless seen i h = omega (arith, h)
doing-few Other last value careless seen i h = omega (arith, h)

-- what is seen of a device, by what is known of it
pub seen-so : (trace answers image : List ℕ) (k i : ℕ) (state : LineState) (seen : Seen) (doing : Doing) (last : Bool) (value : ℕ) → doing_of state.transfer.stage ≡ doing
    → (slot_at (get_or trace k 0) state.overdrive && not (goes_on state.transfer)) ≡ last → received state.transfer (level_at answers k) ≡ value
    → seen_with trace answers image k i state seen ≡ seen_by doing last value (λ at same. careless_at trace answers image (place_in image i) state.overdrive k at same value) seen
unfolding seen_with
seen-so trace answers image k i state seen doing last value d l v =
    (λ j. seen_by (d j) (l j) (v j) (λ at same. careless_at trace answers image (place_in image i) state.overdrive k at same (v j)) seen)

rom-other : (stage : Stage) → at_memory stage ≡ false → doing_of stage ≡ Other
unfolding at_memory doing_of
rom-other (Rom r) e = refl
rom-other (Memory m) e = absurd (true≢false e)

-- a device in the ROM stage adds nothing
pub rom-adds-nothing : (trace answers image : List ℕ) (lines : List LineState) (k i : ℕ) → at_memory (line_at lines i).transfer.stage ≡ false
    → seen_up_to trace answers image lines k (suc i) ≡ seen_up_to trace answers image lines k i
unfolding seen_up_to seen_by
rom-adds-nothing trace answers image lines k i e =
    seen-so trace answers image k i (line_at lines i) (seen_up_to trace answers image lines k i) Other _ _ (rom-other (line_at lines i).transfer.stage e) refl refl

-- of i devices no more than i are at the memory command
pub seen_few : (trace answers image : List ℕ) (lines : List LineState) (k i : ℕ) → (seen_up_to trace answers image lines k i).commands ≤ i
unfolding seen_up_to seen_with
seen_few trace answers image lines k zero = omega arith
seen_few trace answers image lines k (suc i) =
    doing-few (doing_of (line_at lines i).transfer.stage) _ _ _ (seen_up_to trace answers image lines k i) i (seen_few trace answers image lines k i)

-- ---- the events of a recording

-- no more devices are looked at than there are
pub still-few : (verdict : Verdict) (n : ℕ) → still_looked_at verdict n ≤ n
unfolding still_looked_at
still-few Accepted n = omega arith
still-few (Broken rule event) n = omega arith
still-few (Refused number) n = omega arith

-- what is no longer looked at would not change the verdict
pub still-enough : (trace answers image : List ℕ) (lines : List LineState) (k n : ℕ) (verdict : Verdict) (agrees : Bool)
    → verdict_next verdict agrees (seen_up_to trace answers image lines k (still_looked_at verdict n)) k
    ≡ verdict_next verdict agrees (seen_up_to trace answers image lines k n) k
unfolding verdict_next still_looked_at
still-enough trace answers image lines k n Accepted agrees = refl
still-enough trace answers image lines k n (Broken rule event) agrees = refl
still-enough trace answers image lines k n (Refused number) agrees = refl

pub judge-work-length : (trace answers : List ℕ) (n k : ℕ) (s : JudgeState) → length (judge_events_up_to trace answers n k s).work ≡ length s.work
unfolding judge_events_up_to judge_event_at
judge-work-length trace answers n zero s = refl
judge-work-length trace answers n (suc k) s =
    let t = judge_events_up_to trace answers n k s in
    turns-image-length (get_or trace k 0) (level_on t.lines n (get_or trace k 0)) n (bus_state t.work t.lines) ∙ judge-work-length trace answers n k s

pub judge-lines-length : (trace answers : List ℕ) (n k : ℕ) (s : JudgeState) → length (judge_events_up_to trace answers n k s).lines ≡ length s.lines
unfolding judge_events_up_to judge_event_at
judge-lines-length trace answers n zero s = refl
judge-lines-length trace answers n (suc k) s =
    let t = judge_events_up_to trace answers n k s in
    turns-lines-length (get_or trace k 0) (level_on t.lines n (get_or trace k 0)) n (bus_state t.work t.lines) ∙ judge-lines-length trace answers n k s
