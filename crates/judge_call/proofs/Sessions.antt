-- The law that a search and the judge have together. Assumes nothing.
--     search-accepted    a session that a search wrote is accepted with its own answers, with room for the judge
use Prim.Native.Nat.{ℕ, zero, suc, ◌<◌, ◌≤◌}
use mathlib.Core.Path.{◌≡◌, refl, sym, ap, ◌∙◌}
use mathlib.Core.Bool.{true, not, cond, true≢false}
use mathlib.Core.List.{List, [], ◌∷◌}
use native.Mathlib.Omega.{arith}
use lib.ListN.{length, get_or}
use borrow.Author.Tests.{le-ltb, eq-eqb}
use Rattle.device.specs.declared.LineState.{LineState}
use Rattle.image.specs.Image.{count_of}
use Rattle.image.specs.Refusal.{image_refusal}
use Rattle.bus.specs.declared.Event.{Event}
use Rattle.bus.specs.declared.Event.TheVariants.{Slot, Reset, Pulse, OverdriveSlot, OverdriveReset}
use Rattle.bus.specs.Bus.{Device, event_of, bus_step, with_answer, run_trace, is_slot}
use Rattle.bus.specs.Refusal.{run_refusal}
use Rattle.bus.specs.Run.{waiting_devices, RunOutcome, left_by_run, run_at, run_of}
use Rattle.judge.specs.declared.Verdict.TheVariants.{Accepted}
use Rattle.judge.specs.Judge.{verdict_of, left_by_judge, judge_at, judge_of}
use Rattle.judge.specs.Rules.{devices_at}
use Rattle.judge.specs.Refusal.{judge_refusal}
use Rattle.judge.proofs.Laws.{judged-room}
use Rattle.judge.proofs.Sessions.{RomAt, quiet-accepted}
use Rattle.search_laws.specs.Search.{search_of}
use Rattle.search_laws.specs.Words.{Bytes}
use Rattle.search_laws.proofs.Devices.{AllRom, Aside}
use Rattle.search_laws.proofs.Driven.{AsideIn, driven-aside}
use Rattle.search_laws.proofs.Demand.{searched, search-drive}

rom-at : (ds : List Device) → AllRom ds → (i : ℕ) → RomAt ds i
rom-at [] r i = (_, refl)
rom-at (d ∷ ds) r zero = r.0
rom-at (d ∷ ds) r (suc i) = rom-at ds r.1 i

slot-aside : (event : Event) (ds : List Device) → Aside event ds → is_slot event ≡ true → AllRom ds
unfolding is_slot
slot-aside (Slot sent) ds a e = a
slot-aside Reset ds a e = absurd (true≢false (sym e))
slot-aside Pulse ds a e = absurd (true≢false (sym e))
slot-aside (OverdriveSlot sent) ds a e = a
slot-aside OverdriveReset ds a e = absurd (true≢false (sym e))

aside-at : (trace : List ℕ) (ds : List Device) → AsideIn trace ds → (k : ℕ) → k < length trace → Aside (event_of (get_or trace k 0)) (devices_at trace ds k)
unfolding run_trace with_answer
aside-at [] ds a k h = absurd (omega arith)
aside-at (byte ∷ trace) ds a zero h = a.0
aside-at (byte ∷ trace) ds a (suc k) h = aside-at trace (bus_step (event_of byte) ds).devices a.1 k (omega arith)

-- no event of the search's trace breaks a rule
nothing-broken : (image : List ℕ) → Bytes image → image_refusal image ≡ 0
    → verdict_of (search_of image).trace (search_of image).levels (waiting_devices image) ≡ Accepted
nothing-broken image bytes ok =
    let ds = waiting_devices image in
    let trace = (search_of image).trace in
    let aside = driven-aside (search-drive image bytes ok) in
    ap (λ (answers : List ℕ). verdict_of trace answers ds) (searched image bytes ok).seen
    ∙ quiet-accepted trace ds (λ k h e i. rom-at (devices_at trace ds k) (slot-aside (event_of (get_or trace k 0)) (devices_at trace ds k) (aside-at trace ds aside k h) e) i)

run-number : (m : ℕ) (image trace answers : List ℕ) (lines : List LineState) → (run_at m image trace answers lines).result.number ≡ m
unfolding run_at left_by_run
run-number zero image trace answers lines = refl
run-number (suc m) image trace answers lines = refl

-- nor is it refused, with the room that the judge asks for
not-refused : (image work : List ℕ) (lines : List LineState) → Bytes image → image_refusal image ≡ 0 → length image ≤ length work → count_of image ≤ length lines
    → judge_refusal image (search_of image).trace (length (search_of image).levels) (length work) (length lines) ≡ 0
unfolding run_of
not-refused image work lines bytes ok room lent =
    let found = search_of image in
    let whole = searched image bytes ok in
    let size = whole.seen_size in
    let run = whole.replayed found.levels lines (omega (arith, size)) lent in
    let number : run_refusal image found.trace (length found.levels) (length lines) ≡ 0 =
    sym (run-number (run_refusal image found.trace (length found.levels) (length lines)) image found.trace found.levels lines)
    ∙ ap (λ (o : RunOutcome). o.result.number) run in
    judged-room image found.trace (length found.levels) (length work) (length lines) (sym (ap (λ (n : ℕ). run_refusal image found.trace n (length lines)) size) ∙ number)
    ∙ (λ i. cond (not (eq-eqb (length found.levels) (length found.trace) size i)) 7 (cond (le-ltb (length work) (length image) room i) 7 0))

pub search-accepted : (image work : List ℕ) (lines : List LineState) → Bytes image → image_refusal image ≡ 0 → length image ≤ length work → count_of image ≤ length lines
    → (judge_of image (search_of image).trace (search_of image).levels work lines).verdict ≡ Accepted
unfolding judge_of judge_at left_by_judge
search-accepted image work lines bytes ok room lent =
    ap (λ (m : ℕ). (judge_at m image (search_of image).trace (search_of image).levels work lines).verdict) (not-refused image work lines bytes ok room lent)
    ∙ nothing-broken image bytes ok
