-- Where a recording is not refused, what the loops of `specs/Loops.antt` do is what `specs/Judge.antt` says.
use Prim.Native.Nat.{ℕ, zero, suc, ◌<◌, ◌≤◌}
use mathlib.Core.Path.{◌≡◌, refl, sym, ap, subst, ◌∙◌}
use mathlib.Core.Bool.{Bool, true, false, not, cond, ◌&&◌, ◌||◌, true≢false}
use mathlib.Core.List.{List, [], ◌∷◌, ◌++◌}
use mathlib.Core.Logic.{⊎_elim}
use native.Mathlib.Omega.{arith}
use native.Mathlib.Nat.{eq-or-lt_of_le}
use lib.ListN.{length, get_or, take, drop, replicate, take-append-drop}
use lib.Seq.{length-take-le, drop-cons, get_or_at, take-length}
use lib.Dec.{T, eqb, ltb}
use borrow.Author.Tests.{eqb-true, ltb-false, lt-ltb, not-false}
use Rattle.bits.specs.Bit.{level_byte}
use Rattle.kind.specs.declared.Kind.{Kind}
use Rattle.kind.specs.declared.Kind.TheVariants as kinds
use Rattle.kind.specs.Kind.{is_sram}
use Rattle.image.proofs.Counted.{some_refusal}
use Rattle.image.specs.Image.{count_of}
use Rattle.image.specs.Refusal.{some_below}
use Rattle.image.proofs.Accepted.{Known, accepted-known}
use Rattle.line.specs.Transfers.{goes_on, received}
use Rattle.device.specs.declared.LineState.{LineState}
use Rattle.device.specs.Device.{waiting_state, stage_copy}
use Rattle.recording.specs.Recorded.{agrees_at, level_at}
use Rattle.bus.specs.Bus.{Device, event_of, level_of, bus_step_at, bus_step, Run, with_answer, run_trace}
use Rattle.bus.specs.Run.{waiting_devices, states_of}
use Rattle.bus.specs.Refusal.{no_first_reset, run_refusal}
use Rattle.bus.specs.Loops.{place_in, device_at_place, device_in, line_at, BusState, bus_state, turns_up_to, filled_up_to, fewer_of}
use Rattle.bus.proofs.Laws.{admitted, Admitted, fewer-first, filled-length}
use Rattle.bus.proofs.Ranges.{AllIn, run_in}
use Rattle.bus.proofs.Runs.{run-append, run_length, run-same, same_length}
use Rattle.bus.proofs.Shown.{Stand, stand-same, image_of, device-is, level-is, turned-is, waiting-all, waiting-stands, waiting-in, waiting-image, waiting-states, filled_is}
use Rattle.judge.specs.declared.Rule.TheVariants as rules
use Rattle.image.specs.declared.Refusal.{Refusal}
use Rattle.image.specs.Refusal.{refusal_number}
use Rattle.judge.specs.declared.Verdict.{Verdict}
use Rattle.judge.specs.declared.Verdict.TheVariants.{Accepted, Broken, Refused}
use Rattle.judge.specs.Judge.{First, none, at, or_here, first_below, verdict_by, verdict_of, JudgeOutcome, judge_outcome, JudgeLeaves, left_by_judge, judge_at, judge_of}
use Rattle.judge.specs.declared.Seen.{Seen}
use Rattle.judge.specs.Rules.{Moment, at_memory_command, is_memory_command, completes, is_made, accepts_copy, wanted_bits, shown_since_write, device_at, devices_at, moment_at, moments_of, breaks_a, count_below, breaks_b, breaks_c}
use Rattle.judge.specs.Refusal.{judge_refusal}
use Rattle.judge.specs.Loops.{slot_at, body_in, careless_at, pattern_accepted, careful_at, doing_of, seen_so, seen_by, seen_with, seen_up_to, verdict_here, verdict_kept, verdict_next, JudgeState, judge_state, judge_event_at, judge_events_up_to}
use Rattle.judge.proofs.Laws.{judged-room, refused-as-run}
use Rattle.judge.proofs.Rest.{take-drop, device-q, turns-q}
use Rattle.judge.proofs.Devices.{careless_by, plus, seen-stage, careless-stage, last_in, accepts-is, completes-is, devices-next, range_at, range-stage, careful-at}

-- ---- the verdict of one more event

kept-broken : (x : Bool) (j k : ℕ) → verdict_kept (cond x rules.Command rules.Copy) j false k ≡ Broken rules.Answers k
unfolding verdict_kept
kept-broken true j k = refl
kept-broken false j k = refl

kept-so : (x : Bool) (j k : ℕ) → verdict_kept (cond x rules.Command rules.Copy) j true k ≡ Broken (cond x rules.Command rules.Copy) j
unfolding verdict_kept
kept-so true j k = refl
kept-so false j k = refl

verdict-step : (fa fb : First) (a bc : Bool) (is_b : ℕ → Bool) (seen : Seen) (k : ℕ)
    → (fa ≡ none → a ≡ false → verdict_here seen k ≡ verdict_by none (cond bc (at k) none) is_b)
    → verdict_next (verdict_by fa fb is_b) (not a) seen k ≡ verdict_by (or_here fa k a) (or_here fb k bc) is_b
unfolding verdict_next verdict_by or_here verdict_kept
verdict-step (at j) fb a bc is_b seen k here = refl
verdict-step none (at j) true bc is_b seen k here = kept-broken (is_b j) j k
verdict-step none (at j) false bc is_b seen k here = kept-so (is_b j) j k
verdict-step none none true bc is_b seen k here = refl
verdict-step none none false bc is_b seen k here = here refl refl

pub here-cases : (is_b : ℕ → Bool) (k : ℕ) (b c : Bool) → is_b k ≡ b
    → cond b (Broken rules.Command k) (cond c (Broken rules.Copy k) Accepted) ≡ verdict_by none (cond (b || c) (at k) none) is_b
unfolding verdict_by
here-cases is_b k true c e = sym (ap (λ (x : Bool). Broken (cond x rules.Command rules.Copy) k) e)
here-cases is_b k false true e = sym (ap (λ (x : Bool). Broken (cond x rules.Command rules.Copy) k) e)
here-cases is_b k false false e = refl

none-at : {j : ℕ} → at j ≡ none → ⊥
none-at {j} e = true≢false (ap (λ (f : First). some f) e)
  where
    some : First → Bool
    some none = false
    some (at j) = true

none_here : (f : First) (k : ℕ) (b : Bool) → or_here f k b ≡ none → (f ≡ none) × (b ≡ false)
unfolding or_here
none_here (at j) k b e = absurd (none-at e)
none_here none k true e = absurd (none-at e)
none_here none k false e = (refl, refl)

none_below : (p : ℕ → Bool) (k : ℕ) → first_below k p ≡ none → (j : ℕ) → j < k → p j ≡ false
unfolding first_below
none_below p zero e j h = absurd (omega arith)
none_below p (suc k) e j h =
    let f = none_here (first_below k p) k (p k) e in
    ⊎_elim (λ (s : j ≡ k). subst (λ (x : ℕ). p x ≡ false) (sym s) f.1) (λ (l : j < k). none_below p k f.0 j l) (eq-or-lt_of_le (omega (arith, h)))

not-not : (b : Bool) → b ≡ not (not b)
not-not true = refl
not-not false = refl

agree-level : (l : Bool) (x : ℕ) → eqb x (level_byte l) ≡ true → l ≡ eqb x 1
unfolding level_byte
agree-level true x e = sym e
agree-level false x e = sym (ap (λ (y : ℕ). eqb y 1) (eqb-true x 0 e))

sram-kind : (kind : Kind) → is_sram kind ≡ true → (size : ℕ) × (flat : Bool) × (kind ≡ kinds.Sram size flat)
unfolding is_sram
sram-kind (kinds.Sram size flat) e = (size, flat, refl)
sram-kind kinds.Eprom e = absurd (true≢false (sym e))
sram-kind kinds.Unknown e = absurd (true≢false (sym e))

-- the answer of event k
once-answer : (byte : ℕ) (t : List ℕ) (es : List Device) → (run_trace (byte ∷ t) es).answers ≡ level_byte (level_of (event_of byte) es) ∷ (run_trace t (bus_step (event_of byte) es).devices).answers
unfolding run_trace with_answer bus_step bus_step_at
once-answer byte t es = refl

pub answer_at : (trace : List ℕ) (ds : List Device) (k : ℕ) → k < length trace
    → get_or (run_trace trace ds).answers k 0 ≡ level_byte (level_of (event_of (get_or trace k 0)) (devices_at trace ds k))
answer_at trace ds k h =
    let t = take k trace in
    let es = devices_at trace ds k in
    let cut : trace ≡ t ++ get_or trace k 0 ∷ drop (suc k) trace = sym (take-append-drop k trace) ∙ ap (λ (l : List ℕ). t ++ l) (drop-cons trace k 0 h) in
    ap (λ (l : List ℕ). get_or (run_trace l ds).answers k 0) cut
    ∙ ap (λ (r : Run). get_or r.answers k 0) (run-append t (get_or trace k 0 ∷ drop (suc k) trace) ds)
    ∙ ap (λ (l : List ℕ). get_or ((run_trace t ds).answers ++ l) k 0) (once-answer (get_or trace k 0) (drop (suc k) trace) es)
    ∙ get_or_at (run_trace t ds).answers _ _ 0 k (run_length t ds ∙ length-take-le k trace (omega (arith, h)))

-- the line state of device i among those lent
line-at : (es : List Device) (tail : List LineState) (i : ℕ) → i < length es → line_at (states_of es ++ tail) i ≡ (device_at es i).state
line-at [] tail i h = absurd (omega arith)
line-at (e ∷ es) tail zero h = refl
line-at (e ∷ es) tail (suc i) h = line-at es tail i (omega arith)

module _ (image trace answers rest : List ℕ) (tail : List LineState) (known : Known image) (first : no_first_reset trace ≡ false)
    (len : length answers ≡ length trace) where
  abbrev n : ℕ
  n = count_of image

  abbrev ds : List Device
  ds = waiting_devices image

  all : length ds ≡ n
  all = waiting-all image known

  ranged : AllIn ds
  ranged = waiting-in image known

  abbrev es : ℕ → List Device
  es k = devices_at trace ds k

  abbrev L : ℕ → Bool
  L k = level_of (event_of (get_or trace k 0)) (es k)

  abbrev Q : ℕ → List ℕ
  Q k = image_of image known (es k) ++ rest

  abbrev Ls : ℕ → List LineState
  Ls k = states_of (es k) ++ tail

  stand : (k : ℕ) → Stand image 0 (es k)
  stand k = stand-same image 0 (run-same (take k trace) ds) (waiting-stands image known)

  all-at : (k : ℕ) → length (es k) ≡ n
  all-at k = same_length (run-same (take k trace) ds) ∙ all

  in_all : (k : ℕ) → AllIn (es k)
  in_all k = run_in (take k trace) ds ranged

  -- ---- rule A
  agrees-is : (k : ℕ) → k < length trace → agrees_at trace answers k (L k) ≡ not (breaks_a trace answers ds k)
  unfolding agrees_at breaks_a
  agrees-is k h =
      (λ i. lt-ltb k (length trace) h i && (lt-ltb k (length answers) (omega (arith, h, len)) i && eqb (get_or answers k 0) (sym (answer_at trace ds k h) i)))
      ∙ not-not (eqb (get_or answers k 0) (get_or (run_trace trace ds).answers k 0))

  level-agrees : (k : ℕ) → k < length trace → breaks_a trace answers ds k ≡ false → L k ≡ level_at answers k
  unfolding breaks_a level_at
  level-agrees k h e =
      agree-level (L k) (get_or answers k 0) (ap (eqb (get_or answers k 0)) (sym (answer_at trace ds k h)) ∙ not-false _ e)

  -- ---- the rules B and C at a slot whose answer and all before it are the bench's
  module _ (k : ℕ) (within : k < length trace) (agree : (j : ℕ) → j ≤ k → L j ≡ level_at answers j) where
    abbrev M : ℕ → Moment
    M i = moment_at trace ds k i

    abbrev is_copy : ℕ → Bool
    is_copy i = accepts_copy (M i) && not (shown_since_write (wanted_bits (M i).device.body) (moments_of (take k trace) ds i))

    -- device i where its entry has it
    found : (i : ℕ) → i < n → device_in (Q k) i (device_at (es k) i).state ≡ device_at (es k) i
    found i h =
        let few : i < length (es k) = omega (arith, h, all-at k) in
        let d = device_at (es k) i in
        let xs = take i (es k) in
        let ys = drop (suc i) (es k) in
        let cut : es k ≡ xs ++ d ∷ ys = take-drop (es k) i few in
        let i-is : length xs ≡ i = length-take-le i (es k) (omega (arith, few)) in
        let stand' = subst (λ (l : List Device). Stand image 0 l) cut (stand k) in
        let all' : length (xs ++ d ∷ ys) ≡ n = sym (ap length cut) ∙ all-at k in
        ap (λ (l : List Device). device_in (image_of image known l ++ rest) i d.state) cut
        ∙ ap (λ (j : ℕ). device_in (image_of image known (xs ++ d ∷ ys) ++ rest) j d.state) (sym i-is)
        ∙ device-q image known rest xs d ys stand' all' d.state
        ∙ device-is image known xs d ys stand' all'

    kind-found : (i : ℕ) → i < n → (place_in (Q k) i).kind ≡ (device_at (es k) i).kind
    unfolding device_in device_at_place
    kind-found i h = ap (λ (d : Device). d.kind) (found i h)

    body-found : (i : ℕ) → i < n → body_in (Q k) (place_in (Q k) i) ≡ (device_at (es k) i).body
    unfolding device_in device_at_place
    body-found i h = ap (λ (d : Device). d.body) (found i h)

    careful-so : (i : ℕ) → i < n → is_sram (device_at (es k) i).kind ≡ true
        → careful_at trace answers (device_at (es k) i).kind (device_at (es k) i).body (device_at (es k) i).state.overdrive k ≡ shown_since_write (wanted_bits (M i).device.body) (moments_of (take k trace) ds i)
    careful-so i h e =
        let s = sram-kind (device_at (es k) i).kind e in
        careful-at trace answers ds ranged first i (omega (arith, h, all)) k within agree s.0 s.1 s.2

    one : (i : ℕ) → i < n → (seen : Seen)
        → seen_with trace answers (Q k) k i (line_at (Ls k) i) seen
        ≡ plus seen (at_memory_command (M i).device) (completes 0x0F (M i) || completes 0x55 (M i)) (is_copy i)
    unfolding seen_with careless_at
    one i h seen =
        let few : i < length (es k) = omega (arith, h, all-at k) in
        let byte = get_or trace k 0 in
        let d = device_at (es k) i in
        let t = d.state.transfer in
        let last = last_in byte (M i) in
        let l = level_at answers k in
        let v = received t l in
        let ok = range_at trace answers ds ranged first i (omega (arith, h, all)) k within agree k in
        let same-level : l ≡ L k = sym (agree k (omega arith)) in
        ap (λ (s : LineState). seen_by (doing_of s.transfer.stage) (slot_at byte s.overdrive && not (goes_on s.transfer)) (received s.transfer l)
        (λ at same. careless_at trace answers (Q k) (place_in (Q k) i) s.overdrive k at same (received s.transfer l)) seen) (line-at (es k) tail i few)
        ∙ seen-stage t.stage last v (λ at same. careless_at trace answers (Q k) (place_in (Q k) i) d.state.overdrive k at same v) seen
        ∙ (λ z. plus seen (is_memory_command t.stage) (is_memory_command t.stage && (last && (eqb v 0x0F || eqb v 0x55)))
        (careless_by (doing_of t.stage) last (λ at same. pattern_accepted at same v (body-found i h z) && not (careful_at trace answers (kind-found i h z) (body-found i h z) d.state.overdrive k))))
        ∙ ap (plus seen (is_memory_command t.stage) (is_memory_command t.stage && (last && (eqb v 0x0F || eqb v 0x55))))
        (careless-stage t.stage d.kind d.state.overdrive t.register t.left (range-stage d ok) last v d.body
        (careful_at trace answers d.kind d.body d.state.overdrive k) (shown_since_write (wanted_bits d.body) (moments_of (take k trace) ds i)) (careful-so i h))
        ∙ ap (λ (x : Bool). plus seen (is_memory_command t.stage) (is_memory_command t.stage && (last && (eqb (received t x) 0x0F || eqb (received t x) 0x55)))
        ((last && is_made (stage_copy t.stage d.kind (received t x) d.body)) && not (shown_since_write (wanted_bits d.body) (moments_of (take k trace) ds i)))) same-level
        ∙ (λ z. plus seen (is_memory_command t.stage) (sym (completes-is (M i) byte refl ok) z)
        (sym (accepts-is (M i) byte refl ok) z && not (shown_since_write (wanted_bits d.body) (moments_of (take k trace) ds i))))

    seen-is : (i : ℕ) → i ≤ n
        → seen_up_to trace answers (Q k) (Ls k) k i
        ≡ seen_so (count_below i (λ j. at_memory_command (M j).device)) (some_below i (λ j. completes 0x0F (M j) || completes 0x55 (M j))) (some_below i is_copy)
    unfolding seen_up_to count_below some_below
    seen-is zero h = refl
    seen-is (suc i) h =
        ap (seen_with trace answers (Q k) k i (line_at (Ls k) i)) (seen-is i (omega (arith, h)))
        ∙ one i h (seen_so (count_below i (λ j. at_memory_command (M j).device)) (some_below i (λ j. completes 0x0F (M j) || completes 0x55 (M j))) (some_below i is_copy))

    b-is : breaks_b trace ds k ≡ (ltb 1 (count_below n (λ i. at_memory_command (M i).device)) && some_below n (λ i. completes 0x0F (M i) || completes 0x55 (M i)))
    unfolding breaks_b
    b-is = ap (λ (x : ℕ). ltb 1 (count_below x (λ i. at_memory_command (M i).device)) && some_below x (λ i. completes 0x0F (M i) || completes 0x55 (M i))) all

    c-is : breaks_c trace ds k ≡ some_below n is_copy
    unfolding breaks_c
    c-is = ap (λ (x : ℕ). some_below x is_copy) all

    here-is : verdict_here (seen_up_to trace answers (Q k) (Ls k) k n) k
        ≡ verdict_by none (cond (breaks_b trace ds k || breaks_c trace ds k) (at k) none) (breaks_b trace ds)
    unfolding verdict_here
    here-is =
        ap (λ (s : Seen). verdict_here s k) (seen-is n (omega arith))
        ∙ (λ i. cond (sym b-is i) (Broken rules.Command k) (cond (sym c-is i) (Broken rules.Copy k) Accepted))
        ∙ here-cases (breaks_b trace ds) k (breaks_b trace ds k) (breaks_c trace ds k) refl

  -- ---- the events of the trace

  -- the verdict after the first k events
  abbrev Vd : ℕ → Verdict
  Vd k = verdict_by (first_below k (breaks_a trace answers ds)) (first_below k (λ j. breaks_b trace ds j || breaks_c trace ds j)) (breaks_b trace ds)

  verdict-is : (k : ℕ) → k < length trace
      → verdict_next (Vd k) (agrees_at trace answers k (L k)) (seen_up_to trace answers (Q k) (Ls k) k n) k ≡ Vd (suc k)
  unfolding first_below
  verdict-is k h =
      ap (λ (x : Bool). verdict_next (Vd k) x (seen_up_to trace answers (Q k) (Ls k) k n) k) (agrees-is k h)
      ∙ verdict-step (first_below k (breaks_a trace answers ds)) (first_below k (λ j. breaks_b trace ds j || breaks_c trace ds j)) (breaks_a trace answers ds k)
      (breaks_b trace ds k || breaks_c trace ds k) (breaks_b trace ds) (seen_up_to trace answers (Q k) (Ls k) k n) k
      (λ none_before agrees. here-is k h (λ j below.
      ⊎_elim (λ (s : j ≡ k). level-agrees j (omega (arith, s, h)) (ap (breaks_a trace answers ds) s ∙ agrees))
      (λ (l : j < k). level-agrees j (omega (arith, l, h)) (none_below (breaks_a trace answers ds) k none_before j l)) (eq-or-lt_of_le below)))

  after : (k : ℕ) → k < length trace
      → turns_up_to (get_or trace k 0) (L k) n (bus_state (Q k) (Ls k)) ≡ bus_state (Q (suc k)) (Ls (suc k))
  after k h =
      let byte = get_or trace k 0 in
      ap (λ (x : ℕ). turns_up_to byte (L k) x (bus_state (Q k) (Ls k))) (sym (all-at k))
      ∙ turns-q image known rest tail (es k) (stand k) (all-at k) (in_all k) byte (L k) (length (es k)) (omega arith)
      ∙ ap (λ (s : BusState). bus_state (s.image ++ rest) s.lines) (turned-is image known tail (es k) (stand k) (all-at k) (in_all k) byte (L k))
      ∙ ap (λ (l : List Device). bus_state (image_of image known l ++ rest) (states_of l ++ tail)) (sym (devices-next trace ds k h))

  states-are : (k : ℕ) → k ≤ length trace
      → judge_events_up_to trace answers n k (judge_state Accepted (Q 0) (Ls 0)) ≡ judge_state (Vd k) (Q k) (Ls k)
  unfolding judge_events_up_to judge_event_at first_below verdict_by
  states-are zero h = refl
  states-are (suc k) h =
      let byte = get_or trace k 0 in
      ap (judge_event_at trace answers n k) (states-are k (omega (arith, h)))
      ∙ ap (λ (l : Bool). judge_state (verdict_next (Vd k) (agrees_at trace answers k l) (seen_up_to trace answers (Q k) (Ls k) k n) k)
      (turns_up_to byte l n (bus_state (Q k) (Ls k))).image (turns_up_to byte l n (bus_state (Q k) (Ls k))).lines)
      (level-is image known tail (es k) (stand k) (all-at k) (in_all k) byte)
      ∙ (λ i. judge_state (verdict-is k h i) (after k h i).image (after k h i).lines)

  all-judged : judge_events_up_to trace answers n (length trace) (judge_state Accepted (Q 0) (Ls 0))
      ≡ judge_state (verdict_of trace answers ds) (image_of image known (run_trace trace ds).devices ++ rest) (states_of (run_trace trace ds).devices ++ tail)
  unfolding verdict_of
  all-judged =
      states-are (length trace) (omega arith)
      ∙ ap (λ (t : List ℕ). judge_state (Vd (length trace)) (image_of image known (run_trace t ds).devices ++ rest) (states_of (run_trace t ds).devices ++ tail)) (take-length trace)

  start-work : Q 0 ≡ image ++ rest
  unfolding run_trace
  start-work = ap (λ (l : List ℕ). l ++ rest) (waiting-image image known)

  start-lines : Ls 0 ≡ replicate n waiting_state ++ tail
  unfolding run_trace
  start-lines = ap (λ (l : List LineState). l ++ tail) (waiting-states image known)

-- ---- the judge

-- what the loops make of work space and line states
abbrev pub judged : List ℕ → List ℕ → List ℕ → List ℕ → List LineState → JudgeState
judged image trace answers work lines =
    judge_events_up_to trace answers (count_of image) (length trace)
    (judge_state Accepted (image ++ drop (length image) work) (filled_up_to (fewer_of (count_of image) (length lines)) waiting_state lines))

-- what is not refused: what the run admits, with as many answers and room for the image
pub record Admits (image trace : List ℕ) (answers work lines : ℕ) : Type 0 where
  pub run : Admitted image trace (length trace) lines
  pub as_many : answers ≡ length trace
  pub work-room : length image ≤ work

seven : (p q : Bool) → ◌≡◌ {A = ℕ} (cond (not p) 7 (cond q 7 0)) 0 → (p ≡ true) × (q ≡ false)
seven true true e = absurd (omega (arith, e))
seven true false e = (refl, refl)
seven false q e = absurd (omega (arith, e))

pub admits : (image trace : List ℕ) (answers work lines : ℕ) → judge_refusal image trace answers work lines ≡ 0 → Admits image trace answers work lines
admits image trace answers work lines e =
    let r : run_refusal image trace (length trace) lines ≡ 0 = zero_or (run_refusal image trace (length trace) lines) (λ nz. absurd (nz (sym (refused-as-run image trace answers work lines nz) ∙ e))) in
    let s = seven (eqb answers (length trace)) (ltb work (length image)) (sym (judged-room image trace answers work lines r) ∙ e) in
    record { run = admitted image trace (length trace) lines r; as_many = eqb-true answers (length trace) s.0; work-room = ltb-false work (length image) s.1 }
  where
    zero_or : (m : ℕ) → ((m ≡ 0 → ⊥) → m ≡ 0) → m ≡ 0
    zero_or zero f = refl
    zero_or (suc m) f = f (λ z. absurd (omega (arith, z)))

-- is what the judge is to answer and leave, where the recording is not refused
pub judge-shown : (image trace answers work : List ℕ) (lines : List LineState) → judge_refusal image trace (length answers) (length work) (length lines) ≡ 0
    → judge_outcome (judged image trace answers work lines).verdict (judged image trace answers work lines).work (judged image trace answers work lines).lines
    ≡ judge_of image trace answers work lines
unfolding judge_of judge_at left_by_judge
judge-shown image trace answers work lines e =
    let has = admits image trace (length answers) (length work) (length lines) e in
    let known = accepted-known image has.run.image-accepted in
    let n = count_of image in
    let tail = drop n lines in
    let rest = drop (length image) work in
    let first = has.run.reset-first in
    let len = has.as_many in
    let began : image ++ rest ≡ Q image trace answers rest tail known first len 0 =
    sym (start-work image trace answers rest tail known first len) in
    let stood : filled_up_to (fewer_of n (length lines)) waiting_state lines ≡ Ls image trace answers rest tail known first len 0 =
    ap (λ (m : ℕ). filled_up_to m waiting_state lines) (fewer-first n (length lines) has.run.lines-room)
    ∙ filled_is n waiting_state lines has.run.lines-room
    ∙ sym (start-lines image trace answers rest tail known first len) in
    let done = (λ i. judge_events_up_to trace answers n (length trace) (judge_state Accepted (began i) (stood i)))
    ∙ all-judged image trace answers rest tail known first len in
    (λ i. judge_outcome (done i).verdict (done i).work (done i).lines)
    ∙ ap (λ (m : ℕ). judge_at m image trace answers work lines) (sym e)

-- what is refused changes nothing
refused-at : (m : ℕ) (image trace answers work : List ℕ) (lines : List LineState) → T (not (eqb m 0)) → judge_outcome (Refused m) work lines ≡ judge_at m image trace answers work lines
unfolding judge_at
refused-at zero image trace answers work lines t = absurd t
refused-at (suc m) image trace answers work lines t = refl

pub judge-refused : (refusal : Refusal) (image trace answers work : List ℕ) (lines : List LineState)
    → refusal_number refusal ≡ judge_refusal image trace (length answers) (length work) (length lines)
    → judge_outcome (Refused (refusal_number refusal)) work lines ≡ judge_of image trace answers work lines
unfolding judge_of
judge-refused refusal image trace answers work lines e =
    refused-at (refusal_number refusal) image trace answers work lines (some_refusal refusal) ∙ ap (λ (m : ℕ). judge_at m image trace answers work lines) e

-- what is not refused has a line state for each device, also once they wait
pub events_room : (image trace : List ℕ) (answers work : ℕ) (lines waiting : List LineState) (n : ℕ)
    → 0 ≡ judge_refusal image trace answers work (length lines) → n ≡ count_of image
    → waiting ≡ filled_up_to (fewer_of n (length lines)) waiting_state lines → n ≤ length waiting
events_room image trace answers work lines waiting n accepted count filled =
    omega (
      arith,
      (admits image trace answers work (length lines) (sym accepted)).run.lines-room,
      count,
      ap length filled,
      filled-length (fewer_of n (length lines)) waiting_state lines,
    )

-- what the judge left, as one equation and as an equation for each thing
pub judge-leaves : (left : JudgeOutcome) (verdict : Verdict) (work : List ℕ) (lines : List LineState)
    → judge_outcome verdict work lines ≡ left → JudgeLeaves left verdict work lines
judge-leaves left verdict work lines e =
    record {
      verdict-is = ap (λ (o : JudgeOutcome). o.verdict) e;
      work-is = ap (λ (o : JudgeOutcome). o.work) e;
      lines_are = ap (λ (o : JudgeOutcome). o.lines) e;
    }
