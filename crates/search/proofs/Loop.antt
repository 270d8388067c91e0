-- The loop of `exchange`: the state after k exchanges, by recursion on k, and that after as many as the search has events it is the search's.
-- A turn of the loop begins with the master's step, so that it ends one exchange and begins the next: what the loop
-- holds between its turns is stated from the same states. Assumes nothing.
use Prim.Native.Nat.{ℕ, zero, suc, ◌+◌, ◌*◌, ◌<◌, ◌≤◌}
use mathlib.Core.Path.{◌≡◌, refl, sym, ap, subst, ◌∙◌}
use mathlib.Core.Bool.{Bool, true, false, not, true≢false}
use mathlib.Core.List.{List, [], ◌∷◌, ◌++◌}
use native.Mathlib.Numerals.{add-one}
use native.Mathlib.Omega.{arith}
use lib.ListN.{length, take, drop, set, replicate, length-append, length-set, length-drop, take-append-drop}
use lib.Seq.{sets, sets-eq, length-sets, take_at, drop_at, drop-append-add, drop-drop}
use lib.Dec.{eqb}
use Rattle.image.specs.Image.{count_of}
use Rattle.image.proofs.Accepted.{accepted-known}
use Rattle.device.specs.declared.LineState.{LineState}
use Rattle.device.specs.Device.{waiting_state}
use Rattle.bits.specs.Bit.{level_byte}
use Rattle.bus.specs.Bus.{event_of, run_trace}
use Rattle.bus.specs.Run.{devices_from, states_of}
use Rattle.bus.specs.Loops.{turn_states_from, level_as_is, level_on, turn_states_of}
use Rattle.bus.proofs.Shown.{devices-states}
use Rattle.bus.proofs.States.{states-length}
use Rattle.master.specs.declared.Answer.{Answer}
use Rattle.master.specs.declared.Master.{Master}
use Rattle.master.specs.declared.Step.{Step}
use Rattle.master.specs.Master as M
use Rattle.master.specs.Master.{code_bytes, event, end, end_number, answer_value, master_answer, fresh_master, next_master, step_of}
use Rattle.master.specs.Drive.{code_completed, written_over}
use Rattle.master.proofs.Clock.{Reached, reached-started, started-passes, reached-on, completed-size}
use Rattle.search_laws.specs.Search.{Search, search_of}
use Rattle.search_laws.specs.Searched.{Searched}
use Rattle.search_laws.proofs.Driven.{driven-stops, driven-devices}
use Rattle.search_laws.proofs.Demand.{searched}
use Rattle.search_laws.proofs.Going as G
use Rattle.search_laws.proofs.Going.{Going, going_start, going_end, going-room, going_on, lines_after, turned-in, level_in-is}
use Rattle.search.specs.Loops.{Ready}

-- ---- the state

-- whether an answer is an event, and which; of the end, where nothing is sent, any number stands for it
unfoldable pub has_event : Answer → Bool
has_event (Answer.Event e) = true
has_event (Answer.End e) = false

unfoldable pub event_in : Answer → ℕ
event_in (Answer.Event e) = e
event_in (Answer.End e) = 0

pub record State : Type 0 where
  pub step : Step
  pub lines : List LineState
  pub trace : List ℕ
  pub codes : List ℕ

abbrev pub state : Step → List LineState → List ℕ → List ℕ → State
state step lines trace codes = record { step = step; lines = lines; trace = trace; codes = codes }

module _ (image : List ℕ) where
  -- the event of an exchange, and its level
  abbrev pub sent_in : State → ℕ
  sent_in s = event_in s.step.answer

  abbrev pub level_in : State → Bool
  level_in s = level_on s.lines (count_of image) (sent_in s)

  -- exchange k, at a level
  abbrev pub exchange_with : ℕ → State → Bool → State
  exchange_with k s level =
      state (step_of s.step.next (level_byte level))
      (turn_states_of image s.lines (count_of image) (sent_in s) level)
      (set s.trace k (sent_in s))
      (sets s.codes (code_bytes * s.step.next.passes) (code_completed s.step.next.passes (next_master s.step.next (level_byte level))))

  unfoldable pub exchanges : ℕ → State → State
  exchanges zero s = s
  exchanges (suc k) s = exchange_with k (exchanges k s) (level_in (exchanges k s))

  pub lines-length : (k : ℕ) (s : State) → length (exchanges k s).lines ≡ length s.lines
  unfolding exchanges
  lines-length zero s = refl
  lines-length (suc k) s = states-length image (exchanges k s).lines (count_of image) (sent_in (exchanges k s)) (level_in (exchanges k s)) ∙ lines-length k s

  pub trace-length : (k : ℕ) (s : State) → length (exchanges k s).trace ≡ length s.trace
  unfolding exchanges
  trace-length zero s = refl
  trace-length (suc k) s = length-set (exchanges k s).trace k _ ∙ trace-length k s

  pub codes-length : (k : ℕ) (s : State) → length (exchanges k s).codes ≡ length s.codes
  unfolding exchanges
  codes-length zero s = refl
  codes-length (suc k) s =
      let before = exchanges k s in
      let m = before.step.next in
      length-sets before.codes (code_bytes * m.passes) (code_completed m.passes (next_master m (level_byte (level_in before)))) ∙ codes-length k s

-- ---- what the loop holds when turn k begins, beside the lines and the trace after k exchanges
module _ (image : List ℕ) (s : State) where
  -- the master and the codes that step k - 1 left, and the level of its event
  abbrev pub master_at : ℕ → Master
  master_at zero = fresh_master
  master_at (suc k) = (exchanges image k s).step.next

  abbrev pub level_at : ℕ → ℕ
  level_at zero = 0
  level_at (suc k) = level_byte (level_in image (exchanges image k s))

  abbrev pub codes_at : ℕ → List ℕ
  codes_at zero = s.codes
  codes_at (suc k) = (exchanges image k s).codes

  pub held-length : (k : ℕ) → length (codes_at k) ≡ length s.codes
  held-length zero = refl
  held-length (suc k) = codes-length image k s

  -- turn k's step is the one that exchange k starts from
  pub step_is : s.step ≡ step_of fresh_master 0 → (k : ℕ) → step_of (master_at k) (level_at k) ≡ (exchanges image k s).step
  unfolding exchanges
  step_is e zero = sym e
  step_is e (suc k) = refl

  -- the codes after turn k's step; the first completes none
  abbrev pub codes_stepped : ℕ → List ℕ
  codes_stepped k =
      let m = master_at k in
      sets (codes_at k) (code_bytes * m.passes) (code_completed m.passes (next_master m (level_at k)))

  pub codes-are : (k : ℕ) → codes_stepped k ≡ (exchanges image k s).codes
  unfolding exchanges code_completed fresh_master M.master_after_level M.master_in_range M.stage_in_range M.step_by_stage M.master_at_stage
  codes-are zero = refl
  codes-are (suc k) = refl

-- ---- bytes at the front of a buffer, and bytes after them
over-more : (xs vs buffer : List ℕ) → length (xs ++ vs) ≤ length buffer → sets (written_over xs buffer) (length xs) vs ≡ written_over (xs ++ vs) buffer
over-more xs vs buffer h =
    let l = written_over xs buffer in
    let all = length-append xs vs in
    let size : length l ≡ length buffer = length-append xs (drop (length xs) buffer) ∙ (let d = length-drop (length xs) buffer in omega arith) in
    let room : length xs + length vs ≤ length l = omega arith in
    sets-eq vs l (length xs) room
    ∙ ap (λ (r : List ℕ). r ++ vs ++ drop (length xs + length vs) l) (take_at xs (drop (length xs) buffer) (length xs) refl)
    ∙ ap (λ (r : List ℕ). xs ++ vs ++ r) (drop-append-add xs (drop (length xs) buffer) (length vs) ∙ drop-drop (length vs) (length xs) buffer)
    ∙ ap (λ (m : ℕ). (xs ++ vs) ++ drop m buffer) (sym all)

-- ---- what an answer says
event-answer : (a : Answer) → has_event a ≡ true → answer_value a ≡ event (event_in a)
unfolding has_event event_in answer_value
event-answer (Answer.Event e) h = refl
event-answer (Answer.End x) h = absurd (true≢false (sym h))

end-answer : (a : Answer) → has_event a ≡ false → (x : ℕ) × (answer_value a ≡ end x)
unfolding has_event answer_value
end-answer (Answer.Event e) h = absurd (true≢false h)
end-answer (Answer.End x) h = (end_number x, refl)

-- ---- the loop
module _ (image codes₀ trace₀ : List ℕ) (lines₀ : List LineState) (ready : Ready image codes₀ trace₀ lines₀) where
  abbrev n : ℕ
  n = count_of image

  abbrev S : Search
  S = search_of image

  abbrev pub N : ℕ
  N = length S.trace

  demand : Searched image S
  demand = searched image ready.bytes ready.accepted

  abbrev pub start : State
  start = state (step_of fresh_master 0) lines₀ trace₀ codes₀

  record Doing (k : ℕ) (s : State) : Type 0 where
    pub at : List LineState
    pub sent : List ℕ
    pub found : List ℕ
    pub going : Going image s.step.next at sent found
    pub answered : s.step.answer ≡ M.answer_of s.step.next.stage
    pub reached : Reached s.step.next k
    pub count : length sent ≡ k
    pub sized : length found ≡ code_bytes * s.step.next.passes
    pub traced : s.trace ≡ written_over sent trace₀
    pub stored : s.codes ≡ written_over found codes₀
    pub lined : s.lines ≡ at ++ drop n lines₀

  doing-start : Doing 0 start
  doing-start = record {
    at = replicate n waiting_state;
    sent = [];
    found = [];
    going = going_start image ready.bytes ready.accepted;
    answered = refl;
    reached = reached-started;
    count = refl;
    sized = rw started-passes;
    traced = refl;
    stored = refl;
    lined = sym (take-append-drop n lines₀) ∙ ap (λ (l : List LineState). l ++ drop n lines₀) ready.waiting;
  }

  module _ {k : ℕ} {s : State} (d : Doing k s) where
    said-is : master_answer s.step.next ≡ answer_value s.step.answer
    said-is = ap answer_value (sym d.answered)

    -- at an end all is done
    at-end : has_event s.step.answer ≡ false → (d.sent ≡ S.trace) × (d.found ≡ S.codes) × (d.at ≡ states_of S.devices)
    unfolding run_trace
    at-end h =
        let x = end-answer s.step.answer h in
        let g = going_end image demand x.0 d.going (said-is ∙ x.1) in
        let t = (driven-stops x.0 d.going.driven (said-is ∙ x.1)).0 in
        let ds : devices_from image 0 d.at ≡ S.devices = ap (λ (l : List ℕ). (run_trace l (devices_from image 0 d.at)).devices) (sym t) ∙ driven-devices d.going.driven in
        (g.2, g.3, sym (devices-states image (accepted-known image ready.accepted) 0 d.at) ∙ ap states_of ds)

    sends : has_event s.step.answer ≡ true → master_answer s.step.next ≡ event (sent_in image s)
    sends h = said-is ∙ event-answer s.step.answer h

    -- before the last event it sends, and after it it does not
    must : (b : Bool) → has_event s.step.answer ≡ b → k < N → b ≡ true
    must true h small = refl
    must false h small = let e = sym d.count ∙ ap length (at-end h).0 in absurd (omega arith)

    cannot : (b : Bool) → has_event s.step.answer ≡ b → N ≤ k → b ≡ false
    cannot true h big = let r = going-room image demand (sent_in image s) d.going (sends h) in let e = d.count in absurd (omega arith)
    cannot false h big = refl

    -- the bus of the code is the bus of the search
    taken : take n s.lines ≡ d.at
    taken = ap (take n) d.lined ∙ take_at d.at (drop n lines₀) n d.going.each

    level-same : (e : ℕ) → level_on s.lines n e ≡ G.level_in image d.at e
    unfolding level_on
    level-same e =
        ap (level_as_is (event_of e)) taken ∙ level_in-is image (accepted-known image ready.accepted) d.at e d.going.ranged

    lines_same : (e : ℕ) → turn_states_of image s.lines n e (G.level_in image d.at e) ≡ lines_after image d.at e ++ drop n lines₀
    unfolding turn_states_of
    lines_same e =
        let level = G.level_in image d.at e in
        ap (λ (l : List LineState). turn_states_from image 0 l e level ++ drop n s.lines) taken
        ∙ ap (λ (l : List LineState). l ++ drop n s.lines)
        (turned-in image (accepted-known image ready.accepted) 0 d.at e level (let c = d.going.each in omega arith) d.going.ranged)
        ∙ ap (λ (l : List LineState). lines_after image d.at e ++ l) (ap (drop n) d.lined ∙ drop_at d.at (drop n lines₀) n d.going.each)

    doing-next : has_event s.step.answer ≡ true → Doing (suc k) (exchange_with image k s (level_in image s))
    doing-next h =
        let e = sent_in image s in
        let m = s.step.next in
        let level = G.level_in image d.at e in
        let code = code_completed m.passes (next_master m (level_byte level)) in
        let g = going_on image demand e d.going (sends h) in
        let few = going-room image demand e d.going (sends h) in
        let cs = length-append d.found code in
        let ts = length-append d.sent (e ∷ []) in
        let whole : length ((d.found ++ code) ++ g.found) ≡ code_bytes * n = ap length g.written ∙ demand.size in
        let parts = length-append (d.found ++ code) g.found in
        let code_fits : length (d.found ++ code) ≤ length codes₀ = let r = ready.code-room in omega arith in
        let trace-fits : length (d.sent ++ e ∷ []) ≤ length trace₀ = let r = ready.trace-room in let y = demand.events in omega arith in
        let grown = completed-size d.reached (not (eqb (level_byte level) 0)) in
        subst (λ (b : Bool). Doing (suc k) (exchange_with image k s b)) (sym (level-same e)) (record {
          at = lines_after image d.at e;
          sent = d.sent ++ e ∷ [];
          found = d.found ++ code;
          going = g;
          answered = refl;
          reached = reached-on d.reached (not (eqb (level_byte level) 0));
          count = let c = d.count in omega arith;
          sized = let z = d.sized in omega arith;
          traced = ap (λ (j : ℕ). set s.trace j e) (sym d.count) ∙ ap (λ (l : List ℕ). set l (length d.sent) e) d.traced ∙ over-more d.sent (e ∷ []) trace₀ trace-fits;
          stored = ap (λ (j : ℕ). sets s.codes j code) (sym d.sized) ∙ ap (λ (l : List ℕ). sets l (length d.found) code) d.stored ∙ over-more d.found code codes₀ code_fits;
          lined = lines_same e;
        })

  doing : (k : ℕ) → k ≤ N → Doing k (exchanges image k start)
  unfolding exchanges
  doing zero h = doing-start
  doing (suc k) h = let d = doing k (omega arith) in doing-next d (must d (has_event (exchanges image k start).step.answer) refl h)

  -- where there is an event there is another exchange, and where there is none all are made
  pub goes : (k : ℕ) → k ≤ N → has_event (exchanges image k start).step.answer ≡ true → k < N
  goes k h e =
      let d = doing k h in
      let r = going-room image demand (sent_in image (exchanges image k start)) d.going (sends d e) in
      let c = d.count in
      omega arith

  pub ends : (k : ℕ) → k ≤ N → has_event (exchanges image k start).step.answer ≡ false → k ≡ N
  ends k h e = let d = doing k h in sym d.count ∙ ap length (at-end d e).0

  pub stops : has_event (exchanges image N start).step.answer ≡ false
  stops = cannot (doing N (omega arith)) (has_event (exchanges image N start).step.answer) refl (omega arith)

  pub codes-done : (exchanges image N start).codes ≡ written_over S.codes codes₀
  codes-done = let d = doing N (omega arith) in d.stored ∙ ap (λ (l : List ℕ). written_over l codes₀) (at-end d stops).1

  pub trace-done : (exchanges image N start).trace ≡ written_over S.trace trace₀
  trace-done = let d = doing N (omega arith) in d.traced ∙ ap (λ (l : List ℕ). written_over l trace₀) (at-end d stops).0

  pub lines-done : (exchanges image N start).lines ≡ states_of S.devices ++ drop n lines₀
  lines-done = let d = doing N (omega arith) in d.lined ∙ ap (λ (l : List LineState). l ++ drop n lines₀) (at-end d stops).2

  pub fits : N ≤ length trace₀
  fits = let r = ready.trace-room in let y = demand.events in omega arith

-- ---- a turn of the loop

-- what the loop holds when turn k begins, beside what it was lent
pub record Begun (image codes₀ trace₀ : List ℕ) (lines₀ : List LineState) (k : ℕ) (master : Master) (level : ℕ) (codes trace : List ℕ) (lines : List LineState) : Type 0 where
  pub few : k ≤ length (search_of image).trace
  pub master-is : master ≡ master_at image (state (step_of fresh_master 0) lines₀ trace₀ codes₀) k
  pub level-is : level ≡ level_at image (state (step_of fresh_master 0) lines₀ trace₀ codes₀) k
  pub codes-are : codes ≡ codes_at image (state (step_of fresh_master 0) lines₀ trace₀ codes₀) k
  pub trace-is : trace ≡ (exchanges image k (state (step_of fresh_master 0) lines₀ trace₀ codes₀)).trace
  pub lines-are : lines ≡ (exchanges image k (state (step_of fresh_master 0) lines₀ trace₀ codes₀)).lines

pub begun-start : (image codes trace : List ℕ) (lines : List LineState) → Begun image codes trace lines 0 fresh_master 0 codes trace lines
unfolding exchanges
begun-start image codes trace lines =
    record { few = omega arith; master-is = refl; level-is = refl; codes-are = refl; trace-is = refl; lines-are = refl }

no-event : (a : Answer) → ((e : ℕ) → a ≡ Answer.Event e → ⊥) → has_event a ≡ false
unfolding has_event
no-event (Answer.Event e) h = absurd (h e refl)
no-event (Answer.End x) h = refl

-- the turn takes the step of exchange k, and stores the code that it completed
module _ {image codes₀ trace₀ : List ℕ} {lines₀ : List LineState} (ready : Ready image codes₀ trace₀ lines₀)
    {k level : ℕ} {master : Master} {codes trace : List ℕ} {lines : List LineState} (b : Begun image codes₀ trace₀ lines₀ k master level codes trace lines)
    {step : Step} (taken : step ≡ step_of master level)
    {stored : List ℕ} (kept : stored ≡ sets codes (code_bytes * master.passes) (code_completed master.passes (next_master master level))) where
  abbrev s : State
  s = state (step_of fresh_master 0) lines₀ trace₀ codes₀

  turn-step : step ≡ (exchanges image k s).step
  turn-step = taken ∙ (λ j. step_of (b.master-is j) (b.level-is j)) ∙ step_is image s refl k

  turn-codes : stored ≡ (exchanges image k s).codes
  turn-codes =
      kept ∙ (λ j. sets (b.codes-are j) (code_bytes * (b.master-is j).passes) (code_completed (b.master-is j).passes (next_master (b.master-is j) (b.level-is j))))
      ∙ codes-are image s k

  turn-answer : step.answer ≡ (exchanges image k s).step.answer
  turn-answer = ap (λ (t : Step). t.answer) turn-step

  -- an event is another exchange
  pub turn-more : {e : ℕ} → step.answer ≡ Answer.Event e → k < length (search_of image).trace
  unfolding has_event
  turn-more a = goes image codes₀ trace₀ lines₀ ready k b.few (ap has_event (sym turn-answer ∙ a))

  pub turn-fits : {e : ℕ} → step.answer ≡ Answer.Event e → k < length trace₀
  turn-fits a = let m = turn-more a in let f = fits image codes₀ trace₀ lines₀ ready in omega arith

  -- the devices answer it, and the trace has it
  pub turn-next : {e n : ℕ} {level' : ℕ} {trace' : List ℕ} {lines' : List LineState} → step.answer ≡ Answer.Event e → n ≡ count_of image
      → trace' ≡ set trace k e
      → lines' ≡ turn_states_of image lines n e (level_on lines n e)
      → level' ≡ level_byte (level_on lines n e)
      → Begun image codes₀ trace₀ lines₀ (k + 1) step.next level' stored trace' lines'
  unfolding exchanges event_in
  turn-next {e} {n} a served written turned answered =
      let sends : e ≡ sent_in image (exchanges image k s) = ap event_in (sym a ∙ turn-answer) in
      let more = turn-more a in
      record {
        few = omega arith;
        master-is = rw add-one (ap (λ (t : Step). t.next) turn-step);
        level-is = rw add-one (answered ∙ (λ j. level_byte (level_on (b.lines-are j) (served j) (sends j))));
        codes-are = rw add-one turn-codes;
        trace-is = rw add-one (written ∙ (λ j. set (b.trace-is j) k (sends j)));
        lines-are = rw add-one (turned ∙ (λ j. turn_states_of image (b.lines-are j) (served j) (sends j) (level_on (b.lines-are j) (served j) (sends j))));
      }

  -- at the end all exchanges are made
  pub turn-ends : ((e : ℕ) → step.answer ≡ Answer.Event e → ⊥)
      → (k ≡ length (search_of image).trace)
      × (stored ≡ written_over (search_of image).codes codes₀)
      × (trace ≡ written_over (search_of image).trace trace₀)
      × (lines ≡ states_of (search_of image).devices ++ drop (count_of image) lines₀)
  turn-ends h =
      let all = ends image codes₀ trace₀ lines₀ ready k b.few (ap has_event (sym turn-answer) ∙ no-event step.answer h) in (
        all,
        turn-codes ∙ ap (λ (i : ℕ). (exchanges image i s).codes) all ∙ codes-done image codes₀ trace₀ lines₀ ready,
        b.trace-is ∙ ap (λ (i : ℕ). (exchanges image i s).trace) all ∙ trace-done image codes₀ trace₀ lines₀ ready,
        b.lines-are ∙ ap (λ (i : ℕ). (exchanges image i s).lines) all ∙ lines-done image codes₀ trace₀ lines₀ ready,
      )
