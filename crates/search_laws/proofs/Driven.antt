-- A master stepped by the levels of devices on the bus, event by event, and what follows of the search, of the run of its trace, and of a
-- master that is given the run's answers. Assumes nothing.
use Prim.Native.Nat.{ℕ, zero, suc, ◌<◌, ◌≤◌}
use mathlib.Core.Path.{◌≡◌, refl, sym, ap, subst, ◌∙◌}
use mathlib.Core.Bool.{Bool, true, false, not}
use mathlib.Core.List.{List, [], ◌∷◌, ◌++◌, map, append_assoc}
use native.Mathlib.Nat.{le_of_suc-le-suc, not-suc-le-zero, suc_inj}
use native.Mathlib.Omega.{arith}
use lib.ListN.{length, get_or, take}
use lib.Dec.{eqb}
use Rattle.bits.specs.Bit.{level_byte}
use Rattle.master.specs.declared.Master.{Master}
use Rattle.master.specs.Master.{AnswerValue, event, end, master_answer, master_after_level, next_master}
use Rattle.master.specs.Drive.{master_after_levels, event_then, events_from, code_completed, codes_from}
use Rattle.bus.specs.Bus.{Device, event_of, level_of, next_device, bus_step_at, bus_step, with_answer, run_trace, copied_in_trace}
use Rattle.search_laws.proofs.Codes.{differ}
use Rattle.search_laws.proofs.Devices.{Aside, Idle}
use Rattle.search_laws.specs.Search.{Search, search_stopped, search_preceded, search_exchange, search_from}

abbrev pub bodies : List Device → List (List ℕ)
bodies ds = map (λ (d : Device). d.body) ds

-- From a master and devices, by these events, with these codes completed, to a master and devices. Each step is given the level that the
-- devices answered to the event just sent, and each event finds them as the one before left them. No event changes a body, in none is
-- a byte copied, and every slot finds the devices in the ROM stage.
pub data Driven : Master → List Device → List ℕ → List ℕ → Master → List Device → Type 0 where
  here : {m : Master} {ds : List Device} → Driven m ds [] [] m ds
  on : {m n r : Master} {ds es fs : List Device} {e : ℕ} {level : Bool} {code trace codes : List ℕ}
      → master_answer m ≡ event e
      → level_of (event_of e) ds ≡ level
      → master_after_level m level ≡ n
      → map (next_device (event_of e) level) ds ≡ es
      → bodies es ≡ bodies ds
      → Idle (event_of e) level ds
      → code_completed m.passes n ≡ code
      → Driven n es trace codes r fs
      → Driven m ds (e ∷ trace) (code ++ codes) r fs

pub follow : {m n r : Master} {ds es fs : List Device} {t u c d : List ℕ} → Driven m ds t c n es → Driven n es u d r fs → Driven m ds (t ++ u) (c ++ d) r fs
follow here q = q
follow {d = d} (on {code = code} {codes = codes} s l a w b o c p) q = rw (append_assoc code codes d) (on s l a w b o c (follow p q))

-- a level is known by its byte
pub level-byte : (level : Bool) → not (eqb (level_byte level) 0) ≡ level
unfolding level_byte
level-byte true = refl
level-byte false = refl

pub next-is : (m : Master) (level : Bool) → next_master m (level_byte level) ≡ master_after_level m level
next-is m level = ap (master_after_level m) (level-byte level)

-- the run of an event and a trace
abbrev answers_to : List ℕ → List Device → List ℕ
answers_to trace ds = (run_trace trace ds).answers

run-answers : (e : ℕ) (trace : List ℕ) (ds es : List Device) (level : Bool) → level_of (event_of e) ds ≡ level → map (next_device (event_of e) level) ds ≡ es
    → answers_to (e ∷ trace) ds ≡ level_byte level ∷ answers_to trace es
unfolding run_trace bus_step bus_step_at with_answer
run-answers e trace ds es level l w = rw (l, w)

run-devices : (e : ℕ) (trace : List ℕ) (ds es : List Device) (level : Bool) → level_of (event_of e) ds ≡ level → map (next_device (event_of e) level) ds ≡ es
    → (run_trace (e ∷ trace) ds).devices ≡ (run_trace trace es).devices
unfolding run_trace bus_step bus_step_at with_answer
run-devices e trace ds es level l w = rw (l, w)

-- no body is changed
pub driven-bodies : {m r : Master} {ds fs : List Device} {t c : List ℕ} → Driven m ds t c r fs → bodies fs ≡ bodies ds
driven-bodies here = refl
driven-bodies (on s l a w b o c p) = driven-bodies p ∙ b

-- ---- the run of the trace

-- it leaves the same devices
pub driven-devices : {m r : Master} {ds fs : List Device} {t c : List ℕ} → Driven m ds t c r fs → (run_trace t ds).devices ≡ fs
unfolding run_trace
driven-devices here = refl
driven-devices (on {ds = ds} {es = es} {e = e} {level = level} {trace = trace} s l a w b o c p) = run-devices e trace ds es level l w ∙ driven-devices p

-- it copies nothing
pub driven-copies : {m r : Master} {ds fs : List Device} {t c : List ℕ} → Driven m ds t c r fs → copied_in_trace t ds ≡ 0
unfolding copied_in_trace bus_step bus_step_at
driven-copies here = refl
driven-copies (on {ds = ds} {es = es} {e = e} {level = level} {trace = trace} s l a w b o c p) =
    rw (l, w) (omega (arith, o.0, driven-copies p))

-- every slot finds the devices in the ROM stage
abbrev pub AsideIn : List ℕ → List Device → Type 0
AsideIn [] ds = Unit {0}
AsideIn (byte ∷ trace) ds = Aside (event_of byte) ds × AsideIn trace (bus_step (event_of byte) ds).devices

step-devices : (e : ℕ) (ds es : List Device) (level : Bool) → level_of (event_of e) ds ≡ level → map (next_device (event_of e) level) ds ≡ es → (bus_step (event_of e) ds).devices ≡ es
unfolding bus_step bus_step_at
step-devices e ds es level l w = ap (λ (x : Bool). map (next_device (event_of e) x) ds) l ∙ w

pub driven-aside : {m r : Master} {ds fs : List Device} {t c : List ℕ} → Driven m ds t c r fs → AsideIn t ds
driven-aside here = tt
driven-aside (on {ds = ds} {es = es} {e = e} {level = level} {trace = trace} s l a w b o c p) =
    (o.1, subst (λ (x : List Device). AsideIn trace x) (sym (step-devices e ds es level l w)) (driven-aside p))

-- ---- a master that is given its answers

pub driven-last : {m r : Master} {ds fs : List Device} {t c : List ℕ} → Driven m ds t c r fs → master_after_levels m (answers_to t ds) ≡ r
unfolding run_trace master_after_levels
driven-last here = refl
driven-last (on {m = m} {n = n} {ds = ds} {es = es} {e = e} {level = level} {trace = trace} s l a w b o c p) =
    ap (master_after_levels m) (run-answers e trace ds es level l w)
    ∙ ap (λ (x : Master). master_after_levels x (answers_to trace es)) (next-is m level ∙ a) ∙ driven-last p

pub driven-codes : {m r : Master} {ds fs : List Device} {t c : List ℕ} → Driven m ds t c r fs → codes_from m (answers_to t ds) ≡ c
unfolding run_trace codes_from
driven-codes here = refl
driven-codes (on {m = m} {n = n} {ds = ds} {es = es} {e = e} {level = level} {code = code} {trace = trace} s l a w b o c p) =
    ap (codes_from m) (run-answers e trace ds es level l w)
    ∙ ap (λ (x : Master). code_completed m.passes x ++ codes_from x (answers_to trace es)) (next-is m level ∙ a)
    ∙ ap (λ (x : List ℕ). x ++ codes_from n (answers_to trace es)) c ∙ ap (λ (x : List ℕ). code ++ x) (driven-codes p)

pub driven-events : {m r : Master} {ds fs : List Device} {t c : List ℕ} (x : ℕ) → Driven m ds t c r fs → master_answer r ≡ end x → events_from m (answers_to t ds) ≡ t
unfolding run_trace events_from event_then
driven-events x here z = ap (λ (y : AnswerValue). event_then y []) z
driven-events x (on {m = m} {n = n} {ds = ds} {es = es} {e = e} {level = level} {trace = trace} s l a w b o c p) z =
    ap (events_from m) (run-answers e trace ds es level l w)
    ∙ ap (λ (y : AnswerValue). event_then y (events_from (next_master m (level_byte level)) (answers_to trace es))) s
    ∙ ap (λ (y : Master). e ∷ events_from y (answers_to trace es)) (next-is m level ∙ a) ∙ ap (λ (y : List ℕ). e ∷ y) (driven-events x p z)

-- ---- the search

exchanged : (m n : Master) (ds es : List Device) (e : ℕ) (level : Bool) (rest : Master → List Device → Search) → master_answer m ≡ event e → level_of (event_of e) ds ≡ level
    → master_after_level m level ≡ n → map (next_device (event_of e) level) ds ≡ es
    → search_exchange (master_answer m) m ds rest ≡ search_preceded e (level_byte level) (code_completed m.passes n) (rest n es)
unfolding search_exchange bus_step bus_step_at
exchanged m n ds es e level rest s l a w =
    ap (λ (y : AnswerValue). search_exchange y m ds rest) s
    ∙ ap (λ (y : Bool). search_preceded e (level_byte y) (code_completed m.passes (next_master m (level_byte y))) (rest (next_master m (level_byte y)) (map (next_device (event_of e) y) ds))) l
    ∙ ap (λ (y : Master). search_preceded e (level_byte level) (code_completed m.passes y) (rest y (map (next_device (event_of e) level) ds))) (next-is m level ∙ a)
    ∙ ap (λ (y : List Device). search_preceded e (level_byte level) (code_completed m.passes n) (rest n y)) w

-- with a budget for all events it is the drive to the master's end
pub driven-search : {m r : Master} {ds fs : List Device} {t c : List ℕ} (x most : ℕ) → Driven m ds t c r fs → master_answer r ≡ end x → length t ≤ most
    → search_from most m ds ≡ record { trace = t; levels = answers_to t ds; codes = c; master = r; devices = fs }
unfolding search_from search_exchange search_stopped run_trace search_preceded
driven-search x zero here z h = refl
driven-search {r = r} {fs = fs} x (suc most) here z h = ap (λ (y : AnswerValue). search_exchange y r fs (search_from most)) z
driven-search x zero (on s l a w b o c p) z h = absurd (not-suc-le-zero h)
driven-search {r = r} {fs = fs} x (suc most) (on {m = m} {n = n} {ds = ds} {es = es} {e = e} {level = level} {code = code} {trace = trace} {codes = codes} s l a w b o c p) z h =
    let rest = driven-search x most p z (le_of_suc-le-suc h) in
    let seen : answers_to (e ∷ trace) ds ≡ level_byte level ∷ answers_to trace es = run-answers e trace ds es level l w in
    exchanged m n ds es e level (search_from most) s l a w
    ∙ ap (λ (y : Search). search_preceded e (level_byte level) (code_completed m.passes n) y) rest
    ∙ ap (λ (y : List ℕ). record { trace = e ∷ trace; levels = level_byte level ∷ answers_to trace es; codes = y ++ codes; master = r; devices = fs }) c
    ∙ ap (λ (y : List ℕ). record { trace = e ∷ trace; levels = y; codes = code ++ codes; master = r; devices = fs }) (sym seen)

-- ---- step by step

pub driven-first : {m r : Master} {ds fs : List Device} {t c : List ℕ} → Driven m ds t c r fs → 0 < length t → master_answer m ≡ event (get_or t 0 0)
driven-first here h = absurd (not-suc-le-zero h)
driven-first (on s l a w b o c p) h = s

-- the master that a step hands back, which is given level i of those that the run of the trace answers
abbrev stepped_at : Master → List ℕ → ℕ → Master
stepped_at m levels i = next_master (master_after_levels m (take i levels)) (get_or levels i 0)

stepped-first : (m : Master) (level : Bool) (levels : List ℕ) → stepped_at m (level_byte level ∷ levels) 0 ≡ master_after_level m level
unfolding master_after_levels
stepped-first m level levels = next-is m level

stepped-later : (m : Master) (level : Bool) (levels : List ℕ) (i : ℕ) → stepped_at m (level_byte level ∷ levels) (suc i) ≡ stepped_at (master_after_level m level) levels i
unfolding master_after_levels
stepped-later m level levels i = ap (λ (y : Master). stepped_at y levels i) (next-is m level)

-- each later step gets the level of the event before it, and gives the next event
pub driven-next : {m r : Master} {ds fs : List Device} {t c : List ℕ} → Driven m ds t c r fs → (i : ℕ) → suc i < length t
    → master_answer (stepped_at m (answers_to t ds) i) ≡ event (get_or t (suc i) 0)
driven-next here i h = absurd (not-suc-le-zero h)
driven-next (on {m = m} {ds = ds} {es = es} {e = e} {level = level} {trace = trace} s l a w b o c p) zero h =
    ap (λ (y : List ℕ). master_answer (stepped_at m y 0)) (run-answers e trace ds es level l w)
    ∙ ap master_answer (stepped-first m level (answers_to trace es) ∙ a) ∙ driven-first p (le_of_suc-le-suc h)
driven-next (on {m = m} {ds = ds} {es = es} {e = e} {level = level} {trace = trace} s l a w b o c p) (suc i) h =
    ap (λ (y : List ℕ). master_answer (stepped_at m y (suc i))) (run-answers e trace ds es level l w)
    ∙ ap master_answer (stepped-later m level (answers_to trace es) i ∙ ap (λ (y : Master). stepped_at y (answers_to trace es) i) a) ∙ driven-next p i (le_of_suc-le-suc h)

-- the step given the last level hands back the master at the end
pub driven-end : {m r : Master} {ds fs : List Device} {t c : List ℕ} → Driven m ds t c r fs → (i : ℕ) → suc i ≡ length t → stepped_at m (answers_to t ds) i ≡ r
driven-end here i h = absurd (omega arith)
driven-end (on {m = m} {ds = ds} {es = es} {e = e} {level = level} {trace = []} s l a w b o c here) zero h =
    ap (λ (y : List ℕ). stepped_at m y 0) (run-answers e [] ds es level l w) ∙ (stepped-first m level (answers_to [] es) ∙ a)
driven-end (on {trace = f ∷ trace} s l a w b o c p) zero h = absurd (omega arith)
driven-end (on {m = m} {ds = ds} {es = es} {e = e} {level = level} {trace = trace} s l a w b o c p) (suc i) h =
    ap (λ (y : List ℕ). stepped_at m y (suc i)) (run-answers e trace ds es level l w)
    ∙ (stepped-later m level (answers_to trace es) i ∙ ap (λ (y : Master). stepped_at y (answers_to trace es) i) a) ∙ driven-end p i (suc_inj h)

-- ---- one step of a drive to the master's end

-- a master at its end is the last
pub driven-stops : {m r : Master} {ds fs : List Device} {t c : List ℕ} (x : ℕ) → Driven m ds t c r fs → master_answer m ≡ end x → (t ≡ []) × (c ≡ []) × (m ≡ r)
driven-stops x here h = (refl, refl, refl)
driven-stops x (on {e = e} s l a w b o c p) h = let z : event e ≡ end x = sym s ∙ h in differ (cc)

-- a master that says an event sends it, and goes on
pub record Goes (e : ℕ) (m r : Master) (ds fs : List Device) (t c : List ℕ) : Type 0 where
  pub level : Bool
  pub is-level : level_of (event_of e) ds ≡ level
  pub events : List ℕ
  pub codes : List ℕ
  pub trace-is : t ≡ e ∷ events
  pub codes-are : c ≡ code_completed m.passes (master_after_level m level) ++ codes
  pub same : bodies (map (next_device (event_of e) level) ds) ≡ bodies ds
  pub rest : Driven (master_after_level m level) (map (next_device (event_of e) level) ds) events codes r fs

sent-once : {m n r : Master} {ds es fs : List Device} {e f : ℕ} {level : Bool} {code trace codes : List ℕ} → f ≡ e
    → level_of (event_of e) ds ≡ level → master_after_level m level ≡ n → map (next_device (event_of e) level) ds ≡ es → bodies es ≡ bodies ds
    → code_completed m.passes n ≡ code → Driven n es trace codes r fs → Goes f m r ds fs (e ∷ trace) (code ++ codes)
sent-once {m} {n} {r} {ds} {es} {fs} {e} {f} {level} {code} {trace} {codes} same l a w b c p = rw same (record {
  level = level;
  is-level = l;
  events = trace;
  codes = codes;
  trace-is = refl;
  codes-are = ap (λ (x : List ℕ). x ++ codes) (sym c ∙ ap (code_completed m.passes) (sym a));
  same = ap bodies w ∙ b;
  rest = rw (a, w) p;
})

pub driven-goes : {m r : Master} {ds fs : List Device} {t c : List ℕ} (f x : ℕ) → Driven m ds t c r fs → master_answer r ≡ end x → master_answer m ≡ event f → Goes f m r ds fs t c
driven-goes f x here z h = let q : event f ≡ end x = sym h ∙ z in differ (cc)
driven-goes f x (on {e = e} s l a w b o c p) z h = let q : event f ≡ event e = sym h ∙ s in sent-once (cc) l a w b c p
