-- Demand 3: the search of every accepted image is what `Searched` says. Assumes nothing.
use Rattle.std.specs.Prelude.{None}
use Prim.Native.Nat.{ℕ, zero, suc, ◌*◌, ◌<◌, ◌≤◌}
use mathlib.Core.Path.{◌≡◌, refl, sym, ap, ◌∙◌, subst}
use mathlib.Core.Bool.{Bool, false}
use mathlib.Core.List.{List, [], ◌∷◌, ◌++◌, map}
use native.Mathlib.Omega.{arith}
use lib.ListN.{length, get_or, drop, length-map}
use lib.Dec.{eqb, ltb}
use borrow.Author.Tests.{le-ltb}
use Rattle.bits.specs.Bit.{bit_at}
use Rattle.image.specs.Image.{count_of, code_at}
use Rattle.image.specs.Refusal.{image_refusal}
use Rattle.image.proofs.Accepted.{Known, accepted-known}
use Rattle.device.specs.declared.LineState.{LineState}
use Rattle.device.specs.Device.{waiting_state}
use Rattle.bus.specs.Bus.{Device, event_of, some_low, master_high, level_of, run_trace, copied_by_all}
use Rattle.bus.specs.Refusal.{some_byte, bad_trace, no_first_reset, bad_pulse, run_refusal}
use Rattle.bus.specs.Run.{waiting_devices, table_of_contents, bodies_of, states_of, run_result, run_outcome, left_by_run, run_at, run_of}
use Rattle.bus.proofs.Laws.{not-refused}
use Rattle.bus.proofs.Runs.{run_length}
use Rattle.bus.proofs.Shown.{waiting-all, waiting-image}
use Rattle.master.specs.declared.End.TheVariants.{Done}
use Rattle.master.specs.declared.Stage.TheVariants.{Reset, Ended}
use Rattle.master.specs.declared.Master.{Master}
use Rattle.master.specs.Master.{end, end_number, reset_event, answer_value, answer_of as answer_in, master_answer, no_bits, fresh_master, master_at_stage, master_in_range, stage_in_range, step_by_stage, master_after_reset, master_after_level, next_master}
use Rattle.master.specs.Drive.{started_master, code_completed}
use Rattle.search_laws.specs.Search.{Search, most_events, search_of}
use Rattle.search_laws.specs.Words.{Bytes, Precedes, code_written, is_reset, is_slot, resets_in, slots_in, slot_next, passes_in, Passes, pass_codes}
use Rattle.search_laws.specs.Searched.{TraceOf, events_for, resets_for, Searched}
use Rattle.search_laws.proofs.Codes.{Code, listing, Lists, listing-lists, differ}
use Rattle.search_laws.proofs.Passes.{null, Runs, search-runs}
use Rattle.search_laws.proofs.Bits.{bytes_of}
use Rattle.search_laws.proofs.Devices.{active, stands_by, addressed_state, all-active, waiting-unwritten}
use Rattle.search_laws.proofs.Steps.{master_of}
use Rattle.search_laws.proofs.Driven.{bodies, Driven, here, on, driven-bodies, driven-devices, driven-copies, driven-last, driven-codes, driven-events, driven-search, driven-first, driven-next, driven-end}
use Rattle.search_laws.proofs.Whole.{codes_of, trace_of, bytes_all, passes-drive}
use Rattle.search_laws.proofs.Trace.{trace-resets, trace-passes, trace-slots, trace-length, trace-shape, trace-codes, trace-begins, trace-none, codes-size, code-written, at-member, member-at, codes-order}
use Rattle.search_laws.proofs.Image.{bits_at, entry-code, all-waiting, all-sized, all-wide, all-distinct, code-entry, entry_found, all-in-range}

-- ---- trace and codes

-- what holds of the trace and the codes of a search alone
record Written (image trace codes : List ℕ) : Type 0 where
  some : 0 < length trace
  short : length trace ≤ most_events
  begins : no_first_reset trace ≡ false
  low : (p : ℕ → Bool) → p 0 ≡ false → p 1 ≡ false → p 2 ≡ false → some_byte p trace ≡ false
  shape : TraceOf (count_of image) trace
  events : length trace ≡ events_for (count_of image)
  written : codes ≡ pass_codes trace
  size : length codes ≡ 8 * count_of image
  complete : (i : ℕ) → i < count_of image → (k : ℕ) × (k < count_of image) × (code_written codes k ≡ code_at image i)
  sound : (k : ℕ) → k < count_of image → (i : ℕ) × (i < count_of image) × (code_written codes k ≡ code_at image i)
  order : (j k : ℕ) → j < k → k < count_of image → Precedes (code_written codes j) (code_written codes k)
  passes : passes_in trace ≡ count_of image
  resets : resets_in trace ≡ resets_for (count_of image)
  slots : slots_in trace ≡ 200 * count_of image

-- no device: a reset
written_none : (image : List ℕ) → count_of image ≡ 0 → Written image (reset_event ∷ []) []
unfolding some_byte no_first_reset pass_codes passes_in resets_in slots_in slot_next is_reset is_slot
written_none image e = record {
  some = omega arith;
  short = omega arith;
  begins = refl;
  low = λ p a b c. rw c;
  shape = rw e refl;
  events = rw e;
  written = refl;
  size = omega arith;
  complete = λ i h. absurd (omega arith);
  sound = λ k h. absurd (omega arith);
  order = λ j k h l. absurd (omega arith);
  passes = sym e;
  resets = rw e;
  slots = omega arith;
}

-- the passes of the codes in order
module _ (image : List ℕ) (known : Known image) (bytes : Bytes image) (L : List Code) (lists : Lists 64 (codes_of (waiting_devices image)) L) where
  count-found : length L ≡ count_of image
  count-found = lists.count ∙ simp length-map (waiting-all image known)

  some-shape : (n : ℕ) → count_of image ≡ suc n → TraceOf (count_of image) (trace_of L)
  some-shape n e = subst (λ (k : ℕ). TraceOf k (trace_of L)) (sym e) (subst (λ (k : ℕ). Passes k (trace_of L)) (count-found ∙ e) (trace-shape L lists.wide))

  some-resets : (n : ℕ) → count_of image ≡ suc n → resets_in (trace_of L) ≡ resets_for (count_of image)
  some-resets n e = trace-resets L ∙ count-found ∙ e ∙ ap resets_for (sym e)

  written-some : (n : ℕ) → count_of image ≡ suc n → Written image (trace_of L) (bytes_all L)
  written-some n e =
      let l = count-found in
      let few = known.few in
      let t = trace-length L lists.wide in
      record {
        some = omega arith;
        short = omega arith;
        begins = trace-begins L;
        low = λ p a b c. trace-none p a b c L;
        shape = some-shape n e;
        events = t ∙ ap (λ (k : ℕ). 201 * k) (l ∙ e) ∙ ap events_for (sym e);
        written = sym (trace-codes L lists.wide);
        size = codes-size L ∙ ap (λ (k : ℕ). 8 * k) l;
        complete = λ i h.
            let r = member-at (bits_at image i) L (lists.complete (bits_at image i) (entry_found image known bytes i h)) in
            let k = r.1 in
            (r.0, omega arith, code-written L r.0 r.1 ∙ ap bytes_of (sym r.2) ∙ entry-code image known bytes i h);
        sound = λ k h.
            let r = code-entry image known bytes (get_or L k []) (lists.sound (get_or L k []) (at-member L k (omega arith))) in
            (r.0, r.1, code-written L k (omega arith) ∙ ap bytes_of r.2 ∙ entry-code image known bytes r.0 r.1);
        order = λ j k h i. codes-order L lists.wide lists.order j k h (omega arith);
        passes = trace-passes L ∙ l;
        resets = some-resets n e;
        slots = trace-slots L lists.wide ∙ ap (λ (k : ℕ). 200 * k) l;
      }

-- ---- the drive

-- a fresh master's first step
started-is : started_master ≡ master_of Reset 0 no_bits None no_bits None
unfolding master_after_level master_in_range stage_in_range step_by_stage fresh_master master_at_stage
started-is = refl

fresh_step : (level : ℕ) → next_master fresh_master level ≡ started_master
unfolding master_after_level master_in_range stage_in_range step_by_stage fresh_master master_at_stage
fresh_step level = refl

-- a search drives a fresh master and waiting devices to the end, with no number
record Drives (image trace codes : List ℕ) : Type 0 where
  master : Master
  devices : List Device
  driven : Driven started_master (waiting_devices image) trace codes master devices
  ended : master_answer master ≡ end 0

no_length : {A : Type 0} (xs : List A) → length xs ≡ 0 → xs ≡ []
no_length [] e = refl
no_length (x ∷ xs) e = absurd (omega arith)

-- no device: no presence on the first reset
drives-none : (image : List ℕ) → waiting_devices image ≡ [] → Drives image (reset_event ∷ []) []
unfolding master_after_level master_in_range stage_in_range step_by_stage master_after_reset fresh_master master_at_stage answer_value answer_in end_number event_of level_of master_high some_low code_completed copied_by_all
drives-none image e = record {
  master = master_of (Ended Done) 0 no_bits None no_bits None;
  devices = [];
  driven = rw e (on refl refl refl refl refl (refl, tt) refl here);
  ended = refl;
}

null-not : (S : List Code) (n : ℕ) → length S ≡ suc n → null S ≡ false
null-not [] n e = absurd (omega arith)
null-not (c ∷ S) n e = refl

drives-some : (image : List ℕ) (known : Known image) (bytes : Bytes image) (L : List Code) → Lists 64 (codes_of (waiting_devices image)) L → Runs 64 (codes_of (waiting_devices image)) [] L
    → (n : ℕ) → count_of image ≡ suc n → Drives image (trace_of L) (bytes_all L)
drives-some image known bytes L lists runs n e =
    let ds = waiting_devices image in
    let size = waiting-all image known in
    let few = known.few in
    let count = count-found image known bytes L lists in
    let ends = passes-drive ds (all-sized image known bytes) (omega arith) runs 0 [] no_bits None (λ kind body. waiting_state) (map active ds) refl tt waiting-unwritten (all-active ds)
    (λ d h. all-in-range image known bytes d (lists.sound d h)) (omega arith) in
    record {
      master = ends.master;
      devices = stands_by addressed_state ends.members;
      driven = subst (λ (m : Master). Driven m ds (trace_of L) (bytes_all L) ends.master (stands_by addressed_state ends.members)) (sym started-is)
          (subst (λ (es : List Device). Driven (master_of Reset 0 no_bits None no_bits None) es (trace_of L) (bytes_all L) ends.master (stands_by addressed_state ends.members)) (all-waiting image known bytes) ends.driven);
      ended = ends.ended;
    }

-- ---- the claim

-- the run of the trace is not refused, and leaves the image as it was
run-admitted : (image : List ℕ) {trace codes : List ℕ} (answers lines : ℕ) → image_refusal image ≡ 0 → Written image trace codes
    → length trace ≤ answers → count_of image ≤ lines → run_refusal image trace answers lines ≡ 0
unfolding bad_trace bad_pulse
run-admitted image {trace} answers lines ok w room lent =
    let short = w.short in
    not-refused image trace answers lines (record {
      image-accepted = ok;
      trace-good = rw (le-ltb 32768 (length trace) (omega arith)) (w.low (λ byte. ltb 6 byte) refl refl refl);
      reset-first = w.begins;
      pulses-good = rw (w.low (λ byte. eqb byte 3) refl refl refl);
      answers-room = room;
      lines-room = lent;
    })

same-image : (ds es : List Device) → bodies ds ≡ bodies es → bodies_of ds ≡ bodies_of es
unfolding bodies_of
same-image [] [] e = refl
same-image [] (d ∷ es) e = differ (cc)
same-image (d ∷ ds) [] e = differ (cc)
same-image (d ∷ ds) (f ∷ es) e =
    let b : d.body ≡ f.body = cc in
    let t = same-image ds es (cc) in
    cc

run-replays : (image : List ℕ) {trace codes : List ℕ} (answers : List ℕ) (lines : List LineState) → image_refusal image ≡ 0 → Written image trace codes
    → (d : Drives image trace codes) → length trace ≤ length answers → count_of image ≤ length lines
    → run_of image trace answers lines
    ≡ run_outcome (run_result 0 0) image ((run_trace trace (waiting_devices image)).answers ++ drop (length trace) answers) (states_of d.devices ++ drop (count_of image) lines)
unfolding run_of run_at left_by_run
run-replays image {trace} answers lines ok w d room lent =
    let ds = waiting_devices image in
    let run = run_trace trace ds in
    let whole : table_of_contents image ++ bodies_of d.devices ≡ image =
    ap (λ (l : List ℕ). table_of_contents image ++ l) (same-image d.devices ds (driven-bodies d.driven)) ∙ waiting-image image (accepted-known image ok) in
    ap (λ (n : ℕ). run_at n image trace answers lines) (run-admitted image (length answers) (length lines) ok w room lent)
    ∙ ap (λ (c : ℕ). run_outcome (run_result 0 c) (table_of_contents image ++ bodies_of run.devices) (run.answers ++ drop (length trace) answers) (states_of run.devices ++ drop (count_of image) lines)) (driven-copies d.driven)
    ∙ ap (λ (es : List Device). run_outcome (run_result 0 0) (table_of_contents image ++ bodies_of es) (run.answers ++ drop (length trace) answers) (states_of es ++ drop (count_of image) lines)) (driven-devices d.driven)
    ∙ ap (λ (l : List ℕ). run_outcome (run_result 0 0) l (run.answers ++ drop (length trace) answers) (states_of d.devices ++ drop (count_of image) lines)) whole

not-twice : (a b : List ℕ) → Precedes a b → a ≡ b → ⊥
not-twice a b p e =
    let x : bit_at a p.lowest ≡ bit_at b p.lowest = ap (λ (c : List ℕ). bit_at c p.lowest) e in
    let y = p.zero-here in
    let z = p.one-there in
    differ (cc)

claim : (image : List ℕ) {trace codes : List ℕ} → image_refusal image ≡ 0 → Written image trace codes → Drives image trace codes → Searched image (search_of image)
unfolding search_of
claim image {trace} {codes} ok w d =
    let known = accepted-known image ok in
    subst (Searched image) (sym (driven-search 0 most_events d.driven d.ended w.short)) (record {
      first = λ level. (fresh_step level, driven-first d.driven w.some);
      next = λ i h. driven-next d.driven i h;
      last = λ i h. ap master_answer (driven-end d.driven i h) ∙ d.ended;
      handed-back = driven-last d.driven;
      ended = d.ended;
      seen = refl;
      seen_size = run_length trace (waiting_devices image);
      replayed = λ answers lines room lent. run-replays image answers lines ok w d room lent;
      left = sym (driven-devices d.driven);
      shape = w.shape;
      events = w.events;
      written = w.written;
      size = w.size;
      complete = w.complete;
      valid = λ i h. record { check = known.code i h; family = known.family i h };
      sound = w.sound;
      once = λ j k h l e. not-twice _ _ (w.order j k h l) e;
      order = w.order;
      passes = w.passes;
      resets = w.resets;
      slots = w.slots;
      again = driven-events 0 d.driven d.ended;
      again-ends = ap master_answer (driven-last d.driven) ∙ d.ended;
      again-codes = driven-codes d.driven;
      again-written = driven-codes d.driven ∙ w.written ∙ ap pass_codes (sym (driven-events 0 d.driven d.ended));
    })

-- the search of an accepted image
record Whole (image : List ℕ) : Type 0 where
  trace : List ℕ
  codes : List ℕ
  written : Written image trace codes
  drives : Drives image trace codes

whole : (image : List ℕ) → Bytes image → image_refusal image ≡ 0 → Whole image
whole image bytes ok = by_count (count_of image) refl
  where
    known : Known image
    known = accepted-known image ok

    by_count : (n : ℕ) → count_of image ≡ n → Whole image
    by_count zero e = record {
      trace = reset_event ∷ [];
      codes = [];
      written = written_none image e;
      drives = drives-none image (no_length (waiting_devices image) (waiting-all image known ∙ e));
    }
    by_count (suc n) e =
        let S = codes_of (waiting_devices image) in
        let lists = listing-lists 64 S (all-wide image known bytes) (all-distinct image known bytes) in
        let some : length S ≡ suc n = simp length-map (waiting-all image known ∙ e) in
        let runs = search-runs 64 S (all-wide image known bytes) (null-not S n some) in
        record {
          trace = trace_of (listing 64 S);
          codes = bytes_all (listing 64 S);
          written = written-some image known bytes (listing 64 S) lists n e;
          drives = drives-some image known bytes (listing 64 S) lists runs n e;
        }

-- DEMAND 3, for every image that is not refused
pub searched : (image : List ℕ) → Bytes image → image_refusal image ≡ 0 → Searched image (search_of image)
searched image bytes ok = let w = whole image bytes ok in claim image ok w.written w.drives

-- the drive of its search
pub search-drive : (image : List ℕ) → Bytes image → image_refusal image ≡ 0
    → Driven started_master (waiting_devices image) (search_of image).trace (search_of image).codes (search_of image).master (search_of image).devices
unfolding search_of
search-drive image bytes ok =
    let w = whole image bytes ok in
    let d = w.drives in
    let is = driven-search 0 most_events d.driven d.ended w.written.short in
    subst (λ (s : Search). Driven started_master (waiting_devices image) s.trace s.codes s.master s.devices) (sym is) d.driven
