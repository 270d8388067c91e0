-- The whole search of devices on the bus: the passes find the codes in order, and no device is changed. Assumes nothing.
use Rattle.std.specs.Prelude.{Option, None, Some}
use Prim.Native.Nat.{ℕ, ◌+◌, ◌<◌, ◌≤◌}
use mathlib.Core.Path.{◌≡◌, refl, ap, ◌∙◌}
use mathlib.Core.Bool.{Bool, true}
use mathlib.Core.List.{List, [], ◌∷◌, ◌++◌, map, append-nil, Memᴰ}
use native.Mathlib.Omega.{arith}
use lib.ListN.{length, length-map}
use Rattle.bits.specs.Crc.{registration_check}
use Rattle.kind.specs.declared.Kind.{Kind}
use Rattle.device.specs.declared.LineState.{LineState}
use Rattle.bus.specs.Bus.{Device}
use Rattle.master.specs.declared.Stage.{Stage}
use Rattle.master.specs.declared.Stage.TheVariants.{Reset}
use Rattle.master.specs.declared.Master.{Master}
use Rattle.master.specs.Master.{end, end_number, answer_value, answer_of as answer_in, master_answer, no_bits, stage_after_pass}
use Rattle.search_laws.proofs.Codes.{Code}
use Rattle.search_laws.proofs.Passes.{found, directions-of, pass, Runs, last, more}
use Rattle.search_laws.proofs.Bits.{bits_from, bytes_of, bytes-bit}
use Rattle.search_laws.proofs.Devices.{Sized, Member, device, stands_by, addressed_state, Unwritten, addressed-unwritten}
use Rattle.search_laws.proofs.Steps.{master_of, pass-last, pass-more}
use Rattle.search_laws.proofs.Driven.{Driven, follow}
use Rattle.search_laws.proofs.Walk.{Previous, pass_trace, whole-pass}

-- the codes of devices, as bits
abbrev pub codes_of : List Device → List Code
codes_of ds = map (λ (d : Device). bits_from d.body 0 64) ds

-- the events of passes that find these codes, and the codes' bytes
abbrev pub trace_of : List Code → List ℕ
trace_of [] = []
trace_of (c ∷ L) = pass_trace c ++ trace_of L

abbrev pub bytes_all : List Code → List ℕ
bytes_all [] = []
bytes_all (c ∷ L) = bytes_of c ++ bytes_all L

-- how a search ends: with no number, and the same devices on the bus
pub record Ends (m : Master) (ds es : List Device) (L : List Code) : Type 0 where
  pub master : Master
  pub members : List Member
  pub driven : Driven m es (trace_of L) (bytes_all L) master (stands_by addressed_state members)
  pub ended : master_answer master ≡ end 0
  pub devices : map device members ≡ ds

runs-some : {m : ℕ} {S : List Code} {D : List Bool} {L : List Code} → Runs m S D L → 0 < length L
runs-some (last e) = omega arith
runs-some (more e r) = omega arith

some-members : (ms : List Member) (ds : List Device) → map device ms ≡ ds → 0 < length ds → 0 < length ms
some-members ms ds e h = let l = simp length-map at (ap length e) in omega arith

-- what is asked of the codes found: 64 bits that the registration check takes
abbrev pub Taken : List Code → Type 0
Taken L = (d : Code) → Memᴰ d L → (length d ≡ 64) × (registration_check (bytes_of d) ≡ true)

module _ (ds : List Device) (z : Sized ds) (some : 0 < length ds) where
  pub passes-drive : {D : List Bool} {L : List Code} → Runs 64 (codes_of ds) D L → (p : ℕ) (c : Code) (previous : List ℕ) (f : Option ℕ) (s : Kind → List ℕ → LineState) (ms : List Member)
      → directions-of c f ≡ D → Previous c f previous → Unwritten s → map device ms ≡ ds → Taken L → p + length L ≤ 64
      → Ends (master_of Reset p no_bits None previous f) ds (stands_by s ms) L
  unfolding answer_value answer_in end_number
  passes-drive (last {c = d} e) p c previous f s ms pd pk u same taken few =
      let found-d : pass 64 (codes_of (map device ms)) (directions-of c f) ≡ found d None =
      ap (λ (es : List Device). pass 64 (codes_of es) (directions-of c f)) same ∙ ap (pass 64 (codes_of ds)) pd ∙ e in
      let sized : Sized (map device ms) = rw same z in
      let w = whole-pass p (omega arith) c previous f pk s ms u sized (some-members ms ds same some) found-d (taken d (Memᴰ.head refl)).1 in
      record {
        master = master_of (stage_after_pass None (p + 1)) (p + 1) no_bits None (bytes_of d) None;
        members = w.0;
        driven = rw (append-nil (pass_trace d), append-nil (bytes_of d)) w.1;
        ended = ap (λ (x : Stage). answer_value (answer_in x)) (pass-last (p + 1));
        devices = w.2 ∙ same;
      }
  passes-drive (more {c = d} {f = g} {L = L} e r) p c previous f s ms pd pk u same taken few =
      let found-d : pass 64 (codes_of (map device ms)) (directions-of c f) ≡ found d (Some g) =
      ap (λ (es : List Device). pass 64 (codes_of es) (directions-of c f)) same ∙ ap (pass 64 (codes_of ds)) pd ∙ e in
      let sized : Sized (map device ms) = rw same z in
      let w = whole-pass p (omega arith) c previous f pk s ms u sized (some-members ms ds same some) found-d (taken d (Memᴰ.head refl)).1 in
      let left = runs-some r in
      let rest = passes-drive r (p + 1) d (bytes_of d) (Some g) addressed_state w.0 refl (λ j h. bytes-bit d j (taken d (Memᴰ.head refl)).0 h) addressed-unwritten
      (w.2 ∙ same) (λ x h. taken x (Memᴰ.tail h)) (omega arith) in
      record {
        master = rest.master;
        members = rest.members;
        driven = follow w.1 (rw (pass-more (p + 1) g (omega arith)) rest.driven);
        ended = rest.ended;
        devices = rest.devices;
      }
