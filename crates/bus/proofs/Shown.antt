-- Where the image is not refused and there is room, what the loops of `specs/Loops.antt` do is what `specs/Bus.antt` and `specs/Run.antt` say.
use Prim.Native.Nat.{ℕ, zero, suc, ◌+◌, ◌-◌, ◌*◌, ◌<◌, ◌≤◌}
use mathlib.Core.Path.{◌≡◌, refl, sym, ap, subst, ◌∙◌}
use mathlib.Core.Bool.{Bool, true, false, cond, ◌&&◌, not}
use mathlib.Core.List.{List, [], ◌∷◌, ◌++◌, map, append_assoc, append-nil, map-append}
use native.Mathlib.Omega.{arith}
use native.Mathlib.Nat.{add-zero}
use native.Mathlib.Numerals.{add-one}
use lib.ListN.{length, get_or, set, take, drop, replicate, length-append, length-map, length-replicate, take-append-drop, replicate-append-replicate, get_or-append}
use lib.Seq.{length-take-le, get_or-take, take_at, drop_at, get_or_at, set_at, drop-append-add, take-suc, drop-cons, append_snoc, take-length, drop-length, drop-drop}
use lib.Dec.{T, eqb}
use borrow.Author.Tests.{lt-ltb, le-ltb, le-leb}
use Rattle.kind.specs.declared.Kind.{Kind}
use Rattle.kind.specs.declared.Kind.TheVariants.{Unknown}
use Rattle.kind.specs.Kind.{kind_of, body_size, code_length, is_flat}
use Rattle.image.proofs.Counted.{some_refusal}
use Rattle.image.specs.Image.{count_of, edition_of, family_at, second_at, offset_at, flat_at, kind_at, packed_at, body_at, code_at}
use Rattle.image.specs.Refusal.{image_refusal}
use Rattle.image.proofs.Accepted.{Known, accepted-known, body-length, body-code}
use Rattle.device.specs.declared.LineState.{LineState}
use Rattle.device.specs.Device.{waiting_state}
use Rattle.bus.specs.declared.Place.{Place}
use Rattle.bits.specs.Bit.{level_byte}
use Rattle.bus.specs.Bus.{Device, device_with, event_of, level_of, next_state, next_body, next_device, bus_step_at, bus_step, Run, with_answer, run_trace}
use Rattle.bus.specs.Bus.{looked_at, copied_in, copied_by_all, copied_in_trace}
use Rattle.bus.specs.Run.{devices_from, waiting_devices, table_of_contents, bodies_of, states_of, run_result, run_outcome, left_by_run, run_at, run_of, RunOutcome, RunLeaves}
use Rattle.bus.specs.Refusal.{some_byte, bad_trace, no_first_reset, bad_pulse, run_refusal}
use Rattle.bus.specs.Loops.{passed_over, next_state_as_is, next_body_as_is, place_in, device_at_place, device_in, image_with_body, turn_state, turn_image, level_as_is, level_on, line_at, BusState, bus_state, turn_at, turns_up_to, filled_up_to, RunState, run_state, run_event_at, run_events_up_to}
use Rattle.bus.specs.Loops.{looked_as_is, looked_on, fewer_of}
use Rattle.bus.specs.Loops.{copied_as_is, turn_copied, most_copied, added_to, copied_up_to, copied_on, copied_by_events}
use Rattle.std.specs.Prelude.{Err}
use Rattle.image.specs.declared.Refusal.{Refusal}
use Rattle.image.specs.Refusal.{refusal_number}
use Rattle.bus.specs.Run.{RunResult, run_told}
use Rattle.device.proofs.Range.{waiting-in-range}
use Rattle.bus.proofs.Laws.{admitted, not-refused, short-trace, fewer-first}
use Rattle.bus.proofs.Ranges.{InRange, AllIn, as-it-is-state, as-it-is-body, level-as-it-is, part_in, in-at, run_in}
use Rattle.bus.proofs.Ranges.{looked-as-it-is, as-it-is-copied}
use Rattle.bus.proofs.Idle.{idle-state, idle_body, idle-copied}
use Rattle.bus.proofs.Runs.{run_after, run-append, run_length, run-same, AllSame, none, also, part_same, same_length}
use Rattle.bus.proofs.Runs.{copied-append, copied-once, all-copied-append, one-copied-most, all-copied-most, copied-most}

-- ---- devices that stand at the entries of an image from i on
pub record Entered (image : List ℕ) (i : ℕ) (d : Device) : Type 0 where
  pub kind : d.kind ≡ kind_at image i
  pub size : length d.body ≡ body_size (kind_at image i)
  pub code : take code_length d.body ≡ code_at image i
  pub flat : is_flat (kind_at image i) ≡ true → d.body ≡ body_at image i

abbrev pub Stand : List ℕ → ℕ → List Device → Type 0
Stand image i [] = Unit {0}
Stand image i (d ∷ ds) = Entered image i d × Stand image (suc i) ds

-- what is the same stands there too
pub stand-same : {ds es : List Device} (image : List ℕ) (i : ℕ) → AllSame ds es → Stand image i es → Stand image i ds
stand-same image i none s = tt
stand-same image i (also a p) s = (
  record {
    kind = a.kind ∙ s.0.kind;
    size = a.size ∙ s.0.size;
    code = a.code ∙ s.0.code;
    flat = λ e. a.flat (ap is_flat s.0.kind ∙ e) ∙ s.0.flat e;
  },
  stand-same image (suc i) p s.1,
)

-- one of them
stands_at : (image : List ℕ) (i : ℕ) (xs : List Device) (d : Device) (ys : List Device) → Stand image i (xs ++ d ∷ ys) → Entered image (i + length xs) d
stands_at image i [] d ys s = subst (λ (j : ℕ). Entered image j d) (omega arith) s.0
stands_at image i (x ∷ xs) d ys s = subst (λ (j : ℕ). Entered image j d) (omega arith) (stands_at image (suc i) xs d ys s.1)

-- where the bodies of the first of them end
packed_step : (image : List ℕ) (i : ℕ) → packed_at image (suc i) ≡ packed_at image i + body_size (kind_at image i)
unfolding packed_at
packed_step image i = refl

pub packed-bodies : (image : List ℕ) (i : ℕ) (xs ys : List Device) → Stand image i (xs ++ ys) → packed_at image (i + length xs) ≡ packed_at image i + length (bodies_of xs)
unfolding bodies_of
packed-bodies image i [] ys s = ap (packed_at image) (add-zero i) ∙ sym (add-zero (packed_at image i))
packed-bodies image i (x ∷ xs) ys s =
    let e : i + suc (length xs) ≡ suc i + length xs = omega arith in
    ap (packed_at image) e
    ∙ packed-bodies image (suc i) xs ys s.1
    ∙ omega (arith, packed_step image i, s.0.size, length-append x.body (bodies_of xs))

bodies-append : (xs ys : List Device) → bodies_of (xs ++ ys) ≡ bodies_of xs ++ bodies_of ys
unfolding bodies_of
bodies-append [] ys = refl
bodies-append (x ∷ xs) ys = ap (λ (l : List ℕ). x.body ++ l) (bodies-append xs ys) ∙ sym (append_assoc x.body (bodies_of xs) (bodies_of ys))

-- a place by its kind, start and size
abbrev pub placed : Kind → ℕ → ℕ → Place
placed kind start size = record { kind = kind; start = start; end = start + size }

pub place-known : (image : List ℕ) (i : ℕ) → i < count_of image → 2 + 4 * count_of image ≤ length image
    → offset_at image i + body_size (kind_at image i) ≤ length image
    → place_in image i ≡ placed (kind_at image i) (offset_at image i) (body_size (kind_at image i))
unfolding place_in
place-known image i h whole fits =
    rw (lt-ltb i (count_of image) h, lt-ltb (5 + 4 * i) (length image) (omega (arith, h, whole)), le-leb (offset_at image i + body_size (kind_at image i)) (length image) fits)

-- a sum that stays below the largest number
added-fits : (sum bytes : ℕ) → sum + bytes ≤ most_copied → added_to sum bytes ≡ sum + bytes
unfolding added_to
added-fits sum bytes h = rw (le-ltb (most_copied - sum) bytes (omega (arith, h)))

-- what stands past the end of a list of devices, which nothing reads
abbrev pub nobody : Device
nobody = device_with Unknown [] waiting_state

module _ (image : List ℕ) (known : Known image) where
  -- the image of devices: its header is this image's
  abbrev pub image_of : List Device → List ℕ
  image_of ds = table_of_contents image ++ bodies_of ds

  pub contents-length : length (table_of_contents image) ≡ 2 + 4 * count_of image
  contents-length = length-take-le (2 + 4 * count_of image) image known.entries

  pub contents-at : (ds : List Device) (j : ℕ) → j < 2 + 4 * count_of image → get_or (image_of ds) j 0 ≡ get_or image j 0
  contents-at ds j h = get_or-append (table_of_contents image) (bodies_of ds) 0 j (rw contents-length h) ∙ get_or-take (2 + 4 * count_of image) image j 0 h

  pub count_kept : (ds : List Device) → count_of (image_of ds) ≡ count_of image
  count_kept ds = contents-at ds 0 (omega arith)

  pub family-kept : (ds : List Device) (i : ℕ) → i < count_of image → family_at (image_of ds) i ≡ family_at image i
  family-kept ds i h = contents-at ds (2 + 4 * i) (omega arith)

  -- edition, family and second byte say the kind
  pub kind-kept : (ds : List Device) (i : ℕ) → i < count_of image → kind_at (image_of ds) i ≡ kind_at image i
  kind-kept ds i h =
      let edition = contents-at ds 1 (omega arith) in
      let family = family-kept ds i h in
      let second = contents-at ds (2 + 4 * i + 1) (omega arith) in
      ap (λ (f : ℕ). kind_of f (flat_at (image_of ds) i)) family
      ∙ ap (λ (e : ℕ). kind_of (family_at image i) (eqb e 2 && eqb (second_at (image_of ds) i) 1)) edition
      ∙ ap (λ (b : ℕ). kind_of (family_at image i) (eqb (edition_of image) 2 && eqb b 1)) second

  pub offset-kept : (ds : List Device) (i : ℕ) → i < count_of image → offset_at (image_of ds) i ≡ offset_at image i
  offset-kept ds i h = omega (arith, contents-at ds (2 + 4 * i + 2) (omega arith), contents-at ds (2 + 4 * i + 3) (omega arith))

  -- ---- one device among the others
  module _ (xs : List Device) (d : Device) (ys : List Device) (stand : Stand image 0 (xs ++ d ∷ ys)) (all : length (xs ++ d ∷ ys) ≡ count_of image) where
    abbrev P : List ℕ
    P = image_of (xs ++ d ∷ ys)

    -- what lies before its body
    abbrev before : List ℕ
    before = table_of_contents image ++ bodies_of xs

    within : length xs < count_of image
    within = omega (arith, all, length-append xs (d ∷ ys))

    pub entered : Entered image (length xs) d
    entered = subst (λ (j : ℕ). Entered image j d) (omega arith) (stands_at image 0 xs d ys stand)

    pub image-split : P ≡ before ++ (d.body ++ bodies_of ys)
    unfolding bodies_of
    image-split = ap (λ (l : List ℕ). table_of_contents image ++ l) (bodies-append xs (d ∷ ys)) ∙ sym (append_assoc (table_of_contents image) (bodies_of xs) (d.body ++ bodies_of ys))

    pub start_is : offset_at P (length xs) ≡ length before
    unfolding packed_at
    start_is =
        let z : length xs ≡ 0 + length xs = omega arith in
        let e : packed_at image (length xs) ≡ packed_at image 0 + length (bodies_of xs) = ap (packed_at image) z ∙ packed-bodies image 0 xs (d ∷ ys) stand in
        offset-kept (xs ++ d ∷ ys) (length xs) within ∙ known.placed (length xs) within ∙ e
        ∙ omega (arith, length-append (table_of_contents image) (bodies_of xs), contents-length)

    kind-is : kind_at P (length xs) ≡ d.kind
    kind-is = kind-kept (xs ++ d ∷ ys) (length xs) within ∙ sym entered.kind

    size_is : body_size (kind_at P (length xs)) ≡ length d.body
    size_is = ap body_size (kind-kept (xs ++ d ∷ ys) (length xs) within) ∙ sym entered.size

    fits : offset_at P (length xs) + body_size (kind_at P (length xs)) ≤ length P
    fits = omega (arith, start_is, size_is, ap length image-split, length-append before (d.body ++ bodies_of ys), length-append d.body (bodies_of ys))

    pub place_is : place_in P (length xs) ≡ placed d.kind (length before) (length d.body)
    place_is =
        place-known P (length xs) (subst (λ (m : ℕ). length xs < m) (sym (count_kept (xs ++ d ∷ ys))) within)
        (omega (arith, count_kept (xs ++ d ∷ ys), contents-length, length-append (table_of_contents image) (bodies_of (xs ++ d ∷ ys)))) fits
        ∙ ap (λ (k : Kind). placed k (offset_at P (length xs)) (body_size (kind_at P (length xs)))) kind-is
        ∙ ap (λ (s : ℕ). placed d.kind s (body_size (kind_at P (length xs)))) start_is
        ∙ ap (λ (s : ℕ). placed d.kind (length before) s) size_is

    -- it is the device that its place in the image gives
    body_is : take (length before + length d.body - length before) (drop (length before) P) ≡ d.body
    body_is =
        let e : length before + length d.body - length before ≡ length d.body = omega arith in
        ap (λ (m : ℕ). take m (drop (length before) P)) e
        ∙ ap (λ (l : List ℕ). take (length d.body) (drop (length before) l)) image-split
        ∙ ap (λ (l : List ℕ). take (length d.body) l) (drop_at before (d.body ++ bodies_of ys) (length before) refl)
        ∙ take_at d.body (bodies_of ys) (length d.body) refl

    pub device-is : device_in P (length xs) d.state ≡ d
    unfolding device_in device_at_place
    device-is = ap (λ (p : Place). device_at_place P p d.state) place_is ∙ ap (λ (b : List ℕ). device_with d.kind b d.state) body_is

    -- another body in its place
    pub body-put : (e : Device) → image_with_body P (place_in P (length xs)) e.body ≡ image_of (xs ++ e ∷ ys)
    unfolding image_with_body bodies_of
    body-put e =
        ap (λ (p : Place). image_with_body P p e.body) place_is
        ∙ ap (λ (l : List ℕ). take (length before) l ++ (e.body ++ drop (length before + length d.body) l)) image-split
        ∙ ap (λ (l : List ℕ). l ++ (e.body ++ drop (length before + length d.body) (before ++ (d.body ++ bodies_of ys)))) (take_at before (d.body ++ bodies_of ys) (length before) refl)
        ∙ ap (λ (l : List ℕ). before ++ (e.body ++ l)) (drop-append-add before (d.body ++ bodies_of ys) (length d.body) ∙ drop_at d.body (bodies_of ys) (length d.body) refl)
        ∙ append_assoc (table_of_contents image) (bodies_of xs) (e.body ++ bodies_of ys)
        ∙ ap (λ (l : List ℕ). table_of_contents image ++ l) (sym (bodies-append xs (e ∷ ys)))

  -- ---- all devices, with what stands behind their line states
  module _ (tail : List LineState) where
    abbrev lines_of : List Device → List LineState
    lines_of ds = states_of ds ++ tail

    abbrev bus_state_of : List Device → BusState
    bus_state_of ds = bus_state (image_of ds) (lines_of ds)

    module _ (xs : List Device) (d : Device) (ys : List Device) where
      lines_split : lines_of (xs ++ d ∷ ys) ≡ states_of xs ++ d.state ∷ lines_of ys
      lines_split = ap (λ (l : List LineState). l ++ tail) (map-append (λ (x : Device). x.state) xs (d ∷ ys)) ∙ append_assoc (states_of xs) (d.state ∷ states_of ys) tail

      states-length : length (states_of xs) ≡ length xs
      states-length = length-map xs (λ (x : Device). x.state)

      line-is : line_at (lines_of (xs ++ d ∷ ys)) (length xs) ≡ d.state
      line-is = ap (λ (l : List LineState). line_at l (length xs)) lines_split ∙ get_or_at (states_of xs) d.state (lines_of ys) waiting_state (length xs) states-length

    line-put : (xs : List Device) (d e : Device) (ys : List Device) → set (lines_of (xs ++ d ∷ ys)) (length xs) e.state ≡ lines_of (xs ++ e ∷ ys)
    line-put xs d e ys =
        ap (λ (l : List LineState). set l (length xs) e.state) (lines_split xs d ys)
        ∙ set_at (states_of xs) d.state (lines_of ys) e.state (length xs) (states-length xs e ys)
        ∙ sym (lines_split xs e ys)

    -- the turn of one device that is in range
    module _ (byte : ℕ) (level : Bool) (xs : List Device) (d : Device) (ys : List Device) (stand : Stand image 0 (xs ++ d ∷ ys))
        (all : length (xs ++ d ∷ ys) ≡ count_of image) (ranged : InRange d) where
      abbrev whole : List ℕ
      whole = image_of (xs ++ d ∷ ys)

      abbrev after : Device
      after = next_device (event_of byte) level d

      turn-state : turn_state whole (length xs) d.state byte level ≡ next_state (event_of byte) level d
      unfolding turn_state
      turn-state = choose (passed_over byte d.state) refl
        where
          choose : (b : Bool) → passed_over byte d.state ≡ b
              → cond b d.state (next_state_as_is (event_of byte) level (device_in whole (length xs) d.state)) ≡ next_state (event_of byte) level d
          choose true e = idle-state byte d ranged e level
          choose false e = ap (next_state_as_is (event_of byte) level) (device-is xs d ys stand all) ∙ as-it-is-state d ranged (event_of byte) level

      turn-image : turn_image whole (length xs) d.state byte level ≡ image_of (xs ++ after ∷ ys)
      unfolding turn_image next_device
      turn-image = choose (passed_over byte d.state) refl ∙ body-put xs d ys stand all after
        where
          choose : (b : Bool) → passed_over byte d.state ≡ b
              → cond b whole (image_with_body whole (place_in whole (length xs)) (next_body_as_is (event_of byte) level (device_in whole (length xs) d.state)))
              ≡ image_with_body whole (place_in whole (length xs)) (next_body (event_of byte) level d)
          choose true e =
              sym (ap (λ (b : List ℕ). image_with_body whole (place_in whole (length xs)) b) (sym (idle_body byte d ranged e level)) ∙ body-put xs d ys stand all d)
          choose false e =
              ap (λ (c : Device). image_with_body whole (place_in whole (length xs)) (next_body_as_is (event_of byte) level c)) (device-is xs d ys stand all)
              ∙ ap (λ (b : List ℕ). image_with_body whole (place_in whole (length xs)) b) (as-it-is-body d ranged (event_of byte) level)

      turn-copied : turn_copied whole (length xs) d.state byte level ≡ copied_in (event_of byte) level d
      unfolding turn_copied
      turn-copied = choose (passed_over byte d.state) refl
        where
          choose : (b : Bool) → passed_over byte d.state ≡ b
              → cond b 0 (copied_as_is (event_of byte) level (device_in whole (length xs) d.state)) ≡ copied_in (event_of byte) level d
          choose true e = idle-copied byte d ranged e level
          choose false e = ap (copied_as_is (event_of byte) level) (device-is xs d ys stand all) ∙ as-it-is-copied d ranged (event_of byte) level

      turn_is : turn_at byte level (length xs) (bus_state_of (xs ++ d ∷ ys)) ≡ bus_state_of (xs ++ after ∷ ys)
      unfolding turn_at next_device
      turn_is =
          let i = length xs in
          let L = lines_of (xs ++ d ∷ ys) in
          ap (λ (s : LineState). bus_state (turn_image whole i s byte level) (set L i (turn_state whole i s byte level))) (line-is xs d ys)
          ∙ ap (λ (s : LineState). bus_state (turn_image whole i d.state byte level) (set L i s)) turn-state
          ∙ ap (λ (l : List ℕ). bus_state l (set L i after.state)) turn-image
          ∙ ap (λ (l : List LineState). bus_state (image_of (xs ++ after ∷ ys)) l) (line-put xs d after ys)

    module _ (ds : List Device) (stand : Stand image 0 ds) (all : length ds ≡ count_of image) (ranged : AllIn ds) where
      -- the turns of the first i devices
      pub turns-are : (byte : ℕ) (level : Bool) (i : ℕ) → i ≤ length ds → turns_up_to byte level i (bus_state_of ds) ≡ bus_state_of (map (next_device (event_of byte) level) (take i ds) ++ drop i ds)
      unfolding turns_up_to
      turns-are byte level zero h = refl
      turns-are byte level (suc i) h =
          let f = next_device (event_of byte) level in
          let d = get_or ds i nobody in
          let xs = map f (take i ds) in
          let ys = drop (suc i) ds in
          let len : length xs ≡ i = length-map (take i ds) f ∙ length-take-le i ds (omega arith) in
          let cut : xs ++ drop i ds ≡ xs ++ d ∷ ys = ap (λ (l : List Device). xs ++ l) (drop-cons ds i nobody h) in
          let same : AllSame (xs ++ d ∷ ys) ds = subst (λ (l : List Device). AllSame l ds) cut (part_same (event_of byte) level i ds) in
          ap (turn_at byte level i) (turns-are byte level i (omega arith) ∙ ap bus_state_of cut)
          ∙ ap (λ (j : ℕ). turn_at byte level j (bus_state_of (xs ++ d ∷ ys))) (sym len)
          ∙ turn_is byte level xs d ys (stand-same image 0 same stand) (same_length same ∙ all)
          (in-at xs d ys (subst AllIn cut (part_in (event_of byte) level i ds ranged)))
          ∙ ap bus_state_of (sym (ap (λ (l : List Device). map f l ++ ys) (take-suc ds i nobody h) ∙ ap (λ (l : List Device). l ++ ys) (map-append f (take i ds) (d ∷ [])) ∙ append_snoc xs (f d) ys))

      -- the bytes that they copy
      copied-are : (byte : ℕ) (level : Bool) (i : ℕ) → i ≤ length ds
          → copied_up_to byte level i (bus_state_of ds) ≡ copied_by_all (event_of byte) level (take i ds)
      unfolding copied_up_to copied_by_all
      copied-are byte level zero h = refl
      copied-are byte level (suc i) h =
          let event = event_of byte in
          let f = next_device event level in
          let d = get_or ds i nobody in
          let xs = map f (take i ds) in
          let ys = drop (suc i) ds in
          let len : length xs ≡ i = length-map (take i ds) f ∙ length-take-le i ds (omega arith) in
          let cut : xs ++ drop i ds ≡ xs ++ d ∷ ys = ap (λ (l : List Device). xs ++ l) (drop-cons ds i nobody h) in
          let same : AllSame (xs ++ d ∷ ys) ds = subst (λ (l : List Device). AllSame l ds) cut (part_same event level i ds) in
          let before : turns_up_to byte level i (bus_state_of ds) ≡ bus_state_of (xs ++ d ∷ ys) =
          turns-are byte level i (omega arith) ∙ ap bus_state_of cut in
          let one : turn_copied (image_of (xs ++ d ∷ ys)) i (line_at (lines_of (xs ++ d ∷ ys)) i) byte level ≡ copied_in event level d =
          ap (λ (j : ℕ). turn_copied (image_of (xs ++ d ∷ ys)) j (line_at (lines_of (xs ++ d ∷ ys)) j) byte level) (sym len)
          ∙ ap (λ (l : LineState). turn_copied (image_of (xs ++ d ∷ ys)) (length xs) l byte level) (line-is xs d ys)
          ∙ turn-copied byte level xs d ys (stand-same image 0 same stand) (same_length same ∙ all)
          (in-at xs d ys (subst AllIn cut (part_in event level i ds ranged))) in
          let few : copied_by_all event level (take i ds) ≤ 32 * i =
          subst (λ (m : ℕ). copied_by_all event level (take i ds) ≤ 32 * m) (length-take-le i ds (omega arith)) (all-copied-most event level (take i ds)) in
          ap (λ (s : BusState). added_to (copied_up_to byte level i (bus_state_of ds)) (turn_copied s.image i (line_at s.lines i) byte level)) before
          ∙ (λ j. added_to (copied-are byte level i (omega arith) j) (one j))
          ∙ added-fits (copied_by_all event level (take i ds)) (copied_in event level d)
          (omega (arith, few, one-copied-most event level d, all, known.few))
          ∙ sym (ap (copied_by_all event level) (take-suc ds i nobody h) ∙ all-copied-append event level (take i ds) (d ∷ []) ∙ omega arith)

      pub level-is : (byte : ℕ) → level_on (lines_of ds) (count_of image) byte ≡ level_of (event_of byte) ds
      unfolding level_on
      level-is byte =
          let len : length (states_of ds) ≡ count_of image = length-map ds (λ (x : Device). x.state) ∙ all in
          ap (level_as_is (event_of byte)) (take_at (states_of ds) tail (count_of image) len)
          ∙ level-as-it-is (event_of byte) ds ranged

      pub looked-is : (byte : ℕ) → looked_on (lines_of ds) (count_of image) byte ≡ looked_at (event_of byte) ds
      unfolding looked_on
      looked-is byte =
          let len : length (states_of ds) ≡ count_of image = length-map ds (λ (x : Device). x.state) ∙ all in
          ap (looked_as_is (event_of byte)) (take_at (states_of ds) tail (count_of image) len)
          ∙ looked-as-it-is (event_of byte) ds ranged

      pub event-copied : (byte : ℕ) → copied_on (count_of image) byte (bus_state_of ds) ≡ copied_by_all (event_of byte) (level_of (event_of byte) ds) ds
      unfolding copied_on
      event-copied byte =
          let level = level_of (event_of byte) ds in
          let room : count_of image ≤ length (lines_of ds) =
          omega (arith, all, length-append (states_of ds) tail, length-map ds (λ (x : Device). x.state)) in
          ap (λ (l : Bool). copied_up_to byte l (fewer_of (count_of image) (length (lines_of ds))) (bus_state_of ds)) (level-is byte)
          ∙ ap (λ (m : ℕ). copied_up_to byte level m (bus_state_of ds)) (fewer-first (count_of image) (length (lines_of ds)) room ∙ sym all)
          ∙ copied-are byte level (length ds) (omega arith)
          ∙ ap (copied_by_all (event_of byte) level) (take-length ds)

      pub turned-is : (byte : ℕ) (level : Bool) → turns_up_to byte level (length ds) (bus_state_of ds) ≡ bus_state_of (map (next_device (event_of byte) level) ds)
      turned-is byte level =
          let f = next_device (event_of byte) level in
          turns-are byte level (length ds) (omega arith)
          ∙ ap bus_state_of (ap (λ (l : List Device). map f (take (length ds) ds) ++ l) (drop-length ds) ∙ append-nil (map f (take (length ds) ds)) ∙ ap (map f) (take-length ds))

    -- ---- the events of a trace, on devices that stand at the entries
    module _ (trace answers : List ℕ) (room : length trace ≤ length answers) (ds : List Device) (stand : Stand image 0 ds) (all : length ds ≡ count_of image) (ranged : AllIn ds) where
      -- after k events
      abbrev ran : ℕ → Run
      ran k = run_trace (take k trace) ds

      abbrev run_state_of : ℕ → RunState
      run_state_of k = run_state (image_of (ran k).devices) ((ran k).answers ++ drop k answers) (lines_of (ran k).devices)

      run-next : (k : ℕ) → k < length trace → ran (suc k) ≡ run_after (ran k).answers (run_trace (get_or trace k 0 ∷ []) (ran k).devices)
      run-next k h = ap (λ (t : List ℕ). run_trace t ds) (take-suc trace k 0 h) ∙ run-append (take k trace) (get_or trace k 0 ∷ []) ds

      answers-put : (k a : ℕ) → k < length trace → set ((ran k).answers ++ drop k answers) k a ≡ ((ran k).answers ++ a ∷ []) ++ drop (suc k) answers
      answers-put k a h =
          let len : length (ran k).answers ≡ k = run_length (take k trace) ds ∙ length-take-le k trace (omega arith) in
          ap (λ (l : List ℕ). set ((ran k).answers ++ l) k a) (drop-cons answers k 0 (omega arith))
          ∙ set_at (ran k).answers (get_or answers k 0) (drop (suc k) answers) a k len
          ∙ sym (append_snoc (ran k).answers a (drop (suc k) answers))

      -- one event
      event-is : (k : ℕ) → k < length trace → run_event_at (get_or trace k 0) (count_of image) k (run_state_of k) ≡ run_state_of (suc k)
      unfolding run_event_at run_trace with_answer bus_step bus_step_at
      event-is k h =
          let byte = get_or trace k 0 in
          let es = (ran k).devices in
          let same = run-same (take k trace) ds in
          let stand' = stand-same image 0 same stand in
          let all' : length es ≡ count_of image = same_length same ∙ all in
          let ranged' = run_in (take k trace) ds ranged in
          let level = level_of (event_of byte) es in
          let after = map (next_device (event_of byte) level) es in
          ap (λ (b : Bool). run_state (turns_up_to byte b (count_of image) (bus_state_of es)).image (set ((ran k).answers ++ drop k answers) k (level_byte b)) (turns_up_to byte b (count_of image) (bus_state_of es)).lines) (level-is es stand' all' ranged' byte)
          ∙ ap (λ (s : BusState). run_state s.image (set ((ran k).answers ++ drop k answers) k (level_byte level)) s.lines) (ap (λ (m : ℕ). turns_up_to byte level m (bus_state_of es)) (sym all') ∙ turned-is es stand' all' ranged' byte level)
          ∙ ap (λ (l : List ℕ). run_state (image_of after) l (lines_of after)) (answers-put k (level_byte level) h)
          ∙ ap (λ (r : Run). run_state (image_of r.devices) (r.answers ++ drop (suc k) answers) (lines_of r.devices)) (sym (run-next k h))

      pub events-are : (k : ℕ) → k ≤ length trace → run_events_up_to trace (count_of image) k (run_state (image_of ds) answers (lines_of ds)) ≡ run_state_of k
      unfolding run_events_up_to run_trace
      events-are zero h = refl
      events-are (suc k) h = ap (run_event_at (get_or trace k 0) (count_of image) k) (events-are k (omega arith)) ∙ event-is k h

      pub run_is : run_events_up_to trace (count_of image) (length trace) (run_state (image_of ds) answers (lines_of ds))
          ≡ run_state (image_of (run_trace trace ds).devices) ((run_trace trace ds).answers ++ drop (length trace) answers) (lines_of (run_trace trace ds).devices)
      run_is =
          events-are (length trace) (omega arith)
          ∙ ap (λ (t : List ℕ). run_state (image_of (run_trace t ds).devices) ((run_trace t ds).answers ++ drop (length trace) answers) (lines_of (run_trace t ds).devices)) (take-length trace)

      -- the bytes that they copy, where the trace is no longer than a run takes
      pub events-copied : length trace ≤ 32768 → (k : ℕ) → k ≤ length trace
          → copied_by_events trace (count_of image) k (run_state (image_of ds) answers (lines_of ds)) ≡ copied_in_trace (take k trace) ds
      unfolding copied_by_events copied_in_trace
      events-copied short zero h = refl
      events-copied short (suc k) h =
          let byte = get_or trace k 0 in
          let es = (ran k).devices in
          let same = run-same (take k trace) ds in
          let all' : length es ≡ count_of image = same_length same ∙ all in
          let bytes = copied_by_all (event_of byte) (level_of (event_of byte) es) es in
          let few : copied_in_trace (take k trace) ds ≤ 2048 * k =
          subst (λ (m : ℕ). copied_in_trace (take k trace) ds ≤ 2048 * m) (length-take-le k trace (omega arith))
          (copied-most (take k trace) ds (omega (arith, all, known.few))) in
          ap (λ (s : RunState). added_to (copied_by_events trace (count_of image) k (run_state (image_of ds) answers (lines_of ds)))
          (copied_on (count_of image) byte (bus_state s.image s.lines))) (events-are k (omega arith))
          ∙ (λ j. added_to (events-copied short k (omega arith) j)
          (event-copied es (stand-same image 0 same stand) all' (run_in (take k trace) ds ranged) byte j))
          ∙ added-fits (copied_in_trace (take k trace) ds) bytes
          (omega (arith, few, all-copied-most (event_of byte) (level_of (event_of byte) es) es, all', known.few, short, h))
          ∙ sym (ap (λ (t : List ℕ). copied_in_trace t ds) (take-suc trace k 0 h) ∙ copied-append (take k trace) (byte ∷ []) ds
          ∙ ap (λ (m : ℕ). copied_in_trace (take k trace) ds + m) (copied-once byte es))

  -- ---- the devices at the start of a run
  waiting-stand : (i : ℕ) (states : List LineState) → i + length states ≡ count_of image → Stand image i (devices_from image i states)
  unfolding devices_from
  waiting-stand i [] e = tt
  waiting-stand i (state ∷ states) e =
      let h : i < count_of image = omega arith in
      (record { kind = refl; size = body-length image known i h; code = body-code image known i h; flat = λ _. refl }, waiting-stand (suc i) states (omega arith))

  waiting-range : (i n : ℕ) → i + n ≡ count_of image → AllIn (devices_from image i (replicate n waiting_state))
  unfolding devices_from
  waiting-range i zero e = tt
  waiting-range i (suc n) e =
      (waiting-in-range (kind_at image i) (body_at image i) (body-length image known i (omega arith)), waiting-range (suc i) n (omega arith))

  devices-length : (i : ℕ) (states : List LineState) → length (devices_from image i states) ≡ length states
  unfolding devices_from
  devices-length i [] = refl
  devices-length i (state ∷ states) = ap suc (devices-length (suc i) states)

  pub devices-states : (i : ℕ) (states : List LineState) → states_of (devices_from image i states) ≡ states
  unfolding devices_from
  devices-states i [] = refl
  devices-states i (state ∷ states) = ap (λ (l : List LineState). state ∷ l) (devices-states (suc i) states)

  -- their bodies are what follows the header
  devices-bodies : (i : ℕ) (states : List LineState) → i + length states ≡ count_of image → bodies_of (devices_from image i states) ≡ drop (packed_at image i) image
  unfolding devices_from bodies_of
  devices-bodies i [] e =
      let last : i ≡ count_of image = omega arith in
      sym (ap (λ (j : ℕ). drop (packed_at image j) image) last ∙ ap (λ (m : ℕ). drop m image) (sym known.whole) ∙ drop-length image)
  devices-bodies i (state ∷ states) e =
      let h : i < count_of image = omega arith in
      let size = body_size (kind_at image i) in
      ap (λ (l : List ℕ). body_at image i ++ l) (devices-bodies (suc i) states (omega arith) ∙ ap (λ (m : ℕ). drop m image) (packed_step image i) ∙ sym (drop-drop size (packed_at image i) image))
      ∙ ap (λ (m : ℕ). take size (drop m image) ++ drop size (drop (packed_at image i) image)) (known.placed i h)
      ∙ take-append-drop size (drop (packed_at image i) image)

  pub waiting-all : length (waiting_devices image) ≡ count_of image
  unfolding waiting_devices
  waiting-all = devices-length 0 (replicate (count_of image) waiting_state) ∙ length-replicate (count_of image) waiting_state

  pub waiting-stands : Stand image 0 (waiting_devices image)
  unfolding waiting_devices
  waiting-stands = waiting-stand 0 (replicate (count_of image) waiting_state) (omega (arith, length-replicate (count_of image) waiting_state))

  pub waiting-in : AllIn (waiting_devices image)
  unfolding waiting_devices
  waiting-in = waiting-range 0 (count_of image) (omega arith)

  pub waiting-image : image_of (waiting_devices image) ≡ image
  unfolding waiting_devices packed_at
  waiting-image =
      ap (λ (l : List ℕ). table_of_contents image ++ l) (devices-bodies 0 (replicate (count_of image) waiting_state) (omega (arith, length-replicate (count_of image) waiting_state)))
      ∙ take-append-drop (2 + 4 * count_of image) image

  pub waiting-states : states_of (waiting_devices image) ≡ replicate (count_of image) waiting_state
  unfolding waiting_devices
  waiting-states = devices-states 0 (replicate (count_of image) waiting_state)

-- ---- the run

pub filled_is : (i : ℕ) (state : LineState) (lines : List LineState) → i ≤ length lines → filled_up_to i state lines ≡ replicate i state ++ drop i lines
unfolding filled_up_to
filled_is zero state lines h = refl
filled_is (suc i) state lines h =
    ap (λ (l : List LineState). set l i state) (filled_is i state lines (omega arith) ∙ ap (λ (l : List LineState). replicate i state ++ l) (drop-cons lines i state h))
    ∙ set_at (replicate i state) (get_or lines i state) (drop (suc i) lines) state i (length-replicate i state)
    ∙ sym (append_snoc (replicate i state) state (drop (suc i) lines))
    ∙ ap (λ (l : List LineState). l ++ drop (suc i) lines) (replicate-append-replicate i 1 state ∙ ap (λ (m : ℕ). replicate m state) (add-one i))

-- what the loops make of image, answers and line states
abbrev pub ends : List ℕ → List ℕ → List ℕ → List LineState → RunState
ends trace image answers lines =
    run_events_up_to trace (count_of image) (length trace) (run_state image answers (filled_up_to (count_of image) waiting_state lines))

-- and the bytes that they copy
abbrev pub copied-in-all : List ℕ → List ℕ → List ℕ → List LineState → ℕ
copied-in-all trace image answers lines =
    copied_by_events trace (count_of image) (length trace) (run_state image answers (filled_up_to (count_of image) waiting_state lines))

-- is what the run is to answer and leave, where it is not refused
pub run-shown : (trace image answers : List ℕ) (lines : List LineState) → run_refusal image trace (length answers) (length lines) ≡ 0
    → run_outcome (run_result 0 (copied-in-all trace image answers lines)) (ends trace image answers lines).image (ends trace image answers lines).answers (ends trace image answers lines).lines ≡ run_of image trace answers lines
unfolding run_of run_at left_by_run
run-shown trace image answers lines e =
    let has = admitted image trace (length answers) (length lines) e in
    let known = accepted-known image has.image-accepted in
    let n = count_of image in
    let tail = drop n lines in
    let ds = waiting_devices image in
    let began : filled_up_to n waiting_state lines ≡ states_of ds ++ tail = filled_is n waiting_state lines has.lines-room ∙ ap (λ (l : List LineState). l ++ tail) (sym (waiting-states image known)) in
    let start : run_state image answers (filled_up_to n waiting_state lines) ≡ run_state (image_of image known ds) answers (states_of ds ++ tail) =
    (λ i. run_state (sym (waiting-image image known) i) answers (began i)) in
    let ended : ends trace image answers lines ≡ run_state (table_of_contents image ++ bodies_of (run_trace trace ds).devices) ((run_trace trace ds).answers ++ drop (length trace) answers) (states_of (run_trace trace ds).devices ++ tail) =
    ap (run_events_up_to trace n (length trace)) start
    ∙ run_is image known tail trace answers has.answers-room ds (waiting-stands image known) (waiting-all image known) (waiting-in image known) in
    let copied : copied-in-all trace image answers lines ≡ copied_in_trace trace ds =
    ap (copied_by_events trace n (length trace)) start
    ∙ events-copied image known tail trace answers has.answers-room ds (waiting-stands image known) (waiting-all image known) (waiting-in image known)
    (short-trace trace has.trace-good) (length trace) (omega arith)
    ∙ ap (λ (t : List ℕ). copied_in_trace t ds) (take-length trace) in
    (λ i. run_outcome (run_result 0 (copied i)) (ended i).image (ended i).answers (ended i).lines)
    ∙ ap (λ (m : ℕ). run_at m image trace answers lines) (sym e)

-- what is refused changes nothing, and copies nothing
refused-at : (m : ℕ) (trace image answers : List ℕ) (lines : List LineState) → T (not (eqb m 0)) → run_outcome (run_result m 0) image answers lines ≡ run_at m image trace answers lines
unfolding run_at
refused-at zero trace image answers lines t = absurd t
refused-at (suc m) trace image answers lines t = refl

-- an `Err` tells its refusal's number, which is not 0
refusal-at : (refusal : Refusal) (trace image answers : List ℕ) (lines : List LineState)
    → run_outcome (run_told (Err refusal)) image answers lines ≡ run_at (refusal_number refusal) image trace answers lines
unfolding run_told
refusal-at refusal trace image answers lines = refused-at (refusal_number refusal) trace image answers lines (some_refusal refusal)

pub run-refused : (refusal : Refusal) (trace image answers : List ℕ) (lines : List LineState)
    → refusal_number refusal ≡ run_refusal image trace (length answers) (length lines)
    → run_outcome (run_told (Err refusal)) image answers lines ≡ run_of image trace answers lines
unfolding run_of
run-refused refusal trace image answers lines e =
    refusal-at refusal trace image answers lines ∙ ap (λ (m : ℕ). run_at m image trace answers lines) e

-- what a run left, as one equation and as an equation for each thing
pub run-leaves : (left : RunOutcome) (result : RunResult) (image answers : List ℕ) (lines : List LineState)
    → run_outcome result image answers lines ≡ left → RunLeaves left result image answers lines
run-leaves left result image answers lines e =
    record {
      result-is = ap (λ (o : RunOutcome). o.result) e;
      image-is = ap (λ (o : RunOutcome). o.image) e;
      answers-are = ap (λ (o : RunOutcome). o.answers) e;
      lines_are = ap (λ (o : RunOutcome). o.lines) e;
    }

pub left_is : (left : RunOutcome) (result : RunResult) (image answers : List ℕ) (lines : List LineState)
    → RunLeaves left result image answers lines → run_outcome result image answers lines ≡ left
left_is left result image answers lines l = λ i. run_outcome (l.result-is i) (l.image-is i) (l.answers-are i) (l.lines_are i)

-- the empty trace: no refusal, no answers, the image unchanged, no byte copied, the first n line states waiting
pub empty-run : (image answers : List ℕ) (lines : List LineState) → image_refusal image ≡ 0 → count_of image ≤ length lines
    → run_of image [] answers lines ≡ run_outcome (run_result 0 0) image answers (replicate (count_of image) waiting_state ++ drop (count_of image) lines)
unfolding run_of run_at left_by_run run_trace copied_in_trace bad_trace no_first_reset bad_pulse some_byte
empty-run image answers lines e room =
    let known = accepted-known image e in
    let zero' = not-refused image [] (length answers) (length lines) (record {
      image-accepted = e;
      trace-good = refl;
      reset-first = refl;
      pulses-good = refl;
      answers-room = omega arith;
      lines-room = room;
    }) in
    ap (λ (m : ℕ). run_at m image [] answers lines) zero'
    ∙ ap (λ (l : List ℕ). run_outcome (run_result 0 0) l answers (states_of (waiting_devices image) ++ drop (count_of image) lines)) (waiting-image image known)
    ∙ ap (λ (l : List LineState). run_outcome (run_result 0 0) image answers (l ++ drop (count_of image) lines)) (waiting-states image known)
