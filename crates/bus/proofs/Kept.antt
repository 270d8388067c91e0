-- An accepted image stays accepted after a run: the same length, the same table of contents, the same codes; and a device with a flat
-- battery keeps its body. Assumes nothing.
use Prim.Native.Nat.{ℕ, zero, suc, ◌+◌, ◌*◌, ◌<◌, ◌≤◌}
use mathlib.Core.Path.{◌≡◌, refl, sym, ap, subst, ◌∙◌}
use mathlib.Core.Bool.{true}
use mathlib.Core.List.{List, [], ◌∷◌, ◌++◌, append-nil}
use native.Mathlib.Omega.{arith}
use lib.ListN.{length, get_or, take, drop, length-append, length-take}
use lib.Seq.{length-take-le, take-append-le, take_at, drop_at, split_at}
use Rattle.bits.specs.Crc.{registration_check}
use Rattle.kind.specs.declared.Kind.{Kind}
use Rattle.kind.specs.Kind.{body_size, code_length, is_unknown, is_flat}
use Rattle.image.specs.Image.{count_of, edition_of, second_at, offset_at, kind_at, packed_at, body_at, code_at}
use Rattle.image.specs.Refusal.{edition_known, battery_malformed, image_refusal}
use Rattle.image.proofs.Accepted.{Known, accepted-known, known-accepted, code-length}
use Rattle.device.specs.declared.LineState.{LineState}
use Rattle.bus.specs.Bus.{Device, run_trace}
use Rattle.bus.specs.Refusal.{run_refusal}
use Rattle.bus.specs.Run.{waiting_devices, table_of_contents, bodies_of, left_by_run, run_at, run_of}
use Rattle.bus.proofs.Runs.{run-same, same_length}
use Rattle.bus.proofs.Shown.{Stand, stand-same, nobody, packed-bodies, image_of, contents-length, contents-at, count_kept, family-kept, kind-kept, offset-kept, entered, start_is, image-split, waiting-all, waiting-stands}

-- what holds of an image after a run
pub record Kept (image after : List ℕ) : Type 0 where
  pub accepted : image_refusal after ≡ 0
  pub size : length after ≡ length image
  pub count : count_of after ≡ count_of image
  pub contents : table_of_contents after ≡ table_of_contents image
  pub code : (i : ℕ) → i < count_of image → code_at after i ≡ code_at image i
  pub flat : (i : ℕ) → i < count_of image → is_flat (kind_at image i) ≡ true → body_at after i ≡ body_at image i

module _ (image : List ℕ) (known : Known image) where
  -- ---- one device among the others has the code of its entry
  module _ (xs : List Device) (d : Device) (ys : List Device) (stand : Stand image 0 (xs ++ d ∷ ys)) (all : length (xs ++ d ∷ ys) ≡ count_of image) (within : length xs < count_of image) where
    code-room : code_length ≤ length d.body
    code-room =
        let e : length (take code_length d.body) ≡ code_length = ap length (entered image known xs d ys stand all).code ∙ code-length image known (length xs) within in
        omega (arith, length-take code_length d.body)

    code_is : code_at (image_of image known (xs ++ d ∷ ys)) (length xs) ≡ code_at image (length xs)
    code_is =
        let before = table_of_contents image ++ bodies_of xs in
        ap (λ (m : ℕ). take code_length (drop m (image_of image known (xs ++ d ∷ ys)))) (start_is image known xs d ys stand all)
        ∙ ap (λ (l : List ℕ). take code_length (drop (length before) l)) (image-split image known xs d ys stand all)
        ∙ ap (take code_length) (drop_at before (d.body ++ bodies_of ys) (length before) refl)
        ∙ take-append-le code_length d.body (bodies_of ys) code-room
        ∙ (entered image known xs d ys stand all).code

    -- and, with a flat battery, the body
    flat-is : is_flat (kind_at image (length xs)) ≡ true → body_at (image_of image known (xs ++ d ∷ ys)) (length xs) ≡ body_at image (length xs)
    flat-is flat =
        let P = image_of image known (xs ++ d ∷ ys) in
        let before = table_of_contents image ++ bodies_of xs in
        let own = entered image known xs d ys stand all in
        ap (λ (m : ℕ). take m (drop (offset_at P (length xs)) P)) (ap body_size (kind-kept image known (xs ++ d ∷ ys) (length xs) within) ∙ sym own.size)
        ∙ ap (λ (m : ℕ). take (length d.body) (drop m P)) (start_is image known xs d ys stand all)
        ∙ ap (λ (l : List ℕ). take (length d.body) (drop (length before) l)) (image-split image known xs d ys stand all)
        ∙ ap (take (length d.body)) (drop_at before (d.body ++ bodies_of ys) (length before) refl)
        ∙ take_at d.body (bodies_of ys) (length d.body) refl
        ∙ own.flat flat

  -- ---- devices that stand at all entries
  module _ (ds : List Device) (stand : Stand image 0 ds) (all : length ds ≡ count_of image) where
    abbrev P : List ℕ
    P = image_of image known ds

    -- what holds of each device among the others holds at each entry
    at_entry : (Q : ℕ → List ℕ → Type 0)
        → ((xs : List Device) (d : Device) (ys : List Device) → Stand image 0 (xs ++ d ∷ ys) → length (xs ++ d ∷ ys) ≡ count_of image
        → length xs < count_of image → Q (length xs) (image_of image known (xs ++ d ∷ ys)))
        → (i : ℕ) → i < count_of image → Q i P
    at_entry Q each i h =
        let d = get_or ds i nobody in
        let xs = take i ds in
        let ys = drop (suc i) ds in
        let i-within : i < length ds = omega (arith, all) in
        let cut : ds ≡ xs ++ d ∷ ys = split_at ds i nobody i-within in
        let len : length xs ≡ i = length-take-le i ds (omega arith) in
        let one : Q (length xs) (image_of image known (xs ++ d ∷ ys)) =
        each xs d ys (subst (Stand image 0) cut stand) (sym (ap length cut) ∙ all) (omega arith) in
        subst (λ (l : List Device). Q i (image_of image known l)) (sym cut) (subst (λ (j : ℕ). Q j (image_of image known (xs ++ d ∷ ys))) len one)

    code-kept : (i : ℕ) → i < count_of image → code_at P i ≡ code_at image i
    code-kept i h = at_entry (λ (j : ℕ) (l : List ℕ). code_at l j ≡ code_at image j) code_is i h

    flat-kept : (i : ℕ) → i < count_of image → is_flat (kind_at image i) ≡ true → body_at P i ≡ body_at image i
    flat-kept i h = at_entry (λ (j : ℕ) (l : List ℕ). is_flat (kind_at image j) ≡ true → body_at l j ≡ body_at image j) flat-is i h

    packed-kept : (i : ℕ) → i ≤ count_of image → packed_at P i ≡ packed_at image i
    unfolding packed_at
    packed-kept zero h = ap (λ (n : ℕ). 2 + 4 * n) (count_kept image known ds)
    packed-kept (suc i) h = omega (arith, packed-kept i (omega arith), ap body_size (kind-kept image known ds i h))

    size-kept : length P ≡ packed_at image (count_of image)
    unfolding packed_at
    size-kept =
        let e : 0 + length ds ≡ count_of image = omega (arith, all) in
        let last : packed_at image (count_of image) ≡ packed_at image 0 + length (bodies_of ds) = ap (packed_at image) (sym e) ∙ packed-bodies image 0 ds [] (subst (Stand image 0) (sym (append-nil ds)) stand) in
        omega (arith, last, length-append (table_of_contents image) (bodies_of ds), contents-length image known)

    abbrev below : (i : ℕ) → i < count_of P → i < count_of image
    below i h = subst (λ (n : ℕ). i < n) (count_kept image known ds) h

    known_kept : Known P
    known_kept = record {
      entries = omega (arith, count_kept image known ds, length-append (table_of_contents image) (bodies_of ds), contents-length image known);
      short = omega (arith, size-kept, known.whole, known.short);
      few = omega (arith, count_kept image known ds, known.few);
      edition = ap edition_known (contents-at image known ds 1 (omega arith)) ∙ known.edition;
      battery = λ i h.
          ap (λ (n : ℕ). battery_malformed n (second_at P i) (kind_at P i)) (contents-at image known ds 1 (omega arith))
          ∙ ap (λ (n : ℕ). battery_malformed (edition_of image) n (kind_at P i)) (contents-at image known ds (2 + 4 * i + 1) (omega (arith, below i h)))
          ∙ ap (λ (k : Kind). battery_malformed (edition_of image) (second_at image i) k) (kind-kept image known ds i (below i h))
          ∙ known.battery i (below i h);
      kind = λ i h. ap is_unknown (kind-kept image known ds i (below i h)) ∙ known.kind i (below i h);
      placed = λ i h. offset-kept image known ds i (below i h) ∙ known.placed i (below i h) ∙ sym (packed-kept i (omega (arith, below i h)));
      whole = size-kept ∙ sym (packed-kept (count_of image) (omega arith)) ∙ ap (packed_at P) (sym (count_kept image known ds));
      code = λ i h. ap registration_check (code-kept i (below i h)) ∙ known.code i (below i h);
      family = λ i h. ap (λ (l : List ℕ). get_or l 0 0) (code-kept i (below i h)) ∙ known.family i (below i h) ∙ sym (family-kept image known ds i (below i h));
      distinct = λ i j h k same. known.distinct i j h (below j k) (sym (code-kept i (omega (arith, below j k))) ∙ same ∙ code-kept j (below j k));
    }

    pub image-kept : Kept image P
    image-kept = record {
      accepted = known-accepted P known_kept;
      size = size-kept ∙ sym known.whole;
      count = count_kept image known ds;
      contents = ap (λ (n : ℕ). take (2 + 4 * n) P) (count_kept image known ds) ∙ take_at (table_of_contents image) (bodies_of ds) (2 + 4 * count_of image) (contents-length image known);
      code = code-kept;
      flat = flat-kept;
    }

-- ---- a run

run-kept-at : (number : ℕ) (trace image answers : List ℕ) (lines : List LineState) → image_refusal image ≡ 0 → Kept image (run_at number image trace answers lines).image
unfolding run_at left_by_run
run-kept-at zero trace image answers lines e =
    let known = accepted-known image e in
    let same = run-same trace (waiting_devices image) in
    image-kept image known (run_trace trace (waiting_devices image)).devices (stand-same image 0 same (waiting-stands image known)) (same_length same ∙ waiting-all image known)
run-kept-at (suc number) trace image answers lines e = record { accepted = e; size = refl; count = refl; contents = refl; code = λ i h. refl; flat = λ i h e. refl }

-- whether it is refused or not
pub run-kept : (trace image answers : List ℕ) (lines : List LineState) → image_refusal image ≡ 0 → Kept image (run_of image trace answers lines).image
unfolding run_of
run-kept trace image answers lines e = run-kept-at (run_refusal image trace (length answers) (length lines)) trace image answers lines e
