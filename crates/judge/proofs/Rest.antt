-- A work space that is longer than the image: an event does with it what it does with the image, and the bytes past the
-- image stay. Assumes nothing.
use Prim.Native.Nat.{ℕ, zero, suc, ◌+◌, ◌-◌, ◌*◌, ◌<◌, ◌≤◌}
use mathlib.Core.Path.{◌≡◌, refl, sym, ap, subst, ◌∙◌}
use mathlib.Core.Bool.{Bool, true, false, cond, ◌&&◌}
use mathlib.Core.List.{List, [], ◌∷◌, ◌++◌, map, append_assoc}
use native.Mathlib.Omega.{arith}
use lib.ListN.{length, get_or, set, take, drop, length-append, length-drop, take-append-drop, get_or-append}
use lib.Seq.{length-take-le, drop-cons}
use lib.Dec.{eqb}
use Rattle.kind.specs.Kind.{kind_of, body_size}
use Rattle.image.specs.Image.{count_of, offset_at, kind_at}
use Rattle.image.proofs.Accepted.{Known}
use Rattle.device.specs.declared.LineState.{LineState}
use Rattle.bus.specs.declared.Place.{Place}
use Rattle.bus.specs.Bus.{Device, event_of, next_device}
use Rattle.bus.specs.Run.{table_of_contents, bodies_of, states_of}
use Rattle.bus.specs.Loops.{passed_over, next_state_as_is, next_body_as_is, place_in, device_at_place, device_in, image_with_body, turn_state, turn_image, line_at, BusState, bus_state, turn_at, turns_up_to}
use Rattle.bus.proofs.Ranges.{AllIn}
use Rattle.bus.proofs.Runs.{AllSame, part_same, same_length}
use Rattle.bus.proofs.Shown.{Stand, stand-same, nobody, image_of, contents-length, kind-kept, count_kept, entered, image-split, placed, place-known, start_is, place_is, turns-are}

drop-front : (s : ℕ) (xs ys : List ℕ) → s ≤ length xs → drop s (xs ++ ys) ≡ drop s xs ++ ys
drop-front zero xs ys h = refl
drop-front (suc s) [] ys h = absurd (omega arith)
drop-front (suc s) (x ∷ xs) ys h = drop-front s xs ys (omega arith)

take-front : (n : ℕ) (xs ys : List ℕ) → n ≤ length xs → take n (xs ++ ys) ≡ take n xs
take-front zero xs ys h = refl
take-front (suc n) [] ys h = absurd (omega arith)
take-front (suc n) (x ∷ xs) ys h = ap (λ (l : List ℕ). x ∷ l) (take-front n xs ys (omega arith))

pub take-drop : (es : List Device) (j : ℕ) → j < length es → es ≡ take j es ++ get_or es j nobody ∷ drop (suc j) es
take-drop es j few = sym (take-append-drop j es) ∙ ap (λ (l : List Device). take j es ++ l) (drop-cons es j nobody few)

module _ (image : List ℕ) (known : Known image) (rest : List ℕ) where
  -- ---- one device among the others
  module _ (xs : List Device) (d : Device) (ys : List Device) (stand : Stand image 0 (xs ++ d ∷ ys)) (all : length (xs ++ d ∷ ys) ≡ count_of image) where
    abbrev i : ℕ
    i = length xs

    abbrev P : List ℕ
    P = image_of image known (xs ++ d ∷ ys)

    abbrev Q : List ℕ
    Q = P ++ rest

    abbrev before : List ℕ
    before = table_of_contents image ++ bodies_of xs

    within : i < count_of image
    within = omega (arith, all, length-append xs (d ∷ ys))

    header : 2 + 4 * count_of image ≤ length P
    header = omega (arith, contents-length image known, length-append (table_of_contents image) (bodies_of (xs ++ d ∷ ys)))

    at : (j : ℕ) → j < 2 + 4 * count_of image → get_or Q j 0 ≡ get_or P j 0
    at j h = get_or-append P rest 0 j (omega (arith, h, header))

    count-q : count_of Q ≡ count_of image
    count-q = at 0 (omega arith) ∙ count_kept image known (xs ++ d ∷ ys)

    kind-q : kind_at Q i ≡ d.kind
    kind-q =
        (λ j. kind_of (at (2 + 4 * i) (omega (arith, within)) j) (eqb (at 1 (omega arith) j) 2 && eqb (at (2 + 4 * i + 1) (omega (arith, within)) j) 1))
        ∙ kind-kept image known (xs ++ d ∷ ys) i within ∙ sym (entered image known xs d ys stand all).kind

    start-q : offset_at Q i ≡ length before
    start-q =
        (λ j. at (2 + 4 * i + 2) (omega (arith, within)) j + 256 * at (2 + 4 * i + 3) (omega (arith, within)) j)
        ∙ start_is image known xs d ys stand all

    size-q : body_size (kind_at Q i) ≡ length d.body
    size-q = ap body_size (kind-q ∙ (entered image known xs d ys stand all).kind) ∙ sym (entered image known xs d ys stand all).size

    inside : length before + length d.body ≤ length P
    inside =
        omega (arith, ap length (image-split image known xs d ys stand all), length-append before (d.body ++ bodies_of ys), length-append d.body (bodies_of ys))

    place-q : place_in Q i ≡ placed d.kind (length before) (length d.body)
    place-q =
        place-known Q i (omega (arith, count-q, within))
        (omega (arith, count-q, contents-length image known, length-append (table_of_contents image) (bodies_of (xs ++ d ∷ ys)), length-append P rest))
        (omega (arith, start-q, size-q, inside, length-append P rest))
        ∙ (λ j. placed (kind-q j) (start-q j) (size-q j))

    -- it is the same device, in the same line state
    pub device-q : (s : LineState) → device_in Q i s ≡ device_in P i s
    unfolding device_in device_at_place
    device-q s =
        let b = length before in
        let n = length d.body in
        ap (λ (p : Place). device_at_place Q p s) place-q
        ∙ ap (λ (l : List ℕ). record { kind = d.kind; body = l; state = s })
        (ap (take (b + n - b)) (drop-front b P rest (omega (arith, inside)))
        ∙ take-front (b + n - b) (drop b P) rest (omega (arith, inside, length-drop b P)))
        ∙ sym (ap (λ (p : Place). device_at_place P p s) (place_is image known xs d ys stand all))

    -- another body in its place
    image-q : (body : List ℕ) → image_with_body Q (place_in Q i) body ≡ image_with_body P (place_in P i) body ++ rest
    unfolding image_with_body
    image-q body =
        let b = length before in
        let e = length before + length d.body in
        ap (λ (p : Place). image_with_body Q p body) place-q
        ∙ (λ j. take-front b P rest (omega (arith, inside)) j ++ (body ++ drop-front e P rest inside j))
        ∙ ap (λ (l : List ℕ). take b P ++ l) (sym (append_assoc body (drop e P) rest))
        ∙ sym (append_assoc (take b P) (body ++ drop e P) rest)
        ∙ ap (λ (p : Place). image_with_body P p body ++ rest) (sym (place_is image known xs d ys stand all))

    state-q : (s : LineState) (byte : ℕ) (level : Bool) → turn_state Q i s byte level ≡ turn_state P i s byte level
    unfolding turn_state
    state-q s byte level = ap (λ (x : Device). cond (passed_over byte s) s (next_state_as_is (event_of byte) level x)) (device-q s)

    turn-q : (s : LineState) (byte : ℕ) (level : Bool) → turn_image Q i s byte level ≡ turn_image P i s byte level ++ rest
    unfolding turn_image
    turn-q s byte level = choose (passed_over byte s)
      where
        choose : (x : Bool) → cond x Q (image_with_body Q (place_in Q i) (next_body_as_is (event_of byte) level (device_in Q i s)))
            ≡ cond x P (image_with_body P (place_in P i) (next_body_as_is (event_of byte) level (device_in P i s))) ++ rest
        choose true = refl
        choose false =
            ap (λ (x : Device). image_with_body Q (place_in Q i) (next_body_as_is (event_of byte) level x)) (device-q s)
            ∙ image-q (next_body_as_is (event_of byte) level (device_in P i s))

  -- ---- all devices
  abbrev with_rest : BusState → BusState
  with_rest s = bus_state (s.image ++ rest) s.lines

  module _ (tail : List LineState) (ds : List Device) (stand : Stand image 0 ds) (all : length ds ≡ count_of image) (ranged : AllIn ds) (byte : ℕ) (level : Bool) where
    abbrev of : List Device → BusState
    of es = bus_state (image_of image known es) (states_of es ++ tail)

    one : (j : ℕ) (es : List Device) → AllSame es ds → j < length ds → turn_at byte level j (with_rest (of es)) ≡ with_rest (turn_at byte level j (of es))
    unfolding turn_at
    one j es same h =
        let few : j < length es = omega (arith, h, same_length same) in
        let xs = take j es in
        let d = get_or es j nobody in
        let ys = drop (suc j) es in
        let cut : es ≡ xs ++ d ∷ ys = take-drop es j few in
        let len : length xs ≡ j = length-take-le j es (omega (arith, few)) in
        let stand' = subst (λ (l : List Device). Stand image 0 l) cut (stand-same image 0 same stand) in
        let all' : length (xs ++ d ∷ ys) ≡ count_of image = sym (ap length cut) ∙ same_length same ∙ all in
        let s = line_at (states_of es ++ tail) j in
        let t : turn_state (image_of image known es ++ rest) j s byte level ≡ turn_state (image_of image known es) j s byte level =
        ap (λ (l : List Device). turn_state (image_of image known l ++ rest) j s byte level) cut
        ∙ ap (λ (n : ℕ). turn_state (image_of image known (xs ++ d ∷ ys) ++ rest) n s byte level) (sym len)
        ∙ state-q xs d ys stand' all' s byte level
        ∙ ap (λ (n : ℕ). turn_state (image_of image known (xs ++ d ∷ ys)) n s byte level) len
        ∙ ap (λ (l : List Device). turn_state (image_of image known l) j s byte level) (sym cut) in
        let u : turn_image (image_of image known es ++ rest) j s byte level ≡ turn_image (image_of image known es) j s byte level ++ rest =
        ap (λ (l : List Device). turn_image (image_of image known l ++ rest) j s byte level) cut
        ∙ ap (λ (n : ℕ). turn_image (image_of image known (xs ++ d ∷ ys) ++ rest) n s byte level) (sym len)
        ∙ turn-q xs d ys stand' all' s byte level
        ∙ ap (λ (n : ℕ). turn_image (image_of image known (xs ++ d ∷ ys)) n s byte level ++ rest) len
        ∙ ap (λ (l : List Device). turn_image (image_of image known l) j s byte level ++ rest) (sym cut) in
        (λ z. bus_state (u z) (set (states_of es ++ tail) j (t z)))

    pub turns-q : (j : ℕ) → j ≤ length ds → turns_up_to byte level j (with_rest (of ds)) ≡ with_rest (turns_up_to byte level j (of ds))
    unfolding turns_up_to
    turns-q zero h = refl
    turns-q (suc j) h =
        let es = map (next_device (event_of byte) level) (take j ds) ++ drop j ds in
        let were = turns-are image known tail ds stand all ranged byte level j (omega (arith, h)) in
        ap (turn_at byte level j) (turns-q j (omega (arith, h)) ∙ ap with_rest were)
        ∙ one j es (part_same (event_of byte) level j ds) h
        ∙ ap (λ (s : BusState). with_rest (turn_at byte level j s)) (sym were)
