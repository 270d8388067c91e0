use Prim.Native.Nat.{ℕ, ◌≤◌}
use mathlib.Core.Path.{◌≡◌, sym, ap, subst, ◌∙◌}
use mathlib.Core.List.{List}
use lib.ListN.{length, take, replicate}
use lib.Seq.{sets, length-take-le}
use Rattle.image.specs.Refusal.{image_refusal}
use Rattle.image.specs.Image.{count_of}
use Rattle.device.specs.declared.LineState.{LineState}
use Rattle.device.specs.Device.{waiting_state}
use Rattle.bus.specs.Loops.{run_state}
use Rattle.bus.proofs.Laws.{admitted}
use Rattle.test_exports.specs.Looked.{looked_after}
use Rattle.test_exports.specs.Loops.{numbers}
use Rattle.test_exports.proofs.Numbers.{image-most, copy-length, copy_holds, numbers-shown}
use Rattle.test_exports.proofs.number_copy.Goals as goal

-- The copy has as many bytes as the longest image.
room : (image into : List ℕ) → image_refusal image ≡ 0 → into ≡ sets (replicate 65535 0) 0 image → length image ≤ length into
room image into accepted e =
    subst (λ (l : List ℕ). length image ≤ length l) (sym e)
    (subst (λ (m : ℕ). length image ≤ m) (sym (copy-length image 65535)) (image-most image accepted))

pub slice_bounds-own-end : goal.slice_bounds-own-end
slice_bounds-own-end c = room c.args.image.now _ (admitted _ _ _ _ c.requires).image-accepted c.copy_out.ensures

pub slice_bounds-number_own-end : goal.slice_bounds-number_own-end
slice_bounds-number_own-end c =
    sym (length-take-le (length c.args.image.now) _
    (room c.args.image.now _ (admitted _ _ _ _ c.requires).image-accepted c.copy_out.ensures))

pub number_own-requires : goal.number_own-requires
number_own-requires c =
    let has = admitted _ _ _ _ c.requires in
    let count = c.device_count-n in
    (has.answers-room, subst (λ (m : ℕ). m ≤ 64) (sym count.ensures) has.lines-room)

pub returns : goal.returns
unfolding looked_after
returns c =
    let image : List ℕ = c.args.image.now in
    let trace : List ℕ = c.args.trace.now in
    let looked : List ℕ = c.args.looked.now in
    let short = image-most image (admitted _ _ _ _ c.requires).image-accepted in
    let lines : List LineState = replicate 64 waiting_state in
    let copy = c.copy_out in
    let count = c.device_count-n in
    let told : ℕ → List ℕ → List ℕ = λ n l. numbers trace n (length trace) (run_state l looked lines) in
    c.number_own.ensures.1
    ∙ ap (λ (m : ℕ). told m (take (length image) copy.new.into)) count.ensures
    ∙ ap (λ (l : List ℕ). told (count_of image) (take (length image) l)) copy.ensures
    ∙ ap (told (count_of image)) (copy_holds image 65535 short)
    ∙ numbers-shown image trace looked c.requires
