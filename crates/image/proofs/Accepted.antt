-- What is known of an image that is not refused, for the layers above, and that whatever is so known is not refused. Assumes nothing.
use Prim.Native.Nat.{ℕ, zero, suc, ◌+◌, ◌*◌, ◌<◌, ◌≤◌}
use mathlib.Core.Path.{◌≡◌, refl, sym, ap, subst, ◌∙◌}
use mathlib.Core.Bool.{Bool, true, false, cond, not, ◌&&◌, ◌||◌, true≢false}
use mathlib.Core.List.{List}
use mathlib.Core.Logic.{⊎_elim}
use native.Mathlib.Omega.{arith}
use native.Mathlib.Nat.{not-suc-le-zero, eq-or-lt_of_le}
use lib.ListN.{length, get_or, take, drop, length-take, length-drop}
use lib.Seq.{take-take, ext_get_or}
use lib.Dec.{eqb, ltb}
use borrow.Author.Tests.{ltb-false, le-ltb, eqb-true, eq-eqb, not-true, not-false}
use Rattle.bits.specs.Crc.{registration_check, crc_of}
use Rattle.kind.specs.declared.Kind.{Kind}
use Rattle.kind.specs.declared.Kind.TheVariants.{Sram, Eprom, Unknown}
use Rattle.kind.specs.Kind.{body_size, code_length, is_unknown}
use Rattle.image.specs.Image.{count_of, edition_of, family_at, second_at, offset_at, kind_at, packed_at, body_at, code_at}
use Rattle.image.specs.Refusal.{some_below, equal_bytes, first_cause, edition_known, battery_malformed}
use Rattle.image.specs.Refusal.{entry_malformed, image_malformed, image_too_long, body_misplaced, code_refused, some_code_refused, code_repeated, some_code_repeated, image_causes, image_refusal}

-- ---- tests

or-false : (a b : Bool) → (a || b) ≡ false → (a ≡ false) × (b ≡ false)
or-false true b e = (e, absurd-eq e b)
  where
    absurd-eq : true ≡ false → (b : Bool) → b ≡ false
    absurd-eq e true = e
    absurd-eq e false = refl
or-false false b e = (refl, e)

and-true : (a b : Bool) → (a && b) ≡ true → a ≡ true
and-true true b e = refl
and-true false b e = e

is_false : (b : Bool) → (b ≡ true → ⊥) → b ≡ false
is_false true f = absurd (f refl)
is_false false f = refl

-- none below n is none at each place below it, and back
some-none : (p : ℕ → Bool) (n i : ℕ) → some_below n p ≡ false → i < n → p i ≡ false
unfolding some_below
some-none p zero i e h = absurd (not-suc-le-zero h)
some-none p (suc n) i e h =
    ⊎_elim
    (λ (same : i ≡ n). subst (λ (k : ℕ). p k ≡ false) (sym same) (or-false (some_below n p) (p n) e).1)
    (λ (less : i < n). some-none p n i (or-false (some_below n p) (p n) e).0 less)
    (eq-or-lt_of_le (omega arith))

none-some : (p : ℕ → Bool) (n : ℕ) → ((i : ℕ) → i < n → p i ≡ false) → some_below n p ≡ false
unfolding some_below
none-some p zero f = refl
none-some p (suc n) f = rw (none-some p n (λ i h. f i (omega arith))) (f n (omega arith))

-- of five causes none applies
clear : (a l b c d : Bool) → ◌≡◌ {A = ℕ} (cond a 1 (cond l 2 (cond b 2 (cond c 3 (cond d 4 0))))) 0
    → (a ≡ false) × (b ≡ false) × (c ≡ false) × (d ≡ false) × (l ≡ false)
clear true l b c d e = absurd (omega arith)
clear false true b c d e = absurd (omega arith)
clear false false true c d e = absurd (omega arith)
clear false false false true d e = absurd (omega arith)
clear false false false false true e = absurd (omega arith)
clear false false false false false e = (refl, refl, refl, refl, refl)

-- two codes whose first 8 bytes are equal are equal
equal-bytes : (n : ℕ) (xs ys : List ℕ) → length xs ≡ n → length ys ≡ n → equal_bytes n xs ys ≡ true → xs ≡ ys
unfolding equal_bytes
equal-bytes n xs ys a b e =
    ext_get_or 0 xs ys (a ∙ sym b)
    (λ i h. eqb-true _ _ (not-false _ (some-none (λ k. not (eqb (get_or xs k 0) (get_or ys k 0))) n i (not-true _ e) (omega arith))))

same_bytes : (n : ℕ) (xs ys : List ℕ) → xs ≡ ys → equal_bytes n xs ys ≡ true
unfolding equal_bytes
same_bytes n xs ys e =
    ap not (none-some (λ k. not (eqb (get_or xs k 0) (get_or ys k 0))) n (λ i h. ap not (eq-eqb (get_or xs i 0) (get_or ys i 0) (ap (λ (l : List ℕ). get_or l i 0) e))))

-- ---- an accepted image

pub record Known (image : List ℕ) : Type 0 where
  pub entries : 2 + 4 * count_of image ≤ length image
  pub few : count_of image ≤ 64
  pub edition : edition_known (edition_of image) ≡ true
  pub battery : (i : ℕ) → i < count_of image → battery_malformed (edition_of image) (second_at image i) (kind_at image i) ≡ false
  pub kind : (i : ℕ) → i < count_of image → is_unknown (kind_at image i) ≡ false
  pub placed : (i : ℕ) → i < count_of image → offset_at image i ≡ packed_at image i
  pub short : length image ≤ 65535
  pub whole : length image ≡ packed_at image (count_of image)
  pub code : (i : ℕ) → i < count_of image → registration_check (code_at image i) ≡ true
  pub family : (i : ℕ) → i < count_of image → get_or (code_at image i) 0 0 ≡ family_at image i
  pub distinct : (i j : ℕ) → i < j → j < count_of image → code_at image i ≡ code_at image j → ⊥

-- what is not refused
pub accepted-known : (image : List ℕ) → image_refusal image ≡ 0 → Known image
unfolding image_refusal image_causes first_cause image_malformed entry_malformed image_too_long body_misplaced some_code_refused code_refused some_code_repeated code_repeated
accepted-known image e =
    let n = count_of image in
    let none = clear (image_malformed image) (image_too_long image) (body_misplaced image) (some_code_refused image) (some_code_repeated image) e in
    let one = or-false (ltb (length image) (2 + 4 * n) || ltb 64 n || not (edition_known (edition_of image))) (some_below n (λ i. entry_malformed image i)) none.0 in
    let two = or-false (ltb (length image) (2 + 4 * n) || ltb 64 n) (not (edition_known (edition_of image))) one.0 in
    let three = or-false (ltb (length image) (2 + 4 * n)) (ltb 64 n) two.0 in
    let battery : (ℕ → Bool) = λ i. battery_malformed (edition_of image) (second_at image i) (kind_at image i) in
    let entry : ((i : ℕ) → i < n → (battery i ≡ false) × (is_unknown (kind_at image i) ≡ false)) =
    λ i h. or-false (battery i) (is_unknown (kind_at image i)) (some-none (λ i. entry_malformed image i) n i one.1 h) in
    let place = or-false (some_below n (λ i. not (eqb (offset_at image i) (packed_at image i)))) (not (eqb (length image) (packed_at image n))) none.1 in
    let code : ((i : ℕ) → i < n → (not (registration_check (code_at image i)) ≡ false) × (not (eqb (get_or (code_at image i) 0 0) (family_at image i)) ≡ false)) =
    λ i h. or-false (not (registration_check (code_at image i))) (not (eqb (get_or (code_at image i) 0 0) (family_at image i))) (some-none (λ i. code_refused image i) n i none.2 h) in
    record {
      entries = ltb-false (length image) (2 + 4 * n) three.0;
      few = ltb-false 64 n three.1;
      edition = not-false _ two.1;
      battery = λ i h. (entry i h).0;
      kind = λ i h. (entry i h).1;
      placed = λ i h. eqb-true _ _ (not-false _ (some-none (λ i. not (eqb (offset_at image i) (packed_at image i))) n i place.0 h));
      short = ltb-false 65535 (length image) none.4;
      whole = eqb-true _ _ (not-false _ place.1);
      code = λ i h. not-false _ (code i h).0;
      family = λ i h. eqb-true _ _ (not-false _ (code i h).1);
      distinct = λ i j h k same. true≢false (sym (same_bytes 8 (code_at image i) (code_at image j) same) ∙ some-none (λ i. equal_bytes 8 (code_at image i) (code_at image j)) j i (some-none (λ j. code_repeated image j) n j none.3 k) h);
    }

well-formed : (image : List ℕ) → Known image → image_malformed image ≡ false
unfolding image_malformed entry_malformed
well-formed image k =
    let n = count_of image in
    let long : ltb (length image) (2 + 4 * n) ≡ false = le-ltb (length image) (2 + 4 * n) k.entries in
    let few : ltb 64 n ≡ false = le-ltb 64 n k.few in
    let entries : some_below n (λ i. entry_malformed image i) ≡ false =
    none-some (λ i. entry_malformed image i) n (λ i h. rw (k.battery i h) (k.kind i h)) in
    simp (long, few, k.edition) entries

short-enough : (image : List ℕ) → Known image → image_too_long image ≡ false
unfolding image_too_long
short-enough image k = le-ltb 65535 (length image) k.short

well-placed : (image : List ℕ) → Known image → body_misplaced image ≡ false
unfolding body_misplaced
well-placed image k =
    let n = count_of image in
    let each : some_below n (λ i. not (eqb (offset_at image i) (packed_at image i))) ≡ false =
    none-some (λ i. not (eqb (offset_at image i) (packed_at image i))) n (λ i h. ap not (eq-eqb _ _ (k.placed i h))) in
    rw each (ap not (eq-eqb (length image) (packed_at image n) k.whole))

registered-length : (image : List ℕ) (i : ℕ) → registration_check (code_at image i) ≡ true → length (code_at image i) ≡ 8
unfolding registration_check
registered-length image i e = eqb-true _ _ (and-true (eqb (length (code_at image i)) 8) (eqb (crc_of (code_at image i)) 0) e)

well-coded : (image : List ℕ) → Known image → some_code_refused image ≡ false
unfolding some_code_refused code_refused
well-coded image k =
    none-some (λ i. code_refused image i) (count_of image)
    (λ i h. rw (k.code i h) (ap not (eq-eqb (get_or (code_at image i) 0 0) (family_at image i) (k.family i h))))

all-distinct : (image : List ℕ) → Known image → some_code_repeated image ≡ false
unfolding some_code_repeated code_repeated
all-distinct image k =
    none-some (λ j. code_repeated image j) (count_of image)
    (λ j h. none-some (λ i. equal_bytes 8 (code_at image i) (code_at image j)) j
    (λ i l. is_false (equal_bytes 8 (code_at image i) (code_at image j)) (λ e. k.distinct i j l h (equal-bytes 8 (code_at image i) (code_at image j) (registered-length image i (k.code i (omega arith))) (registered-length image j (k.code j h)) e))))

-- and back: of what is so known nothing is refused
pub known-accepted : (image : List ℕ) → Known image → image_refusal image ≡ 0
unfolding image_refusal image_causes first_cause
known-accepted image k = rw (well-formed image k, short-enough image k, well-placed image k, well-coded image k, all-distinct image k)

-- ---- bodies

-- the packed layout rises by each body's size
packed_step : (image : List ℕ) (i : ℕ) → packed_at image (suc i) ≡ packed_at image i + body_size (kind_at image i)
unfolding packed_at
packed_step image i = refl

pub packed-apart : (image : List ℕ) (i j : ℕ) → i < j → packed_at image i + body_size (kind_at image i) ≤ packed_at image j
packed-apart image i zero h = absurd (not-suc-le-zero h)
packed-apart image i (suc j) h =
    ⊎_elim
    (λ (same : i ≡ j). omega (arith, packed_step image j, ap (packed_at image) same, ap (λ (k : ℕ). body_size (kind_at image k)) same))
    (λ (less : i < j). omega (arith, packed_step image j, packed-apart image i j less))
    (eq-or-lt_of_le (omega arith))

-- a body of a known kind has room for its code
size_room : (kind : Kind) → is_unknown kind ≡ false → code_length ≤ body_size kind
unfolding body_size is_unknown
size_room (Sram size flat) e = omega arith
size_room Eprom e = omega arith
size_room Unknown e = absurd (true≢false e)

module _ (image : List ℕ) (k : Known image) where
  -- each body lies in the image
  pub inside : (i : ℕ) → i < count_of image → offset_at image i + body_size (kind_at image i) ≤ length image
  inside i h = omega (arith, k.placed i h, k.whole, packed-apart image i (count_of image) h)

  -- bodies do not overlap
  pub apart : (i j : ℕ) → i < j → j < count_of image → offset_at image i + body_size (kind_at image i) ≤ offset_at image j
  apart i j h l = omega (arith, k.placed i (omega arith), k.placed j l, packed-apart image i j h)

  -- a body has its kind's length
  pub body-length : (i : ℕ) → i < count_of image → length (body_at image i) ≡ body_size (kind_at image i)
  body-length i h = simp (length-take, length-drop) (omega (arith, inside i h))

  -- and starts with the code
  pub body-code : (i : ℕ) → i < count_of image → take code_length (body_at image i) ≡ code_at image i
  body-code i h = take-take code_length (body_size (kind_at image i)) (drop (offset_at image i) image) (size_room (kind_at image i) (k.kind i h))

  pub code-length : (i : ℕ) → i < count_of image → length (code_at image i) ≡ code_length
  code-length i h = registered-length image i (k.code i h)
