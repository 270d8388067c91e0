-- A search a pass at a time, over the codes on the bus: what a pass finds, and that the passes find the listing. Assumes nothing.
use Rattle.std.specs.Prelude.{Option, None, Some}
use mathlib.Core.Path.{◌≡◌, refl, sym, ap, ◌∙◌}
use mathlib.Core.Bool.{Bool, true, false, not, ◌&&◌}
use mathlib.Core.List.{List, [], ◌∷◌, ◌++◌, map, append-nil}
use Prim.Native.Nat.{ℕ, zero, suc}
use native.Mathlib.Omega.{arith}
use lib.ListN.{length}
use Rattle.search_laws.proofs.Codes.{Code, branch, listing, Wide, branch-wide, branch-length, differ}

-- the level in the two read slots of a bit, of devices with these codes left: no device sends a 0
abbrev pub bits-level : List Code → Bool
bits-level [] = true
bits-level ([] ∷ S) = bits-level S
bits-level ((x ∷ c) ∷ S) = x && bits-level S

abbrev pub complements-level : List Code → Bool
complements-level [] = true
complements-level ([] ∷ S) = complements-level S
complements-level ((x ∷ c) ∷ S) = not x && complements-level S

-- how a pass ends: both slots of a bit read 1, or with the code and the last open discrepancy
pub data Pass : Type 0 where
  none_answers : Pass
  found : Code → Option ℕ → Pass

-- the direction at levels a, b, where d is what is sent at 0,0
abbrev pub direction : Bool → Bool → Bool → Bool
direction false true d = false
direction true false d = true
direction false false d = d
direction true true d = true

-- a discrepancy is left open: levels 0,0 and 0 sent
abbrev pub leaves-open : Bool → Bool → Bool → Bool
leaves-open a b d = not a && (not b && not d)

abbrev pub put : Bool → Bool → Pass → Pass
put d o none_answers = none_answers
put d o (found c (Some f)) = found (d ∷ c) (Some (suc f))
put d true (found c None) = found (d ∷ c) (Some zero)
put d false (found c None) = found (d ∷ c) None

abbrev pub checked : Bool → Pass → Pass
checked true p = none_answers
checked false p = p

-- what is sent at 0,0, bit by bit: the bits listed, then 0
abbrev pub head-or-0 : List Bool → Bool
head-or-0 [] = false
head-or-0 (d ∷ D) = d

abbrev pub tail : List Bool → List Bool
tail [] = []
tail (d ∷ D) = D

-- before the last open discrepancy the previous code's bit, at it 1, and after it nothing (0)
abbrev pub directions-to : ℕ → Code → List Bool
directions-to zero c = true ∷ []
directions-to (suc f) [] = false ∷ directions-to f []
directions-to (suc f) (x ∷ c) = x ∷ directions-to f c

abbrev pub directions-of : Code → Option ℕ → List Bool
directions-of c None = []
directions-of c (Some f) = directions-to f c

-- a pass over the m bits left of codes
abbrev pub pass : ℕ → List Code → List Bool → Pass
pass zero S D = found [] None
pass (suc m) S D =
    checked (bits-level S && complements-level S)
    (put (direction (bits-level S) (complements-level S) (head-or-0 D)) (leaves-open (bits-level S) (complements-level S) (direction (bits-level S) (complements-level S) (head-or-0 D)))
    (pass m (branch (direction (bits-level S) (complements-level S) (head-or-0 D)) S) (tail D)))

-- ---- the levels say which branches are empty

abbrev pub null : List Code → Bool
null [] = true
null (c ∷ S) = false

bits-level-null : (S : List Code) → bits-level S ≡ null (branch false S)
bits-level-null [] = refl
bits-level-null ([] ∷ S) = bits-level-null S
bits-level-null ((true ∷ c) ∷ S) = bits-level-null S
bits-level-null ((false ∷ c) ∷ S) = refl

complements-level-null : (S : List Code) → complements-level S ≡ null (branch true S)
complements-level-null [] = refl
complements-level-null ([] ∷ S) = complements-level-null S
complements-level-null ((true ∷ c) ∷ S) = refl
complements-level-null ((false ∷ c) ∷ S) = complements-level-null S

null-nil : (S : List Code) → null S ≡ true → S ≡ []
null-nil [] e = refl
null-nil (c ∷ S) e = differ (cc)

listing-nil : (m : ℕ) → listing m [] ≡ []
listing-nil zero = refl
listing-nil (suc m) = rw (listing-nil m)

-- ---- the passes, by what the first sends at 0,0, and the codes that they find

pub data Runs (m : ℕ) (S : List Code) : List Bool → List Code → Type 0 where
  last : {D : List Bool} {c : Code} → pass m S D ≡ found c None → Runs m S D (c ∷ [])
  more : {D : List Bool} {c : Code} {f : ℕ} {L : List Code} → pass m S D ≡ found c (Some f) → Runs m S (directions-to f c) L → Runs m S D (c ∷ L)

-- only the first pass goes by what it is given
first-pass : (m : ℕ) (S : List Code) {D E : List Bool} {L : List Code} → pass m S E ≡ pass m S D → Runs m S D L → Runs m S E L
first-pass m S e (last p) = last (e ∙ p)
first-pass m S e (more p r) = more (e ∙ p) r

-- the passes over a branch that leave no discrepancy open at this bit are passes over all codes
module _ (m : ℕ) (S : List Code) (b : Bool) (h : (D : List Bool) → pass (suc m) S (b ∷ D) ≡ put b false (pass m (branch b S) D)) where
  up-last : {D : List Bool} {L : List Code} → Runs m (branch b S) D L → Runs (suc m) S (b ∷ D) (map (λ (r : Code). b ∷ r) L)
  up-last (last {D = D} e) = last (h D ∙ ap (put b false) e)
  up-last (more {D = D} e r) = more (h D ∙ ap (put b false) e) (up-last r)

-- those over the 0-branch of a discrepancy are followed by those over its 1-branch
module _ (m : ℕ) (S : List Code) (h : (D : List Bool) → pass (suc m) S (false ∷ D) ≡ put false true (pass m (branch false S) D)) where
  up-open : {D : List Bool} {L M : List Code} → Runs m (branch false S) D L → Runs (suc m) S (true ∷ []) M → Runs (suc m) S (false ∷ D) (map (λ (r : Code). false ∷ r) L ++ M)
  up-open (last {D = D} e) s = more (h D ∙ ap (put false true) e) s
  up-open (more {D = D} e r) s = more (h D ∙ ap (put false true) e) (up-open r s)

-- a pass, where the levels at its first bit are known
pass-at : (m : ℕ) (S : List Code) (a b : Bool) → bits-level S ≡ a → complements-level S ≡ b → (D : List Bool)
    → pass (suc m) S D ≡ checked (a && b) (put (direction a b (head-or-0 D)) (leaves-open a b (direction a b (head-or-0 D))) (pass m (branch (direction a b (head-or-0 D)) S) (tail D)))
pass-at m S a b p q D = rw (p, q)

-- the empty branch adds nothing to the listing
join-left : (m : ℕ) (S : List Code) → null (branch true S) ≡ true → listing (suc m) S ≡ map (λ (c : Code). false ∷ c) (listing m (branch false S))
join-left m S e = rw (null-nil (branch true S) e, listing-nil m) (append-nil _)

join-right : (m : ℕ) (S : List Code) → null (branch false S) ≡ true → listing (suc m) S ≡ map (λ (c : Code). true ∷ c) (listing m (branch true S))
join-right m S e = rw (null-nil (branch false S) e, listing-nil m)

-- a code is in one of the two branches
not-both : (m : ℕ) (S : List Code) → Wide (suc m) S → null (branch false S) ≡ true → null (branch true S) ≡ true → null S ≡ true
not-both m [] w p q = refl
not-both m (c ∷ S) w p q =
    let h = branch-length m (c ∷ S) w in
    let f = ap length (null-nil (branch false (c ∷ S)) p) in
    let t = ap length (null-nil (branch true (c ∷ S)) q) in
    absurd (omega arith)

split : (m : ℕ) (S : List Code) → Wide (suc m) S → null S ≡ false → (a b : Bool) → null (branch false S) ≡ a → null (branch true S) ≡ b
    → (null (branch false S) ≡ false → Runs m (branch false S) [] (listing m (branch false S)))
    → (null (branch true S) ≡ false → Runs m (branch true S) [] (listing m (branch true S)))
    → Runs (suc m) S [] (listing (suc m) S)
split m S w n true true p q f t = let e = not-both m S w p q in differ (cc)
split m S w n false true p q f t =
    let h : (D : List Bool) → pass (suc m) S (false ∷ D) ≡ put false false (pass m (branch false S) D) = λ D. pass-at m S false true (bits-level-null S ∙ p) (complements-level-null S ∙ q) (false ∷ D) in
    rw (join-left m S q) (first-pass (suc m) S (pass-at m S false true (bits-level-null S ∙ p) (complements-level-null S ∙ q) [] ∙ sym (h [])) (up-last m S false h (f p)))
split m S w n true false p q f t =
    let h : (D : List Bool) → pass (suc m) S (true ∷ D) ≡ put true false (pass m (branch true S) D) = λ D. pass-at m S true false (bits-level-null S ∙ p) (complements-level-null S ∙ q) (true ∷ D) in
    rw (join-right m S p) (first-pass (suc m) S (pass-at m S true false (bits-level-null S ∙ p) (complements-level-null S ∙ q) [] ∙ sym (h [])) (up-last m S true h (t q)))
split m S w n false false p q f t =
    let z : (D : List Bool) → pass (suc m) S (false ∷ D) ≡ put false true (pass m (branch false S) D) = λ D. pass-at m S false false (bits-level-null S ∙ p) (complements-level-null S ∙ q) (false ∷ D) in
    let o : (D : List Bool) → pass (suc m) S (true ∷ D) ≡ put true false (pass m (branch true S) D) = λ D. pass-at m S false false (bits-level-null S ∙ p) (complements-level-null S ∙ q) (true ∷ D) in
    first-pass (suc m) S refl (up-open m S z (f p) (up-last m S true o (t q)))

-- the passes of a fresh master find the listing
pub search-runs : (m : ℕ) (S : List Code) → Wide m S → null S ≡ false → Runs m S [] (listing m S)
search-runs zero [] w n = differ (cc)
search-runs zero (c ∷ S) w n = last refl
search-runs (suc m) S w n =
    split m S w n (null (branch false S)) (null (branch true S)) refl refl
    (search-runs m (branch false S) (branch-wide false m S w)) (search-runs m (branch true S) (branch-wide true m S w))
