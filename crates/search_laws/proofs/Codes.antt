-- Codes as lists of bits, bit 0 first, and the listing of some codes in document 01's order: those whose next bit is 0, then those whose
-- next bit is 1. Assumes nothing.
use mathlib.Core.Path.{◌≡◌, refl, sym, ap, ◌∙◌}
use mathlib.Core.Logic.{◌⊎◌, inl, inr}
use mathlib.Core.Bool.{Bool, true, false}
use mathlib.Core.List.Memᴰ
use mathlib.Core.List.{List, [], ◌∷◌, ◌++◌, map, Memᴰ}
use Prim.Native.Nat.{ℕ, zero, suc, ◌+◌}
use native.Mathlib.Nat.{suc_inj, suc-ne-zero}
use native.Mathlib.Omega.{arith}
use lib.ListN.{length, length-append, length-map}

abbrev pub Code : Type 0
Code = List Bool

-- what is left, after the first bit, of the codes that begin with the bit
abbrev pub branch : Bool → List Code → List Code
branch b [] = []
branch b ([] ∷ S) = branch b S
branch true ((true ∷ c) ∷ S) = c ∷ branch true S
branch true ((false ∷ c) ∷ S) = branch true S
branch false ((true ∷ c) ∷ S) = branch false S
branch false ((false ∷ c) ∷ S) = c ∷ branch false S

-- codes of so many bits split by the next bit, the 0-branch before the 1-branch
abbrev pub listing : ℕ → List Code → List Code
listing zero [] = []
listing zero (c ∷ S) = [] ∷ []
listing (suc m) S = map (λ (c : Code). false ∷ c) (listing m (branch false S)) ++ map (λ (c : Code). true ∷ c) (listing m (branch true S))

-- every code has m bits
abbrev pub Wide : ℕ → List Code → Type 0
Wide m S = (c : Code) → Memᴰ c S → length c ≡ m

-- no code is there twice
abbrev pub Distinct : List Code → Type 0
Distinct [] = Unit {0}
Distinct (c ∷ S) = (Memᴰ c S → ⊥) × Distinct S

-- the first has 0, and the second 1, at the lowest bit where they differ
abbrev pub Before : Code → Code → Type 0
Before [] b = ⊥
Before (x ∷ a) [] = ⊥
Before (false ∷ a) (true ∷ b) = Unit {0}
Before (true ∷ a) (false ∷ b) = ⊥
Before (true ∷ a) (true ∷ b) = Before a b
Before (false ∷ a) (false ∷ b) = Before a b

abbrev pub Sorted : List Code → Type 0
Sorted [] = Unit {0}
Sorted (c ∷ S) = ((d : Code) → Memᴰ d S → Before c d) × Sorted S

-- ---- membership in a branch

branch-member : (b : Bool) (S : List Code) {c : Code} → Memᴰ c (branch b S) → Memᴰ (b ∷ c) S
branch-member true [] h = absurd (Memᴰ.not-nil h)
branch-member false [] h = absurd (Memᴰ.not-nil h)
branch-member true ([] ∷ S) h = Memᴰ.tail (branch-member true S h)
branch-member false ([] ∷ S) h = Memᴰ.tail (branch-member false S h)
branch-member true ((true ∷ c) ∷ S) (Memᴰ.head e) = Memᴰ.head (ap (λ (r : Code). true ∷ r) e)
branch-member true ((true ∷ c) ∷ S) (Memᴰ.tail h) = Memᴰ.tail (branch-member true S h)
branch-member true ((false ∷ c) ∷ S) h = Memᴰ.tail (branch-member true S h)
branch-member false ((true ∷ c) ∷ S) h = Memᴰ.tail (branch-member false S h)
branch-member false ((false ∷ c) ∷ S) (Memᴰ.head e) = Memᴰ.head (ap (λ (r : Code). false ∷ r) e)
branch-member false ((false ∷ c) ∷ S) (Memᴰ.tail h) = Memᴰ.tail (branch-member false S h)

-- two constructors are never equal: `cc` proves 0 ≡ 1 from such an equation
pub differ : {A : Type 0} → ◌≡◌ {A = ℕ} 0 1 → A
differ e = absurd (omega arith)

member-branch : (b : Bool) (S : List Code) {c : Code} → Memᴰ (b ∷ c) S → Memᴰ c (branch b S)
member-branch true [] h = absurd (Memᴰ.not-nil h)
member-branch false [] h = absurd (Memᴰ.not-nil h)
member-branch true ([] ∷ S) (Memᴰ.head e) = differ (cc)
member-branch true ([] ∷ S) (Memᴰ.tail h) = member-branch true S h
member-branch false ([] ∷ S) (Memᴰ.head e) = differ (cc)
member-branch false ([] ∷ S) (Memᴰ.tail h) = member-branch false S h
member-branch true ((true ∷ d) ∷ S) (Memᴰ.head e) = Memᴰ.head {x = d} (cc)
member-branch true ((true ∷ d) ∷ S) (Memᴰ.tail h) = Memᴰ.tail (member-branch true S h)
member-branch true ((false ∷ d) ∷ S) (Memᴰ.head e) = differ (cc)
member-branch true ((false ∷ d) ∷ S) (Memᴰ.tail h) = member-branch true S h
member-branch false ((true ∷ d) ∷ S) (Memᴰ.head e) = differ (cc)
member-branch false ((true ∷ d) ∷ S) (Memᴰ.tail h) = member-branch false S h
member-branch false ((false ∷ d) ∷ S) (Memᴰ.head e) = Memᴰ.head {x = d} (cc)
member-branch false ((false ∷ d) ∷ S) (Memᴰ.tail h) = Memᴰ.tail (member-branch false S h)

pub branch-wide : (b : Bool) (m : ℕ) (S : List Code) → Wide (suc m) S → Wide m (branch b S)
branch-wide b m S w c h = suc_inj (w (b ∷ c) (branch-member b S h))

branch-distinct : (b : Bool) (S : List Code) → Distinct S → Distinct (branch b S)
branch-distinct b [] d = d
branch-distinct b ([] ∷ S) d = branch-distinct b S d.1
branch-distinct true ((true ∷ c) ∷ S) d = (λ h. d.0 (branch-member true S h), branch-distinct true S d.1)
branch-distinct true ((false ∷ c) ∷ S) d = branch-distinct true S d.1
branch-distinct false ((true ∷ c) ∷ S) d = branch-distinct false S d.1
branch-distinct false ((false ∷ c) ∷ S) d = (λ h. d.0 (branch-member false S h), branch-distinct false S d.1)

wide-tail : (m : ℕ) (c : Code) (S : List Code) → Wide m (c ∷ S) → Wide m S
wide-tail m c S w d h = w d (Memᴰ.tail h)

-- each code that has a bit goes into one of the two branches
pub branch-length : (m : ℕ) (S : List Code) → Wide (suc m) S → length (branch false S) + length (branch true S) ≡ length S
branch-length m [] w = refl
branch-length m ([] ∷ S) w = absurd (suc-ne-zero _ (sym (w [] (Memᴰ.head refl))))
branch-length m ((true ∷ c) ∷ S) w = let h = branch-length m S (wide-tail (suc m) (true ∷ c) S w) in omega arith
branch-length m ((false ∷ c) ∷ S) w = let h = branch-length m S (wide-tail (suc m) (false ∷ c) S w) in omega arith

-- ---- a bit put in front of each code

map-member : (b : Bool) {c : Code} (L : List Code) → Memᴰ c L → Memᴰ (b ∷ c) (map (λ (r : Code). b ∷ r) L)
map-member b L (Memᴰ.head e) = Memᴰ.head (ap (λ (r : Code). b ∷ r) e)
map-member b L (Memᴰ.tail {xs = L'} h) = Memᴰ.tail (map-member b L' h)

member-map : (b : Bool) (L : List Code) {c : Code} → Memᴰ c (map (λ (r : Code). b ∷ r) L) → (d : Code) × (c ≡ b ∷ d) × Memᴰ d L
member-map b [] h = absurd (Memᴰ.not-nil h)
member-map b (x ∷ L) (Memᴰ.head e) = (x, e, Memᴰ.head refl)
member-map b (x ∷ L) (Memᴰ.tail h) = let r = member-map b L h in (r.0, r.1, Memᴰ.tail r.2)

-- ---- the listing has just the codes as members

empty_code : (c : Code) → length c ≡ zero → c ≡ []
empty_code [] e = refl
empty_code (x ∷ c) e = absurd (suc-ne-zero _ e)

listing-member : (m : ℕ) (S : List Code) → Wide m S → (c : Code) → Memᴰ c (listing m S) → Memᴰ c S
listing-member zero [] w c h = h
listing-member zero (d ∷ S) w c (Memᴰ.head e) = Memᴰ.head (e ∙ sym (empty_code d (w d (Memᴰ.head refl))))
listing-member zero (d ∷ S) w c (Memᴰ.tail h) = absurd (Memᴰ.not-nil h)
listing-member (suc m) S w c h = both (Memᴰ.append_cases (map (λ (r : Code). false ∷ r) (listing m (branch false S))) h)
    (listing-member m (branch false S) (branch-wide false m S w)) (listing-member m (branch true S) (branch-wide true m S w))
  where
    from : (b : Bool) → Memᴰ c (map (λ (r : Code). b ∷ r) (listing m (branch b S))) → ((d : Code) → Memᴰ d (listing m (branch b S)) → Memᴰ d (branch b S)) → Memᴰ c S
    from b x below = let r = member-map b (listing m (branch b S)) x in Memᴰ.cast r.1 (branch-member b S (below r.0 r.2))

    both : Memᴰ c (map (λ (r : Code). false ∷ r) (listing m (branch false S))) ⊎ Memᴰ c (map (λ (r : Code). true ∷ r) (listing m (branch true S)))
        → ((d : Code) → Memᴰ d (listing m (branch false S)) → Memᴰ d (branch false S)) → ((d : Code) → Memᴰ d (listing m (branch true S)) → Memᴰ d (branch true S)) → Memᴰ c S
    both (inl x) f t = from false x f
    both (inr x) f t = from true x t

member-listing : (m : ℕ) (S : List Code) → Wide m S → (c : Code) → Memᴰ c S → Memᴰ c (listing m S)
member-listing zero [] w c h = h
member-listing zero (d ∷ S) w c h = Memᴰ.head (empty_code c (w c h))
member-listing (suc m) S w [] h = absurd (suc-ne-zero _ (sym (w [] h)))
member-listing (suc m) S w (false ∷ c) h =
    Memᴰ.append_left (map (λ (r : Code). true ∷ r) (listing m (branch true S)))
    (map-member false (listing m (branch false S)) (member-listing m (branch false S) (branch-wide false m S w) c (member-branch false S h)))
member-listing (suc m) S w (true ∷ c) h =
    Memᴰ.append_right (map (λ (r : Code). false ∷ r) (listing m (branch false S)))
    (map-member true (listing m (branch true S)) (member-listing m (branch true S) (branch-wide true m S w) c (member-branch true S h)))

-- ---- it is as long

listing-length : (m : ℕ) (S : List Code) → Wide m S → Distinct S → length (listing m S) ≡ length S
listing-length zero [] w d = refl
listing-length zero (a ∷ []) w d = refl
listing-length zero (a ∷ b ∷ S) w d =
    absurd (d.0 (Memᴰ.head (empty_code a (w a (Memᴰ.head refl)) ∙ sym (empty_code b (w b (Memᴰ.tail (Memᴰ.head refl)))))))
listing-length (suc m) S w d =
    let f = listing-length m (branch false S) (branch-wide false m S w) (branch-distinct false S d) in
    let t = listing-length m (branch true S) (branch-wide true m S w) (branch-distinct true S d) in
    let p = branch-length m S w in
    simp (length-append, length-map) (omega arith)

-- ---- and sorted

map-sorted : (b : Bool) (L : List Code) → Sorted L → Sorted (map (λ (r : Code). b ∷ r) L)
map-sorted b [] s = tt
map-sorted b (x ∷ L) s = (λ d h. let r = member-map b L h in under b r.0 r.1 (s.0 r.0 r.2), map-sorted b L s.1)
  where
    under : (b : Bool) (d : Code) {c : Code} → c ≡ b ∷ d → Before x d → Before (b ∷ x) c
    under true d e k = rw e k
    under false d e k = rw e k

append-sorted : (L M : List Code) → Sorted L → Sorted M → ((a b : Code) → Memᴰ a L → Memᴰ b M → Before a b) → Sorted (L ++ M)
append-sorted [] M l m x = m
append-sorted (a ∷ L) M l m x =
    (λ d h. from d (Memᴰ.append_cases L h), append-sorted L M l.1 m (λ p q i j. x p q (Memᴰ.tail i) j))
  where
    from : (d : Code) → Memᴰ d L ⊎ Memᴰ d M → Before a d
    from d (inl h) = l.0 d h
    from d (inr h) = x a d (Memᴰ.head refl) h

listing-sorted : (m : ℕ) (S : List Code) → Sorted (listing m S)
listing-sorted zero [] = tt
listing-sorted zero (c ∷ S) = (λ d h. absurd (Memᴰ.not-nil h), tt)
listing-sorted (suc m) S =
    append-sorted _ _ (map-sorted false (listing m (branch false S)) (listing-sorted m (branch false S))) (map-sorted true (listing m (branch true S)) (listing-sorted m (branch true S)))
    (λ a b i j. let p = member-map false (listing m (branch false S)) i in let q = member-map true (listing m (branch true S)) j in cross p.1 q.1)
  where
    cross : {a b x y : Code} → a ≡ false ∷ x → b ≡ true ∷ y → Before a b
    cross p q = rw (p, q) tt

-- ---- what a listing of codes of m bits is

pub record Lists (m : ℕ) (S L : List Code) : Type 0 where
  pub count : length L ≡ length S
  pub wide : Wide m L
  pub sound : (c : Code) → Memᴰ c L → Memᴰ c S
  pub complete : (c : Code) → Memᴰ c S → Memᴰ c L
  pub order : Sorted L

pub listing-lists : (m : ℕ) (S : List Code) → Wide m S → Distinct S → Lists m S (listing m S)
listing-lists m S w d = record {
  count = listing-length m S w d;
  wide = λ c h. w c (listing-member m S w c h);
  sound = listing-member m S w;
  complete = member-listing m S w;
  order = listing-sorted m S;
}
