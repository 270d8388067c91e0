-- Laws of the counts in a trace, and of the causes of a search. Assumes nothing.
use Prim.Native.Nat.{ℕ, ◌+◌, ◌<◌, ◌≤◌}
use mathlib.Core.Path.{◌≡◌, refl, sym, ap, ◌∙◌}
use mathlib.Core.Bool.{Bool, true, false, cond, ◌&&◌}
use mathlib.Core.List.{List, [], ◌∷◌}
use native.Mathlib.Nat.{zero-add}
use native.Mathlib.Omega.{arith}
use lib.ListN.{length, get_or, take, drop, length-drop}
use lib.Dec.{eqb, ltb, lit<}
use Rattle.std.specs.List.{count_by}
use Rattle.std.proofs.lemmas.List.Recursion.{is_count_by}
use Rattle.image.specs.Refusal.{refusal_number, cause, first_cause, image_causes, image_refusal}
use Rattle.image.specs.declared.Refusal.{Refusal}
use Rattle.image.specs.declared.Refusal.TheVariants.{MalformedImage, MisplacedBody, WrongCode, EqualCodes, BadTrace, NoFirstReset, BadPulse, NoRoom}
use Rattle.bus.proofs.Laws.{first-none, first_some}
use Rattle.search_laws.specs.Words.{is_reset, is_slot, slot_next, resets_in, slots_in, passes_in}
use Rattle.search.specs.Refusal.{no_search_room, search_causes, search_refusal}

-- the events of a kind, counted
by-one : (b : Bool) (n : ℕ) → cond b 1 0 + n ≡ cond b (1 + n) n
by-one true n = refl
by-one false n = zero-add n

pub resets_counted : (t : List ℕ) → resets_in t ≡ count_by (λ x. eqb x 2) t
unfolding resets_in is_reset
resets_counted t = is_count_by resets_in (λ x. eqb x 2) refl (λ x xs. by-one (eqb x 2) (resets_in xs)) t

pub slots_counted : (t : List ℕ) → slots_in t ≡ count_by (λ x. ltb x 2) t
unfolding slots_in is_slot
slots_counted t = is_count_by slots_in (λ x. ltb x 2) refl (λ x xs. by-one (ltb x 2) (slots_in xs)) t

-- a pair of events, and those that are left after its first; one event or none begins no pass
first-pair : (t : List ℕ) → 2 ≤ length t
    → passes_in t ≡ cond (is_reset (get_or (take 2 t) 0 0) && is_slot (get_or (take 2 t) 1 0)) 1 0 + passes_in (drop 1 t)
unfolding passes_in slot_next
first-pair [] h = absurd (omega arith)
first-pair (x ∷ []) h = absurd (omega arith)
first-pair (x ∷ y ∷ t) h = refl

module _ (t : List ℕ) {pair left : List ℕ} {n : ℕ} (two : n ≡ 2) (room : n ≤ length t) (so : pair ≡ take n t) (rest : left ≡ drop 1 t) where
  pub pair-counted : (b : Bool) → b ≡ (is_reset (get_or pair 0 0) && is_slot (get_or pair 1 0)) → passes_in t ≡ cond b 1 0 + passes_in left
  pair-counted b e = rw (e, so, two, rest) (first-pair t (omega arith))

  pub pair-left : length left + 1 ≡ length t
  pair-left = let d = ap length rest ∙ length-drop 1 t in omega arith

neither : (b : Bool) → (b && false) ≡ false
neither true = refl
neither false = refl

pub passes-end : (t : List ℕ) → length t < 2 → passes_in t ≡ 0
unfolding passes_in slot_next
passes-end [] h = refl
passes-end (x ∷ []) h = ap (λ (b : Bool). cond b 1 0 + 0) (neither (is_reset x))
passes-end (x ∷ y ∷ t) h = absurd (omega arith)

-- of an image that is not refused
pub room-decides : (image : List ℕ) (codes trace lines : ℕ) → image_refusal image ≡ 0 → search_refusal image codes trace lines ≡ cond (no_search_room image codes trace lines) 7 0
unfolding search_refusal search_causes image_causes image_refusal first_cause
room-decides image codes trace lines h = first-none (image_causes image) (cause 7 (no_search_room image codes trace lines) ∷ []) (lit< tt, (lit< tt, (lit< tt, (lit< tt, (lit< tt, tt))))) h

-- of one that is
pub some_number : (e : Refusal) → refusal_number e ≡ 0 → ⊥
unfolding refusal_number
some_number MalformedImage h = absurd (omega arith)
some_number MisplacedBody h = absurd (omega arith)
some_number WrongCode h = absurd (omega arith)
some_number EqualCodes h = absurd (omega arith)
some_number BadTrace h = absurd (omega arith)
some_number NoFirstReset h = absurd (omega arith)
some_number BadPulse h = absurd (omega arith)
some_number NoRoom h = absurd (omega arith)

pub image-decides : (e : Refusal) (image : List ℕ) (codes trace lines : ℕ) → refusal_number e ≡ image_refusal image → refusal_number e ≡ search_refusal image codes trace lines
unfolding search_refusal search_causes image_refusal
image-decides e image codes trace lines h = h ∙ sym (first_some _ _ (λ z. some_number e (h ∙ z)))
