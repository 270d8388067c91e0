-- The words of demand 3 of a trace that is the passes of some codes, and of the bytes of these codes. Assumes nothing.
use Prim.Native.Nat.{ℕ, zero, suc, ◌+◌, ◌*◌, ◌<◌, suc-le-suc}
use mathlib.Core.Path.{◌≡◌, refl, sym, ap, ◌∙◌}
use mathlib.Core.Bool.{Bool, true, false}
use mathlib.Core.List.Memᴰ
use mathlib.Core.List.{List, [], ◌∷◌, ◌++◌, Memᴰ}
use native.Mathlib.Nat.{le_of_suc-le-suc, suc_inj}
use native.Mathlib.Omega.{arith}
use lib.ListN.{length, get_or, take, drop, length-append}
use lib.Seq.{take_at, drop_at, drop-drop}
use lib.Dec.{eqb}
use Rattle.bus.specs.Refusal.{some_byte, no_first_reset}
use Rattle.master.specs.Master.{slot_event}
use Rattle.search_laws.specs.Words.{Precedes, code_written, is_reset, is_slot, resets_in, slots_in, slot_next, passes_in, Pass, Passes, directions, pass_code, pass_codes}
use Rattle.search_laws.proofs.Codes.{Code, Wide, Before, Sorted}
use Rattle.search_laws.proofs.Bits.{bytes_of, bytes-size, bytes-bit}
use Rattle.search_laws.proofs.Walk.{bit_events, pass_trace}
use Rattle.search_laws.proofs.Whole.{trace_of, bytes_all}

-- ---- counts

bits-resets : (c : Code) (t : List ℕ) → resets_in (bit_events c ++ t) ≡ resets_in t
unfolding resets_in is_reset slot_event
bits-resets [] t = refl
bits-resets (true ∷ c) t = let h = bits-resets c t in omega arith
bits-resets (false ∷ c) t = let h = bits-resets c t in omega arith

bits-slots : (c : Code) (t : List ℕ) → slots_in (bit_events c ++ t) ≡ 3 * length c + slots_in t
unfolding slots_in is_slot slot_event
bits-slots [] t = omega arith
bits-slots (true ∷ c) t = let h = bits-slots c t in omega arith
bits-slots (false ∷ c) t = let h = bits-slots c t in omega arith

bits-passes : (c : Code) (t : List ℕ) → passes_in (bit_events c ++ t) ≡ passes_in t
unfolding passes_in is_reset slot_event
bits-passes [] t = refl
bits-passes (true ∷ c) t = let h = bits-passes c t in omega arith
bits-passes (false ∷ c) t = let h = bits-passes c t in omega arith

pub trace-resets : (L : List Code) → resets_in (trace_of L) ≡ length L
unfolding resets_in is_reset
trace-resets [] = refl
trace-resets (c ∷ L) = let h = bits-resets c (trace_of L) ∙ trace-resets L in omega arith

pub trace-passes : (L : List Code) → passes_in (trace_of L) ≡ length L
unfolding passes_in slot_next is_reset is_slot
trace-passes [] = refl
trace-passes (c ∷ L) = let h = bits-passes c (trace_of L) ∙ trace-passes L in omega arith

pub trace-slots : (L : List Code) → Wide 64 L → slots_in (trace_of L) ≡ 200 * length L
unfolding slots_in is_slot
trace-slots [] w = refl
trace-slots (c ∷ L) w =
    let h = trace-slots L (λ d i. w d (Memᴰ.tail i)) in
    let b = bits-slots c (trace_of L) in
    let e = w c (Memᴰ.head refl) in
    omega arith

-- ---- passes

bits-length : (c : Code) → length (bit_events c) ≡ 3 * length c
bits-length [] = refl
bits-length (d ∷ c) = let h = bits-length c in omega arith

pass-length : (c : Code) → length c ≡ 64 → length (pass_trace c) ≡ 201
pass-length c e = let h = bits-length c in omega arith

pub trace-length : (L : List Code) → Wide 64 L → length (trace_of L) ≡ 201 * length L
trace-length [] w = refl
trace-length (c ∷ L) w =
    let h = trace-length L (λ d i. w d (Memᴰ.tail i)) in
    let e = pass-length c (w c (Memᴰ.head refl)) in
    length-append (pass_trace c) (trace_of L) ∙ omega arith

bits-slot : (c : Code) (k : ℕ) → is_slot (get_or (bit_events c) k 0) ≡ true
unfolding is_slot slot_event
bits-slot [] k = refl
bits-slot (d ∷ c) zero = refl
bits-slot (d ∷ c) (suc zero) = refl
bits-slot (true ∷ c) (suc (suc zero)) = refl
bits-slot (false ∷ c) (suc (suc zero)) = refl
bits-slot (d ∷ c) (suc (suc (suc k))) = bits-slot c k

pass-slot : (c : Code) (k : ℕ) → is_slot (get_or (pass_trace c) (suc k) 0) ≡ true
unfolding is_slot
pass-slot c zero = refl
pass-slot c (suc zero) = refl
pass-slot c (suc (suc zero)) = refl
pass-slot c (suc (suc (suc zero))) = refl
pass-slot c (suc (suc (suc (suc zero)))) = refl
pass-slot c (suc (suc (suc (suc (suc zero))))) = refl
pass-slot c (suc (suc (suc (suc (suc (suc zero)))))) = refl
pass-slot c (suc (suc (suc (suc (suc (suc (suc zero))))))) = refl
pass-slot c (suc (suc (suc (suc (suc (suc (suc (suc k)))))))) = bits-slot c k

is-pass : (c : Code) → length c ≡ 64 → Pass (pass_trace c)
unfolding is_reset
is-pass c e = record { size = pass-length c e; opens = refl; slots = λ k h. pass-slot c k }

pub trace-shape : (L : List Code) → Wide 64 L → Passes (length L) (trace_of L)
trace-shape [] w = refl
trace-shape (c ∷ L) w =
    let e = pass-length c (w c (Memᴰ.head refl)) in
    let t = take_at (pass_trace c) (trace_of L) 201 e in
    let d = drop_at (pass_trace c) (trace_of L) 201 e in
    (rw t (is-pass c (w c (Memᴰ.head refl))), rw d (trace-shape L (λ x i. w x (Memᴰ.tail i))))

-- ---- codes of passes

bit-sent : (d : Bool) → eqb (slot_event d) 1 ≡ d
unfolding slot_event
bit-sent true = refl
bit-sent false = refl

bits-directions : (n : ℕ) (c : Code) (t : List ℕ) → length c ≡ n → directions n (bit_events c ++ t) ≡ c
unfolding directions
bits-directions zero [] t e = refl
bits-directions zero (d ∷ c) t e = absurd (omega arith)
bits-directions (suc n) [] t e = absurd (omega arith)
bits-directions (suc n) (d ∷ c) t e = let h = bits-directions n c t (suc_inj e) in let b = bit-sent d in cc

bits-codes : (c : Code) (t : List ℕ) → pass_codes (bit_events c ++ t) ≡ pass_codes t
unfolding pass_codes is_reset slot_event
bits-codes [] t = refl
bits-codes (true ∷ c) t = bits-codes c t
bits-codes (false ∷ c) t = bits-codes c t

pub trace-codes : (L : List Code) → Wide 64 L → pass_codes (trace_of L) ≡ bytes_all L
unfolding pass_codes slot_next is_reset is_slot pass_code
trace-codes [] w = refl
trace-codes (c ∷ L) w =
    ap (λ (d : Code). bytes_of d ++ pass_codes (bit_events c ++ trace_of L)) (bits-directions 64 c (trace_of L) (w c (Memᴰ.head refl)))
    ∙ ap (λ (t : List ℕ). bytes_of c ++ t) (bits-codes c (trace_of L) ∙ trace-codes L (λ d i. w d (Memᴰ.tail i)))

-- ---- bytes of the trace

-- every pass begins with a reset, so that the trace does, or is empty
pub trace-begins : (L : List Code) → no_first_reset (trace_of L) ≡ false
unfolding no_first_reset
trace-begins [] = refl
trace-begins (c ∷ L) = refl

-- a test that fails at 0, 1 and 2 passes nowhere
module _ (p : ℕ → Bool) (low : p 0 ≡ false) (one : p 1 ≡ false) (two : p 2 ≡ false) where
  bits_none : (c : Code) (t : List ℕ) → some_byte p t ≡ false → some_byte p (bit_events c ++ t) ≡ false
  unfolding some_byte slot_event
  bits_none [] t h = h
  bits_none (true ∷ c) t h = rw one (bits_none c t h)
  bits_none (false ∷ c) t h = rw (one, low) (bits_none c t h)

  pub trace-none : (L : List Code) → some_byte p (trace_of L) ≡ false
  unfolding some_byte
  trace-none [] = refl
  trace-none (c ∷ L) = rw (two, low, one) (bits_none c (trace_of L) (trace-none L))

-- ---- codes one after another

pub codes-size : (L : List Code) → length (bytes_all L) ≡ 8 * length L
codes-size [] = refl
codes-size (c ∷ L) = let h = codes-size L in let e = bytes-size c in length-append (bytes_of c) (bytes_all L) ∙ omega arith

pub code-written : (L : List Code) (k : ℕ) → k < length L → code_written (bytes_all L) k ≡ bytes_of (get_or L k [])
unfolding code_written
code-written [] k h = absurd (omega arith)
code-written (c ∷ L) zero h = take_at (bytes_of c) (bytes_all L) 8 (bytes-size c)
code-written (c ∷ L) (suc k) h =
    let n : 8 * suc k ≡ 8 + 8 * k = omega arith in
    let d : drop (8 + 8 * k) (bytes_of c ++ bytes_all L) ≡ drop (8 * k) (bytes_all L) =
    sym (drop-drop (8 * k) 8 (bytes_of c ++ bytes_all L)) ∙ ap (drop (8 * k)) (drop_at (bytes_of c) (bytes_all L) 8 (bytes-size c)) in
    ap (λ (x : ℕ). take 8 (drop x (bytes_of c ++ bytes_all L))) n ∙ ap (take 8) d ∙ code-written L k (le_of_suc-le-suc h)

-- ---- places in a list of codes

pub at-member : (L : List Code) (j : ℕ) → j < length L → Memᴰ (get_or L j []) L
at-member [] j h = absurd (omega arith)
at-member (c ∷ L) zero h = Memᴰ.head refl
at-member (c ∷ L) (suc j) h = Memᴰ.tail (at-member L j (le_of_suc-le-suc h))

pub member-at : (c : Code) (L : List Code) → Memᴰ c L → (j : ℕ) × (j < length L) × (c ≡ get_or L j [])
member-at c [] h = absurd (Memᴰ.not-nil h)
member-at c (x ∷ L) (Memᴰ.head e) = (zero, omega arith, e)
member-at c (x ∷ L) (Memᴰ.tail h) = let r = member-at c L h in (suc r.0, suc-le-suc r.1, r.2)

-- of two places the earlier has the code that comes first
record Earlier (a b : Code) : Type 0 where
  bit : ℕ
  inside : bit < length a
  agree : (j : ℕ) → j < bit → get_or a j false ≡ get_or b j false
  zero-here : get_or a bit false ≡ false
  one-there : get_or b bit false ≡ true

longer : (x : Bool) (a b : Code) → Earlier a b → Earlier (x ∷ a) (x ∷ b)
longer x a b e =
    record { bit = suc e.bit; inside = omega arith; agree = below; zero-here = e.zero-here; one-there = e.one-there }
  where
    below : (j : ℕ) → j < suc e.bit → get_or (x ∷ a) j false ≡ get_or (x ∷ b) j false
    below zero h = refl
    below (suc j) h = e.agree j (le_of_suc-le-suc h)

earlier : (a b : Code) → Before a b → Earlier a b
earlier [] b h = absurd h
earlier (x ∷ a) [] h = absurd h
earlier (false ∷ a) (true ∷ b) h =
    record { bit = zero; inside = omega arith; agree = λ j i. absurd (omega arith); zero-here = refl; one-there = refl }
earlier (true ∷ a) (false ∷ b) h = absurd h
earlier (true ∷ a) (true ∷ b) h = longer true a b (earlier a b h)
earlier (false ∷ a) (false ∷ b) h = longer false a b (earlier a b h)

sorted-at : (L : List Code) → Sorted L → (i j : ℕ) → i < j → j < length L → Before (get_or L i []) (get_or L j [])
sorted-at [] s i j p q = absurd (omega arith)
sorted-at (c ∷ L) s i zero p q = absurd (omega arith)
sorted-at (c ∷ L) s zero (suc j) p q = s.0 (get_or L j []) (at-member L j (le_of_suc-le-suc q))
sorted-at (c ∷ L) s (suc i) (suc j) p q = sorted-at L s.1 i j (le_of_suc-le-suc p) (le_of_suc-le-suc q)

pub codes-order : (L : List Code) → Wide 64 L → Sorted L → (i j : ℕ) → i < j → j < length L → Precedes (code_written (bytes_all L) i) (code_written (bytes_all L) j)
codes-order L w s i j p q =
    let a = get_or L i [] in
    let b = get_or L j [] in
    let e = earlier a b (sorted-at L s i j p q) in
    let wa : length a ≡ 64 = w a (at-member L i (omega arith)) in
    let wb : length b ≡ 64 = w b (at-member L j q) in
    let low : e.bit < 64 = let h = e.inside in omega arith in
    rw (code-written L i (omega arith), code-written L j q) (record {
      lowest = e.bit;
      inside = low;
      agree = λ k h. bytes-bit a k wa (omega arith) ∙ e.agree k h ∙ sym (bytes-bit b k wb (omega arith));
      zero-here = bytes-bit a e.bit wa low ∙ e.zero-here;
      one-there = bytes-bit b e.bit wb low ∙ e.one-there;
    })
