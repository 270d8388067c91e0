-- The devices on the bus in a pass of a search, slot by slot. Assumes nothing.
use Prim.Native.Nat.{ℕ, suc, ◌+◌, ◌<◌}
use mathlib.Core.Path.{◌≡◌, refl, ap, ◌∙◌}
use mathlib.Core.Bool.{Bool, true, false, not, cond, ◌&&◌, ◌||◌, beq}
use mathlib.Core.List.{List, [], ◌∷◌, ◌++◌, map}
use native.Mathlib.Numerals.{add-one}
use native.Mathlib.Omega.{arith}
use lib.ListN.{length}
use lib.Dec.{ltb}
use borrow.Author.Tests.{lt-ltb}
use Rattle.bits.specs.Bit.{bit_at}
use Rattle.kind.specs.declared.Kind.{Kind}
use Rattle.kind.specs.Kind.{body_size}
use Rattle.line.specs.declared.RomStage.{RomStage}
use Rattle.line.specs.declared.RomStage.TheVariants.{Waiting, Command, Search}
use Rattle.line.specs.declared.Stage.TheVariants.{Rom}
use Rattle.line.specs.declared.Transfer.{Transfer}
use Rattle.line.specs.Transfers.{waiting}
use Rattle.line.specs.Slots.{shifted_over}
use Rattle.bits.specs.Levels.{spelled}
use Rattle.rom.specs.Rom.{search_bit, addressed, rom_command, command_speed, after_search}
use Rattle.device.specs.declared.LineState.{LineState}
use Rattle.device.specs.Device.{line_state, regular_state, waiting_state, reset_state, line_state_in_range, or_waiting, sends_of, state_after_slot, body_after_reset}
use Rattle.device.proofs.Laws.{waiting-sends, waiting-step, rom-write, rom-copies, rom-reset, addressed-reset}
use Rattle.device.proofs.Search.{searching, search-sends-bit, search-after-bit, search-sends-complement, search-after-complement, search-sends-direction, search-after-direction, commanded, command-sends, command-goes-on, command-ends}
use Rattle.bus.specs.declared.Event.{Event}
use Rattle.bus.specs.declared.Event.TheVariants.{Slot, Reset, Pulse, OverdriveSlot, OverdriveReset}
use Rattle.bus.specs.Bus.{Device, device_with, taken_state, hears, answers_low, pulls_low, some_low, master_high, level_of, heard_state, heard_body, next_state, next_body, next_device}
use Rattle.bus.specs.Bus.{heard_copied, copied_in, copied_by_all}
use Rattle.search_laws.proofs.Codes.{Code, branch}
use Rattle.search_laws.proofs.Bits.{bits_from}
use Rattle.search_laws.proofs.Passes.{bits-level, complements-level}

-- ---- devices in a pass

-- the same device in another line state
abbrev pub in_state : LineState → Device → Device
in_state s d = device_with d.kind d.body s

-- a body of its kind's size
abbrev pub Sized : List Device → Type 0
Sized [] = Unit {0}
Sized (d ∷ ds) = (length d.body ≡ body_size d.kind) × Sized ds

-- a device takes part in a pass until its bit differs from a direction; then it waits
pub data Member : Type 0 where
  active : Device → Member
  inactive : Device → Member

abbrev pub device : Member → Device
device (active d) = d
device (inactive d) = d

-- the line states of those that take part, which their kinds and bodies give
abbrev pub standing : (Kind → List ℕ → LineState) → Member → Device
standing s (active d) = in_state (s d.kind d.body) d
standing s (inactive d) = in_state waiting_state d

abbrev pub stands_by : (Kind → List ℕ → LineState) → List Member → List Device
stands_by s ms = map (standing s) ms

-- where they are all in one
abbrev pub stands : LineState → List Member → List Device
stands s ms = stands_by (λ kind body. s) ms

-- of the devices that take part, the m bits that are left of their codes
abbrev pub rests : ℕ → ℕ → List Member → List Code
rests k m [] = []
rests k m (active d ∷ ms) = bits_from d.body k m ∷ rests k m ms
rests k m (inactive d ∷ ms) = rests k m ms

-- ---- a slot

-- a line state in a ROM stage, at regular speed
abbrev InRom : LineState → Type 0
InRom s = (r : RomStage) × (s.transfer.stage ≡ Rom r) × (s.overdrive ≡ false)

-- Devices that stand aside in an event: in a slot each of them is in the ROM stage.
abbrev pub AllRom : List Device → Type 0
AllRom [] = Unit {0}
AllRom (d ∷ ds) = ((r : RomStage) × (d.state.transfer.stage ≡ Rom r)) × AllRom ds

abbrev pub Aside : Event → List Device → Type 0
Aside (Slot sent) ds = AllRom ds
Aside Reset ds = Unit {0}
Aside Pulse ds = Unit {0}
Aside (OverdriveSlot sent) ds = AllRom ds
Aside OverdriveReset ds = Unit {0}

-- and no byte is copied in it
abbrev pub Idle : Event → Bool → List Device → Type 0
Idle event level ds = (copied_by_all event level ds ≡ 0) × Aside event ds

-- a device at regular speed hears a regular slot
regular-hears : (s : LineState) (sent : Bool) (d : Device) → s.overdrive ≡ false
    → hears (Slot sent) (taken_state (in_state s d)) ≡ true
unfolding hears taken_state or_waiting
regular-hears s sent d e = choose (line_state_in_range s d.kind d.body)
  where
    choose : (t : Bool) → not (cond t s waiting_state).overdrive ≡ true
    choose true = ap not e
    choose false = refl

-- there only the line state changes
slot-turn : (s t : LineState) (sent level : Bool) (d : Device) → InRom s → state_after_slot s d.kind d.body level ≡ t
    → next_device (Slot sent) level (in_state s d) ≡ in_state t d
unfolding next_device next_state next_body heard_state heard_body
slot-turn s t sent level d r e =
    rw (regular-hears s sent d r.2, rom-write s r.0 r.1 d.kind d.body level, e)

waits-on : (sent level : Bool) (d : Device) → next_device (Slot sent) level (in_state waiting_state d) ≡ in_state waiting_state d
waits-on sent level d = slot-turn waiting_state waiting_state sent level d (Waiting, refl, refl) (waiting-step d.kind d.body level)

-- a slot that takes every device that takes part from one line state to another
slot-all : (s t : Kind → List ℕ → LineState) (sent level : Bool) (ms : List Member) → ((kind : Kind) (body : List ℕ) → InRom (s kind body))
    → ((d : Device) → length d.body ≡ body_size d.kind → state_after_slot (s d.kind d.body) d.kind d.body level ≡ t d.kind d.body)
    → Sized (map device ms) → map (next_device (Slot sent) level) (stands_by s ms) ≡ stands_by t ms
slot-all s t sent level [] r f z = refl
slot-all s t sent level (active d ∷ ms) r f z =
    let h = slot-turn (s d.kind d.body) (t d.kind d.body) sent level d (r d.kind d.body) (f d z.0) in
    let e = slot-all s t sent level ms r f z.1 in
    cc
slot-all s t sent level (inactive d ∷ ms) r f z =
    let h = waits-on sent level d in
    let e = slot-all s t sent level ms r f z.1 in
    cc

-- in such a slot no byte is copied
one-copied : (s : LineState) (sent level : Bool) (d : Device) → InRom s → copied_in (Slot sent) level (in_state s d) ≡ 0
unfolding copied_in heard_copied
one-copied s sent level d r =
    rw (regular-hears s sent d r.2) (rom-copies s r.0 r.1 d.kind d.body level)

rom-copied : (s : Kind → List ℕ → LineState) (sent level : Bool) (ms : List Member) → ((kind : Kind) (body : List ℕ) → InRom (s kind body))
    → copied_by_all (Slot sent) level (stands_by s ms) ≡ 0
unfolding copied_by_all
rom-copied s sent level [] r = refl
rom-copied s sent level (active d ∷ ms) r =
    omega (arith, one-copied (s d.kind d.body) sent level d (r d.kind d.body), rom-copied s sent level ms r)
rom-copied s sent level (inactive d ∷ ms) r =
    omega (arith, one-copied waiting_state sent level d (Waiting, refl, refl), rom-copied s sent level ms r)

-- every device is in the ROM stage
all-rom : (s : Kind → List ℕ → LineState) (ms : List Member) → ((kind : Kind) (body : List ℕ) → InRom (s kind body)) → AllRom (stands_by s ms)
all-rom s [] r = tt
all-rom s (active d ∷ ms) r = (((r d.kind d.body).0, (r d.kind d.body).1), all-rom s ms r)
all-rom s (inactive d ∷ ms) r = ((Waiting, refl), all-rom s ms r)

rom-idle : (s : Kind → List ℕ → LineState) (sent level : Bool) (ms : List Member) → ((kind : Kind) (body : List ℕ) → InRom (s kind body))
    → Idle (Slot sent) level (stands_by s ms)
rom-idle s sent level ms r = (rom-copied s sent level ms r, all-rom s ms r)

-- no byte is copied by a reset either
none-copied : (level : Bool) (ds : List Device) → copied_by_all Reset level ds ≡ 0
unfolding copied_by_all copied_in heard_copied hears
none-copied level [] = refl
none-copied level (d ∷ ds) = omega (arith, none-copied level ds)

pub reset-idle : (level : Bool) (ds : List Device) → Idle Reset level ds
reset-idle level ds = (none-copied level ds, tt)

-- the level, where no device that takes part sends a 0
or-false : (heard a b : Bool) → a ≡ true → b ≡ false → (heard && not a || b) ≡ false
or-false true a b p q = rw (p, q)
or-false false a b p q = q

none-low : (s : Kind → List ℕ → LineState) (sent : Bool) (ms : List Member)
    → ((d : Device) → length d.body ≡ body_size d.kind → sends_of (s d.kind d.body) d.kind d.body ≡ true) → Sized (map device ms)
    → some_low (Slot sent) (stands_by s ms) ≡ false
unfolding some_low pulls_low answers_low
none-low s sent [] f z = refl
none-low s sent (active d ∷ ms) f z = or-false (hears (Slot sent) (taken_state (in_state (s d.kind d.body) d))) _ _ (f d z.0) (none-low s sent ms f z.1)
none-low s sent (inactive d ∷ ms) f z = or-false (hears (Slot sent) (taken_state (in_state waiting_state d))) _ _ (waiting-sends d.kind d.body) (none-low s sent ms f z.1)

sent-alone : (sent : Bool) → not (not sent || false) ≡ sent
sent-alone true = refl
sent-alone false = refl

slot-level : (s : Kind → List ℕ → LineState) (sent : Bool) (ms : List Member)
    → ((d : Device) → length d.body ≡ body_size d.kind → sends_of (s d.kind d.body) d.kind d.body ≡ true) → Sized (map device ms)
    → level_of (Slot sent) (stands_by s ms) ≡ sent
unfolding level_of master_high
slot-level s sent ms f z = rw (none-low s sent ms f z) (sent-alone sent)

-- ---- a bit

not-or : (a b c : Bool) → not b ≡ c → not (not a || b) ≡ (a && c)
not-or true b c e = e
not-or false b c e = refl

-- a device at code bit k, after slots at these levels: none, one or two
abbrev pub searches : ℕ → List Bool → Kind → List ℕ → LineState
searches k levels kind body = searching k body levels

-- the two read slots, the second after a first at level a; then the direction, after reads at levels a and b
module _ (k m : ℕ) (low : k < 64) where
  bit-in-rom : (kind : Kind) (body : List ℕ) → InRom (searches k [] kind body)
  unfolding shifted_over search_bit
  bit-in-rom kind body = (Search k, refl, refl)

  complement-in-rom : (a : Bool) (kind : Kind) (body : List ℕ) → InRom (searches k (a ∷ []) kind body)
  unfolding shifted_over search_bit
  complement-in-rom a kind body = (Search k, refl, refl)

  pub direction-in-rom : (a b : Bool) (kind : Kind) (body : List ℕ) → InRom (searches k (a ∷ b ∷ []) kind body)
  unfolding shifted_over search_bit
  direction-in-rom a b kind body = (Search k, refl, refl)

  bits-low : (ms : List Member) → Sized (map device ms) → not (some_low (Slot true) (stands_by (searches k []) ms)) ≡ bits-level (rests k (suc m) ms)
  unfolding some_low pulls_low answers_low
  bits-low [] z = refl
  bits-low (active d ∷ ms) z =
      rw (regular-hears (searches k [] d.kind d.body) true d (bit-in-rom d.kind d.body).2, search-sends-bit k d.kind d.body z.0 low)
      (not-or (bit_at d.body k) (some_low (Slot true) (stands_by (searches k []) ms)) (bits-level (rests k (suc m) ms)) (bits-low ms z.1))
  bits-low (inactive d ∷ ms) z = rw (regular-hears waiting_state true d refl, waiting-sends d.kind d.body) (bits-low ms z.1)

  complements-low : (a : Bool) (ms : List Member) → Sized (map device ms)
      → not (some_low (Slot true) (stands_by (searches k (a ∷ [])) ms)) ≡ complements-level (rests k (suc m) ms)
  unfolding some_low pulls_low answers_low
  complements-low a [] z = refl
  complements-low a (active d ∷ ms) z =
      rw (regular-hears (searches k (a ∷ []) d.kind d.body) true d (complement-in-rom a d.kind d.body).2, search-sends-complement k d.kind d.body z.0 low a)
      (not-or (not (bit_at d.body k)) (some_low (Slot true) (stands_by (searches k (a ∷ [])) ms)) (complements-level (rests k (suc m) ms)) (complements-low a ms z.1))
  complements-low a (inactive d ∷ ms) z = rw (regular-hears waiting_state true d refl, waiting-sends d.kind d.body) (complements-low a ms z.1)

  pub bits-read : (ms : List Member) → Sized (map device ms) → level_of (Slot true) (stands_by (searches k []) ms) ≡ bits-level (rests k (suc m) ms)
  unfolding level_of master_high
  bits-read ms z = bits-low ms z

  pub complements-read : (a : Bool) (ms : List Member) → Sized (map device ms)
      → level_of (Slot true) (stands_by (searches k (a ∷ [])) ms) ≡ complements-level (rests k (suc m) ms)
  unfolding level_of master_high
  complements-read a ms z = complements-low a ms z

  -- the devices stand aside in each of the three slots
  pub bits-idle : (a : Bool) (ms : List Member) → Idle (Slot true) a (stands_by (searches k []) ms)
  bits-idle a ms = rom-idle (searches k []) true a ms bit-in-rom

  pub complements-idle : (a b : Bool) (ms : List Member) → Idle (Slot true) b (stands_by (searches k (a ∷ [])) ms)
  complements-idle a b ms = rom-idle (searches k (a ∷ [])) true b ms (complement-in-rom a)

  pub direction-idle : (a b sent : Bool) (ms : List Member)
      → Idle (Slot sent) sent (stands_by (searches k (a ∷ b ∷ [])) ms)
  direction-idle a b sent ms = rom-idle (searches k (a ∷ b ∷ [])) sent sent ms (direction-in-rom a b)

  pub bits-after : (a : Bool) (ms : List Member) → Sized (map device ms)
      → map (next_device (Slot true) a) (stands_by (searches k []) ms) ≡ stands_by (searches k (a ∷ [])) ms
  bits-after a ms z =
      slot-all (searches k []) (searches k (a ∷ [])) true a ms bit-in-rom (λ d h. search-after-bit k d.kind d.body h low a) z

  pub complements-after : (a b : Bool) (ms : List Member) → Sized (map device ms)
      → map (next_device (Slot true) b) (stands_by (searches k (a ∷ [])) ms) ≡ stands_by (searches k (a ∷ b ∷ [])) ms
  complements-after a b ms z =
      slot-all (searches k (a ∷ [])) (searches k (a ∷ b ∷ [])) true b ms (complement-in-rom a)
      (λ d h. search-after-complement k d.kind d.body h low a b) z

  pub direction-level : (a b sent : Bool) (ms : List Member) → Sized (map device ms) → level_of (Slot sent) (stands_by (searches k (a ∷ b ∷ [])) ms) ≡ sent
  direction-level a b sent ms z =
      slot-level (searches k (a ∷ b ∷ [])) sent ms (λ d h. search-sends-direction k d.kind d.body h low a b) z

-- the direction: a device whose bit it is goes on
abbrev pub moved : ℕ → Bool → Member → Member
moved k bit (active d) = cond (beq (bit_at d.body k) bit) (active d) (inactive d)
moved k bit (inactive d) = inactive d

-- to its next bit; after the last it is addressed
abbrev pub next_bit : ℕ → Kind → List ℕ → LineState
next_bit k kind body = regular_state (cond (ltb k 63) (search_bit (k + 1) body) (addressed kind))

-- a device that a pass has found is at the memory command, or waits where its battery is flat
abbrev pub addressed_state : Kind → List ℕ → LineState
addressed_state kind body = regular_state (addressed kind)

choose-member : (same : Bool) (t : Transfer) (d : Device)
    → in_state (regular_state (cond same t waiting)) d ≡ standing (λ kind body. regular_state t) (cond same (active d) (inactive d))
choose-member true t d = refl
choose-member false t d = refl

same-standing : (same : Bool) (s : Kind → List ℕ → LineState) (d : Device)
    → standing (λ kind body. s d.kind d.body) (cond same (active d) (inactive d)) ≡ standing s (cond same (active d) (inactive d))
same-standing true s d = refl
same-standing false s d = refl

direction-next : (k : ℕ) (a b bit : Bool) (d : Device) → k < 64 → length d.body ≡ body_size d.kind
    → next_device (Slot bit) bit (in_state (searches k (a ∷ b ∷ []) d.kind d.body) d) ≡ standing (next_bit k) (moved k bit (active d))
unfolding after_search
direction-next k a b bit d low z =
    let same = beq (bit_at d.body k) bit in
    slot-turn (searches k (a ∷ b ∷ []) d.kind d.body) _ bit bit d (direction-in-rom k 0 low a b d.kind d.body) (search-after-direction k d.kind d.body z low a b bit)
    ∙ choose-member same (cond (ltb k 63) (search_bit (k + 1) d.body) (addressed d.kind)) d
    ∙ same-standing same (next_bit k) d

pub direction-after : (k : ℕ) (a b bit : Bool) (ms : List Member) → k < 64 → Sized (map device ms)
    → map (next_device (Slot bit) bit) (stands_by (searches k (a ∷ b ∷ [])) ms) ≡ stands_by (next_bit k) (map (moved k bit) ms)
direction-after k a b bit [] low z = refl
direction-after k a b bit (active d ∷ ms) low z =
    let h = direction-next k a b bit d low z.0 in
    let t = direction-after k a b bit ms low z.1 in
    cc
direction-after k a b bit (inactive d ∷ ms) low z =
    let h = waits-on bit bit d in
    let t = direction-after k a b bit ms low z.1 in
    cc

pub next_bit-is : (k : ℕ) (ms : List Member) → k < 63 → stands_by (next_bit k) ms ≡ stands_by (searches (suc k) []) ms
unfolding shifted_over
next_bit-is k ms h =
    ap (λ (t : Bool). stands_by (λ kind body. regular_state (cond t (search_bit (k + 1) body) (addressed kind))) ms) (lt-ltb k 63 h)
    ∙ ap (λ (j : ℕ). stands_by (λ kind body. regular_state (search_bit j body)) ms) (add-one k)

pub last_bit : (ms : List Member) → stands_by (next_bit 63) ms ≡ stands_by addressed_state ms
last_bit ms = refl

-- the same devices are there
pub moved-devices : (k : ℕ) (bit : Bool) (ms : List Member) → map device (map (moved k bit) ms) ≡ map device ms
moved-devices k bit [] = refl
moved-devices k bit (active d ∷ ms) = let h = one (beq (bit_at d.body k) bit) in let t = moved-devices k bit ms in cc
  where
    one : (same : Bool) → device (cond same (active d) (inactive d)) ≡ d
    one true = refl
    one false = refl
moved-devices k bit (inactive d ∷ ms) = ap (λ (ds : List Device). d ∷ ds) (moved-devices k bit ms)

-- those that go on are the codes of the branch
pub moved-rests : (k m : ℕ) (bit : Bool) (ms : List Member) → rests (suc k) m (map (moved k bit) ms) ≡ branch bit (rests k (suc m) ms)
moved-rests k m true [] = refl
moved-rests k m false [] = refl
moved-rests k m bit (active d ∷ ms) = one (bit_at d.body k) bit (moved-rests k m bit ms)
  where
    one : (own bit : Bool) → rests (suc k) m (map (moved k bit) ms) ≡ branch bit (rests k (suc m) ms)
        → rests (suc k) m (cond (beq own bit) (active d) (inactive d) ∷ map (moved k bit) ms) ≡ branch bit ((own ∷ bits_from d.body (suc k) m) ∷ rests k (suc m) ms)
    one true true h = ap (λ (cs : List Code). bits_from d.body (suc k) m ∷ cs) h
    one true false h = h
    one false true h = h
    one false false h = ap (λ (cs : List Code). bits_from d.body (suc k) m ∷ cs) h
moved-rests k m true (inactive d ∷ ms) = moved-rests k m true ms
moved-rests k m false (inactive d ∷ ms) = moved-rests k m false ms

-- ---- reset and command

-- line states in which a reset changes no body
abbrev pub Unwritten : (Kind → List ℕ → LineState) → Type 0
Unwritten s = (kind : Kind) (body : List ℕ) → body_after_reset (s kind body) kind body ≡ body

pub waiting-unwritten : Unwritten (λ kind body. waiting_state)
waiting-unwritten kind body = rom-reset waiting_state Waiting refl kind body

pub addressed-unwritten : Unwritten addressed_state
addressed-unwritten kind body = addressed-reset kind false body

pub reset-all : (s : Kind → List ℕ → LineState) (level : Bool) (ms : List Member) → Unwritten s
    → map (next_device Reset level) (stands_by s ms) ≡ stands reset_state (map active (map device ms))
unfolding next_device next_state next_body heard_state heard_body hears
reset-all s level [] u = refl
reset-all s level (active d ∷ ms) u = let h = u d.kind d.body in let t = reset-all s level ms u in cc
reset-all s level (inactive d ∷ ms) u = let h = waiting-unwritten d.kind d.body in let t = reset-all s level ms u in cc

pub all-active : (ds : List Device) → map device (map active ds) ≡ ds
all-active [] = refl
all-active (d ∷ ds) = ap (λ (es : List Device). d ∷ es) (all-active ds)

pub all-rests : (k m : ℕ) (ds : List Device) → rests k m (map active ds) ≡ map (λ (d : Device). bits_from d.body k m) ds
all-rests k m [] = refl
all-rests k m (d ∷ ds) = ap (λ (cs : List Code). bits_from d.body k m ∷ cs) (all-rests k m ds)

-- a bit of the command, of which these levels were received
pub command-level : (levels : List Bool) (sent : Bool) (ms : List Member) → length levels < 8 → Sized (map device ms)
    → level_of (Slot sent) (stands (commanded levels) ms) ≡ sent
command-level levels sent ms low z = slot-level (λ kind body. commanded levels) sent ms (λ d h. command-sends levels d.kind d.body h low) z

command-stage : (levels : List Bool) (t : Transfer) → t.stage ≡ Rom Command → (shifted_over t levels).stage ≡ Rom Command
unfolding shifted_over
command-stage [] t e = e
command-stage (level ∷ levels) t e = command-stage levels _ e

command-in-rom : (levels : List Bool) → InRom (commanded levels)
command-in-rom levels = (Command, command-stage levels _ refl, refl)

-- the devices stand aside in it
pub command-idle : (levels : List Bool) (sent : Bool) (ms : List Member)
    → Idle (Slot sent) sent (stands (commanded levels) ms)
command-idle levels sent ms = rom-idle (λ kind body. commanded levels) sent sent ms (λ kind body. command-in-rom levels)

-- up to the seventh
pub command-after : (levels : List Bool) (sent : Bool) (ms : List Member) → length levels < 7 → Sized (map device ms)
    → map (next_device (Slot sent) sent) (stands (commanded levels) ms) ≡ stands (commanded (levels ++ sent ∷ [])) ms
command-after levels sent ms low z =
    slot-all (λ kind body. commanded levels) (λ kind body. commanded (levels ++ sent ∷ [])) sent sent ms (λ kind body. command-in-rom levels)
    (λ d h. command-goes-on levels d.kind d.body h sent low) z

-- and the eighth: the command decides the stage and the speed
abbrev pub commanded_by : ℕ → Kind → List ℕ → LineState
commanded_by value kind body = line_state (rom_command value kind false body) (command_speed value kind false)

pub command-done : (levels : List Bool) (sent : Bool) (ms : List Member) → length levels ≡ 7 → Sized (map device ms)
    → map (next_device (Slot sent) sent) (stands (commanded levels) ms)
    ≡ stands_by (λ kind body. commanded_by (spelled (levels ++ sent ∷ [])) kind body) ms
command-done levels sent ms last z =
    slot-all (λ kind body. commanded levels) (λ kind body. commanded_by (spelled (levels ++ sent ∷ [])) kind body) sent sent ms (λ kind body. command-in-rom levels)
    (λ d h. command-ends levels d.kind d.body h sent last) z
