-- Laws of exchanges: a transfer by bytes, a pulse, and a device that waits. Assumes nothing.
use Prim.Native.Nat.{ℕ, ◌<◌}
use mathlib.Core.Path.{◌≡◌, refl, ap, ◌∙◌}
use mathlib.Core.Bool.{Bool, true}
use mathlib.Core.List.{List, [], ◌∷◌, ◌++◌}
use native.Mathlib.Omega.{arith}
use lib.ListN.{length, replicate}
use Rattle.bits.specs.Bit.{bit_of}
use Rattle.bits.specs.Levels.{low_bits, line_bits}
use Rattle.line.specs.Transfers.{waiting, sending, listening, transfer_sends}
use Rattle.line.specs.Slots.{levels_sent_over, shifted_over}
use Rattle.line.specs.declared.Field.{Field}
use Rattle.line.specs.declared.EpromStage.{EpromStage}
use Rattle.line.specs.declared.Transfer.{Transfer}
use Rattle.line.proofs.Transfers.{sending-law}
use Rattle.line.proofs.Bytes.{listening-byte}
use Rattle.eprom.specs.Fields.{in_eprom}
use Rattle.eprom.specs.Writes.{await_pulse, programmed_body, send_stored}
use Rattle.eprom.specs.Eprom.{eprom_next, eprom_pulse, eprom_program}
use Rattle.eprom_laws.specs.Events.{EpromDevice, eprom_device, LineEvent, slot, pulse, eprom_after_slot, eprom_after_pulse}
use Rattle.eprom_laws.specs.Events.{levels_sent, eprom_after_events}
use Rattle.eprom_laws.specs.Events.{Exchange, byte, programs, slots_then, events_of, line_bytes, SendsOver}

pub nothing : {device : EpromDevice} → SendsOver device [] [] device
unfolding levels_sent eprom_after_events events_of line_bits
nothing = record { levels = refl; reached = refl }

-- ---- one transfer

module _ (e : EpromStage) (b line : ℕ) (body : List ℕ) where
  -- what is received in it
  abbrev value : ℕ
  value = (shifted_over (sending (in_eprom e) b) (low_bits 8 line)).register

  -- eight slots go by, and what follows is decided by the byte received
  by_slots : (es : List Exchange)
      → (levels_sent (eprom_device (sending (in_eprom e) b) body) (events_of (byte line ∷ es))
      ≡ levels_sent_over (sending (in_eprom e) b) (low_bits 8 line)
      ++ levels_sent (eprom_device (eprom_next e value body) body) (events_of es))
      × (eprom_after_events (eprom_device (sending (in_eprom e) b) body) (events_of (byte line ∷ es))
      ≡ eprom_after_events (eprom_device (eprom_next e value body) body) (events_of es))
  unfolding levels_sent eprom_after_events events_of slots_then low_bits levels_sent_over shifted_over transfer_sends
  by_slots es = (refl, refl)

  -- so a byte is sent, and then what comes next
  transfer : {es : List Exchange} {sent : List ℕ} {after : EpromDevice}
      → SendsOver (eprom_device (eprom_next e value body) body) es sent after
      → SendsOver (eprom_device (sending (in_eprom e) b) body) (byte line ∷ es) (b ∷ sent) after
  unfolding line_bits low_bits
  transfer {es} p =
      let s = by_slots es in
      record {
        levels = s.0 ∙ rw (sending-law (in_eprom e) b (low_bits 8 line) refl, p.levels);
        reached = s.1 ∙ p.reached;
      }

-- the device sends, whatever is on the line
pub sent-then : {e : EpromStage} {b line : ℕ} {body : List ℕ} {s : Transfer}
    {es : List Exchange} {sent : List ℕ} {after : EpromDevice}
    → ((d : ℕ) → eprom_next e d body ≡ s) → SendsOver (eprom_device s body) es sent after
    → SendsOver (eprom_device (sending (in_eprom e) b) body) (byte line ∷ es) (b ∷ sent) after
sent-then {e} {b} {line} {body} same p = transfer e b line body (rw (same (value e b line body)) p)

-- the device listens: it takes the byte that is on the line
pub heard-then : {e : EpromStage} {line : ℕ} {body : List ℕ} {es : List Exchange} {sent : List ℕ} {after : EpromDevice}
    → line < 256 → SendsOver (eprom_device (eprom_next e line body) body) es sent after
    → SendsOver (eprom_device (listening (in_eprom e)) body) (byte line ∷ es) (0xFF ∷ sent) after
heard-then {e} {line} {body} h p = transfer e 0xFF line body (rw (listening-byte (in_eprom e) line h) p)

-- ---- where a pulse is due

module _ {field : Field} {a d : ℕ} {body : List ℕ} {es : List Exchange} {sent : List ℕ} {after : EpromDevice} where
  -- a pulse programs the byte, which is sent next
  pub pulse-then :
      SendsOver (eprom_device (send_stored field a (programmed_body field a d body)) (programmed_body field a d body)) es sent after
      → SendsOver (eprom_device (await_pulse field a d) body) (programs ∷ es) sent after
  unfolding levels_sent eprom_after_events events_of eprom_pulse eprom_program
  pulse-then p = record { levels = p.levels; reached = p.reached }

  -- slots instead are answered 1, and the device waits
  pub missed-then : {line : ℕ} → SendsOver (eprom_device waiting body) es sent after
      → SendsOver (eprom_device (await_pulse field a d) body) (byte line ∷ es) (0xFF ∷ sent) after
  unfolding levels_sent eprom_after_events events_of slots_then low_bits line_bits bit_of transfer_sends eprom_next
  missed-then p = record {
    levels = ap (λ (xs : List Bool). low_bits 8 0xFF ++ xs) p.levels;
    reached = p.reached;
  }

-- ---- a device that waits

-- events after events
then-levels : (events more : List LineEvent) (device : EpromDevice)
    → levels_sent device (events ++ more) ≡ levels_sent device events ++ levels_sent (eprom_after_events device events) more
unfolding levels_sent eprom_after_events
then-levels [] more device = refl
then-levels (slot level ∷ events) more device =
    ap (λ (xs : List Bool). transfer_sends device.transfer ∷ xs) (then-levels events more (eprom_after_slot device level))
then-levels (pulse ∷ events) more device = then-levels events more (eprom_after_pulse device)

then-device : (events more : List LineEvent) (device : EpromDevice)
    → eprom_after_events device (events ++ more) ≡ eprom_after_events (eprom_after_events device events) more
unfolding eprom_after_events
then-device [] more device = refl
then-device (slot level ∷ events) more device = then-device events more (eprom_after_slot device level)
then-device (pulse ∷ events) more device = then-device events more (eprom_after_pulse device)

-- every slot is answered 1
waits-levels : (body : List ℕ) (levels : List Bool)
    → levels_sent (eprom_device waiting body) (slots_then levels []) ≡ replicate (length levels) true
unfolding levels_sent slots_then transfer_sends bit_of
waits-levels body [] = refl
waits-levels body (level ∷ levels) = ap (λ (xs : List Bool). true ∷ xs) (waits-levels body levels)

waits-device : (body : List ℕ) (levels : List Bool)
    → eprom_after_events (eprom_device waiting body) (slots_then levels []) ≡ eprom_device waiting body
unfolding eprom_after_events slots_then
waits-device body [] = refl
waits-device body (level ∷ levels) = waits-device body levels

-- so a device that has come to wait, by whatever exchanges, sends ones in any number of slots after them
pub ones-law : {device : EpromDevice} {es : List Exchange} {sent body : List ℕ} → SendsOver device es sent (eprom_device waiting body)
    → (more : List Bool)
    → (levels_sent device (events_of es ++ slots_then more []) ≡ line_bits sent ++ replicate (length more) true)
    × (eprom_after_events device (events_of es ++ slots_then more []) ≡ eprom_device waiting body)
ones-law {device} {es} {sent} {body} p more =
    let rest = slots_then more [] in (
      then-levels (events_of es) rest device ∙ rw (p.levels, p.reached, waits-levels body more),
      then-device (events_of es) rest device ∙ rw p.reached (waits-device body more),
    )

-- ---- what a device sends

-- whatever is on the line, the device sends these bytes, and this is its next transfer
pub data Sends : List ℕ → Transfer → List ℕ → Transfer → Type 0 where
  none : {body : List ℕ} {s : Transfer} → Sends body s [] s
  one : {body : List ℕ} {s t : Transfer} {b : ℕ} {bs : List ℕ} (e : EpromStage)
      → Sends body s bs t → ((d : ℕ) → eprom_next e d body ≡ s) → Sends body (sending (in_eprom e) b) (b ∷ bs) t

pub last : {body : List ℕ} {t : Transfer} {b : ℕ} (e : EpromStage) → ((d : ℕ) → eprom_next e d body ≡ t)
    → Sends body (sending (in_eprom e) b) (b ∷ []) t
last e n = one e none n

pub sends-then : {body : List ℕ} {s t u : Transfer} {bs cs : List ℕ}
    → Sends body s bs t → Sends body t cs u → Sends body s (bs ++ cs) u
sends-then none q = q
sends-then (one e p n) q = one e (sends-then p q) n

pub sent-over : {body : List ℕ} {s t : Transfer} {bs : List ℕ} → Sends body s bs t → (lines : List ℕ)
    → length lines ≡ length bs → SendsOver (eprom_device s body) (line_bytes lines) bs (eprom_device t body)
unfolding line_bytes
sent-over none [] h = nothing
sent-over none (line ∷ lines) h = absurd (omega arith)
sent-over (one e p n) [] h = absurd (omega arith)
sent-over (one e p n) (line ∷ lines) h = sent-then n (sent-over p lines (omega arith))
