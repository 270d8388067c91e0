-- Every recording of the table has its verdict, by computing in one pass. Assumes nothing.
use mathlib.Core.Path.{◌≡◌, refl, sym, ◌∙◌}
use mathlib.Core.List.{List, [], ◌∷◌}
use lib.ListN.{length}
use Rattle.bits.specs.Bit.{bit_of, bit_at, at_level, with_bit, put_bit, shift_in, level_byte}
use Rattle.bits.specs.Crc.{crc_bit, crc_bits, crc_byte, crc_from, registration_check}
use Rattle.kind.specs.Kind.{kind_of, body_size, memory_size, is_sram, is_eprom, is_unknown, is_flat, has_overdrive, speed_known}
use Rattle.image.specs.Image.{packed_at}
use Rattle.image.specs.Refusal.{some_below, equal_bytes, first_cause, edition_known, battery_malformed, entry_malformed, image_malformed, image_too_long, body_misplaced, code_refused, some_code_refused, code_repeated, some_code_repeated, image_causes, image_refusal}
use Rattle.line.specs.Transfers.{transfer_sends}
use Rattle.rom.specs.Rom.{overdrive_command, command_speed, rom_speed, after_overdrive_match}
use Rattle.rom.specs.Rom.{addressed, rom_command, after_read, after_match, rom_next, rom_range}
use Rattle.sram.specs.Sram.{load_address}
use Rattle.sram.specs.Sram.{load_target, begin_byte, store_bit, write_bit, after_data_bit, end_data, after_register, after_scratchpad, pattern_same, after_pattern, copy_length, copy_bytes, copy_to_memory, accept_copy, bytes_copied, pattern_copy, sram_copy, pattern_write, read_memory, sram_command, sram_next, sram_write, sram_reset, data_range, sram_range}
use Rattle.eprom.specs.Fields.{field_start, field_length, stored_byte, field_read, read_command, write_command, cut_address, command_crc}
use Rattle.eprom.specs.Reads.{send_byte, read_latch, after_crc, ends_span, after_byte}
use Rattle.eprom.specs.Writes.{write_latch, after_data_byte as after_eprom_data, page_protected, programmed_byte, programmed_body, send_stored, next_write_pass}
use Rattle.eprom.specs.Eprom.{eprom_command, eprom_next, eprom_pulse, eprom_program, eprom_range}
use Rattle.device.specs.Device.{memory_command, memory_next, stage_next, stage_speed, speed_after_slot, memory_write, stage_write, memory_reset, stage_reset, memory_pulse, stage_pulse, memory_program, stage_program, sends_as_is, transfer_after_slot, state_after_slot_as_is, body_after_slot_as_is, body_after_reset_as_is, state_after_pulse_as_is, body_after_pulse_as_is}
use Rattle.device.specs.Device.{memory_copy, stage_copy, copy_in_slot_as_is, copy_in_slot, bytes_in_slot}
use Rattle.device.specs.Device.{memory_range, stage_range, line_state_in_range as state_in_range, or_waiting, sends_of, state_after_slot, body_after_slot, body_after_reset, state_after_pulse, body_after_pulse}
use Rattle.bus.specs.Bus.{event_of, pulls_low, some_low, level_of, next_state, next_body, next_device, bus_step_at, bus_step, with_answer, run_trace, is_slot, is_overdrive}
use Rattle.bus.specs.Bus.{copied_in, copied_by_all, copied_in_trace}
use Rattle.bus.specs.Refusal.{some_byte, bad_trace, no_first_reset, bad_pulse, no_run_room, run_causes, run_refusal}
use Rattle.bus.specs.Run.{devices_from, waiting_devices, bodies_of, left_by_run, run_at, run_of}
use Rattle.judge.specs.Rules.{heard_slot, passed_over, is_last, is_command, is_memory_command, completes, is_high_byte, is_address_end, is_write_address, writes, is_made, accepts_copy, bits_from, wanted_bits, shows_bits, some_read_shows, some_write, shown_since_write, moments_of, count_below}
use Rattle.bus.specs.Bus.{taken_state, hears, answers_low, master_high, heard_state, heard_body, unheard_state, heard_copied}
use Rattle.judge.specs.declared.Verdict.TheVariants.{Accepted}
use Rattle.judge.specs.Judge.{none as nowhere, or_here}
use Rattle.judge.proofs.OnePass.{pass_from, one-pass}
use Rattle.example_laws.specs.Judged.{Recording, Right, Every, none, ◌and◌, table, overdrive_row, Judged}

-- one pass gives the verdict
abbrev Passed : Recording → Type 0
Passed r = pass_from r.trace r.answers (waiting_devices r.image) 0 (length r.trace) (waiting_devices r.image) nowhere Accepted ≡ r.verdict

abbrev All : List Recording → Type 0
All [] = Unit {0}
All (r ∷ rs) = Passed r × All rs

right : (r : Recording) → Passed r → Right r
right r e = sym (one-pass r.trace r.answers (waiting_devices r.image)) ∙ e

every : (rs : List Recording) → All rs → Every rs
every [] a = none
every (r ∷ rs) a = right r a.0 and every rs a.1

-- the checker computes each of them
computed : All table × Passed overdrive_row
unfolding bit_of bit_at at_level with_bit put_bit shift_in crc_bit crc_bits crc_byte crc_from registration_check kind_of body_size memory_size is_sram is_eprom is_unknown is_flat has_overdrive speed_known packed_at
    some_below equal_bytes first_cause edition_known battery_malformed entry_malformed image_malformed image_too_long body_misplaced code_refused some_code_refused code_repeated some_code_repeated image_causes image_refusal transfer_sends
    addressed rom_command overdrive_command command_speed rom_speed after_read after_match after_overdrive_match rom_next rom_range memory_command memory_next stage_next stage_speed speed_after_slot memory_write stage_write memory_reset stage_reset memory_pulse stage_pulse
    memory_program stage_program sends_as_is transfer_after_slot state_after_slot_as_is body_after_slot_as_is body_after_reset_as_is state_after_pulse_as_is body_after_pulse_as_is memory_range stage_range state_in_range or_waiting
    sends_of state_after_slot body_after_slot body_after_reset state_after_pulse body_after_pulse event_of taken_state hears answers_low master_high heard_state heard_body unheard_state heard_copied pulls_low some_low level_of next_state next_body
    next_device bus_step_at bus_step level_byte with_answer run_trace devices_from waiting_devices bodies_of left_by_run run_at run_of load_target begin_byte
    store_bit write_bit after_data_bit end_data after_register after_scratchpad pattern_same after_pattern copy_length copy_bytes copy_to_memory accept_copy
    bytes_copied pattern_copy sram_copy memory_copy stage_copy copy_in_slot_as_is copy_in_slot bytes_in_slot copied_in copied_by_all copied_in_trace
    pattern_write read_memory sram_command sram_next sram_write sram_reset data_range sram_range field_start field_length stored_byte field_read read_command
    write_command cut_address command_crc send_byte read_latch after_crc ends_span after_byte write_latch after_eprom_data page_protected programmed_byte programmed_body
    send_stored next_write_pass eprom_command eprom_next eprom_pulse eprom_program eprom_range some_byte bad_trace no_first_reset bad_pulse no_run_room run_causes run_refusal
    load_address
    is_slot is_overdrive heard_slot passed_over is_last is_command is_memory_command completes is_high_byte is_address_end is_write_address writes is_made accepts_copy bits_from wanted_bits shows_bits some_read_shows some_write
    shown_since_write moments_of count_below or_here
computed = (
  (refl, (refl, (refl, (refl, (refl, (refl, (refl, (refl, (refl, (refl, (refl, (refl, (refl, (refl, (refl, (refl, (refl, (refl, (refl, (refl, (refl, tt))))))))))))))))))))),
  refl,
)

pub judged : Judged
judged = record { rows = every table computed.0; at-overdrive = right overdrive_row computed.1 }
