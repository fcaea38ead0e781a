-- SPDX-License-Identifier: Apache-2.0 AND BSD-3-Clause
-- A run of the exported functions, words and bytes and all: a size change before placing, with tables that mean nothing; a placing that fails, and another; the host's answer; a plug of two blocks; a config read. So what is said of every run is said of something. Computed, by `refl`.
use Prim.{tt}
use Prim.Native.Nat.{ℕ}
use mathlib.Core.Path.{◌≡◌, refl}
use mathlib.Core.Bool.{true, false}
use mathlib.Core.List.{List, [], ◌∷◌, ◌++◌}
use native.Mathlib.Omega.{arith}
use lib.ListN.{replicate}
use Rattle.units.specs.Numbers.{map_regions, alignment_of, next_multiple}
use Rattle.bitmap.specs.Blocks.{low_bits, blocks, every, fill, first_from}
use Rattle.little_endian.specs.Bytes.{value, little_endian, part, put}
use Rattle.wire.specs.Layout.{request_at, response_bytes, config_fields, config_values, fields_laid as laid_config, config_bytes}
use Rattle.descriptors.specs.Standard.{virtq_desc, descriptor_at, descriptor_addr}
use Rattle.descriptors.specs.Descriptors.{inside, link_at, link_after}
use Rattle.chain.specs.Chain.{with_second, with_first, parsed, reaches, delivered}
use Rattle.rows.specs.Rows.{rows_of, row_words, mapping_of, fill_rows, rows_laid}
use Rattle.record.specs.Shape.{alignment_ok, region_ok, size_ok, span_of, start_ok, several_ok, pending_ok, shaped_of}
use Rattle.resize.specs.Resize.{new_size, growth_of}
use Rattle.change.specs.Change.{inside_of, range_of, host_sum, host_in, host_of, legal_at, change_in, state_in, state_of}
use Rattle.step.specs.Step.{tables_fit, ready_refusal, unplaced_refusal, pending_refusal, unless, plug_as, plug, unplug_as, one_as, next_as, state_type, serve, request, resizes, placing, place, set_requested_size, host_answer, read_config, step, plugged, range_refusal}
use Rattle.making.specs.Made.{made}
use Rattle.words.specs.Record.{words_of, is_record, record_of, decoded_of}
use Rattle.making.specs.Made.{made_number}
use Rattle.step.specs.Promise.{lent}
use Rattle.jambcopper.specs.Exports.{handed, made_words, Called}
use Rattle.step.specs.Answers.{refusal, response}
use Rattle.history.specs.History.{PlugAck, NoRequest, ack_to_type, ack_to_request, ack_to_host, acknowledges, discard_of, reports, events_of, opened_by_type, opened_by_request, goes_on, opened_by, asked_by, open_after, Demand3}
use Rattle.history.proofs.Shaped.{clash}
use Rattle.linked.specs.Runs.{jambcopper_place, jambcopper_set_requested_size, jambcopper_request, jambcopper_host_answer, jambcopper_read_config}
use Rattle.linked.specs.Runs.{Use, call_by, in_use, on_tables, new_tables, holding, Run, held_after, Making, Makes, first, in_hand}
use Rattle.linked.specs.Heard.{answer_of, heard_by, HasRoom, AllHeard, events_heard}
use Rattle.linked.proofs.Heard.{demand_3_heard}

-- the words of the record: start, usable size, plugged size, placed, and the pending call
pub record_words : (start usable plugged placed kind : ℕ) → List ℕ
record_words start usable plugged placed kind =
    4194304 ∷ 0 ∷ start ∷ 268435456 ∷ usable ∷ plugged ∷ 16777216 ∷ 134217728 ∷ 0 ∷ 4294967296 ∷ placed ∷ kind ∷ 0 ∷ 0 ∷ 0 ∷ []

pub zeros : ℕ → List ℕ
zeros n = replicate n 0

-- two descriptors from address 0 on, a plug of 2 blocks at 4 GiB at 32, and 10 bytes for the response at 56
asked : List ℕ
asked =
    (32 ∷ 0 ∷ 0 ∷ 0 ∷ 0 ∷ 0 ∷ 0 ∷ 0 ∷ 24 ∷ 0 ∷ 0 ∷ 0 ∷ 1 ∷ 0 ∷ 1 ∷ 0 ∷ [])
    ++ (56 ∷ 0 ∷ 0 ∷ 0 ∷ 0 ∷ 0 ∷ 0 ∷ 0 ∷ 10 ∷ 0 ∷ 0 ∷ 0 ∷ 2 ∷ 0 ∷ 0 ∷ 0 ∷ [])
    ++ (0 ∷ 0 ∷ 0 ∷ 0 ∷ 0 ∷ 0 ∷ 0 ∷ 0 ∷ 0 ∷ 0 ∷ 0 ∷ 0 ∷ 1 ∷ 0 ∷ 0 ∷ 0 ∷ 2 ∷ 0 ∷ 0 ∷ 0 ∷ 0 ∷ 0 ∷ 0 ∷ 0 ∷ [])

-- capacity_mib=256 requested_mib=16 multi=0 node=none boot=1073741824
pub making : Making
making = record { words = zeros 15; capacity = 256; requested = 16; several = false; given = false; node = 0; boot = 1073741824 }

pub makes : Makes making (record_words 0 0 0 0 0)
unfolding making record_words zeros made_number made_words made size_ok alignment_of next_multiple words_of put
makes = record { promised = record { numbered = refl; recorded = refl }; node_fits = omega arith }

pub uses : List Use
uses =
    -- refused with 5
    record {
      function = jambcopper_set_requested_size 20;
      before = handed (record_words 0 0 0 0 0) (zeros 9) (lent (1 ∷ 2 ∷ 3 ∷ []) (4 ∷ []) []);
      after = handed (record_words 0 0 0 0 0) (0 ∷ 5 ∷ zeros 7) (lent (1 ∷ 2 ∷ 3 ∷ []) (4 ∷ []) []);
      number = 5;
    }
    -- a creation is asked for; the tables that are lent hold anything
    ∷ record {
      function = jambcopper_place 8589934592 268435456 (9 ∷ []);
      before = handed (record_words 0 0 0 0 0) (0 ∷ 5 ∷ zeros 7) (lent (replicate 8 255) (9 ∷ 7 ∷ 5 ∷ []) []);
      after = handed (record_words 8589934592 0 0 0 1) (1 ∷ 0 ∷ 8589934592 ∷ 268435456 ∷ 9 ∷ zeros 4) (lent (zeros 8) (9 ∷ 0 ∷ 0 ∷ []) []);
      number = 0;
    }
    -- it fails: 10, and the start stays
    ∷ record {
      function = jambcopper_host_answer 0 false 0;
      before = handed (record_words 8589934592 0 0 0 1) (zeros 9) (lent (zeros 8) (9 ∷ 0 ∷ 0 ∷ []) []);
      after = handed (record_words 8589934592 0 0 0 0) (0 ∷ 10 ∷ zeros 7) (lent (zeros 8) (9 ∷ 0 ∷ 0 ∷ []) []);
      number = 10;
    }
    -- the tables are not in use now, so others may be lent: 5
    ∷ record {
      function = jambcopper_set_requested_size 20;
      before = handed (record_words 8589934592 0 0 0 0) (zeros 9) (lent (6 ∷ []) [] []);
      after = handed (record_words 8589934592 0 0 0 0) (0 ∷ 5 ∷ zeros 7) (lent (6 ∷ []) [] []);
      number = 5;
    }
    -- placing is tried again, elsewhere
    ∷ record {
      function = jambcopper_place 4294967296 268435456 (1 ∷ []);
      before = handed (record_words 8589934592 0 0 0 0) (zeros 9) (lent (replicate 8 255) (9 ∷ 7 ∷ 5 ∷ []) []);
      after = handed (record_words 4294967296 0 0 0 1) (1 ∷ 0 ∷ 4294967296 ∷ 268435456 ∷ 1 ∷ zeros 4) (lent (zeros 8) (1 ∷ 0 ∷ 0 ∷ []) []);
      number = 0;
    }
    ∷ record {
      function = jambcopper_host_answer 0 true 140737488355328;
      before = handed (record_words 4294967296 0 0 0 1) (zeros 9) (lent (zeros 8) (1 ∷ 0 ∷ 0 ∷ []) (7 ∷ []));
      after = handed (record_words 4294967296 268435456 0 1 0) (3 ∷ zeros 8) (lent (zeros 8) (1 ∷ 1 ∷ 140737488355328 ∷ []) (7 ∷ []));
      number = 0;
    }
    ∷ record {
      function = jambcopper_request 0 0 0;
      before = handed (record_words 4294967296 268435456 0 1 0) (zeros 9) (lent (zeros 8) (1 ∷ 1 ∷ 140737488355328 ∷ []) (asked ++ replicate 10 255));
      after = handed (record_words 4294967296 268435456 8388608 1 0) (5 ∷ 0 ∷ 0 ∷ 0 ∷ 0 ∷ 0 ∷ 0 ∷ 10 ∷ 0 ∷ []) (lent (3 ∷ zeros 7) (1 ∷ 1 ∷ 140737488355328 ∷ []) (asked ++ zeros 10));
      number = 0;
    }
    ∷ record {
      function = jambcopper_read_config 1;
      before = handed (record_words 4294967296 268435456 8388608 1 0) [] (lent [] [] (zeros 3));
      after = handed (record_words 4294967296 268435456 8388608 1 0) [] (lent [] [] (0 ∷ 64 ∷ 0 ∷ []));
      number = 0;
    }
    ∷ []

pub runs : Run (first (record_words 0 0 0 0 0)) uses
unfolding record_words zeros asked uses Run call_by in_use on_tables new_tables holding Called low_bits blocks every fill first_from value little_endian part put request_at response_bytes config_fields config_values laid_config config_bytes virtq_desc descriptor_at descriptor_addr inside link_at link_after with_second with_first parsed reaches delivered rows_of row_words mapping_of fill_rows rows_laid map_regions alignment_ok region_ok size_ok span_of start_ok several_ok pending_ok shaped_of new_size growth_of inside_of range_of host_sum host_in host_of legal_at change_in state_in state_of tables_fit ready_refusal unplaced_refusal pending_refusal range_refusal unless plug_as plug unplug_as one_as next_as state_type serve request resizes placing place set_requested_size host_answer read_config step words_of is_record record_of decoded_of
runs = (record { lends = record { same_words = refl; same_bitmap = λ _ p. clash p refl; same_table = λ _ p. clash p refl }; promised = record { numbered = refl; recorded = refl; decodes = refl; told = refl; leaves = record { marked = refl; mapped = refl; left = refl } } }, (record { lends = record { same_words = refl; same_bitmap = λ p _. clash p refl; same_table = λ p _. clash p refl }; promised = record { numbered = refl; recorded = refl; decodes = refl; told = refl; leaves = record { marked = refl; mapped = refl; left = refl } } }, (record { lends = record { same_words = refl; same_bitmap = λ _ _. refl; same_table = λ _ _. refl }; promised = record { numbered = refl; recorded = refl; decodes = refl; told = refl; leaves = record { marked = refl; mapped = refl; left = refl } } }, (record { lends = record { same_words = refl; same_bitmap = λ _ p. clash p refl; same_table = λ _ p. clash p refl }; promised = record { numbered = refl; recorded = refl; decodes = refl; told = refl; leaves = record { marked = refl; mapped = refl; left = refl } } }, (record { lends = record { same_words = refl; same_bitmap = λ p _. clash p refl; same_table = λ p _. clash p refl }; promised = record { numbered = refl; recorded = refl; decodes = refl; told = refl; leaves = record { marked = refl; mapped = refl; left = refl } } }, (record { lends = record { same_words = refl; same_bitmap = λ _ _. refl; same_table = λ _ _. refl }; promised = record { numbered = refl; recorded = refl; decodes = refl; told = refl; leaves = record { marked = refl; mapped = refl; left = refl } } }, (record { lends = record { same_words = refl; same_bitmap = λ _ _. refl; same_table = λ _ _. refl }; promised = record { numbered = refl; recorded = refl; decodes = refl; told = refl; leaves = record { marked = refl; mapped = refl; left = refl } } }, (record { lends = record { same_words = refl; same_bitmap = λ p _. clash p refl; same_table = λ p _. clash p refl }; promised = record { numbered = refl; recorded = refl; decodes = refl; told = refl; leaves = record { marked = refl; mapped = refl; left = refl } } }, tt))))))))

-- all that a program sees of it: the events that it hears, newest first, and the bitmap and the plugged size that it holds
pub record Seen : Type 0 where
  pub all_heard : AllHeard uses
  pub hears : events_heard (first (record_words 0 0 0 0 0)) NoRequest [] uses ≡ PlugAck 0 2 ∷ []
  pub marked : (held_after (first (record_words 0 0 0 0 0)) uses).bitmap ≡ 3 ∷ zeros 7
  pub sized : plugged (in_hand (held_after (first (record_words 0 0 0 0 0)) uses)) ≡ 8388608

pub seen : Seen
unfolding record_words zeros asked uses call_by in_use new_tables holding held_after answer_of heard_by HasRoom AllHeard events_heard value little_endian part request_at virtq_desc descriptor_at descriptor_addr inside link_at link_after with_second with_first parsed record_of ack_to_type ack_to_request ack_to_host acknowledges discard_of reports response refusal events_of opened_by_type opened_by_request goes_on opened_by asked_by open_after
seen = record { all_heard = (omega arith, (omega arith, (omega arith, (omega arith, (omega arith, (omega arith, (omega arith, (tt, tt)))))))); hears = refl; marked = refl; sized = refl }

-- demand 3 says that these fit each other
pub fits_each_other : Demand3 (in_hand (held_after (first (record_words 0 0 0 0 0)) uses)) (PlugAck 0 2 ∷ [])
fits_each_other = rw seen.hears at (demand_3_heard making (record_words 0 0 0 0 0) makes uses runs seen.all_heard)
