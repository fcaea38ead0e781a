-- SPDX-License-Identifier: Apache-2.0 AND BSD-3-Clause
-- The whole example (R12.12) as a run, guest bytes and all, a second run with every kind of event, a builder that plugs again after a failed unplug-all (R10.13), and a run that goes on from a restore. All begin with a newly made device, so what is said of every run is said of something. Computed, by `refl`.
use Rattle.change.specs.Why.{why}
use Prim.Native.Nat.{ℕ}
use mathlib.Core.Path.{◌≡◌, refl}
use mathlib.Core.Bool.{true, false}
use mathlib.Core.List.{List, [], ◌∷◌, ◌++◌}
use native.Mathlib.Omega.{arith}
use lib.ListN.{replicate}
use Rattle.units.specs.Numbers.{map_regions}
use Rattle.bitmap.specs.Blocks.{every, fill, first_from, ones}
use Rattle.little_endian.specs.Bytes.{value, little_endian, part, put}
use Rattle.wire.specs.Layout.{request_at, response_bytes}
use Rattle.descriptors.specs.Standard.{virtq_desc, descriptor_at, descriptor_addr}
use Rattle.descriptors.specs.Descriptors.{inside, link_at, link_after}
use Rattle.chain.specs.Chain.{with_second, with_first, parsed, reaches, delivered}
use Rattle.rows.specs.Rows.{mapping_of, fill_rows, rows_laid}
use Rattle.record.specs.declared.Device.{Device}
use Rattle.record.specs.declared.Pending.TheVariants.{Nothing}
use Rattle.record.specs.declared.HostCall.TheVariants.{Create, Discard}
use Rattle.record.specs.Shape.{alignment_ok, region_ok, size_ok, span_of, start_ok, several_ok, pending_ok, shaped_of}
use Rattle.resize.specs.Resize.{new_size, growth_of}
use Rattle.change.specs.Change.{inside_of, range_of, host_sum, host_in, host_of, legal_at, change_in, state_in, state_of}
use Rattle.change.specs.declared.Reason.TheVariants.{FailedDiscard}
use Rattle.step.specs.declared.Answer.{Answer}
use Rattle.step.specs.declared.Answer.TheVariants.{Wants, Sized}
use Rattle.step.specs.Answers.{served_with, refusal, response}
use Rattle.step.specs.World.{World, Guest, Call, Place, SetRequestedSize, Request, HostAnswer}
use Rattle.step.specs.Step.{tables_fit, ready_refusal, unplaced_refusal, pending_refusal, range_refusal, unless, plug_as, plug, unplug_as, one_as, next_as, state_type, serve, request, resizes, placing, place, set_requested_size, host_answer, step, plugged, verdict, ack, nack, error}
use Rattle.history.specs.History.{Event, PlugAck, UnplugAck, Discarded, UnplugAllAck, ack_to_type, ack_to_request, ack_to_host, acknowledges, discard_of, reports, events_of, opened_by_type, opened_by_request, goes_on, opened_by, asked_by, open_after, Story, next, after, Fresh, begun, was_plug, used}
use Rattle.history.specs.Reached.{marks, counts, could, marked, counted, all_could, all_plugs, CanRestore, restored}

-- capacity_mib=256 requested_mib=16 multi=0 node=none boot=1073741824
pub device : Device
device =
    record {
      config = record {
        block_size = 4194304;
        node_id = 0;
        addr = record { 0 = 0 };
        region_size = 268435456;
        usable_region_size = 0;
        plugged_size = 0;
        requested_size = 16777216;
      };
      alignment = 134217728;
      several = false;
      avail_features = 4294967296;
      placed = false;
      pending = Nothing;
    }

pub is_fresh : Fresh device
unfolding device shaped_of alignment_ok region_ok size_ok span_of start_ok several_ok pending_ok
is_fresh = record { shaped = refl; unplaced = refl; waits_for_nothing = refl; nothing_plugged = refl; nothing_usable = refl }

-- two descriptors from address 0 on, a request of 24 bytes at 32, and 10 bytes for the response at 56, the last of the memory; the address of a request is 4 GiB + 64 KiB x third
chain_to : (status type third count : ℕ) → Guest
chain_to status type third count =
    record {
      mem =
          (32 ∷ 0 ∷ 0 ∷ 0 ∷ 0 ∷ 0 ∷ 0 ∷ 0 ∷ 24 ∷ 0 ∷ 0 ∷ 0 ∷ 1 ∷ 0 ∷ 1 ∷ 0 ∷ [])
          ++ (status ∷ 0 ∷ 0 ∷ 0 ∷ 0 ∷ 0 ∷ 0 ∷ 0 ∷ 10 ∷ 0 ∷ 0 ∷ 0 ∷ 2 ∷ 0 ∷ 0 ∷ 0 ∷ [])
          ++ (type ∷ 0 ∷ 0 ∷ 0 ∷ 0 ∷ 0 ∷ 0 ∷ 0 ∷ 0 ∷ 0 ∷ third ∷ 0 ∷ 1 ∷ 0 ∷ 0 ∷ 0 ∷ count ∷ 0 ∷ 0 ∷ 0 ∷ 0 ∷ 0 ∷ 0 ∷ 0 ∷ [])
          ++ replicate 10 255;
      base = 0;
    }

chain : (type third count : ℕ) → Guest
chain type third count = chain_to 56 type third count

-- addr=4294967296 slot=1, and the host's answer; the tables that are lent hold anything
place_it : List Call
place_it =
    Place 4294967296 268435456 (1 ∷ []) (replicate 72 true) (record { slot = 9; mapped = 7; host = record { 0 = 5 } } ∷ [])
    ∷ HostAnswer (chain 0 0 0) true 140737488355328
    ∷ []

pub calls : List Call
calls =
    place_it
    ++ Request (chain 0 0 2) 0 0
    ∷ Request (chain 0 128 3) 0 0
    ∷ Request (chain 3 64 2) 0 0
    ∷ Request (chain 2 0 0) 0 0
    ∷ HostAnswer (chain 0 0 0) true 0
    ∷ HostAnswer (chain 0 0 0) false 0
    ∷ SetRequestedSize 20
    ∷ []

-- two blocks plugged with an ACK that could not be delivered, the first unplugged, and all
pub more : List Call
more =
    place_it
    ++ Request (chain_to 57 0 0 2) 0 0
    ∷ Request (chain 1 0 1) 0 0
    ∷ HostAnswer (chain 0 0 0) true 0
    ∷ Request (chain 2 0 0) 0 0
    ∷ HostAnswer (chain 0 0 0) true 0
    ∷ []

-- four blocks, which is all that is requested; an unplug-all whose second discard fails; and the first block again
pub again : List Call
again =
    place_it
    ++ Request (chain 0 0 4) 0 0
    ∷ Request (chain 2 0 0) 0 0
    ∷ HostAnswer (chain 0 0 0) true 0
    ∷ HostAnswer (chain 0 0 0) false 0
    ∷ Request (chain 0 0 1) 0 0
    ∷ []

-- blocks 0, 3 and 4 of a saved state, laid on what the second run has left, and block 0 unplugged
pub saved : List Event
saved = PlugAck 3 2 ∷ PlugAck 0 1 ∷ []

pub resumed : Story
resumed = restored (after (begun device) more).world 8388608 saved

pub on_with : List Call
on_with = Request (chain 1 0 1) 0 0 ∷ HostAnswer (chain 0 0 0) true 0 ∷ []

pub answers : World → List Call → List Answer
answers w [] = []
answers w (c ∷ cs) = (step w c).answer ∷ answers (step w c).world cs

-- R12.12: its answers, its events, newest first, the plugged size that the refused unplug-all has left, and how many blocks are plugged; what was lent behind the region's 64 blocks does not count
pub record Example : Type 0 where
  pub answered :
      answers (begun device).world calls
      ≡ Wants (Create (record { 0 = 4294967296 }) 268435456 1)
      ∷ Sized
      ∷ served_with ack 10
      ∷ served_with nack 10
      ∷ served_with (verdict 0 2 0) 10
      ∷ Wants (Discard (record { 0 = 0 }) 4194304 (record { 0 = 140737488355328 }))
      ∷ Wants (Discard (record { 0 = 4194304 }) 4194304 (record { 0 = 140737492549632 }))
      ∷ served_with (error (why FailedDiscard)) 10
      ∷ Sized
      ∷ []
  pub told : (after (begun device) calls).events ≡ Discarded 0 ∷ PlugAck 0 2 ∷ []
  pub left : plugged (after (begun device) calls).world ≡ 4194304
  pub counted : ones (used (after (begun device) calls).world) ≡ 1
  pub more_answered :
      answers (begun device).world more
      ≡ Wants (Create (record { 0 = 4294967296 }) 268435456 1)
      ∷ Sized
      ∷ served_with ack 0
      ∷ Wants (Discard (record { 0 = 0 }) 4194304 (record { 0 = 140737488355328 }))
      ∷ served_with ack 10
      ∷ Wants (Discard (record { 0 = 4194304 }) 4194304 (record { 0 = 140737492549632 }))
      ∷ served_with ack 10
      ∷ []
  pub more_told : (after (begun device) more).events ≡ UnplugAllAck ∷ Discarded 1 ∷ UnplugAck 0 1 ∷ PlugAck 0 2 ∷ []
  pub more_left : plugged (after (begun device) more).world ≡ 0
  pub more_counted : ones (used (after (begun device) more).world) ≡ 0
  pub again_answered :
      answers (begun device).world again
      ≡ Wants (Create (record { 0 = 4294967296 }) 268435456 1)
      ∷ Sized
      ∷ served_with ack 10
      ∷ Wants (Discard (record { 0 = 0 }) 4194304 (record { 0 = 140737488355328 }))
      ∷ Wants (Discard (record { 0 = 4194304 }) 4194304 (record { 0 = 140737492549632 }))
      ∷ served_with (error (why FailedDiscard)) 10
      ∷ served_with ack 10
      ∷ []
  pub again_told : (after (begun device) again).events ≡ PlugAck 0 1 ∷ Discarded 0 ∷ PlugAck 0 4 ∷ []
  pub again_left : plugged (after (begun device) again).world ≡ 16777216
  pub again_counted : ones (used (after (begun device) again).world) ≡ 4
  pub saved_restores : CanRestore (after (begun device) more).world 8388608 saved
  pub resumed_answered :
      answers resumed.world on_with
      ≡ Wants (Discard (record { 0 = 0 }) 4194304 (record { 0 = 140737488355328 }))
      ∷ served_with ack 10
      ∷ []
  pub resumed_told : (after resumed on_with).events ≡ UnplugAck 0 1 ∷ PlugAck 3 2 ∷ PlugAck 0 1 ∷ []
  pub resumed_left : plugged (after resumed on_with).world ≡ 8388608
  pub resumed_counted : ones (used (after resumed on_with).world) ≡ 2

pub example : Example
unfolding device chain_to chain place_it calls more again saved resumed on_with answers map_regions every fill first_from ones value little_endian part put request_at response_bytes virtq_desc descriptor_at descriptor_addr inside link_at link_after with_second with_first parsed reaches delivered mapping_of fill_rows rows_laid alignment_ok region_ok size_ok span_of start_ok several_ok pending_ok shaped_of new_size growth_of inside_of range_of host_sum host_in host_of legal_at change_in state_in state_of tables_fit ready_refusal unplaced_refusal pending_refusal range_refusal unless plug_as plug unplug_as one_as next_as state_type serve request resizes placing place set_requested_size host_answer step ack_to_type ack_to_request ack_to_host acknowledges discard_of reports response refusal events_of opened_by_type opened_by_request goes_on opened_by asked_by open_after next after was_plug marks counts could marked counted all_could all_plugs
example =
    record {
      answered = refl;
      told = refl;
      left = refl;
      counted = refl;
      more_answered = refl;
      more_told = refl;
      more_left = refl;
      more_counted = refl;
      again_answered = refl;
      again_told = refl;
      again_left = refl;
      again_counted = refl;
      saved_restores =
          record {
            is_placed = refl;
            waits_for_nothing = refl;
            is_long = omega arith;
            none_set = refl;
            nothing_plugged = refl;
            requested_fits = refl;
            only_plugs = refl;
            could_all = refl;
          };
      resumed_answered = refl;
      resumed_told = refl;
      resumed_left = refl;
      resumed_counted = refl;
    }
