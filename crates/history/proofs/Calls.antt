-- SPDX-License-Identifier: Apache-2.0 AND BSD-3-Clause
-- Every call at once: what holds of each ending of the step, with the events that it tells, holds of every call with its events.
use Rattle.change.specs.Why.{why}
use Rattle.std.specs.Prelude.{Some, None, Ok, Err, Result}
use Prim.Native.Nat.{ℕ, ◌+◌, ◌*◌, ◌%◌, ◌≤◌, ◌<◌}
use mathlib.Core.Path.{◌≡◌, refl, ap, ◌∙◌}
use mathlib.Core.Bool.{Bool, true, false, cond}
use mathlib.Core.List.{List, [], ◌∷◌, ◌++◌}
use mathlib.Core.Option.{Option, some}
use native.Mathlib.Omega.{arith}
use lib.Dec.{ltb, eqb}
use lib.ListN.{length}
use borrow.Author.Tests.{eqb-true}
use Rattle.units.specs.Numbers.{top, bytes_of}
use Rattle.units.specs.declared.GuestAddr.{GuestAddr}
use Rattle.bitmap.specs.Blocks.{next_set}
use Rattle.wire.specs.declared.VirtioMemReq.{VirtioMemReq}
use Rattle.refusal.specs.declared.Refusal.{Refusal}
use Rattle.refusal.specs.declared.Refusal.TheVariants.{WrongSize, WrongRange, WrongStart, NothingPending, HostPastTop, NoShape}
use Rattle.refusal.specs.Refusal.{number}
use Rattle.change.specs.declared.Reason.TheVariants.{FailedDiscard}
use Rattle.step.specs.declared.Verdict.{Verdict}
use Rattle.chain.specs.declared.Asked.{Asked}
use Rattle.chain.specs.declared.NoRequest.{NoRequest}
use Rattle.chain.specs.declared.NoRequest.TheVariants.{UnknownType}
use Rattle.chain.specs.Chain.{parsed}
use Rattle.rows.specs.declared.MapRow.{MapRow}
use Rattle.record.specs.declared.Pending.{Pending}
use Rattle.record.specs.declared.Pending.TheVariants.{Nothing, Create, Discard, DiscardOne}
use Rattle.record.specs.Shape.{shaped_of, start_ok}
use Rattle.record.specs.Changes.{requested_to}
use Rattle.resize.specs.Resize.{growth_of, creation}
use Rattle.step.specs.declared.Answer.TheVariants.{Done}
use Rattle.step.specs.Answers.{refusal, response}
use Rattle.step.specs.World.{World, Guest, Call, Place, SetRequestedSize, Request, HostAnswer, ReadConfig, WriteConfig, Outcome}
use Rattle.step.specs.Step.{block_size, region, usable, plugged, requested, several, region_blocks, region_rows, device_of, new_usable}
use Rattle.step.specs.Step.{refused, unserved, nack, error, served, plugs, asks_discard, unplugs, stops, asks_one, cleared, ends_all, sizes, asks_create, creates, create_fails, placed, covered_by}
use Rattle.step.specs.Step.{step, state_verdict, serve, request, host_answer, place, set_requested_size}
use Rattle.history.specs.History.{Event, PlugAck, UnplugAck, Discarded, UnplugAllAck, open_of, block_of}
use Rattle.history.specs.History.{ack_to_type, ack_to_request, ack_to_host, acknowledges, discard_of, reports, if_ack, if_not_refused, events_of}
use Rattle.history.specs.Questions.{type_of}
use Rattle.history.specs.Refusals.{lent_bytes}
use Rattle.history.proofs.Shaped.{cleared_shaped}
use Rattle.history.proofs.Cases.{by_cond, Entered, Lies, Located, on_ready, on_unplaced, on_pending, plug_cases, unplug_cases, unplug_all_cases, serve_cases, resized_cases, placing_cases, place_cases, size_cases, read_cases, write_cases}

-- a test whose outcomes are the same
cond_same : {A : Type 0} (t : Bool) (x : A) → cond t x x ≡ x
cond_same true x = refl
cond_same false x = refl

-- a request of this type, or a chain that holds none, to a device that is ready for one
pub record Requesting (w : World) (type : Option ℕ) : Type 0 where
  pub guest : Guest
  pub descriptors : ℕ
  pub head : ℕ
  pub status : ℕ
  pub of_type : type_of (parsed guest.mem guest.base descriptors head) ≡ type
  pub is_placed : w.device.placed ≡ true
  pub entry : Entered w.device (length w.blocks) (length w.rows) true

abbrev pub request_of : {w : World} {type : Option ℕ} → Requesting w type → Call
request_of a = Request a.guest a.descriptors a.head

-- the host's yes or no to the pending call p
pub record Answering (w : World) (p : Pending) (ok : Bool) : Type 0 where
  pub guest : Guest
  pub host : ℕ
  pub waits : w.device.pending ≡ p
  pub entry : Entered w.device (length w.blocks) (length w.rows) false

abbrev pub answer_of : {w : World} {p : Pending} {ok : Bool} → Answering w p ok → Call
answer_of {ok = ok} a = HostAnswer a.guest ok a.host

-- placing, of a device that is not placed
pub record Placing (w : World) : Type 0 where
  pub at : ℕ
  pub size : ℕ
  pub slots : List ℕ
  pub bits : List Bool
  pub table : List MapRow
  pub not_placed_lem : w.device.placed ≡ false
  pub entry : Entered w.device (length bits) (length table) true
  pub slots_fit : length slots ≡ region_rows w
  pub start_fits : start_ok at (region w) (several w) w.device.alignment ≡ true

abbrev pub place_of : {w : World} → Placing w → Call
place_of a = Place a.at a.size a.slots a.bits a.table

abbrev pub placed_by : {w : World} → Placing w → World
placed_by {w} a = placed w a.at a.slots a.bits a.table

-- a new requested size, of a device that is ready
pub record Resizing (w : World) : Type 0 where
  pub mib : ℕ
  pub is_placed : w.device.placed ≡ true
  pub entry : Entered w.device (length w.blocks) (length w.rows) true
  pub in_region : mib * 1048576 ≤ region w
  pub whole : mib * 1048576 % block_size w ≡ 0

abbrev pub resized_by : {w : World} → Resizing w → World
resized_by {w} a = device_of (requested_to (a.mib * 1048576) w.device) w

-- the growth of the usable size asks for the rows from i to last
abbrev pub Grows : World → (i last size : ℕ) → Type 0
Grows w i last size = growth_of (region w) (several w) (usable w) (new_usable w) w.rows ≡ creation i last size

-- K holds of each ending
pub record Endings (w : World) (K : Call → Outcome → List Event → Type 0) : Type 0 where
  -- 12 is given for the shape alone, but for `spoils`; 10 is `create_fails_lem`
  pub refuses : (c : Call) (r : Refusal) → (number r ≡ 10 → ⊥) → (number r ≡ 12 → shaped_of w.device ≡ false) → K c (refused r w (lent_bytes c)) []
  pub reads : (offset : ℕ) (buffer bytes : List ℕ) → K (ReadConfig offset buffer) (record { world = w; answer = Done; bytes = bytes }) []
  pub writes : (offset : ℕ) (buffer : List ℕ) → K (WriteConfig offset buffer) (record { world = w; answer = Done; bytes = buffer }) []
  pub unserves : {type : Option ℕ} (a : Requesting w type) (reason : NoRequest) → K (request_of a) (unserved reason w a.guest) []
  -- NACK, ERROR and every response to a state request
  pub responds : {type : Option ℕ} (a : Requesting w type) (v : Verdict) → K (request_of a) (served v a.status w a.guest) []
  pub plugs_range : (a : Requesting w (some 0)) (addr count first offset : ℕ) → plugged w + bytes_of (block_size w) count ≤ requested w → Lies w addr count true first offset
      → K (request_of a) (plugs w first count a.status a.guest) (PlugAck first count ∷ [])
  pub asks_range : (a : Requesting w (some 1)) (addr count first offset host : ℕ) → bytes_of (block_size w) count ≤ plugged w → Lies w addr count false first offset
      → Located w first count offset host → K (request_of a) (asks_discard w first count offset host a.status a.guest) []
  pub spoils : (a : Requesting w (some 1)) (addr count first offset : ℕ) → plugged w < bytes_of (block_size w) count → Lies w addr count false first offset
      → K (request_of a) (refused NoShape w a.guest.mem) []
  pub ends_at_once : (a : Requesting w (some 2)) → next_set w.blocks 0 (region_blocks w) ≡ None → K (request_of a) (ends_all w a.status a.guest) (UnplugAllAck ∷ [])
  pub asks_first : (a : Requesting w (some 2)) (block offset host : ℕ) → next_set w.blocks 0 (region_blocks w) ≡ Some block → Located w block 1 offset host
      → K (request_of a) (asks_one w block offset host a.status a.guest) []
  pub stops_at_once : {why : ℕ} (a : Requesting w (some 2)) → K (request_of a) (stops why w a.status a.guest) []
  pub maps : (i last : ℕ) (a : Answering w (Create i last) true) → K (answer_of a) (creates w i last a.host a.guest.mem) []
  pub create_fails_lem : (i last : ℕ) (a : Answering w (Create i last) false) → K (answer_of a) (create_fails w a.guest.mem) []
  pub unplugs_range : (first count : ℕ) (status : GuestAddr) (a : Answering w (Discard first count status) true)
      → K (answer_of a) (unplugs w first count status.0 a.guest) (UnplugAck first count ∷ [])
  pub discard_fails : (first count : ℕ) (status : GuestAddr) (a : Answering w (Discard first count status) false) → K (answer_of a) (stops (why FailedDiscard) w status.0 a.guest) []
  pub ends_all_lem : (j : ℕ) (status : GuestAddr) (a : Answering w (DiscardOne j status) true) → next_set (cleared w j).blocks (j + 1) (region_blocks w) ≡ None
      → K (answer_of a) (ends_all (cleared w j) status.0 a.guest) (UnplugAllAck ∷ Discarded j ∷ [])
  pub asks_next : (j : ℕ) (status : GuestAddr) (a : Answering w (DiscardOne j status) true) (block offset host : ℕ)
      → next_set (cleared w j).blocks (j + 1) (region_blocks w) ≡ Some block → Located (cleared w j) block 1 offset host
      → K (answer_of a) (asks_one (cleared w j) block offset host status.0 a.guest) (Discarded j ∷ [])
  pub stops_after : {why : ℕ} (j : ℕ) (status : GuestAddr) (a : Answering w (DiscardOne j status) true) → K (answer_of a) (stops why (cleared w j) status.0 a.guest) (Discarded j ∷ [])
  pub one_fails : (j : ℕ) (status : GuestAddr) (a : Answering w (DiscardOne j status) false) → K (answer_of a) (stops (why FailedDiscard) w status.0 a.guest) []
  pub resizes : (a : Resizing w) → K (SetRequestedSize a.mib) (sizes (resized_by a)) []
  pub resize_asks : (a : Resizing w) (i last size : ℕ) → Grows (resized_by a) i last size → K (SetRequestedSize a.mib) (asks_create (resized_by a) i last size) []
  pub places : (a : Placing w) → K (place_of a) (sizes (placed_by a)) []
  pub place_asks : (a : Placing w) (i last size : ℕ) → Grows (placed_by a) i last size → K (place_of a) (asks_create (placed_by a) i last size) []
  pub place_asks_whole : (a : Placing w) → several w ≡ false → K (place_of a) (asks_create (placed_by a) 0 0 (region w)) []

module _ (w : World) (K : Call → Outcome → List Event → Type 0) (k : Endings w K) where
  -- K of an outcome of the call c, where an ACK acknowledges `acks` and the call reports `discards`
  abbrev With : Call → (acks discards : List Event) → Outcome → Type 0
  With c acks discards o = K c o (if_ack o.answer acks ++ if_not_refused o.answer discards)

  of_place : (at size : ℕ) (slots : List ℕ) (bs : List Bool) (rows : List MapRow) → w.device.placed ≡ false → Entered w.device (length bs) (length rows) true
      → With (Place at size slots bs rows) [] [] (place w at size slots bs rows)
  unfolding response refusal lent_bytes
  of_place at size slots bs rows p e =
      let c = Place at size slots bs rows in
      place_cases (With c [] []) w at size slots bs rows
      (k.refuses c WrongRange (λ z. omega arith) (λ z. absurd (omega arith)))
      (k.refuses c WrongStart (λ z. omega arith) (λ z. absurd (omega arith)))
      (λ n f.
      let a : Placing w = record { at = at; size = size; slots = slots; bits = bs; table = rows; not_placed_lem = p; entry = e; slots_fit = n; start_fits = f } in
      placing_cases (With c [] []) (placed w at slots bs rows) (k.places a) (λ i last m r. k.place_asks a i last m r) (λ r. k.place_asks_whole a r))

  of_size : (mib : ℕ) → w.device.placed ≡ true → Entered w.device (length w.blocks) (length w.rows) true → With (SetRequestedSize mib) [] [] (set_requested_size w mib)
  unfolding response refusal lent_bytes
  of_size mib p e =
      let c = SetRequestedSize mib in
      size_cases (With c [] []) w mib
      (k.refuses c WrongSize (λ z. omega arith) (λ z. absurd (omega arith)))
      (λ q r.
      let a : Resizing w = record { mib = mib; is_placed = p; entry = e; in_region = q; whole = r } in
      resized_cases (With c [] []) (resized_by a) (k.resizes a) (λ i last n g. k.resize_asks a i last n g))

  module _ (g : Guest) (descriptors head : ℕ) (p : w.device.placed ≡ true) (e : Entered w.device (length w.blocks) (length w.rows) true) where
    abbrev c : Call
    c = Request g descriptors head

    abbrev asking : (status : ℕ) (type : Option ℕ) → type_of (parsed g.mem g.base descriptors head) ≡ type → Requesting w type
    asking status type t = record { guest = g; descriptors = descriptors; head = head; status = status; of_type = t; is_placed = p; entry = e }

    -- a response that acknowledges nothing
    of_response : (status : ℕ) (v : Verdict) → With c [] [] (served v status w g)
    unfolding response refusal
    of_response status v = simp cond_same (k.responds (asking status _ refl) v)

    of_serve : (req : VirtioMemReq) (status : ℕ) → type_of (parsed g.mem g.base descriptors head) ≡ some req.req_type
        → With c (ack_to_type w req) [] (serve w req status g)
    unfolding ack_to_type response refusal lent_bytes
    of_serve req status q =
        let s = e.is_shaped in
        let addr = req.addr.0 in
        let count = req.nb_blocks in
        let of : (n : ℕ) → eqb req.req_type n ≡ true → Requesting w (some n) = λ n t. asking status (some n) (q ∙ ap some (eqb-true req.req_type n t)) in
        serve_cases (With c (ack_to_type w req) []) w req status g
        (λ t. rw t (plug_cases (With c (PlugAck (block_of w addr) count ∷ []) []) w s status g addr count
        (λ first offset r l. rw (← l.first_is) (k.plugs_range (of 0 t) addr count first offset r l))
        (λ reason. k.responds (of 0 t) (error (why reason)))
        (k.responds (of 0 t) nack)))
        (λ t₀ t₁. rw (t₀, t₁) (unplug_cases (With c [] []) w s status g addr count
        (λ first offset host r l at. k.asks_range (of 1 t₁) addr count first offset host r l at)
        (λ first offset r l. k.spoils (of 1 t₁) addr count first offset r l)
        (λ reason. k.responds (of 1 t₁) (error (why reason)))))
        (λ t₀ t₁ t₂. rw (t₀, t₁, t₂) (unplug_all_cases (With c (UnplugAllAck ∷ []) []) w s status g 0
        (λ r. k.ends_at_once (of 2 t₂) r)
        (λ block offset host r at. k.asks_first (of 2 t₂) block offset host r at)
        (λ reason. k.stops_at_once (of 2 t₂))))
        (λ t₀ t₁ t₂. rw (t₀, t₁, t₂) (of_response status (state_verdict w addr count)))
        (k.unserves (asking status _ q) UnknownType)

    of_request : (chain : Result Asked NoRequest) → parsed g.mem g.base descriptors head ≡ chain → With c (ack_to_request w chain) [] (request chain w g)
    unfolding request ack_to_request response refusal type_of
    of_request (Err reason) q = k.unserves (asking 0 _ refl) reason
    of_request (Ok asked) q = of_serve asked.request asked.status.0 (ap type_of q)

  of_answer : (p : Pending) (ok : Bool) (a : Answering w p ok)
      → With (answer_of a) (acknowledges w (open_of p) (answer_of a)) (reports (open_of p) (answer_of a)) (host_answer p w a.guest ok a.host)
  unfolding host_answer open_of acknowledges ack_to_host reports discard_of response refusal lent_bytes
  of_answer Nothing true a = k.refuses (answer_of a) NothingPending (λ z. omega arith) (λ z. absurd (omega arith))
  of_answer Nothing false a = k.refuses (answer_of a) NothingPending (λ z. omega arith) (λ z. absurd (omega arith))
  of_answer (Create i last) true a =
      by_cond (With (answer_of a) [] []) (ltb top (a.host + covered_by w i last)) _ _ (λ _. k.refuses (answer_of a) HostPastTop (λ z. omega arith) (λ z. absurd (omega arith)))
      (λ _. k.maps i last a)
  of_answer (Create i last) false a = k.create_fails_lem i last a
  of_answer (Discard first count status) true a = k.unplugs_range first count status a
  of_answer (Discard first count status) false a = k.discard_fails first count status a
  of_answer (DiscardOne j status) true a =
      unplug_all_cases (With (answer_of a) (UnplugAllAck ∷ []) (Discarded j ∷ [])) (cleared w j) (cleared_shaped w j a.entry.is_shaped) status.0 a.guest (j + 1)
      (λ r. k.ends_all_lem j status a r)
      (λ block offset host r at. k.asks_next j status a block offset host r at)
      (λ reason. k.stops_after j status a)
  of_answer (DiscardOne j status) false a = k.one_fails j status a

  pub each_call : (c : Call) → K c (step w c) (events_of w (open_of w.device.pending) c (step w c).answer)
  unfolding step events_of acknowledges reports response refusal lent_bytes
  each_call (Place at size slots bs rows) =
      let c = Place at size slots bs rows in
      on_unplaced (With c [] []) w [] _ (λ r. k.refuses c r) (length bs) (length rows) (λ p e. of_place at size slots bs rows p e)
  each_call (SetRequestedSize mib) =
      let c = SetRequestedSize mib in
      on_ready (With c [] []) w [] _ (λ r. k.refuses c r) (length w.blocks) (length w.rows) (λ p e. of_size mib p e)
  each_call (Request g descriptors head) =
      let c = Request g descriptors head in
      let chain = parsed g.mem g.base descriptors head in
      on_ready (With c (ack_to_request w chain) []) w g.mem _ (λ r. k.refuses c r) (length w.blocks) (length w.rows)
      (λ p e. of_request g descriptors head p e chain refl)
  each_call (HostAnswer g ok host) =
      let c = HostAnswer g ok host in
      let o = open_of w.device.pending in
      on_pending (With c (acknowledges w o c) (reports o c)) w g.mem _ (λ r. k.refuses c r) (length w.blocks) (length w.rows)
      (λ e. of_answer w.device.pending ok (record { guest = g; host = host; waits = refl; entry = e }))
  each_call (ReadConfig offset buffer) =
      let c = ReadConfig offset buffer in
      read_cases (With c [] []) w offset buffer (λ s. k.refuses c NoShape (λ z. omega arith) (λ _. s)) (k.reads offset buffer _)
  each_call (WriteConfig offset buffer) =
      let c = WriteConfig offset buffer in
      write_cases (With c [] []) w buffer (λ s. k.refuses c NoShape (λ z. omega arith) (λ _. s)) (k.writes offset buffer)
