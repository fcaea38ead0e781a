-- SPDX-License-Identifier: Apache-2.0 AND BSD-3-Clause
-- Every call in every world, as the standard sees it: a request that is heard, the host's answer to a discard, and all else, which gives no response and asks for no discard. By it M8, M12 and M17, and what waits for the host.
use Rattle.std.specs.Prelude.{Ok, Err, Result}
use Prim.Native.Nat.{ℕ, ◌+◌, ◌*◌, ◌≤◌}
use mathlib.Core.Path.{◌≡◌, refl}
use mathlib.Core.Bool.{Bool, true, false, cond, ◌||◌}
use mathlib.Core.List.{List, []}
use mathlib.Core.Option.{Option, some, none}
use native.Mathlib.Omega.{arith}
use lib.Dec.{ltb}
use lib.ListN.{length}
use borrow.Author.Tests.{le-leb}
use Rattle.units.specs.Numbers.{top, map_region}
use Rattle.units.specs.declared.GuestAddr.{GuestAddr}
use Rattle.wire.specs.declared.VirtioMemReq.{VirtioMemReq}
use Rattle.step.specs.declared.Verdict.{Verdict}
use Rattle.refusal.specs.declared.Refusal.{Refusal}
use Rattle.refusal.specs.declared.Refusal.TheVariants.{WrongSize, WrongRange, WrongStart, NothingPending, HostPastTop, NoShape}
use Rattle.chain.specs.declared.Asked.{Asked}
use Rattle.chain.specs.declared.NoRequest.{NoRequest}
use Rattle.chain.specs.Chain.{parsed, reaches, delivered}
use Rattle.record.specs.declared.HostCall.{HostCall}
use Rattle.record.specs.declared.HostCall.TheVariants.{Create as CreateCall, Discard as DiscardCall}
use Rattle.record.specs.declared.Pending.{Pending}
use Rattle.record.specs.declared.Pending.TheVariants.{Nothing, Create, Discard, DiscardOne}
use Rattle.record.specs.Changes.{requested_to}
use Rattle.record.proofs.Laws.{Parts, shaped_is as facts-of, whole as shaped-when}
use Rattle.step.specs.declared.Answer.{Answer}
use Rattle.step.specs.Answers.{served_with, question, response}
use Rattle.step.specs.World.{World, Guest, Call, Place, SetRequestedSize, Request, HostAnswer, ReadConfig, WriteConfig, Outcome}
use Rattle.step.specs.Step.{start, sizes, asks_create, placing, step, request, serve, host_answer, tables_fit, region, usable, several, served, refused, cleared, covered_by, placed, device_of}
use Rattle.history.specs.History.{present}
use Rattle.history.specs.Rules.{is_place}
use Rattle.history.specs.Good.{InMemory}
use Rattle.history.proofs.Shaped.{clash, cleared_shaped}
use Rattle.history.proofs.Cases.{by_cond, Entered, on_ready, on_unplaced, on_pending, plug_cases, unplug_cases, unplug_all_cases, serve_cases, resized_cases, place_cases, size_cases, read_cases, write_cases}
use Rattle.standard.specs.Requests.{response_of, AsksFor, Hears, Awaits, OneAnswered, lent_by, status_of_pending, status_for}
use Rattle.standard.proofs.Requests.{one_standard, answered, heard}
use Rattle.standard.proofs.Memory.{asks_outside}

-- ---- a call that is no part of a request
-- a response, or a question for a discard
abbrev is_discard : Option HostCall → Bool
is_discard none = false
is_discard (some (CreateCall guest size slot)) = false
is_discard (some (DiscardCall offset size host)) = true

abbrev pub speaks : Answer → Bool
speaks a = present (response a) || is_discard (question a)

-- a config call lends a buffer, which is no guest memory
unfoldable pub is_config_call : Call → Bool
is_config_call (Place at size slots blocks rows) = false
is_config_call (SetRequestedSize mib) = false
is_config_call (Request guest descriptors head) = false
is_config_call (HostAnswer guest ok host) = false
is_config_call (ReadConfig offset buffer) = true
is_config_call (WriteConfig offset buffer) = true

-- a creation that is asked for begins at the end of the usable region or past it; and none is asked for
abbrev pub CreatesPast : World → Outcome → Type 0
CreatesPast w o = (guest : GuestAddr) (size slot : ℕ) → AsksFor o (CreateCall guest size slot) → start o.world + usable w ≤ guest.0

abbrev pub CreatesNothing : Outcome → Type 0
CreatesNothing o = (guest : GuestAddr) (size slot : ℕ) → AsksFor o (CreateCall guest size slot) → ⊥

pub record Quiet (w : World) (c : Call) (o : Outcome) : Type 0 where
  pub silent : speaks o.answer ≡ false
  pub same_bytes : is_config_call c ≡ false → o.bytes ≡ (lent_by c).mem
  pub keeps_status : (call : HostCall) → AsksFor o call → status_of_pending o.world.device.pending ≡ status_for w c
  pub creates_outside : InMemory w → CreatesPast w o
  -- but for a placing of a device that is not placed
  pub same_blocks : (is_place c ≡ true → w.device.placed ≡ true) → o.world.blocks ≡ w.blocks

-- ---- a call that may end a request, whose response goes to the address `status`
pub data Says (g : Guest) (status : ℕ) (o : Outcome) : Type 0 where
  Responded : (v : Verdict) → o.answer ≡ served_with v (cond (reaches g.mem g.base status) 10 0) → o.bytes ≡ delivered g.mem g.base status v.response → Says g status o
  Silent : response_of o.answer ≡ none → o.bytes ≡ g.mem → Says g status o

pub record Leaf (w : World) (g : Guest) (status : ℕ) (o : Outcome) : Type 0 where
  pub says : Says g status o
  pub keeps_status : (call : HostCall) → AsksFor o call → status_of_pending o.world.device.pending ≡ some status
  pub no_creation : CreatesNothing o

module _ (w : World) (g : Guest) (status : ℕ) where
  leaf_served : (v : Verdict) (w' : World) → Leaf w g status (served v status w' g)
  leaf_served v w' =
      record { says = Responded v refl refl; keeps_status = λ call e. let z : ◌≡◌ {A = ℕ} 0 1 = cc in absurd (omega arith); no_creation = λ guest size slot e. let z : ◌≡◌ {A = ℕ} 0 1 = cc in omega arith }

  leaf_silent : (o : Outcome) → response_of o.answer ≡ none → o.bytes ≡ g.mem → ((call : HostCall) → AsksFor o call → status_of_pending o.world.device.pending ≡ some status)
      → CreatesNothing o → Leaf w g status o
  leaf_silent o n hush k never = record { says = Silent n hush; keeps_status = k; no_creation = never }

  module _ (shaped : Parts w.device) where
    leaf_serve : (req : VirtioMemReq) → Leaf w g status (serve w req status g)
    unfolding response status_of_pending
    leaf_serve req =
        let P = Leaf w g status in
        serve_cases P w req status g
        (λ _. plug_cases P w shaped status g req.addr.0 req.nb_blocks (λ _ _ _ _. leaf_served _ _) (λ _. leaf_served _ _) (leaf_served _ _))
        (λ _ _. unplug_cases P w shaped status g req.addr.0 req.nb_blocks
        (λ _ _ _ _ _ _. leaf_silent _ refl refl (λ _ _. refl) (λ _ _ _ e. let z : ◌≡◌ {A = ℕ} 0 1 = cc in omega arith))
        (λ _ _ _ _. leaf_silent _ refl refl (λ call e. let z : ◌≡◌ {A = ℕ} 0 1 = cc in absurd (omega arith)) (λ _ _ _ e. let z : ◌≡◌ {A = ℕ} 0 1 = cc in omega arith))
        (λ _. leaf_served _ _))
        (λ _ _ _. unplug_all_cases P w shaped status g 0
        (λ _. leaf_served _ _)
        (λ _ _ _ _ _. leaf_silent _ refl refl (λ _ _. refl) (λ _ _ _ e. let z : ◌≡◌ {A = ℕ} 0 1 = cc in omega arith))
        (λ _. leaf_served _ _))
        (λ _ _ _. leaf_served _ _)
        (leaf_silent _ refl refl (λ call e. let z : ◌≡◌ {A = ℕ} 0 1 = cc in absurd (omega arith)) (λ _ _ _ e. let z : ◌≡◌ {A = ℕ} 0 1 = cc in omega arith))

pub leaf_unplug : (w : World) (g : Guest) (first count : ℕ) (status : GuestAddr) (ok : Bool) (host : ℕ) → Leaf w g status.0 (host_answer (Discard first count status) w g ok host)
unfolding host_answer
leaf_unplug w g first count status true host = leaf_served w g status.0 _ _
leaf_unplug w g first count status false host = leaf_served w g status.0 _ _

leaf_one : (w : World) (g : Guest) → Parts w.device → (j : ℕ) (status : GuestAddr) (ok : Bool) (host : ℕ) → Leaf w g status.0 (host_answer (DiscardOne j status) w g ok host)
unfolding host_answer response status_of_pending
leaf_one w g shaped j status true host =
    unplug_all_cases (Leaf w g status.0) (cleared w j) (cleared_shaped w j shaped) status.0 g (j + 1)
    (λ _. leaf_served w g status.0 _ _)
    (λ _ _ _ _ _. leaf_silent w g status.0 _ refl refl (λ _ _. refl) (λ _ _ _ e. let z : ◌≡◌ {A = ℕ} 0 1 = cc in omega arith))
    (λ _. leaf_served w g status.0 _ _)
leaf_one w g shaped j status false host = leaf_served w g status.0 _ _

-- ---- every call is one of these
pub record Ways (w : World) (K : Call → Outcome → Type 0) : Type 0 where
  pub quiet : (c : Call) (o : Outcome) → Quiet w c o → K c o
  pub hears : (g : Guest) (descriptors head : ℕ) (req : VirtioMemReq) (status : GuestAddr) → Hears w g descriptors head req status → Leaf w g status.0 (step w (Request g descriptors head))
      → K (Request g descriptors head) (step w (Request g descriptors head))
  pub unplug_ends : (first count : ℕ) (status : GuestAddr) → Awaits w (Discard first count status) → (g : Guest) (ok : Bool) (host : ℕ)
      → K (HostAnswer g ok host) (host_answer (Discard first count status) w g ok host)
  pub one_ends : (j : ℕ) (status : GuestAddr) → Awaits w (DiscardOne j status) → (g : Guest) (ok : Bool) (host : ℕ) (o : Outcome) → OneAnswered w j ok o → Leaf w g status.0 o
      → K (HostAnswer g ok host) o

-- the tables fit where a call is not refused
fitting : (w : World) (quiet : Bool) → Entered w.device (length w.blocks) (length w.rows) quiet → tables_fit w.device (length w.blocks) (length w.rows) ≡ true
unfolding tables_fit
fitting w quiet e = rw (le-leb _ _ e.is_long, le-leb _ _ e.has_rows)

module _ (w : World) (K : Call → Outcome → Type 0) (k : Ways w K) where
  -- nothing is asked of the host
  hush : (c : Call) (o : Outcome) → speaks o.answer ≡ false → (is_config_call c ≡ false → o.bytes ≡ (lent_by c).mem) → ((call : HostCall) → AsksFor o call → ⊥)
      → ((is_place c ≡ true → w.device.placed ≡ true) → o.world.blocks ≡ w.blocks) → K c o
  hush c o mute bytes never blocks =
      k.quiet c o
      (record {
        silent = mute;
        same_bytes = bytes;
        keeps_status = λ call e. absurd (never call e);
        creates_outside = λ _ guest size slot e. absurd (never _ e);
        same_blocks = blocks;
      })

  -- and nothing happens
  idle : (c : Call) (o : Outcome) → o.world ≡ w → speaks o.answer ≡ false → (is_config_call c ≡ false → o.bytes ≡ (lent_by c).mem) → ((call : HostCall) → AsksFor o call → ⊥) → K c o
  idle c o same mute bytes never = hush c o mute bytes never (λ _. rw same)

  refusal : (c : Call) (r : Refusal) (bytes : List ℕ) → (is_config_call c ≡ false → bytes ≡ (lent_by c).mem) → K c (refused r w bytes)
  unfolding response question
  refusal c r bytes same = idle c _ refl refl same (λ call e. let z : ◌≡◌ {A = ℕ} 0 1 = cc in omega arith)

  -- the usable size is worked out in the world w₁, or a creation is asked for there
  sizing : (c : Call) (w₁ : World) → (lent_by c).mem ≡ [] → ((is_place c ≡ true → w.device.placed ≡ true) → w₁.blocks ≡ w.blocks) → K c (sizes w₁)
  unfolding response question
  sizing c w₁ lends blocks = hush c (sizes w₁) refl (λ _. rw lends) (λ call e. let z : ◌≡◌ {A = ℕ} 0 1 = cc in omega arith) blocks

  creating : (c : Call) (w₁ : World) (i last size : ℕ) → (lent_by c).mem ≡ [] → status_for w c ≡ none → (InMemory w → usable w ≤ i * map_region)
      → ((is_place c ≡ true → w.device.placed ≡ true) → w₁.blocks ≡ w.blocks) → K c (asks_create w₁ i last size)
  unfolding response question status_of_pending
  creating c w₁ i last size lends nowhere past blocks =
      k.quiet c (asks_create w₁ i last size)
      (record {
        silent = refl;
        same_bytes = λ _. rw lends;
        keeps_status = λ _ _. rw nowhere;
        creates_outside = λ m guest bytes slot e. let at : record { 0 = start w₁ + i * map_region } ≡ guest = cc in rw (← at) (omega (arith, past m));
        same_blocks = blocks;
      })

  by_pending : (g : Guest) (ok : Bool) (host : ℕ) (p : Pending) → w.device.pending ≡ p → Entered w.device (length w.blocks) (length w.rows) false → K (HostAnswer g ok host) (host_answer p w g ok host)
  unfolding host_answer response question lent_by is_config_call
  by_pending g ok host Nothing q e = refusal (HostAnswer g ok host) NothingPending g.mem (λ _. refl)
  by_pending g true host (Create i last) q e =
      by_cond (K (HostAnswer g true host)) (ltb top (host + covered_by w i last)) _ _ (λ _. refusal (HostAnswer g true host) HostPastTop g.mem (λ _. refl))
      (λ _. hush (HostAnswer g true host) _ refl (λ _. refl) (λ call f. let z : ◌≡◌ {A = ℕ} 0 1 = cc in omega arith) (λ _. refl))
  by_pending g false host (Create i last) q e =
      hush (HostAnswer g false host) _ refl (λ _. refl) (λ call f. let z : ◌≡◌ {A = ℕ} 0 1 = cc in omega arith) (λ _. refl)
  by_pending g ok host (Discard first count status) q e =
      k.unplug_ends first count status (record { shaped = shaped-when w.device e.is_shaped; waits = q; fits = fitting w false e }) g ok host
  by_pending g ok host (DiscardOne j status) q e =
      let a : Awaits w (DiscardOne j status) = record { shaped = shaped-when w.device e.is_shaped; waits = q; fits = fitting w false e } in
      k.one_ends j status a g ok host _ (rw (answered w (DiscardOne j status) a refl g ok host) at (one_standard w j status a g ok host)) (leaf_one w g e.is_shaped j status ok host)

  by_chain : (g : Guest) (descriptors head : ℕ) (p : Result Asked NoRequest) → parsed g.mem g.base descriptors head ≡ p → w.device.placed ≡ true → Entered w.device (length w.blocks) (length w.rows) true
      → K (Request g descriptors head) (request p w g)
  unfolding request response question lent_by is_config_call
  by_chain g descriptors head (Err reason) q p e = idle (Request g descriptors head) _ refl refl (λ _. refl) (λ call f. let z : ◌≡◌ {A = ℕ} 0 1 = cc in omega arith)
  by_chain g descriptors head (Ok asked) q p e =
      let req = asked.request in
      let status = asked.status in
      let h : Hears w g descriptors head req status = record { shaped = shaped-when w.device e.is_shaped; pending_is_idle = e.pending_is_idle; is_placed = p; fits = fitting w true e; reads = q } in
      let is = heard w g descriptors head req status h in
      rw is at (k.hears g descriptors head req status h (rw is (leaf_serve w g status.0 e.is_shaped req)))

  pub each_way : (c : Call) → K c (step w c)
  unfolding step placing response question lent_by is_config_call status_of_pending status_for is_place
  each_way (Place at size slots bs rows) =
      let P = K (Place at size slots bs rows) in
      on_unplaced P w [] _ (λ r _ _. refusal (Place at size slots bs rows) r [] (λ _. refl)) (length bs) (length rows)
      (λ p e. place_cases P w at size slots bs rows (refusal _ WrongRange [] (λ _. refl)) (refusal _ WrongStart [] (λ _. refl))
      (λ _ _.
      let c = Place at size slots bs rows in
      let w₁ = placed w at slots bs rows in
      let none-usable : (i : ℕ) → InMemory w → usable w ≤ i * map_region = λ i m. let none = m.early p in omega arith in
      by_cond P (several w) _ _
      (λ _. resized_cases P w₁ (sizing c w₁ refl (λ h. clash (h refl) p)) (λ i last n _. creating c w₁ i last n refl refl (none-usable i) (λ h. clash (h refl) p)))
      (λ _. creating c w₁ 0 0 (region w) refl refl (none-usable 0) (λ h. clash (h refl) p))))
  each_way (SetRequestedSize mib) =
      let c = SetRequestedSize mib in
      let P = K c in
      on_ready P w [] _ (λ r _ _. refusal c r [] (λ _. refl)) (length w.blocks) (length w.rows)
      (λ _ e. size_cases P w mib (refusal _ WrongSize [] (λ _. refl))
      (λ _ _.
      let w₁ = device_of (requested_to (mib * 1048576) w.device) w in
      resized_cases P w₁ (sizing c w₁ refl (λ _. refl))
      (λ i last n x. creating c w₁ i last n refl refl (λ m. asks_outside w₁ i last n m.below (facts-of w.device (shaped-when w.device e.is_shaped)).rows_some x) (λ _. refl))))
  each_way (Request g descriptors head) =
      on_ready (K (Request g descriptors head)) w g.mem _ (λ r _ _. refusal (Request g descriptors head) r g.mem (λ _. refl)) (length w.blocks) (length w.rows)
      (λ p e. by_chain g descriptors head (parsed g.mem g.base descriptors head) refl p e)
  each_way (HostAnswer g ok host) =
      on_pending (K (HostAnswer g ok host)) w g.mem _ (λ r _ _. refusal (HostAnswer g ok host) r g.mem (λ _. refl)) (length w.blocks) (length w.rows)
      (λ e. by_pending g ok host w.device.pending refl e)
  each_way (ReadConfig offset buffer) =
      read_cases (K (ReadConfig offset buffer)) w offset buffer (λ _. refusal (ReadConfig offset buffer) NoShape buffer (λ f. clash refl f))
      (idle (ReadConfig offset buffer) _ refl refl (λ f. clash refl f) (λ call f. let z : ◌≡◌ {A = ℕ} 0 1 = cc in omega arith))
  each_way (WriteConfig offset buffer) =
      write_cases (K (WriteConfig offset buffer)) w buffer (λ _. refusal (WriteConfig offset buffer) NoShape buffer (λ f. clash refl f))
      (idle (WriteConfig offset buffer) _ refl refl (λ f. clash refl f) (λ call f. let z : ◌≡◌ {A = ℕ} 0 1 = cc in omega arith))
