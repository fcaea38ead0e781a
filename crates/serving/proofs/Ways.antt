-- SPDX-License-Identifier: Apache-2.0 AND BSD-3-Clause
-- What the ways through a request come to: each lemma takes what the code knows on a way and shows the leaf of `Step.antt` there.
use Rattle.change.specs.Why.{why}
use Rattle.refusal.specs.Refusal.{number}
use Rattle.std.specs.Prelude.{Option, Some, None, Ok, Err, Result}
use Prim.Native.Nat.{ℕ, suc, ◌+◌, ◌≤◌, ◌<◌}
use mathlib.Core.Path.{◌≡◌, refl, sym, ap, ◌∙◌}
use mathlib.Core.Bool.{Bool, true, false, cond}
use mathlib.Core.List.{List, []}
use native.Mathlib.Omega.{arith}
use lib.Dec.{leb, ltb}
use borrow.Author.Tests.{lt-ltb, le-ltb, lt-leb, le-leb, leb-true, leb-false, ne_eqb}
use Rattle.units.specs.Numbers.{top, bytes_of, blocks_in}
use Rattle.units.specs.declared.RegionOffset.{RegionOffset}
use Rattle.units.specs.declared.HostAddr.{HostAddr}
use Rattle.bitmap.specs.Blocks.{blocks, block_at, next_set, Filled}
use Rattle.bitmap.proofs.Laws.{next_at}
use Rattle.rows.specs.Rows.{rows_of}
use Rattle.rows.proofs.Words.{count}
use Rattle.change.specs.declared.Change.{Change}
use Rattle.change.specs.declared.Reason.{Reason}
use Rattle.change.specs.declared.Reason.TheVariants.{PastUsable}
use Rattle.refusal.specs.declared.Refusal.TheVariants.{NoShape}
use Rattle.chain.specs.declared.NoRequest.TheVariants.{UnknownType}
use Rattle.change.proofs.Laws.{one_plugged}
use Rattle.change.specs.Change.{host_of, legal_at, change_of}
use Rattle.wire.specs.declared.VirtioMemReq.{VirtioMemReq}
use Rattle.wire.specs.declared.RequestType.{RequestType}
use Rattle.wire.specs.declared.UnknownType.{UnknownType as NoType}
use Rattle.wire.specs.Types.{Types, type_number}
use Rattle.record.specs.declared.Device.{Device}
use Rattle.record.specs.declared.HostCall.TheVariants.{Discard as DiscardCall}
use Rattle.record.specs.declared.Pending.{Pending}
use Rattle.record.specs.declared.Pending.TheVariants.{Nothing, Discard, DiscardOne}
use Rattle.record.specs.Shape.{shaped_of}
use Rattle.record.specs.Changes.{plugged_to, pending_to}
use Rattle.record.proofs.Laws.{shaped_is}
use Rattle.step.specs.declared.Verdict.{Verdict}
use Rattle.step.specs.declared.Answered.{Answered}
use Rattle.step.specs.declared.Answer.TheVariants.{Refused, Wants}
use Rattle.step.specs.World.{World, Guest, world_of}
use Rattle.step.specs.Promise.{lent, Gives}
use Rattle.step.specs.Step.{served, unserved, serve, state_verdict, ack, nack, error, plug, plug_as, unplug, unplug_as, unplug_one, one_as, next_as, unplug_all, changing}
use Rattle.step.proofs.Giving.{Responded, serves, answers}

-- the host is asked for a discard, and the record waits for its answer
abbrev pub asked : Device → Pending → RegionOffset → (size : ℕ) → HostAddr → Answered
asked d pending offset size host =
    record { device = pending_to pending d; answer = Wants (DiscardCall offset size host) }

module _ (d : Device) (bitmap table : List ℕ) (shape : shaped_of d ≡ true) (addr count status : ℕ) (g : Guest) (s : Answered) (bytes : List ℕ)
    (size : ℕ) (size_is : size ≡ bytes_of d.config.block_size count) (within : Bool) (within-is : within ≡ leb (d.config.plugged_size + size) d.config.requested_size) where
  -- (a) failed
  pub plug_nacks : within ≡ false → Responded g status nack d s bytes → Gives (plug (world_of d bitmap table) addr count status g) (lent bitmap table g.mem) (lent bitmap table bytes) s
  unfolding plug
  plug_nacks t p =
      let h = leb-false (d.config.plugged_size + size) d.config.requested_size (sym within-is ∙ t) in
      let e : ltb d.config.requested_size (d.config.plugged_size + bytes_of d.config.block_size count) ≡ true = rw (← size_is) (lt-ltb d.config.requested_size (d.config.plugged_size + size) h) in
      rw e (serves g status (world_of d bitmap table) bitmap p refl refl)

  module _ (t : within ≡ true) (ch : Result Change Reason) (ch-is : ch ≡ change_of d.config.block_size d.config.addr.0 d.config.usable_region_size d.several addr count true (blocks bitmap) (rows_of table)) where
    asks : plug (world_of d bitmap table) addr count status g ≡ plug_as ch (world_of d bitmap table) count status g
    unfolding plug
    asks =
        let h = leb-true (d.config.plugged_size + size) d.config.requested_size (sym within-is ∙ t) in
        let e : ltb d.config.requested_size (d.config.plugged_size + bytes_of d.config.block_size count) ≡ false = rw (← size_is) (le-ltb d.config.requested_size (d.config.plugged_size + size) h) in
        rw (e, ← ch-is)

    pub plug_errs : (reason : Reason) → ch ≡ Err reason → Responded g status (error (why reason)) d s bytes → Gives (plug (world_of d bitmap table) addr count status g) (lent bitmap table g.mem) (lent bitmap table bytes) s
    unfolding plug_as
    plug_errs reason e p = rw (asks, e) (serves g status (world_of d bitmap table) bitmap p refl refl)

    pub plug_acks : (change : Change) → ch ≡ Ok change → (bitmap' : List ℕ) → Filled bitmap bitmap' change.first count true → (d' : Device) → d' ≡ plugged_to (d.config.plugged_size + size) d → Responded g status ack d' s bytes → Gives (plug (world_of d bitmap table) addr count status g) (lent bitmap table g.mem) (lent bitmap' table bytes) s
    unfolding plug_as
    plug_acks change legal bitmap' filled d' same p =
        rw (asks, legal) (serves g status _ bitmap' (rw (same, size_is) at p) filled.as_blocks refl)

module _ (d : Device) (bitmap table : List ℕ) (shape : shaped_of d ≡ true) (status : ℕ) (g : Guest) (s : Answered) where
  module _ (addr count : ℕ) (ch : Result Change Reason) (ch-is : ch ≡ change_of d.config.block_size d.config.addr.0 d.config.usable_region_size d.several addr count false (blocks bitmap) (rows_of table)) where
    same_change : changing (world_of d bitmap table) addr count false ≡ ch
    same_change = sym ch-is

    pub unplug_errs : {bytes : List ℕ} (reason : Reason) → ch ≡ Err reason → Responded g status (error (why reason)) d s bytes → Gives (unplug (world_of d bitmap table) addr count status g) (lent bitmap table g.mem) (lent bitmap table bytes) s
    unfolding unplug_as
    unplug_errs reason e p = rw (same_change, e) (serves g status (world_of d bitmap table) bitmap p refl refl)

    module _ (change : Change) (legal : ch ≡ Ok change) (size : ℕ) (size_is : size ≡ bytes_of d.config.block_size count) where
      -- larger than the plugged size
      pub unplug_refuses : d.config.plugged_size < size → s ≡ record { device = d; answer = Refused (number NoShape) } → Gives (unplug (world_of d bitmap table) addr count status g) (lent bitmap table g.mem) (lent bitmap table g.mem) s
      unfolding unplug_as
      unplug_refuses h e =
          let larger : ltb d.config.plugged_size (bytes_of d.config.block_size count) ≡ true = rw (← size_is) (lt-ltb d.config.plugged_size size h) in
          rw (same_change, legal, larger) (answers (world_of d bitmap table) (Refused (number NoShape)) e refl refl)

      pub unplug_asks : size ≤ d.config.plugged_size → s ≡ asked d (Discard change.first count (record { 0 = status })) change.offset size change.host → Gives (unplug (world_of d bitmap table) addr count status g) (lent bitmap table g.mem) (lent bitmap table g.mem) s
      unfolding unplug_as
      unplug_asks h e =
          let fits : ltb d.config.plugged_size (bytes_of d.config.block_size count) ≡ false = rw (← size_is) (le-ltb d.config.plugged_size size h) in
          rw (same_change, legal, fits) (answers _ _ (rw size_is at e) refl refl)

  -- one plugged block of an unplug-all: past the test of the usable size, (d) decides
  module _ (block : ℕ) (inside : block < blocks_in d.config.block_size d.config.region_size) (set : block_at (blocks bitmap) block ≡ true) where
    one_change : changing (world_of d bitmap table) (d.config.addr.0 + bytes_of d.config.block_size block) 1 false
        ≡ cond (leb d.config.usable_region_size (bytes_of d.config.block_size block)) (Err PastUsable)
        (legal_at d.config.block_size (bytes_of d.config.block_size block) (host_of d.several (rows_of table) (bytes_of d.config.block_size block) d.config.block_size))
    one_change =
        let h = shaped_is d shape in
        let e = h.block_size in
        let i : block < blocks_in 4194304 d.config.region_size = rw e at inside in
        let end : d.config.addr.0 + bytes_of 4194304 (suc block) ≤ top = omega (arith, h.start_region) in
        one_plugged d.config.block_size d.config.addr.0 d.config.usable_region_size d.several block (blocks bitmap) (rows_of table)
        (omega arith) (rw e h.start_blocks) (rw e h.usable_blocks_lem) (rw e end) (omega (arith, h.start_region, h.usable_in)) set

    pub one_past : {bytes : List ℕ} → d.config.usable_region_size ≤ bytes_of d.config.block_size block → Responded g status (error (why PastUsable)) (pending_to Nothing d) s bytes → Gives (unplug_one (world_of d bitmap table) block status g) (lent bitmap table g.mem) (lent bitmap table bytes) s
    unfolding one_as
    one_past k p =
        rw (one_change, le-leb d.config.usable_region_size (bytes_of d.config.block_size block) k) (serves g status _ bitmap p refl refl)

    module _ (usable : bytes_of d.config.block_size block < d.config.usable_region_size) (found : Result HostAddr Reason) (found-is : found ≡ host_of d.several (rows_of table) (bytes_of d.config.block_size block) d.config.block_size) where
      by_host : changing (world_of d bitmap table) (d.config.addr.0 + bytes_of d.config.block_size block) 1 false ≡ legal_at d.config.block_size (bytes_of d.config.block_size block) found
      by_host = rw (one_change, lt-leb d.config.usable_region_size (bytes_of d.config.block_size block) usable, ← found-is)

      pub one_errs : {bytes : List ℕ} (reason : Reason) → found ≡ Err reason → Responded g status (error (why reason)) (pending_to Nothing d) s bytes → Gives (unplug_one (world_of d bitmap table) block status g) (lent bitmap table g.mem) (lent bitmap table bytes) s
      unfolding one_as legal_at
      one_errs reason e p = rw (by_host, e) (serves g status _ bitmap p refl refl)

      pub one_asks : (host : HostAddr) → found ≡ Ok host → s ≡ asked d (DiscardOne block (record { 0 = status })) (record { 0 = bytes_of d.config.block_size block }) d.config.block_size host → Gives (unplug_one (world_of d bitmap table) block status g) (lent bitmap table g.mem) (lent bitmap table g.mem) s
      unfolding one_as legal_at
      one_asks host legal e =
          let same : d.config.block_size ≡ bytes_of d.config.block_size 1 = omega arith in
          rw (by_host, legal) (answers _ _ (e ∙ ap (λ n. asked d (DiscardOne block (record { 0 = status })) (record { 0 = bytes_of d.config.block_size block }) n host) same) refl refl)

  -- the next block of an unplug-all
  module _ (from last : ℕ) (last-is : last ≡ blocks_in d.config.block_size d.config.region_size) (found : Option ℕ) (found-is : found ≡ next_set (blocks bitmap) from last) where
    same_found : next_set (blocks bitmap) from (blocks_in d.config.block_size d.config.region_size) ≡ found
    same_found = rw (← last-is, ← found-is)

    pub all_ends : {bytes : List ℕ} → found ≡ None → (d' d'' : Device) → d' ≡ plugged_to 0 d → d'' ≡ pending_to Nothing d' → Responded g status ack d'' s bytes → Gives (unplug_all (world_of d bitmap table) from status g) (lent bitmap table g.mem) (lent bitmap table bytes) s
    unfolding next_as
    all_ends e d' d'' same same' p = rw (same_found, e) (serves g status _ bitmap (rw (same', same) at p) refl refl)

    pub all_goes_on : {bytes : List ℕ} (block : ℕ) → found ≡ Some block → Gives (unplug_one (world_of d bitmap table) block status g) (lent bitmap table g.mem) (lent bitmap table bytes) s → Gives (unplug_all (world_of d bitmap table) from status g) (lent bitmap table g.mem) (lent bitmap table bytes) s
    unfolding next_as
    all_goes_on block e m = rw (same_found, e) m

-- the block that an unplug-all finds is one of the region, and plugged
pub block_inside : (b region from last : ℕ) (bs : List Bool) {found : Option ℕ} (block : ℕ) → last ≡ blocks_in b region → found ≡ next_set bs from last → found ≡ Some block → block < blocks_in b region
block_inside b region from last bs block last-is found-is e = rw last-is at (next_at true bs from last block (sym found-is ∙ e)).before_end

-- and where it starts fits
pub block_fits : (d : Device) → shaped_of d ≡ true → (block : ℕ) → block < blocks_in d.config.block_size d.config.region_size → bytes_of d.config.block_size block ≤ top
block_fits d shape block inside =
    let h = shaped_is d shape in
    let i : block < blocks_in 4194304 d.config.region_size = rw h.block_size at inside in
    let fits : bytes_of 4194304 block ≤ top = omega (arith, h.region_top) in
    rw h.block_size fits

pub block_plugged : (bs : List Bool) (from last : ℕ) {found : Option ℕ} (block : ℕ) → found ≡ next_set bs from last → found ≡ Some block → block_at bs block ≡ true
block_plugged bs from last block found-is e = (next_at true bs from last block (sym found-is ∙ e)).found

-- ---- a request's type, by its number
pub typed : (n : ℕ) (r : Result RequestType NoType) (found : RequestType) {type : RequestType} → Types n r → r ≡ Ok found → found ≡ type → n ≡ type_number type
typed n r found t e f = sym (rw (e, f) at t)

pub untyped : (n : ℕ) (r : Result RequestType NoType) {unknown : NoType} → Types n r → r ≡ Err unknown → 3 < n
untyped n r t e = (rw e at t).1

module _ (w : World) (req : VirtioMemReq) (status : ℕ) (g : Guest) where
  pub serve-plug : req.req_type ≡ 0 → serve w req status g ≡ plug w req.addr.0 req.nb_blocks status g
  unfolding serve
  serve-plug e = rw e

  pub serve-unplug : req.req_type ≡ 1 → serve w req status g ≡ unplug w req.addr.0 req.nb_blocks status g
  unfolding serve
  serve-unplug e = rw e

  pub serve-unplug_all : req.req_type ≡ 2 → serve w req status g ≡ unplug_all w 0 status g
  unfolding serve
  serve-unplug_all e = rw e

  pub serve_state : req.req_type ≡ 3 → serve w req status g ≡ served (state_verdict w req.addr.0 req.nb_blocks) status w g
  unfolding serve
  serve_state e = rw e

  pub serve_unknown : (req.req_type ≡ 0 → ⊥) → (req.req_type ≡ 1 → ⊥) → (req.req_type ≡ 2 → ⊥) → (req.req_type ≡ 3 → ⊥) → serve w req status g ≡ unserved UnknownType w g
  unfolding serve
  serve_unknown e0 e1 e2 e3 =
      rw (ne_eqb req.req_type 0 e0, ne_eqb req.req_type 1 e1, ne_eqb req.req_type 2 e2, ne_eqb req.req_type 3 e3)

pub states : {bytes : List ℕ} (d : Device) (bitmap table : List ℕ) (req : VirtioMemReq) (status : ℕ) (g : Guest) (s : Answered) → req.req_type ≡ 3 → (v : Verdict) → v ≡ state_verdict (world_of d bitmap []) req.addr.0 req.nb_blocks → Responded g status v d s bytes → Gives (serve (world_of d bitmap table) req status g) (lent bitmap table g.mem) (lent bitmap table bytes) s
states d bitmap table req status g s t v e p =
    rw (serve_state (world_of d bitmap table) req status g t) (serves g status (world_of d bitmap table) bitmap (rw e at p) refl refl)
