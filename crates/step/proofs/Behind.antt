-- SPDX-License-Identifier: Apache-2.0 AND BSD-3-Clause
-- Request 2/12: no answer to a request hangs on what stands behind the table's end. A table with more rows, whatever they say, gives the same outcome.
use Rattle.std.specs.Prelude.{Option, Some, None, Ok, Err, Result}
use Prim.Native.Nat.{ℕ, ◌+◌}
use mathlib.Core.Path.{◌≡◌, refl}
use mathlib.Core.Bool.{Bool, true, false}
use mathlib.Core.List.{List, ◌++◌}
use native.Mathlib.Omega.{arith}
use lib.Dec.{ltb, eqb}
use lib.ListN.{length, length-append, get_or-append}
use Rattle.units.specs.Numbers.{bytes_of}
use Rattle.units.proofs.Tests.{by_test}
use Rattle.bitmap.specs.Blocks.{next_set}
use Rattle.wire.specs.declared.VirtioMemReq.{VirtioMemReq}
use Rattle.chain.specs.declared.Asked.{Asked}
use Rattle.chain.specs.declared.NoRequest.{NoRequest}
use Rattle.chain.specs.Chain.{parsed}
use Rattle.rows.specs.declared.MapRow.{MapRow}
use Rattle.record.specs.declared.Pending.{Pending}
use Rattle.record.specs.declared.Pending.TheVariants.{Nothing, Create, Discard, DiscardOne}
use Rattle.record.specs.Shape.{shaped_of}
use Rattle.change.specs.declared.Change.{Change}
use Rattle.change.specs.declared.Reason.{Reason}
use Rattle.change.specs.Change.{row_of}
use Rattle.change.proofs.Laws.{change_same}
use Rattle.step.specs.World.{World, Guest, Outcome, Request, HostAnswer}
use Rattle.step.specs.Step.{block_size, usable, plugged, requested, start, several, region_blocks, tables_fit, ready_refusal, pending_refusal, unless, changing, plug_as, plug, unplug_as, one_as, next_as, cleared, unplug_all, serve, request, host_answer, step}
use Rattle.step.proofs.Entry.{Ready, ready_is, ready_when, waits_is, waits_when, fits_longer}
use Rattle.step.proofs.InTable.{row_in_table, cleared_shaped, cleared_fits}

-- an unplug, or a block of an unplug-all
pub is_discard : Pending → Bool
is_discard Nothing = false
is_discard (Create first last) = false
is_discard (Discard first count status) = true
is_discard (DiscardOne block status) = true

-- the same world, its table with more rows
abbrev pub longer : List MapRow → World → World
longer more w = record { device = w.device; blocks = w.blocks; rows = w.rows ++ more }

abbrev pub longer_after : List MapRow → Outcome → Outcome
longer_after more o = record { world = longer more o.world; answer = o.answer; bytes = o.bytes }

module _ (w : World) (shape : shaped_of w.device ≡ true) (fit : tables_fit w.device (length w.blocks) (length w.rows) ≡ true) (more : List MapRow) (status : ℕ) (g : Guest) where
  same_change : (addr count : ℕ) (wanted : Bool) → changing (longer more w) addr count wanted ≡ changing w addr count wanted
  same_change addr count wanted =
      change_same (block_size w) (start w) (usable w) (several w) addr count wanted w.blocks w.blocks (w.rows ++ more) w.rows (λ o e. refl)
      (λ o e. get_or-append w.rows more _ (row_of (several w) o.0) (row_in_table w shape fit addr count o e))

  pub plug_behind : (addr count : ℕ) → plug (longer more w) addr count status g ≡ longer_after more (plug w addr count status g)
  unfolding plug plug_as
  plug_behind addr count =
      by_test (ltb (requested w) (plugged w + bytes_of (block_size w) count)) (λ t. rw t)
      (λ t. rw (t, same_change addr count true) (go (changing w addr count true)))
    where
      go : (c : Result Change Reason) → plug_as c (longer more w) count status g ≡ longer_after more (plug_as c w count status g)
      go (Ok change) = refl
      go (Err why) = refl

  pub unplug_behind : (addr count : ℕ) → unplug_as (changing (longer more w) addr count false) (longer more w) count status g ≡ longer_after more (unplug_as (changing w addr count false) w count status g)
  unfolding unplug_as
  unplug_behind addr count = rw (same_change addr count false) (go (changing w addr count false))
    where
      go : (c : Result Change Reason) → unplug_as c (longer more w) count status g ≡ longer_after more (unplug_as c w count status g)
      go (Ok change) = by_test (ltb (plugged w) (bytes_of (block_size w) count)) (λ t. rw t) (λ t. rw t)
      go (Err why) = refl

  -- from its first block on, and from each that follows
  pub unplug_all_behind : (from : ℕ) → unplug_all (longer more w) from status g ≡ longer_after more (unplug_all w from status g)
  unfolding next_as one_as
  unplug_all_behind from = next (next_set w.blocks from (region_blocks w))
    where
      go : (block : ℕ) (c : Result Change Reason) → one_as c (longer more w) block status g ≡ longer_after more (one_as c w block status g)
      go block (Ok change) = refl
      go block (Err why) = refl

      next : (f : Option ℕ) → next_as f (longer more w) status g ≡ longer_after more (next_as f w status g)
      next None = refl
      next (Some block) = rw (same_change (start w + bytes_of (block_size w) block) 1 false) (go block (changing w (start w + bytes_of (block_size w) block) 1 false))

  serve_behind : (req : VirtioMemReq) → serve (longer more w) req status g ≡ longer_after more (serve w req status g)
  unfolding serve
  serve_behind req =
      by_test (eqb req.req_type 0) (λ t. rw t (plug_behind req.addr.0 req.nb_blocks))
      (λ t. by_test (eqb req.req_type 1) (λ u. rw (t, u) (unplug_behind req.addr.0 req.nb_blocks))
      (λ u. by_test (eqb req.req_type 2) (λ v. rw (t, u, v) (unplug_all_behind 0))
      (λ v. by_test (eqb req.req_type 3) (λ x. rw (t, u, v, x)) (λ x. rw (t, u, v, x)))))

module _ (w : World) (more : List MapRow) (g : Guest) where
  abbrev blocks : ℕ
  blocks = length w.blocks

  more_fit : tables_fit w.device blocks (length w.rows) ≡ true → tables_fit w.device blocks (length (w.rows ++ more)) ≡ true
  more_fit = fits_longer w.device blocks (length w.rows) (length (w.rows ++ more)) (omega (arith, length-append w.rows more))

  -- a request that is not refused: a plug, an unplug, the first block of an unplug-all
  pub request_behind : ready_refusal w.device blocks (length w.rows) ≡ Ok tt → (table head : ℕ) → step (longer more w) (Request g table head) ≡ longer_after more (step w (Request g table head))
  unfolding step unless request
  request_behind ready table head =
      let r = ready_is w.device blocks (length w.rows) ready in
      let r' = ready_when w.device blocks (length (w.rows ++ more)) (record { shaped = r.shaped; idle = r.idle; is_placed = r.is_placed; fits = more_fit r.fits }) in
      rw (ready, r') (go r (parsed g.mem g.base table head))
    where
      go : Ready w.device blocks (length w.rows) → (p : Result Asked NoRequest) → request p (longer more w) g ≡ longer_after more (request p w g)
      go r (Err reason) = refl
      go r (Ok asked) = serve_behind w r.shaped r.fits more asked.status.0 g asked.request

  -- the host's answer to a discard that is not refused: the end of an unplug, and each block of an unplug-all that follows
  pub answer_behind : pending_refusal w.device blocks (length w.rows) ≡ Ok tt → is_discard w.device.pending ≡ true → (ok : Bool) (host : ℕ) → step (longer more w) (HostAnswer g ok host) ≡ longer_after more (step w (HostAnswer g ok host))
  unfolding step unless host_answer is_discard
  answer_behind pending discard ok host =
      let p = waits_is w.device blocks (length w.rows) pending in
      let p' = waits_when w.device blocks (length (w.rows ++ more)) (record { shaped = p.shaped; not_idle = p.not_idle; fits = more_fit p.fits }) in
      rw (pending, p') (go w.device.pending discard)
    where
      go : (q : Pending) → is_discard q ≡ true → host_answer q (longer more w) g ok host ≡ longer_after more (host_answer q w g ok host)
      go Nothing e = let z : ◌≡◌ {A = ℕ} 0 1 = cc in absurd (omega arith)
      go (Create first last) e = let z : ◌≡◌ {A = ℕ} 0 1 = cc in absurd (omega arith)
      go (Discard first count status) e = by_test ok (λ t. rw t) (λ t. rw t)
      go (DiscardOne block status) e =
          by_test ok
          (λ t. rw t (unplug_all_behind (cleared w block) (cleared_shaped w pending block) (cleared_fits w pending block) more status.0 g (block + 1)))
          (λ t. rw t)
