-- SPDX-License-Identifier: Apache-2.0 AND BSD-3-Clause
-- A run of a trace, line by line (R12): the first line makes the device and places it, and each later one is an op on it.
use Rattle.std.specs.Prelude.{ℕ, zero, suc, ◌≤◌, List, [], ◌∷◌, ◌++◌, ◌≡◌, Option, Some, None, Result, Ok, Err}
use Rattle.units.specs.Numbers.{map_regions}
use Rattle.record.specs.declared.Device.{Device}
use Rattle.step.specs.declared.Answer.{Answer}
use Rattle.step.specs.declared.Answer.TheVariants.{Refused, Wants, Sized, Unserved, Served, Done}
use Rattle.step.specs.World.{World, Call, Place, Outcome}
use Rattle.step.specs.Step.{step}
use Rattle.step.specs.Promise.{Lent, Meant, meant, Leaves}
use Rattle.refusal.specs.declared.Refusal.{Refusal}
use Rattle.refusal.specs.declared.Refusal.TheVariants.{BadLine}
use Rattle.refusal.specs.Refusal.{number}
use Rattle.making.specs.Made.{made}
use Rattle.text.specs.Putting.{Put}
use Rattle.trace_text.specs.declared.FirstLine.{FirstLine}
use Rattle.trace_text.specs.declared.Op.{Op}
use Rattle.trace_text.specs.declared.Line.{Line}
use Rattle.trace_text.specs.declared.Line.TheVariants.{First, Later}
use Rattle.answer_text.specs.Texts.{refusal_text}
use Rattle.trace_text.specs.Lines.{Reads}
use Rattle.trace_run.specs.Ops.{op_call, bytes_after, answer_text}
use Rattle.trace_run.specs.declared.Run.{Run}
use Rattle.trace_run.specs.declared.Run.TheVariants.{Before, On, Ended}
use Rattle.trace_run.specs.declared.Shown.{Shown}

-- the world of a device on what slices mean
abbrev pub world_on : Device → Meant → World
world_on d m = record { device = d; blocks = m.blocks; rows = m.rows }

-- what a line comes to: where the run stands then, the answer, what is left in the lent slices, and what is printed
pub record Turn : Type 0 where
  pub run : Run
  pub answer : Answer
  pub left : Meant
  pub printed : List ℕ

-- a text as a line of output
abbrev pub as_line : List ℕ → List ℕ
as_line text = text ++ 10 ∷ []

-- R12.6: a refusal; here of a line that comes to no call, so nothing that is lent changes
abbrev pub refused_as : Run → Refusal → Meant → Turn
refused_as run refusal m = record { run = run; answer = Refused (number refusal); left = m; printed = as_line (refusal_text (number refusal)) }

-- a call of the device prints its answer
abbrev pub answered_as : Run → Outcome → List ℕ → Turn
answered_as run o mem =
    record {
      run = run;
      answer = o.answer;
      left = record { blocks = o.world.blocks; rows = o.world.rows; bytes = mem };
      printed = as_line (answer_text o.answer o.world.device mem);
    }

-- ---- the first line

-- R12.7
unfoldable pub counted_from : (slot count : ℕ) → List ℕ
counted_from slot zero = []
counted_from slot (suc count) = slot ∷ counted_from (suc slot) count

-- the device is placed at `addr`, all of its region, with a slot for each map region
abbrev pub place_call : Device → FirstLine → Meant → Call
place_call d f m =
    let region = d.config.region_size in
    Place f.addr.0 region (counted_from f.slot (map_regions region d.several)) m.blocks m.rows

-- R12.8: a refusal in the first line ends the run
unfoldable pub placed_as : Answer → Device → Run
placed_as (Refused number) d = Ended
placed_as (Wants call) d = On d
placed_as Sized d = On d
placed_as (Unserved reason) d = On d
placed_as (Served reply) d = On d
placed_as Done d = On d

-- placing a device leaves guest memory as it is
abbrev pub placed_on : Outcome → List ℕ → Turn
placed_on o mem = answered_as (placed_as o.answer o.world.device) o mem

unfoldable pub begun_on : Result Device Refusal → FirstLine → Meant → Turn
begun_on (Err refusal) f m = refused_as Ended refusal m
begun_on (Ok d) f m = placed_on (step (world_on d m) (place_call d f m)) m.bytes

-- the first line makes the device, and places it
abbrev pub begun_by : FirstLine → Meant → Turn
begun_by f m = begun_on (made f.capacity_mib f.requested_mib f.multi f.node f.boot) f m

-- ---- every line

-- a later line is an op on the device, and the run goes on whatever its answer
abbrev pub gone_on : Device → Op → Meant → Turn
gone_on d op m =
    let o = step (world_on d m) (op_call op m.bytes) in
    answered_as (On o.world.device) o (bytes_after op m.bytes o)

-- R12.5: a line where another is due is a bad line. R12.8: a bad first line ends the run, and after a bad later one it goes on. Nothing comes of a line after the end, and its answer is no number, question or response
unfoldable pub turn : Run → Option Line → Meant → Turn
turn Before (Some (First f)) m = begun_by f m
turn Before (Some (Later op)) m = refused_as Ended BadLine m
turn Before None m = refused_as Ended BadLine m
turn (On d) (Some (First f)) m = refused_as (On d) BadLine m
turn (On d) (Some (Later op)) m = gone_on d op m
turn (On d) None m = refused_as (On d) BadLine m
turn Ended line m = record { run = Ended; answer = Done; left = m; printed = [] }

-- ---- what the code promises

-- a line of output is printed, and the run stands here after this answer
pub record Prints (run : Run) (answer : Answer) (text out : List ℕ) (r : Shown) (out' : List ℕ) : Type 0 where
  pub stands : r.run ≡ run
  pub said : r.answer ≡ answer
  pub printed : Put out 0 (as_line text) out' r.length

-- what a line comes to is given: where the run stands, the answer, what was lent, and what is printed
pub record Comes (t : Turn) (before after : Lent) (out out' : List ℕ) (r : Shown) : Type 0 where
  pub stands : r.run ≡ t.run
  pub said : r.answer ≡ t.answer
  pub leaves : Leaves t.left before after
  pub printed : Put out 0 t.printed out' r.length

abbrev pub ComesTo : (Meant → Turn) → (before after : Lent) (out out' : List ℕ) → Shown → Type 0
ComesTo turns before after out out' r = Comes (turns (meant before)) before after out out' r

-- the bytes s read as one line, and what that line comes to is given
pub record Serves (run : Run) (s : List ℕ) (before after : Lent) (out out' : List ℕ) (r : Shown) : Type 0 where
  pub line : Option Line
  pub reads : Reads s line
  pub comes : ComesTo (turn run line) before after out out' r

-- R12.4: the slots of a line that was read stay below 2^32
abbrev pub SlotFits : Option Line → Type 0
SlotFits (Some (First f)) = f.slot ≤ 4294966000
SlotFits (Some (Later op)) = Prim.Unit {0}
SlotFits None = Prim.Unit {0}
