-- SPDX-License-Identifier: Apache-2.0 AND BSD-3-Clause
-- A run of the exported functions, as a program that links the library makes it: the arguments of each call, what it was lent, what it left there, and the number that it returned.
use Prim.{Unit}
use Rattle.std.specs.Prelude.{ℕ, ◌≤◌, ◌≡◌, Bool, true, false, not, ◌||◌, List, [], ◌∷◌, eqb, Some, Ok, Result}
use Rattle.bitmap.specs.Blocks.{blocks}
use Rattle.rows.specs.Rows.{rows_of}
use Rattle.little_endian.specs.Bytes.{put}
use Rattle.refusal.specs.declared.Refusal.{Refusal}
use Rattle.record.specs.declared.Device.{Device}
use Rattle.record.specs.Shape.{is_idle}
use Rattle.step.specs.World.{World, Call, world_of}
use Rattle.step.specs.Step.{step}
use Rattle.step.specs.Promise.{Lent, place_on, resize_on, request_on, answer_on, read_on, write_on}
use Rattle.making.specs.Made.{made}
use Rattle.words.specs.Record.{record_of, decoded_of}
use Rattle.step.specs.Answers.{answer_words, number_of}
use Rattle.jambcopper.specs.Exports.{node_of, MadeIn, Handed, Exported}
use Rattle.history.specs.History.{Story, after, begun, Demand3}

-- ---- one call
-- the exported function, and its arguments that are no lent slices of a device
pub data Function : Type 0 where
  jambcopper_place : (start size : ℕ) (slots : List ℕ) → Function
  jambcopper_set_requested_size : (mib : ℕ) → Function
  jambcopper_request : (base descriptors head : ℕ) → Function
  jambcopper_host_answer : (base : ℕ) (ok : Bool) (host : ℕ) → Function
  jambcopper_read_config : (offset : ℕ) → Function
  jambcopper_write_config : (offset : ℕ) → Function

-- the call with all that a program sees of it: what stands in the lent slices before and after it, and its number
pub record Use : Type 0 where
  pub function : Function
  pub before : Handed
  pub after : Handed
  pub number : ℕ

-- the call of the definition, of what is lent; placing brings the tables that it is lent
unfoldable pub call_by : Function → Lent → Call
call_by (jambcopper_place start size slots) = place_on start size slots
call_by (jambcopper_set_requested_size mib) = resize_on mib
call_by (jambcopper_request base descriptors head) = request_on base descriptors head
call_by (jambcopper_host_answer base ok host) = answer_on base ok host
call_by (jambcopper_read_config offset) = read_on offset
call_by (jambcopper_write_config offset) = write_on offset

abbrev pub call_of : Use → Call
call_of u = call_by u.function u.before.slices

-- what every export promises: on the record that the words mean, and on what it is lent, the definition's step
abbrev pub Promised : Use → Type 0
Promised u = Exported (call_by u.function) u.before u.after u.number

-- ---- what a program holds between two calls: the record's words, the bitmap and the map table
pub record Held : Type 0 where
  pub words : List ℕ
  pub bitmap : List ℕ
  pub table : List ℕ

-- the tables are in use: the record says that the device is placed, or that it waits for the host
unfoldable pub in_use : Held → Bool
in_use h = (record_of h.words).placed || not (is_idle (record_of h.words).pending)

-- a size change, a request and a host answer work on the tables; placing brings its own, and the config's calls are lent none
unfoldable pub on_tables : Function → Bool
on_tables (jambcopper_place start size slots) = false
on_tables (jambcopper_set_requested_size mib) = true
on_tables (jambcopper_request base descriptors head) = true
on_tables (jambcopper_host_answer base ok host) = true
on_tables (jambcopper_read_config offset) = false
on_tables (jambcopper_write_config offset) = false

-- the call is lent what is held: always the record, and the tables while they are in use. Before placing, and after a placing that failed (10), any tables may be lent. Guest memory, buffers, answer slices and all other arguments are free
pub record Lends (h : Held) (u : Use) : Type 0 where
  pub same_words : u.before.words ≡ h.words
  pub same_bitmap : on_tables u.function ≡ true → in_use h ≡ true → u.before.slices.bitmap ≡ h.bitmap
  pub same_table : on_tables u.function ≡ true → in_use h ≡ true → u.before.slices.table ≡ h.table

-- whether the tables that the call leaves are those to hold now: those of a placing that has returned 0, and of each call on tables in use
unfoldable pub new_tables : Function → (used : Bool) (number : ℕ) → Bool
new_tables (jambcopper_place start size slots) used number = eqb number 0
new_tables (jambcopper_set_requested_size mib) used number = used
new_tables (jambcopper_request base descriptors head) used number = used
new_tables (jambcopper_host_answer base ok host) used number = used
new_tables (jambcopper_read_config offset) used number = false
new_tables (jambcopper_write_config offset) used number = false

unfoldable pub holding : Bool → Held → (after : Handed) → Held
holding true h after = record { words = after.words; bitmap = after.slices.bitmap; table = after.slices.table }
holding false h after = record { words = after.words; bitmap = h.bitmap; table = h.table }

abbrev pub leaves : Held → Use → Held
leaves h u = holding (new_tables u.function (in_use h) u.number) h u.after

-- ---- a run
pub record One (h : Held) (u : Use) : Type 0 where
  pub lends : Lends h u
  pub promised : Promised u

-- each call is lent what the calls before it have left, and keeps its promise
unfoldable pub Run : Held → List Use → Type 0
Run h [] = Unit {0}
Run h (u ∷ us) = One h u × Run (leaves h u) us

unfoldable pub held_after : Held → List Use → Held
held_after h [] = h
held_after h (u ∷ us) = held_after (leaves h u) us

unfoldable pub calls_of : List Use → List Call
calls_of [] = []
calls_of (u ∷ us) = call_of u ∷ calls_of us

-- ---- how it begins
-- the arguments of jambcopper_make
pub record Making : Type 0 where
  pub words : List ℕ
  pub capacity : ℕ
  pub requested : ℕ
  pub several : Bool
  pub given : Bool
  pub node : ℕ
  pub boot : ℕ

abbrev pub made_by : Making → Result Device Refusal
made_by m = made m.capacity m.requested m.several (node_of m.given m.node) m.boot

-- it has returned 0 and left words'; a node has 16 bits, as its type says
pub record Makes (m : Making) (words' : List ℕ) : Type 0 where
  pub promised : MadeIn m.words (made_by m) 0 words'
  pub node_fits : m.node ≤ 65535

-- what is held then: the words, and no tables yet
abbrev pub first : (words : List ℕ) → Held
first words = record { words = words; bitmap = []; table = [] }

-- ---- what is said of a run
-- what is held means this world: the words its record, the bitmap its blocks, the table its rows
pub record Means (h : Held) (w : World) : Type 0 where
  pub decodes : decoded_of h.words ≡ Some w.device
  pub marked : blocks h.bitmap ≡ w.blocks
  pub mapped : rows_of h.table ≡ w.rows

-- the world that is held: the record that the words mean, the blocks of the bitmap, the rows of the table
abbrev pub in_hand : Held → World
in_hand h = world_of (record_of h.words) h.bitmap h.table

-- a call on what is held is the definition's step of the world that is held: it tells the step's answer, by its number and by the answer's words; it leaves the step's bytes in guest memory or in a config buffer; and the world that is held then is the step's
pub record UseSteps (h : Held) (u : Use) : Type 0 where
  pub numbered : u.number ≡ number_of (step (in_hand h) (call_of u)).answer
  pub told : u.after.answer ≡ put u.before.answer 0 (answer_words (step (in_hand h) (call_of u)).answer)
  pub left : u.after.slices.bytes ≡ (step (in_hand h) (call_of u)).bytes
  pub goes_on : in_hand (leaves h u) ≡ (step (in_hand h) (call_of u)).world

-- over any run of the exported functions from what is held, h, where a run of the definition stands at s
pub record Follows (h : Held) (s : Story) : Type 0 where
  -- what is held means the world that the definition's run of the same calls leads to
  pub means : (us : List Use) → Run h us → Means (held_after h us) (after s (calls_of us)).world
  -- and any further call is its next step
  pub steps : (us : List Use) → Run h us → (u : Use) → One (held_after h us) u → UseSteps (held_after h us) u
  -- demand 3 holds of the world that is held, and of the events of the definition's run
  pub demand_3 : (us : List Use) → Run h us → Demand3 (in_hand (held_after h us)) (after s (calls_of us)).events

-- the theorem: a device was made, and over any run from then on
pub record Linked (m : Making) (words' : List ℕ) : Type 0 where
  pub device : Device
  pub is_made : made_by m ≡ Ok device
  pub follows : Follows (first words') (begun device)
