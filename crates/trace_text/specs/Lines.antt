-- SPDX-License-Identifier: Apache-2.0 AND BSD-3-Clause
-- The lines of a trace (R12), each defined by its text: a form in which # stands for a number.
use Rattle.std.specs.Prelude.{ℕ, ◌≤◌, ◌≡◌, Bool, true, false, List, [], ◌∷◌, length, Option, Some, None, IfSome}
use Rattle.text.specs.Words.{bytes}
use Rattle.text.specs.Decimal.{largest}
use Rattle.forms.specs.Forms.{filled}
use Rattle.trace_text.specs.declared.FirstLine.{FirstLine}
use Rattle.trace_text.specs.declared.Op.{Op}
use Rattle.trace_text.specs.declared.Op.TheVariants.{Host, Range, UnplugAll, Size}
use Rattle.trace_text.specs.declared.RangeOp.TheVariants.{Plug, Unplug, State}
use Rattle.trace_text.specs.declared.Line.{Line}
use Rattle.trace_text.specs.declared.Line.TheVariants.{First, Later}

-- ---- input

-- a flag is written 1 or 0
abbrev pub flag : Bool → ℕ
flag true = 1
flag false = 0

-- R12.2: the text of the first line, by its node: `none` or a number
abbrev pub first_text : Option ℕ → FirstLine → List ℕ
first_text (Some node) f = filled (bytes "capacity_mib=# requested_mib=# multi=# node=# boot=# addr=# slot=#") (f.capacity_mib ∷ f.requested_mib ∷ flag f.multi ∷ node ∷ f.boot ∷ f.addr.0 ∷ f.slot ∷ [])
first_text None f = filled (bytes "capacity_mib=# requested_mib=# multi=# node=none boot=# addr=# slot=#") (f.capacity_mib ∷ f.requested_mib ∷ flag f.multi ∷ f.boot ∷ f.addr.0 ∷ f.slot ∷ [])

-- R12.3: the text of a later line
abbrev pub op_text : Op → List ℕ
op_text (Host ok addr) = filled (bytes "op=host ok=# addr=#") (flag ok ∷ addr.0 ∷ [])
op_text (Range Plug addr blocks) = filled (bytes "op=plug addr=# blocks=#") (addr.0 ∷ blocks ∷ [])
op_text (Range Unplug addr blocks) = filled (bytes "op=unplug addr=# blocks=#") (addr.0 ∷ blocks ∷ [])
op_text (Range State addr blocks) = filled (bytes "op=state addr=# blocks=#") (addr.0 ∷ blocks ∷ [])
op_text UnplugAll = filled (bytes "op=unplug_all") []
op_text (Size mib) = filled (bytes "op=size mib=#") (mib ∷ [])

-- the text of a line
abbrev pub text_of : Line → List ℕ
text_of (First f) = first_text f.node f
text_of (Later op) = op_text op

-- a node has 16 bits
abbrev pub NodeInRange : Option ℕ → Type 0
NodeInRange None = Prim.Unit {0}
NodeInRange (Some node) = node ≤ 65535

-- R12.4: the numbers of the first line are in their ranges
pub record FirstInRange (f : FirstLine) : Type 0 where
  pub capacity : f.capacity_mib ≤ largest
  pub requested : f.requested_mib ≤ largest
  pub node : NodeInRange f.node
  pub boot : f.boot ≤ largest
  pub addr : f.addr.0 ≤ largest
  pub slot : f.slot ≤ 4294966000

-- R12.4: the numbers of a later line are in their ranges: 64 bits, and 16 for blocks
abbrev pub OpInRange : Op → Type 0
OpInRange (Host ok addr) = addr.0 ≤ largest
OpInRange (Range op addr blocks) = (addr.0 ≤ largest) × (blocks ≤ 65535)
OpInRange UnplugAll = Prim.Unit {0}
OpInRange (Size mib) = mib ≤ largest

-- a line whose numbers are in their ranges
abbrev pub InRange : Line → Type 0
InRange (First f) = FirstInRange f
InRange (Later op) = OpInRange op

-- R12.1: s is the text of a line, of at most 200 bytes
pub record Text (line : Line) (s : List ℕ) : Type 0 where
  pub range : InRange line
  pub text : text_of line ≡ s
  pub short : length s ≤ 200

-- R12.5, R1.13: r is what s reads as: the line whose text it is, if there is one, and only that; else none, a bad line
pub record Reads (s : List ℕ) (r : Option Line) : Type 0 where
  pub whole : (line : Line) → Text line s → r ≡ Some line
  pub only : IfSome r (λ line. Text line s)
