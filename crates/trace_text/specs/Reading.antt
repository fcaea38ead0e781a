-- SPDX-License-Identifier: Apache-2.0 AND BSD-3-Clause
-- What the private functions of `read_line` do, step by step; its own promise does not rest on it.
use Rattle.std.specs.Prelude.{ℕ, cond, ◌&&◌, List, [], ◌∷◌, leb, eqb, get_or, Option, Some, None}
use Rattle.std.specs.Option.{option_or}
use Rattle.text.specs.Words.{bytes}
use Rattle.forms.specs.Scanning.{Scan, numbers, scan_of, is_whole}
use Rattle.trace_text.specs.declared.Op.TheVariants.{Host, Range, UnplugAll, Size}
use Rattle.trace_text.specs.declared.RangeOp.TheVariants.{Plug, Unplug, State}
use Rattle.trace_text.specs.declared.Line.{Line}
use Rattle.trace_text.specs.declared.Line.TheVariants.{First, Later}
use Rattle.trace_text.specs.declared.Kind.{Kind}
use Rattle.trace_text.specs.declared.Kind.TheVariants as kind

-- the words of each kind, as the code has them: that they are those of specs/Lines.antt is proved
abbrev pub form_of : Kind → List ℕ
form_of kind.FirstNumbered = bytes "capacity_mib=# requested_mib=# multi=# node=# boot=# addr=# slot=#"
form_of kind.FirstNone = bytes "capacity_mib=# requested_mib=# multi=# node=none boot=# addr=# slot=#"
form_of kind.Host = bytes "op=host ok=# addr=#"
form_of (kind.Range Plug) = bytes "op=plug addr=# blocks=#"
form_of (kind.Range Unplug) = bytes "op=unplug addr=# blocks=#"
form_of (kind.Range State) = bytes "op=state addr=# blocks=#"
form_of kind.UnplugAll = bytes "op=unplug_all"
form_of kind.Size = bytes "op=size mib=#"

-- the first line of these numbers, if they are in their ranges
abbrev pub first_line_of : (capacity requested multi : ℕ) (node : Option ℕ) (boot addr slot : ℕ) → Option Line
first_line_of capacity requested multi node boot addr slot =
    cond (leb multi 1 && leb slot 4294966000)
    (Some (First (record { capacity_mib = capacity; requested_mib = requested; multi = eqb multi 1; node = node; boot = boot; addr = record { 0 = addr }; slot = slot })))
    None

-- the line that the numbers of a kind make, if each is in its range
abbrev pub made_of : Kind → List ℕ → Option Line
made_of kind.FirstNumbered n =
    cond (leb (get_or n 3 0) 65535)
    (first_line_of (get_or n 0 0) (get_or n 1 0) (get_or n 2 0) (Some (get_or n 3 0)) (get_or n 4 0) (get_or n 5 0) (get_or n 6 0)) None
made_of kind.FirstNone n = first_line_of (get_or n 0 0) (get_or n 1 0) (get_or n 2 0) None (get_or n 3 0) (get_or n 4 0) (get_or n 5 0)
made_of kind.Host n = cond (leb (get_or n 0 0) 1) (Some (Later (Host (eqb (get_or n 0 0) 1) (record { 0 = get_or n 1 0 })))) None
made_of (kind.Range op) n = cond (leb (get_or n 1 0) 65535) (Some (Later (Range op (record { 0 = get_or n 0 0 }) (get_or n 1 0)))) None
made_of kind.UnplugAll n = Some (Later UnplugAll)
made_of kind.Size n = Some (Later (Size (get_or n 0 0)))

-- the line of a scan of the whole text
abbrev pub read_as : Kind → Scan → Option Line
read_as k scan = cond (is_whole 7 scan) (made_of k (numbers scan)) None

-- the line of a text that is to fill a kind's form
unfoldable pub kind_of : Kind → List ℕ → Option Line
kind_of k s = read_as k (scan_of (form_of k) s)

-- the first kind that the text is of
unfoldable pub any_of : List Kind → List ℕ → Option Line
any_of [] s = None
any_of (k ∷ ks) s = option_or (kind_of k s) (any_of ks s)

-- every kind, in the order in which they are tried: no text is of two
abbrev pub kinds : List Kind
kinds =
    kind.FirstNumbered ∷ kind.FirstNone ∷ kind.Host ∷ kind.Range Plug ∷ kind.Range Unplug ∷ kind.Range State ∷ kind.UnplugAll ∷ kind.Size ∷ []
