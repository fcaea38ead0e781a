-- SPDX-License-Identifier: Apache-2.0 AND BSD-3-Clause
-- A line of a trace, explained (R12.13): the line as it is shown, its answer, and its sentence.
use Rattle.std.specs.Prelude.{ℕ, false, cond, ◌&&◌, List, [], ◌∷◌, ◌++◌, leb, length, take, Option}
use Rattle.wire.specs.Layout.{new_config}
use Rattle.record.specs.declared.Device.{Device}
use Rattle.record.specs.declared.Pending.TheVariants.{Nothing}
use Rattle.step.specs.Promise.{Lent, meant}
use Rattle.text.specs.Words.{bytes}
use Rattle.text.specs.Putting.{Put}
use Rattle.forms.specs.Forms.{filled}
use Rattle.trace_text.specs.declared.Line.{Line}
use Rattle.trace_text.specs.Lines.{Reads}
use Rattle.trace_run.specs.declared.Run.{Run}
use Rattle.trace_run.specs.declared.Run.TheVariants.{Before, On, Ended}
use Rattle.trace_run.specs.Run.{Turn, turn, ComesTo}
use Rattle.sentences.specs.Sentences.{sentence}
use Rattle.explaining.specs.declared.Explained.{Explained}

-- ---- the line

-- a byte that is not printable ASCII is shown as ?
unfoldable pub visible : ℕ → ℕ
visible x = cond (leb 32 x && leb x 126) x 63

unfoldable pub visibles : List ℕ → List ℕ
visibles [] = []
visibles (x ∷ xs) = visible x ∷ visibles xs

-- a line of more than 200 bytes is cut
unfoldable pub cut_text : (length : ℕ) → List ℕ
cut_text length = cond (leb length 200) [] (filled (bytes " (cut: the line is longer)") [])

abbrev pub shown_text : List ℕ → List ℕ
shown_text s = visibles (take 200 s) ++ cut_text (length s)

-- ---- the sentence

-- a record of nothing, where a run has no device: only the first line is then read, or none
abbrev pub no_device : Device
no_device =
    record {
      config = new_config 0 0 0 0;
      alignment = 0;
      several = false;
      avail_features = 0;
      placed = false;
      pending = Nothing;
    }

-- the device on which a run stands, or another
unfoldable pub device_in : Run → Device → Device
device_in Before d = d
device_in (On e) d = e
device_in Ended d = d

-- the sentence of a line in a run: of its answer, with the record before and after it; the first line has the same for both
abbrev pub said_of : Run → Option Line → Turn → List ℕ
said_of run line t =
    let after = device_in t.run no_device in
    sentence line (device_in run after) after t.left.blocks t.answer

-- the bytes s read as one line: what that line comes to is given, its answer is put into one buffer, and its sentence into another
pub record Explains (run : Run) (s : List ℕ) (before after : Lent) (out out' said said' : List ℕ) (r : Explained) : Type 0 where
  pub line : Option Line
  pub reads : Reads s line
  pub comes : ComesTo (turn run line) before after out out' r.shown
  pub told : Put said 0 (said_of run line (turn run line (meant before))) said' r.said
