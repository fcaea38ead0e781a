-- SPDX-License-Identifier: Apache-2.0 AND BSD-3-Clause
-- A line of the whole example (R12.12), by computation.
use mathlib.Core.Path.{◌≡◌}
use lib.Dec.{lit<}
use Rattle.text.specs.Words.{bytes}
use Rattle.text.specs.Decimal.{spell}
use Rattle.text.proofs.Laws.{decimal-20}
use Rattle.forms.specs.Forms.{filled_from}
use Rattle.trace_text.specs.declared.Op.TheVariants.{Range}
use Rattle.trace_text.specs.declared.RangeOp.TheVariants.{Plug}
use Rattle.trace_text.specs.declared.Line.TheVariants.{Later}
use Rattle.trace_text.specs.Lines.{text_of}

plug : text_of (Later (Range Plug (record { 0 = 4294967296 }) 2)) ≡ bytes "op=plug addr=4294967296 blocks=2"
unfolding spell filled_from
plug = rw (decimal-20 4294967296 (lit< tt), decimal-20 2 (lit< tt))
