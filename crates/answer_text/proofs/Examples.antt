-- SPDX-License-Identifier: Apache-2.0 AND BSD-3-Clause
-- A line of the whole example (R12.12), by computation.
use mathlib.Core.Path.{◌≡◌}
use lib.Dec.{lit<}
use Rattle.text.specs.Words.{bytes}
use Rattle.text.specs.Decimal.{spell}
use Rattle.text.proofs.Laws.{decimal-20}
use Rattle.forms.specs.Forms.{filled_from}
use Rattle.answer_text.specs.Texts.{sized_text}

sized : sized_text 16777216 268435456 ≡ bytes "sized=0 requested=16777216 usable=268435456"
unfolding spell filled_from
sized = rw (decimal-20 16777216 (lit< tt), decimal-20 268435456 (lit< tt))
