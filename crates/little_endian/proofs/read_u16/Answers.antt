-- SPDX-License-Identifier: Apache-2.0 AND BSD-3-Clause
-- `read_u16` meets its contract: std reads the same number.
use mathlib.Core.Path.{◌∙◌}
use borrow.Author.Rules.{rules}
use Rattle.little_endian.proofs.Laws.{std_reads}
use Rattle.little_endian.proofs.read_u16.Goals as goal

pub returns : goal.returns
returns c = c.from_le_bytes.ensures ∙ std_reads _ 1 (search rules) ∙ c.bytes_at.ensures
