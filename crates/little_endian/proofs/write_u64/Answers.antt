-- SPDX-License-Identifier: Apache-2.0 AND BSD-3-Clause
-- `write_u64` meets its contract: std makes the same bytes.
use mathlib.Core.Path.{ap, ◌∙◌}
use Rattle.little_endian.specs.Bytes.{put}
use Rattle.little_endian.proofs.Laws.{std_writes}
use Rattle.little_endian.proofs.write_u64.Goals as goal

pub returns : goal.returns
returns c =
    let a = c.args in
    c.put_at.ensures ∙ ap (put a.bytes.now a.at) (c.to_le_bytes.ensures ∙ std_writes 8 a.v)
