-- SPDX-License-Identifier: Apache-2.0 AND BSD-3-Clause
-- `copy` meets its contract: as many bytes as both have are written.
use mathlib.Core.Path.{sym}
use Rattle.little_endian.proofs.Laws.{put_start}
use Rattle.little_endian.proofs.copy.Goals as goal

pub returns : goal.returns
returns c =
    let n = c.min-n.result in
    let xs = c.args.bytes.now in
    let ys = c.args.what.now in
    rw (c.copy_from_slice.ensures.after, c.min-n.ensures) (sym (put_start xs ys))
