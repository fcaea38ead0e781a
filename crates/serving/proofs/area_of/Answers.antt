-- SPDX-License-Identifier: Apache-2.0 AND BSD-3-Clause
-- `serving::area_of` meets its contract: the block size is 4 MiB.
use native.Mathlib.Omega.{arith}
use Rattle.record.proofs.Laws.{shaped_is}
use Rattle.serving.proofs.area_of.Goals as goal

pub overflow_cast-result : goal.overflow_cast-result
overflow_cast-result c = let shape = shaped_is _ c.args.shaped.shape in omega arith
