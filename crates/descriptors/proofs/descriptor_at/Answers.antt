-- SPDX-License-Identifier: Apache-2.0 AND BSD-3-Clause
-- `descriptors::descriptor_at` meets its contract: each field is what is read at its offset.
use Rattle.descriptors.specs.Standard.{descriptor_at}
use Rattle.descriptors.proofs.descriptor_at.Goals as goal

pub returns : goal.returns
unfolding descriptor_at
returns c = cc
