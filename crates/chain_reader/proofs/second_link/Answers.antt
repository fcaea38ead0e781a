-- SPDX-License-Identifier: Apache-2.0 AND BSD-3-Clause
-- `chain_reader::second_link` meets its contract: where the reader goes on is where the device's parse goes on.
use Rattle.descriptors.specs.Descriptors.{link_at}
use Rattle.chain_reader.specs.Reader.{second_link}
use Rattle.chain_reader.proofs.Laws.{link_behind_lem}
use Rattle.chain_reader.proofs.second_link.Goals as goal

pub returns : goal.returns
unfolding second_link
returns c =
    let a = c.args in
    let e = link_behind_lem a.mem.now a.base.0 a.descriptors.0 (link_at a.mem.now a.base.0 a.descriptors.0 a.head) in
    cc (e, c.current.ensures, c.advanced.ensures.0, c.advanced.ensures.1, c.advanced.ensures.2, c.advanced.ensures.3, c.new.ensures.0, c.new.ensures.1, c.new.ensures.2, c.new.ensures.3)
