-- SPDX-License-Identifier: Apache-2.0 AND BSD-3-Clause
-- `jambcopper::jambcopper_read_config` meets its contract: 12 where there is no record, else the device's call, which leaves the record as it is.
use Rattle.step.specs.declared.Answer.TheVariants.{Refused}
use Rattle.jambcopper.proofs.Ways.{foreign, served, unwritten, untold, read_keeps}
use Rattle.jambcopper.proofs.jambcopper_read_config.Goals as goal

pub returns-in_default : goal.returns-in_default
returns-in_default c = foreign _ _ _ c.decode.ensures c.in_default.is _ c.number.ensures (untold (Refused 12))

pub returns : goal.returns
returns c =
    let is = c.decode.ensures in
    let known = c.in-Some.is in
    let call = c.read_config-s in
    let met = call.ensures in
    served _ _ _ is known met
    (unwritten _ is known met.recorded (read_keeps _ _ _))
    (c.number_of.ensures, untold call.result.answer)
