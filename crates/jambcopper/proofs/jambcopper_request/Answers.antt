-- SPDX-License-Identifier: Apache-2.0 AND BSD-3-Clause
-- `jambcopper::jambcopper_request` meets its contract: 12 where there is no record, else the device's call.
use Rattle.jambcopper.proofs.Ways.{foreign, served, request_written}
use Rattle.step.proofs.Kept.{request_changes}
use Rattle.jambcopper.proofs.jambcopper_request.Goals as goal

pub returns-in_default : goal.returns-in_default
returns-in_default c = foreign _ _ _ c.decode.ensures c.in_default.is _ c.tell_refused.ensures.value c.tell_refused.ensures.words_after

pub returns : goal.returns
returns c =
    let is = c.decode.ensures in
    let known = c.in-Some.is in
    let met = c.request-s.ensures in
    served _ _ _ is known met
    (request_written _ is known met.recorded (request_changes _ _ _ _) c.encode_request.ensures)
    (c.tell.ensures.value, c.tell.ensures.words_after)
