-- SPDX-License-Identifier: Apache-2.0 AND BSD-3-Clause
-- `jambcopper::jambcopper_place` meets its contract: 12 where there is no record, else the device's call.
use Rattle.jambcopper.proofs.Ways.{foreign, served}
use Rattle.jambcopper.proofs.jambcopper_place.Goals as goal

pub returns-in_default : goal.returns-in_default
returns-in_default c = foreign _ _ _ c.decode.ensures c.in_default.is _ c.tell_refused.ensures.value c.tell_refused.ensures.words_after

pub returns : goal.returns
returns c =
    served _ _ _ c.decode.ensures c.in-Some.is
    c.place-s.ensures
    (c.encode.ensures.words_after, c.encode.ensures.words_after_2)
    (c.tell.ensures.value, c.tell.ensures.words_after)
