-- SPDX-License-Identifier: Apache-2.0 AND BSD-3-Clause
-- `sentences::put_sentence` meets its contract: a size change is told with the record after the line, and a chain that is no request by
-- the number of its reason.
use Rattle.sentences.specs.Sentences.{sentence}
use Rattle.sentences.proofs.put_sentence.Goals as goal

pub returns-in-Sized : goal.returns-in-Sized
unfolding sentence
returns-in-Sized c = rw c.in-Sized.is c.put_sized.ensures

pub returns-in-Unserved : goal.returns-in-Unserved
unfolding sentence
returns-in-Unserved c = rw c.in-Unserved.is c.put_form_at.ensures
