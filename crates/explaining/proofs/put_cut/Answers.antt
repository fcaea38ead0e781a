-- SPDX-License-Identifier: Apache-2.0 AND BSD-3-Clause
-- `explaining::put_cut` meets its contract.
use Rattle.explaining.specs.Explaining.{cut_text}
use borrow.Author.Tests.{le-leb, lt-leb}
use Rattle.forms.specs.Forms.{filled_from}
use Rattle.explaining.proofs.put_cut.Goals as goal

pub returns-then-length-le-LONGEST : goal.returns-then-length-le-LONGEST
unfolding cut_text filled_from
returns-then-length-le-LONGEST c = rw (le-leb _ _ c.if-length-le-LONGEST.true) c.put_form_at.ensures

pub returns : goal.returns
unfolding cut_text
returns c = rw (lt-leb _ _ c.if-length-le-LONGEST.false) c.put_form_at-2.ensures
