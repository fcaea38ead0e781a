-- SPDX-License-Identifier: Apache-2.0 AND BSD-3-Clause
-- `form_of` meets its contract: where no line has the key there is no form.
use native.Mathlib.Omega.{arith}
use Rattle.test_support.proofs.form_of.Goals as goal

pub returns-in-None : goal.returns-in-None
returns-in-None c = omega arith
