-- SPDX-License-Identifier: Apache-2.0 AND BSD-3-Clause
-- The measure of `text::put_number` is the number.
use Rattle.text.proofs.+put_number.Given as goal

abbrev pub decreases-put_number : goal.decreases-put_number
decreases-put_number l = l.n
