-- SPDX-License-Identifier: Apache-2.0 AND BSD-3-Clause
-- `saving::fits_on` meets its contract: where all else fits, its bits decide.
use Rattle.saving.proofs.Turns.{all_clear}
use Rattle.saving.proofs.fits_on.Goals as goal

pub returns-then-c-eq0 : goal.returns-then-c-eq0
returns-then-c-eq0 c =
    let fits = c.if-c-eq0.true in
    all_clear c.args.d _ c.args.f fits.0 fits.1 fits.2 fits.3 fits.4 _ c.blocks_in-all.ensures _ c.all_in_state.ensures
