-- SPDX-License-Identifier: Apache-2.0 AND BSD-3-Clause
-- Each reason of an ERROR has a number from 1 to 11 (R10.17).
use Rattle.std.specs.Prelude.{Ok, Err, Result}
use mathlib.Core.Path.{refl}
use mathlib.Core.Bool.{Bool, true, false, cond}
use native.Mathlib.Omega.{arith}
use Rattle.change.specs.declared.Change.{Change}
use Rattle.change.specs.declared.Reason.{Reason}
use Rattle.change.specs.declared.Reason.TheVariants.{Alignment, ZeroBlocks, Overflow, BelowStart, PastUsable, EndPastUsable, WrongState, CrossesBorder, Unmapped, SumPasses, FailedDiscard}
use Rattle.change.specs.Why.{why, Reasoned}

pub reasoned : (reason : Reason) → Reasoned 3 (why reason)
reasoned Alignment = record { exactly = refl; most = omega arith }
reasoned ZeroBlocks = record { exactly = refl; most = omega arith }
reasoned Overflow = record { exactly = refl; most = omega arith }
reasoned BelowStart = record { exactly = refl; most = omega arith }
reasoned PastUsable = record { exactly = refl; most = omega arith }
reasoned EndPastUsable = record { exactly = refl; most = omega arith }
reasoned WrongState = record { exactly = refl; most = omega arith }
reasoned CrossesBorder = record { exactly = refl; most = omega arith }
reasoned Unmapped = record { exactly = refl; most = omega arith }
reasoned SumPasses = record { exactly = refl; most = omega arith }
reasoned FailedDiscard = record { exactly = refl; most = omega arith }

-- what holds of the reason of a change that is not legal
unfoldable pub Failed : (Reason → Type 0) → Result Change Reason → Type 0
Failed P (Ok change) = Prim.Unit {0}
Failed P (Err reason) = P reason

pub either_failed : (P : Reason → Type 0) (t : Bool) (x y : Result Change Reason) → Failed P x → Failed P y → Failed P (cond t x y)
either_failed P true x y p q = p
either_failed P false x y p q = q

pub change_failed : (x : Result Change Reason) → Failed (λ reason. Reasoned 3 (why reason)) x
unfolding Failed
change_failed (Ok change) = tt
change_failed (Err reason) = reasoned reason
