-- SPDX-License-Identifier: Apache-2.0 AND BSD-3-Clause
-- Demand 3 in every run.
use mathlib.Core.List.{List, [], ◌∷◌}
use Rattle.step.specs.World.{Call}
use Rattle.history.specs.History.{Story, next, after, Demand3}
use Rattle.history.specs.Reached.{Reached, by_call}
use Rattle.history.specs.Good.{Good}
use Rattle.history.proofs.Good.{good_kept, reached_good}

-- demand 3, of every run, restores included; while a host call is pending too
pub demand_3 : (s : Story) → Reached s → Demand3 s.world s.events
demand_3 s r = (reached_good s r).told

-- calls go on from what is reached, and from what is good
pub reached_after : (s : Story) → Reached s → (cs : List Call) → Reached (after s cs)
unfolding after
reached_after s r [] = r
reached_after s r (c ∷ cs) = reached_after (next s c) (by_call r c) cs

pub good_after : (s : Story) → Good s → (cs : List Call) → Good (after s cs)
unfolding after
good_after s g [] = g
good_after s g (c ∷ cs) = good_after (next s c) (good_kept s g c) cs
