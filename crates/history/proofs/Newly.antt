-- SPDX-License-Identifier: Apache-2.0 AND BSD-3-Clause
-- Every device that is made is a newly made device in the sense of the runs, so demand 3 holds from making on.
use Rattle.std.specs.Prelude.{Option, Ok}
use Prim.Native.Nat.{ℕ}
use mathlib.Core.Path.{◌≡◌}
use mathlib.Core.Bool.{Bool}
use mathlib.Core.List.{List}
use Rattle.record.specs.declared.Device.{Device}
use Rattle.step.specs.World.{Call}
use Rattle.making.specs.Made.{made}
use Rattle.making.proofs.Newly.{made_new}
use Rattle.history.specs.History.{Fresh, Demand3, after, begun}
use Rattle.history.specs.Reached.{from_making}
use Rattle.history.proofs.Demand3.{demand_3, reached_after}

module _ (capacity requested : ℕ) (several : Bool) (node : Option ℕ) (boot : ℕ) (d : Device) (e : made capacity requested several node boot ≡ Ok d) where
  pub made_fresh : Fresh d
  made_fresh =
      let new = made_new capacity requested several node boot d e in
      record {
        shaped = new.shape;
        unplaced = new.unplaced;
        waits_for_nothing = new.idle;
        nothing_plugged = new.unplugged;
        nothing_usable = new.unusable;
      }

  -- demand 3, from the making of a device on
  pub demand_3_from_making : (cs : List Call) → Demand3 (after (begun d) cs).world (after (begun d) cs).events
  demand_3_from_making cs = demand_3 (after (begun d) cs) (reached_after (begun d) (from_making made_fresh) cs)
