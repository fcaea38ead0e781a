-- SPDX-License-Identifier: Apache-2.0 AND BSD-3-Clause
-- The rules of a good story, in every run.
use Rattle.history.specs.Rules.{KeepsShape, Never12, Never9Or10, DiscardIsCounted, WholeOrNotAtAll, AsksWhatIsDue}
use Rattle.history.specs.Questions.{OnlyOpenUnplugsDiscard}
use Rattle.history.specs.Runs.{RulesInRuns}
use Rattle.history.proofs.Good.{in_every_run}
use Rattle.history.proofs.Demand3.{demand_3}
use Rattle.history.proofs.KeepsShape.{keeps_shape}
use Rattle.history.proofs.Sizes.{never_12, discard_is_counted}
use Rattle.history.proofs.Backed.{never_9_or_10}
use Rattle.history.proofs.Whole.{whole_or_not_at_all}
use Rattle.history.proofs.HostCalls.{asks_what_is_due}
use Rattle.history.proofs.Questions.{only_open_unplugs_discard}

pub rules_in_runs : RulesInRuns
rules_in_runs =
    record {
      demand_3 = demand_3;
      keeps_shape = in_every_run KeepsShape keeps_shape;
      never_12 = in_every_run Never12 never_12;
      never_9_or_10 = in_every_run Never9Or10 never_9_or_10;
      discard_is_counted = in_every_run DiscardIsCounted discard_is_counted;
      whole_or_not_at_all = in_every_run WholeOrNotAtAll whole_or_not_at_all;
      asks_what_is_due = in_every_run AsksWhatIsDue asks_what_is_due;
      only_open_unplugs_discard = in_every_run OnlyOpenUnplugsDiscard only_open_unplugs_discard;
    }
