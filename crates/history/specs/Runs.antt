-- SPDX-License-Identifier: Apache-2.0 AND BSD-3-Clause
-- The rules of every run, from a newly made device on and over restores: demand 3, and each rule of a good story.
use Rattle.history.specs.History.{Story, Demand3}
use Rattle.history.specs.Reached.{Reached}
use Rattle.history.specs.Rules.{InEveryRun, KeepsShape, Never12, Never9Or10, DiscardIsCounted, WholeOrNotAtAll, AsksWhatIsDue}
use Rattle.history.specs.Questions.{OnlyOpenUnplugsDiscard}

pub record RulesInRuns : Type 0 where
  pub demand_3 : (s : Story) → Reached s → Demand3 s.world s.events
  pub keeps_shape : InEveryRun KeepsShape
  pub never_12 : InEveryRun Never12
  pub never_9_or_10 : InEveryRun Never9Or10
  pub discard_is_counted : InEveryRun DiscardIsCounted
  pub whole_or_not_at_all : InEveryRun WholeOrNotAtAll
  pub asks_what_is_due : InEveryRun AsksWhatIsDue
  pub only_open_unplugs_discard : InEveryRun OnlyOpenUnplugsDiscard
