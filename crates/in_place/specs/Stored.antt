-- SPDX-License-Identifier: Apache-2.0 AND BSD-3-Clause
-- What an entry that changes a lent record where it stands gives: the record as it is stored, with the answer.
use Rattle.record.specs.declared.Device.{Device}
use Rattle.step.specs.declared.Answer.{Answer}
use Rattle.step.specs.declared.Answered.{Answered}

abbrev pub answering : Device → Answer → Answered
answering d answer = record { device = d; answer = answer }
