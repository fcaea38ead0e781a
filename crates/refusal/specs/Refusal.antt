-- SPDX-License-Identifier: Apache-2.0 AND BSD-3-Clause
-- The numbers of the refusals (R1).
use Rattle.std.specs.Prelude.{ℕ, Result, Ok, Err}
use Rattle.refusal.specs.declared.Refusal.{Refusal}
use Rattle.refusal.specs.declared.Refusal.TheVariants.{WrongSize, CapacityTooLarge, WrongRange, WrongStart, NotPlaced, AlreadyPlaced, CallPending, NothingPending, HostPastTop, CreationFailed, TooShort, NoShape, BadLine, RingOutside, RingOverfull, BadBytes, NothingToPlug, NoState, LaterForm}

-- rule R1.n gives the number n
abbrev pub number : Refusal → ℕ
number WrongSize = 1
number CapacityTooLarge = 2
number WrongRange = 3
number WrongStart = 4
number NotPlaced = 5
number AlreadyPlaced = 6
number CallPending = 7
number NothingPending = 8
number HostPastTop = 9
number CreationFailed = 10
number TooShort = 11
number NoShape = 12
number BadLine = 13
number RingOutside = 14
number RingOverfull = 15
number BadBytes = 16
number NothingToPlug = 17
number NoState = 18
number LaterForm = 19

-- R1.0: done is 0, and a refused call is told by its number
abbrev pub code : {A : Type 0} → Result A Refusal → ℕ
code (Ok x) = 0
code (Err r) = number r
