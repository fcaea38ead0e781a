-- SPDX-License-Identifier: Apache-2.0 AND BSD-3-Clause
-- A refusal's number is its place among the variants, from 1 on, and tells it.
use Rattle.std.specs.Prelude.{ℕ, ◌+◌, ◌-◌, ◌≡◌, [], ◌∷◌, get_or}
use mathlib.Core.Path.{refl, ap, sym, ◌∙◌}
use denote.Enum.Declared.{tag_of}
use Rattle.refusal.specs.contracts.Refusal.{the_type}
use Rattle.refusal.specs.declared.Refusal.{Refusal}
use Rattle.refusal.specs.declared.Refusal.TheVariants.{WrongSize, CapacityTooLarge, WrongRange, WrongStart, NotPlaced, AlreadyPlaced, CallPending, NothingPending, HostPastTop, CreationFailed, TooShort, NoShape, BadLine, RingOutside, RingOverfull, BadBytes, NothingToPlug, NoState, LaterForm}
use Rattle.refusal.specs.Refusal.{number}

pub numbered : (r : Refusal) → tag_of the_type r + 1 ≡ number r
numbered WrongSize = refl
numbered CapacityTooLarge = refl
numbered WrongRange = refl
numbered WrongStart = refl
numbered NotPlaced = refl
numbered AlreadyPlaced = refl
numbered CallPending = refl
numbered NothingPending = refl
numbered HostPastTop = refl
numbered CreationFailed = refl
numbered TooShort = refl
numbered NoShape = refl
numbered BadLine = refl
numbered RingOutside = refl
numbered RingOverfull = refl
numbered BadBytes = refl
numbered NothingToPlug = refl
numbered NoState = refl
numbered LaterForm = refl

-- the refusal with a number, and no other has it
refusal_of : ℕ → Refusal
refusal_of n =
    get_or (WrongSize ∷ CapacityTooLarge ∷ WrongRange ∷ WrongStart ∷ NotPlaced ∷ AlreadyPlaced ∷ CallPending ∷ NothingPending ∷ HostPastTop ∷ CreationFailed ∷ TooShort ∷ NoShape ∷ BadLine ∷ RingOutside ∷ RingOverfull ∷ BadBytes ∷ NothingToPlug ∷ NoState ∷ LaterForm ∷ []) (n - 1) LaterForm

back : (r : Refusal) → refusal_of (number r) ≡ r
unfolding refusal_of
back WrongSize = refl
back CapacityTooLarge = refl
back WrongRange = refl
back WrongStart = refl
back NotPlaced = refl
back AlreadyPlaced = refl
back CallPending = refl
back NothingPending = refl
back HostPastTop = refl
back CreationFailed = refl
back TooShort = refl
back NoShape = refl
back BadLine = refl
back RingOutside = refl
back RingOverfull = refl
back BadBytes = refl
back NothingToPlug = refl
back NoState = refl
back LaterForm = refl

pub numbers_tell : (a b : Refusal) → number a ≡ number b → a ≡ b
numbers_tell a b e = sym (back a) ∙ ap refusal_of e ∙ back b
