-- SPDX-License-Identifier: Apache-2.0 AND BSD-3-Clause
-- `driver_words::tell_plan` meets its contract: what is told is the words of what was planned, or a refusal.
use Rattle.std.specs.Prelude.{Ok, Err}
use Rattle.std.proofs.Common.{◌≡◌, rules, refl}
use Rattle.refusal.specs.declared.Refusal.TheVariants.{BadBytes}
use Rattle.bitmap.specs.Blocks.{blocks}
use Rattle.driver_words.specs.Told.{plug_words, plan_gives}
use native.Mathlib.Omega.{arith}
use Rattle.driver_words.proofs.Laws.{told_by, no_text, no_room}
use Rattle.driver_words.proofs.tell_plan.Goals as goal

pub returns-in_err-c : goal.returns-in_err-c
returns-in_err-c c =
    let why = c.in_err-c.field-0.0 in
    let gave : c.from_residual.result ≡ Err why = search rules in
    let known : why ≡ BadBytes = c.in_err-c.ensures.refused why refl in
    record { got = Err why; reads = c.in_err-c.ensures; told = rw (gave, known) (no_text 2 c.args.words.now) }

pub returns-then-lacks_room : goal.returns-then-lacks_room
returns-then-lacks_room c =
    let read = c.in_ok-c.c in
    record { got = Ok read; reads = c.in_ok-c.ensures; told = no_room 2 _ c.args.words.now (omega arith) }

pub returns : goal.returns
returns c =
    let read = c.in_ok-c.c in
    let planned = c.plan.ensures in
    let told : c.map.result ≡ plan_gives (Ok read) (blocks c.args.bitmap.now) = rw planned at (told_by plug_words _ _ c.map.ensures.cases) in
    record { got = Ok read; reads = c.in_ok-c.ensures; told = rw told at c.tell.ensures }
