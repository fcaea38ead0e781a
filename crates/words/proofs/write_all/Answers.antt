-- SPDX-License-Identifier: Apache-2.0 AND BSD-3-Clause
-- `words::write_all` meets its contract: with room for all, what is behind them stays.
use Prim.Native.Nat.{min}
use mathlib.Core.Path.{◌≡◌, sym}
use native.Mathlib.Omega.{arith}
use borrow.Author.Rules.{rules}
use lib.ListN.{length, take}
use lib.Seq.{take_all}
use Rattle.little_endian.proofs.Laws.{put_start}
use Rattle.words.proofs.write_all.Goals as goal

pub returns-else-words : goal.returns-else-words
returns-else-words g c =
    let xs = c.args.words.now in
    let ys = c.args.all in
    let long : length ys ≡ g.row.N = search rules in
    let e : min (length xs) (length ys) ≡ g.row.N = omega arith in
    let whole : take g.row.N ys ≡ ys = take_all g.row.N ys (omega arith) in
    rw c.copy_from_slice.ensures.after (sym (rw (e, whole) at (put_start xs ys)))
