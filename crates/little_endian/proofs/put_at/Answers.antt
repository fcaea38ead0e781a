-- SPDX-License-Identifier: Apache-2.0 AND BSD-3-Clause
-- `put_at` meets its contract: the bytes are written where all have a place, and as many as have one where not.
use Prim.Native.Nat.{ℕ, ◌+◌, ◌-◌, ◌≤◌}
use mathlib.Core.Path.{◌≡◌, sym}
use mathlib.Core.List.{List, append_assoc}
use native.Mathlib.Omega.{arith}
use borrow.Author.Rules.{rules}
use borrow.Rule.Slice.PartMut.{put_mid}
use lib.ListN.{length, take, drop, length-drop}
use lib.Seq.{drop-drop, take_all}
use Rattle.little_endian.specs.Bytes.{put}
use Rattle.little_endian.proofs.Laws.{put_fits, put_rest, put_past}
use Rattle.little_endian.proofs.put_at.Goals as goal

fits : (xs ys : List ℕ) (at n : ℕ) → length ys ≡ n → at + n ≤ length xs → put_mid at (at + n - at) xs ys ≡ put xs at ys
fits xs ys at n l h =
    let e : at + n - at ≡ length ys = omega arith in
    rw (e, put_fits xs at ys (omega arith), append_assoc, drop-drop (length ys) at xs)

pub returns-then-at-places : goal.returns-then-at-places
returns-then-at-places g c =
    let a = c.args in
    let long : length a.number ≡ g.row.N = search rules in
    let room : a.at + g.row.N ≤ length a.bytes.now = omega (arith, c.places.ensures) in
    rw c.copy_from_slice.ensures.after (fits a.bytes.now a.number a.at g.row.N long room)

pub returns-then-at-bytes : goal.returns-then-at-bytes
returns-then-at-bytes g c =
    let a = c.args in
    let all : take (length a.bytes.now - a.at) (drop a.at a.bytes.now) ≡ drop a.at a.bytes.now =
    take_all (length a.bytes.now - a.at) (drop a.at a.bytes.now) (omega (arith, length-drop a.at a.bytes.now)) in
    rw (c.copy.ensures, all) (put_rest a.bytes.now a.number a.at)

pub returns-else-at-bytes : goal.returns-else-at-bytes
returns-else-at-bytes g c = sym (put_past c.args.bytes.now c.args.at c.args.number c.if-at-bytes.false)
