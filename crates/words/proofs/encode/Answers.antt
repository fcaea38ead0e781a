-- SPDX-License-Identifier: Apache-2.0 AND BSD-3-Clause
-- `words::encode` meets its contract, word by word.
use Prim.Native.Nat.{ℕ}
use mathlib.Core.Path.{◌≡◌, ap, ◌∙◌}
use mathlib.Core.List.{List, [], ◌∷◌}
use lib.ListN.{get_or}
use Rattle.little_endian.specs.Bytes.{put}
use Rattle.record.specs.declared.Device.{Device}
use Rattle.words.specs.Record.{bit, pending_words, words_of, decoded_of}
use Rattle.words.proofs.Laws.{four, encoded_decodes}
use native.Mathlib.Omega.{arith}
use Rattle.words.proofs.encode.Goals as goal

-- the words that the code lays side by side are the record's
encoded : (d : Device) (ws : List ℕ) (node several placed : ℕ) → node ≡ d.config.node_id → ws ≡ pending_words d.pending → several ≡ bit d.several
    → placed ≡ bit d.placed
    → (d.config.block_size
    ∷ node
    ∷ d.config.addr.0
    ∷ d.config.region_size
    ∷ d.config.usable_region_size
    ∷ d.config.plugged_size
    ∷ d.config.requested_size
    ∷ d.alignment
    ∷ several
    ∷ d.avail_features
    ∷ placed
    ∷ get_or ws 0 0
    ∷ get_or ws 1 0
    ∷ get_or ws 2 0
    ∷ get_or ws 3 0
    ∷ [])
    ≡ words_of d
unfolding words_of
encoded d ws node several placed h e f g = rw (h, e, f, g, four d.pending)

pub returns : goal.returns
returns c =
    let d = c.args.d in
    let ws = c.args.words.now in
    let written =
    c.write_words.ensures
    ∙ ap (put ws 0)
    (encoded d _ _ _ _ c.from.ensures c.pending_words.ensures
    c.bit.ensures
    c.bit-2.ensures) in
    record { words_after = written; words_after_2 = λ room. ap decoded_of written ∙ encoded_decodes d ws (omega arith) room }
