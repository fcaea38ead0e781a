-- SPDX-License-Identifier: Apache-2.0 AND BSD-3-Clause
-- The record as words, and what words mean (R19.1, R19.2).
use Rattle.std.specs.Prelude.{ℕ, Bool, true, false, cond, ◌&&◌, List, [], ◌∷◌, leb, eqb, length, get_or, Option, Some, None}
use Rattle.little_endian.specs.Bytes.{put}
use Rattle.record.specs.declared.Device.{Device}
use Rattle.record.specs.declared.Pending.{Pending}
use Rattle.record.specs.declared.Pending.TheVariants.{Nothing, Create, Discard, DiscardOne}

-- R19.1: how many words a record is. A field that comes is appended
abbrev pub record_length : ℕ
record_length = 15

-- a flag is 1 or 0
abbrev pub bit : Bool → ℕ
bit flag = cond flag 1 0

-- R19.1: the pending call: its kind; its first row or block; its last row or how many blocks; where its response goes; 0 for what a kind has no use for
abbrev pub pending_words : Pending → List ℕ
pending_words Nothing = 0 ∷ 0 ∷ 0 ∷ 0 ∷ []
pending_words (Create first last) = 1 ∷ first ∷ last ∷ 0 ∷ []
pending_words (Discard first count status) = 2 ∷ first ∷ count ∷ status.0 ∷ []
pending_words (DiscardOne block status) = 3 ∷ block ∷ 0 ∷ status.0 ∷ []

-- R19.1, R3.1: a record, word by word
unfoldable pub words_of : Device → List ℕ
words_of d =
    let c = d.config in
    c.block_size
    ∷ c.node_id
    ∷ c.addr.0
    ∷ c.region_size
    ∷ c.usable_region_size
    ∷ c.plugged_size
    ∷ c.requested_size
    ∷ d.alignment
    ∷ bit d.several
    ∷ d.avail_features
    ∷ bit d.placed
    ∷ pending_words d.pending

-- ---- in part
-- words with what a request may change of a record: the plugged size and the pending call
unfoldable pub after_request : List ℕ → Device → List ℕ
after_request ws d =
    cond (leb record_length (length ws)) (put (put ws 5 (d.config.plugged_size ∷ [])) 11 (pending_words d.pending)) ws

-- and with what a host's answer may change: the usable size and whether the device is placed too
unfoldable pub after_answer : List ℕ → Device → List ℕ
after_answer ws d =
    cond (leb record_length (length ws))
    (put (put ws 4 (d.config.usable_region_size ∷ d.config.plugged_size ∷ [])) 10 (bit d.placed ∷ pending_words d.pending))
    ws

-- ---- and back
-- the flag that a word is, if it is one
abbrev pub flag_of : ℕ → Option Bool
flag_of w = cond (leb w 1) (Some (eqb w 1)) None

-- what four words mean as a pending call
abbrev pub pending_of : (kind first second status : ℕ) → Pending
pending_of kind first second status =
    cond (eqb kind 1) (Create first second)
    (cond (eqb kind 2) (Discard first second (record { 0 = status }))
    (cond (eqb kind 3) (DiscardOne first (record { 0 = status }))
    Nothing))

-- R19.2: a known kind, and 0 in each word that the kind has no use for
abbrev pub pending_fits : (kind first second status : ℕ) → Bool
pending_fits kind first second status =
    cond (eqb kind 0) (eqb first 0 && (eqb second 0 && eqb status 0))
    (cond (eqb kind 1) (eqb status 0)
    (cond (eqb kind 2) true
    (cond (eqb kind 3) (eqb second 0)
    false)))

-- the call that four words mean, where they fit
unfoldable pub pending_call : (kind first second status : ℕ) → Option Pending
pending_call kind first second status =
    cond (pending_fits kind first second status) (Some (pending_of kind first second status)) None

-- the word at a place
abbrev pub word : (ws : List ℕ) (i : ℕ) → ℕ
word ws i = get_or ws i 0

-- R19.2: words begin with a record's: there are as many, the node is a number of 16 bits, the flags are flags, and the pending call fits
unfoldable pub is_record : List ℕ → Bool
is_record ws =
    leb record_length (length ws)
    && (leb (word ws 1) 65535
    && (leb (word ws 8) 1
    && (leb (word ws 10) 1
    && pending_fits (word ws 11) (word ws 12) (word ws 13) (word ws 14))))

-- the record that words begin with
unfoldable pub record_of : List ℕ → Device
record_of ws =
    record {
      config = record {
        block_size = word ws 0;
        node_id = word ws 1;
        addr = record { 0 = word ws 2 };
        region_size = word ws 3;
        usable_region_size = word ws 4;
        plugged_size = word ws 5;
        requested_size = word ws 6;
      };
      alignment = word ws 7;
      several = eqb (word ws 8) 1;
      avail_features = word ws 9;
      placed = eqb (word ws 10) 1;
      pending = pending_of (word ws 11) (word ws 12) (word ws 13) (word ws 14);
    }

-- what words mean: no record where they are no encoding of one
unfoldable pub decoded_of : List ℕ → Option Device
decoded_of ws = cond (is_record ws) (Some (record_of ws)) None
