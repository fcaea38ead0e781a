-- SPDX-License-Identifier: Apache-2.0 AND BSD-3-Clause
-- What the calls of the guest's side leave in the words that they were lent (R19.6).
use Rattle.std.specs.Prelude.{ℕ, ◌≡◌, Bool, cond, List, [], ◌∷◌, leb, length, Result, Ok, Err}
use Rattle.little_endian.specs.Bytes.{put}
use Rattle.refusal.specs.declared.Refusal.{Refusal}
use Rattle.refusal.specs.Refusal.{code}
use Rattle.wire.specs.declared.VirtioMemResp.{VirtioMemResp}
use Rattle.wire.specs.declared.VirtioMemConfig.{VirtioMemConfig}
use Rattle.driver.specs.declared.Plug.{Plug}
use Rattle.driver.specs.Text.{ReadsResponse, ReadsConfig}
use Rattle.driver.specs.Plan.{Proposal, plan_of}

-- what a call gives: the words of a value, or why it is refused
abbrev pub WordsOrRefusal : Type 0
WordsOrRefusal = Result (List ℕ) Refusal

-- a refused call writes nothing
abbrev pub words_in : WordsOrRefusal → List ℕ → List ℕ
words_in (Ok ws) words = put words 0 ws
words_in (Err why) words = words

-- R19.6: 16 where there is no room for n words, and nothing is written
pub record ToldWords (n : ℕ) (g : WordsOrRefusal) (words words' : List ℕ) (number : ℕ) : Type 0 where
  pub numbered : number ≡ cond (leb n (length words)) (code g) 16
  pub written : words' ≡ cond (leb n (length words)) (words_in g words) words

-- ---- the words of each value
abbrev pub response_words : VirtioMemResp → List ℕ
response_words v = v.resp_type ∷ v.state ∷ []

abbrev pub config_words : VirtioMemConfig → List ℕ
config_words c =
    c.block_size
    ∷ c.node_id
    ∷ c.addr.0
    ∷ c.region_size
    ∷ c.usable_region_size
    ∷ c.plugged_size
    ∷ c.requested_size
    ∷ []

abbrev pub plug_words : Plug → List ℕ
plug_words p = p.addr.0 ∷ p.nb_blocks ∷ []

-- a value is given as its words, a refusal as it is
abbrev pub told_as : {V : Type 0} → (V → List ℕ) → Result V Refusal → WordsOrRefusal
told_as words (Ok v) = Ok (words v)
told_as words (Err why) = Err why

abbrev pub response_gives : Result VirtioMemResp Refusal → WordsOrRefusal
response_gives r = told_as response_words r

abbrev pub config_gives : Result VirtioMemConfig Refusal → WordsOrRefusal
config_gives r = told_as config_words r

abbrev pub proposal_gives : Proposal → WordsOrRefusal
proposal_gives r = told_as plug_words r

-- the number against the bytes comes before those of the planner
abbrev pub plan_gives : Result VirtioMemConfig Refusal → List Bool → WordsOrRefusal
plan_gives (Ok c) bs = proposal_gives (plan_of c bs)
plan_gives (Err why) bs = Err why

-- ---- each call: what the bytes read as, in words
pub record ResponseTold (bytes words words' : List ℕ) (number : ℕ) : Type 0 where
  pub got : Result VirtioMemResp Refusal
  pub reads : ReadsResponse bytes got
  pub told : ToldWords 2 (response_gives got) words words' number

pub record ConfigTold (bytes words words' : List ℕ) (number : ℕ) : Type 0 where
  pub got : Result VirtioMemConfig Refusal
  pub reads : ReadsConfig bytes got
  pub told : ToldWords 7 (config_gives got) words words' number

pub record PlanTold (bytes : List ℕ) (bs : List Bool) (words words' : List ℕ) (number : ℕ) : Type 0 where
  pub got : Result VirtioMemConfig Refusal
  pub reads : ReadsConfig bytes got
  pub told : ToldWords 2 (plan_gives got bs) words words' number
