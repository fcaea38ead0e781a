-- SPDX-License-Identifier: Apache-2.0 AND BSD-3-Clause
-- The number and the values of an answer, case by case, as words (R18.2, R19.3): its kind, the number, the question (an address, a size, a slot or host address), the response (type and state), the used length, and the reason: of a chain that is no request (R9.7), or of an ERROR (R10.17).
use Rattle.std.specs.Prelude.{ℕ, List, [], ◌∷◌, get_or}
use Rattle.std.proofs.Math.Option.{Option, some, none}
use Rattle.wire.specs.declared.VirtioMemResp.{VirtioMemResp}
use Rattle.record.specs.declared.HostCall.{HostCall}
use Rattle.record.specs.declared.HostCall.TheVariants.{Create, Discard}
use Rattle.change.specs.Why.{Reasoned}
use Rattle.step.specs.declared.Verdict.{Verdict}
use Rattle.step.specs.declared.Reply.{Reply}
use Rattle.step.specs.declared.Answer.{Answer}
use Rattle.step.specs.declared.Answer.TheVariants.{Refused, Wants, Sized, Unserved, Served, Done}

-- R19.3: how many words an answer is
abbrev pub answer_length : ℕ
answer_length = 9

-- R11.2: a question: creation is kind 1, discard kind 2
abbrev pub question_words : HostCall → List ℕ
question_words (Create guest size slot) = 1 ∷ 0 ∷ guest.0 ∷ size ∷ slot ∷ 0 ∷ 0 ∷ 0 ∷ 0 ∷ []
question_words (Discard offset size host) = 2 ∷ 0 ∷ offset.0 ∷ size ∷ host.0 ∷ 0 ∷ 0 ∷ 0 ∷ 0 ∷ []

-- an answer: 0 for what it has not
abbrev pub answer_words : Answer → List ℕ
answer_words (Refused number) = 0 ∷ number ∷ 0 ∷ 0 ∷ 0 ∷ 0 ∷ 0 ∷ 0 ∷ 0 ∷ []
answer_words (Wants call) = question_words call
answer_words Sized = 3 ∷ 0 ∷ 0 ∷ 0 ∷ 0 ∷ 0 ∷ 0 ∷ 0 ∷ 0 ∷ []
answer_words (Unserved reason) = 4 ∷ 0 ∷ 0 ∷ 0 ∷ 0 ∷ 0 ∷ 0 ∷ 0 ∷ reason ∷ []
answer_words (Served reply) = 5 ∷ 0 ∷ 0 ∷ 0 ∷ 0 ∷ reply.response.resp_type ∷ reply.response.state ∷ reply.used ∷ reply.why ∷ []
answer_words Done = 6 ∷ 0 ∷ 0 ∷ 0 ∷ 0 ∷ 0 ∷ 0 ∷ 0 ∷ 0 ∷ []

-- R1.0: the number of an answer: 0 unless it is refused
abbrev pub number_of : Answer → ℕ
number_of answer = get_or (answer_words answer) 1 0

-- ---- the parts of an answer, each where it has one
unfoldable pub refusal : Answer → Option ℕ
refusal (Refused number) = some number
refusal (Wants call) = none
refusal Sized = none
refusal (Unserved reason) = none
refusal (Served reply) = none
refusal Done = none

unfoldable pub question : Answer → Option HostCall
question (Refused number) = none
question (Wants call) = some call
question Sized = none
question (Unserved reason) = none
question (Served reply) = none
question Done = none

unfoldable pub response : Answer → Option VirtioMemResp
response (Refused number) = none
response (Wants call) = none
response Sized = none
response (Unserved reason) = none
response (Served reply) = some reply.response
response Done = none

-- a request that has ended, by what it came to and its used length
abbrev pub served_with : Verdict → (used : ℕ) → Answer
served_with v used = Served (record { response = v.response; used = used; why = v.why })

-- what is said of a reply, and nothing of any other answer
unfoldable pub OfReply : (Reply → Type 0) → Answer → Type 0
OfReply K (Refused number) = Prim.Unit {0}
OfReply K (Wants call) = Prim.Unit {0}
OfReply K Sized = Prim.Unit {0}
OfReply K (Unserved reason) = Prim.Unit {0}
OfReply K (Served reply) = K reply
OfReply K Done = Prim.Unit {0}

-- R10.18: a response has reason 0 exactly if its type is not ERROR, and 1 to 11 otherwise
abbrev pub SaysWhy : Answer → Type 0
SaysWhy answer = OfReply (λ reply. Reasoned reply.response.resp_type reply.why) answer
