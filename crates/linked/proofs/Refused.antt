-- SPDX-License-Identifier: Apache-2.0 AND BSD-3-Clause
-- A refused export changes nothing: the definition's refused call does not, and an export leaves what the definition's call leaves.
use Rattle.record.specs.declared.Device.{Device}
use Rattle.std.specs.Prelude.{Option, Some, None}
use mathlib.Core.Path.{◌≡◌, refl, ap, ◌∙◌}
use mathlib.Core.Bool.{true}
use Rattle.bitmap.proofs.Bytes.{blocks_tell}
use Rattle.rows.specs.Rows.{written}
use Rattle.rows.proofs.Words.{whole}
use Rattle.step.specs.declared.Answer.{Answer}
use Rattle.step.specs.declared.Answer.TheVariants.{Refused, Wants, Sized, Unserved, Served, Done}
use Rattle.record.specs.declared.HostCall.TheVariants.{Create, Discard}
use Rattle.step.specs.Answers.{number_of}
use Rattle.step.specs.World.{World, world_of}
use Rattle.step.specs.Step.{step}
use Rattle.words.specs.Record.{words_of, decoded_of}
use Rattle.words.proofs.Laws.{decoded_encodes}
use Rattle.little_endian.specs.Bytes.{put}
use Rattle.step.specs.Promise.{Lent}
use Rattle.jambcopper.specs.Exports.{Handed, Called}
use Rattle.history.specs.Refusals.{lent_bytes}
use Rattle.history.proofs.Shaped.{clash}
use Rattle.history.proofs.Refusals.{refused_changes_nothing}
use Rattle.linked.specs.Runs.{Function, jambcopper_place, jambcopper_set_requested_size, jambcopper_request, jambcopper_host_answer, jambcopper_read_config, jambcopper_write_config, call_by, call_of}
use Rattle.linked.specs.Refused.{lends_bytes, UseUntouched, RefusedExportChangesNothing}

-- an answer whose number is not 0 is a refusal with it
pub refused_with : (a : Answer) → (number_of a ≡ 0 → ⊥) → a ≡ Refused (number_of a)
refused_with (Refused n) h = refl
refused_with (Wants (Create guest size slot)) h = absurd (h refl)
refused_with (Wants (Discard offset size host)) h = absurd (h refl)
refused_with Sized h = absurd (h refl)
refused_with (Unserved reason) h = absurd (h refl)
refused_with (Served reply) h = absurd (h refl)
refused_with Done h = absurd (h refl)

lent_bytes_lem : (f : Function) (b : Handed) → lends_bytes f ≡ true → lent_bytes (call_by f b.slices) ≡ b.slices.bytes
unfolding lends_bytes lent_bytes call_by
lent_bytes_lem (jambcopper_place start size slots) b e = clash e refl
lent_bytes_lem (jambcopper_set_requested_size mib) b e = clash e refl
lent_bytes_lem (jambcopper_request base descriptors head) b e = refl
lent_bytes_lem (jambcopper_host_answer base ok host) b e = refl
lent_bytes_lem (jambcopper_read_config offset) b e = refl
lent_bytes_lem (jambcopper_write_config offset) b e = refl

pub refused_export_changes_nothing : RefusedExportChangesNothing
unfolding Called
refused_export_changes_nothing u low low' p refused not-10 = go (decoded_of u.before.words) refl p
  where
    go : (r : Option Device) → decoded_of u.before.words ≡ r → Called r (call_by u.function) u.before u.after u.number → UseUntouched u
    go (Some d) is t =
        let w = world_of d u.before.slices.bitmap u.before.slices.table in
        let a = (step w (call_of u)).answer in
        let same = refused_changes_nothing w (call_of u) (number_of a) (refused_with a (λ e. refused (t.numbered ∙ e))) (λ e. not-10 (t.numbered ∙ e)) in
        record {
          same_words = t.recorded ∙ ap (λ (v : World). put u.before.words 0 (words_of v.device)) same.0 ∙ decoded_encodes u.before.words d is;
          same_bitmap = blocks_tell u.after.slices.bitmap u.before.slices.bitmap low' low (t.leaves.marked ∙ ap (λ (v : World). v.blocks) same.0);
          same_table = t.leaves.mapped ∙ ap (λ (v : World). written u.before.slices.table v.rows) same.0 ∙ whole u.before.slices.table;
          same_bytes = λ lends. t.leaves.left ∙ same.1 ∙ lent_bytes_lem u.function u.before lends;
        }
    go None is t =
        record {
          same_words = t.recorded;
          same_bitmap = ap (λ (l : Lent). l.bitmap) t.untouched;
          same_table = ap (λ (l : Lent). l.table) t.untouched;
          same_bytes = λ _. ap (λ (l : Lent). l.bytes) t.untouched;
        }
