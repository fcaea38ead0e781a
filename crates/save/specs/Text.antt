-- SPDX-License-Identifier: Apache-2.0 AND BSD-3-Clause
-- The text of a save record, and which states have one: one field a line, each ended by one newline, the last too (R15.1, R15.3).
use Rattle.std.specs.Prelude.{ℕ, ◌-◌, ◌≡◌, Bool, true, false, ◌&&◌, List, [], ◌∷◌, ◌++◌, eqb, length}
use Rattle.units.specs.Numbers.{bytes_of, blocks_in}
use Rattle.text.specs.Words.{bytes}
use Rattle.forms.specs.Forms.{filled}
use Rattle.bitmap.specs.Blocks.{ones, all_are}
use Rattle.wire.specs.declared.VirtioMemConfig.{VirtioMemConfig}
use Rattle.record.specs.Shape.{config_shaped_of}
use Rattle.runs.specs.Runs.{runs_of}
use Rattle.runs.specs.Text.{runs_text}
use Rattle.save.specs.declared.Fields.{Fields}

-- ---- the text

-- every form starts with its number
abbrev pub form_line : List ℕ
form_line = bytes "form=#\n"

-- the lines of the fields, by the form's number
abbrev pub field_lines : (form : ℕ) → List ℕ
field_lines form = bytes "start=#\nregion=#\nrequested=#\nusable=#\nplugged=#\n"

-- the numbers in those lines
abbrev pub fields_of : Fields → List ℕ
fields_of f = f.start ∷ f.region ∷ f.requested ∷ f.usable ∷ f.plugged ∷ []

-- the form's number and the fields
abbrev pub head_text : (form : ℕ) → Fields → List ℕ
head_text form f = filled form_line (form ∷ []) ++ filled (field_lines form) (fields_of f)

-- R15.1: the text of the fields f and the blocks bs in this form
unfoldable pub state_text : (form : ℕ) → Fields → List Bool → List ℕ
state_text form f bs = head_text form f ++ runs_text (runs_of bs)

-- ---- which states have one

-- a device's config with these fields
abbrev pub state_config : Fields → VirtioMemConfig
state_config f =
    record {
      block_size = f.block;
      node_id = 0;
      addr = record { 0 = f.start };
      region_size = f.region;
      usable_region_size = f.usable;
      plugged_size = f.plugged;
      requested_size = f.requested;
    }

-- R3.10: the shape of a config alone
abbrev pub shape_ok : Fields → Bool
shape_ok f = config_shaped_of (state_config f)

-- how many blocks the region has, and how many of them are usable
abbrev pub all_of : Fields → ℕ
all_of f = blocks_in f.block f.region

abbrev pub used_of : Fields → ℕ
used_of f = blocks_in f.block f.usable

-- R15.3: the fields are of the shape, no block at or past the usable size is set, and plugged is the block size times the set blocks
unfoldable pub valid_of : Fields → List Bool → Bool
valid_of f bs = shape_ok f && (all_are bs (used_of f) (all_of f - used_of f) false && eqb f.plugged (bytes_of f.block (ones bs)))

-- a state that has a text: bs are the region's blocks
pub record IsState (f : Fields) (bs : List Bool) : Type 0 where
  pub all : length bs ≡ all_of f
  pub valid : valid_of f bs ≡ true

-- s is the text of this state
pub record Says (s : List ℕ) (f : Fields) (bs : List Bool) : Type 0 where
  pub state : IsState f bs
  pub text : state_text 2 f bs ≡ s
