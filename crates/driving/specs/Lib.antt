-- SPDX-License-Identifier: Apache-2.0 AND BSD-3-Clause
-- The specs of `driving`, in the order in which to read them.
pub mod Sound
pub mod Chain
