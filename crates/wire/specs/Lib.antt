-- SPDX-License-Identifier: Apache-2.0 AND BSD-3-Clause
-- The definitions of this crate, in the order in which to read them.
pub mod Layout
pub mod Standard
pub mod Types
