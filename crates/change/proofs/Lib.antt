-- SPDX-License-Identifier: Apache-2.0 AND BSD-3-Clause
-- The laws of this crate: those that are public may be cited by any crate above.
pub mod Laws
pub mod Why
mod Ends
pub mod Split
