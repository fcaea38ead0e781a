-- SPDX-License-Identifier: Apache-2.0 AND BSD-3-Clause
-- The proofs of `driving`.
pub mod Legal
pub mod Acks
pub mod Exact
pub mod Settles
pub mod Held
pub mod ReadBack
