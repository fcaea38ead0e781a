-- SPDX-License-Identifier: Apache-2.0 AND BSD-3-Clause
-- The proofs of `save_runs`.
pub mod Plugs
pub mod Starts
pub mod Round
