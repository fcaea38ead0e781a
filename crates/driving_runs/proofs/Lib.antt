-- SPDX-License-Identifier: Apache-2.0 AND BSD-3-Clause
-- The proofs of `driving_runs`.
pub mod Ready
pub mod Runs
