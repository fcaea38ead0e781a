-- SPDX-License-Identifier: Apache-2.0 AND BSD-3-Clause
-- The proofs of `standard`.
pub mod Config
pub mod Memory
pub mod Requests
pub mod EveryCall
pub mod Responses
pub mod Changed
pub mod Runs
pub mod Framing
