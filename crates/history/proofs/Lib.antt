-- SPDX-License-Identifier: Apache-2.0 AND BSD-3-Clause
-- The proofs of `history`.
pub mod Shaped
pub mod Cases
pub mod Invariant
pub mod Restored
pub mod Observer
pub mod Calls
pub mod KeepsShape
pub mod Keeps
pub mod Due
pub mod Inside
pub mod Memory
pub mod Good
pub mod Backed
pub mod Demand3
pub mod Sizes
pub mod SizeChange
pub mod Whole
pub mod HostCalls
pub mod Questions
pub mod Refusals
pub mod Runs
pub mod Example
pub mod Newly
