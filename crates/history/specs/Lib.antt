-- SPDX-License-Identifier: Apache-2.0 AND BSD-3-Clause
-- The specs of `history`, in the order in which to read them.
pub mod History
pub mod Reached
pub mod Good
pub mod Rules
pub mod Questions
pub mod Refusals
pub mod Promises
pub mod Runs
