-- SPDX-License-Identifier: Apache-2.0 AND BSD-3-Clause
-- The proofs of `in_parts`.
pub mod Granted
pub mod Asking
pub mod InParts
pub mod Raising
pub mod Example
