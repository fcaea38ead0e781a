-- SPDX-License-Identifier: Apache-2.0 AND BSD-3-Clause
-- The specs of `save_runs`, in the order in which to read them.
pub mod Starts
pub mod Round
