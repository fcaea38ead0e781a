-- SPDX-License-Identifier: Apache-2.0 AND BSD-3-Clause
-- The specs of `standard`, in the order in which to read them.
pub mod Config
pub mod Requests
pub mod Runs
