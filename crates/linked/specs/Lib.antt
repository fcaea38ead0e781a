-- SPDX-License-Identifier: Apache-2.0 AND BSD-3-Clause
pub mod Runs
pub mod Heard
pub mod Rules
pub mod Refused
