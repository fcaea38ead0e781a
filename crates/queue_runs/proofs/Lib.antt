-- SPDX-License-Identifier: Apache-2.0 AND BSD-3-Clause
pub mod Cases
pub mod Calls
pub mod Order
pub mod Open
pub mod Bytes
pub mod Reports
pub mod Refused
pub mod Writes
pub mod Numbers
pub mod Rules
