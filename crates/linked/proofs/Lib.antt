-- SPDX-License-Identifier: Apache-2.0 AND BSD-3-Clause
pub mod Tables
pub mod Steps
pub mod Linked
pub mod Heard
pub mod Rules
pub mod Refused
pub mod Contracts
pub mod Example
