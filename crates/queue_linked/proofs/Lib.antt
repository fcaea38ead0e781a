-- SPDX-License-Identifier: Apache-2.0 AND BSD-3-Clause
pub mod Steps
pub mod Linked
pub mod Refused
pub mod Contracts
