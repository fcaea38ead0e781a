-- SPDX-License-Identifier: Apache-2.0 AND BSD-3-Clause
pub mod Answers
pub mod World
pub mod Step
pub mod Promise
