-- SPDX-License-Identifier: Apache-2.0 AND BSD-3-Clause
pub mod Laws
pub mod Kept
pub mod Mapped
pub mod Entry
pub mod InTable
pub mod Behind
pub mod Edges
pub mod Once
pub mod Served
pub mod Giving
