pub mod Counts
mod Heads
mod Reaching
mod Seeks
mod Walking
