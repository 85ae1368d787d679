pub mod Firsts
pub mod Readable
pub mod Spells
pub mod AsSpelled
