pub mod Alike
pub mod OneLine
pub mod Parted
