pub mod Ascii
pub mod Items
pub mod Readable
