-- What the program's functions say of what they read and write.
pub mod Input
pub mod Output
