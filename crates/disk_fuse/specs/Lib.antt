pub mod Fuse
pub mod FuseMedia
