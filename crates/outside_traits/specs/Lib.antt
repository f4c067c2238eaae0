pub mod Causes
pub mod Puts
pub mod Gathers
pub mod Files
