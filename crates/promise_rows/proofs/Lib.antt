mod Playing
mod Naming
mod Headers
mod Others
mod Strikes
mod Stopping
mod Commands
mod Texts
mod Raw
mod Cache
mod Cached
mod Shown
mod Waited
pub mod Saying
