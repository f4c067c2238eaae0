pub mod Charts
pub mod Pages
