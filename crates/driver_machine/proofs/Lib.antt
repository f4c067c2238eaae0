pub mod Measure
pub mod DueFacts
pub mod Falls
pub mod Frame
pub mod KindStays
pub mod Until
pub mod Dues
pub mod Frames
