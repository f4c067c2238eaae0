pub mod CountLaws
pub mod SumLaws
pub mod BlockLaws
pub mod ClassLaws
pub mod FillLaws
pub mod TextLaws
