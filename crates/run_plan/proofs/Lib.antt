pub mod BarLaws
pub mod FigureLaws
