mod ToolLaws
mod FormatLaws
mod WordLaws
