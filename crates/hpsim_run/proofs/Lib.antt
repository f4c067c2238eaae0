mod CachedRuns
mod CommandLaws
