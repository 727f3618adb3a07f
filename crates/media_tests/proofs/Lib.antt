pub mod FusedRuns
