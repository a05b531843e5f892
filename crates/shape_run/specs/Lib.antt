pub mod WayRun
