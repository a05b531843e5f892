pub mod ImageChecks
pub mod UnfoldChecks
pub mod StepChecks
