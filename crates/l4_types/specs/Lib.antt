pub mod Ids
pub mod Inner
pub mod ReportView
pub mod StepView
